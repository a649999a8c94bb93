-- No checkpoint that a run saves is longer than one that is read.
use Rattle.std.proofs.Common.{arith, ◌≡◌, ℕ, ◌*◌, ◌/◌, ◌≤◌, false, List, [], ◌∷◌, length, drop, None, All}
use Rattle.std.proofs.lemmas.List.Elements.{All-head}
use Rattle.std.proofs.lemmas.Nat.{mul-le}
use Rattle.glass_edges.proofs.FirstRefusals.{or-none, unless-ok}
use Rattle.plane_sweep.specs.Uneven.{RaggedStandFits}
use Rattle.plane_sweep.specs.declared.uneven.RaggedStand.{RaggedStand}
use Rattle.run_checkpoint.specs.BankDecoding.{other_banks, banks_form, banks_refusal, banks_in}
use Rattle.run_checkpoint.specs.BankEncoding.{banks_kind, banks_encoding, bank_len, banks_len, banks_parts, AreBanks}
use Rattle.run_checkpoint.specs.Encoding.{encoding, AreBankStates}
use Rattle.run_checkpoint.specs.Lengths.{plane_len, replica_len, slot_len, contents_len, encoding_len, uneven_len}
use Rattle.run_checkpoint.specs.Tests.{short, other_kind, other_length, damaged}
use Rattle.run_checkpoint.specs.declared.kinds.Kind.TheVariants as kinds
use Rattle.run_checkpoint.proofs.OneEncoding.{length-encoding}
use Rattle.run_checkpoint.proofs.Tested.{length-is}
use Rattle.run_checkpoint.proofs.UnevenForm.{kind-length, few-records}
use Rattle.scalar_rule.specs.Plan.{Plan, IsLawfulPlan, slots_of}
use Rattle.run_plan.specs.declared.run_file.Orders.{Orders}
use Rattle.scalar_rule.specs.declared.sample.Sample.{Sample}
use Rattle.scalar_rule.specs.declared.sample.Start.TheVariants.{Up}
use Rattle.spin_model.specs.Lattice.{half_plane}
use Rattle.run_laws.specs.LengthLaws.{IsReadWhole, SavedCheckpointsAreShort}
use Rattle.glass_main.specs.ManyBanks.{PlannedBanks, banks_resumed_by}
use Rattle.glass_main.specs.ResumeLaws.{AreBankPlans}
use Rattle.glass_main.specs.Stops.{stopped_checkpoint}
use Rattle.glass_main.specs.declared.planned.Planned.{Planned}
use Rattle.glass_main.proofs.ReadRuns.{saved-banks-read}

-- ---- the parts of the greatest lattice with the most slots

half-upto : (l : ℕ) → l ≤ 64 → half_plane l ≤ 2048
half-upto l small = mul-le l (l / 2) 64 32 small (omega arith)

plane-upto : (l : ℕ) → l ≤ 64 → plane_len l ≤ 16628
unfolding plane_len
plane-upto l small = let half = half-upto l small in omega arith

replica-upto : (l : ℕ) → l ≤ 64 → replica_len l ≤ 2128448
unfolding replica_len
replica-upto l small = let planes = mul-le (plane_len l) (2 * l) 16628 128 (plane-upto l small) (omega arith) in omega arith

slot-upto : (l : ℕ) → l ≤ 64 → slot_len l ≤ 4256896
unfolding slot_len
slot-upto l small = let replica = replica-upto l small in omega arith

contents-upto : (l n : ℕ) → l ≤ 64 → n ≤ 32 → contents_len l n ≤ 136235800
unfolding contents_len
contents-upto l n small few = let slots = mul-le (slot_len l) n 4256896 32 (slot-upto l small) few in omega arith

encoding-upto : (l n : ℕ) → l ≤ 64 → n ≤ 32 → encoding_len l n ≤ 136235888
unfolding encoding_len
encoding-upto l n small few = let contents = contents-upto l n small few in omega arith

uneven-upto : (l n count : ℕ) → l ≤ 64 → n ≤ 32 → count ≤ 65536 → uneven_len l n count ≤ 137153688
unfolding uneven_len
uneven-upto l n count small few records = let contents = contents-upto l n small few in omega arith

-- ---- the three kinds

level-short : (plan : Plan) (states : ℕ → Sample) → IsLawfulPlan plan → AreBankStates plan states → IsReadWhole (encoding plan states)
level-short plan states lawful are =
    let long = length-encoding plan states lawful are in
    let upto = encoding-upto plan.size (slots_of plan) lawful.size.1 lawful.rules.few in
    omega arith

stopped-short : (planned : Planned) (came : RaggedStand) → IsLawfulPlan planned.plan → RaggedStandFits planned.plan planned.orders.samples planned.orders.every came
    → IsReadWhole (stopped_checkpoint planned came)
stopped-short planned came lawful fits =
    let plan = planned.plan in
    let o = planned.orders in
    let long = kind-length (kinds.Uneven o.samples o.every) plan came lawful fits in
    let upto = uneven-upto plan.size (slots_of plan) (length came.pending) lawful.size.1 lawful.rules.few (few-records plan o.samples o.every came lawful fits) in
    omega arith

-- bytes that are not refused are as long as they should be
banks-long : (plans : List Plan) (until : ℕ) (bytes : List ℕ) → None ≡ banks_refusal plans until bytes → length bytes ≡ banks_len plans
unfolding banks_refusal banks_form
banks-long plans until bytes none =
    let form = or-none (banks_form plans bytes) _ none in
    let a = or-none (short 44 bytes) _ form.0 in
    let b = or-none (other_kind banks_kind bytes) _ a.1 in
    let c = or-none (other_banks (length plans) bytes) _ b.1 in
    let d = or-none (other_length (banks_len plans) bytes) (damaged bytes) c.1 in
    length-is (banks_len plans) bytes d.0

bank-upto : (plans : List Plan) → All IsLawfulPlan plans → bank_len plans ≤ 136235888
unfolding bank_len
bank-upto [] lawful = omega arith
bank-upto (plan ∷ plans) lawful =
    let first = All-head IsLawfulPlan plan plans lawful in
    encoding-upto plan.size (slots_of plan) first.size.1 first.rules.few

banks-short : (planned : PlannedBanks) (epoch : ℕ) (states : List (ℕ → Sample)) → AreBankPlans planned.plans → AreBanks epoch planned.plans states → IsReadWhole (banks_encoding planned.plans states)
unfolding banks_resumed_by
banks-short planned epoch states lawful are =
    let plans = planned.plans in
    let bytes = banks_encoding plans states in
    let read = saved-banks-read planned epoch epoch states lawful are (omega arith) in
    let none = unless-ok (banks_refusal plans epoch bytes) (banks_parts plans (banks_in (bank_len plans) plans (drop 12 bytes))) read.starts read.read in
    let long = banks-long plans epoch bytes none.0 in
    let upto = mul-le (bank_len plans) (length plans) 136235888 4 (bank-upto plans lawful.lawful) lawful.few in
    omega arith

-- the orders have no part in it
any-orders : Orders
any-orders = record { samples = 1; epochs = 0; every = 1; start = Up; spins = false }

pub saved-short : SavedCheckpointsAreShort
saved-short = record {
  level = λ plan states lawful are. level-short plan states lawful are;
  stopped = λ planned came lawful fits. stopped-short planned came lawful fits;
  banks = λ epoch plans states lawful are. banks-short (record { plans = plans; orders = any-orders }) epoch states lawful are;
}
