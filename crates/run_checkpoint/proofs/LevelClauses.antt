-- The clauses of the reader of a checkpoint at one epoch.
use Rattle.std.proofs.Common.{◌≡◌, ℕ, ◌*◌, ◌<◌, ◌≤◌, List, length, map, drop, None, Result, Ok, Err, refl, sym, ap, subst, ◌∙◌, arith, inl, inr}
use Rattle.std.specs.Prelude.{IfOk, IfErr}
use Rattle.std.proofs.lemmas.List.{length-drop}
use Rattle.byteorder.specs.Numbers.{big_from-lt}
use Rattle.glass_edges.specs.Refusals.{GivesAfterTests}
use Rattle.scalar_rule.specs.Plan.{Plan, slots_of, IsLawfulPlan}
use Rattle.scalar_rule.specs.Epoch.{slot_at}
use Rattle.scalar_rule.specs.declared.sample.PlainSlot.{PlainSlot}
use Rattle.scalar_rule.specs.declared.sample.Sample.{Sample}
use Rattle.plane_sweep.specs.Packed.{part, part_slot, StandFits, StandsFor, PermutesAt}
use Rattle.plane_sweep.specs.declared.stand.Stand.{Stand}
use Rattle.run_checkpoint.specs.Decoding.{level_layout, level_refusal, decoded, IsEncoded}
use Rattle.run_checkpoint.specs.Encoding.{level_bank, encoding, AreBankStates}
use Rattle.run_checkpoint.specs.Kinds.{Level, sealed}
use Rattle.run_checkpoint.specs.Lengths.{slot_len, contents_len}
use Rattle.run_checkpoint.specs.Reading.{parts_in, stand_in}
use Rattle.run_checkpoint.specs.Tests.{form_refusal, wrong_label}
use Rattle.run_checkpoint.specs.declared.refused.CheckpointRefused.{CheckpointRefused}
use Rattle.run_checkpoint.specs.declared.refused.CheckpointRefused.TheVariants as refused
use Rattle.run_checkpoint.proofs.PackedParts.{bank-same}
use Rattle.run_checkpoint.proofs.LabelTests.{right-labels, labels-right}
use Rattle.run_checkpoint.proofs.LevelForm.{form-long, packed_body, encoding-packed, form-again, stand-again, stand-back}
use Rattle.run_checkpoint.proofs.Tested.{HasForm, form-is, form-right, form-tells, Tells, tells-or, tells-label, tells-late, late-is, in-time, memory-or}
use Rattle.run_checkpoint.proofs.WrittenAgain.{slots-fit, slots-count, pairs-count, pairs-fit}
use Rattle.glass_edges.proofs.FirstRefusals.{or-later, or-none, unless-ok}
use Rattle.glass_edges.proofs.NumberBytes.{IsBytes, bytes-drop}

pub slots-first : (l n : ℕ) → slot_len l * n ≤ contents_len l n
unfolding contents_len
slots-first l n = omega arith

read-fits : (plan : Plan) (bytes : List ℕ) → IsBytes bytes → HasForm (level_layout plan) plan bytes → None ≡ wrong_label (slots_of plan) (parts_in plan.size (slots_of plan) (drop 56 bytes)) → StandFits plan (stand_in plan bytes)
unfolding stand_in part
read-fits plan bytes are has none =
    let n = slots_of plan in
    let rest = drop 56 bytes in
    let are_rest = bytes-drop 56 bytes are in
    let room : slot_len plan.size * n ≤ length rest = omega (arith, length-drop 56 bytes, form-long plan.size n, has.len, slots-first plan.size n) in
    record {
      epoch = big_from-lt 0 8 (drop 40 bytes) (bytes-drop 40 bytes are);
      slots = slots-count plan.size n rest;
      each_slot = slots-fit plan.size n rest are_rest room;
      pairs = pairs-count plan.size n rest;
      each_pair = pairs-fit plan.size n rest are_rest;
      labels = λ b small. let p = right-labels n (parts_in plan.size n rest) none b small in record { first = p.first; second = p.second };
    }

pub none-is : (plan : Plan) (until : ℕ) (bytes : List ℕ) → IsLawfulPlan plan → IsBytes bytes → None ≡ level_refusal plan until bytes → IsEncoded plan until bytes (stand_in plan bytes)
unfolding level_refusal
none-is plan until bytes lawful are none =
    let a = or-none (form_refusal (level_layout plan) plan bytes) _ none in
    let b = or-none (wrong_label (slots_of plan) (parts_in plan.size (slots_of plan) (drop 56 bytes))) _ a.1 in
    let has = form-is (level_layout plan) plan bytes a.0 in
    let fits = read-fits plan bytes are has b.0 in
    record {
      fits = fits;
      in_time = late-is until _ b.1;
      bytes_are = stand-back plan bytes are has ∙ sym (encoding-packed plan (stand_in plan bytes) lawful fits);
    }

fit-labels : (plan : Plan) (stand : Stand) → StandFits plan stand → (b : ℕ) → b < 64 → PermutesAt (slots_of plan) (λ t. slot_at (map (part_slot plan.size b) stand.slots) t)
unfolding part
fit-labels plan stand fits b small = let p = fits.labels b small in record { first = p.first; second = p.second }

same-parts : (plan : Plan) (bytes : List ℕ) (b : ℕ) → map (part_slot plan.size b) (stand_in plan bytes).slots ≡ parts_in plan.size (slots_of plan) (drop 56 bytes) b
unfolding stand_in
same-parts plan bytes b = refl

pub packed-none : (plan : Plan) (until : ℕ) (stand : Stand) → IsLawfulPlan plan → StandFits plan stand → stand.epoch ≤ until → None ≡ level_refusal plan until (sealed (packed_body plan stand))
unfolding level_refusal
packed-none plan until stand lawful fits le =
    let bytes = sealed (packed_body plan stand) in
    let again = stand-again plan stand fits in
    let labels : (b : ℕ) → b < 64 → PermutesAt (slots_of plan) (λ t. slot_at (parts_in plan.size (slots_of plan) (drop 56 bytes) b) t) = λ b small.
    subst (λ (ss : List PlainSlot). PermutesAt (slots_of plan) (λ t. slot_at ss t)) (ap (λ (s : Stand). map (part_slot plan.size b) s.slots) (sym again) ∙ same-parts plan bytes b) (fit-labels plan stand fits b small) in
    let has = form-again plan stand lawful fits in
    or-later _ _ None (form-right (level_layout plan) plan bytes (omega (arith, has.len, form-long plan.size (slots_of plan))) has)
    (or-later _ _ None (labels-right (slots_of plan) _ labels)
    (in-time until _ (subst (λ (s : Stand). s.epoch ≤ until) (sym again) le)))

pub decoded-packed : (plan : Plan) (until : ℕ) (stand : Stand) → IsLawfulPlan plan → StandFits plan stand → stand.epoch ≤ until → decoded plan until (sealed (packed_body plan stand)) ≡ Ok stand
unfolding decoded
decoded-packed plan until stand lawful fits le = rw (← packed-none plan until stand lawful fits le, stand-again plan stand fits) refl

-- states that agree in the 64 samples have one encoding
pub encoding-same : (plan : Plan) (s t : ℕ → Sample) → ((b : ℕ) → b < 64 → s b ≡ t b) → encoding plan s ≡ encoding plan t
unfolding level_bank
encoding-same plan s t same =
    let first : s 0 ≡ t 0 = same 0 (omega arith) in
    bank-same plan (level_bank s) (level_bank t) (ap (λ (x : Sample). Level x.epoch) first) (λ b small. ap (λ (x : Sample). x.slots) (same b small)) (ap (λ (x : Sample). x.pairs) first)

pub states-packed : (plan : Plan) (states : ℕ → Sample) (are : AreBankStates plan states) → IsLawfulPlan plan → encoding plan states ≡ sealed (packed_body plan are.stand)
states-packed plan states are lawful =
    encoding-same plan states (λ b. part plan.size b are.stand) (λ b small. sym (are.stands b small)) ∙ encoding-packed plan are.stand lawful are.fits

pub states-epoch : (plan : Plan) (states : ℕ → Sample) (are : AreBankStates plan states) → are.stand.epoch ≡ (states 0).epoch
unfolding part
states-epoch plan states are = ap (λ (x : Sample). x.epoch) (are.stands 0 (omega arith))

-- ---- the clauses

pub level-tells : (plan : Plan) (until : ℕ) (bytes : List ℕ) → Tells (level_refusal plan until bytes)
unfolding level_refusal
level-tells plan until bytes = tells-or _ _ (form-tells (level_layout plan) plan bytes) (tells-or _ _ (tells-label _ _) (tells-late until _))

decoded-is : (plan : Plan) (until : ℕ) (bytes : List ℕ) (stand : Stand) → IsLawfulPlan plan → IsBytes bytes → decoded plan until bytes ≡ Ok stand → IsEncoded plan until bytes stand
unfolding decoded
decoded-is plan until bytes stand lawful are e =
    let h = unless-ok (level_refusal plan until bytes) (stand_in plan bytes) stand e in
    subst (IsEncoded plan until bytes) h.1 (none-is plan until bytes lawful are h.0)

pub is-found : (plan : Plan) (until : ℕ) (bytes : List ℕ) (r : Result Stand CheckpointRefused) → IsLawfulPlan plan → IsBytes bytes
    → GivesAfterTests refused.NoMemory (λ stand. stand) r (decoded plan until bytes) → IfOk r (IsEncoded plan until bytes)
is-found plan until bytes (Ok stand) lawful are given = decoded-is plan until bytes stand lawful are given
is-found plan until bytes (Err e) lawful are given = tt

abbrev pub ReadsOnly : Plan → (ℕ → Sample) → Result Stand CheckpointRefused → Type 0
ReadsOnly plan states r = IfOk r (StandsFor plan states) × IfErr r (λ e. e ≡ refused.NoMemory)

same-ok : (a b : Stand) → ◌≡◌ {A = Result Stand CheckpointRefused} (Ok a) (Ok b) → a ≡ b
same-ok a b e = cc

given-only : (plan : Plan) (states : ℕ → Sample) (stand : Stand) (r : Result Stand CheckpointRefused) → StandsFor plan states stand
    → GivesAfterTests refused.NoMemory (λ s. s) r (Ok stand) → ReadsOnly plan states r
given-only plan states stand (Ok s) stands given = (subst (StandsFor plan states) (same-ok stand s given) stands, tt)
given-only plan states stand (Err e) stands given = elim (memory-or e) [
  | inl memory ↦ (tt, memory)
  | inr not ↦ let clash = given.1 not in absurd cc
]

pub is-only : (plan : Plan) (until : ℕ) (bytes : List ℕ) (r : Result Stand CheckpointRefused) (states : ℕ → Sample) → IsLawfulPlan plan → AreBankStates plan states → (states 0).epoch ≤ until
    → bytes ≡ encoding plan states → GivesAfterTests refused.NoMemory (λ stand. stand) r (decoded plan until bytes) → ReadsOnly plan states r
is-only plan until bytes r states lawful are le is given =
    let whole : bytes ≡ sealed (packed_body plan are.stand) = is ∙ states-packed plan states are lawful in
    let read : decoded plan until bytes ≡ Ok are.stand = ap (decoded plan until) whole ∙ decoded-packed plan until are.stand lawful are.fits (omega (arith, le, states-epoch plan states are)) in
    given-only plan states are.stand r are.stands (subst (GivesAfterTests refused.NoMemory (λ s. s) r) read given)

-- states that have one encoding agree
pub one-encoding : (plan : Plan) (s t : ℕ → Sample) → IsLawfulPlan plan → AreBankStates plan s → AreBankStates plan t → encoding plan s ≡ encoding plan t → (b : ℕ) → b < 64 → s b ≡ t b
one-encoding plan s t lawful first second same b small =
    let stands : first.stand ≡ second.stand =
    sym (stand-again plan first.stand first.fits)
    ∙ ap (stand_in plan) (sym (states-packed plan s first lawful) ∙ same ∙ states-packed plan t second lawful)
    ∙ stand-again plan second.stand second.fits in
    sym (first.stands b small) ∙ ap (part plan.size b) stands ∙ second.stands b small
