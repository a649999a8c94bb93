-- Banks and slots of kept states, and the room for their sums.
use Rattle.std.proofs.Common.{inl, inr, ◌≡◌, ℕ, ◌+◌, ◌/◌, ◌<◌, ◌≤◌, List, [], ◌∷◌, ◌++◌, length, set, get_or, subst, sym, arith}
use Rattle.std.specs.Prelude.{All}
use Rattle.std.proofs.lemmas.Bool.{cases_lt}
use Rattle.std.proofs.lemmas.List.{length-set, length_push, get_or-set_same, get_or-set_other}
use Rattle.std.proofs.lemmas.List.Elements.{All-nil, All-push, All-set}
use Rattle.scalar_rule.specs.Plan.{Plan}
use Rattle.plane_sweep.specs.declared.stand.Stand.{Stand}
use Rattle.measured_sums.specs.OverlapField.{Field}
use Rattle.measured_sums.specs.MeasuredSums.{Observed}
use Rattle.quenched_states.specs.QuenchText.{QuenchHeading}
use Rattle.quenched_sums.specs.Told.{TellsPair}
use Rattle.quenched_sums.specs.declared.pair.PairSums.{PairSums}
use Rattle.quench_report.specs.Held.{earlier_at, kept_at, HasBank, HasRoom, HasSlot, HoldKept, HoldPairs, TellsKept}
use Rattle.quench_report.specs.States.{plan_among, AreKept}
use Rattle.quench_report.specs.declared.measuring.KeptSums.{KeptSums}

-- ---- places

-- the slots of a bank
pub bank-slots : (l slots w t : ℕ) (states : List (List Stand)) → All (HasBank l slots w) states → t < slots → All (HasSlot l w t) states
bank-slots l slots w t states banks below = λ k d within.
    let bank = banks k d within in
    let inside : t < length _ = omega (arith, bank.slots_fit.count, below) in
    record { bank = bank.within; slot = inside; fits = bank.slots_fit.fit t _ inside }

-- a sample's bank
pub kept-banks : (h : QuenchHeading) (plans : List Plan) (states : List (List Stand)) (b : ℕ) → AreKept h plans states → b < h.samples
    → All (HasBank h.size h.slots (b / 64)) states
kept-banks h plans states b are below = λ k d within.
    let count = are.banks k d within in
    let inside : b / 64 < length (get_or states k d) = omega (arith, count, are.samples, below) in
    record { within = inside; slots_fit = are.slots k d within (b / 64) _ inside }

-- its plan has the lattice
pub plan-size : (h : QuenchHeading) (plans : List Plan) (states : List (List Stand)) (b : ℕ) → AreKept h plans states → b < h.samples
    → (plan_among plans b).size ≡ h.size
plan-size h plans states b are below = are.sizes (b / 64) _ (omega (arith, are.samples, below))

-- ---- room

pub room-none : (times : ℕ) → HasRoom 0 times []
room-none times = record { slots = omega arith; pairs = All-nil (λ (sums : KeptSums). times ≤ length sums.pairs + 1) }

pub room-more : (times n : ℕ) (room : List KeptSums) (sums : KeptSums) → length room ≡ n → HasRoom n times room → times ≤ length sums.pairs + 1
    → HasRoom (n + 1) times (room ++ sums ∷ [])
room-more times n room sums sized has long =
    record { slots = omega (arith, length_push room sums, sized); pairs = All-push (λ (s : KeptSums). times ≤ length s.pairs + 1) room sums has.pairs long }

-- for fewer times
pub room-fewer : (slots times few : ℕ) (room : List KeptSums) → HasRoom slots times room → few ≤ times → HasRoom slots few room
room-fewer slots times few room has less =
    record { slots = has.slots; pairs = λ k d within. let own = has.pairs k d within in omega (arith, own, less) }

-- with other sums in a slot
pub room-set : (slots times t : ℕ) (room : List KeptSums) (sums : KeptSums) → HasRoom slots times room → times ≤ length sums.pairs + 1 → HasRoom slots times (set room t sums)
room-set slots times t room sums has long = record {
  slots = omega (arith, length-set room t sums, has.slots);
  pairs = All-set (λ (s : KeptSums). times ≤ length s.pairs + 1) room t sums long has.pairs;
}

-- ---- what is held

abbrev no_pair : PairSums
no_pair = record { first_overlaps = []; second_overlaps = []; first_links = []; second_links = [] }

-- an earlier state more
pub pairs-more : (l : ℕ) (pairs : List PairSums) (made : PairSums) (fields : ℕ → ℕ → ℕ → Field) (n : ℕ) → n < length pairs → HoldPairs l pairs fields n
    → TellsPair l made (fields n) → HoldPairs l (set pairs n made) fields (n + 1)
pairs-more l pairs made fields n within before told = λ i below. elim (cases_lt i n) [
  | inl less ↦
      subst (λ (s : PairSums). TellsPair l s (fields i)) (sym (get_or-set_other pairs n i made no_pair (λ same. omega (arith, same, less)))) (before i less)
  | inr not ↦
      let last : n ≡ i = omega (arith, below, not) in
      subst (λ (k : ℕ). TellsPair l (earlier_at (set pairs n made) k) (fields k)) last
      (subst (λ (s : PairSums). TellsPair l s (fields n)) (sym (get_or-set_same pairs n made no_pair within)) told)
]

-- a slot more
pub slots-more : (l j : ℕ) (room : List KeptSums) (made : KeptSums) (seen : ℕ → ℕ → Observed) (fields : ℕ → ℕ → ℕ → ℕ → Field) (n : ℕ) → n < length room
    → HoldKept l j room seen fields n → TellsKept l j made (seen n) (fields n) → HoldKept l j (set room n made) seen fields (n + 1)
slots-more l j room made seen fields n within before told = λ t below. elim (cases_lt t n) [
  | inl less ↦
      subst (λ (s : KeptSums). TellsKept l j s (seen t) (fields t)) (sym (get_or-set_other room n t made _ (λ same. omega (arith, same, less)))) (before t less)
  | inr not ↦
      let last : n ≡ t = omega (arith, below, not) in
      subst (λ (k : ℕ). TellsKept l j (kept_at (set room n made) k) (seen k) (fields k)) last
      (subst (λ (s : KeptSums). TellsKept l j s (seen n) (fields n)) (sym (get_or-set_same room n made _ within)) told)
]
