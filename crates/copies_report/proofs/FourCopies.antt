-- The copies that are measured are those of the definitions, and what a slot's sums hold.
use Rattle.std.proofs.Common.{inl, inr, ◌≡◌, ℕ, ◌+◌, ◌*◌, ◌-◌, ◌<◌, Bool, true, false, cond, nat_lt, ◌==◌, List, [], length, get_or, set, refl, ap, ap₂, subst, sym, ◌∙◌, arith}
use Rattle.std.proofs.lemmas.Bool.{cases_lt}
use Rattle.std.proofs.lemmas.List.{get_or-set_same, get_or-set_other}
use Rattle.plane_sweep.specs.Packed.{part_copy, part_slot, spins_of}
use Rattle.plane_sweep.specs.declared.replica.Duo.{Duo}
use Rattle.plane_sweep.specs.declared.replica.Replica.{Replica}
use Rattle.measured_sums.specs.OverlapField.{Field, site_overlap, total_overlap, link_overlap}
use Rattle.measured_sums.specs.PlaneCorrelations.{axis_correlation, face_correlation}
use Rattle.quenched_states.specs.Copies.{copy_of, copy_among}
use Rattle.plane_sums.specs.Fields.{TellsField}
use Rattle.plane_sums.specs.declared.fields.FieldSums.{FieldSums}
use Rattle.copies_report.specs.Held.{duo_field, held_at, HoldSlot}
use Rattle.copies_report.specs.States.{pair_at, replica_among, replica_of}

-- ---- the copies

-- the spins of one replica or the other
one-of : (t : Bool) (l b : ℕ) (one other : Replica) → (cond t (part_copy l b one) (part_copy l b other)).spins ≡ spins_of l b (cond t one other).planes
one-of true l b one other = refl
one-of false l b one other = refl

of-slot : (l b : ℕ) (slot : Duo) (a : ℕ) → (copy_of (part_slot l b slot) a).spins ≡ spins_of l b (replica_of slot a).planes
of-slot l b slot a = one-of (a == 0) l b slot.first slot.second

of-either : (t : Bool) (l b : ℕ) (first second : Duo) (a : ℕ)
    → (cond t (copy_of (part_slot l b first) a) (copy_of (part_slot l b second) (a - 2))).spins ≡ spins_of l b (cond t (replica_of first a) (replica_of second (a - 2))).planes
of-either true l b first second a = of-slot l b first a
of-either false l b first second a = of-slot l b second (a - 2)

copy-spins : (l b : ℕ) (first second : Duo) (a : ℕ) → (copy_among (part_slot l b first) (part_slot l b second) a).spins ≡ spins_of l b (replica_among first second a).planes
copy-spins l b first second a = of-either (nat_lt a 2) l b first second a

-- ---- their sums

-- sums of fields that are the same
same-field : (l : ℕ) (sums : FieldSums) (f g : ℕ → Field) → ((b : ℕ) → f b ≡ g b) → TellsField l sums f → TellsField l sums g
same-field l sums f g same told = record {
  links = λ b h. told.links b h ∙ ap (link_overlap l) (same b);
  overlaps = λ b h. told.overlaps b h ∙ ap (total_overlap l) (same b);
  axis = λ r b near h. told.axis r b near h ∙ ap (λ (q : Field). axis_correlation l q r) (same b);
  face = λ r b near h. told.face r b near h ∙ ap (λ (q : Field). face_correlation l q r) (same b);
}

-- what is measured of two replicas is of the pair that they are
pub pair-measured : (l : ℕ) (first second : Duo) (sums : FieldSums) (one other : Replica) (p a c : ℕ) → a ≡ (pair_at p).one → c ≡ (pair_at p).other
    → one ≡ replica_among first second a → other ≡ replica_among first second c
    → TellsField l sums (λ b. site_overlap (spins_of l b one.planes) (spins_of l b other.planes)) → TellsField l sums (duo_field l first second (pair_at p))
pair-measured l first second sums one other p a c a-is c-is one-is other-is told =
    same-field l sums (λ b. site_overlap (spins_of l b one.planes) (spins_of l b other.planes)) (duo_field l first second (pair_at p))
    (λ b. ap₂ site_overlap
    (ap (λ (r : Replica). spins_of l b r.planes) (one-is ∙ ap (replica_among first second) a-is) ∙ sym (copy-spins l b first second (pair_at p).one))
    (ap (λ (r : Replica). spins_of l b r.planes) (other-is ∙ ap (replica_among first second) c-is) ∙ sym (copy-spins l b first second (pair_at p).other)))
    told

-- ---- places

abbrev none : FieldSums
none = record { links = []; overlaps = []; axis = []; face = [] }

-- the sums of a pair are written, and the others stay
pub pair-written : (sums now : List FieldSums) (made : FieldSums) (t p : ℕ) → now ≡ set sums (6 * t + p) made → 6 * t + p < length sums → held_at now t p ≡ made
pair-written sums now made t p is within = ap (λ (xs : List FieldSums). get_or xs (6 * t + p) none) is ∙ get_or-set_same sums (6 * t + p) made none within

pub pair-kept : (sums now : List FieldSums) (made : FieldSums) (t p k m : ℕ) → now ≡ set sums (6 * t + p) made → (6 * k + m ≡ 6 * t + p → ⊥)
    → held_at now k m ≡ held_at sums k m
pair-kept sums now made t p k m is apart = ap (λ (xs : List FieldSums). get_or xs (6 * k + m) none) is ∙ get_or-set_other sums (6 * t + p) (6 * k + m) made none apart

-- one pair more
pub pair-more : (l : ℕ) (first second : Duo) (sums now : List FieldSums) (t n : ℕ) → HoldSlot l first second sums t n
    → ((p : ℕ) → p < n → held_at now t p ≡ held_at sums t p) → TellsField l (held_at now t n) (duo_field l first second (pair_at n)) → HoldSlot l first second now t (n + 1)
pair-more l first second sums now t n before kept told = λ p below. elim (cases_lt p n) [
  | inl less ↦ subst (λ (s : FieldSums). TellsField l s (duo_field l first second (pair_at p))) (sym (kept p less)) (before p less)
  | inr not ↦
      let last : n ≡ p = omega (arith, below, not) in
      subst (λ (k : ℕ). TellsField l (held_at now t k) (duo_field l first second (pair_at k))) last told
]

-- the sums of a slot stay
pub slot-kept : (l : ℕ) (first second : Duo) (sums now : List FieldSums) (t : ℕ) → ((p : ℕ) → p < 6 → held_at now t p ≡ held_at sums t p)
    → HoldSlot l first second sums t 6 → HoldSlot l first second now t 6
slot-kept l first second sums now t kept before = λ p below.
    subst (λ (s : FieldSums). TellsField l s (duo_field l first second (pair_at p))) (sym (kept p below)) (before p below)
