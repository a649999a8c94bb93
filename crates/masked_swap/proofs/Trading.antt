-- Replicas whose planes are traded, as those of each sample.
use Rattle.std.proofs.Common.{inl, inr, ◌≡◌, ℕ, ◌+◌, ◌*◌, ◌<◌, ◌≤◌, Bool, true, false, if◌then◌else◌, List, [], length, map, get_or, ap, refl, sym, ◌∙◌, arith}
use Rattle.std.proofs.lemmas.Bool.{cases_Bool, cases_lt}
use Rattle.std.proofs.lemmas.List.{ext_get_or, get_or-map, get_or_past, length-map}
use Rattle.spin_model.specs.Words.{is_set}
use Rattle.spin_model.specs.Lattice.{volume, colour, z_of, place_in_plane}
use Rattle.spin_model.proofs.Tables.{table-same}
use Rattle.scalar_rule.specs.Exchange.{traded}
use Rattle.plane_sweep.specs.Packed.{plane_at, word_at, spins_of, part_copy, generators_of, FitsReplica}
use Rattle.plane_sweep.specs.declared.replica.Plane.{Plane}
use Rattle.plane_sweep.specs.declared.replica.Replica.{Replica}
use Rattle.masked_swap.specs.Mask.{HaveSameLengths, AreTraded, AreTradedPlanes}

past : (planes : List Plane) (k : ℕ) → length planes ≤ k → plane_at planes k ≡ record { words = []; wheel = [] }
past planes k h = get_or_past planes k _ h

chosen-same : (m : Bool) (x y z : Bool) → x ≡ z → y ≡ z → z ≡ (if m then x else y)
chosen-same true x y z p q = sym p
chosen-same false x y z p q = sym q

-- at every place, also one that there is not
words-traded : (mask : ℕ) (own other new : List Plane) → AreTradedPlanes mask own other new → (k : ℕ) → AreTraded mask (plane_at own k).words (plane_at other k).words (plane_at new k).words
words-traded mask own other new t k = elim (cases_lt k (length own)) [
  | inl less ↦ (t.each k less).words
  | inr not ↦ λ i b h.
      let at = λ (p : Plane). is_set (get_or p.words i 0) b in
      let same = t.same in
      let sized = t.sized in
      let mine = past own k not in
      let yours = past other k (omega arith) in
      let now = past new k (omega arith) in
      ap at now ∙ chosen-same (is_set mask b) _ _ _ (ap at yours) (ap at mine)
]

-- the generators stay
wheels-kept : (mask : ℕ) (own other new : List Plane) → AreTradedPlanes mask own other new → generators_of new ≡ generators_of own
wheels-kept mask own other new t =
    let wheel = λ (plane : Plane). plane.wheel in
    let none : Plane = record { words = []; wheel = [] } in
    let sized = t.sized in
    let longer = length-map new wheel in
    let long = length-map own wheel in
    ext_get_or [] (map wheel new) (map wheel own) (omega arith) (λ k h.
    let below : k < length new = omega arith in
    let within : k < length own = omega arith in
    get_or-map wheel new k none [] below ∙ (t.each k within).wheel ∙ sym (get_or-map wheel own k none [] within))

-- the replica of each sample is traded by the sample's bit of the mask
pub copy-traded : (l mask b : ℕ) (own other new : Replica) → AreTradedPlanes mask own.planes other.planes new.planes → b < 64
    → get_or new.labels b 0 ≡ (if is_set mask b then get_or other.labels b 0 else get_or own.labels b 0)
    → part_copy l b new ≡ traded (is_set mask b) (part_copy l b own) (part_copy l b other)
unfolding spins_of
copy-traded l mask b own other new t h label =
    let wheels = wheels-kept mask own.planes other.planes new.planes t in
    let bits = λ (i : ℕ). words-traded mask own.planes other.planes new.planes t (colour l i * l + z_of l i) (place_in_plane l i) b h in
    elim (cases_Bool (is_set mask b)) [
      | inl set ↦
          let spins = table-same (λ i. is_set (word_at l new.planes i) b) (λ i. is_set (word_at l other.planes i) b) (volume l) (λ i _. rw set at (bits i)) in
          let labelled = rw set at label in
          rw (set, spins, wheels, labelled) refl
      | inr clear ↦
          let spins = table-same (λ i. is_set (word_at l new.planes i) b) (λ i. is_set (word_at l own.planes i) b) (volume l) (λ i _. rw clear at (bits i)) in
          let labelled = rw clear at label in
          rw (clear, spins, wheels, labelled) refl
    ]

-- two replicas that fit one size have the same lengths
pub same-lengths : (l : ℕ) (a b : Replica) → FitsReplica l a → FitsReplica l b → HaveSameLengths a.planes b.planes
same-lengths l a b f g =
    let first = f.count in
    let second = g.count in
    let none : Plane = record { words = []; wheel = [] } in
    record {
      planes = first ∙ sym second;
      words = λ k h. (f.planes k none h).sized ∙ sym (g.planes k none (omega arith)).sized;
    }
