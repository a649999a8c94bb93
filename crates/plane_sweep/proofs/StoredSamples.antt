-- What a packed state is after one sample is stored in its bit.
use Rattle.std.proofs.Common.{◌≡◌, ◌≢◌, ℕ, ◌*◌, ◌/◌, ◌%◌, ◌^◌, ◌<◌, cond, Bool, List, [], length, get_or, set, refl, sym, ap, ◌∙◌, arith}
use Rattle.std.proofs.lemmas.Bool.{eq-eqb, ne_eqb}
use Rattle.std.proofs.lemmas.List.{length-set, length-map, get_or-map, get_or-set_same, get_or-set_other, same_lists, get_or_default}
use Rattle.spin_model.specs.Lattice.{IsLawfulSize, half_plane}
use Rattle.spin_model.specs.Words.{is_set, AreGeneratorWords}
use Rattle.scalar_rule.specs.Shape.{FitsCopy}
use Rattle.scalar_rule.specs.declared.plain_copy.PlainCopy.{PlainCopy}
use Rattle.scalar_rule.specs.declared.sample.PlainSlot.{PlainSlot}
use Rattle.plane_sweep.specs.Packed.{generators_of, FitsPlane, FitsReplica}
use Rattle.plane_sweep.specs.Storing.{Changed, StoresWord, StoresWords, StoresPlane, StoresReplica, StoresDuo}
use Rattle.plane_sweep.specs.declared.replica.Plane.{Plane}
use Rattle.plane_sweep.specs.declared.replica.Replica.{Replica}
use Rattle.plane_sweep.specs.declared.replica.Duo.{Duo}
use Rattle.plane_sweep.proofs.Empties.{no_plane}
use Rattle.plane_sweep.proofs.Gathering.{all-changed}
use Rattle.plane_sweep.proofs.PartSpins.{spins_of-planes, spins_of-same}

pub stores-plane : (l bit k : ℕ) (spins : List Bool) (wheels : List (List ℕ)) (old : Plane) (words wheel : List ℕ) → length old.words ≡ half_plane l
    → StoresWords l bit spins (k / l) (k % l) (half_plane l) old.words words → wheel ≡ get_or wheels k [] → AreGeneratorWords wheel
    → StoresPlane l bit spins wheels k old (record { words = words; wheel = wheel })
stores-plane l bit k spins wheels old words wheel sized stored same generator = record {
  fits = record {
    sized = stored.sized ∙ sized;
    in_range = all-changed _ (λ word. word < 2 ^ 64) (half_plane l) old.words words stored sized (λ j x y within made. made.in_range);
    generator = generator;
  };
  words = stored;
  generator = same;
}

-- the bits of the sample itself, and those of another
own-bit : (bit : ℕ) (up : Bool) (old new : ℕ) → bit < 64 → StoresWord bit up old new → is_set new bit ≡ up
own-bit bit up old new below stored = stored.bits bit below ∙ ap (λ t. cond t up (is_set old bit)) (eq-eqb bit bit refl)

other-bit : (bit b : ℕ) (up : Bool) (old new : ℕ) → b < 64 → b ≢ bit → StoresWord bit up old new → is_set new b ≡ is_set old b
other-bit bit b up old new below apart stored = stored.bits b below ∙ ap (λ t. cond t up (is_set old b)) (ne_eqb b bit apart)

-- the generators of all planes
stored-generators : (l bit : ℕ) (spins : List Bool) (wheels : List (List ℕ)) (old new : List Plane) → length old ≡ 2 * l → length wheels ≡ 2 * l
    → Changed (StoresPlane l bit spins wheels) (2 * l) old new → generators_of new ≡ wheels
stored-generators l bit spins wheels old new count sized stored =
    let long = stored.sized in
    same_lists (generators_of new) wheels (length-map new _ ∙ stored.sized ∙ count ∙ sym sized) (λ k d within.
    let known : length (generators_of new) ≡ 2 * l = length-map new _ ∙ stored.sized ∙ count in
    get_or-map (λ (plane : Plane). plane.wheel) new k no_plane d (omega arith)
    ∙ (stored.done k no_plane (omega arith)).generator
    ∙ get_or_default wheels k [] d (omega arith))

-- a replica and a slot from their parts
copy-made : (copy : PlainCopy) (spins : List Bool) (wheels : List (List ℕ)) (label : ℕ) → spins ≡ copy.spins → wheels ≡ copy.wheels → label ≡ copy.replica
    → (let made : PlainCopy = record { spins = spins; wheels = wheels; replica = label } in made ≡ copy)
copy-made copy spins wheels label one two three =
    let F : List Bool → List (List ℕ) → ℕ → PlainCopy = λ s w r. record { spins = s; wheels = w; replica = r } in
    ap (λ s. F s wheels label) one ∙ ap (λ w. F copy.spins w label) two ∙ ap (F copy.spins copy.wheels) three

slot-made : (slot : PlainSlot) (first second : PlainCopy) → first ≡ slot.first → second ≡ slot.second
    → (let made : PlainSlot = record { first = first; second = second } in made ≡ slot)
slot-made slot first second one two =
    let F : PlainCopy → PlainCopy → PlainSlot = λ a b. record { first = a; second = b } in
    ap (λ a. F a second) one ∙ ap (F slot.first) two

pub stores-replica : (l bit : ℕ) (copy : PlainCopy) (old : Replica) (planes : List Plane) (labels : List ℕ) → IsLawfulSize l → bit < 64 → FitsReplica l old → FitsCopy l copy
    → Changed (StoresPlane l bit copy.spins copy.wheels) (2 * l) old.planes planes → labels ≡ set old.labels bit copy.replica
    → StoresReplica l bit copy old (record { planes = planes; labels = labels })
stores-replica l bit copy old planes labels lawful below fits shape stored written =
    let count = fits.count in
    let room = fits.labels in
    let wheels = stored-generators l bit copy.spins copy.wheels old.planes planes fits.count shape.wheels stored in
    record {
      fits = record {
        count = stored.sized ∙ fits.count;
        planes = all-changed _ (FitsPlane l) (2 * l) old.planes planes stored fits.count (λ k x y within made. made.fits);
        labels = ap length written ∙ length-set old.labels bit copy.replica ∙ fits.labels;
      };
      own =
          let spins = spins_of-planes l bit planes copy.spins lawful shape.spins (λ k j chosen within.
          own-bit bit _ _ _ below ((stored.done k no_plane chosen).words.done j 0 within)) in
          let label : get_or labels bit 0 ≡ copy.replica = ap (λ xs. get_or xs bit 0) written ∙ get_or-set_same old.labels bit copy.replica 0 (omega arith) in
          copy-made copy _ _ _ spins wheels label;
      others = λ b inside apart.
          let spins = spins_of-same l b old.planes planes lawful (λ k j chosen within.
          other-bit bit b _ _ _ inside apart ((stored.done k no_plane chosen).words.done j 0 within)) in
          let label : get_or labels b 0 ≡ get_or old.labels b 0 = ap (λ xs. get_or xs b 0) written ∙ get_or-set_other old.labels bit b copy.replica 0 apart in
          cc;
    }

pub stores-duo : (l bit : ℕ) (slot : PlainSlot) (old : Duo) (first second : Replica) → StoresReplica l bit slot.first old.first first → StoresReplica l bit slot.second old.second second
    → StoresDuo l bit slot old (record { first = first; second = second })
stores-duo l bit slot old first second one two = record {
  fits = record { first = one.fits; second = two.fits };
  own = slot-made slot _ _ one.own two.own;
  others = λ b below apart. let e = one.others b below apart in let f = two.others b below apart in cc;
}
