-- The spins that are kept, and the room for them.
use Rattle.std.proofs.Common.{◌≡◌, ℕ, ◌^◌, ◌<◌, ◌≤◌, List, All, length, get_or, sym, ap, ◌∙◌, subst, arith}
use Rattle.std.proofs.lemmas.List.{get_or_read}
use Rattle.plane_sweep.specs.Packed.{plane_at, spins_of, FitsPlane, FitsReplica, StandFits}
use Rattle.plane_sweep.specs.Storing.{Changed}
use Rattle.plane_sweep.specs.declared.replica.Duo.{Duo}
use Rattle.plane_sweep.specs.declared.replica.Plane.{Plane}
use Rattle.plane_sweep.specs.declared.replica.Replica.{Replica}
use Rattle.plane_sweep.specs.declared.stand.Stand.{Stand}
use Rattle.plane_sweep.proofs.PartSpins.{spins_of-same}
use Rattle.scalar_rule.specs.Plan.{Plan, slots_of}
use Rattle.spin_model.specs.Lattice.{IsLawfulSize}
use Rattle.spin_model.specs.Words.{is_set, AreGeneratorWords}
use Rattle.aging_run.specs.Keeping.{KeepsPlane}

-- ---- one plane after the other

-- a plane that was not reached yet has as many words as the one that it is to have the words of
pub words-fit : (planes old now : List Plane) (k : ℕ) (mine theirs : Plane) → Changed (KeepsPlane planes) k old now → length old ≡ length planes → k < length planes
    → length (plane_at old k).words ≡ length (plane_at planes k).words → mine ≡ get_or now k mine → theirs ≡ get_or planes k theirs
    → length mine.words ≡ length theirs.words
words-fit planes old now k mine theirs before count within same read_mine read_theirs =
    let long = before.sized in
    let is_mine : mine ≡ plane_at old k = get_or_read now k mine (omega arith) read_mine _ ∙ before.kept k _ (omega arith) in
    let is_theirs : theirs ≡ plane_at planes k = get_or_read planes k theirs within read_theirs _ in
    ap (λ (p : Plane). length p.words) is_mine ∙ same ∙ sym (ap (λ (p : Plane). length p.words) is_theirs)

-- a plane has the words that it got
pub words-got : (planes : List Plane) (k : ℕ) (theirs old new : Plane) → theirs ≡ get_or planes k theirs → k < length planes → new.words ≡ theirs.words → new.wheel ≡ old.wheel
    → KeepsPlane planes k old new
words-got planes k theirs old new read within words generator = record {
  words = words ∙ ap (λ (p : Plane). p.words) (get_or_read planes k theirs within read _);
  generator = generator;
}

-- ---- all planes

-- a plane that kept words fits as the two did
kept-plane : (l k : ℕ) (planes : List Plane) (old new : Plane) → FitsPlane l (plane_at planes k) → FitsPlane l old → KeepsPlane planes k old new → FitsPlane l new
kept-plane l k planes old new theirs mine keeps = record {
  sized = ap length keeps.words ∙ theirs.sized;
  in_range = subst (λ (ws : List ℕ). All (λ word. word < 2 ^ 64) ws) (sym keeps.words) theirs.in_range;
  generator = subst (λ (ws : List ℕ). AreGeneratorWords ws) (sym keeps.generator) mine.generator;
}

-- so does a replica
pub kept-fits : (l : ℕ) (a : Replica) (old new : List Plane) (labels : List ℕ) → FitsReplica l a → FitsReplica l (record { planes = old; labels = labels }) → Changed (KeepsPlane a.planes) (length a.planes) old new
    → FitsReplica l (record { planes = new; labels = labels })
kept-fits l a old new labels theirs mine changed =
    let counts = theirs.count in
    let count = mine.count in
    record {
      count = changed.sized ∙ mine.count;
      planes = λ k d within. kept-plane l k a.planes (get_or old k d) (get_or new k d) (theirs.planes k _ (omega (arith, changed.sized))) (mine.planes k d (omega (arith, changed.sized)))
          (changed.done k d (omega (arith, changed.sized)));
      labels = mine.labels;
    }

-- the spins are those of the other replica
pub kept-spins : (l b : ℕ) (a : Replica) (old new : List Plane) → IsLawfulSize l → FitsReplica l a → Changed (KeepsPlane a.planes) (length a.planes) old new
    → spins_of l b new ≡ spins_of l b a.planes
kept-spins l b a old new lawful fits changed =
    let count = fits.count in
    spins_of-same l b a.planes new lawful (λ k j within inside.
    ap (λ (ws : List ℕ). is_set (get_or ws j 0) b) (changed.done k _ (omega arith)).words)

-- ---- one size

-- a replica fits at most one size
pub one-size : (l m : ℕ) (a : Replica) → FitsReplica l a → FitsReplica m a → l ≡ m
one-size l m a first second =
    let x = first.count in
    let y = second.count in
    omega arith

-- so a stand with a slot fits the plans of one size
pub one-stand-size : (plan other : Plan) (stand : Stand) (duo : Duo) → 1 ≤ slots_of plan → StandFits plan stand → StandFits other stand → plan.size ≡ other.size
one-stand-size plan other stand duo some first second =
    let count = first.slots in
    one-size plan.size other.size (get_or stand.slots 0 duo).first (first.each_slot 0 duo (omega arith)).first (second.each_slot 0 duo (omega arith)).first
