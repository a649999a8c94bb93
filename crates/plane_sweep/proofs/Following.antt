-- A sweep in which each plane of colour 1 follows those beside it of colour 0: what it reads is as after the whole half
-- sweep of colour 0, and what colour 0 reads is as before colour 1.
use Rattle.std.proofs.Common.{inl, inr, ◌≡◌, ℕ, ◌+◌, ◌-◌, ◌/◌, ◌%◌, ◌<◌, ◌≤◌, List, All, length, get_or, set, refl, sym, ◌∙◌, subst, arith}
use Rattle.std.proofs.lemmas.Bool.{cases_lt, cases_eq}
use Rattle.std.proofs.lemmas.List.{length-set, get_or-set_same, get_or-set_other, get_or_read}
use Rattle.coupling_set.specs.CouplingWords.{CouplingsView}
use Rattle.spin_model.specs.Lattice.{half_plane, next, previous}
use Rattle.spin_model.specs.Stream.{draws}
use Rattle.threshold_table.specs.Tables.{rule_of}
use Rattle.plane_sweep.specs.Neighbourhood.{pulls}
use Rattle.plane_sweep.specs.Packed.{plane_at, FitsPlane}
use Rattle.plane_sweep.specs.PlaneSweep.{SweepsWord, SweepsPlane, SweepsAt}
use Rattle.plane_sweep.specs.Storing.{Changed}
use Rattle.plane_sweep.specs.declared.replica.Plane.{Plane}
use Rattle.threshold_table.specs.declared.rule_table.SlotRule.{SlotRule}
use Rattle.plane_sweep.proofs.Empties.{no_plane}
use Rattle.plane_sweep.proofs.FourLanes.{next-inside, next-around, previous-inside, previous-around}

-- ---- what a plane's sweep reads

-- two lists have the same planes where the sites of plane z have neighbours
pub record IsSameAround (l z : ℕ) (other other' : List Plane) : Type 0 where
  pub here : plane_at other z ≡ plane_at other' z
  pub above : plane_at other (next l z) ≡ plane_at other' (next l z)
  pub below : plane_at other (previous l z) ≡ plane_at other' (previous l z)

pub pulls-around : (couplings : CouplingsView) (c z y k : ℕ) (other other' : List Plane) → IsSameAround couplings.size z other other' → pulls couplings other c z y k ≡ pulls couplings other' c z y k
unfolding pulls
pulls-around couplings c z y k other other' same = rw (same.here, same.above, same.below) refl

-- no other plane counts
pub sweeps-around : (couplings : CouplingsView) (rule : SlotRule) (c z : ℕ) (other other' : List Plane) (old new : Plane) → IsSameAround couplings.size z other other'
    → SweepsPlane couplings other rule c z old new → SweepsPlane couplings other' rule c z old new
sweeps-around couplings rule c z other other' old new same swept = record {
  fits = swept.fits;
  words = record {
    sized = swept.words.sized;
    done = λ j d below.
        let half = couplings.size / 2 in
        let P : List ℕ → Type 0 = λ six. SweepsWord (rule_of rule.kind) rule.row.values six (get_or (draws old.wheel (half_plane couplings.size)) j 0) (get_or old.words j d) (get_or new.words j d) in
        subst P (pulls-around couplings c z (j / half) (j % half) other other' same) (swept.words.done j d below);
    kept = swept.words.kept;
  };
  generator = swept.generator;
}

-- ---- the way of a sweep

-- the planes of colour 0 below n are swept, and those of colour 1 from 1 on below m, whose plane 0 comes behind them all
pub record IsFollowing (couplings : CouplingsView) (rule : SlotRule) (n m : ℕ) (first second now later : List Plane) : Type 0 where
  pub ahead : Changed (SweepsPlane couplings second rule 0) n first now
  pub sized : length later ≡ length second
  pub done : (k : ℕ) (d : Plane) → 1 ≤ k → k < m → k < couplings.size → SweepsPlane couplings now rule 1 k (get_or second k d) (get_or later k d)
  pub whole : (d : Plane) → couplings.size < m → SweepsPlane couplings now rule 1 0 (get_or second 0 d) (get_or later 0 d)
  pub kept : (k : ℕ) (d : Plane) → (1 ≤ k → k < couplings.size → m ≤ k) → (k ≡ 0 → m ≤ couplings.size) → get_or later k d ≡ get_or second k d

pub following-none : (couplings : CouplingsView) (rule : SlotRule) (first second : List Plane) → 1 ≤ couplings.size → IsFollowing couplings rule 0 1 first second first second
following-none couplings rule first second some = record {
  ahead = record { sized = refl; done = λ k d below. absurd (omega arith); kept = λ k d later. refl };
  sized = refl;
  done = λ k d one under below. absurd (omega arith);
  whole = λ d past. absurd (omega arith);
  kept = λ k d later last. refl;
}

-- those around plane n of colour 0
unswept-around : (couplings : CouplingsView) (rule : SlotRule) (n m : ℕ) (first second now later : List Plane) → IsFollowing couplings rule n m first second now later
    → n < couplings.size → m < couplings.size → (2 ≤ n → m + 1 ≤ n) → (n < 2 → m ≤ 1) → IsSameAround couplings.size n later second
unswept-around couplings rule n m first second now later way below room far near =
    let l = couplings.size in
    let P : ℕ → Type 0 = λ j. plane_at later j ≡ plane_at second j in
    let at : (j : ℕ) → (1 ≤ j → m ≤ j) → P j = λ j is. way.kept j no_plane (λ one inside. is one) (λ start. omega arith) in
    record {
      here = at n (λ some. elim (cases_lt n 2) [ inl small ↦ omega (arith, near small) | inr large ↦ omega (arith, far (omega arith)) ]);
      above = elim (cases_lt (n + 1) l) [
        | inl inside ↦ subst P (sym (next-inside l n inside)) (at (n + 1) (λ some. elim (cases_lt n 2) [ inl small ↦ omega (arith, near small) | inr large ↦ omega (arith, far (omega arith)) ]))
        | inr around ↦ subst P (sym (next-around l n (omega arith))) (at 0 (λ some. absurd (omega arith)))
      ];
      below = elim (cases_eq n 0) [
        | inl start ↦
            let Q : ℕ → Type 0 = λ i. P (previous l i) in
            subst Q (sym start) (subst P (sym (previous-around l (omega arith))) (at (l - 1) (λ some. omega arith)))
        | inr later_one ↦ subst P (sym (previous-inside l n (omega arith) (omega arith))) (at (n - 1) (λ some. elim (cases_lt n 2) [ inl small ↦ absurd (omega arith) | inr large ↦ omega (arith, far (omega arith)) ]))
      ];
    }

-- one more plane of colour 0
pub following-ahead : (couplings : CouplingsView) (rule : SlotRule) (n m : ℕ) (first second now later new : List Plane) → IsFollowing couplings rule n m first second now later
    → n < couplings.size → m < couplings.size → (2 ≤ n → m + 1 ≤ n) → (n < 2 → m ≤ 1) → SweepsAt couplings later rule 0 n now new → IsFollowing couplings rule (n + 1) m first second new later
following-ahead couplings rule n m first second now later new way below room far near swept =
    let l = couplings.size in
    let same = unswept-around couplings rule n m first second now later way below room far near in
    record {
      ahead = record {
        sized = swept.sized ∙ way.ahead.sized;
        done = λ k d under. elim (cases_eq k n) [
          | inl at ↦
              let made = sweeps-around couplings rule 0 n later second (get_or now n d) (get_or new n d) same (swept.done d) in
              let P : Plane → Type 0 = λ p. SweepsPlane couplings second rule 0 n p (get_or new n d) in
              let Q : ℕ → Type 0 = λ i. SweepsPlane couplings second rule 0 i (get_or first i d) (get_or new i d) in
              subst Q (sym at) (subst P (way.ahead.kept n d (omega arith)) made)
          | inr apart ↦
              let P : Plane → Type 0 = λ p. SweepsPlane couplings second rule 0 k (get_or first k d) p in
              subst P (sym (swept.kept k d apart)) (way.ahead.done k d (omega arith))
        ];
        kept = λ k d past. swept.kept k d (λ at. absurd (omega arith)) ∙ way.ahead.kept k d (omega arith);
      };
      sized = way.sized;
      done = λ k d some under inside.
          let before : m + 1 ≤ n = elim (cases_lt n 2) [ inl small ↦ absurd (omega (arith, near small)) | inr large ↦ far (omega arith) ] in
          let P : ℕ → Type 0 = λ j. plane_at now j ≡ plane_at new j in
          let at : (j : ℕ) → j < n → P j = λ j less. sym (swept.kept j no_plane (λ is. absurd (omega arith))) in
          sweeps-around couplings rule 1 k now new (get_or second k d) (get_or later k d)
          (record {
            here = at k (omega arith);
            above = subst P (sym (next-inside l k (omega arith))) (at (k + 1) (omega arith));
            below = subst P (sym (previous-inside l k (omega arith) (omega arith))) (at (k - 1) (omega arith));
          }) (way.done k d some under inside);
      whole = λ d past. absurd (omega arith);
      kept = way.kept;
    }

-- one more plane of colour 1
pub following-behind : (couplings : CouplingsView) (rule : SlotRule) (n m : ℕ) (first second now later new : List Plane) → IsFollowing couplings rule n m first second now later
    → 1 ≤ m → m < couplings.size → SweepsAt couplings now rule 1 m later new → IsFollowing couplings rule n (m + 1) first second now new
following-behind couplings rule n m first second now later new way some room swept = record {
  ahead = way.ahead;
  sized = swept.sized ∙ way.sized;
  done = λ k d one under inside. elim (cases_eq k m) [
    | inl at ↦
        let P : Plane → Type 0 = λ p. SweepsPlane couplings now rule 1 m p (get_or new m d) in
        let Q : ℕ → Type 0 = λ i. SweepsPlane couplings now rule 1 i (get_or second i d) (get_or new i d) in
        subst Q (sym at) (subst P (way.kept m d (λ first_one below. omega arith) (λ start. omega arith)) (swept.done d))
    | inr apart ↦
        let P : Plane → Type 0 = λ p. SweepsPlane couplings now rule 1 k (get_or second k d) p in
        subst P (sym (swept.kept k d apart)) (way.done k d one (omega arith) inside)
  ];
  whole = λ d past. absurd (omega arith);
  kept = λ k d later last.
      swept.kept k d (λ at. absurd (omega (arith, later (omega arith) (omega arith))))
      ∙ way.kept k d (λ one inside. omega (arith, later one inside)) (λ start. omega arith);
}

-- and plane 0 of colour 1, which comes last
pub following-last : (couplings : CouplingsView) (rule : SlotRule) (n m : ℕ) (first second now later new : List Plane) → IsFollowing couplings rule n m first second now later
    → m ≡ couplings.size → 1 ≤ m → SweepsAt couplings now rule 1 0 later new → IsFollowing couplings rule n (m + 1) first second now new
following-last couplings rule n m first second now later new way all some swept = record {
  ahead = way.ahead;
  sized = swept.sized ∙ way.sized;
  done = λ k d one under inside.
      let P : Plane → Type 0 = λ p. SweepsPlane couplings now rule 1 k (get_or second k d) p in
      subst P (sym (swept.kept k d (λ at. absurd (omega arith)))) (way.done k d one (omega arith) inside);
  whole = λ d past.
      let P : Plane → Type 0 = λ p. SweepsPlane couplings now rule 1 0 p (get_or new 0 d) in
      subst P (way.kept 0 d (λ one inside. absurd (omega arith)) (λ start. omega arith)) (swept.done d);
  kept = λ k d later last.
      swept.kept k d (λ at. absurd (omega (arith, last at)))
      ∙ way.kept k d (λ one inside. absurd (omega (arith, later one inside))) (λ start. absurd (omega (arith, last start)));
}

-- all planes of both colours
pub following-first : (couplings : CouplingsView) (rule : SlotRule) (n m : ℕ) (first second now later : List Plane) → n ≡ couplings.size → IsFollowing couplings rule n m first second now later
    → Changed (SweepsPlane couplings second rule 0) couplings.size first now
following-first couplings rule n m first second now later all way =
    let S : ℕ → Type 0 = λ i. Changed (SweepsPlane couplings second rule 0) i first now in
    subst S all way.ahead

pub following-second : (couplings : CouplingsView) (rule : SlotRule) (n m : ℕ) (first second now later : List Plane) → m ≡ couplings.size + 1 → 1 ≤ couplings.size → IsFollowing couplings rule n m first second now later
    → Changed (SweepsPlane couplings now rule 1) couplings.size second later
following-second couplings rule n m first second now later all some way = record {
  sized = way.sized;
  done = λ k d under. elim (cases_eq k 0) [
    | inl at ↦
        let Q : ℕ → Type 0 = λ i. SweepsPlane couplings now rule 1 i (get_or second i d) (get_or later i d) in
        subst Q (sym at) (way.whole d (omega arith))
    | inr apart ↦ way.done k d (omega arith) (omega arith) under
  ];
  kept = λ k d past. way.kept k d (λ one inside. absurd (omega arith)) (λ start. absurd (omega arith));
}

-- ---- one plane of a list

pub sweeps-at : (couplings : CouplingsView) (other : List Plane) (rule : SlotRule) (c z : ℕ) (old : List Plane) (x y : Plane) → All (FitsPlane couplings.size) old → z < length old
    → x ≡ get_or old z x → SweepsPlane couplings other rule c z x y → SweepsAt couplings other rule c z old (set old z y)
sweeps-at couplings other rule c z old x y fit within read swept = record {
  sized = length-set old z y;
  done = λ d.
      let P : Plane → Type 0 = λ p. SweepsPlane couplings other rule c z (get_or old z d) p in
      let Q : Plane → Type 0 = λ p. SweepsPlane couplings other rule c z p y in
      subst P (sym (get_or-set_same old z y d within)) (subst Q (get_or_read old z x within read d) swept);
  kept = λ k d apart. get_or-set_other old z k y d apart;
  fit = λ k d inside. elim (cases_eq k z) [
    | inl at ↦
        let P : Plane → Type 0 = λ p. FitsPlane couplings.size p in
        let Q : ℕ → Type 0 = λ i. FitsPlane couplings.size (get_or (set old z y) i d) in
        subst Q (sym at) (subst P (sym (get_or-set_same old z y d within)) swept.fits)
    | inr apart ↦
        let P : Plane → Type 0 = λ p. FitsPlane couplings.size p in
        subst P (sym (get_or-set_other old z k y d apart)) (fit k d (omega (arith, length-set old z y)))
  ];
}
