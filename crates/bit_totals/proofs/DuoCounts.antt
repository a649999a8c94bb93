-- The planes of colour 1 are counted as they are swept: what a plane's count is by stands then as at the end of the sweep.
use Rattle.std.proofs.Common.{inl, inr, ◌≡◌, ℕ, suc, ◌+◌, ◌-◌, ◌*◌, ◌/◌, ◌%◌, ◌<◌, ◌≤◌, List, ◌++◌, length, take, drop, get_or, set, refl, ap, sym, subst, ◌∙◌, arith}
use Rattle.std.proofs.lemmas.Bool.{cases_lt}
use Rattle.std.proofs.lemmas.List.{take-append-drop, take_at, drop_at, get_or-set_same}
use Rattle.coupling_set.specs.CouplingWords.{CouplingsView, bonds_of}
use Rattle.spin_model.specs.Lattice.{IsLawfulSize, half_plane, next, previous}
use Rattle.scalar_rule.specs.Positions.{sum_below}
use Rattle.scalar_rule.proofs.Extremes.{sum-same, sum-most}
use Rattle.threshold_table.specs.declared.rule_table.SlotRule.{SlotRule}
use Rattle.plane_sweep.specs.Neighbourhood.{pulls}
use Rattle.plane_sweep.specs.Order.{IsTurnAfter, FitsColours, SweepsTurn, SweepsBehind}
use Rattle.plane_sweep.specs.Packed.{plane_at, spins_of}
use Rattle.plane_sweep.specs.declared.order.Turn.{Turn}
use Rattle.plane_sweep.specs.declared.replica.Plane.{Plane}
use Rattle.plane_sweep.proofs.BothColours.{IsAhead, IsAt, front-long, way-begun, way-ahead, way-behind, way-last, way-ended}
use Rattle.plane_sweep.proofs.Empties.{no_plane}
use Rattle.plane_sweep.proofs.Following.{IsSameAround, pulls-around}
use Rattle.plane_sweep.proofs.FourLanes.{next-inside, next-around, previous-inside}
use Rattle.bit_totals.specs.Counted.{unsatisfied_from}
use Rattle.bit_totals.specs.CountedTurns.{CountsTurn, HasRoom, SweepsAndCounts}
use Rattle.bit_totals.specs.RowBonds.{against_count, plane_count, planes_count, behind_count}
use Rattle.bit_totals.specs.Tallies.{tallied}
use Rattle.bit_totals.proofs.ColourBonds.{sum-behind}
use Rattle.bit_totals.proofs.LastSweep.{second-bonds}
use Rattle.bit_totals.proofs.PlaceCounts.{plane-room}
use Rattle.bit_totals.proofs.PlaneBonds.{plane-le}

-- ---- what a plane's count reads

count-around : (couplings : CouplingsView) (c z b n : ℕ) (other other' : List Plane) (own : List ℕ) → IsSameAround couplings.size z other other'
    → plane_count couplings other c z own b n ≡ plane_count couplings other' c z own b n
unfolding plane_count
count-around couplings c z b n other other' own same =
    let half = couplings.size / 2 in
    sum-same (λ j. against_count (pulls couplings other c z (j / half) (j % half)) (get_or own j 0) b)
    (λ j. against_count (pulls couplings other' c z (j / half) (j % half)) (get_or own j 0) b) n
    (λ j below. ap (λ six. against_count six (get_or own j 0) b) (pulls-around couplings c z (j / half) (j % half) other other' same))

-- ---- the planes of colour 1 in the order in which they are swept

pub behind-none : (couplings : CouplingsView) (other own : List Plane) (b : ℕ) → behind_count couplings other own b 0 ≡ 0
unfolding behind_count sum_below
behind-none couplings other own b = refl

behind-same : (couplings : CouplingsView) (other other' own own' : List Plane) (b n : ℕ) → ((k : ℕ) → k < n → IsSameAround couplings.size (next couplings.size k) other' other)
    → ((k : ℕ) → k < n → plane_at own' (next couplings.size k) ≡ plane_at own (next couplings.size k)) → behind_count couplings other' own' b n ≡ behind_count couplings other own b n
unfolding behind_count
behind-same couplings other other' own own' b n around kept =
    let l = couplings.size in
    let h = half_plane l in
    sum-same (λ k. plane_count couplings other' 1 (next l k) (plane_at own' (next l k)).words b h) (λ k. plane_count couplings other 1 (next l k) (plane_at own (next l k)).words b h) n
    (λ k below.
    count-around couplings 1 (next l k) b h other' other (plane_at own' (next l k)).words (around k below)
    ∙ ap (λ (p : Plane). plane_count couplings other 1 (next l k) p.words b h) (kept k below))

behind-next : (couplings : CouplingsView) (other own : List Plane) (b n : ℕ)
    → behind_count couplings other own b (suc n) ≡ behind_count couplings other own b n + plane_count couplings other 1 (next couplings.size n) (plane_at own (next couplings.size n)).words b (half_plane couplings.size)
unfolding behind_count sum_below
behind-next couplings other own b n = refl

pub behind-few : (couplings : CouplingsView) (other own : List Plane) (b n : ℕ) → IsLawfulSize couplings.size → behind_count couplings other own b n ≤ n * 12288
unfolding behind_count
behind-few couplings other own b n lawful =
    let l = couplings.size in
    sum-most (λ k. plane_count couplings other 1 (next l k) (plane_at own (next l k)).words b (half_plane l)) n 12288
    (λ k below. omega (arith, plane-le couplings other 1 (next l k) b (plane_at own (next l k)).words (half_plane l), plane-room l lawful))

-- all of them
behind-all : (couplings : CouplingsView) (other own : List Plane) (b n : ℕ) → n + 1 ≡ couplings.size → behind_count couplings other own b (suc n) ≡ planes_count couplings other 1 own b (1 + n)
unfolding planes_count behind_count sum_below
behind-all couplings other own b n all =
    let l = couplings.size in
    let term = λ (z : ℕ). plane_count couplings other 1 z (plane_at own z).words b (half_plane l) in
    let cut = sum-behind term 1 n in
    let one : sum_below term 1 ≡ 0 + term 0 = refl in
    let more : sum_below (λ k. term (next l k)) (suc n) ≡ sum_below (λ k. term (next l k)) n + term (next l n) = refl in
    let before = sum-same (λ k. term (next l k)) (λ k. term (1 + k)) n (λ k below. ap term (next-inside l k (omega arith) ∙ omega arith)) in
    let last = ap term (next-around l n all) in
    omega (arith, cut, one, more, before, last)

-- ---- the way of a sweep

-- planes of colour 0 below n are swept, those of colour 1 from 1 on below m are, and these are counted
pub record IsCounting (couplings : CouplingsView) (rule : SlotRule) (i : ℕ) (turn : Turn) (old now : List Plane) (rows : List (List ℕ)) : Type 0 where
  pub n : ℕ
  pub m : ℕ
  pub at : IsAt couplings rule i n m turn old now
  pub some : 1 ≤ m
  pub counted : (b : ℕ) → b < 64 → tallied rows b ≡ behind_count couplings (take couplings.size now) (drop couplings.size now) b (m - 1)

pub counting-begun : (couplings : CouplingsView) (rule : SlotRule) (turn : Turn) (old : List Plane) (rows : List (List ℕ)) → IsLawfulSize couplings.size → turn ≡ (record { colour = 0; z = 0 }) → FitsColours couplings.size old
    → ((b : ℕ) → tallied rows b ≡ 0) → IsCounting couplings rule 0 turn old old rows
counting-begun couplings rule turn old rows lawful first fits none =
    let T : Turn → Type 0 = λ t. IsAt couplings rule 0 0 1 t old old in
    record {
      n = 0;
      m = 1;
      at = subst T (sym first) (way-begun couplings rule old (omega arith) fits);
      some = omega arith;
      counted = λ b h. none b ∙ sym (behind-none couplings (take couplings.size old) (drop couplings.size old) b);
    }

-- a plane of colour 0: those before it of colour 1 count as they did
counted-ahead : (couplings : CouplingsView) (rule : SlotRule) (i n m b : ℕ) (turn : Turn) (old now new : List Plane) → IsAhead couplings.size n m turn → SweepsTurn couplings rule turn.colour turn.z now new
    → behind_count couplings (take couplings.size new) (drop couplings.size new) b (m - 1) ≡ behind_count couplings (take couplings.size now) (drop couplings.size now) b (m - 1)
counted-ahead couplings rule i n m b turn old now new at swept =
    let l = couplings.size in
    let step = swept.ahead at.colour in
    let z = at.z in
    let below = at.below in
    let P : ℕ → Type 0 = λ j. plane_at (take l new) j ≡ plane_at (take l now) j in
    let front : (j : ℕ) → j < n → P j = λ j less. step.swept.kept j no_plane (λ is. absurd (omega arith)) in
    behind-same couplings (take l now) (take l new) (drop l now) (drop l new) b (m - 1)
    (λ k under.
    let far : m + 1 ≡ n = elim (cases_lt n 2) [ inl small ↦ absurd (omega (arith, at.near small)) | inr large ↦ at.far (omega arith) ] in
    let is : next l k ≡ k + 1 = next-inside l k (omega arith) in
    let A : ℕ → Type 0 = λ j. IsSameAround l j (take l new) (take l now) in
    subst A (sym is) (record {
      here = front (k + 1) (omega arith);
      above = subst P (sym (next-inside l (k + 1) (omega arith))) (front (k + 1 + 1) (omega arith));
      below = subst P (sym (previous-inside l (k + 1) (omega arith) (omega arith))) (front (k + 1 - 1) (omega arith));
    }))
    (λ k under. ap (λ planes. plane_at planes (next l k)) step.kept)

-- one more of colour 1
counted-behind : (couplings : CouplingsView) (rule : SlotRule) (m z b count count' : ℕ) (now new : List Plane) → 1 ≤ m → m ≤ couplings.size → z ≡ next couplings.size (m - 1) → SweepsBehind couplings rule z now new
    → count ≡ behind_count couplings (take couplings.size now) (drop couplings.size now) b (m - 1)
    → count' ≡ count + plane_count couplings (take couplings.size new) 1 z (plane_at (drop couplings.size new) z).words b (half_plane couplings.size)
    → count' ≡ behind_count couplings (take couplings.size new) (drop couplings.size new) b (m + 1 - 1)
counted-behind couplings rule m z b count count' now new some room place step before more =
    let l = couplings.size in
    let n = m - 1 in
    let same =
    behind-same couplings (take l now) (take l new) (drop l now) (drop l new) b n
    (λ k below. record {
      here = ap (λ planes. plane_at planes (next l k)) step.kept;
      above = ap (λ planes. plane_at planes (next l (next l k))) step.kept;
      below = ap (λ planes. plane_at planes (previous l (next l k))) step.kept;
    })
    (λ k below. step.swept.kept (next l k) no_plane (λ at.
    let is : next l k ≡ k + 1 = next-inside l k (omega arith) in
    elim (cases_lt m l) [
      | inl inside ↦
          let last : next l n ≡ n + 1 = next-inside l n (omega arith) in
          absurd (omega arith)
      | inr around ↦
          let last : next l n ≡ 0 = next-around l n (omega arith) in
          absurd (omega arith)
    ]))
    in
    let P : ℕ → Type 0 = λ j. count' ≡ count + plane_count couplings (take l new) 1 j (plane_at (drop l new) j).words b (half_plane l) in
    let added = subst P place more in
    let next_one = behind-next couplings (take l new) (drop l new) b n in
    let sum : count' ≡ behind_count couplings (take l new) (drop l new) b (suc n) = omega (arith, added, before, same, next_one) in
    let end : suc n ≡ m + 1 - 1 = omega arith in
    sum ∙ ap (behind_count couplings (take l new) (drop l new) b) end

-- a turn
pub counting-more : (couplings : CouplingsView) (rule : SlotRule) (i side : ℕ) (turn after : Turn) (old now new : List Plane) (rows rows' : List (List ℕ)) → IsLawfulSize couplings.size → i < 2 * couplings.size
    → IsCounting couplings rule i turn old now rows → SweepsTurn couplings rule turn.colour turn.z now new → CountsTurn couplings turn.colour turn.z new rows rows' → side ≡ couplings.size → IsTurnAfter side turn after
    → IsCounting couplings rule (i + 1) after old new rows'
counting-more couplings rule i side turn after old now new rows rows' lawful under way swept counts same is_next =
    let l = couplings.size in
    let n = way.n in
    let m = way.m in
    let A : ℕ → Type 0 = λ k. IsTurnAfter k turn after in
    let is = subst A same is_next in
    elim (way.at.place under) [
      | inl at ↦ record {
        n = n + 1;
        m = m;
        at = way-ahead couplings rule i n m turn after old now new lawful.0 way.at at swept is;
        some = way.some;
        counted = λ b h. counts.ahead at.colour b h ∙ way.counted b h ∙ sym (counted-ahead couplings rule i n m b turn old now new at swept);
      }
      | inr other ↦ elim other [
        | inl at ↦
            let below = at.below in
            record {
              n = n;
              m = m + 1;
              at = way-behind couplings rule i n m turn after old now new lawful.0 way.at at swept is;
              some = omega arith;
              counted = λ b h.
                  let place : turn.z ≡ next l (m - 1) = at.z ∙ omega (arith, way.some) ∙ sym (next-inside l (m - 1) (omega (arith, way.some))) in
                  counted-behind couplings rule m turn.z b (tallied rows b) (tallied rows' b) now new way.some (omega arith) place (swept.behind at.colour) (way.counted b h) (counts.behind at.colour b h);
            }
        | inr at ↦
            let all = at.all in
            record {
              n = n;
              m = m + 1;
              at = way-last couplings rule i n m turn after old now new lawful.0 way.at at swept;
              some = omega arith;
              counted = λ b h.
                  let place : turn.z ≡ next l (m - 1) = at.z ∙ sym (next-around l (m - 1) (omega (arith, way.some))) in
                  counted-behind couplings rule m turn.z b (tallied rows b) (tallied rows' b) now new way.some (omega arith) place (swept.behind at.colour) (way.counted b h) (counts.behind at.colour b h);
            }
      ]
    ]

-- all turns: then all are counted
pub counting-ended : (couplings : CouplingsView) (rule : SlotRule) (i : ℕ) (turn : Turn) (old now : List Plane) (rows : List (List ℕ)) → IsLawfulSize couplings.size → 2 * couplings.size ≤ i → FitsColours couplings.size old
    → IsCounting couplings rule i turn old now rows → SweepsAndCounts couplings rule old now rows
counting-ended couplings rule i turn old now rows lawful all fits way =
    let l = couplings.size in
    let turns = way.at.turns in
    let most = way.at.most in
    let most_behind = way.at.most_behind in
    let last : way.m - 1 ≡ suc (l - 1) = omega (arith, lawful.0) in
    let end : 1 + (l - 1) ≡ l = omega (arith, lawful.0) in
    record {
      swept = way-ended couplings rule i way.n way.m turn old now (omega (arith, lawful.0)) all fits way.at;
      counted = λ b h.
          way.counted b h
          ∙ ap (behind_count couplings (take l now) (drop l now) b) last
          ∙ behind-all couplings (take l now) (drop l now) b (l - 1) (omega (arith, lawful.0))
          ∙ ap (planes_count couplings (take l now) 1 (drop l now) b) end
          ∙ sym (second-bonds couplings (take l now) (drop l now) b lawful (front-long l now way.at.fits.count))
          ∙ ap (λ planes. unsatisfied_from l (bonds_of couplings b) (spins_of l b planes) 1 (l * half_plane l)) (take-append-drop l now);
    }

-- a plane's count leaves room for one more
pub counting-room : (couplings : CouplingsView) (rule : SlotRule) (i : ℕ) (turn : Turn) (old now : List Plane) (rows : List (List ℕ)) → IsLawfulSize couplings.size → IsCounting couplings rule i turn old now rows
    → HasRoom couplings.size rows
counting-room couplings rule i turn old now rows lawful way = λ b h.
    let l = couplings.size in
    omega (arith, way.counted b h, way.at.most_behind, behind-few couplings (take l now) (drop l now) b (way.m - 1) lawful, plane-room l lawful, lawful.1)

-- the count of a plane of the list
pub behind-counted : (couplings : CouplingsView) (z b : ℕ) (front back : List Plane) (plane : Plane) → length front ≡ couplings.size → z < length back
    → plane_count couplings front 1 z plane.words b (half_plane couplings.size)
    ≡ plane_count couplings (take couplings.size (front ++ set back z plane)) 1 z (plane_at (drop couplings.size (front ++ set back z plane)) z).words b (half_plane couplings.size)
behind-counted couplings z b front back plane long within =
    let l = couplings.size in
    rw (take_at front (set back z plane) l long, drop_at front (set back z plane) l long, get_or-set_same back z plane no_plane within) refl
