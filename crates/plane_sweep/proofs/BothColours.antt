-- The planes of both colours of a replica in one list, colour 0 ahead of colour 1: what a turn of a sweep does to it, and
-- where all turns lead.
use Rattle.std.proofs.Common.{inl, inr, ◌≡◌, ℕ, ◌+◌, ◌*◌, ◌<◌, ◌≤◌, ◌⊎◌, List, ◌++◌, All, length, take, drop, get_or, set, refl, sym, subst, ◌∙◌, arith, length-drop, length-append}
use Rattle.std.proofs.lemmas.Bool.{cases_lt}
use Rattle.std.proofs.lemmas.List.{take_at, drop_at, length-take-le}
use Rattle.std.proofs.lemmas.List.Elements.{All-append, All-take, All-drop}
use Rattle.coupling_set.specs.CouplingWords.{CouplingsView}
use Rattle.plane_sweep.specs.Order.{IsTurnAfter, FitsColours, SweepsTurn}
use Rattle.plane_sweep.specs.Packed.{FitsPlane}
use Rattle.plane_sweep.specs.PlaneSweep.{SweepsAt, SweepsPlane, SweepsColours}
use Rattle.plane_sweep.specs.declared.order.Turn.{Turn}
use Rattle.plane_sweep.specs.declared.replica.Plane.{Plane}
use Rattle.threshold_table.specs.declared.rule_table.SlotRule.{SlotRule}
use Rattle.plane_sweep.proofs.FourLanes.{next-inside, next-around}
use Rattle.plane_sweep.proofs.Following.{IsFollowing, following-none, following-ahead, following-behind, following-last, following-first, following-second, sweeps-at}

-- ---- the halves of the list

pub front-long : (l : ℕ) (planes : List Plane) → length planes ≡ 2 * l → length (take l planes) ≡ l
front-long l planes count = length-take-le l planes (omega arith)

pub back-long : (l : ℕ) (planes : List Plane) → length planes ≡ 2 * l → length (drop l planes) ≡ l
back-long l planes count = length-drop l planes ∙ omega arith

-- the two halves of such a list
pub record AreHalves (l : ℕ) (planes front back : List Plane) : Type 0 where
  pub front_long : length front ≡ l
  pub back_long : length back ≡ l
  pub front_fit : All (FitsPlane l) front
  pub back_fit : All (FitsPlane l) back

pub halves : (l : ℕ) (planes front back : List Plane) → FitsColours l planes → front ≡ take l planes → back ≡ drop l planes → AreHalves l planes front back
halves l planes front back fits is_front is_back =
    let P : Plane → Type 0 = FitsPlane l in
    rw (is_front, is_back) (record {
      front_long = front-long l planes fits.count;
      back_long = back-long l planes fits.count;
      front_fit = All-take P l planes fits.fit;
      back_fit = All-drop P l planes fits.fit;
    })

-- ---- a plane of a colour

pub turn-ahead : (couplings : CouplingsView) (rule : SlotRule) (c z : ℕ) (old front back : List Plane) (x y : Plane) → c ≡ 0 → FitsColours couplings.size old → z < couplings.size
    → front ≡ take couplings.size old → back ≡ drop couplings.size old → x ≡ get_or front z x → SweepsPlane couplings back rule c z x y → SweepsTurn couplings rule c z old (set front z y ++ back)
turn-ahead couplings rule c z old front back x y is fits below is_front is_back read swept =
    let l = couplings.size in
    let two = halves l old front back fits is_front is_back in
    let sized = two.front_long in
    let S : ℕ → Type 0 = λ i. SweepsPlane couplings back rule i z x y in
    let at = sweeps-at couplings back rule 0 z front x y two.front_fit (omega arith) read (subst S is swept) in
    let new = set front z y in
    let long : length new ≡ l = at.sized ∙ sized in
    let P : Plane → Type 0 = FitsPlane l in
    let head : take l (new ++ back) ≡ new = take_at new back l long in
    let tail : drop l (new ++ back) ≡ back = drop_at new back l long in
    record {
      ahead = λ _. record { swept = rw (← is_front, ← is_back, head) at; kept = tail ∙ is_back };
      behind = λ one. absurd (omega arith);
      fits = record {
        count = length-append new back ∙ omega (arith, two.back_long);
        fit = All-append P new back at.fit two.back_fit;
      };
    }

pub turn-behind : (couplings : CouplingsView) (rule : SlotRule) (c z : ℕ) (old front back : List Plane) (x y : Plane) → c ≡ 1 → FitsColours couplings.size old → z < couplings.size
    → front ≡ take couplings.size old → back ≡ drop couplings.size old → x ≡ get_or back z x → SweepsPlane couplings front rule c z x y → SweepsTurn couplings rule c z old (front ++ set back z y)
turn-behind couplings rule c z old front back x y is fits below is_front is_back read swept =
    let l = couplings.size in
    let two = halves l old front back fits is_front is_back in
    let sized = two.back_long in
    let S : ℕ → Type 0 = λ i. SweepsPlane couplings front rule i z x y in
    let at = sweeps-at couplings front rule 1 z back x y two.back_fit (omega arith) read (subst S is swept) in
    let new = set back z y in
    let P : Plane → Type 0 = FitsPlane l in
    let head : take l (front ++ new) ≡ front = take_at front new l two.front_long in
    let tail : drop l (front ++ new) ≡ new = drop_at front new l two.front_long in
    record {
      ahead = λ zero. absurd (omega arith);
      behind = λ _. record { swept = rw (← is_front, ← is_back, tail) at; kept = head ∙ is_front };
      fits = record {
        count = length-append front new ∙ omega (arith, two.front_long, at.sized);
        fit = All-append P front new two.front_fit at.fit;
      };
    }

-- ---- the way of a sweep

-- where a turn stands when planes of colour 0 below n are swept, and those of colour 1 from 1 on below m
pub record IsAhead (l n m : ℕ) (turn : Turn) : Type 0 where
  pub colour : turn.colour ≡ 0
  pub z : turn.z ≡ n
  pub below : n < l
  pub some : 1 ≤ m
  pub near : n < 2 → m ≡ 1
  pub far : 2 ≤ n → m + 1 ≡ n

pub record IsBehind (l n m : ℕ) (turn : Turn) : Type 0 where
  pub colour : turn.colour ≡ 1
  pub z : turn.z ≡ m
  pub some : 1 ≤ m
  pub below : m < l
  pub beside : m + 2 ≤ l → n ≡ m + 2
  pub all : l ≤ m + 2 → n ≡ l

pub record IsLast (l n m : ℕ) (turn : Turn) : Type 0 where
  pub colour : turn.colour ≡ 1
  pub z : turn.z ≡ 0
  pub all : m ≡ l
  pub all_ahead : n ≡ l

-- the planes after the first i turns of a sweep, which were those, and the turn behind them
pub record IsAt (couplings : CouplingsView) (rule : SlotRule) (i n m : ℕ) (turn : Turn) (old now : List Plane) : Type 0 where
  pub turns : i + 1 ≡ n + m
  pub most : n ≤ couplings.size
  pub most_behind : m ≤ couplings.size + 1
  pub place : i < 2 * couplings.size → IsAhead couplings.size n m turn ⊎ (IsBehind couplings.size n m turn ⊎ IsLast couplings.size n m turn)
  pub following : IsFollowing couplings rule n m (take couplings.size old) (drop couplings.size old) (take couplings.size now) (drop couplings.size now)
  pub fits : FitsColours couplings.size now

-- the planes after the first i turns of a sweep, and the turn behind them
pub record IsOnTheWay (couplings : CouplingsView) (rule : SlotRule) (i : ℕ) (turn : Turn) (old now : List Plane) : Type 0 where
  pub n : ℕ
  pub m : ℕ
  pub at : IsAt couplings rule i n m turn old now

-- before the first turn
pub way-begun : (couplings : CouplingsView) (rule : SlotRule) (old : List Plane) → 2 ≤ couplings.size → FitsColours couplings.size old → IsAt couplings rule 0 0 1 (record { colour = 0; z = 0 }) old old
way-begun couplings rule old large fits = record {
  turns = refl;
  most = omega arith;
  most_behind = omega arith;
  place = λ _. inl (record { colour = refl; z = refl; below = omega arith; some = omega arith; near = λ _. refl; far = λ large_one. absurd (omega arith) });
  following = following-none couplings rule (take couplings.size old) (drop couplings.size old) (omega arith);
  fits = fits;
}

-- a turn: of a plane of colour 0, of one of colour 1, and of its plane 0
pub way-ahead : (couplings : CouplingsView) (rule : SlotRule) (i n m : ℕ) (turn after : Turn) (old now new : List Plane) → 4 ≤ couplings.size → IsAt couplings rule i n m turn old now
    → IsAhead couplings.size n m turn → SweepsTurn couplings rule turn.colour turn.z now new → IsTurnAfter couplings.size turn after → IsAt couplings rule (i + 1) (n + 1) m after old new
way-ahead couplings rule i n m turn after old now new large way at swept is =
    let l = couplings.size in
    let turns = way.turns in
    let most = way.most in
    let z = at.z in
    let below = at.below in
    let some = at.some in
    let step = swept.ahead at.colour in
    let S : ℕ → Type 0 = λ k. SweepsAt couplings (drop l now) rule 0 k (take l now) (take l new) in
    let W : List Plane → Type 0 = λ back. IsFollowing couplings rule (n + 1) m (take l old) (drop l old) (take l new) back in
    let far : 2 ≤ n → m + 1 ≤ n = λ is_far. omega (arith, at.far is_far) in
    let near : n < 2 → m ≤ 1 = λ is_near. omega (arith, at.near is_near) in
    let room : m < l = elim (cases_lt n 2) [ inl small ↦ omega (arith, near small) | inr other ↦ omega (arith, far (omega arith)) ] in
    record {
      turns = omega arith;
      most = omega arith;
      most_behind = omega arith;
      place = λ _. elim (cases_lt n 2) [
        | inl small ↦
            let next_one = is.begun at.colour (omega arith) in
            let c = next_one.0 in
            let place = next_one.1 in
            inl (record { colour = c; z = omega arith; below = omega arith; some = some; near = λ _. at.near small; far = λ is_far. omega (arith, at.near small) })
        | inr other ↦
            let next_one = is.follows at.colour (omega arith) in
            let c = next_one.0 in
            let place = next_one.1 in
            let before = at.far (omega arith) in
            inr (inl (record { colour = c; z = omega arith; some = some; below = room; beside = λ is_beside. omega arith; all = λ is_all. omega arith }))
      ];
      following = subst W (sym step.kept) (following-ahead couplings rule n m (take l old) (drop l old) (take l now) (drop l now) (take l new) way.following below room far near (subst S z step.swept));
      fits = swept.fits;
    }

pub way-behind : (couplings : CouplingsView) (rule : SlotRule) (i n m : ℕ) (turn after : Turn) (old now new : List Plane) → 4 ≤ couplings.size → IsAt couplings rule i n m turn old now
    → IsBehind couplings.size n m turn → SweepsTurn couplings rule turn.colour turn.z now new → IsTurnAfter couplings.size turn after → IsAt couplings rule (i + 1) n (m + 1) after old new
way-behind couplings rule i n m turn after old now new large way at swept is =
    let l = couplings.size in
    let turns = way.turns in
    let most = way.most in
    let z = at.z in
    let below = at.below in
    let some = at.some in
    let step = swept.behind at.colour in
    let S : ℕ → Type 0 = λ k. SweepsAt couplings (take l now) rule 1 k (drop l now) (drop l new) in
    let W : List Plane → Type 0 = λ front. IsFollowing couplings rule n (m + 1) (take l old) (drop l old) front (drop l new) in
    record {
      turns = omega arith;
      most = most;
      most_behind = omega arith;
      place = λ _. elim (cases_lt (m + 2) l) [
        | inl inside ↦
            let next_one = is.goes_on at.colour (omega arith) in
            let c = next_one.0 in
            let place = next_one.1 in
            let beside = at.beside (omega arith) in
            inl (record { colour = c; z = omega arith; below = omega arith; some = omega arith; near = λ is_near. absurd (omega arith); far = λ is_far. omega arith })
        | inr end ↦
            let next_one = is.ends at.colour (omega arith) in
            let c = next_one.0 in
            let place = next_one.1 in
            let all = at.all (omega arith) in
            elim (cases_lt (turn.z + 1) l) [
              | inl inside ↦
                  let at_next = next-inside l turn.z inside in
                  inr (inl (record { colour = c; z = place ∙ at_next ∙ omega arith; some = omega arith; below = omega arith; beside = λ is_beside. absurd (omega arith); all = λ _. all }))
              | inr around ↦ inr (inr (record { colour = c; z = place ∙ next-around l turn.z (omega arith); all = omega arith; all_ahead = all }))
            ]
      ];
      following = subst W (sym step.kept) (following-behind couplings rule n m (take l old) (drop l old) (take l now) (drop l now) (drop l new) way.following some below (subst S z step.swept));
      fits = swept.fits;
    }

pub way-last : (couplings : CouplingsView) (rule : SlotRule) (i n m : ℕ) (turn after : Turn) (old now new : List Plane) → 4 ≤ couplings.size → IsAt couplings rule i n m turn old now
    → IsLast couplings.size n m turn → SweepsTurn couplings rule turn.colour turn.z now new → IsAt couplings rule (i + 1) n (m + 1) after old new
way-last couplings rule i n m turn after old now new large way at swept =
    let l = couplings.size in
    let turns = way.turns in
    let all = at.all in
    let all_ahead = at.all_ahead in
    let step = swept.behind at.colour in
    let S : ℕ → Type 0 = λ k. SweepsAt couplings (take l now) rule 1 k (drop l now) (drop l new) in
    let W : List Plane → Type 0 = λ front. IsFollowing couplings rule n (m + 1) (take l old) (drop l old) front (drop l new) in
    record {
      turns = omega arith;
      most = omega arith;
      most_behind = omega arith;
      place = λ more. absurd (omega arith);
      following = subst W (sym step.kept) (following-last couplings rule n m (take l old) (drop l old) (take l now) (drop l now) (drop l new) way.following all (omega arith) (subst S at.z step.swept));
      fits = swept.fits;
    }

pub way-more : (couplings : CouplingsView) (rule : SlotRule) (i side : ℕ) (turn after : Turn) (old now new : List Plane) → 4 ≤ couplings.size → i < 2 * couplings.size → IsOnTheWay couplings rule i turn old now
    → SweepsTurn couplings rule turn.colour turn.z now new → side ≡ couplings.size → IsTurnAfter side turn after → IsOnTheWay couplings rule (i + 1) after old new
way-more couplings rule i side turn after old now new large under way swept same is_next =
    let n = way.n in
    let m = way.m in
    let A : ℕ → Type 0 = λ k. IsTurnAfter k turn after in
    let is = subst A same is_next in
    elim (way.at.place under) [
      | inl at ↦ record { n = n + 1; m = m; at = way-ahead couplings rule i n m turn after old now new large way.at at swept is }
      | inr other ↦ elim other [
        | inl at ↦ record { n = n; m = m + 1; at = way-behind couplings rule i n m turn after old now new large way.at at swept is }
        | inr at ↦ record { n = n; m = m + 1; at = way-last couplings rule i n m turn after old now new large way.at at swept }
      ]
    ]

-- all turns
pub way-ended : (couplings : CouplingsView) (rule : SlotRule) (i n m : ℕ) (turn : Turn) (old now : List Plane) → 1 ≤ couplings.size → 2 * couplings.size ≤ i → FitsColours couplings.size old
    → IsAt couplings rule i n m turn old now → SweepsColours couplings rule old now
way-ended couplings rule i n m turn old now some all fits way =
    let l = couplings.size in
    let a = way.turns in
    let b = way.most in
    let c = way.most_behind in
    record {
      sized = way.fits.count ∙ sym fits.count;
      first = following-first couplings rule n m (take l old) (drop l old) (take l now) (drop l now) (omega arith) way.following;
      second = following-second couplings rule n m (take l old) (drop l old) (take l now) (drop l now) (omega arith) some way.following;
    }
