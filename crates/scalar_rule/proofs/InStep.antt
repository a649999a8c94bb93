-- What positions that are in step have in common: how far apart they are, and where they all end.
use Rattle.std.proofs.Common.{arith, ◌≡◌, inl, inr, ℕ, zero, suc, ◌+◌, ◌-◌, ◌*◌, ◌<◌, ◌≤◌, Bool, true, false, cond, List, length, sym, ap, ap₂, ◌∙◌, subst}
use Rattle.std.proofs.lemmas.Bool.{cases_lt, cases_Bool, false≢true}
use Rattle.std.proofs.Math.Nat.{mul-le-mul_right}
use native.Mathlib.Nat.{mul_comm}
use Rattle.spin_model.proofs.Counts.{count-most}
use Rattle.scalar_rule.specs.Epoch.{has_turn}
use Rattle.scalar_rule.specs.Ragged.{Position}
use Rattle.scalar_rule.specs.Positions.{sum_below, done, position_in, turns, floor_of, deepest_of, least, greatest, AreInStep, pending_count}
use Rattle.scalar_rule.proofs.Extremes.{least-some, greatest-below, sum-full}
use Rattle.scalar_rule.proofs.SlotPartners.{sides, low-partner, high-partner, low-side, turns-from}

-- as many turns of a pair lie below the epochs of its two slots
level : (n : ℕ) (ps : List Position) → AreInStep n ps → (k : ℕ) → k + 1 < n → turns k (position_in ps k).epoch ≡ turns k (position_in ps (k + 1)).epoch
level n ps s k h = turns-from k _ _ (λ f turn below. (s.turns k h f turn).0 below) (λ f turn below. (s.turns k h f turn).1 below)

-- so neighbours are at most one epoch apart
chain : (n : ℕ) (E : ℕ → ℕ) → ((k : ℕ) → k + 1 < n → turns k (E k) ≡ turns k (E (k + 1))) → (m d : ℕ) → m + d < n → (E (m + d) ≤ E m + d) × (E m ≤ E (m + d) + d)
chain n E level m zero h = let z : E (m + 0) ≡ E m = (let y : m + 0 ≡ m = omega arith in ap E y) in (omega arith, omega arith)
chain n E level m (suc d) h =
    let before = chain n E level m d (omega arith) in
    let b0 = before.0 in let b1 = before.1 in
    let step = level (m + d) (omega arith) in
    let at : E (m + suc d) ≡ E (m + d + 1) = (let y : m + suc d ≡ m + d + 1 = omega arith in ap E y) in
    (omega arith, omega arith)

apart : (n : ℕ) (E : ℕ → ℕ) → ((k : ℕ) → k + 1 < n → turns k (E k) ≡ turns k (E (k + 1))) → (m t : ℕ) → m < n → t < n → E t + 1 ≤ E m + n
apart n E level m t hm ht = elim (cases_lt t m) [
  | inl less ↦
      let y : t + (m - t) ≡ m = omega arith in
      let c = chain n E level t (m - t) (omega arith) in
      let c1 = c.1 in let z : E (t + (m - t)) ≡ E m = ap E y in omega arith
  | inr more ↦
      let y : m + (t - m) ≡ t = omega arith in
      let c = chain n E level m (t - m) (omega arith) in
      let c0 = c.0 in let z : E (m + (t - m)) ≡ E t = ap E y in omega arith
]

done-epoch : (e : ℕ) (w : Bool) → (e ≤ e + cond w 1 0) × (e + cond w 1 0 ≤ e + 1)
done-epoch e true = (omega arith, omega arith)
done-epoch e false = (omega arith, omega arith)

pub done-apart : (n : ℕ) (ps : List Position) → AreInStep n ps → (m t : ℕ) → m < n → t < n → done (position_in ps t) ≤ done (position_in ps m) + n
done-apart n ps s m t hm ht =
    let a = apart n (λ k. (position_in ps k).epoch) (level n ps s) m t hm ht in
    let high = done-epoch (position_in ps t).epoch (position_in ps t).waits in
    let low = done-epoch (position_in ps m).epoch (position_in ps m).waits in
    let h1 = high.1 in let l0 = low.0 in
    omega arith

pub steps-short : (n : ℕ) (ps : List Position) → length ps ≡ n → AreInStep n ps → deepest_of ps ≤ floor_of ps + n
unfolding least greatest
steps-short zero ps long s =
    let f : ℕ → ℕ = λ t. done (position_in ps t) in
    let low : floor_of ps ≡ f 0 = ap (least f) long in
    let high : deepest_of ps ≡ f 0 = ap (greatest f) long in
    omega arith
steps-short (suc n) ps long s =
    let f : ℕ → ℕ = λ t. done (position_in ps t) in
    let low = least-some f (length ps) (omega arith) in
    let is = low.2 in
    let each : (t : ℕ) → t < length ps → f t ≤ floor_of ps + suc n = λ t h. let z = done-apart (suc n) ps s low.0 t (omega (arith, low.1)) (omega arith) in omega arith in
    greatest-below f (length ps) (floor_of ps + suc n) (each 0 (omega arith)) each

pub pending-few : (n samples every : ℕ) (ps : List Position) → length ps ≡ n → AreInStep n ps → pending_count samples every ps ≤ samples * n * n
pending-few n samples every ps long s =
    let depth = steps-short n ps long s in
    let d : deepest_of ps - floor_of ps ≤ n = omega arith in
    let x : (deepest_of ps - floor_of ps) * samples ≤ n * samples = mul-le-mul_right samples d in
    let y : n * samples ≡ samples * n = mul_comm n samples in
    let z : (deepest_of ps - floor_of ps) * samples * length ps ≤ samples * n * length ps = mul-le-mul_right (length ps) (omega arith) in
    let w : samples * n * length ps ≡ samples * n * n = ap (λ m. samples * n * m) long in
    let most = count-most _ ((deepest_of ps - floor_of ps) * samples * length ps) in
    let count : pending_count samples every ps ≤ (deepest_of ps - floor_of ps) * samples * length ps = most in
    omega arith

waits-done : (p : Position) (u : ℕ) → p.waits ≡ true → done p ≡ u → p.epoch + 1 ≡ u
waits-done p u w is = ap (λ b. p.epoch + cond b 1 0) (sym w) ∙ is

rests-done : (p : Position) (u : ℕ) → p.waits ≡ false → done p ≡ u → p.epoch ≡ u
rests-done p u w is = let z : p.epoch + cond p.waits 1 0 ≡ p.epoch + 0 = ap (λ b. p.epoch + cond b 1 0) w in omega arith

-- no slot of a pair waits where both have completed as many epochs
none-waits : (n u k : ℕ) (ps : List Position) → AreInStep n ps → k + 1 < n → done (position_in ps k) ≡ u → done (position_in ps (k + 1)) ≡ u
    → (f : ℕ) → f + 1 ≡ u → has_turn k f ≡ true → ((position_in ps k).waits ≡ false) × ((position_in ps (k + 1)).waits ≡ false)
none-waits n u k ps s h cold hot f last turn =
    let p = position_in ps k in
    let q = position_in ps (k + 1) in
    let same = s.turns k h f turn in
    elim (cases_Bool p.waits) [
      | inl pw ↦
          let pe = waits-done p u pw cold in
          elim (cases_Bool q.waits) [
            | inl qw ↦
                let qe = waits-done q u qw hot in
                let here : p.epoch ≡ f = omega arith in
                absurd (false≢true (sym (s.lone k h pw qw (omega arith)) ∙ (ap (has_turn k) here ∙ turn)))
            | inr qr ↦ let qe = rests-done q u qr hot in let z = same.1 (omega arith) in absurd (omega arith)
          ]
      | inr pr ↦
          let pe = rests-done p u pr cold in
          elim (cases_Bool q.waits) [
            | inl qw ↦ let qe = waits-done q u qw hot in let z = same.0 (omega arith) in absurd (omega arith)
            | inr qr ↦ (pr, qr)
          ]
    ]

rests : (n u : ℕ) (ps : List Position) → AreInStep n ps → ((t : ℕ) → t < n → done (position_in ps t) ≡ u) → (t : ℕ) → t < n → (position_in ps t).waits ≡ false
rests n u ps s each t h = elim (cases_Bool (position_in ps t).waits) [
  | inr off ↦ off
  | inl on ↦
      let e = (position_in ps t).epoch in
      let last = waits-done (position_in ps t) u on (each t h) in
      let has = s.partnered t h on in
      elim (sides t e) [
        | inl low ↦
            let more = low-partner n t e low has in
            (none-waits n u t ps s more (each t h) (each (t + 1) more) e last low.low).0
        | inr high ↦
            let some = high-partner n t e high has in
            let before : t - 1 + 1 ≡ t = omega arith in
            let turn = (low-side (t - 1) e (omega (arith, high.parity))).low in
            let here : done (position_in ps (t - 1 + 1)) ≡ u = ap (λ j. done (position_in ps j)) before ∙ each t h in
            let both = none-waits n u (t - 1) ps s (omega arith) (each (t - 1) (omega arith)) here e last turn in
            subst (λ j. (position_in ps j).waits ≡ false) before both.1
      ]
]

at-rest : (p : Position) (u : ℕ) → p.epoch ≡ u → p.waits ≡ false → p ≡ record { epoch = u; waits = false }
at-rest p u epoch waits = ap₂ made epoch waits
  where
    made : ℕ → Bool → Position
    made e w = record { epoch = e; waits = w }

pub completed-rest : (n u : ℕ) (ps : List Position) → AreInStep n ps → ((t : ℕ) → t < n → done (position_in ps t) ≤ u)
    → sum_below (λ t. done (position_in ps t)) n ≡ n * u → (t : ℕ) → t < n → position_in ps t ≡ record { epoch = u; waits = false }
completed-rest n u ps s most sum t h =
    let each : (j : ℕ) → j < n → done (position_in ps j) ≡ u = sum-full (λ j. done (position_in ps j)) n u most sum in
    let off = rests n u ps s each t h in
    at-rest (position_in ps t) u (rests-done (position_in ps t) u off (each t h)) off
