-- Which side of a pair a slot is on.
use Rattle.std.proofs.Common.{arith, ◌≡◌, inl, inr, ◌⊎◌, ℕ, ◌+◌, ◌-◌, ◌*◌, ◌%◌, ◌<◌, ◌≤◌, ◌≢◌, true, false, not, refl, sym, ◌∙◌, subst}
use Rattle.std.proofs.lemmas.Bool.{eqb-true, eq-eqb, ne_eqb, ltb-true, lt-ltb, false≢true, cases_lt}
use Rattle.std.proofs.lemmas.Bool.Decides.{eqb_tells}
use Rattle.scalar_rule.specs.Positions.{turns, HasSameTurns}
use Rattle.scalar_rule.specs.Epoch.{has_turn, has_partner, partner, pair_of}

pub record Low (t e : ℕ) : Type 0 where
  pub parity : (t + e) % 2 ≡ 0
  pub low : has_turn t e ≡ true
  pub partner_is : partner t e ≡ t + 1
  pub pair_is : pair_of t e ≡ t

pub record High (t e : ℕ) : Type 0 where
  pub parity : (t + e) % 2 ≡ 1
  pub low : has_turn t e ≡ false
  pub partner_is : partner t e ≡ t - 1
  pub pair_is : pair_of t e ≡ t - 1

pub low-side : (t e : ℕ) → (t + e) % 2 ≡ 0 → Low t e
low-side t e h = let low : has_turn t e ≡ true = eq-eqb _ _ h in record { parity = h; low = low; partner_is = rw low refl; pair_is = rw low refl }

pub high-side : (t e : ℕ) → (t + e) % 2 ≡ 1 → High t e
high-side t e h = let low : has_turn t e ≡ false = ne_eqb _ _ (λ z. omega arith) in record { parity = h; low = low; partner_is = rw low refl; pair_is = rw low refl }

pub sides : (t e : ℕ) → Low t e ⊎ High t e
sides t e = elim (eqb_tells ((t + e) % 2) 0) [ inl a ↦ inl (low-side t e a.1) | inr a ↦ inr (high-side t e (omega arith)) ]

pub low-partner : (n t e : ℕ) → Low t e → has_partner n t e ≡ true → t + 1 < n
low-partner n t e s h = ltb-true _ _ (rw s.low at h)

pub high-partner : (n t e : ℕ) → High t e → has_partner n t e ≡ true → 0 < t
high-partner n t e s h = ltb-true _ _ (rw s.low at h)

pub partner-low : (n t e : ℕ) → Low t e → t + 1 < n → has_partner n t e ≡ true
partner-low n t e s h = rw s.low (lt-ltb _ _ h)

pub partner-high : (n t e : ℕ) → High t e → 0 < t → has_partner n t e ≡ true
partner-high n t e s h = rw s.low (lt-ltb _ _ h)

pub alone-low : (n t e : ℕ) → Low t e → has_partner n t e ≡ false → n ≤ t + 1
alone-low n t e s h = elim (cases_lt (t + 1) n) [ inl a ↦ absurd (false≢true (sym h ∙ partner-low n t e s a)) | inr a ↦ a ]

pub alone-high : (n t e : ℕ) → High t e → has_partner n t e ≡ false → t ≡ 0
alone-high n t e s h = elim (cases_lt 0 t) [ inl a ↦ absurd (false≢true (sym h ∙ partner-high n t e s a)) | inr a ↦ omega arith ]

-- the partner's side of the same pair
pub record Back (n t e p : ℕ) : Type 0 where
  pub known : p < n
  pub other : p ≢ t
  pub has : has_partner n p e ≡ true
  pub partner_is : partner p e ≡ t
  pub pair_is : pair_of p e ≡ pair_of t e
  pub low : has_turn p e ≡ not (has_turn t e)

pub back : (n t e : ℕ) → t < n → has_partner n t e ≡ true → Back n t e (partner t e)
back n t e below h = elim (sides t e) [
  | inl s ↦
      let more = low-partner n t e s h in
      let q : High (t + 1) e = high-side (t + 1) e (omega (arith, s.parity)) in
      let there : Back n t e (t + 1) = record {
        known = more;
        other = λ z. omega arith;
        has = partner-high n (t + 1) e q (omega arith);
        partner_is = q.partner_is ∙ omega arith;
        pair_is = q.pair_is ∙ (let z : t + 1 - 1 ≡ t = omega arith in z) ∙ sym s.pair_is;
        low = q.low ∙ rw s.low refl;
      } in subst (λ x. Back n t e x) (sym s.partner_is) there
  | inr s ↦
      let more = high-partner n t e s h in
      let q : Low (t - 1) e = low-side (t - 1) e (omega (arith, s.parity)) in
      let there : Back n t e (t - 1) = record {
        known = omega arith;
        other = λ z. omega arith;
        has = partner-low n (t - 1) e q (omega arith);
        partner_is = q.partner_is ∙ omega arith;
        pair_is = q.pair_is ∙ sym s.pair_is;
        low = q.low ∙ rw s.low refl;
      } in subst (λ x. Back n t e x) (sym s.partner_is) there
]

-- where these numbers are equal the same turns lie below two epochs
turns-below : (k a c : ℕ) → turns k a ≡ turns k c → (f : ℕ) → (k + f) % 2 ≡ 0 → f < a → f < c
turns-below k a c same f active below = omega arith

pub turns-say : (k a c : ℕ) → turns k a ≡ turns k c → HasSameTurns k a c
turns-say k a c same f turn = let even = eqb-true ((k + f) % 2) 0 turn in (turns-below k a c same f even, turns-below k c a (sym same) f even)

no-more : (k a c : ℕ) → ((f : ℕ) → has_turn k f ≡ true → f < c → f < a) → turns k c ≤ turns k a
no-more k a c all = elim (cases_lt (turns k a) (turns k c)) [
  | inl less ↦ let f : ℕ = 2 * turns k a + k % 2 in let z = all f (eq-eqb _ _ (omega arith)) (omega arith) in absurd (omega arith)
  | inr more ↦ more
]

pub turns-from : (k a c : ℕ) → ((f : ℕ) → has_turn k f ≡ true → f < a → f < c) → ((f : ℕ) → has_turn k f ≡ true → f < c → f < a) → turns k a ≡ turns k c
turns-from k a c there back = let x = no-more k a c back in let y = no-more k c a there in omega arith
