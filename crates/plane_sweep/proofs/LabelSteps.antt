-- Labels stay a permutation of the slots' numbers: sweeps keep them, and an exchange trades those of two slots or keeps them.
use Rattle.std.proofs.Common.{arith, ◌≡◌, ◌≢◌, inl, inr, ℕ, ◌+◌, ◌<◌, Bool, true, false, cond, List, length, set, refl, sym, ap, ap₂, ◌∙◌}
use Rattle.std.proofs.lemmas.Bool.Decides.{eqb_tells}
use Rattle.std.proofs.lemmas.Grind.{get_or-set_at}
use Rattle.std.proofs.lemmas.List.{get_or-set_other, length-set}
use Rattle.scalar_rule.specs.Plan.{Plan}
use Rattle.scalar_rule.specs.Epoch.{slot_at, swept_slot, side, has_turn, pair_of}
use Rattle.scalar_rule.specs.Exchange.{decision, traded, cold_side, hot_side}
use Rattle.scalar_rule.specs.Turns.{exchanged_pair}
use Rattle.scalar_rule.specs.declared.plain_copy.PlainCopy.{PlainCopy}
use Rattle.scalar_rule.specs.declared.sample.PlainSlot.{PlainSlot}
use Rattle.scalar_rule.specs.declared.sample.PlainPair.{PlainPair}
use Rattle.plane_sweep.specs.Packed.{Permutes, PermutesAt}
use Rattle.plane_sweep.proofs.Labels.{permutes-equal}

-- two slots have equal labels
pub record HaveSameLabels (x y : PlainSlot) : Type 0 where
  pub first : x.first.replica ≡ y.first.replica
  pub second : x.second.replica ≡ y.second.replica

pub same-labels : (x y : PlainSlot) → x ≡ y → HaveSameLabels x y
same-labels x y e = record { first = ap (λ (s : PlainSlot). s.first.replica) e; second = ap (λ (s : PlainSlot). s.second.replica) e }

pub labels-then : (x y z : PlainSlot) → HaveSameLabels x y → HaveSameLabels y z → HaveSameLabels x z
labels-then x y z a b = record { first = a.first ∙ b.first; second = a.second ∙ b.second }

-- the sweeps keep them
pub swept-labels : (plan : Plan) (b t : ℕ) (x : PlainSlot) → HaveSameLabels (swept_slot plan b t x) x
unfolding swept_slot
swept-labels plan b t x = record { first = refl; second = refl }

pub permutes-kept : (n : ℕ) (f g : ℕ → PlainSlot) → PermutesAt n f → ((t : ℕ) → t < n → HaveSameLabels (g t) (f t)) → PermutesAt n g
permutes-kept n f g p same = record {
  first = permutes-equal n (λ t. (f t).first.replica) (λ t. (g t).first.replica) p.first (λ t h. (same t h).first);
  second = permutes-equal n (λ t. (f t).second.replica) (λ t. (g t).second.replica) p.second (λ t h. (same t h).second);
}

-- g is f with the values at t and u traded where d says so
record Trades (f g : ℕ → ℕ) (t u : ℕ) (d : Bool) : Type 0 where
  one : g t ≡ cond d (f u) (f t)
  other : g u ≡ cond d (f t) (f u)
  rest : (j : ℕ) → j ≢ t → j ≢ u → g j ≡ f j

traded-permute : (n t u : ℕ) (d : Bool) (f g : ℕ → ℕ) → t < n → u < n → Trades f g t u d → Permutes n f → Permutes n g
traded-permute n t u false f g ht hu x p = permutes-equal n f g p (λ j h. elim (eqb_tells j t) [
  | inl a ↦ ap g a.1 ∙ (x.one ∙ ap f (sym a.1))
  | inr a ↦ elim (eqb_tells j u) [ inl c ↦ ap g c.1 ∙ (x.other ∙ ap f (sym c.1)) | inr c ↦ x.rest j a.1 c.1 ]
])
traded-permute n t u true f g ht hu x p = record {
  below = λ j h. elim (eqb_tells j t) [
    | inl a ↦ let z = p.below u hu in let y : g j ≡ f u = ap g a.1 ∙ x.one in omega arith
    | inr a ↦ elim (eqb_tells j u) [
      | inl c ↦ let z = p.below t ht in let y : g j ≡ f t = ap g c.1 ∙ x.other in omega arith
      | inr c ↦ let z = p.below j h in let y = x.rest j a.1 c.1 in omega arith
    ]
  ];
  apart = λ j k hj hk same. elim (eqb_tells j t) [
    | inl a ↦ let gj : g j ≡ f u = ap g a.1 ∙ x.one in elim (eqb_tells k t) [
      | inl b ↦ a.1 ∙ sym b.1
      | inr b ↦ elim (eqb_tells k u) [
        | inl c ↦ let gk : g k ≡ f t = ap g c.1 ∙ x.other in let z = p.apart u t hu ht (sym gj ∙ same ∙ gk) in a.1 ∙ (sym z ∙ sym c.1)
        | inr c ↦ let gk = x.rest k b.1 c.1 in absurd (c.1 (sym (p.apart u k hu hk (sym gj ∙ same ∙ gk))))
      ]
    ]
    | inr a ↦ elim (eqb_tells j u) [
      | inl b ↦ let gj : g j ≡ f t = ap g b.1 ∙ x.other in elim (eqb_tells k t) [
        | inl c ↦ let gk : g k ≡ f u = ap g c.1 ∙ x.one in let z = p.apart t u ht hu (sym gj ∙ same ∙ gk) in b.1 ∙ (sym z ∙ sym c.1)
        | inr c ↦ elim (eqb_tells k u) [
          | inl d ↦ b.1 ∙ sym d.1
          | inr d ↦ let gk = x.rest k c.1 d.1 in absurd (c.1 (sym (p.apart t k ht hk (sym gj ∙ same ∙ gk))))
        ]
      ]
      | inr b ↦ let gj = x.rest j a.1 b.1 in elim (eqb_tells k t) [
        | inl c ↦ let gk : g k ≡ f u = ap g c.1 ∙ x.one in absurd (b.1 (p.apart j u hj hu (sym gj ∙ same ∙ gk)))
        | inr c ↦ elim (eqb_tells k u) [
          | inl d ↦ let gk : g k ≡ f t = ap g d.1 ∙ x.other in absurd (a.1 (p.apart j t hj ht (sym gj ∙ same ∙ gk)))
          | inr d ↦ let gk = x.rest k c.1 d.1 in p.apart j k hj hk (sym gj ∙ same ∙ gk)
        ]
      ]
    ]
  ];
  onto = λ q h.
      let found = p.onto q h in
      elim (eqb_tells found.0 t) [
        | inl a ↦ (u, hu, x.other ∙ (ap f (sym a.1) ∙ found.2))
        | inr a ↦ elim (eqb_tells found.0 u) [
          | inl c ↦ (t, ht, x.one ∙ (ap f (sym c.1) ∙ found.2))
          | inr c ↦ (found.0, found.1, x.rest found.0 a.1 c.1 ∙ found.2)
        ]
      ];
}

replica-traded : (swap : Bool) (own other : PlainCopy) → (traded swap own other).replica ≡ cond swap other.replica own.replica
replica-traded true own other = refl
replica-traded false own other = refl

-- slots t and u have exchanged, t the colder, and the others have their labels
pub record Exchanges (plan : Plan) (b k t u : ℕ) (pair : PlainPair) (x y : PlainSlot) (f g : ℕ → PlainSlot) : Type 0 where
  pub cold_was : HaveSameLabels (f t) x
  pub hot_was : HaveSameLabels (f u) y
  pub cold : g t ≡ cold_side plan b k pair x y
  pub hot : g u ≡ hot_side plan b k pair x y
  pub rest : (j : ℕ) → j ≢ t → j ≢ u → HaveSameLabels (g j) (f j)

pub exchanges-permute : (plan : Plan) (n b k t u : ℕ) (pair : PlainPair) (x y : PlainSlot) (f g : ℕ → PlainSlot) → t < n → u < n
    → Exchanges plan b k t u pair x y f g → PermutesAt n f → PermutesAt n g
unfolding cold_side hot_side
exchanges-permute plan n b k t u pair x y f g ht hu e p =
    let d1 = decision plan b k pair.first x.first y.first in
    let d2 = decision plan b k pair.second x.second y.second in
    let first : Trades (λ j. (f j).first.replica) (λ j. (g j).first.replica) t u d1 = record {
      one = ap (λ (s : PlainSlot). s.first.replica) e.cold ∙ (replica-traded d1 x.first y.first ∙ ap₂ (λ v w. cond d1 v w) (sym e.hot_was.first) (sym e.cold_was.first));
      other = ap (λ (s : PlainSlot). s.first.replica) e.hot ∙ (replica-traded d1 y.first x.first ∙ ap₂ (λ v w. cond d1 v w) (sym e.cold_was.first) (sym e.hot_was.first));
      rest = λ j a c. (e.rest j a c).first;
    } in
    let second : Trades (λ j. (f j).second.replica) (λ j. (g j).second.replica) t u d2 = record {
      one = ap (λ (s : PlainSlot). s.second.replica) e.cold ∙ (replica-traded d2 x.second y.second ∙ ap₂ (λ v w. cond d2 v w) (sym e.hot_was.second) (sym e.cold_was.second));
      other = ap (λ (s : PlainSlot). s.second.replica) e.hot ∙ (replica-traded d2 y.second x.second ∙ ap₂ (λ v w. cond d2 v w) (sym e.cold_was.second) (sym e.hot_was.second));
      rest = λ j a c. (e.rest j a c).second;
    } in
    record {
      first = traded-permute n t u d1 _ _ ht hu first p.first;
      second = traded-permute n t u d2 _ _ ht hu second p.second;
    }

pub side-cold : (plan : Plan) (b e t : ℕ) (pair : PlainPair) (own other : PlainSlot) → has_turn t e ≡ true
    → side plan b e t pair own other ≡ cold_side plan b (pair_of t e) pair own other
unfolding side
side-cold plan b e t pair own other low =
    ap (λ (c : Bool). cond c (cold_side plan b (pair_of t e) pair own other) (hot_side plan b (pair_of t e) pair other own)) low

pub side-hot : (plan : Plan) (b e t k : ℕ) (pair : PlainPair) (own other : PlainSlot) → has_turn t e ≡ false → pair_of t e ≡ k
    → side plan b e t pair own other ≡ hot_side plan b k pair other own
unfolding side
side-hot plan b e t k pair own other high is =
    ap (λ (c : Bool). cond c (cold_side plan b (pair_of t e) pair own other) (hot_side plan b (pair_of t e) pair other own)) high
    ∙ ap (λ j. hot_side plan b j pair other own) is

-- the same by the sides of an epoch's exchange
pub exchange-permutes : (plan : Plan) (n b e t u : ℕ) (pair : PlainPair) (f g : ℕ → PlainSlot) (x y : PlainSlot) → t < n → u < n
    → has_turn t e ≡ true → has_turn u e ≡ false → pair_of u e ≡ pair_of t e
    → HaveSameLabels (f t) x → HaveSameLabels (f u) y → g t ≡ side plan b e t pair x y → g u ≡ side plan b e u pair y x
    → ((j : ℕ) → j ≢ t → j ≢ u → HaveSameLabels (g j) (f j)) → PermutesAt n f → PermutesAt n g
exchange-permutes plan n b e t u pair f g x y ht hu low high same_pair fx fy gt gu rest p =
    exchanges-permute plan n b (pair_of t e) t u pair x y f g ht hu
    (record {
      cold_was = fx;
      hot_was = fy;
      cold = gt ∙ side-cold plan b e t pair x y low;
      hot = gu ∙ side-hot plan b e u (pair_of t e) pair y x high same_pair;
      rest = rest;
    })
    p

-- the exchange of a pair in a list of slots
pub pair-permutes : (plan : Plan) (b k n : ℕ) (pair : PlainPair) (slots : List PlainSlot) → length slots ≡ n → k + 1 < n
    → PermutesAt n (λ t. slot_at slots t) → PermutesAt n (λ t. slot_at (exchanged_pair plan b k pair slots) t)
unfolding exchanged_pair
pair-permutes plan b k n pair slots long below p =
    let cold = cold_side plan b k pair (slot_at slots k) (slot_at slots (k + 1)) in
    let hot = hot_side plan b k pair (slot_at slots k) (slot_at slots (k + 1)) in
    let once = set slots k cold in
    let sized = length-set slots k cold in
    exchanges-permute plan n b k k (k + 1) pair (slot_at slots k) (slot_at slots (k + 1)) (λ t. slot_at slots t) (λ t. slot_at (set once (k + 1) hot) t) (omega arith) below
    (record {
      cold_was = same-labels _ _ refl;
      hot_was = same-labels _ _ refl;
      cold = get_or-set_other once (k + 1) k hot _ (λ same. omega arith) ∙ get_or-set_at slots k k cold _ refl (omega arith);
      hot = get_or-set_at once (k + 1) (k + 1) hot _ refl (omega arith);
      rest = λ j a c. same-labels _ _ (get_or-set_other once (k + 1) j hot _ c ∙ get_or-set_other slots k j cold _ a);
    })
    p
