-- One bank after the other.
use Rattle.std.proofs.Common.{◌≡◌, ℕ, zero, suc, ◌+◌, ◌*◌, ◌<◌, ◌≤◌, List, [], ◌∷◌, ◌++◌, length, map, drop, get_or, Option, Some, None, refl, sym, ap, subst, ◌∙◌, arith, add-one, inl, inr, append_assoc}
use Rattle.std.proofs.Math.Seq.{drop-cons}
use Rattle.std.proofs.lemmas.Bool.{cases_lt, eq-eqb, ne_eqb}
use Rattle.std.proofs.lemmas.List.{drop-map, drop-drop, drop_all, get_or-map, length-map, append-nil}
use native.Mathlib.Nat.{mul-suc, mul-zero}
use Rattle.scalar_rule.specs.Plan.{Plan, slots_of, IsLawfulPlan}
use Rattle.plane_sweep.specs.declared.stand.Stand.{Stand}
use Rattle.run_checkpoint.specs.BankDecoding.{banks_refused, other_epoch, epochs_refused, banks_in}
use Rattle.run_checkpoint.specs.BankEncoding.{HaveShape, HaveOneShape, bank_len}
use Rattle.run_checkpoint.specs.Decoding.{level_refusal}
use Rattle.run_checkpoint.specs.Lengths.{encoding_len}
use Rattle.run_checkpoint.specs.Reading.{piece, number_at, stand_in}
use Rattle.run_checkpoint.specs.declared.refused.CheckpointRefused.TheVariants as refused
use Rattle.run_checkpoint.specs.declared.refused.CheckpointRefused.{CheckpointRefused}

-- the bytes of the next bank
pub next-bytes : (len g : ℕ) (bytes : List ℕ) → drop len (drop (len * g) bytes) ≡ drop (len * (g + 1)) bytes
next-bytes len g bytes =
    let step : len * g + len ≡ len * (g + 1) = sym (ap (λ k. len * k) (add-one g) ∙ mul-suc len g) in
    drop-drop len (len * g) bytes ∙ ap (λ k. drop k bytes) step

pub first-bytes : (len : ℕ) (bytes : List ℕ) → drop (len * 0) bytes ≡ bytes
first-bytes len bytes = ap (λ k. drop k bytes) (mul-zero len)

-- the next plan
pub next-item : {X Y : Type 0} (f : X → Y) (xs : List X) (g : ℕ) (x : X) → g < length xs → x ≡ get_or xs g x → drop g (map f xs) ≡ f x ∷ drop (g + 1) (map f xs)
next-item f xs g x within is =
    let one : drop g xs ≡ get_or xs g x ∷ drop (suc g) xs = drop-cons xs g x within in
    let own : drop g xs ≡ x ∷ drop (suc g) xs = one ∙ ap (λ y. y ∷ drop (suc g) xs) (sym is) in
    drop-map f g xs ∙ ap (map f) own ∙ ap (λ ys. f x ∷ ys) (sym (drop-map f (suc g) xs) ∙ ap (λ k. drop k (map f xs)) (sym (add-one g)))

pub no-item : {X Y : Type 0} (f : X → Y) (xs : List X) (g : ℕ) → length xs ≤ g → drop g (map f xs) ≡ []
no-item f xs g long = drop_all g (map f xs) (omega (arith, length-map xs f))

-- ---- the tests of the banks

module _ (len until : ℕ) (bytes : List ℕ) where
  pub refused-found : (plans rest : List Plan) (plan : Plan) (g : ℕ) (e : CheckpointRefused) (total : Option CheckpointRefused) → plans ≡ plan ∷ rest
      → Some e ≡ level_refusal plan until (piece 0 len (drop (len * g) bytes)) → banks_refused len until plans (drop (len * g) bytes) ≡ total → Some e ≡ total
  unfolding banks_refused
  refused-found plans rest plan g e total cut found so_far =
      let step : banks_refused len until plans (drop (len * g) bytes) ≡ Some e = rw cut (rw (← found) refl) in
      sym step ∙ so_far

  pub refused-more : (plans rest : List Plan) (plan : Plan) (g : ℕ) (total : Option CheckpointRefused) → plans ≡ plan ∷ rest
      → None ≡ level_refusal plan until (piece 0 len (drop (len * g) bytes)) → banks_refused len until plans (drop (len * g) bytes) ≡ total → banks_refused len until rest (drop (len * (g + 1)) bytes) ≡ total
  unfolding banks_refused
  refused-more plans rest plan g total cut none so_far =
      let step : banks_refused len until plans (drop (len * g) bytes) ≡ banks_refused len until rest (drop len (drop (len * g) bytes)) = rw cut (rw (← none) refl) in
      ap (banks_refused len until rest) (sym (next-bytes len g bytes)) ∙ sym step ∙ so_far

  pub refused-none : (plans : List Plan) (g : ℕ) (total : Option CheckpointRefused) → plans ≡ [] → banks_refused len until plans (drop (len * g) bytes) ≡ total → None ≡ total
  unfolding banks_refused
  refused-none plans g total none so_far =
      let step : banks_refused len until plans (drop (len * g) bytes) ≡ None = rw none refl in
      sym step ∙ so_far

-- ---- the epochs

module _ (len first : ℕ) (bytes : List ℕ) where
  pub epoch-found : (g n : ℕ) (e : CheckpointRefused) (total : Option CheckpointRefused) → 0 < n → Some e ≡ other_epoch first g len (drop (len * g) bytes)
      → epochs_refused len first g n (drop (len * g) bytes) ≡ total → Some e ≡ total
  unfolding epochs_refused
  epoch-found g zero e total some found so_far = absurd (omega arith)
  epoch-found g (suc n) e total some found so_far =
      let step : epochs_refused len first g (suc n) (drop (len * g) bytes) ≡ Some e = rw (← found) refl in
      sym step ∙ so_far

  pub epoch-more : (g n m : ℕ) (total : Option CheckpointRefused) → n ≡ suc m → None ≡ other_epoch first g len (drop (len * g) bytes)
      → epochs_refused len first g n (drop (len * g) bytes) ≡ total → epochs_refused len first (g + 1) m (drop (len * (g + 1)) bytes) ≡ total
  unfolding epochs_refused
  epoch-more g n m total is none so_far =
      let step : epochs_refused len first g n (drop (len * g) bytes) ≡ epochs_refused len first (g + 1) m (drop len (drop (len * g) bytes)) = rw is (rw (← none) refl) in
      ap (epochs_refused len first (g + 1) m) (sym (next-bytes len g bytes)) ∙ sym step ∙ so_far

  pub epoch-none : (g n : ℕ) (total : Option CheckpointRefused) → n ≡ 0 → epochs_refused len first g n (drop (len * g) bytes) ≡ total → None ≡ total
  unfolding epochs_refused
  epoch-none g n total is so_far =
      let step : epochs_refused len first g n (drop (len * g) bytes) ≡ None = rw is refl in
      sym step ∙ so_far

-- ---- the packed states

pub stands-more : (len g : ℕ) (bytes : List ℕ) (plans rest : List Plan) (plan : Plan) (front now : List Stand) (stand : Stand) (total : List Stand) → plans ≡ plan ∷ rest → now ≡ front ++ stand ∷ []
    → stand ≡ stand_in plan (piece 0 len (drop (len * g) bytes)) → front ++ banks_in len plans (drop (len * g) bytes) ≡ total → now ++ banks_in len rest (drop (len * (g + 1)) bytes) ≡ total
unfolding banks_in
stands-more len g bytes plans rest plan front now stand total cut pushed is so_far =
    let step : banks_in len plans (drop (len * g) bytes) ≡ stand ∷ banks_in len rest (drop len (drop (len * g) bytes)) = rw (cut, is) refl in
    ap (λ x. x ++ banks_in len rest (drop (len * (g + 1)) bytes)) pushed
    ∙ append_assoc front (stand ∷ []) (banks_in len rest (drop (len * (g + 1)) bytes))
    ∙ ap (λ bs. front ++ (stand ∷ banks_in len rest bs)) (sym (next-bytes len g bytes))
    ∙ ap (λ x. front ++ x) (sym step)
    ∙ so_far

pub stands-end : (len g : ℕ) (bytes : List ℕ) (plans : List Plan) (front total : List Stand) → plans ≡ [] → front ++ banks_in len plans (drop (len * g) bytes) ≡ total → front ≡ total
unfolding banks_in
stands-end len g bytes plans front total none so_far =
    let step : banks_in len plans (drop (len * g) bytes) ≡ [] = rw none refl in
    sym (append-nil front) ∙ ap (λ x. front ++ x) (sym step) ∙ so_far

-- ---- plans of one shape

pub shape-at : (l n : ℕ) (plans : List Plan) (g : ℕ) (d : Plan) → HaveShape l n plans → g < length plans → ((get_or plans g d).size ≡ l) × (slots_of (get_or plans g d) ≡ n)
unfolding HaveShape
shape-at l n [] g d shape within = absurd (omega arith)
shape-at l n (plan ∷ plans) zero d shape within = (shape.0, shape.1)
shape-at l n (plan ∷ plans) (suc g) d shape within = shape-at l n plans g d shape.2 (omega arith)

pub shape-len : (l n : ℕ) (plans : List Plan) → HaveShape l n plans → 0 < length plans → bank_len plans ≡ encoding_len l n
unfolding HaveShape bank_len
shape-len l n [] shape some = absurd (omega arith)
shape-len l n (plan ∷ plans) shape some = rw (shape.0, shape.1) refl

-- a plan that was read has the shape
pub plan-shape : {X : Type 0} (f : X → Plan) (xs : List X) (g : ℕ) (x : X) (shape : HaveOneShape (map f xs)) → g < length xs → x ≡ get_or xs g x → ((f x).size ≡ shape.size) × (slots_of (f x) ≡ shape.slots)
plan-shape f xs g x shape within is =
    let own : get_or (map f xs) g (f x) ≡ f x = get_or-map f xs g x (f x) within ∙ ap f (sym is) in
    let both = shape-at shape.size shape.slots (map f xs) g (f x) shape.shape (omega (arith, length-map xs f)) in
    (sym (ap (λ (p : Plan). p.size) own) ∙ both.0, sym (ap slots_of own) ∙ both.1)

-- the length of the checkpoint of a plan that was read
pub plan-len : {X : Type 0} (f : X → Plan) (xs : List X) (g : ℕ) (x : X) → HaveOneShape (map f xs) → g < length xs → x ≡ get_or xs g x → bank_len (map f xs) ≡ encoding_len (f x).size (slots_of (f x))
plan-len f xs g x shape within is =
    let own : get_or (map f xs) g (f x) ≡ f x = get_or-map f xs g x (f x) within ∙ ap f (sym is) in
    let both = shape-at shape.size shape.slots (map f xs) g (f x) shape.shape (omega (arith, length-map xs f)) in
    let size : (f x).size ≡ shape.size = sym (ap (λ (p : Plan). p.size) own) ∙ both.0 in
    let slots : slots_of (f x) ≡ shape.slots = sym (ap slots_of own) ∙ both.1 in
    shape-len shape.size shape.slots (map f xs) shape.shape (omega (arith, length-map xs f)) ∙ sym (ap (λ l. encoding_len l (slots_of (f x))) size ∙ ap (encoding_len shape.size) slots)

-- ---- lawful plans

pub lawful-more : {X : Type 0} (f : X → Plan) (xs : List X) (g : ℕ) (x : X) → g < length xs → x ≡ get_or xs g x → IsLawfulPlan (f x)
    → ((k : ℕ) (d : Plan) → k < g → IsLawfulPlan (get_or (map f xs) k d)) → (k : ℕ) (d : Plan) → k < g + 1 → IsLawfulPlan (get_or (map f xs) k d)
lawful-more f xs g x within is lawful so_far k d below =
    elim (cases_lt k g) [
      | inl less ↦ so_far k d less
      | inr not ↦
          let last : k ≡ g = omega arith in
          let own : f x ≡ get_or (map f xs) k d = sym (ap (λ j. get_or (map f xs) j d) last ∙ get_or-map f xs g x d within ∙ ap f (sym is)) in
          subst IsLawfulPlan own lawful
    ]

-- the same test of the same plan and bytes
pub refusal-same : (until : ℕ) (p q : Plan) (x y : List ℕ) → p ≡ q → x ≡ y → level_refusal p until x ≡ level_refusal q until y
refusal-same until p q x y e f = cc

pub stand-same : (p q : Plan) (x y : List ℕ) → p ≡ q → x ≡ y → stand_in p x ≡ stand_in q y
stand-same p q x y e f = cc

-- the test of an epoch that was read
pub epoch-differs : (first g len epoch : ℕ) (bytes : List ℕ) → epoch ≡ number_at 8 40 (piece 0 len bytes) → (epoch ≡ first → ⊥) → Some (refused.BankEpoch g epoch first) ≡ other_epoch first g len bytes
unfolding other_epoch
epoch-differs first g len epoch bytes is differs = rw (← is, ne_eqb epoch first differs) refl

pub epoch-agrees : (first g len epoch : ℕ) (bytes : List ℕ) → epoch ≡ number_at 8 40 (piece 0 len bytes) → epoch ≡ first → None ≡ other_epoch first g len bytes
unfolding other_epoch
epoch-agrees first g len epoch bytes is agrees = rw (← is, eq-eqb epoch first agrees) refl

pub two-shapes : (l n : ℕ) (a b : Plan) → a.size ≡ l → slots_of a ≡ n → b.size ≡ l → slots_of b ≡ n → HaveOneShape (a ∷ b ∷ [])
unfolding HaveShape
two-shapes l n a b p q r s = record { size = l; slots = n; shape = (p, q, (r, s, tt)) }
