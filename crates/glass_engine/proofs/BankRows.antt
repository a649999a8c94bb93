-- The rows of banks that were driven: the bank and the bit of a sample, and a bank's records one epoch after another.
use Rattle.std.proofs.Common.{arith, ◌≡◌, inl, inr, ℕ, zero, suc, ◌+◌, ◌-◌, ◌*◌, ◌/◌, ◌%◌, ◌<◌, ◌≤◌, Bool, true, false, cond, min, List, [], ◌∷◌, ◌++◌, length, take, drop, get_or, sym, ap, ap₂, ◌∙◌, subst, length-drop}
use Rattle.std.proofs.Math.Nat.{mul-le-mul_right}
use Rattle.std.proofs.lemmas.Bool.{cases_lt}
use Rattle.std.proofs.lemmas.List.{drop-drop}
use Rattle.std.proofs.lemmas.List.Elements.{All-get_or}
use Rattle.spin_model.proofs.Tables.{length-table}
use Rattle.scalar_rule.proofs.RecordedEpochs.{quotient-upto, recorded-more}
use Rattle.run_plan.specs.declared.run_file.Orders.{Orders}
use Rattle.scalar_rule.specs.Plan.{slots_of}
use Rattle.scalar_rule.specs.Records.{is_recorded, records_at, in_order}
use Rattle.scalar_rule.specs.declared.sample.Record.{Record}
use Rattle.glass_engine.specs.Banks.{of_sample}
use Rattle.glass_engine.specs.BankRuns.{own_measured, run_measured, runs_of, HaveSamples}
use Rattle.glass_engine.specs.RecordPieces.{HasRowsFrom, AreRowsFrom, HaveNext}
use Rattle.glass_engine.specs.Runs.{DoneView}
use Rattle.glass_engine.proofs.BankLaws.{of-first, of-next}
use Rattle.glass_engine.proofs.Pieces.{count_if, split-front, count-front, drop-front, piece-records_at}

-- ---- the bank of a sample, and its bit there

pub sample-within : (n : ℕ) (ds : List DoneView) (b : ℕ) → HaveSamples n (runs_of ds) → b < n → b / 64 < length ds
unfolding HaveSamples
sample-within n [] b all below = absurd (omega (arith, all))
sample-within n (d ∷ ds) b all below = elim (cases_lt b 64) [
  | inl first ↦ omega arith
  | inr past ↦ let rest = sample-within (n - 64) ds (b - 64) all.1 (omega arith) in omega arith
]

pub sample-own : (n : ℕ) (ds : List DoneView) (b : ℕ) (x : DoneView) → HaveSamples n (runs_of ds) → b < n → x ≡ get_or ds (b / 64) x → b % 64 < x.run.orders.samples
unfolding HaveSamples
sample-own n [] b x all below is = absurd (omega (arith, all))
sample-own n (d ∷ ds) b x all below is = elim (cases_lt b 64) [
  | inl first ↦
      let g : b / 64 ≡ 0 = omega arith in
      let own : x ≡ d = is ∙ ap (λ k. get_or (d ∷ ds) k x) g in
      let many : x.run.orders.samples ≡ min n 64 = ap (λ (y : DoneView). y.run.orders.samples) own ∙ all.0 in
      omega arith
  | inr past ↦
      let g : b / 64 ≡ suc ((b - 64) / 64) = omega arith in
      let own : x ≡ get_or ds ((b - 64) / 64) x = is ∙ ap (λ k. get_or (d ∷ ds) k x) g in
      let rest = sample-own (n - 64) ds (b - 64) x all.1 (omega arith) own in
      omega arith
]

pub sample-is : {A B : Type 0} (none : A) (give : B → ℕ → A) (xs : List B) (b : ℕ) (x : B) → b / 64 < length xs → x ≡ get_or xs (b / 64) x → of_sample none give xs b ≡ give x (b % 64)
sample-is none give [] b x within is = absurd (omega arith)
sample-is none give (y ∷ ys) b x within is = elim (cases_lt b 64) [
  | inl first ↦
      let g : b / 64 ≡ 0 = omega arith in
      let m : b % 64 ≡ b = omega arith in
      of-first none give y ys b first ∙ sym (ap₂ give (is ∙ ap (λ k. get_or (y ∷ ys) k x) g) m)
  | inr past ↦
      let g : b / 64 ≡ suc ((b - 64) / 64) = omega arith in
      let m : b % 64 ≡ (b - 64) % 64 = omega arith in
      of-next none give y ys b past ∙ sample-is none give ys (b - 64) x (omega arith) (is ∙ ap (λ k. get_or (y ∷ ys) k x) g) ∙ sym (ap (give x) m)
]

-- ---- the records of a bank

place-of : (passed n m slots : ℕ) → (passed * n + m) * slots ≡ passed * (n * slots) + m * slots
place-of passed n m slots = grind arith

one-more : (m n slots : ℕ) → m < n → m * slots + slots ≤ n * slots
one-more m n slots below =
    let next : m + 1 ≤ n = omega arith in
    let most = mul-le-mul_right slots next in
    let more : (m + 1) * slots ≡ m * slots + slots = grind arith in
    omega arith

record-within : (records : List Record) (place m n slots : ℕ) → m < n → 1 ≤ slots → n * slots ≤ length (drop place records) → place + m * slots + slots ≤ length records
record-within records place m n slots below some long =
    let left = length-drop place records in
    let more = one-more m n slots below in
    omega arith

module _ (slots every f to passed : ℕ) (d : DoneView) (rows : HasRowsFrom slots every f to passed d) (below : f < to) where
  sized : (k : ℕ) → k < d.run.orders.samples → length (own_measured d.run k f) ≡ slots
  sized k h = length-table _ (slots_of d.run.plan) ∙ rows.slots_are

  abbrev front : ℕ
  front = passed * (d.run.orders.samples * slots)

  pub bank-within : is_recorded every f ≡ true → (m : ℕ) → m < d.run.orders.samples → 1 ≤ slots → (passed * d.run.orders.samples + m) * slots + slots ≤ length d.ended.records
  bank-within recorded m few some =
      let n = d.run.orders.samples in
      let count = count-front (own_measured d.run) n slots every f to (drop front d.ended.records) rows.more sized below rows.records in
      let all : count_if n slots every f ≡ n * slots = ap (λ t. cond t (n * slots) 0) recorded in
      let fits = record-within d.ended.records front m n slots few some (omega arith) in
      let at = place-of passed n m slots in
      omega arith

  pub bank-record : is_recorded every f ≡ true → (m : ℕ) → m < d.run.orders.samples
      → take slots (drop ((passed * d.run.orders.samples + m) * slots) d.ended.records) ≡ own_measured d.run m f
  bank-record recorded m few =
      let n = d.run.orders.samples in
      let own = own_measured d.run in
      let later = in_order own n every (f + 1) to ++ rows.more in
      let split : drop front d.ended.records ≡ records_at own n f ++ later =
      split-front own n every f to (drop front d.ended.records) rows.more below rows.records ∙ ap (λ t. cond t (records_at own n f) [] ++ later) recorded in
      ap (λ k. take slots (drop k d.ended.records)) (place-of passed n m slots)
      ∙ ap (take slots) (sym (drop-drop (m * slots) front d.ended.records))
      ∙ ap (λ xs. take slots (drop (m * slots) xs)) split
      ∙ piece-records_at own n slots f m later sized few

  pub bank-next : HasRowsFrom slots every (f + 1) to (passed + cond (is_recorded every f) 1 0) d
  bank-next =
      let n = d.run.orders.samples in
      let behind = drop-front (own_measured d.run) n slots every f to (drop front d.ended.records) rows.more sized below rows.records in
      record {
        slots_are = rows.slots_are;
        more = rows.more;
        records = ap (λ k. drop k d.ended.records) (more (is_recorded every f) (n * slots)) ∙ sym (drop-drop (count_if n slots every f) front d.ended.records) ∙ behind;
      }
    where
      more : (b : Bool) (x : ℕ) → (passed + cond b 1 0) * x ≡ passed * x + cond b x 0
      more true x = grind arith
      more false x = grind arith

pub rows-next : (ds : List DoneView) (orders : Orders) (slots f to passed : ℕ) → f < to → AreRowsFrom ds orders slots f to passed
    → AreRowsFrom ds orders slots (f + 1) to (passed + cond (is_recorded orders.every f) 1 0)
rows-next ds orders slots f to passed below rows =
    record {
      some_every = rows.some_every;
      some_slots = rows.some_slots;
      few_slots = rows.few_slots;
      from = omega arith;
      short = rows.short;
      counted = most (is_recorded orders.every f);
      each = λ k d h. bank-next slots orders.every f to passed (get_or ds k d) (rows.each k d h) below;
      samples = rows.samples;
    }
  where
    most : (b : Bool) → passed + cond b 1 0 ≤ f + 1
    most true = omega (arith, rows.counted)
    most false = omega (arith, rows.counted)

-- and from a later epoch on
ahead : (ds : List DoneView) (orders : Orders) (slots f to n : ℕ) → f + n ≤ to → AreRowsFrom ds orders slots f to 0 → AreRowsFrom ds orders slots (f + n) to ((f + n) / orders.every - f / orders.every)
ahead ds orders slots f to zero within rows =
    let here : f + 0 ≡ f = omega arith in
    let none : (f + 0) / orders.every - f / orders.every ≡ 0 = ap (λ k. k / orders.every - f / orders.every) here ∙ (let z : f / orders.every - f / orders.every ≡ 0 = omega arith in z) in
    subst (AreRowsFrom ds orders slots (f + 0) to) (sym none) (subst (λ k. AreRowsFrom ds orders slots k to 0) (sym here) rows)
ahead ds orders slots f to (suc n) within rows =
    let g : ℕ = f + n in
    let there : f + suc n ≡ g + 1 = omega arith in
    let before = ahead ds orders slots f to n (omega arith) rows in
    let next = recorded-more orders.every g rows.some_every in
    let first = quotient-upto orders.every f g rows.some_every (omega arith) in
    let passed : g / orders.every - f / orders.every + cond (is_recorded orders.every g) 1 0 ≡ (g + 1) / orders.every - f / orders.every = omega arith in
    let P : ℕ → Type 0 = λ k. AreRowsFrom ds orders slots k to (k / orders.every - f / orders.every) in
    subst P (sym there) (subst (AreRowsFrom ds orders slots (g + 1) to) passed (rows-next ds orders slots g to (g / orders.every - f / orders.every) (omega arith) before))

pub rows-ahead : (ds : List DoneView) (orders : Orders) (slots f g to : ℕ) → f ≤ g → g ≤ to → AreRowsFrom ds orders slots f to 0 → AreRowsFrom ds orders slots g to (g / orders.every - f / orders.every)
rows-ahead ds orders slots f g to from within rows =
    let there : f + (g - f) ≡ g = omega arith in
    let P : ℕ → Type 0 = λ k. AreRowsFrom ds orders slots k to (k / orders.every - f / orders.every) in
    subst P there (ahead ds orders slots f to (g - f) (omega arith) rows)

-- ---- a sample's records in a recorded epoch

module _ (ds : List DoneView) (orders : Orders) (slots f passed : ℕ) (next : HaveNext ds orders slots f passed) (b : ℕ) (small : b < orders.samples) where
  pub next-bank : b / 64 < length ds
  next-bank = sample-within orders.samples ds b next.rows.samples small

  module _ (recorded : is_recorded orders.every f ≡ true) (x : DoneView) (is : x ≡ get_or ds (b / 64) x) where
    has : HasRowsFrom slots orders.every f next.to passed x
    has =
        let P : DoneView → Type 0 = HasRowsFrom slots orders.every f next.to passed in
        subst P (sym is) (All-get_or P ds (b / 64) x next-bank next.rows.each)

    pub next-within : (passed * x.run.orders.samples + b % 64) * slots + slots ≤ length x.ended.records
    next-within =
        bank-within slots orders.every f next.to passed x has next.below recorded (b % 64) (sample-own orders.samples ds b x next.rows.samples small is) next.rows.some_slots

    pub next-record : take slots (drop ((passed * x.run.orders.samples + b % 64) * slots) x.ended.records) ≡ run_measured ds b f
    next-record =
        bank-record slots orders.every f next.to passed x has next.below recorded (b % 64) (sample-own orders.samples ds b x next.rows.samples small is)
        ∙ sym (sample-is [] (λ (d : DoneView) m. own_measured d.run m f) ds b x next-bank is)
