-- The spins of a report: of each replica four sites a digit, and a line for each in order.
use Rattle.std.proofs.Common.{arith, ◌≡◌, ℕ, zero, suc, ◌+◌, ◌*◌, ◌/◌, ◌%◌, ◌<◌, inr, Bool, true, false, List, [], ◌∷◌, ◌++◌, length, refl, sym, ap, subst, ◌∙◌, flat_map, append-nil, append_assoc, length-append}
use Rattle.std.specs.List.{AllByRecursion, list_all, concat}
use Rattle.std.proofs.lemmas.List.Folds.{list_all-append}
use Rattle.std.proofs.lemmas.Nat.{div-mul-add, mod-mul-add}
use Rattle.spin_model.specs.Lattice.{volume}
use Rattle.spin_model.specs.Steps.{table}
use Rattle.spin_model.specs.Words.{one_if}
use Rattle.spin_model.proofs.Tables.{table-zero, table-more, length-table}
use Rattle.scalar_rule.specs.Neighbours.{spin}
use Rattle.scalar_rule.specs.SpinDigits.{hex_digit, four_spins, spin_digits}
use Rattle.report_text.specs.Lines as text
use Rattle.spin_model.proofs.Joined.{joined-zero, joined-more, length-joined}
use Rattle.sample_average.specs.declared.header.Header.{Header}
use Rattle.sample_average.specs.LawfulReport.{AreDigits, AreSpins, is_hex, spin_head, spin_line, spin_lines}
use Rattle.sample_average.proofs.Fitting.{all-append}

-- ---- digits

four-hex : (a b c d : Bool) → is_hex (hex_digit (8 * one_if a + 4 * one_if b + 2 * one_if c + one_if d)) ≡ true
four-hex true true true true = refl
four-hex true true true false = refl
four-hex true true false true = refl
four-hex true true false false = refl
four-hex true false true true = refl
four-hex true false true false = refl
four-hex true false false true = refl
four-hex true false false false = refl
four-hex false true true true = refl
four-hex false true true false = refl
four-hex false true false true = refl
four-hex false true false false = refl
four-hex false false true true = refl
four-hex false false true false = refl
four-hex false false false true = refl
four-hex false false false false = refl

digits-hex : (spins : List Bool) (n : ℕ) → list_all is_hex (table (λ k. four_spins spins (4 * k)) n) ≡ true
digits-hex spins zero = ap (list_all is_hex) (table-zero (λ k. four_spins spins (4 * k)))
digits-hex spins (suc n) =
    let one : suc n ≡ n + 1 = omega arith in
    let digit : is_hex (four_spins spins (4 * n)) ≡ true = four-hex (spin spins (4 * n)) (spin spins (4 * n + 1)) (spin spins (4 * n + 2)) (spin spins (4 * n + 3)) in
    ap (λ m. list_all is_hex (table (λ k. four_spins spins (4 * k)) m)) one ∙ ap (list_all is_hex) (table-more (λ k. four_spins spins (4 * k)) n)
    ∙ rw (list_all-append is_hex (table (λ k. four_spins spins (4 * k)) n) (four_spins spins (4 * n) ∷ []), digits-hex spins n, digit) refl

digits-are : (h : Header) (spins : List Bool) → AreDigits h (spin_digits h.size spins)
digits-are h spins = record { count = length-table (λ k. four_spins spins (4 * k)) (volume h.size / 4); hex = digits-hex spins (volume h.size / 4) }

-- ---- all of a list that is joined

all-joined : {A : Type 0} (P : A → Type 0) (item : ℕ → List A) (n : ℕ) → ((j : ℕ) → AllByRecursion P (item j)) → AllByRecursion P (flat_map item (table (λ j. j) n))
all-joined P item zero each = subst (AllByRecursion P) (sym (joined-zero item (λ j. j))) tt
all-joined P item (suc n) each =
    let one : suc n ≡ n + 1 = omega arith in
    subst (AllByRecursion P) (sym (ap (λ m. flat_map item (table (λ j. j) m)) one ∙ joined-more item (λ j. j) n))
    (all-append P (flat_map item (table (λ j. j) n)) (item n) (all-joined P item n each) (each n))

-- ---- lines

lines-append : (h : Header) (k : ℕ) (xs ys : List (List ℕ)) → concat (spin_lines h k (xs ++ ys)) ≡ concat (spin_lines h k xs) ++ concat (spin_lines h (k + length xs) ys)
lines-append h k [] ys = let same : k ≡ k + 0 = omega arith in ap (λ m. concat (spin_lines h m ys)) same
lines-append h k (d ∷ xs) ys =
    let same : k + 1 + length xs ≡ k + suc (length xs) = omega arith in
    ap (λ rest. spin_line h k d ++ rest) (lines-append h (k + 1) xs ys ∙ ap (λ m. concat (spin_lines h (k + 1) xs) ++ concat (spin_lines h m ys)) same)
    ∙ sym (append_assoc (spin_line h k d) (concat (spin_lines h (k + 1) xs)) (concat (spin_lines h (k + suc (length xs)) ys)))

lines-joined : (h : Header) (at : ℕ → ℕ) (item : ℕ → List (List ℕ)) (lines : ℕ → List ℕ) (n : ℕ) → ((j : ℕ) → j < n → at (j + 1) ≡ at j + length (item j))
    → ((j : ℕ) → j < n → concat (spin_lines h (at j) (item j)) ≡ lines j)
    → (concat (spin_lines h (at 0) (flat_map item (table (λ j. j) n))) ≡ flat_map lines (table (λ j. j) n)) × (at n ≡ at 0 + length (flat_map item (table (λ j. j) n)))
lines-joined h at item lines zero steps is =
    let none : flat_map item (table (λ j. j) 0) ≡ [] = joined-zero item (λ j. j) in
    (ap (λ xs. concat (spin_lines h (at 0) xs)) none ∙ sym (joined-zero lines (λ j. j)), omega (arith, ap length none))
lines-joined h at item lines (suc n) steps is =
    let before = lines-joined h at item lines n (λ j less. steps j (omega (arith, less))) (λ j less. is j (omega (arith, less))) in
    let inside : n < suc n = omega arith in
    let one : suc n ≡ n + 1 = omega arith in
    let earlier : List (List ℕ) = flat_map item (table (λ j. j) n) in
    let more : flat_map item (table (λ j. j) (suc n)) ≡ earlier ++ item n = ap (λ m. flat_map item (table (λ j. j) m)) one ∙ joined-more item (λ j. j) n in
    let long : length (flat_map item (table (λ j. j) (suc n))) ≡ length earlier + length (item n) = ap length more ∙ length-append earlier (item n) in (
      ap (λ xs. concat (spin_lines h (at 0) xs)) more ∙ lines-append h (at 0) earlier (item n)
          ∙ ap (λ xs. xs ++ concat (spin_lines h (at 0 + length earlier) (item n))) before.0
          ∙ ap (λ m. flat_map lines (table (λ j. j) n) ++ concat (spin_lines h m (item n))) (sym before.1)
          ∙ ap (λ xs. flat_map lines (table (λ j. j) n) ++ xs) (is n inside)
          ∙ sym (joined-more lines (λ j. j) n) ∙ ap (λ m. flat_map lines (table (λ j. j) m)) (sym one),
      ap at one ∙ omega (arith, steps n inside, before.1, long),
    )

head-is : (h : Header) (k p b t c : ℕ) → k / 2 ≡ p → k % 2 ≡ c → p / h.slots ≡ b → p % h.slots ≡ t → spin_head h k ≡ text.spins_head b t c
unfolding spin_head text.spins_head
head-is h k p b t c half rest sample slot = rw (half, rest, sample, slot) refl

line-is : (h : Header) (k p b t c : ℕ) (spins : List Bool) → k / 2 ≡ p → k % 2 ≡ c → p / h.slots ≡ b → p % h.slots ≡ t
    → spin_line h k (spin_digits h.size spins) ≡ text.spins_line h.size b t c spins
unfolding spin_line text.spins_line
line-is h k p b t c spins half rest sample slot = ap (λ xs. xs ++ spin_digits h.size spins ++ 10 ∷ []) (head-is h k p b t c half rest sample slot)

-- the spins of both replicas of a slot
abbrev pub both_digits : Header → List Bool → List Bool → List (List ℕ)
both_digits h first second = spin_digits h.size first ∷ spin_digits h.size second ∷ []

both-text : (h : Header) (b t : ℕ) (first second : List Bool) → t < h.slots
    → concat (spin_lines h ((b * h.slots + t) * 2) (both_digits h first second)) ≡ text.spins_line h.size b t 0 first ++ text.spins_line h.size b t 1 second
both-text h b t first second below =
    let p : ℕ = b * h.slots + t in
    let half : p * 2 / 2 ≡ p = omega arith in
    let even : p * 2 % 2 ≡ 0 = omega arith in
    let next : (p * 2 + 1) / 2 ≡ p = omega arith in
    let odd : (p * 2 + 1) % 2 ≡ 1 = omega arith in
    let sample = div-mul-add b h.slots t below in
    let slot = mod-mul-add b h.slots t below in
    ap (λ xs. spin_line h (p * 2) (spin_digits h.size first) ++ xs) (append-nil (spin_line h (p * 2 + 1) (spin_digits h.size second)))
    ∙ ap (λ xs. xs ++ spin_line h (p * 2 + 1) (spin_digits h.size second)) (line-is h (p * 2) p b t 0 first half even sample slot)
    ∙ ap (λ xs. text.spins_line h.size b t 0 first ++ xs) (line-is h (p * 2 + 1) p b t 1 second next odd sample slot)

-- sample by sample and slot by slot
abbrev pub spin_list : Header → (ℕ → ℕ → List Bool) → (ℕ → ℕ → List Bool) → List (List ℕ)
spin_list h first second = flat_map (λ b. flat_map (λ t. both_digits h (first b t) (second b t)) (table (λ t. t) h.slots)) (table (λ b. b) h.samples)

abbrev pub slot_text : Header → (ℕ → ℕ → List Bool) → (ℕ → ℕ → List Bool) → ℕ → ℕ → List ℕ
slot_text h first second b t = text.spins_line h.size b t 0 (first b t) ++ text.spins_line h.size b t 1 (second b t)

place-more : (b n : ℕ) → (b + 1) * n * 2 ≡ b * n * 2 + n * 2
place-more b n = grind arith

twice : (m n : ℕ) → m * (n * 2) ≡ 2 * (m * n)
twice m n = grind arith

pub spins-text : (h : Header) (first second : ℕ → ℕ → List Bool)
    → concat (spin_lines h 0 (spin_list h first second)) ≡ flat_map (λ b. flat_map (slot_text h first second b) (table (λ t. t) h.slots)) (table (λ b. b) h.samples)
spins-text h first second =
    let items : ℕ → List (List ℕ) = λ b. flat_map (λ t. both_digits h (first b t) (second b t)) (table (λ t. t) h.slots) in
    let width : (b : ℕ) → length (items b) ≡ h.slots * 2 = λ b. length-joined (λ t. both_digits h (first b t) (second b t)) (λ t. t) h.slots 2 (λ t less. refl) in
    let sample : (b : ℕ) → concat (spin_lines h (b * h.slots * 2) (items b)) ≡ flat_map (slot_text h first second b) (table (λ t. t) h.slots) = λ b.
    let start : (b * h.slots + 0) * 2 ≡ b * h.slots * 2 = omega arith in
    let joined = lines-joined h (λ t. (b * h.slots + t) * 2) (λ t. both_digits h (first b t) (second b t)) (slot_text h first second b) h.slots
    (λ t less. let s : (b * h.slots + (t + 1)) * 2 ≡ (b * h.slots + t) * 2 + 2 = omega arith in s) (λ t less. both-text h b t (first b t) (second b t) less) in
    ap (λ m. concat (spin_lines h m (items b))) (sym start) ∙ joined.0 in
    let origin : 0 ≡ 0 * h.slots * 2 = omega arith in
    let whole = lines-joined h (λ b. b * h.slots * 2) items (λ b. flat_map (slot_text h first second b) (table (λ t. t) h.slots)) h.samples
    (λ b less. place-more b h.slots ∙ ap (λ m. b * h.slots * 2 + m) (sym (width b))) (λ b less. sample b) in
    ap (λ m. concat (spin_lines h m (spin_list h first second))) origin ∙ whole.0

pub spins-are : (h : Header) (first second : ℕ → ℕ → List Bool) → AreSpins h (spin_list h first second)
spins-are h first second =
    let items : ℕ → List (List ℕ) = λ b. flat_map (λ t. both_digits h (first b t) (second b t)) (table (λ t. t) h.slots) in
    let width : (b : ℕ) → length (items b) ≡ h.slots * 2 = λ b. length-joined (λ t. both_digits h (first b t) (second b t)) (λ t. t) h.slots 2 (λ t less. refl) in
    inr (
      length-joined items (λ b. b) h.samples (h.slots * 2) (λ b less. width b) ∙ twice h.samples h.slots,
      all-joined (AreDigits h) items h.samples (λ b. all-joined (AreDigits h) (λ t. both_digits h (first b t) (second b t)) h.slots (λ t. (digits-are h (first b t), (digits-are h (second b t), tt)))),
    )
