-- The rows of a report are groups of rows, one group for each recorded epoch, and their lines are its text.
use Rattle.std.proofs.Common.{arith, ◌≡◌, ℕ, zero, suc, ◌+◌, ◌*◌, ◌<◌, ◌≤◌, Bool, true, false, cond, List, [], ◌∷◌, ◌++◌, map, length, refl, sym, ap, subst, ◌∙◌, flat_map, append_assoc, length-append, if◌then◌else◌}
use Rattle.std.specs.List.{concat}
use Rattle.std.proofs.lemmas.Grind.{flat_map-append}
use Rattle.std.proofs.lemmas.Nat.{div-mul-add, mod-mul-add}
use Rattle.spin_model.specs.Steps.{table}
use Rattle.spin_model.proofs.Tables.{table-zero, table-more, table-add, table-same}
use Rattle.spin_model.proofs.Joined.{joined-zero, joined-more, length-joined}
use Rattle.sample_average.specs.declared.header.Header.{Header}
use Rattle.sample_average.specs.declared.row.Row.{Row}
use Rattle.sample_average.specs.LawfulReport.{IsInRange, AreRowsFrom, IsGroup, AreGroups}

-- ---- rows one after the other

rows-append : (h : Header) (e k : ℕ) (xs ys : List Row) → AreRowsFrom h e k xs → AreRowsFrom h e (k + length xs) ys → AreRowsFrom h e k (xs ++ ys)
rows-append h e k [] ys p q = let same : k + 0 ≡ k = omega arith in subst (λ m. AreRowsFrom h e m ys) same q
rows-append h e k (x ∷ xs) ys p q =
    let same : k + suc (length xs) ≡ k + 1 + length xs = omega arith in
    (p.0, rows-append h e (k + 1) xs ys p.1 (subst (λ m. AreRowsFrom h e m ys) same q))

-- pieces of one width, which begin at the pairs that these numbers give
rows-joined : (h : Header) (e width : ℕ) (at : ℕ → ℕ) (item : ℕ → List Row) (n : ℕ) → ((j : ℕ) → j < n → length (item j) ≡ width) → ((j : ℕ) → j < n → at (j + 1) ≡ at j + width)
    → ((j : ℕ) → j < n → AreRowsFrom h e (at j) (item j)) → AreRowsFrom h e (at 0) (flat_map item (table (λ j. j) n)) × (at n ≡ at 0 + length (flat_map item (table (λ j. j) n)))
rows-joined h e width at item zero sized steps rows =
    let none : flat_map item (table (λ j. j) 0) ≡ [] = joined-zero item (λ j. j) in
    (subst (λ xs. AreRowsFrom h e (at 0) xs) (sym none) tt, omega (arith, ap length none))
rows-joined h e width at item (suc n) sized steps rows =
    let before = rows-joined h e width at item n (λ j less. sized j (omega (arith, less))) (λ j less. steps j (omega (arith, less))) (λ j less. rows j (omega (arith, less))) in
    let inside : n < suc n = omega arith in
    let one : suc n ≡ n + 1 = omega arith in
    let more : flat_map item (table (λ j. j) (suc n)) ≡ flat_map item (table (λ j. j) n) ++ item n = ap (λ m. flat_map item (table (λ j. j) m)) one ∙ joined-more item (λ j. j) n in
    let whole = rows-append h e (at 0) (flat_map item (table (λ j. j) n)) (item n) before.0 (subst (λ m. AreRowsFrom h e m (item n)) before.1 (rows n inside)) in
    let long : length (flat_map item (table (λ j. j) (suc n))) ≡ length (flat_map item (table (λ j. j) n)) + length (item n) = ap length more ∙ length-append (flat_map item (table (λ j. j) n)) (item n) in (
      subst (λ xs. AreRowsFrom h e (at 0) xs) (sym more) whole,
      ap at one ∙ omega (arith, steps n inside, sized n inside, before.1, long),
    )

-- ---- the rows of an epoch

-- sample by sample and slot by slot, from the rows that these functions give
abbrev pub group_rows : (ℕ → ℕ → Row) → ℕ → ℕ → List Row
group_rows row samples slots = flat_map (λ b. flat_map (λ t. row b t ∷ []) (table (λ t. t) slots)) (table (λ b. b) samples)

times-more : (b n : ℕ) → (b + 1) * n ≡ b * n + n
times-more b n = grind arith

sample-rows : (h : Header) (e b : ℕ) (row : ℕ → Row) → ((t : ℕ) → t < h.slots → (row t).epoch ≡ e) → ((t : ℕ) → t < h.slots → (row t).sample ≡ b) → ((t : ℕ) → t < h.slots → (row t).slot ≡ t)
    → ((t : ℕ) → t < h.slots → IsInRange h (row t)) → AreRowsFrom h e (b * h.slots) (flat_map (λ t. row t ∷ []) (table (λ t. t) h.slots))
sample-rows h e b row epochs samples slots range =
    let start : b * h.slots + 0 ≡ b * h.slots = omega arith in
    let joined = rows-joined h e 1 (λ t. b * h.slots + t) (λ t. row t ∷ []) h.slots (λ t less. refl) (λ t less. let s : b * h.slots + (t + 1) ≡ b * h.slots + t + 1 = omega arith in s)
    (λ t less. (
      record {
        at_epoch = epochs t less;
        of_sample = samples t less ∙ sym (div-mul-add b h.slots t less);
        of_slot = slots t less ∙ sym (mod-mul-add b h.slots t less);
        range = range t less;
      },
      tt,
    )) in
    subst (λ k. AreRowsFrom h e k (flat_map (λ t. row t ∷ []) (table (λ t. t) h.slots))) start joined.0

-- what the rows of a group say of themselves
pub record IsTable (h : Header) (e : ℕ) (row : ℕ → ℕ → Row) : Type 0 where
  pub epoch : (b t : ℕ) → b < h.samples → t < h.slots → (row b t).epoch ≡ e
  pub sample : (b t : ℕ) → b < h.samples → t < h.slots → (row b t).sample ≡ b
  pub slot : (b t : ℕ) → b < h.samples → t < h.slots → (row b t).slot ≡ t
  pub range : (b t : ℕ) → b < h.samples → t < h.slots → IsInRange h (row b t)

pub group-is : (h : Header) (e : ℕ) (row : ℕ → ℕ → Row) → IsTable h e row → IsGroup h e (group_rows row h.samples h.slots)
group-is h e row is =
    let one : (b : ℕ) → ℕ → List Row = λ b t. row b t ∷ [] in
    let width : (b : ℕ) → length (flat_map (one b) (table (λ t. t) h.slots)) ≡ h.slots = λ b.
    length-joined (one b) (λ t. t) h.slots 1 (λ t less. refl) ∙ (let same : h.slots * 1 ≡ h.slots = omega arith in same) in
    let start : 0 * h.slots ≡ 0 = omega arith in
    let rows = rows-joined h e h.slots (λ b. b * h.slots) (λ b. flat_map (one b) (table (λ t. t) h.slots)) h.samples (λ b less. width b) (λ b less. times-more b h.slots)
    (λ b less. sample-rows h e b (row b) (λ t below. is.epoch b t less below) (λ t below. is.sample b t less below) (λ t below. is.slot b t less below) (λ t below. is.range b t less below)) in
    record {
      whole = length-joined (λ b. flat_map (one b) (table (λ t. t) h.slots)) (λ b. b) h.samples h.slots (λ b less. width b);
      in_order = subst (λ k. AreRowsFrom h e k (group_rows row h.samples h.slots)) start rows.0;
    }

-- ---- groups one after the other

-- a group for each recorded epoch, of n epochs from c on
pub groups_of : (ℕ → List Row) → (ℕ → Bool) → ℕ → ℕ → List (List Row)
groups_of group recorded c zero = []
groups_of group recorded c (suc n) = if recorded c then group c ∷ groups_of group recorded (c + 1) n else groups_of group recorded (c + 1) n

groups-by : (h : Header) (least c : ℕ) (rows : List Row) (rest : List (List Row)) (t : Bool) → least ≤ c → c < h.to → (t ≡ true → IsGroup h c rows) → AreGroups h (c + 1) rest → AreGroups h least rest
    → AreGroups h least (cond t (rows ∷ rest) rest)
groups-by h least c rows rest true from below is later other = (c, from, below, is refl, later)
groups-by h least c rows rest false from below is later other = other

pub groups-are : (h : Header) (group : ℕ → List Row) (recorded : ℕ → Bool) (least c n : ℕ) → least ≤ c → c + n ≤ h.to → ((f : ℕ) → c ≤ f → f < h.to → recorded f ≡ true → IsGroup h f (group f))
    → AreGroups h least (groups_of group recorded c n)
unfolding groups_of
groups-are h group recorded least c zero from within is = tt
groups-are h group recorded least c (suc n) from within is =
    let rest : (k : ℕ) → k ≤ c + 1 → AreGroups h k (groups_of group recorded (c + 1) n) = λ k less.
    groups-are h group recorded k (c + 1) n less (omega (arith, within)) (λ f past below told. is f (omega (arith, past)) below told) in
    groups-by h least c (group c) (groups_of group recorded (c + 1) n) (recorded c) from (omega (arith, within)) (λ told. is c (omega arith) (omega (arith, within)) told)
    (rest (c + 1) (omega arith)) (rest least (omega (arith, from)))

-- ---- their text

-- a table begins with its first item
table-first : {A : Type 0} (item : ℕ → A) (n : ℕ) → table item (suc n) ≡ item 0 ∷ table (λ k. item (suc k)) n
table-first item n =
    let one : suc n ≡ 1 + n = omega arith in
    ap (table item) one ∙ table-add item 1 n ∙ ap (λ xs. xs ++ table (λ k. item (1 + k)) n) (table-more item 0 ∙ ap (λ xs. xs ++ item 0 ∷ []) (table-zero item))
    ∙ table-tail item n
  where
    table-tail : {A : Type 0} (item : ℕ → A) (n : ℕ) → ([] ++ item 0 ∷ []) ++ table (λ k. item (1 + k)) n ≡ item 0 ∷ table (λ k. item (suc k)) n
    table-tail item n = ap (λ xs. item 0 ∷ xs) (table-same (λ k. item (1 + k)) (λ k. item (suc k)) n (λ k less. let s : 1 + k ≡ suc k = omega arith in ap item s))

-- epochs from c on
epochs-first : (c n : ℕ) → table (λ k. c + k) (suc n) ≡ c ∷ table (λ k. c + 1 + k) n
epochs-first c n =
    let start : c + 0 ≡ c = omega arith in
    table-first (λ k. c + k) n ∙ ap (λ m. m ∷ table (λ k. c + suc k) n) start
    ∙ ap (λ xs. c ∷ xs) (table-same (λ k. c + suc k) (λ k. c + 1 + k) n (λ k less. let s : c + suc k ≡ c + 1 + k = omega arith in s))

text-by : (lines : Row → List ℕ) (rows : List Row) (rest : List (List Row)) (t : Bool) (text others : List ℕ) → flat_map lines rows ≡ text → flat_map lines (flat_map (λ xs. xs) rest) ≡ others
    → flat_map lines (flat_map (λ xs. xs) (cond t (rows ∷ rest) rest)) ≡ cond t text [] ++ others
text-by lines rows rest true text others is later = flat_map-append lines rows (flat_map (λ xs. xs) rest) ∙ ap (λ xs. xs ++ flat_map lines (flat_map (λ ys. ys) rest)) is ∙ ap (λ xs. text ++ xs) later
text-by lines rows rest false text others is later = later

pub groups-text : (lines : Row → List ℕ) (group : ℕ → List Row) (recorded : ℕ → Bool) (text : ℕ → List ℕ) (c n : ℕ) → ((f : ℕ) → flat_map lines (group f) ≡ text f)
    → flat_map lines (flat_map (λ rows. rows) (groups_of group recorded c n)) ≡ flat_map (λ f. if recorded f then text f else []) (table (λ k. c + k) n)
unfolding groups_of
groups-text lines group recorded text c zero is = sym (ap (flat_map (λ f. if recorded f then text f else [])) (table-zero (λ k. c + k)))
groups-text lines group recorded text c (suc n) is =
    text-by lines (group c) (groups_of group recorded (c + 1) n) (recorded c) (text c) _ (is c) (groups-text lines group recorded text (c + 1) n is)
    ∙ sym (ap (flat_map (λ f. if recorded f then text f else [])) (epochs-first c n))

-- the text of pieces is that of each
pub joined-text : {A : Type 0} (lines : A → List ℕ) (item : ℕ → List A) (text : ℕ → List ℕ) (n : ℕ) → ((j : ℕ) → j < n → flat_map lines (item j) ≡ text j)
    → flat_map lines (flat_map item (table (λ j. j) n)) ≡ flat_map text (table (λ j. j) n)
joined-text lines item text zero is = ap (flat_map lines) (joined-zero item (λ j. j)) ∙ sym (joined-zero text (λ j. j))
joined-text lines item text (suc n) is =
    let one : suc n ≡ n + 1 = omega arith in
    let before = joined-text lines item text n (λ j less. is j (omega (arith, less))) in
    let last = is n (omega arith) in
    ap (λ m. flat_map lines (flat_map item (table (λ j. j) m))) one ∙ ap (flat_map lines) (joined-more item (λ j. j) n)
    ∙ flat_map-append lines (flat_map item (table (λ j. j) n)) (item n)
    ∙ ap (λ xs. xs ++ flat_map lines (item n)) before ∙ ap (λ xs. flat_map text (table (λ j. j) n) ++ xs) last
    ∙ sym (joined-more text (λ j. j) n) ∙ ap (λ m. flat_map text (table (λ j. j) m)) (sym one)

-- lines one after the other
pub concat-append : (xs ys : List (List ℕ)) → concat (xs ++ ys) ≡ concat xs ++ concat ys
concat-append [] ys = refl
concat-append (x ∷ xs) ys = ap (λ rest. x ++ rest) (concat-append xs ys) ∙ sym (append_assoc x (concat xs) (concat ys))

pub concat-map : {A : Type 0} (lines : A → List ℕ) (xs : List A) → concat (map lines xs) ≡ flat_map lines xs
concat-map lines [] = refl
concat-map lines (x ∷ xs) = ap (λ ys. lines x ++ ys) (concat-map lines xs)
