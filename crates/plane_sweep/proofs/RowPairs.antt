-- Vectors of a row and of the row behind it, which are one run of words.
use Rattle.std.proofs.Common.{◌≡◌, ℕ, ◌+◌, ◌-◌, ◌<◌, ◌≤◌, List, ◌++◌, length, take, drop, get_or, sym, ap, subst, ◌∙◌, arith}
use Rattle.std.proofs.lemmas.List.{get_or-take, get_or-drop, get_or_append_left, get_or-append_right, length-append, length-take-le, length-drop}
use Rattle.threshold_table.specs.Tables.{rule_of}
use Rattle.plane_sweep.specs.PlaneSweep.{SweepsWord, SweepsSites, SweepsRow, SweepsAcross, IsBehind, pulls_lent}
use Rattle.plane_sweep.specs.declared.rows.Row.{Row}
use Rattle.threshold_table.specs.declared.rule_table.SlotRule.{SlotRule}
use Rattle.plane_sweep.specs.declared.surroundings.Surroundings.{Surroundings}
use Rattle.plane_sweep.proofs.RowSweeps.{row-none, row-joined}

-- the first p words of one list, and the others of another
module _ (p : ℕ) (xs ys : List ℕ) where
  parted-below : (j : ℕ) → p ≤ length xs → j < p → get_or (take p xs ++ drop p ys) j 0 ≡ get_or xs j 0
  parted-below j within low =
      get_or_append_left (take p xs) (drop p ys) 0 j (omega (arith, length-take-le p xs within)) ∙ get_or-take p xs j 0 low

  parted-above : (j : ℕ) → p ≤ length xs → p ≤ j → get_or (take p xs ++ drop p ys) j 0 ≡ get_or ys j 0
  parted-above j within high =
      let place : p + (j - p) ≡ j = omega arith in
      get_or-append_right (take p xs) (drop p ys) p j 0 (length-take-le p xs within) high ∙ get_or-drop p ys (j - p) 0 ∙ ap (λ n. get_or ys n 0) place

  parted-sized : p ≤ length xs → length xs ≡ length ys → length (take p xs ++ drop p ys) ≡ length ys
  parted-sized within same = omega (arith, length-append (take p xs) (drop p ys), length-take-le p xs within, length-drop p ys)

module _ (s : Surroundings) (rule : SlotRule) (draws : List ℕ) (row behind : Row) where
  -- four words, of which the first ones end a row and the others begin the row behind it
  pub across-four : (k : ℕ) (six : ℕ → List ℕ) (old new : List ℕ) → IsBehind row behind → k ≤ row.half → row.half ≤ k + 4 → row.here + row.half ≤ length old
      → ((i : ℕ) → i < 4 → k + i < row.half → six i ≡ pulls_lent s row (k + i))
      → ((i : ℕ) → i < 4 → row.half ≤ k + i → six i ≡ pulls_lent s behind (k + i - row.half))
      → SweepsSites 4 six rule draws (row.here + k) old new → SweepsAcross s rule draws row behind k (k + 4 - row.half) old new
  across-four k six old new pair begun ended room front back made =
      let p = row.here + row.half in
      let middle = take p new ++ drop p old in
      let start = pair.here in
      let long = made.sized in
      let within : p ≤ length new = omega arith in
      let Becomes : List ℕ → ℕ → ℕ → ℕ → Type 0 = λ words. SweepsWord (rule_of rule.kind) rule.row.values words in
      record {
        between = middle;
        first = record {
          sized = parted-sized p new old within long;
          done = λ j from to.
              let i = j - k in
              let column : k + i ≡ j = omega arith in
              let place : row.here + k + i ≡ row.here + j = omega arith in
              let P : List ℕ → Type 0 = λ words. Becomes words (get_or draws (row.here + k + i) 0) (get_or old (row.here + k + i) 0) (get_or new (row.here + k + i) 0) in
              let Q : ℕ → Type 0 = λ n. Becomes (pulls_lent s row j) (get_or draws n 0) (get_or old n 0) (get_or new n 0) in
              let R : ℕ → Type 0 = λ w. Becomes (pulls_lent s row j) (get_or draws (row.here + j) 0) (get_or old (row.here + j) 0) w in
              subst R (sym (parted-below p new old (row.here + j) within (omega arith)))
              (subst Q place (subst P (front i (omega arith) (omega arith) ∙ ap (pulls_lent s row) column) (made.done i (omega arith))));
          before = λ j low. parted-below p new old j within (omega arith) ∙ made.before j low;
          after = λ j high. parted-above p new old j within high;
        };
        second = record {
          sized = long ∙ sym (parted-sized p new old within long);
          done = λ j from to.
              let i = j + row.half - k in
              let column : k + i - row.half ≡ j = omega arith in
              let place : row.here + k + i ≡ behind.here + j = omega arith in
              let P : List ℕ → Type 0 = λ words. Becomes words (get_or draws (row.here + k + i) 0) (get_or old (row.here + k + i) 0) (get_or new (row.here + k + i) 0) in
              let Q : ℕ → Type 0 = λ n. Becomes (pulls_lent s behind j) (get_or draws n 0) (get_or old n 0) (get_or new n 0) in
              let R : ℕ → Type 0 = λ w. Becomes (pulls_lent s behind j) (get_or draws (behind.here + j) 0) w (get_or new (behind.here + j) 0) in
              subst R (sym (parted-above p new old (behind.here + j) within (omega arith)))
              (subst Q place (subst P (back i (omega arith) (omega arith) ∙ ap (pulls_lent s behind) column) (made.done i (omega arith))));
          before = λ j low. sym (parted-below p new old j within (omega arith));
          after = λ j high. made.after j (omega arith) ∙ sym (parted-above p new old j within (omega arith));
        };
      }

  -- none, where a row has no columns left
  pub across-none : (words : List ℕ) → SweepsAcross s rule draws row behind row.half 0 words words
  across-none words = record { between = words; first = row-none s rule draws row row.half words; second = row-none s rule draws behind 0 words }

  -- a row's first columns, then those that a vector shares with the row behind it, then the others of that
  pub across-joined : (m k n : ℕ) (a b c d : List ℕ) → m ≤ k → k ≤ row.half → n ≤ behind.half → SweepsRow s rule draws row m k a b
      → SweepsAcross s rule draws row behind k n b c → SweepsRow s rule draws behind n behind.half c d → SweepsAcross s rule draws row behind m behind.half a d
  across-joined m k n a b c d begun within inside front middle back = record {
    between = middle.between;
    first = row-joined s rule draws row m k row.half a b middle.between begun within front middle.first;
    second = row-joined s rule draws behind 0 n behind.half middle.between c d (omega arith) inside middle.second back;
  }
