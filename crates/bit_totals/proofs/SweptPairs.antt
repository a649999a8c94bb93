-- Two rows are swept by columns, and a count sees the words of its own sites alone.
use Rattle.std.proofs.Common.{inl, inr, ◌≡◌, ℕ, ◌+◌, ◌-◌, ◌/◌, ◌%◌, ◌<◌, ◌≤◌, List, ◌++◌, length, take, drop, get_or, refl, sym, ap, subst, ◌∙◌, arith}
use Rattle.std.proofs.lemmas.Bool.{cases_lt}
use Rattle.std.proofs.lemmas.List.{get_or_append_left, get_or-append_right, get_or-take, get_or-drop, length-append, length-drop, length-take-le}
use Rattle.coupling_set.specs.CouplingWords.{CouplingsView}
use Rattle.scalar_rule.proofs.Extremes.{sum-same}
use Rattle.threshold_table.specs.Tables.{rule_of}
use Rattle.plane_sweep.specs.Neighbourhood.{pulls}
use Rattle.plane_sweep.specs.PlaneSweep.{pulls_lent, SweepsRow, SweepsWord}
use Rattle.plane_sweep.specs.declared.replica.Plane.{Plane}
use Rattle.plane_sweep.specs.declared.rows.Row.{Row}
use Rattle.plane_sweep.specs.declared.surroundings.Surroundings.{Surroundings}
use Rattle.bit_totals.specs.CountedRows.{CanSweepRow, SweepsPair}
use Rattle.bit_totals.specs.RowBonds.{against_count, pair_count, plane_count, row_count}
use Rattle.bit_totals.specs.declared.counted_rows.Lent.{Lent}

-- a row may still be swept in a list of the same length
pub sweep-on : (lent : Lent) (row : Row) (xs ys : List ℕ) → CanSweepRow lent row xs → length ys ≡ length xs → CanSweepRow lent row ys
sweep-on lent row xs ys can same = record { rows = can.rows; own = same ∙ can.own; draws = can.draws }

pub row-alike : (xs ys : List ℕ) (s : Surroundings) (row : Row) (b n : ℕ) → ((k : ℕ) → k < n → get_or xs (row.here + k) 0 ≡ get_or ys (row.here + k) 0)
    → row_count xs s row b n ≡ row_count ys s row b n
unfolding row_count
row-alike xs ys s row b n same =
    sum-same (λ k. against_count (pulls_lent s row k) (get_or xs (row.here + k) 0) b) (λ k. against_count (pulls_lent s row k) (get_or ys (row.here + k) 0) b) n
    (λ k below. ap (λ w. against_count (pulls_lent s row k) w b) (same k below))

pub plane-alike : (couplings : CouplingsView) (other : List Plane) (c z b : ℕ) (xs ys : List ℕ) (n : ℕ) → ((j : ℕ) → j < n → get_or xs j 0 ≡ get_or ys j 0)
    → plane_count couplings other c z xs b n ≡ plane_count couplings other c z ys b n
unfolding plane_count
plane-alike couplings other c z b xs ys n same =
    let half = couplings.size / 2 in
    sum-same (λ j. against_count (pulls couplings other c z (j / half) (j % half)) (get_or xs j 0) b) (λ j. against_count (pulls couplings other c z (j / half) (j % half)) (get_or ys j 0) b) n
    (λ j below. ap (λ w. against_count (pulls couplings other c z (j / half) (j % half)) w b) (same j below))

module _ (lent : Lent) (first second : Row) (apart : first.here + first.half ≤ second.here) where
  abbrev Updates : Row → ℕ → ℕ → ℕ → Type 0
  Updates row k old new = SweepsWord (rule_of lent.rule.kind) lent.rule.row.values (pulls_lent lent.around row k) (get_or lent.draws.now (row.here + k) 0) old new

  pub pair-none : (m : ℕ) (words : List ℕ) → SweepsPair lent first second m m words words
  pair-none m words = record {
    sized = refl;
    first_done = λ k from to. absurd (omega arith);
    second_done = λ k from to. absurd (omega arith);
    before = λ j low. refl;
    between = λ j from to. refl;
    after = λ j high. refl;
  }

  -- some columns of the one row, then of the other
  pub pair-one : (m n : ℕ) (a b c : List ℕ) → m ≤ n → n ≤ first.half → SweepsRow lent.around lent.rule lent.draws.now first m n a b
      → SweepsRow lent.around lent.rule lent.draws.now second m n b c → SweepsPair lent first second m n a c
  pair-one m n a b c order within front back = record {
    sized = back.sized ∙ front.sized;
    first_done = λ k from to.
        let P : ℕ → Type 0 = λ w. Updates first k (get_or a (first.here + k) 0) w in
        subst P (sym (back.before (first.here + k) (omega arith))) (front.done k from to);
    second_done = λ k from to.
        let P : ℕ → Type 0 = λ w. Updates second k w (get_or c (second.here + k) 0) in
        subst P (front.after (second.here + k) (omega arith)) (back.done k from to);
    before = λ j low. back.before j (omega arith) ∙ front.before j low;
    between = λ j from to. back.before j to ∙ front.after j from;
    after = λ j high. back.after j high ∙ front.after j (omega arith);
  }

  -- some columns, and those behind them
  pub pair-joined : (m n p : ℕ) (a b c : List ℕ) → m ≤ n → n ≤ p → p ≤ first.half → SweepsPair lent first second m n a b → SweepsPair lent first second n p b c
      → SweepsPair lent first second m p a c
  pair-joined m n p a b c order more within front back = record {
    sized = back.sized ∙ front.sized;
    first_done = λ k from to.
        let place = first.here + k in
        elim (cases_lt k n) [
          | inl less ↦
              let P : ℕ → Type 0 = λ w. Updates first k (get_or a place 0) w in
              subst P (sym (back.before place (omega arith))) (front.first_done k from less)
          | inr not ↦
              let P : ℕ → Type 0 = λ w. Updates first k w (get_or c place 0) in
              subst P (front.between place (omega arith) (omega arith)) (back.first_done k (omega arith) to)
        ];
    second_done = λ k from to.
        let place = second.here + k in
        elim (cases_lt k n) [
          | inl less ↦
              let P : ℕ → Type 0 = λ w. Updates second k (get_or a place 0) w in
              subst P (sym (back.between place (omega arith) (omega arith))) (front.second_done k from less)
          | inr not ↦
              let P : ℕ → Type 0 = λ w. Updates second k w (get_or c place 0) in
              subst P (front.after place (omega arith)) (back.second_done k (omega arith) to)
        ];
    before = λ j low. back.before j (omega arith) ∙ front.before j low;
    between = λ j from to. back.between j from (omega arith) ∙ front.between j (omega arith) to;
    after = λ j high. back.after j high ∙ front.after j (omega arith);
  }

  -- a sweep of later columns, or of the row behind, leaves what is counted
  own-kept : (row : Row) (b m n p : ℕ) (xs ys : List ℕ) → p ≤ m → SweepsRow lent.around lent.rule lent.draws.now row m n xs ys
      → row_count ys lent.around row b p ≡ row_count xs lent.around row b p
  own-kept row b m n p xs ys within swept = row-alike ys xs lent.around row b p (λ k below. swept.before (row.here + k) (omega arith))

  first-kept : (b m n p : ℕ) (xs ys : List ℕ) → p ≤ first.half → SweepsRow lent.around lent.rule lent.draws.now second m n xs ys
      → row_count ys lent.around first b p ≡ row_count xs lent.around first b p
  first-kept b m n p xs ys within swept = row-alike ys xs lent.around first b p (λ k below. swept.before (first.here + k) (omega arith))

  pub pair-kept : (b m n : ℕ) (xs ys : List ℕ) → m ≤ n → n ≤ first.half → SweepsPair lent first second m n xs ys
      → pair_count ys lent.around first second b m ≡ pair_count xs lent.around first second b m
  pair-kept b m n xs ys order within pair =
      let one = row-alike ys xs lent.around first b m (λ k below. pair.before (first.here + k) (omega arith)) in
      let two = row-alike ys xs lent.around second b m (λ k below. pair.between (second.here + k) (omega arith) (omega arith)) in
      omega (arith, one, two)

  -- four columns of both rows, and eight, each four counted as soon as they are swept
  pub both-counted : (k b p q : ℕ) (xs ys : List ℕ) → k + 4 ≤ first.half → SweepsRow lent.around lent.rule lent.draws.now second k (k + 4) xs ys
      → row_count xs lent.around first b k + p ≡ row_count xs lent.around first b (k + 4)
      → row_count ys lent.around second b k + q ≡ row_count ys lent.around second b (k + 4)
      → pair_count ys lent.around first second b k + (p + q) ≡ pair_count ys lent.around first second b (k + 4)
  both-counted k b p q xs ys within swept one two =
      let start = first-kept b k (k + 4) k xs ys (omega arith) swept in
      let end = first-kept b k (k + 4) (k + 4) xs ys within swept in
      omega (arith, start, end, one, two)

  row-of-eight : (row : Row) (k b p q : ℕ) (xs ys : List ℕ) → SweepsRow lent.around lent.rule lent.draws.now row (k + 4) (k + 4 + 4) xs ys
      → row_count xs lent.around row b k + p ≡ row_count xs lent.around row b (k + 4)
      → row_count ys lent.around row b (k + 4) + q ≡ row_count ys lent.around row b (k + 4 + 4)
      → row_count ys lent.around row b k + (p + q) ≡ row_count ys lent.around row b (k + 8)
  row-of-eight row k b p q xs ys swept one two =
      let eight : k + 4 + 4 ≡ k + 8 = omega arith in
      let start = own-kept row b (k + 4) (k + 4 + 4) k xs ys (omega arith) swept in
      let middle = own-kept row b (k + 4) (k + 4 + 4) (k + 4) xs ys (omega arith) swept in
      omega (arith, start, middle, one, rw eight at two)

  pub eight-counted : (k b p q r t : ℕ) (o₁ o₂ o₃ o₄ : List ℕ) → k + 8 ≤ first.half → SweepsRow lent.around lent.rule lent.draws.now first (k + 4) (k + 4 + 4) o₁ o₂
      → SweepsRow lent.around lent.rule lent.draws.now second k (k + 4) o₂ o₃ → SweepsRow lent.around lent.rule lent.draws.now second (k + 4) (k + 4 + 4) o₃ o₄
      → row_count o₁ lent.around first b k + p ≡ row_count o₁ lent.around first b (k + 4)
      → row_count o₂ lent.around first b (k + 4) + q ≡ row_count o₂ lent.around first b (k + 4 + 4)
      → row_count o₃ lent.around second b k + r ≡ row_count o₃ lent.around second b (k + 4)
      → row_count o₄ lent.around second b (k + 4) + t ≡ row_count o₄ lent.around second b (k + 4 + 4)
      → pair_count o₄ lent.around first second b k + (p + q + (r + t)) ≡ pair_count o₄ lent.around first second b (k + 8)
  eight-counted k b p q r t o₁ o₂ o₃ o₄ within s₂ s₃ s₄ e₁ e₂ e₃ e₄ =
      let one = row-of-eight first k b p q o₁ o₂ s₂ e₁ e₂ in
      let two = row-of-eight second k b r t o₃ o₄ s₄ e₃ e₄ in
      let start = first-kept b k (k + 4) k o₂ o₃ (omega arith) s₃ in
      let end = first-kept b k (k + 4) (k + 8) o₂ o₃ within s₃ in
      let start_more = first-kept b (k + 4) (k + 4 + 4) k o₃ o₄ (omega arith) s₄ in
      let end_more = first-kept b (k + 4) (k + 4 + 4) (k + 8) o₃ o₄ within s₄ in
      omega (arith, one, two, start, end, start_more, end_more)

  -- the words when the first row is swept and the second is not
  abbrev pub halfway : List ℕ → List ℕ → List ℕ
  halfway old new = take second.here new ++ drop second.here old

  module _ (old new : List ℕ) (room : second.here ≤ length old) (sized : length new ≡ length old) where
    front-long : length (take second.here new) ≡ second.here
    front-long = length-take-le second.here new (omega arith)

    halfway-low : (j : ℕ) → j < second.here → get_or (halfway old new) j 0 ≡ get_or new j 0
    halfway-low j low =
        get_or_append_left (take second.here new) (drop second.here old) 0 j (omega (arith, front-long)) ∙ get_or-take second.here new j 0 low

    halfway-high : (j : ℕ) → second.here ≤ j → get_or (halfway old new) j 0 ≡ get_or old j 0
    halfway-high j high =
        let place : second.here + (j - second.here) ≡ j = omega arith in
        get_or-append_right (take second.here new) (drop second.here old) second.here j 0 front-long high
        ∙ get_or-drop second.here old (j - second.here) 0 ∙ ap (λ i. get_or old i 0) place

    halfway-sized : length (halfway old new) ≡ length old
    halfway-sized =
        let both = length-append (take second.here new) (drop second.here old) in
        omega (arith, both, front-long, length-drop second.here old)

    -- both rows, one after the other
    pub pair-first : (n : ℕ) → n ≤ first.half → SweepsPair lent first second 0 n old new
        → SweepsRow lent.around lent.rule lent.draws.now first 0 n old (halfway old new)
    pair-first n within pair = record {
      sized = halfway-sized;
      done = λ k from to.
          let P : ℕ → Type 0 = λ w. Updates first k (get_or old (first.here + k) 0) w in
          subst P (sym (halfway-low (first.here + k) (omega arith))) (pair.first_done k from to);
      before = λ j low. halfway-low j (omega arith) ∙ pair.before j low;
      after = λ j high. elim (cases_lt j second.here) [
        | inl less ↦ halfway-low j less ∙ pair.between j high (omega arith)
        | inr not ↦ halfway-high j not
      ];
    }

    pub pair-second : (n : ℕ) → n ≤ first.half → SweepsPair lent first second 0 n old new
        → SweepsRow lent.around lent.rule lent.draws.now second 0 n (halfway old new) new
    pair-second n within pair = record {
      sized = sized ∙ sym halfway-sized;
      done = λ k from to.
          let P : ℕ → Type 0 = λ w. Updates second k w (get_or new (second.here + k) 0) in
          subst P (sym (halfway-high (second.here + k) (omega arith))) (pair.second_done k from to);
      before = λ j low. sym (halfway-low j (omega arith));
      after = λ j high. pair.after j high ∙ sym (halfway-high j (omega arith));
    }
