-- What one line changes: it is read exactly where it may stand, and what may follow it follows.
use Rattle.std.proofs.Common.{arith, ◌≡◌, ℕ, ◌+◌, ◌<◌, ◌≤◌, ◌⊎◌, inl, inr, Bool, true, false, cond, List, [], ◌∷◌, ◌++◌, length, refl, ap, ◌∙◌}
use Rattle.std.specs.Prelude.{◌==◌, flat_map}
use Rattle.std.proofs.lemmas.Bool.{eqb-true, eqb-false}
use Rattle.sample_average.specs.declared.header.Header.{Header}
use Rattle.sample_average.specs.declared.row.Row.{Row}
use Rattle.sample_average.specs.declared.place.Place.TheVariants as places
use Rattle.sample_average.specs.LawfulReport.{IsRowOf, AreRowsFrom, AreGroups, pairs, row_line, end_line, spin_lines}
use Rattle.sample_average.specs.Following.{behind_row, FitsPlace, RowsFollow, SpinsFollow, rest_lines, Follows}

-- ---- rows that follow

-- a row and what follows it in its group
pub inside-row : (h : Header) (e k : ℕ) (r : Row) (ls : List (List ℕ)) (rows : List Row) → IsRowOf h e k r → Follows h (places.Inside e (k + 1)) ls rows → Follows h (places.Inside e k) (row_line r ∷ ls) (r ∷ rows)
inside-row h e k r ls rows is f =
    ((r ∷ f.0.0, f.0.1, omega (arith, f.0.2), (is, f.0.3), f.0.4, ap (λ (xs : List Row). r ∷ xs) f.0.5), f.1, f.2, ap (λ (xs : List (List ℕ)). row_line r ∷ xs) f.3)

pub record Cut (h : Header) (e k : ℕ) (line : List ℕ) (ls : List (List ℕ)) (rows : List Row) : Type 0 where
  pub row : Row
  pub others : List Row
  pub all : rows ≡ row ∷ others
  pub text : line ≡ row_line row
  pub is : IsRowOf h e k row
  pub later : Follows h (places.Inside e (k + 1)) ls others

inside-by : (h : Header) (e k : ℕ) (line : List ℕ) (ls : List (List ℕ)) (rows : List Row) (rest : List Row) (groups : List (List Row)) (spins : List (List ℕ)) → k < pairs h
    → k + length rest ≡ pairs h → AreRowsFrom h e k rest → AreGroups h (e + 1) groups → rows ≡ rest ++ flat_map (λ xs. xs) groups → SpinsFollow h 0 spins → line ∷ ls ≡ rest_lines h rows spins → Cut h e k line ls rows
inside-by h e k line ls rows [] groups spins within long order later all fits text = absurd (omega (arith, long, within))
inside-by h e k line ls rows (r ∷ rest) groups spins within long order later all fits text =
    let both : line ∷ ls ≡ row_line r ∷ rest_lines h (rest ++ flat_map (λ xs. xs) groups) spins = text ∙ ap (λ (xs : List Row). rest_lines h xs spins) all in
    record {
      row = r;
      others = rest ++ flat_map (λ xs. xs) groups;
      all = all;
      text = cc;
      is = order.0;
      later = ((rest, groups, omega (arith, long), order.1, later, refl), spins, fits, cc);
    }

pub inside-cut : (h : Header) (e k : ℕ) (line : List ℕ) (ls : List (List ℕ)) (rows : List Row) → k < pairs h → Follows h (places.Inside e k) (line ∷ ls) rows → Cut h e k line ls rows
inside-cut h e k line ls rows within f = inside-by h e k line ls rows f.0.0 f.0.1 f.1 within f.0.2 f.0.3 f.0.4 f.0.5 f.2 f.3

-- behind the last row of a group a later epoch follows
behind-to-by : (h : Header) (e k : ℕ) (ls : List (List ℕ)) (rows : List Row) (t : Bool) → (k + 1 == pairs h) ≡ t → Follows h (cond t (places.Between (e + 1)) (places.Inside e (k + 1))) ls rows → Follows h (places.Inside e (k + 1)) ls rows
behind-to-by h e k ls rows true last f = (([], f.0.0, omega (arith, eqb-true _ _ last), tt, f.0.1, f.0.2), f.1, f.2, f.3)
behind-to-by h e k ls rows false last f = f

pub behind-to : (h : Header) (e k : ℕ) (ls : List (List ℕ)) (rows : List Row) → Follows h (behind_row h e k) ls rows → Follows h (places.Inside e (k + 1)) ls rows
behind-to h e k ls rows f = behind-to-by h e k ls rows (k + 1 == pairs h) refl f

none-left : (h : Header) (e k : ℕ) (rows : List Row) (rest : List Row) (groups : List (List Row)) → k + 1 ≡ pairs h → k + 1 + length rest ≡ pairs h → AreGroups h (e + 1) groups → rows ≡ rest ++ flat_map (λ xs. xs) groups → RowsFollow h (places.Between (e + 1)) rows
none-left h e k rows [] groups last long later all = (groups, later, all)
none-left h e k rows (r ∷ rest) groups last long later all = absurd (omega (arith, last, long))

behind-from-by : (h : Header) (e k : ℕ) (ls : List (List ℕ)) (rows : List Row) (t : Bool) → (k + 1 == pairs h) ≡ t → Follows h (places.Inside e (k + 1)) ls rows → Follows h (cond t (places.Between (e + 1)) (places.Inside e (k + 1))) ls rows
behind-from-by h e k ls rows true last f = (none-left h e k rows f.0.0 f.0.1 (eqb-true _ _ last) f.0.2 f.0.4 f.0.5, f.1, f.2, f.3)
behind-from-by h e k ls rows false last f = f

pub behind-from : (h : Header) (e k : ℕ) (ls : List (List ℕ)) (rows : List Row) → Follows h (places.Inside e (k + 1)) ls rows → Follows h (behind_row h e k) ls rows
behind-from h e k ls rows f = behind-from-by h e k ls rows (k + 1 == pairs h) refl f

next-below : (k n : ℕ) → k < n → (k + 1 ≡ n → ⊥) → k + 1 < n
next-below k n within other = omega (arith, other)

pub behind-fits-by : (h : Header) (e k : ℕ) (t : Bool) → (k + 1 == pairs h) ≡ t → e < h.to → k < pairs h → FitsPlace h (cond t (places.Between (e + 1)) (places.Inside e (k + 1)))
behind-fits-by h e k true last below within = tt
behind-fits-by h e k false last below within = (below, next-below k (pairs h) within (eqb-false _ _ last))

-- a group begins
pub between-row : (h : Header) (least e : ℕ) (ls : List (List ℕ)) (rows : List Row) → least ≤ e → e < h.to → Follows h (places.Inside e 0) ls rows → Follows h (places.Between least) ls rows
between-row h least e ls rows from below f = ((f.0.0 ∷ f.0.1, (e, from, below, record { whole = omega (arith, f.0.2); in_order = f.0.3 }, f.0.4), f.0.5), f.1, f.2, f.3)

between-by : (h : Header) (least : ℕ) (line : List ℕ) (ls : List (List ℕ)) (rows : List Row) (groups : List (List Row)) (spins : List (List ℕ)) → AreGroups h least groups → rows ≡ flat_map (λ xs. xs) groups → SpinsFollow h 0 spins
    → line ∷ ls ≡ rest_lines h rows spins
    → ((e : ℕ) × (least ≤ e) × (e < h.to) × Follows h (places.Inside e 0) (line ∷ ls) rows) ⊎ ((rows ≡ []) × (line ≡ end_line h.to) × Follows h (places.Spins 0) ls [])
between-by h least line ls rows [] spins groups all fits text =
    let both : line ∷ ls ≡ end_line h.to ∷ spin_lines h 0 spins = text ∙ ap (λ (xs : List Row). rest_lines h xs spins) all in
    inr (all, cc, (refl, spins, fits, cc))
between-by h least line ls rows (g ∷ gs) spins groups all fits text = inl (groups.0, groups.1, groups.2, ((g, gs, omega (arith, groups.3.whole), groups.3.in_order, groups.4, all), spins, fits, text))

pub between-cut : (h : Header) (least : ℕ) (line : List ℕ) (ls : List (List ℕ)) (rows : List Row) → Follows h (places.Between least) (line ∷ ls) rows
    → ((e : ℕ) × (least ≤ e) × (e < h.to) × Follows h (places.Inside e 0) (line ∷ ls) rows) ⊎ ((rows ≡ []) × (line ≡ end_line h.to) × Follows h (places.Spins 0) ls [])
between-cut h least line ls rows f = between-by h least line ls rows f.0.0 f.1 f.0.1 f.0.2 f.2 f.3
