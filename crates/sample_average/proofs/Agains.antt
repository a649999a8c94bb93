-- Where a line may stand it is read, and then what follows it may follow.
use Rattle.std.proofs.Common.{arith, ◌≡◌, ℕ, ◌+◌, ◌*◌, ◌/◌, ◌%◌, ◌<◌, ◌≤◌, ◌⊎◌, inl, inr, Bool, true, cond, List, [], ◌∷◌, ◌++◌, refl, sym, ap, subst, ◌∙◌}
use Rattle.std.specs.Prelude.{Option, Some, None, ◌==◌, ◌&&◌, nat_le, nat_lt}
use Rattle.std.proofs.Math.Nat.{mod-lt, div-lt_iff_lt-mul}
use Rattle.std.proofs.lemmas.Bool.{and_from, eq-eqb, ne_eqb, le-leb, lt-ltb}
use Rattle.sample_average.specs.declared.header.Header.{Header}
use Rattle.sample_average.specs.declared.row.Row.{Row}
use Rattle.sample_average.specs.declared.place.Place.{Place}
use Rattle.sample_average.specs.declared.place.Place.TheVariants as places
use Rattle.sample_average.specs.declared.place.Step.{Step}
use Rattle.sample_average.specs.LawfulReport.{IsLawfulHeader, IsRowOf, AreDigits, sites, pairs, row_line, end_line, spin_head, spin_line, spin_lines}
use Rattle.sample_average.specs.LineReading.{◌>>=◌, after, row_at}
use Rattle.sample_average.specs.Following.{row_of, behind_row, row_step, first_row, next_row, end_at, digits_at, spins_at, or_then, line_at, FitsPlace, SpinsFollow, Follows, row_then}
use Rattle.sample_average.proofs.LineLaws.{after-again, IsRowNear, row-again}
use Rattle.sample_average.proofs.Steps.{inside-cut, behind-from, between-cut}
use Rattle.sample_average.proofs.StepLaws.{sites-few, pairs-some, spin-spread, digits-again}

-- the step of a line, and what follows it
pub record Again (h : Header) (place : Place) (line : List ℕ) (ls : List (List ℕ)) (rows : List Row) : Type 0 where
  pub step : Step
  pub read : (rest : List ℕ) → line_at h place (line ++ rest) ≡ Some (step, rest)
  pub others : List Row
  pub all : rows ≡ row_then step.row others
  pub later : Follows h step.place ls others

sample-few : (pair samples slots : ℕ) → 1 ≤ slots → pair < samples * slots → pair / slots ≤ samples
sample-few pair samples slots some within = let below : pair / slots < samples = (div-lt_iff_lt-mul (omega (arith, some))).1 within in omega (arith, below)

row-near : (h : Header) (e pair : ℕ) (r : Row) → IsLawfulHeader h → e < h.to → pair < pairs h → IsRowOf h e pair r → IsRowNear h r
row-near h e pair r lawful below within is =
    let rest : pair % h.slots < h.slots = mod-lt pair (omega (arith, lawful.some_slots)) in
    let few = sample-few pair h.samples h.slots lawful.some_slots within in
    record { epoch = omega (arith, is.at_epoch, below); sample = omega (arith, is.of_sample, few); slot = omega (arith, is.of_slot, rest); range = is.range }

row_of-again : (h : Header) (e pair : ℕ) (r : Row) (rest : List ℕ) → IsLawfulHeader h → e < h.to → pair < pairs h → IsRowOf h e pair r → row_of h pair (row_line r ++ rest) ≡ Some (r, rest)
row_of-again h e pair r rest lawful below within is =
    let read = row-again h r rest lawful.until lawful.few_samples lawful.few_slots (sites-few h lawful.most) (row-near h e pair r lawful below within is) in
    let test : (r.sample == pair / h.slots && r.slot == pair % h.slots) ≡ true = and_from _ _ (eq-eqb _ _ is.of_sample) (eq-eqb _ _ is.of_slot) in
    ap (λ (o : Option (Row × List ℕ)). o >>= (λ x. cond (x.0.sample == pair / h.slots && x.0.slot == pair % h.slots) (Some x) None)) read ∙ ap (λ (b : Bool). cond b (Some (r, rest)) None) test

next-again : (h : Header) (e pair : ℕ) (r : Row) (rest : List ℕ) → IsLawfulHeader h → e < h.to → pair < pairs h → IsRowOf h e pair r → next_row h e pair (row_line r ++ rest) ≡ Some (row_step h pair (r, rest))
next-again h e pair r rest lawful below within is =
    ap (λ (o : Option (Row × List ℕ)). o >>= (λ x. cond (x.0.epoch == e) (Some (row_step h pair x)) None)) (row_of-again h e pair r rest lawful below within is)
    ∙ ap (λ (b : Bool). cond b (Some (row_step h pair (r, rest))) None) (eq-eqb _ _ is.at_epoch)

first-again : (h : Header) (least e : ℕ) (r : Row) (rest : List ℕ) → IsLawfulHeader h → least ≤ e → e < h.to → IsRowOf h e 0 r → first_row h least (row_line r ++ rest) ≡ Some (row_step h 0 (r, rest))
first-again h least e r rest lawful from below is =
    let test : (nat_le least r.epoch && nat_lt r.epoch h.to) ≡ true = and_from _ _ (le-leb least r.epoch (omega (arith, is.at_epoch, from))) (lt-ltb r.epoch h.to (omega (arith, is.at_epoch, below))) in
    ap (λ (o : Option (Row × List ℕ)). o >>= (λ x. cond (nat_le least x.0.epoch && nat_lt x.0.epoch h.to) (Some (row_step h 0 x)) None)) (row_of-again h e 0 r rest lawful below (pairs-some h lawful) is)
    ∙ ap (λ (b : Bool). cond b (Some (row_step h 0 (r, rest))) None) test

behind-at : (h : Header) (e pair : ℕ) (r : Row) (ls : List (List ℕ)) (rows : List Row) → r.epoch ≡ e → Follows h (places.Inside e (pair + 1)) ls rows → Follows h (behind_row h r.epoch pair) ls rows
behind-at h e pair r ls rows at f = subst (λ (k : ℕ). Follows h (behind_row h k pair) ls rows) (sym at) (behind-from h e pair ls rows f)

again-inside : (h : Header) (e pair : ℕ) (line : List ℕ) (ls : List (List ℕ)) (rows : List Row) → IsLawfulHeader h → e < h.to → pair < pairs h → Follows h (places.Inside e pair) (line ∷ ls) rows → Again h (places.Inside e pair) line ls rows
unfolding line_at
again-inside h e pair line ls rows lawful below within f =
    let c = inside-cut h e pair line ls rows within f in
    record {
      step = record { place = behind_row h c.row.epoch pair; row = Some c.row };
      read = λ (rest : List ℕ). ap (λ (l : List ℕ). next_row h e pair (l ++ rest)) c.text ∙ next-again h e pair c.row rest lawful below within c.is;
      others = c.others;
      all = c.all;
      later = behind-at h e pair c.row ls c.others c.is.at_epoch c.later;
    }

end-no-row : (h : Header) (least : ℕ) (rest : List ℕ) → first_row h least (end_line h.to ++ rest) ≡ None
unfolding row_at end_line
end-no-row h least rest = refl

again-between : (h : Header) (least : ℕ) (line : List ℕ) (ls : List (List ℕ)) (rows : List Row) → IsLawfulHeader h
    → ((e : ℕ) × (least ≤ e) × (e < h.to) × Follows h (places.Inside e 0) (line ∷ ls) rows) ⊎ ((rows ≡ []) × (line ≡ end_line h.to) × Follows h (places.Spins 0) ls []) → Again h (places.Between least) line ls rows
unfolding line_at
again-between h least line ls rows lawful (inl f) =
    let c = inside-cut h f.0 0 line ls rows (pairs-some h lawful) f.3 in
    record {
      step = record { place = behind_row h c.row.epoch 0; row = Some c.row };
      read = λ (rest : List ℕ). ap (λ (l : List ℕ). or_then (first_row h least (l ++ rest)) (end_at h (l ++ rest))) c.text
          ∙ ap (λ (o : Option (Step × List ℕ)). or_then o (end_at h (row_line c.row ++ rest))) (first-again h least f.0 c.row rest lawful f.1 f.2 c.is);
      others = c.others;
      all = c.all;
      later = behind-at h f.0 0 c.row ls c.others c.is.at_epoch c.later;
    }
again-between h least line ls rows lawful (inr f) = record {
  step = record { place = places.Spins 0; row = None };
  read = λ (rest : List ℕ). ap (λ (l : List ℕ). or_then (first_row h least (l ++ rest)) (end_at h (l ++ rest))) f.1
      ∙ ap (λ (o : Option (Step × List ℕ)). or_then o (end_at h (end_line h.to ++ rest))) (end-no-row h least rest)
      ∙ ap (λ (o : Option (List ℕ)). o >>= (λ rest. Some (record { place = places.Spins 0; row = None }, rest))) (after-again (end_line h.to) rest);
  others = [];
  all = f.0;
  later = f.2;
}

spins-again : (h : Header) (k : ℕ) (digits rest : List ℕ) → k < 2 * pairs h → AreDigits h digits → spins_at h k (spin_line h k digits ++ rest) ≡ Some (record { place = places.Spins (k + 1); row = None }, rest)
spins-again h k digits rest more is =
    let then = λ (ds : List ℕ). digits_at (sites h / 4) ds >>= (λ rest. Some (record { place = places.Spins (k + 1); row = None }, rest)) in
    let read : digits_at (sites h / 4) (digits ++ 10 ∷ rest) ≡ Some rest = ap (λ (n : ℕ). digits_at n (digits ++ 10 ∷ rest)) (sym is.count) ∙ digits-again digits rest is.hex in
    ap (λ (b : Bool). cond b None (after (spin_head h k) (spin_line h k digits ++ rest) >>= then)) (ne_eqb k (2 * pairs h) (λ e. omega (arith, e, more)))
    ∙ ap (λ (xs : List ℕ). after (spin_head h k) xs >>= then) (spin-spread h k digits rest)
    ∙ ap (λ (o : Option (List ℕ)). o >>= then) (after-again (spin_head h k) (digits ++ 10 ∷ rest))
    ∙ ap (λ (o : Option (List ℕ)). o >>= (λ rest. Some (record { place = places.Spins (k + 1); row = None }, rest))) read

again-spins-by : (h : Header) (k : ℕ) (line : List ℕ) (ls : List (List ℕ)) (rows : List Row) (spins : List (List ℕ)) → rows ≡ [] → SpinsFollow h k spins → line ∷ ls ≡ spin_lines h k spins → Again h (places.Spins k) line ls rows
unfolding line_at
again-spins-by h k line ls rows [] none fits text = absurd cc
again-spins-by h k line ls rows (d ∷ spins) none (inl nothing) text = absurd cc
again-spins-by h k line ls rows (d ∷ spins) none (inr all) text =
    let first : line ≡ spin_line h k d = cc in
    record {
      step = record { place = places.Spins (k + 1); row = None };
      read = λ (rest : List ℕ). ap (λ (l : List ℕ). spins_at h k (l ++ rest)) first ∙ spins-again h k d rest (omega (arith, all.0)) all.1.0;
      others = [];
      all = none;
      later = (refl, spins, inr (omega (arith, all.0), all.1.1), cc);
    }

pub again : (h : Header) (place : Place) (line : List ℕ) (ls : List (List ℕ)) (rows : List Row) → IsLawfulHeader h → FitsPlace h place → Follows h place (line ∷ ls) rows → Again h place line ls rows
again h (places.Between least) line ls rows lawful fits f = again-between h least line ls rows lawful (between-cut h least line ls rows f)
again h (places.Inside e pair) line ls rows lawful fits f = again-inside h e pair line ls rows lawful fits.0 fits.1 f
again h (places.Spins k) line ls rows lawful fits f = again-spins-by h k line ls rows f.1 f.0 f.2 f.3
