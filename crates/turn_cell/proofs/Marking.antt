-- The seat that holds the lock stores a word: a hand-out, a hand-back, or the partner's.
use Rattle.std.proofs.Common.{◌≡◌, ℕ, suc, ◌+◌, ◌*◌, ◌/◌, ◌%◌, ◌<◌, ◌≤◌, ◌≢◌, ◌⊎◌, true, true≢false, List, ◌∷◌, length, get_or, set, sym, refl, ap, ◌∙◌, subst, inr, ⊎_elim, arith, Option, get_or-set_same, get_or-set_other, length-set}
use mathlib.Core.Logic.{dite}
use mathlib.Core.Option.{none}
use native.Mathlib.Decide.{ℕ_discrete}
use Rattle.atomic_table.specs.Table.{State, Me, step, keeps, stepped, Allows}
use Rattle.atomic_table.proofs.Lists.{set_here}
use Rattle.turn_cell.specs.declared.view.View.{View}
use Rattle.turn_cell.specs.Sums.{total, numbers_from, times, without, AreInWork, is_in_work}
use Rattle.turn_cell.specs.Progress.{AtMost}
use Rattle.turn_cell.specs.AtomicSteps.{after_store, IsLawfulStore, IsStored, Stores}
use Rattle.turn_cell.specs.LockRule.{HasView, IsBased, LockRule}
use Rattle.turn_cell.proofs.Adding.{total-set, term_le, terms_le, at_same, at_other, out_yes, out_no, times-without, times-without_other, fit-without, fit-set}
use Rattle.turn_cell.proofs.Views.{in_range, other_views, each_view, at_most_set}
use Rattle.turn_cell.proofs.Keeping.{same_sum, awake}

module _ {T O : Type 0} (origin : T → O) (marks : T → List ℕ) where
  abbrev Rule : State (Option T) (View O) → Type 0
  Rule = LockRule origin marks

  -- what the seat's work must be after the store: its items have their words, no other seat has the place, and the sum changes as the word does
  abbrev Moved : (s : State (Option T) (View O)) → Rule s → ℕ → View O → ℕ → ℕ → List (ℕ × ℕ) → Type 0
  Moved s r id v p new out =
      AreInWork (set r.words p new) out
      × ((j : ℕ) (u : View O) → j ≢ id → HasView s j u → times p u.out ≡ 0)
      × (times p out + is_in_work (get_or r.words p 0) ≡ times p v.out + is_in_work new)
      × ((q : ℕ) → q ≢ p → times q out ≡ times q v.out)

  -- a store keeps the rule
  stores : (s : State (Option T) (View O)) (r : Rule s) (id : ℕ) (v : View O) (p new : ℕ) (out : List (ℕ × ℕ)) (c : List (ℕ × Option T))
      → HasView s id v → 0 < length v.numbers → v.holding ≡ true → p < length r.words → get_or r.words p 0 ≤ new → new % 4 < 3
      → Moved s r id v p new out
      → Rule (stepped s (p + 1) new id c (after_store v p new out) keeps)
  stores s r id v p new out c me some_number holds within no_less phase moved =
      let w : View O = after_store v p new out in
      let ws : List ℕ = set r.words p new in
      let base = awake origin marks s r id v me some_number in
      let taken : r.turn ≢ 0 = λ e. true≢false (sym holds ∙ r.free e id v me) in
      let h = r.held taken in
      let mine : id ≡ h.1.seat = h.1.alone id v me holds in
      let next : p + 1 ≡ suc p = omega arith in
      record {
        turn = r.turn;
        words = ws;
        base = r.base;
        all = r.all;
        are = ap (λ (l : List ℕ). set l (p + 1) new) r.are ∙ ap (λ (k : ℕ). set (r.turn ∷ r.words) k new) next;
        places = r.places;
        long = length-set r.words p new ∙ r.long;
        free = λ e. absurd (taken e);
        held = λ _. (
          h.0,
          record {
            seat = id;
            view = w;
            there = set_here s.views id w (in_range s.views id v me);
            holds = holds;
            alone = other_views (λ j (u : View O). u.holding ≡ true → j ≡ id) s.views id w (λ j u ne e is. h.1.alone j u e is ∙ sym mine) (λ _. refl);
          },
        );
        bases = each_view (λ _ (u : View O). IsBased r.base r.all r.places u) s.views id w r.bases (inr base);
        home = λ e. absurd (taken e);
        phased = λ i. dite (ℕ_discrete i p)
            (λ e. subst (λ (k : ℕ). get_or ws k 0 % 4 < 3) (sym e) (subst (λ (n : ℕ). n % 4 < 3) (sym (get_or-set_same r.words p new 0 within)) phase))
            (λ ne. subst (λ (n : ℕ). n % 4 < 3) (sym (get_or-set_other r.words p i new 0 ne)) (r.phased i));
        known = other_views (λ _ (u : View O). u.holding ≡ true → u.known ≡ ws) s.views id w
            (λ j u ne e is. absurd (ne (h.1.alone j u e is ∙ sym mine))) (λ _. ap (λ (l : List ℕ). set l p new) (r.known id v me holds));
        work = other_views (λ _ (u : View O). AreInWork ws u.out) s.views id w (λ j u ne e. fit-set r.words p new u.out (moved.1 j u ne e) (r.work j u e)) moved.0;
        items = λ q. dite (ℕ_discrete q p)
            (λ e. subst (λ (k : ℕ). total (λ (u : View O). times k u.out) (set s.views id w) ≡ is_in_work (get_or ws k 0)) (sym e)
            (omega (arith, total-set (λ (u : View O). times p u.out) s.views id v w me, r.items p, moved.2, ap is_in_work (get_or-set_same r.words p new 0 within))))
            (λ ne. omega (arith, total-set (λ (u : View O). times q u.out) s.views id v w me, r.items q, moved.3 q ne, ap is_in_work (get_or-set_other r.words p q new 0 ne)));
        seen = each_view (λ _ (u : View O). AtMost u.seen ws) s.views id w (λ j u e. at_most_set u.seen r.words p new (r.seen j u e) within no_less) (at_most_set v.seen r.words p new (r.seen id v me) within no_less);
        numbers = λ f. same_sum (λ (u : View O). total f u.numbers) s.views id v w (total f (numbers_from 0 r.all)) me refl (r.numbers f);
      }

  -- where the word isn't in work, no seat has an item of the place
  nobody : (s : State (Option T) (View O)) (r : Rule s) (p : ℕ) → get_or r.words p 0 % 4 ≢ 1 → (j : ℕ) (u : View O) → HasView s j u
      → times p u.out ≡ 0
  nobody s r p ne j u e = omega (arith, term_le (λ (x : View O). times p x.out) s.views j u e, r.items p, out_no (get_or r.words p 0) ne)

  -- where it is, and one seat has an item, no other has
  no_other : (s : State (Option T) (View O)) (r : Rule s) (p id : ℕ) (v : View O) → HasView s id v → get_or r.words p 0 % 4 ≡ 1
      → 0 < times p v.out
      → (times p v.out ≡ 1) × ((j : ℕ) (u : View O) → j ≢ id → HasView s j u → times p u.out ≡ 0)
  no_other s r p id v me is some_entry =
      let g : View O → ℕ = λ x. times p x.out in
      let one : times p v.out ≡ 1 = omega (arith, term_le g s.views id v me, r.items p, out_yes (get_or r.words p 0) is) in
      (one, λ j u ne e. omega (arith, terms_le g s.views id j v u ne me e, r.items p, out_yes (get_or r.words p 0) is))

  -- a hand-out
  leaves : (s : State (Option T) (View O)) (r : Rule s) (id : ℕ) (v : View O) (p new : ℕ) → HasView s id v → p < length r.words
      → get_or r.words p 0 % 4 ≡ 0 → new ≡ get_or r.words p 0 + 1
      → Moved s r id v p new ((p, get_or r.words p 0 / 4) ∷ v.out)
  leaves s r id v p new me within home is =
      let old : ℕ = get_or r.words p 0 in
      let none_there = nobody s r p (λ e. absurd (omega arith)) in
      let here = at_same p (p, old / 4) refl in
      let quarter : new ≡ 4 * (old / 4) + 1 = omega arith in (
        ((omega (arith, length-set r.words p new)), get_or-set_same r.words p new 0 within ∙ quarter, fit-set r.words p new v.out (none_there id v me) (r.work id v me)),
        (λ j u ne e. none_there j u e),
        (let was = out_no old (λ e. absurd (omega arith)) in let now = out_yes new (omega arith) in omega arith),
        (λ q ne. let other = at_other q (p, old / 4) (λ e. ne (sym e)) in omega arith),
      )

  -- a hand-back
  comes_back : (s : State (Option T) (View O)) (r : Rule s) (id : ℕ) (v : View O) (p new : ℕ) → HasView s id v
      → get_or r.words p 0 % 4 ≡ 1 → new % 4 ≢ 1 → 0 < times p v.out
      → Moved s r id v p new (without p v.out)
  comes_back s r id v p new me is not_out some_entry =
      let old : ℕ = get_or r.words p 0 in
      let alone = no_other s r p id v me is some_entry in
      let fewer = times-without p v.out some_entry in
      let gone : times p (without p v.out) ≡ 0 = omega (arith, alone.0) in (
        fit-set r.words p new (without p v.out) gone (fit-without r.words p v.out (r.work id v me)),
        alone.1,
        (let was = out_yes old is in let now = out_no new not_out in omega (arith, alone.0)),
        (λ q ne. times-without_other p q v.out ne),
      )

  -- the partner's
  partner : (s : State (Option T) (View O)) (r : Rule s) (id : ℕ) (v : View O) (p new : ℕ) → HasView s id v
      → get_or r.words p 0 % 4 ≢ 1 → new % 4 ≢ 1 → Moved s r id v p new v.out
  partner s r id v p new me was_not not_out =
      let none_there = nobody s r p was_not in (
        fit-set r.words p new v.out (none_there id v me) (r.work id v me),
        (λ j u ne e. none_there j u e),
        (let was = out_no (get_or r.words p 0) was_not in let now = out_no new not_out in omega arith),
        (λ q ne. refl),
      )

  -- a new view that keeps the invariant, with what the step tells
  abbrev Goes : State (Option T) (View O) → ℕ → Me (Option T) (View O) → ℕ → ℕ → Type 0
  Goes s id m p new = (w : View O) × Rule (stepped s (p + 1) new id m.1 w keeps) × IsStored m.0 p new w

  -- the holder knows the word of the place
  same_word : (s : State (Option T) (View O)) (r : Rule s) (id : ℕ) (v : View O) (p : ℕ) → HasView s id v → v.holding ≡ true
      → p < length v.known → (p < length r.words) × (get_or v.known p 0 ≡ get_or r.words p 0)
  same_word s r id v p me holds within =
      let known : v.known ≡ r.words = r.known id v me holds in
      (omega (arith, ap (λ (l : List ℕ). length l) known), ap (λ (l : List ℕ). get_or l p 0) known)

  hands_out : (s : State (Option T) (View O)) (r : Rule s) (id : ℕ) (m : Me (Option T) (View O)) (p new : ℕ) → HasView s id m.0
      → 0 < length m.0.numbers → m.0.holding ≡ true → p < length m.0.known
      → get_or m.0.known p 0 % 4 ≡ 0 → new ≡ get_or m.0.known p 0 + 1 → Goes s id m p new
  hands_out s r id m p new me some_number holds within home next =
      let word = same_word s r id m.0 p me holds within in
      let old : ℕ = get_or r.words p 0 in
      let out = (p, get_or m.0.known p 0 / 4) ∷ m.0.out in
      let moved = subst (λ (n : ℕ). Moved s r id m.0 p new ((p, n / 4) ∷ m.0.out)) (sym word.1)
      (leaves s r id m.0 p new me word.0 (omega arith) (omega arith)) in
      let up : old ≤ new = omega arith in
      let phase : new % 4 < 3 = omega arith in (
        after_store m.0 p new out,
        stores s r id m.0 p new out m.1 me some_number holds word.0 up phase moved,
        ((λ _. refl), (λ e. absurd (omega arith)), λ e. absurd (omega arith)),
      )

  hands_back : (s : State (Option T) (View O)) (r : Rule s) (id : ℕ) (m : Me (Option T) (View O)) (p new : ℕ) → HasView s id m.0
      → 0 < length m.0.numbers → m.0.holding ≡ true → p < length m.0.known
      → get_or m.0.known p 0 % 4 ≡ 1 → 0 < times p m.0.out → (new ≡ get_or m.0.known p 0 + 1) ⊎ (new ≡ get_or m.0.known p 0 + 3)
      → Goes s id m p new
  hands_back s r id m p new me some_number holds within in_work some_item next =
      let word = same_word s r id m.0 p me holds within in
      let old : ℕ = get_or r.words p 0 in
      let out = without p m.0.out in
      let phase : (old ≤ new) × (new % 4 < 3) × (new % 4 ≢ 1) = ⊎_elim
      (λ e. (omega (arith, word.1), omega arith, λ f. absurd (omega arith)))
      (λ e. (omega (arith, word.1), omega arith, λ f. absurd (omega arith)))
      next in
      let moved = comes_back s r id m.0 p new me (omega (arith, word.1)) phase.2 some_item in (
        after_store m.0 p new out,
        stores s r id m.0 p new out m.1 me some_number holds word.0 phase.0 phase.1 moved,
        ((λ e. absurd (omega arith)), (λ _. refl), λ e. absurd (omega arith)),
      )

  for_partner : (s : State (Option T) (View O)) (r : Rule s) (id : ℕ) (m : Me (Option T) (View O)) (p new : ℕ) → HasView s id m.0
      → 0 < length m.0.numbers → m.0.holding ≡ true → p < length m.0.known
      → get_or m.0.known p 0 % 4 ≡ 2 → new ≡ get_or m.0.known p 0 + 2 → Goes s id m p new
  for_partner s r id m p new me some_number holds within waits next =
      let word = same_word s r id m.0 p me holds within in
      let old : ℕ = get_or r.words p 0 in
      let up : old ≤ new = omega (arith, word.1) in
      let phase : new % 4 < 3 = omega arith in
      let moved = partner s r id m.0 p new me (λ e. absurd (omega (arith, word.1))) (λ e. absurd (omega arith)) in (
        after_store m.0 p new m.0.out,
        stores s r id m.0 p new m.0.out m.1 me some_number holds word.0 up phase moved,
        ((λ e. absurd (omega arith)), (λ e. absurd (omega arith)), λ _. refl),
      )

  goes : (s : State (Option T) (View O)) (r : Rule s) (id : ℕ) (m : Me (Option T) (View O)) (p new : ℕ) → HasView s id m.0
      → 0 < length m.0.numbers → m.0.holding ≡ true → IsLawfulStore m.0 p new → Goes s id m p new
  goes s r id m p new me some_number holds lawful =
      ⊎_elim
      (λ out. hands_out s r id m p new me some_number holds lawful.0 out.0 out.1)
      (λ more. ⊎_elim
      (λ back. hands_back s r id m p new me some_number holds lawful.0 back.0 back.1 back.2)
      (λ pair. for_partner s r id m p new me some_number holds lawful.0 pair.0 pair.1)
      more)
      lawful.1

  pub marks_a_place : (n id : ℕ) (m : Me (Option T) (View O)) (p new : ℕ) → 0 < length m.0.numbers → m.0.holding ≡ true
      → IsLawfulStore m.0 p new
      → Allows Rule n id m (p + 1) (λ _. new) (λ _. Stores origin marks (step n (p + 1) new 0 none) m new)
  marks_a_place n id m p new some_number holds lawful s r wide me _ =
      let t = goes s r id m p new me some_number holds lawful in
      (t.0, keeps, tt, t.1, (refl, λ q e. let same : p ≡ q = omega arith in subst (λ (k : ℕ). IsStored m.0 k new t.0) same t.2))
