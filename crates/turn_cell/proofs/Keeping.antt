-- The first state keeps the invariant, and so do a try to take the lock and the lock given back.
use Rattle.std.proofs.Common.{◌≡◌, ℕ, ◌<◌, ◌≢◌, eqb, true, false, true≢false, List, [], ◌∷◌, length, get_or, set, sym, refl, ap, ◌∙◌, subst, inr, ⊎_elim, arith, Option, None, Some}
use mathlib.Core.Option.{some, none, some-injective}
use lib.ListN.{get_elem?}
use prog.Atomic.{either}
use Rattle.atomic_table.specs.Table.{State, Me, step, Act, keeps, takes, gives, Valid, carried_after, homes_after, put_back, rest, stepped, opening, Allows}
use Rattle.atomic_table.proofs.Lists.{set_here, set_else, exchanged}
use Rattle.turn_cell.specs.declared.view.View.{View}
use Rattle.turn_cell.specs.Sums.{total, numbers_from, times, AreInWork, is_in_work}
use Rattle.turn_cell.specs.Progress.{ArePhased, AreAtHome, NoneIsInWork, AtMost, first_view}
use Rattle.turn_cell.specs.AtomicSteps.{after_turn, after_refusal, after_return, Tries, GivesBack}
use Rattle.turn_cell.specs.LockRule.{HasView, IsBased, Fits, HasHolder, LockRule}
use Rattle.turn_cell.proofs.Adding.{total-set, length-numbers_from, out_no}
use Rattle.turn_cell.proofs.Views.{in_range, other_views, each_view, only_view, at_most_itself}
use Rattle.std.proofs.lemmas.Bool.{false_from_ne_true}
use Rattle.std.proofs.lemmas.Option.{same_Some}

-- words at home are phased, and none is in work
pub at_home-phased : (ws : List ℕ) → AreAtHome ws → ArePhased ws
at_home-phased ws home i = omega (arith, home i)

pub at_home-calm : (ws : List ℕ) → AreAtHome ws → NoneIsInWork ws
at_home-calm ws home i e = absurd (omega (arith, home i))

module _ {O : Type 0} where
  -- two views of one seat, with the same work
  abbrev IsSameSeat : View O → View O → Type 0
  IsSameSeat v w = (w.base ≡ v.base) × (w.total ≡ v.total) × (w.numbers ≡ v.numbers) × (w.places ≡ v.places) × (w.out ≡ v.out)

  -- a sum stays where the seat's own term does
  pub same_sum : (g : View O → ℕ) (l : List (View O)) (i : ℕ) (v w : View O) (n : ℕ) → get_elem? l i ≡ some v → g w ≡ g v
      → total g l ≡ n → total g (set l i w) ≡ n
  same_sum g l i v w n at same e = omega (arith, total-set g l i v w at)

module _ {T O : Type 0} (origin : T → O) (marks : T → List ℕ) where
  abbrev Rule : State (Option T) (View O) → Type 0
  Rule = LockRule origin marks

  opens_so : (value : T) (ws : List ℕ) (n : ℕ) → 0 < n → marks value ≡ ws → ArePhased ws → NoneIsInWork ws
      → Rule (opening (0 ∷ ws) (Some value ∷ []) (first_view (origin value) (length ws) n))
  opens_so value ws n some_pass m phased calm = let first : View O = first_view (origin value) (length ws) n in record {
    turn = 0;
    words = ws;
    base = origin value;
    all = n;
    are = refl;
    places = length ws;
    long = refl;
    free = λ _ i v e. only_view (λ (v : View O). v.holding ≡ false) first refl i v e;
    held = λ ne. absurd (ne refl);
    bases = λ i v e. only_view (IsBased (origin value) n (length ws)) first (inr (refl, refl, omega (arith, length-numbers_from 0 n), refl)) i v e;
    home = λ _. (value, refl, (refl, m));
    phased = phased;
    known = λ i v e h. absurd (true≢false (sym h ∙ only_view (λ (v : View O). v.holding ≡ false) first refl i v e));
    work = λ i v e. only_view (λ (v : View O). AreInWork ws v.out) first tt i v e;
    items = λ p. sym (out_no (get_or ws p 0) (calm p));
    seen = λ i v e. only_view (λ (v : View O). AtMost v.seen ws) first (omega arith, λ k. omega arith) i v e;
    numbers = λ h. omega arith;
  }

  pub opens : (value key : T) (ws words : List ℕ) (slots : List (Option T)) (n : ℕ) → 0 < n → key ≡ value → words ≡ 0 ∷ ws
      → slots ≡ Some value ∷ [] → marks value ≡ ws → ArePhased ws → NoneIsInWork ws
      → Rule (opening words slots (first_view (origin key) (length (marks key)) n))
  opens value key ws words slots n some_pass k w l m phased calm = rw (k, w, l, m) (opens_so value ws n some_pass m phased calm)

  -- a seat that stands for a number isn't spent
  pub awake : (s : State (Option T) (View O)) (r : Rule s) (i : ℕ) (v : View O) → HasView s i v → 0 < length v.numbers
      → (v.base ≡ Some r.base) × (v.total ≡ r.all) × (0 < length v.numbers) × (v.places ≡ r.places)
  awake s r i v at some_number = ⊎_elim (λ e. absurd (omega (arith, ap (λ (u : View O). length u.numbers) e))) (λ t. t) (r.bases i v at)

  -- A step on the turn, by a seat whose work stays, owes what the invariant says of the turn, the value and the holder.
  moves_turn : (s : State (Option T) (View O)) (r : Rule s) (id turn : ℕ) (v w : View O) (c : List (ℕ × Option T)) (a : Act (Option T))
      → HasView s id v → 0 < length v.numbers → IsSameSeat v w → AtMost w.seen r.words
      → (turn ≡ 0 → (i : ℕ) (u : View O) → get_elem? (set s.views id w) i ≡ some u → u.holding ≡ false)
      → (turn ≢ 0 → (turn ≡ 1) × HasHolder (stepped s 0 turn id c w a))
      → (turn ≡ 0 → (value : T) × (get_elem? (homes_after s.homes c a) 0 ≡ some (some (Some value))) × Fits origin marks r.base r.words value)
      → ((i : ℕ) (u : View O) → get_elem? (set s.views id w) i ≡ some u → u.holding ≡ true → u.known ≡ r.words)
      → Rule (stepped s 0 turn id c w a)
  moves_turn s r id turn v w c a me some_number same seen free held home known =
      let base = awake s r id v me some_number in
      let numbers : 0 < length w.numbers = omega (arith, ap (λ (l : List ℕ). length l) same.2) in
      record {
        turn = turn;
        words = r.words;
        base = r.base;
        all = r.all;
        are = ap (λ (ws : List ℕ). set ws 0 turn) r.are;
        places = r.places;
        long = r.long;
        free = free;
        held = held;
        bases = each_view (λ _ (u : View O). IsBased r.base r.all r.places u) s.views id w r.bases (inr (same.0 ∙ base.0, same.1 ∙ base.1, numbers, same.3 ∙ base.3));
        home = home;
        phased = r.phased;
        known = known;
        work = each_view (λ _ (u : View O). AreInWork r.words u.out) s.views id w r.work (subst (AreInWork r.words) (sym same.4) (r.work id v me));
        items = λ p. same_sum (λ (u : View O). times p u.out) s.views id v w (is_in_work (get_or r.words p 0)) me (ap (times p) same.4) (r.items p);
        seen = each_view (λ _ (u : View O). AtMost u.seen r.words) s.views id w r.seen seen;
        numbers = λ h. same_sum (λ (u : View O). total h u.numbers) s.views id v w (total h (numbers_from 0 r.all)) me (ap (total h) same.2) (r.numbers h);
      }

  -- what a step may do to the turn: it becomes k, by the seat id
  abbrev Goes : State (Option T) (View O) → ℕ → Me (Option T) (View O) → (ℕ → Me (Option T) (View O) → Type 0) → ℕ → Type 0
  Goes s id m then k = (w : View O) × (a : Act (Option T)) × Valid s.homes m.1 a × Rule (stepped s 0 k id m.1 w a) × then (get_or s.words 0 0) (w, carried_after m.1 a)

  -- a try finds the lock free
  takes_turn : (id : ℕ) (m : Me (Option T) (View O)) → 0 < length m.0.numbers → m.1 ≡ [] → (s : State (Option T) (View O)) → Rule s
      → HasView s id m.0 → get_or s.words 0 0 ≡ 0
      → Goes s id m (Tries origin marks (step 1 0 0 1 none) m) 1
  takes_turn id m some_number out s r me found =
      let at : r.turn ≡ 0 = sym (ap (λ (ws : List ℕ). get_or ws 0 0) r.are) ∙ found in
      let t = r.home at in
      let value : T = t.0 in
      let marked : marks value ≡ r.words = t.2.1 in
      let w : View O = after_turn m.0 (marks value) in
      let base = awake s r id m.0 me some_number in
      let idle = r.free at in (
        w,
        takes 0 (Some value),
        t.1,
        moves_turn s r id 1 m.0 w m.1 (takes 0 (Some value)) me some_number (refl, refl, refl, refl, refl) (r.seen id m.0 me)
            (λ e. absurd (omega arith))
            (λ _. (
              refl,
              record {
                seat = id;
                view = w;
                there = set_here s.views id w (in_range s.views id m.0 me);
                holds = refl;
                alone = other_views (λ j (u : View O). u.holding ≡ true → j ≡ id) s.views id w (λ j u ne e h. absurd (true≢false (sym h ∙ idle j u e))) (λ _. refl);
              },
            ))
            (λ e. absurd (omega arith))
            (each_view (λ _ (u : View O). u.holding ≡ true → u.known ≡ r.words) s.views id w (λ j u e h. r.known j u e h) (λ _. marked)),
        (
          (λ _. (
            value,
            ap (λ (l : List (ℕ × Option T)). (0, Some value) ∷ l) out,
            record {
              view = refl;
              base = base.0 ∙ ap Some (sym t.2.0);
              seen = subst (AtMost m.0.seen) (sym marked) (r.seen id m.0 me);
              work = subst (λ (ws : List ℕ). AreInWork ws m.0.out) (sym marked) (r.work id m.0 me);
              phased = subst ArePhased (sym marked) r.phased;
              sized = ap (λ (ws : List ℕ). length ws) marked ∙ (r.long ∙ sym base.3);
            },
          )),
          λ ne. absurd (ne found),
        ),
      )

  -- a try finds the lock held, by another seat
  is_refused : (id : ℕ) (m : Me (Option T) (View O)) → m.0.holding ≡ false → 0 < length m.0.numbers
      → (s : State (Option T) (View O)) → Rule s → HasView s id m.0 → get_or s.words 0 0 ≢ 0
      → Goes s id m (Tries origin marks (step 1 0 0 1 none) m) (get_or s.words 0 0)
  is_refused id m idle some_number s r me found =
      let x : ℕ = get_or s.words 0 0 in
      let at : x ≡ r.turn = ap (λ (ws : List ℕ). get_or ws 0 0) r.are in
      let h = r.held (λ e. found (at ∙ e)) in
      let k : ℕ = h.1.seat in
      let apart : k ≢ id = λ e. true≢false (sym h.1.holds ∙ (ap (λ (v : View O). v.holding) (some-injective h.1.view m.0 (sym h.1.there ∙ (ap (get_elem? s.views) e ∙ me))) ∙ idle)) in
      let w : View O = after_refusal m.0 in (
        w,
        keeps,
        tt,
        moves_turn s r id x m.0 w m.1 keeps me some_number (refl, refl, refl, refl, refl) (r.seen id m.0 me)
            (λ e. absurd (found e))
            (λ _. (
              at ∙ h.0,
              record {
                seat = k;
                view = h.1.view;
                there = set_else s.views id k w apart ∙ h.1.there;
                holds = h.1.holds;
                alone = other_views (λ j (u : View O). u.holding ≡ true → j ≡ k) s.views id w (λ j u ne e is. h.1.alone j u e is) (λ is. absurd (true≢false (sym is ∙ idle)));
              },
            ))
            (λ e. absurd (found e))
            (each_view (λ _ (u : View O). u.holding ≡ true → u.known ≡ r.words) s.views id w (λ j u e is. r.known j u e is) (λ is. absurd (true≢false (sym is ∙ idle)))),
        ((λ e. absurd (found e)), λ _. (at ∙ h.0, refl)),
      )

  pub tries : (n id : ℕ) (m : Me (Option T) (View O)) → 0 < length m.0.numbers → m.0.holding ≡ false → m.1 ≡ []
      → Allows Rule n id m 0 (λ k. either (eqb k 0) 1 k) (Tries origin marks (step n 0 0 1 none) m)
  tries n id m some_number idle out s r wide me _ =
      exchanged (get_or s.words 0 0) 0 1 (Goes s id m (Tries origin marks (step n 0 0 1 none) m)) (λ e. takes_turn id m some_number out s r me e) (λ ne. is_refused id m idle some_number s r me ne)

  -- the lock is given back with the value in the seat's list
  gives_so : (n id : ℕ) (m : Me (Option T) (View O)) (value : T) → 0 < n → 0 < length m.0.numbers → m.0.holding ≡ true
      → m.1 ≡ (0, Some value) ∷ [] → (Some (origin value) ≡ m.0.base) × (marks value ≡ m.0.known)
      → Allows Rule n id m 0 (λ _. 0) (λ _. GivesBack origin marks (step n 0 0 0 none) m 0)
  gives_so n id m value some_slot some_number holds out fits s r wide me _ =
      let known : m.0.known ≡ r.words = r.known id m.0 me holds in
      let base = awake s r id m.0 me some_number in
      let w : View O = after_return m.0 in
      let h = r.held (λ e. true≢false (sym holds ∙ r.free e id m.0 me)) in
      let mine : id ≡ h.1.seat = h.1.alone id m.0 me holds in
      let idle : (j : ℕ) (u : View O) → get_elem? (set s.views id w) j ≡ some u → u.holding ≡ false =
      other_views (λ j (u : View O). u.holding ≡ false) s.views id w (λ j u ne e. false_from_ne_true u.holding (λ is. ne (h.1.alone j u e is ∙ sym mine))) refl in (
        w,
        gives,
        tt,
        moves_turn s r id 0 m.0 w m.1 gives me some_number (refl, refl, refl, refl, refl) (subst (λ (ws : List ℕ). AtMost ws r.words) (sym known) (at_most_itself r.words))
            (λ _. idle)
            (λ ne. absurd (ne refl))
            (λ _. (
              value,
              ap (λ (l : List (ℕ × Option T)). get_elem? (put_back s.homes l) 0) out ∙ set_here s.homes 0 (some (Some value)) (omega arith),
              (same_Some _ _ (fits.0 ∙ base.0), fits.1 ∙ known),
            ))
            (λ j u e is. absurd (true≢false (sym is ∙ idle j u e))),
        ap (λ (l : List (ℕ × Option T)). (w, rest l)) out,
      )

  pub gives_back : (n id : ℕ) (m : Me (Option T) (View O)) (v : View O) (l : List (ℕ × Option T)) (value : T) → 0 < n
      → m ≡ (v, (0, Some value) ∷ rest l) → l ≡ (0, None) ∷ []
      → 0 < length v.numbers → v.holding ≡ true → (Some (origin value) ≡ v.base) × (marks value ≡ v.known)
      → Allows Rule n id m 0 (λ _. 0) (λ _. GivesBack origin marks (step n 0 0 0 none) m 0)
  gives_back n id m v l value some_slot is had some_number holds fits =
      subst (λ (x : Me (Option T) (View O)). Allows Rule n id x 0 (λ _. 0) (λ _. GivesBack origin marks (step n 0 0 0 none) x 0)) (sym is)
      (gives_so n id (v, (0, Some value) ∷ rest l) value some_slot some_number holds (ap (λ (k : List (ℕ × Option T)). (0, Some value) ∷ rest k) had) fits)
