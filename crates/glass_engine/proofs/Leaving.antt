-- Seats that are opened, worked with and handed back, and the board that is closed with them.
use Rattle.std.proofs.Common.{arith, ◌≡◌, ◌⊎◌, inl, inr, ℕ, zero, suc, ◌+◌, ◌<◌, ◌≤◌, List, [], ◌∷◌, ◌++◌, All, Some, length, take, drop, get_or, refl, sym, ap, ◌∙◌, subst}
use Rattle.std.specs.Prelude.{Option, IsSomeAnd}
use Rattle.std.proofs.lemmas.Bool.{cases_lt}
use Rattle.std.proofs.lemmas.List.{length-map}
use Rattle.atomic_table.specs.Seated.{TableId}
use Rattle.scalar_rule.specs.Plan.{Plan}
use Rattle.scalar_rule.specs.Positions.{sum_below}
use Rattle.turn_cell.specs.Progress.{AtMost}
use Rattle.turn_cell.specs.Seats.{seat_view, base_of, AreOpened, AreIdle}
use Rattle.exchange_board.specs.declared.origin.Origin.{Origin}
use Rattle.exchange_board.specs.Answers.{start_place, stages_of, IsSpent}
use Rattle.exchange_board.specs.Content.{plan_of, slots_in, taken_before, IsLawfulOrigin}
use Rattle.exchange_board.specs.Machine.{begun, phases, taken, AllEnded}
use Rattle.exchange_board.specs.Stops.{IsStop}
use Rattle.exchange_board.specs.Views.{Stage, BoardView, RaggedEndedView, place_at, progress, words_of}
use Rattle.exchange_board.proofs.Starting.{begun-ruled, taken-begun}
use Rattle.shared_board.specs.Words.{taken_at, IsFinished, IsStopped}
use Rattle.shared_board.proofs.Words.{word-at, words-long, taken-words}
use Rattle.shared_board.proofs.Stores.{SeatView}
use Rattle.shared_board.specs.Shared.{lock_id}
use Rattle.turn_cell.proofs.Seating.{idle-base, written}
use Rattle.glass_engine.specs.KeptBank.{KeepsBank}
use Rattle.glass_engine.specs.Working.{Seat, AreAtRest, HaveLeft}
use Rattle.glass_engine.specs.declared.run.BankRun.TheInside as run
use Rattle.glass_engine.proofs.Driven.{HasEnded}
use Rattle.glass_engine.proofs.WholeRuns.{later, later-lawful}
use Rattle.std.proofs.lemmas.Option.{same_Some}

-- a lock is opened with seats at rest
pub rest-opened : (id : TableId) (plan : Plan) (o : Origin) (places n k : ℕ) (ps : List Seat) → plan_of o ≡ plan → AreOpened id o places n k ps
    → AreAtRest id plan ps
rest-opened id plan o places n k [] is all = tt
rest-opened id plan o places n k (p ∷ ps) is all =
    let me = all.1 in
    let B : Option Origin → Type 0 = λ b. IsSomeAnd b (λ x. plan_of x ≡ plan) in (
      record {
        own = all.0;
        free = ap (λ (v : SeatView). v.holding) me;
        work = ap (λ (v : SeatView). v.out) me;
        base = subst B (sym (ap (λ (v : SeatView). v.base) me)) is;
      },
      rest-opened id plan o places n (k + 1) ps is all.2,
    )

-- two parts of a list of seats
pub rest-front : (id : TableId) (plan : Plan) (xs ys : List Seat) → AreAtRest id plan (xs ++ ys) → AreAtRest id plan xs
rest-front id plan [] ys all = tt
rest-front id plan (x ∷ xs) ys all = (all.0, rest-front id plan xs ys all.1)

pub rest-back : (id : TableId) (plan : Plan) (xs ys : List Seat) → AreAtRest id plan (xs ++ ys) → AreAtRest id plan ys
rest-back id plan [] ys all = all
rest-back id plan (x ∷ xs) ys all = rest-back id plan xs ys all.1

pub left-append : (id : TableId) (plan : Plan) (xs ys us vs : List Seat) → HaveLeft id plan xs us → HaveLeft id plan ys vs
    → HaveLeft id plan (xs ++ ys) (us ++ vs)
left-append id plan [] ys [] vs a b = b
left-append id plan [] ys (u ∷ us) vs a b = absurd a
left-append id plan (x ∷ xs) ys [] vs a b = absurd a
left-append id plan (x ∷ xs) ys (u ∷ us) vs a b = (a.0, left-append id plan xs ys us vs a.1 b)

pub left-long : (id : TableId) (plan : Plan) (ps qs : List Seat) → HaveLeft id plan ps qs → length qs ≡ length ps
left-long id plan [] [] all = refl
left-long id plan [] (q ∷ qs) all = absurd all
left-long id plan (p ∷ ps) [] all = absurd all
left-long id plan (p ∷ ps) (q ∷ qs) all = ap suc (left-long id plan ps qs all.1)

-- seats that are handed back are idle
pub idle-left : (id : TableId) (plan : Plan) (o : Origin) (places n k : ℕ) (ps qs : List Seat) → AreOpened id o places n k ps → HaveLeft id plan ps qs
    → AreIdle id (Some o) n qs
idle-left id plan o places n k [] [] all left = tt
idle-left id plan o places n k [] (q ∷ qs) all left = absurd left
idle-left id plan o places n k (p ∷ ps) [] all left = absurd left
idle-left id plan o places n k (p ∷ ps) (q ∷ qs) all left =
    let me = all.1 in
    let rest = left.0.0 in
    let same = left.0.1 in (
      record {
        own = rest.own;
        alone = ap (λ (l : List ℕ). length l) (same.numbers ∙ ap (λ (v : SeatView). v.numbers) me);
        total = same.total ∙ ap (λ (v : SeatView). v.total) me;
        base = same.base ∙ ap (λ (v : SeatView). v.base) me;
        free = rest.free;
        work = rest.work;
      },
      idle-left id plan o places n (k + 1) ps qs all.2 left.1,
    )

sum-rise : (f g : ℕ → ℕ) (n : ℕ) → ((t : ℕ) → t < n → f t ≤ g t) → sum_below f n ≤ sum_below g n
unfolding sum_below
sum-rise f g zero rise = omega arith
sum-rise f g (suc n) rise =
    let before = sum-rise f g n (λ t h. rise t (omega arith)) in
    let last = rise n (omega arith) in
    omega arith

-- words that some seat has seen at its leave: the board that is closed later is at its end
pub words-over : (b : BoardView) (d : RaggedEndedView) (seen : List ℕ) → length seen ≡ slots_in b.origin → AtMost seen (words_of b)
    → IsFinished b.origin seen ⊎ IsStopped b.origin seen → IsLawfulOrigin b.origin → stages_of d.stand ≡ b.places → IsStop b.origin d
    → AllEnded b.origin.window.until b.places ⊎ IsSpent b
words-over b d seen long most over lawful places stop =
    let o = b.origin in
    let ps = stages_of d.stand in
    let l = later o d.stand in
    let fair = later-lawful o d lawful stop in
    let count : length ps ≡ slots_in o = length-map d.stand.places start_place ∙ stop.fits.places in
    elim over [
      | inl all ↦
          let r = begun-ruled l fair in
          let E : List Stage → Type 0 = λ q. AllEnded o.window.until q in
          inl (subst E places (λ t h.
          let k : t < slots_in o = omega arith in
          let high = most.1 t in
          let at = word-at b.places t in
          let same : progress (place_at ps t) ≡ progress (place_at b.places t) = ap (λ (q : List Stage). progress (place_at q t)) places in
          let full = all t (omega arith) in
          let low = r.below t k in
          let small = r.phased t k in
          elim (cases_lt 0 (phases ps t)) [ inl w ↦ let z = r.working t k w in absurd (omega arith) | inr w ↦ (omega arith, omega arith) ]))
      | inr is ↦
          let words = words_of b in
          let same : length seen ≡ length words = long ∙ (sym count ∙ (ap length places ∙ sym (words-long b.places))) in
          let rise : taken_at seen ≤ sum_below (λ t. begun (get_or words t 0)) (length seen) =
          sum-rise (λ t. begun (get_or seen t 0)) (λ t. begun (get_or words t 0)) (length seen) (λ t h. let z = most.1 t in omega arith) in
          let whole : sum_below (λ t. begun (get_or words t 0)) (length seen) ≡ taken_at words = ap (sum_below (λ t. begun (get_or words t 0))) same in
          let read : taken_at words ≡ taken b.places = taken-words b.places in
          let ended : taken ps ≡ taken_before l = taken-begun l fair in
          let there : taken ps ≡ taken b.places = ap taken places in
          let few : taken_before l ≤ taken_before o + o.window.takes = stop.taken in
          let spent : taken_at seen ≡ taken_before o + o.window.takes = is.spent in
          inr (omega arith)
    ]

-- the seats are back, and the board is closed
pub closed-over : (id : TableId) (plan : Plan) (o : Origin) (n : ℕ) (ps qs : List Seat) (b : BoardView) (d : RaggedEndedView) → 0 < length ps
    → AreOpened id o (slots_in o) n 0 ps → HaveLeft id plan ps qs → b.origin ≡ o → All (λ q. AtMost (seat_view q).seen (words_of b)) qs
    → IsLawfulOrigin o → stages_of d.stand ≡ b.places → IsStop b.origin d → AllEnded b.origin.window.until b.places ⊎ IsSpent b
closed-over id plan o n [] qs b d some all left same most lawful places stop = absurd (omega arith)
closed-over id plan o n (p ∷ ps) [] b d some all left same most lawful places stop = absurd left
closed-over id plan o n (p ∷ ps) (q ∷ qs) b d some all left same most lawful places stop =
    let v = seat_view q in
    let me = all.1 in
    let base : v.base ≡ Some o = left.0.1.base ∙ ap (λ (x : SeatView). x.base) me in
    let count : v.places ≡ slots_in o = left.0.1.places ∙ ap (λ (x : SeatView). x.places) me in
    let over = left.0.2.over o base in
    let L : Origin → Type 0 = λ x. IsLawfulOrigin x in
    let S : Origin → Type 0 = λ x. length v.seen ≡ slots_in x in
    let O : Origin → Type 0 = λ x. IsFinished x v.seen ⊎ IsStopped x v.seen in
    words-over b d v.seen (subst S (sym same) (left.0.2.sized ∙ count)) (most 0 q (omega arith)) (subst O (sym same) over) (subst L (sym same) lawful) places stop

-- the list of seats as it is after it was borrowed
abbrev pub back : List Seat → List Seat → ℕ → List Seat
back ps qs len = take len (qs ++ drop (length qs) ps)

module _ (r : run.Inside) (plan : Plan) (qs : List Seat) (keeps : KeepsBank r) (whole : r.seats.len ≡ length r.seats.items)
    (left : HaveLeft (lock_id r.board) plan r.seats.items qs) where
  all-idle : AreIdle (lock_id r.board) (Some r.opened.value.origin) (length r.seats.items) qs
  all-idle = idle-left (lock_id r.board) plan r.opened.value.origin (length r.opened.value.places) (length r.seats.items) 0 r.seats.items qs keeps.seats left

  long : length qs ≡ length r.seats.items
  long = left-long (lock_id r.board) plan r.seats.items qs left

  are : back r.seats.items qs r.seats.len ≡ qs
  are = written qs r.seats.items r.seats.len long whole

  first-base : base_of qs ≡ Some r.opened.value.origin
  first-base =
      let some = keeps.some_seats in
      let n = long in
      idle-base (lock_id r.board) (Some r.opened.value.origin) (length r.seats.items) qs all-idle (omega arith)

  -- the board can be closed with them
  pub run-idle : let seats = back r.seats.items qs r.seats.len in AreIdle (lock_id r.board) (base_of seats) (length seats) seats
  run-idle =
      let P : List Seat → Type 0 = λ l. AreIdle (lock_id r.board) (base_of l) (length l) l in
      let B : Option Origin → Type 0 = λ b. AreIdle (lock_id r.board) b (length qs) qs in
      let N : ℕ → Type 0 = λ n. AreIdle (lock_id r.board) (Some r.opened.value.origin) n qs in
      subst P (sym are) (subst B (sym first-base) (subst N (sym long) all-idle))

  -- and is then the run's, at its end
  pub run-origin : (b : BoardView) → Some b.origin ≡ base_of (back r.seats.items qs r.seats.len) → b.origin ≡ r.opened.value.origin
  run-origin b base = same_Some _ _ (base ∙ (ap base_of are ∙ first-base))

  pub run-ended : (b : BoardView) (d : RaggedEndedView) → Some b.origin ≡ base_of (back r.seats.items qs r.seats.len)
      → All (λ q. AtMost (seat_view q).seen (words_of b)) (back r.seats.items qs r.seats.len) → stages_of d.stand ≡ b.places → IsStop b.origin d
      → HasEnded b d
  run-ended b d base seen places stop =
      let o = r.opened.value.origin in
      let count : length r.opened.value.places ≡ slots_in o = ap length keeps.places ∙ (length-map o.base.places start_place ∙ keeps.lawful.base.places) in
      let S : List Seat → Type 0 = λ l. All (λ q. AtMost (seat_view q).seen (words_of b)) l in
      let A : ℕ → Type 0 = λ n. AreOpened (lock_id r.board) o n (length r.seats.items) 0 r.seats.items in
      record {
        finished = closed-over (lock_id r.board) plan o (length r.seats.items) r.seats.items qs b d keeps.some_seats (subst A count keeps.seats) left
            (run-origin b base) (subst S are seen) keeps.lawful places stop;
        places = places;
        stop = stop;
      }
