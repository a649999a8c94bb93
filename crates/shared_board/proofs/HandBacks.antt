-- A hand-back: the slot waits, is alone, or is settled with its partner.
use Rattle.std.proofs.Common.{◌≡◌, ◌≢◌, ◌⊎◌, Some, map, inl, inr, ℕ, ◌+◌, ◌-◌, ◌*◌, ◌%◌, ◌<◌, ◌≤◌, Bool, true, false, if◌then◌else◌, ◌==◌, List, [], ◌∷◌, length, get_or, set, sym, refl, ap, ◌∙◌, subst, arith, length-set, get_or-set_same, get_or-set_other}
use Rattle.std.proofs.lemmas.Bool.{eqb-true, eq-eqb, ne_eqb, and_parts}
use Rattle.scalar_rule.specs.Epoch.{has_partner, partner, pair_of}
use Rattle.scalar_rule.proofs.SlotPartners.{sides, high-partner, back}
use Rattle.exchange_board.specs.declared.arrival.Arrival.{Arrival}
use Rattle.exchange_board.specs.declared.arrival.Arrival.TheVariants as arrivals
use Rattle.exchange_board.specs.Machine.{epochs, phases, met, after, IsPhased, IsBehind}
use Rattle.exchange_board.specs.Views.{Stage, BoardView, place_at, placed, ready_at, arrived_at, progress, words_of}
use Rattle.exchange_board.specs.Answers.{answer}
use Rattle.turn_cell.specs.Sums.{times, without, AreInWork}
use Rattle.turn_cell.specs.Progress.{ArePhased, AtMost}
use Rattle.turn_cell.specs.AtomicSteps.{IsLawfulStore, IsStored}
use Rattle.turn_cell.proofs.Adding.{at_same}
use Rattle.turn_cell.proofs.Views.{at_most_itself, at_most_set}
use Rattle.shared_board.specs.Turns.{IsAmong, IsTurn, IsWaiting, IsAlone, IsSettled}
use Rattle.shared_board.specs.Shared.{knows, HasFound, IsHolderOf, CanEnd}
use Rattle.shared_board.proofs.Words.{word-at, words-long, words-set, place-set, place-other, phased-words, phased-set, set-back, two-back}
use Rattle.shared_board.proofs.Stores.{SeatView, left, stored-mate, one-turn}

-- an item of the seat has its word, and the seat has an item of its place
pub item-word : (ws : List ℕ) (out : List (ℕ × ℕ)) (t e : ℕ) → AreInWork ws out → IsAmong (t, e) out
    → (t < length ws) × (get_or ws t 0 ≡ 4 * e + 1) × (0 < times t out)
item-word ws [] t e work among = absurd among
item-word ws (x ∷ xs) t e work among = elim among [
  | inl same ↦
      let place : x.0 ≡ t = sym (ap (λ (i : ℕ × ℕ). i.0) same) in
      let epoch : x.1 ≡ e = sym (ap (λ (i : ℕ × ℕ). i.1) same) in
      let one = at_same t x place in
      let word : get_or ws t 0 ≡ get_or ws x.0 0 = ap (λ (k : ℕ). get_or ws k 0) (sym place) in
      let a = work.0 in let b = work.1 in
      (omega arith, omega arith, omega arith)
  | inr later ↦
      let rest = item-word ws xs t e work.2 later in
      let c = rest.2 in
      (rest.0, rest.1, omega arith)
]

-- what an answer tells
abbrev pub Told : List Stage → ℕ → ℕ → Arrival → Type 0
Told ps t e arrivals.Waiting = (has_partner (length ps) t e ≡ true) × (met ps t e ≡ false)
Told ps t e (arrivals.Settled pair) = (has_partner (length ps) t e ≡ true) × (met ps t e ≡ true) × (pair ≡ pair_of t e)
Told ps t e arrivals.Alone = has_partner (length ps) t e ≡ false

told-by : (ps : List Stage) (t e : ℕ) (has meets : Bool) → has_partner (length ps) t e ≡ has → met ps t e ≡ meets
    → Told ps t e (if has then (if meets then arrivals.Settled (pair_of t e) else arrivals.Waiting) else arrivals.Alone)
told-by ps t e true true h m = (h, m, refl)
told-by ps t e true false h m = (h, m)
told-by ps t e false meets h m = h

pub told : (ps : List Stage) (t e : ℕ) (a : Arrival) → a ≡ answer ps t e → Told ps t e a
told ps t e a is = subst (Told ps t e) (sym is) (told-by ps t e (has_partner (length ps) t e) (met ps t e) refl refl)

-- the board b, and c after slot t came back to it at e
pub record Came (b c : BoardView) (t e : ℕ) : Type 0 where
  pub moved : c ≡ placed b (after b.places t e)
  pub known : t < length b.places
  pub out : progress (place_at b.places t) ≡ 4 * e + 1
  pub small : IsPhased b.places
  pub behind : IsBehind b.places t e

-- the word of the slot before, in the board's words
own-word : (b c : BoardView) (t e : ℕ) → Came b c t e → get_or (words_of b) t 0 ≡ 4 * e + 1
own-word b c t e m = word-at b.places t ∙ m.out

in-words : (b c : BoardView) (t e : ℕ) → Came b c t e → t < length (words_of b)
in-words b c t e m = let k = m.known in let z = words-long b.places in omega arith

-- slot t alone moved, to x
pub record OneCame (b c : BoardView) (t : ℕ) (x : Stage) : Type 0 where
  pub known : t < length c.places
  pub word : progress (place_at c.places t) ≡ progress x
  pub words : words_of c ≡ set (words_of b) t (progress x)

one-came : (b c : BoardView) (t e : ℕ) (x : Stage) → Came b c t e → after b.places t e ≡ set b.places t x → OneCame b c t x
one-came b c t e x m is =
    let ps : List Stage = b.places in
    let places : c.places ≡ set ps t x = ap (λ (v : BoardView). v.places) m.moved ∙ is in
    record {
      known = (let k = m.known in let long : length c.places ≡ length ps = ap length places ∙ length-set ps t x in omega arith);
      word = ap progress (ap (λ (l : List Stage). place_at l t) places ∙ place-set ps t x m.known);
      words = ap (λ (l : List Stage). map progress l) places ∙ words-set ps t x;
    }

pub alone-came : (b c : BoardView) (t e : ℕ) → Came b c t e → has_partner (length b.places) t e ≡ false → OneCame b c t (ready_at (e + 1))
alone-came b c t e m has = one-came b c t e (ready_at (e + 1)) m (rw has refl)

pub waiting-came : (b c : BoardView) (t e : ℕ) → Came b c t e → has_partner (length b.places) t e ≡ true → met b.places t e ≡ false
    → OneCame b c t (arrived_at e)
waiting-came b c t e m has unmet = one-came b c t e (arrived_at e) m (rw (has, unmet) refl)

-- a turn in which slot t alone moved
one-back : (v h w : SeatView) (b c : BoardView) (t e : ℕ) (x : Stage) → HasFound v h b → Came b c t e → OneCame b c t x
    → 4 * e + 1 ≤ progress x → progress x % 4 < 3 → w ≡ left h (words_of c) (without t h.out)
    → IsTurn v w (set w.seen t (4 * e + 1)) (without t v.out) × (w.seen ≡ set (words_of b) t (progress x))
one-back v h w b c t e x has m one rise small back =
    let ws : List ℕ = words_of c in
    let known = in-words b c t e m in
    let before = own-word b c t e m in
    let out : h.out ≡ v.out = ap (λ (y : SeatView). y.out) has.view in
    let is : w ≡ left h ws (without t v.out) = back ∙ ap (λ (l : List (ℕ × ℕ)). left h ws (without t l)) out in
    let seen : w.seen ≡ set (words_of b) t (progress x) = ap (λ (y : SeatView). y.seen) is ∙ one.words in
    let found : set w.seen t (4 * e + 1) ≡ words_of b = ap (λ (l : List ℕ). set l t (4 * e + 1)) seen ∙ set-back (words_of b) t (progress x) (4 * e + 1) before in
    let low : get_or (words_of b) t 0 ≤ progress x = omega arith in (
      one-turn v h w b ws (set w.seen t (4 * e + 1)) (without t v.out) has is found
          (subst (AtMost (words_of b)) (sym one.words) (at_most_set (words_of b) (words_of b) t (progress x) (at_most_itself (words_of b)) known low))
          (subst ArePhased (sym one.words) (phased-set (words_of b) t (progress x) (phased-words b.places m.small) known small))
          (ap length one.words ∙ length-set (words_of b) t (progress x)),
      seen,
    )

-- the holder of b may end its turn with c, of which slot t alone moved
pub one-ends : (h : SeatView) (b c : BoardView) (t e : ℕ) (x : Stage) → IsHolderOf h b → Came b c t e → OneCame b c t x
    → 0 < times t h.out → (progress x ≡ 4 * e + 2) ⊎ (progress x ≡ 4 * e + 4) → CanEnd h c t
one-ends h b c t e x holds m one item number =
    let bs : List ℕ = words_of b in
    let at : get_or h.known t 0 ≡ 4 * e + 1 = ap (λ (l : List ℕ). get_or l t 0) holds.words ∙ own-word b c t e m in
    let known : t < length h.known = subst (λ (l : List ℕ). t < length l) (sym holds.words) (in-words b c t e m) in
    let word = one.word in
    record {
      held = holds.held;
      base = holds.base ∙ ap (λ (v : BoardView). Some v.origin) (sym m.moved);
      known = one.known;
      own = omega arith;
      lawful = (known, inr (inl (omega arith, item, elim number [ inl a ↦ inl (omega arith) | inr a ↦ inr (omega arith) ])));
      words = one.words ∙ (ap (set bs t) (sym word) ∙ ap (λ (l : List ℕ). set l t (progress (place_at c.places t))) (sym holds.words));
    }

places-of : (v h : SeatView) (b : BoardView) → HasFound v h b → v.places ≡ length b.places
places-of v h b has = sym has.sized ∙ words-long b.places

pub alone-back : (v h w : SeatView) (b c : BoardView) (t e : ℕ) → HasFound v h b → Came b c t e
    → has_partner (length b.places) t e ≡ false → w ≡ left h (words_of c) (without t h.out) → IsAlone v w t e
alone-back v h w b c t e has m none back_is =
    let r = one-back v h w b c t e (ready_at (e + 1)) has m (alone-came b c t e m none) (omega arith) (omega arith) back_is in
    record {
      turn = r.0;
      word = ap (λ (l : List ℕ). get_or l t 0) r.1 ∙ (get_or-set_same (words_of b) t (progress (ready_at (e + 1))) 0 (in-words b c t e m) ∙ omega arith);
      has = subst (λ (n : ℕ). has_partner n t e ≡ false) (sym (places-of v h b has)) none;
    }

pub waiting-back : (v h w : SeatView) (b c : BoardView) (t e : ℕ) → HasFound v h b → Came b c t e
    → has_partner (length b.places) t e ≡ true → met b.places t e ≡ false → w ≡ left h (words_of c) (without t h.out) → IsWaiting v w t e
waiting-back v h w b c t e has m some unmet back_is =
    let r = one-back v h w b c t e (arrived_at e) has m (waiting-came b c t e m some unmet) (omega arith) (omega arith) back_is in
    let other = back (length b.places) t e m.known some in
    let p : ℕ = partner t e in
    let word : get_or w.seen p 0 ≡ get_or (words_of b) p 0 = ap (λ (l : List ℕ). get_or l p 0) r.1 ∙ get_or-set_other (words_of b) t p (progress (arrived_at e)) 0 other.other in
    let at = word-at b.places p in
    let below = m.behind some in
    record {
      turn = r.0;
      word = ap (λ (l : List ℕ). get_or l t 0) r.1 ∙ (get_or-set_same (words_of b) t (progress (arrived_at e)) 0 (in-words b c t e m) ∙ omega arith);
      has = subst (λ (n : ℕ). has_partner n t e ≡ true) (sym (places-of v h b has)) some;
      behind = omega arith;
    }

-- slots t and p moved, to the next epoch
pub record TwoCame (b c : BoardView) (t p e : ℕ) : Type 0 where
  pub known : t < length c.places
  pub mate_known : p < length c.places
  pub mate_in : p < length (words_of b)
  pub apart : p ≢ t
  pub word : progress (place_at c.places t) ≡ 4 * e + 4
  pub mate_word : progress (place_at c.places p) ≡ 4 * e + 4
  pub mate_before : get_or (words_of b) p 0 ≡ 4 * e + 2
  pub words : words_of c ≡ set (set (words_of b) p (4 * e + 4)) t (4 * e + 4)

pub settled-came : (b c : BoardView) (t e : ℕ) → Came b c t e → has_partner (length b.places) t e ≡ true → met b.places t e ≡ true
    → TwoCame b c t (partner t e) e
settled-came b c t e m some meets =
    let ps : List Stage = b.places in
    let p : ℕ = partner t e in
    let x : Stage = ready_at (e + 1) in
    let other = back (length ps) t e m.known some in
    let is : after ps t e ≡ set (set ps p x) t x = rw (some, meets) refl in
    let places : c.places ≡ set (set ps p x) t x = ap (λ (v : BoardView). v.places) m.moved ∙ is in
    let long : length c.places ≡ length ps = ap length places ∙ (length-set (set ps p x) t x ∙ length-set ps p x) in
    let number : progress x ≡ 4 * e + 4 = omega arith in
    let parts = and_parts _ _ meets in
    let phase : phases ps p ≡ 2 = eqb-true _ _ parts.0 in
    let epoch : epochs ps p ≡ e = eqb-true _ _ parts.1 in
    let at = word-at ps p in
    let k = m.known in let q = other.known in let z = words-long ps in
    record {
      known = omega arith;
      mate_known = omega arith;
      mate_in = omega arith;
      apart = other.other;
      word = ap progress (ap (λ (l : List Stage). place_at l t) places ∙ place-set (set ps p x) t x (let y = length-set ps p x in omega arith)) ∙ number;
      mate_word = ap progress (ap (λ (l : List Stage). place_at l p) places ∙ (place-other (set ps p x) t p x other.other ∙ place-set ps p x other.known)) ∙ number;
      mate_before = omega arith;
      words = ap (λ (l : List Stage). map progress l) places
          ∙ (words-set (set ps p x) t x ∙ (ap (λ (l : List ℕ). set l t (progress x)) (words-set ps p x) ∙ ap (λ (n : ℕ). set (set (words_of b) p n) t n) number));
    }

-- the store of the partner's word is lawful, and after it the holder may end its turn
pub mate-lawful : (h : SeatView) (b c : BoardView) (t p e : ℕ) → h.known ≡ words_of b → TwoCame b c t p e
    → IsLawfulStore h p (progress (place_at c.places p))
mate-lawful h b c t p e is two =
    let at : get_or h.known p 0 ≡ 4 * e + 2 = ap (λ (l : List ℕ). get_or l p 0) is ∙ two.mate_before in
    let known : p < length h.known = subst (λ (l : List ℕ). p < length l) (sym is) two.mate_in in
    let word = two.mate_word in
    (known, inr (inr (omega arith, omega arith)))

pub mate-stored : (h m : SeatView) (b c : BoardView) (t p e : ℕ) → h.known ≡ words_of b → TwoCame b c t p e
    → IsStored h p (progress (place_at c.places p)) m → m ≡ knows h (set (words_of b) p (4 * e + 4)) h.out
mate-stored h m b c t p e is two stored =
    stored-mate h m (words_of b) p e (progress (place_at c.places p)) is two.mate_before stored
    ∙ ap (λ (n : ℕ). knows h (set (words_of b) p n) h.out) two.mate_word

pub two-ends : (h m : SeatView) (b c : BoardView) (t p e : ℕ) → IsHolderOf h b → Came b c t e → TwoCame b c t p e
    → 0 < times t h.out → m ≡ knows h (set (words_of b) p (4 * e + 4)) h.out → CanEnd m c t
two-ends h m b c t p e holds came two item is =
    let bs : List ℕ = words_of b in
    let n : ℕ = 4 * e + 4 in
    let before : get_or bs t 0 ≡ 4 * e + 1 = own-word b c t e came in
    let still : get_or (set bs p n) t 0 ≡ get_or bs t 0 = get_or-set_other bs p t n 0 (λ z. two.apart (sym z)) in
    let words : m.known ≡ set bs p n = ap (λ (x : SeatView). x.known) is in
    let at : get_or m.known t 0 ≡ 4 * e + 1 = ap (λ (l : List ℕ). get_or l t 0) words ∙ (still ∙ before) in
    let long : length m.known ≡ length bs = ap length words ∙ length-set bs p n in
    let known = in-words b c t e came in
    let word = two.word in
    let mine : 0 < times t m.out = subst (λ (x : SeatView). 0 < times t x.out) (sym is) item in
    record {
      held = ap (λ (x : SeatView). x.holding) is ∙ holds.held;
      base = ap (λ (x : SeatView). x.base) is ∙ (holds.base ∙ ap (λ (v : BoardView). Some v.origin) (sym came.moved));
      known = two.known;
      own = omega arith;
      lawful = (omega arith, inr (inl (omega arith, mine, inr (omega arith))));
      words = two.words ∙ (ap (set (set bs p n) t) (sym word) ∙ ap (λ (l : List ℕ). set l t (progress (place_at c.places t))) (sym words));
    }

-- the other slot of the pair
pub mate-is : (n t e pair : ℕ) → has_partner n t e ≡ true → pair ≡ pair_of t e → (if pair == t then t + 1 else pair) ≡ partner t e
mate-is n t e pair some is = elim (sides t e) [
  | inl low ↦ let same : (pair == t) ≡ true = eq-eqb _ _ (is ∙ low.pair_is) in rw same (sym low.partner_is)
  | inr high ↦
      let one = high-partner n t e high some in
      let pair_is : pair ≡ t - 1 = is ∙ high.pair_is in
      let other : (pair == t) ≡ false = ne_eqb _ _ (λ z. omega arith) in
      rw other (pair_is ∙ sym high.partner_is)
]

pub settled-back : (v h w : SeatView) (b c : BoardView) (t e pair : ℕ) → HasFound v h b → Came b c t e
    → has_partner (length b.places) t e ≡ true → met b.places t e ≡ true → pair ≡ pair_of t e
    → w ≡ left h (words_of c) (without t h.out) → IsSettled v w t e pair
settled-back v h w b c t e pair has m some meets pair_is back_is =
    let p : ℕ = partner t e in
    let n : ℕ = 4 * e + 4 in
    let two = settled-came b c t e m some meets in
    let bs : List ℕ = words_of b in
    let ws : List ℕ = words_of c in
    let known : t < length bs = in-words b c t e m in
    let before : get_or bs t 0 ≡ 4 * e + 1 = own-word b c t e m in
    let mate_before : get_or bs p 0 ≡ 4 * e + 2 = two.mate_before in
    let out : h.out ≡ v.out = ap (λ (y : SeatView). y.out) has.view in
    let is : w ≡ left h ws (without t v.out) = back_is ∙ ap (λ (l : List (ℕ × ℕ)). left h ws (without t l)) out in
    let seen : w.seen ≡ set (set bs p n) t n = ap (λ (y : SeatView). y.seen) is ∙ two.words in
    let found : set (set w.seen p (4 * e + 2)) t (4 * e + 1) ≡ bs =
    ap (λ (l : List ℕ). set (set l p (4 * e + 2)) t (4 * e + 1)) seen ∙ two-back bs p t n (4 * e + 2) (4 * e + 1) two.apart mate_before before in
    let once : t < length (set bs p n) = (let y = length-set bs p n in omega arith) in
    let still : get_or (set bs p n) t 0 ≡ get_or bs t 0 = get_or-set_other bs p t n 0 (λ z. two.apart (sym z)) in
    let first : AtMost bs (set bs p n) = at_most_set bs bs p n (at_most_itself bs) two.mate_in (omega arith) in
    let most : AtMost bs (set (set bs p n) t n) = at_most_set bs (set bs p n) t n first once (omega arith) in
    let phased : ArePhased (set (set bs p n) t n) =
    phased-set (set bs p n) t n (phased-set bs p n (phased-words b.places m.small) two.mate_in (omega arith)) once (omega arith) in
    record {
      turn = one-turn v h w b ws (set (set w.seen p (4 * e + 2)) t (4 * e + 1)) (without t v.out) has is found
          (subst (AtMost bs) (sym two.words) most) (subst ArePhased (sym two.words) phased)
          (ap length two.words ∙ (length-set (set bs p n) t n ∙ length-set bs p n));
      word = ap (λ (l : List ℕ). get_or l t 0) seen ∙ get_or-set_same (set bs p n) t n 0 once;
      has = subst (λ (k : ℕ). has_partner k t e ≡ true) (sym (places-of v h b has)) some;
      other = ap (λ (l : List ℕ). get_or l p 0) seen ∙ (get_or-set_other (set bs p n) t p n 0 two.apart ∙ get_or-set_same bs p n 0 two.mate_in);
      pair_is = pair_is;
    }

-- the holder has the item too
pub item-held : (v h : SeatView) (b : BoardView) (t e : ℕ) → HasFound v h b → IsAmong (t, e) v.out → 0 < times t h.out
item-held v h b t e has among =
    subst (λ (x : SeatView). 0 < times t x.out) (sym has.view) (item-word (words_of b) v.out t e has.work among).2
