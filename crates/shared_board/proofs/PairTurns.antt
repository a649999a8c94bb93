-- Turns in which the words of two partners change: their hand-out, and their hand-back.
use Rattle.std.proofs.Common.{◌≡◌, true, inl, inr, ℕ, ◌+◌, ◌*◌, ◌%◌, ◌<◌, ◌≤◌, List, ◌∷◌, length, map, get_or, set, sym, refl, ap, ◌∙◌, subst, arith, Some, length-set, get_or-set_same, get_or-set_other}
use Rattle.exchange_board.specs.declared.origin.Origin.{Origin}
use Rattle.exchange_board.specs.Machine.{IsPhased}
use Rattle.exchange_board.specs.Content.{taken_before}
use Rattle.exchange_board.specs.Views.{Stage, BoardView, JobView, place_at, placed, ready_at, out_at, progress, words_of}
use Rattle.exchange_board.specs.Answers.{TakesPair, with_pair_back}
use Rattle.turn_cell.specs.Sums.{times, without, AreInWork}
use Rattle.turn_cell.specs.Progress.{ArePhased, AtMost}
use Rattle.turn_cell.specs.AtomicSteps.{after_turn, after_return, IsLawfulStore, IsStored}
use Rattle.turn_cell.proofs.Adding.{times-without, times-without_other, fit-without, fit-set}
use Rattle.turn_cell.proofs.Views.{at_most_itself, at_most_set}
use Rattle.shared_board.specs.Words.{taken_at}
use Rattle.shared_board.specs.Turns.{IsTurn, IsPairOut, ReturnsPair}
use Rattle.shared_board.specs.Shared.{knows, as_returned, HasFound, HasInHand}
use Rattle.shared_board.proofs.Words.{word-at, words-long, words-set, place-set, place-other, phased-words, phased-set, two-back, taken-words}
use Rattle.shared_board.proofs.Stores.{SeatView, left, stored-out, stored-back, one-turn}

-- the board b, and c, on which the words of the slots p and p + 1 alone went from a to n
pub record TwoChanged (b c : BoardView) (p a n : ℕ) : Type 0 where
  pub low_in : p < length (words_of b)
  pub high_in : p + 1 < length (words_of b)
  pub low_known : p < length c.places
  pub high_known : p + 1 < length c.places
  pub low_before : get_or (words_of b) p 0 ≡ a
  pub high_before : get_or (words_of b) (p + 1) 0 ≡ a
  pub low_word : progress (place_at c.places p) ≡ n
  pub high_word : progress (place_at c.places (p + 1)) ≡ n
  pub words : words_of c ≡ set (set (words_of b) p n) (p + 1) n
  pub origin : c.origin ≡ b.origin

pub two-changed : (b c : BoardView) (p a n : ℕ) (x : Stage) → p + 1 < length b.places → progress (place_at b.places p) ≡ a → progress (place_at b.places (p + 1)) ≡ a → progress x ≡ n
    → c ≡ placed b (set (set b.places p x) (p + 1) x) → TwoChanged b c p a n
two-changed b c p a n x known low high number is =
    let ps : List Stage = b.places in
    let places : c.places ≡ set (set ps p x) (p + 1) x = ap (λ (v : BoardView). v.places) is in
    let long : length c.places ≡ length ps = ap length places ∙ (length-set (set ps p x) (p + 1) x ∙ length-set ps p x) in
    let z = words-long ps in
    record {
      low_in = omega arith;
      high_in = omega arith;
      low_known = omega arith;
      high_known = omega arith;
      low_before = word-at ps p ∙ low;
      high_before = word-at ps (p + 1) ∙ high;
      low_word = ap progress (ap (λ (l : List Stage). place_at l p) places ∙ (place-other (set ps p x) (p + 1) p x (λ e. omega arith) ∙ place-set ps p x (omega arith))) ∙ number;
      high_word = ap progress (ap (λ (l : List Stage). place_at l (p + 1)) places ∙ place-set (set ps p x) (p + 1) x (let y = length-set ps p x in omega arith)) ∙ number;
      words = ap (λ (l : List Stage). map progress l) places
          ∙ (words-set (set ps p x) (p + 1) x ∙ (ap (λ (l : List ℕ). set l (p + 1) (progress x)) (words-set ps p x) ∙ ap (λ (k : ℕ). set (set (words_of b) p k) (p + 1) k) number));
      origin = ap (λ (v : BoardView). v.origin) is;
    }

-- a hand-out, and a hand-back
pub out-changed : (b c : BoardView) (j : JobView) → TakesPair b c j → TwoChanged b c j.slot (4 * j.epoch) (4 * j.epoch + 1)
out-changed b c j t =
    two-changed b c j.slot (4 * j.epoch) (4 * j.epoch + 1) (out_at j.epoch) t.known (ap progress t.low ∙ omega arith) (ap progress t.high ∙ omega arith) refl t.after

pub back-changed : (b c : BoardView) (t e : ℕ) → t + 1 < length b.places → progress (place_at b.places t) ≡ 4 * e + 1 → progress (place_at b.places (t + 1)) ≡ 4 * e + 1
    → c ≡ placed b (with_pair_back b.places t e) → TwoChanged b c t (4 * e + 1) (4 * e + 4)
back-changed b c t e known low high is = two-changed b c t (4 * e + 1) (4 * e + 4) (ready_at (e + 1)) known low high (omega arith) is

-- a turn in which the two words were changed
pub two-turn : (v h w : SeatView) (b c : BoardView) (p a n : ℕ) (out : List (ℕ × ℕ)) → HasFound v h b → IsPhased b.places → TwoChanged b c p a n → a ≤ n → n % 4 < 3
    → w ≡ left h (words_of c) out → IsTurn v w (set (set w.seen p a) (p + 1) a) out × (w.seen ≡ set (set (words_of b) p n) (p + 1) n) × (set (set w.seen p a) (p + 1) a ≡ words_of b)
two-turn v h w b c p a n out has small two rise phase is =
    let bs : List ℕ = words_of b in
    let ws : List ℕ = words_of c in
    let seen : w.seen ≡ set (set bs p n) (p + 1) n = ap (λ (y : SeatView). y.seen) is ∙ two.words in
    let found : set (set w.seen p a) (p + 1) a ≡ bs =
    ap (λ (l : List ℕ). set (set l p a) (p + 1) a) seen ∙ two-back bs p (p + 1) n a a (λ e. omega arith) two.low_before two.high_before in
    let low = two.low_before in
    let high = two.high_before in
    let once : p + 1 < length (set bs p n) = (let y = length-set bs p n in let z = two.high_in in omega arith) in
    let still : get_or (set bs p n) (p + 1) 0 ≡ get_or bs (p + 1) 0 = get_or-set_other bs p (p + 1) n 0 (λ e. omega arith) in
    let first : AtMost bs (set bs p n) = at_most_set bs bs p n (at_most_itself bs) two.low_in (omega arith) in
    let most : AtMost bs (set (set bs p n) (p + 1) n) = at_most_set bs (set bs p n) (p + 1) n first once (omega arith) in
    let phased : ArePhased (set (set bs p n) (p + 1) n) =
    phased-set (set bs p n) (p + 1) n (phased-set bs p n (phased-words b.places small) two.low_in phase) once phase in (
      one-turn v h w b ws (set (set w.seen p a) (p + 1) a) out has is found
          (subst (AtMost bs) (sym two.words) most) (subst ArePhased (sym two.words) phased)
          (ap length two.words ∙ (length-set (set bs p n) (p + 1) n ∙ length-set bs p n)),
      seen,
      found,
    )

-- the words afterwards
two-words : (w : SeatView) (b c : BoardView) (p a n : ℕ) → TwoChanged b c p a n → w.seen ≡ set (set (words_of b) p n) (p + 1) n → (get_or w.seen p 0 ≡ n) × (get_or w.seen (p + 1) 0 ≡ n)
two-words w b c p a n two seen =
    let bs : List ℕ = words_of b in
    let once : p + 1 < length (set bs p n) = (let y = length-set bs p n in let z = two.high_in in omega arith) in (
      ap (λ (l : List ℕ). get_or l p 0) seen ∙ (get_or-set_other (set bs p n) (p + 1) p n 0 (λ e. omega arith) ∙ get_or-set_same bs p n 0 two.low_in),
      ap (λ (l : List ℕ). get_or l (p + 1) 0) seen ∙ get_or-set_same (set bs p n) (p + 1) n 0 once,
    )

-- what the holder knows of the second word once the first is stored
second-known : (m h : SeatView) (b c : BoardView) (p a n : ℕ) (out : List (ℕ × ℕ)) → TwoChanged b c p a n → m ≡ knows h (set (words_of b) p n) out
    → (p + 1 < length m.known) × (get_or m.known (p + 1) 0 ≡ a)
second-known m h b c p a n out two is =
    let bs : List ℕ = words_of b in
    let words : m.known ≡ set bs p n = ap (λ (x : SeatView). x.known) is in
    let long : length m.known ≡ length bs = ap length words ∙ length-set bs p n in
    let high = two.high_in in
    (omega arith, ap (λ (l : List ℕ). get_or l (p + 1) 0) words ∙ (get_or-set_other bs p (p + 1) n 0 (λ e. omega arith) ∙ two.high_before))

first-known : (h : SeatView) (b c : BoardView) (p a n : ℕ) → h.known ≡ words_of b → TwoChanged b c p a n → (p < length h.known) × (get_or h.known p 0 ≡ a)
first-known h b c p a n is two =
    (subst (λ (l : List ℕ). p < length l) (sym is) two.low_in, ap (λ (l : List ℕ). get_or l p 0) is ∙ two.low_before)

-- ---- hand-outs

pub first-out-lawful : (h : SeatView) (b c : BoardView) (p e : ℕ) → h.known ≡ words_of b → TwoChanged b c p (4 * e) (4 * e + 1) → IsLawfulStore h p (progress (place_at c.places p))
first-out-lawful h b c p e is two =
    let k = first-known h b c p (4 * e) (4 * e + 1) is two in let at = k.1 in let word = two.low_word in (k.0, inl (omega arith, omega arith))

pub first-out : (h m : SeatView) (b c : BoardView) (p e : ℕ) → h.known ≡ words_of b → TwoChanged b c p (4 * e) (4 * e + 1) → IsStored h p (progress (place_at c.places p)) m
    → m ≡ knows h (set (words_of b) p (4 * e + 1)) ((p, e) ∷ h.out)
first-out h m b c p e is two stored =
    stored-out h m (words_of b) p e (progress (place_at c.places p)) is two.low_before stored
    ∙ ap (λ (k : ℕ). knows h (set (words_of b) p k) ((p, e) ∷ h.out)) two.low_word

pub second-out-lawful : (h m : SeatView) (b c : BoardView) (p e : ℕ) → TwoChanged b c p (4 * e) (4 * e + 1) → m ≡ knows h (set (words_of b) p (4 * e + 1)) ((p, e) ∷ h.out)
    → IsLawfulStore m (p + 1) (progress (place_at c.places (p + 1)))
second-out-lawful h m b c p e two is =
    let k = second-known m h b c p (4 * e) (4 * e + 1) ((p, e) ∷ h.out) two is in let at = k.1 in let word = two.high_word in (k.0, inl (omega arith, omega arith))

pub second-out : (h m w : SeatView) (b c : BoardView) (p e : ℕ) → TwoChanged b c p (4 * e) (4 * e + 1) → m ≡ knows h (set (words_of b) p (4 * e + 1)) ((p, e) ∷ h.out)
    → IsStored m (p + 1) (progress (place_at c.places (p + 1))) w → w ≡ knows h (words_of c) ((p + 1, e) ∷ (p, e) ∷ h.out)
second-out h m w b c p e two is stored =
    let n : ℕ = 4 * e + 1 in
    let bs : List ℕ = words_of b in
    let words : m.known ≡ set bs p n = ap (λ (x : SeatView). x.known) is in
    let before : get_or (set bs p n) (p + 1) 0 ≡ 4 * e = get_or-set_other bs p (p + 1) n 0 (λ z. omega arith) ∙ two.high_before in
    stored-out m w (set bs p n) (p + 1) e (progress (place_at c.places (p + 1))) words before stored
    ∙ (ap (λ (x : SeatView). knows x (set (set bs p n) (p + 1) (progress (place_at c.places (p + 1)))) ((p + 1, e) ∷ x.out)) is
    ∙ ap (λ (l : List ℕ). knows h l ((p + 1, e) ∷ (p, e) ∷ h.out)) (ap (set (set bs p n) (p + 1)) two.high_word ∙ sym two.words))

pub pair-hands-out : (v h m w : SeatView) (b c : BoardView) (j : JobView) → HasFound v h b → IsPhased b.places → TakesPair b c j
    → m ≡ knows h (words_of c) ((j.slot + 1, j.epoch) ∷ (j.slot, j.epoch) ∷ h.out) → w ≡ after_return m → IsPairOut v w j
pair-hands-out v h m w b c j has small t stored back =
    let ws : List ℕ = words_of c in
    let two = out-changed b c j t in
    let out : h.out ≡ v.out = ap (λ (x : SeatView). x.out) has.view in
    let items : List (ℕ × ℕ) → List (ℕ × ℕ) = λ l. (j.slot + 1, j.epoch) ∷ (j.slot, j.epoch) ∷ l in
    let is : w ≡ left h ws (items v.out) = back ∙ (ap after_return stored ∙ ap (λ (l : List (ℕ × ℕ)). left h ws (items l)) out) in
    let r = two-turn v h w b c j.slot (4 * j.epoch) (4 * j.epoch + 1) (items v.out) has small two (omega arith) (omega arith) is in
    let words = two-words w b c j.slot (4 * j.epoch) (4 * j.epoch + 1) two r.1 in
    let many : taken_at (set (set w.seen j.slot (4 * j.epoch)) (j.slot + 1) (4 * j.epoch)) + 1 < taken_before b.origin + b.origin.window.takes =
    let z = ap taken_at r.2 ∙ taken-words b.places in let y = t.left in omega arith in
    record {
      base = has.base ∙ ap Some (sym t.origin);
      known = (let z = has.sized in let y = two.high_in in omega arith);
      turn_is = t.turn;
      below = subst (λ (o : Origin). j.epoch < o.window.until) (sym t.origin) t.below;
      low = words.0;
      high = words.1;
      turn = r.0;
      left = subst (λ (o : Origin). taken_at (set (set w.seen j.slot (4 * j.epoch)) (j.slot + 1) (4 * j.epoch)) + 1 < taken_before o + o.window.takes) (sym t.origin) many;
    }

-- ---- hand-backs

pub first-back-lawful : (h : SeatView) (b c : BoardView) (p e : ℕ) → h.known ≡ words_of b → TwoChanged b c p (4 * e + 1) (4 * e + 4) → 0 < times p h.out
    → IsLawfulStore h p (progress (place_at c.places p))
first-back-lawful h b c p e is two item =
    let k = first-known h b c p (4 * e + 1) (4 * e + 4) is two in let at = k.1 in let word = two.low_word in (k.0, inr (inl (omega arith, item, inr (omega arith))))

pub first-back : (h m : SeatView) (b c : BoardView) (p e : ℕ) → h.known ≡ words_of b → TwoChanged b c p (4 * e + 1) (4 * e + 4) → IsStored h p (progress (place_at c.places p)) m
    → m ≡ knows h (set (words_of b) p (4 * e + 4)) (without p h.out)
first-back h m b c p e is two stored =
    stored-back h m (words_of b) p e (progress (place_at c.places p)) is two.low_before stored
    ∙ ap (λ (k : ℕ). knows h (set (words_of b) p k) (without p h.out)) two.low_word

pub second-back-lawful : (h m : SeatView) (b c : BoardView) (p e : ℕ) → TwoChanged b c p (4 * e + 1) (4 * e + 4) → m ≡ knows h (set (words_of b) p (4 * e + 4)) (without p h.out)
    → 0 < times (p + 1) h.out → IsLawfulStore m (p + 1) (progress (place_at c.places (p + 1)))
second-back-lawful h m b c p e two is item =
    let k = second-known m h b c p (4 * e + 1) (4 * e + 4) (without p h.out) two is in let at = k.1 in let word = two.high_word in
    let still : times (p + 1) m.out ≡ times (p + 1) h.out = ap (λ (x : SeatView). times (p + 1) x.out) is ∙ times-without_other p (p + 1) h.out (λ z. omega arith) in
    (k.0, inr (inl (omega arith, omega arith, inr (omega arith))))

pub second-back : (h m w : SeatView) (b c : BoardView) (p e : ℕ) → TwoChanged b c p (4 * e + 1) (4 * e + 4) → m ≡ knows h (set (words_of b) p (4 * e + 4)) (without p h.out)
    → IsStored m (p + 1) (progress (place_at c.places (p + 1))) w → w ≡ knows h (words_of c) (without (p + 1) (without p h.out))
second-back h m w b c p e two is stored =
    let n : ℕ = 4 * e + 4 in
    let bs : List ℕ = words_of b in
    let words : m.known ≡ set bs p n = ap (λ (x : SeatView). x.known) is in
    let before : get_or (set bs p n) (p + 1) 0 ≡ 4 * e + 1 = get_or-set_other bs p (p + 1) n 0 (λ z. omega arith) ∙ two.high_before in
    stored-back m w (set bs p n) (p + 1) e (progress (place_at c.places (p + 1))) words before stored
    ∙ (ap (λ (x : SeatView). knows x (set (set bs p n) (p + 1) (progress (place_at c.places (p + 1)))) (without (p + 1) x.out)) is
    ∙ ap (λ (l : List ℕ). knows h l (without (p + 1) (without p h.out))) (ap (set (set bs p n) (p + 1)) two.high_word ∙ sym two.words))

pub pair-hands-back : (v h m w : SeatView) (b c : BoardView) (t e : ℕ) → HasFound v h b → IsPhased b.places → TwoChanged b c t (4 * e + 1) (4 * e + 4)
    → m ≡ knows h (words_of c) (without (t + 1) (without t h.out)) → w ≡ after_return m → ReturnsPair v w t e
pair-hands-back v h m w b c t e has small two stored back =
    let ws : List ℕ = words_of c in
    let out : h.out ≡ v.out = ap (λ (x : SeatView). x.out) has.view in
    let rest : List (ℕ × ℕ) → List (ℕ × ℕ) = λ l. without (t + 1) (without t l) in
    let is : w ≡ left h ws (rest v.out) = back ∙ (ap after_return stored ∙ ap (λ (l : List (ℕ × ℕ)). left h ws (rest l)) out) in
    let r = two-turn v h w b c t (4 * e + 1) (4 * e + 4) (rest v.out) has small two (omega arith) (omega arith) is in
    let words = two-words w b c t (4 * e + 1) (4 * e + 4) two r.1 in
    record { low = words.0; high = words.1; turn = r.0 }

-- the seat's other items have their words still
pair-in-work : (ws : List ℕ) (out : List (ℕ × ℕ)) (t n : ℕ) → AreInWork ws out → times t out ≡ 1 → times (t + 1) out ≡ 1
    → AreInWork (set (set ws t n) (t + 1) n) (without (t + 1) (without t out))
pair-in-work ws out t n work one next =
    let rest : List (ℕ × ℕ) = without t out in
    let none : times t rest ≡ 0 = let z = times-without t out (omega arith) in omega arith in
    let first = fit-set ws t n rest none (fit-without ws t out work) in
    let still : times (t + 1) rest ≡ times (t + 1) out = times-without_other t (t + 1) out (λ z. omega arith) in
    let no_more : times (t + 1) (without (t + 1) rest) ≡ 0 = let z = times-without (t + 1) rest (omega arith) in omega arith in
    fit-set (set ws t n) (t + 1) n (without (t + 1) rest) no_more (fit-without (set ws t n) (t + 1) rest first)

-- the seat that has stored both words holds a board as one does that has just taken the lock
pub pair-in-hand : (v h m : SeatView) (b c : BoardView) (t e : ℕ) → HasFound v h b → TwoChanged b c t (4 * e + 1) (4 * e + 4)
    → m ≡ knows h (words_of c) (without (t + 1) (without t h.out)) → times t h.out ≡ 1 → times (t + 1) h.out ≡ 1
    → ReturnsPair v (after_return m) t e → HasInHand (as_returned v m) m c
pair-in-hand v h m b c t e has two stored one next back =
    let bs : List ℕ = words_of b in
    let ws : List ℕ = words_of c in
    let rest : List (ℕ × ℕ) → List (ℕ × ℕ) = λ l. without (t + 1) (without t l) in
    let out : h.out ≡ v.out = ap (λ (x : SeatView). x.out) has.view in
    let is : m ≡ knows (after_turn v bs) ws (rest v.out) = stored ∙ ap (λ (x : SeatView). knows x ws (rest x.out)) has.view in
    let known : m.known ≡ ws = ap (λ (x : SeatView). x.known) is in
    let work : AreInWork (set (set bs t (4 * e + 4)) (t + 1) (4 * e + 4)) (rest v.out) =
    pair-in-work bs v.out t (4 * e + 4) has.work (ap (times t) (sym out) ∙ one) (ap (times (t + 1)) (sym out) ∙ next) in
    record {
      view = subst (λ (x : SeatView). record x { seen = x.known } ≡ record x { holding = true; known = ws; seen = x.known; turns = v.turns + 1 }) (sym is) refl;
      base = ap (λ (x : SeatView). x.base) is ∙ (has.base ∙ ap Some (sym two.origin));
      seen = subst (λ (l : List ℕ). AtMost l ws) (sym known) (at_most_itself ws);
      work = subst (AreInWork ws) (sym (ap (λ (x : SeatView). x.out) is)) (subst (λ (l : List ℕ). AreInWork l (rest v.out)) (sym two.words) work);
      phased = subst ArePhased known back.turn.left_phased;
      sized = ap length (sym known) ∙ (back.turn.sized ∙ sym (ap (λ (x : SeatView). x.places) is));
    }
