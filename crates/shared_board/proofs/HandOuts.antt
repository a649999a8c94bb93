-- A hand-out, and the other answers of a board that is asked for a slot.
use Rattle.std.proofs.Common.{◌≡◌, ℕ, ◌+◌, ◌*◌, ◌<◌, ◌≤◌, true, List, ◌∷◌, length, get_or, set, sym, refl, ap, ap₂, ◌∙◌, subst, arith, Some, length-set, get_or-set_same}
use Rattle.exchange_board.specs.declared.origin.Origin.{Origin}
use Rattle.exchange_board.specs.Machine.{IsPhased}
use Rattle.scalar_rule.specs.Epoch.{has_partner, partner}
use Rattle.scalar_rule.proofs.SlotPartners.{back}
use Rattle.exchange_board.specs.Content.{taken_before}
use Rattle.exchange_board.specs.Views.{Stage, BoardView, JobView, place_at, ready_at, out_at, progress, words_of}
use Rattle.exchange_board.specs.Answers.{Nexts, Takes, IsSpent, GoesAlone}
use Rattle.exchange_board.specs.declared.board.Next.{Next}
use Rattle.exchange_board.specs.declared.board.Next.TheVariants as nexts
use Rattle.turn_cell.specs.Progress.{ArePhased, AtMost}
use Rattle.turn_cell.specs.AtomicSteps.{after_return, IsStored}
use Rattle.turn_cell.proofs.Views.{at_most_itself, at_most_set}
use Rattle.shared_board.specs.Words.{taken_at, HasTakesLeft, MustWait, IsFinished, IsStopped}
use Rattle.shared_board.specs.Turns.{IsLook, IsHandOut, TakesSlot, GoesOutAlone, GoesNextOutAlone, found_slot}
use Rattle.shared_board.specs.Shared.{knows, HasFound}
use Rattle.shared_board.proofs.Words.{word-at, words-long, words-set, place-set, place-other, phased-words, phased-set, set-back, taken-words, ended-words, words-ended, none_ready-words, out_words}
use Rattle.shared_board.proofs.Stores.{SeatView, left, stored-out, one-turn}
use Rattle.std.proofs.lemmas.Option.{same_Some}

-- the word of the slot that is handed out, before and after
word-before : (b c : BoardView) (j : JobView) → Takes b c j → get_or (words_of b) j.slot 0 ≡ 4 * j.epoch
word-before b c j t = let a = word-at b.places j.slot in let r = ap progress t.ready in omega arith

pub word-after : (b c : BoardView) (j : JobView) → Takes b c j → progress (place_at c.places j.slot) ≡ 4 * j.epoch + 1
word-after b c j t =
    ap progress (ap (λ (x : BoardView). place_at x.places j.slot) t.after ∙ place-set b.places j.slot (out_at j.epoch) t.known)

in-words : (b c : BoardView) (j : JobView) → Takes b c j → j.slot < length (words_of b)
in-words b c j t = let k = t.known in let z = words-long b.places in omega arith

words-after : (b c : BoardView) (j : JobView) → Takes b c j → words_of c ≡ set (words_of b) j.slot (4 * j.epoch + 1)
words-after b c j t = ap words_of t.after ∙ words-set b.places j.slot (out_at j.epoch)

-- what the holder owes before the store: the place is there, and its word goes from 4e to 4e + 1
pub out-known : (b c : BoardView) (j : JobView) → Takes b c j → j.slot < length c.places
out-known b c j t =
    let long : length c.places ≡ length b.places = ap (λ (x : BoardView). length x.places) t.after ∙ length-set b.places j.slot (out_at j.epoch) in
    let k = t.known in omega arith

pub out-rest : (h : SeatView) (b c : BoardView) (j : JobView) → h.known ≡ words_of b → Takes b c j
    → (j.slot < length h.known) × (get_or h.known j.slot 0 ≡ 4 * j.epoch)
out-rest h b c j is t =
    subst (λ (l : List ℕ). (j.slot < length l) × (get_or l j.slot 0 ≡ 4 * j.epoch)) (sym is) (in-words b c j t, word-before b c j t)

-- after it the holder knows the words of the board as it is then
pub out-stored : (h m : SeatView) (b c : BoardView) (j : JobView) → h.known ≡ words_of b → Takes b c j
    → IsStored h j.slot (progress (place_at c.places j.slot)) m → m ≡ knows h (words_of c) ((j.slot, j.epoch) ∷ h.out)
out-stored h m b c j is t stored =
    stored-out h m (words_of b) j.slot j.epoch (progress (place_at c.places j.slot)) is (word-before b c j t) stored
    ∙ ap (λ (l : List ℕ). knows h l ((j.slot, j.epoch) ∷ h.out)) (ap (set (words_of b) j.slot) (word-after b c j t) ∙ sym (words-after b c j t))

pub hands-out : (v h m w : SeatView) (b c : BoardView) (j : JobView) → HasFound v h b → IsPhased b.places → Takes b c j
    → m ≡ knows h (words_of c) ((j.slot, j.epoch) ∷ h.out) → w ≡ after_return m → IsHandOut v w j
hands-out v h m w b c j has small t stored back =
    let ws : List ℕ = words_of c in
    let n : ℕ = 4 * j.epoch + 1 in
    let after : ws ≡ set (words_of b) j.slot n = words-after b c j t in
    let known = in-words b c j t in
    let before = word-before b c j t in
    let out : h.out ≡ v.out = ap (λ (x : SeatView). x.out) has.view in
    let is : w ≡ left h ws ((j.slot, j.epoch) ∷ v.out) = back ∙ (ap after_return stored ∙ ap (λ (l : List (ℕ × ℕ)). left h ws ((j.slot, j.epoch) ∷ l)) out) in
    let seen : w.seen ≡ ws = ap (λ (x : SeatView). x.seen) is in
    let found : set w.seen j.slot (4 * j.epoch) ≡ words_of b = ap (λ (l : List ℕ). set l j.slot (4 * j.epoch)) (seen ∙ after) ∙ set-back (words_of b) j.slot n (4 * j.epoch) before in
    let base : v.base ≡ Some j.origin = has.base ∙ ap Some (sym t.origin) in
    let low : get_or (words_of b) j.slot 0 ≤ n = omega arith in
    record {
      base = base;
      known = (let z = has.sized in omega arith);
      below = subst (λ (o : Origin). j.epoch < o.window.until) (sym t.origin) t.below;
      word = ap (λ (l : List ℕ). get_or l j.slot 0) (seen ∙ after) ∙ get_or-set_same (words_of b) j.slot n 0 known;
      turn = one-turn v h w b ws (set w.seen j.slot (4 * j.epoch)) ((j.slot, j.epoch) ∷ v.out) has is found
          (subst (AtMost (words_of b)) (sym after) (at_most_set (words_of b) (words_of b) j.slot n (at_most_itself (words_of b)) known low))
          (subst ArePhased (sym after) (phased-set (words_of b) j.slot n (phased-words b.places small) known (omega arith)))
          (ap length after ∙ length-set (words_of b) j.slot n);
      left = subst (λ (o : Origin). HasTakesLeft o (set w.seen j.slot (4 * j.epoch))) (sym t.origin)
          (subst (HasTakesLeft b.origin) (sym found) (subst (λ (k : ℕ). k < taken_before b.origin + b.origin.window.takes) (sym (taken-words b.places)) t.left));
    }

-- a turn that changes no word
look : (v h w : SeatView) (b : BoardView) (Says : Origin → List ℕ → Type 0) → HasFound v h b → IsPhased b.places → w ≡ after_return h
    → Says b.origin (words_of b) → IsLook v w Says
look v h w b Says has small back says =
    let ws : List ℕ = words_of b in
    let known : h.known ≡ ws = ap (λ (x : SeatView). x.known) has.view in
    let out : h.out ≡ v.out = ap (λ (x : SeatView). x.out) has.view in
    let is : w ≡ left h ws v.out = back ∙ (ap (λ (l : List ℕ). left h l h.out) known ∙ ap (λ (l : List (ℕ × ℕ)). left h ws l) out) in
    let seen : w.seen ≡ ws = ap (λ (x : SeatView). x.seen) is in
    record {
      turn = one-turn v h w b ws w.seen v.out has is seen (at_most_itself ws) (phased-words b.places small) refl;
      says = λ o base. subst (λ (p : Origin). Says p w.seen) (same_Some _ _ (sym has.base ∙ base)) (subst (Says b.origin) (sym seen) says);
    }

-- a board that hands nothing out leaves its words as they are
pub quiet-words : (b c : BoardView) → c ≡ b → words_of c ≡ words_of b
quiet-words b c is = ap words_of is

pub answers-nothing : (v h w : SeatView) (b c : BoardView) → HasFound v h b → IsPhased b.places → w ≡ after_return h → Nexts b c nexts.Nothing
    → IsLook v w MustWait
answers-nothing v h w b c has small back next = look v h w b MustWait has small back (record {
  none = none_ready-words b.origin.window.until b.places small next.1;
  unended = λ all. next.2 (words-ended b.origin.window.until b.places small all);
  working = out_words b.places small next.4;
  left = subst (λ (k : ℕ). k < taken_before b.origin + b.origin.window.takes) (sym (taken-words b.places)) next.3;
})

pub answers-finished : (v h w : SeatView) (b c : BoardView) → HasFound v h b → IsPhased b.places → w ≡ after_return h → Nexts b c nexts.Finished
    → IsLook v w IsFinished
answers-finished v h w b c has small back next =
    look v h w b IsFinished has small back (ended-words b.origin.window.until b.places next.1)

pub answers-stopped : (v h w : SeatView) (b c : BoardView) → HasFound v h b → IsPhased b.places → w ≡ after_return h → Nexts b c nexts.Stopped
    → IsLook v w IsStopped
answers-stopped v h w b c has small back next = look v h w b IsStopped has small back (record {
  spent = taken-words b.places ∙ next.1;
  unended = λ all. next.2 (words-ended b.origin.window.until b.places small all);
})

-- the answers without a slot
pub quiet-answers : (v h w : SeatView) (b c : BoardView) (n : Next) → ((j : JobView) → n ≡ nexts.Job j → ⊥) → HasFound v h b
    → IsPhased b.places → w ≡ after_return h → Nexts b c n → TakesSlot v w n
quiet-answers v h w b c (nexts.Job j) not_job has small back next = absurd (not_job j refl)
quiet-answers v h w b c nexts.Nothing not_job has small back next = answers-nothing v h w b c has small back next
quiet-answers v h w b c nexts.Finished not_job has small back next = answers-finished v h w b c has small back next
quiet-answers v h w b c nexts.Stopped not_job has small back next = answers-stopped v h w b c has small back next

-- of a board that is asked and hands nothing out
pub quiet-same : (b c : BoardView) (n : Next) → ((j : JobView) → n ≡ nexts.Job j → ⊥) → Nexts b c n → c ≡ b
quiet-same b c (nexts.Job j) not_job next = absurd (not_job j refl)
quiet-same b c nexts.Nothing not_job next = next.0
quiet-same b c nexts.Finished not_job next = next.0
quiet-same b c nexts.Stopped not_job next = next.0

-- ---- the words that were found, and a slot that goes out alone

-- a stage of this progress number at rest
rests-at : (p : Stage) (e : ℕ) → p.phase < 3 → progress p ≡ 4 * e → p ≡ ready_at e
rests-at p e small is =
    let make : ℕ → ℕ → Stage = λ a b. record { epoch = a; phase = b } in
    let epoch : p.epoch ≡ e = omega arith in
    let phase : p.phase ≡ 0 = omega arith in
    ap₂ make epoch phase

pub slot-found : (h w : SeatView) (b c : BoardView) (j : JobView) → h.known ≡ words_of b → Takes b c j → w.seen ≡ words_of c
    → set w.seen j.slot (4 * j.epoch) ≡ h.known
slot-found h w b c j known t seen =
    ap (λ (l : List ℕ). set l j.slot (4 * j.epoch)) (seen ∙ words-after b c j t)
    ∙ set-back (words_of b) j.slot (4 * j.epoch + 1) (4 * j.epoch) (word-before b c j t)
    ∙ sym known

pub goes-alone : (w : SeatView) (b c : BoardView) (j : JobView) → IsPhased b.places → Takes b c j → w.seen ≡ words_of c → GoesAlone c j → GoesOutAlone w j
goes-alone w b c j small t seen lone has word =
    let ps : List Stage = b.places in
    let n = length c.places in
    let u = partner j.slot j.epoch in
    let places : c.places ≡ set ps j.slot (out_at j.epoch) = ap (λ (x : BoardView). x.places) t.after in
    let long : length w.seen ≡ n = ap length seen ∙ words-long c.places in
    let as_many : n ≡ length ps = ap length places ∙ length-set ps j.slot (out_at j.epoch) in
    let has_here : has_partner n j.slot j.epoch ≡ true = subst (λ m. has_partner m j.slot j.epoch ≡ true) long has in
    let there = back n j.slot j.epoch (let k = t.known in omega arith) has_here in
    let other : place_at c.places u ≡ place_at ps u = ap (λ (l : List Stage). place_at l u) places ∙ place-other ps j.slot u (out_at j.epoch) there.other in
    let number : progress (place_at c.places u) ≡ 4 * j.epoch = sym (word-at c.places u) ∙ ap (λ (l : List ℕ). get_or l u 0) (sym seen) ∙ word in
    let phased : (place_at c.places u).phase < 3 = subst (λ (x : Stage). x.phase < 3) (sym other) (small u (let k = there.known in omega arith)) in
    let spent : IsSpent c = lone has_here (rests-at (place_at c.places u) j.epoch phased number) in
    let origin : c.origin ≡ j.origin = ap (λ (x : BoardView). x.origin) t.after ∙ sym t.origin in
    ap taken_at seen ∙ taken-words c.places ∙ spent ∙ ap (λ (o : Origin). taken_before o + o.window.takes) origin

-- the answers without a slot
pub quiet-alone : (w : SeatView) (n : Next) → ((j : JobView) → n ≡ nexts.Job j → ⊥) → GoesNextOutAlone w n
quiet-alone w (nexts.Job j) not_job = absurd (not_job j refl)
quiet-alone w nexts.Nothing not_job = tt
quiet-alone w nexts.Finished not_job = tt
quiet-alone w nexts.Stopped not_job = tt

pub quiet-found : (w : SeatView) (n : Next) (words : List ℕ) → ((j : JobView) → n ≡ nexts.Job j → ⊥) → w.seen ≡ words → found_slot w n ≡ words
quiet-found w (nexts.Job j) words not_job seen = absurd (not_job j refl)
quiet-found w nexts.Nothing words not_job seen = seen
quiet-found w nexts.Finished words not_job seen = seen
quiet-found w nexts.Stopped words not_job seen = seen
