-- The holder's stores, and the turn that they make.
use Rattle.std.proofs.Common.{◌≡◌, ℕ, ◌+◌, ◌*◌, ◌/◌, false, List, ◌∷◌, length, get_or, set, sym, ap, ap₂, ◌∙◌, subst, arith}
use Rattle.exchange_board.specs.declared.origin.Origin.{Origin}
use Rattle.exchange_board.specs.Views.{BoardView, words_of}
use Rattle.turn_cell.specs.declared.view.View.{View}
use Rattle.turn_cell.specs.Sums.{without, AreInWork}
use Rattle.turn_cell.specs.Progress.{ArePhased, AtMost}
use Rattle.turn_cell.specs.AtomicSteps.{IsStored}
use Rattle.turn_cell.proofs.Views.{at_most_trans}
use Rattle.shared_board.specs.Turns.{IsTurn}
use Rattle.shared_board.specs.Shared.{knows, HasFound, HasInHand, IsHolderOf}

abbrev pub SeatView : Type 0
SeatView = View Origin

-- the seat h once it has given the lock back with these words and this work
abbrev pub left : SeatView → List ℕ → List (ℕ × ℕ) → SeatView
left h ws out = record h { holding = false; known = ws; out = out; seen = ws }

-- who has taken the lock holds the board that it found
pub holder : (v h : SeatView) (b : BoardView) → HasFound v h b → IsHolderOf h b
holder v h b found = record {
  held = ap (λ (x : SeatView). x.holding) found.view;
  words = ap (λ (x : SeatView). x.known) found.view;
  base = ap (λ (x : SeatView). x.base) found.view ∙ found.base;
}

-- it has it in hand, and may have changed it
pub in-hand : (v h : SeatView) (b : BoardView) → HasFound v h b → HasInHand v h b
in-hand v h b has = subst (λ (x : SeatView). HasFound v x b) (has.view ∙ sym (ap (λ (x : SeatView). record x { seen = v.seen }) has.view)) has

-- a word at rest goes into work; a word in work comes back; a word that waits comes to rest
pub stored-out : (h m : SeatView) (ws : List ℕ) (t e new : ℕ) → h.known ≡ ws → get_or ws t 0 ≡ 4 * e → IsStored h t new m
    → m ≡ knows h (set ws t new) ((t, e) ∷ h.out)
stored-out h m ws t e new is old stored =
    let at : get_or h.known t 0 ≡ 4 * e = ap (λ (l : List ℕ). get_or l t 0) is ∙ old in
    let quarter : get_or h.known t 0 / 4 ≡ e = omega arith in
    stored.0 (omega arith) ∙ ap₂ (λ (l : List ℕ) (k : ℕ). knows h (set l t new) ((t, k) ∷ h.out)) is quarter

pub stored-back : (h m : SeatView) (ws : List ℕ) (t e new : ℕ) → h.known ≡ ws → get_or ws t 0 ≡ 4 * e + 1 → IsStored h t new m
    → m ≡ knows h (set ws t new) (without t h.out)
stored-back h m ws t e new is old stored =
    let at : get_or h.known t 0 ≡ 4 * e + 1 = ap (λ (l : List ℕ). get_or l t 0) is ∙ old in
    stored.1 (omega arith) ∙ ap (λ (l : List ℕ). knows h (set l t new) (without t h.out)) is

pub stored-mate : (h m : SeatView) (ws : List ℕ) (t e new : ℕ) → h.known ≡ ws → get_or ws t 0 ≡ 4 * e + 2 → IsStored h t new m
    → m ≡ knows h (set ws t new) h.out
stored-mate h m ws t e new is old stored =
    let at : get_or h.known t 0 ≡ 4 * e + 2 = ap (λ (l : List ℕ). get_or l t 0) is ∙ old in
    stored.2 (omega arith) ∙ ap (λ (l : List ℕ). knows h (set l t new) h.out) is

-- the turn, from the words that it found to those that it left
pub one-turn : (v h w : SeatView) (b : BoardView) (ws found : List ℕ) (out : List (ℕ × ℕ)) → HasFound v h b → w ≡ left h ws out
    → found ≡ words_of b → AtMost (words_of b) ws → ArePhased ws → length ws ≡ length (words_of b)
    → IsTurn v w found out
one-turn v h w b ws found out has is found_is risen phased long =
    let seen : w.seen ≡ ws = ap (λ (x : SeatView). x.seen) is in
    record {
      view = subst (λ (l : List ℕ). w ≡ record v { holding = false; known = l; out = out; seen = l; turns = v.turns + 1 }) (sym seen)
          (is ∙ ap (λ (x : SeatView). left x ws out) has.view);
      found_most = subst (AtMost v.seen) (sym found_is) has.seen;
      left_most = subst (AtMost v.seen) (sym seen) (at_most_trans v.seen (words_of b) ws has.seen risen);
      work = subst (λ (l : List ℕ). AreInWork l v.out) (sym found_is) has.work;
      sized = ap length seen ∙ (long ∙ has.sized);
      found_phased = subst ArePhased (sym found_is) has.phased;
      left_phased = subst ArePhased (sym seen) phased;
    }
