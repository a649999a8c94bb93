-- The progress words of a board's places. A crate above may cite these.
use Rattle.std.proofs.Common.{◌≡◌, inl, inr, ℕ, ◌%◌, ◌<◌, ◌≤◌, ◌≢◌, List, length, map, get_or, set, sym, ap, ◌∙◌, subst, arith}
use Rattle.std.proofs.Common.{get_or-set_same, get_or-set_other, set-set}
use Rattle.std.proofs.Math.ListN.{get_or-map}
use Rattle.std.proofs.lemmas.List.{length-map, map-set, get_or_past, set_comm, set-get_or}
use Rattle.std.proofs.lemmas.Bool.{cases_lt}
use mathlib.Core.Logic.{dite}
use native.Mathlib.Decide.{ℕ_discrete}
use Rattle.scalar_rule.specs.Positions.{sum_below}
use Rattle.scalar_rule.proofs.Extremes.{sum-same}
use Rattle.exchange_board.specs.Machine.{begun, numbers, phases, taken, IsPhased, NoneReady, NoneOut, AllEnded}
use Rattle.exchange_board.specs.Views.{Stage, place_at, ready_at, progress}
use Rattle.turn_cell.specs.Progress.{ArePhased, AreAtHome, NoneIsInWork}
use Rattle.shared_board.specs.Words.{taken_at, AreEnded, NoneIsReady}

pub word-at : (ps : List Stage) (t : ℕ) → get_or (map progress ps) t 0 ≡ progress (place_at ps t)
word-at ps t = get_or-map progress ps t (ready_at 0)

pub words-long : (ps : List Stage) → length (map progress ps) ≡ length ps
words-long ps = length-map ps progress

pub taken-words : (ps : List Stage) → taken_at (map progress ps) ≡ taken ps
taken-words ps =
    ap (λ n. sum_below (λ t. begun (get_or (map progress ps) t 0)) n) (words-long ps)
    ∙ sum-same (λ t. begun (get_or (map progress ps) t 0)) (λ t. begun (numbers ps t)) (length ps) (λ t h. ap begun (word-at ps t))

past : (ps : List Stage) (t : ℕ) → length ps ≤ t → get_or (map progress ps) t 0 ≡ 0
past ps t h = get_or_past (map progress ps) t 0 (let z = words-long ps in omega arith)

pub phased-words : (ps : List Stage) → IsPhased ps → ArePhased (map progress ps)
phased-words ps small i = elim (cases_lt i (length ps)) [
  | inl h ↦ let a = word-at ps i in let b = small i h in omega arith
  | inr h ↦ let a = past ps i h in omega arith
]

pub at_home-words : (ps : List Stage) → IsPhased ps → NoneOut ps → AreAtHome (map progress ps)
at_home-words ps small home i = elim (cases_lt i (length ps)) [
  | inl h ↦
      let a = word-at ps i in let b = small i h in
      dite (ℕ_discrete (phases ps i) 1) (λ e. absurd (home i h e)) (λ ne. omega arith)
  | inr h ↦ let a = past ps i h in omega arith
]

pub none_out-words : (ps : List Stage) → NoneIsInWork (map progress ps) → NoneOut ps
none_out-words ps none t h out = none t (let a = word-at ps t in omega arith)

pub out_words : (ps : List Stage) → IsPhased ps → (NoneOut ps → ⊥) → NoneIsInWork (map progress ps) → ⊥
out_words ps small working none = working (none_out-words ps none)

pub ended-words : (until : ℕ) (ps : List Stage) → AllEnded until ps → AreEnded until (map progress ps)
ended-words until ps all t h =
    let a = word-at ps t in
    let at = all t (let z = words-long ps in omega arith) in
    omega arith

pub words-ended : (until : ℕ) (ps : List Stage) → IsPhased ps → AreEnded until (map progress ps) → AllEnded until ps
words-ended until ps small all t h =
    let a = word-at ps t in
    let b = small t h in
    let at = all t (let z = words-long ps in omega arith) in
    (omega arith, omega arith)

pub none_ready-words : (until : ℕ) (ps : List Stage) → IsPhased ps → NoneReady until ps → NoneIsReady until (map progress ps)
none_ready-words until ps small none t h rest =
    let k : t < length ps = (let z = words-long ps in omega arith) in
    let a = word-at ps t in
    let b = small t k in
    let z = none t k (omega arith) in
    omega arith

pub place-set : (ps : List Stage) (t : ℕ) (x : Stage) → t < length ps → place_at (set ps t x) t ≡ x
place-set ps t x h = get_or-set_same ps t x (ready_at 0) h

pub place-other : (ps : List Stage) (t u : ℕ) (x : Stage) → u ≢ t → place_at (set ps t x) u ≡ place_at ps u
place-other ps t u x ne = get_or-set_other ps t u x (ready_at 0) ne

pub words-set : (ps : List Stage) (t : ℕ) (x : Stage) → map progress (set ps t x) ≡ set (map progress ps) t (progress x)
words-set ps t x = map-set progress ps t x

pub phased-set : (ws : List ℕ) (t n : ℕ) → ArePhased ws → t < length ws → n % 4 < 3 → ArePhased (set ws t n)
phased-set ws t n all known small i = dite (ℕ_discrete i t)
    (λ e. subst (λ k. get_or (set ws t n) k 0 % 4 < 3) (sym e) (subst (λ m. m % 4 < 3) (sym (get_or-set_same ws t n 0 known)) small))
    (λ ne. subst (λ m. m % 4 < 3) (sym (get_or-set_other ws t i n 0 ne)) (all i))

-- a word is put back to what it was
pub set-back : (ws : List ℕ) (t n old : ℕ) → get_or ws t 0 ≡ old → set (set ws t n) t old ≡ ws
set-back ws t n old is = set-set ws t n old ∙ (ap (set ws t) (sym is) ∙ set-get_or ws t 0)

-- and so are two
pub two-back : (ws : List ℕ) (p t n a b : ℕ) → p ≢ t → get_or ws p 0 ≡ a → get_or ws t 0 ≡ b
    → set (set (set (set ws p n) t n) p a) t b ≡ ws
two-back ws p t n a b apart first second =
    ap (λ l. set l t b) (set_comm (set ws p n) t p n a (λ e. apart (sym e)) ∙ ap (λ l. set l t n) (set-back ws p n a first))
    ∙ set-back ws t n b second
