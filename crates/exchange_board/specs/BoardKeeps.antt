-- What every board keeps.
use Rattle.std.specs.Prelude.{◌≡◌, ℕ, ◌+◌, ◌*◌, ◌<◌, Bool, ◌==◌, if◌then◌else◌, List, [], length, map, slice_index_or, All, Option, Some, None, IfSome, is_some, Box}
use Rattle.std.specs.declared.alloc.Global.{Global}
use Rattle.std.specs.Arc.{arc_value}
use Rattle.scalar_rule.specs.Plan.{pairs_of}
use Rattle.scalar_rule.specs.Ragged.{generators}
use Rattle.scalar_rule.specs.Positions.{content}
use Rattle.scalar_rule.specs.declared.sample.PlainSlot.{PlainSlot}
use Rattle.plane_sweep.specs.Packed.{part_slot, part_pair, PermutesAt, FitsDuo, ArePairGenerators}
use Rattle.exchange_board.specs.declared.origin.Origin.{Origin}
use Rattle.slot_steps.specs.declared.totals.Totals.{Totals}
use Rattle.exchange_board.specs.declared.home.Home.{Home}
use Rattle.exchange_board.specs.declared.board.Slot.{Slot}
use Rattle.exchange_board.specs.declared.board.Board.TheInside as board
use Rattle.slot_steps.specs.Totals.{AreTotals}
use Rattle.exchange_board.specs.Views.{Stage, BoardView}
use Rattle.exchange_board.specs.Content.{plan_of, slots_in, starts, started, taken_before, row_total, pair_in, KeepsRows, IsLawfulOrigin}
use Rattle.exchange_board.specs.Machine.{Ruled, epochs, phases, numbers, taken}

-- a slot that is away is in work; one at home waits where it has its sums
abbrev pub phase_of : Option (Box Home Global) → ℕ
phase_of None = 1
phase_of (Some h) = if is_some h.value.totals then 2 else 0

-- the position of a slot of the code, and of all slots
abbrev pub place_of : Slot → Stage
place_of s = record { epoch = s.epoch; phase = phase_of s.home }

abbrev pub places_of : board.Inside → List Stage
places_of b = map place_of b.slots

-- what contracts see of a board: its origin and its positions
abbrev pub board_view : board.Inside → BoardView
board_view b = record { origin = arc_value b.origin; places = places_of b }

-- the content of slot t in sample i, by the rule
abbrev pub rule_content : Origin → ℕ → ℕ → ℕ → Bool → PlainSlot
rule_content o i t e waits = content (plan_of o) (starts o i) t e waits

-- a slot at home has a share of the origin, the content of its place in all samples, and where it waits its sums
pub record AtHome (o : Origin) (t e : ℕ) (h : Home) : Type 0 where
  pub same : arc_value h.share ≡ o
  pub fits : FitsDuo (plan_of o).size h.duo
  pub right : (i : ℕ) → i < 64 → part_slot (plan_of o).size i h.duo ≡ rule_content o i t e (is_some h.totals)
  pub totals : (sums : Totals) → h.totals ≡ Some sums → AreTotals (plan_of o) h.duo sums

-- slot t of the code, at its epoch: nothing is said of one in work
abbrev pub KeepsSlot : Origin → ℕ → Slot → Type 0
KeepsSlot o t s = IfSome s.home (λ h. AtHome o t s.epoch h.value)

-- the content of slot t in sample i at its place
abbrev pub content_at : Origin → (ℕ → ℕ) → (ℕ → ℕ) → ℕ → ℕ → PlainSlot
content_at o E P i t = rule_content o i t (E t) (P t == 2)

-- what every board keeps: a lawful origin; lists of the plan's lengths; positions by the rule; each slot at home with the
-- content of its position; pair k's generators as far on as slot k's epoch asks; labels over the contents that are the slots'
-- numbers, each once; as many hand-outs left as the window allows more; each record in its row; and the room for the end
pub record KeepsBoard (b : board.Inside) : Type 0 where
  pub lawful : IsLawfulOrigin (arc_value b.origin)
  pub slots_long : length b.slots ≡ slots_in (arc_value b.origin)
  pub pairs_long : length b.pairs ≡ pairs_of (plan_of (arc_value b.origin))
  pub records_long : length b.records ≡ row_total (arc_value b.origin)
  pub ruled : Ruled (slots_in (arc_value b.origin)) (arc_value b.origin).window.until (started (arc_value b.origin)) (epochs (places_of b)) (phases (places_of b))
  pub homes : (t : ℕ) (d : Slot) → t < length b.slots → KeepsSlot (arc_value b.origin) t (slice_index_or b.slots t d)
  pub pairs : (k i : ℕ) → k + 1 < slots_in (arc_value b.origin) → part_pair (pair_in b.pairs k) ≡ generators (plan_of (arc_value b.origin)) (starts (arc_value b.origin) i) k (epochs (places_of b) k)
  pub pairs_fit : All ArePairGenerators b.pairs
  pub labels : (i : ℕ) → i < 64 → PermutesAt (slots_in (arc_value b.origin)) (content_at (arc_value b.origin) (epochs (places_of b)) (phases (places_of b)) i)
  pub taken : taken (places_of b) + b.left ≡ taken_before (arc_value b.origin) + (arc_value b.origin).window.takes
  pub rows : KeepsRows (arc_value b.origin) (numbers (places_of b)) b.records
  pub duos : length b.duos ≡ slots_in (arc_value b.origin)
  pub pending : b.pending ≡ record { items = []; spare = (arc_value b.origin).window.samples * slots_in (arc_value b.origin) * slots_in (arc_value b.origin) }
  pub stops : length b.places ≡ slots_in (arc_value b.origin)
