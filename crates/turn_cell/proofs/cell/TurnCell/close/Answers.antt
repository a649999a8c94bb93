-- The table ends in a state that keeps the invariant, with one seat that stands for all: its value is at home.
use Rattle.std.proofs.Common.{◌≡◌, All, Some, sym, ◌∙◌, subst, is_some, true≢false, ap}
use Rattle.std.specs.Mem.Slots.{slots_items}
use Rattle.turn_cell.specs.Progress.{AtMost, NoneIsInWork}
use Rattle.turn_cell.specs.Seats.{cell_id, seat_view, base_of}
use Rattle.std.proofs.lemmas.Option.{same_Some}
use Rattle.turn_cell.proofs.Ending.{ends}
use Rattle.turn_cell.proofs.cell.TurnCell.close.Goals as goal
use Rattle.turn_cell.proofs.cell.TurnCell.close.Goals.{After-taken_out}

ended : (g : _) (c : After-taken_out g)
    → (value : g.row.V.Denot) × (c.taken_out.result ≡ Some value)
    × (Some (g.V.Kept.origin value) ≡ base_of c.args.passes.items) × NoneIsInWork (g.V.Kept.marks value)
    × All (λ q. AtMost (seat_view q).seen (g.V.Kept.marks value)) c.args.passes.items
ended g c =
    ends g.V.Kept.origin g.V.Kept.marks (cell_id c.args.self) c.args.passes.items c.gather-kept.result
    (slots_items c.close_with.result.words) (slots_items c.close_with.result.slots) c.taken_out.result c.gather-kept.ensures c.requires.some c.close_with.ensures.values.2 c.taken_out.ensures

pub unreachable-requires : goal.unreachable-requires
unreachable-requires g c =
    let t = ended g (goal.at.unreachable-requires g c).After-taken_out in
    true≢false (ap is_some (sym t.1 ∙ c.in-None.is))

pub returns-clause-base : goal.returns-clause-base
returns-clause-base g c =
    let t = ended g (goal.at.returns-clause-base g c).After-taken_out in
    subst (λ value. Some (g.V.Kept.origin value) ≡ base_of c.args.passes.items) (same_Some _ _ (sym t.1 ∙ c.in-Some.is)) t.2

pub returns-clause-ended : goal.returns-clause-ended
returns-clause-ended g c =
    let t = ended g (goal.at.returns-clause-ended g c).After-taken_out in
    subst (λ value. NoneIsInWork (g.V.Kept.marks value)) (same_Some _ _ (sym t.1 ∙ c.in-Some.is)) t.3

pub returns-clause-seen : goal.returns-clause-seen
returns-clause-seen g c =
    let t = ended g (goal.at.returns-clause-seen g c).After-taken_out in
    subst (λ value. All (λ q. AtMost (seat_view q).seen (g.V.Kept.marks value)) c.args.passes.items) (same_Some _ _ (sym t.1 ∙ c.in-Some.is)) t.4
