-- The rows of two rounds more.
use Rattle.std.proofs.Common.{rules, arith, refl, ◌≡◌, ◌+◌, ◌≤◌, ap, sym, ◌∙◌}
use Rattle.std.specs.Prelude.{min}
use Rattle.glass_edges.proofs.Writing.{writes-none, writes-more, writes-failed, writes-same}
use Rattle.report_sheets.proofs.Rounds.{joined-three, forgotten}
use Rattle.report_sheets.proofs.writer.put_rows_by.Goals as goal

pub returns-in_err-fill_and_put : goal.returns-in_err-fill_and_put
returns-in_err-fill_and_put g c =
    let laws = g.met.S.RowSource g.world.𝓛 g.world.𝓜 g.world.𝓡 ((λ s x. x), (λ x. x), (λ x. x), λ x. x) in
    let rows = c.args.rows.now in
    let text = g.S.RowSource.text rows in
    let begin = g.S.RowSource.begin rows in
    let end = g.S.RowSource.end rows in
    let a = c.rounds.done.first in
    let b = c.rounds.done.last in
    writes-failed (text b end) c.from_residual.ensures.0 (writes-more c.rounds.invariant.written c.in_err-fill_and_put.ensures.written refl)
    (joined-three text (laws.joined rows) begin a b end c.rounds.invariant.begin c.rounds.invariant.window (omega (arith, c.rounds.invariant.end, c.of-pace.ensures.end, c.last.ensures)))

pub returns-in_err-fill_and_put-2 : goal.returns-in_err-fill_and_put-2
returns-in_err-fill_and_put-2 g c =
    let laws = g.met.S.RowSource g.world.𝓛 g.world.𝓜 g.world.𝓡 ((λ s x. x), (λ x. x), (λ x. x), λ x. x) in
    let rows = c.args.rows.now in
    let text = g.S.RowSource.text rows in
    let begin = g.S.RowSource.begin rows in
    let end = g.S.RowSource.end rows in
    let a = c.rounds.done.first in
    let b = c.round-next.result.first in
    let d = c.round-next.result.last in
    let first : b ≡ c.rounds.done.last = c.round-next.ensures.first in
    let last : d ≡ min (c.rounds.done.last + c.of-pace.result.span) c.of-pace.result.end = c.round-next.ensures.last in
    let ends = c.of-pace.ensures.end ∙ c.last.ensures in
    let window : a ≤ b = omega (arith, first, c.rounds.invariant.window) in
    let onward : b ≤ d = omega (arith, first, last, c.rounds.invariant.end) in
    let within : d ≤ end = omega (arith, last, ends) in
    let written = writes-more c.rounds.invariant.written (writes-same (ap (text a) (sym first)) c.in_ok-fill_and_put.ensures.written) (laws.joined rows begin a b c.rounds.invariant.begin window) in
    writes-failed (text d end) c.from_residual-in_err-fill_and_put-2.ensures.0 (writes-more written c.in_err-fill_and_put-2.ensures.written refl)
    (joined-three text (laws.joined rows) begin b d end (omega (arith, c.rounds.invariant.begin)) onward within)

pub rounds-init : goal.rounds-init
rounds-init g c =
    let laws = g.met.S.RowSource g.world.𝓛 g.world.𝓜 g.world.𝓡 ((λ s x. x), (λ x. x), (λ x. x), λ x. x) in
    let rows = c.args.rows.now in
    let text = g.S.RowSource.text rows in
    let begin = g.S.RowSource.begin rows in
    let here : c.empty-done.result.first ≡ begin = c.empty-done.ensures.first ∙ c.first.ensures.is in record {
      written = writes-none (ap (text begin) here ∙ laws.empty rows begin);
      front_rows = forgotten text c.forget_rows.new.sheets c.forget_rows.ensures.none;
      back_rows = forgotten text c.forget_rows-2.new.sheets c.forget_rows-2.ensures.none;
      all = search (rules, arith);
      begin = search (rules, arith);
      window = search (rules, arith);
      end = search (rules, arith);
      front = search (rules, arith);
      back = search (rules, arith);
    }
