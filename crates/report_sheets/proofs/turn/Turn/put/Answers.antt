-- The rows of one part more.
use Rattle.std.proofs.Common.{◌≡◌, ℕ, ◌+◌, List, ap₂, refl}
use Rattle.glass_edges.proofs.Writing.{writes-more, writes-failed, writes-same}
use Rattle.report_sheets.specs.Sheets.{start_of}
use Rattle.report_sheets.proofs.Rounds.{start-from, start-last, start-up, joined-three}
use Rattle.report_sheets.proofs.turn.Turn.put.Goals as goal

-- the rows between the same epochs
moved : (text : ℕ → ℕ → List ℕ) (a b x y : ℕ) → a ≡ x → b ≡ y → text a b ≡ text x y
moved text a b x y first second = ap₂ text first second

pub returns-in_err-put_part : goal.returns-in_err-put_part
returns-in_err-put_part g c =
    let rows = c.args.rows.now in
    let r = c.args.self.now.done in
    let k = c.parts.k in
    let text = g.S.RowSource.text rows in
    let piece : text c.start-from.result c.start-to.result ≡ text (start_of r k) (start_of r (k + 1)) = moved text c.start-from.result c.start-to.result (start_of r k) (start_of r (k + 1)) c.start-from.ensures c.start-to.ensures in
    writes-failed (text (start_of r (k + 1)) r.last) c.from_residual.ensures.0 (writes-more c.parts.invariant (writes-same piece c.in_err-put_part.ensures) refl)
    (joined-three text (g.met.S.RowSource.joined rows) r.first (start_of r k) (start_of r (k + 1)) r.last (start-from r k c.requires.turn.done.window) (start-up r k) (start-last r (k + 1)))
