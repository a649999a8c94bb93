use Rattle.std.proofs.Common.{◌≡◌, ℕ, ◌+◌, ◌*◌, ◌≤◌, sym, ap, ◌∙◌, subst}
use Rattle.exchange_board.specs.Content.{slots_in, rows_before, row_total}
use Rattle.scalar_rule.specs.Records.{recorded_epochs}
use Rattle.exchange_board.proofs.Origins.{place-short, room-of}
use Rattle.exchange_board.proofs.rows.rows_of.Goals as goal

pub floor-requires-clause-short : goal.floor-requires-clause-short
floor-requires-clause-short c = λ t h. place-short c.args.origin.now t c.requires.lawful h

pub returns-clause-room : goal.returns-clause-room
returns-clause-room c =
    let o = c.args.origin.now in
    let P : ℕ → ℕ → Type 0 = λ before n. (before * o.window.samples + o.window.samples) * n ≤ row_total o in
    let there : P (rows_before o c.args.epoch) (slots_in o) = room-of o c.args.epoch c.requires.lawful c.requires.from c.requires.below c.requires.recorded in
    let before : c.recorded_epochs-before.result ≡ rows_before o c.args.epoch =
    c.recorded_epochs-before.ensures ∙ ap (λ f. recorded_epochs o.window.every f c.args.epoch) c.floor.ensures in
    let a : P c.recorded_epochs-before.result (slots_in o) = subst (λ k. P k (slots_in o)) (sym before) there in
    subst (λ n. P c.recorded_epochs-before.result n) (sym (c.len.ensures ∙ c.requires.lawful.base.slots)) a
