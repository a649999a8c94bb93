use Rattle.std.proofs.Common.{sym, ◌∙◌}
use Rattle.sample_average.proofs.HeaderTests.{tested}
use Rattle.sample_average.proofs.LineLaws.{header-shorter}
use Rattle.sample_average.proofs.WrongLine.{no-header, bad-header}
use Rattle.sample_average.proofs.scan.header_of.Goals as goal

pub returns-in_default-clause-wrong : goal.returns-in_default-clause-wrong
returns-in_default-clause-wrong c = no-header c.args.bytes.now (sym c.in_default.ensures)

pub returns-then-is_lawful-clause-lawful : goal.returns-then-is_lawful-clause-lawful
returns-then-is_lawful-clause-lawful c = tested c.in-Some.header (sym c.is_lawful.ensures ∙ c.if-is_lawful.true)

pub returns-then-is_lawful-clause-shorter : goal.returns-then-is_lawful-clause-shorter
returns-then-is_lawful-clause-shorter c = header-shorter c.args.bytes.now (c.in-Some.header, c.in-Some.rest.now) (sym c.in-Some.ensures)

pub returns-else-is_lawful-clause-wrong : goal.returns-else-is_lawful-clause-wrong
returns-else-is_lawful-clause-wrong c = bad-header c.args.bytes.now (c.in-Some.header, c.in-Some.rest.now) (sym c.in-Some.ensures) (sym c.is_lawful.ensures ∙ c.if-is_lawful.false)
