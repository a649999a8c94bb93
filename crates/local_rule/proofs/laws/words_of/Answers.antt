-- Six words, one of each row, are the words of the lane.
use Rattle.std.proofs.Common.{sym, arith}
use Rattle.local_rule.proofs.Counts.{lane-list}
use Rattle.local_rule.proofs.laws.words_of.Goals as goal

pub returns : goal.returns
returns c =
    rw (
      c.word_at.ensures,
      c.word_at-2.ensures,
      c.word_at-3.ensures,
      c.word_at-4.ensures,
      c.word_at-5.ensures,
      c.word_at-6.ensures,
    )
    (sym (lane-list c.args.rows.now c.args.lane (omega arith)))
