-- The order of `cross` as it is read, in the words of CrossWords.
use Rattle.std.specs.Prelude.{ℕ, ◌≤◌}
use Rattle.command_words.specs.CrossWords as model
use Rattle.command_words.specs.declared.cross_words.CrossOrder.{CrossOrder}

abbrev pub read_cross_order : CrossOrder → model.CrossOrder
read_cross_order order = record {
  run = order.run.now;
  first = order.first.now;
  seed = order.seed;
  second = order.second.now;
}

-- the seed is one that a run file may have
abbrev pub IsLawfulCross : CrossOrder → Type 0
IsLawfulCross order = order.seed ≤ 9223372036854775807
