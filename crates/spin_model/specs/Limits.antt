-- The limits of the program that more than one crate speaks of. Those that one crate alone has stand there.
use Rattle.std.specs.Prelude.{ℕ}

-- the last epoch that a run ends at; also the most epochs from one that is printed to the next
abbrev pub last_epoch : ℕ
last_epoch = 1000000000

-- the most sweeps of an epoch, of a plain run, and of each time after a quench
abbrev pub most_sweeps : ℕ
most_sweeps = 1000000

-- the greatest number that a demonstration is made from
abbrev pub greatest_demo : ℕ
greatest_demo = 1000000

-- the most temperature slots of a run
abbrev pub most_slots : ℕ
most_slots = 32

-- the hand-outs of the longest run, one for each of its slots and epochs
abbrev pub every_take : ℕ
every_take = 32000000000

-- the most rows of a report
abbrev pub most_rows : ℕ
most_rows = 4194304

-- the disorder samples of a bank, a bit each of a word
abbrev pub bank_samples : ℕ
bank_samples = 64

-- the most disorder samples of a run and of a couplings file: those of four banks
abbrev pub most_samples : ℕ
most_samples = 256

-- the most sites of one colour in a plane: those at side 64
abbrev pub greatest_half_plane : ℕ
greatest_half_plane = 2048

-- the greatest threshold, of probability 1: each draw, a word of 32 bits, is below it
abbrev pub certain : ℕ
certain = 4294967296
