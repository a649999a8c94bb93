-- Quenched couplings J = +1 or -1 (Edwards and Anderson 1975): of each disorder sample and bond, whether J is -1.
use Rattle.std.specs.Prelude.{ℕ, Bool, false}
use Rattle.spin_model.specs.Words.{is_set}
use Rattle.spin_model.specs.Stream.{draw}
use Rattle.spin_model.specs.Seeding.{coupling_words}

-- the couplings of one sample: at a bond's number, true where J is -1
abbrev pub Bonds : Type 0
Bonds = ℕ → Bool

-- the ferromagnet: every J is +1, in each sample
abbrev pub plus : ℕ → Bonds
plus sample bond = false

-- J = +1 and -1 with equal probability: -1 where the top bit of the bond's draw of the sample's generator is 1
unfoldable pub random : ℕ → ℕ → Bonds
random seed sample bond = is_set (draw (coupling_words seed sample) bond) 31
