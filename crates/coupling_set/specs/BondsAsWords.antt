-- Couplings that are given bond by bond, as words: bit b of a bond's word is set where J of sample b is -1.
use Rattle.std.specs.Prelude.{ℕ, zero, suc, ◌+◌, ◌*◌, ◌/◌, ◌%◌, ◌^◌, Bool}
use Rattle.spin_model.specs.Couplings.{Bonds}
use Rattle.spin_model.specs.Lattice.{volume, bond, bond_count, from_compact}
use Rattle.spin_model.specs.Steps.{table}
use Rattle.spin_model.specs.Words.{one_if}
use Rattle.coupling_set.specs.CouplingWords.{CouplingsView, words_on}

-- the word whose bits below n are set where the test holds of them
unfoldable pub word_of : (ℕ → Bool) → ℕ → ℕ
word_of test zero = 0
word_of test (suc n) = one_if (test n) * 2 ^ n + word_of test n

-- the bond whose word stands at a place
abbrev pub bond_at : ℕ → ℕ → ℕ
bond_at l place = bond (from_compact l (place % volume l)) (place / volume l)

-- the couplings of 64 samples, each sample's as they are given
unfoldable pub couplings_with : ℕ → (ℕ → Bonds) → CouplingsView
couplings_with l bonds = words_on l (table (λ place. word_of (λ b. bonds b (bond_at l place)) 64) (bond_count l))

-- the 64 samples of a bank: its sample m is sample 64 bank + m
abbrev pub bank_of : ℕ → (ℕ → Bonds) → ℕ → Bonds
bank_of bank bonds = λ m. bonds (64 * bank + m)
