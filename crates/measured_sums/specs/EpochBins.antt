-- Logarithmic bins of epochs, and classes of overlaps.
use Rattle.std.specs.Prelude.{ℕ, ◌+◌, ◌-◌, ◌*◌, ◌/◌, ◌^◌, min, nat_le, ℤ, nat_abs}
use Rattle.spin_model.specs.Steps.{count_below}
use Rattle.spin_model.specs.Lattice.{volume}

-- the epochs of a run are below 10^9, so they have at most so many binary digits
abbrev pub epoch_digits : ℕ
epoch_digits = 30

-- the bin of epoch f: the number of its binary digits, which is how many powers of two are at most f. Bin 0 is epoch 0, and bin
-- b above it has the epochs 2^(b-1) to 2^b - 1
abbrev pub bin_of : ℕ → ℕ
bin_of f = count_below (λ k. nat_le (2 ^ k) f) epoch_digits

abbrev pub most_bins : ℕ
most_bins = epoch_digits + 1

abbrev pub overlap_classes : ℕ
overlap_classes = 32

-- the class of an overlap by its absolute value, from 0 on in steps of V / 32; V itself is in the last one
abbrev pub class_of : ℕ → ℤ → ℕ
class_of l overlap = min (overlap_classes - 1) (overlap_classes * nat_abs overlap / volume l)
