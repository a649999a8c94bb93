-- The text of a run of two slots over two epochs, whose replicas are equal in each slot and have every bond unsatisfied in the one
-- and satisfied in the other: worked out by hand.
use Rattle.std.proofs.Common.{◌≡◌, ℕ, zero, suc, ℤ, pos, neg_ℤ, ◌++◌, codes, refl}
use Rattle.std.specs.Fmt.{digits}
use Rattle.spin_model.specs.Steps.{table, count_below, steps}
use Rattle.spin_model.specs.SignedSums.{sum_of}
use Rattle.spin_model.specs.Lattice.{forward}
use Rattle.measured_sums.specs.PlaneCorrelations.{over_families}
use Rattle.measured_sums.specs.MeasuredSums.{Observed, Quantity, term_of}
use Rattle.measured_sums.specs.SumsText.{Heading, heading_line, numbers_line, sums_text}

abbrev seen : ℕ → Observed
seen zero = record { first_energy = pos 192; second_energy = pos 192; field = λ i. pos 1 }
seen (suc t) = record { first_energy = neg_ℤ (pos 192); second_energy = neg_ℤ (pos 192); field = λ i. pos 1 }

abbrev heading : ℕ → ℕ → ℕ → Heading
heading every c e = record { size = 4; slots = 2; samples = 1; rule = codes "heat"; every = every; from = c; to = e; digest = codes "d9aa" }

-- each bin has one epoch
abbrev sums : ℕ → ℕ → ℕ → Quantity → ℤ
sums sample t k quantity = term_of 4 (seen t) quantity

-- every epoch: bins 0 and 1
pub both_epochs : sums_text (heading 1 0 2) sums
    ≡ codes "measure 1 size=4 slots=2 samples=1 rule=heat every=1 from=0 to=2 digest=d9aa\n"
    ++ codes "sum,0,0,0,1,384,73728,36864,192,36864,64,64,4096,16777216,1572864,6442450944\nhist,0,0,0,0,0,0,0,0,0,0,0,0,0,0,0,0,0,0,0,0,0,0,0,0,0,0,0,0,0,0,0,0,0,0,1\naxis,0,0,0,3072,3072,3072\nface,0,0,0,6144,6144,6144\n"
    ++ codes "sum,0,0,1,1,384,73728,36864,192,36864,64,64,4096,16777216,1572864,6442450944\nhist,0,0,1,0,0,0,0,0,0,0,0,0,0,0,0,0,0,0,0,0,0,0,0,0,0,0,0,0,0,0,0,0,0,0,1\naxis,0,0,1,3072,3072,3072\nface,0,0,1,6144,6144,6144\n"
    ++ codes "sum,0,1,0,1,-384,73728,36864,192,36864,64,64,4096,16777216,-1572864,-6442450944\nhist,0,1,0,0,0,0,0,0,0,0,0,0,0,0,0,0,0,0,0,0,0,0,0,0,0,0,0,0,0,0,0,0,0,0,1\naxis,0,1,0,3072,3072,3072\nface,0,1,0,6144,6144,6144\n"
    ++ codes "sum,0,1,1,1,-384,73728,36864,192,36864,64,64,4096,16777216,-1572864,-6442450944\nhist,0,1,1,0,0,0,0,0,0,0,0,0,0,0,0,0,0,0,0,0,0,0,0,0,0,0,0,0,0,0,0,0,0,0,1\naxis,0,1,1,3072,3072,3072\nface,0,1,1,6144,6144,6144\n"
    ++ codes "end,2\n"
unfolding digits sums_text heading_line numbers_line table count_below sum_of steps forward over_families
both_epochs = refl

-- from epoch 1 on
pub second_part : sums_text (heading 1 1 2) sums
    ≡ codes "measure 1 size=4 slots=2 samples=1 rule=heat every=1 from=1 to=2 digest=d9aa\n"
    ++ codes "sum,0,0,1,1,384,73728,36864,192,36864,64,64,4096,16777216,1572864,6442450944\nhist,0,0,1,0,0,0,0,0,0,0,0,0,0,0,0,0,0,0,0,0,0,0,0,0,0,0,0,0,0,0,0,0,0,0,1\naxis,0,0,1,3072,3072,3072\nface,0,0,1,6144,6144,6144\n"
    ++ codes "sum,0,1,1,1,-384,73728,36864,192,36864,64,64,4096,16777216,-1572864,-6442450944\nhist,0,1,1,0,0,0,0,0,0,0,0,0,0,0,0,0,0,0,0,0,0,0,0,0,0,0,0,0,0,0,0,0,0,0,1\naxis,0,1,1,3072,3072,3072\nface,0,1,1,6144,6144,6144\n"
    ++ codes "end,2\n"
unfolding digits sums_text heading_line numbers_line table count_below sum_of steps forward over_families
second_part = refl

-- each other epoch: bin 0 has none, so it has no line
pub each_other_epoch : sums_text (heading 2 0 2) sums
    ≡ codes "measure 1 size=4 slots=2 samples=1 rule=heat every=2 from=0 to=2 digest=d9aa\n"
    ++ codes "sum,0,0,1,1,384,73728,36864,192,36864,64,64,4096,16777216,1572864,6442450944\nhist,0,0,1,0,0,0,0,0,0,0,0,0,0,0,0,0,0,0,0,0,0,0,0,0,0,0,0,0,0,0,0,0,0,0,1\naxis,0,0,1,3072,3072,3072\nface,0,0,1,6144,6144,6144\n"
    ++ codes "sum,0,1,1,1,-384,73728,36864,192,36864,64,64,4096,16777216,-1572864,-6442450944\nhist,0,1,1,0,0,0,0,0,0,0,0,0,0,0,0,0,0,0,0,0,0,0,0,0,0,0,0,0,0,0,0,0,0,0,1\naxis,0,1,1,3072,3072,3072\nface,0,1,1,6144,6144,6144\n"
    ++ codes "end,2\n"
unfolding digits sums_text heading_line numbers_line table count_below sum_of steps forward over_families
each_other_epoch = refl

-- where no epoch is made
pub no_epoch : sums_text (heading 1 1 1) sums
    ≡ codes "measure 1 size=4 slots=2 samples=1 rule=heat every=1 from=1 to=1 digest=d9aa\n"
    ++ codes "end,1\n"
unfolding digits sums_text heading_line numbers_line table count_below sum_of steps forward over_families
no_epoch = refl
