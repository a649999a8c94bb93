-- The text of four copies at side 4: in the one state the spins alternate, in the other they are all up. Worked out by hand.
use Rattle.std.proofs.Common.{◌≡◌, ℕ, ◌+◌, Bool, ◌==◌, nat_lt, if◌then◌else◌, List, ◌++◌, ℤ, pos, neg_ℤ, codes, flat_map, refl}
use Rattle.std.specs.Fmt.{digits}
use Rattle.spin_model.specs.Steps.{table, steps}
use Rattle.spin_model.specs.SignedSums.{sum_of}
use Rattle.spin_model.specs.Lattice.{forward, colour}
use Rattle.measured_sums.specs.OverlapField.{Field}
use Rattle.measured_sums.specs.PlaneCorrelations.{over_families}
use Rattle.quenched_states.specs.Copies.{CopyPair, copy_pairs}
use Rattle.quenched_states.specs.CrossText.{CrossHeading, cross_heading_line, copies_line, cross_text}

abbrev board : Field
board site = if colour 4 site == 1 then neg_ℤ (pos 1) else pos 1

abbrev equal : Field
equal site = pos 1

-- copies of one state are equal
abbrev fields : ℕ → ℕ → CopyPair → Field
fields b t pair = if nat_lt pair.one 2 then (if nat_lt pair.other 2 then equal else board) else equal

abbrev heading : CrossHeading
heading = record { size = 4; slots = 1; samples = 1; rule = codes "heat"; first_seed = 7; second_seed = 8; first_epoch = 1; second_epoch = 0 }

pub four_copies : cross_text heading fields
    ≡ codes "cross 1 size=4 slots=1 samples=1 rule=heat seeds=7,8 epochs=1,0\n"
    ++ codes "pair,0,0,0,1,64,192\naxis,0,0,0,1,3072,3072,3072\nface,0,0,0,1,6144,6144,6144\n"
    ++ codes "pair,0,0,0,2,0,-192\naxis,0,0,0,2,0,0,0\nface,0,0,0,2,0,0,0\n"
    ++ codes "pair,0,0,0,3,0,-192\naxis,0,0,0,3,0,0,0\nface,0,0,0,3,0,0,0\n"
    ++ codes "pair,0,0,1,2,0,-192\naxis,0,0,1,2,0,0,0\nface,0,0,1,2,0,0,0\n"
    ++ codes "pair,0,0,1,3,0,-192\naxis,0,0,1,3,0,0,0\nface,0,0,1,3,0,0,0\n"
    ++ codes "pair,0,0,2,3,64,192\naxis,0,0,2,3,3072,3072,3072\nface,0,0,2,3,6144,6144,6144\n"
    ++ codes "end\n"
unfolding digits cross_text cross_heading_line copies_line table sum_of steps forward over_families
four_copies = refl
