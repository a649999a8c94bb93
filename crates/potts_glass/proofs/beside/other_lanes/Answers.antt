use Rattle.std.proofs.Common.{ℕ, ◌-◌, ◌^◌, refl}
use Rattle.std.proofs.lemmas.Simd.{get_or-replicate}
use Rattle.multispin_word.proofs.Bits.{is_set-ones}
use Rattle.potts_glass.proofs.beside.other_lanes.Goals as goal

pub returns-clause-others : goal.returns-clause-others
returns-clause-others g c = λ i b h l.
    let ones = get_or-replicate {A = ℕ} g.row.N i (2 ^ 64 - 1) 0 h in
    rw (c.differing_lanes.ensures.differing i b h, ones, is_set-ones b l) refl
