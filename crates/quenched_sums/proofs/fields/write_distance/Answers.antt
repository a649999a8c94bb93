-- The three directions are added, each of which is at most the number of sites.
use Rattle.std.proofs.Common.{◌≡◌, ℕ, ◌*◌, ◌∙◌, ap, ap₂, sym, arith}
use Rattle.std.specs.Prelude.{pos, ◌+ℤ◌, ◌-ℤ◌}
use Rattle.spin_model.specs.SignedSums.{sum_of}
use Rattle.plane_sweep.specs.Packed.{spins_of}
use Rattle.overlap_lines.specs.Overlaps.{line_sum}
use Rattle.measured_sums.proofs.BoundedSums.{sum-bound}
use Rattle.plane_sums.proofs.Signed.{signed-more, signed-none}
use Rattle.quenched_sums.proofs.DistanceCounts.{distances-counted, line-small}
use Rattle.quenched_sums.proofs.fields.write_distance.Goals as goal

pub directions-init : goal.directions-init
directions-init c = λ b h. c.nothing.ensures b ∙ sym (signed-none _)

pub add_excesses-requires-clause-small : goal.add_excesses-requires-clause-small
add_excesses-requires-clause-small c = λ b h.
    let l = c.args.lattice in
    let first = spins_of l b c.args.duo.now.first.planes in
    let second = spins_of l b c.args.duo.now.second.planes in
    let each = sum-bound (λ d. line_sum l first second d c.args.distance) 262144 c.directions.d
    (λ d below. line-small l first second d c.args.distance c.sites-sites.ensures.lawful) in
    rw (c.directions.invariant b h) (omega (arith, each, c.directions-test.true))

pub directions-preserved : goal.directions-preserved
directions-preserved c = λ b h.
    let l = c.args.lattice in
    let first = spins_of l b c.args.duo.now.first.planes in
    let second = spins_of l b c.args.duo.now.second.planes in
    let lines = λ (d : ℕ). line_sum l first second d c.args.distance in
    c.add_excesses.ensures b h
    ∙ ap₂ (λ s t. s +ℤ t) (c.directions.invariant b h) (ap₂ (λ n m. pos (2 * n) -ℤ pos m) (c.agreeing_line.ensures.value b h) c.sites-sites.ensures.value)
    ∙ sym (signed-more lines c.directions.d)

pub returns : goal.returns
returns c = λ b h.
    let l = c.args.lattice in
    let first = spins_of l b c.args.duo.now.first.planes in
    let second = spins_of l b c.args.duo.now.second.planes in
    let all : c.directions.d ≡ 3 = omega (arith, c.directions-test.false, c.directions.auto.d-end) in
    c.directions.invariant b h
    ∙ ap (sum_of (λ d. line_sum l first second d c.args.distance)) all
    ∙ sym (distances-counted l first second c.args.distance)
