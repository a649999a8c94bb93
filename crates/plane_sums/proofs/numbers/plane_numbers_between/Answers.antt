-- What is counted along the lines are the sites at which the replicas agree.
use Rattle.std.proofs.Common.{◌≡◌, ℕ, ◌*◌, ◌<◌, pos, ◌-ℤ◌, ap, ◌∙◌, arith}
use Rattle.std.proofs.lemmas.Nat.{mul-le}
use Rattle.measured_sums.specs.OverlapField.{site_overlap}
use Rattle.measured_sums.specs.PlaneFamilies.{plane_sum}
use Rattle.measured_sums.proofs.BoundedSums.{overlap-bound, plane-bound}
use Rattle.plane_sweep.specs.Packed.{spins_of}
use Rattle.plane_sums.specs.Families.{family_at}
use Rattle.plane_sums.specs.Lines.{agrees}
use Rattle.plane_sums.specs.Rooms.{number_in}
use Rattle.plane_sums.proofs.FamilyLines.{plane-counted}
use Rattle.plane_sums.proofs.Projecting.{lines-small}
use Rattle.plane_sums.proofs.numbers.plane_numbers_between.Goals as goal

pub sum_families-requires-clause-counted : goal.sum_families-requires-clause-counted
sum_families-requires-clause-counted c =
    let size = c.size-size.result in
    lines-small size (agrees size c.args.first.now.planes c.args.second.now.planes) c.project.new.self c.project.ensures.lines

summed : (c : goal.After-write_families) (f m b : ℕ) → f < 9 → m < c.args.lattice → b < 64
    → number_in c.write_families.new.out f m b ≡ plane_sum c.args.lattice (site_overlap (spins_of c.args.lattice b c.args.first.now.planes) (spins_of c.args.lattice b c.args.second.now.planes)) (family_at f) m
summed c f m b h i j =
    let l = c.size-size.result in
    let first = c.args.first.now.planes in
    let second = c.args.second.now.planes in
    let within : m < l = omega (arith, i, c.size-size.ensures.value) in
    rw (← c.size-size.ensures.value) (c.write_families.ensures f m b h within j
    ∙ ap (λ n. pos (2 * n) -ℤ pos (l * l)) (c.sum_families.ensures.sums (agrees l first second) c.project.ensures.lines f m b h within j)
    ∙ plane-counted l (spins_of l b first) (spins_of l b second) (family_at f) m within)

pub returns-clause-value : goal.returns-clause-value
returns-clause-value c = summed c

pub returns-clause-within : goal.returns-clause-within
returns-clause-within c = λ f m b h i j.
    let l = c.args.lattice in
    let first = spins_of l b c.args.first.now.planes in
    let second = spins_of l b c.args.second.now.planes in
    let most = plane-bound l (site_overlap first second) (family_at f) m (overlap-bound first second) i in
    let all = mul-le l l 64 64 (c.size-size.ensures.lawful.1) (c.size-size.ensures.lawful.1) in
    rw (summed c f m b h i j) (omega (arith, most, all))
