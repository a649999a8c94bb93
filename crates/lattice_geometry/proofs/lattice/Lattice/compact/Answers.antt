use Rattle.std.proofs.Common.{ℕ, ◌+◌, ◌*◌, ◌/◌, ◌<◌, arith, refl}
use Rattle.spin_model.specs.Lattice.{IsLawfulSize, half_volume, half_plane, compact}
use Rattle.spin_model.proofs.CompactOrder.{place_at-below}
use Rattle.spin_model.proofs.Sites.{volume-bound}
use Rattle.lattice_geometry.proofs.lattice.Lattice.compact.Goals as goal

-- the place of a colour and three coordinates is below the greatest number of sites
place-bound : (l c x y z : ℕ) → IsLawfulSize l → c < 2 → x < l → y < l → z < l
    → c * half_volume l + z * half_plane l + (y * (l / 2) + x / 2) < 262144
place-bound l c x y z lawful chosen column row plane =
    let below = place_at-below l c z y (x / 2) lawful chosen plane row (omega arith) in
    let bound = volume-bound l lawful in
    omega arith

pub overflow_add-result : goal.overflow_add-result
overflow_add-result c =
    let within = rw (← c.self.view_is) at c.coordinates-x.ensures.within in
    let bound = place-bound c.self.inside.size c.colour.result c.coordinates-x.result.0 c.coordinates-x.result.1 c.coordinates-x.result.2 c.self.invariant c.colour.ensures.within within.0 within.1 within.2 in
    omega arith

pub overflow_add-result-3 : goal.overflow_add-result-3
overflow_add-result-3 c =
    let within = rw (← c.self.view_is) at c.coordinates-x.ensures.within in
    let bound = place-bound c.self.inside.size c.colour.result c.coordinates-x.result.0 c.coordinates-x.result.1 c.coordinates-x.result.2 c.self.invariant c.colour.ensures.within within.0 within.1 within.2 in
    omega arith

pub returns-clause-value : goal.returns-clause-value
unfolding compact
returns-clause-value c =
    rw (c.colour.ensures.value, c.coordinates-x.ensures.x, c.coordinates-x.ensures.y, c.coordinates-x.ensures.z, c.self.view_is) refl

pub returns-clause-within : goal.returns-clause-within
returns-clause-within c =
    let within = rw (← c.self.view_is) at c.coordinates-x.ensures.within in
    rw (← c.self.view_is) (place_at-below c.self.inside.size c.colour.result c.coordinates-x.result.2 c.coordinates-x.result.1 (c.coordinates-x.result.0 / 2) c.self.invariant c.colour.ensures.within within.2 within.1 (omega arith))
