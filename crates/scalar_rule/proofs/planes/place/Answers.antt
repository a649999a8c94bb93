-- In the plane of a site stand y rows of L / 2 sites of its colour before it, and x / 2 in its own row.
use Rattle.std.proofs.Common.{◌≡◌, ℕ, suc, ◌+◌, ◌*◌, ◌/◌, ◌<◌, ◌≤◌, refl, arith}
use Rattle.std.proofs.Math.Nat.{mul-le-mul_right}
use Rattle.spin_model.specs.Lattice.{IsLawfulSize}
use Rattle.scalar_rule.proofs.planes.place.Goals as goal

same_place : (l size x y x_is y_is : ℕ) → size ≡ l → x ≡ x_is → y ≡ y_is → y * (size / 2) + x / 2 ≡ y_is * (l / 2) + x_is / 2
same_place l size x y x_is y_is of_size of_x of_y = rw (of_size, of_x, of_y) refl

below : (l size x y : ℕ) → size ≡ l → IsLawfulSize l → x < l → y < l → y * (size / 2) + x / 2 < l * (l / 2)
below l size x y of_size lawful in_row in_plane =
    let rows : suc y * (l / 2) ≤ l * (l / 2) = mul-le-mul_right (l / 2) in_plane in
    rw of_size (omega arith)

few : (l size x y : ℕ) → size ≡ l → IsLawfulSize l → x < l → y < l → y * (size / 2) + x / 2 < 2048
few l size x y of_size lawful in_row in_plane =
    let all : l * (l / 2) ≤ 64 * (l / 2) = mul-le-mul_right (l / 2) lawful.1 in
    let place = below l size x y of_size lawful in_row in_plane in
    omega arith

pub overflow_mul-result : goal.overflow_mul-result
overflow_mul-result c =
    let place = few c.args.lattice.now c.size-half.result c.coordinates-x.result.0 c.coordinates-x.result.1 c.size-half.ensures.value c.size-half.ensures.lawful
    c.coordinates-x.ensures.within.0 c.coordinates-x.ensures.within.1 in
    omega arith

pub overflow_add-result : goal.overflow_add-result
overflow_add-result c =
    let place = few c.args.lattice.now c.size-half.result c.coordinates-x.result.0 c.coordinates-x.result.1 c.size-half.ensures.value c.size-half.ensures.lawful
    c.coordinates-x.ensures.within.0 c.coordinates-x.ensures.within.1 in
    omega arith

pub returns-clause-value : goal.returns-clause-value
returns-clause-value c = same_place _ _ _ _ _ _ c.size-half.ensures.value c.coordinates-x.ensures.x c.coordinates-x.ensures.y

pub returns-clause-within : goal.returns-clause-within
returns-clause-within c = below _ _ _ _ c.size-half.ensures.value c.size-half.ensures.lawful c.coordinates-x.ensures.within.0 c.coordinates-x.ensures.within.1
