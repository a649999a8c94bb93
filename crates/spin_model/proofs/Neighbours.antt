-- The neighbours of a site by its coordinates: one step along each axis, forward and back.
use Rattle.std.proofs.Common.{◌≡◌, ℕ, ◌<◌, refl}
use Rattle.spin_model.specs.Lattice.{site_at, next, previous, forward, backward}
use Rattle.spin_model.proofs.Sites.{x_of-site_at, y_of-site_at, z_of-site_at}

pub forward-x : (l x y z : ℕ) → x < l → y < l → forward l (site_at l x y z) 0 ≡ site_at l (next l x) y z
unfolding forward
forward-x l x y z h k = rw (x_of-site_at l x y z h, y_of-site_at l x y z h k, z_of-site_at l x y z h k) refl

pub forward-y : (l x y z : ℕ) → x < l → y < l → forward l (site_at l x y z) 1 ≡ site_at l x (next l y) z
unfolding forward
forward-y l x y z h k = rw (x_of-site_at l x y z h, y_of-site_at l x y z h k, z_of-site_at l x y z h k) refl

pub forward-z : (l x y z : ℕ) → x < l → y < l → forward l (site_at l x y z) 2 ≡ site_at l x y (next l z)
unfolding forward
forward-z l x y z h k = rw (x_of-site_at l x y z h, y_of-site_at l x y z h k, z_of-site_at l x y z h k) refl

pub backward-x : (l x y z : ℕ) → x < l → y < l → backward l (site_at l x y z) 0 ≡ site_at l (previous l x) y z
unfolding backward
backward-x l x y z h k = rw (x_of-site_at l x y z h, y_of-site_at l x y z h k, z_of-site_at l x y z h k) refl

pub backward-y : (l x y z : ℕ) → x < l → y < l → backward l (site_at l x y z) 1 ≡ site_at l x (previous l y) z
unfolding backward
backward-y l x y z h k = rw (x_of-site_at l x y z h, y_of-site_at l x y z h k, z_of-site_at l x y z h k) refl

pub backward-z : (l x y z : ℕ) → x < l → y < l → backward l (site_at l x y z) 2 ≡ site_at l x y (previous l z)
unfolding backward
backward-z l x y z h k = rw (x_of-site_at l x y z h, y_of-site_at l x y z h k, z_of-site_at l x y z h k) refl
