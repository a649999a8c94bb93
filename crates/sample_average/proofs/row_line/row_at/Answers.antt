-- A lattice of side 64 at most has few sites.
use Rattle.std.proofs.Common.{◌*◌, ◌≤◌, arith}
use Rattle.std.proofs.Math.Nat.{mul-le-mul_right}
use Rattle.sample_average.proofs.StepLaws.{sites-few}
use Rattle.sample_average.proofs.row_line.row_at.Goals as goal

pub overflow_mul-sites : goal.overflow_mul-sites
overflow_mul-sites c =
    let size = c.args.header.now.size in
    let few : size * size ≤ 64 * size = mul-le-mul_right size c.requires.most in
    omega arith

pub overflow_mul-sites-2 : goal.overflow_mul-sites-2
overflow_mul-sites-2 c = let few = sites-few c.args.header.now c.requires.most in omega arith

pub overflow_mul-sites-3 : goal.overflow_mul-sites-3
overflow_mul-sites-3 c = let few = sites-few c.args.header.now c.requires.most in omega arith

pub signed_at-requires : goal.signed_at-requires
signed_at-requires c = let few = sites-few c.args.header.now c.requires.most in omega arith

pub overflow_mul-sites-4 : goal.overflow_mul-sites-4
overflow_mul-sites-4 c = let few = sites-few c.args.header.now c.requires.most in omega arith

pub signed_at-requires-2 : goal.signed_at-requires-2
signed_at-requires-2 c = let few = sites-few c.args.header.now c.requires.most in omega arith

pub signed_at-requires-3 : goal.signed_at-requires-3
signed_at-requires-3 c = let few = sites-few c.args.header.now c.requires.most in omega arith
