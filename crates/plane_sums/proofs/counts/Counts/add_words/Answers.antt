-- The second words go in as the carry of the first plane, and nothing comes out of the last one.
use Rattle.std.proofs.Common.{◌≡◌, ◌+◌, ◌^◌, rules, arith, length, get_or}
use Rattle.std.specs.Int.{bit_at}
use Rattle.std.proofs.lemmas.Nat.Bits.{bit_at-lt}
use Rattle.bit_compare.proofs.Adding.{no-carry}
use Rattle.plane_sums.specs.Counts.{count_at}
use Rattle.plane_sums.proofs.PlaceNumbers.{plane-added}
use Rattle.plane_sums.proofs.counts.Counts.add_words.Goals as goal

pub returns : goal.returns
returns g c = λ k b h l.
    let planes = c.args.self.now.planes in
    let long : length planes ≡ g.row.W = search rules in
    let x = bit_at (get_or c.args.words.now k 0) b in
    let y = bit_at (get_or c.args.more.now k 0) b in
    let place : 0 + k ≡ k = omega arith in
    let added = rw place at (c.add_plane.ensures k b h) in
    let more = plane-added planes 0 c.add_plane.new.own k b x y (bit_at (get_or c.add_plane.new.carry k 0) b) (omega (arith, long)) added in
    let carried = c.carry_up.ensures k b h in
    let first = bit_at-lt (get_or c.args.words.now k 0) b in
    let second = bit_at-lt (get_or c.args.more.now k 0) b in
    let room = c.requires.room k b h l in
    no-carry (count_at c.carry_up.new.self.planes k b) (2 ^ c.args.width) (bit_at (get_or c.carry_up.new.carry k 0) b) _ (bit_at-lt _ b)
    (omega (arith, carried, more)) (omega arith)
