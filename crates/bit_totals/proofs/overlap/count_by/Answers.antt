-- Plane by plane the words of ones and of both replicas say where these agree.
use Rattle.std.proofs.Common.{◌≡◌, ◌*◌, ◌<◌, length, take, ap, sym, ◌∙◌, arith}
use Rattle.std.proofs.Math.Nat.{zero-mul}
use Rattle.std.proofs.lemmas.List.{length-take-le, get_or-take}
use Rattle.plane_sweep.specs.Packed.{spins_of}
use Rattle.spin_model.specs.Lattice.{half_plane}
use Rattle.bit_totals.specs.Counted.{agreeing_from}
use Rattle.bit_totals.proofs.PlaceCounts.{agreeing-le, agreeing-zero, plane-agreeing, plane-room, plane-sized, planes-room, size-lawful}
use Rattle.bit_totals.proofs.overlap.count_by.Goals as goal

pub planes-init : goal.planes-init
planes-init c = λ l s f h.
    let a = spins_of l s c.args.a.now.planes in
    let b = spins_of l s c.args.b.now.planes in
    let none : 0 * half_plane l ≡ 0 = zero-mul (half_plane l) in
    c.none-tally.ensures s ∙ sym (ap (agreeing_from l a b) none ∙ agreeing-zero l a b)

pub add-requires-clause-room : goal.add-requires-clause-room
add-requires-clause-room c = λ s h.
    let one = c.requires.size in
    let l = one.size in
    let q = c.planes.q in
    let a = c.args.a.now in
    let count = one.first.count in
    let counted = c.planes.invariant l s one.first h in
    let part = agreeing-le l (spins_of l s a.planes) (spins_of l s c.args.b.now.planes) (q * half_plane l) in
    let most = planes-room l q one.lawful (omega arith) in
    let own = ap length c.words_of-own.ensures ∙ plane-sized l q a one.first (omega arith) in
    let small = plane-room l one.lawful in
    let long = length-take-le (length c.words_of-own.result.now) c.args.ones.now (omega (arith, own, c.requires.room l one.first)) in
    omega arith

pub planes-preserved : goal.planes-preserved
planes-preserved c = λ l s f h.
    let one = c.requires.size in
    let q = c.planes.q in
    let a = c.args.a.now in
    let b = c.args.b.now in
    let lawful = size-lawful l a b f one in
    let below : q < 2 * l = omega (arith, f.count) in
    let own = ap length c.words_of-own.ensures ∙ plane-sized l q a f below in
    let small = plane-room l lawful in
    let n = length c.words_of-own.result.now in
    let ones = take n c.args.ones.now in
    let long = length-take-le n c.args.ones.now (omega (arith, own, c.requires.room l f)) in
    let counted = plane-agreeing l q s a.planes b.planes ones c.words_of-own.result.now c.words_of.result.now lawful below h (long ∙ own)
    (λ j k. get_or-take n c.args.ones.now j 0 (omega arith) ∙ c.requires.ones j (omega (arith, k, c.requires.room l f))) c.words_of-own.ensures c.words_of.ensures in
    omega (arith, c.add.ensures s h, c.planes.invariant l s f h)
