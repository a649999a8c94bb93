-- The bytes that are told are the digits of the sample's spins.
use Rattle.std.proofs.Common.{rules, ◌/◌, ap}
use Rattle.plane_sweep.specs.Packed.{spins_of}
use Rattle.report_text.proofs.DigitsTold.{tells-digits}
use Rattle.report_text.proofs.spin_line.put_digits.Goals as goal

pub returns : goal.returns
returns g c = c.extend_by.ensures.written _ (tells-digits _ c.args.lattice.now (c.sites.result / 4) (spins_of c.args.lattice.now c.args.b c.args.replica.now.planes)
    (ap (λ n. n / 4) c.sites.ensures.value) (λ k byte below given. search rules))
