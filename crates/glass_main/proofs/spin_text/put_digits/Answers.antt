-- The bytes that are told are the digits of the spins.
use Rattle.std.proofs.Common.{rules, ◌/◌, length, ap}
use Rattle.report_text.proofs.DigitsTold.{tells-digits}
use Rattle.glass_main.proofs.spin_text.put_digits.Goals as goal

pub returns : goal.returns
returns g c = c.extend_by.ensures.written _ (tells-digits _ c.args.lattice.now (length c.args.spins.now / 4) c.args.spins.now
    (ap (λ n. n / 4) c.requires) (λ k byte below given. search rules))
