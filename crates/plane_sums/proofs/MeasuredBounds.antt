-- Each number that is measured is at most the greatest of its kind.
use Rattle.std.proofs.Common.{arith}
use Rattle.measured_sums.specs.MeasuredSums.{Links, Overlaps, Axes, Faces, observed_in}
use Rattle.measured_sums.proofs.GreatestSums.{fifth-power, measured, sites, term-most}
use Rattle.plane_sums.specs.Measured.{MeasuredIsWithin}

pub measured-within : MeasuredIsWithin
measured-within = λ plan slot seen lawful told.
    let l = plan.size in
    let most = sites l lawful in
    let power = fifth-power l lawful in
    record {
      moments = record {
        first = λ b h. let bound = (measured plan b (slot b)).first in rw (told.first b h) (omega (arith, bound, most.1));
        second = λ b h. let bound = (measured plan b (slot b)).second in rw (told.second b h) (omega (arith, bound, most.1));
        links = λ b h. let bound = term-most l (observed_in plan b (slot b)) Links (measured plan b (slot b)) in rw (told.field.links b h) (omega (arith, bound, most.1));
        overlaps = λ b h. let bound = term-most l (observed_in plan b (slot b)) Overlaps (measured plan b (slot b)) in rw (told.field.overlaps b h) (omega (arith, bound, most.0));
      };
      axis = λ r b near h. let bound = term-most l (observed_in plan b (slot b)) (Axes r) (measured plan b (slot b)) in rw (told.field.axis r b near h) (omega (arith, bound, power));
      face = λ r b near h. let bound = term-most l (observed_in plan b (slot b)) (Faces r) (measured plan b (slot b)) in rw (told.field.face r b near h) (omega (arith, bound, power));
    }
