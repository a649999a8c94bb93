-- The sums over the planes make up those over the sites, and the correlations.
use Rattle.std.proofs.Common.{◌≡◌, ℕ, ap, ◌∙◌, arith}
use Rattle.spin_model.specs.SignedSums.{sum_of}
use Rattle.measured_sums.specs.OverlapField.{site_overlap}
use Rattle.measured_sums.specs.PlaneFamilies.{AlongX, plane_sum}
use Rattle.measured_sums.proofs.Planes.{planes-add}
use Rattle.measured_sums.proofs.SignedTerms.{terms-same}
use Rattle.plane_sweep.specs.Packed.{spins_of}
use Rattle.plane_sums.specs.Rooms.{number_in}
use Rattle.plane_sums.proofs.fields.write_field.Goals as goal

pub returns : goal.returns
returns c =
    let l = c.args.lattice in
    let q = λ (b : ℕ). site_overlap (spins_of l b c.args.first.now.planes) (spins_of l b c.args.second.now.planes) in
    let planes = λ (f m b : ℕ). c.plane_numbers_between.ensures.value f m b in
    record {
      links = λ b h. c.write_links.ensures b h;
      overlaps = λ b h.
          let sum = λ (m : ℕ). number_in c.plane_numbers_between.new.out 0 m b in
          c.sum_planes.ensures b h ∙ ap (sum_of sum) c.size.ensures.value
          ∙ terms-same sum (plane_sum l (q b) AlongX) l (λ m below. planes 0 m b (omega arith) below h)
          ∙ planes-add l (q b) AlongX c.size.ensures.lawful;
      axis = λ r b near h. c.correlations.ensures.axis q planes r b near h;
      face = λ r b near h. c.correlations.ensures.face q planes r b near h;
    }
