-- No sum is above as many times the greatest term as epochs are summed.
use Rattle.std.proofs.Common.{inl, inr, ◌+◌, ◌/◌, ◌==◌, [], get_or, arith}
use Rattle.std.proofs.lemmas.Bool.{cases_lt}
use Rattle.spin_model.proofs.Counts.{one_if-most}
use Rattle.measured_sums.specs.EpochBins.{class_of}
use Rattle.plane_sums.specs.Bins.{moment_in, most_moment}
use Rattle.plane_sums.specs.Correlations.{signed_at}
use Rattle.plane_sums.specs.Measured.{terms_of}
use Rattle.plane_sums.proofs.BinnedSums.{grown, kept, sample-small}
use Rattle.plane_sums.proofs.epoch_bins.BinSums.add.Goals as goal

pub add_moments-requires-clause-room : goal.add_moments-requires-clause-room
add_moments-requires-clause-room c = λ b k h few.
    let bin = c.requires.bin in
    let before = bin.moments b k h few in
    let term = sample-small c.args.seen.now b k c.requires.within.moments h in
    let less = c.requires.few in
    omega (arith, before, term, less)

pub returns-clause-bin : goal.returns-clause-bin
returns-clause-bin c =
    let old = c.args.self.now in
    let n = old.epochs in
    let seen = c.args.seen.now in
    let bin = c.requires.bin in
    let less = c.requires.few in
    let same = c.size-size.ensures.value in
    record {
      epochs = omega (arith, less);
      moments = λ b k h few. rw (c.add_moments.ensures b k h few)
          (grown (moment_in old b k) (signed_at (terms_of seen b) k) n most_moment (bin.moments b k h few) (sample-small seen b k c.requires.within.moments h));
      classes = λ b k h few.
          let before = bin.classes b k h few in
          let one = one_if-most (class_of c.args.lattice (signed_at seen.field.overlaps b) == k) in
          rw (c.count_classes.ensures b k h few) (omega (arith, before, one));
      axis = λ r b few h. elim (cases_lt r (c.args.lattice / 2 + 1)) [
        | inl near ↦ rw (c.add_distances.ensures.added r b (rw same near) h)
            (grown (signed_at (get_or old.axis r []) b) (signed_at (get_or seen.field.axis r []) b) n 3221225472 (bin.axis r b few h) (c.requires.within.axis r b (omega (arith, near)) h))
        | inr far ↦ rw (c.add_distances.ensures.others r (rw same far)) (kept (signed_at (get_or old.axis r []) b) n 3221225472 (bin.axis r b few h))
      ];
      face = λ r b few h. elim (cases_lt r (c.args.lattice / 2 + 1)) [
        | inl near ↦ rw (c.add_distances-2.ensures.added r b (rw same near) h)
            (grown (signed_at (get_or old.face r []) b) (signed_at (get_or seen.field.face r []) b) n 6442450944 (bin.face r b few h) (c.requires.within.face r b (omega (arith, near)) h))
        | inr far ↦ rw (c.add_distances-2.ensures.others r (rw same far)) (kept (signed_at (get_or old.face r []) b) n 6442450944 (bin.face r b few h))
      ];
    }
