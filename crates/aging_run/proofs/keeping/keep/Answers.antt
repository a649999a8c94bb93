use Rattle.std.proofs.Common.{sym, ◌∙◌, subst, arith}
use Rattle.spin_model.specs.Lattice.{IsLawfulSize}
use Rattle.plane_sweep.specs.Packed.{FitsReplica}
use Rattle.aging_run.proofs.Kept.{one-size, kept-fits, kept-spins}
use Rattle.aging_run.proofs.keeping.keep.Goals as goal

pub returns-clause-spins : goal.returns-clause-spins
returns-clause-spins c = λ l b fits.
    let same = one-size c.requires.size l c.args.replica.now c.requires.second fits in
    kept-spins l b c.args.replica.now c.args.kept.now.planes c.keep_planes.new.kept (subst IsLawfulSize same c.requires.lawful) fits c.keep_planes.ensures

pub returns-clause-fits : goal.returns-clause-fits
returns-clause-fits c = λ l fits.
    let same = one-size c.requires.size l c.args.kept.now c.requires.first fits in
    kept-fits l c.args.replica.now c.args.kept.now.planes c.keep_planes.new.kept c.args.kept.now.labels (subst (λ n. FitsReplica n c.args.replica.now) same c.requires.second) fits c.keep_planes.ensures

pub keep_planes-requires-clause-words : goal.keep_planes-requires-clause-words
keep_planes-requires-clause-words c = λ k within.
    let mine = c.requires.first.count in
    let theirs = c.requires.second.count in
    (c.requires.first.planes k _ (omega arith)).sized ∙ sym (c.requires.second.planes k _ within).sized
