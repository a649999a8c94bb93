use Rattle.std.proofs.Common.{rules, ℕ, ◌/◌, ◌%◌, [], subst, ◌∙◌, arith}
use Rattle.std.proofs.lemmas.List.{get_or_read}
use Rattle.spin_model.specs.Lattice.{half_plane}
use Rattle.plane_sweep.specs.Storing.{StoresWords}
use Rattle.plane_sweep.proofs.StoredSamples.{stores-plane}
use Rattle.plane_sweep.proofs.storing.store_plane.Goals as goal

pub returns : goal.returns
returns c =
    let l = c.args.lattice.now in
    let part = c.args.part.now in
    let count = c.requires.part.wheels in
    let S : ℕ → Type 0 = λ n. StoresWords l c.args.sample part.spins (c.args.k / n) (c.args.k % n) (half_plane l) c.args.plane.now.words c.store_words.new.words in
    let read = get_or_read part.wheels c.args.k c.at.result.now (omega arith) c.at.ensures [] in
    stores-plane l c.args.sample c.args.k part.spins part.wheels c.args.plane.now c.store_words.new.words c.copied-plane.result c.requires.plane.sized
    (subst S c.size-size.ensures.value c.store_words.ensures) (c.copied-plane.ensures.same ∙ read) (search rules)
