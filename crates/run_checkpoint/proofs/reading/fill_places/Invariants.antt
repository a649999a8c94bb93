use Rattle.std.proofs.Common.{drop, ◌*◌}
use Rattle.run_checkpoint.specs.UnevenDecoding.{place_in}
use Rattle.run_checkpoint.proofs.Items.{Filled}
use Rattle.run_checkpoint.proofs.reading.fill_places.Given as goal

abbrev pub invariant-places : goal.invariant-places
invariant-places l = Filled (λ i. place_in (drop (9 * i) l.bytes)) l.t l.fn.places l.places
