use Rattle.std.proofs.Common.{arith, ◌<◌, length, ◌∙◌}
use Rattle.std.proofs.lemmas.List.{length-set}
use Rattle.exchange_board.specs.Content.{record_at}
use Rattle.exchange_board.proofs.RowPlaces.{place_in, written-more, others-more, room-within}
use Rattle.exchange_board.proofs.rows.put_rows.Goals as goal

pub place-requires-clause-few : goal.place-requires-clause-few
place-requires-clause-few c = let room = c.requires.room in omega (arith, room, c.requires.few)

pub at_mut-requires : goal.at_mut-requires
at_mut-requires c =
    let rows = c.args.rows.now in
    let below : c.samples.i < rows.samples = omega (arith, c.samples-test.true) in
    let z = room-within rows c.samples.i _ c.requires.slot below c.requires.room in
    omega (arith, z, c.place.ensures, c.samples.invariant.sized)

pub samples-preserved : goal.samples-preserved
samples-preserved c =
    let rows = c.args.rows.now in
    let inv = c.samples.invariant in
    let below : c.samples.i < rows.samples = omega (arith, c.samples-test.true) in
    let within : place_in rows c.samples.i < length c.samples.records = let z = room-within rows c.samples.i _ c.requires.slot below c.requires.room in omega (arith, inv.sized) in
    rw c.place.ensures (record {
      sized = length-set c.samples.records (place_in rows c.samples.i) c.record_in.result ∙ inv.sized;
      written = written-more rows (λ k. record_at c.args.made.now k) c.samples.i c.samples.records c.record_in.result c.requires.slot within c.record_in.ensures inv.written;
      others = others-more rows c.samples.i c.samples.records c.args.records.now c.record_in.result inv.others;
    })
