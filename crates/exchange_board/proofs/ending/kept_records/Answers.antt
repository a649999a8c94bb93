use Rattle.std.proofs.Common.{arith, ℕ, List, [], length, map, All, sym, ap, ap₂, ◌∙◌, ◌≡◌, ◌*◌, ◌-◌, subst}
use Rattle.std.proofs.lemmas.List.{length-map}
use Rattle.spin_model.proofs.Tables.{count_below-zero}
use Rattle.scalar_rule.specs.Positions.{floor_of, deepest_of}
use Rattle.scalar_rule.specs.declared.sample.Record.{Record}
use Rattle.spin_model.proofs.Counts.{count-most}
use Rattle.plane_sweep.specs.Uneven.{position_of, FitsRecord}
use Rattle.plane_sweep.specs.Cells.{is_kept}
use Rattle.exchange_board.specs.Rooms.{RoomView}
use Rattle.exchange_board.specs.Stops.{IsKeeping, KeepsAhead}
use Rattle.exchange_board.proofs.Stopping.{kept_of, ahead-short, keeping-none, keeping-next, keeps-all, cells-room}
use Rattle.exchange_board.proofs.ending.kept_records.Goals as goal

pub shallowest-floor-requires-clause-short : goal.shallowest-floor-requires-clause-short
shallowest-floor-requires-clause-short c = λ t h. ahead-short c.args.origin.now c.args.places.now t c.requires.lawful c.requires.ahead h

pub deepest-requires-clause-short : goal.deepest-requires-clause-short
deepest-requires-clause-short c = λ t h. ahead-short c.args.origin.now c.args.places.now t c.requires.lawful c.requires.ahead h

pub cells-init : goal.cells-init
cells-init c =
    let room = c.requires.room in
    let items : c.args.room.items ≡ [] = ap (λ (r : RoomView Record). r.items) room in
    let spare = ap (λ (r : RoomView Record). r.spare) room in
    let none = ap length items in
    record {
      spare = omega (arith, spare, none);
      kept = keeping-none c.args.origin.now (map position_of c.args.places.now) c.args.room.items items (count_below-zero _);
      fits = let A : List Record → Type 0 = λ rows. All FitsRecord rows in subst A (sym items) (λ i d h. absurd (omega arith));
    }

pub keep_cell-requires-clause-spare : goal.keep_cell-requires-clause-spare
keep_cell-requires-clause-spare c =
    let o = c.args.origin.now in
    let ps = map position_of c.args.places.now in
    let room = cells-room o ps c.requires.ahead in
    let cells : (c.deepest.result - c.shallowest-floor.result) * o.window.samples * c.len.result ≡ (deepest_of ps - floor_of ps) * o.window.samples * length ps =
    ap₂ (λ x y. (x - y) * o.window.samples * c.len.result) c.deepest.ensures c.shallowest-floor.ensures ∙ ap (λ n. (deepest_of ps - floor_of ps) * o.window.samples * n) (c.len.ensures ∙ sym (length-map c.args.places.now position_of)) in
    let most = count-most (kept_of o ps) c.cells.index in
    omega (arith, c.cells.invariant.spare, c.cells.invariant.kept.sized, c.cells-test.true)

pub cells-preserved : goal.cells-preserved
cells-preserved c =
    let o = c.args.origin.now in
    let ps = map position_of c.args.places.now in
    let floor_is = c.shallowest-floor.ensures in
    let test : kept_of o ps c.cells.index ≡ is_kept c.args.places.now c.shallowest-floor.result o.window.samples o.window.every c.cells.index = ap (λ f. is_kept c.args.places.now f o.window.samples o.window.every c.cells.index) (sym floor_is) in
    let n = keeping-next o ps c.shallowest-floor.result (length c.args.places.now) c.cells.index c.cells.room.items c.keep_cell.new.room.items c.cells.room.spare c.keep_cell.new.room.spare floor_is (length-map c.args.places.now position_of) c.cells.invariant.kept
    (λ on. c.keep_cell.ensures.kept (sym test ∙ on)) (λ on. c.keep_cell.ensures.spent (sym test ∙ on))
    (λ off. let e = c.keep_cell.ensures.passed (sym test ∙ off) in (ap (λ (r : RoomView Record). r.items) e, ap (λ (r : RoomView Record). r.spare) e)) in
    record { spare = n.1 ∙ c.cells.invariant.spare; kept = n.0; fits = c.keep_cell.ensures.fits c.cells.invariant.fits }

pub returns-clause-kept : goal.returns-clause-kept
returns-clause-kept c =
    let o = c.args.origin.now in
    let ps = map position_of c.args.places.now in
    let cells : (c.deepest.result - c.shallowest-floor.result) * o.window.samples * c.len.result ≡ (deepest_of ps - floor_of ps) * o.window.samples * length ps =
    ap₂ (λ x y. (x - y) * o.window.samples * c.len.result) c.deepest.ensures c.shallowest-floor.ensures ∙ ap (λ n. (deepest_of ps - floor_of ps) * o.window.samples * n) (c.len.ensures ∙ sym (length-map c.args.places.now position_of)) in
    let end : c.cells.index ≡ (deepest_of ps - floor_of ps) * o.window.samples * length ps = omega (arith, cells) in
    let P : ℕ → Type 0 = λ j. IsKeeping o ps j c.cells.room.items in
    let all = keeps-all o ps c.cells.room.items c.requires.ahead (subst P end c.cells.invariant.kept) in
    let Q : List Record → Type 0 = λ r. KeepsAhead o ps r in
    subst Q (sym (c.of.ensures ∙ c.into_vec.ensures)) all

pub returns-clause-fits : goal.returns-clause-fits
returns-clause-fits c = let A : List Record → Type 0 = λ rows. All FitsRecord rows in subst A (sym (c.of.ensures ∙ c.into_vec.ensures)) c.cells.invariant.fits
