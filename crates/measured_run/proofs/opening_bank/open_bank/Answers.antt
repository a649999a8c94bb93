use Rattle.std.specs.Arc.{arc_value}
use Rattle.std.proofs.Common.{◌≡◌, ◌≤◌, List, ap, sym, subst, ◌∙◌, arith}
use Rattle.scalar_rule.specs.Plan.{Plan}
use Rattle.plane_sweep.specs.Packed.{StandFits}
use Rattle.plane_sweep.specs.declared.stand.PairWheels.{PairWheels}
use Rattle.plane_sweep.specs.declared.stand.Stand.{Stand}
use Rattle.plane_sweep.specs.declared.uneven.RaggedStand.{RaggedStand}
use Rattle.measured_run.specs.Banks.{start_of}
use Rattle.measured_run.specs.Keeps.{KeepsCells}
use Rattle.measured_run.specs.Opens.{duos_in}
use Rattle.measured_run.specs.declared.cell.Cell.{Cell}
use Rattle.measured_run.proofs.Opened.{keeps-opened}
use Rattle.measured_run.proofs.opening_bank.open_bank.Goals as goal

pub invariant_of-result : goal.invariant_of-result
invariant_of-result c =
    let base = c.args.base in
    let plan = arc_value c.args.plan.now in
    let every = c.args.course.every in
    let until = c.args.course.until in
    let own : arc_value c.in_ok-plan.plan ≡ plan = c.in_ok-plan.ensures in
    let was : c.of-opened.result.value ≡ base = c.of-opened.ensures in
    let level = c.in_ok-places.ensures.level in
    let slots : c.in_ok-places.field-0.slots ≡ base.slots = ap (λ (s : RaggedStand). s.slots) level in
    let pairs : c.in_ok-places.field-0.pairs ≡ base.pairs = ap (λ (s : RaggedStand). s.pairs) level in
    let are : duos_in c.in_ok-cells.cells.items ≡ base.slots = c.in_ok-cells.ensures.duos ∙ c.into_vec.ensures ∙ slots in
    let opened = keeps-opened plan base every until c.in_ok-cells.cells.items c.requires.base are c.in_ok-cells.ensures.new in
    let K : Plan → Stand → List Cell → List PairWheels → Type 0 = λ p s cells ps. KeepsCells p (start_of p s) every until base.epoch cells ps in
    record {
      fits = subst (λ (p : Plan). StandFits p c.of-opened.result.value) (sym own) (subst (StandFits plan) (sym was) c.requires.base);
      from = subst (λ (s : Stand). s.epoch ≤ base.epoch) (sym was) (omega arith);
      to = c.requires.reach;
      until = c.requires.until;
      some_every = c.requires.some_every;
      cells = subst (λ (p : Plan). K p c.of-opened.result.value c.of.result c.in_ok-places.field-0.pairs) (sym own)
          (subst (λ (s : Stand). K plan s c.of.result c.in_ok-places.field-0.pairs) (sym was)
          (subst (λ (cells : List Cell). K plan base cells c.in_ok-places.field-0.pairs) (sym c.of.ensures)
          (subst (λ (ps : List PairWheels). K plan base c.in_ok-cells.cells.items ps) (sym pairs) opened)));
    }
