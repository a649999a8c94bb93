-- A bank at the state from which it starts: the samples are those of the state, and nothing is summed up.
use Rattle.std.specs.Prelude.{All}
use Rattle.std.proofs.Common.{◌≡◌, ℕ, ◌-◌, pos, List, [], ◌∷◌, length, map, get_or, ap, refl, sym, subst, ◌∙◌, arith}
use Rattle.std.proofs.lemmas.List.{get_or-map, length-map}
use Rattle.std.proofs.lemmas.List.Elements.{All-get_or, All-from_get_or}
use Rattle.spin_model.specs.Steps.{steps}
use Rattle.scalar_rule.specs.Plan.{Plan}
use Rattle.scalar_rule.specs.Epoch.{epoch}
use Rattle.scalar_rule.specs.Serial.{serial}
use Rattle.scalar_rule.specs.declared.sample.PlainSlot.{PlainSlot}
use Rattle.scalar_rule.specs.declared.sample.Sample.{Sample}
use Rattle.plane_sweep.specs.Packed.{part, part_slot, FitsDuo, StandFits}
use Rattle.plane_sweep.specs.declared.replica.Duo.{Duo}
use Rattle.plane_sweep.specs.declared.stand.PairWheels.{PairWheels}
use Rattle.plane_sweep.specs.declared.stand.Stand.{Stand}
use Rattle.measured_sums.specs.MeasuredSums.{Quantity}
use Rattle.measured_sums.specs.RunningSums.{sums_below}
use Rattle.measured_sums.proofs.Growth.{sums-begin}
use Rattle.measured_run.specs.Banks.{start_of}
use Rattle.measured_run.specs.Cells.{slots_in, pairs_in}
use Rattle.measured_run.specs.Keeps.{sample_in, HaveBins, KeepsCells}
use Rattle.measured_run.specs.Opens.{duos_in, IsNew}
use Rattle.measured_run.specs.declared.cell.Cell.{Cell}
use Rattle.measured_run.proofs.Epochs.{no_cell, start-epoch}

-- the slots of a sample are those of the replicas
pub slots-of-duos : (l b : ℕ) (cells : List Cell) → slots_in l b cells ≡ map (part_slot l b) (duos_in cells)
slots-of-duos l b [] = refl
slots-of-duos l b (cell ∷ cells) = ap (λ (ss : List PlainSlot). part_slot l b cell.duo ∷ ss) (slots-of-duos l b cells)

-- a packed state of these replicas and generators has the samples of the slots
pub part-of-cells : (l b e : ℕ) (cells : List Cell) (slots : List Duo) (pairs : List PairWheels) → duos_in cells ≡ slots
    → sample_in l b e cells pairs ≡ part l b (record { epoch = e; slots = slots; pairs = pairs })
unfolding part
part-of-cells l b e cells slots pairs are =
    ap (λ (ss : List PlainSlot). let s : Sample = record { bit = b; epoch = e; slots = ss; pairs = pairs_in pairs } in s) (slots-of-duos l b cells ∙ ap (map (part_slot l b)) are)

pub duos-long : (cells : List Cell) → length (duos_in cells) ≡ length cells
duos-long cells = length-map cells (λ (cell : Cell). cell.duo)

no-steps : (plan : Plan) (c n : ℕ) (s : Sample) → n ≡ 0 → steps (λ _ t. epoch plan t) c n s ≡ s
unfolding steps
no-steps plan c n s none = ap (λ k. steps (λ _ t. epoch plan t) c k s) none

pub serial-own : (plan : Plan) (s : Sample) (e : ℕ) → s.epoch ≡ e → serial plan s e ≡ s
serial-own plan s e same = no-steps plan s.epoch (e - s.epoch) s (omega (arith, same))

no-sums : (plan : Plan) (base : Stand) (every t b k : ℕ) (quantity : Quantity) → sums_below plan (start_of plan base b) every t base.epoch k quantity ≡ pos 0
no-sums plan base every t b k quantity =
    ap (λ e. sums_below plan (start_of plan base b) every t e k quantity) (sym (start-epoch plan base b)) ∙ sums-begin plan (start_of plan base b) every t k quantity

pub keeps-opened : (plan : Plan) (base : Stand) (every until : ℕ) (cells : List Cell) → StandFits plan base → duos_in cells ≡ base.slots
    → All (λ (cell : Cell). IsNew base.epoch until cell.sums) cells
    → KeepsCells plan (start_of plan base) every until base.epoch cells base.pairs
keeps-opened plan base every until cells fits are new =
    let l = plan.size in
    let long : length cells ≡ length base.slots = sym (duos-long cells) ∙ ap length are in
    let whole : Stand = record { epoch = base.epoch; slots = base.slots; pairs = base.pairs } in
    record {
      state = λ b small. part-of-cells l b base.epoch cells base.slots base.pairs are
          ∙ sym (serial-own plan (start_of plan base b) base.epoch (start-epoch plan base b));
      fits = All-from_get_or (λ (x : Cell). FitsDuo l x.duo) cells no_cell
          (λ t h.
          let own : get_or base.slots t no_cell.duo ≡ (get_or cells t no_cell).duo =
          ap (λ xs. get_or xs t no_cell.duo) (sym are) ∙ get_or-map (λ (x : Cell). x.duo) cells t no_cell no_cell.duo h in
          subst (FitsDuo l) own (All-get_or (FitsDuo l) base.slots t no_cell.duo (omega (arith, h, long)) fits.each_slot));
      wheels = fits.each_pair;
      count = long ∙ fits.slots;
      pairs_count = fits.pairs;
      sums = λ t d h b k quantity small from to has.
          let zero = (All-get_or (λ (x : Cell). IsNew base.epoch until x.sums) cells t d h new).zero k b quantity from to in
          zero ∙ sym (no-sums plan base every t b k quantity);
      bins = All-from_get_or (λ (x : Cell). HaveBins (start_of plan base 0).epoch until x.sums) cells no_cell
          (λ t h. subst (λ e. HaveBins e until (get_or cells t no_cell).sums) (sym (start-epoch plan base 0))
          (All-get_or (λ (x : Cell). IsNew base.epoch until x.sums) cells t no_cell h new).bins);
    }
