-- A bank at its last epoch: its slots at rest there are the state of the serial dynamics, and their sums are those of the run.
use Rattle.std.specs.Prelude.{All}
use Rattle.std.proofs.Common.{◌≡◌, ℕ, ◌<◌, ◌≤◌, false, List, [], length, replicate, get_or, ap, ap₂, sym, subst, ◌∙◌, arith}
use Rattle.std.proofs.lemmas.List.{get_or-map, get_or-replicate, length-map}
use Rattle.std.proofs.lemmas.List.Elements.{All-get_or, All-map}
use Rattle.spin_model.specs.Limits.{last_epoch}
use Rattle.scalar_rule.specs.Plan.{Plan, slots_of, pairs_of}
use Rattle.scalar_rule.specs.Serial.{serial}
use Rattle.scalar_rule.specs.declared.sample.Record.{Record}
use Rattle.plane_sweep.specs.Packed.{part, part_pair, FitsDuo, PermutesLabels, StandFits}
use Rattle.plane_sweep.specs.Uneven.{place_at, level_stand}
use Rattle.plane_sweep.specs.declared.replica.Duo.{Duo}
use Rattle.plane_sweep.specs.declared.stand.PairWheels.{PairWheels}
use Rattle.plane_sweep.specs.declared.stand.Stand.{Stand}
use Rattle.plane_sweep.specs.declared.uneven.Place.{Place}
use Rattle.plane_sweep.specs.declared.uneven.RaggedStand.{RaggedStand}
use Rattle.plane_sweep.proofs.LabelEpochs.{serial-permutes}
use Rattle.plane_sums.specs.Bins.{SumsView}
use Rattle.run_checkpoint.specs.Encoding.{flattened}
use Rattle.measured_run.specs.Banks.{BankView, start_of}
use Rattle.measured_run.specs.Cells.{sums_in}
use Rattle.measured_run.specs.Ends.{IsEnd, HoldsSums, HoldsSlots, no_bins}
use Rattle.measured_run.specs.Keeps.{HaveBins, KeepsCells}
use Rattle.measured_run.specs.Opens.{duos_in}
use Rattle.measured_run.specs.declared.cell.Cell.{Cell}
use Rattle.measured_run.proofs.Epochs.{no_cell, start-epoch}
use Rattle.measured_run.proofs.Opened.{duos-long, part-of-cells}

start-paired : (plan : Plan) (base : Stand) (b : ℕ) → length base.pairs ≡ pairs_of plan → length (start_of plan base b).pairs ≡ pairs_of plan
unfolding part
start-paired plan base b paired = length-map base.pairs part_pair ∙ paired

-- slots at rest at one epoch
abbrev rest_at : ℕ → Place
rest_at e = record { epoch = e; arrived = false }

first-place : (n e : ℕ) (places : List Place) → 0 < n → places ≡ replicate n (rest_at e) → (place_at places 0).epoch ≡ e
first-place n e places some are =
    ap (λ ps. (place_at ps 0).epoch) are ∙ ap (λ (p : Place). p.epoch) (get_or-replicate n 0 (rest_at e) _ some)

module _ (plan : Plan) (base : Stand) (every until : ℕ) (cells : List Cell) (pairs : List PairWheels) (slots : List Duo) (fits : StandFits plan base)
    (short : until ≤ last_epoch) (some : 0 < slots_of plan) (are : duos_in cells ≡ slots) (keeps : KeepsCells plan (start_of plan base) every until until cells pairs) where
  abbrev ended : Stand
  ended = record { epoch = until; slots = slots; pairs = pairs }

  abbrev bank : BankView
  bank = record { plan = plan; base = base; every = every; until = until }

  count : length slots ≡ slots_of plan
  count = ap length (sym are) ∙ duos-long cells ∙ keeps.count

  state : (b : ℕ) → b < 64 → part plan.size b ended ≡ serial plan (start_of plan base b) until
  state b small = sym (part-of-cells plan.size b until cells slots pairs are) ∙ keeps.state b small

  ended-fits : StandFits plan ended
  ended-fits = record {
    epoch = omega (arith, short);
    slots = count;
    each_slot = subst (All (FitsDuo plan.size)) are (All-map (FitsDuo plan.size) (λ (x : Cell). x.duo) cells keeps.fits);
    pairs = keeps.pairs_count;
    each_pair = keeps.wheels;
    labels = λ b small.
        subst (PermutesLabels plan) (sym (state b small))
        (serial-permutes plan (start_of plan base b) until (start-paired plan base b fits.pairs) (fits.labels b small));
  }

  pub is-end : (places : List Place) (pending : List Record) → places ≡ replicate (slots_of plan) (rest_at until) → pending ≡ []
      → IsEnd bank (record { places = places; slots = slots; pairs = pairs; pending = pending })
  is-end places pending rest none =
      let s : RaggedStand = record { places = places; slots = slots; pairs = pairs; pending = pending } in
      let flat : flattened s ≡ ended =
      ap (λ (n : ℕ). let x : Stand = record { epoch = n; slots = slots; pairs = pairs } in x) (first-place (slots_of plan) until places some rest) in
      let made : s ≡ level_stand ended =
      ap₂ (λ (ps : List Place) (rs : List Record). let x : RaggedStand = record { places = ps; slots = slots; pairs = pairs; pending = rs } in x)
      (rest ∙ ap (λ n. replicate n (rest_at until)) (sym count)) none in
      record {
        level = made ∙ ap level_stand (sym flat);
        fits = subst (StandFits plan) (sym flat) ended-fits;
        epoch = ap (λ (x : Stand). x.epoch) flat;
        states = λ b small. ap (part plan.size b) flat ∙ state b small;
      }

  pub holds-slots : (sums : List SumsView) → sums ≡ sums_in cells → HoldsSlots bank sums
  holds-slots sums have =
      let g = λ (x : Cell). x.sums in
      let long : length sums ≡ length cells = ap length have ∙ length-map cells g in
      record {
        count = long ∙ keeps.count;
        each = λ t h.
            let own : t < length cells = omega (arith, h, keeps.count) in
            let same : (get_or cells t no_cell).sums ≡ get_or sums t no_bins = sym (get_or-map g cells t no_cell no_bins own) ∙ ap (λ xs. get_or xs t no_bins) (sym have) in
            let bins = All-get_or (λ (x : Cell). HaveBins (start_of plan base 0).epoch until x.sums) cells t no_cell own keeps.bins in
            subst (λ (x : SumsView). HoldsSums bank t x) same
            (record { bins = subst (λ e. HaveBins e until (get_or cells t no_cell).sums) (start-epoch plan base 0) bins; have = keeps.sums t no_cell own });
      }
