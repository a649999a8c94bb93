-- A bank an epoch on: in each sample its state is the serial dynamics', and its sums have the epoch.
use Rattle.std.specs.Prelude.{All}
use Rattle.std.proofs.Common.{◌≡◌, ℕ, suc, ◌+◌, ◌-◌, ◌%◌, ◌<◌, ◌≤◌, true, List, [], length, get_or, ap, ap₂, refl, sym, subst, ◌∙◌, arith}
use Rattle.std.proofs.lemmas.Bool.{eq-eqb}
use Rattle.std.proofs.lemmas.List.{get_or-map}
use Rattle.std.proofs.lemmas.List.Elements.{All-get_or, All-from_get_or}
use Rattle.spin_model.specs.Limits.{last_epoch}
use Rattle.spin_model.specs.Steps.{steps, table, count_below}
use Rattle.spin_model.specs.Words.{one_if}
use Rattle.spin_model.proofs.Tables.{length-table, table-of_items, count_below-more}
use Rattle.scalar_rule.specs.Plan.{Plan, slots_of, pairs_of}
use Rattle.scalar_rule.specs.Epoch.{epoch, exchanged, swept_slot, swept_slots, slot_at}
use Rattle.scalar_rule.specs.Serial.{serial}
use Rattle.scalar_rule.specs.declared.sample.PlainSlot.{PlainSlot}
use Rattle.scalar_rule.specs.declared.sample.PlainPair.{PlainPair}
use Rattle.scalar_rule.specs.declared.sample.Sample.{Sample}
use Rattle.plane_sweep.specs.Packed.{part, part_slot, FitsDuo}
use Rattle.plane_sweep.specs.declared.stand.PairWheels.{PairWheels}
use Rattle.plane_sweep.specs.declared.stand.Stand.{Stand}
use Rattle.measured_sums.specs.EpochBins.{bin_of}
use Rattle.measured_sums.specs.MeasuredSums.{observed, observed_in, is_measured}
use Rattle.measured_sums.specs.RunningSums.{behind_epoch, sums_below}
use Rattle.measured_sums.proofs.BinRange.{bins-between}
use Rattle.measured_sums.proofs.Growth.{sums-grow}
use Rattle.plane_sums.specs.Slots.{HaveSums}
use Rattle.plane_sums.proofs.SlotGrowth.{runs-have-room}
use Rattle.measured_run.specs.Banks.{start_of}
use Rattle.measured_run.specs.Cells.{slots_in, pairs_in, sums_in, CanSweep, IsSweptCell, AreSwept, RunsEpoch}
use Rattle.measured_run.specs.Keeps.{sample_in, HaveBins, KeepsCells}
use Rattle.measured_run.specs.declared.cell.Cell.{Cell}
use Rattle.measured_run.proofs.Pairs.{slots-long, pairs-long, same-count}

-- ---- bins

counted-last : (test : ℕ → _) (n m : ℕ) → m ≡ n + 1 → test n ≡ true → 0 < count_below test m
counted-last test n m same holds =
    let more = count_below-more test n in
    let one : one_if (test n) ≡ 1 = ap one_if holds in
    let all = ap (count_below test) same in
    omega (arith, more, one, all)

pub bins-rise : (f g : ℕ) → f ≤ g → bin_of f ≤ bin_of g
bins-rise f g h =
    let place : f + (g - f) ≡ g = omega arith in
    let own : is_measured 1 (bin_of g) g ≡ true = rw (eq-eqb (bin_of g) (bin_of g) refl, eq-eqb (g % 1) (1 - 1) (omega arith)) refl in
    let here : is_measured 1 (bin_of g) (f + (g - f)) ≡ true = ap (is_measured 1 (bin_of g)) place ∙ own in
    (bins-between 1 (bin_of g) f (g + 1) (counted-last (λ j. is_measured 1 (bin_of g) (f + j)) (g - f) (g + 1 - f) (omega arith) here)).0

-- ---- before the sweeps

pub start-epoch : (plan : Plan) (base : Stand) (b : ℕ) → (start_of plan base b).epoch ≡ base.epoch
unfolding part
start-epoch plan base b = refl

-- a slot that isn't there
abbrev pub no_cell : Cell
no_cell = record {
  duo = record { first = record { planes = []; labels = [] }; second = record { planes = []; labels = [] } };
  sums = record { first = 0; bins = [] };
  totals = record { first = record { words = [] }; second = record { words = [] } };
}

pub can-sweep : (plan : Plan) (start : ℕ → Sample) (every until e : ℕ) (cells : List Cell) (pairs : List PairWheels) → KeepsCells plan start every until e cells pairs
    → (start 0).epoch ≤ e → e < until → until ≤ last_epoch → All (CanSweep plan e) cells
can-sweep plan start every until e cells pairs keeps from to most =
    All-from_get_or (CanSweep plan e) cells no_cell
    (λ t h.
    let cell = get_or cells t no_cell in
    let bins = All-get_or (λ (x : Cell). HaveBins (start 0).epoch until x.sums) cells t no_cell h keeps.bins in
    let least = bins-rise (start 0).epoch e from in
    let last = bins-rise e (until - 1) (omega arith) in
    let above : cell.sums.first ≤ bin_of e = omega (arith, bins.first, least) in
    let below : bin_of e < cell.sums.first + length cell.sums.bins = omega (arith, bins.first, bins.bins, least, last) in
    record {
      fits = All-get_or (λ (x : Cell). FitsDuo plan.size x.duo) cells t no_cell h keeps.fits;
      from = above;
      to = below;
      few = runs-have-room plan start every t e (bin_of e) cell.sums (omega (arith, to, most)) above below (keeps.sums t no_cell h);
    })

-- ---- behind the epoch

steps-more : (plan : Plan) (c n m : ℕ) (s : Sample) → m ≡ suc n → steps (λ _ t. epoch plan t) c m s ≡ epoch plan (steps (λ _ t. epoch plan t) c n s)
unfolding steps
steps-more plan c n m s same = ap (λ k. steps (λ _ t. epoch plan t) c k s) same

serial-more : (plan : Plan) (s : Sample) (e : ℕ) → s.epoch ≤ e → serial plan s (e + 1) ≡ epoch plan (serial plan s e)
serial-more plan s e from = steps-more plan s.epoch (e - s.epoch) (e + 1 - s.epoch) s (omega arith)

-- slot t of all
one-swept : (plan : Plan) (every e t : ℕ) (cells between : List Cell) (d : Cell) → t < length cells → AreSwept plan every e 0 cells between
    → IsSweptCell plan every e t (get_or cells t d) (get_or between t d)
one-swept plan every e t cells between d below swept =
    let place : 0 + t ≡ t = omega arith in
    subst (λ i. IsSweptCell plan every e i (get_or cells t d) (get_or between t d)) place (swept.each t d below)

-- in each sample the slots between the sweeps and the exchange are the rule's
slots-between : (plan : Plan) (every e b : ℕ) (cells between : List Cell) (pairs : List PairWheels) → b < 64 → length cells ≡ slots_of plan
    → AreSwept plan every e 0 cells between → slots_in plan.size b between ≡ swept_slots plan (sample_in plan.size b e cells pairs)
slots-between plan every e b cells between pairs small count swept =
    let l = plan.size in
    let f = λ (cell : Cell). part_slot l b cell.duo in
    table-of_items (λ t. swept_slot plan b t (slot_at (slots_in l b cells) t)) (slots_of plan) (f no_cell) (slots_in l b between)
    (slots-long l b between ∙ swept.sized ∙ count)
    (λ t h.
    let own : t < length cells = omega (arith, count, h) in
    let before : slot_at (slots_in l b cells) t ≡ f (get_or cells t no_cell) = get_or-map f cells t no_cell _ own in
    get_or-map f between t no_cell (f no_cell) (omega (arith, own, swept.sized)) ∙ (one-swept plan every e t cells between no_cell own swept).swept b small
    ∙ ap (swept_slot plan b t) (sym before))

state-next : (plan : Plan) (start : ℕ → Sample) (every until e b : ℕ) (cells after : List Cell) (pairs pairs_after : List PairWheels) → b < 64
    → (start b).epoch ≤ e → KeepsCells plan start every until e cells pairs → RunsEpoch plan every e pairs pairs_after cells after
    → sample_in plan.size b (e + 1) after pairs_after ≡ serial plan (start b) (e + 1)
state-next plan start every until e b cells after pairs pairs_after small from keeps runs =
    let l = plan.size in
    let n = slots_of plan in
    let between = slots-between plan every e b cells runs.between pairs small keeps.count runs.swept in
    let slots = runs.exchanged.slots b small ∙ ap (λ xs. table (exchanged plan b e (pairs_in pairs) xs) n) between in
    ap₂ (λ (xs : List PlainSlot) (ps : List PlainPair). let s : Sample = record { bit = b; epoch = e + 1; slots = xs; pairs = ps } in s) slots runs.exchanged.wheels
    ∙ ap (epoch plan) (keeps.state b small) ∙ sym (serial-more plan (start b) e from)

-- what is observed there is what the slots between show
seen-between : (plan : Plan) (start : ℕ → Sample) (every until e b t : ℕ) (cells between : List Cell) (pairs : List PairWheels) → b < 64 → t < length cells
    → KeepsCells plan start every until e cells pairs → AreSwept plan every e 0 cells between
    → observed plan (serial plan (start b) e) t ≡ observed_in plan b (part_slot plan.size b (get_or between t no_cell).duo)
seen-between plan start every until e b t cells between pairs small below keeps swept =
    let l = plan.size in
    let f = λ (cell : Cell). part_slot l b cell.duo in
    let before : slot_at (slots_in l b cells) t ≡ f (get_or cells t no_cell) = get_or-map f cells t no_cell _ below in
    ap (λ s. observed plan s t) (sym (keeps.state b small))
    ∙ ap (observed_in plan b) (ap (swept_slot plan b t) before ∙ sym ((one-swept plan every e t cells between no_cell below swept).swept b small))

sums-next : (plan : Plan) (start : ℕ → Sample) (every until e t : ℕ) (cells between : List Cell) (pairs : List PairWheels) → t < length cells
    → ((b : ℕ) → b < 64 → (start b).epoch ≤ e) → KeepsCells plan start every until e cells pairs → AreSwept plan every e 0 cells between
    → HaveSums plan.size (λ b. sums_below plan (start b) every t (e + 1)) (get_or between t no_cell).sums
sums-next plan start every until e t cells between pairs below from keeps swept b k quantity small least most has =
    let have = (one-swept plan every e t cells between no_cell below swept).sums (λ b. sums_below plan (start b) every t e) (keeps.sums t no_cell below) b k quantity small least most has in
    let seen = seen-between plan start every until e b t cells between pairs small below keeps swept in
    have ∙ ap (λ o. behind_epoch every plan.size e o (sums_below plan (start b) every t e) k quantity) (sym seen)
    ∙ sym (sums-grow plan (start b) every t e k quantity (from b small))

-- the sums of a slot are those between, whatever stands where there is none
same-sums : (cells between : List Cell) (t : ℕ) (d e : Cell) → t < length cells → sums_in cells ≡ sums_in between → (get_or cells t d).sums ≡ (get_or between t e).sums
same-sums cells between t d e below same =
    let g = λ (cell : Cell). cell.sums in
    let long = same-count cells between same in
    sym (get_or-map g cells t d (g e) below) ∙ ap (λ xs. get_or xs t (g e)) same ∙ get_or-map g between t e (g e) (omega (arith, below, long))

pub keeps-next : (plan : Plan) (start : ℕ → Sample) (every until e : ℕ) (cells after : List Cell) (pairs pairs_after : List PairWheels)
    → ((b : ℕ) → b < 64 → (start b).epoch ≤ e) → KeepsCells plan start every until e cells pairs → RunsEpoch plan every e pairs pairs_after cells after
    → KeepsCells plan start every until (e + 1) after pairs_after
keeps-next plan start every until e cells after pairs pairs_after from keeps runs =
    let between = runs.between in
    let same = runs.exchanged.sums in
    let long : length after ≡ length cells = same-count after between same ∙ runs.swept.sized in
    record {
      state = λ b small. state-next plan start every until e b cells after pairs pairs_after small (from b small) keeps runs;
      fits = runs.exchanged.fits;
      wheels = runs.exchanged.wheels_fit;
      count = long ∙ keeps.count;
      pairs_count = sym (pairs-long pairs_after) ∙ ap length runs.exchanged.wheels ∙ length-table _ (pairs_of plan);
      sums = λ t d h.
          let own : t < length cells = omega (arith, h, long) in
          subst (HaveSums plan.size (λ b. sums_below plan (start b) every t (e + 1))) (sym (same-sums after between t d no_cell h same))
          (sums-next plan start every until e t cells between pairs own from keeps runs.swept);
      bins = All-from_get_or (λ (x : Cell). HaveBins (start 0).epoch until x.sums) after no_cell
          (λ t h.
          let own : t < length cells = omega (arith, h, long) in
          let was = All-get_or (λ (x : Cell). HaveBins (start 0).epoch until x.sums) cells t no_cell own keeps.bins in
          let swept = runs.swept.each t no_cell own in
          subst (HaveBins (start 0).epoch until) (sym (same-sums after between t no_cell no_cell h same))
          (record { first = swept.first ∙ was.first; bins = swept.bins ∙ was.bins }));
    }
