-- The report of a run is a lawful report.
use Rattle.std.proofs.Common.{arith, ◌≡◌, ℕ, ◌+◌, ◌-◌, ◌*◌, ◌<◌, ◌≤◌, inl, Bool, true, false, cond, List, [], ◌∷◌, ◌++◌, map, length, refl, sym, ap, subst, ◌∙◌, flat_map, append-nil, append_assoc, unsigned_abs, pos, ◌-ℤ◌, if◌then◌else◌}
use Rattle.std.proofs.lemmas.Int.{ints}
use Rattle.std.proofs.lemmas.List.{length-map}
use Rattle.std.specs.List.{concat}
use Rattle.spin_model.specs.Lattice.{volume, bond_count}
use Rattle.spin_model.specs.Couplings.{Bonds}
use Rattle.spin_model.specs.Steps.{table}
use Rattle.spin_model.proofs.Tables.{length-table, get_or-table}
use Rattle.coupling_set.specs.CouplingWords.{bonds_of}
use Rattle.threshold_table.specs.declared.rule_table.RuleKind.{RuleKind}
use Rattle.threshold_table.specs.declared.rule_table.RuleKind.TheVariants as kinds
use Rattle.scalar_rule.specs.Epoch.{slot_at, swept_slot, swept_slots, record_of, epoch_records}
use Rattle.scalar_rule.specs.Opening.{opening, opening_pair}
use Rattle.scalar_rule.specs.Plan.{Plan, IsLawfulPlan, slots_of, pairs_of}
use Rattle.scalar_rule.specs.Records.{is_recorded, measured_from, record_at}
use Rattle.scalar_rule.specs.Serial.{serial}
use Rattle.scalar_rule.specs.Sums.{is_unsatisfied, energy, overlap}
use Rattle.scalar_rule.specs.Neighbours.{agree, spin}
use Rattle.spin_model.proofs.Counts.{count-most}
use Rattle.scalar_rule.specs.declared.sample.PlainSlot.{PlainSlot}
use Rattle.scalar_rule.specs.declared.sample.Record.{Record}
use Rattle.scalar_rule.specs.declared.sample.Sample.{Sample}
use Rattle.scalar_rule.specs.declared.sample.Start.{Start}
use Rattle.plane_sweep.specs.Packed.{part, part_pair, PermutesLabels}
use Rattle.plane_sweep.proofs.BeginningStates.{opening-labels}
use Rattle.plane_sweep.proofs.LabelEpochs.{serial-permutes}
use Rattle.report_text.specs.Lines as text
use Rattle.run_checkpoint.specs.Encoding.{AreBankStates}
use Rattle.glass_engine.specs.Report.{sample_rows, epoch_rows, rows_in_order, all_spins}
use Rattle.sample_average.specs.declared.header.Header.{Header}
use Rattle.sample_average.specs.declared.header.Rule.{Rule}
use Rattle.sample_average.specs.declared.header.Rule.TheVariants as rules_of
use Rattle.sample_average.specs.declared.row.Row.{Row}
use Rattle.sample_average.specs.LawfulReport.{IsInRange, IsLawfulHeader, Report, AreSpins, header_line, row_line, end_line, rule_text, spin_lines, report_lines, rows_of}
use Rattle.run_laws.specs.LawfulRuns.{IsLawfulText, IsWithin}
use Rattle.run_laws.proofs.ReportRows.{group_rows, group-is, groups_of, groups-are, groups-text, joined-text, concat-map, concat-append}
use Rattle.run_laws.proofs.ReportSpins.{spin_list, slot_text, spins-text, spins-are}

-- ---- the same lines

abbrev pub rule_as : RuleKind → Rule
rule_as kinds.Heat = rules_of.Heat
rule_as kinds.Metropolis = rules_of.Metropolis

abbrev pub header_as : Plan → ℕ → ℕ → ℕ → Header
header_as plan samples from to = record { size = plan.size; slots = slots_of plan; samples = samples; rule = rule_as plan.rules.kind; from = from; to = to }

abbrev pub row_as : ℕ → ℕ → ℕ → Record → Row
row_as epoch b t r = record {
  epoch = epoch;
  sample = b;
  slot = t;
  first_energy = r.first_energy;
  second_energy = r.second_energy;
  overlap = r.overlap;
  first_replica = r.first_replica;
  second_replica = r.second_replica;
}

kind-text : (kind : RuleKind) → text.kind_text kind ≡ rule_text (rule_as kind)
kind-text kinds.Heat = refl
kind-text kinds.Metropolis = refl

header-text : (plan : Plan) (samples from to : ℕ) → text.header_line plan samples from to ≡ header_line (header_as plan samples from to)
unfolding text.header_line header_line
header-text plan samples from to = rw (kind-text plan.rules.kind) refl

row-text : (epoch b t : ℕ) (r : Record) → row_line (row_as epoch b t r) ≡ text.row_line epoch b t r
unfolding text.row_line row_line
row-text epoch b t r = refl

end-text : (epoch : ℕ) → text.end_line epoch ≡ end_line epoch
unfolding text.end_line end_line
end-text epoch = refl

-- ---- a report over any records and contents

-- a record for each slot, within the ranges
pub record IsMeasured (plan : Plan) (records : List Record) : Type 0 where
  pub sized : length records ≡ slots_of plan
  pub range : (t : ℕ) → t < slots_of plan → IsWithin plan (record_at records t)

-- those of each sample at each epoch
abbrev pub AreMeasured : Plan → ℕ → (ℕ → ℕ → List Record) → Type 0
AreMeasured plan samples measured = (b f : ℕ) → b < samples → IsMeasured plan (measured b f)

-- the ranges of a report are those of its plan
in-range : (plan : Plan) (samples from to f b t : ℕ) (r : Record) → IsWithin plan r → IsInRange (header_as plan samples from to) (row_as f b t r)
in-range plan samples from to f b t r w = record {
  first_energy = w.first_energy;
  second_energy = w.second_energy;
  overlap = w.overlap;
  first_replica = w.first_replica;
  second_replica = w.second_replica;
}

rows-text : (plan : Plan) (samples : ℕ) (measured : ℕ → ℕ → List Record) → AreMeasured plan samples measured
    → (f : ℕ) → flat_map row_line (group_rows (λ b t. row_as f b t (record_at (measured b f) t)) samples (slots_of plan)) ≡ epoch_rows measured samples f
rows-text plan samples measured are f =
    joined-text row_line (λ b. flat_map (λ t. row_as f b t (record_at (measured b f) t) ∷ []) (table (λ t. t) (slots_of plan))) (λ b. sample_rows f b (measured b f)) samples (λ b less.
    joined-text row_line (λ t. row_as f b t (record_at (measured b f) t) ∷ []) (λ t. text.row_line f b t (record_at (measured b f) t)) (slots_of plan)
    (λ t below. append-nil (row_line (row_as f b t (record_at (measured b f) t))) ∙ row-text f b t (record_at (measured b f) t))
    ∙ ap (λ n. flat_map (λ t. text.row_line f b t (record_at (measured b f) t)) (table (λ t. t) n)) (sym (are b f less).sized))

spins-chosen : (h : Header) (first second : ℕ → ℕ → List Bool) (with : Bool) → AreSpins h (cond with (spin_list h first second) [])
spins-chosen h first second true = spins-are h first second
spins-chosen h first second false = inl refl

chosen-text : (h : Header) (first second : ℕ → ℕ → List Bool) (with : Bool)
    → cond with (flat_map (λ b. flat_map (slot_text h first second b) (table (λ t. t) h.slots)) (table (λ b. b) h.samples)) [] ≡ concat (spin_lines h 0 (cond with (spin_list h first second) []))
chosen-text h first second true = sym (spins-text h first second)
chosen-text h first second false = refl

header-lawful : (plan : Plan) (samples from to : ℕ) → IsLawfulPlan plan → 1 ≤ samples → samples ≤ 256 → from ≤ to → to ≤ 1000000000 → IsLawfulHeader (header_as plan samples from to)
header-lawful plan samples from to lawful some few rising until = record {
  even = lawful.size.2;
  least = lawful.size.0;
  most = lawful.size.1;
  some_slots = lawful.rules.some;
  few_slots = lawful.rules.few;
  some_samples = some;
  few_samples = few;
  rising = rising;
  until = until;
}

four-parts : (a b c d : List ℕ) → a ++ (b ++ (c ++ d)) ≡ a ++ b ++ c ++ d
four-parts a b c d = sym (append_assoc a b (c ++ d)) ∙ sym (append_assoc (a ++ b) c d)

window-end : (from to : ℕ) → from ≤ to → from + (to - from) ≤ to
window-end from to rising = omega (arith, rising)

pub composed : (plan : Plan) (samples every from to : ℕ) (measured : ℕ → ℕ → List Record) (contents : ℕ → List PlainSlot) (with : Bool) → IsLawfulPlan plan → 1 ≤ samples → samples ≤ 256 → from ≤ to → to ≤ 1000000000
    → AreMeasured plan samples measured
    → IsLawfulText (text.header_line plan samples from to ++ rows_in_order measured samples every from to ++ text.end_line to ++ (if with then all_spins plan samples contents else []))
composed plan samples every from to measured contents with lawful some few rising until are =
    let h : Header = header_as plan samples from to in
    let row : ℕ → ℕ → ℕ → Row = λ f b t. row_as f b t (record_at (measured b f) t) in
    let group : ℕ → List Row = λ f. group_rows (row f) samples (slots_of plan) in
    let groups : List (List Row) = groups_of group (is_recorded every) from (to - from) in
    let first : ℕ → ℕ → List Bool = λ b t. (slot_at (contents b) t).first.spins in
    let second : ℕ → ℕ → List Bool = λ b t. (slot_at (contents b) t).second.spins in
    let spins : List (List ℕ) = cond with (spin_list h first second) [] in
    let found : Report = record { header = h; groups = groups; spins = spins } in
    let in_groups = groups-are h group (is_recorded every) from from (to - from) (omega arith) (window-end from to rising) (λ f past below told.
    group-is h f (row f) (record {
      epoch = λ b t less under. refl;
      sample = λ b t less under. refl;
      slot = λ b t less under. refl;
      range = λ b t less under. in-range plan samples from to f b t (record_at (measured b f) t) ((are b f less).range t under);
    })) in
    let rows : concat (map row_line (rows_of found)) ≡ rows_in_order measured samples every from to =
    concat-map row_line (rows_of found) ∙ groups-text row_line group (is_recorded every) (epoch_rows measured samples) from (to - from) (rows-text plan samples measured are) in
    let last : concat (end_line to ∷ spin_lines h 0 spins) ≡ text.end_line to ++ (if with then all_spins plan samples contents else []) =
    ap (λ xs. xs ++ concat (spin_lines h 0 spins)) (sym (end-text to)) ∙ ap (λ xs. text.end_line to ++ xs) (sym (chosen-text h first second with)) in
    let whole : concat (report_lines found) ≡ text.header_line plan samples from to ++ rows_in_order measured samples every from to ++ text.end_line to ++ (if with then all_spins plan samples contents else []) =
    ap (λ xs. xs ++ concat (map row_line (rows_of found) ++ (end_line to ∷ spin_lines h 0 spins))) (sym (header-text plan samples from to))
    ∙ ap (λ xs. text.header_line plan samples from to ++ xs) (concat-append (map row_line (rows_of found)) (end_line to ∷ spin_lines h 0 spins)
    ∙ ap (λ xs. xs ++ concat (end_line to ∷ spin_lines h 0 spins)) rows ∙ ap (λ xs. rows_in_order measured samples every from to ++ xs) last)
    ∙ four-parts (text.header_line plan samples from to) (rows_in_order measured samples every from to) (text.end_line to) (if with then all_spins plan samples contents else []) in (
      found,
      record {
        lawful = record { header = header-lawful plan samples from to lawful some few rising until; groups = in_groups; spins = spins-chosen h first second with };
        text = sym whole;
      },
    )

-- ---- what is measured lies within the ranges

twice-less : (u n : ℕ) → u ≤ n → unsigned_abs (pos (2 * u) -ℤ pos n) ≤ n
twice-less u n few = omega (arith, ints, few)

energy-within : (l : ℕ) (bonds : Bonds) (spins : List Bool) → unsigned_abs (energy l bonds spins) ≤ 3 * volume l
energy-within l bonds spins = twice-less _ (bond_count l) (count-most (is_unsatisfied l bonds spins) (bond_count l))

overlap-within : (l : ℕ) (a b : List Bool) → unsigned_abs (overlap l a b) ≤ volume l
overlap-within l a b = twice-less _ (volume l) (count-most (λ i. agree (spin a i) (spin b i)) (volume l))

-- the record of a slot whose labels are slots' numbers
pub record-within : (plan : Plan) (bit : ℕ) (slot : PlainSlot) → slot.first.replica < slots_of plan → slot.second.replica < slots_of plan → IsWithin plan (record_of plan bit slot)
record-within plan bit slot one other = record {
  first_energy = energy-within plan.size (bonds_of plan.couplings bit) slot.first.spins;
  second_energy = energy-within plan.size (bonds_of plan.couplings bit) slot.second.spins;
  overlap = overlap-within plan.size slot.first.spins slot.second.spins;
  first_replica = one;
  second_replica = other;
}

pub swept-labels : (plan : Plan) (b t : ℕ) (slot : PlainSlot) → ((swept_slot plan b t slot).first.replica ≡ slot.first.replica) × ((swept_slot plan b t slot).second.replica ≡ slot.second.replica)
unfolding swept_slot
swept-labels plan b t slot = (refl, refl)

-- ---- a run from states at one epoch

-- those of 64 samples have the plan's pairs, and labels that permute
abbrev pub KeepLabels : Plan → (ℕ → Sample) → Type 0
KeepLabels plan start = (b : ℕ) → b < 64 → (length (start b).pairs ≡ pairs_of plan) × PermutesLabels plan (start b)

pub opening-kept : (plan : Plan) (start : Start) (bank : ℕ) → KeepLabels plan (opening plan start bank)
opening-kept plan start bank = λ b small. (length-table (opening_pair plan bank) (pairs_of plan), opening-labels plan start bank b)

pub stood-kept : (plan : Plan) (states : ℕ → Sample) → AreBankStates plan states → KeepLabels plan states
unfolding part
stood-kept plan states are = λ b small.
    subst (λ (s : Sample). (length s.pairs ≡ pairs_of plan) × PermutesLabels plan s) (are.stands b small)
    (length-map are.stand.pairs part_pair ∙ are.fits.pairs, are.fits.labels b small)

epoch-measured : (plan : Plan) (s : Sample) → PermutesLabels plan s → IsMeasured plan (epoch_records plan s)
epoch-measured plan s labels = record {
  sized = length-table (λ t. record_of plan s.bit (slot_at (swept_slots plan s) t)) (slots_of plan);
  range = λ t below.
      let n : ℕ = slots_of plan in
      let slot : PlainSlot = swept_slot plan s.bit t (slot_at s.slots t) in
      let at : slot_at (swept_slots plan s) t ≡ slot = get_or-table (λ k. swept_slot plan s.bit k (slot_at s.slots k)) n t _ below in
      let is : record_at (epoch_records plan s) t ≡ record_of plan s.bit slot = get_or-table (λ k. record_of plan s.bit (slot_at (swept_slots plan s) k)) n t _ below ∙ ap (record_of plan s.bit) at in
      let kept = swept-labels plan s.bit t (slot_at s.slots t) in
      subst (IsWithin plan) (sym is) (record-within plan s.bit slot
      (subst (λ q. q < n) (sym kept.0) (labels.first.below t below)) (subst (λ q. q < n) (sym kept.1) (labels.second.below t below)));
}

pub level-measured : (plan : Plan) (start : ℕ → Sample) (b f : ℕ) → b < 64 → KeepLabels plan start → IsMeasured plan (measured_from plan start b f)
level-measured plan start b f small keep =
    let kept = keep b small in
    epoch-measured plan (serial plan (start b) f) (serial-permutes plan (start b) f kept.0 kept.1)
