-- Two half sweeps of the glass are a sweep of each sample.
use Rattle.std.proofs.Common.{◌≡◌, ℕ, List, [], ap, ◌∙◌}
use Rattle.spin_model.specs.Steps.{table}
use Rattle.spin_model.proofs.Tables.{get_or-table, table-same}
use Rattle.potts_glass.specs.Potts.{half_sweep}
use Rattle.potts_glass.specs.PottsStates.{PottsView, dynamics_of, state_of, half_swept, state_swept, words_swept, swept}
use Rattle.potts_glass.proofs.potts.Potts.sweep.Goals as goal

halves : (thresholds : List ℕ) (potts : PottsView) → half_swept thresholds 1 (half_swept thresholds 0 potts) ≡ swept thresholds potts
halves thresholds potts =
    let d = dynamics_of potts.couplings thresholds in
    let first = half_swept thresholds 0 potts in
    let colours = λ (b : ℕ). (half_sweep (d b) 0 (record { colours = state_of potts b; words = potts.words })).colours in
    let states : table (λ b. (half_sweep (d b) 1 (record { colours = state_of first b; words = first.words })).colours) 64 ≡ table (state_swept thresholds potts) 64 =
    table-same _ _ 64 (λ b h. ap (λ (xs : List ℕ). (half_sweep (d b) 1 (record { colours = xs; words = first.words })).colours) (get_or-table colours 64 b [] h)) in
    ap (λ (s : List (List ℕ)). record { couplings = potts.couplings; states = s; words = words_swept potts.couplings.size potts.words }) states

pub returns : goal.returns
returns c = c.half_sweep-2.ensures ∙ ap (half_swept c.args.row.now.values 1) c.half_sweep.ensures ∙ halves c.args.row.now.values c.args.self.now
