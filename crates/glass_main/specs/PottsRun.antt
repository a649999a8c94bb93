-- The run of a four-state Potts glass, and what `potts` prints of it.
use Rattle.std.specs.Prelude.{ℕ, List}
use Rattle.coupling_set.specs.BondsAsWords.{couplings_with}
use Rattle.coupling_set.specs.CouplingWords.{CouplingsView}
use Rattle.potts_glass.specs.PottsStates.{PottsView, opened, swept}
use Rattle.potts_glass.specs.PottsText.{potts_text}
use Rattle.spin_model.specs.Couplings.{plus, random}
use Rattle.spin_model.specs.Steps.{steps}
use Rattle.command_words.specs.PottsWords.{PottsOrder}
use Rattle.command_words.specs.declared.potts_words.PottsCouplings.{PottsCouplings}
use Rattle.command_words.specs.declared.potts_words.PottsCouplings.TheVariants.{Plus, Random}

-- the couplings of all samples: all +1, or those of the seed
unfoldable pub couplings_made : PottsCouplings → ℕ → ℕ → CouplingsView
couplings_made Plus size seed = couplings_with size plus
couplings_made Random size seed = couplings_with size (random seed)

-- the glass at the start
abbrev pub potts_opened : PottsOrder → PottsView
potts_opened order = opened (couplings_made order.couplings order.size order.seed) order.seed order.start

-- the glass after so many sweeps, each of which sweeps every sample by itself
abbrev pub potts_swept : List ℕ → ℕ → PottsView → PottsView
potts_swept thresholds sweeps potts = steps (λ k now. swept thresholds now) 0 sweeps potts

-- what `potts` prints: the energies and the colours of its first samples after all sweeps
abbrev pub potts_report : PottsOrder → List ℕ
potts_report order =
    potts_text (potts_swept order.thresholds order.sweeps (potts_opened order)) order.sweeps order.seed order.samples
