-- What holds of the encodings under a plan.
use Rattle.std.specs.Prelude.{◌≡◌, ℕ, ◌<◌, List, [], ◌∷◌}
use Rattle.scalar_rule.specs.Plan.{Plan}
use Rattle.scalar_rule.specs.Ragged.{UnevenState}
use Rattle.scalar_rule.specs.declared.sample.Record.{Record}
use Rattle.scalar_rule.specs.declared.sample.Sample.{Sample}
use Rattle.run_checkpoint.specs.BankEncoding.{banks_encoding, AreBanks}
use Rattle.run_checkpoint.specs.Encoding.{encoding, AreBankStates, uneven_encoding, AreUnevenStates}

-- states of 64 samples that have one encoding are the same
abbrev pub EncodingIsOne : Plan → Type 0
EncodingIsOne plan = (s t : ℕ → Sample) → AreBankStates plan s → AreBankStates plan t → encoding plan s ≡ encoding plan t → (b : ℕ) → b < 64 → s b ≡ t b

-- so are states whose slots may be at different epochs, and the records that are kept ahead
abbrev pub UnevenEncodingIsOne : Plan → Type 0
UnevenEncodingIsOne plan = (samples every : ℕ) (s t : ℕ → UnevenState) (kept other : List Record)
    → AreUnevenStates plan samples every s kept → AreUnevenStates plan samples every t other
    → uneven_encoding plan samples every s kept ≡ uneven_encoding plan samples every t other
    → ((b : ℕ) → b < 64 → s b ≡ t b) × (kept ≡ other)

-- states of so many banks agree in the 64 samples of each
unfoldable pub AreSameBanks : List (ℕ → Sample) → List (ℕ → Sample) → Type 0
AreSameBanks [] [] = Unit {0}
AreSameBanks (s ∷ more) (t ∷ others) = ((b : ℕ) → b < 64 → s b ≡ t b) × AreSameBanks more others
AreSameBanks _ _ = ⊥

-- so are states of banks, which may be at one epoch or at another
abbrev pub BanksEncodingIsOne : List Plan → Type 0
BanksEncodingIsOne plans = (epoch later : ℕ) (s t : List (ℕ → Sample)) → AreBanks epoch plans s → AreBanks later plans t
    → banks_encoding plans s ≡ banks_encoding plans t → AreSameBanks s t
