-- The words of `potts`.
use Rattle.std.specs.Prelude.{ℕ, ◌^◌, ◌-◌, ◌==◌, if◌then◌else◌, List, length, codes, Option, Some, None}
use Rattle.std.specs.Str.{bytes_eq}
use Rattle.spin_model.specs.Limits.{certain, most_sweeps}
use Rattle.potts_glass.specs.declared.start.PottsStart.{PottsStart}
use Rattle.potts_glass.specs.declared.start.PottsStart.TheVariants as starts
use Rattle.command_words.specs.Words.{given, word_at, size_word, number_word, number_words}
use Rattle.command_words.specs.declared.potts_words.PottsCouplings.{PottsCouplings}
use Rattle.command_words.specs.declared.potts_words.PottsCouplings.TheVariants as couplings

-- a run of the Potts glass: the side of the lattice, the number of sweeps, the seed, how many samples are printed, the couplings,
-- the colours at the start, and the thresholds of the changes that cost the energies 1 to 6
pub record PottsOrder : Type 0 where
  pub size : ℕ
  pub sweeps : ℕ
  pub seed : ℕ
  pub samples : ℕ
  pub couplings : PottsCouplings
  pub start : PottsStart
  pub thresholds : List ℕ

-- `plus` or `random`
abbrev pub couplings_word : List ℕ → Option PottsCouplings
couplings_word word =
    if bytes_eq word (codes "plus") then Some couplings.Plus
    else if bytes_eq word (codes "random") then Some couplings.Random
    else None

-- `zero` or `random`
abbrev pub start_word : List ℕ → Option PottsStart
start_word word =
    if bytes_eq word (codes "zero") then Some starts.Zero
    else if bytes_eq word (codes "random") then Some starts.Random
    else None

-- `potts SIZE SWEEPS SEED SAMPLES COUPLINGS START T1 T2 T3 T4 T5 T6`, 1 to 64 samples
unfoldable pub potts_order : List (List ℕ) → Option PottsOrder
potts_order words =
    if length words == 13 then
    given (size_word (word_at words 1)) (λ size.
    given (number_word 0 most_sweeps (word_at words 2)) (λ sweeps.
    given (number_word 0 (2 ^ 63 - 1) (word_at words 3)) (λ seed.
    given (number_word 1 64 (word_at words 4)) (λ samples.
    given (couplings_word (word_at words 5)) (λ couplings.
    given (start_word (word_at words 6)) (λ start.
    given (number_words 0 certain words 7 6) (λ thresholds.
    Some (record { size = size; sweeps = sweeps; seed = seed; samples = samples; couplings = couplings; start = start; thresholds = thresholds }))))))))
    else None
