-- What `age` asks for, and the words that are its times.
use Rattle.std.specs.Prelude.{ℕ, zero, suc, ◌+◌, ◌-◌, Bool, true, ◌&&◌, nat_lt, if◌then◌else◌, List, length, slice_index, Option, Some, None}
use Rattle.spin_model.specs.Limits.{most_sweeps}
use Rattle.command_words.specs.Words.{given, number_words}

-- an aging run: the name of its run file, the waiting time, and the times behind it, in sweeps
pub record AgeOrder : Type 0 where
  pub run : List ℕ
  pub wait : ℕ
  pub times : List ℕ

-- each of the first numbers is below the one behind it
unfoldable pub rises_to : List ℕ → ℕ → Bool
rises_to times zero = true
rises_to times (suc n) = rises_to times n && nat_lt (slice_index times n) (slice_index times (n + 1))

abbrev pub rises : List ℕ → Bool
rises times = rises_to times (length times - 1)

-- numbers that rise
abbrev pub rising : List ℕ → Option (List ℕ)
rising times = if rises times then Some times else None

-- so many times from word 4 on, each up to a million
abbrev pub times_of : ℕ → List (List ℕ) → Option (List ℕ)
times_of count words = given (number_words 0 most_sweeps words 4 count) rising
