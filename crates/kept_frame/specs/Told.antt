-- What is told of bytes that are refused, and what holds where their frame isn't.
use Rattle.std.specs.Prelude.{◌≡◌, ℕ, ◌≤◌, List, length}
use Rattle.quenched_states.specs.KeptBytes.{kept_length}
use Rattle.quenched_states.specs.KeptTests.{KeptRefusals, kept_count}
use Rattle.kept_frame.specs.declared.refused.KeptRefused.{KeptRefused}
use Rattle.kept_frame.specs.declared.refused.KeptRefused.TheVariants as refused

-- each cause with its words
abbrev pub told : KeptRefusals KeptRefused
told = record {
  short = refused.Short;
  states = refused.States;
  other_length = refused.Length;
  damaged = refused.Digest;
  other_time = refused.Times;
}

-- a number of states from 1 to the most, and the length that they have
pub record HasForm (level most : ℕ) (bytes : List ℕ) : Type 0 where
  pub some : 1 ≤ kept_count bytes
  pub few : kept_count bytes ≤ most
  pub long : length bytes ≡ kept_length (kept_count bytes) level
