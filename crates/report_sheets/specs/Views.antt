-- What contracts see of a sheet.
use Rattle.std.specs.Prelude.{ℕ, Bool, List}

-- the text that it took, how often it failed as an output, the epochs from which to which it was filled, and whether all rows fitted then, and nothing
-- was put since
pub record SheetView : Type 0 where
  pub text : List ℕ
  pub faults : ℕ
  pub from : ℕ
  pub to : ℕ
  pub whole : Bool
