-- What is answered of a file that can't be opened.
use Rattle.std.specs.Prelude.{◌≡◌}
use Rattle.std.specs.declared.io.ErrorKind.{ErrorKind}
use Rattle.std.specs.declared.io.ErrorKind.TheVariants.{NotFound}
use Rattle.glass_edges.specs.declared.shelf.Fetched.{Fetched}
use Rattle.glass_edges.specs.declared.shelf.Fetched.TheVariants.{Absent, Failed}

-- what is answered of a file that the system can't open: it is absent where the system finds none of its name, and any
-- other kind of error is a fault
pub record IsUnopened (kind : ErrorKind) (fetched : Fetched) : Type 0 where
  pub absent : kind ≡ NotFound → fetched ≡ Absent
  pub failed : ¬ (kind ≡ NotFound) → fetched ≡ Failed
