-- The epochs of the parts of a round, and the rows of three windows that follow each other.
use Rattle.std.proofs.Common.{arith, ◌≡◌, ℕ, ◌+◌, ◌*◌, ◌≤◌, false, List, ◌++◌, ap, sym, ◌∙◌}
use Rattle.std.proofs.lemmas.Bool.{false≢true}
use Rattle.std.specs.Prelude.{All}
use Rattle.std.proofs.Math.Nat.{mul-le-mul_left}
use Rattle.report_sheets.specs.Sheets.{start_of, HasItsRows}
use Rattle.report_sheets.specs.Views.{SheetView}
use Rattle.report_sheets.specs.declared.round.Round.{Round}

pub start-last : (r : Round) (k : ℕ) → start_of r k ≤ r.last
start-last r k = omega arith

pub start-from : (r : Round) (k : ℕ) → r.first ≤ r.last → r.first ≤ start_of r k
start-from r k window = omega arith

-- a later part begins no earlier
pub start-up : (r : Round) (k : ℕ) → start_of r k ≤ start_of r (k + 1)
start-up r k =
    let less : r.step * k ≤ r.step * (k + 1) = mul-le-mul_left r.step (omega arith) in
    omega arith

pub joined-three : (text : ℕ → ℕ → List ℕ) → ((a b c : ℕ) → a ≤ b → b ≤ c → text a c ≡ text a b ++ text b c)
    → (a b c d : ℕ) → a ≤ b → b ≤ c → c ≤ d → text a d ≡ (text a b ++ text b c) ++ text c d
joined-three text joined a b c d first second third =
    joined a c d (omega (arith, first, second)) third ∙ ap (λ xs. xs ++ text c d) (joined a b c first second)

-- sheets that give no text have their rows
pub forgotten : (text : ℕ → ℕ → List ℕ) (sheets : List SheetView) → All (λ (s : SheetView). s.whole ≡ false) sheets → All (HasItsRows text) sheets
forgotten text sheets none k d below whole = absurd (false≢true (sym (none k d below) ∙ whole))
