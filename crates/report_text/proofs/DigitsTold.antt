-- Bytes that are told one by one and are the digits of spins.
use Rattle.std.proofs.Common.{arith, ◌≡◌, ℕ, ◌*◌, ◌/◌, ◌<◌, Bool, List, sym, ◌∙◌}
use Rattle.glass_edges.specs.Contents.{TellsBytes}
use Rattle.scalar_rule.specs.SpinDigits.{four_spins, spin_digits}
use Rattle.spin_model.specs.Lattice.{volume}
use Rattle.spin_model.proofs.Tables.{length-table, get_or-table}

pub tells-digits : (gives : ℕ → ℕ → Type 0) (l count : ℕ) (spins : List Bool) → count ≡ volume l / 4
    → ((k byte : ℕ) → k < count → gives k byte → byte ≡ four_spins spins (4 * k)) → TellsBytes gives count (spin_digits l spins)
tells-digits gives l count spins same each =
    let digit = λ (k : ℕ). four_spins spins (4 * k) in
    record {
      sized = length-table digit (volume l / 4) ∙ sym same;
      each = λ k byte below given. each k byte below given ∙ sym (get_or-table digit (volume l / 4) k 0 (omega (arith, same, below)));
    }
