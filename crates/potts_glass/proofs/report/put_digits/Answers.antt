-- The bytes that are told are the digits of the colours.
use Rattle.std.proofs.Common.{rules, arith, ◌≡◌, ℕ, ◌<◌, List, get_or, sym, ◌∙◌}
use Rattle.glass_edges.specs.Contents.{TellsBytes}
use Rattle.spin_model.specs.Lattice.{volume}
use Rattle.spin_model.proofs.Tables.{length-table, get_or-table}
use Rattle.potts_glass.specs.PottsStates.{state_of}
use Rattle.potts_glass.specs.PottsText.{colour_digit, colour_digits}
use Rattle.potts_glass.proofs.report.put_digits.Goals as goal

tells-digits : (gives : ℕ → ℕ → Type 0) (l count : ℕ) (colours : List ℕ) → count ≡ volume l
    → ((k byte : ℕ) → k < count → gives k byte → byte ≡ colour_digit (get_or colours k 0)) → TellsBytes gives count (colour_digits l colours)
tells-digits gives l count colours same each =
    let digit = λ (k : ℕ). colour_digit (get_or colours k 0) in
    record {
      sized = length-table digit (volume l) ∙ sym same;
      each = λ k byte below given. each k byte below given ∙ sym (get_or-table digit (volume l) k 0 (omega (arith, same, below)));
    }

pub returns : goal.returns
returns g c = c.extend_by.ensures.written _ (tells-digits _ c.args.potts.now.couplings.size c.sites.result (state_of c.args.potts.now c.args.sample) c.sites.ensures.value (λ k byte below given. search rules))
