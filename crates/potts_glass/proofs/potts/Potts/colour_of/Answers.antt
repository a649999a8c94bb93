-- The bits of the site's words are those of the sample's colour.
use Rattle.std.proofs.Common.{◌≡◌, ◌+◌, ◌*◌, [], get_or, refl, sym, ap, ◌∙◌, arith}
use Rattle.std.proofs.lemmas.List.{get_or_default}
use Rattle.std.specs.Int.{bit_at}
use Rattle.multispin_word.proofs.Bits.{one_if-is_set}
use Rattle.spin_model.specs.Words.{one_if}
use Rattle.spin_model.proofs.Tables.{get_or-table}
use Rattle.potts_glass.specs.PackedColours.{colour_in, colours_of}
use Rattle.potts_glass.specs.PottsStates.{state_of}
use Rattle.potts_glass.proofs.Sites.{colour-at}
use Rattle.potts_glass.proofs.potts.Potts.colour_of.Goals as goal

pub returns-clause-value : goal.returns-clause-value
returns-clause-value c =
    let b = c.args.sample in
    let i = c.args.site in
    let l = c.self.inside.couplings.size in
    let sites = c.self.inside.sites in
    let within = rw (← c.self.view_is) at c.requires.site in
    let low : c.worth.result ≡ bit_at (get_or c.at.result.now 0 0) b = c.worth.ensures.value ∙ ap one_if c.bit.ensures ∙ one_if-is_set _ b in
    let high : c.worth-2.result ≡ bit_at (get_or c.at.result.now 1 0) b = c.worth-2.ensures.value ∙ ap one_if c.bit-2.ensures ∙ one_if-is_set _ b in
    let site : c.at.result.now ≡ get_or sites i [] = c.at.ensures ∙ get_or_default sites i c.at.result.now [] (omega (arith, c.self.invariant.sites, within)) in
    let whole : c.worth.result + 2 * c.worth-2.result ≡ colour_in c.at.result.now b = rw (low, high) refl in
    whole ∙ ap (λ s. colour_in s b) site ∙ sym (colour-at l sites b i within)
    ∙ ap (λ xs. get_or xs i 0) (sym (get_or-table (colours_of l sites) 64 b [] c.requires.sample))
    ∙ ap (λ v. get_or (state_of v b) i 0) c.self.view_is
