-- The first word is that of the heat bath, and otherwise it is that of the Metropolis rule.
use Rattle.std.proofs.Common.{◌≡◌, ℕ, Bool, true, false, List, take, drop, codes, refl, ap, ◌∙◌}
use Rattle.std.specs.Prelude.{Option, Some, None, bytes_eq, if◌then◌else◌}
use Rattle.sample_average.specs.LineReading.{◌>>=◌}
use Rattle.sample_average.specs.declared.header.Rule.{Rule}
use Rattle.sample_average.specs.declared.header.Rule.TheVariants as rules_of
use Rattle.sample_average.proofs.header_line.rule_at.Goals as goal

first_word : (is_heat : Bool) (rest behind : List ℕ) (other : Option (Rule × List ℕ)) → Some rest ≡ (if is_heat then Some behind else None)
    → Some (rules_of.Heat, rest) ≡ (if is_heat then Some (rules_of.Heat, behind) else other)
first_word true rest behind other read = cc
first_word false rest behind other read = absurd cc

other_word : (is_heat : Bool) (behind : List ℕ) (here other : Option (Rule × List ℕ)) → None ≡ (if is_heat then Some behind else None)
    → other ≡ (if is_heat then here else other)
other_word true behind here other read = absurd cc
other_word false behind here other read = refl

pub returns-in-Some : goal.returns-in-Some
returns-in-Some c = first_word (bytes_eq (take 5 c.args.bytes.now) (codes "heat ")) c.in-Some.rest.now (drop 5 c.args.bytes.now) _ c.in-Some.ensures

pub returns-in_err-rest : goal.returns-in_err-rest
returns-in_err-rest c =
    rw c.from_residual.ensures (ap (λ (o : Option (List ℕ)). o >>= (λ rest. Some (rules_of.Metropolis, rest))) c.in_err-rest.ensures
    ∙ other_word (bytes_eq (take 5 c.args.bytes.now) (codes "heat ")) (drop 5 c.args.bytes.now) (Some (rules_of.Heat, drop 5 c.args.bytes.now)) _ c.in_default.ensures)

pub returns : goal.returns
returns c =
    ap (λ (o : Option (List ℕ)). o >>= (λ rest. Some (rules_of.Metropolis, rest))) c.in_ok-rest.ensures
    ∙ other_word (bytes_eq (take 5 c.args.bytes.now) (codes "heat ")) (drop 5 c.args.bytes.now) (Some (rules_of.Heat, drop 5 c.args.bytes.now)) _ c.in_default.ensures
