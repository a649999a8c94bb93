use Rattle.std.proofs.Common.{◌≡◌, ◌∷◌, refl, ap, arith, length}
use Rattle.std.specs.Prelude.{option_map}
use Rattle.std.proofs.lemmas.List.{length-set}
use Rattle.std.proofs.lemmas.Result.{err_from_is_err_and}
use Rattle.threshold_table.specs.Pieces.{fields_left}
use Rattle.threshold_table.specs.TableText.{field_refusal, field_value}
use Rattle.glass_edges.proofs.FirstRefusals.{goes-on, ends, nothing}
use Rattle.threshold_table.proofs.Stored.{stored, kept}
use Rattle.threshold_table.proofs.fields.numbers.Goals as goal

pub returns-in_err-n-clause-refused : goal.returns-in_err-n-clause-refused
returns-in_err-n-clause-refused c =
    let cut : fields_left (option_map (λ x. x.now) c.fields.left) ≡ c.next_field.result.0.now ∷ fields_left (option_map (λ x. x.now) c.next_field.result.1) = rw c.in-Some.is c.next_field.ensures in
    let p = err_from_is_err_and c.from_residual.result c.from_residual.ensures.1 in
    rw (p.1, p.2) (ends (field_refusal c.args.at) c.fields.field _ _ _ _ _ cut c.in_err-n.ensures.refused c.fields.invariant.refused)

pub fields-preserved : goal.fields-preserved
fields-preserved c =
    let cut : fields_left (option_map (λ x. x.now) c.fields.left) ≡ c.next_field.result.0.now ∷ fields_left (option_map (λ x. x.now) c.next_field.result.1) = rw c.in-Some.is c.next_field.ensures in
    record {
      sized = rw length-set c.fields.invariant.sized;
      number = omega (arith, ap length cut);
      refused = goes-on (field_refusal c.args.at) c.fields.field _ _ _ _ cut c.in_ok-n.ensures.refused c.fields.invariant.refused;
      values = stored field_value c.fields.out c.fields.field c.in_ok-n.n _ _ _ _ (omega (arith, ap length cut)) cut c.in_ok-n.ensures.value c.fields.invariant.values;
      others = kept c.fields.out c.args.out.now c.fields.field c.in_ok-n.n c.fields.invariant.others;
    }

pub returns-clause-refused : goal.returns-clause-refused
returns-clause-refused c = nothing (field_refusal c.args.at) c.fields.field _ _ (rw c.in_default.is refl) c.fields.invariant.refused
