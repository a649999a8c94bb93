-- On truth values: where both are set or neither.
use Rattle.std.proofs.Common.{◌≡◌, ◌-◌, ◌^◌, Bool, true, false, bit_xor, refl, ap, ◌∙◌}
use Rattle.multispin_word.specs.Planes.{is_set, differs}
use Rattle.multispin_word.proofs.Bits.{is_set-xor, is_set-ones}
use Rattle.scalar_rule.specs.Neighbours.{agree}
use Rattle.plane_sums.proofs.agreement.alike.Goals as goal

same : (own other : Bool) → differs (differs true own) other ≡ agree own other
same true true = refl
same true false = refl
same false true = refl
same false false = refl

pub returns : goal.returns
returns c = λ k h.
    is_set-xor (bit_xor (2 ^ 64 - 1) c.args.a) c.args.b k
    ∙ ap (λ t. differs t (is_set c.args.b k)) (is_set-xor (2 ^ 64 - 1) c.args.a k)
    ∙ rw (is_set-ones k h) (same (is_set c.args.a k) (is_set c.args.b k))
