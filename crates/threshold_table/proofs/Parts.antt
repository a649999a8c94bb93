-- The refusal of a part, handed on as the refusal of the whole.
use Rattle.std.proofs.Common.{◌≡◌, Option, Some, Result, Err, ◌∙◌, ap}
use Rattle.glass_edges.specs.Refusals.{Refuses, Gives, unless}
use Rattle.glass_edges.proofs.FirstRefusals.{gives-refused}

pub gives-refused_as : {A B E : Type 0} (Z : Type 0) (memory : E) (view : A → B) (r : Result A E) (e own : E) (part found : Option E) (x : B)
    → r ≡ Err e → e ≡ own → Refuses {A = Z} memory (Err own) part → (Some own ≡ part → Some own ≡ found) → Gives memory view r (unless found x)
gives-refused_as {E = E} Z memory view r e own part found x is same refused lift = gives-refused Z memory view r own part found x (is ∙ ap (λ (y : E). Err y) same) refused lift
