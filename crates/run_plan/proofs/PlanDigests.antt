-- The digests of the plans of several banks, one after the other.
use Rattle.std.proofs.Common.{◌≡◌, ℕ, ◌+◌, ◌<◌, List, [], ◌∷◌, ◌++◌, length, map, get_or, take, refl, sym, ap, ◌∙◌, subst, arith}
use Rattle.std.proofs.lemmas.List.{take_more, length-map, get_or-map, flat_map_more}
use Rattle.std.specs.List.{flat_map}
use Rattle.std.specs.Prelude.{codes}
use Rattle.byteorder.specs.Endian.{big_bytes}
use Rattle.sha2.specs.Sha256.{sha256}
use Rattle.scalar_rule.specs.Plan.{Plan}
use Rattle.run_plan.specs.CanonicalPlan.{plan_digest, banks_message, banks_digest}

-- one plan more
pub told-plan : {X : Type 0} (Holds : List ℕ → Type 0) (f : X → Plan) (m : List ℕ) (xs : List X) (i : ℕ) (x : X) → i < length xs → x ≡ get_or xs i x
    → Holds ((m ++ flat_map plan_digest (take i (map f xs))) ++ plan_digest (f x)) → Holds (m ++ flat_map plan_digest (take (i + 1) (map f xs)))
told-plan Holds f m xs i x within is held =
    let own : get_or (map f xs) i (f x) ≡ f x = get_or-map f xs i x (f x) within ∙ ap f (sym is) in
    let more : take (i + 1) (map f xs) ≡ take i (map f xs) ++ f x ∷ [] =
    take_more (map f xs) i (f x) (subst (λ n. i < n) (sym (length-map xs f)) within) ∙ ap (λ p. take i (map f xs) ++ p ∷ []) own in
    subst Holds (flat_map_more plan_digest m (take i (map f xs)) (f x) ∙ ap (λ ps. m ++ flat_map plan_digest ps) (sym more)) held

-- the only plan's own digest
pub digest-one : {X : Type 0} (f : X → Plan) (xs : List X) (x : X) → length xs ≡ 1 → x ≡ get_or xs 0 x → plan_digest (f x) ≡ banks_digest (map f xs)
unfolding banks_digest
digest-one f [] x one is = absurd (omega arith)
digest-one f (y ∷ []) x one is = ap (λ z. plan_digest (f z)) is
digest-one f (y ∷ z ∷ zs) x one is = absurd (omega arith)

-- of several plans the digest of their message
pub digest-several : {X : Type 0} (f : X → Plan) (xs : List X) → 1 < length xs → sha256 (([] ++ codes "GLASSPL2") ++ big_bytes 4 (length xs) ++ flat_map plan_digest (map f xs)) ≡ banks_digest (map f xs)
unfolding banks_digest banks_message
digest-several f [] several = absurd (omega arith)
digest-several f (y ∷ []) several = absurd (omega arith)
digest-several f (y ∷ z ∷ zs) several = rw (length-map (y ∷ z ∷ zs) f) refl
