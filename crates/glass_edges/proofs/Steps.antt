-- The names after steps, and how steps of one call after another are put together.
use Rattle.std.proofs.Common.{◌≡◌, ◌⊎◌, ℕ, cond, List, [], ◌∷◌, ◌++◌, Option, Some, None, refl, sym, ap, subst, ◌∙◌, inl, inr, append_assoc, append-nil}
use Rattle.std.specs.Str.{bytes_eq}
use Rattle.std.proofs.lemmas.Bool.{false_from_ne_true}
use Rattle.std.proofs.lemmas.Slice.Eq.{bytes_eq-Decides}
use Rattle.glass_edges.specs.FolderSteps.{Thing, Names, Step, Past, with_thing, after, after_all, AtEach, EachStep, Did, Failed, present, with_steps}
use Rattle.glass_edges.specs.FolderSteps.Step.{looks, empties, makes, writes, flushes, renames, removes, fails}
use Rattle.glass_edges.specs.Saves.{BySteps, HasFailed}

-- ---- one name

pub thing-here : (names : Names) (name : List ℕ) (thing : Thing) → with_thing names name thing name ≡ thing
thing-here names name thing = ap (λ b. cond b thing (names name)) ((bytes_eq-Decides name name).1 refl)

pub thing-there : (names : Names) (name any : List ℕ) (thing : Thing) → ¬ (any ≡ name) → with_thing names name thing any ≡ names any
thing-there names name any thing apart =
    ap (λ b. cond b thing (names any)) (false_from_ne_true (bytes_eq any name) (λ is. apart ((bytes_eq-Decides any name).0 is)))

-- ---- lists of steps

pub after_all-append : (s t : List Step) (names : Names) → after_all (s ++ t) names ≡ after_all t (after_all s names)
after_all-append [] t names = refl
after_all-append (x ∷ s) t names = after_all-append s t (after x names)

pub at_each-append : (P : Names → Type 0) (names : Names) (s t : List Step) → AtEach P names s → AtEach P (after_all s names) t → AtEach P names (s ++ t)
at_each-append P names [] t p q = q
at_each-append P names (x ∷ s) t p q = (p.0, at_each-append P (after x names) s t p.1 q)

-- the property holds after the last of the steps
pub at_each-last : (P : Names → Type 0) (names : Names) (s : List Step) → AtEach P names s → P (after_all s names)
at_each-last P names [] p = p
at_each-last P names (x ∷ s) p = at_each-last P (after x names) s p.1

pub each_step-append : (P : Step → Type 0) (s t : List Step) → EachStep P s → EachStep P t → EachStep P (s ++ t)
each_step-append P [] t p q = q
each_step-append P (x ∷ s) t p q = (p.0, each_step-append P s t p.1 q)

pub each_step-weaker : (P Q : Step → Type 0) → ((step : Step) → P step → Q step) → (s : List Step) → EachStep P s → EachStep Q s
each_step-weaker P Q to [] p = tt
each_step-weaker P Q to (x ∷ s) p = (to x p.0, each_step-weaker P Q to s p.1)

-- an error to a step is one to all of them
pub has_failed-first : (s t : List Step) → HasFailed s → HasFailed (s ++ t)
has_failed-first [] t h = absurd h
has_failed-first (looks of ∷ s) t h = has_failed-first s t h
has_failed-first (empties of ∷ s) t h = has_failed-first s t h
has_failed-first (makes of ∷ s) t h = has_failed-first s t h
has_failed-first (writes of piece ∷ s) t h = has_failed-first s t h
has_failed-first (flushes of ∷ s) t h = has_failed-first s t h
has_failed-first (renames from to ∷ s) t h = has_failed-first s t h
has_failed-first (removes of ∷ s) t h = has_failed-first s t h
has_failed-first (fails step ∷ s) t h = tt

pub has_failed-then : (s t : List Step) → HasFailed t → HasFailed (s ++ t)
has_failed-then [] t h = h
has_failed-then (looks of ∷ s) t h = has_failed-then s t h
has_failed-then (empties of ∷ s) t h = has_failed-then s t h
has_failed-then (makes of ∷ s) t h = has_failed-then s t h
has_failed-then (writes of piece ∷ s) t h = has_failed-then s t h
has_failed-then (flushes of ∷ s) t h = has_failed-then s t h
has_failed-then (renames from to ∷ s) t h = has_failed-then s t h
has_failed-then (removes of ∷ s) t h = has_failed-then s t h
has_failed-then (fails step ∷ s) t h = tt

-- ---- what calls did

-- the steps of a call that answered an error
abbrev pub Tried : Step → Names → List Step → Type 0
Tried step before steps = (steps ≡ fails step ∷ []) ⊎ (steps ≡ step ∷ fails step ∷ [])

has-error : (step : Step) → HasFailed (step ∷ fails step ∷ [])
has-error (looks of) = tt
has-error (empties of) = tt
has-error (makes of) = tt
has-error (writes of piece) = tt
has-error (flushes of) = tt
has-error (renames from to) = tt
has-error (removes of) = tt
has-error (fails step) = tt

pub tried-error : (step : Step) (before : Names) (t : List Step) → Tried step before t → HasFailed t
tried-error step before t (inl same) = rw same tt
tried-error step before t (inr same) = rw same (has-error step)

abbrev pub Done : Step → Names → List Step → Type 0
Done step before steps = steps ≡ step ∷ []

with-nothing : (past : Past) → past ≡ with_steps [] past
with-nothing past = let e : past.steps ≡ past.steps ++ [] = sym (append-nil past.steps) in ap (λ (s : List Step). record past { steps = s }) e

with-both : (past : Past) (s t : List Step) → with_steps t (with_steps s past) ≡ with_steps (s ++ t) past
with-both past s t = ap (λ (l : List Step). record past { steps = l }) (append_assoc past.steps s t)

-- no step is done
pub by-none : (P : Names → List Step → Type 0) (a b : Option Past) → b ≡ a → ((before : Names) → P before []) → BySteps P a b
by-none P None b same p = tt
by-none P (Some past) b same p = ([], same ∙ ap Some (with-nothing past), p (present past))

pub by-did : (steps : List Step) (a b : Option Past) → Did steps a b → BySteps (λ before done. done ≡ steps) a b
by-did steps None b did = tt
by-did steps (Some past) b did = (steps, did, refl)

pub by-failed : (step : Step) (a b : Option Past) → Failed step a b → BySteps (Tried step) a b
by-failed step None b failed = tt
by-failed step (Some past) b (inl did) = (fails step ∷ [], did, inl refl)
by-failed step (Some past) b (inr did) = (step ∷ fails step ∷ [], did, inr refl)

pub by-weaker : (P Q : Names → List Step → Type 0) (a b : Option Past) → BySteps P a b → ((before : Names) (s : List Step) → P before s → Q before s) → BySteps Q a b
by-weaker P Q None b by to = tt
by-weaker P Q (Some past) b by to = (by.0, by.1, to (present past) by.0 by.2)

-- the steps of one call, and then those of the next
pub by-then : (P Q R : Names → List Step → Type 0) (a b c : Option Past) → BySteps P a b → BySteps Q b c
    → ((before : Names) (s t : List Step) → P before s → Q (after_all s before) t → R before (s ++ t)) → BySteps R a c
by-then P Q R None b c by next to = tt
by-then P Q R (Some past) b c by next to =
    let more : BySteps Q (Some (with_steps by.0 past)) c = subst (λ (o : Option Past). BySteps Q o c) by.1 next in
    let now : present (with_steps by.0 past) ≡ after_all by.0 (present past) = after_all-append past.steps by.0 past.first in (
      by.0 ++ more.0,
      more.1 ∙ ap Some (with-both past by.0 more.0),
      to (present past) by.0 more.0 by.2 (subst (λ (n : Names). Q n more.0) now more.2),
    )
