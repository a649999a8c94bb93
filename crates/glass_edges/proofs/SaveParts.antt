-- A save is put together of its parts.
use Rattle.std.proofs.Common.{◌≡◌, ℕ, ◌+◌, ◌<◌, true, false, List, [], ◌∷◌, ◌++◌, length, Option, Some, None, Result, Ok, Err, refl, sym, ap, subst, ◌∙◌, inl, inr}
use Rattle.std.specs.Prelude.{OnOk, OnErr, IfSome, IsErr, is_err}
use Rattle.std.proofs.lemmas.Bool.{false≢true}
use Rattle.glass_edges.specs.declared.refused.Fault.{Fault}
use Rattle.glass_edges.specs.declared.folders.Standing.{Standing}
use Rattle.glass_edges.specs.declared.folders.Standing.TheVariants as found
use Rattle.glass_edges.specs.FolderSteps.{Thing, Names, Step, Past, with_thing, after_all, AtEach, EachStep, Did, Does, Looks, Tells, present}
use Rattle.glass_edges.specs.FolderSteps.Thing.{nothing, regular, other}
use Rattle.glass_edges.specs.FolderSteps.Step.{looks, empties, makes, flushes, renames, removes, fails}
use Rattle.glass_edges.specs.Saves.{BySteps, saved, MayBeReplaced, OldOrNew, bytes_written, WritesTo, IsSaved, LeavesNone, HasFailed, path_room, IsFresh, PlacesWhole, IsWrite, WritesAll, IsAside, MakesNew, Replaces, PlacesNew, PlacesStanding}
use Rattle.glass_edges.proofs.Steps.{thing-here, after_all-append, at_each-append, at_each-last, each_step-append, each_step-weaker, by-none, by-did, by-failed, by-weaker, by-then, has_failed-first, has_failed-then, tried-error, Tried, Done}
use Rattle.glass_edges.proofs.WholeFiles.{HasBytes, kept-first, asides-kept, rename-kept, write-aside, write-to, writes-have, flush-saves, WritesStanding, standing-whole, looked-whole, nameless-whole}

abbrev pub Answer : Type 0
Answer = Result (Unit {0}) Fault

-- ---- a step that leaves the other names alone

one-aside : (fresh : List ℕ) (step : Step) (t : List Step) → IsAside fresh step → t ≡ step ∷ [] → EachStep (IsAside fresh) t
one-aside fresh step t is same = rw same (is, tt)

tried-aside : (fresh : List ℕ) (step : Step) (before : Names) (t : List Step) → IsAside fresh step → Tried step before t → EachStep (IsAside fresh) t
tried-aside fresh step before t is (inl same) = rw same (tt, tt)
tried-aside fresh step before t is (inr same) = rw same (is, (tt, tt))

abbrev Asides : List ℕ → Names → List Step → Type 0
Asides fresh before steps = EachStep (IsAside fresh) steps

does-aside : {T E : Type 0} (fresh : List ℕ) (step : Step) (a b : Option Past) (r : Result T E) → IsAside fresh step → Does step a b r → BySteps (Asides fresh) a b
does-aside fresh step a b (Ok x) is does = by-weaker (Done step) (Asides fresh) a b (by-did _ a b does.passed) (λ before t same. one-aside fresh step t is same)
does-aside fresh step a b (Err e) is does = by-weaker (Tried step) (Asides fresh) a b (by-failed _ a b does.failed) (λ before t tried. tried-aside fresh step before t is tried)

tried-to : (name : List ℕ) (before : Names) (t : List Step) → Tried (empties name) before t → EachStep (WritesTo name) t
tried-to name before t (inl same) = rw same (tt, tt)
tried-to name before t (inr same) = rw same (refl, (tt, tt))

later-cause : (r : Answer) (s t : List Step) → OnErr r (HasFailed t) → OnErr r (HasFailed (s ++ t))
later-cause (Ok x) s t cause = tt
later-cause (Err e) s t cause = has_failed-then s t cause

-- ---- the new file

-- the file is made and has these bytes
abbrev pub Filled : List ℕ → List ℕ → Names → List Step → Type 0
Filled fresh bytes before steps = EachStep (IsAside fresh) steps × HasBytes bytes (after_all steps before fresh)

write-asides : (fresh : List ℕ) (t : List Step) → EachStep (IsWrite fresh) t → EachStep (IsAside fresh) t
write-asides fresh t only = each_step-weaker (IsWrite fresh) (IsAside fresh) (write-aside fresh) t only

made-empty : (fresh : List ℕ) (before : Names) (s : List Step) → s ≡ makes fresh ∷ [] → HasBytes [] (after_all s before fresh)
made-empty fresh before s same = rw same (false, thing-here before fresh _)

module _ (fresh bytes : List ℕ) (b c : Option Past) where
  filled-some : (past : Past) (x : Unit {0}) → Did (makes fresh ∷ []) (Some past) b → BySteps (WritesAll {E = Fault} fresh bytes (Ok x)) b c → BySteps (Filled fresh bytes) (Some past) c
  filled-some past x did wrote =
      by-then (Done (makes fresh)) (WritesAll {E = Fault} fresh bytes (Ok x)) (Filled fresh bytes) (Some past) b c (by-did _ (Some past) b did) wrote (λ before s t same w. (
        each_step-append _ s t (one-aside fresh (makes fresh) s refl same) (write-asides fresh t w.only),
        subst (HasBytes bytes) (ap (λ (n : Names). n fresh) (sym (after_all-append s t before)))
            (subst (λ (l : List ℕ). HasBytes l (after_all t (after_all s before) fresh)) w.whole
            (writes-have fresh [] t (after_all s before) w.only (made-empty fresh before s same))),
      ))

  pub filled : (a : Option Past) (of : List ℕ) (x : Unit {0}) → IfSome a (λ _. of ≡ fresh) → Did (makes fresh ∷ []) a b
      → BySteps (WritesAll {E = Fault} of bytes (Ok x)) b c → BySteps (Filled fresh bytes) a c
  filled None of x is did wrote = tt
  filled (Some past) of x is did wrote = filled-some past x did (subst (λ (n : List ℕ). BySteps (WritesAll {E = Fault} n bytes (Ok x)) b c) is wrote)

  unfilled-some : (past : Past) (e : Fault) (r : Answer) → IsErr r → Did (makes fresh ∷ []) (Some past) b
      → BySteps (WritesAll {T = Unit {0}} fresh bytes (Err e)) b c → BySteps (MakesNew fresh bytes r) (Some past) c
  unfilled-some past e (Ok x) failed did wrote = absurd (false≢true failed)
  unfilled-some past e (Err f) failed did wrote =
      by-then (Done (makes fresh)) (WritesAll {T = Unit {0}} fresh bytes (Err e)) (MakesNew {T = Unit {0}} fresh bytes (Err f)) (Some past) b c (by-did _ (Some past) b did) wrote (λ before s t same w. record {
        aside = each_step-append _ s t (one-aside fresh (makes fresh) s refl same) (write-asides fresh t w.only);
        made = tt;
        cause = has_failed-then s t w.cause;
      })

  pub unfilled : (a : Option Past) (of : List ℕ) (e : Fault) (r : Answer) → IsErr r → IfSome a (λ _. of ≡ fresh) → Did (makes fresh ∷ []) a b
      → BySteps (WritesAll {T = Unit {0}} of bytes (Err e)) b c → BySteps (MakesNew fresh bytes r) a c
  unfilled None of e r failed is did wrote = tt
  unfilled (Some past) of e r failed is did wrote = unfilled-some past e r failed did (subst (λ (n : List ℕ). BySteps (WritesAll {T = Unit {0}} n bytes (Err e)) b c) is wrote)

  flushed-some : (past : Past) (r : Answer) → BySteps (Filled fresh bytes) (Some past) b → Does (flushes fresh) b c r → BySteps (MakesNew fresh bytes r) (Some past) c
  flushed-some past (Ok x) full does =
      by-then (Filled fresh bytes) (Done (flushes fresh)) (MakesNew {E = Fault} fresh bytes (Ok x)) (Some past) b c full (by-did _ b c does.passed) (λ before s t was same. record {
        aside = each_step-append _ s t was.0 (one-aside fresh (flushes fresh) t refl same);
        made = ap (λ (n : Names). n fresh) (after_all-append s t before) ∙ ap (λ (l : List Step). after_all l (after_all s before) fresh) same
            ∙ flush-saves fresh bytes (after_all s before) was.1;
        cause = tt;
      })
  flushed-some past (Err e) full does =
      by-then (Filled fresh bytes) (Tried (flushes fresh)) (MakesNew {T = Unit {0}} fresh bytes (Err e)) (Some past) b c full (by-failed _ b c does.failed) (λ before s t was tried. record {
        aside = each_step-append _ s t was.0 (tried-aside fresh (flushes fresh) before t refl tried);
        made = tt;
        cause = has_failed-then s t (tried-error _ before t tried);
      })

  pub flushed-made : (a : Option Past) (of : List ℕ) (r : Answer) → IfSome a (λ _. of ≡ fresh) → BySteps (Filled fresh bytes) a b → Does (flushes of) b c r → BySteps (MakesNew fresh bytes r) a c
  flushed-made None of r is full does = tt
  flushed-made (Some past) of r is full does = flushed-some past r full (subst (λ (n : List ℕ). Does (flushes n) b c r) is does)

-- ---- it takes the name

module _ (name fresh bytes : List ℕ) (is : IsFresh name fresh) where
  abbrev Kept : Names → Names → Type 0
  Kept first = OldOrNew name fresh bytes first

  done-kept : (first now : Names) (t : List Step) → MayBeReplaced (first name) → now fresh ≡ saved bytes → Kept first now → t ≡ renames fresh name ∷ [] → AtEach (Kept first) now t
  done-kept first now t may made kept same = rw same (kept, rename-kept name fresh bytes first is.another now may made kept)

  tried-kept : (first before now : Names) (t : List Step) → MayBeReplaced (first name) → now fresh ≡ saved bytes → Kept first now → Tried (renames fresh name) before t → AtEach (Kept first) now t
  tried-kept first before now t may made kept (inl same) = rw same (kept, kept)
  tried-kept first before now t may made kept (inr same) = rw same (kept, (rename-kept name fresh bytes first is.another now may made kept, rename-kept name fresh bytes first is.another now may made kept))

  pub unmade : (a b : Option Past) (e : Fault) (r : Answer) → IsErr r → BySteps (MakesNew {T = Unit {0}} fresh bytes (Err e)) a b → BySteps (Replaces name fresh bytes r) a b
  unmade a b e (Ok x) failed by = absurd (false≢true failed)
  unmade a b e (Err f) failed by = by-weaker (MakesNew {T = Unit {0}} fresh bytes (Err e)) (Replaces {T = Unit {0}} name fresh bytes (Err f)) a b by (λ before s m. record {
    each = λ first may kept. asides-kept name fresh bytes first is.another s before m.aside kept;
    passed = tt;
    cause = m.cause;
  })

  pub renamed : (a b c : Option Past) (x : Unit {0}) (r : Answer) → BySteps (MakesNew {E = Fault} fresh bytes (Ok x)) a b → Does (renames fresh name) b c r → BySteps (Replaces name fresh bytes r) a c
  renamed a b c x (Ok y) by does =
      by-then (MakesNew {E = Fault} fresh bytes (Ok x)) (Done (renames fresh name)) (Replaces {E = Fault} name fresh bytes (Ok y)) a b c by (by-did _ b c does.passed) (λ before s t m same. record {
        each = λ first may kept.
            let all = asides-kept name fresh bytes first is.another s before m.aside kept in
            at_each-append (Kept first) before s t all (done-kept first (after_all s before) t may m.made (at_each-last (Kept first) before s all) same);
        passed = ap (λ (n : Names). n name) (after_all-append s t before) ∙ ap (λ (l : List Step). after_all l (after_all s before) name) same
            ∙ thing-here (with_thing (after_all s before) fresh nothing) name (after_all s before fresh) ∙ m.made;
        cause = tt;
      })
  renamed a b c x (Err e) by does =
      by-then (MakesNew {E = Fault} fresh bytes (Ok x)) (Tried (renames fresh name)) (Replaces {T = Unit {0}} name fresh bytes (Err e)) a b c by (by-failed _ b c does.failed) (λ before s t m tried. record {
        each = λ first may kept.
            let all = asides-kept name fresh bytes first is.another s before m.aside kept in
            at_each-append (Kept first) before s t all (tried-kept first (after_all s before) (after_all s before) t may m.made (at_each-last (Kept first) before s all) tried);
        passed = tt;
        cause = has_failed-then s t (tried-error _ before t tried);
      })

  -- ---- the whole

  is-saved : (steps : List Step) (thing now : Thing) → MayBeReplaced thing → now ≡ saved bytes → IsSaved name bytes steps thing now
  is-saved steps nothing now may same = same
  is-saved steps (regular file) now may same = same
  is-saved steps other now may same = absurd may

  -- the new file of an earlier save is removed, and another one takes the name, or not
  pub record Halfway (r : Answer) (before : Names) (steps : List Step) : Type 0 where
    pub each : MayBeReplaced (before name) → AtEach (Kept before) before steps
    pub passed : OnOk r (after_all steps before name ≡ saved bytes)
    pub cause : OnErr r (HasFailed steps)

  pub halfway : {T : Type 0} (a b c : Option Past) (q : Result T Fault) (r : Answer) → Does (removes fresh) a b q → BySteps (Replaces name fresh bytes r) b c → BySteps (Halfway r) a c
  halfway a b c q r does by =
      by-then (Asides fresh) (Replaces name fresh bytes r) (Halfway r) a b c (does-aside fresh (removes fresh) a b q refl does) by (λ before s t aside rep. record {
        each = λ may.
            let all = asides-kept name fresh bytes before is.another s before aside (kept-first name fresh bytes before) in
            at_each-append (Kept before) before s t all (rep.each before may (at_each-last (Kept before) before s all));
        passed = subst (λ (n : Names). OnOk r (n name ≡ saved bytes)) (sym (after_all-append s t before)) rep.passed;
        cause = later-cause r s t rep.cause;
      })

  pub placed-well : (a b : Option Past) (r : Answer) → is_err r ≡ false → BySteps (Halfway r) a b → BySteps (PlacesNew name bytes r) a b
  placed-well a b (Err e) well by = absurd (false≢true (sym well))
  placed-well a b (Ok x) well by = by-weaker (Halfway (Ok x)) (PlacesNew {E = Fault} name bytes (Ok x)) a b by (λ before s half. λ may. record {
    fresh = fresh;
    beside = inl is;
    each = half.each may;
    passed = is-saved s (before name) (after_all s before name) may half.passed;
    failed = tt;
    cause = tt;
  })

  removed-leaves : (before : Names) (s t : List Step) → t ≡ removes fresh ∷ [] → LeavesNone fresh before (s ++ t)
  removed-leaves before s t same = inl (ap (λ (n : Names). n fresh) (after_all-append s t before) ∙ ap (λ (l : List Step). after_all l (after_all s before) fresh) same
      ∙ thing-here (after_all s before) fresh nothing)

  tried-leaves : (before now : Names) (s t : List Step) → Tried (removes fresh) now t → LeavesNone fresh before (s ++ t)
  tried-leaves before now s t (inl same) = inr (inr (s, ap (λ (l : List Step). s ++ l) same))
  tried-leaves before now s t (inr same) = inl (ap (λ (n : Names). n fresh) (after_all-append s t before) ∙ ap (λ (l : List Step). after_all l (after_all s before) fresh) same
      ∙ thing-here (after_all s before) fresh nothing)

  failed-with : (before : Names) (e : Fault) (s t : List Step) → Halfway (Err e) before s → EachStep (IsAside fresh) t → LeavesNone fresh before (s ++ t) → PlacesNew {T = Unit {0}} name bytes (Err e) before (s ++ t)
  failed-with before e s t half aside none = λ may. record {
    fresh = fresh;
    beside = inl is;
    each = at_each-append (Kept before) before s t (half.each may)
        (asides-kept name fresh bytes before is.another t (after_all s before) aside (at_each-last (Kept before) before s (half.each may)));
    passed = tt;
    failed = none;
    cause = inl (has_failed-first s t half.cause);
  }

  pub placed-badly : {T : Type 0} (a b c : Option Past) (r : Answer) (q : Result T Fault) → is_err r ≡ true → BySteps (Halfway r) a b → Does (removes fresh) b c q → BySteps (PlacesNew name bytes r) a c
  placed-badly a b c (Ok x) q bad by does = absurd (false≢true bad)
  placed-badly a b c (Err e) (Ok x) bad by does =
      by-then (Halfway (Err e)) (Done (removes fresh)) (PlacesNew {T = Unit {0}} name bytes (Err e)) a b c by (by-did _ b c does.passed)
      (λ before s t half same. failed-with before e s t half (one-aside fresh (removes fresh) t refl same) (removed-leaves before s t same))
  placed-badly a b c (Err e) (Err f) bad by does =
      by-then (Halfway (Err e)) (Tried (removes fresh)) (PlacesNew {T = Unit {0}} name bytes (Err e)) a b c by (by-failed _ b c does.failed)
      (λ before s t half tried. failed-with before e s t half (tried-aside fresh (removes fresh) (after_all s before) t refl tried) (tried-leaves before (after_all s before) s t tried))

-- ---- what is written as it stands

to-all : (name : List ℕ) (t : List Step) → EachStep (IsWrite name) t → EachStep (WritesTo name) t
to-all name t only = each_step-weaker (IsWrite name) (WritesTo name) (write-to name) t only

opens : (name : List ℕ) (s : List Step) → s ≡ empties name ∷ [] → EachStep (WritesTo name) s
opens name s same = rw same (refl, tt)

wrote-all : (name bytes : List ℕ) (s t : List Step) (r : Answer) → s ≡ empties name ∷ [] → OnOk r (bytes_written t ≡ bytes) → OnOk r (bytes_written (s ++ t) ≡ bytes)
wrote-all name bytes s t (Ok x) same whole = ap (λ (l : List Step). bytes_written (l ++ t)) same ∙ whole
wrote-all name bytes s t (Err e) same whole = tt

opened-written : (name bytes : List ℕ) (past : Past) (b c : Option Past) (r : Answer) → Did (empties name ∷ []) (Some past) b → BySteps (WritesAll name bytes r) b c → BySteps (WritesStanding name bytes r) (Some past) c
opened-written name bytes past b c r did wrote =
    by-then (Done (empties name)) (WritesAll name bytes r) (WritesStanding name bytes r) (Some past) b c (by-did _ (Some past) b did) wrote (λ before s t same w. record {
      only = each_step-append _ s t (opens name s same) (to-all name t w.only);
      whole = wrote-all name bytes s t r same w.whole;
      cause = later-cause r s t w.cause;
    })

pub standing-placed : (name of bytes : List ℕ) (a b c : Option Past) (r : Answer) → IfSome a (λ _. of ≡ name) → Did (empties name ∷ []) a b → BySteps (WritesAll of bytes r) b c → BySteps (PlacesStanding name bytes r) a c
standing-placed name of bytes None b c r is did wrote = tt
standing-placed name of bytes (Some past) b c r is did wrote =
    by-weaker (WritesStanding name bytes r) (PlacesStanding name bytes r) (Some past) c
    (opened-written name bytes past b c r did (subst (λ (n : List ℕ). BySteps (WritesAll n bytes r) b c) is wrote)) (standing-whole name bytes r)

not-opened : (name bytes : List ℕ) (before : Names) (e : Fault) (t : List Step) → Tried (empties name) before t → WritesStanding {T = Unit {0}} name bytes (Err e) before t
not-opened name bytes before e t tried = record { only = tried-to name before t tried; whole = tt; cause = tried-error _ before t tried }

pub not-standing : {T : Type 0} (name bytes : List ℕ) (a b : Option Past) (e : Fault) (r : Answer) → IsErr r → Does {T = T} (empties name) a b (Err e) → BySteps (PlacesStanding name bytes r) a b
not-standing name bytes a b e (Ok x) failed does = absurd (false≢true failed)
not-standing name bytes a b e (Err f) failed does =
    by-weaker (Tried (empties name)) (PlacesStanding {T = Unit {0}} name bytes (Err f)) a b (by-failed _ a b does.failed) (λ before t tried. standing-whole name bytes (Err f) before t (not-opened name bytes before f t tried))

pub not-made : {T : Type 0} (fresh bytes : List ℕ) (a b : Option Past) (e : Fault) (r : Answer) → IsErr r → Does {T = T} (makes fresh) a b (Err e) → BySteps (MakesNew fresh bytes r) a b
not-made fresh bytes a b e (Ok x) failed does = absurd (false≢true failed)
not-made fresh bytes a b e (Err f) failed does =
    by-weaker (Tried (makes fresh)) (MakesNew {T = Unit {0}} fresh bytes (Err f)) a b (by-failed _ a b does.failed) (λ before t tried. record {
      aside = tried-aside fresh (makes fresh) before t refl tried;
      made = tt;
      cause = tried-error _ before t tried;
    })

-- ---- nothing is done

pub looked : (name bytes : List ℕ) (a b c : Option Past) (r : Answer) (e : Fault) {T : Type 0} → IsErr r → b ≡ a → Looks {T = T} name b c (Err e) → BySteps (PlacesWhole name bytes r) a c
looked name bytes a b c (Ok x) e failed same look = absurd (false≢true failed)
looked name bytes a b c (Err f) e failed same look =
    by-weaker (λ before done. done ≡ fails (looks name) ∷ []) (PlacesWhole {T = Unit {0}} name bytes (Err f)) a c
    (by-did (fails (looks name) ∷ []) a c (subst (λ (o : Option Past). Did (fails (looks name) ∷ []) o c) same look.failed)) (looked-whole name bytes f)

pub nameless : (name bytes : List ℕ) (a : Option Past) (r : Answer) → IsErr r → path_room < length name + 5 → BySteps (PlacesNew name bytes r) a a
nameless name bytes a (Ok x) failed long = absurd (false≢true failed)
nameless name bytes a (Err e) failed long = by-none (PlacesNew {T = Unit {0}} name bytes (Err e)) a a refl (λ before may. nameless-whole name bytes e before long)

-- ---- what stands under the name

module _ (name bytes : List ℕ) (b c : Option Past) (r : Answer) where
  pub place-new : (a : Option Past) → IfSome a (λ past. MayBeReplaced (present past name)) → b ≡ a → BySteps (PlacesNew name bytes r) b c → BySteps (PlacesWhole name bytes r) a c
  place-new None may same by = tt
  place-new (Some past) may same by =
      let these : BySteps (PlacesNew name bytes r) (Some past) c = subst (λ (o : Option Past). BySteps (PlacesNew name bytes r) o c) same by in
      (these.0, these.1, these.2 may)

  pub place-standing : (a : Option Past) (standing : Standing) → standing ≡ found.Other → IfSome a (λ past. Tells standing (present past name)) → b ≡ a
      → BySteps (PlacesStanding name bytes r) b c → BySteps (PlacesWhole name bytes r) a c
  place-standing None standing is told same by = tt
  place-standing (Some past) standing is told same by =
      let these : BySteps (PlacesStanding name bytes r) (Some past) c = subst (λ (o : Option Past). BySteps (PlacesStanding name bytes r) o c) same by in
      let other_stands : present past name ≡ other = subst (λ (s : Standing). Tells s (present past name)) is told in
      (these.0, these.1, these.2 other_stands)
