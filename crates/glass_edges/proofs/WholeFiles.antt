-- What the parts of a save leave under the name, whichever of their steps is the last.
use Rattle.std.proofs.Common.{◌≡◌, ◌⊎◌, ℕ, Bool, true, false, List, [], ◌∷◌, ◌++◌, length, ◌+◌, ◌<◌, Result, Ok, Err, refl, sym, ap, subst, ◌∙◌, inl, inr, append_assoc, append-nil, arith}
use Rattle.std.specs.Prelude.{OnOk, OnErr}
use Rattle.glass_edges.specs.FolderSteps.{Thing, Names, Step, with_thing, emptied, written, flushed, after, after_all, AtEach, EachStep}
use Rattle.glass_edges.specs.FolderSteps.Thing.{nothing, regular, other}
use Rattle.glass_edges.specs.FolderSteps.Step.{looks, empties, makes, writes, flushes, renames, removes, fails}
use Rattle.glass_edges.specs.Saves.{saved, MayBeReplaced, OldOrNew, bytes_written, WritesTo, HasFailed, path_room, PlacesWhole, IsWrite, IsAside, PlacesStanding}
use Rattle.glass_edges.proofs.Steps.{thing-here, thing-there, each_step-weaker}

-- ---- steps that leave the other names alone

pub aside-there : (name any : List ℕ) (step : Step) (names : Names) → IsAside name step → ¬ (any ≡ name) → after step names any ≡ names any
aside-there name any (looks of) names is apart = refl
aside-there name any (empties of) names is apart = thing-there names of any _ (λ same. apart (same ∙ is))
aside-there name any (makes of) names is apart = thing-there names of any _ (λ same. apart (same ∙ is))
aside-there name any (writes of piece) names is apart = thing-there names of any _ (λ same. apart (same ∙ is))
aside-there name any (flushes of) names is apart = thing-there names of any _ (λ same. apart (same ∙ is))
aside-there name any (renames from to) names is apart = absurd is
aside-there name any (removes of) names is apart = thing-there names of any _ (λ same. apart (same ∙ is))
aside-there name any (fails step) names is apart = refl

pub write-aside : (name : List ℕ) (step : Step) → IsWrite name step → IsAside name step
write-aside name (looks of) is = absurd is
write-aside name (empties of) is = absurd is
write-aside name (makes of) is = absurd is
write-aside name (writes of piece) is = is
write-aside name (flushes of) is = absurd is
write-aside name (renames from to) is = absurd is
write-aside name (removes of) is = absurd is
write-aside name (fails step) is = tt

pub write-to : (name : List ℕ) (step : Step) → IsWrite name step → WritesTo name step
write-to name (looks of) is = absurd is
write-to name (empties of) is = absurd is
write-to name (makes of) is = absurd is
write-to name (writes of piece) is = is
write-to name (flushes of) is = absurd is
write-to name (renames from to) is = absurd is
write-to name (removes of) is = absurd is
write-to name (fails step) is = tt

to-aside : (name : List ℕ) (step : Step) → WritesTo name step → IsAside name step
to-aside name (looks of) is = absurd is
to-aside name (empties of) is = is
to-aside name (makes of) is = absurd is
to-aside name (writes of piece) is = is
to-aside name (flushes of) is = absurd is
to-aside name (renames from to) is = absurd is
to-aside name (removes of) is = absurd is
to-aside name (fails step) is = tt

pub kept-first : (name fresh bytes : List ℕ) (before : Names) → OldOrNew name fresh bytes before before
kept-first name fresh bytes before = record { whole = inl refl; others = λ any apart not. refl }

module _ (name fresh bytes : List ℕ) (before : Names) (another : ¬ (fresh ≡ name)) where
  abbrev Kept : Names → Type 0
  Kept = OldOrNew name fresh bytes before

  aside-whole : (step : Step) (now : Names) → IsAside fresh step → (now name ≡ before name) ⊎ (MayBeReplaced (before name) × (now name ≡ saved bytes)) → (after step now name ≡ before name) ⊎ (MayBeReplaced (before name) × (after step now name ≡ saved bytes))
  aside-whole step now is (inl old) = inl (aside-there fresh name step now is (λ same. another (sym same)) ∙ old)
  aside-whole step now is (inr new) = inr (new.0, aside-there fresh name step now is (λ same. another (sym same)) ∙ new.1)

  aside-kept : (step : Step) (now : Names) → IsAside fresh step → Kept now → Kept (after step now)
  aside-kept step now is kept = record {
    whole = aside-whole step now is kept.whole;
    others = λ any apart not. aside-there fresh any step now is not ∙ kept.others any apart not;
  }

  pub asides-kept : (steps : List Step) (now : Names) → EachStep (IsAside fresh) steps → Kept now → AtEach Kept now steps
  asides-kept [] now is kept = kept
  asides-kept (x ∷ steps) now is kept = (kept, asides-kept steps (after x now) is.1 (aside-kept x now is.0 kept))

  -- the new file takes the name
  rename-there : (now : Names) (any : List ℕ) → ¬ (any ≡ name) → ¬ (any ≡ fresh) → after (renames fresh name) now any ≡ now any
  rename-there now any apart not = thing-there (with_thing now fresh nothing) name any (now fresh) apart ∙ thing-there now fresh any nothing not

  pub rename-kept : (now : Names) → MayBeReplaced (before name) → now fresh ≡ saved bytes → Kept now → Kept (after (renames fresh name) now)
  rename-kept now may made kept = record {
    whole = inr (may, thing-here (with_thing now fresh nothing) name (now fresh) ∙ made);
    others = λ any apart not. rename-there now any apart not ∙ kept.others any apart not;
  }

-- ---- what is no regular file

stays : (name : List ℕ) (step : Step) (names : Names) → WritesTo name step → names name ≡ other → after step names name ≡ other
stays name (looks of) names is here = absurd is
stays name (empties of) names is here =
    ap (after (empties of) names) (sym is) ∙ thing-here names of (emptied (names of)) ∙ ap emptied (ap names is ∙ here)
stays name (makes of) names is here = absurd is
stays name (writes of piece) names is here =
    ap (after (writes of piece) names) (sym is) ∙ thing-here names of (written piece (names of)) ∙ ap (written piece) (ap names is ∙ here)
stays name (flushes of) names is here = absurd is
stays name (renames from to) names is here = absurd is
stays name (removes of) names is here = absurd is
stays name (fails step) names is here = here

-- it stays, and no other name changes
stays-kept : (name fresh bytes : List ℕ) (before : Names) → before name ≡ other → (steps : List Step) (now : Names) → EachStep (WritesTo name) steps
    → now name ≡ other → ((any : List ℕ) → ¬ (any ≡ name) → now any ≡ before any) → AtEach (OldOrNew name fresh bytes before) now steps
stays-kept name fresh bytes before here [] now is there same = record { whole = inl (there ∙ sym here); others = λ any apart not. same any apart }
stays-kept name fresh bytes before here (x ∷ steps) now is there same = (
  record { whole = inl (there ∙ sym here); others = λ any apart not. same any apart },
  stays-kept name fresh bytes before here steps (after x now) is.1 (stays name x now is.0 there)
      (λ any apart. aside-there name any x now (to-aside name x is.0) apart ∙ same any apart),
)

asides-there : (name any : List ℕ) (steps : List Step) (names : Names) → EachStep (IsAside name) steps → ¬ (any ≡ name) → after_all steps names any ≡ names any
asides-there name any [] names is apart = refl
asides-there name any (x ∷ steps) names is apart = asides-there name any steps (after x names) is.1 apart ∙ aside-there name any x names is.0 apart

-- a name that differs from every name
longer : (name : List ℕ) → ¬ (0 ∷ name ≡ name)
longer name same = let e : length (0 ∷ name) ≡ length name = ap length same in absurd (omega (arith, e))

-- what is no regular file is written, and nothing else is done
pub record WritesStanding {T E : Type 0} (name bytes : List ℕ) (result : Result T E) (before : Names) (steps : List Step) : Type 0 where
  pub only : EachStep (WritesTo name) steps
  pub whole : OnOk result (bytes_written steps ≡ bytes)
  pub cause : OnErr result (HasFailed steps)

pub standing-whole : {T E : Type 0} (name bytes : List ℕ) (result : Result T E) (before : Names) (steps : List Step)
    → WritesStanding name bytes result before steps → PlacesStanding name bytes result before steps
standing-whole name bytes (Ok x) before steps w = λ here. record {
  fresh = 0 ∷ name;
  beside = inr w.only;
  each = stays-kept name (0 ∷ name) bytes before here steps before w.only here (λ any apart. refl);
  passed = rw here (w.only, w.whole);
  failed = tt;
  cause = tt;
}
standing-whole name bytes (Err x) before steps w = λ here. record {
  fresh = 0 ∷ name;
  beside = inr w.only;
  each = stays-kept name (0 ∷ name) bytes before here steps before w.only here (λ any apart. refl);
  passed = tt;
  failed = inr (inl (asides-there name (0 ∷ name) steps before (each_step-weaker _ _ (to-aside name) steps w.only) (longer name)));
  cause = inl w.cause;
}

-- the system answered an error to a look, and nothing is done
pub looked-whole : {T E : Type 0} (name bytes : List ℕ) (e : E) (before : Names) (steps : List Step) → steps ≡ fails (looks name) ∷ [] → PlacesWhole {T = T} name bytes (Err e) before steps
looked-whole name bytes e before steps is = rw is (record {
  fresh = 0 ∷ name;
  beside = inr (tt, tt);
  each = (kept-first name (0 ∷ name) bytes before, kept-first name (0 ∷ name) bytes before);
  passed = tt;
  failed = inr (inl refl);
  cause = inl tt;
})

-- there is no fresh name, and nothing is done
pub nameless-whole : {T E : Type 0} (name bytes : List ℕ) (e : E) (before : Names) → path_room < length name + 5 → PlacesWhole {T = T} name bytes (Err e) before []
nameless-whole name bytes e before long = record {
  fresh = 0 ∷ name;
  beside = inr tt;
  each = kept-first name (0 ∷ name) bytes before;
  passed = tt;
  failed = inr (inl refl);
  cause = inr long;
}

-- ---- the bytes of a file

-- a regular file of these bytes that may be written, on the disk or not
abbrev pub HasBytes : List ℕ → Thing → Type 0
HasBytes bytes thing = (is : Bool) × (thing ≡ regular (record { bytes = bytes; flushed = is; writable = true }))

written-has : (bytes piece : List ℕ) (thing : Thing) → HasBytes bytes thing → HasBytes (bytes ++ piece) (written piece thing)
written-has bytes piece thing has = (false, ap (written piece) has.1)

write-has : (name bytes piece of : List ℕ) (names : Names) → of ≡ name → HasBytes bytes (names name) → HasBytes (bytes ++ piece) (after (writes of piece) names name)
write-has name bytes piece of names is has =
    subst (HasBytes (bytes ++ piece)) (sym (ap (after (writes of piece) names) (sym is) ∙ thing-here names of (written piece (names of)) ∙ ap (λ n. written piece (names n)) is))
    (written-has bytes piece (names name) has)

pub writes-have : (name bytes : List ℕ) (steps : List Step) (names : Names) → EachStep (IsWrite name) steps → HasBytes bytes (names name)
    → HasBytes (bytes ++ bytes_written steps) (after_all steps names name)
writes-have name bytes [] names is has = subst (λ (b : List ℕ). HasBytes b (names name)) (sym (append-nil bytes)) has
writes-have name bytes (looks of ∷ steps) names is has = absurd is.0
writes-have name bytes (empties of ∷ steps) names is has = absurd is.0
writes-have name bytes (makes of ∷ steps) names is has = absurd is.0
writes-have name bytes (writes of piece ∷ steps) names is has =
    subst (λ (b : List ℕ). HasBytes b (after_all steps (after (writes of piece) names) name)) (append_assoc bytes piece (bytes_written steps))
    (writes-have name (bytes ++ piece) steps (after (writes of piece) names) is.1 (write-has name bytes piece of names is.0 has))
writes-have name bytes (flushes of ∷ steps) names is has = absurd is.0
writes-have name bytes (renames from to ∷ steps) names is has = absurd is.0
writes-have name bytes (removes of ∷ steps) names is has = absurd is.0
writes-have name bytes (fails step ∷ steps) names is has = writes-have name bytes steps names is.1 has

pub flush-saves : (name bytes : List ℕ) (names : Names) → HasBytes bytes (names name) → after (flushes name) names name ≡ saved bytes
flush-saves name bytes names has = thing-here names name (flushed (names name)) ∙ ap flushed has.1
