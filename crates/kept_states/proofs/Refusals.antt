-- The first refusal of kept states is that of the frame, that of the states by themselves, or that of their times, each told as it is there.
use Rattle.std.specs.Prelude.{◌&&◌, ◌==◌, nat_le, nat_lt, option_map}
use Rattle.std.specs.Str.{bytes_eq}
use Rattle.std.proofs.Common.{◌≡◌, ℕ, ◌+◌, Bool, true, false, cond, List, [], ◌∷◌, map, length, Option, Some, None, refl, sym, ap, ap₂, ◌∙◌}
use Rattle.glass_edges.specs.Refusals.{or_else, first_found}
use Rattle.glass_edges.specs.Sealed.{body_of, digest_of}
use Rattle.kept_frame.specs.Told as frame
use Rattle.kept_frame.specs.declared.refused.KeptRefused.{KeptRefused}
use Rattle.kept_frame.specs.declared.refused.KeptRefused.TheVariants as kept
use Rattle.kept_states.specs.KeptReading.{level_tests, told, states_refusal, kept_stands_in}
use Rattle.kept_states.specs.Levels.{level_len, level_banks_in, stands_at}
use Rattle.kept_states.specs.Steps.{untimed_refusal, other_time_at, other_time}
use Rattle.kept_states.specs.declared.refused.KeptStatesRefused.{KeptStatesRefused}
use Rattle.kept_states.specs.declared.refused.KeptStatesRefused.TheVariants as refused
use Rattle.quenched_states.specs.KeptBytes.{kept_length}
use Rattle.quenched_states.specs.KeptStates.{time_at}
use Rattle.quenched_states.specs.KeptTests.{are_kept, kept_count, states_in, short_frame, wrong_count, wrong_length, wrong_digest, frame_refusal, state_refusal, times_refusal, kept_refusal}
use Rattle.scalar_rule.specs.Plan.{Plan}
use Rattle.sha2.specs.Sha256.{sha256}

or-assoc : {E : Type 0} (a b c : Option E) → or_else a (or_else b c) ≡ or_else (or_else a b) c
or-assoc None b c = refl
or-assoc (Some e) b c = refl

map-or : {D E : Type 0} (f : D → E) (a b : Option D) → or_else (option_map f a) (option_map f b) ≡ option_map f (or_else a b)
map-or f None b = refl
map-or f (Some e) b = refl

-- a test that refuses where it holds, and one that refuses where it doesn't
where-true : {D E : Type 0} (f : D → E) (test : Bool) (e : D) → cond test (Some (f e)) None ≡ option_map f (cond test (Some e) None)
where-true f true e = refl
where-true f false e = refl

where-false : {D E : Type 0} (f : D → E) (test : Bool) (e : D) → cond test None (Some (f e)) ≡ option_map f (cond test None (Some e))
where-false f true e = refl
where-false f false e = refl

-- ---- the frame

pub frame-told : (len most : ℕ) (bytes : List ℕ) → frame_refusal told len most bytes ≡ option_map refused.Kept (frame_refusal frame.told len most bytes)
unfolding short_frame wrong_count wrong_length wrong_digest
frame-told len most bytes =
    let f : KeptRefused → KeptStatesRefused = refused.Kept in
    let short = where-true f (nat_lt (length bytes) 44) (kept.Short (length bytes)) in
    let count = where-false f (nat_le 1 (kept_count bytes) && nat_le (kept_count bytes) most) (kept.States (kept_count bytes) most) in
    let long = where-false f (length bytes == kept_length (kept_count bytes) len) (kept.Length (length bytes) (kept_length (kept_count bytes) len)) in
    let digest = where-false f (bytes_eq (digest_of bytes) (sha256 (body_of bytes))) (kept.Digest (digest_of bytes) (sha256 (body_of bytes))) in
    ap₂ or_else short (ap₂ or_else count (ap₂ or_else long digest ∙ map-or f _ _) ∙ map-or f _ _) ∙ map-or f _ _

-- ---- the times

next-time : {D E : Type 0} (f : D → E) (test : Bool) (e : D) (more : Option E) (rest : Option D) → more ≡ option_map f rest
    → or_else (cond test None (Some (f e))) more ≡ option_map f (or_else (cond test None (Some e)) rest)
next-time f true e more rest same = same
next-time f false e more rest same = refl

pub times-told : (plans : List Plan) (times : List ℕ) (at : ℕ) (states : List (List ℕ))
    → first_found (λ j state. cond ((level_tests plans).epoch state == time_at times j) None (Some (told.other_time j ((level_tests plans).epoch state) (time_at times j)))) at states
    ≡ option_map refused.Kept (first_found (other_time_at times) at (map (level_banks_in plans) states))
unfolding first_found other_time_at
times-told plans times at [] = refl
times-told plans times at (state ∷ states) =
    let epoch = stands_at (level_banks_in plans state) in
    next-time refused.Kept (epoch == time_at times at) (kept.Times at epoch (time_at times at)) _ _ (times-told plans times (at + 1) states)

-- ---- all tests

pub timed : (plans : List Plan) (times bytes : List ℕ)
    → states_refusal plans times bytes ≡ or_else (untimed_refusal plans (length times) bytes) (option_map refused.Kept (other_time times (kept_stands_in plans bytes)))
unfolding kept_refusal
timed plans times bytes =
    let tests = level_tests plans in
    let xs = states_in (level_len plans) bytes in
    let first = cond (are_kept bytes) (frame_refusal told (level_len plans) (length times) bytes) None in
    or-assoc first (state_refusal tests xs) (times_refusal told tests times xs)
    ∙ ap (or_else (or_else first (state_refusal tests xs))) (times-told plans times 0 xs)
