-- The tests of kept states in both directions.
use Rattle.std.proofs.Common.{◌≡◌, ℕ, zero, suc, ◌+◌, ◌*◌, ◌<◌, ◌≤◌, ◌^◌, true, false, cond, nat_lt, nat_le, List, [], ◌∷◌, length, take, get_or, Option, Some, None, refl, sym, ap, subst, ◌∙◌, arith}
use Rattle.std.specs.Prelude.{◌==◌}
use Rattle.std.proofs.lemmas.Bool.{and_parts, eqb-true, eq-eqb, leb-true, le-leb, ltb-false}
use Rattle.std.proofs.lemmas.Bool.Decides.{nat_tests}
use Rattle.std.proofs.lemmas.Slice.Eq.{bytes_eq-Decides}
use Rattle.sha2.specs.Sha256.{sha256}
use Rattle.glass_edges.specs.Refusals.{or_else, first_found}
use Rattle.glass_edges.specs.Sealed.{body_of, digest_of}
use Rattle.glass_edges.proofs.FirstRefusals.{if-none, or-later, or-none}
use Rattle.glass_edges.proofs.FirstByIndex.{none-from, from-zero}
use Rattle.glass_edges.proofs.NumberBytes.{IsBytes}
use Rattle.quenched_states.specs.KeptStates.{time_at}
use Rattle.quenched_states.specs.KeptBytes.{kept_kind, kept_encoding, kept_length}
use Rattle.quenched_states.specs.KeptTests.{KeptRefusals, LevelTests, are_kept, kept_count, states_in, short_frame, wrong_count, wrong_length, wrong_digest, frame_refusal, state_refusal, times_refusal, kept_refusal}
use Rattle.quenched_states.specs.ByteLaws.{HaveLength, HasFrame}
use Rattle.quenched_states.specs.AcceptLaws.{AreStatesAt}
use Rattle.quenched_states.proofs.KeptFrames.{kept-read, kept-frame, kept-one}

module _ {E : Type 0} (tell : KeptRefusals E) where
  -- ---- the frame

  long-passes : (bytes : List ℕ) → 44 ≤ length bytes → None ≡ short_frame tell bytes
  unfolding short_frame
  long-passes bytes long = let h : nat_lt (length bytes) 44 ≡ false = grind (arith, nat_tests) in rw h refl

  count-passes : (most : ℕ) (bytes : List ℕ) → 1 ≤ kept_count bytes → kept_count bytes ≤ most → None ≡ wrong_count tell most bytes
  unfolding wrong_count
  count-passes most bytes some few = rw (le-leb 1 (kept_count bytes) some, le-leb (kept_count bytes) most few) refl

  length-passes : (len : ℕ) (bytes : List ℕ) → length bytes ≡ kept_length (kept_count bytes) len → None ≡ wrong_length tell len bytes
  unfolding wrong_length
  length-passes len bytes same = rw (eq-eqb (length bytes) (kept_length (kept_count bytes) len) same) refl

  digest-passes : (bytes : List ℕ) → digest_of bytes ≡ sha256 (body_of bytes) → None ≡ wrong_digest tell bytes
  unfolding wrong_digest
  digest-passes bytes same = rw ((bytes_eq-Decides (digest_of bytes) (sha256 (body_of bytes))).1 same) refl

  frame-passes : (len most : ℕ) (bytes : List ℕ) → HasFrame len most bytes → None ≡ frame_refusal tell len most bytes
  frame-passes len most bytes frame =
      let long = frame.long in
      or-later _ _ None (long-passes bytes (omega arith))
      (or-later _ _ None (count-passes most bytes frame.some frame.few)
      (or-later _ _ None (length-passes len bytes frame.long) (digest-passes bytes frame.digest)))

  count-is : (most : ℕ) (bytes : List ℕ) → None ≡ wrong_count tell most bytes → (1 ≤ kept_count bytes) × (kept_count bytes ≤ most)
  unfolding wrong_count
  count-is most bytes e =
      let both = and_parts (nat_le 1 (kept_count bytes)) (nat_le (kept_count bytes) most) (if-none _ None _ e).0 in
      (leb-true 1 (kept_count bytes) both.0, leb-true (kept_count bytes) most both.1)

  length-is : (len : ℕ) (bytes : List ℕ) → None ≡ wrong_length tell len bytes → length bytes ≡ kept_length (kept_count bytes) len
  unfolding wrong_length
  length-is len bytes e = eqb-true _ _ (if-none _ None _ e).0

  digest-is : (bytes : List ℕ) → None ≡ wrong_digest tell bytes → digest_of bytes ≡ sha256 (body_of bytes)
  unfolding wrong_digest
  digest-is bytes e = (bytes_eq-Decides (digest_of bytes) (sha256 (body_of bytes))).0 (if-none _ None _ e).0

  frame-is : (len most : ℕ) (bytes : List ℕ) → take 8 bytes ≡ kept_kind → None ≡ frame_refusal tell len most bytes → HasFrame len most bytes
  frame-is len most bytes kind e =
      let a = or-none (short_frame tell bytes) _ e in
      let b = or-none (wrong_count tell most bytes) _ a.1 in
      let c = or-none (wrong_length tell len bytes) _ b.1 in
      let count = count-is most bytes b.0 in
      record { kind = kind; some = count.0; few = count.1; long = length-is len bytes c.0; digest = digest-is bytes c.1 }

  -- ---- the states

  all-pass : {A : Type 0} (test : ℕ → A → Option E) (d : A) (at : ℕ) (xs : List A) → ((k : ℕ) → k < length xs → test (at + k) (get_or xs k d) ≡ None) → None ≡ first_found test at xs
  unfolding first_found
  all-pass test d at [] each = refl
  all-pass test d at (x ∷ xs) each =
      let here : at + 0 ≡ at = omega arith in
      let first = subst (λ (n : ℕ). test n x ≡ None) here (each 0 (omega arith)) in
      let rest = all-pass test d (at + 1) xs (λ k below.
      let there : at + suc k ≡ at + 1 + k = omega arith in
      subst (λ (n : ℕ). test n (get_or xs k d) ≡ None) there (each (suc k) (omega arith))) in
      or-later _ _ None (sym first) rest

  time-passes : (level : LevelTests E) (times : List ℕ) (j : ℕ) (state : List ℕ) → level.epoch state ≡ time_at times j
      → cond (level.epoch state == time_at times j) None (Some (tell.other_time j (level.epoch state) (time_at times j))) ≡ None
  time-passes level times j state same = rw (eq-eqb (level.epoch state) (time_at times j) same) refl

  time-is : (level : LevelTests E) (times : List ℕ) (j : ℕ) (state : List ℕ)
      → None ≡ cond (level.epoch state == time_at times j) None (Some (tell.other_time j (level.epoch state) (time_at times j))) → level.epoch state ≡ time_at times j
  time-is level times j state e = eqb-true _ _ (if-none _ None _ e).0

  states-pass : (level : LevelTests E) (times : List ℕ) (states : List (List ℕ)) → AreStatesAt E level times states
      → None ≡ or_else (state_refusal level states) (times_refusal tell level times states)
  states-pass level times states are =
      or-later _ _ None
      (all-pass (λ j state. level.refuses state) [] 0 states (λ k below. (are k below).0))
      (all-pass (λ j state. cond (level.epoch state == time_at times j) None (Some (tell.other_time j (level.epoch state) (time_at times j)))) [] 0 states
      (λ k below. let here : 0 + k ≡ k = omega arith in
      ap (λ n. cond (level.epoch (get_or states k []) == time_at times n) None (Some (tell.other_time n (level.epoch (get_or states k [])) (time_at times n)))) here
      ∙ time-passes level times k (get_or states k []) (are k below).1))

  states-are : (level : LevelTests E) (times : List ℕ) (states : List (List ℕ))
      → None ≡ or_else (state_refusal level states) (times_refusal tell level times states) → AreStatesAt E level times states
  states-are level times states e =
      let both = or-none (state_refusal level states) _ e in
      let one = λ (k : ℕ) (below : k < length states). none-from (λ j state. level.refuses state) 0 states (sym both.0) k [] below in
      let test = λ (j : ℕ) (state : List ℕ). cond (level.epoch state == time_at times j) None (Some (tell.other_time j (level.epoch state) (time_at times j))) in
      λ k below. (one k below, time-is level times k (get_or states k []) (sym (from-zero test k (get_or states k []) None (none-from test 0 states (sym both.1) k [] below))))

  -- ---- all tests

  chosen : (bytes : List ℕ) (frame : Option E) → are_kept bytes ≡ true → cond (are_kept bytes) frame None ≡ frame
  chosen bytes frame kept = ap (λ c. cond c frame None) kept

  pub states-accepted : (level : LevelTests E) (times : List ℕ) (states : List (List ℕ)) → HaveLength level.len states → 1 ≤ length states
      → length states ≤ length times → length times < 2 ^ 32 → AreStatesAt E level times states → kept_refusal tell level times (kept_encoding states) ≡ None
  unfolding kept_refusal
  states-accepted level times states sized some few small are =
      let bytes = kept_encoding states in
      let frame = kept-frame level.len (length times) states sized some few small in
      let kept = (bytes_eq-Decides (take 8 bytes) kept_kind).1 frame.kind in
      let read = kept-read level.len states sized (omega arith) in
      sym (or-later _ _ None
      (frame-passes level.len (length times) bytes frame ∙ sym (chosen bytes (frame_refusal tell level.len (length times) bytes) kept))
      (states-pass level times states are ∙ ap (λ v. or_else (state_refusal level v) (times_refusal tell level times v)) (sym read)))

  pub accepted-states : (level : LevelTests E) (times bytes : List ℕ) → kept_refusal tell level times bytes ≡ None → AreStatesAt E level times (states_in level.len bytes)
  unfolding kept_refusal
  accepted-states level times bytes e = states-are level times (states_in level.len bytes) (or-none (cond (are_kept bytes) (frame_refusal tell level.len (length times) bytes) None) _ (sym e)).1

  pub accepted-bytes : (level : LevelTests E) (times bytes : List ℕ) → IsBytes bytes → are_kept bytes ≡ true → kept_refusal tell level times bytes ≡ None
      → bytes ≡ kept_encoding (states_in level.len bytes)
  unfolding kept_refusal
  accepted-bytes level times bytes are kept e =
      let frame = frame_refusal tell level.len (length times) bytes in
      let passed = (or-none (cond (are_kept bytes) frame None) _ (sym e)).0 ∙ chosen bytes frame kept in
      let kind = (bytes_eq-Decides (take 8 bytes) kept_kind).0 kept in
      kept-one level.len (length times) bytes are (frame-is level.len (length times) bytes kind passed)
