-- What is read are states at their times, of which the bytes are; and the bytes of such states are read.
use Rattle.std.specs.Prelude.{All, ◌&&◌, ◌==◌, nat_le, option_map, IfOk, IfErr, ◌⊎◌}
use Rattle.std.proofs.Common.{◌≡◌, ℕ, zero, suc, ◌+◌, ◌*◌, ◌<◌, ◌≤◌, Bool, true, false, cond, List, [], ◌∷◌, map, length, take, drop, get_or, Option, Some, None, Result, Ok, Err, refl, sym, ap, subst, ◌∙◌, arith, inl, inr}
use Rattle.std.proofs.lemmas.Bool.{and_parts, leb-true}
use Rattle.std.proofs.lemmas.List.{get_or-map, length-map}
use Rattle.glass_edges.specs.Refusals.{or_else, unless, Gives}
use Rattle.glass_edges.proofs.FirstRefusals.{if-none, or-later, or-none, unless-ok}
use Rattle.glass_edges.proofs.NumberBytes.{IsBytes, bytes-drop, bytes-take}
use Rattle.kept_states.specs.KeptReading.{level_tests, told, states_refusal, kept_stands_in, kept_decoded, stands_kept, AreBytesOf, AreKeptStates}
use Rattle.kept_states.specs.Levels.{stands_encoding, level_len, level_banks_refusal, level_banks_in, stands_at, IsLevelCheckpoint}
use Rattle.kept_states.specs.declared.refused.KeptStatesRefused.{KeptStatesRefused}
use Rattle.kept_states.specs.declared.refused.KeptStatesRefused.TheVariants as refused
use Rattle.kept_states.proofs.Levels.{IsReadAgain, stands-epoch, read-again, none-checkpoint, not-kept}
use Rattle.plane_sweep.specs.declared.stand.Stand.{Stand}
use Rattle.quenched_states.specs.ByteLaws.{HaveLength}
use Rattle.quenched_states.specs.AcceptLaws.{AreStatesAt}
use Rattle.quenched_states.specs.KeptBytes.{kept_encoding}
use Rattle.quenched_states.specs.KeptStates.{time_at, AreQuenchTimes}
use Rattle.quenched_states.specs.KeptTests.{are_kept, kept_count, state_bytes, states_in, short_frame, wrong_count, frame_refusal, state_refusal, times_refusal, kept_refusal}
use Rattle.quenched_states.proofs.Accepted.{states-accepted, accepted-states, accepted-bytes}
use Rattle.quenched_states.proofs.KeptFrames.{kept-read}
use Rattle.run_checkpoint.specs.BankEncoding.{BanksFit, HaveOneShape}
use Rattle.run_checkpoint.specs.declared.refused.CheckpointRefused.{CheckpointRefused}
use Rattle.scalar_rule.specs.Plan.{Plan, IsLawfulPlan}
use Rattle.spin_model.specs.Steps.{table}
use Rattle.spin_model.proofs.Tables.{get_or-table, length-table}

-- ---- what is read

unrefused : (found : Option CheckpointRefused) → option_map refused.State found ≡ None → None ≡ found
unrefused None is = refl
unrefused (Some e) is = absurd cc

-- as many states as are told, from one on
count-is : (most : ℕ) (bytes : List ℕ) → None ≡ wrong_count told most bytes → (1 ≤ kept_count bytes) × (kept_count bytes ≤ most)
unfolding wrong_count
count-is most bytes e =
    let both = and_parts (nat_le 1 (kept_count bytes)) (nat_le (kept_count bytes) most) (if-none _ None _ e).0 in
    (leb-true 1 (kept_count bytes) both.0, leb-true (kept_count bytes) most both.1)

written-again : (write : List Stand → List ℕ) (read : List ℕ → List Stand) (xs : List (List ℕ)) → ((k : ℕ) → k < length xs → get_or xs k [] ≡ write (read (get_or xs k [])))
    → xs ≡ map write (map read xs)
written-again write read [] each = refl
written-again write read (x ∷ xs) each =
    let rest = written-again write read xs (λ k below. each (suc k) (omega arith)) in
    ap (λ (y : List ℕ). y ∷ xs) (each 0 (omega arith)) ∙ ap (λ (ys : List (List ℕ)). write (read x) ∷ ys) rest

module _ (plans : List Plan) (times bytes : List ℕ) (some : 1 ≤ length plans) (lawful : All IsLawfulPlan plans) (quench : AreQuenchTimes times) (are : IsBytes bytes)
    (none : states_refusal plans times bytes ≡ None) where
  -- the states that are read
  abbrev read_in : List (List ℕ)
  read_in = states_in (level_len plans) bytes

  in-kept : are_kept bytes ≡ true → read_in ≡ table (state_bytes (level_len plans) bytes) (kept_count bytes)
  in-kept kept = ap (λ c. cond c (table (state_bytes (level_len plans) bytes) (kept_count bytes)) (bytes ∷ [])) kept

  in-one : are_kept bytes ≡ false → read_in ≡ bytes ∷ []
  in-one kept = ap (λ c. cond c (table (state_bytes (level_len plans) bytes) (kept_count bytes)) (bytes ∷ [])) kept

  kept-some : are_kept bytes ≡ true → (1 ≤ length read_in) × (length read_in ≤ length times)
  unfolding kept_refusal
  kept-some kept =
      let frame = frame_refusal told (level_len plans) (length times) bytes in
      let passed : None ≡ frame = (or-none (cond (are_kept bytes) frame None) _ (sym none)).0 ∙ ap (λ c. cond c frame None) kept in
      let count = count-is (length times) bytes (or-none (wrong_count told (length times) bytes) _ (or-none (short_frame told bytes) _ passed).1).0 in
      let long = ap length (in-kept kept) ∙ length-table (state_bytes (level_len plans) bytes) (kept_count bytes) in
      (omega (arith, long, count.0), omega (arith, long, count.1))

  one-some : are_kept bytes ≡ false → (1 ≤ length read_in) × (length read_in ≤ length times)
  one-some kept = let long = ap length (in-one kept) in let times_some = quench.some in (omega (arith, long), omega (arith, long))

  some-states : (b : Bool) → are_kept bytes ≡ b → (1 ≤ length read_in) × (length read_in ≤ length times)
  some-states true kept = kept-some kept
  some-states false kept = one-some kept

  all-bytes : (b : Bool) → are_kept bytes ≡ b → (k : ℕ) → k < length read_in → IsBytes (get_or read_in k [])
  all-bytes true kept k below =
      let long = ap length (in-kept kept) ∙ length-table (state_bytes (level_len plans) bytes) (kept_count bytes) in
      let own = ap (λ (xs : List (List ℕ)). get_or xs k []) (in-kept kept) ∙ get_or-table (state_bytes (level_len plans) bytes) (kept_count bytes) k [] (omega (arith, long)) in
      subst IsBytes (sym own) (bytes-take (level_len plans) _ (bytes-drop (12 + level_len plans * k) bytes are))
  all-bytes false kept zero below = subst IsBytes (sym (ap (λ (xs : List (List ℕ)). get_or xs 0 []) (in-one kept))) are
  all-bytes false kept (suc k) below = absurd (let long = ap length (in-one kept) in omega (arith, long))

  each : (k : ℕ) → k < length read_in
      → IsLevelCheckpoint plans 1000000000 (get_or read_in k []) (level_banks_in plans (get_or read_in k [])) × (stands_at (level_banks_in plans (get_or read_in k [])) ≡ time_at times k)
  each k below =
      let at = accepted-states told (level_tests plans) times bytes none k below in
      let x = get_or read_in k [] in
      (none-checkpoint plans 1000000000 x some lawful (all-bytes (are_kept bytes) refl k below) (unrefused (level_banks_refusal plans 1000000000 x) at.0), at.1)

  again : read_in ≡ map (stands_encoding plans) (map (level_banks_in plans) read_in)
  again = written-again (stands_encoding plans) (level_banks_in plans) read_in (λ k below. (each k below).0.bytes_are)

  bytes-are : (b : Bool) → are_kept bytes ≡ b → AreBytesOf plans (kept_stands_in plans bytes) bytes
  bytes-are true kept = inl (accepted-bytes told (level_tests plans) times bytes are kept none ∙ ap kept_encoding again)
  bytes-are false kept =
      let one = in-one kept in
      let own = ap (λ (xs : List (List ℕ)). get_or xs 0 []) one in
      inr (
        level_banks_in plans bytes,
        ap (λ (xs : List (List ℕ)). map (level_banks_in plans) xs) one,
        sym own ∙ (each 0 (omega (arith, ap length one))).0.bytes_are ∙ ap (λ (x : List ℕ). stands_encoding plans (level_banks_in plans x)) own,
      )

  pub none-kept : AreKeptStates plans times bytes (kept_stands_in plans bytes)
  none-kept =
      let count = some-states (are_kept bytes) refl in
      let long = length-map read_in (level_banks_in plans) in
      record {
        some = omega (arith, count.0, long);
        few = omega (arith, count.1, long);
        fit = λ j below.
            let within : j < length read_in = omega (arith, below, long) in
            let x = get_or read_in j [] in
            let own : get_or (map (level_banks_in plans) read_in) j [] ≡ level_banks_in plans x = get_or-map (level_banks_in plans) read_in j [] [] within in
            let at = each j within in
            subst (λ (stands : List Stand). BanksFit (time_at times j) plans stands) (sym own) (subst (λ e. BanksFit e plans (level_banks_in plans x)) at.1 at.0.fit);
        bytes_are = bytes-are (are_kept bytes) refl;
      }

pub kept-found : (plans : List Plan) (times bytes : List ℕ) (states : List (List Stand)) → 1 ≤ length plans → All IsLawfulPlan plans → AreQuenchTimes times → IsBytes bytes
    → kept_decoded plans times bytes ≡ Ok states → AreKeptStates plans times bytes states
unfolding kept_decoded
kept-found plans times bytes states some lawful quench are is =
    let h = unless-ok (states_refusal plans times bytes) (kept_stands_in plans bytes) states is in
    subst (AreKeptStates plans times bytes) h.1 (none-kept plans times bytes some lawful quench are (sym h.0))

-- ---- what is written

read-back : (write : List Stand → List ℕ) (read : List ℕ → List Stand) (states : List (List Stand)) → ((k : ℕ) → k < length states → read (write (get_or states k [])) ≡ get_or states k [])
    → map read (map write states) ≡ states
read-back write read [] each = refl
read-back write read (s ∷ states) each =
    let rest = read-back write read states (λ k below. each (suc k) (omega arith)) in
    ap (λ (x : List Stand). x ∷ map read (map write states)) (each 0 (omega arith)) ∙ ap (λ (xs : List (List Stand)). s ∷ xs) rest

module _ (plans : List Plan) (times : List ℕ) (states : List (List Stand)) (some : 1 ≤ length plans) (few : length plans ≤ 4) (lawful : All IsLawfulPlan plans) (shape : HaveOneShape plans)
    (quench : AreQuenchTimes times) (some_states : 1 ≤ length states) (few_states : length states ≤ length times)
    (fit : (j : ℕ) → j < length states → BanksFit (time_at times j) plans (get_or states j [])) where
  abbrev written : List (List ℕ)
  written = map (stands_encoding plans) states

  long : length written ≡ length states
  long = length-map states (stands_encoding plans)

  in-time : (j : ℕ) → j < length states → time_at times j ≤ 1000000000
  in-time j below = quench.each j 0 (omega (arith, below, few_states))

  one-again : (j : ℕ) → j < length states → IsReadAgain plans 1000000000 (get_or states j []) (stands_encoding plans (get_or states j []))
  one-again j below = read-again plans (time_at times j) 1000000000 (get_or states j []) some few lawful shape (fit j below) (in-time j below)

  own : (j : ℕ) → j < length states → get_or written j [] ≡ stands_encoding plans (get_or states j [])
  own j below = get_or-map (stands_encoding plans) states j [] [] below

  sized : HaveLength (level_len plans) written
  sized k below = let within : k < length states = omega (arith, below, long) in ap length (own k within) ∙ (one-again k within).len

  same : map (level_banks_in plans) written ≡ states
  same = read-back (stands_encoding plans) (level_banks_in plans) states (λ k below. (one-again k below).same)

  at-times : AreStatesAt KeptStatesRefused (level_tests plans) times written
  at-times k below =
      let within : k < length states = omega (arith, below, long) in
      let r = one-again k within in
      let stands = get_or states k [] in
      let bytes = stands_encoding plans stands in
      let refuses : option_map refused.State (level_banks_refusal plans 1000000000 bytes) ≡ None = ap (option_map refused.State) (sym r.none) in
      let at : stands_at (level_banks_in plans bytes) ≡ time_at times k = ap stands_at r.same ∙ stands-epoch (time_at times k) plans stands some (fit k within) in
      subst (λ (x : List ℕ). ((level_tests plans).refuses x ≡ None) × ((level_tests plans).epoch x ≡ time_at times k)) (sym (own k within)) (refuses, at)

  few-times : length times < 4294967296
  few-times = let few_times = quench.few in omega arith

  accepted : states_refusal plans times (kept_encoding written) ≡ None
  accepted = states-accepted told (level_tests plans) times written sized (omega (arith, some_states, long)) (omega (arith, few_states, long)) few-times at-times

  in-frame : states_in (level_len plans) (kept_encoding written) ≡ written
  in-frame = kept-read (level_len plans) written sized (omega (arith, few_states, long, few-times))

  pub kept-again : kept_decoded plans times (stands_kept plans states) ≡ Ok states
  unfolding kept_decoded
  kept-again = rw (accepted) (ap (λ (xs : List (List ℕ)). Ok (map (level_banks_in plans) xs)) in-frame ∙ ap (λ (xs : List (List Stand)). Ok xs) same)

  -- the tests behind those of the frame
  behind : None ≡ or_else (state_refusal (level_tests plans) written) (times_refusal told (level_tests plans) times written)
  unfolding kept_refusal
  behind =
      let bytes = kept_encoding written in
      let frame = cond (are_kept bytes) (frame_refusal told (level_len plans) (length times) bytes) None in
      (or-none frame _ (sym accepted)).1
      ∙ ap (λ (xs : List (List ℕ)). or_else (state_refusal (level_tests plans) xs) (times_refusal told (level_tests plans) times xs)) in-frame

  pub one-kept : (stands : List Stand) → states ≡ stands ∷ [] → kept_decoded plans times (stands_encoding plans stands) ≡ Ok states
  unfolding kept_decoded kept_refusal
  one-kept stands is =
      let bytes = stands_encoding plans stands in
      let tests = level_tests plans in
      let first : get_or states 0 [] ≡ stands = ap (λ (xs : List (List Stand)). get_or xs 0 []) is in
      let r = one-again 0 (omega (arith, some_states)) in
      let none : None ≡ level_banks_refusal plans 1000000000 bytes = subst (λ (s : List Stand). None ≡ level_banks_refusal plans 1000000000 (stands_encoding plans s)) first r.none in
      let kept : are_kept bytes ≡ false = not-kept plans 1000000000 bytes some none in
      let only : written ≡ bytes ∷ [] = ap (λ (xs : List (List Stand)). map (stands_encoding plans) xs) is in
      let found : states_in (level_len plans) bytes ≡ written =
      ap (λ c. cond c (table (state_bytes (level_len plans) bytes) (kept_count bytes)) (bytes ∷ [])) kept ∙ sym only in
      let tested : None ≡ states_refusal plans times bytes =
      or-later (cond (are_kept bytes) (frame_refusal told (level_len plans) (length times) bytes) None) _ None
      (sym (ap (λ c. cond c (frame_refusal told (level_len plans) (length times) bytes) None) kept))
      (behind ∙ ap (λ (xs : List (List ℕ)). or_else (state_refusal tests xs) (times_refusal told tests times xs)) (sym found)) in
      rw (← tested) (ap (λ (xs : List (List ℕ)). Ok (map (level_banks_in plans) xs)) found ∙ ap (λ (xs : List (List Stand)). Ok xs) same)

pub kept-read_again : (plans : List Plan) (times bytes : List ℕ) (states : List (List Stand)) → 1 ≤ length plans → length plans ≤ 4 → All IsLawfulPlan plans → HaveOneShape plans → AreQuenchTimes times
    → AreKeptStates plans times bytes states → kept_decoded plans times bytes ≡ Ok states
kept-read_again plans times bytes states some few lawful shape quench are = by-bytes are.bytes_are
  where
    by-bytes : AreBytesOf plans states bytes → kept_decoded plans times bytes ≡ Ok states
    by-bytes (inl is) = ap (kept_decoded plans times) is ∙ kept-again plans times states some few lawful shape quench are.some are.few are.fit
    by-bytes (inr (stands, only, is)) = ap (kept_decoded plans times) is ∙ one-kept plans times states some few lawful shape quench are.some are.few are.fit stands only

-- ---- answers

pub gives-found : (P : List (List Stand) → Type 0) (r read : Result (List (List Stand)) KeptStatesRefused) → ((states : List (List Stand)) → read ≡ Ok states → P states)
    → Gives refused.NoMemory (λ (s : List (List Stand)). s) r read → IfOk r P
gives-found P (Ok states) read holds given = holds states given
gives-found P (Err e) read holds given = tt

memory-or : (e : KeptStatesRefused) → (e ≡ refused.NoMemory) ⊎ ¬ (e ≡ refused.NoMemory)
memory-or (refused.Kept why) = inr (λ is. absurd cc)
memory-or (refused.State why) = inr (λ is. absurd cc)
memory-or refused.NoMemory = inl refl

same-ok : (a b : List (List Stand)) → ◌≡◌ {A = Result (List (List Stand)) KeptStatesRefused} (Ok a) (Ok b) → b ≡ a
same-ok a b e = cc

pub gives-only : (states : List (List Stand)) (r read : Result (List (List Stand)) KeptStatesRefused) → read ≡ Ok states → Gives refused.NoMemory (λ (s : List (List Stand)). s) r read
    → IfOk r (λ s. s ≡ states) × IfErr r (λ e. e ≡ refused.NoMemory)
gives-only states (Ok s) read is given = (same-ok states s (sym is ∙ given), tt)
gives-only states (Err e) read is given = elim (memory-or e) [
  | inl memory ↦ (tt, memory)
  | inr not ↦ let clash = sym is ∙ given not in absurd cc
]
