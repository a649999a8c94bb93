-- One step more of the reader, and what it answers.
use Rattle.std.specs.Prelude.{◌==◌, option_map}
use Rattle.std.proofs.Common.{◌≡◌, ℕ, ◌+◌, ◌*◌, ◌<◌, ◌≤◌, Bool, true, false, cond, List, [], ◌∷◌, ◌++◌, map, length, drop, get_or, Option, Some, None, Result, Ok, Err, refl, sym, ap, ap₂, subst, ◌∙◌, arith, append_assoc, append-nil}
use Rattle.std.proofs.lemmas.Bool.{eqb-true, eq-eqb}
use native.Mathlib.Nat.{mul_comm}
use Rattle.std.proofs.lemmas.List.{drop_more, drop_all, length-append}
use Rattle.glass_edges.specs.Refusals.{or_else, first_found, unless, Gives}
use Rattle.glass_edges.proofs.FirstRefusals.{goes-on, ends, nothing, unless-ok}
use Rattle.kept_frame.specs.Told as frame
use Rattle.kept_frame.specs.declared.refused.KeptRefused.{KeptRefused}
use Rattle.kept_frame.specs.declared.refused.KeptRefused.TheVariants as kept
use Rattle.kept_states.specs.KeptReading.{level_tests, told, states_refusal, kept_stands_in, kept_decoded}
use Rattle.kept_states.specs.Levels.{level_len, level_banks_in, level_banks_refusal, level_banks_decoded, stands_at}
use Rattle.kept_states.specs.Steps.{untimed_refusal, untimed_decoded, states_decoded, state_decoded, other_time_at, other_time, AreReadTo}
use Rattle.kept_states.specs.declared.refused.KeptStatesRefused.{KeptStatesRefused}
use Rattle.kept_states.specs.declared.refused.KeptStatesRefused.TheVariants as refused
use Rattle.kept_states.proofs.Refusals.{frame-told, timed}
use Rattle.plane_sweep.specs.declared.stand.Stand.{Stand}
use Rattle.run_checkpoint.proofs.Items.{item-room}
use Rattle.quenched_states.specs.KeptStates.{time_at}
use Rattle.quenched_states.specs.KeptTests.{are_kept, kept_count, state_bytes, states_in, frame_refusal, state_refusal}
use Rattle.scalar_rule.specs.Plan.{Plan}
use Rattle.spin_model.specs.Steps.{table}
use Rattle.spin_model.proofs.Tables.{get_or-table, length-table}

-- ---- answers

-- the refusal of the call inside
pub gives-err : {A : Type 0} (r : Result A KeptStatesRefused) (e own : KeptStatesRefused) (read : Result A KeptStatesRefused) → r ≡ Err e → e ≡ own
    → (¬ (own ≡ refused.NoMemory) → read ≡ Err own) → Gives refused.NoMemory (λ (x : A). x) r read
gives-err r e own read is same due = rw (is, same) due

same-err : {A : Type 0} (a b : KeptStatesRefused) → ◌≡◌ {A = Result A KeptStatesRefused} (Err a) (Err b) → a ≡ b
same-err a b e = cc

-- what a refusal is of
unless-err : {A : Type 0} (found : Option KeptStatesRefused) (x : A) (e : KeptStatesRefused) → unless found x ≡ Err e → Some e ≡ found
unless-err None x e is = absurd cc
unless-err {A = A} (Some due) x e is = ap (λ (d : KeptStatesRefused). Some d) (sym (same-err {A = A} due e is))

-- ---- states one after the other

-- the states from one on
cut : (item : ℕ → List ℕ) (n j : ℕ) (state : List ℕ) → j < n → state ≡ item j → drop j (table item n) ≡ state ∷ drop (j + 1) (table item n)
cut item n j state below is =
    drop_more (table item n) j [] (omega (arith, below, length-table item n))
    ∙ ap (λ (x : List ℕ). x ∷ drop (j + 1) (table item n)) (get_or-table item n j [] below ∙ sym is)

pub none-read : (plans : List Plan) (found : List (List ℕ)) (states : List (List Stand)) → states ≡ [] → AreReadTo plans found 0 states
none-read plans found states none = rw (none) (record { count = refl; passed = refl; read = refl })

pub next-read : (plans : List Plan) (item : ℕ → List ℕ) (n j : ℕ) (state : List ℕ) (stands : List Stand) (old new : List (List Stand)) → j < n → state ≡ item j
    → state_decoded plans state ≡ Ok stands → new ≡ old ++ stands ∷ [] → AreReadTo plans (table item n) j old → AreReadTo plans (table item n) (j + 1) new
unfolding state_decoded
next-read plans item n j state stands old new below is read put so_far =
    let own = unless-ok ((level_tests plans).refuses state) (level_banks_in plans state) stands read in
    let rest = drop (j + 1) (table item n) in
    let next = cut item n j state below is in
    let f = level_banks_in plans in
    record {
      count = ap length put ∙ omega (arith, length-append old (stands ∷ []), so_far.count);
      passed = goes-on (λ (k : ℕ) (s : List ℕ). (level_tests plans).refuses s) j state rest (drop j (table item n)) _ next own.0 so_far.passed;
      read = ap (λ (xs : List (List Stand)). xs ++ map f rest) put ∙ append_assoc old (stands ∷ []) (map f rest)
          ∙ ap (λ (x : List Stand). old ++ x ∷ map f rest) (sym own.1) ∙ ap (λ (xs : List (List ℕ)). old ++ map f xs) (sym next) ∙ so_far.read;
    }

pub next-refused : (plans : List Plan) (item : ℕ → List ℕ) (n j : ℕ) (state : List ℕ) (e : KeptStatesRefused) (old : List (List Stand)) → j < n → state ≡ item j
    → state_decoded plans state ≡ Err e → AreReadTo plans (table item n) j old → states_decoded plans (table item n) ≡ Err e
unfolding state_decoded states_decoded
next-refused plans item n j state e old below is read so_far =
    let due = unless-err ((level_tests plans).refuses state) (level_banks_in plans state) e read in
    let found = ends (λ (k : ℕ) (s : List ℕ). (level_tests plans).refuses s) j state (drop (j + 1) (table item n)) (drop j (table item n)) e _ (cut item n j state below is) due so_far.passed in
    rw (← found) refl

pub all-read : (plans : List Plan) (item : ℕ → List ℕ) (n j : ℕ) (states : List (List Stand)) → n ≤ j → AreReadTo plans (table item n) j states → states_decoded plans (table item n) ≡ Ok states
unfolding states_decoded
all-read plans item n j states long so_far =
    let end = drop_all j (table item n) (omega (arith, long, length-table item n)) in
    let none = nothing (λ (k : ℕ) (s : List ℕ). (level_tests plans).refuses s) j (drop j (table item n)) _ end so_far.passed in
    let same = sym so_far.read ∙ ap (λ (xs : List (List ℕ)). states ++ map (level_banks_in plans) xs) end ∙ append-nil states in
    rw (← none) (ap (λ (xs : List (List Stand)). Ok xs) same)

-- ---- one state alone

pub one-state : (plans : List Plan) (bytes : List ℕ) (stands : List Stand) → state_decoded plans bytes ≡ Ok stands → states_decoded plans (bytes ∷ []) ≡ Ok (stands ∷ [])
unfolding state_decoded states_decoded first_found
one-state plans bytes stands read =
    let own = unless-ok ((level_tests plans).refuses bytes) (level_banks_in plans bytes) stands read in
    rw (← own.0) (ap (λ (x : List Stand). Ok (x ∷ [])) own.1)

pub one-refused : (plans : List Plan) (bytes : List ℕ) (e : KeptStatesRefused) → state_decoded plans bytes ≡ Err e → states_decoded plans (bytes ∷ []) ≡ Err e
unfolding state_decoded states_decoded first_found
one-refused plans bytes e read =
    let due = unless-err ((level_tests plans).refuses bytes) (level_banks_in plans bytes) e read in
    rw (← due) refl

-- ---- behind the frame

module _ (plans : List Plan) (most : ℕ) (bytes : List ℕ) where
  -- as the letters are those of kept states or others
  by-letters : Bool → Result (List (List Stand)) KeptStatesRefused
  by-letters kept =
      let found = cond kept (table (state_bytes (level_len plans) bytes) (kept_count bytes)) (bytes ∷ []) in
      unless (or_else (cond kept (frame_refusal told (level_len plans) most bytes) None) (state_refusal (level_tests plans) found)) (map (level_banks_in plans) found)

  pub untimed-one : are_kept bytes ≡ false → states_decoded plans (bytes ∷ []) ≡ untimed_decoded plans most bytes
  unfolding states_decoded untimed_decoded by-letters
  untimed-one kept = sym (ap by-letters kept)

  pub untimed-refused : (e : KeptRefused) → are_kept bytes ≡ true → Some e ≡ frame_refusal frame.told (level_len plans) most bytes → untimed_decoded plans most bytes ≡ Err (refused.Kept e)
  unfolding untimed_decoded by-letters
  untimed-refused e kept due =
      let told_so : frame_refusal told (level_len plans) most bytes ≡ Some (refused.Kept e) = frame-told (level_len plans) most bytes ∙ ap (option_map refused.Kept) (sym due) in
      ap by-letters kept ∙ rw (told_so) refl

  pub untimed-kept : are_kept bytes ≡ true → None ≡ frame_refusal frame.told (level_len plans) most bytes
      → states_decoded plans (table (state_bytes (level_len plans) bytes) (kept_count bytes)) ≡ untimed_decoded plans most bytes
  unfolding states_decoded untimed_decoded by-letters
  untimed-kept kept none =
      let told_so : frame_refusal told (level_len plans) most bytes ≡ None = frame-told (level_len plans) most bytes ∙ ap (option_map refused.Kept) (sym none) in
      sym (ap by-letters kept ∙ rw (told_so) refl)

-- ---- with the times

module _ (plans : List Plan) (times bytes : List ℕ) where
  by-times : Option KeptStatesRefused → Option KeptStatesRefused → Result (List (List Stand)) KeptStatesRefused
  by-times first time = unless (or_else first time) (kept_stands_in plans bytes)

  whole : kept_decoded plans times bytes ≡ by-times (untimed_refusal plans (length times) bytes) (option_map refused.Kept (other_time times (kept_stands_in plans bytes)))
  unfolding kept_decoded by-times
  whole = ap (λ (f : Option KeptStatesRefused). unless f (kept_stands_in plans bytes)) (timed plans times bytes)

  pub timed-err : (e : KeptStatesRefused) → untimed_decoded plans (length times) bytes ≡ Err e → kept_decoded plans times bytes ≡ Err e
  unfolding untimed_decoded by-times
  timed-err e is =
      let due = unless-err (untimed_refusal plans (length times) bytes) (kept_stands_in plans bytes) e is in
      whole ∙ ap (λ f. by-times f (option_map refused.Kept (other_time times (kept_stands_in plans bytes)))) (sym due)

  timed-by : (states : List (List Stand)) (found : Option KeptRefused) → untimed_decoded plans (length times) bytes ≡ Ok states → found ≡ other_time times states
      → kept_decoded plans times bytes ≡ unless (option_map refused.Kept found) states
  unfolding untimed_decoded by-times
  timed-by states found is time =
      let own = unless-ok (untimed_refusal plans (length times) bytes) (kept_stands_in plans bytes) states is in
      whole ∙ ap (λ f. by-times f (option_map refused.Kept (other_time times (kept_stands_in plans bytes)))) (sym own.0)
      ∙ ap (λ (xs : List (List Stand)). unless (option_map refused.Kept (other_time times xs)) xs) own.1
      ∙ ap (λ (f : Option KeptRefused). unless (option_map refused.Kept f) states) (sym time)

  pub timed-refused : (states : List (List Stand)) (e : KeptRefused) → untimed_decoded plans (length times) bytes ≡ Ok states → Some e ≡ other_time times states
      → kept_decoded plans times bytes ≡ Err (refused.Kept e)
  timed-refused states e is time = timed-by states (Some e) is time

  pub timed-ok : (states : List (List Stand)) → untimed_decoded plans (length times) bytes ≡ Ok states → None ≡ other_time times states → kept_decoded plans times bytes ≡ Ok states
  timed-ok states is time = timed-by states None is time

-- ---- the times one after the other

pub time-differs : (times : List ℕ) (j epoch : ℕ) (stands : List Stand) → epoch ≡ stands_at stands → (epoch ≡ time_at times j → ⊥) → Some (kept.Times j epoch (time_at times j)) ≡ other_time_at times j stands
unfolding other_time_at
time-differs times j epoch stands is other = subst (λ e. Some (kept.Times j epoch (time_at times j)) ≡ cond (e == time_at times j) None (Some (kept.Times j e (time_at times j)))) is (differs (epoch == time_at times j) refl)
  where
    differs : (b : Bool) → (epoch == time_at times j) ≡ b → Some (kept.Times j epoch (time_at times j)) ≡ cond b None (Some (kept.Times j epoch (time_at times j)))
    differs true same = absurd (other (eqb-true _ _ same))
    differs false same = refl

pub time-agrees : (times : List ℕ) (j epoch : ℕ) (stands : List Stand) → epoch ≡ stands_at stands → epoch ≡ time_at times j → None ≡ other_time_at times j stands
unfolding other_time_at
time-agrees times j epoch stands is same = rw (eq-eqb (stands_at stands) (time_at times j) (sym is ∙ same)) refl

pub next-stands : (states : List (List Stand)) (j : ℕ) (stands : List Stand) → j < length states → stands ≡ get_or states j stands → drop j states ≡ stands ∷ drop (j + 1) states
next-stands states j stands below is = drop_more states j stands below ∙ ap (λ (x : List Stand). x ∷ drop (j + 1) states) (sym is)

-- the bytes of a state stand before the digest
pub state-room : (len n j long : ℕ) → j < n → long ≡ 44 + n * len → 12 + len * j + len ≤ long
state-room len n j long below is = let room = item-room len n j below in let turned = mul_comm n len in omega (arith, is, room, turned)
