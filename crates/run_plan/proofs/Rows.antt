-- What holds of the value at a key that isn't refused.
use Rattle.std.proofs.Common.{◌≡◌, ℕ, ◌≤◌, ◌+◌, Bool, true, false, cond, ◌&&◌, ◌||◌, ℤ, pos, negsuc, List, [], ◌∷◌, length, Option, Some, None, Result, Ok, Err, refl, sym, ap, ◌∙◌}
use Rattle.std.specs.Prelude.{codes, is_some, unwrap_or, option_and_then, int_le, nat_le, IfErr, ◌%◌, ◌==◌}
use Rattle.std.specs.Result.{IsOk}
use Rattle.std.proofs.lemmas.Bool.{false≢true, and_parts, leb-true, eqb-true}
use Rattle.toml.specs.Data.{Data, Members, as_integer, as_str}
use Rattle.glass_edges.specs.FileNames.{is_file_name}
use Rattle.glass_edges.specs.Refusals.{or_else, first_found}
use Rattle.spin_model.specs.Lattice.{IsLawfulSize}
use Rattle.run_plan.specs.declared.key.Key.{Key}
use Rattle.run_plan.specs.declared.key.Key.TheVariants.{Size, Rule, Rules, Swaps, Couplings, Sweeps, Seed, Samples, Epochs, Every, Start as StartKey, Spins}
use Rattle.run_plan.specs.declared.refused.PlanRefused.{PlanRefused}
use Rattle.run_plan.specs.RunFile.{integer, size, name, source, keys, row_of, is_between, is_size, is_either, is_source, names_file, natural, value_refusal, found_refusal, integer_refusal, text_refusal, key_refusal, value_at, number_at, text_at, values_of, IsLawfulRunFile}

not-none : {E C : Type 0} (e : E) → Some e ≡ None → C
not-none e h = absurd (false≢true (sym (ap is_some h)))

-- a test that refuses nothing was passed
passes : {E : Type 0} (test : Bool) (e : E) → cond test None (Some e) ≡ None → test ≡ true
passes true e h = refl
passes false e h = not-none e h

-- ---- integers

in-bounds : (key : Key) (least most : ℕ) (z : Option ℤ) → integer_refusal key (is_between (pos least) (pos most)) z ≡ None → (least ≤ natural (unwrap_or z (pos 0))) × (natural (unwrap_or z (pos 0)) ≤ most)
in-bounds key least most None h = not-none _ h
in-bounds key least most (Some (pos n)) h =
    let (above, below) = and_parts (int_le (pos least) (pos n)) (int_le (pos n) (pos most)) (passes _ _ h) in
    (leb-true least n above, leb-true n most below)
in-bounds key least most (Some (negsuc n)) h = absurd (false≢true (and_parts (int_le (pos least) (negsuc n)) (int_le (negsuc n) (pos most)) (passes _ _ h)).0)

bounded : (key : Key) (least most : ℕ) (o : Option Data) → found_refusal key (integer (pos least) (pos most)) o ≡ None
    → (least ≤ natural (unwrap_or (option_and_then as_integer o) (pos 0))) × (natural (unwrap_or (option_and_then as_integer o) (pos 0)) ≤ most)
unfolding value_refusal
bounded key least most None h = not-none _ h
bounded key least most (Some d) h = in-bounds key least most (as_integer d) h

-- an integer lies between its bounds
pub number-bounded : (members : Members) (key : Key) (least most : ℕ) → row_of key ≡ integer (pos least) (pos most) → key_refusal members key ≡ None → (least ≤ number_at key members) × (number_at key members ≤ most)
unfolding key_refusal number_at
number-bounded members key least most row h = bounded key least most (value_at key members) (ap (λ r. found_refusal key r (value_at key members)) (sym row) ∙ h)

size-in : (key : Key) (z : Option ℤ) → integer_refusal key is_size z ≡ None → IsLawfulSize (natural (unwrap_or z (pos 0)))
size-in key None h = not-none _ h
size-in key (Some (pos n)) h =
    let (both, even) = and_parts (nat_le 4 n && nat_le n 64) (n % 2 == 0) (passes _ _ h) in
    let (least, most) = and_parts (nat_le 4 n) (nat_le n 64) both in
    search (leb-true 4 n least, leb-true n 64 most, eqb-true (n % 2) 0 even)
size-in key (Some (negsuc n)) h = not-none _ h

size-found : (o : Option Data) → found_refusal Size size o ≡ None → IsLawfulSize (natural (unwrap_or (option_and_then as_integer o) (pos 0)))
unfolding value_refusal
size-found None h = not-none _ h
size-found (Some d) h = size-in Size (as_integer d) h

-- the size is that of a lattice
pub size-lawful : (members : Members) → key_refusal members Size ≡ None → IsLawfulSize (number_at Size members)
unfolding key_refusal number_at
size-lawful members h = size-found (value_at Size members) h

-- and so it is accepted
pub accepted : {A E : Type 0} (P : Type 0) (Q : E → Type 0) (r : Result A E) → IfErr r (λ e. Q e × ¬ P) → P → IsOk r
accepted P Q (Ok x) refuses lawful = refl
accepted P Q (Err e) refuses lawful = absurd (refuses.1 lawful)

-- ---- texts

name-in : (key : Key) (text : Option (List ℕ)) → text_refusal key is_file_name text ≡ None → (1 ≤ length (unwrap_or text [])) × (length (unwrap_or text []) ≤ 255)
name-in key None h = not-none _ h
name-in key (Some text) h =
    let (some, short) = and_parts (nat_le 1 (length text)) (nat_le (length text) 255) (passes _ _ h) in
    (leb-true 1 (length text) some, leb-true (length text) 255 short)

name-found : (key : Key) (o : Option Data) → found_refusal key name o ≡ None → (1 ≤ length (unwrap_or (option_and_then as_str o) [])) × (length (unwrap_or (option_and_then as_str o) []) ≤ 255)
unfolding value_refusal
name-found key None h = not-none _ h
name-found key (Some d) h = name-in key (as_str d) h

-- a name has 1 to 255 bytes
pub name-sized : (members : Members) (key : Key) → row_of key ≡ name → key_refusal members key ≡ None → (1 ≤ length (text_at key members)) × (length (text_at key members) ≤ 255)
unfolding key_refusal text_at
name-sized members key row h = name-found key (value_at key members) (ap (λ r. found_refusal key r (value_at key members)) (sym row) ∙ h)

-- where couplings come from that are neither of the two words
source-in : (key : Key) (text : Option (List ℕ)) → text_refusal key is_source text ≡ None → is_either (codes "plus") (codes "random") (unwrap_or text []) ≡ false → names_file (unwrap_or text []) ≡ true
source-in key None h other = not-none _ h
source-in key (Some text) h other =
    ap (λ t. t || names_file text) (sym other) ∙ passes (is_source text) _ h

source-found : (key : Key) (o : Option Data) → found_refusal key source o ≡ None → is_either (codes "plus") (codes "random") (unwrap_or (option_and_then as_str o) []) ≡ false → names_file (unwrap_or (option_and_then as_str o) []) ≡ true
unfolding value_refusal
source-found key None h other = not-none _ h
source-found key (Some d) h other = source-in key (as_str d) h other

-- name a couplings file
pub source-named : (members : Members) → key_refusal members Couplings ≡ None → is_either (codes "plus") (codes "random") (text_at Couplings members) ≡ false → names_file (text_at Couplings members) ≡ true
unfolding key_refusal text_at
source-named members h other = source-found Couplings (value_at Couplings members) h other

-- ---- all keys

-- the first of two refusals, where there is none
neither : {E : Type 0} (first later : Option E) → or_else first later ≡ None → (first ≡ None) × (later ≡ None)
neither None later h = (refl, h)
neither (Some e) later h = not-none e h

-- what passes the test after a key that passes
after : {E : Type 0} (test : ℕ → Key → Option E) (at : ℕ) (key : Key) (others : List Key) → first_found test at (key ∷ others) ≡ None → (test at key ≡ None) × (first_found test (at + 1) others ≡ None)
unfolding first_found
after test at key others h = neither (test at key) (first_found test (at + 1) others) h

-- where no key is refused first, none is refused
pub each-passes : (members : Members) → first_found (λ _ key. key_refusal members key) 0 keys ≡ None → (key : Key) → key_refusal members key ≡ None
each-passes members h =
    let t : ℕ → Key → Option PlanRefused = λ _ key. key_refusal members key in
    let h1 = after t _ _ _ h in
    let h2 = after t _ _ _ h1.1 in
    let h3 = after t _ _ _ h2.1 in
    let h4 = after t _ _ _ h3.1 in
    let h5 = after t _ _ _ h4.1 in
    let h6 = after t _ _ _ h5.1 in
    let h7 = after t _ _ _ h6.1 in
    let h8 = after t _ _ _ h7.1 in
    let h9 = after t _ _ _ h8.1 in
    let h10 = after t _ _ _ h9.1 in
    let h11 = after t _ _ _ h10.1 in
    let h12 = after t _ _ _ h11.1 in
    λ key. elim key as (λ k. key_refusal members k ≡ None) [ Size ↦ h1.0 | Rule ↦ h2.0 | Rules ↦ h3.0 | Swaps ↦ h4.0 | Couplings ↦ h5.0 | Sweeps ↦ h6.0 | Seed ↦ h7.0 | Samples ↦ h8.0 | Epochs ↦ h9.0 | Every ↦ h10.0 | StartKey ↦ h11.0 | Spins ↦ h12.0 ]

-- what the members say is then within its limits
pub values-lawful : (members : Members) → ((key : Key) → key_refusal members key ≡ None) → IsLawfulRunFile (values_of members)
unfolding values_of
values-lawful members passed =
    let sweeps = number-bounded members Sweeps 1 1000000 refl (passed Sweeps) in
    let seed = number-bounded members Seed 0 9223372036854775807 refl (passed Seed) in
    let samples = number-bounded members Samples 1 256 refl (passed Samples) in
    let epochs = number-bounded members Epochs 0 1000000000 refl (passed Epochs) in
    let every = number-bounded members Every 1 1000000000 refl (passed Every) in
    record {
      size = size-lawful members (passed Size);
      some_sweeps = sweeps.0;
      few_sweeps = sweeps.1;
      seed = seed.1;
      orders = record { some_samples = samples.0; few_samples = samples.1; epochs = epochs.1; some_every = every.0; every = every.1 };
    }
