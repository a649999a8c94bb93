-- A run file whose samples a command can run, or is refused for.
use Rattle.std.proofs.Common.{◌≡◌, ℕ, ◌+◌, ◌≤◌, Bool, true, false, ℤ, List, [], ◌∷◌, Option, Some, None, option_map, IfSome, Result, Ok, Err, if◌then◌else◌, refl, sym, ap, subst}
use Rattle.toml.specs.Data.{Data, as_integer, as_str, as_bool, Members}
use Rattle.glass_edges.specs.FileNames.{is_file_name}
use Rattle.glass_edges.specs.Refusals.{or_else, first_found, unless}
use Rattle.run_plan.specs.RunFile.{Row, integer, size, word, name, source, boolean, row_of, is_between, is_size, is_either, is_source, integer_refusal, text_refusal, boolean_refusal, value_refusal, value_at, found_refusal, key_refusal, keys, first_unknown, members_refusal, values_of, document, run_file_in, run_file, AreLawfulOrders, IsLawfulRunFile}
use Rattle.run_plan.specs.Banks.{banks_refusal}
use Rattle.run_plan.specs.declared.key.Key.{Key}
use Rattle.run_plan.specs.declared.refused.PlanRefused.{PlanRefused}
use Rattle.run_plan.specs.declared.refused.PlanRefused.TheVariants as plan
use Rattle.run_plan.specs.declared.run_file.RunFile.{RunFile}
use Rattle.glass_main.specs.Endings.{IsOfBanked}
use Rattle.glass_main.specs.Request.{banked}
use Rattle.glass_main.specs.declared.refusal.Refusal.TheVariants as refused

-- a test that refused, and one that passed
pub unless-refused : {A E : Type 0} (found : Option E) (x : A) (tested : Result (Unit {0}) E) (e : E) → tested ≡ Err e → tested ≡ unless found tt → unless found x ≡ Err e
unless-refused None x tested e is told = absurd cc
unless-refused (Some due) x tested e is told = let same : due ≡ e = cc in ap Err same

pub unless-passed : {A E : Type 0} (found : Option E) (x : A) (tested : Result (Unit {0}) E) → tested ≡ Ok tt → tested ≡ unless found tt → unless found x ≡ Ok x
unless-passed None x tested is told = refl
unless-passed (Some due) x tested is told = absurd cc

-- the orders of a run file with at most 64 samples are those of one bank
pub orders-of-one-bank : (file : RunFile) → IsLawfulRunFile file → file.orders.samples ≤ 64 → AreLawfulOrders file.orders
orders-of-one-bank file lawful few = record {
  some_samples = lawful.orders.some_samples;
  few_samples = few;
  epochs = lawful.orders.epochs;
  some_every = lawful.orders.some_every;
  every = lawful.orders.every;
}

-- what a command of many banks refuses one of but one bank refuses too
pub refused-anyway : (read : Result RunFile PlanRefused) (e : PlanRefused) → read ≡ Err e → banked false read ≡ Err e
refused-anyway (Ok file) e is = absurd cc
refused-anyway (Err due) e is = is

pub banks-anyway : (read : Result RunFile PlanRefused) (file : RunFile) (many : Bool) (tested : Result (Unit {0}) PlanRefused) (e : PlanRefused) → read ≡ Ok file → tested ≡ Err e
    → tested ≡ unless (banks_refusal file.orders many) tt → banked false read ≡ Err e
banks-anyway (Err due) file many tested e same is told = absurd cc
banks-anyway (Ok own) file true tested e same is told = absurd cc
banks-anyway (Ok own) file false tested e same is told =
    let own_is : own ≡ file = cc in
    subst (λ (x : RunFile). unless (banks_refusal x.orders false) x ≡ Err e) (sym own_is) (unless-refused (banks_refusal file.orders false) file tested e is told)

-- ---- a run file by itself is refused for no number of samples' banks

abbrev IsOfFormat : PlanRefused → Type 0
IsOfFormat plan.Toml = Unit {0}
IsOfFormat (plan.Missing key) = Unit {0}
IsOfFormat (plan.Kind key) = Unit {0}
IsOfFormat (plan.Range key value) = Unit {0}
IsOfFormat (plan.Word key) = Unit {0}
IsOfFormat (plan.Unknown key) = Unit {0}
IsOfFormat (plan.Rows count) = Unit {0}
IsOfFormat (plan.Spins bits) = Unit {0}
IsOfFormat plan.NoMemory = Unit {0}
IsOfFormat (plan.Banks samples) = ⊥

unless-format : (passed : Bool) (e : PlanRefused) → IsOfFormat e → IfSome (if passed then None else Some e) IsOfFormat
unless-format true e h = tt
unless-format false e h = h

integer-format : (key : Key) (is_lawful : ℤ → Bool) (z : Option ℤ) → IfSome (integer_refusal key is_lawful z) IsOfFormat
integer-format key is_lawful None = tt
integer-format key is_lawful (Some z) = unless-format (is_lawful z) (plan.Range key z) tt

text-format : (key : Key) (is_lawful : List ℕ → Bool) (text : Option (List ℕ)) → IfSome (text_refusal key is_lawful text) IsOfFormat
text-format key is_lawful None = tt
text-format key is_lawful (Some text) = unless-format (is_lawful text) (plan.Word key) tt

boolean-format : (key : Key) (b : Option Bool) → IfSome (boolean_refusal key b) IsOfFormat
boolean-format key None = tt
boolean-format key (Some b) = tt

value-format : (key : Key) (row : Row) (d : Data) → IfSome (value_refusal key row d) IsOfFormat
unfolding value_refusal
value-format key (integer least most) d = integer-format key (is_between least most) (as_integer d)
value-format key size d = integer-format key is_size (as_integer d)
value-format key (word first second) d = text-format key (is_either first second) (as_str d)
value-format key name d = text-format key is_file_name (as_str d)
value-format key source d = text-format key is_source (as_str d)
value-format key boolean d = boolean-format key (as_bool d)

found-format : (key : Key) (row : Row) (d : Option Data) → IfSome (found_refusal key row d) IsOfFormat
found-format key row None = tt
found-format key row (Some d) = value-format key row d

key-format : (table : Members) (key : Key) → IfSome (key_refusal table key) IsOfFormat
unfolding key_refusal
key-format table key = found-format key (row_of key) (value_at key table)

or-format : (first later : Option PlanRefused) → IfSome first IsOfFormat → IfSome later IsOfFormat → IfSome (or_else first later) IsOfFormat
or-format None later f l = l
or-format (Some e) later f l = f

first-format : (table : Members) (at : ℕ) (tested : List Key) → IfSome (first_found (λ _ key. key_refusal table key) at tested) IsOfFormat
unfolding first_found
first-format table at [] = tt
first-format table at (key ∷ rest) =
    or-format (key_refusal table key) (first_found (λ _ k. key_refusal table k) (at + 1) rest) (key-format table key) (first-format table (at + 1) rest)

unknown-format : (text : Option (List ℕ)) → IfSome (option_map plan.Unknown text) IsOfFormat
unknown-format None = tt
unknown-format (Some text) = tt

members-format : (table : Members) → IfSome (members_refusal table) IsOfFormat
unfolding members_refusal
members-format table =
    or-format (first_found (λ _ key. key_refusal table key) 0 keys) (option_map plan.Unknown (first_unknown table)) (first-format table 0 keys) (unknown-format (first_unknown table))

due-format : (found : Option PlanRefused) (file : RunFile) (e : PlanRefused) → IfSome found IsOfFormat → unless found file ≡ Err e → IsOfFormat e
due-format None file e h is = absurd cc
due-format (Some due) file e h is = let same : due ≡ e = cc in subst IsOfFormat same h

in-format : (table : Option Members) (e : PlanRefused) → run_file_in table ≡ Err e → IsOfFormat e
in-format None e is = let same : plan.Toml ≡ e = cc in subst IsOfFormat same tt
in-format (Some table) e is = due-format (members_refusal table) (values_of table) e (members-format table) is

file-format : (bytes : List ℕ) (e : PlanRefused) → run_file bytes ≡ Err e → IsOfFormat e
unfolding run_file
file-format bytes e is = in-format (document bytes) e is

-- what is told of a run file alone fits every command
pub told-alone : (many : Bool) (bytes : List ℕ) (e : PlanRefused) → (¬ (e ≡ plan.NoMemory) → run_file bytes ≡ Err e) → IsOfBanked many (refused.Plan e)
told-alone many bytes plan.Toml due = tt
told-alone many bytes (plan.Missing key) due = tt
told-alone many bytes (plan.Kind key) due = tt
told-alone many bytes (plan.Range key value) due = tt
told-alone many bytes (plan.Word key) due = tt
told-alone many bytes (plan.Unknown key) due = tt
told-alone many bytes (plan.Rows count) due = tt
told-alone many bytes (plan.Spins bits) due = tt
told-alone many bytes plan.NoMemory due = tt
told-alone many bytes (plan.Banks samples) due = absurd (file-format bytes (plan.Banks samples) (due (λ is. absurd cc)))
