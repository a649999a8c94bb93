-- A run file: a TOML document that has exactly the twelve keys of one table at its top, each with a lawful value. What
-- the document says and its first refusal are told apart.
use Rattle.std.specs.Prelude.{ℕ, ◌%◌, ◌≤◌, Bool, false, ◌&&◌, ◌||◌, ◌==◌, nat_le, ℤ, pos, negsuc, int_le, if◌then◌else◌, List, [], ◌∷◌, take, drop, codes, Option, Some, None, option_map, option_and_then, unwrap_or, Result, Err}
use Rattle.std.specs.List.{list_any}
use Rattle.std.specs.Str.{is_utf8, bytes_eq}
use Rattle.toml.specs.Data.{Data, as_integer, as_str, as_bool, Members, no_members, member, get_member}
use Rattle.toml.specs.Parse.{parse_document}
use Rattle.glass_edges.specs.FileNames.{is_file_name}
use Rattle.glass_edges.specs.Refusals.{or_else, first_found, unless}
use Rattle.scalar_rule.specs.declared.sample.Start.{Start}
use Rattle.scalar_rule.specs.declared.sample.Start.TheVariants as starts
use Rattle.spin_model.specs.Lattice.{IsLawfulSize, is_lawful_size}
use Rattle.spin_model.specs.Limits.{bank_samples, last_epoch, most_samples, most_sweeps}
use Rattle.threshold_table.specs.declared.rule_table.RuleKind.{RuleKind}
use Rattle.threshold_table.specs.declared.rule_table.RuleKind.TheVariants as kinds
use Rattle.run_plan.specs.declared.key.Key.{Key}
use Rattle.run_plan.specs.declared.key.Key.TheVariants.{Size, Rule, Rules, Swaps, Couplings, Sweeps, Seed, Samples, Epochs, Every, Start as StartKey, Spins}
use Rattle.run_plan.specs.declared.refused.PlanRefused.{PlanRefused}
use Rattle.run_plan.specs.declared.refused.PlanRefused.TheVariants as refused
use Rattle.run_plan.specs.declared.run_file.CouplingSource.{CouplingSource}
use Rattle.run_plan.specs.declared.run_file.CouplingSource.TheVariants as sources
use Rattle.run_plan.specs.declared.run_file.Orders.{Orders}
use Rattle.run_plan.specs.declared.run_file.RunFile.{RunFile}

-- ---- the document

-- the members at the top of the document that the bytes are, where they are one
abbrev pub document : List ℕ → Option Members
document bytes = if is_utf8 bytes then parse_document bytes else None

-- ---- the table of keys

-- the keys in the order in which they are tested
abbrev pub keys : List Key
keys = Size ∷ Rule ∷ Rules ∷ Swaps ∷ Couplings ∷ Sweeps ∷ Seed ∷ Samples ∷ Epochs ∷ Every ∷ StartKey ∷ Spins ∷ []

-- a key as a run file writes it
abbrev pub name_of : Key → List ℕ
name_of Size = codes "size"
name_of Rule = codes "rule"
name_of Rules = codes "rules"
name_of Swaps = codes "swaps"
name_of Couplings = codes "couplings"
name_of Sweeps = codes "sweeps"
name_of Seed = codes "seed"
name_of Samples = codes "samples"
name_of Epochs = codes "epochs"
name_of Every = codes "every"
name_of StartKey = codes "start"
name_of Spins = codes "spins"

-- what may stand at a key: an integer between two bounds, both included; the size of a lattice, an even integer from 4
-- to 64; one of two words; the name of a file, of 1 to 255 bytes; where couplings come from; a boolean
pub data Row : Type 0 where
  integer : ℤ → ℤ → Row
  size : Row
  word : List ℕ → List ℕ → Row
  name : Row
  source : Row
  boolean : Row

-- the row of each key
abbrev pub row_of : Key → Row
row_of Size = size
row_of Rule = word (codes "heat") (codes "metropolis")
row_of Rules = name
row_of Swaps = name
row_of Couplings = source
row_of Sweeps = integer (pos 1) (pos most_sweeps)
row_of Seed = integer (pos 0) (pos 9223372036854775807)
row_of Samples = integer (pos 1) (pos most_samples)
row_of Epochs = integer (pos 0) (pos last_epoch)
row_of Every = integer (pos 1) (pos last_epoch)
row_of StartKey = word (codes "up") (codes "random")
row_of Spins = boolean

-- ---- the first refusal

-- whether an integer lies between two bounds
abbrev pub is_between : ℤ → ℤ → ℤ → Bool
is_between least most z = int_le least z && int_le z most

-- whether an integer is the size of a lattice
abbrev pub is_size : ℤ → Bool
is_size (pos n) = is_lawful_size n
is_size (negsuc n) = false

-- whether a text is one of two
abbrev pub is_either : List ℕ → List ℕ → List ℕ → Bool
is_either first second text = bytes_eq text first || bytes_eq text second

-- whether a text names a couplings file: "file:" and a name
abbrev pub names_file : List ℕ → Bool
names_file text = bytes_eq (take 5 text) (codes "file:") && is_file_name (drop 5 text)

-- whether a text says where couplings come from: one of two words, or a couplings file
abbrev pub is_source : List ℕ → Bool
is_source text = is_either (codes "plus") (codes "random") text || names_file text

-- an integer that isn't lawful is refused with its value, and no integer as one of another kind
abbrev pub integer_refusal : Key → (ℤ → Bool) → Option ℤ → Option PlanRefused
integer_refusal key is_lawful None = Some (refused.Kind key)
integer_refusal key is_lawful (Some z) = if is_lawful z then None else Some (refused.Range key z)

-- so is a text, without its value
abbrev pub text_refusal : Key → (List ℕ → Bool) → Option (List ℕ) → Option PlanRefused
text_refusal key is_lawful None = Some (refused.Kind key)
text_refusal key is_lawful (Some text) = if is_lawful text then None else Some (refused.Word key)

-- any boolean is lawful
abbrev pub boolean_refusal : Key → Option Bool → Option PlanRefused
boolean_refusal key None = Some (refused.Kind key)
boolean_refusal key (Some b) = None

-- why the row of a key refuses a value
unfoldable pub value_refusal : Key → Row → Data → Option PlanRefused
value_refusal key (integer least most) d = integer_refusal key (is_between least most) (as_integer d)
value_refusal key size d = integer_refusal key is_size (as_integer d)
value_refusal key (word first second) d = text_refusal key (is_either first second) (as_str d)
value_refusal key name d = text_refusal key is_file_name (as_str d)
value_refusal key source d = text_refusal key is_source (as_str d)
value_refusal key boolean d = boolean_refusal key (as_bool d)

-- the value at a key
unfoldable pub value_at : Key → Members → Option Data
value_at key members = get_member (name_of key) members

-- a key must be there, and its value must be lawful
abbrev pub found_refusal : Key → Row → Option Data → Option PlanRefused
found_refusal key row None = Some (refused.Missing key)
found_refusal key row (Some d) = value_refusal key row d

unfoldable pub key_refusal : Members → Key → Option PlanRefused
key_refusal members key = found_refusal key (row_of key) (value_at key members)

-- whether a text is one of the keys
unfoldable pub is_key : List ℕ → Bool
is_key text = list_any (λ key. bytes_eq text (name_of key)) keys

-- the first key in the order of bytes, which is that of the members, that isn't in the table
abbrev pub first_unknown : Members → Option (List ℕ)
first_unknown no_members = None
first_unknown (member text d others) = if is_key text then first_unknown others else Some text

-- the keys of the table one after the other, and last those that aren't in it
unfoldable pub members_refusal : Members → Option PlanRefused
members_refusal members =
    or_else (first_found (λ _ key. key_refusal members key) 0 keys) (option_map refused.Unknown (first_unknown members))

-- ---- what the document says

-- an integer as a natural number, 0 where it is negative
abbrev pub natural : ℤ → ℕ
natural (pos n) = n
natural (negsuc n) = 0

-- the value at a key, read as each kind
unfoldable pub number_at : Key → Members → ℕ
number_at key members = natural (unwrap_or (option_and_then as_integer (value_at key members)) (pos 0))

unfoldable pub text_at : Key → Members → List ℕ
text_at key members = unwrap_or (option_and_then as_str (value_at key members)) []

unfoldable pub truth_at : Key → Members → Bool
truth_at key members = unwrap_or (option_and_then as_bool (value_at key members)) false

-- what the words mean
abbrev pub kind_of : List ℕ → RuleKind
kind_of text = if bytes_eq text (codes "heat") then kinds.Heat else kinds.Metropolis

abbrev pub source_of : List ℕ → CouplingSource
source_of text =
    if bytes_eq text (codes "plus") then sources.Plus
    else if bytes_eq text (codes "random") then sources.Random
    else sources.File (drop 5 text)

abbrev pub start_of : List ℕ → Start
start_of text = if bytes_eq text (codes "up") then starts.Up else starts.Random

-- the orders that the members are
abbrev pub orders_of : Members → Orders
orders_of members = record {
  samples = number_at Samples members;
  epochs = number_at Epochs members;
  every = number_at Every members;
  start = start_of (text_at StartKey members);
  spins = truth_at Spins members;
}

-- the run file that the members are
unfoldable pub values_of : Members → RunFile
values_of members = record {
  lattice = number_at Size members;
  kind = kind_of (text_at Rule members);
  rules = text_at Rules members;
  swaps = text_at Swaps members;
  couplings = source_of (text_at Couplings members);
  sweeps = number_at Sweeps members;
  seed = number_at Seed members;
  orders = orders_of members;
}

-- the run file that the document is, or its first refusal
abbrev pub run_file_in : Option Members → Result RunFile PlanRefused
run_file_in None = Err refused.Toml
run_file_in (Some members) = unless (members_refusal members) (values_of members)

-- the run file that the bytes are, or their first refusal
unfoldable pub run_file : List ℕ → Result RunFile PlanRefused
run_file bytes = run_file_in (document bytes)

-- ---- limits

-- orders within their limits, of at most so many samples
pub record AreOrdersUpTo (most : ℕ) (orders : Orders) : Type 0 where
  pub some_samples : 1 ≤ orders.samples
  pub few_samples : orders.samples ≤ most
  pub epochs : orders.epochs ≤ last_epoch
  pub some_every : 1 ≤ orders.every
  pub every : orders.every ≤ last_epoch

-- orders of one bank of 64 samples
abbrev pub AreLawfulOrders : Orders → Type 0
AreLawfulOrders orders = AreOrdersUpTo bank_samples orders

-- orders of up to four banks, as a run file may give them
abbrev pub AreOrdersOfBanks : Orders → Type 0
AreOrdersOfBanks orders = AreOrdersUpTo most_samples orders

-- a run file within its limits
pub record IsLawfulRunFile (file : RunFile) : Type 0 where
  pub size : IsLawfulSize file.lattice
  pub some_sweeps : 1 ≤ file.sweeps
  pub few_sweeps : file.sweeps ≤ most_sweeps
  pub seed : file.seed ≤ 9223372036854775807
  pub orders : AreOrdersOfBanks file.orders
