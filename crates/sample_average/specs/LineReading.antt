-- How the fields of a line are read from the bytes, and what follows them.
use Rattle.std.specs.Prelude.{ℕ, ◌+◌, ◌*◌, ◌-◌, ℤ, pos, neg_ℤ, Bool, ◌&&◌, ◌||◌, not, nat_le, nat_lt, ◌==◌, if◌then◌else◌, List, length, take, drop, slice_index, bytes_eq, codes, Option, Some, None}
use Rattle.std.specs.Char.{is_ascii_digit}
use Rattle.std.specs.List.{prefix_len}
use Rattle.glass_edges.specs.Decimal.{value_of}
use Rattle.spin_model.specs.Limits.{last_epoch, most_samples, most_slots}
use Rattle.sample_average.specs.LawfulReport.{sites}
use Rattle.sample_average.specs.declared.header.Header.{Header}
use Rattle.sample_average.specs.declared.header.Rule.{Rule}
use Rattle.sample_average.specs.declared.header.Rule.TheVariants as rules_of
use Rattle.sample_average.specs.declared.row.Row.{Row}

infixl 10 ◌>>=◌
abbrev pub ◌>>=◌ : {A B : Type 0} → Option A → (A → Option B) → Option B
None >>= f = None
(Some x) >>= f = f x

-- what follows this text, where the bytes begin with it
abbrev pub after : List ℕ → List ℕ → Option (List ℕ)
after text bytes = if bytes_eq (take (length text) bytes) text then Some (drop (length text) bytes) else None

-- so many digits are a number below 10^10 as it is printed, with no zero in front
abbrev pub is_plain : List ℕ → ℕ → Bool
is_plain digits count = nat_le 1 count && nat_le count 10 && (count == 1 || not (slice_index digits 0 == 48))

-- how many digits the bytes begin with
abbrev pub digits_in : List ℕ → ℕ
digits_in bytes = prefix_len is_ascii_digit bytes

-- a number that the bytes begin with, of at most so much and followed by this byte, and what comes after
unfoldable pub number_at : ℕ → ℕ → List ℕ → Option (ℕ × List ℕ)
number_at most end bytes =
    if is_plain bytes (digits_in bytes) && nat_lt (digits_in bytes) (length bytes) && slice_index bytes (digits_in bytes) == end
    && nat_le (value_of (take (digits_in bytes) bytes)) most
    then Some (value_of (take (digits_in bytes) bytes), drop (digits_in bytes + 1) bytes) else None

-- the negative number of this size; there is no minus zero
abbrev pub negative : ℕ × List ℕ → Option (ℤ × List ℕ)
negative x = if x.0 == 0 then None else Some (neg_ℤ (pos x.0), x.1)

-- the same of a number with a sign, of at most so much on both sides
unfoldable pub signed_at : ℕ → ℕ → List ℕ → Option (ℤ × List ℕ)
signed_at most end bytes = if slice_index bytes 0 == 45
    then number_at most end (drop 1 bytes) >>= negative
    else number_at most end bytes >>= (λ x. Some (pos x.0, x.1))

abbrev pub rule_at : List ℕ → Option (Rule × List ℕ)
rule_at bytes = if bytes_eq (take 5 bytes) (codes "heat ") then Some (rules_of.Heat, drop 5 bytes)
    else (after (codes "metropolis ") bytes >>= (λ rest. Some (rules_of.Metropolis, rest)))

-- the size, and the numbers of slots and samples
unfoldable pub counts_at : List ℕ → Option ((ℕ × ℕ × ℕ) × List ℕ)
counts_at bytes = do
  b0 ← after (codes "glass 1 size=") bytes
  size ← number_at 64 32 b0
  b1 ← after (codes "slots=") size.1
  slots ← number_at most_slots 32 b1
  b2 ← after (codes "samples=") slots.1
  samples ← number_at most_samples 32 b2
  Some ((size.0, slots.0, samples.0), samples.1)

-- the dynamics, and the epochs from which and to which the run goes
unfoldable pub span_at : List ℕ → Option ((Rule × ℕ × ℕ) × List ℕ)
span_at bytes = do
  b0 ← after (codes "rule=") bytes
  rule ← rule_at b0
  b1 ← after (codes "from=") rule.1
  from ← number_at last_epoch 32 b1
  b2 ← after (codes "to=") from.1
  to ← number_at last_epoch 10 b2
  Some ((rule.0, from.0, to.0), to.1)

abbrev pub header_at : List ℕ → Option (Header × List ℕ)
header_at bytes = do
  counts ← counts_at bytes
  span ← span_at counts.1
  Some (record { size = counts.0.0; slots = counts.0.1; samples = counts.0.2; rule = span.0.0; from = span.0.1; to = span.0.2 }, span.1)

-- a row whose numbers a report with this header may have
unfoldable pub row_at : Header → List ℕ → Option (Row × List ℕ)
row_at h bytes = do
  b0 ← after (codes "row,") bytes
  epoch ← number_at h.to 44 b0
  sample ← number_at h.samples 44 epoch.1
  slot ← number_at h.slots 44 sample.1
  first ← signed_at (3 * sites h) 44 slot.1
  second ← signed_at (3 * sites h) 44 first.1
  overlap ← signed_at (sites h) 44 second.1
  one ← number_at (h.slots - 1) 44 overlap.1
  other ← number_at (h.slots - 1) 10 one.1
  Some (record { epoch = epoch.0; sample = sample.0; slot = slot.0; first_energy = first.0; second_energy = second.0; overlap = overlap.0; first_replica = one.0; second_replica = other.0 }, other.1)
