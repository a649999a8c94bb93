-- What a line may be at each place of a report, and which lines may follow there.
use Rattle.std.specs.Prelude.{◌≡◌, ℕ, ◌+◌, ◌*◌, ◌/◌, ◌%◌, ◌<◌, ◌≤◌, ◌⊎◌, Bool, false, ◌&&◌, ◌||◌, nat_le, nat_lt, ◌==◌, if◌then◌else◌, List, [], ◌∷◌, ◌++◌, length, map, take, drop, flat_map, slice_index, Option, Some, None}
use Rattle.std.specs.List.{AllByRecursion, list_all}
use Rattle.spin_model.specs.Lattice.{is_lawful_size}
use Rattle.spin_model.specs.Limits.{last_epoch, most_samples, most_slots}
use Rattle.sample_average.specs.declared.header.Header.{Header}
use Rattle.sample_average.specs.declared.row.Row.{Row}
use Rattle.sample_average.specs.declared.place.Place.{Place}
use Rattle.sample_average.specs.declared.place.Place.TheVariants as places
use Rattle.sample_average.specs.declared.place.Step.{Step}
use Rattle.sample_average.specs.LawfulReport.{sites, pairs, AreRowsFrom, AreGroups, AreDigits, is_hex, row_line, end_line, spin_head, spin_lines}
use Rattle.sample_average.specs.LineReading.{◌>>=◌, after, row_at}

-- ---- one line

-- the row of this pair that the bytes begin with, and what follows it
abbrev pub row_of : Header → ℕ → List ℕ → Option (Row × List ℕ)
row_of h pair bytes = row_at h bytes >>= (λ x. if x.0.sample == pair / h.slots && x.0.slot == pair % h.slots then Some x else None)

-- the place behind a row: the next pair's, or behind the last pair of a group a later epoch's
abbrev pub behind_row : Header → ℕ → ℕ → Place
behind_row h epoch pair = if pair + 1 == pairs h then places.Between (epoch + 1) else places.Inside epoch (pair + 1)

abbrev pub row_step : Header → ℕ → Row × List ℕ → Step × List ℕ
row_step h pair x = (record { place = behind_row h x.0.epoch pair; row = Some x.0 }, x.1)

-- the first row of a group, at an epoch from the least one on
abbrev pub first_row : Header → ℕ → List ℕ → Option (Step × List ℕ)
first_row h least bytes = row_of h 0 bytes >>= (λ x. if nat_le least x.0.epoch && nat_lt x.0.epoch h.to then Some (row_step h 0 x) else None)

-- a further row of a group
abbrev pub next_row : Header → ℕ → ℕ → List ℕ → Option (Step × List ℕ)
next_row h epoch pair bytes = row_of h pair bytes >>= (λ x. if x.0.epoch == epoch then Some (row_step h pair x) else None)

-- the end
abbrev pub end_at : Header → List ℕ → Option (Step × List ℕ)
end_at h bytes = after (end_line h.to) bytes >>= (λ rest. Some (record { place = places.Spins 0; row = None }, rest))

-- what follows so many hexadecimal digits and a line feed
abbrev pub digits_at : ℕ → List ℕ → Option (List ℕ)
digits_at count bytes = if nat_lt count (length bytes) && slice_index bytes count == 10 && list_all is_hex (take count bytes) then Some (drop (count + 1) bytes) else None

-- the spins of a replica
abbrev pub spins_at : Header → ℕ → List ℕ → Option (Step × List ℕ)
spins_at h replica bytes = if replica == 2 * pairs h then None else
    (after (spin_head h replica) bytes >>= (λ digits. digits_at (sites h / 4) digits >>= (λ rest. Some (record { place = places.Spins (replica + 1); row = None }, rest))))

-- the first that there is
abbrev pub or_then : {A : Type 0} → Option A → Option A → Option A
or_then None later = later
or_then (Some x) later = Some x

unfoldable pub line_at : Header → Place → List ℕ → Option (Step × List ℕ)
line_at h (places.Between least) bytes = or_then (first_row h least bytes) (end_at h bytes)
line_at h (places.Inside epoch pair) bytes = next_row h epoch pair bytes
line_at h (places.Spins replica) bytes = spins_at h replica bytes

-- the places that there are
abbrev pub FitsPlace : Header → Place → Type 0
FitsPlace h (places.Between least) = Unit {0}
FitsPlace h (places.Inside epoch pair) = (epoch < h.to) × (pair < pairs h)
FitsPlace h (places.Spins replica) = replica ≤ 2 * pairs h

-- ---- the lines that may follow

-- these rows may follow before the end
abbrev pub RowsFollow : Header → Place → List Row → Type 0
RowsFollow h (places.Between least) rows = (groups : List (List Row)) × AreGroups h least groups × (rows ≡ flat_map (λ xs. xs) groups)
RowsFollow h (places.Inside epoch pair) rows = (rest : List Row) × (groups : List (List Row)) × (pair + length rest ≡ pairs h) × AreRowsFrom h epoch pair rest
    × AreGroups h (epoch + 1) groups × (rows ≡ rest ++ flat_map (λ xs. xs) groups)
RowsFollow h (places.Spins replica) rows = ⊥

-- the spins of all replicas from this one on; before the first also of none
abbrev pub SpinsFollow : Header → ℕ → List (List ℕ) → Type 0
SpinsFollow h replica spins = ((replica ≡ 0) × (spins ≡ [])) ⊎ ((replica + length spins ≡ 2 * pairs h) × AllByRecursion (AreDigits h) spins)

-- these rows and spins, as lines
abbrev pub rest_lines : Header → List Row → List (List ℕ) → List (List ℕ)
rest_lines h rows spins = map row_line rows ++ (end_line h.to ∷ spin_lines h 0 spins)

-- these lines, with these rows among them, may follow up to the end of a lawful report
abbrev pub Follows : Header → Place → List (List ℕ) → List Row → Type 0
Follows h (places.Spins replica) text rows = (rows ≡ []) × (spins : List (List ℕ)) × SpinsFollow h replica spins × (text ≡ spin_lines h replica spins)
Follows h place text rows = RowsFollow h place rows × (spins : List (List ℕ)) × SpinsFollow h 0 spins × (text ≡ rest_lines h rows spins)

-- the row of a line, if it is one, and the rows behind it
abbrev pub row_then : Option Row → List Row → List Row
row_then None rows = rows
row_then (Some r) rows = r ∷ rows

-- a report may end here
abbrev pub may_end : Header → Place → Bool
may_end h (places.Spins replica) = replica == 0 || replica == 2 * pairs h
may_end h place = false

-- every number of the header is lawful
abbrev pub is_lawful : Header → Bool
is_lawful h = is_lawful_size h.size && nat_le 1 h.slots && nat_le h.slots most_slots && nat_le 1 h.samples && nat_le h.samples most_samples
    && nat_le h.from h.to && nat_le h.to last_epoch
