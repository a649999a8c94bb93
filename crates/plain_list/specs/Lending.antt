-- How a list is written through a reference that it lends.
use Rattle.std.specs.Prelude.{ℕ, List, ◌++◌, length, take, drop, slice_set}
use Rattle.std.specs.Borrow.{Lends, MutBor, Fml}
use denote.RattleType.{RattleType}
use denote.Array.{Array}
use Rattle.plain_list.specs.declared.items.Items.{Items}
use Rattle.plain_list.specs.contracts.items.Items.{the_row}

-- the list ends with the item at this index set to the last value behind the reference
abbrev pub LendsItem : (T : RattleType) → MutBor (Items T.Denot) → ℕ → MutBor T.Denot → Fml
LendsItem T items index r = Lends (the_row T) T items r (slice_set items.now index)

-- the list ends as the slice is when it is given back, which has as many items
abbrev pub LendsAll : (T : RattleType) → MutBor (Items T.Denot) → MutBor (List T.Denot) → Fml
LendsAll T items r = Lends (the_row T) (Array T 0) items r (λ xs. take (length items.now) (xs ++ drop (length xs) items.now))
