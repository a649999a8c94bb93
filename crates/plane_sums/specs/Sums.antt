-- What a slot's sums always keep.
use Rattle.plane_sums.specs.declared.slot_sums.SlotSums.TheInside as sums
use Rattle.plane_sums.specs.Bins.{AreBins, SumsView}

abbrev pub sums_view : sums.Inside → SumsView
sums_view s = record { first = s.first; bins = s.bins }

abbrev pub KeepsSums : sums.Inside → Type 0
KeepsSums s = AreBins s.bins
