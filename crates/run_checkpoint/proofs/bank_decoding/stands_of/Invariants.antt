use Rattle.std.proofs.Common.{◌≡◌, ℕ, ◌<◌, ◌≤◌, ◌*◌, ◌++◌, length, map, take, drop, get_or}
use Rattle.std.specs.Arc.{arc_value}
use Rattle.plane_sweep.specs.declared.stand.Stand.{Stand}
use Rattle.run_checkpoint.specs.BankDecoding.{banks_in}
use Rattle.run_checkpoint.specs.Unfilled.{HasRoom}
use Rattle.run_checkpoint.proofs.bank_decoding.stands_of.Given as goal

abbrev pub invariant-banks : goal.invariant-banks
invariant-banks l =
    (length l.stands.items ≡ length l.plans)
    × ((j : ℕ) (d : Stand) → l.g ≤ j → j < length l.stands.items → HasRoom l.size l.slots (get_or l.stands.items j d))
    × (take l.g l.stands.items ++ banks_in l.len (drop l.g (map arc_value l.plans)) (drop (l.len * l.g) l.bytes) ≡ banks_in l.len (map arc_value l.plans) l.bytes)
