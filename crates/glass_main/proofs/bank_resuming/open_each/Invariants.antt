use Rattle.std.proofs.Common.{map, take}
use Rattle.std.specs.Arc.{arc_value}
use Rattle.run_checkpoint.specs.BankEncoding.{BanksFit, BanksStand}
use Rattle.glass_main.specs.ManyBanks.{openings_from}
use Rattle.glass_main.proofs.bank_resuming.open_each.Given as goal

abbrev pub invariant-banks : goal.invariant-banks
invariant-banks l = record {
  opening : BanksStand (take l.bank (map arc_value l.plans)) (openings_from 0 (take l.bank (map arc_value l.plans)) l.start) l.stands.items;
  fit : BanksFit 0 (take l.bank (map arc_value l.plans)) l.stands.items;
}
