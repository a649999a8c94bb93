use Rattle.std.proofs.Common.{◌≡◌, false, take}
use Rattle.std.specs.List.{list_any}
use Rattle.std.specs.Str.{bytes_eq}
use Rattle.run_plan.specs.RunFile.{name_of}
use Rattle.run_plan.proofs.key.is_key.Given as goal

abbrev pub invariant-keys : goal.invariant-keys
invariant-keys l = list_any (λ key. bytes_eq l.text (name_of key)) (take l.key-index l.key-items) ≡ false
