-- One step on stays below the side, or comes around to 0.
use Rattle.std.proofs.Common.{◌≡◌, ℕ, ◌+◌, ◌%◌, ◌<◌, ◌≤◌, sym, arith}
use Rattle.std.proofs.Math.Nat.{mod-eq_of_lt, mod_self}
use Rattle.potts_glass.proofs.surroundings.next.Goals as goal

stepped : (size c : ℕ) → c + 1 < size → c + 1 ≡ (c + 1) % size
stepped size c within = sym (mod-eq_of_lt within)

around : (size c : ℕ) → c < size → size ≤ c + 1 → 0 ≡ (c + 1) % size
around size c below past = let last : c + 1 ≡ size = omega arith in rw last (sym (mod_self size))

pub returns-then-c-size-clause-value : goal.returns-then-c-size-clause-value
returns-then-c-size-clause-value c = stepped c.args.size c.args.c (omega arith)

pub returns-else-c-size-clause-value : goal.returns-else-c-size-clause-value
returns-else-c-size-clause-value c = around c.args.size c.args.c (omega arith) (omega arith)
