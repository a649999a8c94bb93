-- The limits of seven thresholds, case by case.
use Rattle.std.proofs.Common.{ℕ, zero, suc, ◌<◌, ℤ, to_z, of_z, w64, arith}
use mir.Val.{SFits}
use Rattle.std.proofs.lemmas.Int.{to_z-of_z}
use Rattle.local_rule.specs.ReadyRules.{IsLimit}

-- what holds in each of seven cases
pub seven-each : (P : ℕ → Type 0) → P 0 → P 1 → P 2 → P 3 → P 4 → P 5 → P 6 → (case : ℕ) → case < 7 → P case
seven-each P a b c d e f g zero h = a
seven-each P a b c d e f g (suc zero) h = b
seven-each P a b c d e f g (suc (suc zero)) h = c
seven-each P a b c d e f g (suc (suc (suc zero))) h = d
seven-each P a b c d e f g (suc (suc (suc (suc zero)))) h = e
seven-each P a b c d e f g (suc (suc (suc (suc (suc zero))))) h = f
seven-each P a b c d e f g (suc (suc (suc (suc (suc (suc zero)))))) h = g
seven-each P a b c d e f g (suc (suc (suc (suc (suc (suc (suc n))))))) h = absurd (omega arith)

-- a limit as it is kept, in a word
pub kept-limit : (t : ℕ) (z : ℤ) → SFits w64 z → IsLimit t z → IsLimit t (to_z w64 (of_z w64 z))
kept-limit t z fits is = λ d h. rw (to_z-of_z w64 z fits) (is d h)
