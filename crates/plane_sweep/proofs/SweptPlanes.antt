-- A plane after its half sweep.
use Rattle.std.proofs.Common.{◌≡◌, ℕ, zero, suc, ◌+◌, ◌%◌, ◌^◌, ◌<◌, List, All, drop, get_or, sym, subst, ◌∙◌, arith, get_or-drop, length-drop}
use Rattle.std.proofs.lemmas.Nat.{mod_below, pow_pos}
use Rattle.coupling_set.specs.CouplingWords.{CouplingsView}
use Rattle.spin_model.specs.Lattice.{half_plane}
use Rattle.spin_model.specs.Stream.{shifted, advanced, draws}
use Rattle.spin_model.specs.Words.{AreGeneratorWords}
use Rattle.spin_model.proofs.Streams.{length-advanced}
use Rattle.plane_sweep.specs.Packed.{FitsPlane}
use Rattle.plane_sweep.specs.PlaneSweep.{SweepsWords, SweepsPlane}
use Rattle.plane_sweep.specs.declared.replica.Plane.{Plane}
use Rattle.threshold_table.specs.declared.rule_table.SlotRule.{SlotRule}
use Rattle.plane_sweep.proofs.Gathering.{all-pushed, all-changed}

shifted-in_range : (v : List ℕ) → All (λ word. word < 2 ^ 32) v → All (λ word. word < 2 ^ 32) (shifted v)
shifted-in_range v fit =
    all-pushed (λ word. word < 2 ^ 32) (drop 1 v) ((get_or v 37 0 + get_or v 6 0) % 2 ^ 32)
    (λ k d within. let P : ℕ → Type 0 = λ n. n < 2 ^ 32 in subst P (sym (get_or-drop 1 v k d)) (fit (1 + k) d (omega (arith, length-drop 1 v))))
    (mod_below (get_or v 37 0 + get_or v 6 0) (2 ^ 32) (pow_pos 32))

advanced-in_range : (w : List ℕ) (n : ℕ) → All (λ word. word < 2 ^ 32) w → All (λ word. word < 2 ^ 32) (advanced w n)
unfolding advanced
advanced-in_range w zero fit = fit
advanced-in_range w (suc n) fit = shifted-in_range (advanced w n) (advanced-in_range w n fit)

-- a generator is one after any number of draws
pub advanced-generator : (w : List ℕ) (n : ℕ) → AreGeneratorWords w → AreGeneratorWords (advanced w n)
advanced-generator w n generator = record { sized = length-advanced w n generator.sized; in_range = advanced-in_range w n generator.in_range }

pub sweeps-plane : (couplings : CouplingsView) (other : List Plane) (rule : SlotRule) (c z : ℕ) (old : Plane) (words wheel numbers : List ℕ) → FitsPlane couplings.size old
    → numbers ≡ draws old.wheel (half_plane couplings.size) → wheel ≡ advanced old.wheel (half_plane couplings.size)
    → SweepsWords couplings other rule numbers c z (half_plane couplings.size) old.words words
    → SweepsPlane couplings other rule c z old (record { words = words; wheel = wheel })
sweeps-plane couplings other rule c z old words wheel numbers fits drawn moved swept =
    let n = half_plane couplings.size in
    let G : List ℕ → Type 0 = λ w. AreGeneratorWords w in
    let S : List ℕ → Type 0 = λ us. SweepsWords couplings other rule us c z n old.words words in
    record {
      fits = record {
        sized = swept.sized ∙ fits.sized;
        in_range = all-changed _ (λ word. word < 2 ^ 64) n old.words words swept fits.sized (λ j x y within made. made.in_range);
        generator = subst G (sym moved) (advanced-generator old.wheel n fits.generator);
      };
      words = subst S drawn swept;
      generator = moved;
    }
