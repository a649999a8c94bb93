use Rattle.std.proofs.Common.{◌≡◌, ℕ, ◌+◌, ◌*◌, ◌/◌, ◌%◌, ◌^◌, ◌<◌, All, List, slice_index}
use Rattle.plane_sweep.specs.Beginnings.{site_of, Each}
use Rattle.spin_model.specs.Words.{is_set}
use Rattle.plane_sweep.proofs.random_words.words_by.Given as goal

-- the words so far, a number of them, are those of the draws
abbrev pub AreDrawn : ℕ → ℕ → ℕ → List ℕ → ℕ → List ℕ → Type 0
AreDrawn l colour z draws count words =
    All (λ word. word < 2 ^ 64) words
    × Each (λ k word. (b : ℕ) → b < 64 → is_set word b ≡ is_set (slice_index draws (2 * (site_of l colour z k % (l * l)) + b / 32)) (b % 32)) count words

abbrev pub invariant-rows : goal.invariant-rows
invariant-rows l = AreDrawn l.lattice l.colour l.z l.draws (l.y * (l.lattice / 2)) l.words.items

abbrev pub invariant-columns : goal.invariant-columns
invariant-columns l = AreDrawn l.lattice l.colour l.z l.draws (l.y * (l.lattice / 2) + l.column) l.words.items
