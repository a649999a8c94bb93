use Rattle.std.proofs.Common.{arith, ◌≡◌, ℕ, ◌+◌, ◌*◌, ◌/◌, ◌^◌, ◌<◌, ◌≤◌, List, [], ◌∷◌, ◌++◌, refl, subst, ◌∙◌}
use Rattle.spin_model.specs.Lattice.{half_plane}
use Rattle.plane_sweep.proofs.Gathering.{each-none, each-pushed, all-pushed}
use Rattle.plane_sweep.proofs.random_words.words_by.Invariants.{AreDrawn}
use Rattle.plane_sweep.proofs.random_words.words_by.Goals as goal

-- the same by an equal count
counted : (l colour z : ℕ) (draws words : List ℕ) (m n : ℕ) → m ≡ n → AreDrawn l colour z draws m words → AreDrawn l colour z draws n words
counted l colour z draws words m n same known = let P : ℕ → Type 0 = λ k. AreDrawn l colour z draws k words in subst P same known

pub rows-init : goal.rows-init
rows-init c =
    let none : c.in_ok-words.words.items ≡ [] = c.in_ok-words.ensures.items in
    counted _ _ _ _ _ 0 _ (omega arith) (rw none (λ k d below. absurd (omega arith), each-none _))

pub columns-init : goal.columns-init
columns-init c = counted _ _ _ _ _ (c.rows.y * (c.args.lattice.now / 2)) _ (omega arith) c.rows.invariant

pub columns-preserved : goal.columns-preserved
columns-preserved c =
    let l = c.args.lattice.now in
    let known = c.columns.invariant in
    let pushed : c.push.new.self.items ≡ c.columns.words.items ++ c.word_by.result ∷ [] = c.in_ok-push.ensures.items in
    counted _ _ _ _ _ (c.rows.y * (l / 2) + c.columns.column + 1) _ (omega arith)
    (rw pushed (
      all-pushed (λ word. word < 2 ^ 64) c.columns.words.items c.word_by.result known.0 c.word_by.type_inv,
      each-pushed _ _ _ _ known.1 c.word_by.ensures,
    ))

pub rows-preserved : goal.rows-preserved
rows-preserved c =
    let whole : c.columns.column ≡ c.args.lattice.now / 2 = rw (← c.size-size.ensures.value) (omega arith) in
    counted _ _ _ _ _ (c.rows.y * (c.args.lattice.now / 2) + c.columns.column) _ (omega (arith, whole)) c.columns.invariant

-- after the last row as many words as a plane has
all-rows : (l y size : ℕ) → size ≡ l → y ≤ size → size ≤ y → y * (l / 2) ≡ half_plane l
all-rows l y size same below not = let last : y ≡ l = omega arith in rw last refl

pub returns-clause-words : goal.returns-clause-words
returns-clause-words c =
    let known = c.rows.invariant in
    let whole = all-rows c.args.lattice.now c.rows.y c.size-size.result c.size-size.ensures.value c.rows.auto.y-end c.rows-test.false in
    rw c.of.ensures (record { sized = known.1.sized ∙ whole; in_range = known.0 })

pub returns-clause-bits : goal.returns-clause-bits
returns-clause-bits c = λ b k below within.
    let whole = all-rows c.args.lattice.now c.rows.y c.size-size.result c.size-size.ensures.value c.rows.auto.y-end c.rows-test.false in
    rw c.of.ensures (c.rows.invariant.1.each k 0 (omega (arith, whole)) b below)
