-- Lines of numbers in a list of lines, and what one plane more makes of projections.
use Rattle.std.proofs.Common.{inl, inr, ◌≡◌, ◌≢◌, ℕ, ◌+◌, ◌*◌, ◌%◌, ◌<◌, ◌≤◌, Bool, List, [], length, get_or, set, ap, sym, ◌∙◌, arith}
use Rattle.std.specs.Int.{bit_at}
use Rattle.std.proofs.lemmas.Bool.{cases_lt}
use Rattle.std.proofs.lemmas.List.{get_or-set_same, get_or-set_other, get_or_default}
use Rattle.std.proofs.lemmas.Nat.{mod_below}
use Rattle.std.proofs.Math.Nat.{mod-eq_of_lt}
use Rattle.scalar_rule.specs.Positions.{sum_below}
use Rattle.scalar_rule.proofs.Extremes.{sum-same}
use Rattle.spin_model.specs.Steps.{count_below}
use Rattle.spin_model.specs.Lattice.{site_at}
use Rattle.spin_model.proofs.Tables.{count_below-more}
use Rattle.spin_model.proofs.Counts.{count-same, count-most}
use Rattle.multispin_word.specs.Planes.{is_set, one_if}
use Rattle.multispin_word.proofs.Bits.{one_if-is_set}
use Rattle.plane_sums.specs.declared.counts.Counts.{Counts}
use Rattle.plane_sums.specs.declared.projections.Projections.{Projections}
use Rattle.plane_sums.specs.declared.totals.Turn.{Turn}
use Rattle.plane_sums.specs.declared.totals.Turn.TheVariants as turns
use Rattle.plane_sums.specs.Counts.{count_at, line_at}
use Rattle.plane_sums.specs.Lines.{across, begins_at, word_in, Show}
use Rattle.plane_sums.specs.Families.{AreCounts, HasLines}
use Rattle.plane_sums.specs.Projected.{AreProjected}

-- ---- lines in a list

pub line-set : {W : ℕ} → (lines : List (Counts W)) (j : ℕ) (new : Counts W) → j < length lines → line_at (set lines j new) j ≡ new.planes
line-set lines j new within = ap (λ (line : Counts _). line.planes) (get_or-set_same lines j new (record { planes = [] }) within)

pub line-kept : {W : ℕ} → (lines : List (Counts W)) (j k : ℕ) (new : Counts W) → k ≢ j → line_at (set lines j new) k ≡ line_at lines k
line-kept lines j k new other = ap (λ (line : Counts _). line.planes) (get_or-set_other lines j k new (record { planes = [] }) other)

pub line-is : {W : ℕ} → (lines : List (Counts W)) (j : ℕ) (own : Counts W) → own ≡ get_or lines j own → j < length lines → own.planes ≡ line_at lines j
line-is lines j own same within = ap (λ (line : Counts _). line.planes) (same ∙ get_or_default lines j own (record { planes = [] }) within)

-- ---- counts

pub begins-within : (turn : Turn) (l o : ℕ) → o < l → begins_at turn l o ≤ l
begins-within turns.Straight l o within = omega arith
begins-within turns.Sum l o within = omega arith
begins-within turns.Difference l o within = omega arith

pub count-two : (test : ℕ → Bool) (n m : ℕ) → m ≡ n + 1 + 1 → count_below test m ≡ count_below test n + one_if (test n) + one_if (test (n + 1))
count-two test n m e = ap (count_below test) e ∙ count_below-more test (n + 1) ∙ ap (λ k. k + one_if (test (n + 1))) (count_below-more test n)

-- a row's bit of a sample
pub row-is : (rows : List (List ℕ)) (j : ℕ) (own : List ℕ) (k b : ℕ) → own ≡ get_or rows j own → j < length rows
    → bit_at (get_or own k 0) b ≡ one_if (is_set (word_in rows j k) b)
row-is rows j own k b same within =
    ap (λ ws. bit_at (get_or ws k 0) b) (same ∙ get_or_default rows j own [] within) ∙ sym (one_if-is_set (word_in rows j k) b)

-- ---- projections

pub nothing-projected : (l : ℕ) (test : ℕ → ℕ → Bool) (p : Projections) → AreProjected l test 0 p
nothing-projected l test p = record {
  x = λ z k b none. absurd (omega arith);
  y = λ z k b none. absurd (omega arith);
}

pub same-lines : (l : ℕ) (test : ℕ → ℕ → Bool) (n : ℕ) (p : Projections) (z : List (Counts 7)) → AreProjected l test n p
    → AreProjected l test n (record { along_x = p.along_x; along_y = p.along_y; along_z = z })
same-lines l test n p z known = record { x = known.x; y = known.y }

pub projected-more : (l : ℕ) (test : ℕ → ℕ → Bool) (z : ℕ) (p : Projections) (sheet : List (List ℕ)) → 0 < l → AreProjected l test z p
    → Show l (λ b y x. test b (site_at l x y z)) sheet
    → ((k b : ℕ) → k < 2 * l → b < 64 → count_at (line_at p.along_x z) k b ≡ count_below (λ x. is_set (word_in sheet (k % l) x) b) l)
    → ((k b : ℕ) → k < 2 * l → b < 64 → count_at (line_at p.along_y z) k b ≡ count_below (λ y. is_set (word_in sheet y (k % l)) b) l)
    → AreProjected l test (z + 1) p
projected-more l test z p sheet some known shown own_x own_y = record {
  x = λ n k b below place sample. elim (cases_lt n z) [
    | inl less ↦ known.x n k b less place sample
    | inr not ↦
        let here : n ≡ z = omega arith in
        rw here (own_x k b place sample ∙ count-same (λ x. is_set (word_in sheet (k % l) x) b) (λ x. test b (site_at l x (k % l) z)) l
        (λ x within. shown (k % l) x b (mod_below k l some) within sample))
  ];
  y = λ n k b below place sample. elim (cases_lt n z) [
    | inl less ↦ known.y n k b less place sample
    | inr not ↦
        let here : n ≡ z = omega arith in
        rw here (own_y k b place sample ∙ count-same (λ y. is_set (word_in sheet y (k % l)) b) (λ y. test b (site_at l (k % l) y z)) l
        (λ y within. shown y (k % l) b within (mod_below k l some) sample))
  ];
}

-- ---- sums over planes

pub summed-across : (turn : Turn) (l : ℕ) (line : ℕ → ℕ → ℕ) (lines : List (Counts 7)) (b m : ℕ) → m < l
    → ((o k : ℕ) → o < l → k < 2 * l → count_at (line_at lines o) k b ≡ line o (k % l))
    → sum_below (λ o. count_at (line_at lines o) (begins_at turn l o + m) b) l ≡ across turn l line m
summed-across turn l line lines b m within known =
    sum-same (λ o. count_at (line_at lines o) (begins_at turn l o + m) b) (λ o. line o ((begins_at turn l o + m) % l)) l
    (λ o below. known o (begins_at turn l o + m) below (let begin = begins-within turn l o below in omega arith))

pub summed-along : (l : ℕ) (line : ℕ → ℕ → ℕ) (lines : List (Counts 7)) (b m : ℕ) → m < l
    → ((o k : ℕ) → o < l → k < 2 * l → count_at (line_at lines o) k b ≡ line o (k % l))
    → sum_below (λ k. count_at (line_at lines m) k b) l ≡ sum_below (line m) l
summed-along l line lines b m within known =
    sum-same (λ k. count_at (line_at lines m) k b) (line m) l
    (λ k below. known m k within (omega arith) ∙ ap (line m) (mod-eq_of_lt below))

pub lines-small : (l : ℕ) (test : ℕ → ℕ → Bool) (p : Projections) → HasLines l test p → AreCounts l p
lines-small l test p known = record {
  x = λ z k b h i j. let most = count-most (λ x. test b (site_at l x (k % l) z)) l in omega (arith, most, known.x z k b h i j);
  y = λ z k b h i j. let most = count-most (λ y. test b (site_at l (k % l) y z)) l in omega (arith, most, known.y z k b h i j);
  z = λ y k b h i j. let most = count-most (λ z. test b (site_at l (k % l) y z)) l in omega (arith, most, known.z y k b h i j);
}
