-- A plane's words are updated row by row, and in a row from one column to another.
use Rattle.std.proofs.Common.{inl, inr, ◌≡◌, ℕ, zero, ◌+◌, ◌-◌, ◌*◌, ◌/◌, ◌%◌, ◌^◌, ◌<◌, ◌≤◌, List, length, get_or, refl, sym, ap, subst, ◌∙◌, arith}
use Rattle.std.proofs.lemmas.Bool.{cases_lt}
use Rattle.std.proofs.lemmas.List.{get_or_default, get_or_past}
use Rattle.std.proofs.lemmas.Nat.{div-mul-add, mod-mul-add}
use Rattle.std.proofs.Math.Nat.{add-mul}
use borrow.Rule.Slice.PartMut.{put_mid}
use Rattle.coupling_set.specs.CouplingWords.{CouplingsView}
use Rattle.local_rule.specs.SiteBits.{equal_count, lane_words, set_count}
use Rattle.spin_model.specs.Lattice.{IsLawfulSize, half_plane}
use Rattle.spin_model.specs.SiteRule.{new_spin}
use Rattle.spin_model.specs.Words.{is_set}
use Rattle.spin_model.proofs.CompactOrder.{in_plane}
use Rattle.threshold_table.specs.Tables.{rule_of}
use Rattle.plane_sweep.specs.Neighbourhood.{pulls, Surrounds}
use Rattle.plane_sweep.specs.PlaneSweep.{SweepsWord, SweepsWords, SweepsSites, SweepsRow, SweepsAcross, IsRow, pulls_lent}
use Rattle.plane_sweep.specs.declared.replica.Plane.{Plane}
use Rattle.plane_sweep.specs.declared.rows.Row.{Row}
use Rattle.threshold_table.specs.declared.rule_table.SlotRule.{SlotRule}
use Rattle.plane_sweep.specs.declared.surroundings.Surroundings.{Surroundings}
use Rattle.plane_sweep.proofs.FourLanes.{mid-below, mid-at, mid-above, mid-sized}
use Rattle.plane_sweep.proofs.SixWords.{pulls-lent}

-- a row of a lattice of an equal side
pub row-same : (m l c z y : ℕ) (row : Row) → m ≡ l → IsRow m c z y row → IsRow l c z y row
row-same m l c z y row same at = let P : ℕ → Type 0 = λ n. IsRow n c z y row in subst P same at

-- words that lanes give, written into a list from a place on
pub sites-written : (n : ℕ) (rule : SlotRule) (draws : List ℕ) (at m : ℕ) (words drawn before after : List ℕ) (rows : List (List ℕ)) → m ≡ n → at + n ≤ length words
    → ((i : ℕ) → i < n → get_or before i 0 ≡ get_or words (at + i) 0) → ((i : ℕ) → i < n → get_or drawn i 0 ≡ get_or draws (at + i) 0) → length after ≡ n
    → ((j : ℕ) → get_or (put_mid at m words after) j 0 < 2 ^ 64)
    → ((i b : ℕ) → i < n → b < 64 → is_set (get_or after i 0) b ≡ new_spin (rule_of rule.kind) rule.row.values (set_count (lane_words rows i) b) (equal_count (lane_words rows i) (get_or before i 0) b) (get_or drawn i 0) (is_set (get_or before i 0) b))
    → SweepsSites n (lane_words rows) rule draws at words (put_mid at m words after)
sites-written n rule draws at m words drawn before after rows whole within old numbers sized range made = record {
  sized = mid-sized at m words after (omega arith) (omega arith);
  done = λ i lane.
      let now : get_or after i 0 ≡ get_or (put_mid at m words after) (at + i) 0 = sym (mid-at at m words after i (omega arith) (omega arith) (omega arith)) in
      let here : SweepsWord (rule_of rule.kind) rule.row.values (lane_words rows i) (get_or drawn i 0) (get_or before i 0) (get_or after i 0) =
      record { in_range = subst (λ w. w < 2 ^ 64) (sym now) (range (at + i)); bits = λ b below. made i b lane below } in
      let Q : ℕ → Type 0 = λ w. SweepsWord (rule_of rule.kind) rule.row.values (lane_words rows i) w (get_or before i 0) (get_or after i 0) in
      let R : ℕ → Type 0 = λ w. SweepsWord (rule_of rule.kind) rule.row.values (lane_words rows i) (get_or draws (at + i) 0) w (get_or after i 0) in
      let S : ℕ → Type 0 = λ w. SweepsWord (rule_of rule.kind) rule.row.values (lane_words rows i) (get_or draws (at + i) 0) (get_or words (at + i) 0) w in
      subst S now (subst R (old i lane) (subst Q (numbers i lane) here));
  before = λ j low. mid-below at m words after j low (omega arith);
  after = λ j high. mid-above at m words after j (omega arith) (omega arith) (omega arith);
}

module _ (s : Surroundings) (rule : SlotRule) (draws : List ℕ) (row : Row) where
  pub row-none : (m : ℕ) (words : List ℕ) → SweepsRow s rule draws row m m words words
  row-none m words = record { sized = refl; done = λ k from to. absurd (omega arith); before = λ j low. refl; after = λ j high. refl }

  -- n columns, by words of which lane i is column k + i
  pub row-sites : (n k : ℕ) (six : ℕ → List ℕ) (old new : List ℕ) → ((i : ℕ) → i < n → six i ≡ pulls_lent s row (k + i))
      → SweepsSites n six rule draws (row.here + k) old new → SweepsRow s rule draws row k (k + n) old new
  row-sites n k six old new same made = record {
    sized = made.sized;
    done = λ j from to.
        let i = j - k in
        let lane : i < n = omega arith in
        let column : k + i ≡ j = omega arith in
        let place : row.here + k + i ≡ row.here + j = omega arith in
        let P : List ℕ → Type 0 = λ xs. SweepsWord (rule_of rule.kind) rule.row.values xs (get_or draws (row.here + k + i) 0) (get_or old (row.here + k + i) 0) (get_or new (row.here + k + i) 0) in
        let Q : ℕ → Type 0 = λ p. SweepsWord (rule_of rule.kind) rule.row.values (pulls_lent s row j) (get_or draws p 0) (get_or old p 0) (get_or new p 0) in
        subst Q place (subst P (same i lane ∙ ap (pulls_lent s row) column) (made.done i lane));
    before = made.before;
    after = λ j high. made.after j (omega arith);
  }

  -- some columns, and those behind them
  pub row-joined : (m n p : ℕ) (a b c : List ℕ) → m ≤ n → n ≤ p → SweepsRow s rule draws row m n a b → SweepsRow s rule draws row n p b c → SweepsRow s rule draws row m p a c
  row-joined m n p a b c first second front back = record {
    sized = back.sized ∙ front.sized;
    done = λ k from to.
        let place = row.here + k in
        elim (cases_lt k n) [
          | inl less ↦
              let P : ℕ → Type 0 = λ w. SweepsWord (rule_of rule.kind) rule.row.values (pulls_lent s row k) (get_or draws place 0) (get_or a place 0) w in
              subst P (sym (back.before place (omega arith))) (front.done k from less)
          | inr not ↦
              let P : ℕ → Type 0 = λ w. SweepsWord (rule_of rule.kind) rule.row.values (pulls_lent s row k) (get_or draws place 0) w (get_or c place 0) in
              subst P (front.after place (omega arith)) (back.done k (omega arith) to)
        ];
    before = λ j low. back.before j (omega arith) ∙ front.before j low;
    after = λ j high. back.after j high ∙ front.after j (omega arith);
  }

-- before the first row
pub rows-none : (couplings : CouplingsView) (other : List Plane) (rule : SlotRule) (draws : List ℕ) (c z : ℕ) (old : List ℕ)
    → SweepsWords couplings other rule draws c z (0 * (couplings.size / 2)) old old
rows-none couplings other rule draws c z old = record { sized = refl; done = λ j d below. absurd (omega arith); kept = λ j d later. refl }

-- the words of the rows before, and one row more
pub row-swept : (couplings : CouplingsView) (other : List Plane) (rule : SlotRule) (draws : List ℕ) (c z y : ℕ) (s : Surroundings) (row : Row) (old xs ys : List ℕ)
    → IsLawfulSize couplings.size → y < couplings.size → length old ≡ half_plane couplings.size → Surrounds couplings other c z s → IsRow couplings.size c z y row
    → SweepsWords couplings other rule draws c z (y * (couplings.size / 2)) old xs → SweepsRow s rule draws row zero row.half xs ys
    → SweepsWords couplings other rule draws c z ((y + 1) * (couplings.size / 2)) old ys
row-swept couplings other rule draws c z y s row old xs ys lawful within sized around at rows swept =
    let half = couplings.size / 2 in
    let Becomes : ℕ → ℕ → ℕ → Type 0 = λ j was now. SweepsWord (rule_of rule.kind) rule.row.values (pulls couplings other c z (j / half) (j % half)) (get_or draws j 0) was now in
    let start = at.here in
    let width = at.half in
    let more = add-mul y 1 half in
    let long = rows.sized in
    let longer = swept.sized in
    record {
      sized = swept.sized ∙ rows.sized;
      done = λ k d below. elim (cases_lt k (y * half)) [
        | inl less ↦
            let P : ℕ → Type 0 = λ w. Becomes k (get_or old k d) w in
            let room : k < length xs = omega (arith, in_plane couplings.size y 0 within (omega arith)) in
            let same : get_or xs k d ≡ get_or ys k d =
            get_or_default xs k d 0 room ∙ sym (swept.before k (omega arith)) ∙ get_or_default ys k 0 d (omega arith) in
            subst P same (rows.done k d less)
        | inr not ↦
            let i = k - y * half in
            let column : i < half = omega arith in
            let room : k < length xs = omega (arith, in_plane couplings.size y i within column) in
            let place : row.here + i ≡ k = omega arith in
            let turned : y * half + i ≡ k = omega arith in
            let read : pulls_lent s row i ≡ pulls couplings other c z (k / half) (k % half) =
            pulls-lent couplings other c z y i s row lawful within column around at
            ∙ ap (λ a. pulls couplings other c z a i) (sym (div-mul-add y half i column) ∙ ap (λ n. n / half) turned)
            ∙ ap (pulls couplings other c z (k / half)) (sym (mod-mul-add y half i column) ∙ ap (λ n. n % half) turned) in
            let S : List ℕ → Type 0 = λ six. SweepsWord (rule_of rule.kind) rule.row.values six (get_or draws k 0) (get_or xs k 0) (get_or ys k 0) in
            let T : ℕ → Type 0 = λ j. SweepsWord (rule_of rule.kind) rule.row.values (pulls_lent s row i) (get_or draws j 0) (get_or xs j 0) (get_or ys j 0) in
            let made : Becomes k (get_or xs k 0) (get_or ys k 0) = subst S read (subst T place (swept.done i (omega arith) (omega arith))) in
            let P : ℕ → Type 0 = λ w. Becomes k w (get_or ys k 0) in
            let Q : ℕ → Type 0 = λ w. Becomes k (get_or old k d) w in
            subst Q (get_or_default ys k 0 d (omega arith)) (subst P (get_or_default xs k 0 d room ∙ rows.kept k d (omega arith)) made)
      ];
      kept = λ k d later.
          let same : get_or ys k 0 ≡ get_or xs k 0 = swept.after k (omega arith) in
          elim (cases_lt k (length xs)) [
            | inl less ↦ get_or_default ys k d 0 (omega arith) ∙ same ∙ get_or_default xs k 0 d less ∙ rows.kept k d (omega arith)
            | inr not ↦ outside k d not
          ];
    }
  where
    outside : (k : ℕ) (d : ℕ) → length xs ≤ k → get_or ys k d ≡ get_or old k d
    outside k d past = get_or_past ys k d (omega (arith, swept.sized)) ∙ sym (get_or_past old k d (omega (arith, rows.sized)))

-- the words of the rows before, and two rows more
pub pair-swept : (couplings : CouplingsView) (other : List Plane) (rule : SlotRule) (draws : List ℕ) (c z y : ℕ) (s : Surroundings) (row behind : Row) (old xs ys : List ℕ)
    → IsLawfulSize couplings.size → y + 1 < couplings.size → length old ≡ half_plane couplings.size → Surrounds couplings other c z s
    → IsRow couplings.size c z y row → IsRow couplings.size c z (y + 1) behind
    → SweepsWords couplings other rule draws c z (y * (couplings.size / 2)) old xs → SweepsAcross s rule draws row behind 0 behind.half xs ys
    → SweepsWords couplings other rule draws c z ((y + 1 + 1) * (couplings.size / 2)) old ys
pair-swept couplings other rule draws c z y s row behind old xs ys lawful within sized around at next rows swept =
    row-swept couplings other rule draws c z (y + 1) s behind old swept.between ys lawful within sized around next
    (row-swept couplings other rule draws c z y s row old xs swept.between lawful (omega arith) sized around at rows swept.first) swept.second
