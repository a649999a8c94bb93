-- A line is read exactly where it may stand, and what may follow it follows.
use Rattle.std.proofs.Common.{arith, ◌≡◌, ℕ, ◌+◌, ◌*◌, ◌/◌, ◌%◌, ◌<◌, ◌≤◌, ◌^◌, inl, inr, Bool, true, false, cond, List, [], ◌∷◌, ◌++◌, length, map, take, drop, refl, sym, ap, subst, ◌∙◌, append_assoc, length-append}
use Rattle.std.specs.Prelude.{Option, Some, None, ◌==◌, ◌&&◌, nat_le, nat_lt, slice_index}
use Rattle.std.specs.List.{list_all}
use Rattle.std.proofs.Math.Nat.{one-le-mul, mul-le-mul_left, mul-le-mul_right}
use Rattle.std.proofs.lemmas.Bool.{and_parts, eqb-true, eqb-false, eq-eqb, leb-true, ltb-true, lt-ltb}
use Rattle.std.proofs.lemmas.List.{take_at, drop_at, get_or_at, length_push, take-append-drop, drop_more, length-take-le}
use Rattle.sample_average.specs.declared.header.Header.{Header}
use Rattle.sample_average.specs.declared.row.Row.{Row}
use Rattle.sample_average.specs.declared.place.Place.{Place}
use Rattle.sample_average.specs.declared.place.Place.TheVariants as places
use Rattle.sample_average.specs.declared.place.Step.{Step}
use Rattle.sample_average.specs.LawfulReport.{IsLawfulHeader, IsRowOf, AreDigits, sites, pairs, row_line, end_line, spin_head, spin_line, spin_lines, is_hex}
use Rattle.sample_average.specs.LineReading.{◌>>=◌, after, row_at}
use Rattle.sample_average.specs.Following.{row_of, behind_row, row_step, first_row, next_row, end_at, digits_at, or_then, line_at, FitsPlace, SpinsFollow, Follows, row_then}
use Rattle.sample_average.proofs.LineLaws.{bind-some, after-takes, IsRowNear, row-takes}
use Rattle.sample_average.proofs.Lines.{IsLine, AreShort, row-line, end-line, spin-line}
use Rattle.sample_average.proofs.Steps.{inside-row, behind-to, behind-fits-by, between-row}
use Rattle.std.proofs.lemmas.Option.{same_Some, cond_some}

-- a lawful header's numbers are small
pub sites-few : (h : Header) → h.size ≤ 64 → sites h ≤ 262144
sites-few h few =
    let a : h.size * h.size ≤ h.size * 64 = mul-le-mul_left {m = h.size} {n = 64} h.size few in
    let b : h.size * h.size * h.size ≤ (h.size * 64) * h.size = mul-le-mul_right {m = h.size * h.size} {n = h.size * 64} h.size a in
    let c : (h.size * 64) * h.size ≤ (h.size * 64) * 64 = mul-le-mul_left {m = h.size} {n = 64} (h.size * 64) few in
    omega (arith, b, c, few)

pub pairs-some : (h : Header) → IsLawfulHeader h → 0 < pairs h
pairs-some h lawful = let some : 1 ≤ h.samples * h.slots = one-le-mul lawful.some_samples lawful.some_slots in omega (arith, some)

pub pairs-few : (h : Header) → IsLawfulHeader h → pairs h ≤ 8192
pairs-few h lawful =
    let a : h.samples * h.slots ≤ h.samples * 32 = mul-le-mul_left {m = h.slots} {n = 32} h.samples lawful.few_slots in
    omega (arith, a, lawful.few_samples)

-- ---- what is read

-- the line that was read, and what it changes
pub record Takes (h : Header) (place : Place) (bytes : List ℕ) (x : Step × List ℕ) : Type 0 where
  pub line : List ℕ
  pub text : bytes ≡ line ++ x.1
  pub whole : IsLine line
  pub fits : FitsPlace h x.0.place
  pub follows : (ls : List (List ℕ)) (rows : List Row) → Follows h x.0.place ls rows → Follows h place (line ∷ ls) (row_then x.0.row rows)

near-short : (h : Header) (r : Row) → IsLawfulHeader h → IsRowNear h r → AreShort r
near-short h r lawful near =
    let few : sites h ≤ 262144 = sites-few h lawful.most in
    record {
      epoch = omega (arith, near.epoch, lawful.until);
      sample = omega (arith, near.sample, lawful.few_samples);
      slot = omega (arith, near.slot, lawful.few_slots);
      first = omega (arith, few, near.range.first_energy);
      second = omega (arith, few, near.range.second_energy);
      overlap = omega (arith, few, near.range.overlap);
      one = omega (arith, near.range.first_replica, lawful.few_slots);
      other = omega (arith, near.range.second_replica, lawful.few_slots);
    }

record RowRead (h : Header) (pair : ℕ) (bytes : List ℕ) (x : Row × List ℕ) : Type 0 where
  text : bytes ≡ row_line x.0 ++ x.1
  whole : IsLine (row_line x.0)
  is : IsRowOf h x.0.epoch pair x.0

row-read : (h : Header) (pair : ℕ) (bytes : List ℕ) (x : Row × List ℕ) → IsLawfulHeader h → row_of h pair bytes ≡ Some x → RowRead h pair bytes x
row-read h pair bytes x lawful is =
    let n = bind-some (row_at h bytes) _ x is in
    let g = cond_some (n.0.0.sample == pair / h.slots && n.0.0.slot == pair % h.slots) n.0 x n.2 in
    let b = and_parts _ _ g.0 in
    let t = row-takes h bytes n.0 lawful.some_slots n.1 in
    subst (RowRead h pair bytes) g.1 (record { text = t.0; whole = row-line n.0.0 (near-short h n.0.0 lawful t.1); is = record { at_epoch = refl; of_sample = eqb-true _ _ b.0; of_slot = eqb-true _ _ b.1; range = t.1.range } })

-- the step of a row of this epoch
row-takes-step : (h : Header) (e pair : ℕ) (bytes : List ℕ) (x : Row × List ℕ) → e < h.to → pair < pairs h → x.0.epoch ≡ e → RowRead h pair bytes x → Takes h (places.Inside e pair) bytes (row_step h pair x)
row-takes-step h e pair bytes x below within at r = record {
  line = row_line x.0;
  text = r.text;
  whole = r.whole;
  fits = behind-fits-by h x.0.epoch pair (pair + 1 == pairs h) refl (rw at below) within;
  follows = λ (ls : List (List ℕ)) (rows : List Row) (f : Follows h (behind_row h x.0.epoch pair) ls rows).
      subst (λ (k : ℕ). Follows h (places.Inside k pair) (row_line x.0 ∷ ls) (x.0 ∷ rows)) at (inside-row h x.0.epoch pair x.0 ls rows r.is (behind-to h x.0.epoch pair ls rows f));
}

takes-inside : (h : Header) (e pair : ℕ) (bytes : List ℕ) (x : Step × List ℕ) → IsLawfulHeader h → e < h.to → pair < pairs h → next_row h e pair bytes ≡ Some x → Takes h (places.Inside e pair) bytes x
takes-inside h e pair bytes x lawful below within is =
    let n = bind-some (row_of h pair bytes) _ x is in
    let g = cond_some (n.0.0.epoch == e) (row_step h pair n.0) x n.2 in
    subst (Takes h (places.Inside e pair) bytes) g.1 (row-takes-step h e pair bytes n.0 below within (eqb-true _ _ g.0) (row-read h pair bytes n.0 lawful n.1))

takes-first : (h : Header) (least : ℕ) (bytes : List ℕ) (x : Step × List ℕ) → IsLawfulHeader h → first_row h least bytes ≡ Some x → Takes h (places.Between least) bytes x
takes-first h least bytes x lawful is =
    let n = bind-some (row_of h 0 bytes) _ x is in
    let g = cond_some (nat_le least n.0.0.epoch && nat_lt n.0.0.epoch h.to) (row_step h 0 n.0) x n.2 in
    let b = and_parts _ _ g.0 in
    let t = row-takes-step h n.0.0.epoch 0 bytes n.0 (ltb-true _ _ b.1) (pairs-some h lawful) refl (row-read h 0 bytes n.0 lawful n.1) in
    subst (Takes h (places.Between least) bytes) g.1 (record {
      line = t.line;
      text = t.text;
      whole = t.whole;
      fits = t.fits;
      follows = λ (ls : List (List ℕ)) (rows : List Row) (f : Follows h (behind_row h n.0.0.epoch 0) ls rows).
          between-row h least n.0.0.epoch (t.line ∷ ls) (n.0.0 ∷ rows) (leb-true _ _ b.0) (ltb-true _ _ b.1) (t.follows ls rows f);
    })

takes-end : (h : Header) (least : ℕ) (bytes : List ℕ) (x : Step × List ℕ) → IsLawfulHeader h → end_at h bytes ≡ Some x → Takes h (places.Between least) bytes x
takes-end h least bytes x lawful is =
    let n = bind-some (after (end_line h.to) bytes) _ x is in
    subst (Takes h (places.Between least) bytes) (same_Some _ x n.2) (record {
      line = end_line h.to;
      text = after-takes (end_line h.to) bytes n.0 n.1;
      whole = end-line h.to (omega (arith, lawful.until));
      fits = omega arith;
      follows = λ (ls : List (List ℕ)) (rows : List Row) (f : Follows h (places.Spins 0) ls rows).
          (([], tt, f.0), f.1, f.2, ap (λ (xs : List (List ℕ)). end_line h.to ∷ xs) f.3 ∙ ap (λ (xs : List Row). map row_line xs ++ (end_line h.to ∷ spin_lines h 0 f.1)) (sym f.0));
    })

takes-between : (h : Header) (least : ℕ) (bytes : List ℕ) (x : Step × List ℕ) (o : Option (Step × List ℕ)) → IsLawfulHeader h → first_row h least bytes ≡ o → or_then o (end_at h bytes) ≡ Some x → Takes h (places.Between least) bytes x
takes-between h least bytes x None lawful first is = takes-end h least bytes x lawful is
takes-between h least bytes x (Some y) lawful first is = takes-first h least bytes x lawful (first ∙ is)

-- ---- spins

pub digits-takes : (count : ℕ) (bytes rest : List ℕ) → digits_at count bytes ≡ Some rest → (bytes ≡ take count bytes ++ 10 ∷ rest) × (length (take count bytes) ≡ count) × (list_all is_hex (take count bytes) ≡ true)
digits-takes count bytes rest is =
    let g = cond_some (nat_lt count (length bytes) && slice_index bytes count == 10 && list_all is_hex (take count bytes)) (drop (count + 1) bytes) rest is in
    let b = and_parts (nat_lt count (length bytes) && slice_index bytes count == 10) (list_all is_hex (take count bytes)) g.0 in
    let c = and_parts (nat_lt count (length bytes)) (slice_index bytes count == 10) b.0 in
    let long : count < length bytes = ltb-true _ _ c.0 in (
      sym (take-append-drop count bytes) ∙ ap (λ (xs : List ℕ). take count bytes ++ xs) (drop_more bytes count 0 long) ∙ ap (λ (k : ℕ). take count bytes ++ (k ∷ drop (count + 1) bytes)) (eqb-true _ _ c.1)
          ∙ ap (λ (xs : List ℕ). take count bytes ++ (10 ∷ xs)) g.1,
      length-take-le count bytes (omega arith),
      b.1,
    )

guard-three : {X : Type 0} (a b c : Bool) (v w : X) → a ≡ true → b ≡ true → c ≡ true → v ≡ w → cond (a && b && c) (Some v) None ≡ Some w
guard-three a b c v w p q r e = rw (p, q, r, e) refl

pub digits-again : (digits rest : List ℕ) → list_all is_hex digits ≡ true → digits_at (length digits) (digits ++ 10 ∷ rest) ≡ Some rest
digits-again digits rest hex =
    let long : length digits < length (digits ++ 10 ∷ rest) = omega (arith, length-append digits (10 ∷ rest)) in
    guard-three _ _ _ _ _ (lt-ltb _ _ long) (eq-eqb _ _ (get_or_at digits 10 rest 0 (length digits) refl)) (ap (list_all is_hex) (take_at digits (10 ∷ rest) (length digits) refl) ∙ hex)
    (ap (λ (xs : List ℕ). drop (length digits + 1) xs) (sym (append_assoc digits (10 ∷ []) rest)) ∙ drop_at (digits ++ 10 ∷ []) rest (length digits + 1) (length_push digits 10))

pub spin-spread : (h : Header) (k : ℕ) (digits rest : List ℕ) → spin_line h k digits ++ rest ≡ spin_head h k ++ (digits ++ 10 ∷ rest)
unfolding spin_line
spin-spread h k digits rest = simp append_assoc refl

spins-more : (k n : ℕ) → k ≤ n → (k ≡ n → ⊥) → k < n
spins-more k n few other = omega (arith, other)

replica-small : (k n : ℕ) → k < 2 * n → n ≤ 8192 → k < 2 ^ 32
replica-small k n more few = omega arith

spins-longer : (h : Header) (k : ℕ) (digits : List ℕ) (spins : List (List ℕ)) → AreDigits h digits → SpinsFollow h (k + 1) spins → SpinsFollow h k (digits ∷ spins)
spins-longer h k digits spins d (inl none) = absurd (omega (arith, none.0))
spins-longer h k digits spins d (inr all) = inr (omega (arith, all.0), (d, all.1))

takes-spins : (h : Header) (k : ℕ) (bytes : List ℕ) (x : Step × List ℕ) (t : Bool) → IsLawfulHeader h → k ≤ 2 * pairs h → (k == 2 * pairs h) ≡ t
    → cond t None (after (spin_head h k) bytes >>= (λ digits. digits_at (sites h / 4) digits >>= (λ rest. Some (record { place = places.Spins (k + 1); row = None }, rest)))) ≡ Some x → Takes h (places.Spins k) bytes x
takes-spins h k bytes x true lawful few last is = absurd cc
takes-spins h k bytes x false lawful few last is =
    let n = bind-some (after (spin_head h k) bytes) (λ digits. digits_at (sites h / 4) digits >>= (λ rest. Some (record { place = places.Spins (k + 1); row = None }, rest))) x is in
    let m = bind-some (digits_at (sites h / 4) n.0) (λ rest. Some (record { place = places.Spins (k + 1); row = None }, rest)) x n.2 in
    let d = digits-takes (sites h / 4) n.0 m.0 m.1 in
    let digits = take (sites h / 4) n.0 in
    let more : k < 2 * pairs h = spins-more k (2 * pairs h) few (eqb-false _ _ last) in
    subst (Takes h (places.Spins k) bytes) (same_Some _ x m.2) (record {
      line = spin_line h k digits;
      text = after-takes (spin_head h k) bytes n.0 n.1 ∙ ap (λ (xs : List ℕ). spin_head h k ++ xs) d.0 ∙ sym (spin-spread h k digits m.0);
      whole = spin-line h k digits (replica-small k (pairs h) more (pairs-few h lawful)) d.2;
      fits = omega (arith, more);
      follows = λ (ls : List (List ℕ)) (rows : List Row) (f : Follows h (places.Spins (k + 1)) ls rows).
          (f.0, digits ∷ f.1, spins-longer h k digits f.1 (record { count = d.1; hex = d.2 }) f.2, ap (λ (xs : List (List ℕ)). spin_line h k digits ∷ xs) f.3);
    })

pub takes : (h : Header) (place : Place) (bytes : List ℕ) (x : Step × List ℕ) → IsLawfulHeader h → FitsPlace h place → line_at h place bytes ≡ Some x → Takes h place bytes x
unfolding line_at
takes h (places.Between least) bytes x lawful fits is = takes-between h least bytes x (first_row h least bytes) lawful refl is
takes h (places.Inside e pair) bytes x lawful fits is = takes-inside h e pair bytes x lawful fits.0 fits.1 is
takes h (places.Spins k) bytes x lawful fits is = takes-spins h k bytes x (k == 2 * pairs h) lawful fits refl is
