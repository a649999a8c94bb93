-- Each place that there is can be completed to a lawful report.
use Rattle.std.proofs.Common.{arith, ◌≡◌, ℕ, zero, suc, ◌+◌, ◌-◌, ◌*◌, ◌/◌, ◌%◌, ◌<◌, ◌≤◌, ◌⊎◌, inl, inr, true, false, List, [], ◌∷◌, ◌++◌, length, replicate, refl, sym, ap, ◌∙◌}
use Rattle.std.specs.Prelude.{pos, ◌==◌}
use Rattle.std.specs.List.{AllByRecursion, list_all}
use Rattle.std.proofs.lemmas.Bool.{eqb-true, eqb-false, or_cases, or_parts}
use Rattle.std.proofs.lemmas.List.{length-replicate}
use Rattle.sample_average.specs.declared.header.Header.{Header}
use Rattle.sample_average.specs.declared.row.Row.{Row}
use Rattle.sample_average.specs.declared.place.Place.{Place}
use Rattle.sample_average.specs.declared.place.Place.TheVariants as places
use Rattle.sample_average.specs.LawfulReport.{Report, IsLawful, IsLawfulHeader, AreRowsFrom, AreDigits, AreSpins, sites, pairs, is_hex, header_line, spin_lines, report_lines, rows_of}
use Rattle.sample_average.specs.Following.{FitsPlace, SpinsFollow, Follows, rest_lines, may_end}

-- a row of zeros
blank : Header → ℕ → ℕ → Row
blank h e k = record { epoch = e; sample = k / h.slots; slot = k % h.slots; first_energy = pos 0; second_energy = pos 0; overlap = pos 0; first_replica = 0; second_replica = 0 }

blanks : Header → ℕ → ℕ → ℕ → List Row
blanks h e k zero = []
blanks h e k (suc n) = blank h e k ∷ blanks h e (k + 1) n

length-blanks : (h : Header) (e k n : ℕ) → length (blanks h e k n) ≡ n
unfolding blanks
length-blanks h e k zero = refl
length-blanks h e k (suc n) = ap suc (length-blanks h e (k + 1) n)

blanks-follow : (h : Header) (e k n : ℕ) → IsLawfulHeader h → AreRowsFrom h e k (blanks h e k n)
unfolding blanks blank
blanks-follow h e k zero lawful = tt
blanks-follow h e k (suc n) lawful =
    let some : 0 < h.slots = omega (arith, lawful.some_slots) in (
      record { at_epoch = refl; of_sample = refl; of_slot = refl; range = record { first_energy = omega arith; second_energy = omega arith; overlap = omega arith; first_replica = some; second_replica = some } },
      blanks-follow h e (k + 1) n lawful,
    )

blank-digits : (n : ℕ) → list_all is_hex (replicate n 48) ≡ true
blank-digits zero = refl
blank-digits (suc n) = blank-digits n

blank-spins : (h : Header) (n : ℕ) → AllByRecursion (AreDigits h) (replicate n (replicate (sites h / 4) 48))
blank-spins h zero = tt
blank-spins h (suc n) = (record { count = length-replicate (sites h / 4) 48; hex = blank-digits (sites h / 4) }, blank-spins h n)

fill : (k n : ℕ) → k ≤ n → k + (n - k) ≡ n
fill k n few = omega arith

pub complete : (h : Header) (place : Place) → IsLawfulHeader h → FitsPlace h place → (ls : List (List ℕ)) × (rows : List Row) × Follows h place ls rows
complete h (places.Between least) lawful fits = (rest_lines h [] [], [], (([], tt, refl), [], inl (refl, refl), refl))
complete h (places.Inside e k) lawful fits =
    let rest = blanks h e k (pairs h - k) in
    let long : k + length rest ≡ pairs h = ap (λ (n : ℕ). k + n) (length-blanks h e k (pairs h - k)) ∙ fill k (pairs h) (omega (arith, fits.1)) in
    (rest_lines h (rest ++ []) [], rest ++ [], ((rest, [], long, blanks-follow h e k (pairs h - k) lawful, tt, refl), [], inl (refl, refl), refl))
complete h (places.Spins k) lawful fits =
    let spins = replicate (2 * pairs h - k) (replicate (sites h / 4) 48) in
    let long : k + length spins ≡ 2 * pairs h = ap (λ (n : ℕ). k + n) (length-replicate (2 * pairs h - k) (replicate (sites h / 4) 48)) ∙ fill k (2 * pairs h) fits in
    (spin_lines h k spins, [], (refl, spins, inr (long, blank-spins h (2 * pairs h - k)), refl))

-- ---- where a report may end

end-spins : (h : Header) (k : ℕ) → (k ≡ 0) ⊎ (k ≡ 2 * pairs h) → Follows h (places.Spins k) [] []
end-spins h k (inl e) = (refl, [], inl (e, refl), refl)
end-spins h k (inr e) = (refl, [], inr (omega (arith, e), tt), refl)

end-cases : (a b : ℕ) (x y : ℕ) → ((a == x) ≡ true) ⊎ ((b == y) ≡ true) → (a ≡ x) ⊎ (b ≡ y)
end-cases a b x y (inl e) = inl (eqb-true a x e)
end-cases a b x y (inr e) = inr (eqb-true b y e)

pub ends : (h : Header) (place : Place) → may_end h place ≡ true → Follows h place [] []
ends h (places.Between least) is = absurd cc
ends h (places.Inside e k) is = absurd cc
ends h (places.Spins k) is = end-spins h k (end-cases k k 0 (2 * pairs h) (or_cases (k == 0) (k == 2 * pairs h) is))

some-lines : (h : Header) (rows : List Row) (spins : List (List ℕ)) → [] ≡ rest_lines h rows spins → ⊥
some-lines h [] spins none = absurd cc
some-lines h (r ∷ rows) spins none = absurd cc

no-spins : (h : Header) (k : ℕ) (spins : List (List ℕ)) → (k ≡ 0 → ⊥) → (k ≡ 2 * pairs h → ⊥) → SpinsFollow h k spins → [] ≡ spin_lines h k spins → ⊥
no-spins h k [] first last (inl f) none = first f.0
no-spins h k [] first last (inr f) none = last (omega (arith, f.0))
no-spins h k (d ∷ spins) first last f none = absurd cc

pub no-end : (h : Header) (place : Place) (rows : List Row) → may_end h place ≡ false → Follows h place [] rows → ⊥
no-end h (places.Between least) rows is f = some-lines h rows f.1 f.3
no-end h (places.Inside e k) rows is f = some-lines h rows f.1 f.3
no-end h (places.Spins k) rows is f = let p = or_parts (k == 0) (k == 2 * pairs h) is in no-spins h k f.1 (eqb-false _ _ p.0) (eqb-false _ _ p.1) f.2 f.3

no-more : (h : Header) (rows : List Row) (spins : List (List ℕ)) → [] ≡ rest_lines h rows spins → rows ≡ []
no-more h rows spins none = absurd (some-lines h rows spins none)

-- no row follows the last line
pub no-rows : (h : Header) (place : Place) (rows : List Row) → Follows h place [] rows → rows ≡ []
no-rows h (places.Between least) rows f = no-more h rows f.1 f.3
no-rows h (places.Inside e k) rows f = no-more h rows f.1 f.3
no-rows h (places.Spins k) rows f = f.0

-- ---- a whole report

pub record Whole (h : Header) (ls : List (List ℕ)) (rows : List Row) : Type 0 where
  pub report : Report
  pub lawful : IsLawful report
  pub text : report_lines report ≡ header_line h ∷ ls
  pub its_header : report.header ≡ h
  pub its_rows : rows_of report ≡ rows

spins-to : (h : Header) (spins : List (List ℕ)) → SpinsFollow h 0 spins → AreSpins h spins
spins-to h spins (inl none) = inl none.1
spins-to h spins (inr all) = inr (omega (arith, all.0), all.1)

spins-from : (h : Header) (spins : List (List ℕ)) → AreSpins h spins → SpinsFollow h 0 spins
spins-from h spins (inl none) = inl (refl, none)
spins-from h spins (inr all) = inr (omega (arith, all.0), all.1)

pub whole : (h : Header) (ls : List (List ℕ)) (rows : List Row) → IsLawfulHeader h → Follows h (places.Between h.from) ls rows → Whole h ls rows
whole h ls rows lawful f = record {
  report = record { header = h; groups = f.0.0; spins = f.1 };
  lawful = record { header = lawful; groups = f.0.1; spins = spins-to h f.1 f.2 };
  text = ap (λ (xs : List (List ℕ)). header_line h ∷ xs) (ap (λ (xs : List Row). rest_lines h xs f.1) (sym f.0.2) ∙ sym f.3);
  its_header = refl;
  its_rows = sym f.0.2;
}

pub parts : (r : Report) → IsLawful r → Follows r.header (places.Between r.header.from) (rest_lines r.header (rows_of r) r.spins) (rows_of r)
parts r lawful = ((r.groups, lawful.groups, refl), r.spins, spins-from r.header r.spins lawful.spins, refl)
