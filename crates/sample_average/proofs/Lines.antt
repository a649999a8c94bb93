-- The lines of a text.
use Rattle.std.proofs.Common.{arith, ◌≡◌, ℕ, suc, ◌/◌, ◌%◌, ◌<◌, ◌≤◌, ◌^◌, Bool, true, false, cond, not, List, [], ◌∷◌, ◌++◌, refl, sym, ap, ◌∙◌, append_assoc}
use Rattle.std.specs.Prelude.{◌==◌, decimal, codes, unsigned_abs, ℤ, pos, negsuc}
use Rattle.std.specs.Fmt.{signed_decimal}
use Rattle.std.specs.List.{list_all, concat}
use Rattle.std.proofs.Math.Nat.{div-le_self, mod-le}
use Rattle.std.proofs.lemmas.Bool.{and_from, and_parts, not_from_false, ne_eqb, eqb-true, leb-true}
use Rattle.std.proofs.lemmas.Bool.Decides.{nat_tests}
use Rattle.std.proofs.lemmas.List.Folds.{list_all-append}
use Rattle.sample_average.specs.declared.header.Header.{Header}
use Rattle.sample_average.specs.declared.header.Rule.{Rule}
use Rattle.sample_average.specs.declared.header.Rule.TheVariants as rules_of
use Rattle.sample_average.specs.declared.row.Row.{Row}
use Rattle.sample_average.specs.LawfulReport.{lines, onto_first, row_line, end_line, header_line, spin_line, spin_head, rule_text, IsLawfulHeader, is_hex}
use Rattle.std.specs.Char.{is_ascii_digit}
use Rattle.sample_average.proofs.Numerals.{decimal-digits}

-- a byte that ends no line
abbrev pub is_inner : ℕ → Bool
is_inner b = not (b == 10)

-- one line feed, and at the end
pub record IsLine (line : List ℕ) : Type 0 where
  pub body : List ℕ
  pub text : line ≡ body ++ 10 ∷ []
  pub inner : list_all is_inner body ≡ true

lines-step : (b : ℕ) (bytes first : List ℕ) (others : List (List ℕ)) (t : Bool) → (b == 10) ≡ t → not t ≡ true → lines bytes ≡ first ∷ others → cond t ((10 ∷ []) ∷ lines bytes) (onto_first b (lines bytes)) ≡ (b ∷ first) ∷ others
lines-step b bytes first others true is inner rest = absurd cc
lines-step b bytes first others false is inner rest = rw rest refl

lines-first : (body rest : List ℕ) → list_all is_inner body ≡ true → lines (body ++ 10 ∷ rest) ≡ (body ++ 10 ∷ []) ∷ lines rest
unfolding lines
lines-first [] rest all = refl
lines-first (b ∷ body) rest all =
    let p = and_parts (is_inner b) (list_all is_inner body) all in
    lines-step b (body ++ 10 ∷ rest) (body ++ 10 ∷ []) (lines rest) (b == 10) refl p.0 (lines-first body rest p.1)

-- the first line is cut off
pub lines-line : (line rest : List ℕ) → IsLine line → lines (line ++ rest) ≡ line ∷ lines rest
lines-line line rest is =
    ap lines (ap (λ (xs : List ℕ). xs ++ rest) is.text ∙ append_assoc is.body (10 ∷ []) rest) ∙ lines-first is.body rest is.inner ∙ ap (λ (xs : List ℕ). xs ∷ lines rest) (sym is.text)

concat-onto : (b : ℕ) (text : List (List ℕ)) → concat (onto_first b text) ≡ b ∷ concat text
concat-onto b [] = refl
concat-onto b (line ∷ text) = refl

concat-step : (b : ℕ) (bytes : List ℕ) (t : Bool) → (b == 10) ≡ t → concat (lines bytes) ≡ bytes → concat (cond t ((10 ∷ []) ∷ lines bytes) (onto_first b (lines bytes))) ≡ b ∷ bytes
concat-step b bytes true is rest = ap (λ (xs : List ℕ). 10 ∷ xs) rest ∙ ap (λ (k : ℕ). k ∷ bytes) (sym (eqb-true b 10 is))
concat-step b bytes false is rest = concat-onto b (lines bytes) ∙ ap (λ (xs : List ℕ). b ∷ xs) rest

-- the lines are the text
pub concat-lines : (bytes : List ℕ) → concat (lines bytes) ≡ bytes
unfolding lines
concat-lines [] = refl
concat-lines (b ∷ bytes) = concat-step b bytes (b == 10) refl (concat-lines bytes)

-- ---- printed numbers are within a line

inner-digits : (ds : List ℕ) → list_all is_ascii_digit ds ≡ true → list_all is_inner ds ≡ true
inner-digits [] all = refl
inner-digits (d ∷ ds) all =
    let p = and_parts (is_ascii_digit d) (list_all is_ascii_digit ds) all in
    let q : 48 ≤ d = leb-true 48 d (and_parts _ _ p.0).0 in
    and_from _ _ (not_from_false _ (ne_eqb d 10 (λ e. omega (arith, e, q)))) (inner-digits ds p.1)

pub inner-decimal : (n : ℕ) → n < 2 ^ 64 → list_all is_inner (decimal n) ≡ true
inner-decimal n small = inner-digits (decimal n) (decimal-digits n small)

pub inner-signed : (z : ℤ) → unsigned_abs z < 2 ^ 63 → list_all is_inner (signed_decimal z) ≡ true
inner-signed (pos n) small = inner-decimal n (omega (arith, small))
inner-signed (negsuc n) small = inner-decimal (suc n) (omega (arith, small))

pub inner-both : (xs ys : List ℕ) → list_all is_inner xs ≡ true → list_all is_inner ys ≡ true → list_all is_inner (xs ++ ys) ≡ true
inner-both xs ys p q = rw (list_all-append is_inner xs ys, p, q) refl

pub record AreShort (r : Row) : Type 0 where
  pub epoch : r.epoch < 2 ^ 64
  pub sample : r.sample < 2 ^ 64
  pub slot : r.slot < 2 ^ 64
  pub first : unsigned_abs r.first_energy < 2 ^ 63
  pub second : unsigned_abs r.second_energy < 2 ^ 63
  pub overlap : unsigned_abs r.overlap < 2 ^ 63
  pub one : r.first_replica < 2 ^ 64
  pub other : r.second_replica < 2 ^ 64

inner-all : (a b c d e f g i : List ℕ) → list_all is_inner a ≡ true → list_all is_inner b ≡ true → list_all is_inner c ≡ true → list_all is_inner d ≡ true → list_all is_inner e ≡ true → list_all is_inner f ≡ true → list_all is_inner g ≡ true → list_all is_inner i ≡ true
    → list_all is_inner (codes "row," ++ a ++ codes "," ++ b ++ codes "," ++ c ++ codes "," ++ d ++ codes "," ++ e ++ codes "," ++ f ++ codes "," ++ g ++ codes "," ++ i) ≡ true
inner-all a b c d e f g i p q r s t u v w = simp (list_all-append, p, q, r, s, t, u, v, w) refl

pub row-line : (r : Row) → AreShort r → IsLine (row_line r)
unfolding row_line
row-line r short = record {
  body = codes "row," ++ decimal r.epoch ++ codes "," ++ decimal r.sample ++ codes "," ++ decimal r.slot ++ codes "," ++ signed_decimal r.first_energy
      ++ codes "," ++ signed_decimal r.second_energy ++ codes "," ++ signed_decimal r.overlap ++ codes ","
      ++ decimal r.first_replica ++ codes "," ++ decimal r.second_replica;
  text = refl;
  inner = inner-all (decimal r.epoch) (decimal r.sample) (decimal r.slot) (signed_decimal r.first_energy) (signed_decimal r.second_energy) (signed_decimal r.overlap) (decimal r.first_replica) (decimal r.second_replica)
      (inner-decimal _ short.epoch) (inner-decimal _ short.sample) (inner-decimal _ short.slot) (inner-signed r.first_energy short.first)
      (inner-signed r.second_energy short.second) (inner-signed r.overlap short.overlap) (inner-decimal _ short.one) (inner-decimal _ short.other);
}

inner-rule : (r : Rule) → list_all is_inner (rule_text r) ≡ true
inner-rule rules_of.Heat = refl
inner-rule rules_of.Metropolis = refl

inner-header : (a b c d e f : List ℕ) → list_all is_inner a ≡ true → list_all is_inner b ≡ true → list_all is_inner c ≡ true → list_all is_inner d ≡ true → list_all is_inner e ≡ true → list_all is_inner f ≡ true
    → list_all is_inner (codes "glass 1 size=" ++ a ++ codes " slots=" ++ b ++ codes " samples=" ++ c ++ codes " rule=" ++ d ++ codes " from=" ++ e ++ codes " to=" ++ f) ≡ true
inner-header a b c d e f p q r s t u = simp (list_all-append, p, q, r, s, t, u) refl

pub header-line : (h : Header) → IsLawfulHeader h → IsLine (header_line h)
unfolding header_line
header-line h lawful = record {
  body = codes "glass 1 size=" ++ decimal h.size ++ codes " slots=" ++ decimal h.slots ++ codes " samples=" ++ decimal h.samples
      ++ codes " rule=" ++ rule_text h.rule ++ codes " from=" ++ decimal h.from ++ codes " to=" ++ decimal h.to;
  text = refl;
  inner = inner-header (decimal h.size) (decimal h.slots) (decimal h.samples) (rule_text h.rule) (decimal h.from) (decimal h.to)
      (inner-decimal _ (omega (arith, lawful.most))) (inner-decimal _ (omega (arith, lawful.few_slots))) (inner-decimal _ (omega (arith, lawful.few_samples)))
      (inner-rule h.rule) (inner-decimal _ (omega (arith, lawful.rising, lawful.until))) (inner-decimal _ (omega (arith, lawful.until)));
}

pub end-line : (n : ℕ) → n < 2 ^ 64 → IsLine (end_line n)
unfolding end_line
end-line n small = record { body = codes "end," ++ decimal n; text = refl; inner = inner-both (codes "end,") (decimal n) refl (inner-decimal n small) }

hex-inner : (d : ℕ) → is_hex d ≡ true → is_inner d ≡ true
hex-inner d hex = grind (arith, nat_tests)

inner-hex : (ds : List ℕ) → list_all is_hex ds ≡ true → list_all is_inner ds ≡ true
inner-hex [] all = refl
inner-hex (d ∷ ds) all =
    let p = and_parts (is_hex d) (list_all is_hex ds) all in
    and_from _ _ (hex-inner d p.0) (inner-hex ds p.1)

inner-spins : (a b c d : List ℕ) → list_all is_inner a ≡ true → list_all is_inner b ≡ true → list_all is_inner c ≡ true → list_all is_inner d ≡ true
    → list_all is_inner (codes "spin," ++ a ++ codes "," ++ b ++ codes "," ++ c ++ codes "," ++ d) ≡ true
inner-spins a b c d p q r s = simp (list_all-append, p, q, r, s) refl

quotient-small : (n d : ℕ) → n < 2 ^ 32 → n / d < 2 ^ 64
quotient-small n d small = omega (arith, div-le_self n d)

rest-small : (n d : ℕ) → n < 2 ^ 32 → n % d < 2 ^ 64
rest-small n d small = omega (arith, mod-le n d)

pub spin-line : (h : Header) (k : ℕ) (digits : List ℕ) → k < 2 ^ 32 → list_all is_hex digits ≡ true → IsLine (spin_line h k digits)
unfolding spin_line spin_head
spin-line h k digits small hex = record {
  body = codes "spin," ++ decimal (k / 2 / h.slots) ++ codes "," ++ decimal (k / 2 % h.slots) ++ codes "," ++ decimal (k % 2) ++ codes "," ++ digits;
  text = refl;
  inner = inner-spins (decimal (k / 2 / h.slots)) (decimal (k / 2 % h.slots)) (decimal (k % 2)) digits (inner-decimal _ (quotient-small (k / 2) h.slots (omega (arith, small)))) (inner-decimal _ (rest-small (k / 2) h.slots (omega (arith, small)))) (inner-decimal _ (omega arith)) (inner-hex digits hex);
}
