-- Lines as they are printed, and read again.
use Rattle.std.proofs.Common.{arith, ◌≡◌, ℕ, zero, suc, ◌+◌, ◌-◌, ◌*◌, ◌<◌, ◌≤◌, ◌^◌, Bool, true, false, cond, List, [], ◌∷◌, ◌++◌, length, take, drop, get_or, refl, sym, ap, subst, ◌∙◌, append_assoc, length-append}
use Rattle.std.specs.Prelude.{Option, Some, None, ℤ, pos, negsuc, ◌==◌, nat_le, slice_index, decimal, codes, bytes_eq, unsigned_abs}
use Rattle.std.specs.Fmt.{signed_decimal}
use Rattle.std.specs.List.{list_all}
use Rattle.std.proofs.lemmas.Bool.{and_parts, eqb-true, leb-true, ne_eqb}
use Rattle.std.proofs.lemmas.Fmt.{decimal_nonempty}
use Rattle.std.proofs.lemmas.List.{take_at, drop_at, take-append-drop, get_or_append_left}
use Rattle.std.proofs.lemmas.Slice.Eq.{bytes_eq-Decides}
use Rattle.sample_average.specs.declared.header.Header.{Header}
use Rattle.sample_average.specs.declared.header.Rule.{Rule}
use Rattle.sample_average.specs.declared.header.Rule.TheVariants as rules_of
use Rattle.sample_average.specs.declared.row.Row.{Row}
use Rattle.sample_average.specs.LawfulReport.{IsInRange, IsLawfulHeader, sites, rule_text, header_line, row_line}
use Rattle.std.specs.Char.{is_ascii_digit}
use Rattle.sample_average.specs.LineReading.{◌>>=◌, after, number_at, negative, signed_at, rule_at, counts_at, span_at, header_at, row_at}
use Rattle.sample_average.proofs.Numerals.{number-again, number-takes, decimal-digits}
use Rattle.std.proofs.lemmas.Option.{same_Some, cond_some}

-- ---- one step after another

pub bind-some : {A B : Type 0} (o : Option A) (f : A → Option B) (y : B) → (o >>= f) ≡ Some y → (x : A) × (o ≡ Some x) × (f x ≡ Some y)
bind-some None f y is = absurd cc
bind-some (Some x) f y is = (x, refl, is)

pub after-again : (text rest : List ℕ) → after text (text ++ rest) ≡ Some rest
after-again text rest = rw ((bytes_eq-Decides (take (length text) (text ++ rest)) text).1 (take_at text rest (length text) refl)) (ap Some (drop_at text rest (length text) refl))

pub after-takes : (text bytes rest : List ℕ) → after text bytes ≡ Some rest → bytes ≡ text ++ rest
after-takes text bytes rest is =
    let p = cond_some (bytes_eq (take (length text) bytes) text) (drop (length text) bytes) rest is in
    sym (take-append-drop (length text) bytes) ∙ ap (λ (xs : List ℕ). xs ++ drop (length text) bytes) ((bytes_eq-Decides _ text).0 p.0) ∙ ap (λ (xs : List ℕ). text ++ xs) p.1

-- ---- numbers with a sign

first-digit : (ds : List ℕ) → list_all is_ascii_digit ds ≡ true → 0 < length ds → (get_or ds 0 0 == 45) ≡ false
first-digit [] all some = absurd (omega (arith, some))
first-digit (d ∷ ds) all some =
    let p = and_parts (is_ascii_digit d) (list_all is_ascii_digit ds) all in
    let q : 48 ≤ d = leb-true 48 d (and_parts (nat_le 48 d) (nat_le d 57) p.0).0 in
    ne_eqb d 45 (λ e. omega (arith, e, q))

some-test : (n : ℕ) → (suc n == 0) ≡ false
some-test n = ne_eqb (suc n) 0 (λ e. omega (arith, e))

pub signed-again : (most end : ℕ) (z : ℤ) (rest : List ℕ) → unsigned_abs z ≤ most → unsigned_abs z < 10 ^ 10 → is_ascii_digit end ≡ false → signed_at most end (signed_decimal z ++ end ∷ rest) ≡ Some (z, rest)
unfolding signed_at
signed-again most end (pos n) rest few small stop =
    let big : n < 2 ^ 64 = omega (arith, small) in
    let some : 0 < length (decimal n) = decimal_nonempty n big in
    let first : (get_or (decimal n ++ end ∷ rest) 0 0 == 45) ≡ false = ap (λ (k : ℕ). k == 45) (get_or_append_left (decimal n) (end ∷ rest) 0 0 some) ∙ first-digit (decimal n) (decimal-digits n big) some in
    rw (first, number-again most end n rest few small stop) refl
signed-again most end (negsuc n) rest few small stop = rw (number-again most end (suc n) rest few small stop, some-test n) refl

signed-minus : (bytes : List ℕ) → (slice_index bytes 0 == 45) ≡ true → bytes ≡ 45 ∷ drop 1 bytes
signed-minus [] test = absurd cc
signed-minus (b ∷ bytes) test = ap (λ (k : ℕ). k ∷ bytes) (eqb-true b 45 test)

negative-takes : (n : ℕ) (rest : List ℕ) (x : ℤ × List ℕ) → negative (n, rest) ≡ Some x → (45 ∷ decimal n ≡ signed_decimal x.0) × (unsigned_abs x.0 ≡ n) × (rest ≡ x.1)
negative-takes zero rest x is = absurd cc
negative-takes (suc n) rest x is =
    let made : Some (negsuc n, rest) ≡ Some x = rw (some-test n) at is in
    let e : (negsuc n, rest) ≡ x = cc in
    rw (← e) (refl, refl, refl)

signed-by : (most end : ℕ) (bytes : List ℕ) (x : ℤ × List ℕ) (b : Bool) → (slice_index bytes 0 == 45) ≡ b
    → cond b (number_at most end (drop 1 bytes) >>= negative) (number_at most end bytes >>= (λ x. Some (pos x.0, x.1))) ≡ Some x
    → (bytes ≡ signed_decimal x.0 ++ end ∷ x.1) × (unsigned_abs x.0 ≤ most)
signed-by most end bytes x true test is =
    let n = bind-some (number_at most end (drop 1 bytes)) negative x is in
    let read = number-takes most end (drop 1 bytes) n.0 n.1 in
    let sign = negative-takes n.0.0 n.0.1 x n.2 in
    (signed-minus bytes test ∙ ap (λ (xs : List ℕ). 45 ∷ xs) read.0 ∙ ap (λ (xs : List ℕ). xs ++ end ∷ n.0.1) sign.0 ∙ ap (λ (xs : List ℕ). signed_decimal x.0 ++ end ∷ xs) sign.2, rw sign.1 read.1)
signed-by most end bytes x false test is =
    let n = bind-some (number_at most end bytes) (λ x. Some (pos x.0, x.1)) x is in
    let read = number-takes most end bytes n.0 n.1 in
    let e : (pos n.0.0, n.0.1) ≡ x = cc in
    rw (← e) read

pub signed-takes : (most end : ℕ) (bytes : List ℕ) (x : ℤ × List ℕ) → signed_at most end bytes ≡ Some x → (bytes ≡ signed_decimal x.0 ++ end ∷ x.1) × (unsigned_abs x.0 ≤ most)
unfolding signed_at
signed-takes most end bytes x is = signed-by most end bytes x (slice_index bytes 0 == 45) refl is

-- ---- the word of the dynamics

rule-again : (r : Rule) (rest : List ℕ) → rule_at (rule_text r ++ 32 ∷ rest) ≡ Some (r, rest)
rule-again rules_of.Heat rest = refl
rule-again rules_of.Metropolis rest = refl

rule-by : (bytes : List ℕ) (x : Rule × List ℕ) (b : Bool) → bytes_eq (take 5 bytes) (codes "heat ") ≡ b
    → cond b (Some (rules_of.Heat, drop 5 bytes)) (after (codes "metropolis ") bytes >>= (λ rest. Some (rules_of.Metropolis, rest))) ≡ Some x → bytes ≡ rule_text x.0 ++ 32 ∷ x.1
rule-by bytes x true test is =
    let e : (rules_of.Heat, drop 5 bytes) ≡ x = cc in
    rw (← e) (sym (take-append-drop 5 bytes) ∙ ap (λ (xs : List ℕ). xs ++ drop 5 bytes) ((bytes_eq-Decides _ (codes "heat ")).0 test))
rule-by bytes x false test is =
    let n = bind-some (after (codes "metropolis ") bytes) (λ rest. Some (rules_of.Metropolis, rest)) x is in
    let e : (rules_of.Metropolis, n.0) ≡ x = cc in
    rw (← e) (after-takes (codes "metropolis ") bytes n.0 n.1)

rule-takes : (bytes : List ℕ) (x : Rule × List ℕ) → rule_at bytes ≡ Some x → bytes ≡ rule_text x.0 ++ 32 ∷ x.1
rule-takes bytes x is = rule-by bytes x (bytes_eq (take 5 bytes) (codes "heat ")) refl is

-- ---- rows

row-spread : (r : Row) (rest : List ℕ) → row_line r ++ rest ≡ codes "row," ++ (decimal r.epoch ++ 44 ∷ (decimal r.sample ++ 44 ∷ (decimal r.slot ++ 44 ∷ (signed_decimal r.first_energy ++ 44 ∷ (signed_decimal r.second_energy
    ++ 44 ∷ (signed_decimal r.overlap ++ 44 ∷ (decimal r.first_replica ++ 44 ∷ (decimal r.second_replica ++ 10 ∷ rest))))))))
unfolding row_line
row-spread r rest = simp append_assoc refl

-- the numbers that a row of such a report may have
pub record IsRowNear (h : Header) (r : Row) : Type 0 where
  pub epoch : r.epoch ≤ h.to
  pub sample : r.sample ≤ h.samples
  pub slot : r.slot ≤ h.slots
  pub range : IsInRange h r

pub row-again : (h : Header) (r : Row) (rest : List ℕ) → h.to ≤ 1000000000 → h.samples ≤ 256 → h.slots ≤ 32 → sites h ≤ 262144 → IsRowNear h r → row_at h (row_line r ++ rest) ≡ Some (r, rest)
unfolding row_at
row-again h r rest until few low small near =
    rw (
      row-spread r rest,
      number-again h.to 44 r.epoch _ near.epoch (omega (arith, near.epoch)) refl,
      number-again h.samples 44 r.sample _ near.sample (omega (arith, near.sample)) refl,
      number-again h.slots 44 r.slot _ near.slot (omega (arith, near.slot)) refl,
      signed-again (3 * sites h) 44 r.first_energy _ near.range.first_energy (omega (arith, near.range.first_energy)) refl,
      signed-again (3 * sites h) 44 r.second_energy _ near.range.second_energy (omega (arith, near.range.second_energy)) refl,
      signed-again (sites h) 44 r.overlap _ near.range.overlap (omega (arith, near.range.overlap)) refl,
      number-again (h.slots - 1) 44 r.first_replica _ (omega (arith, near.range.first_replica)) (omega (arith, near.range.first_replica)) refl,
      number-again (h.slots - 1) 10 r.second_replica rest (omega (arith, near.range.second_replica)) (omega (arith, near.range.second_replica)) refl,
    ) refl

row-joined : (r : Row) (b0 b1 b2 b3 b4 b5 b6 b7 b8 rest : List ℕ) → b0 ≡ codes "row," ++ b1 → b1 ≡ decimal r.epoch ++ 44 ∷ b2 → b2 ≡ decimal r.sample ++ 44 ∷ b3 → b3 ≡ decimal r.slot ++ 44 ∷ b4
    → b4 ≡ signed_decimal r.first_energy ++ 44 ∷ b5 → b5 ≡ signed_decimal r.second_energy ++ 44 ∷ b6 → b6 ≡ signed_decimal r.overlap ++ 44 ∷ b7 → b7 ≡ decimal r.first_replica ++ 44 ∷ b8
    → b8 ≡ decimal r.second_replica ++ 10 ∷ rest → b0 ≡ row_line r ++ rest
row-joined r b0 b1 b2 b3 b4 b5 b6 b7 b8 rest e0 e1 e2 e3 e4 e5 e6 e7 e8 = rw (row-spread r rest) (rw (e0, e1, e2, e3, e4, e5, e6, e7, e8) refl)

below-last : (n slots : ℕ) → 1 ≤ slots → n ≤ slots - 1 → n < slots
below-last n slots some few = omega arith

pub row-takes : (h : Header) (bytes : List ℕ) (x : Row × List ℕ) → 1 ≤ h.slots → row_at h bytes ≡ Some x → (bytes ≡ row_line x.0 ++ x.1) × IsRowNear h x.0
unfolding row_at
row-takes h bytes x some is =
    let n0 = bind-some (after (codes "row,") bytes) _ x is in
    let n1 = bind-some (number_at h.to 44 n0.0) _ x n0.2 in
    let n2 = bind-some (number_at h.samples 44 n1.0.1) _ x n1.2 in
    let n3 = bind-some (number_at h.slots 44 n2.0.1) _ x n2.2 in
    let n4 = bind-some (signed_at (3 * sites h) 44 n3.0.1) _ x n3.2 in
    let n5 = bind-some (signed_at (3 * sites h) 44 n4.0.1) _ x n4.2 in
    let n6 = bind-some (signed_at (sites h) 44 n5.0.1) _ x n5.2 in
    let n7 = bind-some (number_at (h.slots - 1) 44 n6.0.1) _ x n6.2 in
    let n8 = bind-some (number_at (h.slots - 1) 10 n7.0.1) _ x n7.2 in
    let row : Row = record { epoch = n1.0.0; sample = n2.0.0; slot = n3.0.0; first_energy = n4.0.0; second_energy = n5.0.0; overlap = n6.0.0; first_replica = n7.0.0; second_replica = n8.0.0 } in
    let made : (row, n8.0.1) ≡ x = same_Some _ x n8.2 in
    let t1 = number-takes h.to 44 n0.0 n1.0 n1.1 in
    let t2 = number-takes h.samples 44 n1.0.1 n2.0 n2.1 in
    let t3 = number-takes h.slots 44 n2.0.1 n3.0 n3.1 in
    let t4 = signed-takes (3 * sites h) 44 n3.0.1 n4.0 n4.1 in
    let t5 = signed-takes (3 * sites h) 44 n4.0.1 n5.0 n5.1 in
    let t6 = signed-takes (sites h) 44 n5.0.1 n6.0 n6.1 in
    let t7 = number-takes (h.slots - 1) 44 n6.0.1 n7.0 n7.1 in
    let t8 = number-takes (h.slots - 1) 10 n7.0.1 n8.0 n8.1 in
    let joined = row-joined row bytes n0.0 n1.0.1 n2.0.1 n3.0.1 n4.0.1 n5.0.1 n6.0.1 n7.0.1 n8.0.1 (after-takes (codes "row,") bytes n0.0 n0.1) t1.0 t2.0 t3.0 t4.0 t5.0 t6.0 t7.0 t8.0 in
    let near : IsRowNear h row = record {
      epoch = t1.1;
      sample = t2.1;
      slot = t3.1;
      range = record { first_energy = t4.1; second_energy = t5.1; overlap = t6.1; first_replica = below-last _ _ some t7.1; second_replica = below-last _ _ some t8.1 };
    } in
    subst (λ (y : Row × List ℕ). (bytes ≡ row_line y.0 ++ y.1) × IsRowNear h y.0) made (joined, near)

-- ---- the header

header-spread : (h : Header) (rest : List ℕ) → header_line h ++ rest ≡ codes "glass 1 size=" ++ (decimal h.size ++ 32 ∷ (codes "slots=" ++ (decimal h.slots ++ 32 ∷ (codes "samples=" ++ (decimal h.samples
    ++ 32 ∷ (codes "rule=" ++ (rule_text h.rule ++ 32 ∷ (codes "from=" ++ (decimal h.from ++ 32 ∷ (codes "to=" ++ (decimal h.to ++ 10 ∷ rest)))))))))))
unfolding header_line
header-spread h rest = simp append_assoc refl

pub header-again : (h : Header) (rest : List ℕ) → IsLawfulHeader h → header_at (header_line h ++ rest) ≡ Some (h, rest)
unfolding counts_at span_at
header-again h rest lawful =
    rw (
      header-spread h rest,
      number-again 64 32 h.size _ lawful.most (omega (arith, lawful.most)) refl,
      number-again 32 32 h.slots _ lawful.few_slots (omega (arith, lawful.few_slots)) refl,
      number-again 256 32 h.samples _ lawful.few_samples (omega (arith, lawful.few_samples)) refl,
      rule-again h.rule _,
      number-again 1000000000 32 h.from _ (omega (arith, lawful.rising, lawful.until)) (omega (arith, lawful.rising, lawful.until)) refl,
      number-again 1000000000 10 h.to rest lawful.until (omega (arith, lawful.until)) refl,
    ) refl

-- the numbers of a header that was read
pub record IsHeaderNear (h : Header) : Type 0 where
  pub size : h.size ≤ 64
  pub slots : h.slots ≤ 32
  pub samples : h.samples ≤ 256
  pub to : h.to ≤ 1000000000

-- the front of the line
record AreCounts (bytes : List ℕ) (x : (ℕ × ℕ × ℕ) × List ℕ) : Type 0 where
  text : bytes ≡ codes "glass 1 size=" ++ (decimal x.0.0 ++ 32 ∷ (codes "slots=" ++ (decimal x.0.1 ++ 32 ∷ (codes "samples=" ++ (decimal x.0.2 ++ 32 ∷ x.1)))))
  size : x.0.0 ≤ 64
  slots : x.0.1 ≤ 32
  samples : x.0.2 ≤ 256

six-joined : (b0 b1 b2 b3 b4 b5 t0 t1 t2 t3 t4 t5 rest : List ℕ) → b0 ≡ t0 ++ b1 → b1 ≡ t1 ++ 32 ∷ b2 → b2 ≡ t2 ++ b3 → b3 ≡ t3 ++ 32 ∷ b4 → b4 ≡ t4 ++ b5 → b5 ≡ t5 ++ rest
    → b0 ≡ t0 ++ (t1 ++ 32 ∷ (t2 ++ (t3 ++ 32 ∷ (t4 ++ (t5 ++ rest)))))
six-joined b0 b1 b2 b3 b4 b5 t0 t1 t2 t3 t4 t5 rest e0 e1 e2 e3 e4 e5 = rw (e0, e1, e2, e3, e4, e5) refl

counts-takes : (bytes : List ℕ) (x : (ℕ × ℕ × ℕ) × List ℕ) → counts_at bytes ≡ Some x → AreCounts bytes x
unfolding counts_at
counts-takes bytes x is =
    let n0 = bind-some (after (codes "glass 1 size=") bytes) _ x is in
    let n1 = bind-some (number_at 64 32 n0.0) _ x n0.2 in
    let n2 = bind-some (after (codes "slots=") n1.0.1) _ x n1.2 in
    let n3 = bind-some (number_at 32 32 n2.0) _ x n2.2 in
    let n4 = bind-some (after (codes "samples=") n3.0.1) _ x n3.2 in
    let n5 = bind-some (number_at 256 32 n4.0) _ x n4.2 in
    let t1 = number-takes 64 32 n0.0 n1.0 n1.1 in
    let t3 = number-takes 32 32 n2.0 n3.0 n3.1 in
    let t5 = number-takes 256 32 n4.0 n5.0 n5.1 in
    let read : (ℕ × ℕ × ℕ) × List ℕ = ((n1.0.0, n3.0.0, n5.0.0), n5.0.1) in
    subst (AreCounts bytes) {x = read} (same_Some read x n5.2) (record {
      text = six-joined bytes n0.0 n1.0.1 n2.0 n3.0.1 n4.0 (codes "glass 1 size=") (decimal n1.0.0) (codes "slots=") (decimal n3.0.0) (codes "samples=") (decimal n5.0.0) (32 ∷ n5.0.1)
          (after-takes (codes "glass 1 size=") bytes n0.0 n0.1) t1.0 (after-takes (codes "slots=") n1.0.1 n2.0 n2.1) t3.0 (after-takes (codes "samples=") n3.0.1 n4.0 n4.1) t5.0;
      size = t1.1;
      slots = t3.1;
      samples = t5.1;
    })

-- the back of it
record IsSpan (bytes : List ℕ) (x : (Rule × ℕ × ℕ) × List ℕ) : Type 0 where
  text : bytes ≡ codes "rule=" ++ (rule_text x.0.0 ++ 32 ∷ (codes "from=" ++ (decimal x.0.1 ++ 32 ∷ (codes "to=" ++ (decimal x.0.2 ++ 10 ∷ x.1)))))
  to : x.0.2 ≤ 1000000000

span-takes : (bytes : List ℕ) (x : (Rule × ℕ × ℕ) × List ℕ) → span_at bytes ≡ Some x → IsSpan bytes x
unfolding span_at
span-takes bytes x is =
    let n0 = bind-some (after (codes "rule=") bytes) _ x is in
    let n1 = bind-some (rule_at n0.0) _ x n0.2 in
    let n2 = bind-some (after (codes "from=") n1.0.1) _ x n1.2 in
    let n3 = bind-some (number_at 1000000000 32 n2.0) _ x n2.2 in
    let n4 = bind-some (after (codes "to=") n3.0.1) _ x n3.2 in
    let n5 = bind-some (number_at 1000000000 10 n4.0) _ x n4.2 in
    let t3 = number-takes 1000000000 32 n2.0 n3.0 n3.1 in
    let t5 = number-takes 1000000000 10 n4.0 n5.0 n5.1 in
    let read : (Rule × ℕ × ℕ) × List ℕ = ((n1.0.0, n3.0.0, n5.0.0), n5.0.1) in
    subst (IsSpan bytes) {x = read} (same_Some read x n5.2) (record {
      text = six-joined bytes n0.0 n1.0.1 n2.0 n3.0.1 n4.0 (codes "rule=") (rule_text n1.0.0) (codes "from=") (decimal n3.0.0) (codes "to=") (decimal n5.0.0) (10 ∷ n5.0.1)
          (after-takes (codes "rule=") bytes n0.0 n0.1) (rule-takes n0.0 n1.0 n1.1) (after-takes (codes "from=") n1.0.1 n2.0 n2.1) t3.0 (after-takes (codes "to=") n3.0.1 n4.0 n4.1) t5.0;
      to = t5.1;
    })

pub header-takes : (bytes : List ℕ) (x : Header × List ℕ) → header_at bytes ≡ Some x → (bytes ≡ header_line x.0 ++ x.1) × IsHeaderNear x.0
header-takes bytes x is =
    let n0 = bind-some (counts_at bytes) _ x is in
    let n1 = bind-some (span_at n0.0.1) _ x n0.2 in
    let c = counts-takes bytes n0.0 n0.1 in
    let s = span-takes n0.0.1 n1.0 n1.1 in
    let header : Header = record { size = n0.0.0.0; slots = n0.0.0.1; samples = n0.0.0.2; rule = n1.0.0.0; from = n1.0.0.1; to = n1.0.0.2 } in
    let text : bytes ≡ header_line header ++ n1.0.1 =
    c.text ∙ ap (λ (xs : List ℕ). codes "glass 1 size=" ++ (decimal header.size ++ 32 ∷ (codes "slots=" ++ (decimal header.slots ++ 32 ∷ (codes "samples=" ++ (decimal header.samples ++ 32 ∷ xs)))))) s.text
    ∙ sym (header-spread header n1.0.1) in
    subst (λ (y : Header × List ℕ). (bytes ≡ header_line y.0 ++ y.1) × IsHeaderNear y.0) (same_Some (header, n1.0.1) x n1.2)
    (text, record { size = c.size; slots = c.slots; samples = c.samples; to = s.to })

header-some : (h : Header) → 0 < length (header_line h)
unfolding header_line
header-some h = omega (
  arith,
  length-append (codes "glass 1 size=" ++ decimal h.size ++ codes " slots=" ++ decimal h.slots ++ codes " samples=" ++ decimal h.samples
      ++ codes " rule=" ++ rule_text h.rule ++ codes " from=" ++ decimal h.from ++ codes " to=" ++ decimal h.to) (codes "\n"),
)

-- the first line has a byte
pub header-shorter : (bytes : List ℕ) (x : Header × List ℕ) → header_at bytes ≡ Some x → 1 + length x.1 ≤ length bytes
header-shorter bytes x is = omega (arith, ap length (header-takes bytes x is).0, length-append (header_line x.0) x.1, header-some x.0)
