-- A header is tested number by number.
use Rattle.std.proofs.Common.{◌≡◌, ◌%◌, Bool, true, refl}
use Rattle.std.specs.Prelude.{nat_le, ◌==◌, ◌&&◌}
use Rattle.std.proofs.lemmas.Bool.{and_parts, eqb-true, leb-true, eq-eqb, le-leb}
use Rattle.sample_average.specs.declared.header.Header.{Header}
use Rattle.sample_average.specs.LawfulReport.{IsLawfulHeader}
use Rattle.sample_average.specs.Following.{is_lawful}

record AllTrue (a b c d e f g i j : Bool) : Type 0 where
  a1 : a ≡ true
  b1 : b ≡ true
  c1 : c ≡ true
  d1 : d ≡ true
  e1 : e ≡ true
  f1 : f ≡ true
  g1 : g ≡ true
  i1 : i ≡ true
  j1 : j ≡ true

nine-parts : (a b c d e f g i j : Bool) → (a && b && c && d && e && f && g && i && j) ≡ true → AllTrue a b c d e f g i j
nine-parts a b c d e f g i j is =
    let p = and_parts (a && b && c && d && e && f && g && i) j is in
    let q = and_parts (a && b && c && d && e && f && g) i p.0 in
    let r = and_parts (a && b && c && d && e && f) g q.0 in
    let s = and_parts (a && b && c && d && e) f r.0 in
    let t = and_parts (a && b && c && d) e s.0 in
    let u = and_parts (a && b && c) d t.0 in
    let v = and_parts (a && b) c u.0 in
    let w = and_parts a b v.0 in
    record { a1 = w.0; b1 = w.1; c1 = v.1; d1 = u.1; e1 = t.1; f1 = s.1; g1 = r.1; i1 = q.1; j1 = p.1 }

nine-from : (a b c d e f g i j : Bool) → AllTrue a b c d e f g i j → (a && b && c && d && e && f && g && i && j) ≡ true
nine-from a b c d e f g i j x = rw (x.a1, x.b1, x.c1, x.d1, x.e1, x.f1, x.g1, x.i1, x.j1) refl

pub tested : (h : Header) → is_lawful h ≡ true → IsLawfulHeader h
tested h is =
    let p = nine-parts (nat_le 4 h.size) (nat_le h.size 64) (h.size % 2 == 0) (nat_le 1 h.slots) (nat_le h.slots 32) (nat_le 1 h.samples) (nat_le h.samples 256) (nat_le h.from h.to) (nat_le h.to 1000000000) is in
    record {
      least = leb-true _ _ p.a1;
      most = leb-true _ _ p.b1;
      even = eqb-true _ _ p.c1;
      some_slots = leb-true _ _ p.d1;
      few_slots = leb-true _ _ p.e1;
      some_samples = leb-true _ _ p.f1;
      few_samples = leb-true _ _ p.g1;
      rising = leb-true _ _ p.i1;
      until = leb-true _ _ p.j1;
    }

pub passes : (h : Header) → IsLawfulHeader h → is_lawful h ≡ true
passes h l = nine-from (nat_le 4 h.size) (nat_le h.size 64) (h.size % 2 == 0) (nat_le 1 h.slots) (nat_le h.slots 32) (nat_le 1 h.samples) (nat_le h.samples 256) (nat_le h.from h.to) (nat_le h.to 1000000000) (record {
  a1 = le-leb _ _ l.least;
  b1 = le-leb _ _ l.most;
  c1 = eq-eqb _ _ l.even;
  d1 = le-leb _ _ l.some_slots;
  e1 = le-leb _ _ l.few_slots;
  f1 = le-leb _ _ l.some_samples;
  g1 = le-leb _ _ l.few_samples;
  i1 = le-leb _ _ l.rising;
  j1 = le-leb _ _ l.until;
})
