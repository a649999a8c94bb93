-- What one put after another has appended.
use Rattle.std.proofs.Common.{◌≡◌, ℕ, ◌+◌, ◌-◌, ◌<◌, List, [], ◌++◌, length, take, drop, Option, Some, None, refl, sym, ap, subst, ◌∙◌, arith, append_assoc, append-nil, length-append, length-drop}
use Rattle.std.proofs.Math.Seq.{take-add, take-append-add}
use Rattle.std.proofs.lemmas.List.{take_rest, take-append-le, take-append-drop}
use Rattle.glass_edges.specs.Contents.{appended, AppendsPrefix, PutsFront}

pub appended-appended : (o : Option (List ℕ)) (xs ys : List ℕ) → appended (appended o xs) ys ≡ appended o (xs ++ ys)
appended-appended None xs ys = refl
appended-appended (Some zs) xs ys = ap Some (append_assoc zs xs ys)

pub appended-nothing : (o : Option (List ℕ)) → appended o [] ≡ o
appended-nothing None = refl
appended-nothing (Some xs) = ap Some (append-nil xs)

-- after the first bytes, n bytes of the rest
pub appended_rest : (o : Option (List ℕ)) (bytes : List ℕ) (at n : ℕ) → appended (appended o (take at bytes)) (take n (take (length bytes - at) (drop at bytes))) ≡ appended o (take (at + n) bytes)
appended_rest o bytes at n = rw (take_rest bytes at, take-add at n bytes) (appended-appended o (take at bytes) (take n (drop at bytes)))

-- something is left where not all is put
pub rest_left : (bytes : List ℕ) (at : ℕ) → at < length bytes → 0 < length (take (length bytes - at) (drop at bytes))
rest_left bytes at more = rw (take_rest bytes at) (omega (arith, length-drop at bytes))

-- a prefix of the first text is a prefix of both
pub prefix_front : (before now : Option (List ℕ)) (xs ys : List ℕ) → AppendsPrefix before now xs → AppendsPrefix before now (xs ++ ys)
prefix_front before now xs ys p = record {
  count = p.count;
  within = omega (arith, length-append xs ys, p.within);
  same = p.same ∙ ap (appended before) (sym (take-append-le p.count xs ys p.within));
}

-- the first text, and then a prefix of the second
pub prefix_past : (before mid now : Option (List ℕ)) (xs ys : List ℕ) → mid ≡ appended before xs → AppendsPrefix mid now ys → AppendsPrefix before now (xs ++ ys)
prefix_past before mid now xs ys whole p = record {
  count = length xs + p.count;
  within = omega (arith, length-append xs ys, p.within);
  same = p.same ∙ ap (λ o. appended o (take p.count ys)) whole ∙ appended-appended before xs (take p.count ys) ∙ ap (appended before) (sym (take-append-add xs ys p.count));
}

-- nothing was put
pub put-none : (before : Option (List ℕ)) (text : List ℕ) → text ≡ [] → before ≡ appended before text
put-none before text none = sym (ap (appended before) none ∙ appended-nothing before)

-- a piece more was put
pub put-more : (before mid now : Option (List ℕ)) (text piece whole : List ℕ) → mid ≡ appended before text → now ≡ appended mid piece → whole ≡ text ++ piece → now ≡ appended before whole
put-more before mid now text piece whole so_far put is =
    put ∙ ap (λ o. appended o piece) so_far ∙ appended-appended before text piece ∙ ap (appended before) (sym is)

-- a text behind a first one, and more behind it
pub behind : (first mid last text more : List ℕ) → mid ≡ first ++ text → last ≡ mid ++ more → last ≡ first ++ (text ++ more)
behind first mid last text more e f = f ∙ ap (λ xs. xs ++ more) e ∙ append_assoc first text more

-- ---- a text that goes out front by front, with its rest in a line

-- the text so far and all that follows
pub text-rest : (first text : List ℕ) (k : ℕ) → (first ++ take k text) ++ drop k text ≡ first ++ text
text-rest first text k = append_assoc first (take k text) (drop k text) ∙ ap (λ (xs : List ℕ). first ++ xs) (take-append-drop k text)

-- nothing is put, and all of the text is the rest
pub front-none : (before : Option (List ℕ)) (text : List ℕ) → PutsFront before before text text
front-none before text = record { front = []; whole = refl; same = sym (appended-nothing before) }

-- so it is where nothing was added behind a line
pub add-none : (before : Option (List ℕ)) (line text : List ℕ) → text ≡ [] → PutsFront before before (line ++ text) line
add-none before line text none =
    let P : List ℕ → Type 0 = λ xs. PutsFront before before xs line in
    subst P (sym (ap (λ xs. line ++ xs) none ∙ append-nil line)) (front-none before line)

-- more is added behind the text, and so behind the rest
pub front-more : (before now : Option (List ℕ)) (text rest more : List ℕ) → PutsFront before now text rest → PutsFront before now (text ++ more) (rest ++ more)
front-more before now text rest more p = record {
  front = p.front;
  whole = ap (λ xs. xs ++ more) p.whole ∙ append_assoc p.front rest more;
  same = p.same;
}

-- a front of the rest is put too
pub front-then : (before mid now : Option (List ℕ)) (text rest last : List ℕ) → PutsFront before mid text rest → PutsFront mid now rest last → PutsFront before now text last
front-then before mid now text rest last p q = record {
  front = p.front ++ q.front;
  whole = p.whole ∙ ap (λ xs. p.front ++ xs) q.whole ∙ sym (append_assoc p.front q.front last);
  same = q.same ∙ ap (λ o. appended o q.front) p.same ∙ appended-appended before p.front q.front;
}

-- the rest is put too, so all of the text is
pub front-whole : (before mid now : Option (List ℕ)) (text rest : List ℕ) → PutsFront before mid text rest → now ≡ appended mid rest → now ≡ appended before text
front-whole before mid now text rest p whole = whole ∙ ap (λ o. appended o rest) p.same ∙ appended-appended before p.front rest ∙ ap (appended before) (sym p.whole)

-- a prefix of the rest is put too, so a prefix of the text is
pub front-prefix : (before mid now : Option (List ℕ)) (text rest : List ℕ) → PutsFront before mid text rest → AppendsPrefix mid now rest → AppendsPrefix before now text
front-prefix before mid now text rest p q = subst (AppendsPrefix before now) (sym p.whole) (prefix_past before mid now p.front rest p.same q)
