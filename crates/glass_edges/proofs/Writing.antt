-- What calls that put texts one after the other leave of an output.
use Rattle.std.proofs.Common.{arith, ◌≡◌, ℕ, List, [], ◌++◌, Result, Ok, Err, refl, sym, ap, subst, ◌∙◌, append_assoc}
use Rattle.std.proofs.lemmas.Bool.{false≢true}
use Rattle.std.proofs.lemmas.Result.{on_ok_weaker, on_err_weaker}
use Rattle.std.specs.Result.{IsErr}
use Rattle.glass_edges.specs.declared.sink.Sink.{Ghosts}
use Rattle.glass_edges.specs.Causes.{HasCause}
use Rattle.glass_edges.specs.Contents.{AppendsPrefix}
use Rattle.glass_edges.specs.Writes.{Writes, WritesFront, HasPut, HasPutFront}
use Rattle.glass_edges.proofs.Puts.{put-none, put-more, prefix_front, prefix_past, add-none, front-more, front-then, front-whole, front-prefix}

-- after calls that counted no fault, the causes of the next one
cause-then : {T E : Type 0} (r : Result T E) (before mid now : ℕ) → mid ≡ before → HasCause mid now r → HasCause before now r
cause-then r before mid now none cause = subst (λ (n : ℕ). HasCause n now r) none cause

module _ {O : Type 0} {s : Ghosts O} where
  -- ---- all of a text

  -- nothing was put
  pub writes-none : {x : O} {text : List ℕ} → text ≡ [] → HasPut s x x text
  writes-none none = record { whole = put-none _ _ none; prefix = tt; cause = record { later = omega arith; failed = tt; passed = refl } }

  -- a piece more
  pub writes-more : {T E : Type 0} {x y z : O} {text piece whole : List ℕ} {r : Result T E} → HasPut s x y text → Writes s y z piece r → whole ≡ text ++ piece → Writes s x z whole r
  writes-more {x = x} {y = y} {z = z} {text = text} {piece = piece} {r = r} so_far put is = record {
    whole = on_ok_weaker r (λ w. put-more _ (s.taken y) _ text piece _ so_far.whole w is) put.whole;
    prefix = on_err_weaker r (λ p. subst (AppendsPrefix (s.taken x) (s.taken z)) (sym is) (prefix_past _ (s.taken y) _ text piece so_far.whole p)) put.prefix;
    cause = cause-then r _ _ _ so_far.cause.passed put.cause;
  }

  -- a call failed, and what was to follow was not put
  pub writes-failed : {T E U F : Type 0} {x y : O} {text whole : List ℕ} {r : Result T E} {e : F} (end : List ℕ) → IsErr r → Writes {T = U} s x y text (Err e) → whole ≡ text ++ end → Writes s x y whole r
  writes-failed {r = Ok v} end failed put is = absurd (false≢true failed)
  writes-failed {x = x} {y = y} {text = text} {r = Err f} end failed put is = record {
    whole = tt;
    prefix = subst (AppendsPrefix (s.taken x) (s.taken y)) (sym is) (prefix_front _ _ text end put.prefix);
    cause = record { later = put.cause.later; failed = put.cause.failed; passed = tt };
  }

  -- the first of three parts failed
  pub writes-first : {T E U F : Type 0} {x y : O} {first whole : List ℕ} {r : Result T E} {e : F} (second third : List ℕ) → IsErr r → Writes {T = U} s x y first (Err e) → whole ≡ (first ++ second) ++ third → Writes s x y whole r
  writes-first {first = first} second third failed put is = writes-failed (second ++ third) failed put (is ∙ append_assoc first second third)

  -- a piece failed, behind what was put
  pub writes-stopped : {T E U F : Type 0} {x y z : O} {text piece whole : List ℕ} {r : Result T E} {e : F} (end : List ℕ) → IsErr r → HasPut s x y text → Writes {T = U} s y z piece (Err e) → whole ≡ (text ++ piece) ++ end → Writes s x z whole r
  writes-stopped end failed so_far put is = writes-failed end failed (writes-more so_far put refl) is

  -- the text in other words
  pub writes-same : {T E : Type 0} {x y : O} {text whole : List ℕ} {r : Result T E} → text ≡ whole → Writes s x y text r → Writes s x y whole r
  writes-same {x = x} {y = y} {r = r} is = subst (λ (xs : List ℕ). Writes s x y xs r) is

  -- ---- a front of a text, with its rest in a line

  -- nothing was added
  pub fronts-none : {x : O} {line text : List ℕ} → text ≡ [] → HasPutFront s x x (line ++ text) line
  fronts-none {line = line} {text = text} none = record { front = add-none _ line text none; prefix = tt; cause = record { later = omega arith; failed = tt; passed = refl } }

  -- a piece stands behind the rest
  pub fronts-added : {x y : O} {text rest : List ℕ} (piece : List ℕ) → HasPutFront s x y text rest → HasPutFront s x y (text ++ piece) (rest ++ piece)
  fronts-added {text = text} {rest = rest} piece so_far = record { front = front-more _ _ text rest piece so_far.front; prefix = tt; cause = so_far.cause }

  -- and in a place of their own
  pub fronts-placed : {x y : O} {text whole rest last : List ℕ} (piece : List ℕ) → HasPutFront s x y text rest → last ≡ rest ++ piece → whole ≡ text ++ piece → HasPutFront s x y whole last
  fronts-placed {x = x} {y = y} {text = text} {last = last} piece so_far line is =
      subst (λ (xs : List ℕ). HasPutFront s x y xs last) (sym is) (subst (HasPutFront s x y (text ++ piece)) (sym line) (fronts-added piece so_far))

  -- a front of the rest went out
  pub fronts-then : {T E : Type 0} {x y z : O} {text rest last : List ℕ} {r : Result T E} → HasPutFront s x y text rest → WritesFront s y z rest last r → WritesFront s x z text last r
  fronts-then {y = y} {text = text} {rest = rest} {last = last} {r = r} so_far put = record {
    front = on_ok_weaker r (front-then _ (s.taken y) _ text rest last so_far.front) put.front;
    prefix = on_err_weaker r (front-prefix _ (s.taken y) _ text rest so_far.front) put.prefix;
    cause = cause-then r _ _ _ so_far.cause.passed put.cause;
  }

  -- a piece more was added, behind a line
  pub fronts-more : {T E : Type 0} {x y z : O} {whole rest last : List ℕ} {r : Result T E} (line text piece : List ℕ) → HasPutFront s x y (line ++ text) rest → WritesFront s y z (rest ++ piece) last r → whole ≡ text ++ piece → WritesFront s x z (line ++ whole) last r
  fronts-more {x = x} {z = z} {last = last} {r = r} line text piece so_far put is =
      subst (λ (xs : List ℕ). WritesFront s x z xs last r) (append_assoc line text piece ∙ ap (λ (xs : List ℕ). line ++ xs) (sym is)) (fronts-then (fronts-added piece so_far) put)

  -- a call failed, and what was to follow was not added
  pub fronts-failed : {T E U F : Type 0} {x y : O} {text whole rest last : List ℕ} {r : Result T E} {e : F} (end : List ℕ) → IsErr r → WritesFront {T = U} s x y text rest (Err e) → whole ≡ text ++ end → WritesFront s x y whole last r
  fronts-failed {r = Ok v} end failed put is = absurd (false≢true failed)
  fronts-failed {x = x} {y = y} {text = text} {r = Err f} end failed put is = record {
    front = tt;
    prefix = subst (AppendsPrefix (s.taken x) (s.taken y)) (sym is) (prefix_front _ _ text end put.prefix);
    cause = record { later = put.cause.later; failed = put.cause.failed; passed = tt };
  }

  -- a piece failed, behind what was added
  pub fronts-stopped : {T E U F : Type 0} {x y z : O} {whole rest last final : List ℕ} {r : Result T E} {e : F} (line text piece end : List ℕ)
      → IsErr r → HasPutFront s x y (line ++ text) rest → WritesFront {T = U} s y z (rest ++ piece) last (Err e) → whole ≡ (text ++ piece) ++ end → WritesFront s x z (line ++ whole) final r
  fronts-stopped line text piece end failed so_far put is =
      fronts-failed end failed (fronts-more line text piece so_far put refl) (ap (λ (xs : List ℕ). line ++ xs) is ∙ sym (append_assoc line (text ++ piece) end))

  -- a call failed that was to be followed by a put of all
  pub fronts-broken : {T E U F : Type 0} {x y : O} {text whole rest : List ℕ} {r : Result T E} {e : F} (end : List ℕ) → IsErr r → WritesFront {T = U} s x y text rest (Err e) → whole ≡ text ++ end → Writes s x y whole r
  fronts-broken end failed put is =
      writes-failed end failed (record { whole = tt; prefix = put.prefix; cause = put.cause }) is

  -- the text in other words
  pub fronts-same : {T E : Type 0} {x y : O} {text whole rest : List ℕ} {r : Result T E} → text ≡ whole → WritesFront s x y text rest r → WritesFront s x y whole rest r
  fronts-same {x = x} {y = y} {rest = rest} {r = r} is = subst (λ (xs : List ℕ). WritesFront s x y xs rest r) is

  -- the rest was put
  pub fronts-put : {T E : Type 0} {x y z : O} {text rest : List ℕ} {r : Result T E} → HasPutFront s x y text rest → Writes s y z rest r → Writes s x z text r
  fronts-put {y = y} {text = text} {rest = rest} {r = r} so_far put = record {
    whole = on_ok_weaker r (front-whole _ (s.taken y) _ text rest so_far.front) put.whole;
    prefix = on_err_weaker r (front-prefix _ (s.taken y) _ text rest so_far.front) put.prefix;
    cause = cause-then r _ _ _ so_far.cause.passed put.cause;
  }
