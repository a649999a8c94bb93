-- Lists of idle seats, in parts and as a whole. A crate above may cite these.
use Rattle.std.proofs.Common.{◌≡◌, ℕ, zero, suc, ◌+◌, ◌<◌, List, [], ◌∷◌, ◌++◌, length, take, drop, Option, Some, refl, ap, arith}
use Rattle.atomic_table.specs.Seated.{TableId}
use Rattle.turn_cell.specs.declared.view.View.{View}
use Rattle.turn_cell.specs.declared.pass.Pass.{Pass}
use Rattle.turn_cell.specs.Seats.{AreOpened, IsIdle, AreIdle, base_of}

module _ {T O : Type 0} where
  pub idle-front : (id : TableId) (common : Option O) (n : ℕ) (xs ys : List (Pass T O)) → AreIdle id common n (xs ++ ys) → AreIdle id common n xs
  idle-front id common n [] ys all = tt
  idle-front id common n (x ∷ xs) ys all = (all.0, idle-front id common n xs ys all.1)

  pub idle-back : (id : TableId) (common : Option O) (n : ℕ) (xs ys : List (Pass T O)) → AreIdle id common n (xs ++ ys) → AreIdle id common n ys
  idle-back id common n [] ys all = all
  idle-back id common n (x ∷ xs) ys all = idle-back id common n xs ys all.1

  pub idle-append : (id : TableId) (common : Option O) (n : ℕ) (xs ys : List (Pass T O)) → AreIdle id common n xs → AreIdle id common n ys
      → AreIdle id common n (xs ++ ys)
  idle-append id common n [] ys a b = b
  idle-append id common n (x ∷ xs) ys a b = (a.0, idle-append id common n xs ys a.1 b)

  -- the last of them
  pub idle-last : (id : TableId) (common : Option O) (n : ℕ) (ps : List (Pass T O)) (p : Pass T O) → AreIdle id common n (ps ++ p ∷ []) → IsIdle id common n p
  idle-last id common n ps p all = (idle-back id common n ps (p ∷ []) all).0

  -- a lock is opened with idle seats
  pub idle-opened : (id : TableId) (base : O) (places n k : ℕ) (ps : List (Pass T O)) → AreOpened id base places n k ps
      → AreIdle id (Some base) n ps
  idle-opened id base places n k [] all = tt
  idle-opened id base places n k (p ∷ ps) all =
      let is = all.1 in (
        record {
          own = all.0;
          alone = ap (λ (v : View O). length v.numbers) is;
          total = ap (λ (v : View O). v.total) is;
          base = ap (λ (v : View O). v.base) is;
          free = ap (λ (v : View O). v.holding) is;
          work = ap (λ (v : View O). v.out) is;
        },
        idle-opened id base places n (k + 1) ps all.2,
      )

  -- the base that they share is the first one's
  pub idle-base : (id : TableId) (common : Option O) (n : ℕ) (ps : List (Pass T O)) → AreIdle id common n ps → 0 < length ps → base_of ps ≡ common
  idle-base id common n [] all some_seat = absurd (omega arith)
  idle-base id common n (p ∷ ps) all some_seat = all.0.base

-- what a slice of a whole list leaves in it
pub written : {A : Type 0} (new old : List A) (n : ℕ) → length new ≡ length old → n ≡ length old
    → take n (new ++ drop (length new) old) ≡ new
written [] [] zero same e = refl
written [] [] (suc n) same e = absurd (omega arith)
written [] (o ∷ os) n same e = absurd (omega arith)
written (x ∷ xs) [] n same e = absurd (omega arith)
written (x ∷ xs) (o ∷ os) zero same e = absurd (omega arith)
written {A = A} (x ∷ xs) (o ∷ os) (suc n) same e = ap (λ (l : List A). x ∷ l) (written xs os n (omega arith) (omega arith))
