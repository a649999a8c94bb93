-- Pieces that are put into a buffer one after the other.
use Rattle.std.proofs.Common.{subst, All, ◌≡◌, ℕ, ◌+◌, ◌<◌, ◌≤◌, List, [], ◌++◌, length, take, drop, get_or, refl, sym, ap, ◌∙◌, arith, append_assoc, length-append}
use Rattle.std.specs.List.{flat_map}
use Rattle.std.proofs.lemmas.List.{append-nil, drop_at, take_more, take_all, flat_map_more}
use Rattle.std.proofs.lemmas.List.Folds.{length-flat_map-take}
use Rattle.sha2.specs.Sha256.{sha256}
use Rattle.run_checkpoint.specs.Kinds.{sealed}
use Rattle.run_checkpoint.specs.Rooms.{RoomView, Puts}

-- ---- two pieces

pub puts-both : (a b c : RoomView) (p q : List ℕ) → Puts a b p → Puts b c q → Puts a c (p ++ q)
puts-both a b c p q first second = record {
  bytes = second.bytes ∙ ap (λ (x : List ℕ). x ++ q) first.bytes ∙ append_assoc a.bytes p q;
  spare = omega (arith, first.spare, second.spare, length-append p q);
}

pub puts-same : (a b : RoomView) (p q : List ℕ) → p ≡ q → Puts a b p → Puts a b q
puts-same a b p q same puts = rw (← same) puts

-- the second piece fits
pub room-left : (a b : RoomView) (p q : List ℕ) → Puts a b p → length (p ++ q) ≤ a.spare → length q ≤ b.spare
room-left a b p q puts fits = omega (arith, puts.spare, length-append p q)

pub room-first : (p q : List ℕ) (n : ℕ) → length (p ++ q) ≤ n → length p ≤ n
room-first p q n fits = omega (arith, length-append p q)

-- ---- the pieces of a list

pub puts-none : {X : Type 0} (f : X → List ℕ) (xs : List X) (a : RoomView) → Puts a a (flat_map f (take 0 xs))
puts-none f xs a = record { bytes = sym (append-nil a.bytes); spare = omega arith }

pub puts-more : {X : Type 0} (f : X → List ℕ) (xs : List X) (i : ℕ) (d : X) (a b c : RoomView) → i < length xs → Puts a b (flat_map f (take i xs)) → Puts b c (f (get_or xs i d)) → Puts a c (flat_map f (take (i + 1) xs))
puts-more f xs i d a b c within so_far one =
    let joined : flat_map f (take i xs) ++ f (get_or xs i d) ≡ flat_map f (take (i + 1) xs) =
    flat_map_more f [] (take i xs) (get_or xs i d) ∙ ap (flat_map f) (sym (take_more xs i d within)) in
    puts-same a c _ _ joined (puts-both a b c _ _ so_far one)

pub puts-all : {X : Type 0} (f : X → List ℕ) (xs : List X) (i : ℕ) (a b : RoomView) → length xs ≤ i → Puts a b (flat_map f (take i xs)) → Puts a b (flat_map f xs)
puts-all f xs i a b long so_far = puts-same a b _ _ (ap (flat_map f) (take_all i xs long)) so_far

pub room-more : {X : Type 0} (f : X → List ℕ) (xs : List X) (i : ℕ) (d : X) (a b : RoomView) → i < length xs → Puts a b (flat_map f (take i xs)) → length (flat_map f xs) ≤ a.spare → length (f (get_or xs i d)) ≤ b.spare
room-more f xs i d a b within so_far fits = omega (arith, so_far.spare, length-flat_map-take f xs i d within)

-- the same of an item that was read
pub room-item : {X : Type 0} (f : X → List ℕ) (xs : List X) (i : ℕ) (x : X) (a b : RoomView) → i < length xs → x ≡ get_or xs i x → Puts a b (flat_map f (take i xs)) → length (flat_map f xs) ≤ a.spare → length (f x) ≤ b.spare
room-item f xs i x a b within is so_far fits =
    subst (λ y. length (f y) ≤ b.spare) (sym is) (room-more f xs i x a b within so_far fits)

pub all-item : {X : Type 0} (P : X → Type 0) (xs : List X) (i : ℕ) (x : X) → All P xs → i < length xs → x ≡ get_or xs i x → P x
all-item P xs i x all within is = subst P (sym is) (all i x within)

-- a piece in an empty buffer
pub puts-first : (a b : RoomView) (p : List ℕ) → Puts a b p → a.bytes ≡ [] → b.bytes ≡ p
puts-first a b p puts empty = puts.bytes ∙ ap (λ (x : List ℕ). x ++ p) empty

-- a body, and the digest of all its bytes
pub puts-sealed : (a b c : RoomView) (body : List ℕ) (start : ℕ) → start ≡ length a.bytes → Puts a b body → Puts b c (sha256 (drop start b.bytes)) → Puts a c (sealed body)
unfolding sealed
puts-sealed a b c body start here puts seal =
    let behind : drop start b.bytes ≡ body = rw here (ap (drop (length a.bytes)) puts.bytes ∙ drop_at a.bytes body (length a.bytes) refl) in
    puts-both a b c body (sha256 body) puts (puts-same b c _ _ (ap sha256 behind) seal)
