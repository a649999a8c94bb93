-- The votes of six neighbours on truth values: one vote, the sum of three, and what six decide.
use Rattle.std.proofs.Common.{◌≡◌, ◌+◌, ◌*◌, ◌||◌, ◌&&◌, not, Bool, true, false, if◌then◌else◌, refl}
use Rattle.std.proofs.lemmas.Bool.{true≢false, false≢true}
use Rattle.multispin_word.specs.Planes.{one_if, differs}

-- ---- one vote

-- the two bits of a vote: d is the change, and e the difference of the neighbour's colour from the old one
abbrev pub neither : Bool → Bool → Bool → Bool → Bool
neither d_low d_high e_low e_high = differs (d_high && e_low) (d_low && e_high)

abbrev pub for_new : Bool → Bool → Bool → Bool
for_new e_low e_high negative = differs (e_low || e_high) negative

-- it is 1, and 1 more or less as the neighbour favours one of the two colours
pub vote-worth : (p q x y j : Bool) → (p || q) ≡ true
    → one_if (neither p q x y) + 2 * one_if (differs (for_new x y j) (for_new x y j && neither p q x y))
    + one_if (if j then not (differs x p || differs y q) else not (x || y))
    ≡ 1 + one_if (if j then not (x || y) else not (differs x p || differs y q))
vote-worth false false x y j h = absurd (false≢true h)
vote-worth true true true true true h = refl
vote-worth true true true true false h = refl
vote-worth true true true false true h = refl
vote-worth true true true false false h = refl
vote-worth true true false true true h = refl
vote-worth true true false true false h = refl
vote-worth true true false false true h = refl
vote-worth true true false false false h = refl
vote-worth true false true true true h = refl
vote-worth true false true true false h = refl
vote-worth true false true false true h = refl
vote-worth true false true false false h = refl
vote-worth true false false true true h = refl
vote-worth true false false true false h = refl
vote-worth true false false false true h = refl
vote-worth true false false false false h = refl
vote-worth false true true true true h = refl
vote-worth false true true true false h = refl
vote-worth false true true false true h = refl
vote-worth false true true false false h = refl
vote-worth false true false true true h = refl
vote-worth false true false true false h = refl
vote-worth false true false false true h = refl
vote-worth false true false false false h = refl

-- its two bits are never both set
pub vote-apart : (n w : Bool) → (n && differs w (w && n)) ≡ false
vote-apart true true = refl
vote-apart true false = refl
vote-apart false true = refl
vote-apart false false = refl

-- ---- three votes

pub three-votes : (a x b y c z : Bool) → (a && x) ≡ false → (b && y) ≡ false → (c && z) ≡ false
    → one_if (differs (differs a b) c)
    + 2 * one_if (differs (differs x y || a && b) (z || differs a b && c))
    + 4 * one_if (x && y || (differs x y || a && b) && (z || differs a b && c))
    ≡ one_if a + 2 * one_if x + (one_if b + 2 * one_if y) + (one_if c + 2 * one_if z)
three-votes true true b y c z f g h = absurd (true≢false f)
three-votes true false true true c z f g h = absurd (true≢false g)
three-votes false true true true c z f g h = absurd (true≢false g)
three-votes false false true true c z f g h = absurd (true≢false g)
three-votes true false true false true true f g h = absurd (true≢false h)
three-votes true false false true true true f g h = absurd (true≢false h)
three-votes true false false false true true f g h = absurd (true≢false h)
three-votes false true true false true true f g h = absurd (true≢false h)
three-votes false true false true true true f g h = absurd (true≢false h)
three-votes false true false false true true f g h = absurd (true≢false h)
three-votes false false true false true true f g h = absurd (true≢false h)
three-votes false false false true true true f g h = absurd (true≢false h)
three-votes false false false false true true f g h = absurd (true≢false h)
three-votes true false true false true false f g h = refl
three-votes true false true false false true f g h = refl
three-votes true false true false false false f g h = refl
three-votes true false false true true false f g h = refl
three-votes true false false true false true f g h = refl
three-votes true false false true false false f g h = refl
three-votes true false false false true false f g h = refl
three-votes true false false false false true f g h = refl
three-votes true false false false false false f g h = refl
three-votes false true true false true false f g h = refl
three-votes false true true false false true f g h = refl
three-votes false true true false false false f g h = refl
three-votes false true false true true false f g h = refl
three-votes false true false true false true f g h = refl
three-votes false true false true false false f g h = refl
three-votes false true false false true false f g h = refl
three-votes false true false false false true f g h = refl
three-votes false true false false false false f g h = refl
three-votes false false true false true false f g h = refl
three-votes false false true false false true f g h = refl
three-votes false false true false false false f g h = refl
three-votes false false false true true false f g h = refl
three-votes false false false true false true f g h = refl
three-votes false false false true false false f g h = refl
three-votes false false false false true false f g h = refl
three-votes false false false false false true f g h = refl
three-votes false false false false false false f g h = refl
