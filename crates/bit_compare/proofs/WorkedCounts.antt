-- Counts and differences worked by hand, computed from the definitions alone.
use Rattle.std.proofs.Common.{◌≡◌, ℕ, List, [], ◌∷◌, refl}
use Rattle.bit_compare.specs.Counting.{count_of, difference_modulo}

-- 111110, 111100, 111000, 111000, 101000 and 001000 in binary
abbrev six_words : List ℕ
six_words = 62 ∷ 60 ∷ 56 ∷ 56 ∷ 40 ∷ 8 ∷ []

count-0 : count_of six_words 0 ≡ 0
count-0 = refl

count-1 : count_of six_words 1 ≡ 1
count-1 = refl

count-2 : count_of six_words 2 ≡ 2
count-2 = refl

count-3 : count_of six_words 3 ≡ 6
count-3 = refl

count-4 : count_of six_words 4 ≡ 4
count-4 = refl

count-5 : count_of six_words 5 ≡ 5
count-5 = refl

-- one minus two in three planes, and the greatest number of twenty planes taken from zero
one-minus-two : difference_modulo 3 1 2 ≡ 7
one-minus-two = refl

zero-minus-greatest : difference_modulo 20 0 1048575 ≡ 1
zero-minus-greatest = refl

five-minus-two : difference_modulo 3 5 2 ≡ 3
five-minus-two = refl
