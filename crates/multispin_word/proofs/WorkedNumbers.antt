-- Numbers worked by hand from planes, computed from the definitions alone.
use Rattle.std.proofs.Common.{◌≡◌, ◌^◌, true, false, [], ◌∷◌, refl}
use Rattle.multispin_word.specs.Planes.{is_set, first, number}

-- the planes 34, 12, 56 are 100010, 001100 and 111000 in binary: sample 0 has the number 0, and
-- the samples 1 to 5 have 1, 2, 6, 4, 5
pub sample_0 : number (34 ∷ 12 ∷ 56 ∷ []) 0 ≡ 0
unfolding first
sample_0 = refl

pub sample_1 : number (34 ∷ 12 ∷ 56 ∷ []) 1 ≡ 1
unfolding first
sample_1 = refl

pub sample_3 : number (34 ∷ 12 ∷ 56 ∷ []) 3 ≡ 6
unfolding first
sample_3 = refl

pub sample_5 : number (34 ∷ 12 ∷ 56 ∷ []) 5 ≡ 5
unfolding first
sample_5 = refl

-- bit 63 is the highest of a word
pub highest_set : is_set (2 ^ 63) 63 ≡ true
highest_set = refl

pub highest_not_below : is_set (2 ^ 63) 62 ≡ false
highest_not_below = refl
