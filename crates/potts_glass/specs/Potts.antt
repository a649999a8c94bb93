-- The four-state Potts glass (Elderfield and Sherrington, J. Phys. C 16, L497 (1983)) on the simple cubic lattice: each
-- site has a colour 0 to 3, and E = - sum over the bonds of J [the two colours are equal], with J = +1 or -1. All of
-- it is said of one disorder sample and one site at a time. The checkerboard colour of a site is called its class here.
use Rattle.std.specs.Prelude.{ℕ, ◌+◌, ◌-◌, ◌*◌, ◌/◌, ◌%◌, ◌^◌, ℤ, pos, ◌-ℤ◌, Bool, not, ◌==◌, ◌&&◌, ◌||◌, nat_le, nat_lt, if◌then◌else◌, List, [], slice_index, slice_index_or, slice_set}
use Rattle.spin_model.specs.Couplings.{Bonds}
use Rattle.spin_model.specs.Lattice.{volume, bond, bond_count, forward, backward, colour as class, z_of, place_in_plane}
use Rattle.spin_model.specs.Steps.{steps, count_below}
use Rattle.spin_model.specs.Stream.{advanced, draw}

-- ---- the update of one site

-- what a site sees of its six neighbours, which are numbered 0 to 5: their colours, and whether J of the bond is -1
pub record Surroundings : Type 0 where
  pub colour : ℕ → ℕ
  pub negative : ℕ → Bool

-- neighbour k of colour s' favours colour c over another: J ([s' = c] - [s' = other]) is +1
abbrev pub favours : Surroundings → ℕ → ℕ → ℕ → Bool
favours around c other k = if around.negative k then around.colour k == other else around.colour k == c

-- how many of the six do
abbrev pub votes : Surroundings → ℕ → ℕ → ℕ
votes around c other = count_below (favours around c other) 6

-- the step that a draw u gives: 0, 1 or 2. Of the 2^32 draws 1431655766 give 0, and 1431655765 each give 1 and 2
abbrev pub step_of : ℕ → ℕ
step_of u = 3 * u / 2 ^ 32

-- the colour that is proposed: one of the three others
abbrev pub proposed : ℕ → ℕ → ℕ
proposed c step = (c + 1 + step) % 4

-- the change from c to c' costs the energy g = (votes for c over c') - (votes for c' over c), the sum over the neighbours
-- of J ([s' = c] - [s' = c']), from -6 to 6. It is made where g is not above 0, else with probability exp(-beta g): the
-- six thresholds stand for g = 1 to 6, each a probability times 2 ^ 32
abbrev pub is_made : List ℕ → ℕ → ℕ → ℕ → Bool
is_made thresholds lost won v = nat_le lost won || nat_lt v (slice_index thresholds (lost - won - 1))

-- the new colour of a site of colour c, by its step and its second draw v
abbrev pub new_colour : List ℕ → ℕ → ℕ → Surroundings → ℕ → ℕ
new_colour thresholds step v around c =
    if is_made thresholds (votes around c (proposed c step)) (votes around (proposed c step) c) v then proposed c step else c

-- ---- the lattice

-- neighbour k of site i: one step on in direction k for k = 0, 1, 2, and one step back in direction k - 3 for 3, 4, 5
abbrev pub neighbour : ℕ → ℕ → ℕ → ℕ
neighbour l i k = if nat_lt k 3 then forward l i k else backward l i (k - 3)

-- the bond to it, which is the forward bond of one of the two
abbrev pub joint : ℕ → ℕ → ℕ → ℕ
joint l i k = if nat_lt k 3 then bond i k else bond (backward l i (k - 3)) (k - 3)

-- what site i sees in a sample with these couplings and colours, which are listed in the order of the sites
abbrev pub around : ℕ → Bonds → List ℕ → ℕ → Surroundings
around l bonds colours i = record {
  colour = λ k. slice_index colours (neighbour l i k);
  negative = λ k. bonds (joint l i k);
}

-- ---- sweeps

-- what a sweep depends on: the side of the lattice, the thresholds, and the sample's couplings
pub record Dynamics : Type 0 where
  pub size : ℕ
  pub thresholds : List ℕ
  pub bonds : Bonds

-- one sample's colours, and the generator words that it is swept by: list class L + z serves that class in plane z
pub record State : Type 0 where
  pub colours : List ℕ
  pub words : List (List ℕ)

-- the two draws of the site (x, y, z) are 2n and 2n + 1 of the words of its class and plane, n = y L/2 + x div 2
abbrev pub site_draw : ℕ → List (List ℕ) → ℕ → ℕ → ℕ
site_draw l words i m = draw (slice_index_or words (class l i * l + z_of l i) []) (2 * place_in_plane l i + m)

-- the new colour of site i by its draws
abbrev pub updated : Dynamics → (ℕ → ℕ → ℕ) → List ℕ → ℕ → ℕ
updated d draw_at colours i =
    new_colour d.thresholds (step_of (draw_at i 0)) (draw_at i 1) (around d.size d.bonds colours i) (slice_index colours i)

-- the colours once site i is updated, which it is where it has the class c
unfoldable pub visit : Dynamics → (ℕ → ℕ → ℕ) → ℕ → ℕ → List ℕ → List ℕ
visit d draw_at c i colours = if class d.size i == c then slice_set colours i (updated d draw_at colours i) else colours

-- the words once those of class c in plane z have given two numbers to each of the plane's sites of that class
abbrev pub plane_drawn : ℕ → ℕ → ℕ → List (List ℕ) → List (List ℕ)
plane_drawn l c z words = slice_set words (c * l + z) (advanced (slice_index_or words (c * l + z) []) (l * l))

-- a half sweep of class c: its sites in rising order, by the words as they stood before
abbrev pub half_sweep : Dynamics → ℕ → State → State
half_sweep d c s = record {
  colours = steps (visit d (site_draw d.size s.words) c) 0 (volume d.size) s.colours;
  words = steps (plane_drawn d.size c) 0 d.size s.words;
}

-- a sweep: class 0, and then class 1, which sees the new colours of class 0
abbrev pub sweep : Dynamics → State → State
sweep d s = half_sweep d 1 (half_sweep d 0 s)

-- ---- the energy

-- bond n joins site n div 3 to its forward neighbour in direction n mod 3; whether the two have one colour
abbrev pub is_equal : ℕ → List ℕ → ℕ → Bool
is_equal l colours n = slice_index colours (n / 3) == slice_index colours (forward l (n / 3) (n % 3))

-- the bonds of equal colours with J = -1, and those with J = +1
abbrev pub is_raising : ℕ → Bonds → List ℕ → ℕ → Bool
is_raising l bonds colours n = bonds n && is_equal l colours n

abbrev pub is_lowering : ℕ → Bonds → List ℕ → ℕ → Bool
is_lowering l bonds colours n = not (bonds n) && is_equal l colours n

-- E = - sum of J [the two colours are equal] over all bonds
abbrev pub energy : ℕ → Bonds → List ℕ → ℤ
energy l bonds colours =
    pos (count_below (is_raising l bonds colours) (bond_count l)) -ℤ pos (count_below (is_lowering l bonds colours) (bond_count l))
