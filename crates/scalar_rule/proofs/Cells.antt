-- Places of the table of epochs, samples and slots, and what they have ahead of the least completed epoch.
use Rattle.std.proofs.Common.{arith, ◌≡◌, ℕ, ◌+◌, ◌-◌, ◌*◌, ◌/◌, ◌%◌, ◌<◌, ◌≤◌, true, nat_lt, refl, ap, ◌∙◌}
use Rattle.std.proofs.lemmas.Bool.{and_parts, ltb-true, lt-ltb}
use Rattle.std.proofs.lemmas.Nat.{div-mul-add, mod-mul-add, div-add-mod', mod_below}
use Rattle.scalar_rule.specs.Records.{is_recorded}
use Rattle.scalar_rule.specs.Positions.{cell_number, cell_epoch, is_pending}

pub cell-decode : (c samples n f i t : ℕ) → c ≤ f → i < samples → t < n
    → (cell_epoch c samples n (cell_number c samples n f i t) ≡ f) × (cell_number c samples n f i t / n % samples ≡ i) × (cell_number c samples n f i t % n ≡ t)
cell-decode c samples n f i t from hi ht =
    let outer : cell_number c samples n f i t / n ≡ (f - c) * samples + i = div-mul-add ((f - c) * samples + i) n t ht in
    let inner : cell_number c samples n f i t / n / samples ≡ f - c = ap (λ x. x / samples) outer ∙ div-mul-add (f - c) samples i hi in
    (ap (λ x. c + x) inner ∙ (let z : c + (f - c) ≡ f = omega arith in z), ap (λ x. x % samples) outer ∙ mod-mul-add (f - c) samples i hi, mod-mul-add ((f - c) * samples + i) n t ht)

pub cell-encode : (c samples n j : ℕ) → cell_number c samples n (cell_epoch c samples n j) (j / n % samples) (j % n) ≡ j
cell-encode c samples n j =
    let back : cell_epoch c samples n j - c ≡ j / n / samples = omega arith in
    ap (λ x. (x * samples + j / n % samples) * n + j % n) back
    ∙ (ap (λ x. x * n + j % n) (div-add-mod' (j / n) samples) ∙ div-add-mod' j n)

-- the slot and the sample of a place
pub cell-within : (samples n j : ℕ) → 0 < samples → 0 < n → (j / n % samples < samples) × (j % n < n)
cell-within samples n j hs hn = (mod_below (j / n) samples hs, mod_below j n hn)

-- what a kept record's place is
pub record IsKept (past : ℕ → ℕ) (c samples every n j : ℕ) : Type 0 where
  pub printed : is_recorded every (cell_epoch c samples n j) ≡ true
  pub behind : cell_epoch c samples n j < past (j % n)

pub kept-means : (past : ℕ → ℕ) (c samples every n j : ℕ) → is_pending past c samples every n j ≡ true → IsKept past c samples every n j
kept-means past c samples every n j h =
    let z = and_parts _ _ h in record { printed = z.0; behind = ltb-true _ _ z.1 }

pub kept-tests : (past : ℕ → ℕ) (c samples every n j : ℕ) → is_recorded every (cell_epoch c samples n j) ≡ true → cell_epoch c samples n j < past (j % n) → is_pending past c samples every n j ≡ true
kept-tests past c samples every n j printed is_past = let z : nat_lt (cell_epoch c samples n j) (past (j % n)) ≡ true = lt-ltb _ _ is_past in rw (printed, z) refl
