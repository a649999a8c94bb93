-- A plane as it begins, in either start.
use Rattle.std.proofs.Common.{◌≡◌, ℕ, ◌+◌, ◌*◌, ◌/◌, ◌%◌, ◌<◌, false, List, length, get_or, refl, sym, ap, ◌∙◌, arith}
use Rattle.std.proofs.Math.Nat.{mul_assoc}
use native.Mathlib.Nat.{mul-add}
use Rattle.spin_model.specs.Lattice.{IsLawfulSize, volume, half_plane}
use Rattle.spin_model.specs.Seeding.{sweep_words, start_words}
use Rattle.spin_model.specs.Stream.{advanced, draw, draws}
use Rattle.spin_model.specs.Words.{is_set, AreGeneratorWords}
use Rattle.spin_model.proofs.Streams.{draw-advanced, advanced-advanced}
use Rattle.spin_model.proofs.Tables.{get_or-table, length-table}
use Rattle.scalar_rule.specs.Neighbours.{spin}
use Rattle.scalar_rule.specs.Opening.{all_up, random_spins, start_spins}
use Rattle.scalar_rule.specs.Plan.{Plan}
use Rattle.scalar_rule.specs.declared.sample.Start.{Start}
use Rattle.scalar_rule.specs.declared.sample.Start.TheVariants.{Up, Random}
use Rattle.plane_sweep.specs.Beginnings.{site_of, ArePlaneWords, HasSpins, HasDraws, BeginsPlane}
use Rattle.plane_sweep.proofs.PlaneSites.{site_of-below, site_of-plane, plane-colour, plane-z}

-- an item of a list of draws
pub get_or-draws : (w xs : List ℕ) (n k : ℕ) → xs ≡ draws w n → k < length xs → get_or xs k 0 ≡ draw w k
get_or-draws w xs n k drawn within =
    let long : length xs ≡ n = ap length drawn ∙ length-table (draw w) n in
    ap (λ ys. get_or ys k 0) drawn ∙ get_or-table (draw w) n k 0 (omega arith)

-- the draws from a plane's first site on are those of its sites
drawn-spins : (l z c b k : ℕ) (first w words : List ℕ) → IsLawfulSize l → z < l → b < 64 → k < half_plane l → w ≡ advanced first (2 * (l * l) * z) → HasDraws l w c z words
    → is_set (get_or words k 0) b ≡ spin (random_spins l first b) (site_of l c z k)
drawn-spins l z c b k first w words lawful plane below within moved drawn =
    let i = site_of l c z k in
    let s = i % (l * l) in
    let parts = site_of-plane l c z k lawful plane within in
    let before = mul_assoc 2 (l * l) z in
    let place : 2 * (l * l) * z + (2 * s + b / 32) ≡ 2 * i + b / 32 = omega arith in
    drawn b k below within
    ∙ ap (λ v. is_set (draw v (2 * s + b / 32)) (b % 32)) moved
    ∙ ap (λ v. is_set v (b % 32)) (draw-advanced first (2 * (l * l) * z) (2 * s + b / 32) ∙ ap (draw first) place)
    ∙ sym (get_or-table _ (volume l) i false (site_of-below l c z k lawful))

plane-spins : (plan : Plan) (start : Start) (bank slot replica c z : ℕ) (w words : List ℕ) → IsLawfulSize plan.size → z < plan.size
    → (start ≡ Random → w ≡ advanced (start_words plan.seed slot replica bank) (2 * (plan.size * plan.size) * z))
    → (start ≡ Up → HasSpins plan.size (λ _. all_up plan.size) c z words) → (start ≡ Random → HasDraws plan.size w c z words)
    → HasSpins plan.size (λ b. start_spins plan start bank b slot replica) c z words
unfolding start_spins
plane-spins plan Up bank slot replica c z w words lawful plane moved up random = up refl
plane-spins plan Random bank slot replica c z w words lawful plane moved up random =
    λ b k below within. drawn-spins plan.size z c b k (start_words plan.seed slot replica bank) w words lawful plane below within (moved refl) (random refl)

pub begins-plane : (plan : Plan) (start : Start) (bank slot replica c z : ℕ) (w words wheel : List ℕ) → IsLawfulSize plan.size → z < plan.size
    → (start ≡ Random → w ≡ advanced (start_words plan.seed slot replica bank) (2 * (plan.size * plan.size) * z))
    → ArePlaneWords plan.size words → (start ≡ Up → HasSpins plan.size (λ _. all_up plan.size) c z words) → (start ≡ Random → HasDraws plan.size w c z words)
    → wheel ≡ sweep_words plan.seed slot replica c z → AreGeneratorWords wheel
    → BeginsPlane plan start bank slot replica (c * plan.size + z) (record { words = words; wheel = wheel })
begins-plane plan start bank slot replica c z w words wheel lawful plane moved fits up random seeded generator =
    let l = plan.size in
    let colour = plane-colour l c z plane in
    let height = plane-z l c z plane in
    let spins = plane-spins plan start bank slot replica c z w words lawful plane moved up random in
    record {
      fits = record { sized = fits.sized; in_range = fits.in_range; generator = generator };
      spins = rw (colour, height) spins;
      generator = rw (colour, height) seeded;
    }

-- one plane further in the draws of a start
pub moved-plane : (first v w : List ℕ) (m z : ℕ) → v ≡ advanced first (m * z) → w ≡ advanced v m → w ≡ advanced first (m * (z + 1))
moved-plane first v w m z before moved =
    let more = mul-add m z 1 in
    let further : m * z + m ≡ m * (z + 1) = omega arith in
    moved ∙ ap (λ u. advanced u m) before ∙ advanced-advanced first (m * z) m ∙ ap (advanced first) further
