-- What a masked swap does to packed replicas: the samples in the mask get the bits and labels of the other replica, the
-- others keep their own, and the generators stay.
use Rattle.std.specs.Prelude.{◌≡◌, ℕ, ◌^◌, ◌<◌, if◌then◌else◌, List, length, slice_index, All}
use Rattle.spin_model.specs.Words.{is_set}
use Rattle.plane_sweep.specs.Packed.{plane_at}
use Rattle.plane_sweep.specs.declared.replica.Plane.{Plane}

-- two lists of planes have as many planes, and as many words in each
pub record HaveSameLengths (a b : List Plane) : Type 0 where
  pub planes : length a ≡ length b
  pub words : (k : ℕ) → k < length a → length (plane_at a k).words ≡ length (plane_at b k).words

-- bit b of each word is the other's where the mask has b, else one's own
abbrev pub AreTraded : ℕ → List ℕ → List ℕ → List ℕ → Type 0
AreTraded mask own other new = (i b : ℕ) → b < 64
    → is_set (slice_index new i) b ≡ (if is_set mask b then is_set (slice_index other i) b else is_set (slice_index own i) b)

-- a plane after the swap: its words are traded, its generator stays
pub record IsTradedPlane (mask : ℕ) (own other new : Plane) : Type 0 where
  pub words : AreTraded mask own.words other.words new.words
  pub sized : length new.words ≡ length own.words
  pub in_range : All (λ word. word < 2 ^ 64) new.words
  pub wheel : new.wheel ≡ own.wheel

-- all planes after the swap: as many as there were, each of them traded
pub record AreTradedPlanes (mask : ℕ) (own other new : List Plane) : Type 0 where
  pub same : length other ≡ length own
  pub sized : length new ≡ length own
  pub each : (k : ℕ) → k < length own → IsTradedPlane mask (plane_at own k) (plane_at other k) (plane_at new k)
