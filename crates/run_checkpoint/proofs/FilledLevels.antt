-- A state at one epoch whose contents were read into the memory of another one of that epoch, with as many slots.
use Rattle.std.proofs.Common.{◌≡◌, ℕ, List, [], length, replicate, false, ap, ◌∙◌}
use Rattle.plane_sweep.specs.Uneven.{level_stand}
use Rattle.plane_sweep.specs.declared.replica.Duo.{Duo}
use Rattle.plane_sweep.specs.declared.stand.PairWheels.{PairWheels}
use Rattle.plane_sweep.specs.declared.stand.Stand.{Stand}
use Rattle.plane_sweep.specs.declared.uneven.Place.{Place}
use Rattle.plane_sweep.specs.declared.uneven.RaggedStand.{RaggedStand}

pub level-filled : (unfilled : Stand) (ragged : RaggedStand) (stand : Stand) (slots : List Duo) (pairs : List PairWheels)
    → ragged ≡ level_stand unfilled → length unfilled.slots ≡ length stand.slots → unfilled.epoch ≡ stand.epoch
    → slots ≡ stand.slots → pairs ≡ stand.pairs
    → ◌≡◌ {A = RaggedStand} record { places = ragged.places; slots = slots; pairs = pairs; pending = ragged.pending } (level_stand stand)
level-filled unfilled ragged stand slots pairs level sized at read paired =
    let filled : RaggedStand → RaggedStand = λ r. record { places = r.places; slots = slots; pairs = pairs; pending = r.pending } in
    let rest : ℕ → List Place = λ n. replicate n (record { epoch = unfilled.epoch; arrived = false }) in
    let there : ℕ → List Place = λ e. replicate (length stand.slots) (record { epoch = e; arrived = false }) in
    let placed : List Place → RaggedStand = λ p. record { places = p; slots = slots; pairs = pairs; pending = [] } in
    let held : List Duo → RaggedStand = λ s. record { places = there stand.epoch; slots = s; pairs = pairs; pending = [] } in
    let drawn : List PairWheels → RaggedStand = λ p. record { places = there stand.epoch; slots = stand.slots; pairs = p; pending = [] } in
    ap filled level ∙ ap (λ n. placed (rest n)) sized ∙ ap (λ e. placed (there e)) at ∙ ap held read ∙ ap drawn paired
