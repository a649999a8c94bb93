use Rattle.std.proofs.Common.{List, [], length, replicate, false, ap, ◌∙◌, ◌≡◌, subst}
use Rattle.scalar_rule.specs.Laws.{level_start}
use Rattle.scalar_rule.specs.declared.sample.Record.{Record}
use Rattle.plane_sweep.specs.Packed.{part}
use Rattle.plane_sweep.specs.Uneven.{uneven_part, level_stand, RaggedStandFits}
use Rattle.plane_sweep.specs.declared.stand.Stand.{Stand}
use Rattle.plane_sweep.specs.declared.uneven.Place.{Place}
use Rattle.plane_sweep.specs.declared.uneven.RaggedStand.{RaggedStand}
use Rattle.plane_sweep.proofs.LevelStands.{level-part, level-fits}
use Rattle.plane_sweep.proofs.uneven.RaggedStand.level.Goals as goal

-- the state that was made is the level one
made : (stand : Stand) (places : List Place) (pending : List Record) → places ≡ replicate (length stand.slots) (record { epoch = stand.epoch; arrived = false }) → pending ≡ []
    → (let r : RaggedStand = record { places = places; slots = stand.slots; pairs = stand.pairs; pending = pending } in level_stand stand ≡ r)
made stand places pending one two = cc

pub returns-clause-part : goal.returns-clause-part
returns-clause-part c = λ plan b sized.
    let P : RaggedStand → Type 0 = λ r. uneven_part plan.size b r ≡ level_start plan (part plan.size b c.args.stand) in
    subst P (made c.args.stand _ c.of.result (c.in_ok-places.ensures ∙ ap (λ n. replicate n (record { epoch = c.args.stand.epoch; arrived = false })) c.len.ensures) (c.of.ensures ∙ c.new.ensures.items)) (level-part plan b c.args.stand sized)

pub returns-clause-fits : goal.returns-clause-fits
returns-clause-fits c = λ plan samples every fits some few one.
    let P : RaggedStand → Type 0 = λ r. RaggedStandFits plan samples every r in
    subst P (made c.args.stand _ c.of.result (c.in_ok-places.ensures ∙ ap (λ n. replicate n (record { epoch = c.args.stand.epoch; arrived = false })) c.len.ensures) (c.of.ensures ∙ c.new.ensures.items)) (level-fits plan samples every c.args.stand fits some few one)
