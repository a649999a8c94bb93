-- The bonds of the sites of colour 1 are all bonds, of each replica.
use Rattle.std.proofs.Common.{◌∙◌}
use Rattle.coupling_set.specs.CouplingWords.{bonds_of}
use Rattle.plane_sweep.specs.Packed.{spins_of}
use Rattle.bit_totals.proofs.ColourBonds.{counted-behind}
use Rattle.bit_totals.proofs.duo_sweep.sweep_duo_and_count.Goals as goal

pub total-requires : goal.total-requires
total-requires c = λ b h.
    let l = c.args.plan.now.size in
    (counted-behind l (bonds_of c.args.plan.now.couplings b) (spins_of l b c.sweep_duo.new.duo.first.planes) _ c.sweep_duo.ensures.lawful (c.sweep_duo.ensures.first b h)).2

pub total-requires-2 : goal.total-requires-2
total-requires-2 c = λ b h.
    let l = c.args.plan.now.size in
    (counted-behind l (bonds_of c.args.plan.now.couplings b) (spins_of l b c.sweep_duo.new.duo.second.planes) _ c.sweep_duo.ensures.lawful (c.sweep_duo.ensures.second b h)).2

pub returns-clause-first : goal.returns-clause-first
returns-clause-first c = λ b h.
    let l = c.args.plan.now.size in
    (counted-behind l (bonds_of c.args.plan.now.couplings b) (spins_of l b c.sweep_duo.new.duo.first.planes) _ c.sweep_duo.ensures.lawful (c.total.ensures b h ∙ c.sweep_duo.ensures.first b h)).0

pub returns-clause-second : goal.returns-clause-second
returns-clause-second c = λ b h.
    let l = c.args.plan.now.size in
    (counted-behind l (bonds_of c.args.plan.now.couplings b) (spins_of l b c.sweep_duo.new.duo.second.planes) _ c.sweep_duo.ensures.lawful (c.total-2.ensures b h ∙ c.sweep_duo.ensures.second b h)).0

pub returns-clause-within : goal.returns-clause-within
returns-clause-within c = λ b h.
    let l = c.args.plan.now.size in (
      (counted-behind l (bonds_of c.args.plan.now.couplings b) (spins_of l b c.sweep_duo.new.duo.first.planes) _ c.sweep_duo.ensures.lawful (c.total.ensures b h ∙ c.sweep_duo.ensures.first b h)).1,
      (counted-behind l (bonds_of c.args.plan.now.couplings b) (spins_of l b c.sweep_duo.new.duo.second.planes) _ c.sweep_duo.ensures.lawful (c.total-2.ensures b h ∙ c.sweep_duo.ensures.second b h)).1,
    )
