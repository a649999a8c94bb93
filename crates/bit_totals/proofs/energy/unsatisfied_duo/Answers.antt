-- The bonds of the sites of colour 0 are all bonds, of each replica.
use Rattle.std.proofs.Common.{◌∙◌}
use Rattle.coupling_set.specs.CouplingWords.{bonds_of}
use Rattle.plane_sweep.specs.Packed.{spins_of}
use Rattle.bit_totals.proofs.ColourBonds.{counted-all}
use Rattle.bit_totals.proofs.energy.unsatisfied_duo.Goals as goal

pub total-requires : goal.total-requires
total-requires c = λ b h.
    let l = c.args.plan.now.size in
    (counted-all l (bonds_of c.args.plan.now.couplings b) (spins_of l b c.args.duo.now.first.planes) _ c.count_both.ensures.lawful (c.count_both.ensures.first b h)).2

pub total-requires-2 : goal.total-requires-2
total-requires-2 c = λ b h.
    let l = c.args.plan.now.size in
    (counted-all l (bonds_of c.args.plan.now.couplings b) (spins_of l b c.args.duo.now.second.planes) _ c.count_both.ensures.lawful (c.count_both.ensures.second b h)).2

pub returns-clause-first : goal.returns-clause-first
returns-clause-first c = λ b h.
    let l = c.args.plan.now.size in
    (counted-all l (bonds_of c.args.plan.now.couplings b) (spins_of l b c.args.duo.now.first.planes) _ c.count_both.ensures.lawful (c.total.ensures b h ∙ c.count_both.ensures.first b h)).0

pub returns-clause-second : goal.returns-clause-second
returns-clause-second c = λ b h.
    let l = c.args.plan.now.size in
    (counted-all l (bonds_of c.args.plan.now.couplings b) (spins_of l b c.args.duo.now.second.planes) _ c.count_both.ensures.lawful (c.total-2.ensures b h ∙ c.count_both.ensures.second b h)).0

pub returns-clause-within : goal.returns-clause-within
returns-clause-within c = λ b h.
    let l = c.args.plan.now.size in (
      (counted-all l (bonds_of c.args.plan.now.couplings b) (spins_of l b c.args.duo.now.first.planes) _ c.count_both.ensures.lawful (c.total.ensures b h ∙ c.count_both.ensures.first b h)).1,
      (counted-all l (bonds_of c.args.plan.now.couplings b) (spins_of l b c.args.duo.now.second.planes) _ c.count_both.ensures.lawful (c.total-2.ensures b h ∙ c.count_both.ensures.second b h)).1,
    )
