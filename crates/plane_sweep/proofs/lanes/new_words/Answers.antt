use Rattle.plane_sweep.proofs.lanes.new_words.Goals as goal

pub returns-in-Heat : goal.returns-in-Heat
returns-in-Heat g c = λ i b lane below. rw (← c.kind.ensures, c.in-Heat.is) (c.heat_bath_sites.ensures i b lane below)

pub returns-in-Metropolis : goal.returns-in-Metropolis
returns-in-Metropolis g c = λ i b lane below. rw (← c.kind.ensures, c.in-Metropolis.is) (c.metropolis_sites.ensures i b lane below)
