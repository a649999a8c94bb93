use Rattle.glass_main.proofs.average.average.Goals as goal

pub returns-in-Err : goal.returns-in-Err
returns-in-Err g c = c.in-Err.ensures.stopped _
