use Rattle.glass_main.specs.Lines.{plan_line, memory_line}
use Rattle.glass_main.proofs.plan_lines.say_plan.Goals as goal

pub returns-in-Kind : goal.returns-in-Kind
unfolding plan_line
returns-in-Kind g c = rw (c.in-Kind.is) c.say_key-in-Kind.ensures

pub returns-in-Spins : goal.returns-in-Spins
unfolding plan_line
returns-in-Spins g c = rw (c.in-Spins.is) c.say_count-in-Spins.ensures

pub returns-in-NoMemory : goal.returns-in-NoMemory
unfolding plan_line memory_line
returns-in-NoMemory g c = rw (c.in-NoMemory.is) c.say-in-NoMemory.ensures

pub returns-in-Banks : goal.returns-in-Banks
unfolding plan_line
returns-in-Banks g c = rw (c.in-Banks.is) c.say_count-in-Banks.ensures
