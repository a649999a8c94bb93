-- No entry, so no file and no buffer.
use Rattle.std.proofs.Common.{refl}
use Rattle.glass_edges.specs.Entries.{map_of}
use Rattle.glass_edges.proofs.memory_shelf.MemoryShelf.new.Goals as goal

pub returns : goal.returns
unfolding map_of
returns c = rw c.new.ensures.items refl
