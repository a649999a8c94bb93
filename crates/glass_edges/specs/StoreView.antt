-- What contracts see of a store in memory.
use Rattle.glass_edges.specs.MemoryStore.{MemoryStore}
use Rattle.glass_edges.specs.Entries.{map_of, name_of, held_of, room_of}
use Rattle.glass_edges.specs.declared.memory_shelf.MemoryShelf.TheInside.{Inside}

abbrev pub store_of : Inside → MemoryStore
store_of s = record {
  files = map_of name_of held_of s.entries.items;
  rooms = map_of name_of room_of s.entries.items;
  failing = s.fails.items;
  calls = s.calls;
  faults = s.faults;
}
