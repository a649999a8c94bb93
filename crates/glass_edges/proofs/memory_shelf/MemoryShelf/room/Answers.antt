-- The name's first entry gets the buffer, or an entry with it is added.
use Rattle.std.proofs.Common.{rules, ◌≡◌, [], ◌∷◌, ◌++◌, length, get_or, Some, None, refl, ap, ◌∙◌}
use Rattle.glass_edges.specs.MemoryStore.{MemoryStore, with_room}
use Rattle.glass_edges.specs.Entries.{name_of, room_of, IsFirst, IsMissing}
use Rattle.glass_edges.specs.declared.entries.Entry.{Entry}
use Rattle.glass_edges.proofs.Firsts.{store, room-set, room-pushed}
use Rattle.glass_edges.proofs.memory_shelf.MemoryShelf.room.Goals as goal

pub returns-in-Some-clause-made : goal.returns-in-Some-clause-made
returns-in-Some-clause-made c =
    let f : IsFirst c.self.inside.entries.items c.args.name.now c.in-Some.i = search rules in
    let is : c.index_mut.result.now ≡ get_or c.self.inside.entries.items c.in-Some.i c.index_mut.result.now = search rules in
    let new : Entry = record { name = c.index_mut.result.now.name; held = c.index_mut.result.now.held; room = Some c.in_ok-room.room } in
    let room : room_of new ≡ Some c.args.len = search rules in
    room-set _ _ _ _ _ _ _ new _ f is refl refl room ∙ ap (λ (s : MemoryStore). with_room s c.args.name.now c.args.len) c.self.view_is

pub returns-in_ok-push-in-None-clause-made : goal.returns-in_ok-push-in-None-clause-made
returns-in_ok-push-in-None-clause-made c =
    let m : IsMissing c.self.inside.entries.items c.args.name.now (length c.self.inside.entries.items) = search rules in
    let new : Entry = record { name = c.in_ok-name-in-None.name; held = None; room = Some c.in_ok-room.room } in
    let named : name_of new ≡ c.args.name.now = search rules in
    let room : room_of new ≡ Some c.args.len = search rules in
    let is : c.push.new.self.items ≡ c.self.inside.entries.items ++ new ∷ [] = search rules in
    ap (store _ _ _) is ∙ room-pushed _ _ _ _ _ new _ m named refl room ∙ ap (λ (s : MemoryStore). with_room s c.args.name.now c.args.len) c.self.view_is
