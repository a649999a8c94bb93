-- The name's first entry gets the bytes, or an entry with them is added.
use Rattle.std.proofs.Common.{rules, ◌≡◌, [], ◌∷◌, ◌++◌, length, get_or, Some, None, refl, ap, ◌∙◌}
use Rattle.glass_edges.specs.MemoryStore.{MemoryStore, with_file}
use Rattle.glass_edges.specs.Entries.{name_of, held_of, IsFirst, IsMissing}
use Rattle.glass_edges.specs.declared.entries.Entry.{Entry}
use Rattle.glass_edges.proofs.Firsts.{store, file-set, file-pushed}
use Rattle.glass_edges.proofs.memory_shelf.MemoryShelf.add.Goals as goal

pub returns-in-Some-clause-added : goal.returns-in-Some-clause-added
returns-in-Some-clause-added c =
    let f : IsFirst c.self.inside.entries.items c.args.name.now c.in-Some.i = search rules in
    let is : c.index_mut.result.now ≡ get_or c.self.inside.entries.items c.in-Some.i c.index_mut.result.now = search rules in
    let new : Entry = record { name = c.index_mut.result.now.name; held = Some c.in_ok-held.held; room = c.index_mut.result.now.room } in
    let held : held_of new ≡ Some c.args.bytes.now = search rules in
    file-set _ _ _ _ _ _ _ new _ f is refl held refl ∙ ap (λ (s : MemoryStore). with_file s c.args.name.now c.args.bytes.now) c.self.view_is

pub returns-in_ok-push-in-None-clause-added : goal.returns-in_ok-push-in-None-clause-added
returns-in_ok-push-in-None-clause-added c =
    let m : IsMissing c.self.inside.entries.items c.args.name.now (length c.self.inside.entries.items) = search rules in
    let new : Entry = record { name = c.in_ok-name-in-None.name; held = Some c.in_ok-held.held; room = None } in
    let named : name_of new ≡ c.args.name.now = search rules in
    let held : held_of new ≡ Some c.args.bytes.now = search rules in
    let is : c.push.new.self.items ≡ c.self.inside.entries.items ++ new ∷ [] = search rules in
    ap (store _ _ _) is ∙ file-pushed _ _ _ _ _ new _ m named held refl ∙ ap (λ (s : MemoryStore). with_file s c.args.name.now c.args.bytes.now) c.self.view_is
