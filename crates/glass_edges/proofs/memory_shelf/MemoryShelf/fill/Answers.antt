-- The name's first entry is filled; where the name has no entry it has no buffer either.
use Rattle.std.proofs.Common.{rules, ◌≡◌, ℕ, length, get_or, true, None, string_bytes, sym, ap, ◌∙◌}
use Rattle.std.specs.FinMap as map
use Rattle.glass_edges.specs.MemoryStore.{MemoryStore, fits, after_fill}
use Rattle.glass_edges.specs.Entries.{room_of, IsFirst, IsMissing}
use Rattle.glass_edges.proofs.Firsts.{first, missing, filled}
use Rattle.glass_edges.proofs.memory_shelf.MemoryShelf.fill.Goals as goal

no_fit : (n : ℕ) → fits None n ≡ true → ⊥
no_fit n h = search rules

pub fill_entry-requires : goal.fill_entry-requires
fill_entry-requires c =
    let f : IsFirst c.self.inside.entries.items c.args.name.now c.in-Some.i = search rules in
    let is : c.index_mut.result.now ≡ get_or c.self.inside.entries.items c.in-Some.i c.index_mut.result.now = search rules in
    let own : map.get c.args.self.now.rooms c.args.name.now ≡ room_of (get_or c.self.inside.entries.items c.in-Some.i c.index_mut.result.now) =
    sym (ap (λ (s : MemoryStore). map.get s.rooms c.args.name.now) c.self.view_is) ∙ first room_of _ _ _ f _ in
    ap (λ r. fits r (length c.args.bytes.now)) (ap room_of is ∙ sym own) ∙ c.requires

pub returns-in-Some : goal.returns-in-Some
returns-in-Some c =
    let f : IsFirst c.self.inside.entries.items c.args.name.now c.in-Some.i = search rules in
    let is : c.index_mut.result.now ≡ get_or c.self.inside.entries.items c.in-Some.i c.index_mut.result.now = search rules in
    filled _ _ _ _ _ _ _ c.fill_entry.new.entry _ f is (ap string_bytes c.fill_entry.ensures.name) c.fill_entry.ensures.held c.fill_entry.ensures.room
    ∙ ap (λ (s : MemoryStore). after_fill s c.args.name.now c.args.bytes.now) c.self.view_is

pub returns-in-None : goal.returns-in-None
returns-in-None c =
    let m : IsMissing c.self.inside.entries.items c.args.name.now (length c.self.inside.entries.items) = search rules in
    let none : map.get c.args.self.now.rooms c.args.name.now ≡ None =
    sym (ap (λ (s : MemoryStore). map.get s.rooms c.args.name.now) c.self.view_is) ∙ missing room_of _ _ m in
    absurd (no_fit (length c.args.bytes.now) (sym (ap (λ r. fits r (length c.args.bytes.now)) none) ∙ c.requires))
