-- The name's buffer is that of its first entry.
use Rattle.std.proofs.Common.{rules, ◌≡◌, length, get_or, Some, None, sym, ap, ◌∙◌}
use Rattle.std.specs.FinMap as map
use Rattle.glass_edges.specs.MemoryStore.{MemoryStore}
use Rattle.glass_edges.specs.Entries.{room_of, IsFirst, IsMissing}
use Rattle.glass_edges.proofs.Firsts.{first, missing}
use Rattle.glass_edges.proofs.memory_shelf.MemoryShelf.reserved.Goals as goal

pub returns-in-None : goal.returns-in-None
returns-in-None c =
    let m : IsMissing c.self.inside.entries.items c.args.name.now (length c.self.inside.entries.items) = search rules in
    sym (ap (λ (h : MemoryStore). map.get h.rooms c.args.name.now) (sym c.self.view_is) ∙ missing room_of c.self.inside.entries.items c.args.name.now m)

pub returns-in-Some-room : goal.returns-in-Some-room
returns-in-Some-room c =
    let f : IsFirst c.self.inside.entries.items c.args.name.now c.in-Some.i = search rules in
    let e : c.index.result.now ≡ get_or c.self.inside.entries.items c.in-Some.i c.index.result.now = search rules in
    let h : Some c.limit.result ≡ room_of c.index.result.now = search rules in
    h ∙ ap room_of e ∙ sym (ap (λ (h : MemoryStore). map.get h.rooms c.args.name.now) (sym c.self.view_is) ∙ first room_of c.self.inside.entries.items c.args.name.now c.in-Some.i f c.index.result.now)

pub returns-in-None-room : goal.returns-in-None-room
returns-in-None-room c =
    let f : IsFirst c.self.inside.entries.items c.args.name.now c.in-Some.i = search rules in
    let e : c.index.result.now ≡ get_or c.self.inside.entries.items c.in-Some.i c.index.result.now = search rules in
    let h : None ≡ room_of c.index.result.now = search rules in
    h ∙ ap room_of e ∙ sym (ap (λ (h : MemoryStore). map.get h.rooms c.args.name.now) (sym c.self.view_is) ∙ first room_of c.self.inside.entries.items c.args.name.now c.in-Some.i f c.index.result.now)
