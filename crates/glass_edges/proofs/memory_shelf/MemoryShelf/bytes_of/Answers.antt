-- The name's bytes are those of its first entry.
use Rattle.std.proofs.Common.{rules, ◌≡◌, length, get_or, Some, None, sym, ap, ◌∙◌}
use Rattle.std.specs.FinMap as map
use Rattle.glass_edges.specs.MemoryStore.{MemoryStore}
use Rattle.glass_edges.specs.Entries.{held_of, IsFirst, IsMissing}
use Rattle.glass_edges.proofs.Firsts.{first, missing}
use Rattle.glass_edges.proofs.memory_shelf.MemoryShelf.bytes_of.Goals as goal

pub returns-in-None : goal.returns-in-None
returns-in-None c =
    let m : IsMissing c.self.inside.entries.items c.args.name.now (length c.self.inside.entries.items) = search rules in
    sym (ap (λ (h : MemoryStore). map.get h.files c.args.name.now) (sym c.self.view_is) ∙ missing held_of c.self.inside.entries.items c.args.name.now m)

pub returns-in-Some-held : goal.returns-in-Some-held
returns-in-Some-held c =
    let f : IsFirst c.self.inside.entries.items c.args.name.now c.in-Some.i = search rules in
    let e : c.index.result.now ≡ get_or c.self.inside.entries.items c.in-Some.i c.index.result.now = search rules in
    let h : Some c.as_slice.result.now ≡ held_of c.index.result.now = search rules in
    h ∙ ap held_of e ∙ sym (ap (λ (h : MemoryStore). map.get h.files c.args.name.now) (sym c.self.view_is) ∙ first held_of c.self.inside.entries.items c.args.name.now c.in-Some.i f c.index.result.now)

pub returns-in-None-held : goal.returns-in-None-held
returns-in-None-held c =
    let f : IsFirst c.self.inside.entries.items c.args.name.now c.in-Some.i = search rules in
    let e : c.index.result.now ≡ get_or c.self.inside.entries.items c.in-Some.i c.index.result.now = search rules in
    let h : None ≡ held_of c.index.result.now = search rules in
    h ∙ ap held_of e ∙ sym (ap (λ (h : MemoryStore). map.get h.files c.args.name.now) (sym c.self.view_is) ∙ first held_of c.self.inside.entries.items c.args.name.now c.in-Some.i f c.index.result.now)
