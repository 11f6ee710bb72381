use Rattle.std.proofs.Common.{ap, sym, ◌∙◌, subst}
use Rattle.block_buffer.specs.Held.{InMemory}
use Rattle.tag_index.specs.Listed.{Listed}
use Rattle.held_points.specs.Indexed.{IsIndexed, IsIndexedFor}
use Rattle.held_points.proofs.IndexLemmas.{index_before}
use Rattle.held_points.proofs.held.HeldPoints.release.Goals as goal

pub invariant_of-self : goal.invariant_of-self
invariant_of-self c =
    let inside = c.self.inside in
    let was = index_before inside.buffer.room inside.newly inside.buffer.points c.args.point.now inside.index (ap (λ (h : InMemory). h.room) c.self.view_is ∙ c.requires) c.self.invariant in
    subst (λ (h : InMemory). IsIndexedFor h.room inside.newly h.points c.unlist.new.index) (sym c.release.ensures)
    (subst (λ (index : Listed). IsIndexed inside.buffer.points index) (sym (c.unlist.ensures was.0 was.2)) was.1)
