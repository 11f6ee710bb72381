use Rattle.std.proofs.Common.{ap, sym, ◌∙◌, subst}
use Rattle.block_buffer.specs.Held.{InMemory}
use Rattle.held_points.specs.Indexed.{IsIndexedFor}
use Rattle.held_points.proofs.IndexLemmas.{put_indexed}
use Rattle.held_points.proofs.held.HeldPoints.put.Goals as goal

pub invariant_of-self : goal.invariant_of-self
invariant_of-self c =
    let inside = c.self.inside in
    subst (λ (h : InMemory). IsIndexedFor h.room inside.newly h.points inside.index) (sym c.put.ensures)
    (put_indexed inside.buffer.room inside.newly inside.buffer.points c.args.point.now inside.index (ap (λ (h : InMemory). h.room) c.self.view_is ∙ c.requires) c.self.invariant)
