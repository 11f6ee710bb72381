use Rattle.std.proofs.Common.{◌≡◌, None, ap, sym, ◌∙◌, subst}
use Rattle.std.specs.Prelude.{Option}
use Rattle.m3_model.specs.declared.point.Key.{Key}
use Rattle.block_buffer.specs.Held.{InMemory}
use Rattle.held_points.specs.Indexed.{IsIndexed, IsIndexedFor}
use Rattle.held_points.proofs.held.HeldPoints.room.Goals as goal

pub invariant_of-self-in-Ok : goal.invariant_of-self-in-Ok
invariant_of-self-in-Ok c =
    let inside = c.self.inside in
    let none : inside.buffer.room ≡ None = ap (λ (h : InMemory). h.room) c.self.view_is ∙ c.requires in
    let indexed : IsIndexed inside.buffer.points inside.index = subst (λ (o : Option Key). IsIndexedFor o inside.newly inside.buffer.points inside.index) none c.self.invariant in
    subst (λ (h : InMemory). IsIndexedFor h.room c.in-Ok.newly h.points c.list.new.index) (sym c.in_ok-known.ensures.ok) (inside.index, indexed, c.in-Ok.ensures.ok)
