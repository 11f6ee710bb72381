use Rattle.std.proofs.Common.{rules}
use Rattle.m3_model.specs.Tags.{IsBelow}
use Rattle.m3_model.specs.declared.point.Series.{Series}
use Rattle.held_points.proofs.Retained.{retained, retained_ascend}
use Rattle.volume_points.specs.Picked.{IsPicked}
use Rattle.volume_points.proofs.matching.picked.Goals as goal

pub returns-clause-ascending : goal.returns-clause-ascending
returns-clause-ascending c = λ h.
    let ascend = retained_ascend _ (λ (a b : Series). IsBelow a.id b.id) _ c.into_vec-kept.result.items c.retain.new.self.items c.retain.ensures.filtered in
    let exact = retained _ (λ (s : Series). IsPicked c.args.pick.now s.id) _ (λ s b f' k. search rules) c.into_vec-kept.result.items c.retain.new.self.items c.retain.ensures.filtered in
    rw c.from_vec.ensures (record { ids = ascend (rw c.into_vec-kept.ensures h.ids); times = λ s m. h.times s (rw (← c.into_vec-kept.ensures) ((exact s).0 m).0) })

pub returns-clause-exact : goal.returns-clause-exact
returns-clause-exact c =
    let exact = retained _ (λ (s : Series). IsPicked c.args.pick.now s.id) _ (λ s b f' k. search rules) c.into_vec-kept.result.items c.retain.new.self.items c.retain.ensures.filtered in
    rw (c.from_vec.ensures, ← c.into_vec-kept.ensures) exact
