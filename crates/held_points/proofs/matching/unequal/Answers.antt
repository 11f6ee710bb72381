use Rattle.std.proofs.Common.{rules}
use Rattle.m3_model.specs.Tags.{IsBelow}
use Rattle.m3_model.specs.declared.point.Series.{Series}
use Rattle.held_points.specs.Matched.{MeetsUnequal}
use Rattle.held_points.proofs.Retained.{retained, retained_ascend}
use Rattle.held_points.proofs.AnswerLemmas.{some_ordered}
use Rattle.held_points.proofs.matching.unequal.Goals as goal

pub returns-clause-ordered : goal.returns-clause-ordered
returns-clause-ordered c = λ h.
    let ascend = retained_ascend _ (λ (a b : Series). IsBelow a.id b.id) _ c.into_vec-kept.result.items c.retain.new.self.items c.retain.ensures.filtered in
    let exact = retained _ (λ (s : Series). MeetsUnequal c.args.wanted.now s.id) _ (λ s b f' k. search rules) c.into_vec-kept.result.items c.retain.new.self.items c.retain.ensures.filtered in
    rw c.from_vec.ensures (some_ordered c.args.found c.retain.new.self.items (ascend (rw c.into_vec-kept.ensures h.ids)) (λ s m. rw (← c.into_vec-kept.ensures) ((exact s).0 m).0) h)

pub returns-clause-exact : goal.returns-clause-exact
returns-clause-exact c =
    let exact = retained _ (λ (s : Series). MeetsUnequal c.args.wanted.now s.id) _ (λ s b f' k. search rules) c.into_vec-kept.result.items c.retain.new.self.items c.retain.ensures.filtered in
    rw (c.from_vec.ensures, ← c.into_vec-kept.ensures) exact
