use Rattle.std.proofs.Common.{◌≡◌, ap, sym, ◌∙◌, subst, List, [], ◌∷◌, ◌++◌, append_assoc}
use Rattle.std.specs.Vec.Iter.{into_iter_items}
use Rattle.m3_model.specs.Ascends.{Ascends}
use Rattle.m3_model.specs.Members.{IsIn}
use Rattle.m3_model.specs.Tags.{IsBelow}
use Rattle.m3_model.specs.declared.point.Series.{Series}
use Rattle.held_points.specs.Selected.{IsSelection}
use Rattle.held_points.proofs.ListLemmas.{ascends_before}
use Rattle.held_points.proofs.SelectionLemmas.{empty_selection, next_selection}
use Rattle.held_points.proofs.ranges.ranges.Goals as goal

pub loop-id-init : goal.loop-id-init
loop-id-init c =
    let gives = c.into_iter-id-iterator.ensures.into_iter_gives in
    let points = c.args.buffer.now.points in
    record {
      all = gives.0 ∙ c.into_vec-id-items.ensures;
      is = subst (λ (xs : List Series). IsSelection points c.args.ns (IsIn []) c.args.from c.args.to xs) (sym c.new-all.ensures.items) (empty_selection points c.args.ns c.args.from c.args.to);
    }

pub loop-id-preserved : goal.loop-id-preserved
loop-id-preserved c =
    let points = c.args.buffer.now.points in
    let done = c.loop-id.yielded in
    let id = c.in-Some.id in
    let split : done ++ id ∷ into_iter_items c.next.new.self ≡ c.args.ids = ap (λ rest. done ++ rest) (sym c.in-Some.ensures.steps.0) ∙ c.loop-id.invariant.all in
    let added = c.in_ok-add_range.ensures in
    record {
      all = append_assoc done (id ∷ []) (into_iter_items c.next.new.self) ∙ split;
      is = subst (λ (xs : List Series). IsSelection points c.args.ns (IsIn (done ++ id ∷ [])) c.args.from c.args.to xs) (sym added.2)
          (next_selection points c.args.ns c.args.from c.args.to done id c.loop-id.all.items added.0 c.loop-id.invariant.is
          (ascends_before IsBelow done id (into_iter_items c.next.new.self) (subst (Ascends IsBelow) (sym split) c.requires)) added.1);
    }
