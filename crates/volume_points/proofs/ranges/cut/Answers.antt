use Rattle.std.proofs.Common.{ap, sym, ◌∙◌, ◌++◌, ◌∷◌, [], List, append_assoc}
use Rattle.std.specs.List.{cons_option}
use Rattle.std.specs.Vec.Iter.{into_iter_items}
use Rattle.m3_model.specs.declared.point.Series.{Series}
use Rattle.volume_points.proofs.PickedLemmas.{cut_more}
use Rattle.volume_points.proofs.ranges.cut.Goals as goal

pub loop-series-preserved : goal.loop-series-preserved
loop-series-preserved c =
    let done = c.loop-series.yielded in
    let s = c.in-Some.series in
    record {
      all = append_assoc done (s ∷ []) (into_iter_items c.next.new.self) ∙ ap (λ rest. done ++ rest) (sym c.in-Some.ensures.steps.0) ∙ c.loop-series.invariant.all;
      cut = c.in_ok-add.ensures ∙ ap (λ (l : List Series). l ++ cons_option c.cut_one.result []) c.loop-series.invariant.cut ∙ sym (cut_more c.args.from c.args.to done s c.cut_one.result c.cut_one.ensures);
    }
