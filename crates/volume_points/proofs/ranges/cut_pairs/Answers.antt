use Rattle.std.proofs.Common.{rules, ap, ◌∙◌}
use Rattle.std.specs.Prelude.{filter}
use Rattle.volume_points.specs.Picked.{is_between}
use Rattle.volume_points.proofs.RetainLemmas.{filtered}
use Rattle.volume_points.proofs.ranges.cut_pairs.Goals as goal

pub returns : goal.returns
returns c =
    let test = is_between c.args.from c.args.to in
    filtered _ test _ (λ x b g k. search rules) c.into_vec-pairs.result.items c.retain.new.self.items c.retain.ensures.filtered ∙ ap (filter test) c.into_vec-pairs.ensures
