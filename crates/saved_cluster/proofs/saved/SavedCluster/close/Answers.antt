use Rattle.std.proofs.Common.{refl, sym, ap, arith, subst, ◌∙◌}
use Rattle.std.specs.Prelude.{◌-◌}
use Rattle.m3_outside.specs.Causes.{RoseBy}
use Rattle.line_tracks.specs.first_cluster.Depots.{count_at, meta_slot}
use Rattle.saved_cluster.proofs.CloseLemmas.{all_back, none_at_meta}
use Rattle.saved_cluster.proofs.OutLemmas.{meta_at}
use Rattle.saved_cluster.proofs.saved.SavedCluster.close.Goals as goal

pub give-requires : goal.give-requires
give-requires g c = c.close.ensures.meta meta_slot (λ other. other refl) ∙ c.requires.close.meta_out

-- The disks of nodes are given back, and behind them the meta disk, of whose faults none was counted between.
pub returns : goal.returns
returns g c =
    let before = g.X.Disks.depot c.args.disks.now in
    let members = c.args.self.cluster.members in
    let same = c.close.ensures.counted meta_at ∙ ap (λ o. count_at g.D.Disk.state before o meta_at) (none_at_meta c.args.self.cluster before.held c.requires.close.cluster) in
    record {
      none_out = all_back (g.X.Disks.depot c.close.new.disks).held (g.X.Disks.depot c.give.new.self).held c.args.self.meta c.close.ensures.none_out c.give.ensures.here c.give.ensures.others;
      meta = c.give.ensures.here;
      held = λ s other. c.give.ensures.others _ other ∙ c.close.ensures.held s;
      counted = λ s other. c.give.ensures.counted_others _ other ∙ c.close.ensures.counted s;
      meta_counted = c.give.ensures.counted;
      rose = (_, c.close.ensures.rose, subst (λ n. RoseBy ((g.D.Disk.state c.args.self.meta).faults - n) (g.X.Disks.depot c.close.new.disks).faults (g.X.Disks.depot c.give.new.self).faults) same c.give.ensures.rose);
      members = c.know.ensures.members;
      later = (let first = c.close.ensures.later in let then = c.give.ensures.cause.later in omega (arith, first, then));
    }
