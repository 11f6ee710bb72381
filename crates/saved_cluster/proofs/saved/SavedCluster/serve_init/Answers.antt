use Rattle.std.proofs.Common.{refl, sym, ◌∙◌}
use Rattle.m3_model.specs.declared.act.Act.TheVariants as act
use Rattle.m3_model.specs.declared.answer.Answer.TheVariants as answer
use Rattle.served_cluster.proofs.OwnLemmas.{none_stood}
use Rattle.saved_cluster.proofs.SaveLemmas.{answered_same}
use Rattle.saved_cluster.proofs.ServeLemmas.{stands_by}
use Rattle.saved_cluster.proofs.saved.SavedCluster.serve_init.Goals as goal

-- One stands.
pub returns-then-is_some-clause-answered : goal.returns-then-is_some-clause-answered
returns-then-is_some-clause-answered g c =
    let depot = g.X.Disks.depot c.args.disks.now in
    let old = c.args.self.now in
    let stands = stands_by old.cluster _ c.state.result c.state.ensures ∙ sym c.if-is_some.ensures in
    answered_same g.D.Disk.state depot old (act.Init c.args.rf c.args.shards c.args.seed c.args.nodes) answer.Order c.requires.may (record { members = (stands, refl, refl); calls = refl })

-- None does.
pub serve_first-requires-clause-none : goal.serve_first-requires-clause-none
serve_first-requires-clause-none g c = none_stood c.args.self.now.cluster.members (c.if-is_some.ensures ∙ sym (stands_by c.args.self.now.cluster _ c.state.result c.state.ensures))
