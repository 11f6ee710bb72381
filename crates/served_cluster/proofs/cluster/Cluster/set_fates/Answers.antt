use Rattle.std.proofs.Common.{sym, subst}
use Rattle.std.specs.Prelude.{Some}
use Rattle.line_tracks.specs.tracks.Acts.{next_call}
use Rattle.served_cluster.specs.Owned.{AreReady}
use Rattle.served_cluster.proofs.ActLemmas.{fated, same_unfated, unfated}
use Rattle.served_cluster.proofs.KeptLemmas.{fated_ready}
use Rattle.served_cluster.proofs.cluster.Cluster.set_fates.Goals as goal

pub returns-in-Done-clause-answers : goal.returns-in-Done-clause-answers
returns-in-Done-clause-answers g c =
    let set = c.set_fates-answer in
    fated g.D.Disk.state c.args.self.now c.in-Some.members c.in-Some.is c.args.list set.result set.new.members c.restart.new.self c.in-Done.is c.restart.ensures set.ensures

pub returns-in-Done-clause-ready : goal.returns-in-Done-clause-ready
returns-in-Done-clause-ready g c = let set = c.set_fates-answer in fated_ready g.D.Disk.state c.in-Some.members set.new.members (next_call (c.args.self.now).calls) c.args.list set.result c.in-Done.is set.ensures (subst AreReady c.in-Some.is c.requires.ready)

pub returns-in_default-answer : goal.returns-in_default-answer
returns-in_default-answer g c =
    let set = c.set_fates-answer in
    let other = c.in_default-answer.not-Done in
    let ready : AreReady (Some c.in-Some.members) = subst AreReady c.in-Some.is c.requires.ready in
    record {
      ready = subst (λ m. AreReady (Some m)) (sym (same_unfated c.in-Some.members c.args.list set.result set.new.members other set.ensures)) ready;
      answers = unfated g.D.Disk.state c.args.self.now c.in-Some.members c.in-Some.is c.args.list set.result set.new.members other set.ensures;
    }
