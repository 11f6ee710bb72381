use Rattle.std.proofs.Common.{◌≡◌, rules, refl, sym, ap, subst, false}
use Rattle.std.specs.Prelude.{Ok}
use Rattle.m3_model.specs.Limits.{MeetsLimits}
use Rattle.m3_model.specs.declared.act.Act.TheVariants as act
use Rattle.m3_model.specs.declared.turn.Request.TheVariants as request
use Rattle.served_cluster.specs.Acts.{is_init}
use Rattle.saved_cluster.specs.Saved.{AnswersSaved, IsUnbegun}
use Rattle.saved_cluster.specs.States.{saves_by}
use Rattle.saved_cluster.proofs.AloneLemmas.{answered_alone}
use Rattle.saved_cluster.proofs.ServeLemmas.{no_want}
use Rattle.saved_cluster.proofs.saved.SavedCluster.serve_act.Goals as goal

-- An `init`.
pub serve_init-requires-clause-limits : goal.serve_init-requires-clause-limits
serve_init-requires-clause-limits g c = subst MeetsLimits c.in-Init.is c.requires.limits

pub returns-in-Init-clause-answered : goal.returns-in-Init-clause-answered
returns-in-Init-clause-answered g c =
    let before = (g.X.Disks.depot c.args.disks.now) in
    let after = (g.X.Disks.depot c.serve_init.new.disks) in
    subst (λ a. AnswersSaved g.D.Disk.state before c.args.self.now a c.serve_init.result after c.serve_init.new.self) (sym c.in-Init.is) c.serve_init.ensures.answered

pub returns-in-Init-clause-untouched : goal.returns-in-Init-clause-untouched
returns-in-Init-clause-untouched g c = λ is init. c.serve_init.ensures.untouched is

pub returns-in-Init-clause-unmade : goal.returns-in-Init-clause-unmade
returns-in-Init-clause-unmade g c = λ is init. c.serve_init.ensures.unmade is

pub returns-in-Init-clause-wanted : goal.returns-in-Init-clause-wanted
returns-in-Init-clause-wanted g c = λ is. ap is_init c.in-Init.is

pub returns-in-Init-clause-unbegun : goal.returns-in-Init-clause-unbegun
returns-in-Init-clause-unbegun g c = λ is. subst (λ a. IsUnbegun g.D.Disk.state c.args.self.now (request.One a) c.serve_init.new.self) (sym c.in-Init.is) (c.serve_init.ensures.unbegun is)

-- One that changes the state of a cluster that stands.
pub returns-in-Namespace-clause-wanted : goal.returns-in-Namespace-clause-wanted
returns-in-Namespace-clause-wanted g c = λ is. absurd (no_want c.serve_change.result c.serve_change.ensures.meta is)

pub returns-in-Namespace-clause-unbegun : goal.returns-in-Namespace-clause-unbegun
returns-in-Namespace-clause-unbegun g c = λ is. absurd (no_want c.serve_change.result c.serve_change.ensures.meta is)

-- A bootstrap.
pub serve_bootstrap-requires : goal.serve_bootstrap-requires
serve_bootstrap-requires g c = record { may = ((g.X.Disks.depot c.args.disks.now).held, c.requires.may) }

pub returns-in-Bootstrap-clause-answered : goal.returns-in-Bootstrap-clause-answered
returns-in-Bootstrap-clause-answered g c =
    let depot = (g.X.Disks.depot c.args.disks.now) in
    subst (λ a. AnswersSaved g.D.Disk.state depot c.args.self.now a c.serve_bootstrap.result depot c.serve_bootstrap.new.self) (sym c.in-Bootstrap.is) (c.serve_bootstrap.ensures.answered depot c.requires.may)

pub returns-in-Bootstrap-clause-wanted : goal.returns-in-Bootstrap-clause-wanted
returns-in-Bootstrap-clause-wanted g c = λ is. absurd (no_want c.serve_bootstrap.result c.serve_bootstrap.ensures.meta is)

pub returns-in-Bootstrap-clause-unbegun : goal.returns-in-Bootstrap-clause-unbegun
returns-in-Bootstrap-clause-unbegun g c = λ is. absurd (no_want c.serve_bootstrap.result c.serve_bootstrap.ensures.meta is)

-- Acts that are the cluster's alone, and leave the state.
pub returns-in-Write-clause-answered : goal.returns-in-Write-clause-answered
returns-in-Write-clause-answered g c =
    let depot = (g.X.Disks.depot c.args.disks.now) in
    let unsaved : saves_by c.args.act ≡ false = search rules in
    answered_alone g.D.Disk.state depot c.args.self.now c.args.act c.call.result c.call.new.self unsaved c.requires.may c.call.ensures.ready c.call.ensures.answers

pub returns-in-Fates-clause-answered : goal.returns-in-Fates-clause-answered
returns-in-Fates-clause-answered g c =
    let depot = (g.X.Disks.depot c.args.disks.now) in
    let set = c.set_fates in
    let fates = act.Fates c.in-Fates.list in
    subst (λ a. AnswersSaved g.D.Disk.state depot c.args.self.now a (Ok set.result) depot (record c.args.self.now { cluster = set.new.self })) (sym c.in-Fates.is) (answered_alone g.D.Disk.state depot c.args.self.now fates set.result set.new.self refl c.requires.may set.ensures.ready set.ensures.answers)

pub returns-in-Deliver-clause-answered : goal.returns-in-Deliver-clause-answered
returns-in-Deliver-clause-answered g c =
    let depot = (g.X.Disks.depot c.args.disks.now) in
    let unsaved : saves_by c.args.act ≡ false = search rules in
    answered_alone g.D.Disk.state depot c.args.self.now c.args.act c.tend.result c.tend.new.self unsaved c.requires.may c.tend.ensures.ready c.tend.ensures.answers
