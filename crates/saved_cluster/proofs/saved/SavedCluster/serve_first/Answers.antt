use Rattle.std.proofs.Common.{◌≡◌, refl, sym, ap, subst, ◌∙◌}
use Rattle.std.specs.Prelude.{Option, Some, None, Err, option_map}
use Rattle.std.specs.FinMap.{empty}
use Rattle.m3_model.specs.declared.act.Act.TheVariants as act
use Rattle.m3_model.specs.declared.answer.Answer.TheVariants as answer
use Rattle.m3_outside.proofs.Moments.{counts_none}
use Rattle.line_tracks.specs.session_net.Ready.{IsReady}
use Rattle.line_tracks.specs.first_cluster.Depots.{OwnedBy}
use Rattle.line_tracks.proofs.first_cluster_proofs.GiveAll.{returned_none}
use Rattle.line_tracks.specs.tracks.Acts.{IsInitAnswer}
use Rattle.line_tracks.specs.tracks.Lines.{EachMember}
use Rattle.meta_bytes.specs.States.{IsMetaState}
use Rattle.placement_log.specs.MetaHolds.{IsReadyToSave}
use Rattle.served_cluster.specs.Acts.{Serves}
use Rattle.saved_cluster.specs.declared.saved.SavedCluster.{SavedCluster}
use Rattle.served_cluster.specs.Plans.{state_of}
use Rattle.saved_cluster.specs.States.{LeadsToState, kept_of}
use Rattle.saved_cluster.proofs.DiskLemmas.{counts_as}
use Rattle.saved_cluster.proofs.FirstLemmas.{begun_answered, refused_init, unplanned_init}
use Rattle.saved_cluster.proofs.OutLemmas.{serves_out}
use Rattle.saved_cluster.proofs.OpenLemmas.{none_left}
use Rattle.saved_cluster.proofs.SaveLemmas.{answered_same, answered_unsaved, lost_unsaved, may_close, may_readied}
use Rattle.saved_cluster.proofs.ServeLemmas.{first_lawful, init_serves}
use Rattle.saved_cluster.proofs.saved.SavedCluster.serve_first.Goals as goal

-- Its nodes are in too few groups, or memory was wanted for the plan.
pub returns-in-Err-clause-answered : goal.returns-in-Err-clause-answered
returns-in-Err-clause-answered g c =
    let depot = g.X.Disks.depot c.args.disks.now in
    let old = c.args.self.now in
    let asked = act.Init c.args.rf c.args.shards c.args.seed c.args.nodes in
    let b = c.unplanned.result in
    let none = c.requires.none in
    let here = subst (λ x. IsInitAnswer {D = g.row.D.Denot} {G = g.D.Disk} g.D.Disk.state depot None c.args.rf c.args.shards c.args.seed c.args.nodes x depot None) (sym c.unplanned.ensures) (unplanned_init g.D.Disk g.D.Disk.state c.args.rf c.args.shards c.args.seed c.args.nodes depot c.in-Err.why c.in-Err.ensures.refused) in
    let serves : Serves g.D.Disk.state depot old.cluster asked b depot old.cluster = record { members = subst (λ o. IsInitAnswer g.D.Disk.state depot o c.args.rf c.args.shards c.args.seed c.args.nodes b depot o) (sym none) here; calls = refl } in
    answered_same g.D.Disk.state depot old asked b c.requires.may serves

-- The save is readied.
pub ready-requires-clause-state : goal.ready-requires-clause-state
ready-requires-clause-state g c =
    let plan = c.in-Ok.ensures.plan in
    subst IsMetaState (sym c.state.ensures) (first_lawful c.args.rf c.args.shards c.args.seed c.args.nodes c.in-Ok.plan.state c.requires.limits plan.lawful plan.rules plan.seed_is)

pub returns-in-Err-Memory-clause-answered : goal.returns-in-Err-Memory-clause-answered
returns-in-Err-Memory-clause-answered g c =
    let depot = g.X.Disks.depot c.args.disks.now in
    let old = c.args.self.now in
    let ready = c.ready.ensures in
    answered_unsaved g.D.Disk.state depot depot old _ (act.Init c.args.rf c.args.shards c.args.seed c.args.nodes) answer.Memory refl (may_readied g.D.Disk.state depot.held old _ refl ready.stands ready.tells ready.any_moment c.requires.may)
    (record { members = (c.requires.none, c.requires.none, returned_none g.D.Disk.state depot); calls = refl }) ready.any_moment ready.tells (counts_none _ _ _ (λ is. (let clash = sym (ap Err c.in-Err-Memory.field-0-is) ∙ is in cc)) c.in-Err-Memory.ensures.faults)

pub returns-in-Err-Failed-clause-answered : goal.returns-in-Err-Failed-clause-answered
returns-in-Err-Failed-clause-answered g c =
    let depot = g.X.Disks.depot c.args.disks.now in
    let old = c.args.self.now in
    let ready = c.ready.ensures in
    lost_unsaved g.D.Disk.state depot depot old _ (act.Init c.args.rf c.args.shards c.args.seed c.args.nodes) answer.Memory refl (may_close g.D.Disk.state _ depot.held (may_readied g.D.Disk.state depot.held old _ refl ready.stands ready.tells ready.any_moment c.requires.may))
    (record { members = (c.requires.none, c.requires.none, returned_none g.D.Disk.state depot); calls = refl }) ready.any_moment ready.tells (counts_as _ _ _ _ (λ is. ap Err c.in-Err-Failed.field-0-is) c.in-Err-Failed.ensures.faults)

pub returns-in-Err-Failed-clause-untouched : goal.returns-in-Err-Failed-clause-untouched
returns-in-Err-Failed-clause-untouched g c = λ is. none_left g.D.Disk.state (g.X.Disks.depot c.args.disks.now)

pub returns-in-Err-Failed-clause-unmade : goal.returns-in-Err-Failed-clause-unmade
returns-in-Err-Failed-clause-unmade g c = λ is. c.requires.none

-- The disks are taken, or one can't be.
pub lend_first-requires-clause-planned : goal.lend_first-requires-clause-planned
lend_first-requires-clause-planned g c = record { rf = c.args.rf; shards = c.args.shards; seed = c.args.seed; nodes = c.args.nodes; is = c.in-Ok.ensures.plan }

pub lend_first-requires-clause-free : goal.lend_first-requires-clause-free
lend_first-requires-clause-free g c = subst (λ o. OwnedBy o (g.X.Disks.depot c.args.disks.now).held) c.requires.none c.requires.may.cluster.owned

pub returns-in-Err-lend_first-clause-answered : goal.returns-in-Err-lend_first-clause-answered
returns-in-Err-lend_first-clause-answered g c =
    let before = g.X.Disks.depot c.args.disks.now in
    let after = g.X.Disks.depot c.lend_first.new.disks in
    let old = c.args.self.now in
    let ready = c.ready.ensures in
    let may = may_readied g.D.Disk.state before.held old _ refl ready.stands ready.tells ready.any_moment c.requires.may in
    let b = c.in-Err-lend_first.refused in
    let asked = act.Init c.args.rf c.args.shards c.args.seed c.args.nodes in
    let none = c.requires.none in
    let refused = refused_init g.D.Disk g.D.Disk.state c.args.rf c.args.shards c.args.seed c.args.nodes before after b (c.in-Err-lend_first.ensures.refused c.args.rf c.args.shards c.args.seed c.args.nodes c.in-Ok.ensures.plan) in
    let here = subst (λ o. IsInitAnswer g.D.Disk.state before None c.args.rf c.args.shards c.args.seed c.args.nodes b after o) (sym none) refused in
    let serves : Serves g.D.Disk.state before old.cluster asked b after old.cluster = record { members = subst (λ o. IsInitAnswer g.D.Disk.state before o c.args.rf c.args.shards c.args.seed c.args.nodes b after old.cluster.members) (sym none) here; calls = refl } in
    answered_unsaved g.D.Disk.state before after old _ asked b refl
    (record {
      cluster = init_serves g.D.Disk.state c.args.rf c.args.shards c.args.seed c.args.nodes before after b old.cluster (subst (λ o. OwnedBy o before.held) none c.requires.may.cluster.owned) here (subst (λ o. EachMember o (λ m. IsReady m.net.state m.net.replicas m.net.bag)) (sym none) tt);
      meta_out = serves_out g.D.Disk.state before old.cluster asked b after old.cluster serves may.meta_out;
      log = may.log;
      state = may.state;
      saved = may.saved;
    }) serves ready.any_moment ready.tells (counts_none _ _ _ (λ is. cc) c.in-Ok-ready.ensures.faults)

-- Its state is saved, and its replicas begin.
pub begin-requires-clause-lent : goal.begin-requires-clause-lent
begin-requires-clause-lent g c = record {
  rf = c.args.rf;
  shards = c.args.shards;
  seed = c.args.seed;
  nodes = c.args.nodes;
  first = g.X.Disks.depot c.args.disks.now;
  is = c.in-Ok-lend_first.ensures.lent c.args.rf c.args.shards c.args.seed c.args.nodes c.in-Ok.ensures.plan;
}

pub begin-requires-clause-ready : goal.begin-requires-clause-ready
begin-requires-clause-ready g c = subst (λ s. IsReadyToSave c.ready.new.self s (g.D.Disk.state c.ready.new.disk)) (c.state.ensures ∙ sym c.in-Ok-lend_first.ensures.state) c.in-Ok-ready.ensures.ok

pub returns-in-Ok-lend_first-clause-answered : goal.returns-in-Ok-lend_first-clause-answered
returns-in-Ok-lend_first-clause-answered g c =
    let before = g.X.Disks.depot c.args.disks.now in
    let after = g.X.Disks.depot c.begin.new.disks in
    let old = c.args.self.now in
    let mid : SavedCluster g.row.D.Denot g.D.Disk = record c.args.self.now { log = c.ready.new.self; meta = c.ready.new.disk } in
    let new = c.begin.new.self in
    let ready = c.ready.ensures in
    let begun = c.begin.ensures in
    let none = c.requires.none in
    let lent = c.in-Ok-lend_first.ensures.lent c.args.rf c.args.shards c.args.seed c.args.nodes c.in-Ok.ensures.plan in
    let next = c.in-Ok-lend_first.lent.members.net.state in
    let asked = act.Init c.args.rf c.args.shards c.args.seed c.args.nodes in
    let leads = subst (λ o. LeadsToState o (kept_of old.cluster) asked next) (sym (ap (option_map (λ m. m.net.state)) none)) (record { place = lent.initial; rules = lent.rules; seed_is = lent.seed_is }) in
    let served = begun.served c.args.rf c.args.shards c.args.seed c.args.nodes before lent in
    let may = may_readied g.D.Disk.state before.held old mid refl ready.stands ready.tells ready.any_moment c.requires.may in
    begun_answered g.D.Disk.state c.args.rf c.args.shards c.args.seed c.args.nodes before after old mid new next none c.requires.may (record { to = leads; runs = tt }) (first_lawful c.args.rf c.args.shards c.args.seed c.args.nodes next c.requires.limits lent.lawful lent.rules lent.seed_is) ready.any_moment ready.tells
    (counts_none _ _ _ (λ is. cc) c.in-Ok-ready.ensures.faults) begun.any_moment begun.tells begun.log may.saved c.begin.result served.0 served.1 served.2 begun.ready begun.calls begun.state begun.has begun.saved begun.faults

pub returns-in-Ok-lend_first-clause-untouched : goal.returns-in-Ok-lend_first-clause-untouched
returns-in-Ok-lend_first-clause-untouched g c = λ is.
    c.begin.ensures.untouched is c.args.rf c.args.shards c.args.seed c.args.nodes (g.X.Disks.depot c.args.disks.now) (c.in-Ok-lend_first.ensures.lent c.args.rf c.args.shards c.args.seed c.args.nodes c.in-Ok.ensures.plan)

-- Where they couldn't begin, that state is saved.
pub returns-in-Ok-lend_first-clause-unbegun : goal.returns-in-Ok-lend_first-clause-unbegun
returns-in-Ok-lend_first-clause-unbegun g c = λ is.
    let before = g.X.Disks.depot c.args.disks.now in
    let old = c.args.self.now in
    let mid : SavedCluster g.row.D.Denot g.D.Disk = record c.args.self.now { log = c.ready.new.self; meta = c.ready.new.disk } in
    let ready = c.ready.ensures in
    let none = c.requires.none in
    let lent = c.in-Ok-lend_first.ensures.lent c.args.rf c.args.shards c.args.seed c.args.nodes c.in-Ok.ensures.plan in
    let next = c.in-Ok-lend_first.lent.members.net.state in
    let asked = act.Init c.args.rf c.args.shards c.args.seed c.args.nodes in
    let may = may_readied g.D.Disk.state before.held old mid refl ready.stands ready.tells ready.any_moment c.requires.may in
    let unbegun = c.begin.ensures.unbegun is in
    record {
      none = unbegun.0;
      next = next;
      leads = subst (λ o. LeadsToState o (kept_of old.cluster) asked next) (sym (ap (option_map (λ m. m.net.state)) none)) (record { place = lent.initial; rules = lent.rules; seed_is = lent.seed_is });
      saved = unbegun.1 (state_of old.cluster) may.saved;
    }
