use Rattle.std.proofs.Common.{◌≡◌, refl, sym, ap, subst, ◌∙◌, true, false}
use Rattle.std.specs.Prelude.{Option, Some, Err, IfSome, option_map}
use Rattle.m3_model.specs.declared.answer.Answer.TheVariants as answer
use Rattle.m3_model.specs.declared.rules.MetaState.{MetaState}
use Rattle.m3_outside.proofs.Moments.{counts_none}
use Rattle.m3_outside.specs.declared.disk_err.DiskErr.TheVariants as disk_err
use Rattle.served_cluster.specs.Acts.{Serves}
use Rattle.served_cluster.specs.Owned.{MayServeCluster}
use Rattle.served_cluster.specs.Plans.{IsPlannedBy, by_plan, state_after, state_of}
use Rattle.meta_bytes.specs.States.{IsMetaState}
use Rattle.placement_log.specs.States.{MayBeState}
use Rattle.saved_cluster.specs.Saved.{IsReadyFor, IsSaved}
use Rattle.saved_cluster.proofs.DiskLemmas.{counts_as}
use Rattle.saved_cluster.proofs.SaveLemmas.{answered_same, answered_saved, answered_unsaved, lost_saved, lost_unsaved, may_close, may_readied}
use Rattle.saved_cluster.proofs.ServeLemmas.{made_lawful, made_ready, plan_lawful, plan_leads, state_made, state_unmade, wanted_serves}
use Rattle.saved_cluster.proofs.OutLemmas.{serves_out}
use Rattle.saved_cluster.proofs.saved.SavedCluster.serve_change.Goals as goal

-- Refused before anything was done.
pub returns-in-Err-clause-answered : goal.returns-in-Err-clause-answered
returns-in-Err-clause-answered g c =
    let depot = g.X.Disks.depot c.args.disks.now in
    answered_same g.D.Disk.state depot c.args.self.now c.args.act c.in-Err.refused c.requires.may (c.in-Err.ensures.refused depot)

-- The save is readied.
pub state_by-requires : goal.state_by-requires
state_by-requires g c = record { planned = (c.args.act, c.in-Ok.ensures.planned) }

pub ready-requires-clause-state : goal.ready-requires-clause-state
ready-requires-clause-state g c =
    subst (λ o. IfSome o IsMetaState) (sym c.ok-next.ensures.value)
    (made_lawful c.state_by.result _ c.state_by.ensures (λ next leads. plan_lawful c.args.self.now.cluster c.args.act c.in-Ok.plan c.in-Ok.ensures.planned next leads c.requires.limits c.requires.may.state))

pub returns-in-Err-Memory-clause-answered : goal.returns-in-Err-Memory-clause-answered
returns-in-Err-Memory-clause-answered g c =
    let depot = g.X.Disks.depot c.args.disks.now in
    let old = c.args.self.now in
    let readied = c.ready.ensures in
    answered_unsaved g.D.Disk.state depot depot old c.ready.new.self c.args.act answer.Memory (ap state_of readied.cluster) (may_readied g.D.Disk.state depot.held old c.ready.new.self readied.cluster readied.log readied.tells readied.any_moment c.requires.may)
    (subst (λ x. Serves g.D.Disk.state depot old.cluster c.args.act answer.Memory depot x) (sym readied.cluster) (wanted_serves g.D.Disk.state old.cluster c.args.act c.in-Ok.plan c.in-Ok.ensures.planned depot)) readied.any_moment readied.tells
    (counts_none _ _ _ (λ is. (let clash = sym (ap Err c.in-Err-Memory.field-0-is) ∙ is in cc)) c.in-Err-Memory.ensures.faults)

pub returns-in-Err-Failed-clause-answered : goal.returns-in-Err-Failed-clause-answered
returns-in-Err-Failed-clause-answered g c =
    let depot = g.X.Disks.depot c.args.disks.now in
    let old = c.args.self.now in
    let readied = c.ready.ensures in
    lost_unsaved g.D.Disk.state depot depot old c.ready.new.self c.args.act answer.Memory (ap state_of readied.cluster) (may_close g.D.Disk.state c.ready.new.self depot.held (may_readied g.D.Disk.state depot.held old c.ready.new.self readied.cluster readied.log readied.tells readied.any_moment c.requires.may))
    (subst (λ x. Serves g.D.Disk.state depot old.cluster c.args.act answer.Memory depot x) (sym readied.cluster) (wanted_serves g.D.Disk.state old.cluster c.args.act c.in-Ok.plan c.in-Ok.ensures.planned depot)) readied.any_moment readied.tells
    (counts_as _ _ _ _ (λ is. ap Err c.in-Err-Failed.field-0-is) c.in-Err-Failed.ensures.faults)

-- The step is made.
pub make-answer-requires-clause-planned : goal.make-answer-requires-clause-planned
make-answer-requires-clause-planned g c = (c.args.act, subst (λ x. IsPlannedBy x c.args.act c.in-Ok.plan) (sym c.ready.ensures.cluster) c.in-Ok.ensures.planned)

pub make-answer-requires-clause-owned : goal.make-answer-requires-clause-owned
make-answer-requires-clause-owned g c = subst (λ x. MayServeCluster x (g.X.Disks.depot c.args.disks.now).held) (sym c.ready.ensures.cluster) c.requires.may.cluster

-- It wasn't made.
pub returns-then-not-made-clause-answered : goal.returns-then-not-made-clause-answered
returns-then-not-made-clause-answered g c =
    let before = g.X.Disks.depot c.args.disks.now in
    let after = g.X.Disks.depot c.make-answer.new.disks in
    let old = c.args.self.now in
    let readied = c.ready.ensures in
    let may = may_readied g.D.Disk.state before.held old c.ready.new.self readied.cluster readied.log readied.tells readied.any_moment c.requires.may in
    let made = c.make-answer.ensures in
    let planned = subst (λ x. IsPlannedBy x c.args.act c.in-Ok.plan) (sym readied.cluster) c.in-Ok.ensures.planned in
    let serves = subst (λ x. Serves g.D.Disk.state before x c.args.act c.make-answer.result.0 after c.make-answer.new.self) readied.cluster (made.served c.args.act planned) in
    let same = made.state ∙ state_unmade c.make-answer.result.1 c.in-Ok.plan (state_of c.ready.new.self.cluster) c.if-not-made.true in
    answered_unsaved g.D.Disk.state before after old _ c.args.act c.make-answer.result.0 (same ∙ ap state_of readied.cluster)
    (record {
      cluster = made.owned;
      meta_out = serves_out g.D.Disk.state before old.cluster c.args.act c.make-answer.result.0 after c.make-answer.new.self serves c.requires.may.meta_out;
      log = readied.log;
      state = subst MayBeState (sym same) may.state;
      saved = subst (λ o. IsSaved o (g.D.Disk.state c.ready.new.self.meta)) (sym same) may.saved;
    }) serves readied.any_moment readied.tells (counts_none _ _ _ (λ is. cc) c.in-Ok-ready.ensures.faults)

-- It was made, and is saved.
pub save-requires : goal.save-requires
save-requires g c =
    let made = c.make-answer.ensures in
    let mid = c.ready.new.self in
    let same = made.state ∙ state_made c.make-answer.result.1 c.in-Ok.plan (state_of mid.cluster) c.if-not-made.false ∙ ap (λ x. option_map (by_plan c.in-Ok.plan) (state_of x)) c.ready.ensures.cluster in
    let next = subst (λ o. IsReadyFor o mid.log (g.D.Disk.state mid.meta)) c.ok-next.ensures.value c.in-Ok-ready.ensures.ok in
    subst (λ o. IsReadyFor o mid.log (g.D.Disk.state mid.meta)) (sym same) (made_ready c.state_by.result _ mid.log (g.D.Disk.state mid.meta) c.state_by.ensures next)

pub returns-in-Ok-save-clause-answered : goal.returns-in-Ok-save-clause-answered
returns-in-Ok-save-clause-answered g c =
    let before = g.X.Disks.depot c.args.disks.now in
    let after = g.X.Disks.depot c.make-answer.new.disks in
    let old = c.args.self.now in
    let mid = c.ready.new.self in
    let final = c.save.new.self in
    let readied = c.ready.ensures in
    let made = c.make-answer.ensures in
    let saved = c.save.ensures in
    let may = may_readied g.D.Disk.state before.held old mid readied.cluster readied.log readied.tells readied.any_moment c.requires.may in
    let planned = subst (λ x. IsPlannedBy x c.args.act c.in-Ok.plan) (sym readied.cluster) c.in-Ok.ensures.planned in
    let serves = subst (λ x. Serves g.D.Disk.state before old.cluster c.args.act c.make-answer.result.0 after x) (sym saved.cluster) (subst (λ x. Serves g.D.Disk.state before x c.args.act c.make-answer.result.0 after c.make-answer.new.self) readied.cluster (made.served c.args.act planned)) in
    let next = saved.any_moment.0 in
    let same = made.state ∙ state_made c.make-answer.result.1 c.in-Ok.plan (state_of mid.cluster) c.if-not-made.false ∙ ap (λ x. option_map (by_plan c.in-Ok.plan) (state_of x)) readied.cluster in
    let leads = sym saved.any_moment.1 ∙ same in
    let stands = ap state_of saved.cluster ∙ saved.any_moment.1 in
    answered_saved g.D.Disk.state before after old mid final c.args.act next (plan_leads old.cluster c.args.act c.in-Ok.plan c.in-Ok.ensures.planned next leads) readied.any_moment readied.tells (counts_none _ _ _ (λ is. cc) c.in-Ok-ready.ensures.faults) saved.any_moment.2 saved.tells c.make-answer.result.0 (subst (λ o. IfSome o (λ it. it ≡ next)) (sym stands) refl)
    (record {
      cluster = subst (λ x. MayServeCluster x after.held) (sym saved.cluster) made.owned;
      meta_out = serves_out g.D.Disk.state before old.cluster c.args.act c.make-answer.result.0 after final.cluster serves c.requires.may.meta_out;
      log = saved.log;
      state = subst MayBeState (sym stands) (plan_lawful old.cluster c.args.act c.in-Ok.plan c.in-Ok.ensures.planned next leads c.requires.limits c.requires.may.state);
      saved = c.in-Ok-save.ensures.saved (state_of mid.cluster) may.saved;
    }) serves (counts_none _ _ _ (λ is. (let clash : false ≡ true = is in cc)) c.in-Ok-save.ensures.faults)

pub returns-in-Err-save-clause-answered : goal.returns-in-Err-save-clause-answered
returns-in-Err-save-clause-answered g c =
    let before = g.X.Disks.depot c.args.disks.now in
    let after = g.X.Disks.depot c.make-answer.new.disks in
    let old = c.args.self.now in
    let mid = c.ready.new.self in
    let final = c.save.new.self in
    let readied = c.ready.ensures in
    let made = c.make-answer.ensures in
    let saved = c.save.ensures in
    let planned = subst (λ x. IsPlannedBy x c.args.act c.in-Ok.plan) (sym readied.cluster) c.in-Ok.ensures.planned in
    let serves = subst (λ x. Serves g.D.Disk.state before old.cluster c.args.act c.make-answer.result.0 after x) (sym saved.cluster) (subst (λ x. Serves g.D.Disk.state before x c.args.act c.make-answer.result.0 after c.make-answer.new.self) readied.cluster (made.served c.args.act planned)) in
    let next = saved.any_moment.0 in
    let same = made.state ∙ state_made c.make-answer.result.1 c.in-Ok.plan (state_of mid.cluster) c.if-not-made.false ∙ ap (λ x. option_map (by_plan c.in-Ok.plan) (state_of x)) readied.cluster in
    let leads = sym saved.any_moment.1 ∙ same in
    lost_saved g.D.Disk.state before after old mid final c.args.act next (plan_leads old.cluster c.args.act c.in-Ok.plan c.in-Ok.ensures.planned next leads) readied.any_moment readied.tells (counts_none _ _ _ (λ is. cc) c.in-Ok-ready.ensures.faults) saved.any_moment.2 saved.tells c.in-Err-save.lost c.make-answer.result.0 (subst (λ o. IfSome o (λ it. it ≡ next)) (sym (ap state_of saved.cluster ∙ saved.any_moment.1)) refl)
    (record { cluster = subst (λ x. MayServeCluster x after.held) (sym saved.cluster) made.owned; meta_out = serves_out g.D.Disk.state before old.cluster c.args.act c.make-answer.result.0 after final.cluster serves c.requires.may.meta_out }) serves (counts_as _ _ _ _ (λ is. refl) c.in-Err-save.ensures.faults)
