use Rattle.std.proofs.Common.{◌≡◌, refl, sym, ap, subst, ◌∙◌, false, true}
use Rattle.std.specs.Prelude.{IfSome, option_map}
use Rattle.m3_model.specs.declared.act.Act.TheVariants as act
use Rattle.m3_outside.specs.Causes.{CountsFaults}
use Rattle.m3_outside.specs.DiskState.{Elapses}
use Rattle.m3_outside.proofs.Moments.{counts_none}
use Rattle.meta_bytes.specs.States.{IsMetaState}
use Rattle.placement_log.specs.MetaHolds.{MaySave, MetaStands}
use Rattle.served_cluster.specs.Joins.{OpensNode, by_marking}
use Rattle.served_cluster.specs.Plans.{state_of}
use Rattle.saved_cluster.specs.Saved.{AnswersSaved, IsReadyFor, IsSaved}
use Rattle.saved_cluster.proofs.DiskLemmas.{counts_as}
use Rattle.saved_cluster.proofs.JoinLemmas.{boot_answered, boot_lost, boot_saved, boot_unready, joined_lawful, may_end, may_mark, saved_mid}
use Rattle.saved_cluster.proofs.ServeLemmas.{made_lawful, made_ready}
use Rattle.saved_cluster.proofs.saved.SavedCluster.serve_bootstrap.Goals as goal

-- The replicas were opened, and the line is answered.
pub returns-in-Answered-clause-answered : goal.returns-in-Answered-clause-answered
returns-in-Answered-clause-answered g c = λ depot may.
    let opened = c.open_node.ensures in
    boot_answered g.D.Disk.state depot c.args.self.now c.open_node.new.self c.args.node c.args.shard may opened.state opened.still c.in-Answered.answer
    (subst (λ b. OpensNode g.D.Disk.state c.args.self.now.cluster c.args.node c.args.shard b c.open_node.new.self) c.in-Answered.is opened.opens)

-- The save is readied.
pub state_with-requires : goal.state_with-requires
state_with-requires g c =
    let to = subst (λ b. OpensNode g.D.Disk.state c.args.self.now.cluster c.args.node c.args.shard b c.open_node.new.self) c.in-Joined.is c.open_node.ensures.opens in
    may_mark g.D.Disk.state c.args.self.now.cluster c.open_node.new.self c.open_node.new.self c.args.node c.args.shard c.in-Joined.marking to.0 refl

pub ready-requires-clause-state : goal.ready-requires-clause-state
ready-requires-clause-state g c =
    let to = subst (λ b. OpensNode g.D.Disk.state c.args.self.now.cluster c.args.node c.args.shard b c.open_node.new.self) c.in-Joined.is c.open_node.ensures.opens in
    subst (λ o. IfSome o IsMetaState) (sym c.ok-next.ensures.value)
    (made_lawful c.state_with.result _ c.state_with.ensures (λ next leads. joined_lawful g.D.Disk.state c.args.self.now.cluster c.open_node.new.self c.args.node c.args.shard c.in-Joined.marking to.0 next leads c.requires.may.1.state))

-- It couldn't be.
pub returns-in-Err-clause-answered : goal.returns-in-Err-clause-answered
returns-in-Err-clause-answered g c = λ depot may.
    let opened = c.open_node.ensures in
    let readied = c.ready.ensures in
    let to = subst (λ b. OpensNode g.D.Disk.state c.args.self.now.cluster c.args.node c.args.shard b c.open_node.new.self) c.in-Joined.is opened.opens in
    subst (λ r. AnswersSaved g.D.Disk.state depot c.args.self.now (act.Bootstrap c.args.node c.args.shard) r depot c.ready.new.self) (sym c.unready.ensures)
    (boot_unready g.D.Disk.state depot c.args.self.now c.open_node.new.self c.args.node c.args.shard may opened.state opened.still c.ready.new.self readied.cluster readied.log readied.any_moment readied.tells to.1 c.in-Err.why c.in-Err.ensures.faults)

-- What was joined is marked.
pub mark-marked-requires : goal.mark-marked-requires
mark-marked-requires g c =
    let to = subst (λ b. OpensNode g.D.Disk.state c.args.self.now.cluster c.args.node c.args.shard b c.open_node.new.self) c.in-Joined.is c.open_node.ensures.opens in
    may_mark g.D.Disk.state c.args.self.now.cluster c.open_node.new.self c.ready.new.self.cluster c.args.node c.args.shard c.in-Joined.marking to.0 c.ready.ensures.cluster

-- The state is saved.
pub save-requires : goal.save-requires
save-requires g c =
    let mid = c.ready.new.self in
    let same = c.mark-marked.ensures.state ∙ ap (λ x. option_map (by_marking c.in-Joined.marking) (state_of x)) c.ready.ensures.cluster in
    let next = subst (λ o. IsReadyFor o mid.log (g.D.Disk.state mid.meta)) c.ok-next.ensures.value c.in-Ok.ensures.ok in
    subst (λ o. IsReadyFor o mid.log (g.D.Disk.state mid.meta)) (sym same) (made_ready c.state_with.result _ mid.log (g.D.Disk.state mid.meta) c.state_with.ensures next)

-- The tenures end.
pub end_saved-requires-clause-saved : goal.end_saved-requires-clause-saved
end_saved-requires-clause-saved g c =
    let opened = c.open_node.ensures in
    let readied = c.ready.ensures in
    c.in-Ok-save.ensures.saved (state_of c.ready.new.self.cluster) (saved_mid g.D.Disk.state c.args.self.now c.ready.new.self c.open_node.new.self opened.state readied.cluster readied.tells readied.any_moment c.requires.may.1.saved)

pub end_saved-requires-clause-may : goal.end_saved-requires-clause-may
end_saved-requires-clause-may g c =
    may_end g.D.Disk.state c.ready.new.self.cluster c.mark-marked.new.self c.save.new.self.cluster c.in-Joined.marking c.mark-marked.result c.mark-marked.ensures.marked c.save.ensures.cluster

pub end_sources-requires : goal.end_sources-requires
end_sources-requires g c =
    may_end g.D.Disk.state c.ready.new.self.cluster c.mark-marked.new.self c.save.new.self.cluster c.in-Joined.marking c.mark-marked.result c.mark-marked.ensures.marked c.save.ensures.cluster

pub returns-in-Ok-save-clause-answered : goal.returns-in-Ok-save-clause-answered
returns-in-Ok-save-clause-answered g c = λ depot may.
    let old = c.args.self.now in
    let opened = c.open_node.ensures in
    let to = subst (λ b. OpensNode g.D.Disk.state old.cluster c.args.node c.args.shard b c.open_node.new.self) c.in-Joined.is opened.opens in
    let mid = c.ready.new.self in
    let readied = c.ready.ensures in
    let marks = c.mark-marked.ensures in
    let saved = c.save.ensures in
    let final = c.end_saved.new.self in
    let ended = c.end_saved.ensures in
    let next = saved.any_moment.0 in
    let stands = ap state_of saved.cluster ∙ saved.any_moment.1 in
    let holds = c.in-Ok-save.ensures.saved (state_of mid.cluster) (saved_mid g.D.Disk.state old mid c.open_node.new.self opened.state readied.cluster readied.tells readied.any_moment may.saved) in
    boot_saved g.D.Disk.state depot old c.open_node.new.self c.args.node c.args.shard may opened.state opened.still mid readied.cluster readied.log readied.any_moment readied.tells c.in-Joined.marking to.0
    (counts_none _ _ _ (λ is. cc) c.in-Ok.ensures.faults) c.mark-marked.result c.mark-marked.new.self marks.marked marks.state marks.still c.save.new.self.cluster saved.cluster next saved.any_moment.1 c.end_saved.result final ended.ended
    (subst (λ d. (g.D.Disk.state mid.meta).tells ≡ true → Elapses (MaySave next) (g.D.Disk.state mid.meta) (g.D.Disk.state d)) (sym ended.meta.0) saved.any_moment.2)
    (subst (λ d. (g.D.Disk.state d).tells ≡ (g.D.Disk.state mid.meta).tells) (sym ended.meta.0) saved.tells)
    (subst (λ l. MetaStands l (g.D.Disk.state final.meta)) (sym ended.meta.1) (subst (λ d. MetaStands c.save.new.self.log (g.D.Disk.state d)) (sym ended.meta.0) saved.log))
    (subst (λ o. IsSaved o (g.D.Disk.state final.meta)) stands (subst (λ d. IsSaved (state_of c.save.new.self.cluster) (g.D.Disk.state d)) (sym ended.meta.0) holds))
    (subst (λ d. CountsFaults ⊥ (g.D.Disk.state mid.meta).faults (g.D.Disk.state d).faults) (sym ended.meta.0) (counts_none _ _ _ (λ is. (let clash : false ≡ true = is in cc)) c.in-Ok-save.ensures.faults))

-- They end also where the save failed.
pub returns-in-Err-save-clause-answered : goal.returns-in-Err-save-clause-answered
returns-in-Err-save-clause-answered g c = λ depot may.
    let old = c.args.self.now in
    let opened = c.open_node.ensures in
    let to = subst (λ b. OpensNode g.D.Disk.state old.cluster c.args.node c.args.shard b c.open_node.new.self) c.in-Joined.is opened.opens in
    let mid = c.ready.new.self in
    let readied = c.ready.ensures in
    let marks = c.mark-marked.ensures in
    let saved = c.save.ensures in
    boot_lost g.D.Disk.state depot old c.open_node.new.self c.args.node c.args.shard may opened.state opened.still mid readied.cluster readied.log readied.any_moment readied.tells c.in-Joined.marking to.0
    (counts_none _ _ _ (λ is. cc) c.in-Ok.ensures.faults) c.mark-marked.result c.mark-marked.new.self marks.marked marks.state marks.still c.save.new.self.cluster saved.cluster saved.any_moment.0 saved.any_moment.1 c.end_sources.result _ c.end_sources.ensures
    saved.any_moment.2 saved.tells c.in-Err-save.lost (counts_as _ _ _ _ (λ is. refl) c.in-Err-save.ensures.faults)
