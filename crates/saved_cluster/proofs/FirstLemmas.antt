-- An `init` of which a state is saved, or that is refused before.
use Rattle.std.proofs.Common.{◌≡◌, ◌≢◌, ℕ, List, refl, sym, ap, subst, ◌∙◌, true}
use Rattle.std.specs.Prelude.{Option, Some, None, Result, Ok, Err, IfOk, OnOk, IsErrOf}
use Rattle.m3_model.specs.Limits.{IsInit}
use Rattle.m3_model.specs.declared.act.Act.TheVariants as act
use Rattle.m3_model.specs.declared.answer.Answer.{Answer}
use Rattle.m3_model.specs.declared.answer.Answer.TheVariants as answer
use Rattle.m3_model.specs.declared.rules.MetaState.{MetaState}
use Rattle.m3_model.specs.declared.turn.Request.TheVariants as request
use Rattle.m3_outside.specs.Causes.{CountsFaults}
use Rattle.m3_outside.specs.Depots.{Depot}
use Rattle.m3_outside.specs.DiskState.{DiskState, Elapses}
use Rattle.m3_outside.specs.Slots.{Out}
use Rattle.m3_outside.specs.declared.disk.Disk.{Ghosts}
use Rattle.m3_outside.specs.declared.slot.DiskSlot.{DiskSlot}
use Rattle.m3_outside.proofs.Moments.{counts_none}
use Rattle.meta_bytes.specs.States.{IsMetaState}
use Rattle.placement_log.specs.MetaHolds.{KeepsLast, MaySave, MetaStands}
use Rattle.placement_log.specs.States.{MayBeState}
use Rattle.placement_plan.specs.First.{RefusesInitial}
use Rattle.placement_plan.specs.declared.plan_err.PlaceErr.{PlaceErr}
use Rattle.placement_plan.specs.declared.plan_err.PlaceErr.TheVariants as refused
use Rattle.line_tracks.proofs.first_cluster_proofs.GiveAll.{returned_none}
use Rattle.line_tracks.specs.session_net.Ready.{IsReady}
use Rattle.line_tracks.specs.cluster_members.declared.members.Members.{Members}
use Rattle.line_tracks.specs.first_cluster.Depots.{IsForReplicas, OwnedBy}
use Rattle.line_tracks.specs.first_cluster.First.{IsRefusedInit}
use Rattle.line_tracks.specs.tracks.Acts.{IsInitAnswer}
use Rattle.line_tracks.specs.tracks.Lines.{EachMember}
use Rattle.served_cluster.specs.Acts.{Serves}
use Rattle.served_cluster.specs.Plans.{state_of}
use Rattle.saved_cluster.specs.Saved.{AnswersSaved, HasState, IsSaved, Leads, MayServeSaved}
use Rattle.saved_cluster.specs.States.{unplanned}
use Rattle.saved_cluster.specs.declared.lost.Lost.{Lost}
use Rattle.saved_cluster.specs.declared.lost.Lost.TheVariants as lost
use Rattle.saved_cluster.specs.declared.saved.SavedCluster.{SavedCluster}
use Rattle.saved_cluster.proofs.OutLemmas.{serves_out}
use Rattle.saved_cluster.proofs.SaveLemmas.{answered_saved, lost_saved}
use Rattle.saved_cluster.proofs.ServeLemmas.{init_serves}

-- one that was refused made none
pub refused_init : {D : Type 0} (G : Ghosts D) (state : D → DiskState) (rf shards seed : ℕ) (nodes : List (List ℕ × List ℕ)) (before after : Depot D) (b : Answer) → IsRefusedInit state rf shards seed nodes before after b → IsInitAnswer {D = D} {G = G} state before None rf shards seed nodes b after None
refused_init G state rf shards seed nodes before after (answer.Placed place version) h = absurd h
refused_init G state rf shards seed nodes before after answer.Order h = absurd h
refused_init G state rf shards seed nodes before after (answer.Group shard) h = (refl, refl, h)
refused_init G state rf shards seed nodes before after (answer.Disk name shard) h = (refl, refl, h)
refused_init G state rf shards seed nodes before after answer.Memory h = (refl, refl, h)
refused_init G state rf shards seed nodes before after _ h = absurd h

-- nor did one that couldn't be planned
pub unplanned_init : {D : Type 0} (G : Ghosts D) (state : D → DiskState) (rf shards seed : ℕ) (nodes : List (List ℕ × List ℕ)) (depot : Depot D) (why : PlaceErr) → RefusesInitial rf nodes why → IsInitAnswer {D = D} {G = G} state depot None rf shards seed nodes (unplanned why) depot None
unplanned_init G state rf shards seed nodes depot (refused.Group shard) h = (refl, refl, (h, refl))
unplanned_init G state rf shards seed nodes depot _ h = (refl, refl, returned_none state depot)

module _ {D : Type 0} {G : Ghosts D} (state : D → DiskState) (rf shards seed : ℕ) (nodes : List (List ℕ × List ℕ)) where
  module _ (before after : Depot D) (old mid new : SavedCluster D G) (next : MetaState) (none : old.cluster.members ≡ None) (may : MayServeSaved state old before.held)
      (leads : Leads old.cluster (request.One (act.Init rf shards seed nodes)) next) (lawful : IsMetaState next)
      (readied : (state old.meta).tells ≡ true → Elapses KeepsLast (state old.meta) (state mid.meta)) (mid_tells : (state mid.meta).tells ≡ (state old.meta).tells) (mid_counts : CountsFaults ⊥ (state old.meta).faults (state mid.meta).faults)
      (goes : (state mid.meta).tells ≡ true → Elapses (MaySave next) (state mid.meta) (state new.meta)) (new_tells : (state new.meta).tells ≡ (state mid.meta).tells) (log : MetaStands new.log (state new.meta)) (mid_saved : IsSaved (state_of old.cluster) (state mid.meta)) where
    serves_of : (said : Answer) → new.cluster.calls ≡ old.cluster.calls → IsInitAnswer state before None rf shards seed nodes said after new.cluster.members → Serves state before old.cluster (act.Init rf shards seed nodes) said after new.cluster
    serves_of said calls it = record { members = subst (λ (o : Option (Members D G)). IsInitAnswer state before o rf shards seed nodes said after new.cluster.members) (sym none) it; calls = calls }

    free : (disk_slot : DiskSlot) → IsForReplicas disk_slot → before.held disk_slot ≢ Out
    free = subst (λ (o : Option (Members D G)). OwnedBy o before.held) none may.cluster.owned

    -- the state of one that was made was saved; or the save failed, or memory was wanted behind it
    pub begun_answered : (r : Result Answer Lost) → (said : Answer) → IfOk r (λ b. b ≡ said) → IsInitAnswer state before None rf shards seed nodes said after new.cluster.members → EachMember new.cluster.members (λ m. IsReady m.net.state m.net.replicas m.net.bag)
        → new.cluster.calls ≡ old.cluster.calls → OnOk r (state_of new.cluster ≡ Some next) → HasState new.cluster next → OnOk r ((last : Option MetaState) → IsSaved last (state mid.meta) → IsSaved (Some next) (state new.meta)) → CountsFaults (IsErrOf r lost.Meta) (state mid.meta).faults (state new.meta).faults
        → AnswersSaved state before old (act.Init rf shards seed nodes) r after new
    begun_answered (Ok b) said is it ready calls stands has saved counts =
        let init = subst (λ (x : Answer). IsInitAnswer state before None rf shards seed nodes x after new.cluster.members) (sym is) it in
        let serves = serves_of b calls init in
        answered_saved state before after old mid new (act.Init rf shards seed nodes) next leads readied mid_tells mid_counts goes new_tells b has
        (record {
          cluster = init_serves state rf shards seed nodes before after b new.cluster free init ready;
          meta_out = serves_out state before old.cluster (act.Init rf shards seed nodes) b after new.cluster serves may.meta_out;
          log = log;
          state = subst MayBeState (sym stands) lawful;
          saved = subst (λ (o : Option MetaState). IsSaved o (state new.meta)) (sym stands) (saved (state_of old.cluster) mid_saved);
        }) serves (counts_none _ _ _ (λ no. (let clash : ◌≡◌ {A = Result Answer Lost} (Ok b) (Err lost.Meta) = no in cc)) counts)
    begun_answered (Err e) said is it ready calls stands has saved counts =
        let serves = serves_of said calls it in
        lost_saved state before after old mid new (act.Init rf shards seed nodes) next leads readied mid_tells mid_counts goes new_tells e said has
        (record { cluster = init_serves state rf shards seed nodes before after said new.cluster free it ready; meta_out = serves_out state before old.cluster (act.Init rf shards seed nodes) said after new.cluster serves may.meta_out }) serves counts
