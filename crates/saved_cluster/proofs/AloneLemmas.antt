-- An act that may not change the state is the cluster's alone.
use Rattle.std.proofs.Common.{◌≡◌, sym, subst, refl, false}
use Rattle.m3_model.specs.declared.act.Act.{Act}
use Rattle.m3_model.specs.declared.act.Act.TheVariants as act
use Rattle.m3_model.specs.declared.answer.Answer.{Answer}
use Rattle.std.specs.Prelude.{Ok}
use Rattle.m3_outside.specs.Depots.{Depot}
use Rattle.m3_outside.specs.DiskState.{DiskState}
use Rattle.m3_outside.specs.declared.disk.Disk.{Ghosts}
use Rattle.placement_acts.specs.Acts.{is_step_act}
use Rattle.placement_log.specs.States.{MayBeState}
use Rattle.line_tracks.specs.tracks.Slots.{is_bootstrap}
use Rattle.served_cluster.specs.Acts.{Answers, is_init}
use Rattle.served_cluster.specs.Owned.{AreReady}
use Rattle.served_cluster.specs.declared.cluster.Cluster.{Cluster}
use Rattle.served_cluster.proofs.OwnLemmas.{owned_after, serves_so}
use Rattle.saved_cluster.specs.Saved.{AnswersSaved, IsSaved, MayServeSaved}
use Rattle.saved_cluster.specs.States.{saves_by}
use Rattle.saved_cluster.specs.declared.saved.SavedCluster.{SavedCluster}
use Rattle.saved_cluster.proofs.DiskLemmas.{counts_same}
use Rattle.saved_cluster.proofs.KeepLemmas.{state_stays}
use Rattle.saved_cluster.proofs.OutLemmas.{serves_out}
use Rattle.saved_cluster.proofs.SaveLemmas.{answered_unsaved}
use Rattle.saved_cluster.proofs.ServeLemmas.{elapses_same}

-- it makes no cluster
unsaved_no_init : (a : Act) → saves_by a ≡ false → is_init a ≡ false
unsaved_no_init (act.Init rf shards seed nodes) none = cc
unsaved_no_init _ none = refl

-- nor does it bootstrap a node
unsaved_no_bootstrap : (a : Act) → saves_by a ≡ false → is_bootstrap a ≡ false
unsaved_no_bootstrap (act.Bootstrap node shard) none = cc
unsaved_no_bootstrap _ none = refl

-- nor make a placement
unsaved_no_step : (a : Act) → saves_by a ≡ false → is_step_act a ≡ false
unsaved_no_step (act.Init rf shards seed nodes) none = cc
unsaved_no_step (act.Bootstrap node shard) none = cc
unsaved_no_step (act.Namespace name block past future retention) none = cc
unsaved_no_step (act.Now now) none = cc
unsaved_no_step _ none = none

-- what it is answered by the cluster is its answer, and the state stays
pub answered_alone : {D : Type 0} {G : Ghosts D} (state : D → DiskState) (depot : Depot D) (old : SavedCluster D G) (a : Act) (b : Answer) (new : Cluster D G) → saves_by a ≡ false → MayServeSaved state old depot.held → AreReady new.members → Answers state old.cluster a b new
    → AnswersSaved state depot old a (Ok b) depot (record old { cluster = new })
answered_alone state depot old a b new unsaved may ready did =
    let serves = serves_so state depot old.cluster a b new (unsaved_no_init a unsaved) (unsaved_no_step a unsaved) did in
    let same = state_stays state depot old.cluster a b depot new unsaved serves in
    answered_unsaved state depot depot old (record old { cluster = new }) a b same
    (record {
      cluster = record { owned = owned_after state depot.held old.cluster.members a b old.cluster.calls new.members (unsaved_no_bootstrap a unsaved) did.members may.cluster.owned; ready = ready };
      meta_out = serves_out state depot old.cluster a b depot new serves may.meta_out;
      log = may.log;
      state = subst MayBeState (sym same) may.state;
      saved = subst (λ o. IsSaved o (state old.meta)) (sym same) may.saved;
    }) serves (λ tells. elapses_same (state old.meta)) refl (counts_same _ (state old.meta).faults (λ never. never))
