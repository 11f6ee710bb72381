-- A line that is saved, or answered before it is.
use Rattle.std.proofs.Common.{◌≡◌, ◌⊎◌, ℕ, refl, sym, ap, subst, ◌∙◌, inl, inr, true}
use Rattle.std.specs.Prelude.{Option, Some, None, Result, Ok, Err, IsErrOf}
use Rattle.m3_model.specs.declared.act.Act.{Act}
use Rattle.m3_model.specs.declared.answer.Answer.{Answer}
use Rattle.m3_model.specs.declared.rules.MetaState.{MetaState}
use Rattle.m3_model.specs.declared.turn.Request.TheVariants as request
use Rattle.m3_outside.specs.Causes.{CountsFaults}
use Rattle.m3_outside.specs.Depots.{Depot}
use Rattle.m3_outside.specs.DiskState.{DiskState, Elapses}
use Rattle.m3_outside.specs.Slots.{Held}
use Rattle.m3_outside.specs.declared.disk.Disk.{Ghosts}
use Rattle.m3_outside.specs.declared.slot.DiskSlot.{DiskSlot}
use Rattle.m3_outside.proofs.Moments.{counts_then}
use Rattle.placement_log.specs.MetaHolds.{KeepsLast, MaySave, MetaStands}
use Rattle.placement_log.specs.States.{MayBeState}
use Rattle.served_cluster.specs.Acts.{Serves}
use Rattle.served_cluster.specs.Owned.{MayServeCluster}
use Rattle.served_cluster.specs.Plans.{state_of}
use Rattle.served_cluster.specs.declared.cluster.Cluster.{Cluster}
use Rattle.saved_cluster.specs.Saved.{AnswersSaved, HasState, IsSaved, Leads, MayClose, MayServeSaved}
use Rattle.saved_cluster.specs.declared.lost.Lost.{Lost}
use Rattle.saved_cluster.specs.declared.lost.Lost.TheVariants as lost
use Rattle.saved_cluster.specs.declared.saved.SavedCluster.{SavedCluster}
use Rattle.saved_cluster.proofs.DiskLemmas.{counts_same, may_then, saved_still}
use Rattle.saved_cluster.proofs.OutLemmas.{serves_out}
use Rattle.saved_cluster.proofs.ServeLemmas.{elapses_same}

ok_is_no_error : (b : Answer) (e : Lost) → ◌≡◌ {A = Result Answer Lost} (Ok b) (Err e) → ⊥
ok_is_no_error b e is = cc

module _ {D : Type 0} {G : Ghosts D} (state : D → DiskState) where
  -- what may serve may be closed
  pub may_close : (c : SavedCluster D G) (held : DiskSlot → Held D) → MayServeSaved state c held → MayClose c held
  may_close c held may = record { cluster = may.cluster; meta_out = may.meta_out }

  -- nothing was done
  pub answered_same : (depot : Depot D) (c : SavedCluster D G) (a : Act) (b : Answer) → MayServeSaved state c depot.held → Serves state depot c.cluster a b depot c.cluster → AnswersSaved state depot c a (Ok b) depot c
  answered_same depot c a b may serves = record {
    may = may;
    close = may_close c depot.held may;
    served = (b, refl, serves);
    any_moment = λ tells. inl (refl, elapses_same (state c.meta));
    tells = refl;
    faults = counts_same (IsErrOf (Ok b) lost.Meta) (state c.meta).faults (ok_is_no_error b lost.Meta);
  }

  -- a save was readied, and the cluster stays
  pub may_readied : (held : DiskSlot → Held D) (old new : SavedCluster D G) → new.cluster ≡ old.cluster → MetaStands new.log (state new.meta) → (state new.meta).tells ≡ (state old.meta).tells → ((state old.meta).tells ≡ true → Elapses KeepsLast (state old.meta) (state new.meta))
      → MayServeSaved state old held → MayServeSaved state new held
  may_readied held old new same log tells goes may = record {
    cluster = subst (λ (c : Cluster D G). MayServeCluster c held) (sym same) may.cluster;
    meta_out = may.meta_out;
    log = log;
    state = subst (λ (c : Cluster D G). MayBeState (state_of c)) (sym same) may.state;
    saved = subst (λ (c : Cluster D G). IsSaved (state_of c) (state new.meta)) (sym same) (saved_still (state_of old.cluster) (state old.meta) (state new.meta) tells goes may.saved);
  }

  -- it is answered, and was not saved
  pub answered_unsaved : (before after : Depot D) (old new : SavedCluster D G) (a : Act) (b : Answer) → state_of new.cluster ≡ state_of old.cluster → MayServeSaved state new after.held → Serves state before old.cluster a b after new.cluster → ((state old.meta).tells ≡ true → Elapses KeepsLast (state old.meta) (state new.meta))
      → (state new.meta).tells ≡ (state old.meta).tells → CountsFaults ⊥ (state old.meta).faults (state new.meta).faults → AnswersSaved state before old a (Ok b) after new
  answered_unsaved before after old new a b same may serves goes tells counts = record {
    may = may;
    close = may_close new after.held may;
    served = (b, refl, serves);
    any_moment = λ told. inl (same, goes told);
    tells = tells;
    faults = record { later = counts.later; stays = counts.stays; rose = λ is. absurd (ok_is_no_error b lost.Meta is) };
  }

  -- the meta disk failed before the save
  pub lost_unsaved : (before after : Depot D) (old new : SavedCluster D G) (a : Act) (said : Answer) → state_of new.cluster ≡ state_of old.cluster → MayClose new after.held → Serves state before old.cluster a said after new.cluster → ((state old.meta).tells ≡ true → Elapses KeepsLast (state old.meta) (state new.meta))
      → (state new.meta).tells ≡ (state old.meta).tells → CountsFaults (IsErrOf {T = Answer} (Err lost.Meta) lost.Meta) (state old.meta).faults (state new.meta).faults → AnswersSaved state before old a (Err lost.Meta) after new
  lost_unsaved before after old new a said same close serves goes tells counts = record {
    may = tt;
    close = close;
    served = (said, tt, serves);
    any_moment = λ told. inl (same, goes told);
    tells = tells;
    faults = counts;
  }

  -- it was saved, or the save failed, behind what readied it
  module _ (before after : Depot D) (old mid new : SavedCluster D G) (a : Act) (next : MetaState) (leads : Leads old.cluster (request.One a) next)
      (readied : (state old.meta).tells ≡ true → Elapses KeepsLast (state old.meta) (state mid.meta)) (mid_tells : (state mid.meta).tells ≡ (state old.meta).tells) (mid_counts : CountsFaults ⊥ (state old.meta).faults (state mid.meta).faults)
      (goes : (state mid.meta).tells ≡ true → Elapses (MaySave next) (state mid.meta) (state new.meta)) (new_tells : (state new.meta).tells ≡ (state mid.meta).tells) where
    pub answered_saved : (b : Answer) → HasState new.cluster next → MayServeSaved state new after.held → Serves state before old.cluster a b after new.cluster → CountsFaults ⊥ (state mid.meta).faults (state new.meta).faults → AnswersSaved state before old a (Ok b) after new
    answered_saved b stands may serves counts =
        let all = counts_then ⊥ (state old.meta).faults (state mid.meta).faults (state new.meta).faults mid_counts counts in
        record {
          may = may;
          close = may_close new after.held may;
          served = (b, refl, serves);
          any_moment = λ told. inr (next, leads, stands, may_then next (state old.meta) (state mid.meta) (state new.meta) (readied told) (goes (mid_tells ∙ told)));
          tells = new_tells ∙ mid_tells;
          faults = record { later = all.later; stays = all.stays; rose = λ is. absurd (ok_is_no_error b lost.Meta is) };
        }

    pub lost_saved : (e : Lost) (said : Answer) → HasState new.cluster next → MayClose new after.held → Serves state before old.cluster a said after new.cluster → CountsFaults (IsErrOf {T = Answer} (Err e) lost.Meta) (state mid.meta).faults (state new.meta).faults → AnswersSaved state before old a (Err e) after new
    lost_saved e said stands close serves counts = record {
      may = tt;
      close = close;
      served = (said, tt, serves);
      any_moment = λ told. inr (next, leads, stands, may_then next (state old.meta) (state mid.meta) (state new.meta) (readied told) (goes (mid_tells ∙ told)));
      tells = new_tells ∙ mid_tells;
      faults = counts_then (IsErrOf {T = Answer} (Err e) lost.Meta) (state old.meta).faults (state mid.meta).faults (state new.meta).faults mid_counts counts;
    }
