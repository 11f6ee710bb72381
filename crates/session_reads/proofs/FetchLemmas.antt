-- Calls may be made after a fetch as before it, and what it answers.
use Rattle.std.proofs.Common.{ℕ, suc, List, [], ◌∷◌, ◌++◌, length, sym, subst, inl, inr}
use Rattle.m3_model.specs.declared.rules.MetaState.{MetaState}
use Rattle.m3_model.proofs.MemberLemmas.{IsIn-append_cases}
use Rattle.m3_outside.specs.DiskState.{DiskState}
use Rattle.session_net.specs.cluster_core.declared.event.Event.{Event}
use Rattle.session_net.specs.cluster_core.declared.event.StepReply.TheVariants as reply
use Rattle.session_net.specs.net_plan.Fates.{FateMap}
use Rattle.session_net.specs.net_plan.declared.late_write.LateWrite.{LateWrite}
use Rattle.session_net.specs.replica_exchange.declared.call_id.CallId.{CallId}
use Rattle.session_net.specs.Calls.{Tracked}
use Rattle.session_net.specs.Reads.{Wish, ShardRead, read_of, start_of, done_of, ended_of, AreRead, IsUnfound}
use Rattle.session_net.specs.Ready.{IsReady, IsCallable}
use Rattle.session_net.specs.Runs.{Ran}
use Rattle.session_net.specs.declared.session_err.SessionErr.{SessionErr}
use Rattle.session_net.specs.declared.session_err.SessionErr.TheVariants as err
use Rattle.session_net.proofs.ReadyLemmas.{IsQuiet, AreQuiet, quiet_between, quiet_messages, ready_after, calls_after}

-- ---- calls may still be made

quiet_both : (xs ys : List Event) → AreQuiet xs → AreQuiet ys → AreQuiet (xs ++ ys)
quiet_both xs ys qx qy e m = elim (IsIn-append_cases xs ys e m) as (λ _. IsQuiet e) [ inl l ↦ qx e l | inr r ↦ qy e r ]

quiet_first : (e : Event) (rest : List Event) → IsQuiet e → AreQuiet rest → AreQuiet (e ∷ rest)
quiet_first e rest q qs x (inl is) = subst IsQuiet is q
quiet_first e rest q qs x (inr m) = qs x m

-- what a fetch left: later events neither set the moment nor the placement
pub record Left {D : Type 0} (disk : D → DiskState) (old new : Tracked D) : Type 0 where
  pub events : List Event
  pub ran : Ran disk old events new
  pub quiet : AreQuiet events

module _ (state : MetaState) (fates : FateMap) (id : CallId) (w : Wish) (needed : ℕ) where
  quiet_reads : (position : ℕ) (shards : List ℕ) (reads : ℕ → ShardRead) (events : List Event) → AreRead state fates id w needed position shards reads events → AreQuiet events
  quiet_reads position [] reads events h = subst AreQuiet (sym h) (λ e m. absurd m)
  quiet_reads position (s ∷ shards) reads events h =
      subst AreQuiet (sym h.3)
      (quiet_between (start_of state w s) (reads s).reads (done_of (reads s) ∷ h.2) tt (quiet_messages reply.Found fates id s (read_of id state.rules state.place.version w) (reads s).nodes (reads s).heard (reads s).reads h.0.heard)
      (quiet_first (done_of (reads s)) h.2 tt (quiet_reads (suc (ended_of (reads s))) shards reads h.2 h.4)))

  module _ {D : Type 0} (disk : D → DiskState) (old new : Tracked D) where
    pub left_reads : (shards : List ℕ) (reads : ℕ → ShardRead) (events : List Event) → AreRead state fates id w needed (length old.events) shards reads events → Ran disk old events new → Left disk old new
    left_reads shards reads events are ran = record { events = events; ran = ran; quiet = quiet_reads (length old.events) shards reads events are }

    left_within : (shards : List ℕ) (reads : ℕ → ShardRead) (events : List Event) → AreRead state fates id w needed (length old.events) shards reads events → (s : ℕ) (more : List Event) → AreQuiet more → Ran disk old (events ++ start_of state w s ∷ more) new
        → Left disk old new
    left_within shards reads events are s more quiet ran = record {
      events = events ++ start_of state w s ∷ more;
      ran = ran;
      quiet = quiet_both events (start_of state w s ∷ more) (quiet_reads (length old.events) shards reads events are) (quiet_first (start_of state w s) more tt quiet);
    }

    pub left_unfound : (e : SessionErr) → IsUnfound disk state fates id w needed old new e → Left disk old new
    left_unfound (err.Consistency shard due got reasons) h =
        left_within h.before h.reads h.events h.were.are h.here (h.last).reads (quiet_messages reply.Found fates id h.here (read_of id state.rules state.place.version w) (h.last).nodes (h.last).heard (h.last).reads h.asked.heard) h.ran
    left_unfound err.Memory (inl h) = left_reads h.before h.reads h.events h.were.are h.ran
    left_unfound err.Memory (inr h) =
        left_within h.before h.reads h.events h.were.are h.here (h.last).reads (quiet_messages reply.Found fates id h.here (read_of id state.rules state.place.version w) _ (h.last).heard (h.last).reads h.asked.heard) h.ran
    left_unfound err.Full h = left_reads h.before h.reads h.events h.were.are h.ran

pub ready_left : {D : Type 0} (disk : D → DiskState) (state : MetaState) (old new : Tracked D) (bag : List LateWrite) → IsReady state old bag → Left disk old new → IsReady state new bag
ready_left disk state old new bag was h = ready_after disk state old new bag bag h.events was h.ran h.quiet (λ one m. inl m)

pub callable_left : {D : Type 0} (disk : D → DiskState) (state : MetaState) (old new : Tracked D) (bag : List LateWrite) → IsCallable state old bag → Left disk old new → IsCallable state new bag
callable_left disk state old new bag was h = calls_after disk state old new bag bag h.events was h.ran h.quiet (λ one m. inl m)
