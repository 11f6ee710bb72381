-- The turns tracked by a cluster.
use Rattle.std.proofs.Common.{◌≡◌, ℕ, List, [], ◌∷◌, ◌++◌, sym, subst, Bool, true}
use Rattle.std.specs.Prelude.{Option, Some, None, option_map}
use Rattle.served_acts.specs.NotYet.{IsServedAct}
use Rattle.m3_model.specs.declared.act.Act.{Act}
use Rattle.m3_model.specs.declared.answer.Answer.{Answer}
use Rattle.m3_model.specs.declared.turn.Reply.TheVariants as reply
use Rattle.m3_model.specs.declared.turn.Request.{Request}
use Rattle.m3_model.specs.declared.turn.Request.TheVariants as request
use Rattle.m3_model.specs.declared.rules.MetaState.{MetaState}
use Rattle.m3_model.specs.declared.turn.Turn.{Turn}
use Rattle.m3_outside.specs.Depots.{Depot, TellAll}
use Rattle.m3_outside.specs.DiskState.{DiskState, IsLawfulDisk}
use Rattle.m3_outside.specs.Slots.{Held}
use Rattle.m3_outside.specs.declared.disk.Disk.{Ghosts}
use Rattle.m3_outside.specs.declared.slot.DiskSlot.{DiskSlot}
use Rattle.line_tracks.specs.event_trail.Trails.{IsLegalOver}
use Rattle.line_tracks.specs.replica_calls.Calls.{AreMembersOf}
use Rattle.line_tracks.specs.transcripts.Placements.{placement_after, start_placement}
use Rattle.line_tracks.specs.transcripts.Record.{Record, inner_turns, line_of}
use Rattle.line_tracks.specs.cluster_members.declared.members.Members.{Members}
use Rattle.line_tracks.specs.first_cluster.Depots.{OwnedBy}
use Rattle.line_tracks.specs.cluster_placements.Steps.{MayChange}
use Rattle.line_tracks.proofs.acts.StandLemmas.{no_placement}
use Rattle.line_tracks.specs.tracks.Tracks.{MayStandSo, events_of}
use Rattle.line_tracks.specs.tracks.Lines.{EachMember, IsLeft}
use Rattle.line_tracks.proofs.tracks.LineLemmas.{lines_are_tracked}
use Rattle.served_cluster.specs.Acts.{Serves}
use Rattle.served_cluster.specs.Owned.{AreReady, MayServeCluster, TracksTurns, place_of}
use Rattle.served_cluster.specs.declared.cluster.Cluster.{Cluster}
use Rattle.served_cluster.proofs.KeptLemmas.{may_change}

module _ {D : Type 0} {G : Ghosts D} (state : D → DiskState) where
  -- they left the placement that stands
  pub place_left : (c : Cluster D G) (tells : Bool) (past : List Record) (start : Option MetaState) (first now : Depot D) (turns : List Turn) → TracksTurns state tells past start first now turns c → placement_after (start_placement start) (inner_turns turns) ≡ place_of c
  place_left c tells past start first now turns t = by c.members t.after
    where
      by : (o : Option (Members D G)) → MayStandSo state tells past start now turns o → placement_after (start_placement start) (inner_turns turns) ≡ option_map (λ m. m.net.state.place) o
      by None h = subst (λ (x : Option MetaState). placement_after (start_placement x) (inner_turns turns) ≡ None) (sym h.found) (no_placement turns h.none)
      by (Some m) h = h.stands.left.place

  -- what is left where one stands
  each_left : (tells : Bool) → (tells ≡ true → TellAll state) → (o : Option (Members D G)) → IsLegalOver state (events_of o) → AreReady o → EachMember o (λ m. IsLeft tells m)
  each_left tells tell None legal ready = tt
  each_left tells tell (Some m) legal ready = record { legal = legal tells tell; ready = ready.0.0 }

  -- and what the next line needs
  each_may : (held : DiskSlot → Held D) (o : Option (Members D G)) → OwnedBy o held → AreReady o → EachMember o (λ m. MayChange m held)
  each_may held None own ready = tt
  each_may held (Some m) own ready = may_change m held own ready

  -- and with one more line they are tracked
  pub tracks_on : ((d : D) → IsLawfulDisk (state d)) → (old new : Cluster D G) (before after : Depot D) (asked : Request) (a : Act) (b : Answer) → asked ≡ request.One a → IsServedAct a → EachMember old.members (λ m. AreMembersOf state m.net.replicas)
      → Serves state before old a b after new → IsLegalOver state (events_of new.members) → MayServeCluster new after.held → (tells : Bool) (past : List Record) (start : Option MetaState) (first : Depot D) (turns : List Turn) → TracksTurns state tells past start first before turns old
      → TracksTurns state tells past start first after (turns ++ record { request = asked; reply = reply.One b } ∷ []) new
  tracks_on lawful old new before after asked a b is served are h legal may tells past start first turns t =
      subst (λ (r : Request). TracksTurns state tells past start first after (turns ++ record { request = r; reply = reply.One b } ∷ []) new) (sym is)
      (subst (λ (calls : List ℕ). TracksTurns state tells past start first after (turns ++ line_of a b ∷ []) (record { members = new.members; calls = calls })) (sym h.calls)
      (lines_are_tracked state lawful old.members tells past start first before after turns old.calls a b new.members served t are (each_left tells t.tell new.members legal may.ready) (each_may after.held new.members may.owned may.ready) h.members))
