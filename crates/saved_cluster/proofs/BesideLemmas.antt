-- What turns that are tracked left beside the state: the placements that are kept, and the nodes that run.
use Rattle.std.proofs.Common.{◌≡◌, ℕ, List, refl, sym, ap, subst, ◌∙◌, false}
use Rattle.std.specs.Prelude.{Option, Some, None, Bool, option_map, slice_get}
use Rattle.std.proofs.lemmas.Option.{same_Some}
use Rattle.m3_model.specs.declared.act.Act.TheVariants as act
use Rattle.m3_model.specs.declared.rules.MetaState.{MetaState}
use Rattle.m3_model.specs.declared.turn.Request.{Request}
use Rattle.m3_model.specs.declared.turn.Request.TheVariants as request
use Rattle.m3_model.specs.declared.turn.Turn.{Turn}
use Rattle.m3_outside.specs.Depots.{Depot}
use Rattle.m3_outside.specs.DiskState.{DiskState}
use Rattle.m3_outside.specs.declared.disk.Disk.{Ghosts}
use Rattle.line_tracks.specs.transcripts.Caused.{versions_after}
use Rattle.line_tracks.specs.transcripts.Fates.{is_stopped}
use Rattle.line_tracks.specs.transcripts.Placements.{start_placement}
use Rattle.line_tracks.specs.transcripts.Record.{Record, inner_turns}
use Rattle.line_tracks.specs.transcripts.Refusals.{kept_versions}
use Rattle.line_tracks.specs.cluster_members.declared.members.Members.{Members}
use Rattle.line_tracks.specs.tracks.Tracks.{Tracks}
use Rattle.line_tracks.proofs.cluster_members_proofs.NameLemmas.{NamedNode, node_found}
use Rattle.served_cluster.specs.Owned.{TracksTurns}
use Rattle.served_cluster.specs.Plans.{state_of}
use Rattle.served_cluster.specs.declared.cluster.Cluster.{Cluster}
use Rattle.saved_cluster.specs.Saved.{RunsOn}
use Rattle.saved_cluster.specs.States.{IsOnRunning, kept_of}

module _ {D : Type 0} {G : Ghosts D} (state : D → DiskState) (tells : Bool) (past : List Record) (start : Option MetaState) (first now : Depot D) (turns : List Turn) (c : Cluster D G) where
  -- as many placements are kept as the turns left
  pub kept_left : TracksTurns state tells past start first now turns c → kept_of c ≡ kept_versions (start_placement (state_of c)) (versions_after start (inner_turns turns))
  kept_left t = by c.members t
    where
      by : (o : Option (Members D G)) → Tracks state tells past start first now turns o c.calls → kept_of (record c { members = o }) ≡ kept_versions (start_placement (option_map (λ (m : Members D G). m.net.state) o)) (versions_after start (inner_turns turns))
      by None t = refl
      by (Some m) t = sym (t.after.stands).kept.count

  -- a node that runs isn't one that they stopped
  running_on : (m : Members D G) (name : List ℕ) (node : ℕ) → Tracks state tells past start first now turns (Some m) c.calls → NamedNode name m.net.state.place.instances node → slice_get m.stopped.items node ≡ Some false → is_stopped (inner_turns turns) name ≡ false
  running_on m name node t named runs =
      let flag : Some (is_stopped (inner_turns turns) (named.instance_).name) ≡ Some false = sym ((t.after.stands).stopped node named.instance_ named.stands) ∙ runs in
      ap (is_stopped (inner_turns turns)) (sym named.name_is) ∙ same_Some (is_stopped (inner_turns turns) (named.instance_).name) false flag

  -- so the node of a bootstrap that may be served isn't
  pub running_left : (asked : Request) → TracksTurns state tells past start first now turns c → RunsOn c asked → IsOnRunning (is_stopped (inner_turns turns)) asked
  running_left (request.One (act.Bootstrap name asked)) t (m, stands, runs) =
      running_on m name runs.node (subst (λ (o : Option (Members D G)). Tracks state tells past start first now turns o c.calls) stands t) (node_found name m.net.state.place.instances runs.node runs.found) runs.is
  running_left _ t runs = tt
