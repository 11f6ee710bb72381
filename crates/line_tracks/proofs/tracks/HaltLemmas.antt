-- Lines that stop or restart a node.
use Rattle.std.proofs.Common.{◌++◌, ℕ, List, refl, ap, sym, subst, arith, Bool, true, false}
use Rattle.std.specs.Prelude.{Option, Some}
use Rattle.std.specs.List.{flat_map}
use Rattle.m3_model.specs.declared.act.Act.{Act}
use Rattle.m3_model.specs.declared.act.Act.TheVariants as act
use Rattle.m3_model.specs.declared.answer.Answer.{Answer}
use Rattle.m3_model.specs.declared.answer.Answer.TheVariants as answer
use Rattle.m3_model.specs.declared.reason.Reason.{Reason}
use Rattle.m3_model.specs.declared.reason.Reason.TheVariants as reason
use Rattle.m3_model.specs.declared.turn.Turn.{Turn}
use Rattle.m3_model.specs.declared.rules.MetaState.{MetaState}
use Rattle.m3_outside.specs.Depots.{Depot}
use Rattle.m3_outside.specs.DiskState.{DiskState, IsLawfulDisk}
use Rattle.m3_outside.specs.declared.disk.Disk.{Ghosts}
use Rattle.cluster_core.specs.declared.event.Event.{Event}
use Rattle.line_tracks.specs.calls.Laws.{IsNotRefused}
use Rattle.node_calls.specs.cluster_members.declared.members.Members.{Members}
use Rattle.node_calls.specs.Halts.{restart_at, slots_of_node, stop_at}
use Rattle.node_calls.specs.Nodes.{IsNode, IsRestarted, IsStopped, IsUnstarted}
use Rattle.line_tracks.specs.acts.Due.{IsDueNext, RestartDue, StopDue}
use Rattle.line_tracks.proofs.acts.DueLemmas.{restarts_are_due, stops_are_due}
use Rattle.line_tracks.proofs.acts.HaltLemmas.{few_own, restart_failed_tells, restart_wanted_tells, restarted_tells, stopped_tells}
use Rattle.line_tracks.specs.tracks.Lines.{IsLeft, MayGoOn, RestartsAreTracked, StopsAreTracked}
use Rattle.line_tracks.proofs.tracks.NodeLemmas.{IsTracked, flag_tells, halted_on, lacking_on, refused_on, so}
use Rattle.line_tracks.proofs.tracks.SharedLemmas.{have_left}
use Rattle.transcripts.specs.Record.{Record}

module _ {D : Type 0} {G : Ghosts D} (state : D → DiskState) (lawful : (d : D) → IsLawfulDisk (state d)) (m : Members D G) (tells : Bool) (past : List Record) (start : Option MetaState) (first now : Depot D) (turns : List Turn) (calls : List ℕ) (go : MayGoOn state tells past start first now turns calls m) (name : List ℕ) where
  -- ---- stops

  abbrev stop : Act
  stop = act.Stop name

  abbrev stop_due : (b : Answer) → StopDue start turns m.net.state.place name b
  stop_due b = stops_are_due start turns m.net.state.place m.net.state.rules (have_left start turns m go.tracks.after.stands) name b

  pub stop_on : (b : Answer) (g : Members D G) → IsLeft tells g → IsStopped state m name b g → IsTracked state m tells past start first now turns calls go stop b g
  stop_on answer.Done g left h =
      let n = h.ran in
      let free = (stop_due answer.Done).free n.node n.found (flag_tells state m tells past start first now turns calls go name false n) in
      let stands = stopped_tells state m start turns g name (so state m tells past start first now turns calls go).stands h in
      halted_on state m tells past start first now turns calls go lawful stop answer.Done g (flat_map stop_at (slots_of_node n.node m.slots.items)) left free stands refl (λ o. o) h.keeps.slots h.keeps.past (ap (λ (s : MetaState). s.place) h.keeps.state) h.stopped
  stop_on (answer.Unknown unknown) g left (none, is, same) =
      let b : Answer = answer.Unknown unknown in
      refused_on state m tells past start first now turns calls go stop b g same (subst (λ x. IsDueNext start turns stop b (Some (answer.Unknown x))) (sym is) ((stop_due b).unknown none))
  stop_on (answer.State node) g left (n, is, same) =
      let b : Answer = answer.State node in
      let due = (stop_due b).state n.node n.found (flag_tells state m tells past start first now turns calls go name true n) in
      refused_on state m tells past start first now turns calls go stop b g same (subst (λ x. IsDueNext start turns stop b (Some (answer.State x))) (sym is) due)
  stop_on answer.Full g left (n, lacks) = let few = few_own m n.node in lacking_on state m tells past start first now turns calls go stop g 2 n.node (omega (arith, few)) lacks
  stop_on _ g left h = absurd h

  -- ---- restarts

  module _ (pick : ℕ) where
    abbrev restart : Act
    restart = act.Restart name pick

    abbrev restart_due : (b : Answer) → RestartDue start turns m.net.state.place name pick b
    restart_due b = restarts_are_due start turns m.net.state.place m.net.state.rules (have_left start turns m go.tracks.after.stands) name pick b

    free_restart : (b : Answer) → IsNode m name true → IsNotRefused start turns restart b
    free_restart b n = (restart_due b).free n.node n.found (flag_tells state m tells past start first now turns calls go name true n)

    -- the events of one that failed
    abbrev came : (shard : ℕ) (why : Reason) (g : Members D G) → IsUnstarted state m name shard why g → List Event
    came shard why g h = h.tried ++ flat_map stop_at (slots_of_node h.was.node m.slots.items)

    pub restart_on : (b : Answer) (g : Members D G) → IsLeft tells g → IsRestarted state m name b g → IsTracked state m tells past start first now turns calls go restart b g
    restart_on answer.Done g left h =
        let n = h.was in
        let stands = restarted_tells state m start turns g name pick (so state m tells past start first now turns calls go).stands h in
        halted_on state m tells past start first now turns calls go lawful restart answer.Done g (flat_map restart_at (slots_of_node n.node m.slots.items)) left (free_restart answer.Done n) stands refl (λ o. o) h.keeps.slots h.keeps.past (ap (λ (s : MetaState). s.place) h.keeps.state) h.restarted
    restart_on (answer.Unknown unknown) g left (none, is, same) =
        let b : Answer = answer.Unknown unknown in
        refused_on state m tells past start first now turns calls go restart b g same (subst (λ x. IsDueNext start turns restart b (Some (answer.Unknown x))) (sym is) ((restart_due b).unknown none))
    restart_on (answer.State node) g left (n, is, same) =
        let b : Answer = answer.State node in
        let due = (restart_due b).state n.node n.found (flag_tells state m tells past start first now turns calls go name false n) in
        refused_on state m tells past start first now turns calls go restart b g same (subst (λ x. IsDueNext start turns restart b (Some (answer.State x))) (sym is) due)
    restart_on (answer.Disk node shard) g left (is, h) =
        let b : Answer = answer.Disk node shard in
        let stands = restart_failed_tells state m start turns g name node pick shard (so state m tells past start first now turns calls go).stands (is, h) in
        halted_on state m tells past start first now turns calls go lawful restart b g (came shard reason.Disk g h) left (free_restart b h.was) stands refl (λ o. o) h.keeps.slots h.keeps.past (ap (λ (s : MetaState). s.place) h.keeps.state) h.stopped
    restart_on answer.Memory g left (shard, h) =
        let stands = restart_wanted_tells state m start turns g name pick (so state m tells past start first now turns calls go).stands (shard, h) in
        halted_on state m tells past start first now turns calls go lawful restart answer.Memory g (came shard reason.Memory g h) left (free_restart answer.Memory h.was) stands refl (λ o. o) h.keeps.slots h.keeps.past (ap (λ (s : MetaState). s.place) h.keeps.state) h.stopped
    restart_on answer.Full g left (n, lacks) = let few = few_own m n.node in lacking_on state m tells past start first now turns calls go restart g 4 n.node (omega (arith, few)) lacks
    restart_on _ g left h = absurd h

pub stops_are_tracked : {D : Type 0} {G : Ghosts D} (state : D → DiskState) → ((d : D) → IsLawfulDisk (state d)) → (m : Members D G) → StopsAreTracked state m
stops_are_tracked state lawful m name tells past start first now turns calls b g go left did = stop_on state lawful m tells past start first now turns calls go name b g left did

pub restarts_are_tracked : {D : Type 0} {G : Ghosts D} (state : D → DiskState) → ((d : D) → IsLawfulDisk (state d)) → (m : Members D G) → RestartsAreTracked state m
restarts_are_tracked state lawful m name pick tells past start first now turns calls b g go left did = restart_on state lawful m tells past start first now turns calls go name pick b g left did
