-- What lines that stop or restart a node share: where nothing changed, and where replicas took steps.
use Rattle.std.proofs.Common.{◌≡◌, ◌≤◌, ◌+◌, ◌*◌, ℕ, List, [], ◌∷◌, ◌++◌, length, sym, subst, ◌∙◌, Bool}
use Rattle.std.proofs.lemmas.List.{append_cancel_left}
use Rattle.std.specs.Prelude.{Option, Some, None}
use Rattle.m3_model.specs.declared.act.Act.{Act}
use Rattle.m3_model.specs.declared.answer.Answer.{Answer}
use Rattle.m3_model.specs.declared.answer.Answer.TheVariants as answer
use Rattle.m3_model.specs.declared.limits.TheConstants.{MOST_REQUEST_EVENTS}
use Rattle.m3_model.specs.declared.turn.Turn.{Turn}
use Rattle.m3_model.specs.declared.rules.MetaState.{MetaState}
use Rattle.m3_outside.specs.Depots.{Depot}
use Rattle.m3_outside.specs.DiskState.{DiskState, IsLawfulDisk}
use Rattle.m3_outside.specs.declared.disk.Disk.{Ghosts}
use Rattle.cluster_core.specs.declared.event.Event.{Event}
use Rattle.node_calls.specs.replica_exchange.MachineCalls.{HasRoom}
use Rattle.node_calls.specs.session_net.Runs.{Ran}
use Rattle.told_runs.specs.told_by.Lines.{PlainLine}
use Rattle.told_runs.specs.told_by.Makes.{OpensReplicas}
use Rattle.transcripts.specs.Fates.{is_stopped}
use Rattle.transcripts.specs.Placements.{printed}
use Rattle.transcripts.specs.Record.{Record, inner_turns, line_of}
use Rattle.line_tracks.specs.calls.Laws.{IsNotRefused}
use Rattle.node_calls.specs.cluster_members.declared.members.Members.{Members}
use Rattle.node_calls.specs.Halts.{slots_of_node}
use Rattle.node_calls.specs.Nodes.{IsNode, LacksRoom}
use Rattle.line_tracks.specs.acts.Due.{IsDueNext}
use Rattle.line_tracks.specs.acts.Settings.{LeavesNothing}
use Rattle.line_tracks.proofs.acts.NothingLemmas.{no_room_tells, refused_tells}
use Rattle.line_tracks.specs.acts.Stays.{HaveNoPlace}
use Rattle.line_tracks.specs.acts.Keeps.{BeginsGiven}
use Rattle.line_tracks.specs.acts.Nodes.{LeavesStanding}
use Rattle.line_tracks.specs.acts.Opens.{MayOpenSlots}
use Rattle.line_tracks.proofs.acts.OpenLemmas.{begins_still}
use Rattle.line_tracks.proofs.acts.NodeStands.{stopped_so}
use Rattle.line_tracks.specs.tracks.Numbers.{numbers_by}
use Rattle.line_tracks.specs.tracks.Steps.{AddsLine, StandsOn}
use Rattle.line_tracks.specs.tracks.Tracks.{StandsSo, Tracks}
use Rattle.line_tracks.proofs.tracks.AddLemmas.{call_adds}
use Rattle.line_tracks.proofs.tracks.QuietLemmas.{quiet_turns_make_none, two_events}
use Rattle.line_tracks.proofs.tracks.StepLemmas.{plain_on}
use Rattle.line_tracks.specs.tracks.Lines.{IsLeft, MayGoOn}
use Rattle.line_tracks.proofs.tracks.SharedLemmas.{goes_on as any_goes_on, memory_tells, stays_same}

module _ {D : Type 0} {G : Ghosts D} (state : D → DiskState) (m : Members D G) (tells : Bool) (past : List Record) (start : Option MetaState) (first now : Depot D) (turns : List Turn) (calls : List ℕ) (go : MayGoOn state tells past start first now turns calls m) where
  abbrev pub so : StandsSo state tells past start now turns m
  so = go.tracks.after

  abbrev pub events : List Event
  events = m.net.replicas.events

  -- the turns are tracked with this line
  abbrev pub IsTracked : Act → Answer → Members D G → Type 0
  IsTracked a b g = Tracks state tells past start first now (turns ++ line_of a b ∷ []) (Some g) (numbers_by a b calls)

  -- a node is stopped as its flag says
  pub flag_tells : (name : List ℕ) (halted : Bool) → IsNode m name halted → is_stopped (inner_turns turns) name ≡ halted
  flag_tells name halted n = stopped_so start turns m so.stands name halted n

  -- a line that is told and served, and after which the cluster stands
  goes_on : (a : Act) (b : Answer) (g : Members D G) → IsLeft tells g → AddsLine PlainLine tells past start [] [] go.tracks.delivered turns events a b g.net.replicas.events → StandsOn state tells start turns m a b g → IsTracked a b g
  goes_on a b g left adds on = any_goes_on state m tells past start first now turns calls a b PlainLine (plain_on state (Some m)) g [] go.tracks adds left.legal on

  -- ---- nothing changed

  unchanged_on : (a : Act) (b : Answer) (g : Members D G) → g ≡ m → LeavesNothing start turns events a b → IsTracked a b g
  unchanged_on a b g same h = stays_same state m tells past start first now turns calls a b g same go.tracks h

  -- the refusal that is due was answered
  pub refused_on : (a : Act) (b : Answer) (g : Members D G) → g ≡ m → IsDueNext start turns a b (Some b) → IsTracked a b g
  refused_on a b g same due = unchanged_on a b g same (refused_tells start turns events a b due)

  -- the list had no room for so many events
  pub full_on : (a : Act) (g : Members D G) → g ≡ m → (n : ℕ) → n + 2 ≤ MOST_REQUEST_EVENTS → ¬ HasRoom n events → IsTracked a answer.Full g
  full_on a g same n few none = unchanged_on a answer.Full g same (no_room_tells start turns events a n few none)

  -- nor as many for each slot of a node
  pub lacking_on : (a : Act) (g : Members D G) (each node : ℕ) → each * length (slots_of_node node m.slots.items) + 2 ≤ MOST_REQUEST_EVENTS → LacksRoom each node m g → IsTracked a answer.Full g
  lacking_on a g each node few h = full_on a g h.same (each * length (slots_of_node node m.slots.items)) few h.room

  -- memory was wanted before anything was done
  pub wanted_on : (a : Act) (g : Members D G) → g ≡ m → IsTracked a answer.Memory g
  wanted_on a g same = unchanged_on a answer.Memory g same (memory_tells start turns events a)

  -- ---- replicas took steps

  module _ (lawful : (d : D) → IsLawfulDisk (state d)) where
    pub may_begin : MayOpenSlots state tells start m.net.replicas
    may_begin = record { disks = lawful; tell = go.tracks.tell; members = go.members; low = so.low }

    -- a node was stopped or restarted, or stayed stopped
    pub halted_on : (a : Act) (b : Answer) (g : Members D G) (more : List Event) → IsLeft tells g → IsNotRefused start turns a b → LeavesStanding start turns m a b g → printed b ≡ None → (OpensReplicas a → ⊥) → g.slots.items ≡ m.slots.items → g.past.items ≡ m.past.items → g.net.state.place ≡ m.net.state.place → Ran state m.net.replicas more g.net.replicas → IsTracked a b g
    halted_on a b g more left free h prints opens slots kept place ran =
        let told = h.line.more in
        let same : told ≡ more = append_cancel_left events told more (sym h.line.grew ∙ ran.grew) in
        let none = quiet_turns_make_none start turns events a b told (two_events state so.lay now m.net.replicas so.run) h.line.line.makes prints opens in
        goes_on a b g left (call_adds PlainLine m.net tells past start turns [] go.tracks.delivered a b g.net go.tracks.were free h.line) (record {
          more = more;
          ran = ran;
          others = ran.only;
          slots = slots;
          past = kept;
          place = place;
          stands = h.stands;
          low = (begins_still state m tells start g.net.replicas more so.stands.ready may_begin ran (subst HaveNoPlace same none.0) (subst (BeginsGiven events) same none.1)).low;
        })
