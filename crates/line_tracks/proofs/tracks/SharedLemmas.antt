-- What lines of several kinds share: from what each leaves to the turns tracked with it.
use Rattle.std.proofs.Common.{◌≡◌, ℕ, List, [], ◌∷◌, ◌++◌, refl, sym, subst, arith, Bool}
use Rattle.std.proofs.lemmas.List.{append-nil}
use Rattle.std.specs.Prelude.{Option, Some}
use Rattle.m3_model.specs.declared.act.Act.{Act}
use Rattle.m3_model.specs.declared.answer.Answer.{Answer}
use Rattle.m3_model.specs.declared.answer.Answer.TheVariants as answer
use Rattle.m3_model.specs.declared.turn.Turn.{Turn}
use Rattle.m3_model.specs.declared.rules.MetaState.{MetaState}
use Rattle.m3_outside.specs.Depots.{Depot}
use Rattle.m3_outside.specs.DiskState.{DiskState, IsLawfulDisk}
use Rattle.m3_outside.specs.declared.disk.Disk.{Ghosts}
use Rattle.cluster_core.specs.Legal.{Legal}
use Rattle.cluster_core.specs.declared.event.Event.{Event}
use Rattle.node_calls.proofs.session_net_proofs.RunLemmas.{ran_nothing}
use Rattle.told_runs.specs.told_by.Lines.{PlainLine}
use Rattle.transcripts.specs.Deliveries.{LateMessage}
use Rattle.transcripts.specs.Record.{Record, line_of}
use Rattle.line_tracks.specs.calls.Laws.{Kind}
use Rattle.line_tracks.proofs.calls.DeliverLemmas.{nothing_serves, nothing_tells}
use Rattle.line_tracks.proofs.calls.ServeLemmas.{delivered_so}
use Rattle.node_calls.specs.cluster_members.declared.members.Members.{Members}
use Rattle.line_tracks.specs.acts.Due.{HaveLeft}
use Rattle.line_tracks.specs.acts.Settings.{LeavesNothing}
use Rattle.line_tracks.specs.acts.Stands.{ClusterStands}
use Rattle.line_tracks.proofs.acts.StandLemmas.{stands_unchanged}
use Rattle.line_tracks.specs.tracks.Numbers.{numbers_by}
use Rattle.line_tracks.specs.tracks.Quiet.{GoesQuietly}
use Rattle.line_tracks.specs.tracks.Steps.{AddsLine, StandsOn, TracksOn}
use Rattle.line_tracks.specs.tracks.Tracks.{StandsSo, Tracks}
use Rattle.line_tracks.proofs.tracks.AddLemmas.{served_adds}
use Rattle.line_tracks.proofs.tracks.FailureLemmas.{rose_none}
use Rattle.line_tracks.proofs.tracks.QuietLemmas.{quiet_lines_stand_on}
use Rattle.line_tracks.proofs.tracks.StepLemmas.{plain_on, stands_after_line}
use Rattle.line_tracks.specs.tracks.Lines.{MayGoOn}

-- ---- the placement and the rules that the turns left of a cluster that stands

pub have_left : {D : Type 0} {G : Ghosts D} (start : Option MetaState) (turns : List Turn) (m : Members D G) → ClusterStands start turns m → HaveLeft start turns (Some m.net.state.place) m.net.state.rules
have_left start turns m h = record { rules_are = h.left.rules; place_is = h.left.place }

-- ---- memory

-- nothing came to the list of a line that wanted memory
pub memory_tells : (start : Option MetaState) (turns : List Turn) (events : List Event) (a : Act) → LeavesNothing start turns events a answer.Memory
memory_tells start turns events a = record {
  line = record {
    more = [];
    grew = sym (append-nil events);
    line = nothing_tells start turns events a answer.Memory tt;
    serves = λ tells was past were. nothing_serves tells was past start turns events a were;
    delivered = delivered_so turns a answer.Memory [] (λ m i. absurd i);
  };
  sets_none = tt;
  delivers_none = tt;
}

-- ---- one more line of a cluster that stands

module _ {D : Type 0} {G : Ghosts D} (state : D → DiskState) (m : Members D G) (tells : Bool) (past : List Record) (start : Option MetaState) (first now : Depot D) (turns : List Turn) (calls : List ℕ) (a : Act) (b : Answer) where
  -- the disks that the cluster doesn't have are as before
  pub goes_on : (Line : Kind) → TracksOn Line state (Some m) → (g : Members D G) (messages : List LateMessage) (t : Tracks state tells past start first now turns (Some m) calls) → AddsLine Line tells past start [] messages t.delivered turns m.net.replicas.events a b g.net.replicas.events
      → Legal tells g.net.replicas.events → StandsOn state tells start turns m a b g → Tracks state tells past start first now (turns ++ line_of a b ∷ []) (Some g) (numbers_by a b calls)
  goes_on Line on g messages t adds legal stands = on tells past start first now now turns calls a b (Some g) t (record {
    untaken = [];
    messages = messages;
    adds = adds;
    legal = legal;
    rose = rose_none now.faults now.faults (omega arith);
    later = λ disk_slot. omega arith;
    after = stands_after_line state m tells past start now turns a b g t.after stands;
  })

  -- nothing came to the list, and the cluster is as it was
  pub stays : Tracks state tells past start first now turns (Some m) calls → LeavesNothing start turns m.net.replicas.events a b → Tracks state tells past start first now (turns ++ line_of a b ∷ []) (Some m) (numbers_by a b calls)
  stays t h =
      let before : StandsSo state tells past start now turns m = t.after in
      goes_on PlainLine (plain_on state (Some m)) m [] t (served_adds PlainLine tells past start turns [] t.delivered m.net.replicas.events a b m.net.replicas.events t.were h.line) t.legal (record {
        more = [];
        ran = ran_nothing state m.net.replicas;
        others = λ s none. refl;
        slots = refl;
        past = refl;
        place = refl;
        stands = stands_unchanged m start turns a b before.stands h.sets_none h.delivers_none;
        low = before.low;
      })

  -- the same of what is left, which is the cluster as it was
  pub stays_same : (g : Members D G) → g ≡ m → Tracks state tells past start first now turns (Some m) calls → LeavesNothing start turns m.net.replicas.events a b → Tracks state tells past start first now (turns ++ line_of a b ∷ []) (Some g) (numbers_by a b calls)
  stays_same g same t h = subst (λ (x : Members D G). Tracks state tells past start first now (turns ++ line_of a b ∷ []) (Some x) (numbers_by a b calls)) (sym same) (stays t h)

  -- no placement was printed and no replica begun, and neither was a node stopped or restarted
  pub goes_quietly : (Line : Kind) → TracksOn Line state (Some m) → ((d : D) → IsLawfulDisk (state d)) → (g : Members D G) (messages : List LateMessage) (on : MayGoOn state tells past start first now turns calls m)
      → AddsLine Line tells past start [] messages on.tracks.delivered turns m.net.replicas.events a b g.net.replicas.events → Legal tells g.net.replicas.events → GoesQuietly state start turns m a b g → Tracks state tells past start first now (turns ++ line_of a b ∷ []) (Some g) (numbers_by a b calls)
  goes_quietly Line line_on lawful g messages on adds legal quiet = goes_on Line line_on g messages on.tracks adds legal (quiet_lines_stand_on state lawful m tells past start now turns a b g on.tracks.tell on.members on.tracks.after quiet)
