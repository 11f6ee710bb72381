-- Lines of calls of a cluster that stands: what came to the list tells of each, and the cluster stands after it.
use Rattle.std.proofs.Common.{◌≡◌, ◌<◌, ℕ, List, [], ◌∷◌, ◌++◌, min, refl, sym, ap, subst, arith, inl, inr, Bool, ◌∙◌}
use Rattle.std.specs.Prelude.{Option, Some, None, decimal}
use Rattle.m3_model.specs.declared.act.Act.{Act}
use Rattle.m3_model.specs.declared.answer.Answer.{Answer}
use Rattle.m3_model.specs.declared.answer.Answer.TheVariants as answer
use Rattle.m3_model.specs.declared.turn.Turn.{Turn}
use Rattle.m3_model.specs.declared.rules.MetaState.{MetaState}
use Rattle.m3_outside.specs.Depots.{Depot}
use Rattle.m3_outside.specs.DiskState.{DiskState, IsLawfulDisk}
use Rattle.m3_outside.specs.declared.disk.Disk.{Ghosts}
use Rattle.cluster_core.specs.declared.event.Event.{Event}
use Rattle.node_calls.specs.session_net.Runs.{Ran}
use Rattle.node_calls.specs.session_net.Calls.{Tracked}
use Rattle.node_calls.proofs.session_net_proofs.RunLemmas.{ran_nothing}
use Rattle.told_runs.specs.told_by.Lines.{MakesAndHears, PlainLine}
use Rattle.told_runs.specs.told_by.Makes.{OpensReplicas}
use Rattle.transcripts.specs.Record.{Record, line_of}
use Rattle.line_tracks.specs.calls.Laws.{IsNotRefused, Kind, LeavesLine, LeavesServed}
use Rattle.line_tracks.specs.calls.Left.{NetIsLeftBy, IsNextCall}
use Rattle.line_tracks.proofs.calls.KeepLemmas.{left_as_before}
use Rattle.node_calls.specs.cluster_members.Calls.{IsMissing, KeepsCluster}
use Rattle.node_calls.specs.cluster_members.Kept.{IsNumberOf, IsUnkept, KeepsNone}
use Rattle.node_calls.specs.cluster_members.declared.members.Members.{Members}
use Rattle.line_tracks.specs.acts.Due.{CallDue, IsDueNext, SpaceDue}
use Rattle.line_tracks.specs.acts.Settings.{LeavesNothing}
use Rattle.line_tracks.specs.acts.Quiet.{DeliversNone, SetsNone}
use Rattle.line_tracks.proofs.acts.DueLemmas.{calls_are_due}
use Rattle.line_tracks.proofs.acts.KnownLemmas.{known_kept}
use Rattle.line_tracks.proofs.acts.NothingLemmas.{refused_tells}
use Rattle.line_tracks.proofs.acts.QuietLemmas.{delivers_nothing_so, keeps_stops_so, sets_nothing_so}
use Rattle.line_tracks.specs.tracks.Numbers.{last_number, numbers_by}
use Rattle.line_tracks.specs.tracks.Steps.{AddsLine, TracksOn}
use Rattle.line_tracks.specs.tracks.Tracks.{StandsSo, Tracks}
use Rattle.line_tracks.proofs.tracks.AddLemmas.{call_adds, served_adds}
use Rattle.line_tracks.proofs.tracks.StepLemmas.{plain_on}
use Rattle.line_tracks.specs.tracks.Acts.{next_call}
use Rattle.line_tracks.specs.tracks.Lines.{IsLeft, MayGoOn}
use Rattle.line_tracks.proofs.tracks.SharedLemmas.{goes_quietly, have_left, memory_tells, stays_same}

-- a numbering that didn't reach its last number has counted all
counted_all : (n k top : ℕ) → n ≡ min k top → n < top → n ≡ k
counted_all n k top e low = omega (arith, e, low)

module _ {D : Type 0} {G : Ghosts D} (state : D → DiskState) (m : Members D G) (tells : Bool) (past : List Record) (start : Option MetaState) (first now : Depot D) (turns : List Turn) (calls : List ℕ) (on : MayGoOn state tells past start first now turns calls m) where
  stood : StandsSo state tells past start now turns m
  stood = on.tracks.after

  pub left_so : NetIsLeftBy start turns m.net
  left_so = stood.stands.left

  -- which refusals are due of calls
  pub left_due : CallDue start turns m.net.state.rules
  left_due = calls_are_due start turns m.net.state.place m.net.state.rules (have_left start turns m stood.stands)

  -- a call that has a number of its own has the next one
  pub next_is : (next_call calls).number < last_number → IsNextCall turns (next_call calls)
  next_is low = (refl, counted_all (next_call calls).number _ last_number on.tracks.numbered.next low)

  module _ (lawful : (d : D) → IsLawfulDisk (state d)) (a : Act) (b : Answer) (g : Members D G) (is_left : IsLeft tells g) (sets : SetsNone b) (calm : OpensReplicas a → ⊥) (keeps : KeepsCluster m g) where
    -- by lines of such a kind the turn makes what it may
    abbrev pub IsMaking : Kind → Type 0
    IsMaking Line = (more : List Event) → Line start turns m.net.replicas.events a b more → MakesAndHears start turns m.net.replicas.events a b more

    -- what came to the list tells of the line; and steps came, by which the cluster is what the turns left
    goes_on : (Line : Kind) → TracksOn Line state (Some m) → IsMaking Line → AddsLine Line tells past start [] [] on.tracks.delivered turns m.net.replicas.events a b g.net.replicas.events
        → (more : List Event) → Ran state m.net.replicas more g.net.replicas → NetIsLeftBy start (turns ++ line_of a b ∷ []) g.net
        → Tracks state tells past start first now (turns ++ line_of a b ∷ []) (Some g) (numbers_by a b calls)
    goes_on Line tracks_on makes adds more ran left =
        goes_quietly state m tells past start first now turns calls a b Line tracks_on lawful g [] on adds is_left.legal (record {
          told = adds.more;
          grew = adds.grew;
          makes = makes adds.more adds.line;
          prints = (sets_nothing_so a b sets).place;
          opens = calm;
          halts = keeps_stops_so a b sets;
          more = more;
          ran = ran;
          others = ran.only;
          left = left;
          ready = is_left.ready;
          place = ap (λ s. s.place) keeps.state;
          slots = keeps.slots;
          past = keeps.past;
          stopped = keeps.stopped;
          known = known_kept turns a b m.net.state.place g.net.state.place m.net.fates g.net.fates (ap (λ s. s.place) keeps.state) keeps.fates (sets_nothing_so a b sets).fates (keeps_stops_so a b sets) on.tracks.after.stands.known;
        })

    -- so where no refusal was due
    pub told_on : (Line : Kind) → TracksOn Line state (Some m) → IsMaking Line → LeavesLine Line start turns [] m.net a b g.net → IsNotRefused start turns a b
        → (more : List Event) → Ran state m.net.replicas more g.net.replicas → NetIsLeftBy start (turns ++ line_of a b ∷ []) g.net
        → Tracks state tells past start first now (turns ++ line_of a b ∷ []) (Some g) (numbers_by a b calls)
    told_on Line tracks_on makes line free more ran left = goes_on Line tracks_on makes (call_adds Line m.net tells past start turns [] on.tracks.delivered a b g.net on.tracks.were free line) more ran left

    -- whatever refusal was due
    pub served_on : (Line : Kind) → TracksOn Line state (Some m) → IsMaking Line → LeavesServed Line start turns [] m.net.replicas.events a b g.net.replicas.events
        → (more : List Event) → Ran state m.net.replicas more g.net.replicas → NetIsLeftBy start (turns ++ line_of a b ∷ []) g.net
        → Tracks state tells past start first now (turns ++ line_of a b ∷ []) (Some g) (numbers_by a b calls)
    served_on Line tracks_on makes line more ran left = goes_on Line tracks_on makes (served_adds Line tells past start turns [] on.tracks.delivered m.net.replicas.events a b g.net.replicas.events on.tracks.were line) more ran left

    -- where the late messages stay, and none was delivered, the fields are what the turns left
    pub same_bag : DeliversNone b → g.net.bag ≡ m.net.bag → NetIsLeftBy start (turns ++ line_of a b ∷ []) g.net
    same_bag delivers same = left_as_before m.net start turns g.net a b left_so (record { state = keeps.state; fates = keeps.fates }) (sets_nothing_so a b sets) (delivers_nothing_so a b delivers) same

    -- and where nothing changed
    pub stays_on : g.net.replicas ≡ m.net.replicas → g.net.bag ≡ m.net.bag → LeavesNothing start turns m.net.replicas.events a b → Tracks state tells past start first now (turns ++ line_of a b ∷ []) (Some g) (numbers_by a b calls)
    stays_on same bag nothing =
        let line : LeavesServed PlainLine start turns [] m.net.replicas.events a b g.net.replicas.events =
        subst (λ (t : Tracked D). LeavesServed PlainLine start turns [] m.net.replicas.events a b t.events) (sym same) nothing.line in
        served_on PlainLine (plain_on state (Some m)) (λ more plain. plain.makes) line [] (subst (λ (t : Tracked D). Ran state m.net.replicas [] t) (sym same) (ran_nothing state m.net.replicas)) (same_bag nothing.delivers_none bag)

  module _ (a : Act) (b : Answer) (g : Members D G) (same : g ≡ m) where
    -- a call for which there is no number
    pub wanted_on : b ≡ answer.Memory → Tracks state tells past start first now (turns ++ line_of a b ∷ []) (Some g) (numbers_by a b calls)
    wanted_on is = stays_same state m tells past start first now turns calls a b g same on.tracks (subst (λ (x : Answer). LeavesNothing start turns m.net.replicas.events a x) (sym is) (memory_tells start turns m.net.replicas.events a))

    -- one that names what isn't there
    refused_on : (c : Answer) → b ≡ c → IsDueNext start turns a b (Some c) → Tracks state tells past start first now (turns ++ line_of a b ∷ []) (Some g) (numbers_by a b calls)
    refused_on c is due = stays_same state m tells past start first now turns calls a b g same on.tracks (refused_tells start turns m.net.replicas.events a b (subst (λ (x : Answer). IsDueNext start turns a b (Some x)) (sym is) due))

  -- what a call names is missing
  pub missing_on : (a : Act) (b : Answer) (g : Members D G) (ns : List ℕ) (version : Option ℕ) → SpaceDue start turns m.net.state.rules ns version a b → IsMissing m ns version b g → Tracks state tells past start first now (turns ++ line_of a b ∷ []) (Some g) (numbers_by a b calls)
  missing_on a b g ns version due (inl none) = refused_on a b g none.2 (answer.Unknown ns) none.1 (due.unknown none.0)
  missing_on a b g ns version due (inr h) = by_version version refl h.unkept
    where
      by_answer : (v : ℕ) → version ≡ Some v → KeepsNone m.net.state.place m.past.items (Some v) → (c : Answer) → b ≡ c → IsNumberOf v c → Tracks state tells past start first now (turns ++ line_of a b ∷ []) (Some g) (numbers_by a b calls)
      by_answer v gives none (answer.Unknown name) is number =
          refused_on a b g h.same (answer.Unknown (decimal v)) (is ∙ ap (λ (x : List ℕ). answer.Unknown x) number)
          (due.unkept h.position v h.found gives (λ p m. none p ((stood.stands.kept.are p).0 m)))
      by_answer v gives none answer.Memory is number = wanted_on a b g h.same is
      by_answer v gives none _ is number = absurd number

      by_version : (v : Option ℕ) → version ≡ v → IsUnkept m.net.state.place m.past.items v b → Tracks state tells past start first now (turns ++ line_of a b ∷ []) (Some g) (numbers_by a b calls)
      by_version None gives unkept = absurd unkept
      by_version (Some v) gives unkept = by_answer v gives unkept.0 b refl unkept.1
