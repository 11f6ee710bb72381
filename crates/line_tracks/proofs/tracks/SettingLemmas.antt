-- Lines that set the rules or the fates, or that are refused.
use Rattle.std.proofs.Common.{ℕ, List, [], ◌∷◌, ◌++◌, refl, sym, ap, subst, arith, Bool}
use Rattle.std.specs.Prelude.{Option, Some}
use Rattle.m3_model.specs.declared.act.Act.{Act}
use Rattle.m3_model.specs.declared.act.Act.TheVariants as act
use Rattle.m3_model.specs.declared.answer.Answer.TheVariants as answer
use Rattle.m3_model.specs.declared.rules.MetaState.{MetaState}
use Rattle.m3_model.specs.declared.rules.Rules.{Rules}
use Rattle.m3_model.specs.declared.turn.Turn.{Turn}
use Rattle.m3_outside.specs.Depots.{Depot}
use Rattle.m3_outside.specs.DiskState.{DiskState, IsLawfulDisk}
use Rattle.m3_outside.specs.declared.disk.Disk.{Ghosts}
use Rattle.node_calls.specs.session_net.Runs.{Ran}
use Rattle.node_calls.proofs.session_net_proofs.RunLemmas.{ran_nothing}
use Rattle.told_runs.specs.told_by.Lines.{ClockLine, PlainLine}
use Rattle.told_runs.specs.told_by.Makes.{OpensReplicas}
use Rattle.transcripts.specs.Record.{Record, line_of}
use Rattle.node_calls.specs.cluster_members.Steps.{SetsRules, clock_events}
use Rattle.node_calls.specs.cluster_members.declared.members.Members.{Members}
use Rattle.node_calls.specs.Nodes.{KeepsButFates}
use Rattle.line_tracks.specs.acts.Due.{IsDueNext, MomentDue, NamespaceDue}
use Rattle.line_tracks.specs.acts.Settings.{GoesOn}
use Rattle.line_tracks.specs.acts.Quiet.{KeepsStops}
use Rattle.line_tracks.proofs.acts.DueLemmas.{fates_are_due, moments_are_due, namespaces_are_due}
use Rattle.line_tracks.proofs.acts.NothingLemmas.{no_room_tells, refused_tells}
use Rattle.line_tracks.proofs.acts.SettingLemmas.{fates_tell, moved_tells, named_tells}
use Rattle.line_tracks.specs.tracks.Numbers.{numbers_by}
use Rattle.line_tracks.specs.tracks.Tracks.{Tracks}
use Rattle.line_tracks.proofs.tracks.AddLemmas.{served_adds}
use Rattle.line_tracks.proofs.tracks.StepLemmas.{clock_on, plain_on}
use Rattle.line_tracks.specs.tracks.Lines.{FatesAreTracked, IsLeft, MayGoOn, MomentsAreTracked, NamespacesAreTracked}
use Rattle.line_tracks.proofs.tracks.SharedLemmas.{goes_quietly, have_left, memory_tells, stays_same}

module _ {D : Type 0} {G : Ghosts D} (state : D → DiskState) (lawful : (d : D) → IsLawfulDisk (state d)) (m : Members D G) where
  -- ---- the rules

  -- a Clock came, and all but the rules stays
  ruled : (tells : Bool) (past : List Record) (start : Option MetaState) (first now : Depot D) (turns : List Turn) (calls : List ℕ) (a : Act) (rules : Rules) (g : Members D G) → MayGoOn state tells past start first now turns calls m → IsLeft tells g → GoesOn ClockLine start turns m a answer.Done g → SetsRules state rules m g
      → (OpensReplicas a → ⊥) → KeepsStops a answer.Done → Tracks state tells past start first now (turns ++ line_of a answer.Done ∷ []) (Some g) (numbers_by a answer.Done calls)
  ruled tells past start first now turns calls a rules g on left goes set opens halts =
      goes_quietly state m tells past start first now turns calls a answer.Done ClockLine (clock_on state (Some m)) lawful g [] on
      (served_adds ClockLine tells past start turns [] on.tracks.delivered m.net.replicas.events a answer.Done g.net.replicas.events on.tracks.were goes.line) left.legal (record {
        told = goes.line.more;
        grew = goes.line.grew;
        makes = goes.line.line.makes;
        prints = refl;
        opens = opens;
        halts = halts;
        more = clock_events rules;
        ran = set.ran;
        others = set.ran.only;
        left = goes.stands.left;
        ready = left.ready;
        place = ap (λ (s : MetaState). s.place) set.state_is;
        slots = set.slots;
        past = set.past;
        stopped = set.stopped;
        known = goes.stands.known;
      })

  pub namespaces_are_tracked : NamespacesAreTracked state m
  namespaces_are_tracked name block back future retention tells past start first now turns calls answer.Done g on left done =
      let a : Act = act.Namespace name block back future retention in
      let stands = on.tracks.after.stands in
      ruled tells past start first now turns calls a _ g on left (named_tells state m start turns name block back future retention g stands done) done.1 (λ h. h) (λ own x. refl)
  namespaces_are_tracked name block back future retention tells past start first now turns calls answer.Order g on left done =
      let a : Act = act.Namespace name block back future retention in
      let due : NamespaceDue start turns m.net.state.rules name block back future retention answer.Order = namespaces_are_due start turns m.net.state.place m.net.state.rules (have_left start turns m on.tracks.after.stands) name block back future retention answer.Order in
      stays_same state m tells past start first now turns calls a answer.Order g done.1 on.tracks (refused_tells start turns m.net.replicas.events a answer.Order (due.taken done.0))
  namespaces_are_tracked name block back future retention tells past start first now turns calls (answer.Limit limit) g on left done =
      let a : Act = act.Namespace name block back future retention in
      let due : NamespaceDue start turns m.net.state.rules name block back future retention (answer.Limit limit) = namespaces_are_due start turns m.net.state.place m.net.state.rules (have_left start turns m on.tracks.after.stands) name block back future retention (answer.Limit limit) in
      stays_same state m tells past start first now turns calls a (answer.Limit limit) g done.3 on.tracks
      (refused_tells start turns m.net.replicas.events a (answer.Limit limit) (subst (λ k. IsDueNext start turns a (answer.Limit limit) (Some (answer.Limit k))) (sym done.2) (due.limit done.0 done.1)))
  namespaces_are_tracked name block back future retention tells past start first now turns calls answer.Memory g on left done =
      let a : Act = act.Namespace name block back future retention in
      stays_same state m tells past start first now turns calls a answer.Memory g done.1 on.tracks (memory_tells start turns m.net.replicas.events a)
  namespaces_are_tracked name block back future retention tells past start first now turns calls answer.Full g on left done =
      let a : Act = act.Namespace name block back future retention in
      stays_same state m tells past start first now turns calls a answer.Full g done.1.0 on.tracks (no_room_tells start turns m.net.replicas.events a 2 (omega arith) done.1.1)
  namespaces_are_tracked name block back future retention tells past start first now turns calls _ g on left done = absurd done

  pub moments_are_tracked : MomentsAreTracked state m
  moments_are_tracked moment tells past start first now turns calls answer.Done g on left done =
      let stands = on.tracks.after.stands in
      ruled tells past start first now turns calls (act.Now moment) _ g on left (moved_tells state m start turns moment g stands done) done.1 (λ h. h) (λ own x. refl)
  moments_are_tracked moment tells past start first now turns calls (answer.Clock stood) g on left done =
      let due : MomentDue start turns m.net.state.rules moment (answer.Clock stood) = moments_are_due start turns m.net.state.place m.net.state.rules (have_left start turns m on.tracks.after.stands) moment (answer.Clock stood) in
      stays_same state m tells past start first now turns calls (act.Now moment) (answer.Clock stood) g done.2 on.tracks
      (refused_tells start turns m.net.replicas.events (act.Now moment) (answer.Clock stood) (subst (λ k. IsDueNext start turns (act.Now moment) (answer.Clock stood) (Some (answer.Clock k))) (sym done.1) (due.falls done.0)))
  moments_are_tracked moment tells past start first now turns calls answer.Memory g on left done =
      stays_same state m tells past start first now turns calls (act.Now moment) answer.Memory g done.1 on.tracks (memory_tells start turns m.net.replicas.events (act.Now moment))
  moments_are_tracked moment tells past start first now turns calls answer.Full g on left done =
      stays_same state m tells past start first now turns calls (act.Now moment) answer.Full g done.1.0 on.tracks (no_room_tells start turns m.net.replicas.events (act.Now moment) 2 (omega arith) done.1.1)
  moments_are_tracked moment tells past start first now turns calls _ g on left done = absurd done

  -- ---- the fates

  pub fates_are_tracked : FatesAreTracked state m
  fates_are_tracked list tells past start first now turns calls answer.Done g on left done =
      let a : Act = act.Fates list in
      let keeps : KeepsButFates m g = done.3 in
      let stands = on.tracks.after.stands in
      let goes : GoesOn PlainLine start turns m a answer.Done g = fates_tell m start turns list g stands (record {
        items = done.0;
        numbered = done.1;
        fates = done.2;
        state = keeps.state;
        replicas = keeps.replicas;
        bag = keeps.bag;
        slots = keeps.slots;
        past = keeps.past;
        stopped = keeps.stopped;
      }) in
      goes_quietly state m tells past start first now turns calls a answer.Done PlainLine (plain_on state (Some m)) lawful g [] on
      (served_adds PlainLine tells past start turns [] on.tracks.delivered m.net.replicas.events a answer.Done g.net.replicas.events on.tracks.were goes.line) left.legal (record {
        told = goes.line.more;
        grew = goes.line.grew;
        makes = goes.line.line.makes;
        prints = refl;
        opens = λ h. h;
        halts = λ own x. refl;
        more = [];
        ran = subst (λ t. Ran state m.net.replicas [] t) (sym keeps.replicas) (ran_nothing state m.net.replicas);
        others = λ s none. refl;
        left = goes.stands.left;
        ready = left.ready;
        place = ap (λ (s : MetaState). s.place) keeps.state;
        slots = keeps.slots;
        past = keeps.past;
        stopped = keeps.stopped;
        known = goes.stands.known;
      })
  fates_are_tracked list tells past start first now turns calls (answer.Unknown name) g on left done =
      let a : Act = act.Fates list in
      let due = fates_are_due start turns m.net.state.place m.net.state.rules (have_left start turns m on.tracks.after.stands) list (answer.Unknown name) in
      stays_same state m tells past start first now turns calls a (answer.Unknown name) g done.1 on.tracks (refused_tells start turns m.net.replicas.events a (answer.Unknown name) (due.unknown name done.0))
  fates_are_tracked list tells past start first now turns calls answer.Memory g on left done =
      stays_same state m tells past start first now turns calls (act.Fates list) answer.Memory g done on.tracks (memory_tells start turns m.net.replicas.events (act.Fates list))
  fates_are_tracked list tells past start first now turns calls _ g on left done = absurd done
