-- Lines that deliver late messages.
use Rattle.std.proofs.Common.{◌≡◌, ℕ, List, [], ◌∷◌, ◌++◌, refl, sym, ap, subst, ◌∙◌, inl, inr, Bool}
use Rattle.std.specs.Prelude.{Option, ◌⊎◌, Some}
use Rattle.m3_model.specs.declared.act.Act.TheVariants as act
use Rattle.m3_model.specs.declared.answer.Answer.{Answer}
use Rattle.m3_model.specs.declared.answer.Answer.TheVariants as answer
use Rattle.m3_model.specs.declared.rules.MetaState.{MetaState}
use Rattle.m3_model.specs.declared.turn.Turn.{Turn}
use Rattle.m3_outside.specs.Depots.{Depot}
use Rattle.m3_outside.specs.DiskState.{DiskState, IsLawfulDisk}
use Rattle.m3_outside.specs.declared.disk.Disk.{Ghosts}
use Rattle.node_calls.specs.replica_calls.Calls.{Tracked}
use Rattle.node_calls.specs.session_net.Runs.{Ran}
use Rattle.node_calls.specs.session_net.declared.net.Net.{Net}
use Rattle.node_calls.proofs.session_net_proofs.RunLemmas.{ran_nothing}
use Rattle.told_runs.specs.told_by.Lines.{PlainLine}
use Rattle.transcripts.specs.Record.{Record, line_of}
use Rattle.line_tracks.specs.calls.Left.{NetIsLeftBy}
use Rattle.line_tracks.proofs.calls.DeliverLemmas.{delivered_tells}
use Rattle.line_tracks.proofs.calls.KeepLemmas.{left_as_before, left_by_delivery}
use Rattle.node_calls.specs.cluster_members.declared.members.Members.{Members}
use Rattle.node_calls.specs.Nodes.{IsDeliverAnswer, KeepsButReplicas}
use Rattle.line_tracks.specs.acts.Settings.{LeavesNothing}
use Rattle.line_tracks.proofs.acts.DueLemmas.{deliveries_are_due}
use Rattle.line_tracks.proofs.acts.KnownLemmas.{known_kept}
use Rattle.line_tracks.proofs.acts.NothingLemmas.{full_delivery_tells}
use Rattle.line_tracks.proofs.acts.QuietLemmas.{delivers_nothing_so, keeps_stops_so, sets_nothing_so}
use Rattle.line_tracks.specs.tracks.Steps.{AddsLine}
use Rattle.line_tracks.specs.tracks.Tracks.{Tracks}
use Rattle.line_tracks.proofs.tracks.AddLemmas.{call_adds, served_adds}
use Rattle.line_tracks.proofs.tracks.StepLemmas.{plain_on}
use Rattle.line_tracks.specs.tracks.Lines.{DeliveriesAreTracked, IsLeft, MayGoOn}
use Rattle.line_tracks.proofs.tracks.SharedLemmas.{goes_quietly, have_left, memory_tells}

module _ {D : Type 0} {G : Ghosts D} (state : D → DiskState) (lawful : (d : D) → IsLawfulDisk (state d)) (m : Members D G) (tells : Bool) (past : List Record) (start : Option MetaState) (first now : Depot D) (turns : List Turn) (calls : List ℕ) (g : Members D G) (on : MayGoOn state tells past start first now turns calls m) (left : IsLeft tells g) where
  -- the late messages were delivered
  delivered : (outcomes : List _) → IsDeliverAnswer state m (answer.Outcomes outcomes) g → Tracks state tells past start first now (turns ++ line_of act.Deliver (answer.Outcomes outcomes) ∷ []) (Some g) calls
  delivered outcomes done =
      let b : Answer = answer.Outcomes outcomes in
      let stands = on.tracks.after.stands in
      let line = delivered_tells state m.net tells start turns g.net outcomes stands.left stands.ready left.legal done.0 in
      let free = deliveries_are_due start turns m.net.state.place m.net.state.rules (have_left start turns m stands) b in
      goes_quietly state m tells past start first now turns calls act.Deliver b PlainLine (plain_on state (Some m)) lawful g (stands.left.late).messages on
      (call_adds PlainLine m.net tells past start turns (stands.left.late).messages on.tracks.delivered act.Deliver b g.net on.tracks.were free line) left.legal (record {
        told = line.more;
        grew = line.grew;
        makes = line.line.makes;
        prints = refl;
        opens = λ h. h;
        halts = λ own x. refl;
        more = done.0.puts;
        ran = done.0.ran;
        others = done.0.ran.only;
        left = left_by_delivery m.net start turns g.net act.Deliver b stands.left (record { state = done.1.state; fates = done.1.fates }) (sets_nothing_so act.Deliver b tt) done.0.emptied;
        ready = left.ready;
        place = ap (λ (s : MetaState). s.place) done.1.state;
        slots = done.1.slots;
        past = done.1.past;
        stopped = done.1.stopped;
        known = known_kept turns act.Deliver b m.net.state.place g.net.state.place m.net.fates g.net.fates (ap (λ (s : MetaState). s.place) done.1.state) done.1.fates refl (λ own x. refl) stands.known;
      })

  -- nothing came to the list, and the late messages are as before or lost
  given_up : (b : Answer) → LeavesNothing start turns m.net.replicas.events act.Deliver b → g.net.replicas ≡ m.net.replicas → (g.net.bag ≡ m.net.bag) ⊎ (g.net.bag ≡ []) → KeepsButReplicas m g
      → Tracks state tells past start first now (turns ++ line_of act.Deliver b ∷ []) (Some g) calls
  given_up b h same bag keeps =
      let stands = on.tracks.after.stands in
      let sets = sets_nothing_so act.Deliver b h.sets_none in
      let adds : AddsLine PlainLine tells past start [] [] on.tracks.delivered turns m.net.replicas.events act.Deliver b g.net.replicas.events =
      subst (λ (t : Tracked D). AddsLine PlainLine tells past start [] [] on.tracks.delivered turns m.net.replicas.events act.Deliver b t.events) (sym same) (served_adds PlainLine tells past start turns [] on.tracks.delivered m.net.replicas.events act.Deliver b m.net.replicas.events on.tracks.were h.line) in
      goes_quietly state m tells past start first now turns calls act.Deliver b PlainLine (plain_on state (Some m)) lawful g [] on adds left.legal (record {
        told = h.line.more;
        grew = ap (λ (t : Tracked D). t.events) same ∙ h.line.grew;
        makes = h.line.line.makes;
        prints = sets.place;
        opens = λ i. i;
        halts = keeps_stops_so act.Deliver b h.sets_none;
        more = [];
        ran = subst (λ t. Ran state m.net.replicas [] t) (sym same) (ran_nothing state m.net.replicas);
        others = λ s none. refl;
        left = elim bag as (λ _. NetIsLeftBy start (turns ++ line_of act.Deliver b ∷ []) g.net) [
          | inl as_before ↦ left_as_before m.net start turns g.net act.Deliver b stands.left (record { state = keeps.state; fates = keeps.fates }) sets (delivers_nothing_so act.Deliver b h.delivers_none) as_before
          | inr lost ↦ left_by_delivery m.net start turns g.net act.Deliver b stands.left (record { state = keeps.state; fates = keeps.fates }) sets lost
        ];
        ready = left.ready;
        place = ap (λ (s : MetaState). s.place) keeps.state;
        slots = keeps.slots;
        past = keeps.past;
        stopped = keeps.stopped;
        known = known_kept turns act.Deliver b m.net.state.place g.net.state.place m.net.fates g.net.fates (ap (λ (s : MetaState). s.place) keeps.state) keeps.fates sets.fates (keeps_stops_so act.Deliver b h.sets_none) stands.known;
      })

  -- the line of a delivery
  delivery_tracked : (b : Answer) → IsDeliverAnswer state m b g → Tracks state tells past start first now (turns ++ line_of act.Deliver b ∷ []) (Some g) calls
  delivery_tracked (answer.Outcomes outcomes) done = delivered outcomes done
  delivery_tracked answer.Memory done = given_up answer.Memory (memory_tells start turns m.net.replicas.events act.Deliver) done.0.0 done.0.1 done.1
  delivery_tracked answer.Full done =
      given_up answer.Full (full_delivery_tells m.net start turns act.Deliver g.net done.0) (ap (λ (n : Net D G). n.replicas) done.0.0) (inl (ap (λ (n : Net D G). n.bag) done.0.0)) done.1
  delivery_tracked _ done = absurd done

pub deliveries_are_tracked : {D : Type 0} {G : Ghosts D} (state : D → DiskState) → ((d : D) → IsLawfulDisk (state d)) → (m : Members D G) → DeliveriesAreTracked state m
deliveries_are_tracked state lawful m tells past start first now turns calls b g on left done = delivery_tracked state lawful m tells past start first now turns calls g on left b done
