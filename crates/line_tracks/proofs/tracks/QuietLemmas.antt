-- Lines that print no placement, begin no replica, and neither stop nor restart a node.
use Rattle.std.proofs.lemmas.List.{append_cancel_left}
use Rattle.std.proofs.Common.{◌≡◌, ◌≤◌, ◌+◌, ℕ, List, ◌++◌, length, take, sym, ap, subst, ◌∙◌, arith}
use Rattle.std.specs.Prelude.{Option, Some, None}
use Rattle.m3_model.specs.Members.{IsIn}
use Rattle.m3_model.specs.declared.act.Act.{Act}
use Rattle.m3_model.specs.declared.answer.Answer.{Answer}
use Rattle.m3_model.specs.declared.rules.MetaState.{MetaState}
use Rattle.m3_model.specs.declared.turn.Turn.{Turn}
use Rattle.m3_outside.specs.Depots.{Depot}
use Rattle.m3_outside.specs.DiskState.{DiskState, IsLawfulDisk}
use Rattle.m3_outside.specs.Slots.{Held}
use Rattle.m3_outside.specs.declared.slot.DiskSlot.{DiskSlot}
use Rattle.m3_outside.specs.declared.disk.Disk.{Ghosts}
use Rattle.cluster_core.specs.declared.event.Event.{Event}
use Rattle.cluster_core.specs.declared.event.Event.TheVariants as event
use Rattle.cluster_core.specs.declared.event.StepCall.TheVariants as call
use Rattle.cluster_core.proofs.ListLemmas.{in_at}
use Rattle.node_calls.specs.replica_calls.Calls.{Tracked}
use Rattle.told_runs.specs.told_by.Lines.{MakesAndHears, position_after}
use Rattle.told_runs.specs.told_by.Makes.{MayMake, OpensReplicas}
use Rattle.told_runs.proofs.told_by_proofs.OneLemmas.{back_at}
use Rattle.transcripts.specs.Placements.{printed}
use Rattle.node_calls.specs.cluster_members.declared.members.Members.{Members}
use Rattle.line_tracks.specs.acts.Stays.{HaveNoPlace, IsNoPlace}
use Rattle.line_tracks.proofs.acts.StandLemmas.{stands_still}
use Rattle.line_tracks.specs.acts.Keeps.{BeginsGiven}
use Rattle.line_tracks.specs.acts.Opens.{MayOpenSlots}
use Rattle.line_tracks.proofs.acts.OpenLemmas.{begins_still}
use Rattle.line_tracks.specs.tracks.Quiet.{QuietLinesStandOn, QuietTurnsMakeNone}
use Rattle.line_tracks.specs.tracks.Runs.{HaveRun}
use Rattle.line_tracks.proofs.tracks.AddLemmas.{steps_are_of_slots}

module _ (start : Option MetaState) (turns : List Turn) (events : List Event) (a : Act) (b : Answer) (more : List Event) (opened : 2 ≤ length events) (makes : MakesAndHears start turns events a b more) (prints : printed b ≡ None) (opens : OpensReplicas a → ⊥) where
  -- the turn may make each event that came
  may_make : (e : Event) → (i : IsIn more e) → MayMake start (take (length events + (in_at more e i).0) (events ++ more)) (position_after turns a b) e
  may_make e i = let at = in_at more e i in makes.makes (length events + at.0) e (omega arith) (omega (arith, opened)) (back_at events more at.0 e at.1)

  no_place : HaveNoPlace more
  no_place e i = by e (in_at more e i).0 (may_make e i)
    where
      by : (e : Event) (j : ℕ) → MayMake start (take (length events + j) (events ++ more)) (position_after turns a b) e → IsNoPlace e
      by (event.Place place done) j h = (let clash : None ≡ Some h.stood = sym prints ∙ h.prints in cc)
      by _ j h = tt

  no_begin : BeginsGiven events more
  no_begin n s tenure r i = absurd (opens ((may_make (event.Step n s (call.Begin tenure) r) i).0).opens)

pub quiet_turns_make_none : QuietTurnsMakeNone
quiet_turns_make_none start turns events a b more opened makes prints opens = (no_place start turns events a b more opened makes prints opens, no_begin start turns events a b more opened makes prints opens)

-- a list that was opened has two events
pub two_events : {D : Type 0} (state : D → DiskState) (lay : DiskSlot → Held D) (depot : Depot D) (t : Tracked D) → HaveRun state lay depot t → 2 ≤ length t.events
two_events state lay depot t h = let long = ap length h.opened in omega (arith, long)

pub quiet_lines_stand_on : {D : Type 0} {G : Ghosts D} (state : D → DiskState) → ((d : D) → IsLawfulDisk (state d)) → (old : Members D G) → QuietLinesStandOn state old
quiet_lines_stand_on {D} {G} state lawful old tells past start now turns a b new tell are h q =
    let same : q.told ≡ q.more = append_cancel_left old.net.replicas.events q.told q.more (sym q.grew ∙ q.ran.grew) in
    let none = quiet_turns_make_none start turns old.net.replicas.events a b q.told (two_events state h.lay now old.net.replicas h.run) q.makes q.prints q.opens in
    let no_place = subst HaveNoPlace same none.0 in
    let given = subst (BeginsGiven old.net.replicas.events) same none.1 in
    let may : MayOpenSlots state tells start old.net.replicas = record { disks = lawful; tell = tell; members = are; low = h.low } in
    record {
      more = q.more;
      ran = q.ran;
      others = q.others;
      slots = q.slots;
      past = q.past;
      place = q.place;
      stands = stands_still state old start turns new a b h.stands (record {
        left = q.left;
        ready = q.ready;
        place = q.place;
        prints = λ p is. let clash : None ≡ Some p = sym q.prints ∙ is in cc;
        more = q.more;
        ran = q.ran;
        no_place = no_place;
        of_slots = steps_are_of_slots old q.more h.stands.slots q.others;
        slots = q.slots;
        past = q.past;
        stopped = q.stopped;
        halts = q.halts;
        known = q.known;
      });
      low = (begins_still state old tells start new.net.replicas q.more h.stands.ready may q.ran no_place given).low;
    }
