-- A call may go by each placement that a cluster keeps.
use Rattle.std.proofs.Common.{◌≡◌, ◌<◌, ℕ, List, [], ◌++◌, length, sym, ap, ◌∙◌, subst, arith, inl, inr}
use Rattle.std.specs.Prelude.{Option, Some, None}
use Rattle.m3_model.specs.declared.act.Act.{Act}
use Rattle.m3_model.specs.declared.answer.Answer.{Answer}
use Rattle.m3_model.specs.declared.placement.Placement.{Placement}
use Rattle.m3_model.specs.declared.rules.MetaState.{MetaState}
use Rattle.m3_model.specs.declared.turn.Turn.{Turn}
use Rattle.m3_outside.specs.DiskState.{DiskState}
use Rattle.m3_outside.specs.declared.disk.Disk.{Ghosts}
use Rattle.cluster_core.specs.declared.event.Event.{Event}
use Rattle.cluster_core.proofs.ListLemmas.{at_some, at_within}
use Rattle.node_calls.specs.session_net.Calls.{Tracked}
use Rattle.node_calls.specs.session_net.Ready.{IsCallable}
use Rattle.node_calls.specs.session_net.Runs.{Ran}
use Rattle.node_calls.specs.session_net.declared.net.Net.{Net}
use Rattle.node_calls.proofs.session_net_proofs.ReadyLemmas.{may_call}
use Rattle.transcripts.specs.Deliveries.{LateMessage}
use Rattle.transcripts.specs.Fates.{fate_in, numbering_after}
use Rattle.told_runs.specs.Lines.{ServesOne}
use Rattle.line_tracks.specs.calls.Laws.{Kind, LeavesLine, LeavesServed}
use Rattle.line_tracks.specs.calls.Left.{FareAsSet, HoldsBack, MayUseAfter, NetIsUsable}
use Rattle.line_tracks.proofs.calls.WriteLemmas.{placed_in}
use Rattle.node_calls.specs.cluster_members.Kept.{IsBy, IsKept, Uses}
use Rattle.node_calls.specs.cluster_members.declared.members.Members.{Members}
use Rattle.line_tracks.specs.acts.Due.{IsKnown}
use Rattle.line_tracks.specs.acts.Stands.{ClusterStands}

module _ {D : Type 0} {G : Ghosts D} (m : Members D G) (start : Option MetaState) (turns : List Turn) (stands : ClusterStands start turns m) (version : Option ℕ) (place : Placement) (uses : Uses m.net.state.place m.past.items version place) where
  -- it is kept
  is_kept : IsKept m.net.state.place m.past.items place
  is_kept = by version uses
    where
      by : (v : Option ℕ) → Uses m.net.state.place m.past.items v place → IsKept m.net.state.place m.past.items place
      by None is = inl is
      by (Some v) kept = kept.0

  -- the turns printed it
  pub is_known : IsKnown start turns version
  is_known = by version uses
    where
      by : (v : Option ℕ) → Uses m.net.state.place m.past.items v place → IsKnown start turns v
      by None is = tt
      by (Some v) kept = (place, (stands.kept.are place).1 kept.0, kept.1)

  may_use_after : MayUseAfter start turns version place
  may_use_after = by version uses
    where
      by : (v : Option ℕ) → Uses m.net.state.place m.past.items v place → MayUseAfter start turns v place
      by None is = stands.left.place ∙ ap Some (sym is)
      by (Some v) kept = ((stands.kept.are place).1 kept.0, kept.1)

  -- it has no more nodes than the one that stands
  within_nodes : (node : ℕ) → node < length place.instances → node < length m.net.state.place.instances
  within_nodes node low = by is_kept
    where
      by : IsKept m.net.state.place m.past.items place → node < length m.net.state.place.instances
      by (inl is) = subst (λ (p : Placement). node < length p.instances) is low
      by (inr i) = let fewer = stands.kept.fewer place i in omega (arith, fewer, low)

  may_call_by : IsCallable (record m.net.state { place = place }) m.net.replicas m.net.bag
  may_call_by = by is_kept
    where
      by : IsKept m.net.state.place m.past.items place → IsCallable (record m.net.state { place = place }) m.net.replicas m.net.bag
      by (inl is) = subst (λ (p : Placement). IsCallable (record m.net.state { place = p }) m.net.replicas m.net.bag) (sym is) (may_call m.net.state m.net.replicas m.net.bag stands.ready)
      by (inr i) = stands.serves place i

  -- messages to its nodes fare as the turns' fates say
  fare_by : FareAsSet turns place m.net.fates
  fare_by client call node own there =
      let now = at_some m.net.state.place.instances node (within_nodes node (at_within place.instances node own there)) in
      let at = placed_in m.net.replicas.events place may_call_by.place in
      let name = stands.named node now.0 now.1 at.0 place at.1 own at.2 there in
      stands.left.fates client call node now.0 now.1 ∙ ap (λ (n : List ℕ). fate_in (numbering_after 0 turns).fates client call n) (sym name)

  module _ (before : Net D G) (began : IsBy place m.net before) where
    state_by : before.state ≡ record m.net.state { place = place }
    state_by = began.state

    -- so a call may go by the fields
    pub usable_so : NetIsUsable start turns version before
    usable_so = record {
      rules = stands.left.rules ∙ ap (λ (s : MetaState). s.rules) (sym state_by);
      place = subst (λ (s : MetaState). MayUseAfter start turns version s.place) (sym state_by) may_use_after;
      seed = stands.left.seed ∙ ap (λ (s : MetaState). s.seed) (sym state_by);
      fates = subst (λ (s : MetaState). FareAsSet turns s.place before.fates) (sym state_by) (subst (FareAsSet turns place) (sym began.fates) fare_by);
      late = subst (HoldsBack start turns) (sym began.bag) stands.left.late;
    }

    pub callable_so : IsCallable before.state before.replicas before.bag
    callable_so =
        subst (λ (s : MetaState). IsCallable s before.replicas before.bag) (sym state_by)
        (subst (λ (t : Tracked D). IsCallable (record m.net.state { place = place }) t before.bag) (sym began.replicas) (subst (IsCallable (record m.net.state { place = place }) m.net.replicas) (sym began.bag) may_call_by))

-- ---- what came is the same by whatever placement a call went

module _ {D : Type 0} {G : Ghosts D} (old before after new : Net D G) (from : before.replicas ≡ old.replicas) (to : after.replicas ≡ new.replicas) where
  from_events : before.replicas.events ≡ old.replicas.events
  from_events = ap (λ (t : Tracked D). t.events) from

  to_events : after.replicas.events ≡ new.replicas.events
  to_events = ap (λ (t : Tracked D). t.events) to

  grew_so : (more : List Event) → after.replicas.events ≡ before.replicas.events ++ more → new.replicas.events ≡ old.replicas.events ++ more
  grew_so more grew = sym to_events ∙ grew ∙ ap (λ es. es ++ more) from_events

  pub ran_so : (state : D → DiskState) (more : List Event) → Ran state before.replicas more after.replicas → Ran state old.replicas more new.replicas
  ran_so state more ran = subst (λ (t : Tracked D). Ran state old.replicas more t) to (subst (λ (t : Tracked D). Ran state t more after.replicas) from ran)

  pub line_so : (Line : Kind) (start : Option MetaState) (turns : List Turn) (messages : List LateMessage) (a : Act) (b : Answer) → LeavesLine Line start turns messages before a b after → LeavesLine Line start turns messages old a b new
  line_so Line start turns messages a b l = record {
    more = l.more;
    grew = grew_so l.more l.grew;
    line = subst (λ es. Line start turns es a b l.more) from_events l.line;
    serves = λ free tells was past were. subst (λ es. ServesOne tells [] messages was past start turns es a b l.more) from_events (l.serves free tells was past were);
    delivered = l.delivered;
  }

  pub served_so : (Line : Kind) (start : Option MetaState) (turns : List Turn) (messages : List LateMessage) (a : Act) (b : Answer) → LeavesServed Line start turns messages before.replicas.events a b after.replicas.events → LeavesServed Line start turns messages old.replicas.events a b new.replicas.events
  served_so Line start turns messages a b l = record {
    more = l.more;
    grew = grew_so l.more l.grew;
    line = subst (λ es. Line start turns es a b l.more) from_events l.line;
    serves = λ tells was past were. subst (λ es. ServesOne tells [] messages was past start turns es a b l.more) from_events (l.serves tells was past were);
    delivered = l.delivered;
  }
