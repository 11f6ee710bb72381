-- Lines of upkeep, and of `status`.
use Rattle.std.specs.Prelude.{Option, Some}
use Rattle.std.specs.List.{flat_map}
use Rattle.std.proofs.Common.{◌≡◌, ◌*◌, ℕ, List, length, refl, ap, arith, Bool}
use Rattle.m3_model.specs.declared.act.Act.{Act}
use Rattle.m3_model.specs.declared.act.Act.TheVariants as act
use Rattle.m3_model.specs.declared.answer.Answer.{Answer}
use Rattle.m3_model.specs.declared.answer.Answer.TheVariants as answer
use Rattle.m3_model.specs.declared.turn.Turn.{Turn}
use Rattle.m3_model.specs.declared.rules.MetaState.{MetaState}
use Rattle.m3_outside.specs.Depots.{Depot}
use Rattle.m3_outside.specs.DiskState.{DiskState, IsLawfulDisk}
use Rattle.m3_outside.specs.declared.disk.Disk.{Ghosts}
use Rattle.cluster_core.specs.declared.event.StepCall.{StepCall}
use Rattle.cluster_core.specs.declared.event.StepCall.TheVariants as call
use Rattle.told_runs.specs.told_by.Makes.{OpensReplicas}
use Rattle.line_tracks.specs.calls.Laws.{IsNotRefused}
use Rattle.node_calls.specs.cluster_members.declared.members.Members.{Members}
use Rattle.cluster_upkeep.specs.Status.{told_at}
use Rattle.cluster_upkeep.specs.Sweeps.{asked_at}
use Rattle.cluster_upkeep.specs.Upkeep.{IsSwept, IsTold}
use Rattle.line_tracks.specs.acts.Upkeep.{IsUpkeepAct, sweep_call}
use Rattle.line_tracks.proofs.acts.StatusLemmas.{status_tells}
use Rattle.line_tracks.proofs.acts.SweptLemmas.{swept_tells}
use Rattle.line_tracks.proofs.acts.UpkeepLemmas.{upkeep_is_due}
use Rattle.line_tracks.specs.tracks.Lines.{FlushesAreTracked, IsLeft, MayGoOn, SnapshotsAreTracked, StatusIsTracked, TicksAreTracked}
use Rattle.line_tracks.proofs.tracks.NodeLemmas.{IsTracked, full_on, halted_on, so, wanted_on}
use Rattle.line_tracks.proofs.tracks.SharedLemmas.{have_left}
use Rattle.transcripts.specs.Record.{Record}

module _ {D : Type 0} {G : Ghosts D} (state : D → DiskState) (lawful : (d : D) → IsLawfulDisk (state d)) (m : Members D G) (tells : Bool) (past : List Record) (start : Option MetaState) (first now : Depot D) (turns : List Turn) (calls : List ℕ) (go : MayGoOn state tells past start first now turns calls m) where
  -- nothing is refused
  free : (a : Act) (b : Answer) → IsUpkeepAct a → IsNotRefused start turns a b
  free a b is = upkeep_is_due start turns m.net.state.place m.net.state.rules (have_left start turns m (so state m tells past start first now turns calls go).stands) a b is

  pub swept_on : (a : Act) → IsUpkeepAct a → (OpensReplicas a → ⊥) → (c : StepCall) → sweep_call a m.net.state.rules ≡ Some c → (b : Answer) (g : Members D G) → IsLeft tells g → IsSwept state c m b g → IsTracked state m tells past start first now turns calls go a b g
  swept_on a is opens c asks (answer.Swept done failed) g left h =
      halted_on state m tells past start first now turns calls go lawful a (answer.Swept done failed) g (flat_map (asked_at c) h.entries) left (free a (answer.Swept done failed) is)
      (swept_tells state m start turns g a c done failed asks (so state m tells past start first now turns calls go).stands h) refl opens h.keeps.keeps.slots h.keeps.keeps.past (ap (λ (s : MetaState). s.place) h.keeps.keeps.state) h.ran
  swept_on a is opens c asks answer.Memory g left same = wanted_on state m tells past start first now turns calls go a g same
  swept_on a is opens c asks answer.Full g left h = let few = h.few in full_on state m tells past start first now turns calls go a g h.same (2 * length h.slots) (omega (arith, few)) h.room
  swept_on a is opens c asks _ g left h = absurd h

  pub told_on : (b : Answer) (g : Members D G) → IsLeft tells g → IsTold state m b g → IsTracked state m tells past start first now turns calls go act.Status b g
  told_on (answer.Status moment lines version) g left h =
      halted_on state m tells past start first now turns calls go lawful act.Status (answer.Status moment lines version) g (flat_map told_at lines) left (free act.Status (answer.Status moment lines version) tt)
      (status_tells state m start turns g moment lines version (so state m tells past start first now turns calls go).stands h) refl (λ o. o) h.keeps.keeps.slots h.keeps.keeps.past (ap (λ (s : MetaState). s.place) h.keeps.keeps.state) h.ran
  told_on answer.Memory g left same = wanted_on state m tells past start first now turns calls go act.Status g same
  told_on answer.Full g left h = let few = h.few in full_on state m tells past start first now turns calls go act.Status g h.same (1 * length h.slots) (omega (arith, few)) h.room
  told_on _ g left h = absurd h

pub ticks_are_tracked : {D : Type 0} {G : Ghosts D} (state : D → DiskState) → ((d : D) → IsLawfulDisk (state d)) → (m : Members D G) → TicksAreTracked state m
ticks_are_tracked state lawful m tells past start first now turns calls b g go left did = swept_on state lawful m tells past start first now turns calls go act.Tick tt (λ o. o) (call.Tick m.net.state.rules) refl b g left did

pub flushes_are_tracked : {D : Type 0} {G : Ghosts D} (state : D → DiskState) → ((d : D) → IsLawfulDisk (state d)) → (m : Members D G) → FlushesAreTracked state m
flushes_are_tracked state lawful m tells past start first now turns calls b g go left did = swept_on state lawful m tells past start first now turns calls go act.Flush tt (λ o. o) (call.Flush m.net.state.rules) refl b g left did

pub snapshots_are_tracked : {D : Type 0} {G : Ghosts D} (state : D → DiskState) → ((d : D) → IsLawfulDisk (state d)) → (m : Members D G) → SnapshotsAreTracked state m
snapshots_are_tracked state lawful m tells past start first now turns calls b g go left did = swept_on state lawful m tells past start first now turns calls go act.Snapshot tt (λ o. o) call.Snapshot refl b g left did

pub status_is_tracked : {D : Type 0} {G : Ghosts D} (state : D → DiskState) → ((d : D) → IsLawfulDisk (state d)) → (m : Members D G) → StatusIsTracked state m
status_is_tracked state lawful m tells past start first now turns calls b g go left did = told_on state lawful m tells past start first now turns calls go b g left did
