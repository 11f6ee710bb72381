-- Over disks that tell and stood for the life no step finds damage.
use Rattle.std.proofs.Common.{◌≡◌, refl}
use Rattle.m3_model.specs.declared.reason.Damage.{Damage}
use Rattle.m3_model.specs.declared.reason.Reason.TheVariants as reason
use Rattle.m3_outside.specs.Depots.{TellAll}
use Rattle.m3_outside.specs.DiskState.{DiskState, IsLawfulDisk}
use Rattle.cluster_core.specs.Replicas.{replica}
use Rattle.cluster_core.specs.declared.event.Event.TheVariants as event
use Rattle.cluster_core.specs.declared.event.StepCall.{StepCall}
use Rattle.cluster_core.specs.declared.event.StepReply.{StepReply}
use Rattle.cluster_core.specs.declared.event.StepReply.TheVariants as reply
use Rattle.cluster_core.specs.declared.replica_state.ReplicaState.{ReplicaState}
use Rattle.cluster_core.proofs.ListLemmas.{in_at}
use Rattle.node_calls.specs.replica_machine.Machines.{IsMachineOf, MachineState}
use Rattle.node_calls.specs.replica_machine.Openings.{AllSound}
use Rattle.node_calls.specs.replica_machine.Steps.{IsStep}
use Rattle.node_calls.proofs.replica_machine_proofs.OpeningLemmas.{tenures_are_known}
use Rattle.node_calls.specs.replica_calls.Calls.{Tracked}
use Rattle.line_tracks.specs.tracks.Runs.{RunFindsNoDamage}
use Rattle.line_tracks.proofs.tracks.OpenLemmas.{in_run}
use Rattle.line_tracks.proofs.tracks.LainLemmas.{given_sound}

module _ {D : Type 0} (state : D → DiskState) (lawful : (d : D) → IsLawfulDisk (state d)) (tell : TellAll state) where
  -- a machine over such a disk finds none
  finds_none : (first : D) → AllSound (state first).images → (r : ReplicaState) (old new : MachineState D) (c : StepCall) (a : StepReply) → IsMachineOf state (state first).images r old → IsStep state old c a new
      → (damage : Damage) → a ≡ reply.Refused (reason.Corrupt damage) → ⊥
  finds_none first sound r old new c a is step damage is_damage =
      let files = (state old.disk).files in
      let known = tenures_are_known state first r old sound is (tell old.disk) files ((lawful old.disk).read_is_image (tell old.disk)) in
      step.sound damage is_damage (tell old.disk) (record { points = known.points; tenure = known.tenure; fence = known.fence; held = known.held })

pub run_finds_no_damage : {D : Type 0} (state : D → DiskState) → ((d : D) → IsLawfulDisk (state d)) → (t : Tracked D) → RunFindsNoDamage state t
run_finds_no_damage {D} state lawful t past start lay depot tell lain h n s c damage i =
    let at = in_at t.events (event.Step n s c (reply.Refused (reason.Corrupt damage))) i in
    in_run n s state lay depot tell t h (λ before c a. (damage : Damage) → a ≡ reply.Refused (reason.Corrupt damage) → ⊥) (λ first given before old new c a is step. finds_none state lawful tell first (given_sound state past start lay tell lain n s first given) (replica n s before) old new c a is step)
    at.0 c (reply.Refused (reason.Corrupt damage)) at.1 damage refl
