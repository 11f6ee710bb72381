-- Room for what a sweep finds.
use Rattle.std.specs.Prelude.{ℕ, ◌+◌, ◌≤◌, Result, vec_len}
use Rattle.std.specs.Vec.{vec_capacity}
use Rattle.m3_model.specs.declared.reason.Reason.{Reason}
use Rattle.node_calls.specs.replica_exchange.declared.slot.Slot.{Slot}
use Rattle.node_calls.specs.transcripts.Sweeps.{Entry}
use Rattle.cluster_upkeep.specs.declared.findings.Findings.{Findings}

-- so many further replicas can be noted without memory
pub record HasRoomFor (n : ℕ) (findings : Findings) : Type 0 where
  pub for_done : vec_len findings.done + n ≤ vec_capacity findings.done
  pub for_failed : vec_len findings.failed + n ≤ vec_capacity findings.failed

-- what the replica of the slot said
abbrev pub entry_at : Slot → Result ℕ Reason → Entry
entry_at slot said = record { node = slot.node; shard = slot.shard; said = said }
