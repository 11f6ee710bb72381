use Rattle.std.proofs.Common.{◌≡◌, ◌++◌, List, take, drop}
use Rattle.m3_model.specs.declared.point.Series.{Series}
use Rattle.store_log.specs.listed_volumes.volume_bytes.Heads.{head_of}
use Rattle.store_log.specs.snapshot_steps.volume_steps.KnownLists.{with_volume}
use Rattle.store_log.specs.listed_volumes.Listed.{known_in}
use Rattle.shard_store.proofs.volumes.position_of.Given as goal

-- the volume comes behind those so far
abbrev pub invariant-loop-position : goal.invariant-loop-position
invariant-loop-position l = (rows : List Series) → with_volume (record { head = head_of l.head; rows = rows }) (known_in l.listed) ≡ known_in (take l.position l.listed) ++ with_volume (record { head = head_of l.head; rows = rows }) (known_in (drop l.position l.listed))
