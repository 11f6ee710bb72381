use Rattle.std.proofs.Common.{◌≡◌, false, [], take}
use Rattle.store_log.specs.listed_volumes.volume_bytes.Heads.{head_of}
use Rattle.store_log.specs.snapshot_steps.volume_steps.KnownLists.{is_one_of}
use Rattle.shard_store.proofs.volumes.is_among.Given as goal

-- it is none of those so far
abbrev pub invariant-loop-old : goal.invariant-loop-old
invariant-loop-old l = is_one_of (take l.old-index l.heads) (record { head = head_of l.head; rows = [] }) ≡ false
