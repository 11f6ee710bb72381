-- Which slots of disks there are.
use Rattle.std.specs.Prelude.{◌≡◌, ◌<◌, ◌⊎◌}
use Rattle.m3_model.specs.declared.limits.TheConstants.{MOST_NODES, MOST_SHARDS}
use Rattle.m3_outside.specs.declared.slot.DiskSlot.{DiskSlot}

-- that of the meta disk, or that of a node and a shard within their limits
abbrev pub IsSlot : DiskSlot → Type 0
IsSlot s = ((s.node ≡ 255) × (s.shard ≡ 4294967295)) ⊎ ((s.node < MOST_NODES) × (s.shard < MOST_SHARDS))
