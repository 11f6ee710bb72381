-- What a tick takes away and leaves; M3DB's page "Storage Engine", of ticks.
use Rattle.std.specs.Prelude.{◌≡◌, ℕ, ◌+◌, Bool, true, not, nat_le, List, filter, slice_get}
use Rattle.std.specs.FinMap.{len, retain_keys}
use Rattle.m3_model.specs.Contents.{Contents}
use Rattle.m3_model.specs.declared.rules.Rules.{Rules}
use Rattle.m3_outside.specs.DiskState.{DiskState}
use Rattle.store_log.specs.listed_volumes.block_buffer.Held.{without, has_ended, has_expired, is_in_block}
use Rattle.store_log.specs.listed_volumes.wire_bytes.Volumes.{VolumeHead}
use Rattle.store_log.specs.listed_volumes.shard_files.Parts.{KnownVolume, VolumesAre}
use Rattle.shard_store.specs.Stores.{StoreState, joined_with}

-- the volume's block has expired as a whole: its namespace is there, and the retention of the block's end has ended
abbrev pub is_outlived : Rules → VolumeHead → Bool
is_outlived rules v = has_ended (slice_get rules.spaces v.ns) rules.now (v.start + v.size)

abbrev pub has_outlived : Rules → KnownVolume → Bool
has_outlived rules k = is_outlived rules k.head

-- the volumes whose blocks haven't expired as a whole
abbrev pub live_volumes : Rules → List KnownVolume → List KnownVolume
live_volumes rules known = filter (λ k. not (has_outlived rules k)) known

-- what a tick leaves of the points in memory, joined with the volumes that stay
abbrev pub ticked_content : Rules → Contents → List KnownVolume → Contents
ticked_content rules buffered known = joined_with (without buffered (has_expired rules)) (live_volumes rules known)

-- the retention of a time has ended
abbrev pub expired_in : ℕ → ℕ → ℕ → Bool
expired_in retention now t = nat_le (t + retention) now

-- how many keys of the namespace the content has below this end
abbrev pub keys_in : Contents → ℕ → ℕ → ℕ
keys_in c ns end = len (retain_keys c (is_in_block ns 0 end))

-- The expired points aren't in memory any more; tenure and fence stay. Where the disk tells what it holds, the volumes whose blocks have expired as a whole don't
-- count any more, all others do, and the content is what is in memory joined with their points.
pub record HasTicked {D : Type 0} (state : D → DiskState) (rules : Rules) (old new : StoreState D) : Type 0 where
  pub same : new ≡ record old { disk = new.disk; buffered = without old.buffered (has_expired rules); content = new.content }
  pub volumes : (state old.disk).tells ≡ true → (known : List KnownVolume) → VolumesAre known (state old.disk).files
      → VolumesAre (live_volumes rules known) (state new.disk).files × (new.content ≡ joined_with new.buffered (live_volumes rules known))
