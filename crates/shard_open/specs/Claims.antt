-- Which of a replica's bootstrappers claims which times of its shard, by the volumes that count and by the tenure of the files.
use Rattle.std.specs.Prelude.{ℕ, zero, suc, ◌+◌, ◌-◌, ◌^◌, min, max, List, [], ◌∷◌, ◌++◌, drop, nat_lt, ◌==◌, if◌then◌else◌}
use Rattle.m3_model.specs.declared.limits.TheConstants.{MOST_NAMESPACES}
use Rattle.snapshot_files.specs.volume_bytes.declared.heads.Head.{Head}
use Rattle.boot_chain.specs.Origins.{claims_of}
use Rattle.boot_chain.specs.Ranges.{is_first, left_of}
use Rattle.boot_chain.specs.declared.chain.Claims.{Claims}
use Rattle.boot_chain.specs.declared.origin.Origin.TheVariants.{First}
use Rattle.boot_chain.specs.declared.range.Range.{Range}
use Rattle.shard_open.specs.declared.volumes.OpenVolume.{OpenVolume}

-- the end of all times
abbrev pub last_time : ℕ
last_time = 2 ^ 64 - 1

-- where the block of a volume ends
abbrev pub end_of : Head → ℕ
end_of head = min (head.start + head.size) last_time

-- the times of a namespace from one up to another, where there are any
abbrev pub times : ℕ → ℕ → ℕ → List Range
times ns from to = if nat_lt from to then (record { ns = ns; from = from; to = to }) ∷ [] else []

-- the times up to the block of a volume that no volume before reaches, and those of the block
abbrev pub before_block : ℕ → Head → List Range
before_block from head = times head.ns from head.start

abbrev pub in_block : ℕ → Head → List Range
in_block from head = times head.ns (max from head.start) (end_of head)

-- all times of a namespace from this one on, cut where blocks of its volumes begin and end
abbrev pub ranges_from : ℕ → ℕ → List OpenVolume → List Range
ranges_from ns from [] = times ns from last_time
ranges_from ns from (v ∷ volumes) =
    if v.volume.head.ns == ns
    then (before_block from v.volume.head ++ in_block from v.volume.head) ++ ranges_from ns (max from (end_of v.volume.head)) volumes
    else ranges_from ns from volumes

-- those of them that are blocks, each once, however many volumes it has
abbrev pub blocks_from : ℕ → ℕ → List OpenVolume → List Range
blocks_from ns from [] = []
blocks_from ns from (v ∷ volumes) =
    if v.volume.head.ns == ns then in_block from v.volume.head ++ blocks_from ns (max from (end_of v.volume.head)) volumes else blocks_from ns from volumes

-- the same of the first namespaces, so many of them
abbrev pub ranges_below : ℕ → List OpenVolume → List Range
ranges_below zero volumes = []
ranges_below (suc n) volumes = ranges_below n volumes ++ ranges_from n 0 volumes

abbrev pub blocks_below : ℕ → List OpenVolume → List Range
blocks_below zero volumes = []
blocks_below (suc n) volumes = blocks_below n volumes ++ blocks_from n 0 volumes

-- what is asked for: all times of each namespace that there may be
abbrev pub asked_for : List OpenVolume → List Range
asked_for volumes = ranges_below MOST_NAMESPACES volumes

-- the blocks with a volume that counts
abbrev pub counted_blocks : List OpenVolume → List Range
counted_blocks volumes = blocks_below MOST_NAMESPACES volumes

-- what is asked for of these blocks, in its order
abbrev pub asked_of : List Range → List Range → List Range
asked_of [] blocks = []
asked_of (r ∷ asked) blocks = if is_first blocks r then r ∷ asked_of asked (drop 1 blocks) else asked_of asked blocks

-- the filesystem's bootstrapper claims the blocks, and the commit log's the rest
abbrev pub claims_of_files : List Range → List Range → Claims
claims_of_files asked blocks = record { files = blocks; log = left_of asked blocks; peers = []; fresh = []; left = [] }

-- where the files hold no tenure the last bootstrapper claims all
abbrev pub claims_by_tenure : ℕ → List OpenVolume → Claims
claims_by_tenure zero volumes = claims_of First (asked_for volumes)
claims_by_tenure (suc n) volumes = claims_of_files (asked_for volumes) (counted_blocks volumes)
