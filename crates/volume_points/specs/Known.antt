-- Volumes by their heads.
use Rattle.std.specs.Prelude.{◌≡◌, ℕ, Bool, ◌==◌, ◌&&◌, List, map}
use Rattle.m3_model.specs.Members.{IsIn}
use Rattle.fileset_check.specs.m3_outside.Files.{Files}
use Rattle.fileset_check.specs.wire_bytes.Volumes.{VolumeHead}
use Rattle.fileset_check.specs.shard_files.Parts.{KnownVolume, VolumeHolds}
use Rattle.fileset_check.specs.volume_bytes.declared.heads.Head.{Head}
use Rattle.fileset_check.specs.volume_bytes.Heads.{head_of}
use Rattle.fileset_check.specs.fileset_read.Volumes.{IsThere}

-- each of these volumes is there whole
abbrev pub AreThere : List Head → Files → Type 0
AreThere heads files = (h : Head) → IsIn heads h → IsThere (head_of h) files

-- the volumes of these heads are the known ones, one for one
pub record AreOf (heads : List Head) (known : List KnownVolume) (files : Files) : Type 0 where
  pub heads_are : map (λ k. k.head) known ≡ map head_of heads
  pub hold : (k : KnownVolume) → IsIn known k → VolumeHolds k.head k.rows files

-- the head is that of a volume of this block
abbrev pub is_head_of : ℕ → ℕ → ℕ → VolumeHead → Bool
is_head_of ns start size v = (v.ns == ns) && ((v.start == start) && (v.size == size))

-- the volume is one of this block
abbrev pub is_of : ℕ → ℕ → ℕ → KnownVolume → Bool
is_of ns start size k = is_head_of ns start size k.head
