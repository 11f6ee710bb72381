-- Lists of known volumes, ascending by namespace, start and number.
use Rattle.std.specs.Prelude.{◌≡◌, ℕ, Bool, true, if◌then◌else◌, not, ◌==◌, ◌&&◌, List, [], ◌∷◌, filter}
use Rattle.std.specs.List.{list_any}
use Rattle.std.specs.Ordering.{nat_cmp, on, then_cmp, is_lt}
use Rattle.std.specs.declared.cmp.Ordering.{Ordering}
use Rattle.m3_model.specs.Members.{IsIn}
use Rattle.m3_model.specs.declared.point.Series.{Series}
use Rattle.shard_files.specs.m3_outside.declared.file_name.FileName.{FileName}
use Rattle.shard_files.specs.wire_bytes.Volumes.{VolumeHead}
use Rattle.shard_files.specs.Parts.{KnownVolume}
use Rattle.shard_files.specs.Steps.{is_part}
use Rattle.volume_bytes.specs.declared.heads.Head.{Head}

-- by namespace, then by start and number
abbrev pub head_cmp : VolumeHead → VolumeHead → Ordering
head_cmp = then_cmp (on (λ v. v.ns) nat_cmp) (then_cmp (on (λ v. v.start) nat_cmp) (on (λ v. v.number) nat_cmp))

-- the volume of format 1 of this block, with these rows
abbrev pub volume_of : ℕ → ℕ → ℕ → ℕ → List Series → KnownVolume
volume_of ns start size number rows = record { head = record { format = 1; ns = ns; start = start; size = size; number = number }; rows = rows }

-- with one volume more, where its name stands
abbrev pub with_volume : KnownVolume → List KnownVolume → List KnownVolume
with_volume k [] = k ∷ []
with_volume k (j ∷ known) = if is_lt (head_cmp j.head k.head) then j ∷ with_volume k known else k ∷ j ∷ known

-- whether it is the volume of this namespace, start and number
abbrev pub is_volume_at : ℕ → ℕ → ℕ → KnownVolume → Bool
is_volume_at ns start number k = (k.head.ns == ns) && ((k.head.start == start) && (k.head.number == number))

-- without the volume of this namespace, start and number
abbrev pub without_volume : ℕ → ℕ → ℕ → List KnownVolume → List KnownVolume
without_volume ns start number known = filter (λ k. not (is_volume_at ns start number k)) known

-- whether it is one of these volumes
abbrev pub is_one_of : List Head → KnownVolume → Bool
is_one_of heads k = list_any (λ (h : Head). is_volume_at h.ns h.start h.number k) heads

-- without these volumes
abbrev pub without_volumes : List Head → List KnownVolume → List KnownVolume
without_volumes heads known = filter (λ k. not (is_one_of heads k)) known

-- the name is that of a file of one of these volumes
abbrev pub IsOfOne : List Head → FileName → Type 0
IsOfOne heads name = (h : Head) × IsIn heads h × (is_part h.ns h.start name ≡ true) × (name.number ≡ h.number)
