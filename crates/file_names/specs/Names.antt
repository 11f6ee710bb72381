-- The names of files and folders on the host.
use Rattle.std.specs.Prelude.{◌≡◌, ◌⊎◌, ℕ, ◌+◌, ◌≤◌, ◌&&◌, List, ◌++◌, ◌==◌, if◌then◌else◌, codes, decimal, String, string_len, string_capacity}
use Rattle.m3_outside.specs.declared.file_name.FileName.{FileName}
use Rattle.m3_outside.specs.declared.slot.DiskSlot.{DiskSlot}

-- a segment of a log
abbrev pub segment_text : ℕ → List ℕ
segment_text number = codes "log-" ++ (decimal number ++ codes ".db")

-- which part of a volume or of a snapshot it is, by its kind
abbrev pub part_text : ℕ → List ℕ
part_text kind =
    if kind == 1 then codes "info" else if kind == 2 then codes "summaries" else if kind == 3 then codes "index" else if kind == 4 then codes "data" else if kind == 5 then codes "bloom" else if kind == 6 then codes "digests" else if kind == 8 then codes "data" else codes "checkpoint"

-- a file of a snapshot
abbrev pub snapshot_text : ℕ → ℕ → List ℕ
snapshot_text kind number = codes "snapshot-" ++ (decimal number ++ (codes "-" ++ (part_text kind ++ codes ".db")))

-- a file of a volume
abbrev pub volume_text : FileName → List ℕ
volume_text name = codes "fileset-" ++ (decimal name.ns ++ (codes "-" ++ (decimal name.block ++ (codes "-" ++ (decimal name.number ++ (codes "-" ++ (part_text name.kind ++ codes ".db")))))))

-- a file by its name; no kind is above 9
abbrev pub name_text : FileName → List ℕ
name_text name = if name.kind == 0 then segment_text name.number else if name.kind == 8 then snapshot_text 8 name.number else if name.kind == 9 then snapshot_text 9 name.number else volume_text name

-- its kind is one of the format, and the fields that the kind has no use for are 0
pub record IsOfFormat (name : FileName) : Type 0 where
  pub kind : name.kind ≤ 9
  pub numbered : (name.kind ≡ 0) ⊎ (8 ≤ name.kind) → (name.ns ≡ 0) × (name.block ≡ 0)

-- the folder of a slot: that of the meta disk, or of a node and a shard
abbrev pub folder_text : DiskSlot → List ℕ
folder_text slot = if slot.node == 255 && slot.shard == 4294967295 then codes "meta" else decimal slot.node ++ (codes "-" ++ decimal slot.shard)

-- there is room for each of these behind the text
abbrev pub HasNameRoom : {Z : Type 0} → String Z → Type 0
HasNameRoom text = string_len text + 96 ≤ string_capacity text
