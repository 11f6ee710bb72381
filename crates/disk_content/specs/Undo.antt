-- What undoes the writes of a disk in memory that no sync of their file has followed.
use Rattle.std.specs.Prelude.{ℕ, ◌-◌, Bool, if◌then◌else◌, List, [], ◌∷◌, ◌++◌, length, map, None}
use Rattle.std.specs.List.{filter}
use Rattle.std.specs.FinMap.{get}
use Rattle.m3_outside.specs.declared.file_name.FileName.{FileName}
use Rattle.m3_outside.specs.Files.{Files}
use Rattle.disk_content.specs.declared.undo_log.UndoEntry.{UndoEntry}
use Rattle.disk_content.specs.Tables.{with_bytes, range_in, copied_bytes}
use Rattle.disk_content.specs.Writes.{PendingWrite, is_other}
use Rattle.disk_content.specs.Contents.{Content, AllFit}

-- an entry as if none of its bytes were lost
abbrev pub whole : UndoEntry → UndoEntry
whole e = record e { bytes = copied_bytes e.bytes e.lost; lost = None }

-- the entries in the order of their writes, each with its bytes; there is room for so many more calls that change files
pub record Undo : Type 0 where
  pub entries : List UndoEntry
  pub room : ℕ

-- those of other files
abbrev pub entries_of_others : FileName → List UndoEntry → List UndoEntry
entries_of_others name es = filter (λ e. is_other name e.name) es

-- with one more entry
abbrev pub undo_after : FileName → ℕ → List ℕ → Bool → Undo → Undo
undo_after name at bytes done u = record u { entries = u.entries ++ (record { name = name; at = at; bytes = bytes; done = done; lost = None }) ∷ []; room = u.room - 1 }

-- without the entries of a file
abbrev pub undo_without : FileName → Undo → Undo
undo_without name u = record u { entries = entries_of_others name u.entries; room = u.room - 1 }

-- the files before the write of an entry, from those after it
abbrev pub files_before : UndoEntry → Files → Files
files_before e files = if e.done then with_bytes e.name e.at e.bytes files else files

-- the write of an entry, from the files after it
abbrev pub write_of : UndoEntry → Files → PendingWrite
write_of e files = record { name = e.name; at = e.at; bytes = if e.done then range_in e.at (length e.bytes) (get files e.name) else e.bytes }

-- an entry that has what was written
abbrev pub as_write : UndoEntry → PendingWrite
as_write e = record { name = e.name; at = e.at; bytes = e.bytes }

-- the files before the writes of a list of entries, and those writes
pub record Unwound : Type 0 where
  pub files : Files
  pub writes : List PendingWrite

-- from the files after them: the last is undone first
abbrev pub unwound : List UndoEntry → Files → Unwound
unwound [] files = record { files = files; writes = [] }
unwound (e ∷ es) files = let later = unwound es files in record { files = files_before e later.files; writes = write_of e later.files ∷ later.writes }

-- the range of each entry lies in its file
abbrev pub AllLieIn : List UndoEntry → Files → Type 0
AllLieIn es files = AllFit (map as_write es) files

-- what reads give and what undoes the pending writes
abbrev pub held_in : Files → Undo → Content
held_in seen undo = let before = unwound undo.entries seen in record { seen = seen; synced = before.files; pending = record { writes = before.writes; room = undo.room } }
