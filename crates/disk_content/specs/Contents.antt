-- What a disk in memory holds, and what each call makes of it.
use Rattle.std.specs.Prelude.{◌≡◌, ⊤, ℕ, ◌+◌, ◌≤◌, List, [], ◌∷◌, length, Option, Some, None, refl}
use Rattle.std.specs.Coded.{Coded, code_by, coded×}
use Rattle.std.specs.FinMap.{get}
use Rattle.m3_outside.specs.declared.file_name.FileName.{FileName}
use Rattle.m3_outside.specs.Files.{Files, files_with_zeros, files_without}
use Rattle.disk_content.specs.Tables.{files_code, with_file, with_bytes}
use Rattle.disk_content.specs.Writes.{Pending, PendingWrite, pending_code, pending_after_write, pending_without}
use Rattle.disk_content.specs.Picks.{picked_files}

-- the files as reads give them, as they stand synced, and the writes between
pub record Content : Type 0 where
  pub seen : Files
  pub synced : Files
  pub pending : Pending

abbrev pub content_code : Coded Content
content_code = code_by (Files × (Files × Pending)) (coded× files_code (coded× files_code pending_code)) (λ c. (c.seen, (c.synced, c.pending))) (λ p. record { seen = p.0; synced = p.1.0; pending = p.1.1 }) (λ _. refl)

-- a write is pending where it failed, and reads stay
abbrev pub content_after_failed_write : FileName → ℕ → List ℕ → Content → Content
content_after_failed_write name at bytes c = record c { pending = pending_after_write name at bytes c.pending }

-- a write is pending, and reads show it
abbrev pub content_after_write : FileName → ℕ → List ℕ → Content → Content
content_after_write name at bytes c = record c { seen = with_bytes name at bytes c.seen; pending = pending_after_write name at bytes c.pending }

-- of a synced file no write is pending
abbrev pub content_after_sync : FileName → Content → Content
content_after_sync name c = record c { synced = with_file name (get c.seen name) c.synced; pending = pending_without name c.pending }

abbrev pub content_after_create : FileName → ℕ → Content → Content
content_after_create name size c = record c { seen = files_with_zeros name size c.seen; synced = files_with_zeros name size c.synced }

abbrev pub content_after_remove : FileName → Content → Content
content_after_remove name c = record c { seen = files_without name c.seen; synced = files_without name c.synced; pending = pending_without name c.pending }

-- what the pick leaves of the pending writes is there for good
abbrev pub content_after_restart : ℕ → Content → Content
content_after_restart pick c =
    let image = picked_files pick c.pending.writes c.synced in record c { seen = image; synced = image; pending = record c.pending { writes = [] } }

-- the write lies in the file
abbrev pub FitsFile : PendingWrite → Option (List ℕ) → Type 0
FitsFile w None = ⊥
FitsFile w (Some file) = w.at + length w.bytes ≤ length file

-- each write lies in its file
abbrev pub AllFit : List PendingWrite → Files → Type 0
AllFit [] files = ⊤
AllFit (w ∷ ws) files = FitsFile w (get files w.name) × AllFit ws files

-- the file is there for reads and for a stop, of one length
pub record IsInBoth (name : FileName) (c : Content) : Type 0 where
  pub seen : List ℕ
  pub synced : List ℕ
  pub seen_is : get c.seen name ≡ Some seen
  pub synced_is : get c.synced name ≡ Some synced
  pub same_length : length seen ≡ length synced
