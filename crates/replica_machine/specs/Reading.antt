-- What a machine answers to a call that reads its files.
use Rattle.std.specs.Prelude.{⊤, Option, Some, None, Result, Ok, Err, IsErrOf}
use Rattle.m3_model.specs.declared.reason.Reason.{Reason}
use Rattle.m3_model.specs.declared.reason.Reason.TheVariants as reason
use Rattle.m3_outside.specs.DiskState.{DiskState, Told}
use Rattle.shard_store.specs.shard_files.Damage.{OfForm}
use Rattle.shard_store.specs.shard_files.FilesHold.{IsSound}
use Rattle.shard_store.specs.fileset_read.declared.file_err.FileErr.{FileErr}
use Rattle.shard_store.specs.fileset_read.declared.file_err.FileErr.TheVariants as unread
use Rattle.replica_machine.specs.Damages.{told_of, IsDamageOf}
use Rattle.replica_machine.specs.Machines.{MachineState, IsOwn}

-- a file that isn't that of a volume is told from its first byte on
abbrev pub unread_reason : FileErr → Reason
unread_reason unread.Disk = reason.Disk
unread_reason unread.Memory = reason.Memory
unread_reason (unread.Form file) = reason.Corrupt (told_of (OfForm file 0))

abbrev pub files_answer : {X : Type 0} → Result X FileErr → Result X Reason
files_answer (Ok x) = Ok x
files_answer (Err why) = Err (unread_reason why)

-- A call that reads files is refused for the reason that stands against it; where none does, for want of memory, a fault, or damage, which it finds only in
-- files that aren't sound.
abbrev pub IsRefusedReading : {D X : Type 0} → (D → DiskState) → Option Reason → MachineState D → Result X Reason → Type 0
IsRefusedReading state (Some why) old said = IsErrOf said why
IsRefusedReading state None old (Ok x) = ⊤
IsRefusedReading state None old (Err (reason.Corrupt damage)) = Told (state old.disk) (λ files. ¬ IsSound files) × Told (state old.disk) (IsDamageOf damage)
IsRefusedReading state None old (Err why) = IsOwn why
