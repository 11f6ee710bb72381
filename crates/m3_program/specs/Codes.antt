-- The status with which the process ends, and what it writes on standard error.
use Rattle.std.specs.Prelude.{ℕ, List, Option, None, Some, codes}
use Rattle.m3_program.specs.declared.status.Status.{Status}
use Rattle.m3_program.specs.declared.status.Status.TheVariants as status

abbrev pub code_of : Status → ℕ
code_of status.Done = 0
code_of status.Usage = 1
code_of status.ReadFault = 2
code_of status.WriteFault = 3
code_of status.DiskFault = 4
code_of status.Corrupt = 5
code_of status.Memory = 6
code_of status.TooLong = 8

abbrev pub message_of : Status → Option (List ℕ)
message_of status.Done = None
message_of status.Usage = Some (codes "usage: m3 run [--disk FOLDER] or m3 generate N")
message_of status.ReadFault = Some (codes "m3: read fault")
message_of status.WriteFault = Some (codes "m3: write fault")
message_of status.DiskFault = Some (codes "m3: disk fault")
message_of status.Corrupt = Some (codes "m3: corrupt placement log")
message_of status.Memory = Some (codes "m3: out of memory")
message_of status.TooLong = Some (codes "m3: input too long")
