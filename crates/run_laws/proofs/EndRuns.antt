-- Why a run ends as it does.
use Rattle.std.proofs.Common.{ℕ, ◌<◌, inl, inr, arith}
use Rattle.std.specs.Prelude.{◌⊎◌}
use Rattle.m3_outside.specs.Causes.{Rose}
use Rattle.m3_program.specs.Causes.{EndsIdly, EndsReading, EndsScript}
use Rattle.m3_program.specs.declared.status.Status.TheVariants as status

-- a count that stands didn't rise
still : (n : ℕ) → n < 9 → ¬ Rose n n
still n low rose = omega (arith, low, rose)

sink_still : ¬ (Rose 3 3 ⊎ Rose 4 4)
sink_still (inl faults) = still 3 (omega arith) faults
sink_still (inr stalls) = still 4 (omega arith) stalls

-- ---- faults

pub source-refused : (faults faults2 stalls stalls2 disk disk2 : ℕ) → ¬ EndsReading status.ReadFault 3 3 faults faults2 stalls stalls2 disk disk2
source-refused faults faults2 stalls stalls2 disk disk2 rose = still 3 (omega arith) rose

pub sink-refused : (reads reads2 disk disk2 : ℕ) → ¬ EndsReading status.WriteFault reads reads2 3 3 4 4 disk disk2
sink-refused reads reads2 disk disk2 rose = sink_still rose

pub disk-refused : (reads reads2 faults faults2 stalls stalls2 : ℕ) → ¬ EndsReading status.DiskFault reads reads2 faults faults2 stalls stalls2 5 5
disk-refused reads reads2 faults faults2 stalls stalls2 rose = still 5 (omega arith) rose

pub script_sink-refused : (disk disk2 : ℕ) → ¬ EndsScript status.WriteFault 3 3 4 4 disk disk2
script_sink-refused disk disk2 rose = sink_still rose

pub script_disk-refused : (faults faults2 stalls stalls2 : ℕ) → ¬ EndsScript status.DiskFault faults faults2 stalls stalls2 5 5
script_disk-refused faults faults2 stalls stalls2 rose = still 5 (omega arith) rose

-- ---- statuses of other tasks

pub lines-refused : (reads reads2 faults faults2 stalls stalls2 disk disk2 : ℕ) → ¬ EndsReading status.Usage reads reads2 faults faults2 stalls stalls2 disk disk2
lines-refused reads reads2 faults faults2 stalls stalls2 disk disk2 h = h

pub script-refused : (faults faults2 stalls stalls2 disk disk2 : ℕ) → ¬ EndsScript status.ReadFault faults faults2 stalls stalls2 disk disk2
script-refused faults faults2 stalls stalls2 disk disk2 h = h

pub idle-refused : ¬ EndsIdly status.Done
idle-refused h = h
