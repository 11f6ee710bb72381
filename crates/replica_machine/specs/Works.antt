-- What a machine has done since it was made.
use Rattle.std.specs.Prelude.{ℕ, ◌+◌, ◌%◌, ◌^◌, Result, Ok, Err}
use Rattle.replica_machine.specs.declared.work.Work.{Work}

abbrev pub no_work : Work
no_work = record { ticks = 0; flushes = 0; snapshots = 0; sum = 0 }

-- counts and sums are those modulo 2 ^ 64
abbrev pub wrapped : ℕ → ℕ
wrapped n = n % 2 ^ 64

-- a call more, which answered a number
abbrev pub with_tick : ℕ → Work → Work
with_tick n w = record w { ticks = wrapped (w.ticks + 1); sum = wrapped (w.sum + n) }

abbrev pub with_flush : ℕ → Work → Work
with_flush n w = record w { flushes = wrapped (w.flushes + 1); sum = wrapped (w.sum + n) }

abbrev pub with_snapshot : ℕ → Work → Work
with_snapshot n w = record w { snapshots = wrapped (w.snapshots + 1); sum = wrapped (w.sum + n) }

abbrev pub with_merge : ℕ → Work → Work
with_merge n w = record w { sum = wrapped (w.sum + n) }

-- a call that was refused counts for nothing
abbrev pub work_after : {E : Type 0} → (ℕ → Work → Work) → Result ℕ E → Work → Work
work_after done (Ok n) w = done n w
work_after done (Err e) w = w
