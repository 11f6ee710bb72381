-- Faults of a run of one line, and counts that may show them.
use Rattle.std.specs.Prelude.{ℕ, [], ◌∷◌, None, if◌then◌else◌, nat_eq, ◌&&◌}
use Rattle.transcripts.specs.Faults.{Fault, FaultKind}
use Rattle.transcripts.specs.Record.{Record}
use Rattle.model_laws.specs.Building.{made}
use Rattle.m3_program.specs.Faults.{Counts}

-- a run of an `init`
abbrev pub one_line : Record
one_line = record { start = None; turns = made ∷ []; unanswered = None }

-- so many faults are counted in all, and so many of the disk of node 0 for shard 0
abbrev pub counts_of_two : ℕ → ℕ → Counts
counts_of_two all first = record { all = all; of_disk = λ s. if nat_eq 0 s.node && nat_eq 0 s.shard then first else 0 }

-- a fault of this kind in this line, at the slot of the node for shard 0
abbrev pub fault_of : FaultKind → ℕ → ℕ → Fault
fault_of kind line node = record { line = line; node = node; shard = 0; kind = kind }
