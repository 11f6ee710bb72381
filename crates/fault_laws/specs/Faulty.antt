-- Transcripts with disks that fail, nodes that are restarted and replicas that bootstrap: some whose answers have their causes, and some that are broken in one way.
use Rattle.std.specs.Prelude.{ℕ, ℤ, List, [], ◌∷◌, Some, None, pos, codes}
use Rattle.transcripts.specs.Faults.{Fault, Taking, Failing}
use Rattle.transcripts.specs.Faults as faults
use Rattle.m3_model.specs.declared.act.Act.{Act}
use Rattle.m3_model.specs.declared.act.Act.TheVariants as act
use Rattle.m3_model.specs.declared.act.WriteLevel.TheVariants as write_level
use Rattle.m3_model.specs.declared.answer.Answer.{Answer}
use Rattle.m3_model.specs.declared.answer.Answer.TheVariants as answer
use Rattle.m3_model.specs.declared.reason.Damage.{Damage}
use Rattle.m3_model.specs.declared.reason.Reason.{Reason}
use Rattle.m3_model.specs.declared.reason.Reason.TheVariants as reason
use Rattle.m3_model.specs.declared.turn.Turn.{Turn}
use Rattle.model_laws.specs.Building.{begun, line, init, made, named, moved, write, unmet, read, acks, place}
use Rattle.model_laws.specs.Messages.{stopped}

-- the disk of this node's replica of the only shard fails in the line that so many stand before
abbrev pub fails : ℕ → ℕ → Fault
fails lines node = record { line = lines; node = node; shard = 0; kind = Failing }

-- it can't be taken then
abbrev pub untaken : ℕ → ℕ → Fault
untaken lines node = record { line = lines; node = node; shard = 0; kind = Taking }

-- its files are found damaged then
abbrev pub damages : ℕ → ℕ → Fault
damages lines node = record { line = lines; node = node; shard = 0; kind = faults.Damaged }

-- a write of `hello` into `m` that all three nodes have to take
abbrev pub write_all : ℕ → ℤ → Act
write_all t v = act.Write (codes "m") (codes "hello") t v write_level.All None

-- the answer that c alone didn't take it, for this reason
abbrev pub all_but_c : Reason → Answer
all_but_c why = answer.Consistency 2 3 ((2, why) ∷ []) 0

-- a write that c alone didn't take
abbrev pub without_c : Reason → Turn
without_c why = line (write_all 100 (pos 5)) (all_but_c why)

-- all three took it
abbrev pub with_c : Turn
with_c = line (write_all 100 (pos 5)) (acks (0 ∷ 1 ∷ 2 ∷ []))

-- a restart of c with its answer
abbrev pub restart_c : Answer → Turn
restart_c b = line (act.Restart (codes "c") 0) b

-- c was restarted
abbrev pub c_restarted : Turn
c_restarted = restart_c answer.Done

-- a bootstrap of all replicas of c with its answer
abbrev pub bootstrap_c : Answer → Turn
bootstrap_c b = line (act.Bootstrap (codes "c") None) b

-- all replicas of c bootstrapped
abbrev pub c_bootstrapped : Turn
c_bootstrapped = bootstrap_c (answer.Available [] place 1)

-- ---- accepted

-- c is stopped and restarted: it is down, then waits for a bootstrap, and then takes the write
abbrev pub stopped_and_back : List Turn
stopped_and_back =
    begun 100 (
    stopped (codes "c")
    ∷ without_c reason.Down
    ∷ read 0 200 ((100, pos 5) ∷ [])
    ∷ c_restarted
    ∷ without_c reason.Boot
    ∷ c_bootstrapped
    ∷ with_c
    ∷ [])

-- the disk of c fails in the first write (line 3): c is down from then on, and comes back in the same way
abbrev pub failed_and_back : List Turn
failed_and_back =
    begun 100 (
    without_c reason.Disk
    ∷ without_c reason.Down
    ∷ stopped (codes "c")
    ∷ c_restarted
    ∷ without_c reason.Boot
    ∷ c_bootstrapped
    ∷ with_c
    ∷ [])

-- the disk of c fails in its restart (line 4): c stays stopped, and may be restarted again
abbrev pub restart_failed : List Turn
restart_failed =
    begun 100 (
    stopped (codes "c")
    ∷ restart_c (answer.Disk (codes "c") 0)
    ∷ line (act.Stop (codes "c")) (answer.State (codes "c"))
    ∷ without_c reason.Down
    ∷ c_restarted
    ∷ [])

-- c was stopped and restarted
abbrev pub back_again : List Turn
back_again = begun 100 (stopped (codes "c") ∷ c_restarted ∷ [])

-- the bootstrap of c (line 5) finds this damage, and c is down from then on
abbrev pub damaged_boot : Damage → List Turn
damaged_boot damage = begun 100 (stopped (codes "c") ∷ c_restarted ∷ bootstrap_c (answer.Corrupt (codes "c") 0 damage) ∷ without_c reason.Down ∷ [])

-- the disk of b fails in the `init` (line 0): there is no cluster yet, and the next `init` makes it
abbrev pub init_failed : List Turn
init_failed = init (answer.Disk (codes "b") 0) ∷ line (act.Stop (codes "b")) answer.Order ∷ made ∷ []

-- a bootstrap of a shard that isn't there, and one of a node that isn't there either
abbrev pub shard_missing : List Turn
shard_missing =
    begun 100 (
    line (act.Bootstrap (codes "c") (Some 1)) (answer.Unknown (codes "1"))
    ∷ line (act.Bootstrap (codes "x") (Some 1)) (answer.Unknown (codes "x"))
    ∷ [])

-- ---- refused

-- a replica that is down by a fault (in line 3), though its node was restarted since
abbrev pub down_restarted : List Turn
down_restarted = begun 100 (without_c reason.Disk ∷ stopped (codes "c") ∷ c_restarted ∷ without_c reason.Down ∷ [])

-- a replica that waits for a bootstrap, though its node's was answered ok
abbrev pub boot_bootstrapped : List Turn
boot_bootstrapped = begun 100 (stopped (codes "c") ∷ c_restarted ∷ c_bootstrapped ∷ without_c reason.Boot ∷ [])

-- a replica whose disk failed in this write
abbrev pub disk_at_once : List Turn
disk_at_once = begun 100 (without_c reason.Disk ∷ [])

-- a replica whose files were found damaged in this write
abbrev pub corrupt_at_once : Damage → List Turn
corrupt_at_once damage = begun 100 (without_c (reason.Corrupt damage) ∷ [])

-- a restart that fails at a shard that isn't there
abbrev pub no_shard_restarted : List Turn
no_shard_restarted = begun 100 (stopped (codes "c") ∷ restart_c (answer.Disk (codes "c") 1) ∷ [])

-- an `init` that does
abbrev pub no_shard_made : List Turn
no_shard_made = init (answer.Disk (codes "b") 1) ∷ []

-- a stopped node that bootstrapped
abbrev pub bootstrapped_stopped : List Turn
bootstrapped_stopped = begun 100 (stopped (codes "c") ∷ c_bootstrapped ∷ [])

-- a bootstrap of a shard that isn't there, which is answered ok
abbrev pub bootstrapped_missing : List Turn
bootstrapped_missing = begun 100 (line (act.Bootstrap (codes "c") (Some 1)) (answer.Available [] place 1) ∷ [])

-- a node that was restarted, though it wasn't stopped
abbrev pub restarted_running : List Turn
restarted_running = begun 100 (c_restarted ∷ [])

-- ---- kinds of faults

-- a write that the disks of a and c failed at
abbrev pub two_failed : List Turn
two_failed = begun 100 (line (write 100 (pos 5)) (unmet 1 ((0, reason.Disk) ∷ (2, reason.Disk) ∷ [])) ∷ [])

-- a write (line 3) that c alone didn't take, since it is down
abbrev pub c_down : List Turn
c_down = begun 100 (without_c reason.Down ∷ [])

-- an `init` (line 0) that couldn't take the disk of c, one (line 1) that made the cluster, and a write that c didn't take, since it is down
abbrev pub made_then_down : List Turn
made_then_down = init (answer.Disk (codes "c") 0) ∷ made ∷ named ∷ moved 100 ∷ without_c reason.Down ∷ []

-- a replica that waits for a bootstrap, though one of its shard was answered ok
abbrev pub boot_covered : List Turn
boot_covered = begun 100 (stopped (codes "c") ∷ c_restarted ∷ line (act.Bootstrap (codes "c") (Some 0)) (answer.Available [] place 1) ∷ without_c reason.Boot ∷ [])

-- the same where a's was answered ok instead
abbrev pub boot_of_another : List Turn
boot_of_another = begun 100 (stopped (codes "c") ∷ c_restarted ∷ line (act.Bootstrap (codes "a") (Some 0)) (answer.Available [] place 1) ∷ without_c reason.Boot ∷ [])

-- ---- a replica for which no bootstrap was asked

-- c is restarted, and takes a write though no bootstrap was asked since
abbrev pub idle_acked : List Turn
idle_acked = begun 100 (stopped (codes "c") ∷ c_restarted ∷ with_c ∷ [])

-- the same where one of b was asked, and one of c before it was stopped
abbrev pub other_asked : List Turn
other_asked = begun 100 (c_bootstrapped ∷ stopped (codes "c") ∷ c_restarted ∷ line (act.Bootstrap (codes "b") None) (answer.Available [] place 1) ∷ with_c ∷ [])

-- the same where one was asked that wanted memory
abbrev pub asked_and_acked : List Turn
asked_and_acked = begun 100 (stopped (codes "c") ∷ c_restarted ∷ bootstrap_c answer.Memory ∷ with_c ∷ [])
