-- How far a run of a script has come.
use Rattle.std.specs.Prelude.{◌≡◌, List, [], ◌∷◌, ◌++◌, map, ℕ, Option, Some, IsSome}
use Rattle.m3_model.specs.declared.turn.Reply.{Reply}
use Rattle.m3_model.specs.declared.turn.Request.{Request}
use Rattle.m3_outside.specs.DiskState.{DiskState}
use Rattle.m3_outside.specs.declared.disk.Disk.{Ghosts}
use Rattle.load_gen.specs.Script.{script}
use Rattle.load_gen.specs.Summaries.{Counts}
use Rattle.load_gen.specs.declared.summary.Summary.{Summary}
use Rattle.m3_program.specs.Scripts.{AreParts, IsTaken, ScriptPart, PlayedTo, reply_of, request_of, turns_of_parts}
use Rattle.m3_program.specs.Streams.{HaveServed, Opening, Stage, StandsAfter}
use Rattle.m3_program.specs.declared.status.Status.{Status}
use Rattle.m3_program.specs.declared.status.Status.TheVariants as status

-- these parts came of the requests so far, and how the run stands after them
pub record Going {D : Type 0} {G : Ghosts D} (state : D → DiskState) (first : Opening D G) (parts : List ScriptPart) (now : Stage D G) : Type 0 where
  pub each : AreParts parts
  pub stands : StandsAfter state first (turns_of_parts parts) now

-- the request got this reply, after the parts that came before it
abbrev pub Continues : {D : Type 0} {G : Ghosts D} → (D → DiskState) → Stage D G → Request → Reply → Stage D G → Type 0
Continues {D} {G} state old request reply new =
    (first : Opening D G) (parts : List ScriptPart) → Going state first parts old → (part : ScriptPart) × (request_of part ≡ request) × (reply_of part ≡ reply) × Going state first (parts ++ part ∷ []) new

-- the request got no reply
abbrev pub Loses : {D : Type 0} {G : Ghosts D} → (D → DiskState) → Stage D G → Request → Stage D G → Type 0
Loses {D} {G} state old request new = (first : Opening D G) (parts : List ScriptPart) → Going state first parts old → HaveServed state first new (turns_of_parts parts) (Some request)

-- These requests of a number's script are left.
pub record IsWithin {D : Type 0} {G : Ghosts D} (state : D → DiskState) (first : Opening D G) (number : ℕ) (parts : List ScriptPart) (later : List Request) (now : Stage D G) : Type 0 where
  pub of_script : script number ≡ map request_of parts ++ later
  pub going : Going state first parts now

-- the same, and the summary has the numbers of the replies
pub record Goes {D : Type 0} {G : Ghosts D} (state : D → DiskState) (first : Opening D G) (number : ℕ) (later : List Request) (summary : Summary) (now : Stage D G) : Type 0 where
  pub parts : List ScriptPart
  pub within : IsWithin state first number parts later now
  pub counts : Counts (map reply_of parts) summary

-- it came so far, and goes no further; the next request may have been taken, and got no reply: it was where this failed
pub record Stopped {D : Type 0} {G : Ghosts D} (state : D → DiskState) (first : Opening D G) (number : ℕ) (now : Stage D G) (Failed : Type 0) : Type 0 where
  pub parts : List ScriptPart
  pub later : List Request
  pub unanswered : Option Request
  pub of_script : script number ≡ map request_of parts ++ later
  pub taken : IsTaken unanswered later
  pub each : AreParts parts
  pub served : HaveServed state first now (turns_of_parts parts) unanswered
  pub was_taken : Failed → IsSome unanswered

-- it ended so, before its disks are given back
pub record HasPlayed {D : Type 0} {G : Ghosts D} (state : D → DiskState) (first : Opening D G) (number : ℕ) (ended : Status) (written : List ℕ) (now : Stage D G) : Type 0 where
  pub stopped : Stopped state first number now (ended ≡ status.DiskFault)
  pub played_to : PlayedTo ended stopped.parts stopped.later stopped.unanswered written
