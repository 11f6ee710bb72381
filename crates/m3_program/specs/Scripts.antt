-- What a run of a script promises.
use Rattle.std.specs.Prelude.{◌≡◌, List, [], ◌∷◌, ◌++◌, map, ℕ, Option, None, Some, IsSome, Bool, true}
use Rattle.std.specs.List.{flat_map}
use Rattle.m3_model.specs.Members.{IsIn}
use Rattle.m3_model.specs.declared.answer.Answer.TheVariants as answer
use Rattle.m3_model.specs.declared.rules.MetaState.{MetaState}
use Rattle.m3_model.specs.declared.turn.Reply.{Reply}
use Rattle.m3_model.specs.declared.turn.Reply.TheVariants as reply
use Rattle.m3_model.specs.declared.turn.Request.{Request}
use Rattle.m3_model.specs.declared.turn.Turn.{Turn}
use Rattle.served_acts.specs.NotYet.{IsServed}
use Rattle.transcripts.specs.Joined.{Joined}
use Rattle.transcripts.specs.Kept.{Kept}
use Rattle.transcripts.specs.Record.{IsAnsweredBy, Life, Record}
use Rattle.m3_outside.specs.DiskState.{DiskState}
use Rattle.m3_outside.specs.Depots.{Depot}
use Rattle.saved_cluster.specs.first_cluster.Depots.{meta_slot}
use Rattle.load_gen.specs.Script.{script}
use Rattle.load_gen.specs.Summaries.{summary_line}
use Rattle.m3_program.specs.Faults.{counts_of}
use Rattle.m3_program.specs.Lives.{StandFor, StandsStill}
use Rattle.m3_program.specs.Openings.{MayOpen}
use Rattle.m3_program.specs.Runs.{HasCauses}
use Rattle.m3_program.specs.Saved.{IsFound, LeavesMeta}
use Rattle.m3_program.specs.declared.status.Status.{Status}
use Rattle.m3_program.specs.declared.status.Status.TheVariants as status

-- What came of a request of a script: no part of the program serves it yet, or it made a turn.
pub data ScriptPart : Type 0 where
  Deferred : (request : Request) → ScriptPart
  Served : (turn : Turn) → ScriptPart

abbrev pub request_of : ScriptPart → Request
request_of (Deferred request) = request
request_of (Served turn) = turn.request

abbrev pub reply_of : ScriptPart → Reply
reply_of (Deferred request) = reply.One answer.Later
reply_of (Served turn) = turn.reply

abbrev pub turns_of_part : ScriptPart → List Turn
turns_of_part (Deferred request) = []
turns_of_part (Served turn) = turn ∷ []

-- the turns of these requests
abbrev pub turns_of_parts : List ScriptPart → List Turn
turns_of_parts parts = flat_map turns_of_part parts

-- A request is put off only if no part of the program serves it; and a served one is answered in its own shape.
abbrev pub IsPart : ScriptPart → Type 0
IsPart (Deferred request) = ¬ IsServed request
IsPart (Served turn) = IsAnsweredBy turn.request turn.reply

-- so is each of these
abbrev pub AreParts : List ScriptPart → Type 0
AreParts parts = (part : ScriptPart) → IsIn parts part → IsPart part

-- the next request is the one that was taken and got no reply, if there is one
abbrev pub IsTaken : Option Request → List Request → Type 0
IsTaken None later = Unit {0}
IsTaken (Some request) [] = ⊥
IsTaken (Some request) (next ∷ later) = next ≡ request

-- The course of a run of a number's script: what came of its requests in their order, as far as it got; the next one was taken and got no reply, or none was.
pub record Play (number : ℕ) : Type 0 where
  pub parts : List ScriptPart
  pub later : List Request
  pub unanswered : Option Request
  pub of_script : script number ≡ map request_of parts ++ later
  pub taken : IsTaken unanswered later
  pub each : AreParts parts

-- how far a run got that ended so: to the end of the script, and then its summary is written, or a front of that; or the meta disk failed for a request, or memory was wanted before
abbrev pub PlayedTo : Status → List ScriptPart → List Request → Option Request → List ℕ → Type 0
PlayedTo status.Done parts later unanswered written = (later ≡ []) × (written ≡ summary_line (map reply_of parts))
PlayedTo status.WriteFault parts later unanswered written = (later ≡ []) × (lost : List ℕ) × (summary_line (map reply_of parts) ≡ written ++ lost)
PlayedTo status.DiskFault parts later unanswered written = (written ≡ []) × IsSome unanswered
PlayedTo status.Memory parts later unanswered written = written ≡ []
PlayedTo _ parts later unanswered written = ⊥

-- the record of the run
abbrev pub record_of_parts : Option MetaState → List ScriptPart → Option Request → Record
record_of_parts start parts unanswered = record { start = start; turns = turns_of_parts parts; unanswered = unanswered }

-- the life that the run and the earlier ones on the same disks make
abbrev pub life_of_parts : List Record → Option MetaState → List ScriptPart → Option Request → Life
life_of_parts past start parts unanswered = record { past = past; present = record_of_parts start parts unanswered }

-- What a run of a number's script did that ended so and wrote this, whose cluster was opened over disks that were so, with the last state that the meta disk had, and that left them so: the same
-- as of a run that reads lines.
pub record HasGenerated {D : Type 0} (state : D → DiskState) (first now : Depot D) (start : Option MetaState) (number : ℕ) (ended : Status) (written : List ℕ) : Type 0 where
  pub found : IsFound state first start
  pub course : Play number
  pub played_to : PlayedTo ended course.parts course.later course.unanswered written
  pub meta : LeavesMeta state (now.held meta_slot) start (turns_of_parts course.parts) course.unanswered
  pub joined : (past : List Record) → Joined (life_of_parts past start course.parts course.unanswered)
  pub kept : (past : List Record) → StandFor state past first.held → Kept (life_of_parts past start course.parts course.unanswered)
  pub causes : (tells : Bool) (past : List Record) → (tells ≡ true → StandFor state past first.held) → HasCauses tells (counts_of first) (counts_of now) (life_of_parts past start course.parts course.unanswered)
  pub leaves : (past : List Record) → StandFor state past first.held → StandFor state (past ++ record_of_parts start course.parts course.unanswered ∷ []) now.held

-- what any run of it did: where its cluster wasn't opened, nothing was written, and the disks stand for what they stood for
abbrev pub Generates : {D : Type 0} → (D → DiskState) → Depot D → Depot D → ℕ → Status → List ℕ → Type 0
Generates state first now number ended written = MayOpen state first now ended (λ start. HasGenerated state first now start number ended written) ((written ≡ []) × StandsStill state first.held now.held)
