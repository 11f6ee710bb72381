-- What a run promises of its input and its output.
use Rattle.m3_model.specs.declared.limits.TheConstants.{INPUT_END}
use Rattle.std.specs.List.{flat_map}
use Rattle.std.specs.Prelude.{◌≡◌, ℕ, ◌<◌, ◌≤◌, List, [], ◌∷◌, ◌++◌, map, length, Option, Some, None, IsSome, Ok, if◌then◌else◌, ◌==◌, Bool, true}
use Rattle.m3_model.specs.Members.{IsIn}
use Rattle.m3_model.specs.declared.rules.MetaState.{MetaState}
use Rattle.m3_model.specs.declared.turn.Request.{Request}
use Rattle.transcripts.specs.Faults.{Fault}
use Rattle.transcripts.specs.Record.{Life, Record}
use Rattle.transcripts.specs.Joined.{Joined}
use Rattle.transcripts.specs.Kept.{Kept}
use Rattle.transcripts.specs.Caused.{Caused}
use Rattle.m3_outside.specs.DiskState.{DiskState}
use Rattle.m3_json.specs.Requests.{LineMeans}
use Rattle.m3_outside.specs.Depots.{Depot}
use Rattle.saved_cluster.specs.first_cluster.Depots.{meta_slot}
use Rattle.m3_program.specs.Exchanges.{Exchange, AreExchanges, turns_of, replies_text}
use Rattle.m3_program.specs.Faults.{AreCauses, Counts, counts_of}
use Rattle.m3_program.specs.Lives.{StandFor, StandsStill}
use Rattle.m3_program.specs.Openings.{MayOpen}
use Rattle.m3_program.specs.Saved.{IsFound, LeavesMeta}
use Rattle.m3_program.specs.declared.status.Status.{Status}
use Rattle.m3_program.specs.declared.status.Status.TheVariants as status

-- a byte before the first of these lines
abbrev pub with_byte : ℕ → List (List ℕ) → List (List ℕ)
with_byte b [] = (b ∷ []) ∷ []
with_byte b (line ∷ lines) = (b ∷ line) ∷ lines

-- the lines of an input without their newlines; a last one without newline is a line
abbrev pub lines_of : List ℕ → List (List ℕ)
lines_of [] = []
lines_of (b ∷ bytes) = if b == 10 then [] ∷ lines_of bytes else with_byte b (lines_of bytes)

-- the next line is the request that was taken and got no reply, if there is one
abbrev pub IsNext : Option Request → List (List ℕ) → Type 0
IsNext None lines = Unit {0}
IsNext (Some request) [] = ⊥
IsNext (Some request) (line ∷ lines) = LineMeans line (Ok request)

-- These are the first lines of some bytes, and what came of them; the next line is the request that was taken and got no reply, if there is one.
pub record TakesLines (bytes : List ℕ) (xs : List Exchange) (unanswered : Option Request) : Type 0 where
  pub later : List (List ℕ)
  pub lines_are : lines_of bytes ≡ map (λ x. x.line) xs ++ later
  pub next : IsNext unanswered later

-- The course of a run that opened with this state and took these bytes of its input: what came of the lines of what it took, as far as it got.
pub record Course (start : Option MetaState) (input taken : List ℕ) : Type 0 where
  pub exchanges : List Exchange
  pub unanswered : Option Request
  pub each : AreExchanges start exchanges
  pub of_input : TakesLines input exchanges unanswered
  pub of_taken : TakesLines taken exchanges unanswered

-- the record of the run
abbrev pub record_of : (start : Option MetaState) → List Exchange → Option Request → Record
record_of start xs unanswered = record { start = start; turns = turns_of xs; unanswered = unanswered }

-- the life that the run and the earlier ones on the same disks make
abbrev pub life_with : List Record → Option MetaState → List Exchange → Option Request → Life
life_with past start xs unanswered = record { past = past; present = record_of start xs unanswered }

-- Why the answers of a life's present run are what they are, over faults that the counts show. Where the disks tell what they hold, more is said of them.
pub record HasCauses (tells : Bool) (before now : Counts) (life : Life) : Type 0 where
  pub faults : List Fault
  pub counted : AreCauses tells life.present before now faults
  pub caused : Caused tells life faults

-- the lines with their newlines
abbrev pub lines_text : List Exchange → List ℕ
lines_text xs = flat_map (λ x. x.line ++ 10 ∷ []) xs

-- these are the whole lines of what was taken; what comes behind them has no newline
pub record AreWholeLines (taken : List ℕ) (xs : List Exchange) : Type 0 where
  pub open_line : List ℕ
  pub are : taken ≡ lines_text xs ++ open_line
  pub no_end : ¬ IsIn open_line 10

-- each reply was written but the last, and of that one a front
pub record IsCutOff (written : List ℕ) (xs : List Exchange) : Type 0 where
  pub before : List Exchange
  pub last : List Exchange
  pub parts : xs ≡ before ++ last
  pub few : length last ≤ 1
  pub part : List ℕ
  pub rest : List ℕ
  pub of_last : replies_text last ≡ part ++ rest
  pub are : written ≡ replies_text before ++ part

-- What was taken is what came earlier and a last piece of at most 65,536 bytes: each reply to the lines that ended earlier was written, and
-- of the replies to the others a front.
pub record IsCutInPiece (taken written : List ℕ) (xs : List Exchange) : Type 0 where
  pub earlier : List ℕ
  pub piece : List ℕ
  pub of_taken : taken ≡ earlier ++ piece
  pub short : length piece ≤ 65536
  pub before : List Exchange
  pub last : List Exchange
  pub parts : xs ≡ before ++ last
  pub ended : AreWholeLines earlier before
  pub part : List ℕ
  pub rest : List ℕ
  pub of_last : replies_text last ≡ part ++ rest
  pub are : written ≡ replies_text before ++ part

-- How far a run got that ended so. Where the meta disk failed it was for a request that got no reply; where the source failed, or too much was taken, none was taken without one.
abbrev pub GotTo : Status → List ℕ → List ℕ → List ℕ → List Exchange → Option Request → List (List ℕ) → Type 0
GotTo status.Done taken left written xs unanswered later = (later ≡ []) × (written ≡ replies_text xs) × (left ≡ []) × (length taken < INPUT_END)
GotTo status.TooLong taken left written xs unanswered later = AreWholeLines taken xs × (written ≡ replies_text xs) × (length taken ≡ INPUT_END) × (unanswered ≡ None)
GotTo status.ReadFault taken left written xs unanswered later = AreWholeLines taken xs × (written ≡ replies_text xs) × (unanswered ≡ None)
GotTo status.WriteFault taken left written xs unanswered later = IsCutInPiece taken written xs
GotTo status.DiskFault taken left written xs unanswered later = (written ≡ replies_text xs) × IsSome unanswered
GotTo status.Memory taken left written xs unanswered later = IsCutOff written xs
GotTo _ taken left written xs unanswered later = ⊥

-- What a run did that took at most so much of this input from a source, left the rest, and wrote this to a sink, over any disks.
pub record Ran (start : Option MetaState) (ended : Status) (input left written : List ℕ) : Type 0 where
  pub taken : List ℕ
  pub parts : input ≡ taken ++ left
  pub few : length taken ≤ INPUT_END
  pub course : Course start input taken
  pub got_to : GotTo ended taken left written course.exchanges course.unanswered course.of_input.later

-- What a run did whose cluster was opened over disks that were so, with the last state that the meta disk had, and that left them so: what a stop leaves of the meta disk has the state that the
-- replies led to. Each node that turned available was joined by a bootstrap that prints a majority of the former replicas, whatever the disks tell and whatever runs were before. Where the disks
-- stood for these runs the reads keep what they must, of what these acknowledged too; the answers have their causes, of which more is said there; and the disks stand for these runs and this one,
-- however it ended.
pub record HasRun {D : Type 0} (state : D → DiskState) (first now : Depot D) (start : Option MetaState) (ended : Status) (input left written : List ℕ) : Type 0 where
  pub found : IsFound state first start
  pub ran : Ran start ended input left written
  pub meta : LeavesMeta state (now.held meta_slot) start (turns_of ran.course.exchanges) ran.course.unanswered
  pub joined : (past : List Record) → Joined (life_with past start ran.course.exchanges ran.course.unanswered)
  pub kept : (past : List Record) → StandFor state past first.held → Kept (life_with past start ran.course.exchanges ran.course.unanswered)
  pub causes : (tells : Bool) (past : List Record) → (tells ≡ true → StandFor state past first.held) → HasCauses tells (counts_of first) (counts_of now) (life_with past start ran.course.exchanges ran.course.unanswered)
  pub leaves : (past : List Record) → StandFor state past first.held → StandFor state (past ++ record_of start ran.course.exchanges ran.course.unanswered ∷ []) now.held

-- what any run did: where its cluster wasn't opened, nothing was read or written, and the disks stand for what they stood for
abbrev pub Runs : {D : Type 0} → (D → DiskState) → Depot D → Depot D → Status → List ℕ → List ℕ → List ℕ → Type 0
Runs state first now ended input left written = MayOpen state first now ended (λ start. HasRun state first now start ended input left written) ((left ≡ input) × (written ≡ []) × StandsStill state first.held now.held)
