-- What turns leave as it was, by their answers.
use Rattle.std.specs.Prelude.{◌≡◌, ℕ, ⊤, List, [], ◌∷◌, ◌++◌, Bool, IsTrue}
use Rattle.m3_model.specs.declared.act.Act.{Act}
use Rattle.m3_model.specs.declared.answer.Answer.{Answer}
use Rattle.m3_model.specs.declared.answer.Answer.TheVariants as answer
use Rattle.m3_model.specs.declared.turn.Reply.TheVariants as reply
use Rattle.m3_model.specs.declared.turn.Request.TheVariants as request
use Rattle.m3_model.specs.declared.turn.Turn.{Turn}
use Rattle.transcripts.specs.Deliveries.{delivers_nothing}
use Rattle.transcripts.specs.Fates.{calls_in, fates_set, numbering_after, numbering_by, stopped_by}
use Rattle.transcripts.specs.Record.{line_of}
use Rattle.line_tracks.specs.calls.Keeps.{SetsNothing}

-- ---- answers

-- the answer neither says that something was done nor prints a placement
abbrev pub SetsNone : Answer → Type 0
SetsNone answer.Done = ⊥
SetsNone (answer.Placed place version) = ⊥
SetsNone (answer.Available available place version) = ⊥
SetsNone _ = ⊤

-- the answer has no outcomes of late messages
abbrev pub DeliversNone : Answer → Type 0
DeliversNone (answer.Outcomes outcomes) = ⊥
DeliversNone _ = ⊤

-- the turn neither stops nor restarts a node
abbrev pub KeepsStops : Act → Answer → Type 0
KeepsStops a b = (name : List ℕ) (x : Bool) → stopped_by name a b x ≡ x

-- a turn that is answered so sets nothing
abbrev pub SetsNothingSo : Type 0
SetsNothingSo = (a : Act) (b : Answer) → SetsNone b → SetsNothing a b

-- neither stops nor restarts
abbrev pub KeepsStopsSo : Type 0
KeepsStopsSo = (a : Act) (b : Answer) → SetsNone b → KeepsStops a b

-- and delivers nothing
abbrev pub DeliversNothingSo : Type 0
DeliversNothingSo = (a : Act) (b : Answer) → DeliversNone b → IsTrue (delivers_nothing (line_of a b))

-- ---- numbers of calls

-- a line adds its calls to the number of the next one, unless it sets fates, which begin the numbering anew
abbrev pub NumbersGoOn : Type 0
NumbersGoOn = (turns : List Turn) (a : Act) (b : Answer) → numbering_after 0 (turns ++ line_of a b ∷ []) ≡ numbering_by (fates_set (request.One a) (reply.One b)) (calls_in (a ∷ [])) (numbering_after 0 turns)
