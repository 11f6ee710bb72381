-- Lines of several clients and workers: with replies of their shape, and refused as a whole.
use Rattle.std.specs.Prelude.{List, [], ◌∷◌, pos}
use Rattle.m3_model.specs.declared.act.Act.{Act}
use Rattle.m3_model.specs.declared.answer.Answer.{Answer}
use Rattle.m3_model.specs.declared.answer.Answer.TheVariants as answer
use Rattle.m3_model.specs.declared.turn.Request.{Request}
use Rattle.m3_model.specs.declared.turn.Request.TheVariants as request
use Rattle.m3_model.specs.declared.turn.Reply.{Reply}
use Rattle.m3_model.specs.declared.turn.Reply.TheVariants as reply
use Rattle.m3_model.specs.declared.turn.Turn.{Turn}
use Rattle.transcripts.specs.Record.{IsAnsweredBy}
use Rattle.model_laws.specs.Building.{begun, write, fetch}

-- a line with a reply
abbrev pub turn_of : Request → Reply → Turn
turn_of asked replied = record { request = asked; reply = replied }

-- lists of answers are the reply to lists of acts
abbrev pub AreAnswered : List (List Act) → List (List Act) → List (List Answer) → List (List Answer) → Type 0
AreAnswered clients workers for_clients for_workers = IsAnsweredBy (request.Par clients workers) (reply.Par for_clients for_workers)

-- two clients, of which one writes and the other reads
abbrev pub writer_and_reader : Request
writer_and_reader = request.Par ((write 100 (pos 5) ∷ []) ∷ (fetch 0 200 ∷ []) ∷ []) []

-- the line of both, refused as a whole
abbrev pub refused_whole : Answer → Turn
refused_whole b = turn_of writer_and_reader (reply.One b)

-- it is refused so though a placement stands
abbrev pub refused_whole_late : Answer → List Turn
refused_whole_late b = begun 100 (refused_whole b ∷ [])

-- it is refused so before there is a cluster
abbrev pub refused_whole_early : List Turn
refused_whole_early = refused_whole answer.Order ∷ []
