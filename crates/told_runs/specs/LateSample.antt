-- A run whose write's one message is late and is delivered by a later line: it is served line by line, and what is asked of a delivery can be met by it.
use Rattle.std.specs.Prelude.{List, [], ◌∷◌, ◌++◌, None, Bool}
use Rattle.m3_model.specs.declared.act.Act.{Act}
use Rattle.m3_model.specs.declared.act.Act.TheVariants as act
use Rattle.m3_model.specs.declared.act.Fate.TheVariants as fate
use Rattle.m3_model.specs.declared.answer.Answer.{Answer}
use Rattle.m3_model.specs.declared.answer.Answer.TheVariants as answer
use Rattle.m3_model.specs.declared.reason.Reason.TheVariants as reason
use Rattle.m3_model.specs.declared.turn.Turn.{Turn}
use Rattle.cluster_core.specs.Legal.{Legal}
use Rattle.cluster_core.specs.declared.event.Asked.TheVariants as asked
use Rattle.cluster_core.specs.declared.event.Event.{Event}
use Rattle.cluster_core.specs.declared.event.Event.TheVariants as event
use Rattle.cluster_core.specs.declared.event.StepReply.TheVariants as reply
use Rattle.transcripts.specs.Deliveries.{LateMessage}
use Rattle.transcripts.specs.Record.{TurnPosition, line_of}
use Rattle.told_by.specs.Lines.{position_after}
use Rattle.told_by.specs.Sample.{begun, name, of_init, of_space, place, placed, point, put, spaced, written}
use Rattle.told_by.specs.Told.{ToldBy}
use Rattle.told_causes.specs.Deliveries.{IsKnownDelivery}
use Rattle.told_runs.specs.Lines.{IsToldAndServed}

-- ---- its lines

abbrev pub fated : Act
fated = act.Fates ((0, 0, name, fate.Late) ∷ [])

abbrev pub missed : Answer
missed = answer.Consistency 0 1 ((0, reason.Cut) ∷ []) 0

abbrev pub came : Answer
came = answer.Outcomes ((0, 0, None) ∷ [])

abbrev pub lines_to_fates : List Turn
lines_to_fates = line_of begun placed ∷ line_of spaced answer.Done ∷ line_of fated answer.Done ∷ []

abbrev pub lines_to_write : List Turn
lines_to_write = line_of begun placed ∷ line_of spaced answer.Done ∷ line_of fated answer.Done ∷ line_of written missed ∷ []

abbrev pub turns : List Turn
turns = line_of begun placed ∷ line_of spaced answer.Done ∷ line_of fated answer.Done ∷ line_of written missed ∷ line_of act.Deliver came ∷ []

abbrev pub delivering : TurnPosition
delivering = position_after lines_to_write act.Deliver came

abbrev pub message : LateMessage
message = record { position = position_after lines_to_fates written missed; used = place; node = 0; point = point }

-- ---- its events

abbrev pub events_to_space : List Event
events_to_space = of_init ++ of_space

abbrev pub events_to_write : List Event
events_to_write = events_to_space ++ event.Send 1 0 point ∷ []

abbrev pub of_delivery : List Event
of_delivery = event.Ask (asked.Step 0 0 put) ∷ event.Step 0 0 put reply.Done ∷ []

abbrev pub events : List Event
events = events_to_write ++ of_delivery

-- The list is legal, tells of the run, and the run is served, with some late messages delivered.
abbrev pub LateIsServed : Bool → Type 0
LateIsServed tells = Legal tells events × (delivered : TurnPosition → List LateMessage) × IsToldAndServed tells [] delivered [] None turns None events

-- What is asked of a delivery is so of its last turn.
abbrev pub DeliveryIsKnown : Bool → Type 0
DeliveryIsKnown tells = (told : ToldBy None turns events) × IsKnownDelivery tells None turns events told delivering
