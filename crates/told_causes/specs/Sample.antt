-- A run that finds a replica which nobody began, and hears so from it.
use Rattle.std.specs.Prelude.{List, [], ◌∷◌, None, Some, false, true}
use Rattle.m3_model.specs.declared.act.Act.TheVariants as act
use Rattle.m3_model.specs.declared.answer.Answer.{Answer}
use Rattle.m3_model.specs.declared.answer.Answer.TheVariants as answer
use Rattle.m3_model.specs.declared.reason.Reason.TheVariants as reason
use Rattle.m3_model.specs.declared.rules.MetaState.{MetaState}
use Rattle.m3_model.specs.declared.turn.Turn.{Turn}
use Rattle.transcripts.specs.Record.{TurnPosition, line_of}
use Rattle.cluster_core.specs.Legal.{Legal}
use Rattle.cluster_core.specs.declared.event.Asked.TheVariants as asked
use Rattle.cluster_core.specs.declared.event.Event.{Event}
use Rattle.cluster_core.specs.declared.event.Event.TheVariants as event
use Rattle.cluster_core.specs.declared.event.StepCall.TheVariants as call
use Rattle.cluster_core.specs.declared.event.StepReply.TheVariants as reply
use Rattle.told_by.specs.Hears.{Happens, InStretch}
use Rattle.told_by.specs.Lines.{position_after}
use Rattle.told_by.specs.Sample.{begun, fetched, name, place, placed, rules, series, spaced, written, events as short_events, turns as short_turns}
use Rattle.told_by.specs.Told.{ToldBy}
use Rattle.told_causes.specs.Boot.{IsKnownMember}
use Rattle.told_causes.specs.Calls.{IsKnownCall}

abbrev pub found : MetaState
found = record { rules = rules; seed = 0; place = place }

abbrev pub swept : Answer
swept = answer.Swept [] ((0, 0, reason.Boot) ∷ [])

abbrev pub turns : List Turn
turns = line_of act.Tick swept ∷ []

abbrev pub events : List Event
events = event.Place place [] ∷ event.Clock rules ∷ event.Ask (asked.Step 0 0 (call.Tick rules)) ∷ event.Step 0 0 (call.Tick rules) (reply.Refused reason.Boot) ∷ []

abbrev pub ticking : TurnPosition
ticking = position_after [] act.Tick swept

-- The premises of the cause of such a refusal can be met: a legal list tells of the run, the replica is a known member, and the refusal happens in the turn's stretch.
abbrev pub BootIsHeard : Type 0
BootIsHeard =
    (told : ToldBy (Some found) turns events) × Legal true events × IsKnownMember (Some found) turns events told ticking 0 0 name
    × Happens (InStretch events (told.spans.from ticking) (told.spans.to ticking)) (event.Step 0 0 (call.Tick rules) (reply.Refused reason.Boot))

-- ---- the short run

-- its lines before the read
abbrev pub lines_before : List Turn
lines_before = line_of begun placed ∷ line_of spaced answer.Done ∷ line_of written (answer.Acks (0 ∷ [])) ∷ []

-- What is asked of a call can be met, too: by the read of the short run.
abbrev pub ReadIsKnown : Type 0
ReadIsKnown = (told : ToldBy None short_turns short_events) × IsKnownCall true None short_turns short_events told (position_after lines_before fetched (answer.Found series false))
