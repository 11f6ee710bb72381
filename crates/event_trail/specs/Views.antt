-- The calls, replies and events that views are made of.
use Rattle.std.specs.Prelude.{[], option_map}
use Rattle.cluster_core.specs.declared.event.Asked.TheVariants as asked
use Rattle.cluster_core.specs.declared.event.Event.{Event}
use Rattle.cluster_core.specs.declared.event.Event.TheVariants as event
use Rattle.cluster_core.specs.declared.event.StepCall.{StepCall}
use Rattle.cluster_core.specs.declared.event.StepCall.TheVariants as call
use Rattle.cluster_core.specs.declared.event.StepReply.{StepReply}
use Rattle.cluster_core.specs.declared.event.StepReply.TheVariants as reply
use Rattle.event_trail.specs.declared.views.CallParts.{CallParts}
use Rattle.event_trail.specs.declared.views.CallParts.TheVariants as calls
use Rattle.event_trail.specs.declared.views.EventParts.{EventParts}
use Rattle.event_trail.specs.declared.views.EventParts.TheVariants as events
use Rattle.event_trail.specs.declared.views.ReplyParts.{ReplyParts}
use Rattle.event_trail.specs.declared.views.ReplyParts.TheVariants as replies

abbrev pub call_of : CallParts → StepCall
call_of (calls.Begin tenure) = call.Begin tenure
call_of (calls.Put client number rules version point) = call.Put client number rules.value version point.value
call_of (calls.Read client number rules version pick from to) = call.Read client number rules.value version pick.value from to
call_of (calls.Fence version) = call.Fence version
call_of (calls.Page after) = call.Page (option_map (λ k. k.value) after)
call_of (calls.Merge page) = call.Merge page.value
call_of (calls.Tick rules) = call.Tick rules.value
call_of (calls.Flush rules) = call.Flush rules.value
call_of calls.Snapshot = call.Snapshot
call_of calls.Report = call.Report
call_of calls.End = call.End
call_of calls.Stop = call.Stop
call_of calls.Restart = call.Restart

abbrev pub reply_of : ReplyParts → StepReply
reply_of replies.Done = reply.Done
reply_of (replies.Began fence points) = reply.Began fence points.value
reply_of (replies.Found series) = reply.Found series.value
reply_of (replies.Paged page) = reply.Paged page.value
reply_of (replies.Count count) = reply.Count count
reply_of (replies.Told report) = reply.Told report.value
reply_of (replies.Refused reason) = reply.Refused reason.value

abbrev pub event_of : EventParts → Event
event_of (events.AskPlace place) = event.Ask (asked.Place place.value [])
event_of (events.Place place) = event.Place place.value []
event_of (events.AskEnded place done) = event.Ask (asked.Place place.value done.value)
event_of (events.Ended place done) = event.Place place.value done.value
event_of (events.AskClock rules) = event.Ask (asked.Clock rules.value)
event_of (events.Clock rules) = event.Clock rules.value
event_of (events.Send version shard point) = event.Send version shard point.value
event_of (events.Ack send nodes) = event.Ack send nodes.value
event_of (events.FetchStart version shard rules pick from to) = event.FetchStart version shard rules.value pick.value from to
event_of (events.FetchDone start nodes series) = event.FetchDone start nodes.value series.value
event_of (events.AskStep node shard call) = event.Ask (asked.Step node shard call.value)
event_of (events.Step node shard call reply) = event.Step node shard call.value reply.value
