-- What stands earlier in a list of events.
use Rattle.std.specs.Prelude.{◌≡◌, ℕ, List, Option, Some, None, fold}
use Rattle.std.specs.List.{All, Any}
use Rattle.m3_model.specs.Members.{IsIn}
use Rattle.m3_model.specs.declared.placement.Placement.{Placement}
use Rattle.m3_model.specs.declared.point.Page.{Page}
use Rattle.m3_model.specs.declared.point.Point.{Point}
use Rattle.m3_model.specs.declared.point.Series.{Series}
use Rattle.m3_model.specs.declared.rules.Rules.{Rules}
use Rattle.placement_core.specs.Shards.{Shard, counted}
use Rattle.cluster_core.specs.Lists.{At}
use Rattle.cluster_core.specs.declared.event.Event.{Event}
use Rattle.cluster_core.specs.declared.event.Event.TheVariants as event
use Rattle.cluster_core.specs.declared.event.StepCall.TheVariants as call
use Rattle.cluster_core.specs.declared.event.StepReply.TheVariants as reply

-- ---- what an event is

abbrev pub IsClock : Rules → Event → Type 0
IsClock rules e = e ≡ event.Clock rules

abbrev pub IsSend : ℕ → ℕ → Point → Event → Type 0
IsSend version s point e = e ≡ event.Send version s point

-- a Place of the version with the shard
abbrev pub PlacesShard : ℕ → ℕ → Event → Type 0
PlacesShard version s (event.Place place done) = (place.version ≡ version) × (shard : Shard) × At place.shards s shard
PlacesShard version s _ = ⊥

-- a Place of the version in which these nodes count for the shard
abbrev pub CountsNodes : ℕ → ℕ → List ℕ → Event → Type 0
CountsNodes version s nodes (event.Place place done) = (place.version ≡ version) × (shard : Shard) × At place.shards s shard × All (λ n. IsIn (counted shard) n) nodes
CountsNodes version s nodes _ = ⊥

-- a Place that gives the node the shard with this tenure
abbrev pub GivesTenure : ℕ → ℕ → ℕ → Event → Type 0
GivesTenure n s tenure (event.Place place done) = (shard : Shard) × At place.shards s shard × Any (λ a. (a.node ≡ n) × (a.tenure ≡ tenure)) shard
GivesTenure n s tenure _ = ⊥

-- the replica took the point at the version
abbrev pub TookPoint : ℕ → ℕ → ℕ → Point → Event → Type 0
TookPoint n s version point (event.Step node shard (call.Put client number rules at_version p) reply.Done) = (node ≡ n) × (shard ≡ s) × (at_version ≡ version) × (p ≡ point)
TookPoint n s version point _ = ⊥

-- the replica gave this answer to the read for which the FetchStart asks
abbrev pub GaveAnswer : ℕ → Event → List Series → Event → Type 0
GaveAnswer n (event.FetchStart version s rules pick from to) answer (event.Step node shard (call.Read client number by_rules at_version of_pick least end) (reply.Found series)) =
    (node ≡ n) × (shard ≡ s) × (by_rules ≡ rules) × (at_version ≡ version) × (of_pick ≡ pick) × (least ≡ from) × (end ≡ to) × (series ≡ answer)
GaveAnswer n _ answer _ = ⊥

-- some replica of the shard gave the page
abbrev pub GavePage : ℕ → Page → Event → Type 0
GavePage s page (event.Step node shard c (reply.Paged given)) = (shard ≡ s) × (given ≡ page)
GavePage s page _ = ⊥

-- ---- what stands earlier

abbrev pub HasClock : List Event → Rules → Type 0
HasClock past rules = Any (IsClock rules) past

abbrev pub HasSend : List Event → ℕ → ℕ → Point → Type 0
HasSend past version s point = Any (IsSend version s point) past

abbrev pub HasShard : List Event → ℕ → ℕ → Type 0
HasShard past version s = Any (PlacesShard version s) past

abbrev pub AreCounted : List Event → ℕ → ℕ → List ℕ → Type 0
AreCounted past version s nodes = Any (CountsNodes version s nodes) past

abbrev pub HasTenure : List Event → ℕ → ℕ → ℕ → Type 0
HasTenure past n s tenure = Any (GivesTenure n s tenure) past

abbrev pub HasPut : List Event → ℕ → ℕ → ℕ → Point → Type 0
HasPut past n s version point = Any (TookPoint n s version point) past

abbrev pub HasPage : List Event → ℕ → Page → Type 0
HasPage past s page = Any (GavePage s page) past

-- the placement that stands
abbrev pub place_after : Option Placement → Event → Option Placement
place_after was (event.Place placement done) = Some placement
place_after was _ = was

abbrev pub last_place : List Event → Option Placement
last_place events = fold place_after None events

-- the moment and the namespaces that stand
abbrev pub clock_after : Option Rules → Event → Option Rules
clock_after was (event.Clock rules) = Some rules
clock_after was _ = was

abbrev pub last_clock : List Event → Option Rules
last_clock events = fold clock_after None events
