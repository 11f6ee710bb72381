-- What came of one replica of a node.
use Rattle.std.specs.Prelude.{◌≡◌, ◌⊎◌, ◌≤◌, ℕ, List, [], ◌∷◌, length, Option, Some, None, Bool, true, false, Result, Ok, Err}
use Rattle.m3_model.specs.Levels.{majority}
use Rattle.m3_model.specs.Members.{IsIn}
use Rattle.m3_model.specs.declared.placement.Assignment.{Assignment}
use Rattle.m3_model.specs.declared.placement.Placement.{Placement}
use Rattle.m3_model.specs.declared.point.Point.{Point}
use Rattle.m3_model.specs.declared.reason.Reason.{Reason}
use Rattle.m3_model.specs.declared.reason.Reason.TheVariants as reason
use Rattle.session_net.specs.cluster_core.declared.event.Event.{Event}
use Rattle.session_net.specs.cluster_core.declared.event.StepCall.TheVariants as call
use Rattle.session_net.specs.cluster_core.declared.event.StepReply.TheVariants as reply
use Rattle.session_net.specs.m3_outside.DiskState.{DiskState}
use Rattle.session_net.specs.replica_calls.Calls.{Tracked}
use Rattle.session_net.specs.replica_exchange.MachineCalls.{HasRoom}
use Rattle.session_net.specs.Runs.{Ran}
use Rattle.peer_streams.specs.Joins.{AskedPeer, HasJoinedBy, IsEnding, IsHeldUp, IsUnbegun, MissesPeers, StaysAsItWas, StopsShort, begun_with, reasons_of, streamed_of}
use Rattle.peer_streams.specs.Streams.{replied}
use Rattle.peer_boot.specs.Tries.{AreOfForm, EndsRefused, HaveRefused, IsOfForm}
use Rattle.peer_boot.specs.declared.boot_err.BootErr.{BootErr}
use Rattle.peer_boot.specs.declared.boot_err.BootErr.TheVariants as boot_err
use Rattle.node_joins.specs.Joined.{JoinedOf, join_of}
use Rattle.node_joins.specs.declared.open_err.OpenErr.{OpenErr}
use Rattle.node_joins.specs.declared.open_err.OpenErr.TheVariants as open_err

-- ---- a begin

-- a replica that is down, or doesn't own the tenure, is passed over; any other refusal ends it
abbrev pub begin_told : ℕ → Reason → Result Bool OpenErr
begin_told s reason.Down = Ok false
begin_told s reason.NotOwned = Ok false
begin_told s why = Err (open_err.Refused s why)

-- it began with its tenure; or it is passed over; or it refused so that the bootstrap ends; or the list lacked room, and nothing changed
abbrev pub IsBeginTried : {D : Type 0} → (D → DiskState) → (s y tenure : ℕ) → Tracked D → Tracked D → Result Bool OpenErr → Type 0
IsBeginTried state s y tenure old new (Ok true) = (fence : ℕ) × (points : List Point) × Ran state old (begun_with y s tenure fence points) new
IsBeginTried state s y tenure old new (Ok false) = (why : Reason) × IsUnbegun why × Ran state old (replied y s (call.Begin tenure) (reply.Refused why)) new
IsBeginTried state s y tenure old new (Err (open_err.Refused shard why)) = (shard ≡ s) × IsEnding why × IsOfForm why × Ran state old (replied y s (call.Begin tenure) (reply.Refused why)) new
IsBeginTried state s y tenure old new (Err open_err.Full) = (¬ HasRoom 4 old.events) × (new ≡ old)
IsBeginTried state s y tenure old new (Err _) = ⊥

-- ---- a join

-- a joining replica that is closed, or doesn't own the shard any more, is passed over
abbrev pub join_told : ℕ → BootErr → Result (Option JoinedOf) OpenErr
join_told s (boot_err.Own reason.Down) = Ok None
join_told s (boot_err.Own reason.Boot) = Ok None
join_told s (boot_err.Own reason.NotOwned) = Ok None
join_told s (boot_err.Own why) = Err (open_err.Refused s why)
join_told s (boot_err.Peers needed got reasons) = Err (open_err.Peers s needed got reasons)
join_told s boot_err.Full = Err open_err.Full

-- ---- one replica

-- Fewer than a majority of the former replicas streamed whole, so many of so many, and the others have these reasons.
pub record IsShort {D : Type 0} (state : D → DiskState) (place : Placement) (s y needed got : ℕ) (reasons : List (ℕ × Reason)) (old new : Tracked D) : Type 0 where
  pub peers : List AskedPeer
  pub events : List Event
  pub misses : MissesPeers place s y peers events
  pub needed_is : needed ≡ majority place.rf
  pub got_is : got ≡ length (streamed_of peers)
  pub reasons_are : reasons ≡ reasons_of peers
  pub refused : HaveRefused s peers
  pub form : AreOfForm reasons
  pub ran : Ran state old events new

-- The replica to which the placement gives the shard by this assignment: it joins no shard, or is passed over; it joined its shard; it ended the bootstrap; or
-- memory was wanted before it began.
abbrev pub IsOpenTried : {D : Type 0} → (D → DiskState) → Placement → ℕ → Assignment → Tracked D → Tracked D → Result (Option JoinedOf) OpenErr → Type 0
IsOpenTried state place s own old new (Ok None) = (events : List Event) × StaysAsItWas place s own.node events × Ran state old events new
IsOpenTried state place s own old new (Ok (Some j)) = (j.shard ≡ s) × (events : List Event) × HasJoinedBy place s own.node (join_of j) events × Ran state old events new
IsOpenTried state place s own old new (Err (open_err.Refused shard why)) = (shard ≡ s) × IsOfForm why × (events : List Event) × IsHeldUp place s own.node why events × EndsRefused own.node s why events × Ran state old events new
IsOpenTried state place s own old new (Err (open_err.Peers shard needed got reasons)) = (shard ≡ s) × IsShort state place s own.node needed got reasons old new
IsOpenTried state place s own old new (Err open_err.Memory) = new ≡ old
IsOpenTried state place s own old new (Err open_err.Full) = (¬ HasRoom 4 new.events) × (events : List Event) × ((events ≡ []) ⊎ StopsShort place s own.node events) × Ran state old events new
