-- What came of a call, of a stream, and of the join of a shard.
use Rattle.std.specs.Prelude.{◌≡◌, ◌⊎◌, ◌<◌, ◌≤◌, ℕ, ⊤, List, [], ◌∷◌, ◌++◌, length, Option, MatchOption, Result, Ok, Err, IfErr}
use Rattle.std.specs.List.{flat_map}
use Rattle.m3_model.specs.Levels.{majority}
use Rattle.m3_model.specs.Members.{IsIn}
use Rattle.m3_model.specs.declared.placement.Placement.{Placement}
use Rattle.m3_model.specs.declared.point.Key.{Key}
use Rattle.m3_model.specs.declared.point.Page.{Page}
use Rattle.m3_model.specs.declared.reason.Damage.{Damage}
use Rattle.m3_model.specs.declared.reason.Reason.{Reason}
use Rattle.m3_model.specs.declared.reason.Reason.TheVariants as reason
use Rattle.placement_core.specs.Shards.{Shard, shard_at}
use Rattle.session_net.specs.cluster_core.declared.event.Event.{Event}
use Rattle.session_net.specs.cluster_core.declared.event.StepCall.{StepCall}
use Rattle.session_net.specs.cluster_core.declared.event.StepCall.TheVariants as call
use Rattle.session_net.specs.cluster_core.declared.event.StepReply.{StepReply}
use Rattle.session_net.specs.cluster_core.declared.event.StepReply.TheVariants as reply
use Rattle.session_net.specs.m3_outside.DiskState.{DiskState}
use Rattle.session_net.specs.replica_calls.Calls.{Tracked}
use Rattle.session_net.specs.replica_exchange.MachineCalls.{HasRoom}
use Rattle.session_net.specs.replica_machine.Damages.{IsFileDamage}
use Rattle.session_net.specs.replica_machine.Steps.{reply_by}
use Rattle.session_net.specs.Runs.{Ran}
use Rattle.peer_streams.specs.Joins.{AreAsked, AskedPeer, IsBrokenOff, IsEnding, IsPassing, reasons_of, streamed_of}
use Rattle.peer_streams.specs.Streams.{Handed, IsBroken, IsMergeRefused, IsPartOfStream, IsWhole, handed_over, replied}
use Rattle.peer_boot.specs.Merges.{MergedOf}
use Rattle.peer_boot.specs.declared.boot_err.BootErr.{BootErr}
use Rattle.peer_boot.specs.declared.boot_err.BootErr.TheVariants as boot_err
use Rattle.peer_boot.specs.declared.stream_err.StreamErr.{StreamErr}
use Rattle.peer_boot.specs.declared.stream_err.StreamErr.TheVariants as stream_err

-- ---- reasons

-- damage is that of a form
abbrev pub IsOfForm : Reason → Type 0
IsOfForm why = (damage : Damage) → why ≡ reason.Corrupt damage → IsFileDamage damage

-- a merge is refused for want of memory, a fault or damage, or as the replica is closed or doesn't own the shard
abbrev pub IsMergeReason : Reason → Type 0
IsMergeReason why = IsPassing why ⊎ IsEnding why

-- each is so
abbrev pub AreOfForm : List (ℕ × Reason) → Type 0
AreOfForm reasons = (q : ℕ) (damage : Damage) → IsIn reasons (q, reason.Corrupt damage) → IsFileDamage damage

-- ---- calls

-- the replica was asked for a step, and this is what it said
abbrev pub IsCalled : {D X : Type 0} → (D → DiskState) → ℕ → ℕ → StepCall → (X → StepReply) → Tracked D → Tracked D → Result X Reason → Type 0
IsCalled state n s c ok old new said = Ran state old (replied n s c (reply_by ok said)) new × IfErr said IsOfForm

-- the last of these is that the replica refused a call for this reason
abbrev pub EndsRefused : (n s : ℕ) → Reason → List Event → Type 0
EndsRefused n s why events = (front : List Event) × (c : StepCall) × (events ≡ front ++ replied n s c (reply.Refused why))

-- One more page, above this key: the former replica gave it, the joining one merged it, and it goes on from this key; or one of the two refused; or
-- the list lacked room for both, and nothing changed.
abbrev pub IsPageTried : {D : Type 0} → (D → DiskState) → (s q y : ℕ) → Option Key → Tracked D → Tracked D → Result (Option Key) StreamErr → Type 0
IsPageTried state s q y after old new (Ok next) = HasRoom 4 old.events × (h : Handed) × (h.from ≡ after) × (h.page.next ≡ next) × Ran state old (handed_over s q y h) new
IsPageTried state s q y after old new (Err (stream_err.From why)) = IsOfForm why × Ran state old (replied q s (call.Page after) (reply.Refused why)) new
IsPageTried state s q y after old new (Err (stream_err.To why)) =
    IsOfForm why × IsMergeReason why × (page : Page) × Ran state old (replied q s (call.Page after) (reply.Paged page) ++ replied y s (call.Merge page) (reply.Refused why)) new
IsPageTried state s q y after old new (Err stream_err.Full) = (¬ HasRoom 4 old.events) × (new ≡ old)

-- the joining one merged the page, which goes on from this key; or it refused
abbrev pub IsTakenIn : {D : Type 0} → (D → DiskState) → (s y : ℕ) → Page → Tracked D → Tracked D → Result (Option Key) StreamErr → Type 0
IsTakenIn state s y page old new (Ok next) = (page.next ≡ next) × (count : ℕ) × Ran state old (replied y s (call.Merge page) (reply.Count count)) new
IsTakenIn state s y page old new (Err (stream_err.To why)) = IsOfForm why × IsMergeReason why × Ran state old (replied y s (call.Merge page) (reply.Refused why)) new
IsTakenIn state s y page old new (Err _) = ⊥

-- ---- streams

-- A stream from q to y for the move that began at the tenure: q streamed whole; q refused; y refused; or the list lacked room for what comes next. What was merged
-- stays.
abbrev pub IsStreamTried : {D : Type 0} → (D → DiskState) → (s q y tenure : ℕ) → Tracked D → Tracked D → Result ℕ StreamErr → Type 0
IsStreamTried state s q y tenure old new (Ok peer) = (peer ≡ q) × (events : List Event) × IsWhole s q y tenure events × Ran state old events new
IsStreamTried state s q y tenure old new (Err (stream_err.From why)) = IsOfForm why × (events : List Event) × IsBroken s q y tenure why events × EndsRefused q s why events × Ran state old events new
IsStreamTried state s q y tenure old new (Err (stream_err.To why)) = IsOfForm why × IsMergeReason why × (events : List Event) × IsMergeRefused s q y tenure why events × EndsRefused y s why events × Ran state old events new
IsStreamTried state s q y tenure old new (Err stream_err.Full) = (¬ HasRoom 4 new.events) × (events : List Event) × ((events ≡ []) ⊎ IsPartOfStream s q y tenure events) × Ran state old events new

-- ---- joins

-- each that didn't stream whole refused a call for its reason
abbrev pub HaveRefused : ℕ → List AskedPeer → Type 0
HaveRefused s peers = (p : AskedPeer) → IsIn peers p → MatchOption p.why ⊤ (λ why. EndsRefused p.node s why p.added)

-- what these that were asked added
abbrev pub asked_events : List AskedPeer → List Event
asked_events peers = flat_map (λ p. p.added) peers

-- Former replicas were asked by name, from the first on, until a majority of them streamed whole: these did.
pub record IsJoined {D : Type 0} (state : D → DiskState) (place : Placement) (s y tenure : ℕ) (names : List ℕ) (old new : Tracked D) : Type 0 where
  pub peers : List AskedPeer
  pub left : List ℕ
  pub asked : AreAsked place s (shard_at place s) y tenure peers left
  pub enough : majority place.rf ≤ length (streamed_of peers)
  pub streamed : names ≡ streamed_of peers
  pub refused : HaveRefused s peers
  pub ran : Ran state old (asked_events peers) new

-- All were asked, and fewer streamed whole: the others have these reasons.
pub record IsMissed {D : Type 0} (state : D → DiskState) (place : Placement) (s y tenure : ℕ) (needed got : ℕ) (reasons : List (ℕ × Reason)) (old new : Tracked D) : Type 0 where
  pub peers : List AskedPeer
  pub asked : AreAsked place s (shard_at place s) y tenure peers []
  pub fewer : length (streamed_of peers) < majority place.rf
  pub needed_is : needed ≡ majority place.rf
  pub got_is : got ≡ length (streamed_of peers)
  pub reasons_are : reasons ≡ reasons_of peers
  pub refused : HaveRefused s peers
  pub form : AreOfForm reasons
  pub ran : Ran state old (asked_events peers) new

-- The joining one refused to merge what one of them gave.
pub record IsOwnRefused {D : Type 0} (state : D → DiskState) (place : Placement) (s y tenure : ℕ) (why : Reason) (old new : Tracked D) : Type 0 where
  pub form : IsOfForm why
  pub merge : IsMergeReason why
  pub events : List Event
  pub broken : IsBrokenOff place s (shard_at place s) y tenure why events
  pub ends : EndsRefused y s why events
  pub ran : Ran state old events new

-- Some were asked, and perhaps a part of what the next one has was merged; then the list lacked room.
pub record IsCutShort {D : Type 0} (state : D → DiskState) (place : Placement) (s y tenure : ℕ) (old new : Tracked D) : Type 0 where
  pub peers : List AskedPeer
  pub left : List ℕ
  pub asked : AreAsked place s (shard_at place s) y tenure peers left
  pub last : List Event
  pub part : (last ≡ []) ⊎ ((q : ℕ) × (later : List ℕ) × (left ≡ q ∷ later) × IsPartOfStream s q y tenure last)
  pub ran : Ran state old (asked_events peers ++ last) new
  pub room : ¬ HasRoom 4 new.events

-- the join of the shard by the node with this tenure
abbrev pub IsJoinTried : {D : Type 0} → (D → DiskState) → Placement → (s y tenure : ℕ) → Tracked D → Tracked D → Result MergedOf BootErr → Type 0
IsJoinTried state place s y tenure old new (Ok merged) = (merged.shard ≡ s) × (merged.node ≡ y) × (merged.tenure ≡ tenure) × IsJoined state place s y tenure merged.peers old new
IsJoinTried state place s y tenure old new (Err (boot_err.Peers needed got reasons)) = IsMissed state place s y tenure needed got reasons old new
IsJoinTried state place s y tenure old new (Err (boot_err.Own why)) = IsOwnRefused state place s y tenure why old new
IsJoinTried state place s y tenure old new (Err boot_err.Full) = IsCutShort state place s y tenure old new
