-- What came of a former replica that was asked, and how it is counted.
use Rattle.std.specs.Prelude.{◌≡◌, ℕ, suc, ⊤, List, [], ◌∷◌, ◌++◌, map, length, Result, Ok, Err, MatchOption, IsPermutation}
use Rattle.m3_model.specs.Ascends.{Ascends}
use Rattle.m3_model.specs.declared.placement.Placement.{Placement}
use Rattle.placement_core.specs.NodeNames.{IsNamedBelow}
use Rattle.placement_core.specs.Shards.{former, shard_at}
use Rattle.session_net.specs.m3_outside.DiskState.{DiskState}
use Rattle.session_net.specs.replica_calls.Calls.{Tracked}
use Rattle.session_net.specs.Outcomes.{NodeOutcome, answering, refusing}
use Rattle.session_net.specs.Runs.{Ran}
use Rattle.session_net.specs.Tallies.{HasRoom}
use Rattle.session_net.specs.declared.tally.Tally.{Tally}
use Rattle.peer_streams.specs.Joins.{AreAsked, AskedPeer, HasAnswered, reasons_of}
use Rattle.peer_boot.specs.Tries.{AreOfForm, EndsRefused, HaveRefused, IsOfForm, IsStreamTried, asked_events}
use Rattle.peer_boot.specs.Claims.{moved_claims}
use Rattle.peer_boot.specs.declared.asking.Asking.{Asking}
use Rattle.peer_boot.specs.declared.boot_err.BootErr.{BootErr}
use Rattle.peer_boot.specs.declared.boot_err.BootErr.TheVariants as boot_err
use Rattle.peer_boot.specs.declared.stream_err.StreamErr.TheVariants as stream_err

-- all former replicas of the shard by name, none of which was counted yet, and room to count each
pub record AsksOf (place : Placement) (s : ℕ) (asking : Asking) : Type 0 where
  pub same : IsPermutation (former (shard_at place s)) asking.peers
  pub by_name : Ascends (IsNamedBelow place) asking.peers
  pub counts : HasRoom (length asking.peers) asking.tally
  pub none_answered : asking.tally.answered.items ≡ []
  pub none_refused : asking.tally.reasons.items ≡ []
  pub claims : asking.claims ≡ moved_claims

-- a former replica as it is counted
abbrev pub told_peer : AskedPeer → NodeOutcome
told_peer p = (p.node, p.why)

-- These of the former replicas are left, and the others were asked and are counted.
pub record AskedSoFar {D : Type 0} (state : D → DiskState) (place : Placement) (s y tenure : ℕ) (left : List ℕ) (tally : Tally) (old now : Tracked D) : Type 0 where
  pub peers : List AskedPeer
  pub asked : AreAsked place s (shard_at place s) y tenure peers left
  pub names : tally.answered.items ≡ answering (map told_peer peers)
  pub reasons : tally.reasons.items ≡ refusing (map told_peer peers)
  pub refused : HaveRefused s peers
  pub form : AreOfForm (reasons_of peers)
  pub ran : Ran state old (asked_events peers) now

-- a replica was asked, and is counted so
pub record IsCounted {D : Type 0} (state : D → DiskState) (s q y tenure : ℕ) (before after : Tally) (old new : Tracked D) : Type 0 where
  pub peer : AskedPeer
  pub of_node : peer.node ≡ q
  pub answered : HasAnswered s y tenure peer
  pub form : MatchOption peer.why ⊤ IsOfForm
  pub refused : MatchOption peer.why ⊤ (λ why. EndsRefused peer.node s why peer.added)
  pub ran : Ran state old peer.added new
  pub names : (told : List NodeOutcome) → before.answered.items ≡ answering told → after.answered.items ≡ answering (told ++ (q, peer.why) ∷ [])
  pub reasons : (told : List NodeOutcome) → before.reasons.items ≡ refusing told → after.reasons.items ≡ refusing (told ++ (q, peer.why) ∷ [])
  pub room : (n : ℕ) → HasRoom (suc n) before → HasRoom n after

-- it was asked; or the joining one refused, or the list lacked room
abbrev pub HasAsked : {D : Type 0} → (D → DiskState) → (s q y tenure : ℕ) → Tally → Tally → Tracked D → Tracked D → Result ⊤ BootErr → Type 0
HasAsked state s q y tenure before after old new (Ok u) = IsCounted state s q y tenure before after old new
HasAsked state s q y tenure before after old new (Err (boot_err.Own why)) = IsStreamTried state s q y tenure old new (Err (stream_err.To why))
HasAsked state s q y tenure before after old new (Err boot_err.Full) = IsStreamTried state s q y tenure old new (Err stream_err.Full)
HasAsked state s q y tenure before after old new (Err _) = ⊥
