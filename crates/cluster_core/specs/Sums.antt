-- The digests of the blocks of a content.
use Rattle.std.specs.Prelude.{◌≡◌, ◌⊎◌, ◌↔◌, ◌<◌, ◌*◌, ℕ, List, length, Some, slice_get}
use Rattle.std.specs.FinMap as map
use Rattle.std.specs.List.{All, Any}
use Rattle.sha2.specs.Sha256.{sha256}
use Rattle.m3_model.specs.Ascends.{Ascends}
use Rattle.m3_model.specs.Contents.{Contents, key_of}
use Rattle.m3_model.specs.Members.{IsIn}
use Rattle.m3_model.specs.Rules.{HasExpired}
use Rattle.m3_model.specs.declared.point.Point.{Point}
use Rattle.m3_model.specs.declared.replica.BlockDigest.{BlockDigest}
use Rattle.m3_model.specs.declared.rules.Rules.{Rules}
use Rattle.m3_model.specs.declared.rules.Space.{Space}
use Rattle.wire_bytes.specs.Entries.{points_bytes}
use Rattle.cluster_core.specs.Answers.{IsKeyBelow, IsInBlock}
use Rattle.cluster_core.specs.Replicas.{Shows}
use Rattle.cluster_core.specs.declared.replica_state.ReplicaState.{ReplicaState}

-- an unexpired point of the content in the block that begins at this time; blocks begin at the multiples of their size
pub record IsLiveIn (content : Contents) (rules : Rules) (ns start : ℕ) (p : Point) : Type 0 where
  pub held : map.get content (key_of p) ≡ Some p.v
  pub live : ¬ HasExpired rules p
  pub space : Space
  pub stands : slice_get rules.spaces ns ≡ Some space
  pub in_block : IsInBlock ns start space.block p
  pub begins : (number : ℕ) × (start ≡ number * space.block)

-- the SHA-256 of the bytes of the unexpired points of a block, by ascending key, of which there are some
pub record IsDigestOf (content : Contents) (rules : Rules) (d : BlockDigest) : Type 0 where
  pub points : List Point
  pub some : 0 < length points
  pub all : (p : Point) → IsIn points p ↔ IsLiveIn content rules d.ns d.start p
  pub ascending : Ascends (λ a b. IsKeyBelow (key_of a) (key_of b)) points
  pub digest_is : d.digest ≡ sha256 (points_bytes points)

-- one block stands before the other
abbrev pub IsEarlierBlock : BlockDigest → BlockDigest → Type 0
IsEarlierBlock a b = (a.ns < b.ns) ⊎ ((a.ns ≡ b.ns) × (a.start < b.start))

-- the digests of all blocks with an unexpired point, in order
pub record AreDigests (content : Contents) (rules : Rules) (digests : List BlockDigest) : Type 0 where
  pub each : All (λ d. IsDigestOf content rules d) digests
  pub all : (ns start : ℕ) (p : Point) → IsLiveIn content rules ns start p → Any (λ d. (d.ns ≡ ns) × (d.start ≡ start)) digests
  pub ascending : Ascends IsEarlierBlock digests

-- the digests of a content that shows the replica
abbrev pub IsSummed : ReplicaState → Rules → List BlockDigest → Type 0
IsSummed r rules digests = (content : Contents) × Shows r content × AreDigests content rules digests
