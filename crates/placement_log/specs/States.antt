-- The payloads of states in the log of the meta disk.
use Rattle.std.specs.Prelude.{◌≡◌, ⊤, ℕ, List, [], ◌∷◌, ◌++◌, Option, Some, None}
use Rattle.sha2.specs.Sha256.{sha256}
use Rattle.m3_model.specs.declared.rules.MetaState.{MetaState}
use Rattle.meta_bytes.specs.States.{state_bytes, IsMetaState}

-- a digest, and the state that it is of
abbrev pub payload_bytes : MetaState → List ℕ
payload_bytes s = sha256 (state_bytes s) ++ state_bytes s

-- this chunk is the payload of this state, which a cluster may have
pub record IsPayload (chunk : List ℕ) (s : MetaState) : Type 0 where
  pub state : IsMetaState s
  pub is : chunk ≡ payload_bytes s

-- no state that a cluster may have has this payload
abbrev pub IsNoPayload : List ℕ → Type 0
IsNoPayload chunk = (s : MetaState) → ¬ (IsPayload chunk s)

-- a state that a cluster may have, if there is one
abbrev pub MayBeState : Option MetaState → Type 0
MayBeState None = ⊤
MayBeState (Some s) = IsMetaState s

-- the last of these states, and the old one where there are none
abbrev pub last_after : Option MetaState → List MetaState → Option MetaState
last_after old [] = old
last_after old (s ∷ ss) = last_after (Some s) ss
