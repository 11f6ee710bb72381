-- The fields of refusals that name no replicas by number.
use Rattle.std.specs.Prelude.{ℕ, List, [], ◌∷◌, false, codes}
use Rattle.serde_json.specs.Data.{Data, boolean, string}
use Rattle.m3_model.specs.declared.reason.Damage.{Damage}
use Rattle.m3_model.specs.declared.reason.Damage.TheVariants as damage
use Rattle.reply_values.specs.Digests.{hex_data}
use Rattle.reply_values.specs.Json.{natural}

-- a refusal that says no more than its kind
abbrev pub plain_fields : ℕ → List ℕ → List (List ℕ × Data)
plain_fields code error = (codes "code", natural code) ∷ (codes "error", string error) ∷ (codes "ok", boolean false) ∷ []

-- the name that isn't known
abbrev pub unknown_fields : List ℕ → List (List ℕ × Data)
unknown_fields name = (codes "code", natural 4) ∷ (codes "error", string (codes "unknown")) ∷ (codes "name", string name) ∷ (codes "ok", boolean false) ∷ []

-- the limit that the request passes
abbrev pub limit_fields : ℕ → List (List ℕ × Data)
limit_fields limit = (codes "code", natural 5) ∷ (codes "error", string (codes "limit")) ∷ (codes "limit", natural limit) ∷ (codes "ok", boolean false) ∷ []

-- the moment that stands
abbrev pub clock_fields : ℕ → List (List ℕ × Data)
clock_fields now = (codes "code", natural 6) ∷ (codes "error", string (codes "clock")) ∷ (codes "now", natural now) ∷ (codes "ok", boolean false) ∷ []

-- the node and the shard that refused
abbrev pub replica_fields : ℕ → List ℕ → List ℕ → ℕ → List (List ℕ × Data)
replica_fields code error node shard =
    (codes "code", natural code) ∷ (codes "error", string error) ∷ (codes "node", string node) ∷ (codes "ok", boolean false) ∷ (codes "shard", natural shard) ∷ []

-- the shard whose replicas can't all stand in groups of their own
abbrev pub group_fields : ℕ → List (List ℕ × Data)
group_fields shard = (codes "code", natural 9) ∷ (codes "error", string (codes "group")) ∷ (codes "ok", boolean false) ∷ (codes "shard", natural shard) ∷ []

-- the node that isn't in the state asked for
abbrev pub state_fields : List ℕ → List (List ℕ × Data)
state_fields node = (codes "code", natural 12) ∷ (codes "error", string (codes "state")) ∷ (codes "node", string node) ∷ (codes "ok", boolean false) ∷ []

-- the file that differs from its digest, with the digest that was found and the one that was kept
abbrev pub digest_damage_fields : List ℕ → ℕ → List ℕ → List ℕ → List ℕ → List (List ℕ × Data)
digest_damage_fields node shard file kept found =
    (codes "code", natural 15) ∷ (codes "error", string (codes "corrupt")) ∷ (codes "file", string file) ∷ (codes "found", hex_data found) ∷ (codes "kept", hex_data kept)
    ∷ (codes "node", string node) ∷ (codes "ok", boolean false) ∷ (codes "shard", natural shard) ∷ []

-- the file that has another form than its kind, with the byte at which it goes wrong
abbrev pub form_damage_fields : List ℕ → ℕ → List ℕ → ℕ → List (List ℕ × Data)
form_damage_fields node shard file at =
    (codes "at", natural at) ∷ (codes "code", natural 15) ∷ (codes "error", string (codes "corrupt")) ∷ (codes "file", string file) ∷ (codes "node", string node)
    ∷ (codes "ok", boolean false) ∷ (codes "shard", natural shard) ∷ []

-- the damaged file of a replica
abbrev pub corrupt_fields : List ℕ → ℕ → Damage → List (List ℕ × Data)
corrupt_fields node shard (damage.Digest file kept found) = digest_damage_fields node shard file kept found
corrupt_fields node shard (damage.Form file at) = form_damage_fields node shard file at
