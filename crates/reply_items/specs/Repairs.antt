-- What repairs did.
use Rattle.std.specs.Prelude.{ℕ, List, [], ◌∷◌, codes}
use Rattle.serde_json.specs.Data.{Data}
use Rattle.m3_model.specs.declared.answer.RepairLine.{RepairLine}
use Rattle.m3_model.specs.declared.placement.Instance.{Instance}
use Rattle.reply_values.specs.Json.{object_of, array_of, list_of, natural}
use Rattle.reply_values.specs.Digests.{hex_data}
use Rattle.reply_items.specs.Names.{node_data}
use Rattle.reply_items.specs.Reasons.{reason_data}

-- [node, digest]
abbrev pub digest_data : List Instance → ℕ × List ℕ → Data
digest_data instances d = array_of (node_data instances d.0 ∷ hex_data d.1 ∷ [])

-- the digests, the replicas that failed, the count of points merged, and the shard
abbrev pub repair_data : List Instance → RepairLine → Data
repair_data instances r =
    object_of
    ((codes "digests", list_of (digest_data instances) r.digests) ∷ (codes "failed", list_of (reason_data instances) r.failed) ∷ (codes "merged", natural r.merged)
    ∷ (codes "shard", natural r.shard) ∷ [])
