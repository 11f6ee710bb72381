-- What replicas say of themselves.
use Rattle.std.specs.Prelude.{List, [], ◌∷◌, codes}
use Rattle.serde_json.specs.Data.{Data, string}
use Rattle.m3_model.specs.declared.answer.StatusLine.{StatusLine}
use Rattle.m3_model.specs.declared.placement.Instance.{Instance}
use Rattle.reply_values.specs.Json.{object_of, natural}
use Rattle.reply_values.specs.Words.{state_text, standing_text}
use Rattle.reply_items.specs.Names.{node_data}

-- every number of a replica, its node, how it stands and its shard's state
abbrev pub status_data : List Instance → StatusLine → Data
status_data instances s =
    object_of
    ((codes "buffered", natural s.buffered) ∷ (codes "fence", natural s.fence) ∷ (codes "node", node_data instances s.node) ∷ (codes "segments", natural s.segments)
    ∷ (codes "shard", natural s.shard) ∷ (codes "snapshot", natural s.snapshot) ∷ (codes "standing", string (standing_text s.standing))
    ∷ (codes "state", string (state_text s.state)) ∷ (codes "volumes", natural s.volumes) ∷ [])
