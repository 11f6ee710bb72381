-- Reasons for which replicas didn't answer.
use Rattle.std.specs.Prelude.{ℕ, List, [], ◌∷◌, codes}
use Rattle.serde_json.specs.Data.{Data, string}
use Rattle.m3_model.specs.declared.placement.Instance.{Instance}
use Rattle.m3_model.specs.declared.reason.Reason.{Reason}
use Rattle.m3_model.specs.declared.reason.Reason.TheVariants as reason
use Rattle.reply_values.specs.Json.{array_of, natural}
use Rattle.reply_items.specs.Names.{node_data}

-- the word for a reason
abbrev pub reason_word : Reason → List ℕ
reason_word reason.Cut = codes "cut"
reason_word reason.Down = codes "down"
reason_word reason.Boot = codes "boot"
reason_word reason.NotOwned = codes "notowned"
reason_word (reason.Stale fence) = codes "stale"
reason_word reason.Past = codes "past"
reason_word reason.Future = codes "future"
reason_word reason.Disk = codes "disk"
reason_word (reason.Corrupt damage) = codes "corrupt"
reason_word reason.Memory = codes "memory"

-- the fence, where the version was stale
abbrev pub fence_items : Reason → List Data
fence_items (reason.Stale fence) = natural fence ∷ []
fence_items _ = []

-- the word, and the fence after the word for a stale version
abbrev pub reason_items : Reason → List Data
reason_items r = string (reason_word r) ∷ fence_items r

-- [node, reason]
abbrev pub reason_data : List Instance → ℕ × Reason → Data
reason_data instances r = array_of (node_data instances r.0 ∷ reason_items r.1)
