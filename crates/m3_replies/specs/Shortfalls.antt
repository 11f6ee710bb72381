-- The fields of refusals that name the replicas which didn't answer.
use Rattle.std.specs.Prelude.{ℕ, List, [], ◌∷◌, false, codes}
use Rattle.serde_json.specs.Data.{Data, boolean, string}
use Rattle.m3_model.specs.declared.placement.Instance.{Instance}
use Rattle.m3_model.specs.declared.reason.Reason.{Reason}
use Rattle.reply_values.specs.Json.{list_of, natural}
use Rattle.reply_items.specs.Reasons.{reason_data}

-- how many replicas of a shard answered, how many were needed, and why others didn't
abbrev pub quorum_fields : ℕ → List ℕ → List Instance → ℕ → ℕ → List (ℕ × Reason) → ℕ → List (List ℕ × Data)
quorum_fields code error instances got needed reasons shard =
    (codes "code", natural code) ∷ (codes "error", string error) ∷ (codes "got", natural got) ∷ (codes "needed", natural needed) ∷ (codes "ok", boolean false)
    ∷ (codes "reasons", list_of (reason_data instances) reasons) ∷ (codes "shard", natural shard) ∷ []
