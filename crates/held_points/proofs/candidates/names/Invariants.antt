use Rattle.std.proofs.Common.{ℕ, List, drop}
use Rattle.std.specs.Prelude.{◌⊎◌}
use Rattle.m3_model.specs.Members.{IsIn}
use Rattle.tag_index.specs.Listed.{IsAt}
use Rattle.held_points.specs.Matched.{MeetsUnequal, IsMatchedBy}
use Rattle.held_points.proofs.candidates.names.Given as goal

abbrev pub invariant-loop-ordinal : goal.invariant-loop-ordinal
invariant-loop-ordinal l = record {
  sound : (id : List ℕ) → IsIn l.ids.keys id → IsMatchedBy l.index l.wanted l.ordinals id;
  whole : (o : ℕ) (id : List ℕ) → IsIn l.ordinals o → IsAt l.index o id → MeetsUnequal l.wanted id → IsIn l.ids.keys id ⊎ IsIn (drop l.ordinal-index l.ordinals) o;
}
