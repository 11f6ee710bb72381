-- What an answer has to have of a sure point: taken apart as the look-up tries it, point by point.
use Rattle.std.specs.Prelude.{ℕ, List}
use Rattle.m3_model.specs.Contents.{key_of}
use Rattle.m3_model.specs.Reads.{Covers}
use Rattle.m3_model.specs.declared.point.Page.{Page}
use Rattle.m3_model.specs.declared.point.Pick.{Pick}
use Rattle.m3_model.specs.declared.point.Point.{Point}
use Rattle.m3_model.specs.declared.rules.Rules.{Rules}
use Rattle.cluster_core.specs.Answers.{IsWantedUnexpired, AsksFor, IsUpTo}
use Rattle.cluster_core.specs.Replicas.{IsGone}
use Rattle.cluster_core.specs.declared.event.StepCall.{StepCall}
use Rattle.cluster_core.specs.declared.replica_state.ReplicaState.{ReplicaState}

-- the points cover it, where it isn't gone and a read asks for it
unfoldable pub IsAnswered : ReplicaState → Rules → Pick → ℕ → ℕ → List Point → Point → Type 0
IsAnswered r rules pick from to points p = ¬ IsGone r p → IsWantedUnexpired rules pick from to p → Covers points p

-- the page covers it, where it isn't gone, is asked for, and the page goes up to it
unfoldable pub IsPaged : ReplicaState → StepCall → Page → Point → Type 0
IsPaged r c page p = ¬ IsGone r p → AsksFor c p → IsUpTo page.next (key_of p) → Covers page.points p
