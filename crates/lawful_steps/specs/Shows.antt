-- What points have to have of a sure one: taken apart as the look-up tries it, point by point.
use Rattle.std.specs.Prelude.{List}
use Rattle.m3_model.specs.Reads.{Covers}
use Rattle.m3_model.specs.declared.point.Point.{Point}
use Rattle.cluster_core.specs.Replicas.{IsGone}
use Rattle.cluster_core.specs.declared.replica_state.ReplicaState.{ReplicaState}

-- the points cover it, where it isn't gone
unfoldable pub IsCovered : ReplicaState → List Point → Point → Type 0
IsCovered r points p = ¬ IsGone r p → Covers points p
