-- A replica may answer no more than a content that shows it answers: the other half of what contents answer.
use Rattle.std.specs.Prelude.{ℕ, List}
use Rattle.m3_model.specs.Contents.{Contents}
use Rattle.m3_model.specs.declared.point.Page.{Page}
use Rattle.m3_model.specs.declared.point.Pick.{Pick}
use Rattle.m3_model.specs.declared.point.Series.{Series}
use Rattle.m3_model.specs.declared.rules.Rules.{Rules}
use Rattle.cluster_core.specs.Answers.{IsFoundBy, IsPage}
use Rattle.cluster_core.specs.Replicas.{Shows}
use Rattle.cluster_core.specs.Shown.{IsFoundIn, IsPageOf}
use Rattle.cluster_core.specs.declared.event.StepCall.{StepCall}
use Rattle.cluster_core.specs.declared.replica_state.ReplicaState.{ReplicaState}

-- What a replica may answer to a read, some content that shows the replica answers.
abbrev pub FoundIsShown : Type 0
FoundIsShown = (r : ReplicaState) (rules : Rules) (pick : Pick) (from to : ℕ) (series : List Series) → IsFoundBy r rules pick from to series → (content : Contents) × Shows r content × IsFoundIn content rules pick from to series

-- And so with pages.
abbrev pub PageIsShown : Type 0
PageIsShown = (r : ReplicaState) (c : StepCall) (page : Page) → IsPage r c page → (content : Contents) × Shows r content × IsPageOf content c page
