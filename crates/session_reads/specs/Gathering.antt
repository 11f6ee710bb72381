-- What the nodes of a shard give, and what several shards give.
use Rattle.std.specs.Prelude.{◌≡◌, ◌⊎◌, ℕ, ◌<◌, ◌≤◌, ◌*◌, List, [], ◌∷◌, ◌++◌, length, Bool, true, false, Result, Ok, Err}
use Rattle.m3_model.specs.Answers.{HasPoint}
use Rattle.m3_model.specs.Contents.{Contents, Holds}
use Rattle.m3_model.specs.Members.{IsIn}
use Rattle.m3_model.specs.Reads.{points_in, space_picked}
use Rattle.m3_model.specs.declared.point.Pick.{Pick}
use Rattle.m3_model.specs.declared.point.Point.{Point}
use Rattle.m3_model.specs.declared.point.Series.{Series}
use Rattle.m3_model.specs.declared.reason.Reason.{Reason}
use Rattle.m3_model.specs.declared.rules.MetaState.{MetaState}
use Rattle.m3_outside.specs.DiskState.{DiskState}
use Rattle.session_net.specs.cluster_core.declared.event.Event.{Event}
use Rattle.session_net.specs.cluster_core.declared.event.StepCall.{StepCall}
use Rattle.session_net.specs.cluster_core.declared.event.StepReply.TheVariants as reply
use Rattle.session_net.specs.net_plan.Fates.{FateMap}
use Rattle.session_net.specs.replica_exchange.MachineCalls.{HasRoom}
use Rattle.session_net.specs.replica_exchange.declared.call_id.CallId.{CallId}
use Rattle.session_net.specs.Calls.{Tracked}
use Rattle.session_net.specs.Messages.{Heard, AreHeard}
use Rattle.session_net.specs.Outcomes.{answering, AreCountedOnce, IsTooFew}
use Rattle.session_net.specs.Reads.{Wish, ShardRead, told_in, IsAsked, IsPartlyAsked, IsEnded, start_of, done_of, most_added, AreRead, AreTogether}
use Rattle.session_net.specs.Runs.{Ran}
use Rattle.series_merge.specs.Merges.{IsMergeOf}
use Rattle.session_net.specs.declared.session_err.SessionErr.{SessionErr}
use Rattle.session_net.specs.declared.session_err.SessionErr.TheVariants as err
use Rattle.session_reads.specs.declared.ask.Asking.{Asking}

abbrev pub wish_of : Pick → Asking → Wish
wish_of pick asking = record { pick = pick; from = asking.from; to = asking.to }

-- ---- contents

-- an answer is joined to the series, and a refusal leaves them
abbrev pub TakesIn : List Series → Result (List Series) Reason → List Series → Type 0
TakesIn old (Ok answer) new = IsMergeOf old answer new
TakesIn old (Err why) new = new ≡ old

-- the content is that of these answers, joined
pub record IsContentOf (ns : ℕ) (answers : List (List Series)) (c : Contents) : Type 0 where
  pub covers : (answer : List Series) → IsIn answers answer → (p : Point) → IsIn (points_in ns answer) p → Holds c p
  pub nothing_else : (p : Point) → HasPoint c p → (answer : List Series) × IsIn answers answer × IsIn (points_in ns answer) p

-- ---- the nodes of a shard

-- these nodes were asked, one after the other
pub record WereAsked {D : Type 0} (disk : D → DiskState) (fates : FateMap) (id : CallId) (shard : ℕ) (c : StepCall) (nodes : List ℕ) (heard : List (Heard (List Series))) (old new : Tracked D) : Type 0 where
  pub reads : List Event
  pub are : AreHeard reply.Found fates id shard c nodes heard reads
  pub ran : Ran disk old reads new
  pub few : length reads ≤ 4 * length nodes

-- ---- a shard

-- its read went from its start to its end; `whole` tells whether at least `most` answered
pub record IsShardRead {D : Type 0} (disk : D → DiskState) (state : MetaState) (fates : FateMap) (id : CallId) (w : Wish) (shard needed most : ℕ) (series : List Series) (whole : Bool) (old new : Tracked D) : Type 0 where
  pub read : ShardRead
  pub asked : IsAsked state fates id w shard read
  pub ended : IsEnded w needed (length old.events) read
  pub series_are : series ≡ read.series
  pub all_whole : whole ≡ true → most ≤ length (answering (told_in read))
  pub fewer : whole ≡ false → length (answering (told_in read)) < most
  pub ran : Ran disk old (start_of state w shard ∷ (read.reads ++ done_of read ∷ [])) new

-- it came short, and has no end
pub record IsShortRead {D : Type 0} (disk : D → DiskState) (state : MetaState) (fates : FateMap) (id : CallId) (w : Wish) (asked due shard needed got : ℕ) (reasons : List (ℕ × Reason)) (old new : Tracked D) : Type 0 where
  pub read : ShardRead
  pub is : IsAsked state fates id w asked read
  pub too_few : IsTooFew due asked (told_in read) shard needed got reasons
  pub ran : Ran disk old (start_of state w asked ∷ read.reads) new

-- it began, and some first nodes were asked
pub record IsHalfRead {D : Type 0} (disk : D → DiskState) (state : MetaState) (fates : FateMap) (id : CallId) (w : Wish) (shard : ℕ) (old new : Tracked D) : Type 0 where
  pub read : ShardRead
  pub k : ℕ
  pub is : IsPartlyAsked state fates id w shard k read
  pub ran : Ran disk old (start_of state w shard ∷ read.reads) new

-- why it didn't end
abbrev pub IsUnread : {D : Type 0} → (D → DiskState) → MetaState → FateMap → CallId → Wish → ℕ → ℕ → Tracked D → Tracked D → SessionErr → Type 0
IsUnread disk state fates id w asked due old new (err.Consistency shard needed got reasons) = IsShortRead disk state fates id w asked due shard needed got reasons old new
IsUnread disk state fates id w asked due old new err.Memory = (new ≡ old) ⊎ IsHalfRead disk state fates id w asked old new
IsUnread disk state fates id w asked due old new err.Full = (new ≡ old) × ((nodes : List ℕ) × AreCountedOnce state.place asked nodes × ¬ HasRoom (most_added nodes) old.events)

-- ---- shards

-- what these shards gave, together; `whole` tells whether at least `most` of each answered
pub record IsGathered {D : Type 0} (disk : D → DiskState) (state : MetaState) (fates : FateMap) (id : CallId) (w : Wish) (needed most : ℕ) (shards : List ℕ) (series : List Series) (whole : Bool) (old new : Tracked D) : Type 0 where
  pub reads : ℕ → ShardRead
  pub events : List Event
  pub are : AreRead state fates id w needed (length old.events) shards reads events
  pub ran : Ran disk old events new
  pub together : AreTogether (space_picked w.pick) shards reads series
  pub all_whole : whole ≡ true → (s : ℕ) → IsIn shards s → most ≤ length (answering (told_in (reads s)))
  pub some_short : whole ≡ false → (s : ℕ) × IsIn shards s × (length (answering (told_in (reads s))) < most)
