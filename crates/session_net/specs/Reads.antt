-- What a fetch answers, and what it leaves.
use Rattle.std.specs.Prelude.{◌≡◌, ◌⊎◌, ◌↔◌, ℕ, zero, suc, ◌+◌, ◌*◌, ◌<◌, ◌≤◌, List, [], ◌∷◌, ◌++◌, map, length, take, Bool, true, IsErrOf}
use Rattle.std.specs.List.{filter_map}
use Rattle.std.specs.Result.{result_ok}
use Rattle.m3_model.specs.Hash.{shard_of}
use Rattle.m3_model.specs.Levels.{majority, needed_read}
use Rattle.m3_model.specs.Members.{IsIn}
use Rattle.m3_model.specs.Reads.{Covers, IsOrdered, points_in, space_picked}
use Rattle.m3_model.specs.declared.act.ReadLevel.{ReadLevel}
use Rattle.m3_model.specs.declared.act.ReadLevel.TheVariants as read
use Rattle.m3_model.specs.declared.point.Pick.{Pick}
use Rattle.m3_model.specs.declared.point.Pick.TheVariants as pick
use Rattle.m3_model.specs.declared.point.Point.{Point}
use Rattle.m3_model.specs.declared.point.Series.{Series}
use Rattle.m3_model.specs.declared.reason.Damage.{Damage}
use Rattle.m3_model.specs.declared.reason.Reason.{Reason}
use Rattle.m3_model.specs.declared.reason.Reason.TheVariants as reason
use Rattle.m3_model.specs.declared.rules.MetaState.{MetaState}
use Rattle.m3_model.specs.declared.rules.Rules.{Rules}
use Rattle.replica_calls.specs.m3_outside.DiskState.{DiskState}
use Rattle.replica_calls.specs.m3_outside.declared.disk.Disk.{Ghosts}
use Rattle.replica_calls.specs.cluster_core.Answers.{IsJoin}
use Rattle.replica_calls.specs.cluster_core.declared.event.Event.{Event}
use Rattle.replica_calls.specs.cluster_core.declared.event.Event.TheVariants as event
use Rattle.replica_calls.specs.cluster_core.declared.event.StepCall.{StepCall}
use Rattle.replica_calls.specs.cluster_core.declared.event.StepCall.TheVariants as call
use Rattle.replica_calls.specs.cluster_core.declared.event.StepReply.TheVariants as reply
use Rattle.net_plan.specs.Fates.{FateMap}
use Rattle.replica_calls.specs.MachineCalls.{HasRoom}
use Rattle.replica_calls.specs.CallId.{CallId}
use Rattle.replica_calls.specs.Calls.{Tracked}
use Rattle.replica_calls.specs.Damages.{IsFileDamage}
use Rattle.session_net.specs.Messages.{Heard, AreHeard}
use Rattle.session_net.specs.Outcomes.{NodeOutcome, told_of, answering, AreCountedOnce, IsTooFew}
use Rattle.session_net.specs.Runs.{Ran}
use Rattle.session_net.specs.declared.net.Net.{Net}
use Rattle.session_net.specs.declared.session_err.SessionErr.{SessionErr}
use Rattle.session_net.specs.declared.session_err.SessionErr.TheVariants as err

-- What a read asks for.
pub record Wish : Type 0 where
  pub pick : Pick
  pub from : ℕ
  pub to : ℕ

-- what each replica is asked
abbrev pub read_of : CallId → Rules → ℕ → Wish → StepCall
read_of id rules version w = call.Read id.client id.number rules version w.pick w.from w.to

-- the numbers from one on, so many
abbrev pub count_from : ℕ → ℕ → List ℕ
count_from first zero = []
count_from first (suc n) = first ∷ count_from (suc first) n

-- one identifier is asked of its shard, and a match of every shard
abbrev pub asked_shards : MetaState → Pick → List ℕ
asked_shards state (pick.One ns id) = shard_of id state.seed (length state.place.shards) ∷ []
asked_shards state (pick.Match ns wanted) = count_from 0 (length state.place.shards)

-- ---- one shard

-- A read of one shard: the position at which it begins, the nodes that count for the shard, what each that was asked was heard to say, the events that its
-- messages brought, and the series of its end.
pub record ShardRead : Type 0 where
  pub begun : ℕ
  pub nodes : List ℕ
  pub heard : List (Heard (List Series))
  pub reads : List Event
  pub series : List Series

-- what is counted of it
abbrev pub told_in : ShardRead → List NodeOutcome
told_in r = map told_of r.heard

-- the answers of those that answered
abbrev pub answers_in : ShardRead → List (List Series)
answers_in r = filter_map (λ x. result_ok x.1) r.heard

-- each damage that a node was heard to find is of its files' form
abbrev pub AreForms : List (Heard (List Series)) → Type 0
AreForms heard = (x : Heard (List Series)) → IsIn heard x → (damage : Damage) → IsErrOf x.1 (reason.Corrupt damage) → IsFileDamage damage

-- all nodes that count for the shard were asked, one after the other
pub record IsAsked (state : MetaState) (fates : FateMap) (id : CallId) (w : Wish) (shard : ℕ) (r : ShardRead) : Type 0 where
  pub counted : AreCountedOnce state.place shard r.nodes
  pub heard : AreHeard reply.Found fates id shard (read_of id state.rules state.place.version w) r.nodes r.heard r.reads
  pub forms : AreForms r.heard

-- so many first ones of them were
pub record IsPartlyAsked (state : MetaState) (fates : FateMap) (id : CallId) (w : Wish) (shard k : ℕ) (r : ShardRead) : Type 0 where
  pub counted : AreCountedOnce state.place shard r.nodes
  pub heard : AreHeard reply.Found fates id shard (read_of id state.rules state.place.version w) (take k r.nodes) r.heard r.reads

-- it began at this position, enough answered, and the series are the join of all their answers
pub record IsEnded (w : Wish) (needed position : ℕ) (r : ShardRead) : Type 0 where
  pub begun : r.begun ≡ position
  pub enough : needed ≤ length (answering (told_in r))
  pub joined : IsJoin (space_picked w.pick) (answers_in r) r.series

-- the read of a shard begins
abbrev pub start_of : MetaState → Wish → ℕ → Event
start_of state w shard = event.FetchStart state.place.version shard state.rules w.pick w.from w.to

-- and ends, with exactly the nodes that answered
abbrev pub done_of : ShardRead → Event
done_of r = event.FetchDone r.begun (answering (told_in r)) r.series

-- the position of its end
abbrev pub ended_of : ShardRead → ℕ
ended_of r = r.begun + (1 + length r.reads)

-- ---- shards one after the other

-- the reads of these shards, each from its start to its end, of which the first begins at this position of the list
abbrev pub AreRead : MetaState → FateMap → CallId → Wish → ℕ → ℕ → List ℕ → (ℕ → ShardRead) → List Event → Type 0
AreRead state fates id w needed position [] reads events = events ≡ []
AreRead state fates id w needed position (s ∷ shards) reads events =
    IsAsked state fates id w s (reads s) × IsEnded w needed position (reads s) × (rest : List Event) × (events ≡ start_of state w s ∷ ((reads s).reads ++ done_of (reads s) ∷ rest))
    × AreRead state fates id w needed (suc (ended_of (reads s))) shards reads rest

-- the series have a point only where a shard's read has it, and cover each of theirs
pub record AreTogether (ns : ℕ) (shards : List ℕ) (reads : ℕ → ShardRead) (series : List Series) : Type 0 where
  pub nothing_else : (p : Point) → IsIn (points_in ns series) p → (s : ℕ) × IsIn shards s × IsIn (points_in ns (reads s).series) p
  pub all_there : (s : ℕ) → IsIn shards s → (p : Point) → IsIn (points_in ns (reads s).series) p → Covers (points_in ns series) p
  pub ordered : IsOrdered series

-- Enough nodes of each shard that is asked answered, and the series are all answers together. They are short exactly where the level is unstrict and fewer
-- than a majority of one of the shards answered.
pub record IsReadFound {D : Type 0} {G : Ghosts D} (disk : D → DiskState) (old : Net D G) (id : CallId) (w : Wish) (level : ReadLevel) (series : List Series) (short : Bool) (new : Net D G) : Type 0 where
  pub reads : ℕ → ShardRead
  pub events : List Event
  pub are : AreRead old.state old.fates id w (needed_read level old.state.place.rf) (length old.replicas.events) (asked_shards old.state w.pick) reads events
  pub ran : Ran disk old.replicas events new.replicas
  pub together : AreTogether (space_picked w.pick) (asked_shards old.state w.pick) reads series
  pub short_where : (short ≡ true) ↔ ((level ≡ read.Unstrict) × ((s : ℕ) × IsIn (asked_shards old.state w.pick) s × (length (answering (told_in (reads s))) < majority old.state.place.rf)))

-- ---- a fetch that doesn't find

-- some first ones of the shards that are asked were read, each to its end, and these are left
pub record WereRead (state : MetaState) (fates : FateMap) (id : CallId) (w : Wish) (needed position : ℕ) (before after : List ℕ) (reads : ℕ → ShardRead) (events : List Event) : Type 0 where
  pub asked : asked_shards state w.pick ≡ before ++ after
  pub are : AreRead state fates id w needed position before reads events

-- so many events the read of one shard may add: its FetchStart, two for each delivery to a node, of which there may be two, and its FetchDone
abbrev pub most_added : List ℕ → ℕ
most_added nodes = 2 + 4 * length nodes

module _ {D : Type 0} (disk : D → DiskState) (state : MetaState) (fates : FateMap) (id : CallId) (w : Wish) (due : ℕ) (old new : Tracked D) where
  -- of one of the shards fewer than due answered, of each before it as many, and later ones weren't asked
  pub record IsFirstShort (shard needed got : ℕ) (reasons : List (ℕ × Reason)) : Type 0 where
    pub before : List ℕ
    pub here : ℕ
    pub after : List ℕ
    pub reads : ℕ → ShardRead
    pub events : List Event
    pub were : WereRead state fates id w due (length old.events) before (here ∷ after) reads events
    pub last : ShardRead
    pub asked : IsAsked state fates id w here last
    pub too_few : IsTooFew due here (told_in last) shard needed got reasons
    pub ran : Ran disk old (events ++ start_of state w here ∷ last.reads) new

  -- it ended between two shards
  pub record IsStopped : Type 0 where
    pub before : List ℕ
    pub after : List ℕ
    pub reads : ℕ → ShardRead
    pub events : List Event
    pub were : WereRead state fates id w due (length old.events) before after reads events
    pub ran : Ran disk old events new

  -- it ended within one, whose read began
  pub record IsCutShort : Type 0 where
    pub before : List ℕ
    pub here : ℕ
    pub after : List ℕ
    pub reads : ℕ → ShardRead
    pub events : List Event
    pub were : WereRead state fates id w due (length old.events) before (here ∷ after) reads events
    pub last : ShardRead
    pub k : ℕ
    pub asked : IsPartlyAsked state fates id w here k last
    pub ran : Ran disk old (events ++ start_of state w here ∷ last.reads) new

  -- it ended before a shard for which the list has no room
  pub record IsFull : Type 0 where
    pub before : List ℕ
    pub here : ℕ
    pub after : List ℕ
    pub reads : ℕ → ShardRead
    pub events : List Event
    pub were : WereRead state fates id w due (length old.events) before (here ∷ after) reads events
    pub ran : Ran disk old events new
    pub nodes : List ℕ
    pub counted : AreCountedOnce state.place here nodes
    pub no_room : ¬ HasRoom (most_added nodes) new.events

  -- too few answered of one of the shards; or memory was wanted; or the list had no room for the next one
  abbrev pub IsUnfound : SessionErr → Type 0
  IsUnfound (err.Consistency shard needed got reasons) = IsFirstShort shard needed got reasons
  IsUnfound err.Memory = IsStopped ⊎ IsCutShort
  IsUnfound err.Full = IsFull

abbrev pub IsRefusedRead : {D : Type 0} {G : Ghosts D} → (D → DiskState) → Net D G → CallId → Wish → ReadLevel → Net D G → SessionErr → Type 0
IsRefusedRead disk old id w level new e = IsUnfound disk old.state old.fates id w (needed_read level old.state.place.rf) old.replicas new.replicas e
