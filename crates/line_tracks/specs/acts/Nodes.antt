-- What stops and restarts leave of the list tells of their lines, and serves them; and the cluster stands afterwards.
use Rattle.std.specs.Prelude.{ℕ, List, [], ◌∷◌, ◌++◌, Option}
use Rattle.m3_model.specs.declared.act.Act.{Act}
use Rattle.m3_model.specs.declared.act.Act.TheVariants as act
use Rattle.m3_model.specs.declared.answer.Answer.{Answer}
use Rattle.m3_model.specs.declared.answer.Answer.TheVariants as answer
use Rattle.m3_model.specs.declared.rules.MetaState.{MetaState}
use Rattle.m3_model.specs.declared.turn.Turn.{Turn}
use Rattle.m3_outside.specs.DiskState.{DiskState}
use Rattle.m3_outside.specs.declared.disk.Disk.{Ghosts}
use Rattle.told_runs.specs.told_by.Lines.{PlainLine}
use Rattle.transcripts.specs.Record.{line_of}
use Rattle.line_tracks.specs.calls.Laws.{LeavesLine}
use Rattle.node_calls.specs.cluster_members.declared.members.Members.{Members}
use Rattle.node_calls.specs.Nodes.{IsRestarted, IsStopped}
use Rattle.line_tracks.specs.acts.Stands.{ClusterStands}

-- What came to the list tells of the turn's line; where no refusal was due the line is served; and the cluster stands afterwards.
pub record LeavesStanding {D : Type 0} {G : Ghosts D} (start : Option MetaState) (turns : List Turn) (old : Members D G) (a : Act) (b : Answer) (new : Members D G) : Type 0 where
  pub line : LeavesLine PlainLine start turns [] old.net a b new.net
  pub stands : ClusterStands start (turns ++ line_of a b ∷ []) new

-- a node that is stopped
abbrev pub StoppedTells : {D : Type 0} {G : Ghosts D} → (D → DiskState) → Members D G → Type 0
StoppedTells {D} {G} state old =
    (start : Option MetaState) (turns : List Turn) (new : Members D G) (name : List ℕ) → ClusterStands start turns old → IsStopped state old name answer.Done new → LeavesStanding start turns old (act.Stop name) answer.Done new

-- one that is restarted
abbrev pub RestartedTells : {D : Type 0} {G : Ghosts D} → (D → DiskState) → Members D G → Type 0
RestartedTells {D} {G} state old =
    (start : Option MetaState) (turns : List Turn) (new : Members D G) (name : List ℕ) (pick : ℕ) → ClusterStands start turns old → IsRestarted state old name answer.Done new
    → LeavesStanding start turns old (act.Restart name pick) answer.Done new

-- one of which a replica couldn't be restarted, by a fault of its disk
abbrev pub RestartFailedTells : {D : Type 0} {G : Ghosts D} → (D → DiskState) → Members D G → Type 0
RestartFailedTells {D} {G} state old =
    (start : Option MetaState) (turns : List Turn) (new : Members D G) (name node : List ℕ) (pick shard : ℕ) → ClusterStands start turns old → IsRestarted state old name (answer.Disk node shard) new
    → LeavesStanding start turns old (act.Restart name pick) (answer.Disk node shard) new

-- or for want of memory
abbrev pub RestartWantedTells : {D : Type 0} {G : Ghosts D} → (D → DiskState) → Members D G → Type 0
RestartWantedTells {D} {G} state old =
    (start : Option MetaState) (turns : List Turn) (new : Members D G) (name : List ℕ) (pick : ℕ) → ClusterStands start turns old → IsRestarted state old name answer.Memory new
    → LeavesStanding start turns old (act.Restart name pick) answer.Memory new
