-- What reads leave of the list tells of their turns.
use Rattle.std.specs.Prelude.{◌≡◌, ◌⊎◌, ℕ, List, [], Option, Some, Bool}
use Rattle.m3_model.specs.Levels.{needed_read}
use Rattle.m3_model.specs.Reads.{read_of}
use Rattle.m3_model.specs.declared.act.Act.{Act}
use Rattle.m3_model.specs.declared.act.ReadLevel.{ReadLevel}
use Rattle.m3_model.specs.declared.answer.Answer.TheVariants as answer
use Rattle.m3_model.specs.declared.point.Series.{Series}
use Rattle.m3_model.specs.declared.reason.Reason.{Reason}
use Rattle.m3_model.specs.declared.rules.MetaState.{MetaState}
use Rattle.m3_model.specs.declared.turn.Turn.{Turn}
use Rattle.m3_outside.specs.DiskState.{DiskState}
use Rattle.m3_outside.specs.declared.disk.Disk.{Ghosts}
use Rattle.cluster_core.specs.Legal.{Legal}
use Rattle.session_net.specs.replica_exchange.declared.call_id.CallId.{CallId}
use Rattle.session_net.specs.Reads.{IsCutShort, IsFirstShort, IsReadFound, IsFull, IsStopped, Wish}
use Rattle.session_net.specs.Ready.{IsCallable}
use Rattle.session_net.specs.declared.net.Net.{Net}
use Rattle.told_runs.specs.told_by.Lines.{ReadLine}
use Rattle.told_runs.specs.transcripts.Calls.{call_of}
use Rattle.line_tracks.specs.calls.Laws.{LeavesLine, LeavesServed}
use Rattle.line_tracks.specs.calls.Left.{NetIsUsable, IsNextCall}

-- the next turn is a read of what this wish wants, made as this call where calls may be made
pub record IsReadTurn {D : Type 0} {G : Ghosts D} (start : Option MetaState) (turns : List Turn) (net : Net D G) (id : CallId) (a : Act) (w : Wish) (level : ReadLevel) : Type 0 where
  pub version : Option ℕ
  pub left : NetIsUsable start turns version net
  pub ready : IsCallable net.state net.replicas net.bag
  pub next : IsNextCall turns id
  pub name : Option (List ℕ)
  pub of_call : call_of a ≡ Some (record { id = name; version = version; needed = needed_read level })
  pub of_act : read_of net.state.rules.spaces a ≡ Some (record { pick = w.pick; from = w.from; to = w.to; level = level })

-- one that was answered tells of its line
abbrev pub FoundTells : {D : Type 0} {G : Ghosts D} → (D → DiskState) → Net D G → Type 0
FoundTells {D} {G} state old =
    (tells : Bool) (start : Option MetaState) (turns : List Turn) (new : Net D G) (id : CallId) (a : Act) (w : Wish) (level : ReadLevel) (series : List Series) (short : Bool)
    → IsReadTurn start turns old id a w level → Legal tells new.replicas.events → IsReadFound state old id w level series short new → LeavesLine ReadLine start turns [] old a (answer.Found series short) new

-- so does one that too few answered
abbrev pub FirstShortTells : {D : Type 0} {G : Ghosts D} → (D → DiskState) → Net D G → Type 0
FirstShortTells {D} {G} state old =
    (tells : Bool) (start : Option MetaState) (turns : List Turn) (new : Net D G) (id : CallId) (a : Act) (w : Wish) (level : ReadLevel) (shard needed got : ℕ) (reasons : List (ℕ × Reason))
    → IsReadTurn start turns old id a w level → Legal tells new.replicas.events → IsFirstShort state old.state old.fates id w (needed_read level old.state.place.rf) old.replicas new.replicas shard needed got reasons
    → LeavesLine ReadLine start turns [] old a (answer.Consistency got needed reasons shard) new

-- and one that ended early for want of memory, between two shards or within one
abbrev pub EndedTells : {D : Type 0} {G : Ghosts D} → (D → DiskState) → Net D G → Type 0
EndedTells {D} {G} state old =
    (start : Option MetaState) (turns : List Turn) (new : Net D G) (id : CallId) (a : Act) (w : Wish) (level : ReadLevel) → IsReadTurn start turns old id a w level
    → IsStopped state old.state old.fates id w (needed_read level old.state.place.rf) old.replicas new.replicas ⊎ IsCutShort state old.state old.fates id w (needed_read level old.state.place.rf) old.replicas new.replicas
    → LeavesLine ReadLine start turns [] old a answer.Memory new

-- One for which the list had no room tells of its line too, which is served.
abbrev pub FullTells : {D : Type 0} {G : Ghosts D} → (D → DiskState) → Net D G → Type 0
FullTells {D} {G} state old =
    (start : Option MetaState) (turns : List Turn) (new : Net D G) (id : CallId) (a : Act) (w : Wish) (level : ReadLevel) → IsReadTurn start turns old id a w level
    → IsFull state old.state old.fates id w (needed_read level old.state.place.rf) old.replicas new.replicas → LeavesServed ReadLine start turns [] old.replicas.events a answer.Full new.replicas.events
