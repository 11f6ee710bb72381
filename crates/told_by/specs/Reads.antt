-- What a list tells of reads: each that was answered began and ended at each shard that it asks, and these ends together are its answer.
use Rattle.transcripts.specs.Calls.{AsksShard}
use Rattle.std.specs.Prelude.{◌≡◌, ◌≤◌, ◌<◌, ℕ, List, length, Option, Some, true, false}
use Rattle.m3_model.specs.Levels.{majority}
use Rattle.m3_model.specs.Members.{IsIn}
use Rattle.m3_model.specs.Reads.{Read, Found, Covers, IsOrdered, points_in, read_of, found_of, space_picked}
use Rattle.transcripts.specs.Calls.{Call, call_of}
use Rattle.transcripts.specs.Record.{TurnPosition}
use Rattle.transcripts.specs.Rules.{rules_at}
use Rattle.m3_model.specs.declared.act.ReadLevel.TheVariants.{Unstrict}
use Rattle.m3_model.specs.declared.placement.Placement.{Placement}
use Rattle.m3_model.specs.declared.point.Pick.{Pick}
use Rattle.m3_model.specs.declared.point.Point.{Point}
use Rattle.m3_model.specs.declared.point.Series.{Series}
use Rattle.m3_model.specs.declared.rules.MetaState.{MetaState}
use Rattle.m3_model.specs.declared.rules.Rules.{Rules}
use Rattle.cluster_core.specs.Lists.{At}
use Rattle.cluster_core.specs.declared.event.Event.{Event}
use Rattle.cluster_core.specs.declared.event.Event.TheVariants as event
use Rattle.told_by.specs.Writes.{Uses}

-- The read of one shard: where it began and ended in the list, and what it then had.
pub record Fetched : Type 0 where
  pub began : ℕ
  pub ended : ℕ
  pub nodes : List ℕ
  pub series : List Series

-- What a turn reads, and over which placement.
pub record Asking : Type 0 where
  pub read : Read
  pub call : Call
  pub place : Placement

-- the turn asks so
pub record IsAskingOf (start : Option MetaState) (events : List Event) (p : TurnPosition) (a : Asking) : Type 0 where
  pub of_act : read_of (rules_at start p).spaces p.turn.act ≡ Some a.read
  pub of_call : call_of p.turn.act ≡ Some a.call
  pub uses : Uses start events p a.call.version a.place

-- it asks this shard
abbrev pub IsAskedBy : Option MetaState → TurnPosition → Asking → ℕ → Type 0
IsAskedBy start p a s = AsksShard start p a.place a.call.id s

-- the turn's read of the shard, by the turn's rules
pub record IsFetchOf (start : Option MetaState) (Mine : ℕ → Type 0) (events : List Event) (makers : ℕ → TurnPosition) (p : TurnPosition) (a : Asking) (s : ℕ) (f : Fetched) : Type 0 where
  pub start_there : At events f.began (event.FetchStart a.place.version s (rules_at start p) a.read.pick a.read.from a.read.to)
  pub start_mine : Mine f.began
  pub own_start : makers f.began ≡ p
  pub done_there : At events f.ended (event.FetchDone f.began f.nodes f.series)
  pub done_mine : Mine f.ended
  pub own_done : makers f.ended ≡ p

-- the reads of the shards that are asked are together the answer: it has a point only where one of them has it, and covers each of theirs
pub record AreTogether (ns : ℕ) (Asked : ℕ → Type 0) (fetches : ℕ → Fetched) (series : List Series) : Type 0 where
  pub nothing_else : (p : Point) → IsIn (points_in ns series) p → (s : ℕ) × Asked s × IsIn (points_in ns (fetches s).series) p
  pub all_there : (s : ℕ) → Asked s → (p : Point) → IsIn (points_in ns (fetches s).series) p → Covers (points_in ns series) p
  pub ordered : IsOrdered series

-- the read has a fetch of each shard that it asks, which as many nodes answered as the level needs; and it is short exactly where it is
-- unstrict and fewer than a majority answered one of them
pub record IsTold (start : Option MetaState) (Mine : ℕ → Type 0) (events : List Event) (makers : ℕ → TurnPosition) (p : TurnPosition) (found : Found) : Type 0 where
  pub asking : Asking
  pub of_turn : IsAskingOf start events p asking
  pub fetches : ℕ → Fetched
  pub each : (s : ℕ) → IsAskedBy start p asking s → IsFetchOf start Mine events makers p asking s (fetches s)
  pub enough : (s : ℕ) → IsAskedBy start p asking s → asking.call.needed asking.place.rf ≤ length (fetches s).nodes
  pub together : AreTogether (space_picked asking.read.pick) (IsAskedBy start p asking) fetches found.series
  pub is_short : found.short ≡ true → (asking.read.level ≡ Unstrict) × (s : ℕ) × IsAskedBy start p asking s × (length (fetches s).nodes < majority asking.place.rf)
  pub not_short : found.short ≡ false → asking.read.level ≡ Unstrict → (s : ℕ) → IsAskedBy start p asking s → majority asking.place.rf ≤ length (fetches s).nodes

-- the FetchStart is the turn's
pub record IsStartOf (start : Option MetaState) (events : List Event) (p : TurnPosition) (version s : ℕ) (rules : Rules) (pick : Pick) (from to : ℕ) : Type 0 where
  pub asking : Asking
  pub of_turn : IsAskingOf start events p asking
  pub asked : IsAskedBy start p asking s
  pub version_is : version ≡ asking.place.version
  pub rules_are : rules ≡ rules_at start p
  pub pick_is : pick ≡ asking.read.pick
  pub from_is : from ≡ asking.read.from
  pub to_is : to ≡ asking.read.to

-- the turn's own FetchStart stands at this position
pub record IsStartAt (Mine : ℕ → Type 0) (events : List Event) (makers : ℕ → TurnPosition) (p : TurnPosition) (began : ℕ) : Type 0 where
  pub version : ℕ
  pub s : ℕ
  pub rules : Rules
  pub pick : Pick
  pub from : ℕ
  pub to : ℕ
  pub there : At events began (event.FetchStart version s rules pick from to)
  pub mine : Mine began
  pub own : makers began ≡ p

pub record TellsReads (start : Option MetaState) (Here : TurnPosition → Type 0) (Mine : ℕ → Type 0) (events : List Event) (makers : ℕ → TurnPosition) : Type 0 where
  -- each answered read
  pub found : (p : TurnPosition) → Here p → (found : Found) → found_of p.turn.answer ≡ Some found → IsTold start Mine events makers p found
  -- each FetchStart is that of its maker, and each FetchDone is of its maker's FetchStart
  pub each_start : (i version s : ℕ) (rules : Rules) (pick : Pick) (from to : ℕ) → Mine i → At events i (event.FetchStart version s rules pick from to) → IsStartOf start events (makers i) version s rules pick from to
  pub each_done : (i began : ℕ) (nodes : List ℕ) (series : List Series) → Mine i → At events i (event.FetchDone began nodes series) → IsStartAt Mine events makers (makers i) began
