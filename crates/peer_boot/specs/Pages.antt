-- How far a stream has come.
use Rattle.std.specs.Prelude.{ℕ, List, map, Option, Some, None}
use Rattle.m3_model.specs.declared.point.Key.{Key}
use Rattle.session_net.specs.cluster_core.Answers.{IsCover}
use Rattle.session_net.specs.m3_outside.DiskState.{DiskState}
use Rattle.session_net.specs.replica_calls.Calls.{Tracked}
use Rattle.session_net.specs.Runs.{Ran}
use Rattle.peer_streams.specs.Streams.{GoOnTo, Handed, fenced_pages, page_asked}

-- q was fenced and gave pages that go on from this key, each of which y merged
pub record Gave {D : Type 0} (state : D → DiskState) (s q y tenure : ℕ) (after : Option Key) (old now : Tracked D) : Type 0 where
  pub pages : List Handed
  pub so_far : GoOnTo None (map page_asked pages) after
  pub ran : Ran state old (fenced_pages s q y tenure pages) now

-- and the last of them doesn't go on
pub record GaveAll {D : Type 0} (state : D → DiskState) (s q y tenure : ℕ) (old now : Tracked D) : Type 0 where
  pub pages : List Handed
  pub cover : IsCover (map page_asked pages)
  pub ran : Ran state old (fenced_pages s q y tenure pages) now

-- the stream goes on from this key, or is whole
abbrev pub Stands : {D : Type 0} → (D → DiskState) → (s q y tenure : ℕ) → Option Key → Tracked D → Tracked D → Type 0
Stands state s q y tenure None old now = GaveAll state s q y tenure old now
Stands state s q y tenure (Some k) old now = Gave state s q y tenure (Some k) old now
