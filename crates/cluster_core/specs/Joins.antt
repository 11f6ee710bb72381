-- When a joining replica has the points of the former ones: it merged, from a majority of them, pages that cover them, given
-- after they were fenced for the move.
use Rattle.std.specs.Prelude.{◌≡◌, ◌≤◌, ℕ, ⊤, List, [], ◌∷◌}
use Rattle.std.specs.List.{Any}
use Rattle.m3_model.specs.Members.{IsIn}
use Rattle.m3_model.specs.declared.point.Page.{Page}
use Rattle.placement_core.specs.Majorities.{IsMajority}
use Rattle.placement_core.specs.Shards.{Shard, former}
use Rattle.cluster_core.specs.Answers.{PageAsked, IsCover}
use Rattle.cluster_core.specs.Lists.{AfterSome}
use Rattle.cluster_core.specs.declared.event.Event.{Event}
use Rattle.cluster_core.specs.declared.event.Event.TheVariants as event
use Rattle.cluster_core.specs.declared.event.StepCall.TheVariants as call
use Rattle.cluster_core.specs.declared.event.StepReply.TheVariants as reply

-- the replica began with the tenure
abbrev pub BeganWith : ℕ → ℕ → ℕ → Event → Type 0
BeganWith n s tenure (event.Step node shard (call.Begin with_tenure) (reply.Began fence points)) = (node ≡ n) × (shard ≡ s) × (with_tenure ≡ tenure)
BeganWith n s tenure _ = ⊥

-- the replica was fenced at the version or a higher one
abbrev pub FencedAt : ℕ → ℕ → ℕ → Event → Type 0
FencedAt n s version (event.Step node shard (call.Fence at_version) reply.Done) = (node ≡ n) × (shard ≡ s) × (version ≤ at_version)
FencedAt n s version _ = ⊥

-- the replica gave the page, asked for so
abbrev pub GaveAsked : ℕ → ℕ → PageAsked → Event → Type 0
GaveAsked n s p (event.Step node shard (call.Page from) (reply.Paged page)) = (node ≡ n) × (shard ≡ s) × (from ≡ p.0) × (page ≡ p.1)
GaveAsked n s p _ = ⊥

-- the replica merged the page
abbrev pub MergedPage : ℕ → ℕ → Page → Event → Type 0
MergedPage n s page (event.Step node shard (call.Merge merged) (reply.Count count)) = (node ≡ n) × (shard ≡ s) × (merged ≡ page)
MergedPage n s page _ = ⊥

-- the replica gave the pages one after the other
abbrev pub GavePages : ℕ → ℕ → List PageAsked → List Event → Type 0
GavePages n s [] events = ⊤
GavePages n s (p ∷ pages) events = AfterSome (GaveAsked n s p) (GavePages n s pages) events

-- pages that cover q, given in the later events, all of which y merged since it began
pub record HasCover (s q y : ℕ) (since later : List Event) : Type 0 where
  pub pages : List PageAsked
  pub cover : IsCover pages
  pub given : GavePages q s pages later
  pub merged : (p : PageAsked) → IsIn pages p → Any (MergedPage y s p.1) since

-- q was fenced at the tenure since y began, and then gave pages that cover it, which y merged
abbrev pub HasFenced : ℕ → ℕ → ℕ → ℕ → List Event → Type 0
HasFenced s q y tenure since = AfterSome (FencedAt q s tenure) (HasCover s q y since) since

-- y began with the tenure, and since then has merged pages that cover q, fenced at it
abbrev pub HasStreamed : ℕ → ℕ → ℕ → ℕ → List Event → Type 0
HasStreamed s y tenure q past = AfterSome (BeganWith y s tenure) (HasFenced s q y tenure) past

-- so did a majority of the former replicas of the shard
pub record HasJoined (past : List Event) (rf : ℕ) (shard : Shard) (s y tenure : ℕ) : Type 0 where
  pub peers : List ℕ
  pub enough : IsMajority rf (former shard) peers
  pub streamed : (q : ℕ) → IsIn peers q → HasStreamed s y tenure q past
