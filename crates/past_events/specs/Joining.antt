-- What the look-up of covers and of peers tells from one event, and from one assignment, to the next.
use Rattle.std.specs.Prelude.{◌≡◌, ◌≢◌, ℕ, List, Option}
use Rattle.std.specs.List.{Any}
use Rattle.m3_model.specs.declared.placement.Assignment.{Assignment}
use Rattle.m3_model.specs.declared.placement.ShardState.TheVariants.{Initializing}
use Rattle.m3_model.specs.declared.point.Key.{Key}
use Rattle.m3_model.specs.declared.point.Page.{Page}
use Rattle.cluster_core.specs.Joins.{GaveAsked, MergedPage, HasStreamed}
use Rattle.cluster_core.specs.declared.event.Event.{Event}

-- the event gave the page, asked for with one of the keys, and the page was merged
pub record IsNext (s q y : ℕ) (since : List Event) (keys : List (Option Key)) (e : Event) (page : Page) : Type 0 where
  pub from : Option Key
  pub known : Any (λ k. k ≡ from) keys
  pub gave : GaveAsked q s (from, page) e
  pub merged : Any (MergedPage y s page) since

-- the event gave no such page
abbrev pub IsNoNext : ℕ → ℕ → ℕ → List Event → List (Option Key) → Event → Type 0
IsNoNext s q y since keys e = (page : Page) → ¬ IsNext s q y since keys e page

-- a node that holds the shard, isn't among the peers yet, and from which a cover was merged
pub record IsNewPeer (past : List Event) (s y tenure : ℕ) (a : Assignment) (peers : List ℕ) : Type 0 where
  pub holds : a.state ≢ Initializing
  pub new : ¬ Any (λ p. p ≡ a.node) peers
  pub streamed : HasStreamed s y tenure a.node past
