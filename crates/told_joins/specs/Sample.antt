-- A bootstrap that ends the move of a shard, and lists that are none of such a bootstrap, each broken in one place.
use Rattle.std.specs.Prelude.{ℕ, List, [], ◌∷◌, ◌++◌, Some, None}
use Rattle.m3_model.specs.Members.{IsIn}
use Rattle.m3_model.specs.declared.placement.Placement.{Placement}
use Rattle.m3_model.specs.declared.point.Page.{Page}
use Rattle.cluster_core.specs.declared.event.Asked.TheVariants as asked
use Rattle.cluster_core.specs.declared.event.Event.{Event}
use Rattle.cluster_core.specs.declared.event.Event.TheVariants as event
use Rattle.cluster_core.specs.declared.event.StepCall.TheVariants as call
use Rattle.cluster_core.specs.declared.event.StepReply.TheVariants as reply
use Rattle.peer_streams.specs.Joins.{Opened, begun_with}
use Rattle.peer_streams.specs.Streams.{fenced_pages, replied}
use Rattle.told_by.specs.Broken.{moved, moving}
use Rattle.told_joins.specs.Lines.{AddsJoins, joined_of}

-- ---- the one shard moves from node 0 to node 1

-- the leaving node has nothing, and says so in one page
abbrev pub page : Page
page = record { points = []; next = None }

abbrev pub begun : List Event
begun = begun_with 1 0 2 2 []

abbrev pub fenced : List Event
fenced = replied 0 0 (call.Fence 2) reply.Done

abbrev pub gave : List Event
gave = replied 0 0 (call.Page None) (reply.Paged page)

abbrev pub took : List Event
took = replied 1 0 (call.Merge page) (reply.Count 0)

-- the Place that ends the move, and the end of the tenure of the one that left
abbrev pub placed : List Event
placed = event.Ask (asked.Place moved ((0, 1) ∷ [])) ∷ event.Place moved ((0, 1) ∷ []) ∷ []

abbrev pub ended : List Event
ended = replied 0 0 call.End reply.Done

-- what came of the joining node's replica
abbrev pub taken_over : Opened
taken_over = record { shard = 0; joined = Some (record { source = 0; peers = 0 ∷ [] }); added = begun ++ fenced_pages 0 0 1 2 (record { from = None; page = page; count = 0 } ∷ []) }

-- A bootstrap of the joining node adds this.
abbrev pub JoinIsAdded : Type 0
JoinIsAdded = AddsJoins moving 1 None (taken_over ∷ []) moved ((begun ++ (fenced ++ (gave ++ took))) ++ (placed ++ ended))

-- ---- broken ones

-- no bootstrap of the joining node that is answered ok adds this, whatever it prints
abbrev pub IsNoJoin : List Event → Type 0
IsNoJoin more = (opened : List Opened) (next : Placement) → AddsJoins moving 1 None opened next more → ⊥

-- the leaving node isn't fenced
abbrev pub Unfenced : Type 0
Unfenced = IsNoJoin ((begun ++ (gave ++ took)) ++ (placed ++ ended))

-- it gives its page before its fence
abbrev pub FencedLate : Type 0
FencedLate = IsNoJoin ((begun ++ (gave ++ (fenced ++ took))) ++ (placed ++ ended))

-- it gives no page
abbrev pub Unstreamed : Type 0
Unstreamed = IsNoJoin ((begun ++ fenced) ++ (placed ++ ended))

-- its tenure ends before the Place
abbrev pub EndedEarly : Type 0
EndedEarly = IsNoJoin (((begun ++ (fenced ++ (gave ++ took))) ++ ended) ++ placed)

-- the Place ends no move
abbrev pub EndsNothing : Type 0
EndsNothing = IsNoJoin ((begun ++ (fenced ++ (gave ++ took))) ++ (event.Ask (asked.Place moved []) ∷ event.Place moved [] ∷ ended))

-- And it prints no shard without a peer, which is one less than a majority of one.
abbrev pub NoPeerIsTooFew : Type 0
NoPeerIsTooFew = (opened : List Opened) (next : Placement) (more : List Event) → AddsJoins moving 1 None opened next more → (s : ℕ) → IsIn (joined_of opened) (s, []) → ⊥
