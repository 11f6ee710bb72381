-- What is to be marked, or why nothing is.
use Rattle.std.proofs.Common.{◌≡◌, ◌≢◌, ◌<◌, ◌≤◌, ◌+◌, ◌*◌, ℕ, zero, suc, List, [], ◌∷◌, ◌++◌, map, length, refl, sym, ap, ◌∙◌, subst, inl, inr, arith}
use Rattle.std.specs.Prelude.{◌⊎◌, Option, Some, None, vec_len}
use Rattle.std.specs.Vec.{vec_capacity}
use Rattle.m3_model.specs.declared.answer.Answer.{Answer}
use Rattle.m3_model.specs.declared.answer.Answer.TheVariants as answer
use Rattle.m3_model.specs.declared.limits.TheConstants.{MOST_SHARDS, MOST_VERSIONS}
use Rattle.m3_model.specs.declared.placement.Instance.{Instance}
use Rattle.m3_model.specs.declared.placement.Placement.{Placement}
use Rattle.m3_outside.specs.DiskState.{DiskState}
use Rattle.m3_outside.specs.declared.disk.Disk.{Ghosts}
use Rattle.placement_core.specs.Lawful.{IsLawful}
use Rattle.placement_core.specs.Steps.{IsDoneList, IsStep}
use Rattle.placement_plan.specs.Plans.{IsAvailable}
use Rattle.node_calls.specs.Boots.{IsNumberOf}
use Rattle.node_calls.specs.Nodes.{IsNoShard}
use Rattle.node_calls.specs.cluster_members.Names.{node_named}
use Rattle.node_calls.specs.cluster_members.declared.members.Members.{Members}
use Rattle.cluster_placements.specs.Steps.{kept_in}
use Rattle.node_joins.specs.Joined.{JoinedOf}
use Rattle.cluster_joins.specs.Boots.{IsBooted}
use Rattle.cluster_joins.specs.Marks.{IsMarkingOf, done_of, source_slot}
use Rattle.cluster_joins.specs.Opened.{HasRoomFor, IsNotToMark, IsPrepared, IsUnmoved, KeepsAll, MayMark}
use Rattle.cluster_joins.specs.declared.marking.Booting.{Booting}
use Rattle.cluster_joins.specs.declared.marking.Booting.TheVariants as booting
use Rattle.cluster_joins.specs.declared.marking.Marking.{Marking}

-- no shard was joined
pub unmoved_so : {D : Type 0} {G : Ghosts D} (old : Members D G) (joined : List JoinedOf) (b : Answer) → joined ≡ [] → IsUnmoved old.net.state.place b → IsNotToMark old joined b
unmoved_so old joined (answer.Available available shown version) none h = (none, h)
unmoved_so old joined answer.Memory none h = tt
unmoved_so old joined _ none h = absurd h

-- a list of a length is none, or isn't
pub none_of : {X : Type 0} (xs : List X) → length xs ≡ 0 → xs ≡ []
none_of [] e = refl
none_of (x ∷ xs) e = absurd (omega (arith, e))

pub some_of : {X : Type 0} (xs : List X) → (length xs ≡ 0 → ⊥) → xs ≢ []
some_of xs long none = long (ap length none)

map_long : {X Y : Type 0} (f : X → Y) (xs : List X) → length (map f xs) ≡ length xs
map_long f [] = refl
map_long f (x ∷ xs) = ap suc (map_long f xs)

pub few_sources : (y : ℕ) (joined : List JoinedOf) (marking : Marking) → IsMarkingOf y joined marking → length joined ≤ MOST_SHARDS → length (marking.marked).sources.items ≤ MOST_SHARDS
few_sources y joined marking parts few = subst (λ n. n ≤ MOST_SHARDS) (sym (ap length parts.sources_are ∙ map_long source_slot joined)) few

-- what is to be marked, for which there is room or isn't
pub prepared_so : {D : Type 0} {G : Ghosts D} (old new : Members D G) (y : ℕ) (joined : List JoinedOf) (marking : Marking) (result : Booting) → joined ≢ [] → kept_in old < MOST_VERSIONS → IsAvailable old.net.state.place (done_of y joined) marking.next → IsLawful marking.next
    → (IsDoneList (length old.net.state.place.shards) (done_of y joined) → IsStep old.net.state.place marking.next (done_of y joined)) → IsMarkingOf y joined marking → HasRoomFor old marking result new → MayMark old y joined result new
prepared_so old new y joined marking (booting.Answered answer.Memory) some few next lawful step parts h = (tt, h)
prepared_so old new y joined marking (booting.Answered answer.Full) some few next lawful step parts h = (h.0, h.1)
prepared_so old new y joined marking (booting.Answered _) some few next lawful step parts h = absurd h
prepared_so old new y joined marking (booting.Joined given) some few next lawful step parts h =
    subst (λ (m : Marking). IsPrepared old y joined m new × KeepsAll old new) (sym h.0)
    (record { some = some; few_past = few; next = next; lawful = lawful; step = step; parts = parts; past_room = h.1; room = h.2 }, h.3)

-- there is no such shard
pub unknown_booted : {D : Type 0} {G : Ghosts D} (state : D → DiskState) (old new : Members D G) (name : List ℕ) (asked : Option ℕ) (shard shards node : ℕ) (b : Answer) → node_named name old.net.state.place.instances ≡ Some node → asked ≡ Some shard → shards ≡ length old.net.state.place.shards → shards ≤ shard
    → new ≡ old → IsNumberOf shard b → IsBooted state old name asked b new
unknown_booted state old new name asked shard shards node (answer.Unknown unknown) found is same high stays number = (
  inr (node, found, subst (λ o. IsNoShard old o unknown) (sym is) (subst (λ n. n ≤ shard) same high, number)),
  stays,
)
unknown_booted state old new name asked shard shards node answer.Memory found is same high stays number = inl stays
unknown_booted state old new name asked shard shards node _ found is same high stays number = absurd number
