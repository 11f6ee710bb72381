-- Pages of a stream, one after the other; and former replicas that are asked, one after the other.
use Rattle.std.proofs.Common.{◌≡◌, ℕ, ◌<◌, ◌≤◌, List, [], ◌∷◌, ◌++◌, map, filter, length, Bool, true, false, refl, sym, ap, ◌∙◌, subst, inl, inr, arith, append_assoc, length-append, cond, IsPermutation}
use Rattle.std.specs.Prelude.{◌⊎◌, ◌↔◌, Option, Some, None, MatchOption, is_none}
use Rattle.std.specs.List.{cons_option, filter_map, flat_map}
use Rattle.std.specs.Option.{option_map}
use Rattle.std.proofs.lemmas.List.{append-nil, length-map, map-append}
use Rattle.std.proofs.lemmas.List.Concat.{flat_map-append}
use Rattle.std.proofs.lemmas.List.Elements.{filter-append, filter_map-append}
use Rattle.std.proofs.lemmas.List.Sorted.{All-permutation, IsPermutation-sym}
use Rattle.m3_model.specs.Ascends.{Ascends}
use Rattle.m3_model.specs.Levels.{majority}
use Rattle.m3_model.specs.Members.{IsIn}
use Rattle.m3_model.specs.declared.placement.Placement.{Placement}
use Rattle.m3_model.specs.declared.point.Key.{Key}
use Rattle.m3_model.specs.declared.reason.Reason.{Reason}
use Rattle.m3_model.proofs.Lists.{All-from_each}
use Rattle.m3_model.proofs.MemberLemmas.{IsIn-append_cases}
use Rattle.placement_core.specs.NodeNames.{IsNamedBelow}
use Rattle.placement_core.specs.Shards.{Shard, former}
use Rattle.placement_core.proofs.ListLemmas.{each-from_All}
use Rattle.cluster_core.specs.Answers.{IsCoverFrom, PageAsked}
use Rattle.cluster_core.specs.declared.event.Event.{Event}
use Rattle.peer_streams.specs.Joins.{AreAsked, AskedPeer, HasAnswered, is_streamed, reasons_of, streamed_of}
use Rattle.peer_streams.specs.Streams.{GoOnTo, Handed, fenced_pages, handed_over, replied}
use Rattle.cluster_core.specs.declared.event.StepCall.TheVariants as call
use Rattle.cluster_core.specs.declared.event.StepReply.TheVariants as reply

-- ---- pages

-- one more page that goes on
pub go_on_last : (from to : Option Key) (pages : List PageAsked) (p : PageAsked) (next : Key) → GoOnTo from pages to → p.0 ≡ to → p.1.next ≡ Some next → GoOnTo from (pages ++ p ∷ []) (Some next)
go_on_last from to [] p next same asked is = (asked ∙ same, next, is, refl)
go_on_last from to (q ∷ pages) p next h asked is = (h.0, h.1, h.2, go_on_last (Some h.1) to pages p next h.3 asked is)

-- what follows a page in a cover
abbrev Follows : List PageAsked → Option Key → Type 0
Follows rest next = MatchOption next (rest ≡ []) (λ k. IsCoverFrom (Some k) rest)

-- and the last one
pub cover_last : (from to : Option Key) (pages : List PageAsked) (p : PageAsked) → GoOnTo from pages to → p.0 ≡ to → p.1.next ≡ None → IsCoverFrom from (pages ++ p ∷ [])
cover_last from to [] p same asked is = (asked ∙ same, subst (Follows []) (sym is) refl)
cover_last from to (q ∷ pages) p h asked is = (h.0, subst (Follows (pages ++ p ∷ [])) (sym h.2) (cover_last (Some h.1) to pages p h.3 asked is))

-- its events come after those of the pages before
pub pages_last : (s q y tenure : ℕ) (pages : List Handed) (h : Handed) → fenced_pages s q y tenure pages ++ handed_over s q y h ≡ fenced_pages s q y tenure (pages ++ h ∷ [])
pages_last s q y tenure pages h =
    let front = replied q s (call.Fence tenure) reply.Done in
    append_assoc front (flat_map (handed_over s q y) pages) (handed_over s q y h) ∙ ap (λ es. front ++ es) (sym (flat_map-append (handed_over s q y) pages (h ∷ [])))

-- ---- former replicas

-- a list in another order has the same elements
pub permuted_in : {X : Type 0} (xs ys : List X) → IsPermutation xs ys → (x : X) → IsIn ys x → IsIn xs x
permuted_in xs ys p = each-from_All (IsIn xs) ys (All-permutation (IsIn xs) xs ys p (All-from_each (IsIn xs) xs (λ x m. m)))

-- none was asked yet
pub none_asked : (place : Placement) (s : ℕ) (shard : Shard) (y tenure : ℕ) (peers : List ℕ) → IsPermutation (former shard) peers → Ascends (IsNamedBelow place) peers → AreAsked place s shard y tenure [] peers
none_asked place s shard y tenure peers same ascend = record {
  by_name = ascend;
  are_former = λ q. (permuted_in (former shard) peers same q, permuted_in peers (former shard) (IsPermutation-sym (former shard) peers same) q);
  each = λ p m. absurd m;
  no_more = λ before after p is. absurd (nil_is_none before p after is);
}
  where
    nil_is_none : (before : List AskedPeer) (p : AskedPeer) (after : List AskedPeer) → [] ≡ before ++ p ∷ after → ⊥
    nil_is_none before p after is = let long = ap length is in let sum = length-append before (p ∷ after) in omega (arith, long, sum)

-- what stands before an element of a list with one more is a front of the list
front_of : {X : Type 0} (xs ys : List X) (p x : X) (zs : List X) → xs ++ p ∷ [] ≡ ys ++ x ∷ zs → (rest : List X) × (xs ≡ ys ++ rest)
front_of xs [] p x zs is = (xs, refl)
front_of [] (y ∷ ys) p x zs is =
    let long = ap length is in
    let sum = length-append ys (x ∷ zs) in
    absurd (omega (arith, long, sum))
front_of (a ∷ xs) (y ∷ ys) p x zs is =
    let head : a ≡ y = cc in
    let tail : xs ++ p ∷ [] ≡ ys ++ x ∷ zs = cc in
    let found = front_of xs ys p x zs tail in
    (found.0, ap (λ b. b ∷ xs) head ∙ ap (λ bs. y ∷ bs) found.1)

pub streamed_both : (xs ys : List AskedPeer) → streamed_of (xs ++ ys) ≡ streamed_of xs ++ streamed_of ys
streamed_both xs ys = ap (map (λ (p : AskedPeer). p.node)) (filter-append is_streamed xs ys) ∙ map-append (λ (p : AskedPeer). p.node) (filter is_streamed xs) (filter is_streamed ys)

-- the next one was asked, while no majority had streamed whole
pub asked_next : (place : Placement) (s : ℕ) (shard : Shard) (y tenure : ℕ) (peers : List AskedPeer) (p : AskedPeer) (left : List ℕ) → AreAsked place s shard y tenure peers (p.node ∷ left) → length (streamed_of peers) < majority place.rf → HasAnswered s y tenure p
    → AreAsked place s shard y tenure (peers ++ p ∷ []) left
asked_next place s shard y tenure peers p left h fewer answered = record {
  by_name = subst (Ascends (IsNamedBelow place)) same h.by_name;
  are_former = subst (λ qs. (q : ℕ) → IsIn qs q ↔ IsIn (former shard) q) same h.are_former;
  each = λ x m. by x (IsIn-append_cases peers (p ∷ []) x m);
  no_more = λ before after x is.
      let front = front_of peers before p x after is in
      let both = ap (λ xs. length (streamed_of xs)) front.1 ∙ ap length (streamed_both before front.0) ∙ length-append (streamed_of before) (streamed_of front.0) in
      omega (arith, fewer, both);
}
  where
    same : map (λ (x : AskedPeer). x.node) peers ++ p.node ∷ left ≡ map (λ (x : AskedPeer). x.node) (peers ++ p ∷ []) ++ left
    same =
        let nodes = map (λ (x : AskedPeer). x.node) peers in
        sym (ap (λ ns. ns ++ left) (map-append (λ (x : AskedPeer). x.node) peers (p ∷ [])) ∙ append_assoc nodes (p.node ∷ []) left)

    by : (x : AskedPeer) → IsIn peers x ⊎ IsIn (p ∷ []) x → HasAnswered s y tenure x
    by x (inl m) = h.each x m
    by x (inr (inl e)) = subst (HasAnswered s y tenure) e answered
    by x (inr (inr none)) = absurd none

-- what all of them added
pub added_last : (peers : List AskedPeer) (p : AskedPeer) → flat_map (λ (x : AskedPeer). x.added) peers ++ p.added ≡ flat_map (λ (x : AskedPeer). x.added) (peers ++ p ∷ [])
added_last peers p = sym (flat_map-append (λ (x : AskedPeer). x.added) peers (p ∷ []) ∙ ap (λ es. flat_map (λ (x : AskedPeer). x.added) peers ++ es) (append-nil p.added))
