-- A former replica that streamed whole is one that the joining replica has streamed.
use Rattle.std.proofs.Common.{ℕ, List, [], ◌∷◌, ◌++◌, map, refl, sym, ap, subst, inl, inr, arith, append_assoc}
use Rattle.std.specs.List.{Any, flat_map}
use Rattle.m3_model.specs.Members.{IsIn}
use Rattle.m3_model.specs.declared.point.Point.{Point}
use Rattle.m3_model.proofs.Lists.{flat_map-IsIn}
use Rattle.m3_model.proofs.MemberLemmas.{IsIn-append_left, IsIn-append_right, IsIn-map}
use Rattle.placement_core.proofs.ListLemmas.{Any-from_IsIn}
use Rattle.cluster_core.specs.Answers.{IsCover, PageAsked}
use Rattle.cluster_core.specs.Joins.{BeganWith, FencedAt, GaveAsked, GavePages, HasCover, HasFenced, HasStreamed, MergedPage}
use Rattle.cluster_core.specs.Lists.{AfterSome}
use Rattle.cluster_core.specs.declared.event.Event.{Event}
use Rattle.cluster_core.specs.declared.event.Event.TheVariants as event
use Rattle.cluster_core.specs.declared.event.StepCall.TheVariants as call
use Rattle.cluster_core.specs.declared.event.StepReply.TheVariants as reply
use Rattle.peer_streams.specs.Joins.{WholeStreamsJoin, begun_with}
use Rattle.peer_streams.specs.Streams.{Handed, fenced_pages, handed_over, page_asked}

-- what is so behind some element is so with more before it
after_front : {X : Type 0} (Kind : X → Type 0) (Wanted : List X → Type 0) (xs ys : List X) → AfterSome Kind Wanted ys → AfterSome Kind Wanted (xs ++ ys)
after_front Kind Wanted [] ys h = h
after_front Kind Wanted (x ∷ xs) ys h = inr (after_front Kind Wanted xs ys h)

-- pages that were given are given with more before them
gave_behind : (q s : ℕ) (pages : List PageAsked) (xs ys : List Event) → GavePages q s pages ys → GavePages q s pages (xs ++ ys)
gave_behind q s [] xs ys h = tt
gave_behind q s (p ∷ pages) xs ys h = after_front (GaveAsked q s p) (GavePages q s pages) xs ys h

module _ (s q y : ℕ) where
  gave_all : (pages : List Handed) (rest : List Event) → GavePages q s (map page_asked pages) (flat_map (handed_over s q y) pages ++ rest)
  gave_all [] rest = tt
  gave_all (h ∷ pages) rest =
      inr (inl ((refl, refl, refl, refl), gave_behind q s (map page_asked pages) (event.Ask _ ∷ event.Step y s (call.Merge h.page) (reply.Count h.count) ∷ []) (flat_map (handed_over s q y) pages ++ rest) (gave_all pages rest)))

  merged_each : (pages : List Handed) (before rest : List Event) (p : PageAsked) → IsIn (map page_asked pages) p → Any (MergedPage y s p.1) (before ++ (flat_map (handed_over s q y) pages ++ rest))
  merged_each pages before rest p m =
      let h = IsIn-map page_asked pages p m in
      let merge : Event = event.Step y s (call.Merge (h.0).page) (reply.Count (h.0).count) in
      let there = flat_map-IsIn (handed_over s q y) pages h.0 merge h.1 (inr (inr (inr (inl refl)))) in
      Any-from_IsIn (MergedPage y s p.1) (before ++ (flat_map (handed_over s q y) pages ++ rest)) merge
      (IsIn-append_right before (flat_map (handed_over s q y) pages ++ rest) merge (IsIn-append_left (flat_map (handed_over s q y) pages) rest merge there)) (refl, refl, ap (λ (x : PageAsked). x.1) h.2)

  -- y began, and behind that q was fenced and gave pages that cover it, each of which y merged
  pub has_streamed : (tenure fence : ℕ) (points : List Point) (front before : List Event) (pages : List Handed) (rest : List Event) → IsCover (map page_asked pages)
      → HasStreamed s y tenure q (front ++ (begun_with y s tenure fence points ++ (before ++ (fenced_pages s q y tenure pages ++ rest))))
  has_streamed tenure fence points front before pages rest cover =
      after_front (BeganWith y s tenure) (HasFenced s q y tenure) front (begun_with y s tenure fence points ++ since) (inr (inl ((refl, refl, refl), fenced)))
    where
      since : List Event
      since = before ++ (fenced_pages s q y tenure pages ++ rest)

      fenced : HasFenced s q y tenure since
      fenced = after_front (FencedAt q s tenure) (HasCover s q y since) before (fenced_pages s q y tenure pages ++ rest) (inr (inl (
        (refl, refl, omega arith),
        record {
          pages = map page_asked pages;
          cover = cover;
          given = gave_all pages rest;
          merged = λ p m. subst (Any (MergedPage y s p.1)) (append_assoc before (event.Ask _ ∷ event.Step q s (call.Fence tenure) reply.Done ∷ []) (flat_map (handed_over s q y) pages ++ rest))
              (merged_each pages (before ++ (event.Ask _ ∷ event.Step q s (call.Fence tenure) reply.Done ∷ [])) rest p m);
        },
      )))

pub whole_streams_join : WholeStreamsJoin
whole_streams_join s q y tenure fence points front before own rest whole =
    subst (λ es. HasStreamed s y tenure q (front ++ (begun_with y s tenure fence points ++ (before ++ (es ++ rest))))) (sym whole.are) (has_streamed s q y tenure fence points front before whole.pages rest whole.cover)
