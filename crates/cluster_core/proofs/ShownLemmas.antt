-- What a content that shows a replica answers, the replica may answer.
use Rattle.std.proofs.Common.{ℤ, List, [], ◌∷◌, ◌++◌, refl, sym, subst, inl, inr}
use Rattle.std.specs.Prelude.{⊤, Option, MatchOption}
use Rattle.m3_model.specs.Ascends.{Ascends}
use Rattle.m3_model.specs.Contents.{key_of}
use Rattle.m3_model.specs.Members.{IsIn}
use Rattle.m3_model.proofs.MemberLemmas.{IsIn-append_left, IsIn-append_right, IsIn-append_cases}
use Rattle.m3_model.proofs.Lists.{All-from_each}
use Rattle.m3_model.specs.Reads.{Covers, points_in, space_picked}
use Rattle.m3_model.specs.declared.point.Key.{Key}
use Rattle.m3_model.specs.declared.point.Point.{Point}
use Rattle.placement_core.proofs.ListLemmas.{Any-from_IsIn}
use Rattle.cluster_core.specs.Answers.{IsWantedUnexpired, IsKeyBelow, AsksFor, IsUpTo, GoesOn}
use Rattle.cluster_core.specs.Replicas.{IsGone}
use Rattle.cluster_core.specs.Shown.{FoundShows, PageShows}
use Rattle.cluster_core.specs.declared.event.StepCall.{StepCall}
use Rattle.cluster_core.specs.declared.event.StepCall.TheVariants as call
use Rattle.cluster_core.proofs.HeldLemmas.{wanted_value}
use Rattle.cluster_core.proofs.ListLemmas.{at_in}

pub found_shows : FoundShows
found_shows r content rules pick from to series shows is = record {
  nothing_else = All-from_each (λ p. IsIn r.sure p × IsWantedUnexpired rules pick from to p) (points_in (space_picked pick) series) (λ p m. let s = is.sound p m in (shows.sure (key_of p) p.v s.0, s.1));
  all_there = All-from_each (λ p. ¬ IsGone r p → IsWantedUnexpired rules pick from to p → Covers (points_in (space_picked pick) series) p) r.sure
      (λ p m stays wanted.
      let h = shows.all p m stays in
      record { value = h.value; at_least = h.at_least; stands = is.all (key_of p) h.value h.stands (wanted_value rules pick from to p h.value wanted) });
  ordered = is.ordered;
}

-- what is asked for doesn't depend on the value
asks_value : (c : StepCall) (p : Point) (w : ℤ) → AsksFor c p → AsksFor c (record p { v = w })
asks_value (call.Page from) p w h = h
asks_value (call.Block ns start size from) p w h = (h.0, record { space = (h.1).space; low = (h.1).low; high = (h.1).high })
asks_value _ p w h = absurd h

ascends_across : (R : Point → Point → Type 0) (xs ys : List Point) → Ascends R (xs ++ ys) → (x y : Point) → IsIn xs x → IsIn ys y → R x y
ascends_across R [] ys a x y hx hy = absurd hx
ascends_across R (z ∷ xs) ys a x y hx hy = elim hx as (λ _. R x y) [ inl e ↦ subst (λ w. R w y) e (a.0 y (IsIn-append_right xs ys y hy)) | inr k ↦ ascends_across R xs ys a.1 x y k hy ]

ascends_front : (R : Point → Point → Type 0) (xs ys : List Point) → Ascends R (xs ++ ys) → Ascends R xs
ascends_front R [] ys a = tt
ascends_front R (z ∷ xs) ys a = ((λ y h. a.0 y (IsIn-append_left xs ys y h)), ascends_front R xs ys a.1)

pub page_shows : PageShows
page_shows r content c page shows is = record {
  nothing_else = All-from_each (λ p. IsIn r.sure p × AsksFor c p) page.points (λ p m. let s = is.sound p (IsIn-append_left page.points is.rest p m) in (shows.sure (key_of p) p.v s.0, s.1));
  all_there = All-from_each (λ p. ¬ IsGone r p → AsksFor c p → IsUpTo page.next (key_of p) → Covers page.points p) r.sure
      (λ p m stays asks up.
      let h = shows.all p m stays in
      let q : Point = record p { v = h.value } in
      elim (IsIn-append_cases page.points is.rest q (is.all (key_of p) h.value h.stands (asks_value c p h.value asks))) as (λ _. Covers page.points p) [
        | inl front ↦ record { value = h.value; at_least = h.at_least; stands = front }
        | inr back ↦ elim is.next as (λ _. Covers page.points p) [
          | inl none ↦ absurd (subst (λ (ps : List Point). IsIn ps q) none.0 back)
          | inr more ↦ absurd (subst (λ (n : Option Key). IsUpTo n (key_of p)) more.5 up (ascends_across (λ a b. IsKeyBelow (key_of a) (key_of b)) page.points is.rest is.ascending more.3 q (at_in page.points 63 more.3 more.4) back))
        ]
      ]);
  ascending = ascends_front (λ a b. IsKeyBelow (key_of a) (key_of b)) page.points is.rest is.ascending;
  few = is.few;
  next = elim is.next as (λ _. MatchOption page.next ⊤ (λ k. GoesOn r c page k)) [
    | inl none ↦ subst (λ (n : Option Key). MatchOption n ⊤ (λ k. GoesOn r c page k)) (sym none.1) tt
    | inr more ↦
        let s = is.sound more.0 (IsIn-append_right page.points is.rest more.0 more.1) in
        subst (λ (n : Option Key). MatchOption n ⊤ (λ k. GoesOn r c page k)) (sym more.5) (record {
          full = more.2;
          last = more.3;
          at_end = more.4;
          next_is = refl;
          more = Any-from_IsIn (λ p. AsksFor c p × IsKeyBelow (key_of more.3) (key_of p)) r.sure more.0 (shows.sure (key_of more.0) (more.0).v s.0)
              (s.1, ascends_across (λ a b. IsKeyBelow (key_of a) (key_of b)) page.points is.rest is.ascending more.3 more.0 (at_in page.points 63 more.3 more.4) more.1);
        })
  ];
}
