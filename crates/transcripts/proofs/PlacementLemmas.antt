-- Placements that stand and that are known: found, or printed by some turn.
use Rattle.std.proofs.Common.{◌≡◌, List, [], ◌∷◌, ◌++◌, refl, sym, ap, ◌∙◌, inl, inr}
use Rattle.std.specs.Prelude.{◌⊎◌, Some, None, Option, if◌then◌else◌}
use Rattle.std.proofs.lemmas.Bool.{cases_lt, le-ltb, lt-ltb}
use Rattle.std.proofs.lemmas.Option.{same_Some}
use Rattle.m3_model.proofs.MemberLemmas.{IsIn-append_left, IsIn-filter_map, filter_map-IsIn}
use Rattle.m3_model.specs.Members.{IsIn}
use Rattle.m3_model.specs.declared.placement.Placement.{Placement}
use Rattle.m3_model.specs.declared.rules.MetaState.{MetaState}
use Rattle.transcripts.specs.Placements.{later_placement, placement_after, placements, printed, start_placement}
use Rattle.transcripts.specs.Record.{InnerTurn}

-- ---- placements that stand

later_from : (o base : Option Placement) (p : Placement) → later_placement o base ≡ Some p → (base ≡ Some p) ⊎ (o ≡ Some p)
later_from None base p e = inl e
later_from (Some next) None p e = inr e
later_from (Some next) (Some q) p e =
    elim (cases_lt next.version q.version) as (λ _. (Some q ≡ Some p) ⊎ (Some next ≡ Some p)) [
      | inl lt ↦ inl (sym (ap (λ t. Some (if t then q else next)) (lt-ltb next.version q.version lt)) ∙ e)
      | inr ge ↦ inr (sym (ap (λ t. Some (if t then q else next)) (le-ltb next.version q.version ge)) ∙ e)
    ]

-- what stands stood before, or a turn printed it
pub after_from : (ts : List InnerTurn) (base : Option Placement) (p : Placement) → placement_after base ts ≡ Some p → (base ≡ Some p) ⊎ ((t : InnerTurn) × IsIn ts t × (printed t.answer ≡ Some p))
after_from [] base p e = inl e
after_from (t ∷ ts) base p e =
    elim (after_from ts (later_placement (printed t.answer) base) p e) as (λ _. (base ≡ Some p) ⊎ ((u : InnerTurn) × IsIn (t ∷ ts) u × (printed u.answer ≡ Some p))) [
      | inl here ↦ elim (later_from (printed t.answer) base p here) as (λ _. (base ≡ Some p) ⊎ ((u : InnerTurn) × IsIn (t ∷ ts) u × (printed u.answer ≡ Some p))) [ inl old ↦ inl old | inr new ↦ inr (t, inl refl, new) ]
      | inr later ↦ inr (later.0, inr later.1, later.2)
    ]

-- ---- placements that are known

-- the placement at the start is known
pub known_first : (o : Option MetaState) (ts : List InnerTurn) (place : Placement) → start_placement o ≡ Some place → IsIn (placements o ts) place
known_first None ts place is = cc
known_first (Some state) ts place is = inl (same_Some state.place place is)

-- one that a turn prints is
pub known_printed : (o : Option MetaState) (ts : List InnerTurn) (t : InnerTurn) (place : Placement) → IsIn ts t → printed t.answer ≡ Some place → IsIn (placements o ts) place
known_printed None ts t place m is = filter_map-IsIn (λ (turn : InnerTurn). printed turn.answer) ts t place m is
known_printed (Some state) ts t place m is = inr (filter_map-IsIn (λ (turn : InnerTurn). printed turn.answer) ts t place m is)

more_printed : (xs ys : List InnerTurn) (place : Placement) → IsIn (placements None xs) place → IsIn (placements None (xs ++ ys)) place
more_printed xs ys place m =
    let t = IsIn-filter_map (λ (turn : InnerTurn). printed turn.answer) xs place m in
    known_printed None (xs ++ ys) t.0 place (IsIn-append_left xs ys t.0 t.1) t.2

-- what is known stays known
pub known_more : (o : Option MetaState) (xs ys : List InnerTurn) (place : Placement) → IsIn (placements o xs) place → IsIn (placements o (xs ++ ys)) place
known_more None xs ys place m = more_printed xs ys place m
known_more (Some state) xs ys place (inl first) = inl first
known_more (Some state) xs ys place (inr m) = inr (more_printed xs ys place m)

-- and what stands is known
pub stood_known : (o : Option MetaState) (ts : List InnerTurn) (place : Placement) → placement_after (start_placement o) ts ≡ Some place → IsIn (placements o ts) place
stood_known o ts place stands =
    elim (after_from ts (start_placement o) place stands) as (λ _. IsIn (placements o ts) place) [
      | inl found ↦ known_first o ts place found
      | inr t ↦ known_printed o ts t.0 place t.1 t.2
    ]
