-- Replicas that each placement of a run has: none of them is new, and none is unowned.
use Rattle.std.proofs.Common.{ℕ, zero, suc, ◌≡◌, ◌<◌, ◌≤◌, ◌∙◌, Bool, true, false, List, [], ◌∷◌, take, drop, take-append-drop, refl, sym, subst, ap, inl, inr, arith}
use Rattle.std.specs.Prelude.{Option, Some, None, ◌⊎◌, if◌then◌else◌, nat_lt, slice_get}
use Rattle.std.proofs.lemmas.Grind.{flat_map-append}
use Rattle.std.specs.List.{filter_map}
use Rattle.std.proofs.lemmas.Option.{same_Some}
use Rattle.m3_model.specs.Members.{IsIn}
use Rattle.m3_model.proofs.MemberLemmas.{IsIn-append_cases, IsIn-append_right, IsIn-append_left, IsIn-filter_map, filter_map-IsIn}
use Rattle.m3_model.specs.declared.act.Act.{Act}
use Rattle.m3_model.specs.declared.answer.Answer.{Answer}
use Rattle.m3_model.specs.declared.placement.Assignment.{Assignment}
use Rattle.m3_model.specs.declared.placement.Placement.{Placement}
use Rattle.m3_model.specs.declared.rules.MetaState.{MetaState}
use Rattle.m3_model.specs.declared.rules.Rules.{Rules}
use Rattle.m3_model.specs.declared.turn.Turn.{Turn}
use Rattle.placement_core.specs.Shards.{shard_at}
use Rattle.transcripts.specs.Moves.{HasAssignment, IsFencedAbove, IsNew, IsUnowned, OwnsNot, placement_by}
use Rattle.transcripts.specs.Placements.{IsCounted, has_replica, later_placement, newer, placement_after, placements, printed, start_placement}
use Rattle.transcripts.specs.Record.{InnerTurn, inner_turns, joined, lists_of}
use Rattle.transcripts.specs.Waiting.{Replica, is_assigned, is_member}
use Rattle.model_laws.specs.Building.{place}
use Rattle.model_laws.proofs.EachLemmas.{◌also◌, each_in}
use Rattle.model_laws.proofs.PositionLemmas.{position_after, only_used}
use Rattle.model_laws.proofs.SampleLemmas.{of_shard, StandsAt}

-- of two placements the newer one is one of them
newer_is : (next : Placement) (o : Option Placement) (q : Placement) → Some (newer next o) ≡ Some q → (o ≡ Some q) ⊎ (next ≡ q)
newer_is next None q e = inr (same_Some next q e)
newer_is next (Some p) q e = chosen (nat_lt next.version p.version) e
  where
    chosen : (test : Bool) → Some (if test then p else next) ≡ Some q → (Some p ≡ Some q) ⊎ (next ≡ q)
    chosen true e = inl e
    chosen false e = inr (same_Some next q e)

-- the placement that stands after one more answer is the one before, or the answer prints it
later_is : (answer : Option Placement) (o : Option Placement) (q : Placement) → later_placement answer o ≡ Some q → (o ≡ Some q) ⊎ (answer ≡ Some q)
later_is None o q e = inl e
later_is (Some next) o q e = elim (newer_is next o q e) as (λ _. (o ≡ Some q) ⊎ (Some next ≡ Some q)) [ inl before ↦ inl before | inr same ↦ inr (ap Some same) ]

-- the placement that stands is the one before, or a turn printed it
after_is : (o : Option Placement) (turns : List InnerTurn) (q : Placement) → placement_after o turns ≡ Some q → (o ≡ Some q) ⊎ IsIn (filter_map (λ turn. printed turn.answer) turns) q
after_is o [] q e = inl e
after_is o (turn ∷ turns) q e =
    let rest = filter_map (λ (t : InnerTurn). printed t.answer) turns in
    elim (after_is (later_placement (printed turn.answer) o) turns q e) as (λ _. (o ≡ Some q) ⊎ IsIn (filter_map (λ t. printed t.answer) (turn ∷ turns)) q) [
      | inl here ↦ elim (later_is (printed turn.answer) o q here) as (λ _. (o ≡ Some q) ⊎ IsIn (filter_map (λ t. printed t.answer) (turn ∷ turns)) q) [
        | inl before ↦ inl before
        | inr prints ↦ inr (filter_map-IsIn (λ (t : InnerTurn). printed t.answer) (turn ∷ turns) turn q (inl refl) prints)
      ]
      | inr later ↦ (
          let source = IsIn-filter_map (λ (t : InnerTurn). printed t.answer) turns q later in
          inr (filter_map-IsIn (λ (t : InnerTurn). printed t.answer) (turn ∷ turns) source.0 q (inr source.1) source.2))
    ]

-- it is known
pub standing_known : (start : Option MetaState) (turns : List InnerTurn) (q : Placement) → placement_after (start_placement start) turns ≡ Some q → IsIn (placements start turns) q
standing_known None turns q e = elim (after_is None turns q e) as (λ _. IsIn (placements None turns) q) [ inl none ↦ cc | inr known ↦ known ]
standing_known (Some state) turns q e = elim (after_is (Some state.place) turns q e) as (λ _. IsIn (placements (Some state) turns) q) [ inl found ↦ inl (same_Some state.place q found) | inr known ↦ inr known ]

-- the first lines have turns of the lines
first_turns : (k : ℕ) (lines : List Turn) (x : InnerTurn) → IsIn (inner_turns (take k lines)) x → IsIn (inner_turns lines) x
first_turns k lines x h =
    let turns = λ (line : Turn). joined (lists_of line) in
    subst (λ xs. IsIn (inner_turns xs) x) (take-append-drop k lines) (subst (λ xs. IsIn xs x) (sym (flat_map-append turns (take k lines) (drop k lines))) (IsIn-append_left (inner_turns (take k lines)) (inner_turns (drop k lines)) x h))

-- each line has turns of the lines
pub turn_in : (lines : List Turn) (k : ℕ) (line : Turn) → slice_get lines k ≡ Some line → (x : InnerTurn) → IsIn (inner_turns (line ∷ [])) x → IsIn (inner_turns lines) x
turn_in [] k line stands x h = cc
turn_in (first ∷ lines) zero line stands x h =
    elim (IsIn-append_cases (joined (lists_of line)) [] x h) as (λ _. IsIn (inner_turns (first ∷ lines)) x) [
      | inl own ↦ IsIn-append_left (joined (lists_of first)) (inner_turns lines) x (subst (λ (l : Turn). IsIn (joined (lists_of l)) x) (sym (same_Some first line stands)) own)
      | inr none ↦ absurd none
    ]
turn_in (first ∷ lines) (suc k) line stands x h = IsIn-append_right (joined (lists_of first)) (inner_turns lines) x (turn_in lines k line stands x h)

-- the first lines print no placement that the lines don't
first_printed : (k : ℕ) (lines : List Turn) (q : Placement) → IsIn (placements None (inner_turns (take k lines))) q → IsIn (placements None (inner_turns lines)) q
first_printed k lines q h =
    let source = IsIn-filter_map (λ (t : InnerTurn). printed t.answer) (inner_turns (take k lines)) q h in
    filter_map-IsIn (λ (t : InnerTurn). printed t.answer) (inner_turns lines) source.0 q (first_turns k lines source.0 source.1) source.2

pub first_placements : (start : Option MetaState) (k : ℕ) (lines : List Turn) (q : Placement) → IsIn (placements start (inner_turns (take k lines))) q → IsIn (placements start (inner_turns lines)) q
first_placements None k lines q h = first_printed k lines q h
first_placements (Some state) k lines q h = elim h as (λ _. IsIn (placements (Some state) (inner_turns lines)) q) [ inl found ↦ inl found | inr prints ↦ inr (first_printed k lines q prints) ]

-- a replica that each placement of these lines has is never assigned anew
pub never_assigned : (x : Replica) (start : Option MetaState) (lines : List Turn) → ((q : Placement) → IsIn (placements start (inner_turns lines)) q → is_member x (Some q) ≡ true) → (k : ℕ) (next : Option Placement) → is_assigned x (placement_by start lines k) next ≡ false
never_assigned x start lines member k next = by_place (placement_by start lines k) refl
  where
    by_place : (o : Option Placement) → placement_by start lines k ≡ o → is_assigned x o next ≡ false
    by_place None e = refl
    by_place (Some q) e = rw (member q (first_placements start k lines q (standing_known start (inner_turns (take k lines)) q e))) refl

-- ---- where one placement stands

-- the three nodes are members
all_members : (node : ℕ) (name : List ℕ) → IsCounted place 0 node → is_member (of_shard node name) (Some place) ≡ true
all_members node name counts = each_in (λ n. is_member (of_shard n name) (Some place) ≡ true) (0 ∷ 1 ∷ 2 ∷ []) (refl also refl also refl also tt) node counts

-- none of them is new
none_new : {tells : Bool} (lines : List Turn) (rules : Rules) (a : Act) (b : Answer) (node : ℕ) (name : List ℕ) → StandsAt lines rules → IsCounted place 0 node → ¬ IsNew tells (of_shard node name) None (position_after lines a b)
none_new lines rules a b node name stood counts new =
    let x = of_shard node name in
    let member : (q : Placement) → IsIn (placements None (inner_turns lines)) q → is_member x (Some q) ≡ true = λ q h.
    elim (subst (λ ps. IsIn ps q) stood.one_place h) as (λ _. is_member x (Some q) ≡ true) [ inl same ↦ subst (λ p. is_member x (Some p) ≡ true) same (all_members node name counts) | inr none ↦ absurd none ] in
    let bad : false ≡ true = sym (never_assigned x None lines member new.lines (placement_by None lines (suc new.lines))) ∙ new.assigned in
    cc

-- each of them owns the shard
owned : (lines : List Turn) (rules : Rules) (a : Act) (b : Answer) (node : ℕ) → StandsAt lines rules → IsCounted place 0 node → ¬ OwnsNot None (position_after lines a b) 0 node 1
owned lines rules a b node stood counts may =
    let same : place ≡ may.place = only_used lines a b place may.place stood.place_is may.may_stand in
    elim may.not_owned as (λ _. ⊥) [
      | inl away ↦ let bad : true ≡ false = sym (all_members node [] counts) ∙ subst (λ p. has_replica (Some p) 0 node ≡ false) (sym same) away in cc
      | inr above ↦ (
          let has : HasAssignment place 0 node (λ tenure. 1 < tenure) = subst (λ p. HasAssignment p 0 node (λ tenure. 1 < tenure)) (sym same) above in
          let first : has.assignment.tenure ≡ 1 = each_in (λ (x : Assignment). x.tenure ≡ 1) (shard_at place 0) (refl also refl also refl also tt) has.assignment has.among in
          let later : 1 < has.assignment.tenure = has.kind in
          omega (arith, first, later))
    ]

-- so none is unowned, whether disks tell or not
pub none_unowned : {tells : Bool} (lines : List Turn) (rules : Rules) (a : Act) (b : Answer) (node : ℕ) → StandsAt lines rules → IsCounted place 0 node → ¬ IsUnowned tells None (position_after lines a b) place 0 node
none_unowned lines rules a b node stood counts may =
    elim may as (λ _. ⊥) [ inl not ↦ owned lines rules a b node stood counts not | inr new ↦ none_new lines rules a b node new.instance_.name stood counts new.holds ]

-- and nothing fences above it
pub none_fenced : (lines : List Turn) (rules : Rules) (a : Act) (b : Answer) (fence : ℕ) → StandsAt lines rules → ¬ IsFencedAbove None (position_after lines a b) place 0 fence
none_fenced lines rules a b fence stood may =
    let same : place ≡ may.place = only_used lines a b place may.place stood.place_is may.may_stand in
    let above : 1 < fence = may.above in
    let not_above : fence ≤ 1 = subst (λ (p : Placement). fence ≤ p.version) (sym same) may.not_above in
    omega (arith, above, not_above)
