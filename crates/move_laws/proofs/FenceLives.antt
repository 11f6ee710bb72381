-- Which fences moves leave.
use Rattle.std.proofs.Common.{ℕ, ◌≡◌, ◌≢◌, ◌<◌, ◌≤◌, ◌∙◌, true, false, List, [], ◌∷◌, ◌++◌, take, drop, suc, refl, sym, subst, inl, inr, arith}
use Rattle.std.specs.Prelude.{Some, None, codes, ◌⊎◌}
use Rattle.std.proofs.lemmas.Option.{same_Some}
use Rattle.m3_model.specs.Members.{IsIn}
use Rattle.m3_model.specs.declared.act.Act.{Act}
use Rattle.m3_model.specs.declared.act.Act.TheVariants as act
use Rattle.m3_model.specs.declared.answer.Answer.TheVariants as answer
use Rattle.m3_model.specs.declared.placement.Assignment.{Assignment}
use Rattle.m3_model.specs.declared.placement.Placement.{Placement}
use Rattle.m3_model.specs.declared.reason.Reason.{Reason}
use Rattle.m3_model.specs.declared.reason.Reason.TheVariants as reason
use Rattle.m3_model.specs.declared.rules.MetaState.{MetaState}
use Rattle.m3_model.specs.declared.turn.Turn.{Turn}
use Rattle.placement_core.specs.Shards.{shard_at}
use Rattle.transcripts.specs.Fates.{OfNode}
use Rattle.transcripts.specs.Faults.{Fault}
use Rattle.transcripts.specs.Moves.{HasAssignment, IsTakenBy, placement_by, IsBootstrapFor, IsFencedAbove, IsOfMove}
use Rattle.transcripts.specs.Placements.{placements}
use Rattle.transcripts.specs.Reasons.{MayRefuse}
use Rattle.transcripts.specs.Record.{InnerTurn, TurnPosition, inner_turns}
use Rattle.model_laws.specs.Building.{place_of_two, two_made}
use Rattle.model_laws.proofs.EachLemmas.{Each, ◌also◌, each_in, texts_differ}
use Rattle.model_laws.proofs.PositionLemmas.{only_used, stands_then}
use Rattle.move_laws.specs.Moving.{asked_after, asked_before, cancelled, b_to_a, on_a, joining, bootstrap, b_drained, a_joined, a_joins, a_prints_move, a_refused, moved_to_a, call_at, MayRefuseAfter, MayRefuseBeside}
use Rattle.model_laws.proofs.CausedLives.{each_at}
use Rattle.model_laws.proofs.OwnerLemmas.{first_placements, standing_known, turn_in}
use Rattle.move_laws.proofs.MovingLemmas.{of_name}

-- ---- of a move

-- the lines in which a's bootstrap was asked, and no memory was there
abbrev asked : List Turn
asked = two_made ++ b_drained ∷ a_refused ∷ []

-- a is to have the shard from version 2 on
a_joining : (p : TurnPosition) (turn : InnerTurn) → IsTakenBy None p b_to_a turn → IsBootstrapFor 1 (codes "a") turn.act → IsOfMove None p 1 2
a_joining p turn taken asks = record {
  place = b_to_a;
  node = 0;
  assigned = record { assignment = joining 0 2 1; among = inr (inl refl); of_node = refl; kind = refl };
  turn = turn;
  taken = taken;
  asks = record { instance_ = _; stands = refl; holds = asks };
}

pub asked-caused : MayRefuseAfter true [] asked place_of_two 1 (reason.Stale 2)
asked-caused told = record {
  above = omega arith;
  place = b_to_a;
  may_stand = stands_then _ _ _ _ refl;
  not_above = omega arith;
  cause = inr (a_joining _ (record { act = act.Bootstrap (codes "a") None; answer = answer.Memory }) (inl (record { number = 3; line = a_refused; stands = refl; taken = inl refl; stood = inl refl })) (refl, refl));
}

pub ended-caused : MayRefuseAfter true [] moved_to_a place_of_two 1 (reason.Stale 2)
ended-caused told = record { above = omega arith; place = on_a; may_stand = stands_then _ _ _ _ refl; not_above = omega arith; cause = inr (a_joining _ a_joins (inl (record { number = 3; line = a_joined; stands = refl; taken = inl refl; stood = inl refl })) (refl, refl)) }

pub beside-caused : MayRefuseBeside true [] (two_made ++ b_drained ∷ []) (a_joins ∷ []) place_of_two 1 (reason.Stale 2)
beside-caused told = record {
  above = omega arith;
  place = b_to_a;
  may_stand = (inner_turns (two_made ++ b_drained ∷ []), record { others = []; some_of = tt; are = refl }, refl);
  not_above = omega arith;
  cause = inr (a_joining _ a_joins (inr (inl refl, refl)) (refl, refl));
}

-- ---- bounds

pub not_above-refused : (faults : List Fault) (fence : ℕ) → fence ≤ 2 → ¬ MayRefuseAfter true faults asked b_to_a 1 (reason.Stale fence)
not_above-refused faults fence low may = let above : 2 < fence = (may refl).above in omega (arith, above, low)

pub above_standing-refused : (faults : List Fault) (fence : ℕ) → 2 < fence → ¬ MayRefuseAfter true faults asked place_of_two 1 (reason.Stale fence)
above_standing-refused faults fence high may =
    let fenced = may refl in
    let p = call_at asked place_of_two 1 (reason.Stale fence) in
    let same : b_to_a ≡ fenced.place = only_used asked p.turn.act p.turn.answer b_to_a fenced.place refl fenced.may_stand in
    let low : fence ≤ 2 = subst (λ (q : Placement). fence ≤ q.version) (sym same) fenced.not_above in
    omega (arith, high, low)

-- a run that found nothing has fences of its own moves alone
of_move : (p : TurnPosition) (used : Placement) (shard fence : ℕ) → IsFencedAbove None p used shard fence → IsOfMove None p shard fence
of_move p used shard fence fenced = elim fenced.cause as (λ _. IsOfMove None p shard fence) [ inl left ↦ let bad = left.found in cc | inr of ↦ of ]

-- where the call stands in a line outside `par`, a turn that was taken before it is one of the lines, and the placement that stood then is known by their end
taken_among : (lines : List Turn) (used : Placement) (node : ℕ) (why : Reason) (place : Placement) (turn : InnerTurn) → IsTakenBy None (call_at lines used node why) place turn → IsIn (placements None (inner_turns lines)) place × IsIn (inner_turns lines) turn
taken_among lines used node why place turn taken =
    elim taken as (λ _. IsIn (placements None (inner_turns lines)) place × IsIn (inner_turns lines) turn) [
      | inl is ↦ (
        elim is.stood as (λ _. IsIn (placements None (inner_turns lines)) place) [ inl first ↦ known is.number first | inr last ↦ known (suc is.number) last ],
        turn_in lines is.number is.line is.stands turn is.taken,
      )
      | inr beside ↦ absurd beside.0
    ]
  where
    known : (k : ℕ) → placement_by None lines k ≡ Some place → IsIn (placements None (inner_turns lines)) place
    known k stood = first_placements None k lines place (standing_known None (inner_turns (take k lines)) place stood)

-- ---- of no move

pub no_move-refused : (faults : List Fault) → ¬ MayRefuseAfter true faults moved_to_a place_of_two 1 (reason.Stale 3)
no_move-refused faults may =
    let of = of_move (call_at moved_to_a place_of_two 1 (reason.Stale 3)) place_of_two 1 3 (may refl) in
    let known = (taken_among moved_to_a place_of_two 1 (reason.Stale 3) of.place of.turn of.taken).0 in
    each_in (λ q. (a : Assignment) → IsIn (shard_at q 1) a → a.tenure ≢ 3) (place_of_two ∷ b_to_a ∷ on_a ∷ []) (
    each_in (λ (a : Assignment). a.tenure ≢ 3) (shard_at place_of_two 1) ((λ e. omega (arith, e)) also tt)
    also each_in (λ (a : Assignment). a.tenure ≢ 3) (shard_at b_to_a 1) ((λ e. omega (arith, e)) also (λ e. omega (arith, e)) also tt)
    also each_in (λ (a : Assignment). a.tenure ≢ 3) (shard_at on_a 1) ((λ e. omega (arith, e)) also tt)
    also tt) of.place known of.assigned.assignment of.assigned.among of.assigned.kind

-- no turn asks for a bootstrap
abbrev AsksNone : List InnerTurn → Type 0
AsksNone turns = Each (λ (turn : InnerTurn). (name : List ℕ) → IsBootstrapFor 1 name turn.act → ⊥) turns

asks_none : (turns : List InnerTurn) → AsksNone turns → (turn : InnerTurn) → IsIn turns turn → (q : Placement) (node : ℕ) → ¬ OfNode q node (λ name. IsBootstrapFor 1 name turn.act)
asks_none turns none turn taken q node asks = each_in (λ (t : InnerTurn). (name : List ℕ) → IsBootstrapFor 1 name t.act → ⊥) turns none turn taken asks.instance_.name asks.holds

pub none_asked-refused : (faults : List Fault) → ¬ MayRefuseAfter true faults (two_made ++ b_drained ∷ []) place_of_two 1 (reason.Stale 2)
none_asked-refused faults may =
    let lines = two_made ++ b_drained ∷ [] in
    let of = of_move (call_at lines place_of_two 1 (reason.Stale 2)) place_of_two 1 2 (may refl) in
    let taken = (taken_among lines place_of_two 1 (reason.Stale 2) of.place of.turn of.taken).1 in
    asks_none (inner_turns lines) ((λ name asks. asks) also (λ name asks. asks) also (λ name asks. asks) also tt) of.turn taken of.place of.node of.asks

-- a placement that gives nobody the shard with this tenure is of no move with it
gives_none : (q place : Placement) (node : ℕ) → Each (λ (a : Assignment). a.tenure ≢ 2) (shard_at q 1) → (Some q ≡ Some place) ⊎ (Some q ≡ Some place) → ¬ HasAssignment place 1 node (λ tenure. tenure ≡ 2)
gives_none q place node none stood given =
    let same : q ≡ place = elim stood as (λ _. q ≡ place) [ inl first ↦ same_Some q place first | inr last ↦ same_Some q place last ] in
    each_in (λ (a : Assignment). a.tenure ≢ 2) (shard_at q 1) none given.assignment (subst (λ x. IsIn (shard_at x 1) given.assignment) (sym same) given.among) given.kind

pub early-refused : (faults : List Fault) → ¬ MayRefuseAfter true faults asked_before place_of_two 1 (reason.Stale 2)
early-refused faults may =
    let of = of_move (call_at asked_before place_of_two 1 (reason.Stale 2)) place_of_two 1 2 (may refl) in
    elim of.taken as (λ _. ⊥) [
      | inr beside ↦ absurd beside.0
      | inl is ↦
          each_at (λ k line. (placement_by None asked_before k ≡ Some of.place) ⊎ (placement_by None asked_before (suc k) ≡ Some of.place) → IsIn (inner_turns (line ∷ [])) of.turn → ⊥) asked_before (
          (λ stood taken. asks_none (inner_turns (take 1 asked_before)) ((λ name asks. asks) also tt) of.turn taken of.place of.node of.asks)
          also (λ stood taken. asks_none (inner_turns (take 1 (drop 1 asked_before))) ((λ name asks. asks) also tt) of.turn taken of.place of.node of.asks)
          also (λ stood taken. gives_none place_of_two of.place of.node ((λ e. omega (arith, e)) also tt) stood of.assigned)
          also (λ stood taken. asks_none (inner_turns (take 1 (drop 3 asked_before))) ((λ name asks. asks) also tt) of.turn taken of.place of.node of.asks)
          also tt) is.number is.line is.stands is.stood is.taken
    ]

pub cancelled-refused : (faults : List Fault) → ¬ MayRefuseAfter true faults asked_after place_of_two 1 (reason.Stale 2)
cancelled-refused faults may =
    let of = of_move (call_at asked_after place_of_two 1 (reason.Stale 2)) place_of_two 1 2 (may refl) in
    elim of.taken as (λ _. ⊥) [
      | inr beside ↦ absurd beside.0
      | inl is ↦
          each_at (λ k line. (placement_by None asked_after k ≡ Some of.place) ⊎ (placement_by None asked_after (suc k) ≡ Some of.place) → IsIn (inner_turns (line ∷ [])) of.turn → ⊥) asked_after (
          (λ stood taken. asks_none (inner_turns (take 1 asked_after)) ((λ name asks. asks) also tt) of.turn taken of.place of.node of.asks)
          also (λ stood taken. asks_none (inner_turns (take 1 (drop 1 asked_after))) ((λ name asks. asks) also tt) of.turn taken of.place of.node of.asks)
          also (λ stood taken. asks_none (inner_turns (take 1 (drop 2 asked_after))) ((λ name asks. asks) also tt) of.turn taken of.place of.node of.asks)
          also (λ stood taken. asks_none (inner_turns (take 1 (drop 3 asked_after))) ((λ name asks. asks) also tt) of.turn taken of.place of.node of.asks)
          also (λ stood taken. gives_none cancelled of.place of.node ((λ e. omega (arith, e)) also tt) stood of.assigned)
          also tt) is.number is.line is.stands is.stood is.taken
    ]

-- beside the call a placement with the move is printed, which didn't stand when the line began
pub own_line-refused : (faults : List Fault) → ¬ MayRefuseBeside true faults two_made (a_prints_move ∷ []) place_of_two 1 (reason.Stale 2)
own_line-refused faults may =
    let of = of_move (record (call_at two_made place_of_two 1 (reason.Stale 2)) { beside = a_prints_move ∷ [] }) place_of_two 1 2 (may refl) in
    elim of.taken as (λ _. ⊥) [
      | inl is ↦ asks_none (inner_turns two_made) ((λ name asks. asks) also (λ name asks. asks) also tt) of.turn (turn_in two_made is.number is.line is.stands of.turn is.taken) of.place of.node of.asks
      | inr own ↦ gives_none place_of_two of.place of.node ((λ e. omega (arith, e)) also tt) (inl own.1) of.assigned
    ]

-- the lines in which the other node's bootstrap was asked, and that of another shard
abbrev asked_others : List Turn
asked_others = two_made ++ b_drained ∷ bootstrap (codes "b") None answer.Memory ∷ bootstrap (codes "a") (Some 0) answer.Memory ∷ []

-- whoever has a shard since version 2 is node 0
joining_0 : (q : Placement) → IsIn (place_of_two ∷ b_to_a ∷ []) q → (a : Assignment) → IsIn (shard_at q 1) a → a.tenure ≡ 2 → a.node ≡ 0
joining_0 = each_in (λ q. (a : Assignment) → IsIn (shard_at q 1) a → a.tenure ≡ 2 → a.node ≡ 0) (place_of_two ∷ b_to_a ∷ []) (
    each_in (λ (a : Assignment). a.tenure ≡ 2 → a.node ≡ 0) (shard_at place_of_two 1) ((λ e. absurd (omega (arith, e))) also tt)
    also each_in (λ (a : Assignment). a.tenure ≡ 2 → a.node ≡ 0) (shard_at b_to_a 1) ((λ e. absurd (omega (arith, e))) also (λ e. refl) also tt)
    also tt)

-- that is a
named_a : (a : Act) (q : Placement) → IsIn (place_of_two ∷ b_to_a ∷ []) q → OfNode q 0 (λ name. IsBootstrapFor 1 name a) → IsBootstrapFor 1 (codes "a") a
named_a a = each_in (λ q. OfNode q 0 (λ name. IsBootstrapFor 1 name a) → IsBootstrapFor 1 (codes "a") a) (place_of_two ∷ b_to_a ∷ []) (of_name place_of_two (λ name. IsBootstrapFor 1 name a) 0 _ refl also of_name b_to_a (λ name. IsBootstrapFor 1 name a) 0 _ refl also tt)

pub others_asked-refused : (faults : List Fault) → ¬ MayRefuseAfter true faults asked_others place_of_two 1 (reason.Stale 2)
others_asked-refused faults may =
    let of = of_move (call_at asked_others place_of_two 1 (reason.Stale 2)) place_of_two 1 2 (may refl) in
    let among = taken_among asked_others place_of_two 1 (reason.Stale 2) of.place of.turn of.taken in
    let node : of.node ≡ 0 = sym of.assigned.of_node ∙ joining_0 of.place among.0 of.assigned.assignment of.assigned.among of.assigned.kind in
    let asks : IsBootstrapFor 1 (codes "a") of.turn.act = named_a of.turn.act of.place among.0 (subst (λ n. OfNode of.place n (λ name. IsBootstrapFor 1 name of.turn.act)) node of.asks) in
    each_in (λ (turn : InnerTurn). IsBootstrapFor 1 (codes "a") turn.act → ⊥) (inner_turns asked_others) (
    (λ no. no)
    also (λ no. no)
    also (λ no. no)
    also (λ no. texts_differ (codes "a") (codes "b") refl refl (sym no.0))
    also (λ no. let bad : false ≡ true = no.1 in cc)
    also tt) of.turn among.1 asks

pub another_shard-refused : (faults : List Fault) → ¬ MayRefuse true faults None (call_at asked place_of_two 0 (reason.Stale 2)) place_of_two 0 0 (reason.Stale 2)
another_shard-refused faults may =
    let of = of_move (call_at asked place_of_two 0 (reason.Stale 2)) place_of_two 0 2 (may refl) in
    let known = (taken_among asked place_of_two 0 (reason.Stale 2) of.place of.turn of.taken).0 in
    each_in (λ q. (a : Assignment) → IsIn (shard_at q 0) a → a.tenure ≢ 2) (place_of_two ∷ b_to_a ∷ []) (
    each_in (λ (a : Assignment). a.tenure ≢ 2) (shard_at place_of_two 0) ((λ e. omega (arith, e)) also tt)
    also each_in (λ (a : Assignment). a.tenure ≢ 2) (shard_at b_to_a 0) ((λ e. omega (arith, e)) also tt)
    also tt) of.place known of.assigned.assignment of.assigned.among of.assigned.kind

-- ---- left

pub left-of_move : (state : MetaState) (p : TurnPosition) (used : Placement) (shard fence : ℕ) → state.place.version ≤ used.version → IsFencedAbove (Some state) p used shard fence → IsOfMove (Some state) p shard fence
left-of_move state p used shard fence later fenced =
    elim fenced.cause as (λ _. IsOfMove (Some state) p shard fence) [
      | inl left ↦ (
          let same : state ≡ left.state = same_Some state left.state left.found in
          let low : fence ≤ state.place.version = subst (λ (s : MetaState). fence ≤ s.place.version) (sym same) left.not_above in
          let high : used.version < fence = fenced.above in
          absurd (omega (arith, low, high, later)))
      | inr of ↦ of
    ]
