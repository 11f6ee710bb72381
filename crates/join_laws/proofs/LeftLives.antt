-- What is left to replicas, and what isn't enough.
use Rattle.std.proofs.Common.{◌≡◌, ◌≢◌, ◌≤◌, ◌<◌, ◌+◌, ◌∙◌, ℕ, ℤ, zero, suc, true, false, List, [], ◌∷◌, length, Some, None, refl, ap, subst, sym, inl, inr, arith, slice_get}
use Rattle.std.specs.Prelude.{◌⊎◌, ◌≤ℤ◌, ◌&&◌, Bool, Option, codes, if◌then◌else◌, nat_eq, negsuc, pos}
use Rattle.std.specs.List.{list_any}
use Rattle.std.proofs.lemmas.Option.{same_Some}
use Rattle.m3_model.specs.Hash.{murmur3, shard_of}
use Rattle.m3_model.specs.Levels.{majority}
use Rattle.m3_model.specs.Members.{IsIn}
use Rattle.m3_model.specs.Reads.{Covers}
use Rattle.m3_model.specs.Rules.{HasExpired}
use Rattle.m3_model.specs.declared.answer.Answer.{Answer}
use Rattle.m3_model.specs.declared.answer.Answer.TheVariants as answer
use Rattle.m3_model.specs.declared.point.Point.{Point}
use Rattle.m3_model.specs.declared.rules.MetaState.{MetaState}
use Rattle.m3_model.specs.declared.rules.Space.{Space}
use Rattle.placement_core.specs.Majorities.{IsMajority}
use Rattle.placement_core.specs.Shards.{holders, shard_at}
use Rattle.transcripts.specs.Left.{HeldAtOpening, IsCarried, IsLeft, OpeningStands, WasSentEarlier, earlier_turns, sent_earlier}
use Rattle.transcripts.specs.Points.{point_of}
use Rattle.transcripts.specs.Record.{InnerTurn}
use Rattle.model_laws.specs.Building.{acks, place, space, write}
use Rattle.model_laws.proofs.EachLemmas.{◌also◌, ascends_by, each_in}
use Rattle.join_laws.specs.Opened.{both_taken, held_by, left_at, nothing, one_taken, with_value}

-- ---- majorities of the three

-- two different nodes of the three aren't both c
has_a_or_b : (members : List ℕ) → IsMajority 3 (0 ∷ 1 ∷ 2 ∷ []) members → (n : ℕ) × IsIn members n × ((n ≡ 0) ⊎ (n ≡ 1))
has_a_or_b [] many = let bad : 2 ≤ 0 = many.enough in absurd (omega (arith, bad))
has_a_or_b (x ∷ []) many = let bad : 2 ≤ 1 = many.enough in absurd (omega (arith, bad))
has_a_or_b (x ∷ y ∷ members) many = by (many.within x (inl refl)) (many.within y (inr (inl refl))) (many.distinct.0 y (inl refl))
  where
    by : IsIn (0 ∷ 1 ∷ 2 ∷ []) x → IsIn (0 ∷ 1 ∷ 2 ∷ []) y → x ≢ y → (n : ℕ) × IsIn (x ∷ y ∷ members) n × ((n ≡ 0) ⊎ (n ≡ 1))
    by (inl is) second differ = (x, inl refl, inl (sym is))
    by (inr (inl is)) second differ = (x, inl refl, inr (sym is))
    by (inr (inr (inl is))) (inl also_is) differ = (y, inr (inl refl), inl (sym also_is))
    by (inr (inr (inl is))) (inr (inl also_is)) differ = (y, inr (inl refl), inr (sym also_is))
    by (inr (inr (inl is))) (inr (inr (inl also_is))) differ = absurd (differ (sym is ∙ also_is))
    by (inr (inr (inl is))) (inr (inr (inr none))) differ = absurd none
    by (inr (inr (inr none))) second differ = absurd none

-- b and c are one
b_and_c : IsMajority 3 (0 ∷ 1 ∷ 2 ∷ []) (1 ∷ 2 ∷ [])
b_and_c = record {
  distinct = ascends_by {X = ℕ} ◌≢◌ (1 ∷ 2 ∷ []) (((λ e. omega (arith, e)) also tt) also tt also tt);
  within = each_in (IsIn (0 ∷ 1 ∷ 2 ∷ [])) (1 ∷ 2 ∷ []) (inr (inl refl) also inr (inr (inl refl)) also tt);
  enough = omega arith;
}

-- ---- accepted

-- what a turn of these must leave
abbrev Carries : Option MetaState → HeldAtOpening → InnerTurn → Type 0
Carries start held turn = (nodes : List ℕ) → turn.answer ≡ answer.Acks nodes → IsCarried start held turn nodes

-- what isn't acknowledged leaves nothing
no_acks : (start : Option MetaState) (held : HeldAtOpening) (turn : InnerTurn) → ((nodes : List ℕ) → turn.answer ≢ answer.Acks nodes) → Carries start held turn
no_acks start held turn not nodes is = absurd (not nodes is)

-- a or b covers a value that is at most 5
two_cover : (v : ℤ) → v ≤ℤ pos 5 → IsLeft (held_by (0 ∷ 1 ∷ []) (pos 5)) place (shard_of (codes "hello") 0 1) (with_value v)
unfolding murmur3
two_cover v below = (shard_at place 0, refl, λ members many. let found = has_a_or_b members many in (found.0, found.1, covers found.0 found.2))
  where
    covers : (n : ℕ) → (n ≡ 0) ⊎ (n ≡ 1) → Covers (held_by (0 ∷ 1 ∷ []) (pos 5) n 0) (with_value v)
    covers n (inl is) = subst (λ k. Covers (held_by (0 ∷ 1 ∷ []) (pos 5) k 0) (with_value v)) (sym is) (record { value = pos 5; at_least = below; stands = inl refl })
    covers n (inr is) = subst (λ k. Covers (held_by (0 ∷ 1 ∷ []) (pos 5) k 0) (with_value v)) (sym is) (record { value = pos 5; at_least = below; stands = inl refl })

-- the write of a value leaves it with a and b
value_left : (v : ℤ) → v ≤ℤ pos 5 → Carries (Some (left_at 100)) (held_by (0 ∷ 1 ∷ []) (pos 5)) (record { act = write 100 v; answer = acks (0 ∷ 1 ∷ 2 ∷ []) })
value_left v below nodes is = record { state = left_at 100; found = refl; point = with_value v; of_act = refl; left = λ enough live. two_cover v below }

pub two-left : OpeningStands both_taken (Some (left_at 100)) (held_by (0 ∷ 1 ∷ []) (pos 5))
two-left = record {
  acked = each_in (Carries (Some (left_at 100)) (held_by (0 ∷ 1 ∷ []) (pos 5))) (earlier_turns both_taken) (
      no_acks _ _ _ (λ nodes e. cc)
      also no_acks _ _ _ (λ nodes e. cc)
      also no_acks _ _ _ (λ nodes e. cc)
      also value_left (pos 4) (omega arith)
      also value_left (pos 5) (omega arith)
      also tt);
  sent = sent;
}
  where
    sent : (n s : ℕ) (point : Point) → IsIn (held_by (0 ∷ 1 ∷ []) (pos 5) n s) point → WasSentEarlier both_taken (Some (left_at 100)) point
    sent n s point m = by (list_any (nat_eq n) (0 ∷ 1 ∷ []) && nat_eq s 0) m
      where
        by : (has : Bool) → IsIn (if has then with_value (pos 5) ∷ [] else []) point → WasSentEarlier both_taken (Some (left_at 100)) point
        by true (inl is) = record { state = left_at 100; found = refl; among = inr (inl is) }
        by true (inr none) = absurd none
        by false none = absurd none

-- the write of a value that has expired leaves nothing
value_gone : (v : ℤ) → Carries (Some (left_at 600)) nothing (record { act = write 100 v; answer = acks (0 ∷ 1 ∷ 2 ∷ []) })
value_gone v nodes is = record { state = left_at 600; found = refl; point = with_value v; of_act = refl; left = λ enough live. absurd (live (record { space = space; stands = refl; ended = omega arith })) }

pub expired-left : OpeningStands both_taken (Some (left_at 600)) nothing
expired-left = record {
  acked = each_in (Carries (Some (left_at 600)) nothing) (earlier_turns both_taken) (
      no_acks _ _ _ (λ nodes e. cc)
      also no_acks _ _ _ (λ nodes e. cc)
      also no_acks _ _ _ (λ nodes e. cc)
      also value_gone (pos 4)
      also value_gone (pos 5)
      also tt);
  sent = λ n s point none. absurd none;
}

pub refused-left : OpeningStands one_taken (Some (left_at 100)) nothing
refused-left = record {
  acked = each_in (Carries (Some (left_at 100)) nothing) (earlier_turns one_taken) (
      no_acks _ _ _ (λ nodes e. cc)
      also no_acks _ _ _ (λ nodes e. cc)
      also no_acks _ _ _ (λ nodes e. cc)
      also no_acks _ _ _ (λ nodes e. cc)
      also tt);
  sent = λ n s point none. absurd none;
}

pub first-left : OpeningStands [] None nothing
first-left = record { acked = λ turn none. absurd none; sent = λ n s point none. absurd none }

-- ---- refused

-- the turn with the value 5
abbrev wrote_5 : InnerTurn
wrote_5 = record { act = write 100 (pos 5); answer = acks (0 ∷ 1 ∷ 2 ∷ []) }

-- its point has to be left at this moment
five_left : (now : ℕ) (held : HeldAtOpening) → now < 600 → OpeningStands both_taken (Some (left_at now)) held → (members : List ℕ) → IsMajority 3 (0 ∷ 1 ∷ 2 ∷ []) members → (n : ℕ) × IsIn members n × Covers (held n 0) (with_value (pos 5))
unfolding murmur3
five_left now held live stands members many =
    let carried = stands.acked wrote_5 (inr (inr (inr (inr (inl refl))))) (0 ∷ 1 ∷ 2 ∷ []) refl in
    let state : left_at now ≡ carried.state = same_Some (left_at now) carried.state carried.found in
    let point : with_value (pos 5) ≡ carried.point = same_Some (with_value (pos 5)) carried.point (of_state carried.state carried.point state carried.of_act) in
    let left : ¬ HasExpired (left_at now).rules (with_value (pos 5)) → IsLeft held place (shard_of (codes "hello") 0 1) (with_value (pos 5)) = by carried.state carried.point state point carried.left in
    let found = left (λ gone. not_gone gone.space gone.stands gone.ended) in
    let same : shard_at place 0 ≡ found.0 = same_Some (shard_at place 0) found.0 found.1 in
    found.2 members (subst (λ s. IsMajority 3 (holders s) members) same many)
  where
    of_state : (state : MetaState) (point : Point) → left_at now ≡ state → point_of state.rules.spaces (write 100 (pos 5)) ≡ Some point → Some (with_value (pos 5)) ≡ Some point
    of_state state point is e = subst (λ (s : MetaState). point_of s.rules.spaces (write 100 (pos 5)) ≡ Some point) (sym is) e

    by : (state : MetaState) (point : Point) → left_at now ≡ state → with_value (pos 5) ≡ point → (majority state.place.rf ≤ 3 → ¬ HasExpired state.rules point → IsLeft held state.place (shard_of point.id state.seed (length state.place.shards)) point)
        → ¬ HasExpired (left_at now).rules (with_value (pos 5)) → IsLeft held place (shard_of (codes "hello") 0 1) (with_value (pos 5))
    by state point is same left =
        subst (λ (p : Point). ¬ HasExpired (left_at now).rules p → IsLeft held place (shard_of p.id 0 1) p) (sym same)
        (subst (λ (s : MetaState). majority s.place.rf ≤ 3 → ¬ HasExpired s.rules point → IsLeft held s.place (shard_of point.id s.seed (length s.place.shards)) point) (sym is) left (omega arith))

    not_gone : (within : Space) → Some space ≡ Some within → 100 + within.retention ≤ now → ⊥
    not_gone within is ended = let low : 100 + 500 ≤ now = subst (λ (w : Space). 100 + w.retention ≤ now) (sym (same_Some space within is)) ended in omega (arith, low, live)

pub one-refused : ¬ OpeningStands both_taken (Some (left_at 100)) (held_by (0 ∷ []) (pos 5))
one-refused stands =
    let found = five_left 100 (held_by (0 ∷ []) (pos 5)) (omega arith) stands (1 ∷ 2 ∷ []) b_and_c in
    each_in (λ n. Covers (held_by (0 ∷ []) (pos 5) n 0) (with_value (pos 5)) → ⊥) (1 ∷ 2 ∷ []) ((λ covers. covers.stands) also (λ covers. covers.stands) also tt) found.0 found.1 found.2

pub lower-refused : ¬ OpeningStands both_taken (Some (left_at 100)) (held_by (0 ∷ 1 ∷ 2 ∷ []) (pos 4))
lower-refused stands =
    let found = five_left 100 (held_by (0 ∷ 1 ∷ 2 ∷ []) (pos 4)) (omega arith) stands (1 ∷ 2 ∷ []) b_and_c in
    each_in (λ n. Covers (held_by (0 ∷ 1 ∷ 2 ∷ []) (pos 4) n 0) (with_value (pos 5)) → ⊥) (1 ∷ 2 ∷ []) (too_low also too_low also tt) found.0 found.1 found.2
  where
    too_low : Covers (with_value (pos 4) ∷ []) (with_value (pos 5)) → ⊥
    too_low covers = elim covers.stands as (λ _. ⊥) [ inl is ↦ (let four : pos 4 ≡ covers.value = ap (λ (p : Point). p.v) is in let high : pos 5 ≤ℤ pos 4 = subst (λ v. pos 5 ≤ℤ v) (sym four) covers.at_least in omega (arith, high)) | inr none ↦ none ]

pub live-refused : ¬ OpeningStands both_taken (Some (left_at 599)) nothing
live-refused stands = (five_left 599 nothing (omega arith) stands (1 ∷ 2 ∷ []) b_and_c).2.stands

-- the number of a value that isn't negative
abbrev number : ℤ → ℕ
number (pos n) = n
number (negsuc n) = n

not_nine : (n : ℕ) → n ≢ 9 → pos n ≢ pos 9
not_nine n differs is = differs (ap number is)

pub unsent-refused : ¬ OpeningStands both_taken (Some (left_at 100)) (held_by (0 ∷ 1 ∷ 2 ∷ []) (pos 9))
unsent-refused stands =
    let sent = stands.sent 0 0 (with_value (pos 9)) (inl refl) in
    let state : left_at 100 ≡ sent.state = same_Some (left_at 100) sent.state sent.found in
    each_in (λ (p : Point). p.v ≢ pos 9) (with_value (pos 4) ∷ with_value (pos 5) ∷ []) (not_nine 4 (λ e. omega (arith, e)) also not_nine 5 (λ e. omega (arith, e)) also tt) (with_value (pos 9))
    (subst (λ (s : MetaState). IsIn (sent_earlier both_taken s.rules.spaces) (with_value (pos 9))) (sym state) sent.among) refl

pub none-refused : ¬ OpeningStands both_taken None nothing
none-refused stands = let carried = stands.acked wrote_5 (inr (inr (inr (inr (inl refl))))) (0 ∷ 1 ∷ 2 ∷ []) refl in let bad : None ≡ Some carried.state = carried.found in cc

pub held-refused : ¬ OpeningStands [] None (held_by (0 ∷ []) (pos 5))
held-refused stands = let sent = stands.sent 0 0 (with_value (pos 5)) (inl refl) in let bad : None ≡ Some sent.state = sent.found in cc
