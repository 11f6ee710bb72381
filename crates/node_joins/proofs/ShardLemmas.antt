-- The replicas of a node, shard by shard.
use Rattle.std.proofs.Common.{◌≡◌, ◌+◌, ◌<◌, ◌≤◌, ℕ, zero, suc, List, [], ◌∷◌, ◌++◌, map, length, take, get_or, Bool, true, false, refl, sym, ap, ◌∙◌, subst, inl, inr, arith}
use Rattle.std.specs.Prelude.{◌⊎◌, ◌≢◌, ⊤, Option, Some, None, Result, Ok, Err, nat_eq, if◌then◌else◌, slice_index_or}
use Rattle.std.specs.FinMap as finite
use Rattle.std.specs.List.{Any, cons_option, filter_map, flat_map}
use Rattle.std.proofs.lemmas.Bool.{eq-eqb, eqb-true, ne_eqb}
use Rattle.std.proofs.lemmas.List.{append-nil, get_or_default, map-append}
use Rattle.std.proofs.lemmas.List.Concat.{flat_map-append}
use Rattle.std.proofs.lemmas.List.Elements.{filter_map-append}
use Rattle.m3_model.specs.Ascends.{Ascends}
use Rattle.m3_model.specs.Members.{IsIn}
use Rattle.m3_model.specs.declared.placement.Assignment.{Assignment}
use Rattle.m3_model.specs.declared.placement.Placement.{Placement}
use Rattle.m3_model.proofs.MemberLemmas.{IsIn-append_cases, IsIn-append_left, IsIn-append_right}
use Rattle.placement_core.specs.Shards.{Shard, nodes_of, shard_at}
use Rattle.placement_core.proofs.ListLemmas.{Any-from_IsIn, IsIn-from_Any}
use Rattle.cluster_core.specs.Earlier.{GivesTenure, HasTenure}
use Rattle.cluster_core.specs.Lists.{At}
use Rattle.cluster_core.specs.declared.event.Event.TheVariants as event
use Rattle.transcripts.specs.Waiting.{is_covering}
use Rattle.session_net.specs.m3_outside.DiskState.{DiskState}
use Rattle.session_net.specs.replica_calls.Calls.{Tracked}
use Rattle.session_net.specs.cluster_core.declared.event.Event.{Event}
use Rattle.session_net.specs.Ready.{Places}
use Rattle.session_net.specs.Runs.{Ran}
use Rattle.session_net.proofs.RunLemmas.{ran_nothing, ran_then}
use Rattle.peer_streams.specs.Joins.{HasJoinedBy, IsOpened, Opened, StaysAsItWas}
use Rattle.node_joins.specs.Joined.{JoinedOf, join_of}
use Rattle.node_joins.specs.Opens.{IsOpenTried}
use Rattle.node_joins.specs.Shards.{AreOpenedBelow, AreTried, IsEndedAt, IsShardTried, IsTriedAt, asked_at, assignment_in, covered_below, joined_shard, newly, shard_if}
use Rattle.node_joins.specs.declared.open_err.OpenErr.{OpenErr}
use Rattle.node_joins.specs.declared.open_err.OpenErr.TheVariants as open_err
use Rattle.node_joins.proofs.OpenLemmas.{shard_there}

-- ---- the node's assignment

-- one that was found is the node's
pub assignment_is : (y : ℕ) (shard : Shard) (a : Assignment) → assignment_in y shard ≡ Some a → IsIn shard a × (a.node ≡ y)
assignment_is y [] a is = let clash : None ≡ Some a = is in cc
assignment_is y (b ∷ shard) a is = by (nat_eq b.node y) refl is (assignment_is y shard a)
  where
    by : (t : Bool) → nat_eq b.node y ≡ t → (if t then Some b else assignment_in y shard) ≡ Some a → (assignment_in y shard ≡ Some a → IsIn shard a × (a.node ≡ y)) → IsIn (b ∷ shard) a × (a.node ≡ y)
    by true same e later = let here : b ≡ a = cc in (inl here, ap (λ (x : Assignment). x.node) (sym here) ∙ eqb-true b.node y same)
    by false other e later = let h = later e in (inr h.0, h.1)

-- one is found where the node has the shard
pub assignment_found : (y : ℕ) (shard : Shard) → IsIn (nodes_of shard) y → (a : Assignment) × (assignment_in y shard ≡ Some a)
assignment_found y [] m = absurd m
assignment_found y (b ∷ shard) (inl same) = (b, ap (λ t. if t then Some b else assignment_in y shard) (eq-eqb b.node y same))
assignment_found y (b ∷ shard) (inr m) = by (nat_eq b.node y) (assignment_found y shard m)
  where
    by : (t : Bool) → (a : Assignment) × (assignment_in y shard ≡ Some a) → (a : Assignment) × ((if t then Some b else assignment_in y shard) ≡ Some a)
    by true h = (b, refl)
    by false h = h

-- as a loop reads them
assignment_next : (y : ℕ) (shard : Shard) (i : ℕ) (d : Assignment) → i < length shard → assignment_in y (take i shard) ≡ None → ((get_or shard i d).node ≡ y → ⊥) → assignment_in y (take (suc i) shard) ≡ None
assignment_next y [] i d low none other = absurd (omega (arith, low))
assignment_next y (a ∷ shard) zero d low none other = ap (λ t. if t then Some a else None) (ne_eqb a.node y other)
assignment_next y (a ∷ shard) (suc i) d low none other = by_test (nat_eq a.node y) none (λ e. assignment_next y shard i d (omega (arith, low)) e other)
  where
    by_test : (t : Bool) → (if t then Some a else assignment_in y (take i shard)) ≡ None → (assignment_in y (take i shard) ≡ None → assignment_in y (take (suc i) shard) ≡ None) → (if t then Some a else assignment_in y (take (suc i) shard)) ≡ None
    by_test true e later = e
    by_test false e later = later e

pub assignment_more : (y : ℕ) (shard : Shard) (i : ℕ) (d : Assignment) → i < length shard → assignment_in y (take i shard) ≡ None → ((get_or shard i d).node ≡ y → ⊥) → assignment_in y (take (i + 1) shard) ≡ None
assignment_more y shard i d low none other = let next : i + 1 ≡ suc i = omega arith in ap (λ k. assignment_in y (take k shard)) next ∙ assignment_next y shard i d low none other

pub assignment_here : (y : ℕ) (shard : Shard) (i : ℕ) (d : Assignment) → i < length shard → assignment_in y (take i shard) ≡ None → (get_or shard i d).node ≡ y → assignment_in y shard ≡ Some (get_or shard i d)
assignment_here y [] i d low none is = absurd (omega (arith, low))
assignment_here y (a ∷ shard) zero d low none is = ap (λ t. if t then Some a else assignment_in y shard) (eq-eqb a.node y is)
assignment_here y (a ∷ shard) (suc i) d low none is = by_test (nat_eq a.node y) none (λ e. assignment_here y shard i d (omega (arith, low)) e is)
  where
    by_test : (t : Bool) → (if t then Some a else assignment_in y (take i shard)) ≡ None → (assignment_in y (take i shard) ≡ None → assignment_in y shard ≡ Some (get_or shard i d)) → (if t then Some a else assignment_in y shard) ≡ Some (get_or shard i d)
    by_test true e later = cc
    by_test false e later = later e

-- the assignment in the shard as it was read
pub assignment_at : (place : Placement) (y s : ℕ) (shards : List Shard) (one slice d : Shard) (r : Option Assignment) → shards ≡ place.shards → s < length place.shards → one ≡ get_or shards s d → slice ≡ one → r ≡ assignment_in y slice → assignment_in y (shard_at place s) ≡ r
assignment_at place y s shards one slice d r are low is same said =
    let low_so : s < length shards = omega (arith, low, ap length are) in
    ap (λ xs. assignment_in y (slice_index_or xs s [])) (sym are) ∙ ap (assignment_in y) (sym (get_or_default shards s d [] low_so) ∙ sym is ∙ sym same) ∙ sym said

-- it is given by a Place of the list
pub tenure_given : (place : Placement) (y s : ℕ) (own : Assignment) (events : List Event) → Any (Places place) events → s < length place.shards → IsIn (shard_at place s) own → own.node ≡ y → HasTenure events own.node s own.tenure
tenure_given place y s own events placed low among of =
    let there = IsIn-from_Any (Places place) events placed in
    Any-from_IsIn (GivesTenure own.node s own.tenure) events there.0 there.1 (by there.0 there.2)
  where
    by : (e : Event) → Places place e → GivesTenure own.node s own.tenure e
    by (event.Place placed done) same = (shard_at place s, subst (λ (p : Placement). At p.shards s (shard_at place s)) (sym same) (shard_there place.shards s low), Any-from_IsIn (λ (a : Assignment). (a.node ≡ own.node) × (a.tenure ≡ own.tenure)) (shard_at place s) own among (refl, refl))
    by _ never = absurd never

never_both : (e : OpenErr) (o : Option JoinedOf) → Err e ≡ Ok o → ⊥
never_both e o is = cc

-- what came to the list
open_grew : {D : Type 0} (state : D → DiskState) (place : Placement) (s : ℕ) (own : Assignment) (old new : Tracked D) (result : Result (Option JoinedOf) OpenErr) → IsOpenTried state place s own old new result → (events : List Event) × (new.events ≡ old.events ++ events)
open_grew state place s own old new (Ok None) h = (h.0, (h.2).grew)
open_grew state place s own old new (Ok (Some j)) h = (h.1, (h.3).grew)
open_grew state place s own old new (Err (open_err.Refused shard why)) h = (h.2, (h.5).grew)
open_grew state place s own old new (Err (open_err.Peers shard needed got reasons)) h = ((h.1).events, ((h.1).ran).grew)
open_grew state place s own old new (Err open_err.Memory) h = ([], ap (λ (t : Tracked _). t.events) h ∙ sym (append-nil old.events))
open_grew state place s own old new (Err open_err.Full) h = (h.1, (h.3).grew)

-- ---- one shard

module _ {D : Type 0} (state : D → DiskState) (y : ℕ) (only : Option ℕ) (place : Placement) where
  asked_by : (s : ℕ) (b : Bool) (o : Option Assignment) → is_covering s only ≡ b → assignment_in y (shard_at place s) ≡ o → asked_at y only place s ≡ (if b then o else None)
  asked_by s b o is found = ap (λ t. if t then assignment_in y (shard_at place s) else None) is ∙ ap (λ o. if b then o else None) found

  pub not_asked : (s : ℕ) (old : Tracked D) → is_covering s only ≡ false → IsShardTried state y only place s old old (Ok None)
  not_asked s old is = subst (λ o. IsTriedAt state y place s o old old (Ok None)) (sym (asked_by s false (assignment_in y (shard_at place s)) is refl)) (refl, refl)

  pub not_there : (s : ℕ) (old : Tracked D) → is_covering s only ≡ true → assignment_in y (shard_at place s) ≡ None → IsShardTried state y only place s old old (Ok None)
  not_there s old is none = subst (λ o. IsTriedAt state y place s o old old (Ok None)) (sym (asked_by s true None is none)) (refl, refl)

  pub tried_there : (s : ℕ) (own : Assignment) (old new : Tracked D) (result : Result (Option JoinedOf) OpenErr) → is_covering s only ≡ true → assignment_in y (shard_at place s) ≡ Some own → IsOpenTried state place s own old new result
      → IsShardTried state y only place s old new result
  tried_there s own old new result is found h =
      let own_is = assignment_is y (shard_at place s) own found in
      subst (λ o. IsTriedAt state y place s o old new result) (sym (asked_by s true (Some own) is found)) (own_is.0, own_is.1, h)

  pub shard_grew : (s : ℕ) (old new : Tracked D) (result : Result (Option JoinedOf) OpenErr) → IsShardTried state y only place s old new result → (events : List Event) × (new.events ≡ old.events ++ events)
  shard_grew s old new result h = by (asked_at y only place s) h
    where
      by : (a : Option Assignment) → IsTriedAt state y place s a old new result → (events : List Event) × (new.events ≡ old.events ++ events)
      by None t = ([], ap (λ (x : Tracked D). x.events) t.1 ∙ sym (append-nil old.events))
      by (Some own) t = open_grew state place s own old new result t.2

  -- ---- all

  pub opened_none : (old : Tracked D) → AreOpenedBelow state y only place 0 [] old old
  opened_none old = record { opened = []; shards = refl; each = λ o m. absurd m; joined_are = refl; ran = ran_nothing state old }

  with_one : (s : ℕ) (joined : List JoinedOf) (old mid new : Tracked D) (o : Opened) (own : Assignment) → asked_at y only place s ≡ Some own → o.shard ≡ s → IsOpened place y o → AreOpenedBelow state y only place s joined old mid → Ran state mid o.added new
      → AreOpenedBelow state y only place (s + 1) (joined ++ cons_option (joined_shard o) []) old new
  with_one s joined old mid new o own asked at is h ran =
      let next : suc s ≡ s + 1 = omega arith in
      subst (λ k. AreOpenedBelow state y only place k (joined ++ cons_option (joined_shard o) []) old new) next (record {
        opened = h.opened ++ o ∷ [];
        shards = map-append (λ (x : Opened). x.shard) h.opened (o ∷ []) ∙ ap (λ ns. ns ++ o.shard ∷ []) h.shards ∙ ap (λ n. covered_below y only place s ++ n ∷ []) at ∙ ap (λ a. covered_below y only place s ++ shard_if s a) (sym asked);
        each = λ x m. by x (IsIn-append_cases h.opened (o ∷ []) x m);
        joined_are = ap (λ js. js ++ cons_option (joined_shard o) []) h.joined_are ∙ sym (filter_map-append joined_shard h.opened (o ∷ []));
        ran = subst (λ es. Ran state old es new) (ap (λ es. flat_map (λ (x : Opened). x.added) h.opened ++ es) (sym (append-nil o.added)) ∙ sym (flat_map-append (λ (x : Opened). x.added) h.opened (o ∷ [])))
            (ran_then state (flat_map (λ (x : Opened). x.added) h.opened) o.added old mid new h.ran ran);
      })
    where
      by : (x : Opened) → IsIn h.opened x ⊎ IsIn (o ∷ []) x → IsOpened place y x
      by x (inl m) = h.each x m
      by x (inr (inl e)) = subst (IsOpened place y) e is
      by x (inr (inr none)) = absurd none

  same_below : (s : ℕ) (joined : List JoinedOf) (old mid new : Tracked D) → asked_at y only place s ≡ None → new ≡ mid → AreOpenedBelow state y only place s joined old mid → AreOpenedBelow state y only place (s + 1) joined old new
  same_below s joined old mid new none same h =
      let next : suc s ≡ s + 1 = omega arith in
      subst (λ k. AreOpenedBelow state y only place k joined old new) next (record {
        opened = h.opened;
        shards = h.shards ∙ sym (append-nil (covered_below y only place s)) ∙ ap (λ a. covered_below y only place s ++ shard_if s a) (sym none);
        each = h.each;
        joined_are = h.joined_are;
        ran = subst (Ran state old (flat_map (λ (x : Opened). x.added) h.opened)) (sym same) h.ran;
      })

  named : (j : JoinedOf) (s : ℕ) → j.shard ≡ s → record { shard = s; source = j.source; peers = j.peers } ≡ j
  named j s is = ap (λ n. record { shard = n; source = j.source; peers = j.peers }) (sym is)

  -- with one more shard
  pub opened_more : (s : ℕ) (joined : List JoinedOf) (old mid new : Tracked D) (o : Option JoinedOf) → AreOpenedBelow state y only place s joined old mid → IsShardTried state y only place s mid new (Ok o)
      → AreOpenedBelow state y only place (s + 1) (joined ++ newly o) old new
  opened_more s joined old mid new o h tried = by (asked_at y only place s) refl o tried
    where
      by : (a : Option Assignment) → asked_at y only place s ≡ a → (o : Option JoinedOf) → IsTriedAt state y place s a mid new (Ok o) → AreOpenedBelow state y only place (s + 1) (joined ++ newly o) old new
      by None none o t =
          let same : o ≡ None = cc in
          subst (λ js. AreOpenedBelow state y only place (s + 1) js old new) (sym (append-nil joined) ∙ ap (λ x. joined ++ newly x) (sym same)) (same_below s joined old mid new none t.1 h)
      by (Some own) asked None t =
          with_one s joined old mid new (record { shard = s; joined = None; added = t.2.0 }) own asked refl (subst (λ n. StaysAsItWas place s n t.2.0) t.1 t.2.1) h t.2.2
      by (Some own) asked (Some j) t =
          let o : Opened = record { shard = s; joined = Some (join_of j); added = t.2.1 } in
          subst (λ x. AreOpenedBelow state y only place (s + 1) (joined ++ cons_option (Some x) []) old new) (named j s t.2.0)
          (with_one s joined old mid new o own asked refl (subst (λ n. HasJoinedBy place s n (join_of j) t.2.1) t.1 t.2.2) h t.2.3)

  -- it ended at this shard
  pub opened_end : (s : ℕ) (joined : List JoinedOf) (old mid new : Tracked D) (e : OpenErr) → s < length place.shards → AreOpenedBelow state y only place s joined old mid → IsShardTried state y only place s mid new (Err e) → AreTried state y only place old new (Err e)
  opened_end s joined old mid new e low h tried = inr (by (asked_at y only place s) refl tried)
    where
      by : (a : Option Assignment) → asked_at y only place s ≡ a → IsTriedAt state y place s a mid new (Err e) → IsEndedAt state y only place e old new
      by None none t = absurd (never_both e None t.0)
      by (Some own) asked t = record { shard = s; below = low; joined = joined; mid = mid; before = h; own = own; asked = asked; among = t.0; of_node = t.1; tried = t.2 }

-- ---- which shards these are

module _ (y : ℕ) (only : Option ℕ) (place : Placement) where
  if_asked : (s q : ℕ) (o : Option Assignment) → asked_at y only place s ≡ o → IsIn (shard_if s o) q → (s ≡ q) × ((a : Assignment) × (asked_at y only place s ≡ Some a))
  if_asked s q None is m = absurd m
  if_asked s q (Some a) is (inl e) = (e, (a, is))
  if_asked s q (Some a) is (inr none) = absurd none

  asked_parts : (s : ℕ) (a : Assignment) → asked_at y only place s ≡ Some a → (is_covering s only ≡ true) × (assignment_in y (shard_at place s) ≡ Some a)
  asked_parts s a is = by (is_covering s only) refl is
    where
      by : (b : Bool) → is_covering s only ≡ b → (if b then assignment_in y (shard_at place s) else None) ≡ Some a → (is_covering s only ≡ true) × (assignment_in y (shard_at place s) ≡ Some a)
      by true c e = (c, e)
      by false c e = let clash : None ≡ Some a = e in cc

  node_in : (shard : Shard) (a : Assignment) → IsIn shard a → a.node ≡ y → IsIn (nodes_of shard) y
  node_in [] a m is = absurd m
  node_in (b ∷ shard) a (inl e) is = inl (ap (λ (x : Assignment). x.node) e ∙ is)
  node_in (b ∷ shard) a (inr m) is = inr (node_in shard a m is)

  -- each is asked for, and the node has it
  pub covered_is : (n q : ℕ) → IsIn (covered_below y only place n) q → (q < n) × ((is_covering q only ≡ true) × IsIn (nodes_of (shard_at place q)) y)
  covered_is zero q m = absurd m
  covered_is (suc n) q m = by (covered_is n q) (IsIn-append_cases (covered_below y only place n) (shard_if n (asked_at y only place n)) q m)
    where
      by : (IsIn (covered_below y only place n) q → (q < n) × ((is_covering q only ≡ true) × IsIn (nodes_of (shard_at place q)) y)) → IsIn (covered_below y only place n) q ⊎ IsIn (shard_if n (asked_at y only place n)) q → (q < suc n) × ((is_covering q only ≡ true) × IsIn (nodes_of (shard_at place q)) y)
      by before (inl m) = let h = before m in let low = h.0 in (omega (arith, low), h.1)
      by before (inr m) =
          let h = if_asked n q (asked_at y only place n) refl m in
          let same = h.0 in
          let parts = asked_parts n h.1.0 h.1.1 in
          let own = assignment_is y (shard_at place n) h.1.0 parts.1 in
          (omega (arith, same), subst (λ k. (is_covering k only ≡ true) × IsIn (nodes_of (shard_at place k)) y) same (parts.0, node_in (shard_at place n) h.1.0 own.0 own.1))

  -- and each such shard is among them
  pub is_covered : (n q : ℕ) → q < n → is_covering q only ≡ true → IsIn (nodes_of (shard_at place q)) y → IsIn (covered_below y only place n) q
  is_covered zero q low covers m = absurd (omega (arith, low))
  is_covered (suc n) q low covers m = by (λ less. is_covered n q less covers m) (nat_eq q n) refl
    where
      by : (q < n → IsIn (covered_below y only place n) q) → (b : Bool) → nat_eq q n ≡ b → IsIn (covered_below y only place n ++ shard_if n (asked_at y only place n)) q
      by before true same =
          let at : q ≡ n = eqb-true q n same in
          let found = assignment_found y (shard_at place q) m in
          let asked : asked_at y only place q ≡ Some found.0 = ap (λ t. if t then assignment_in y (shard_at place q) else None) covers ∙ found.1 in
          IsIn-append_right (covered_below y only place n) (shard_if n (asked_at y only place n)) q
          (subst (λ k. IsIn (shard_if k (asked_at y only place k)) q) at (subst (λ o. IsIn (shard_if q o) q) (sym asked) (inl refl)))
      by before false other =
          let apart : q ≢ n = λ e. let clash : true ≡ false = sym (eq-eqb q n e) ∙ other in cc in
          IsIn-append_left (covered_below y only place n) (shard_if n (asked_at y only place n)) q (before (omega (arith, low, apart)))

  ascends_last : (xs ys : List ℕ) → Ascends (λ a b. a < b) xs → Ascends (λ a b. a < b) ys → ((x z : ℕ) → IsIn xs x → IsIn ys z → x < z) → Ascends (λ a b. a < b) (xs ++ ys)
  ascends_last [] ys g h below = h
  ascends_last (x ∷ xs) ys g h below = (λ z m. by z (IsIn-append_cases xs ys z m), ascends_last xs ys g.1 h (λ a b m n. below a b (inr m) n))
    where
      by : (z : ℕ) → IsIn xs z ⊎ IsIn ys z → x < z
      by z (inl m) = g.0 z m
      by z (inr m) = below x z (inl refl) m

  one_ascends : (s : ℕ) (o : Option Assignment) → Ascends (λ a b. a < b) (shard_if s o)
  one_ascends s None = tt
  one_ascends s (Some a) = (λ z m. absurd m, tt)

  -- by number
  pub covered_ascend : (n : ℕ) → Ascends (λ a b. a < b) (covered_below y only place n)
  covered_ascend zero = tt
  covered_ascend (suc n) =
      ascends_last (covered_below y only place n) (shard_if n (asked_at y only place n)) (covered_ascend n) (one_ascends n (asked_at y only place n))
      (λ x z m k. let low = (covered_is n x m).0 in let same = (if_asked n z (asked_at y only place n) refl k).0 in omega (arith, low, same))
