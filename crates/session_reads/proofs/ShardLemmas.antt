-- The read of one shard, from its start to its end.
use Rattle.std.proofs.Common.{◌≡◌, ℕ, zero, suc, ◌<◌, ◌≤◌, List, [], ◌∷◌, ◌++◌, map, length, take, drop, refl, sym, ap, ◌∙◌, subst, inl, inr, arith, append_assoc, IsPermutation, swap}
use Rattle.std.specs.Prelude.{◌≢◌, ◌⊎◌, Some, Result, Ok, Err, IfOk, IfErr, slice_get, slice_index_or, nat_le, filter}
use Rattle.std.specs.Cmp.{tied_itself}
use Rattle.std.specs.List.{All, Any}
use Rattle.std.specs.Result.{IsErrAnd}
use Rattle.std.proofs.lemmas.Result.{err_from_is_err_and}
use Rattle.std.specs.declared.cmp.Ordering.TheVariants.{Less, Equal}
use Rattle.std.proofs.lemmas.Bool.{leb-true, leb-false}
use Rattle.std.proofs.lemmas.Cmp.{nat_list_cmp_total}
use Rattle.std.proofs.lemmas.List.Edits.{length-swap}
use Rattle.std.proofs.lemmas.List.Sorted.{IsPermutation-keeps}
use Rattle.m3_model.specs.Ascends.{Ascends}
use Rattle.m3_model.specs.Contents.{Holds, content_of}
use Rattle.m3_model.specs.Members.{IsIn}
use Rattle.m3_model.specs.Reads.{Covers, IsOrdered, points_in, space_picked}
use Rattle.m3_model.specs.Tags.{IsBelow}
use Rattle.m3_model.specs.declared.act.Fate.{Fate}
use Rattle.m3_model.specs.declared.act.Fate.TheVariants as fate
use Rattle.m3_model.specs.declared.placement.Assignment.{Assignment}
use Rattle.m3_model.specs.declared.placement.Instance.{Instance}
use Rattle.m3_model.specs.declared.placement.Placement.{Placement}
use Rattle.m3_model.specs.declared.point.Point.{Point}
use Rattle.m3_model.specs.declared.point.Series.{Series}
use Rattle.m3_model.specs.declared.reason.Reason.{Reason}
use Rattle.m3_model.specs.declared.reason.Reason.TheVariants as reason
use Rattle.m3_model.specs.declared.rules.MetaState.{MetaState}
use Rattle.m3_model.proofs.MemberLemmas.{IsIn-append_left, IsIn-append_right, IsIn-map, map-IsIn}
use Rattle.m3_outside.specs.DiskState.{DiskState}
use Rattle.session_net.specs.cluster_core.Answers.{IsJoin}
use Rattle.session_net.specs.cluster_core.Earlier.{HasShard, PlacesShard, CountsNodes, GaveAnswer}
use Rattle.session_net.specs.cluster_core.Legal.{EachAnswered, IsFetched}
use Rattle.session_net.specs.cluster_core.Lists.{At}
use Rattle.session_net.specs.cluster_core.declared.event.Event.{Event}
use Rattle.session_net.specs.cluster_core.declared.event.Event.TheVariants as event
use Rattle.session_net.specs.cluster_core.declared.event.StepCall.{StepCall}
use Rattle.session_net.specs.cluster_core.declared.event.StepReply.TheVariants as reply
use Rattle.session_net.proofs.cluster_core_proofs.ExtendLemmas.{at_last}
use Rattle.session_net.proofs.cluster_core_proofs.ListLemmas.{at_append, at_some, some_same}
use Rattle.session_net.specs.net_plan.Fates.{FateMap}
use Rattle.session_net.specs.placement_core.NodeNames.{IsNamedBelow}
use Rattle.session_net.specs.placement_core.Shards.{Shard, shard_at, nodes_of, counted, is_available}
use Rattle.session_net.proofs.placement_core_proofs.ListLemmas.{IsIn-from_index, index-from_IsIn, Any-from_IsIn, All-from_each, IsIn-filter}
use Rattle.session_net.proofs.placement_core_proofs.OrderLemmas.{came}
use Rattle.session_net.specs.replica_exchange.declared.call_id.CallId.{CallId}
use Rattle.session_net.specs.Calls.{Tracked}
use Rattle.session_net.specs.Messages.{IsDelivery, IsHeard, Heard, AreHeard, fate_to}
use Rattle.session_net.specs.Outcomes.{AreCountedOnce, told_of, answering, refusing, IsShortOf}
use Rattle.session_net.specs.Reads.{Wish, AreForms, read_of, start_of}
use Rattle.session_net.specs.Ready.{IsCallable}
use Rattle.session_net.specs.Runs.{Ran}
use Rattle.session_net.specs.declared.session_err.SessionErr.{SessionErr}
use Rattle.session_net.specs.declared.session_err.SessionErr.TheVariants as err
use Rattle.session_net.proofs.ReadyLemmas.{any_after, placed_there}
use Rattle.session_net.proofs.RunLemmas.{ran_then}
use Rattle.series_merge.proofs.OrderLemmas.{content_in, ordered_has}
use Rattle.session_reads.specs.Gathering.{IsContentOf, WereAsked, IsShardRead, IsHalfRead, IsUnread}
use Rattle.session_reads.specs.declared.shard.Gave.{Gave}
use Rattle.session_reads.proofs.AskLemmas.{answers_of}

-- ---- the nodes that count

-- an exchange brings no new element
swap_in : (xs : List ℕ) (i j n : ℕ) → i < length xs → j < length xs → IsIn (swap xs i j) n → IsIn xs n
swap_in xs i j n li lj h =
    let at = index-from_IsIn (swap xs i j) n h in
    let size = length-swap xs i j in
    let from = came xs i j at.0 n li lj (omega (arith, at.1, size)) in
    subst (IsIn xs) (sym from.3 ∙ at.2 n) (IsIn-from_index xs from.0 n from.1)

-- a list in another order has the same elements
permuted-IsIn : (xs ys : List ℕ) → IsPermutation xs ys → (n : ℕ) → IsIn ys n → IsIn xs n
permuted-IsIn xs ys p = IsPermutation-keeps xs (λ l. (n : ℕ) → IsIn l n → IsIn xs n) (λ n h. h) (λ l i j li lj keeps n h. keeps n (swap_in l i j n li lj h)) ys p

counted_in : (place : Placement) (s : ℕ) (nodes : List ℕ) → AreCountedOnce place s nodes → (n : ℕ) → IsIn nodes n → IsIn (counted (shard_at place s)) n
counted_in place s nodes h n m = permuted-IsIn (counted (shard_at place s)) nodes h.same n m

-- each has a replica of the shard
pub counted_member : (place : Placement) (s : ℕ) (nodes : List ℕ) → AreCountedOnce place s nodes → (n : ℕ) → IsIn nodes n → IsIn (nodes_of (shard_at place s)) n
counted_member place s nodes h n m =
    let from = IsIn-map (λ (a : Assignment). a.node) (filter is_available (shard_at place s)) n (counted_in place s nodes h n m) in
    subst (IsIn (nodes_of (shard_at place s))) from.2 (map-IsIn (λ (a : Assignment). a.node) (shard_at place s) from.0 (IsIn-filter is_available (shard_at place s) from.0 from.1))

one_instance : (a b : Instance) → Some a ≡ Some b → a ≡ b
one_instance a b e = cc

-- a node isn't below itself by name
not_below : (place : Placement) (a b : ℕ) → IsNamedBelow place a b → a ≢ b
not_below place a b below same =
    let one_is : below.one ≡ below.other = one_instance below.one below.other (sym below.of_one ∙ ap (slice_get place.instances) same ∙ below.of_other) in
    let itself : IsBelow below.other.name below.other.name = subst (λ (x : Instance). IsBelow x.name below.other.name) one_is below.below in
    let tied = tied_itself nat_list_cmp_total below.other.name in
    let bad : Less ≡ Equal = sym itself ∙ tied in cc

-- ---- who answered

answering_in : (heard : List (Heard (List Series))) (n : ℕ) → IsIn (answering (map told_of heard)) n → IsIn (map (λ (x : Heard (List Series)). x.0) heard) n
answering_in [] n h = absurd h
answering_in ((m, Ok series) ∷ heard) n h = elim h as (λ _. (m ≡ n) ⊎ IsIn (map (λ (x : Heard (List Series)). x.0) heard) n) [ inl e ↦ inl e | inr r ↦ inr (answering_in heard n r) ]
answering_in ((m, Err why) ∷ heard) n h = inr (answering_in heard n h)

answering_ascend : (R S : ℕ → ℕ → Type 0) → ((a b : ℕ) → R a b → S a b) → (heard : List (Heard (List Series))) → Ascends R (map (λ (x : Heard (List Series)). x.0) heard) → Ascends S (answering (map told_of heard))
answering_ascend R S each [] h = tt
answering_ascend R S each ((m, Ok series) ∷ heard) h = (λ n i. each m n (h.0 n (answering_in heard n i)), answering_ascend R S each heard h.1)
answering_ascend R S each ((m, Err why) ∷ heard) h = answering_ascend R S each heard h.1

module _ (state : MetaState) (fates : FateMap) (id : CallId) (w : Wish) (s : ℕ) where
  abbrev asked : StepCall
  asked = read_of id state.rules state.place.version w

  -- each node that was asked was heard
  heard_nodes : (nodes : List ℕ) (heard : List (Heard (List Series))) (reads : List Event) → AreHeard reply.Found fates id s asked nodes heard reads → map (λ (x : Heard (List Series)). x.0) heard ≡ nodes
  heard_nodes [] [] reads h = refl
  heard_nodes [] (x ∷ heard) reads h = absurd h
  heard_nodes (n ∷ nodes) [] reads h = absurd h
  heard_nodes (n ∷ nodes) (x ∷ heard) reads h = ap (λ m. m ∷ map (λ (x : Heard (List Series)). x.0) heard) h.0 ∙ ap (λ ns. n ∷ ns) (heard_nodes nodes heard h.2 h.5)

  delivered_step : (n : ℕ) (series : List Series) (events : List Event) → IsDelivery reply.Found n s asked (Ok series) events → IsIn events (event.Step n s asked (reply.Found series))
  delivered_step n series events is = subst (λ es. IsIn es (event.Step n s asked (reply.Found series))) (sym is) (inr (inl refl))

  -- an answer is that of a step
  heard_step : (f : Fate) (n : ℕ) (series : List Series) (events : List Event) → IsHeard reply.Found f n s asked (Ok series) events → IsIn events (event.Step n s asked (reply.Found series))
  heard_step fate.Lose n series events h = let clash : Ok series ≡ Err reason.Cut = h.0 in cc
  heard_step fate.Late n series events h = let clash : Ok series ≡ Err reason.Cut = h.0 in cc
  heard_step fate.Deliver n series events h = delivered_step n series events h
  heard_step fate.Twice n series events h = subst (λ es. IsIn es (event.Step n s asked (reply.Found series))) (sym h.are) (IsIn-append_left h.heard h.unheard _ (delivered_step n series h.heard h.first))

  each_answered : (since : List Event) (nodes : List ℕ) (heard : List (Heard (List Series))) (reads : List Event) → ((e : Event) → IsIn reads e → IsIn since e) → AreHeard reply.Found fates id s asked nodes heard reads
      → EachAnswered since (start_of state w s) (answering (map told_of heard)) (answers_of heard)
  each_answered since [] [] reads all h = tt
  each_answered since [] (x ∷ heard) reads all h = absurd h
  each_answered since (n ∷ nodes) [] reads all h = absurd h
  each_answered since (n ∷ nodes) ((m, Err why) ∷ heard) reads all h =
      each_answered since nodes heard h.2 (λ e i. all e (subst (λ es. IsIn es e) (sym h.3) (IsIn-append_right h.1 h.2 e i))) h.5
  each_answered since (n ∷ nodes) ((m, Ok series) ∷ heard) reads all h =
      let step : Event = event.Step n s asked (reply.Found series) in
      let there : IsIn since step = all step (subst (λ es. IsIn es step) (sym h.3) (IsIn-append_left h.1 h.2 step (heard_step (fate_to fates id n) n series h.1 h.4))) in (
        subst (λ k. Any (GaveAnswer k (start_of state w s) series) since) (sym h.0) (Any-from_IsIn (GaveAnswer n (start_of state w s) series) since step there (refl, refl, refl, refl, refl, refl, refl, refl)),
        each_answered since nodes heard h.2 (λ e i. all e (subst (λ es. IsIn es e) (sym h.3) (IsIn-append_right h.1 h.2 e i))) h.5,
      )

-- ---- the join

-- what an ordered list stands for is covered by its points
pub held_covered : (ns : ℕ) (series : List Series) (p : Point) → Holds (content_of (points_in ns series)) p → Covers (points_in ns series) p
held_covered ns series p holds = record { value = holds.value; at_least = holds.at_least; stands = content_in (points_in ns series) (record p { v = holds.value }) holds.stands }

-- series that stand for answers are their join
pub joined_answers : (ns : ℕ) (answers : List (List Series)) (series : List Series) → IsContentOf ns answers (content_of (points_in ns series)) → IsOrdered series → IsJoin ns answers series
joined_answers ns answers series content ordered = record {
  nothing_else = All-from_each (λ p. Any (λ answer. IsIn (points_in ns answer) p) answers) (points_in ns series)
      (λ p m. let found = content.nothing_else p (ordered_has ns series p ordered m) in Any-from_IsIn (λ answer. IsIn (points_in ns answer) p) answers found.0 found.1 found.2);
  all_there = All-from_each (λ answer. All (λ p. Covers (points_in ns series) p) (points_in ns answer)) answers
      (λ answer m. All-from_each (λ p. Covers (points_in ns series) p) (points_in ns answer) (λ p here. held_covered ns series p (content.covers answer m p here)));
  ordered = ordered;
}

-- ---- in the list

drop_past : {X : Type 0} (xs : List X) (x : X) (ys : List X) → drop (suc (length xs)) (xs ++ x ∷ ys) ≡ ys
drop_past [] x ys = refl
drop_past (z ∷ xs) x ys = drop_past xs x ys

-- the shard has a Place
pub has_shard : {D : Type 0} (state : MetaState) (old : Tracked D) (s : ℕ) → IsCallable state old [] → s < length state.place.shards → HasShard old.events state.place.version s
has_shard state old s ready below = let there = at_some state.place.shards s below in placed_there (PlacesShard state.place.version s) old.events state.place ready.place (λ done. (refl, there.0, there.1))

shard_same : {X : Type 0} (xs : List X) (s : ℕ) (x d : X) → slice_get xs s ≡ Some x → slice_index_or xs s d ≡ x
shard_same [] s x d e = cc
shard_same (y ∷ ys) zero x d e = some_same y x e
shard_same (y ∷ ys) (suc s) x d e = shard_same ys s x d e

module _ {D : Type 0} (disk : D → DiskState) (state : MetaState) (fates : FateMap) (id : CallId) (w : Wish) (s : ℕ) (nodes : List ℕ) (old mid after : Tracked D) (heard : List (Heard (List Series))) (ready : IsCallable state old []) (within : s < length state.place.shards)
    (counts : AreCountedOnce state.place s nodes) (began : Ran disk old (start_of state w s ∷ []) mid) (told : WereAsked disk fates id s (read_of id state.rules state.place.version w) nodes heard mid after) where
  -- its start and what came of it
  ran_start : Ran disk old (start_of state w s ∷ told.reads) after
  ran_start = ran_then disk (start_of state w s ∷ []) told.reads old mid after began told.ran

  events_are : after.events ≡ old.events ++ start_of state w s ∷ told.reads
  events_are = ran_start.grew

  start_at : At after.events (length old.events) (start_of state w s)
  start_at =
      subst (λ es. At es (length old.events) (start_of state w s)) (append_assoc old.events (start_of state w s ∷ []) told.reads ∙ sym events_are)
      (at_append (old.events ++ start_of state w s ∷ []) told.reads (length old.events) (start_of state w s) (at_last old.events (start_of state w s)))

  counted_then : (some : List ℕ) → ((n : ℕ) → IsIn some n → IsIn nodes n) → Any (CountsNodes state.place.version s some) after.events
  counted_then some sub =
      let there = at_some state.place.shards s within in
      any_after disk (CountsNodes state.place.version s some) old after (start_of state w s ∷ told.reads) ran_start
      (placed_there (CountsNodes state.place.version s some) old.events state.place ready.place
      (λ done. (refl, there.0, there.1, All-from_each (λ n. IsIn (counted there.0) n) some (λ n m. subst (λ (shard : Shard). IsIn (counted shard) n) (shard_same state.place.shards s there.0 [] there.1) (counted_in state.place s nodes counts n (sub n m))))))

  -- those that answered may be named by its end
  pub may_end : (position : ℕ) → position ≡ length old.events → (answered : List ℕ) → answered ≡ answering (map told_of heard) → (series : List Series) → IsJoin (space_picked w.pick) (answers_of heard) series → IsFetched after.events position answered series
  may_end position is answered are series joined =
      let who : List ℕ = answering (map told_of heard) in
      let same = heard_nodes state fates id w s nodes heard told.reads told.are in
      subst (λ ns. IsFetched after.events position ns series) (sym are) (
        start_of state w s,
        subst (λ k. At after.events k (start_of state w s)) (sym is) start_at,
        (
          answering_ascend (IsNamedBelow state.place) ◌≢◌ (not_below state.place) heard (subst (Ascends (IsNamedBelow state.place)) (sym same) (counts.by_name ready.lawful)),
          counted_then who (λ n m. subst (λ ns. IsIn ns n) same (answering_in heard n m)),
          record {
            answers = answers_of heard;
            answered = subst (λ es. EachAnswered es (start_of state w s) who (answers_of heard))
                (sym (ap (λ k. drop (suc k) after.events) is ∙ ap (drop (suc (length old.events))) events_are ∙ drop_past old.events (start_of state w s) told.reads))
                (each_answered state fates id w s told.reads nodes heard told.reads (λ e m. m) told.are);
            joined = joined;
          },
        ),
      )

  module _ (forms : AreForms heard) (series : List Series) (content : IsContentOf (space_picked w.pick) (answers_of heard) (content_of (points_in (space_picked w.pick) series))) (ordered : IsOrdered series)
      (answered : List ℕ) (reasons : List (ℕ × Reason)) (answered_are : answered ≡ answering (map told_of heard)) (reasons_are : reasons ≡ refusing (map told_of heard)) (position : ℕ) (is : position ≡ length old.events) where
    joined_here : IsJoin (space_picked w.pick) (answers_of heard) series
    joined_here = joined_answers (space_picked w.pick) (answers_of heard) series content ordered

    pub may_end_so : IsFetched after.events position answered series
    may_end_so = may_end position is answered answered_are series joined_here

    module _ (new : Tracked D) (needed most : ℕ) where
      -- it ended
      pub ended : (result : Result Gave SessionErr) → IfOk result (λ gave. (gave.series ≡ series) × (needed ≤ length answered) × (gave.whole ≡ nat_le most (length answered)) × Ran disk after (event.FetchDone position answered gave.series ∷ []) new)
          → IfOk result (λ gave. IsShardRead disk state fates id w s needed most gave.series gave.whole old new)
      ended (Ok gave) h = record {
        read = record { begun = length old.events; nodes = nodes; heard = heard; reads = told.reads; series = gave.series };
        asked = record { counted = counts; heard = told.are; forms = forms };
        ended = record { begun = refl; enough = subst (λ ns. needed ≤ length ns) answered_are h.1; joined = subst (IsJoin (space_picked w.pick) (answers_of heard)) (sym h.0) joined_here };
        series_are = refl;
        all_whole = λ e. subst (λ ns. most ≤ length ns) answered_are (leb-true most (length answered) (sym h.2 ∙ e));
        fewer = λ e. subst (λ ns. length ns < most) answered_are (leb-false most (length answered) (sym h.2 ∙ e));
        ran = subst (λ ns. Ran disk old (start_of state w s ∷ (told.reads ++ event.FetchDone (length old.events) ns gave.series ∷ [])) new) answered_are
            (subst (λ k. Ran disk old (start_of state w s ∷ (told.reads ++ event.FetchDone k answered gave.series ∷ [])) new) is
            (ran_then disk (start_of state w s ∷ told.reads) (event.FetchDone position answered gave.series ∷ []) old after new ran_start h.3));
      }
      ended (Err e) h = h

      -- or it didn't
      pub unended : (result : Result Gave SessionErr) → IfErr result (λ e. IsShortOf needed s answered reasons e × (new ≡ after)) → IfErr result (IsUnread disk state fates id w s needed old new)
      unended (Ok gave) h = h
      unended (Err e) h = short_by e h.0
        where
          short_by : (e : SessionErr) → IsShortOf needed s answered reasons e → IsUnread disk state fates id w s needed old new e
          short_by (err.Consistency shard due got others) short = record {
            read = record { begun = length old.events; nodes = nodes; heard = heard; reads = told.reads; series = [] };
            is = record { counted = counts; heard = told.are; forms = forms };
            too_few = record {
              shard_is = short.0;
              needed_is = short.1;
              got_is = short.2 ∙ ap length answered_are;
              fewer = short.3;
              reasons_are = short.4 ∙ reasons_are;
            };
            ran = subst (λ t. Ran disk old (start_of state w s ∷ told.reads) t) (sym h.1) ran_start;
          }
          short_by err.Memory short = absurd short
          short_by err.Full short = absurd short

-- some first nodes were asked, and memory was wanted
pub half_read : {D : Type 0} (disk : D → DiskState) (state : MetaState) (fates : FateMap) (id : CallId) (w : Wish) (s k : ℕ) (nodes : List ℕ) (old mid new : Tracked D) (heard : List (Heard (List Series))) → AreCountedOnce state.place s nodes → Ran disk old (start_of state w s ∷ []) mid
    → WereAsked disk fates id s (read_of id state.rules state.place.version w) (take k nodes) heard mid new → IsHalfRead disk state fates id w s old new
half_read disk state fates id w s k nodes old mid new heard counts began told = record {
  read = record { begun = length old.events; nodes = nodes; heard = heard; reads = told.reads; series = [] };
  k = k;
  is = record { counted = counts; heard = told.are };
  ran = ran_then disk (start_of state w s ∷ []) told.reads old mid new began told.ran;
}

-- an error that is passed on
pub passed_on : {T E : Type 0} (r : Result T E) (x : E) (P : E → Type 0) → IsErrAnd r (λ e. e ≡ x) → P x → IfErr r P
passed_on {T} {E} r x P is p = let q = err_from_is_err_and r is in subst (λ (s : Result T E). IfErr s P) (sym q.1) (subst P (sym q.2) p)
