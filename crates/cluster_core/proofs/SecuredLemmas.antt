-- Reads hold what is secured, and each majority of the holders does.
use Rattle.std.proofs.Common.{◌≡◌, ℕ, zero, suc, ◌<◌, ◌≤◌, List, [], ◌∷◌, take, length, refl, sym, subst, inl, inr, arith, true}
use Rattle.std.specs.Prelude.{◌⊎◌, Some}
use Rattle.std.proofs.lemmas.Bool.{cases_lt}
use Rattle.std.specs.List.{All}
use Rattle.m3_model.specs.Members.{IsIn}
use Rattle.placement_core.proofs.ListLemmas.{each-from_All}
use Rattle.m3_model.specs.Reads.{Covers, Matches, InRange, points_in, space_picked}
use Rattle.m3_model.specs.declared.point.Point.{Point}
use Rattle.m3_model.specs.declared.point.Pick.{Pick}
use Rattle.m3_model.specs.declared.point.Series.{Series}
use Rattle.m3_model.specs.declared.rules.Rules.{Rules}
use Rattle.m3_model.specs.declared.placement.Placement.{Placement}
use Rattle.cluster_core.specs.declared.event.StepCall.TheVariants as call
use Rattle.cluster_core.specs.declared.event.StepReply.TheVariants as reply
use Rattle.cluster_core.specs.declared.event.Event.{Event}
use Rattle.cluster_core.specs.declared.event.Event.TheVariants as event
use Rattle.m3_model.specs.Levels.{majority}
use Rattle.placement_core.specs.Majorities.{IsMajority}
use Rattle.placement_core.specs.Shards.{Shard, counted, holders}
use Rattle.placement_core.proofs.ChangeLemmas.{step_shard, step_counted}
use Rattle.placement_core.proofs.HolderLemmas.{counted_hold}
use Rattle.cluster_core.specs.Lists.{At}
use Rattle.cluster_core.specs.Replicas.{replica}
use Rattle.cluster_core.specs.Earlier.{last_place}
use Rattle.cluster_core.specs.Legal.{Legal, EachAnswered}
use Rattle.cluster_core.specs.Core.{Opening, AgreesWith, KeptByOpening, IsAckedBefore, IsSecured, IsLiveUpTo, held, held_by}
use Rattle.std.proofs.Common.{drop}
use Rattle.cluster_core.proofs.ListLemmas.{at_take, at_same}
use Rattle.cluster_core.proofs.PastLemmas.{PutAt, ReadAt, FetchAt, put_at, read_at, shard_at, counted_at, clock_at}
use Rattle.cluster_core.proofs.QuorumLemmas.{meet}
use Rattle.cluster_core.proofs.ShardLemmas.{few_hold}
use Rattle.cluster_core.proofs.TraceLemmas.{lawful_step, lawful_ack, lawful_start, replica_suc, not_gone, fence_grows}
use Rattle.cluster_core.proofs.HeldLemmas.{HoldsBy, holds_grows, holds_sure, put_holds, put_before, found_covers, covers_lower}
use Rattle.cluster_core.proofs.PlaceLemmas.{IsAt, at_sound, at_place, at_shard, at_counted, at_version}
use Rattle.cluster_core.proofs.MoveLemmas.{Kept, keeps, joined_step, stale, majority_of, begin_above}

-- one answer of each node
pub read_of : (past : List Event) (start s version : ℕ) (rules : Rules) (pick : Pick) (from to : ℕ) (nodes : List ℕ) (answers : List (List Series)) (n : ℕ)
    → EachAnswered (drop (suc start) past) (event.FetchStart version s rules pick from to) nodes answers → IsIn nodes n → (answer : List Series) × IsIn answers answer × ReadAt past start n s version rules pick from to answer
read_of past start s version rules pick from to [] [] n each h = absurd h
read_of past start s version rules pick from to [] (answer ∷ answers) n each h = absurd h
read_of past start s version rules pick from to (m ∷ nodes) [] n each h = absurd each
read_of past start s version rules pick from to (m ∷ nodes) (answer ∷ answers) n each h =
    elim h as (λ _. (b : List Series) × ((answer ≡ b) ⊎ IsIn answers b) × ReadAt past start n s version rules pick from to b) [
      | inl e ↦ (answer, inl refl, subst (λ k. ReadAt past start k s version rules pick from to answer) e (read_at past start m s version rules pick from to answer each.0))
      | inr r ↦ let l = read_of past start s version rules pick from to nodes answers n each.1 r in (l.0, inr l.1, l.2)
    ]

-- a point that a majority of those that count at one version took
pub record Taken (events : List Event) (rf before s : ℕ) (p : Point) : Type 0 where
  pub version : ℕ
  pub z : ℕ
  pub shard : Shard
  pub nodes : List ℕ
  pub one : 1 ≤ z
  pub early : z ≤ before
  pub placed : IsAt events s z version shard
  pub counts : IsMajority rf (counted shard) nodes
  pub put : (n : ℕ) → IsIn nodes n → (i client number : ℕ) × (rules : Rules) × (i < before) × At events i (event.Step n s (call.Put client number rules version p) reply.Done)

same_send : (v s v' s' : ℕ) (p p' : Point) → event.Send v s p ≡ event.Send v' s' p' → (v ≡ v') × (s ≡ s') × (p ≡ p')
same_send v s v' s' p p' e = let a : v ≡ v' = cc in let b : s ≡ s' = cc in let c : p ≡ p' = cc in (a, b, c)

module _ (events : List Event) (legal : Legal true events) (first : Placement) (done0 : List (ℕ × ℕ)) (there0 : At events 0 (event.Place first done0)) (o : Opening) (agrees : AgreesWith events o) where
  taken_by_put : (past : ℕ) (before s version : ℕ) (p : Point) (n : ℕ) → past < before → PutAt (take past events) n s version p
      → (i client number : ℕ) × (rules : Rules) × (i < before) × At events i (event.Step n s (call.Put client number rules version p) reply.Done)
  taken_by_put past before s version p n lt h =
      let t = at_take events h.position past (event.Step n s (call.Put h.client h.number h.rules version p) reply.Done) h.there in
      (h.position, h.client, h.number, h.rules, omega (arith, t.1), t.0)

  pub acked_taken : (before s : ℕ) (p : Point) → IsAckedBefore first.rf events before s p → Taken events first.rf before s p
  acked_taken before s p h =
      let ack = lawful_ack events legal h.position h.send h.nodes h.acked in
      let sent = at_take events h.send h.position (event.Send ack.version ack.s ack.point) ack.sent in
      let same = same_send ack.version ack.s h.version s ack.point p (at_same events h.send (event.Send ack.version ack.s ack.point) (event.Send h.version s p) sent.0 h.sent) in
      let placed = counted_at (take h.position events) ack.version ack.s h.nodes ack.counted in
      let at = at_counted events legal first done0 there0 h.position ack.s ack.version h.nodes placed in
      record {
        version = ack.version;
        z = suc placed.position;
        shard = placed.shard;
        nodes = h.nodes;
        one = omega arith;
        early = omega (arith, at.1, h.early);
        placed = subst (λ k. IsAt events k (suc placed.position) ack.version placed.shard) same.1 at.0;
        counts = record { distinct = ack.distinct; within = placed.within; enough = h.enough };
        put = λ n m. taken_by_put h.position before s ack.version p n h.early (subst (λ q. PutAt (take h.position events) n s ack.version q) same.2 (subst (λ k. PutAt (take h.position events) n k ack.version ack.point) same.1 (put_at (take h.position events) n ack.s ack.version ack.point (ack.taken n m))));
      }

  -- what was put holds from then on
  put_later : (s version before j n : ℕ) (p : Point) → before ≤ j → j ≤ length events
      → (i client number : ℕ) × (rules : Rules) × (i < before) × At events i (event.Step n s (call.Put client number rules version p) reply.Done) → HoldsBy events legal o agrees s j n p
  put_later s version before j n p le high h =
      holds_grows events legal o agrees n s (suc h.0) j p (omega (arith, h.4)) high (put_holds events legal o agrees n s h.0 h.1 h.2 version h.3 p h.5)

  -- what a majority took is kept from its version on
  pub acked_kept : (s before limit : ℕ) (p : Point) (high : limit ≤ length events) (live : IsLiveUpTo events limit p) (t : Taken events first.rf before s p)
      → (j : ℕ) → t.z ≤ j → j ≤ limit → (v : ℕ) (a : Shard) → IsAt events s j v a → Kept events legal first done0 there0 o agrees s p limit high live t.nodes j a
  acked_kept s before limit p high live t j from_z up v a at_j =
      keeps events legal first done0 there0 o agrees s p limit high live t.nodes t.z t.version t.shard t.one t.placed
      (λ members m.
      let sound = at_sound events legal first done0 there0 s t.z t.version t.shard t.one (omega arith) t.placed in
      let both = meet first.rf (holders t.shard) members t.nodes (few_hold first.rf t.version t.shard sound) m (majority_of first.rf (counted t.shard) (holders t.shard) t.nodes (λ n _ h. counted_hold t.shard n h) t.counts) in
      (both.0, both.1, inl both.2))
      (λ f lt n k h le fence.
      let w = t.put n h in
      let early = put_before events legal o agrees n s w.0 k w.1 w.2 t.version f w.3 p w.5 lt fence (omega arith) in
      holds_grows events legal o agrees n s (suc w.0) k p (omega (arith, early)) (omega arith) (put_holds events legal o agrees n s w.0 w.1 w.2 t.version w.3 p w.5))
      (λ k v b next to le bound at_k same end tenure_low kept joined members m.
      let sound = at_sound events legal first done0 there0 s k v b (omega (arith, t.one)) (omega arith) at_k in
      let within : (n : ℕ) → IsIn t.nodes n → IsIn (counted t.shard) n → IsIn (holders next) n =
      λ n _ h. step_counted first.rf v b next (Some to) sound end n (subst (λ c. IsIn (counted c) n) same h) in
      let both = meet first.rf (holders next) members t.nodes (few_hold first.rf (suc v) next (step_shard first.rf v b next (Some to) sound end)) m (majority_of first.rf (counted t.shard) (holders next) t.nodes within t.counts) in
      (both.0, both.1, inl both.2))
      j from_z up v a at_j

  module _ (g : List (Point × ℕ)) (kept_by : KeptByOpening o first g) where
    opening_holds : (s n : ℕ) (p : Point) → Covers (o n s) p → HoldsBy events legal o agrees s 1 n p
    opening_holds s n p c = subst (λ r. Covers (held_by (o n s) r r.begun) p) (sym (replica_suc events legal n s 0 (event.Place first done0) there0)) c

    -- what the opening keeps is kept
    pub given_kept : (s limit : ℕ) (p : Point) (high : limit ≤ length events) (live : IsLiveUpTo events limit p) → IsIn g (p, s)
        → (j : ℕ) → 1 ≤ j → j ≤ limit → (v : ℕ) (a : Shard) → IsAt events s j v a → Kept events legal first done0 there0 o agrees s p limit high live [] j a
    given_kept s limit p high live h j from_z up v a at_j =
        let k = kept_by (p, s) h in
        let base : Kept events legal first done0 there0 o agrees s p limit high live [] 1 k.0 = λ members m. let found = k.2 members m in (found.0, found.1, inr (opening_holds s found.0 p found.2)) in
        keeps events legal first done0 there0 o agrees s p limit high live [] 1 first.version k.0 (omega arith) (at_place events legal first done0 there0 0 s first done0 k.0 there0 k.1)
        base
        (λ f lt n i none le fence. absurd none)
        (λ k' v b next to le bound at_k same end tenure_low kept joined.
        joined_step events legal first done0 there0 o agrees s p limit high live [] 1 k' b next to (end.0).tenure le bound v (at_sound events legal first done0 there0 s k' v b le (omega arith) at_k) end
        (subst (Kept events legal first done0 there0 o agrees s p limit high live [] 1) same base) kept (λ n i none l f. absurd none) joined
        (λ q st.
        let up = begin_above events legal first done0 there0 o agrees s to (end.0).tenure st.begin st.begin_fence st.begin_points (at_take events st.begin k' (event.Step to s (call.Begin (end.0).tenure) (reply.Began st.begin_fence st.begin_points)) st.began).0 in
        omega (arith, up.3)))
        j from_z up v a at_j

    -- each majority of the holders has a node that holds each secured point
    pub stands : (i : ℕ) (place : Placement) → i ≤ length events → last_place (take i events) ≡ Some place → (s : ℕ) (shard : Shard) → At place.shards s shard
        → (p : Point) → IsLiveUpTo events i p → IsSecured first.rf g events i s p
        → (members : List ℕ) → IsMajority first.rf (holders shard) members → (n : ℕ) × IsIn members n × Covers (held o (take i events) n s) p
    stands zero place high last s shard h p live secured members m = cc
    stands (suc i) place high last s shard h p live secured members m =
        let at : IsAt events s (suc i) place.version shard = record { place = place; last = last; version_is = refl; shard_is = h } in
        elim secured as (λ _. (n : ℕ) × IsIn members n × HoldsBy events legal o agrees s (suc i) n p) [
          | inl given ↦
              let r = given_kept s (suc i) p high live given (suc i) (omega arith) (omega arith) place.version shard at members m in
              (r.0, r.1, elim r.2 as (λ _. HoldsBy events legal o agrees s (suc i) r.0 p) [ inl none ↦ absurd none | inr has ↦ has ])
          | inr acked ↦
              let t = acked_taken (suc i) s p acked in
              let r = acked_kept s (suc i) (suc i) p high live t (suc i) t.early (omega arith) place.version shard at members m in
              (r.0, r.1, elim r.2 as (λ _. HoldsBy events legal o agrees s (suc i) r.0 p) [ inl takes ↦ put_later s t.version (suc i) (suc i) r.0 p (omega arith) high (t.put r.0 takes) | inr has ↦ has ])
        ]

    -- a node that answered a fetch held each secured point when the fetch began
    asked_holds : (i start version s : ℕ) (shard : Shard) (p2 : ℕ) (nodes : List ℕ) (p : Point) → i ≤ length events → start < i → IsLiveUpTo events i p
        → IsAt events s (suc p2) version shard → p2 < start → IsMajority first.rf (counted shard) nodes
        → ((q : ℕ) → IsIn nodes q → version < (replica q s (take start events)).fence → ⊥)
        → IsSecured first.rf g events start s p → (n : ℕ) × IsIn nodes n × HoldsBy events legal o agrees s start n p
    asked_holds i start version s shard p2 nodes p high lt live at before m served secured =
        let keeping : IsMajority first.rf (holders shard) nodes = majority_of first.rf (counted shard) (holders shard) nodes (λ n _ h. counted_hold shard n h) m in
        elim secured as (λ _. (n : ℕ) × IsIn nodes n × HoldsBy events legal o agrees s start n p) [
          | inl given ↦
              let r = given_kept s i p high live given (suc p2) (omega arith) (omega arith) version shard at nodes keeping in
              (r.0, r.1, elim r.2 as (λ _. HoldsBy events legal o agrees s start r.0 p) [ inl none ↦ absurd none | inr has ↦ holds_grows events legal o agrees r.0 s (suc p2) start p (omega arith) (omega arith) has ])
          | inr acked ↦ of_taken (acked_taken start s p acked) keeping
        ]
      where
        of_taken : (t : Taken events first.rf start s p) → IsMajority first.rf (holders shard) nodes → (n : ℕ) × IsIn nodes n × HoldsBy events legal o agrees s start n p
        of_taken t keeping =
            elim (cases_lt (suc p2) t.z) as (λ _. (n : ℕ) × IsIn nodes n × HoldsBy events legal o agrees s start n p) [
              | inr ge ↦
                  let r = acked_kept s start i p high live t (suc p2) ge (omega arith) version shard at nodes keeping in
                  (r.0, r.1, elim r.2 as (λ _. HoldsBy events legal o agrees s start r.0 p) [ inl takes ↦ put_later s t.version start start r.0 p (omega arith) (omega arith) (t.put r.0 takes) | inr has ↦ holds_grows events legal o agrees r.0 s (suc p2) start p (omega arith) (omega arith) has ])
              | inl older ↦
                  let sound = at_sound events legal first done0 there0 s t.z t.version t.shard t.one (omega (arith, t.early)) t.placed in
                  elim (stale events legal first done0 there0 o agrees s (suc p2) version shard nodes (omega arith) at m (λ n h. counted_hold shard n h) t.z (omega arith) (omega (arith, t.early)) t.version t.shard t.placed) as (λ _. (n : ℕ) × IsIn nodes n × HoldsBy events legal o agrees s start n p) [
                    | inl sub ↦
                        let both = meet first.rf (holders t.shard) nodes t.nodes (few_hold first.rf t.version t.shard sound) (record { distinct = m.distinct; within = sub; enough = m.enough })
                        (majority_of first.rf (counted t.shard) (holders t.shard) t.nodes (λ n _ h. counted_hold t.shard n h) t.counts) in
                        (both.0, both.1, put_later s t.version start start both.0 p (omega arith) (omega arith) (t.put both.0 both.2))
                    | inr f ↦ absurd (served f.0 f.1 (fence_grows events legal f.0 s t.z start (suc version) t.early (omega arith) f.2))
                  ]
            ]

    same_shard : (s version a b : ℕ) (x y : Shard) → a < length events → b < length events → IsAt events s (suc a) version x → IsAt events s (suc b) version y → x ≡ y
    same_shard s version a b x y la lb hx hy =
        elim (cases_lt b a) as (λ _. x ≡ y) [
          | inl lt ↦ sym (at_version events legal first done0 there0 s (suc b) (suc a) version y x (omega arith) hy (omega arith) la hx)
          | inr le ↦ at_version events legal first done0 there0 s (suc a) (suc b) version x y (omega arith) hx (omega arith) lb hy
        ]

    -- a fetch of a majority holds each secured point
    pub fetch_holds : (i start : ℕ) (nodes : List ℕ) (series : List Series) → i ≤ length events → (f : FetchAt (take i events) start nodes series) → majority first.rf ≤ length nodes
        → (p : Point) → Matches f.pick p → InRange f.from f.to p → IsLiveUpTo events i p → IsSecured first.rf g events start f.s p
        → Covers (points_in (space_picked f.pick) series) p
    fetch_holds i start nodes series high f enough p matches in_range live secured =
        let begun = at_take events start i (event.FetchStart f.version f.s f.rules f.pick f.from f.to) f.started in
        let law = lawful_start events legal start f.version f.s f.rules f.pick f.from f.to begun.0 in
        let placed = shard_at (take start events) f.version f.s law.0 in
        let at = at_shard events legal first done0 there0 start f.s f.version placed in
        let counting = counted_at (take i events) f.version f.s nodes f.counted in
        let at_done = at_counted events legal first done0 there0 i f.s f.version nodes counting in
        let same : counting.shard ≡ placed.shard = same_shard f.s f.version counting.position placed.position counting.shard placed.shard (omega (arith, at_done.1)) (omega (arith, at.1, begun.1)) at_done.0 at.0 in
        let m : IsMajority first.rf (counted placed.shard) nodes = record { distinct = f.distinct; within = λ n h. subst (λ c. IsIn (counted c) n) same (counting.within n h); enough = enough } in
        let served : (q : ℕ) → IsIn nodes q → f.version < (replica q f.s (take start events)).fence → ⊥ =
        λ q h fence.
        let a = read_of (take i events) start f.s f.version f.rules f.pick f.from f.to nodes f.answers q f.answered h in
        let there = at_take events (a.2).position i (event.Step q f.s (call.Read (a.2).client (a.2).number f.rules f.version f.pick f.from f.to) (reply.Found a.0)) (a.2).there in
        let row = lawful_step events legal (a.2).position q f.s (call.Read (a.2).client (a.2).number f.rules f.version f.pick f.from f.to) (reply.Found a.0) there.0 in
        omega (arith, (row.0).fence_low, fence_grows events legal q f.s start (a.2).position (suc f.version) (omega (arith, (a.2).later)) (omega (arith, there.1)) fence) in
        let h = asked_holds i start f.version f.s placed.shard placed.position nodes p high begun.1 live at.0 at.1 m served secured in
        let a = read_of (take i events) start f.s f.version f.rules f.pick f.from f.to nodes f.answers h.0 f.answered h.1 in
        let there = at_take events (a.2).position i (event.Step h.0 f.s (call.Read (a.2).client (a.2).number f.rules f.version f.pick f.from f.to) (reply.Found a.0)) (a.2).there in
        let row = lawful_step events legal (a.2).position h.0 f.s (call.Read (a.2).client (a.2).number f.rules f.version f.pick f.from f.to) (reply.Found a.0) there.0 in
        let bound : (a.2).position ≤ length events = omega (arith, there.1) in
        let has = holds_grows events legal o agrees h.0 f.s start (a.2).position p (omega (arith, (a.2).later)) bound h.2 in
        let ruled = clock_at (take (a.2).position events) f.rules row.1 in
        let clock = at_take events ruled.0 (a.2).position (event.Clock f.rules) ruled.1 in
        let shown = found_covers (replica h.0 f.s (take (a.2).position events)) f.rules f.pick f.from f.to a.0 p row.2
        (holds_sure events legal o agrees h.0 f.s (a.2).position p bound ((row.0).owner).open_ has)
        (not_gone events legal h.0 f.s i (a.2).position p (omega (arith, there.1)) bound live)
        (record { matches = matches; in_range = in_range; unexpired = live ruled.0 f.rules (omega (arith, clock.1, there.1)) clock.0 }) in
        covers_lower (points_in (space_picked f.pick) series) p shown.value shown.at_least (each-from_All (λ q. Covers (points_in (space_picked f.pick) series) q) (points_in (space_picked f.pick) a.0)
        (each-from_All (λ answer. All (λ q. Covers (points_in (space_picked f.pick) series) q) (points_in (space_picked f.pick) answer)) f.answers (f.joined).all_there a.0 a.1) (record p { v = shown.value }) shown.stands)
