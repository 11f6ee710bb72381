-- One move after the other: a majority of the nodes that keep a shard holds what a majority took.
use Rattle.std.proofs.Common.{◌≡◌, ℕ, suc, ◌<◌, ◌≤◌, List, take, length, refl, sym, subst, inl, inr, arith, true}
use Rattle.std.specs.Prelude.{◌⊎◌, Option, Some, None}
use Rattle.std.proofs.lemmas.Bool.{cases_eq, cases_lt}
use Rattle.m3_model.specs.Members.{IsIn}
use Rattle.m3_model.specs.Contents.{key_of}
use Rattle.m3_model.specs.Reads.{Covers}
use Rattle.m3_model.specs.declared.point.Point.{Point}
use Rattle.m3_model.specs.declared.placement.Placement.{Placement}
use Rattle.cluster_core.specs.declared.event.StepCall.TheVariants as call
use Rattle.cluster_core.specs.declared.event.StepReply.TheVariants as reply
use Rattle.cluster_core.specs.declared.event.Event.{Event}
use Rattle.cluster_core.specs.declared.event.Event.TheVariants as event
use Rattle.cluster_core.specs.Lists.{At}
use Rattle.m3_model.specs.declared.placement.Assignment.{Assignment}
use Rattle.m3_model.specs.declared.placement.ShardState.TheVariants.{Initializing}
use Rattle.placement_core.specs.Lawful.{IsShard}
use Rattle.placement_core.specs.Majorities.{IsMajority}
use Rattle.placement_core.specs.Shards.{Shard, counted, holders, former}
use Rattle.placement_core.specs.Steps.{Ends, IsShardStep}
use Rattle.placement_core.proofs.ChangeLemmas.{step_holders, step_counted}
use Rattle.cluster_core.specs.Replicas.{replica}
use Rattle.cluster_core.specs.Answers.{PageAsked, IsPastKey, IsUpTo}
use Rattle.cluster_core.specs.Joins.{HasJoined}
use Rattle.cluster_core.specs.Legal.{Legal}
use Rattle.cluster_core.specs.Core.{Opening, AgreesWith, IsLiveUpTo}
use Rattle.cluster_core.proofs.ListLemmas.{at_within, at_take, along}
use Rattle.cluster_core.proofs.QuorumLemmas.{dec_in, meet}
use Rattle.cluster_core.proofs.PastLemmas.{Streamed, streamed_at, tenure_at}
use Rattle.cluster_core.proofs.ShardLemmas.{former_hold, few_hold, ended_holders}
use Rattle.cluster_core.proofs.TraceLemmas.{lawful_step, not_gone, fence_grows}
use Rattle.cluster_core.proofs.HeldLemmas.{HoldsBy, holds_grows, holds_sure, merge_holds, page_covers, cover_finds, fenced_at}
use Rattle.cluster_core.proofs.PlaceLemmas.{IsAt, at_unique, at_sound, at_step, at_later, at_grows, span, at_tenure, first_above}

-- a majority of one base is one of a base that has its members
pub majority_of : (rf : ℕ) (base base' members : List ℕ) → ((n : ℕ) → IsIn members n → IsIn base n → IsIn base' n) → IsMajority rf base members → IsMajority rf base' members
majority_of rf base base' members sub m = record { distinct = m.distinct; within = λ n h. sub n h (m.within n h); enough = m.enough }

module _ (events : List Event) (legal : Legal true events) (first : Placement) (done0 : List (ℕ × ℕ)) (there0 : At events 0 (event.Place first done0)) (o : Opening) (agrees : AgreesWith events o) where
  -- the joining node holds what a peer held when it was fenced
  pub stream_holds : (s y q tenure k limit : ℕ) (x : Point) → k ≤ limit → limit ≤ length events → IsLiveUpTo events limit x → (st : Streamed (take k events) s y tenure q)
      → HoldsBy events legal o agrees s (suc st.fence) q x → HoldsBy events legal o agrees s k y x
  stream_holds s y q tenure k limit x low high live st h =
      let shown : (p : PageAsked) → IsIn st.pages p → IsPastKey p.0 (key_of x) → IsUpTo p.1.next (key_of x) → Covers p.1.points x =
      λ p m past up.
      let g = st.merged p m in
      let there = at_take events g.paged_at k (event.Step q s (call.Page p.0) (reply.Paged p.1)) g.paged in
      let law = lawful_step events legal g.paged_at q s (call.Page p.0) (reply.Paged p.1) there.0 in
      let bound : g.paged_at ≤ length events = omega (arith, there.1) in
      let has = holds_grows events legal o agrees q s (suc st.fence) g.paged_at x (omega (arith, g.later)) bound h in
      page_covers (replica q s (take g.paged_at events)) p.0 p.1 x law.1 (holds_sure events legal o agrees q s g.paged_at x bound (law.0).open_ has)
      (not_gone events legal q s limit g.paged_at x (omega (arith, there.1)) bound live) past up in
      let found = cover_finds None st.pages x st.cover tt shown in
      let g = st.merged found.0 found.1 in
      let there = at_take events g.merged_at k (event.Step y s (call.Merge (found.0).1) (reply.Count g.count)) g.merged in
      holds_grows events legal o agrees y s (suc g.merged_at) k x (omega (arith, there.1)) (omega arith)
      (merge_holds events legal o agrees y s g.merged_at g.count (found.0).1 x there.0 found.2)

  module _ (s : ℕ) (x : Point) (limit : ℕ) (high : limit ≤ length events) (live : IsLiveUpTo events limit x) (taken : List ℕ) where
    -- a majority of these nodes has one that is among those that take the point, or holds it by now
    abbrev pub Kept : ℕ → Shard → Type 0
    Kept j shard = (members : List ℕ) → IsMajority first.rf (holders shard) members → (n : ℕ) × IsIn members n × (IsIn taken n ⊎ HoldsBy events legal o agrees s j n x)

    pub kept_on : (i j : ℕ) (a b : Shard) → i ≤ j → j ≤ limit → ((n : ℕ) → IsIn (holders b) n → IsIn (holders a) n) → Kept i a → Kept j b
    kept_on i j a b le up sub kept members m =
        let k = kept members (majority_of first.rf (holders b) (holders a) members (λ n _ h. sub n h) m) in
        (k.0, k.1, elim k.2 as (λ _. IsIn taken k.0 ⊎ HoldsBy events legal o agrees s j k.0 x) [ inl t ↦ inl t | inr h ↦ inr (holds_grows events legal o agrees k.0 s i j x le (omega arith) h) ])

    -- what those that take the point hold once their fence is high
    abbrev pub Fenced : ℕ → Type 0
    Fenced f = (n j : ℕ) → IsIn taken n → j ≤ limit → f ≤ (replica n s (take j events)).fence → HoldsBy events legal o agrees s j n x

    -- a move that was joined by a majority keeps the point
    pub joined_step : (t k : ℕ) (a next : Shard) (to tenure : ℕ) → t ≤ k → suc k ≤ limit → (v : ℕ) → IsShard first.rf v a → IsShardStep (suc v) a next (Some to)
        → Kept t a → Kept k a → Fenced tenure → (j : HasJoined (take k events) first.rf a s to tenure) → ((q : ℕ) (st : Streamed (take k events) s to tenure q) → t ≤ st.begin)
        → Kept (suc k) next
    joined_step t k a next to tenure le up v sound step at_t at_k fenced j past members m =
        let peer = at_t j.peers (majority_of first.rf (former a) (holders a) j.peers (λ n _ h. former_hold a n h) j.enough) in
        let st = streamed_at (take k events) s to tenure peer.0 (j.streamed peer.0 peer.1) in
        let fence_there = at_take events st.fence k (event.Step peer.0 s (call.Fence st.version) reply.Done) st.fenced in
        let has : HoldsBy events legal o agrees s (suc st.fence) peer.0 x =
        elim peer.2 as (λ _. HoldsBy events legal o agrees s (suc st.fence) peer.0 x) [
          | inl takes ↦ fenced peer.0 (suc st.fence) takes (omega (arith, fence_there.1)) (omega (arith, st.high, fenced_at events legal o agrees peer.0 s st.fence st.version fence_there.0))
          | inr h ↦ holds_grows events legal o agrees peer.0 s t (suc st.fence) x (omega (arith, past peer.0 st, st.past_begin)) (omega (arith, fence_there.1)) h
        ] in
        let y_has = stream_holds s to peer.0 tenure k limit x (omega arith) high live st has in
        elim (dec_in to members) as (λ _. (n : ℕ) × IsIn members n × (IsIn taken n ⊎ HoldsBy events legal o agrees s (suc k) n x)) [
          | inl there ↦ (to, there, inr (holds_grows events legal o agrees to s k (suc k) x (omega arith) (omega arith) y_has))
          | inr not_there ↦
              let sub : (n : ℕ) → IsIn members n → IsIn (holders next) n → IsIn (holders a) n =
              λ n h w. elim (ended_holders first.rf v a next to n sound step w) as (λ _. IsIn (holders a) n) [ inl e ↦ absurd (not_there (subst (IsIn members) e h)) | inr i ↦ i ] in
              let r = at_k members (majority_of first.rf (holders next) (holders a) members sub m) in
              (r.0, r.1, elim r.2 as (λ _. IsIn taken r.0 ⊎ HoldsBy events legal o agrees s (suc k) r.0 x) [ inl t ↦ inl t | inr h ↦ inr (holds_grows events legal o agrees r.0 s k (suc k) x (omega arith) (omega arith) h) ])
        ]

  -- a Begin with a tenure stands past a placement of at least that version
  pub begin_above : (s y tenure b fence : ℕ) (points : List Point) → At events b (event.Step y s (call.Begin tenure) (reply.Began fence points))
      → (p : ℕ) × (v : ℕ) × (a : Shard) × (p < b) × IsAt events s (suc p) v a × (tenure ≤ v)
  begin_above s y tenure b fence points there =
      let law = lawful_step events legal b y s (call.Begin tenure) (reply.Began fence points) there in
      let bound = at_within events b (event.Step y s (call.Begin tenure) (reply.Began fence points)) there in
      let has = tenure_at (take b events) y s tenure law.given in
      let at = at_tenure events legal first done0 there0 b s tenure has in
      let sound = at_sound events legal first done0 there0 s (suc has.position) (has.placement).version has.shard (omega arith) (omega (arith, at.1, bound)) at.0 in
      (has.position, (has.placement).version, has.shard, at.1, at.0, omega (arith, sound.tenures has.assigned has.stands, has.tenure_is))

  module _ (s : ℕ) (x : Point) (limit : ℕ) (high : limit ≤ length events) (live : IsLiveUpTo events limit x) (taken : List ℕ) where
    -- what is kept at a position is kept at all later ones, whatever moves
    pub keeps : (z u : ℕ) (start : Shard) → 1 ≤ z → IsAt events s z u start → Kept s x limit high live taken z start
        → ((f : ℕ) → u < f → Fenced s x limit high live taken f)
        → ((k v : ℕ) (a next : Shard) (to : ℕ) → z ≤ k → suc k ≤ limit → IsAt events s k v a → start ≡ a → (end : Ends a next to) → (end.0).tenure ≤ u
        → Kept s x limit high live taken k a → HasJoined (take k events) first.rf a s to (end.0).tenure → Kept s x limit high live taken (suc k) next)
        → (j : ℕ) → z ≤ j → j ≤ limit → (v : ℕ) (a : Shard) → IsAt events s j v a → Kept s x limit high live taken j a
    keeps z u start one at_z base fenced low j from_z up v a at_j =
        along events (λ k. k ≤ limit → (i : ℕ) → z ≤ i → i ≤ k → (v : ℕ) (a : Shard) → IsAt events s i v a → Kept s x limit high live taken i a) z
        (λ bound i from_z to_z v a at_i.
        let e : z ≡ i = omega arith in
        let at_too : IsAt events s i u start = subst (λ k. IsAt events s k u start) e at_z in
        subst (Kept s x limit high live taken i) (at_unique events legal first done0 there0 s i u v start a at_too at_i).1 (subst (λ k. Kept s x limit high live taken k start) e base))
        (λ k e le there was bound i from_z to_k v a at_i.
        elim (cases_eq i (suc k)) as (λ _. Kept s x limit high live taken i a) [
          | inr ne ↦ was (omega arith) i from_z (omega arith) v a at_i
          | inl is ↦
              let at_next : IsAt events s (suc k) v a = subst (λ m. IsAt events s m v a) is at_i in
              subst (λ m. Kept s x limit high live taken m a) (sym is) (next k e le there bound (was (omega arith)) v a at_next)
        ])
        j from_z (omega arith) up j from_z (omega arith) v a at_j
      where
        past_begin : (k t ut tenure to : ℕ) (c : Shard) → IsAt events s t ut c → 1 ≤ t → t ≤ length events → ut < tenure → (b fence : ℕ) (points : List Point) → At events b (event.Step to s (call.Begin tenure) (reply.Began fence points)) → suc t ≤ b
        past_begin k t ut tenure to c at_t one_t bound below b fence points there =
            let up = begin_above s to tenure b fence points there in
            elim (cases_lt t (suc up.0)) as (λ _. suc t ≤ b) [
              | inl lt ↦ omega (arith, up.3)
              | inr ge ↦ absurd (omega (arith, at_grows events legal first done0 there0 s (suc up.0) t up.1 ut up.2 c (omega arith) up.4 ge bound at_t, up.5))
            ]

        ended : (k : ℕ) (e : Event) → z ≤ k → At events k e → suc k ≤ limit → ((i : ℕ) → z ≤ i → i ≤ k → (v : ℕ) (a : Shard) → IsAt events s i v a → Kept s x limit high live taken i a)
            → (w : ℕ) (b : Shard) → IsAt events s k w b → (y : ℕ) (c : Shard) → (end : Ends b c y) → HasJoined (take k events) first.rf b s y (end.0).tenure → Kept s x limit high live taken (suc k) c
        ended k e le there bound was w b at_k y c end joined =
            let sound = at_sound events legal first done0 there0 s k w b (omega arith) (omega arith) at_k in
            let joining = end.0 in
            let is : joining.state ≡ Initializing = ((end.2).joins).0 in
            let tenure_low : joining.tenure ≤ w = sound.tenures joining end.1 in
            elim (cases_lt u joining.tenure) as (λ _. Kept s x limit high live taken (suc k) c) [
              | inr ge ↦ low k w b c y le bound at_k (span events legal first done0 there0 s z k u w start b joining one at_z le (omega arith) ge at_k end.1 is) end ge (was k le (omega arith) w b at_k) joined
              | inl lt ↦
                  let t = first_above events legal first done0 there0 s z k u w joining.tenure start b one at_z lt le (omega arith) at_k tenure_low in
                  let n = at_later events legal first done0 there0 s t.0 (suc t.0) t.1 t.2 (omega (arith, t.3)) t.5 (omega arith) (omega (arith, t.4)) in
                  let same : n.1 ≡ b = span events legal first done0 there0 s (suc t.0) k n.0 w n.1 b joining (omega arith) n.2 (omega (arith, t.4)) (omega arith) (t.7 n.0 n.1 n.2) at_k end.1 is in
                  let kept_then : Kept s x limit high live taken (suc t.0) b = subst (Kept s x limit high live taken (suc t.0)) same (was (suc t.0) (omega (arith, t.3)) (omega (arith, t.4)) n.0 n.1 n.2) in
                  joined_step s x limit high live taken (suc t.0) k b c y joining.tenure (omega (arith, t.4)) bound w sound end kept_then (was k le (omega arith) w b at_k) (fenced joining.tenure lt) joined
                  (λ q st.
                  past_begin k t.0 t.1 joining.tenure y t.2 t.5 (omega (arith, t.3)) (omega (arith, t.4)) t.6 st.begin st.begin_fence st.begin_points
                  (at_take events st.begin k (event.Step y s (call.Begin joining.tenure) (reply.Began st.begin_fence st.begin_points)) st.began).0)
            ]

        changed : (k : ℕ) (e : Event) → z ≤ k → At events k e → suc k ≤ limit → ((i : ℕ) → z ≤ i → i ≤ k → (v : ℕ) (a : Shard) → IsAt events s i v a → Kept s x limit high live taken i a)
            → (w : ℕ) (b : Shard) → IsAt events s k w b → (c : Shard) (to : Option ℕ) → IsShardStep (suc w) b c to
            → ((y : ℕ) → to ≡ Some y → (j : Assignment) → IsIn b j → j.node ≡ y → j.state ≡ Initializing → HasJoined (take k events) first.rf b s y j.tenure)
            → Kept s x limit high live taken (suc k) c
        changed k e le there bound was w b at_k c None step joined =
            let sound = at_sound events legal first done0 there0 s k w b (omega arith) (omega arith) at_k in
            kept_on s x limit high live taken k (suc k) b c (omega arith) bound (λ n h. (step_holders first.rf w b c None sound step n).0 h) (was k le (omega arith) w b at_k)
        changed k e le there bound was w b at_k c (Some y) step joined = ended k e le there bound was w b at_k y c step (joined y refl step.0 step.1 (step.2).node ((step.2).joins).0)

        next : (k : ℕ) (e : Event) → z ≤ k → At events k e → suc k ≤ limit → ((i : ℕ) → z ≤ i → i ≤ k → (v : ℕ) (a : Shard) → IsAt events s i v a → Kept s x limit high live taken i a)
            → (v : ℕ) (a : Shard) → IsAt events s (suc k) v a → Kept s x limit high live taken (suc k) a
        next k e le there bound was v a at_next =
            let l = at_later events legal first done0 there0 s z k u start one at_z le (omega arith) in
            elim (at_step events legal first done0 there0 s k l.0 l.1 e (omega arith) there l.2) as (λ _. Kept s x limit high live taken (suc k) a) [
              | inl same ↦ subst (Kept s x limit high live taken (suc k)) (at_unique events legal first done0 there0 s (suc k) l.0 v l.1 a same at_next).1
                  (kept_on s x limit high live taken k (suc k) l.1 l.1 (omega arith) bound (λ n h. h) (was k le (omega arith) l.0 l.1 l.2))
              | inr c ↦ subst (Kept s x limit high live taken (suc k)) (at_unique events legal first done0 there0 s (suc k) (suc l.0) v c.next a c.is at_next).1
                  (changed k e le there bound was l.0 l.1 l.2 c.next c.to c.step c.joined)
            ]

  -- a majority that counts at a version keeps the shard later on, or has a node that is fenced above the version
  pub stale : (s z w : ℕ) (start : Shard) (members : List ℕ) → 1 ≤ z → IsAt events s z w start → IsMajority first.rf (counted start) members
      → ((n : ℕ) → IsIn (counted start) n → IsIn (holders start) n)
      → (j : ℕ) → z ≤ j → j ≤ length events → (v : ℕ) (a : Shard) → IsAt events s j v a
      → ((n : ℕ) → IsIn members n → IsIn (holders a) n) ⊎ ((q : ℕ) × IsIn members q × (w < (replica q s (take j events)).fence))
  stale s z w start members one at_z m counts j low high =
      along events (λ k. (v : ℕ) (a : Shard) → IsAt events s k v a → ((n : ℕ) → IsIn members n → IsIn (holders a) n) ⊎ ((q : ℕ) × IsIn members q × (w < (replica q s (take k events)).fence))) z
      (λ v a at_i. inl (λ n h. subst (λ b. IsIn (holders b) n) (at_unique events legal first done0 there0 s z w v start a at_z at_i).1 (counts n (m.within n h))))
      (λ k e le there was v a at_next.
      let bound : suc k ≤ length events = at_within events k e there in
      let l = at_later events legal first done0 there0 s z k w start one at_z le (omega arith) in
      elim (was l.0 l.1 l.2) as (λ _. ((n : ℕ) → IsIn members n → IsIn (holders a) n) ⊎ ((q : ℕ) × IsIn members q × (w < (replica q s (take (suc k) events)).fence))) [
        | inr f ↦ inr (f.0, f.1, fence_grows events legal f.0 s k (suc k) (suc w) (omega arith) bound f.2)
        | inl sub ↦ elim (at_step events legal first done0 there0 s k l.0 l.1 e (omega arith) there l.2) as (λ _. ((n : ℕ) → IsIn members n → IsIn (holders a) n) ⊎ ((q : ℕ) × IsIn members q × (w < (replica q s (take (suc k) events)).fence))) [
          | inl same ↦ inl (λ n h. subst (λ b. IsIn (holders b) n) (at_unique events legal first done0 there0 s (suc k) l.0 v l.1 a same at_next).1 (sub n h))
          | inr c ↦
              let eq = (at_unique events legal first done0 there0 s (suc k) (suc l.0) v c.next a c.is at_next).1 in
              elim (changed k le bound l.0 l.1 l.2 sub c.next c.to c.step c.joined) as (λ _. ((n : ℕ) → IsIn members n → IsIn (holders a) n) ⊎ ((q : ℕ) × IsIn members q × (w < (replica q s (take (suc k) events)).fence))) [
                | inl yes_sub ↦ inl (λ n h. subst (λ b. IsIn (holders b) n) eq (yes_sub n h))
                | inr f ↦ inr f
              ]
        ]
      ])
      j low high
    where
      changed : (k : ℕ) → z ≤ k → suc k ≤ length events → (v : ℕ) (b : Shard) → IsAt events s k v b → ((n : ℕ) → IsIn members n → IsIn (holders b) n) → (c : Shard) (to : Option ℕ) → IsShardStep (suc v) b c to
          → ((y : ℕ) → to ≡ Some y → (j : Assignment) → IsIn b j → j.node ≡ y → j.state ≡ Initializing → HasJoined (take k events) first.rf b s y j.tenure)
          → ((n : ℕ) → IsIn members n → IsIn (holders c) n) ⊎ ((q : ℕ) × IsIn members q × (w < (replica q s (take (suc k) events)).fence))
      changed k le bound v b at_k sub c None step joined =
          let sound = at_sound events legal first done0 there0 s k v b (omega arith) (omega arith) at_k in
          inl (λ n h. (step_holders first.rf v b c None sound step n).1 (sub n h))
      changed k le bound v b at_k sub c (Some y) step joined =
          let sound = at_sound events legal first done0 there0 s k v b (omega arith) (omega arith) at_k in
          elim (cases_lt w (step.0).tenure) as (λ _. ((n : ℕ) → IsIn members n → IsIn (holders c) n) ⊎ ((q : ℕ) × IsIn members q × (w < (replica q s (take (suc k) events)).fence))) [
            | inl lt ↦
                let j = joined y refl step.0 step.1 (step.2).node ((step.2).joins).0 in
                let peers = majority_of first.rf (former b) (holders b) j.peers (λ n _ h. former_hold b n h) j.enough in
                let both = meet first.rf (holders b) members j.peers (few_hold first.rf v b sound) (record { distinct = m.distinct; within = sub; enough = m.enough }) peers in
                let st = streamed_at (take k events) s y (step.0).tenure both.0 (j.streamed both.0 both.2) in
                let there = at_take events st.fence k (event.Step both.0 s (call.Fence st.version) reply.Done) st.fenced in
                inr (both.0, both.1, fence_grows events legal both.0 s (suc st.fence) (suc k) (suc w) (omega (arith, there.1)) bound (omega (arith, st.high, fenced_at events legal o agrees both.0 s st.fence st.version there.0)))
            | inr ge ↦
                let same : start ≡ b = span events legal first done0 there0 s z k w v start b step.0 one at_z le (omega arith) ge at_k step.1 ((step.2).joins).0 in
                inl (λ n h. step_counted first.rf v b c (Some y) sound step n (subst (λ q. IsIn (counted q) n) same (m.within n h)))
          ]
