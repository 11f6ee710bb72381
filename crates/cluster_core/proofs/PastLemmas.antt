-- What stands earlier, with its position in the list.
use Rattle.std.proofs.Common.{◌≡◌, ℕ, suc, ◌+◌, ◌<◌, ◌≤◌, List, [], ◌∷◌, drop, refl, ap, ◌∙◌, inl, inr, arith}
use Rattle.std.specs.Prelude.{Some, Option}
use Rattle.std.specs.List.{Any}
use Rattle.m3_model.specs.Members.{IsIn}
use Rattle.m3_model.specs.declared.placement.Assignment.{Assignment}
use Rattle.m3_model.specs.declared.placement.Placement.{Placement}
use Rattle.m3_model.specs.declared.point.Key.{Key}
use Rattle.m3_model.specs.declared.point.Page.{Page}
use Rattle.m3_model.specs.declared.point.Pick.{Pick}
use Rattle.m3_model.specs.declared.point.Point.{Point}
use Rattle.m3_model.specs.declared.point.Series.{Series}
use Rattle.m3_model.specs.declared.rules.Rules.{Rules}
use Rattle.placement_core.specs.Shards.{Shard, counted}
use Rattle.placement_core.proofs.ListLemmas.{each-from_All, IsIn-from_Any}
use Rattle.cluster_core.specs.Answers.{PageAsked, IsJoin, IsCover}
use Rattle.cluster_core.specs.Earlier.{IsClock, IsSend, PlacesShard, CountsNodes, GivesTenure, TookPoint, GaveAnswer, GavePage, HasClock, HasSend, HasShard, AreCounted, HasTenure, HasPut, HasPage}
use Rattle.cluster_core.specs.Joins.{BeganWith, FencedAt, GaveAsked, MergedPage, GavePages, HasCover, HasStreamed}
use Rattle.m3_model.specs.Reads.{space_picked}
use Rattle.cluster_core.specs.Legal.{AcksSend, IsAck, EachAnswered, EndsFetch, IsFetched}
use Rattle.cluster_core.specs.Lists.{At, AfterSome, IsDistinct}
use Rattle.cluster_core.specs.declared.event.Event.{Event}
use Rattle.cluster_core.specs.declared.event.Event.TheVariants as event
use Rattle.cluster_core.specs.declared.event.StepCall.{StepCall}
use Rattle.cluster_core.specs.declared.event.StepCall.TheVariants as call
use Rattle.cluster_core.specs.declared.event.StepReply.TheVariants as reply
use Rattle.cluster_core.proofs.ListLemmas.{any_at, after_at, drop_at}

-- ---- what an event is

counts_of : (version s : ℕ) (nodes : List ℕ) (e : Event) → CountsNodes version s nodes e
    → (place : Placement) × (done : List (ℕ × ℕ)) × (shard : Shard) × (e ≡ event.Place place done) × (place.version ≡ version) × At place.shards s shard × ((n : ℕ) → IsIn nodes n → IsIn (counted shard) n)
counts_of version s nodes (event.Place place done) h = (place, done, h.1, refl, h.0, h.2, each-from_All (λ n. IsIn (counted h.1) n) nodes h.3)
counts_of version s nodes _ h = absurd h

places_of : (version s : ℕ) (e : Event) → PlacesShard version s e → (place : Placement) × (done : List (ℕ × ℕ)) × (shard : Shard) × (e ≡ event.Place place done) × (place.version ≡ version) × At place.shards s shard
places_of version s (event.Place place done) h = (place, done, h.1, refl, h.0, h.2)
places_of version s _ h = absurd h

gives_of : (n s tenure : ℕ) (e : Event) → GivesTenure n s tenure e
    → (place : Placement) × (done : List (ℕ × ℕ)) × (shard : Shard) × (a : Assignment) × (e ≡ event.Place place done) × At place.shards s shard × IsIn shard a × (a.tenure ≡ tenure)
gives_of n s tenure (event.Place place done) h = let a = IsIn-from_Any (λ (a : Assignment). (a.node ≡ n) × (a.tenure ≡ tenure)) h.0 h.2 in (place, done, h.0, a.0, refl, h.1, a.1, (a.2).1)
gives_of n s tenure _ h = absurd h

took_of : (n s version : ℕ) (point : Point) (e : Event) → TookPoint n s version point e
    → (client number : ℕ) × (rules : Rules) × (e ≡ event.Step n s (call.Put client number rules version point) reply.Done)
took_of n s version point (event.Step node shard (call.Put client number rules v p) reply.Done) h = (client, number, rules, λ i. event.Step (h.0 i) (h.1 i) (call.Put client number rules (h.2 i) (h.3 i)) reply.Done)
took_of n s version point _ h = absurd h

gave_of : (n version s : ℕ) (rules : Rules) (pick : Pick) (from to : ℕ) (answer : List Series) (e : Event) → GaveAnswer n (event.FetchStart version s rules pick from to) answer e
    → (client number : ℕ) × (e ≡ event.Step n s (call.Read client number rules version pick from to) (reply.Found answer))
gave_of n version s rules pick from to answer (event.Step node shard (call.Read client number r v k f t) (reply.Found series)) h =
    (client, number, λ i. event.Step (h.0 i) (h.1 i) (call.Read client number (h.2 i) (h.3 i) (h.4 i) (h.5 i) (h.6 i)) (reply.Found (h.7 i)))
gave_of n version s rules pick from to answer _ h = absurd h

page_of : (s : ℕ) (page : Page) (e : Event) → GavePage s page e → (node : ℕ) × (c : StepCall) × (e ≡ event.Step node s c (reply.Paged page))
page_of s page (event.Step node shard c (reply.Paged given)) h = (node, c, λ i. event.Step node (h.0 i) c (reply.Paged (h.1 i)))
page_of s page _ h = absurd h

began_of : (n s tenure : ℕ) (e : Event) → BeganWith n s tenure e → (fence : ℕ) × (points : List Point) × (e ≡ event.Step n s (call.Begin tenure) (reply.Began fence points))
began_of n s tenure (event.Step node shard (call.Begin t) (reply.Began fence points)) h = (fence, points, λ i. event.Step (h.0 i) (h.1 i) (call.Begin (h.2 i)) (reply.Began fence points))
began_of n s tenure _ h = absurd h

fenced_of : (n s version : ℕ) (e : Event) → FencedAt n s version e → (v : ℕ) × (version ≤ v) × (e ≡ event.Step n s (call.Fence v) reply.Done)
fenced_of n s version (event.Step node shard (call.Fence v) reply.Done) h = (v, h.2, λ i. event.Step (h.0 i) (h.1 i) (call.Fence v) reply.Done)
fenced_of n s version _ h = absurd h

asked_of : (n s : ℕ) (p : PageAsked) (e : Event) → GaveAsked n s p e → e ≡ event.Step n s (call.Page p.0) (reply.Paged p.1)
asked_of n s p (event.Step node shard (call.Page from) (reply.Paged page)) h = λ i. event.Step (h.0 i) (h.1 i) (call.Page (h.2 i)) (reply.Paged (h.3 i))
asked_of n s p _ h = absurd h

merged_of : (n s : ℕ) (page : Page) (e : Event) → MergedPage n s page e → (count : ℕ) × (e ≡ event.Step n s (call.Merge page) (reply.Count count))
merged_of n s page (event.Step node shard (call.Merge m) (reply.Count count)) h = (count, λ i. event.Step (h.0 i) (h.1 i) (call.Merge (h.2 i)) (reply.Count count))
merged_of n s page _ h = absurd h

-- ---- what stands earlier, and where

pub clock_at : (past : List Event) (rules : Rules) → HasClock past rules → (i : ℕ) × At past i (event.Clock rules)
clock_at past rules h = let a = any_at (IsClock rules) past h in (a.0, a.2 ∙ ap Some a.3)

pub send_at : (past : List Event) (version s : ℕ) (p : Point) → HasSend past version s p → (i : ℕ) × At past i (event.Send version s p)
send_at past version s p h = let a = any_at (IsSend version s p) past h in (a.0, a.2 ∙ ap Some a.3)

-- a Place of the version in which these nodes count for the shard
pub record CountedAt (past : List Event) (version s : ℕ) (nodes : List ℕ) : Type 0 where
  pub position : ℕ
  pub placement : Placement
  pub done : List (ℕ × ℕ)
  pub shard : Shard
  pub there : At past position (event.Place placement done)
  pub version_is : placement.version ≡ version
  pub shard_is : At placement.shards s shard
  pub within : (n : ℕ) → IsIn nodes n → IsIn (counted shard) n

pub counted_at : (past : List Event) (version s : ℕ) (nodes : List ℕ) → AreCounted past version s nodes → CountedAt past version s nodes
counted_at past version s nodes h =
    let a = any_at (CountsNodes version s nodes) past h in
    let c = counts_of version s nodes a.1 a.3 in
    record { position = a.0; placement = c.0; done = c.1; shard = c.2; there = a.2 ∙ ap Some c.3; version_is = c.4; shard_is = c.5; within = c.6 }

-- a Place of the version with the shard
pub record ShardAt (past : List Event) (version s : ℕ) : Type 0 where
  pub position : ℕ
  pub placement : Placement
  pub done : List (ℕ × ℕ)
  pub shard : Shard
  pub there : At past position (event.Place placement done)
  pub version_is : placement.version ≡ version
  pub shard_is : At placement.shards s shard

pub shard_at : (past : List Event) (version s : ℕ) → HasShard past version s → ShardAt past version s
shard_at past version s h =
    let a = any_at (PlacesShard version s) past h in
    let c = places_of version s a.1 a.3 in
    record { position = a.0; placement = c.0; done = c.1; shard = c.2; there = a.2 ∙ ap Some c.3; version_is = c.4; shard_is = c.5 }

-- a Place that gives the node the shard with the tenure
pub record TenureAt (past : List Event) (s tenure : ℕ) : Type 0 where
  pub position : ℕ
  pub placement : Placement
  pub done : List (ℕ × ℕ)
  pub shard : Shard
  pub there : At past position (event.Place placement done)
  pub shard_is : At placement.shards s shard
  pub assigned : Assignment
  pub stands : IsIn shard assigned
  pub tenure_is : assigned.tenure ≡ tenure

pub tenure_at : (past : List Event) (n s tenure : ℕ) → HasTenure past n s tenure → TenureAt past s tenure
tenure_at past n s tenure h =
    let a = any_at (GivesTenure n s tenure) past h in
    let g = gives_of n s tenure a.1 a.3 in
    record { position = a.0; placement = g.0; done = g.1; shard = g.2; there = a.2 ∙ ap Some g.4; shard_is = g.5; assigned = g.3; stands = g.6; tenure_is = g.7 }

-- the replica took the point at the version
pub record PutAt (past : List Event) (n s version : ℕ) (point : Point) : Type 0 where
  pub position : ℕ
  pub client : ℕ
  pub number : ℕ
  pub rules : Rules
  pub there : At past position (event.Step n s (call.Put client number rules version point) reply.Done)

pub put_at : (past : List Event) (n s version : ℕ) (point : Point) → HasPut past n s version point → PutAt past n s version point
put_at past n s version point h =
    let a = any_at (TookPoint n s version point) past h in
    let t = took_of n s version point a.1 a.3 in
    record { position = a.0; client = t.0; number = t.1; rules = t.2; there = a.2 ∙ ap Some t.3 }

-- the replica answered the read past this position
pub record ReadAt (past : List Event) (start n s version : ℕ) (rules : Rules) (pick : Pick) (from to : ℕ) (series : List Series) : Type 0 where
  pub position : ℕ
  pub client : ℕ
  pub number : ℕ
  pub later : start < position
  pub there : At past position (event.Step n s (call.Read client number rules version pick from to) (reply.Found series))

pub read_at : (past : List Event) (start n s version : ℕ) (rules : Rules) (pick : Pick) (from to : ℕ) (series : List Series)
    → Any (GaveAnswer n (event.FetchStart version s rules pick from to) series) (drop (suc start) past) → ReadAt past start n s version rules pick from to series
read_at past start n s version rules pick from to series h =
    let a = any_at (GaveAnswer n (event.FetchStart version s rules pick from to) series) (drop (suc start) past) h in
    let g = gave_of n version s rules pick from to series a.1 a.3 in
    record { position = suc start + a.0; client = g.0; number = g.1; later = omega arith; there = drop_at past (suc start) a.0 (event.Step n s (call.Read g.0 g.1 rules version pick from to) (reply.Found series)) (a.2 ∙ ap Some g.2) }

-- some replica of the shard gave the page
pub record PageAt (past : List Event) (s : ℕ) (page : Page) : Type 0 where
  pub position : ℕ
  pub node : ℕ
  pub page_call : StepCall
  pub there : At past position (event.Step node s page_call (reply.Paged page))

pub page_at : (past : List Event) (s : ℕ) (page : Page) → HasPage past s page → PageAt past s page
page_at past s page h =
    let a = any_at (GavePage s page) past h in
    let g = page_of s page a.1 a.3 in
    record { position = a.0; node = g.0; page_call = g.1; there = a.2 ∙ ap Some g.2 }

-- ---- streams

-- one page of q, asked for so, was given past the fence, and merged by y past its Begin
pub record PageMerged (past : List Event) (s q y fence begin : ℕ) (from : Option Key) (page : Page) : Type 0 where
  pub paged_at : ℕ
  pub later : fence < paged_at
  pub paged : At past paged_at (event.Step q s (call.Page from) (reply.Paged page))
  pub merged_at : ℕ
  pub count : ℕ
  pub past_begin : begin < merged_at
  pub merged : At past merged_at (event.Step y s (call.Merge page) (reply.Count count))

-- y merged a cover of q, fenced at y's tenure, all past a Begin of y with it
pub record Streamed (past : List Event) (s y tenure q : ℕ) : Type 0 where
  pub begin : ℕ
  pub begin_fence : ℕ
  pub begin_points : List Point
  pub began : At past begin (event.Step y s (call.Begin tenure) (reply.Began begin_fence begin_points))
  pub fence : ℕ
  pub version : ℕ
  pub past_begin : begin < fence
  pub high : tenure ≤ version
  pub fenced : At past fence (event.Step q s (call.Fence version) reply.Done)
  pub pages : List PageAsked
  pub cover : IsCover pages
  pub merged : (p : PageAsked) → IsIn pages p → PageMerged past s q y fence begin p.0 p.1

gave_at : (n s : ℕ) (pages : List PageAsked) (events : List Event) (p : PageAsked) → GavePages n s pages events → IsIn pages p → (i : ℕ) × At events i (event.Step n s (call.Page p.0) (reply.Paged p.1))
gave_at n s [] events p h m = absurd m
gave_at n s (x ∷ pages) events p h m =
    let a = after_at (GaveAsked n s x) (GavePages n s pages) events h in
    elim m as (λ _. (i : ℕ) × At events i (event.Step n s (call.Page p.0) (reply.Paged p.1))) [
      | inl e ↦ (a.0, a.2 ∙ ap Some (asked_of n s x a.1 a.3) ∙ ap (λ (z : PageAsked). Some (event.Step n s (call.Page z.0) (reply.Paged z.1))) e)
      | inr r ↦ let l = gave_at n s pages (drop (suc a.0) events) p a.4 r in (suc a.0 + l.0, drop_at events (suc a.0) l.0 (event.Step n s (call.Page p.0) (reply.Paged p.1)) l.1)
    ]

pub streamed_at : (past : List Event) (s y tenure q : ℕ) → HasStreamed s y tenure q past → Streamed past s y tenure q
streamed_at past s y tenure q h =
    let a = after_at (BeganWith y s tenure) (λ since. AfterSome (FencedAt q s tenure) (HasCover s q y since) since) past h in
    let since = drop (suc a.0) past in
    let b = began_of y s tenure a.1 a.3 in
    let f = after_at (FencedAt q s tenure) (HasCover s q y since) since a.4 in
    let v = fenced_of q s tenure f.1 f.3 in
    let cover = f.4 in
    record {
      begin = a.0;
      begin_fence = b.0;
      begin_points = b.1;
      began = a.2 ∙ ap Some b.2;
      fence = suc a.0 + f.0;
      version = v.0;
      past_begin = omega arith;
      high = v.1;
      fenced = drop_at past (suc a.0) f.0 (event.Step q s (call.Fence v.0) reply.Done) (f.2 ∙ ap Some v.2);
      pages = cover.pages;
      cover = cover.cover;
      merged = λ p m.
          let g = gave_at q s cover.pages (drop (suc f.0) since) p cover.given m in
          let k = any_at (MergedPage y s p.1) since (cover.merged p m) in
          let c = merged_of y s p.1 k.1 k.3 in
          record {
            paged_at = suc a.0 + (suc f.0 + g.0);
            later = omega arith;
            paged = drop_at past (suc a.0) (suc f.0 + g.0) (event.Step q s (call.Page p.0) (reply.Paged p.1)) (drop_at since (suc f.0) g.0 (event.Step q s (call.Page p.0) (reply.Paged p.1)) g.1);
            merged_at = suc a.0 + k.0;
            count = c.0;
            past_begin = omega arith;
            merged = drop_at past (suc a.0) k.0 (event.Step y s (call.Merge p.1) (reply.Count c.0)) (k.2 ∙ ap Some c.1);
          };
    }

-- ---- ends of writes and of fetches

-- the Ack's parts
pub record AckAt (past : List Event) (send : ℕ) (nodes : List ℕ) : Type 0 where
  pub version : ℕ
  pub s : ℕ
  pub point : Point
  pub sent : At past send (event.Send version s point)
  pub distinct : IsDistinct nodes
  pub counted : AreCounted past version s nodes
  pub taken : (n : ℕ) → IsIn nodes n → HasPut past n s version point

ack_by : (past : List Event) (send : ℕ) (nodes : List ℕ) (e : Event) → At past send e → AcksSend past nodes e → AckAt past send nodes
ack_by past send nodes (event.Send version s point) at h = record { version = version; s = s; point = point; sent = at; distinct = h.0; counted = h.1; taken = each-from_All (λ n. HasPut past n s version point) nodes h.2 }
ack_by past send nodes _ at h = absurd h

pub ack_at : (past : List Event) (send : ℕ) (nodes : List ℕ) → IsAck past send nodes → AckAt past send nodes
ack_at past send nodes h = ack_by past send nodes h.0 h.1 h.2

-- the FetchDone's parts
pub record FetchAt (past : List Event) (start : ℕ) (nodes : List ℕ) (series : List Series) : Type 0 where
  pub version : ℕ
  pub s : ℕ
  pub rules : Rules
  pub pick : Pick
  pub from : ℕ
  pub to : ℕ
  pub answers : List (List Series)
  pub started : At past start (event.FetchStart version s rules pick from to)
  pub distinct : IsDistinct nodes
  pub counted : AreCounted past version s nodes
  pub answered : EachAnswered (drop (suc start) past) (event.FetchStart version s rules pick from to) nodes answers
  pub joined : IsJoin (space_picked pick) answers series

fetch_by : (past : List Event) (start : ℕ) (nodes : List ℕ) (series : List Series) (e : Event) → At past start e → EndsFetch past (drop (suc start) past) nodes series e → FetchAt past start nodes series
fetch_by past start nodes series (event.FetchStart version s rules pick from to) at h = record {
  version = version;
  s = s;
  rules = rules;
  pick = pick;
  from = from;
  to = to;
  answers = (h.2).answers;
  started = at;
  distinct = h.0;
  counted = h.1;
  answered = (h.2).answered;
  joined = (h.2).joined;
}
fetch_by past start nodes series _ at h = absurd h

pub fetch_at : (past : List Event) (start : ℕ) (nodes : List ℕ) (series : List Series) → IsFetched past start nodes series → FetchAt past start nodes series
fetch_at past start nodes series h = fetch_by past start nodes series h.0 h.1 h.2
