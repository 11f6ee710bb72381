-- How many events the streams to a replica add, and with them what a bootstrap does with it.
use Rattle.std.proofs.Common.{◌≡◌, ◌≢◌, ◌≤◌, ◌+◌, ◌*◌, ℕ, List, [], ◌∷◌, ◌++◌, length, map, refl, sym, subst, inl, inr, arith, Bool, true, false, length-append}
use Rattle.std.specs.Prelude.{Option, Some, None, MatchOption, if◌then◌else◌, slice_get}
use Rattle.std.specs.List.{flat_map}
use Rattle.std.proofs.lemmas.List.{length-map}
use Rattle.m3_model.specs.Members.{IsIn}
use Rattle.m3_model.specs.declared.placement.Assignment.{Assignment}
use Rattle.m3_model.specs.declared.placement.Placement.{Placement}
use Rattle.m3_model.specs.declared.point.Key.{Key}
use Rattle.m3_model.specs.declared.point.Page.{Page}
use Rattle.m3_model.specs.declared.point.Point.{Point}
use Rattle.m3_model.specs.declared.reason.Reason.{Reason}
use Rattle.m3_model.proofs.Lists.{flat_map-IsIn}
use Rattle.m3_model.proofs.MemberLemmas.{IsIn-append_left, IsIn-append_right}
use Rattle.m3_model.proofs.Ascending.{Ascends-weaken}
use Rattle.placement_core.specs.Lawful.{IsLawful}
use Rattle.placement_core.specs.NodeNames.{IsNamedBelow}
use Rattle.placement_core.specs.Shards.{Shard, former, holders, is_steady}
use Rattle.placement_core.proofs.HolderLemmas.{many_holders}
use Rattle.cluster_core.specs.Legal.{Legal}
use Rattle.cluster_core.specs.Lists.{At}
use Rattle.cluster_core.specs.declared.event.Event.{Event}
use Rattle.cluster_core.specs.declared.event.Event.TheVariants as event
use Rattle.cluster_core.specs.declared.event.StepCall.{StepCall}
use Rattle.cluster_core.specs.declared.event.StepCall.TheVariants as call
use Rattle.cluster_core.specs.declared.event.StepReply.TheVariants as reply
use Rattle.cluster_core.proofs.ListLemmas.{at_in}
use Rattle.cluster_core.proofs.QuorumLemmas.{distinct_within}
use Rattle.peer_streams.specs.Joins.{AreAsked, AskedPeer, BreaksOff, HasAnswered, HasJoinedBy, IsBrokenOff, IsGiven, IsHeldUp, IsOpened, Join, MissesPeers, Opened, StaysAsItWas, StopsShort}
use Rattle.peer_streams.specs.Streams.{GoOnTo, Handed, IsBroken, IsMergeRefused, IsPartOfStream, IsRefusedCall, IsWhole, fenced_pages, handed_over, page_asked, replied}
use Rattle.told_joins.proofs.ListLemmas.{below_differs}
use Rattle.join_bounds.proofs.CountLemmas.{flat_few, flat_within}
use Rattle.join_bounds.proofs.PageLemmas.{cover_few, going_few}

-- a call that is refused adds two events at most
refused_few : (n s : ℕ) (c : StepCall) (why : Reason) (es : List Event) → IsRefusedCall n s c why es → length es ≤ 2
refused_few n s c why es (inl is) = subst (λ xs. length xs ≤ 2) (sym is) (omega arith)
refused_few n s c why es (inr (memory, inl is)) = subst (λ xs. length xs ≤ 2) (sym is) (omega arith)
refused_few n s c why es (inr (memory, inr (a, is))) = subst (λ xs. length xs ≤ 2) (sym is) (omega arith)

fenced_long : (s q y tenure : ℕ) (pages : List Handed) → length (fenced_pages s q y tenure pages) ≤ 2 + 4 * length pages
fenced_long s q y tenure pages =
    let few = flat_few (handed_over s q y) 4 pages (λ h m. omega arith) in
    let both = length-append (replied q s (call.Fence tenure) reply.Done) (flat_map (handed_over s q y) pages) in
    omega (arith, few, both)

-- at most as many are asked as hold the shard
former_few : (place : Placement) → IsLawful place → (s : ℕ) (shard : Shard) → slice_get place.shards s ≡ Some shard → length (former shard) ≤ 5
former_few place lawful s shard there = by (is_steady shard)
  where
    by : (steady : Bool) → length (if steady then [] else holders shard) ≤ 5
    by true = omega arith
    by false =
        let many = many_holders place.rf place.version shard (lawful.shards shard (at_in place.shards s shard there)) in
        let few = lawful.limits.few_replicas in
        omega (arith, many, few)

asked_few : (place : Placement) → IsLawful place → (s y : ℕ) (shard : Shard) (tenure : ℕ) (peers : List AskedPeer) (left : List ℕ) → slice_get place.shards s ≡ Some shard → AreAsked place s shard y tenure peers left → length peers ≤ 5
asked_few place lawful s y shard tenure peers left there asked =
    let nodes : List ℕ = map (λ (p : AskedPeer). p.node) peers ++ left in
    let differ = Ascends-weaken (IsNamedBelow place) ◌≢◌ nodes (below_differs place) asked.by_name in
    let within = distinct_within nodes (former shard) differ (λ n m. (asked.are_former n).0 m) in
    let few = former_few place lawful s shard there in
    omega (arith, within, few, length-append (map (λ (p : AskedPeer). p.node) peers) left, length-map peers (λ (p : AskedPeer). p.node))

module _ (events : List Event) (legal : Legal true events) (written : List Point) (sent : (i n s : ℕ) (c : StepCall) (page : Page) → At events i (event.Step n s c (reply.Paged page)) → (p : Point) → IsIn page.points p → IsIn written p) where
  -- all of these are events of the list
  abbrev Among : List Event → Type 0
  Among es = (e : Event) → IsIn es e → IsIn events e

  -- what a stream adds at most
  abbrev pub most_stream : ℕ
  most_stream = 4 * length written + 12

  among_left : (es xs ys : List Event) → es ≡ xs ++ ys → Among es → Among xs
  among_left es xs ys is all e m = all e (subst (λ zs. IsIn zs e) (sym is) (IsIn-append_left xs ys e m))

  among_right : (es xs ys : List Event) → es ≡ xs ++ ys → Among es → Among ys
  among_right es xs ys is all e m = all e (subst (λ zs. IsIn zs e) (sym is) (IsIn-append_right xs ys e m))

  -- each page of a stream was given
  given : (s q y tenure : ℕ) (pages : List Handed) → Among (fenced_pages s q y tenure pages) → (h : Handed) → IsIn pages h → IsIn events (event.Step q s (call.Page h.from) (reply.Paged h.page))
  given s q y tenure pages all h m =
      let step : Event = event.Step q s (call.Page h.from) (reply.Paged h.page) in
      all step (IsIn-append_right (replied q s (call.Fence tenure) reply.Done) (flat_map (handed_over s q y) pages) step (flat_map-IsIn (handed_over s q y) pages h step m (inr (inl refl))))

  going_long : (s q y tenure : ℕ) (pages : List Handed) (to : Option Key) → GoOnTo None (map page_asked pages) to → Among (fenced_pages s q y tenure pages) → length (fenced_pages s q y tenure pages) ≤ 2 + 4 * length written
  going_long s q y tenure pages to goes all =
      let few = going_few events legal s q written (λ i. sent i q s) pages to goes (given s q y tenure pages all) in
      let long = fenced_long s q y tenure pages in
      omega (arith, few, long)

  whole_long : (s q y tenure : ℕ) (es : List Event) → IsWhole s q y tenure es → Among es → length es ≤ most_stream
  whole_long s q y tenure es h all =
      let few = cover_few events legal s q written (λ i. sent i q s) h.pages h.cover (given s q y tenure h.pages (subst Among h.are all)) in
      let long = fenced_long s q y tenure h.pages in
      subst (λ xs. length xs ≤ most_stream) (sym h.are) (omega (arith, few, long))

  broken_long : (s q y tenure : ℕ) (why : Reason) (es : List Event) → IsBroken s q y tenure why es → Among es → length es ≤ most_stream
  broken_long s q y tenure why es (inl fence) all = let few = refused_few q s (call.Fence tenure) why es fence in omega (arith, few)
  broken_long s q y tenure why es (inr h) all =
      let front = fenced_pages s q y tenure h.pages in
      let long = going_long s q y tenure h.pages h.next h.before (among_left es front h.last h.are all) in
      let few = refused_few q s (call.Page h.next) why h.last h.refused in
      subst (λ xs. length xs ≤ most_stream) (sym h.are) (omega (arith, long, few, length-append front h.last))

  merge_long : (s q y tenure : ℕ) (why : Reason) (es : List Event) → IsMergeRefused s q y tenure why es → Among es → length es ≤ most_stream
  merge_long s q y tenure why es h all =
      let front = fenced_pages s q y tenure h.pages in
      let gave = replied q s (call.Page h.next) (reply.Paged h.page) in
      let long = going_long s q y tenure h.pages h.next h.before (among_left es front (gave ++ h.last) h.are all) in
      let few = refused_few y s (call.Merge h.page) why h.last h.refused in
      subst (λ xs. length xs ≤ most_stream) (sym h.are) (omega (arith, long, few, length-append front (gave ++ h.last), length-append gave h.last))

  part_long : (s q y tenure : ℕ) (es : List Event) → IsPartOfStream s q y tenure es → Among es → length es ≤ most_stream
  part_long s q y tenure es h all = elim h.are as (λ _. length es ≤ most_stream) [
    | inl is ↦ (
        let long = going_long s q y tenure h.pages h.next h.before (subst Among is all) in
        subst (λ xs. length xs ≤ most_stream) (sym is) (omega (arith, long))
        )
    | inr more ↦ (
        let front = fenced_pages s q y tenure h.pages in
        let gave = replied q s (call.Page h.next) (reply.Paged more.0) in
        let long = going_long s q y tenure h.pages h.next h.before (among_left es front gave more.1 all) in
        subst (λ xs. length xs ≤ most_stream) (sym more.1) (omega (arith, long, length-append front gave))
        )
  ]

  peer_long : (s y tenure : ℕ) (p : AskedPeer) → HasAnswered s y tenure p → Among p.added → length p.added ≤ most_stream
  peer_long s y tenure p h all = by p.why h
    where
      by : (o : Option Reason) → MatchOption o (IsWhole s p.node y tenure p.added) (λ why. IsBroken s p.node y tenure why p.added) → length p.added ≤ most_stream
      by None whole = whole_long s p.node y tenure p.added whole all
      by (Some why) broken = broken_long s p.node y tenure why p.added broken all

  -- ---- a replica of the node

  module _ (place : Placement) (lawful : IsLawful place) where
    abbrev added_of : AskedPeer → List Event
    added_of p = p.added

    -- what its peers add at most
    abbrev most_peers : ℕ
    most_peers = most_stream * 5

    -- and what comes of it at most
    abbrev pub most_opened : ℕ
    most_opened = most_peers + (most_stream + 2)

    peers_long : (s y : ℕ) (shard : Shard) (tenure : ℕ) (peers : List AskedPeer) (left : List ℕ) → slice_get place.shards s ≡ Some shard → AreAsked place s shard y tenure peers left → Among (flat_map added_of peers) → length (flat_map added_of peers) ≤ most_peers
    peers_long s y shard tenure peers left there asked all =
        flat_within added_of most_stream 5 peers (λ p m. peer_long s y tenure p (asked.each p m) (λ e k. all e (flat_map-IsIn added_of peers p e m k))) (asked_few place lawful s y shard tenure peers left there asked)

    broken_off_long : (s y : ℕ) (shard : Shard) (tenure : ℕ) (why : Reason) (es : List Event) → slice_get place.shards s ≡ Some shard → IsBrokenOff place s shard y tenure why es → Among es → length es ≤ most_peers + most_stream
    broken_off_long s y shard tenure why es there h all =
        let front = flat_map added_of h.peers in
        let first = peers_long s y shard tenure h.peers (h.peer ∷ h.left) there h.asked (among_left es front h.last h.are all) in
        let last = merge_long s h.peer y tenure why h.last h.refused (among_right es front h.last h.are all) in
        subst (λ xs. length xs ≤ most_peers + most_stream) (sym h.are) (omega (arith, first, last, length-append front h.last))

    -- behind the begin
    begun_long : (s y tenure fence : ℕ) (points : List Point) (es rest : List Event) → es ≡ replied y s (call.Begin tenure) (reply.Began fence points) ++ rest → length rest ≤ most_peers + most_stream → length es ≤ most_opened
    begun_long s y tenure fence points es rest is few = subst (λ xs. length xs ≤ most_opened) (sym is) (omega (arith, few, length-append (replied y s (call.Begin tenure) (reply.Began fence points)) rest))

    breaks_long : (s y : ℕ) (own : Assignment) (given : IsGiven place y s own) (why : Reason) (es : List Event) → BreaksOff place s y own given why es → Among es → length es ≤ most_opened
    breaks_long s y own given why es h all =
        begun_long s y own.tenure h.fence h.points es h.streamed h.are (broken_off_long s y given.shard own.tenure why h.streamed given.there h.broken (among_right es (replied y s (call.Begin own.tenure) (reply.Began h.fence h.points)) h.streamed h.are all))

    stays_long : (s y : ℕ) (es : List Event) → StaysAsItWas place s y es → Among es → length es ≤ most_opened
    stays_long s y es h all = elim h.so as (λ _. length es ≤ most_opened) [
      | inl passed ↦ subst (λ xs. length xs ≤ most_opened) (sym passed.are) (omega arith)
      | inr other ↦ elim other as (λ _. length es ≤ most_opened) [
        | inl alone ↦ subst (λ xs. length xs ≤ most_opened) (sym alone.are) (omega arith)
        | inr broken ↦ breaks_long s y h.own h.given broken.0 es broken.2 all
      ]
    ]

    joined_long : (s y : ℕ) (j : Join) (es : List Event) → HasJoinedBy place s y j es → Among es → length es ≤ most_opened
    joined_long s y j es h all =
        let front = replied y s (call.Begin (h.joining).tenure) (reply.Began h.fence h.points) in
        let streams = flat_map added_of h.peers in
        let few = peers_long s y (h.given).shard (h.joining).tenure h.peers h.left (h.given).there h.asked (among_right es front streams h.are all) in
        begun_long s y (h.joining).tenure h.fence h.points es streams h.are (omega (arith, few))

    pub opened_long : (y : ℕ) (o : Opened) → IsOpened place y o → Among o.added → length o.added ≤ most_opened
    opened_long y o h all = by o.joined h
      where
        by : (j : Option Join) → MatchOption j (StaysAsItWas place o.shard y o.added) (λ k. HasJoinedBy place o.shard y k o.added) → length o.added ≤ most_opened
        by None stays = stays_long o.shard y o.added stays all
        by (Some j) joined = joined_long o.shard y j o.added joined all

    pub held_long : (s y : ℕ) (why : Reason) (es : List Event) → IsHeldUp place s y why es → Among es → length es ≤ most_opened
    held_long s y why es h all = elim h.so as (λ _. length es ≤ most_opened) [
      | inl refused ↦ let few = refused_few y s (call.Begin (h.own).tenure) why es refused in omega (arith, few)
      | inr broken ↦ breaks_long s y h.own h.given why es broken all
    ]

    pub missed_long : (s y : ℕ) (peers : List AskedPeer) (es : List Event) → MissesPeers place s y peers es → Among es → length es ≤ most_opened
    missed_long s y peers es h all =
        let front = replied y s (call.Begin (h.joining).tenure) (reply.Began h.fence h.points) in
        let streams = flat_map added_of peers in
        let few = peers_long s y (h.given).shard (h.joining).tenure peers [] (h.given).there h.asked (among_right es front streams h.are all) in
        begun_long s y (h.joining).tenure h.fence h.points es streams h.are (omega (arith, few))

    pub short_long : (s y : ℕ) (es : List Event) → StopsShort place s y es → Among es → length es ≤ most_opened
    short_long s y es h all =
        let front = replied y s (call.Begin (h.joining).tenure) (reply.Began h.fence h.points) in
        let streams = flat_map added_of h.peers in
        let behind = among_right es front (streams ++ h.last) h.are all in
        let few = peers_long s y (h.given).shard (h.joining).tenure h.peers h.left (h.given).there h.asked (among_left (streams ++ h.last) streams h.last refl behind) in
        let last : length h.last ≤ most_stream = elim h.part as (λ _. length h.last ≤ most_stream) [
          | inl none ↦ subst (λ xs. length xs ≤ most_stream) (sym none) (omega arith)
          | inr part ↦ part_long s part.0 y (h.joining).tenure h.last part.3 (among_right (streams ++ h.last) streams h.last refl behind)
        ] in
        begun_long s y (h.joining).tenure h.fence h.points es (streams ++ h.last) h.are (omega (arith, few, last, length-append streams h.last))
