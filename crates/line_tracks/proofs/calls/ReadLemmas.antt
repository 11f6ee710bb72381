-- The events of a read tell of its line, whatever it answers.
use Rattle.std.proofs.Common.{◌≡◌, ℕ, zero, suc, ◌+◌, ◌*◌, ◌<◌, ◌≤◌, List, [], ◌∷◌, ◌++◌, map, length, take, refl, sym, ap, ap₂, subst, ◌∙◌, inl, inr, arith, Bool, append_assoc, length-append, IsPermutation}
use Rattle.std.specs.Prelude.{◌⊎◌, Option, Some, None, Ok, Err, count_by, filter}
use Rattle.std.proofs.lemmas.List.{length-map}
use Rattle.std.proofs.lemmas.List.Sorted.{IsPermutation-refl, length_permutation}
use Rattle.std.proofs.lemmas.List.Sums.{count_by-le-length, length-filter}
use Rattle.m3_model.specs.Ascends.{Ascends}
use Rattle.m3_model.specs.Levels.{needed_read}
use Rattle.m3_model.specs.Members.{IsIn}
use Rattle.m3_model.specs.Reads.{Found, Read, found_of, read_of}
use Rattle.m3_model.specs.declared.act.Act.{Act}
use Rattle.m3_model.specs.declared.act.ReadLevel.{ReadLevel}
use Rattle.m3_model.specs.declared.answer.Answer.{Answer}
use Rattle.m3_model.specs.declared.answer.Answer.TheVariants as answer
use Rattle.m3_model.specs.declared.limits.TheConstants.{MOST_REQUEST_EVENTS}
use Rattle.m3_model.specs.declared.placement.Assignment.{Assignment}
use Rattle.m3_model.specs.declared.placement.Placement.{Placement}
use Rattle.m3_model.specs.declared.point.Pick.{Pick}
use Rattle.m3_model.specs.declared.point.Pick.TheVariants as pick
use Rattle.m3_model.specs.declared.point.Series.{Series}
use Rattle.m3_model.specs.declared.rules.MetaState.{MetaState}
use Rattle.m3_model.specs.declared.rules.Rules.{Rules}
use Rattle.m3_model.specs.declared.turn.Turn.{Turn}
use Rattle.m3_outside.specs.declared.disk.Disk.{Ghosts}
use Rattle.cluster_core.specs.Legal.{Legal}
use Rattle.cluster_core.specs.Lists.{At}
use Rattle.cluster_core.specs.Replicas.{replica}
use Rattle.cluster_core.specs.declared.event.Event.{Event}
use Rattle.cluster_core.specs.declared.event.Event.TheVariants as event
use Rattle.cluster_core.specs.declared.event.StepCall.{StepCall}
use Rattle.cluster_core.specs.declared.event.StepCall.TheVariants as call
use Rattle.cluster_core.specs.declared.event.StepReply.{StepReply}
use Rattle.cluster_core.specs.declared.event.StepReply.TheVariants as reply
use Rattle.cluster_core.proofs.ListLemmas.{at_append, at_in, at_same, at_within, in_at, take_at}
use Rattle.placement_core.specs.NodeNames.{IsNamedBelow}
use Rattle.placement_core.specs.Shards.{counted, is_available, shard_at}
use Rattle.session_net.specs.replica_exchange.declared.call_id.CallId.{CallId}
use Rattle.session_net.specs.Outcomes.{answering, refusing}
use Rattle.session_net.specs.Reads.{AreRead, IsAsked, ShardRead, Wish, asked_shards, count_from, done_of, ended_of, read_of as read_call, start_of, told_in}
use Rattle.session_net.specs.declared.net.Net.{Net}
use Rattle.told_runs.specs.Answers.{HearsOf, IsOfKind}
use Rattle.told_runs.specs.told_by.Spans.{From}
use Rattle.told_runs.specs.told_by.Hears.{HearsBy, Happens, HasEnough, HearsShard, InStretch, IsOwnCall}
use Rattle.told_runs.specs.told_by.Lines.{start_of as told_start, AreFetched, AreSteps, Finds, IsAskOrStep, IsCutShort, ReadLine, position_after}
use Rattle.told_runs.specs.told_by.Makes.{EndsRestart, CountsOwnReads, MayMake}
use Rattle.told_runs.specs.told_by.Reads.{Asking, Fetched, IsAskedBy, IsAskingOf}
use Rattle.told_runs.proofs.told_by_proofs.OneLemmas.{back_at}
use Rattle.told_runs.specs.transcripts.Calls.{IsAskedOf, Call}
use Rattle.told_runs.specs.transcripts.Fates.{call_number}
use Rattle.told_runs.specs.transcripts.Placements.{IsCounted, MayUse, printed}
use Rattle.told_runs.specs.transcripts.Record.{TurnPosition}
use Rattle.told_runs.specs.transcripts.Rules.{rules_at}
use Rattle.line_tracks.specs.calls.Laws.{IsCalm, LeavesLine}
use Rattle.line_tracks.specs.calls.ReadLaws.{IsReadTurn}
use Rattle.line_tracks.proofs.calls.ServeLemmas.{answered, delivered_so, few_members, serves_so}
use Rattle.line_tracks.proofs.calls.HeardLemmas.{IsExchangedBy, each_came, events_are, few_events, heard_nodes}
use Rattle.line_tracks.proofs.calls.ShardLemmas.{AreHeardOf, IsCallBy, answering_by_name, answering_counted, answering_served, counted_among_nodes, delivered_to, hears_shard}
use Rattle.line_tracks.proofs.calls.ToldLemmas.{IsIn-permuted, heard_ok, permuted-IsIn}
use Rattle.line_tracks.proofs.calls.WriteLemmas.{fate_here, lawful_past, may_use, number_here, placed_in}
use Rattle.line_tracks.proofs.calls.StandLemmas.{StandsIn, IsOfRead, stand, locate}
use Rattle.line_tracks.proofs.calls.ActLemmas.{is_call_of, never_writes, read_sets_none, read_seeds_none, read_not_unmet, read_asks, PicksBy, pick_by, asked_is, is_asked, start_shard, start_version, start_pick, start_from, start_to, read_says, distinct_by_name}

-- ---- the read

module _ {D : Type 0} {G : Ghosts D} (start : Option MetaState) (turns : List Turn) (net : Net D G) (id : CallId) (a : Act) (w : Wish) (level : ReadLevel) (r : IsReadTurn start turns net id a w level) (b : Answer) where
  abbrev pub here : TurnPosition
  here = position_after turns a b

  abbrev place : Placement
  place = net.state.place

  abbrev events : List Event
  events = net.replicas.events

  abbrev pub call_made : Call
  call_made = record { id = r.name; version = r.version; needed = needed_read level }

  abbrev read_made : Read
  read_made = record { pick = w.pick; from = w.from; to = w.to; level = level }

  abbrev pub asks_for : Asking
  asks_for = record { read = read_made; call = call_made; place = place }

  abbrev step_call : StepCall
  step_call = read_call id net.state.rules place.version w

  abbrev shards : List ℕ
  shards = asked_shards net.state w.pick

  rules_here : net.state.rules ≡ rules_at start here
  rules_here = sym (r.left).rules

  number_is : id.number ≡ call_number here
  number_is = number_here start turns net id r.left r.next a b

  known : IsCallBy here place net.fates id
  known = record { calls = is_call_of a net.state.rules.spaces read_made r.of_act; lawful = (r.ready).lawful; fates_are = fate_here start turns net id r.left r.next a b }

  placed : (i : ℕ) × (done : List (ℕ × ℕ)) × At events i (event.Place place done)
  placed = placed_in events place (r.ready).place

  opened : 0 < length events
  opened = let low = at_within events placed.0 (event.Place place placed.1) placed.2 in omega (arith, low)

  pub uses_it : MayUse start here r.version place
  uses_it = may_use start turns net id r.left r.next a b

  of_turn : IsAskingOf start events here asks_for
  of_turn = record { of_act = ap (λ (x : Rules). read_of x.spaces a) (sym rules_here) ∙ r.of_act; of_call = r.of_call; uses = record { may_use = uses_it; place_at = placed.0; done = placed.1; there = placed.2 } }

  picks : PicksBy r.name w.pick
  picks = pick_by a net.state.rules.spaces read_made call_made r.of_act r.of_call

  pub asked_in : (s : ℕ) → IsAskedBy start here asks_for s → IsIn shards s
  asked_in s h = asked_is r.name w.pick net.state picks s (subst (λ seed. IsAskedOf r.name seed (length place.shards) s) (r.left).seed h)

  pub in_asked : (s : ℕ) → IsIn shards s → IsAskedBy start here asks_for s
  in_asked s m = subst (λ seed. IsAskedOf r.name seed (length place.shards) s) (sym (r.left).seed) (is_asked r.name w.pick net.state picks s m)

  own_read : IsOwnCall start here place.version step_call
  own_read = (r.next.0, number_is, rules_here, refl, never_writes a net.state.rules.spaces read_made r.of_act)

  pub start_same : (s : ℕ) → start_of net.state w s ≡ told_start start here asks_for s
  start_same s = ap (λ x. event.FetchStart place.version s x w.pick w.from w.to) rules_here

  -- ---- what nodes of a shard were asked

  module _ (s : ℕ) (nodes : List ℕ) (own : List Event) (each : (e : Event) → IsIn own e → IsExchangedBy net.fates id s step_call nodes e) (within : (n : ℕ) → IsIn nodes n → IsCounted place s n) where
    pub reads_steps : AreSteps own
    reads_steps e m = let y = each e m in elim y.is as (λ _. IsAskOrStep e) [ inl is ↦ subst IsAskOrStep (sym is) tt | inr is ↦ subst IsAskOrStep (sym is.1) tt ]

    pub reads_calm : (e : Event) → IsIn own e → IsCalm e
    reads_calm e m = let y = each e m in elim y.is as (λ _. IsCalm e) [ inl is ↦ subst IsCalm (sym is) tt | inr is ↦ subst IsCalm (sym is.1) tt ]

    pub not_restarted : (n t : ℕ) (a : StepReply) → IsIn own (event.Step n t call.Restart a) → ⊥
    not_restarted n t a m = let y = each (event.Step n t call.Restart a) m in elim y.is as (λ _. ⊥) [ inl is ↦ cc | inr is ↦ (let clash : event.Step n t call.Restart a ≡ event.Step y.node s step_call is.0 = is.1 in cc) ]

    pub make_read : (all : List Event) → ((i : ℕ) (e : Event) → At events i e → At all i e) → (begun : ℕ) → length events ≤ begun → At all begun (start_of net.state w s) → (i k : ℕ) (e : Event) → i ≡ begun + suc k → At own k e → MayMake start (take i all) here e
    make_read all longer begun low started i k e is at =
        let y = each e (at_in own k e at) in
        let node_in = counted_among_nodes (shard_at place s) y.node (within y.node y.among) in
        elim y.is as (λ _. MayMake start (take i all) here e) [
          | inl asks ↦ subst (MayMake start (take i all) here) (sym asks) (read_asks start (take i all) here a net.state.rules.spaces read_made r.of_act y.node s id.client id.number net.state.rules place.version w.pick w.from w.to (record {
            of_call = record { client_is = r.next.0; number_is = number_is; rules_are = rules_here };
            began = begun;
            started = take_at all begun i (start_of net.state w s) started (omega (arith, is));
            place = place;
            is_place = record { place_at = placed.0; done = placed.1; there = take_at all placed.0 i (event.Place place placed.1) (longer placed.0 (event.Place place placed.1) placed.2) (let below = at_within events placed.0 (event.Place place placed.1) placed.2 in omega (arith, below, low, is)); version_is = refl };
            counted = within y.node y.among;
            delivered = delivered_to start (λ i e. ⊥) here place net.fates id known s y.node node_in y.delivered;
          }))
          | inr step ↦ subst (MayMake start (take i all) here) (sym step.1) tt
        ]

  -- ---- one shard

  module _ (s : ℕ) (x : ShardRead) (asked : IsAsked net.state net.fates id w s x) where
    nodes_are : map (λ y. y.0) x.heard ≡ x.nodes
    nodes_are = heard_nodes reply.Found net.fates id s step_call x.nodes x.heard x.reads asked.heard

    pub node_counted : (n : ℕ) → IsIn x.nodes n → IsCounted place s n
    node_counted n m = permuted-IsIn (counted (shard_at place s)) x.nodes (asked.counted).same n m

    were_heard : AreHeardOf reply.Found place net.fates id s step_call x.heard x.reads
    were_heard = record {
      within = λ n m. node_counted n (subst (λ ns. IsIn ns n) nodes_are m);
      all = λ n m. subst (λ ns. IsIn ns n) (sym nodes_are) (IsIn-permuted (counted (shard_at place s)) x.nodes (asked.counted).same n m);
      many = ap length nodes_are ∙ length_permutation (counted (shard_at place s)) x.nodes (asked.counted).same;
      by_name = subst (Ascends (IsNamedBelow place)) (sym nodes_are) ((asked.counted).by_name (r.ready).lawful);
      came = each_came reply.Found net.fates id s step_call x.nodes x.heard x.reads asked.heard;
    }

    pub each_read : (e : Event) → IsIn x.reads e → IsExchangedBy net.fates id s step_call x.nodes e
    each_read = events_are reply.Found net.fates id s step_call x.nodes x.heard x.reads asked.heard

    took : (n : ℕ) → IsIn (answering (told_in x)) n → (series : List Series) × IsIn x.reads (event.Step n s step_call (reply.Found series))
    took n m = let y = heard_ok x.heard n m in (y.0, (were_heard.came (n, Ok y.0) y.1).1)

    -- where its read begins in the list, and its steps stand behind that
    module _ (all : List Event) (longer : (i : ℕ) (e : Event) → At events i e → At all i e) (begun : ℕ) (low : length events ≤ begun) (started : At all begun (start_of net.state w s)) (each : (k : ℕ) (e : Event) → At x.reads k e → At all (begun + suc k) e) where
      make_done : (i : ℕ) → i ≡ begun + (1 + length x.reads) → CountsOwnReads start (take i all) here begun (answering (told_in x))
      make_done i is v t rules chosen from to there n m =
          let y = took n m in
          let at = in_at x.reads (event.Step n s step_call (reply.Found y.0)) y.1 in
          let below = at_within x.reads at.0 (event.Step n s step_call (reply.Found y.0)) at.1 in
          let same : start_of net.state w s ≡ event.FetchStart v t rules chosen from to = at_same (take i all) begun (start_of net.state w s) (event.FetchStart v t rules chosen from to) (take_at all begun i (start_of net.state w s) started (omega (arith, is))) there in
          let step : event.Step n s step_call (reply.Found y.0) ≡ event.Step n t (call.Read here.client (call_number here) (rules_at start here) v chosen from to) (reply.Found y.0) =
          λ j. event.Step n (start_shard s t same j) (call.Read (r.next.0 j) (number_is j) (rules_here j) (start_version place.version v same j) (start_pick w.pick chosen same j) (start_from w.from from same j) (start_to w.to to same j)) (reply.Found y.0) in
          record {
            position = begun + suc at.0;
            later = omega arith;
            series = y.0;
            answered = subst (At (take i all) (begun + suc at.0)) step (take_at all (begun + suc at.0) i (event.Step n s step_call (reply.Found y.0)) (each at.0 (event.Step n s step_call (reply.Found y.0)) at.1) (omega (arith, is, below)));
          }

      abbrev Here : ℕ → Event → Type 0
      Here = InStretch all (length events) (length all)

      happens : (e : Event) → IsIn x.reads e → Happens Here e
      happens e m = let at = in_at x.reads e m in let there = each at.0 e at.1 in (begun + suc at.0, (omega (arith, low), at_within all (begun + suc at.0) e there, there))

      pub has_enough : (needed : ℕ) → needed ≤ length (answering (told_in x)) → HasEnough start Here here place s needed
      has_enough needed enough = record {
        nodes = answering (told_in x);
        distinct = distinct_by_name place (answering (told_in x)) (answering_by_name start Here here place net.fates id known reply.Found s step_call x.heard x.reads own_read happens (λ u. tt) were_heard);
        counted = answering_counted start Here here place net.fates id known reply.Found s step_call x.heard x.reads own_read happens (λ u. tt) were_heard;
        served = answering_served start Here here place net.fates id known reply.Found s step_call x.heard x.reads own_read happens (λ u. tt) were_heard;
        enough = enough;
      }

      pub hears_it : (tells : Bool) → Legal tells all → HearsShard start Here here place s (length (answering (told_in x))) (refusing (told_in x))
      hears_it tells legal = hears_shard start Here here place net.fates id known reply.Found s step_call x.heard x.reads own_read happens (λ u. tt) were_heard (λ n why i m.
          let at = in_at x.reads (event.Step n s step_call (reply.Refused why)) m in
          let there = each at.0 (event.Step n s step_call (reply.Refused why)) at.1 in
          let k = begun + suc at.0 in
          let lawful = lawful_past tells k (take k all) (event.Step n s step_call (reply.Refused why)) (let some = opened in omega (arith, some, low)) (legal k (event.Step n s step_call (reply.Refused why)) there) in
          read_says tells (take k all) s (replica n s (take k all)) step_call why (λ damage is. asked.forms (n, Err why) i damage (ap Err is)) lawful.1)

  -- ---- shards one after the other

  abbrev pub needed : ℕ
  needed = needed_read level place.rf

  abbrev pub fetched_in : (ℕ → ShardRead) → ℕ → Fetched
  fetched_in reads s = record { began = (reads s).begun; ended = ended_of (reads s); nodes = answering (told_in (reads s)); series = (reads s).series }

  fetched_of : (reads : ℕ → ShardRead) (some : List ℕ) (low : ℕ) (whole tail : List Event) → AreRead net.state net.fates id w needed low some reads whole → ((s : ℕ) → IsIn some s → IsAskedBy start here asks_for s) → AreSteps tail ⊎ IsCutShort start here asks_for tail
      → AreFetched start here asks_for (fetched_in reads) low some (whole ++ tail)
  fetched_of reads [] low whole tail h asks ends = subst (λ es. AreFetched start here asks_for (fetched_in reads) low [] (es ++ tail)) (sym h) ends
  fetched_of reads (s ∷ some) low whole tail h asks ends = (
    h.2 ++ tail,
    record {
      asked = asks s (inl refl);
      reads = (reads s).reads;
      steps = reads_steps s (reads s).nodes (reads s).reads (each_read s (reads s) h.0) (node_counted s (reads s) h.0);
      adds = ap (λ es. es ++ tail) h.3 ∙ ap (λ es. start_of net.state w s ∷ es) (append_assoc (reads s).reads (done_of (reads s) ∷ h.2) tail)
          ∙ ap₂ (λ x y. x ∷ ((reads s).reads ++ y ∷ (h.2 ++ tail))) (start_same s) (ap (λ k. event.FetchDone k (answering (told_in (reads s))) (reads s).series) (h.1).begun);
      began_is = (h.1).begun;
      ended_is = ap (λ k. k + (1 + length (reads s).reads)) (h.1).begun;
    },
    fetched_of reads some (suc (ended_of (reads s))) h.2 tail h.4 (λ t m. asks t (inr m)) ends,
  )

  pub few_nodes : (s : ℕ) (nodes : List ℕ) → IsPermutation (counted (shard_at place s)) nodes → length nodes ≤ 6
  few_nodes s nodes same =
      let long = length_permutation (counted (shard_at place s)) nodes same in
      let all = few_members place (r.ready).lawful s (shard_at place s) (IsPermutation-refl (shard_at place s)) in
      let some = count_by-le-length is_available (shard_at place s) in
      let many : length (counted (shard_at place s)) ≡ count_by is_available (shard_at place s) = length-map (filter is_available (shard_at place s)) (λ (x : Assignment). x.node) ∙ length-filter is_available (shard_at place s) in
      omega (arith, long, all, some, many)

  pub few_read : (reads : ℕ → ShardRead) (some : List ℕ) (low : ℕ) (whole : List Event) → AreRead net.state net.fates id w needed low some reads whole → length whole ≤ 26 * length some
  few_read reads [] low whole h = let none : length whole ≡ 0 = ap length h in omega (arith, none)
  few_read reads (s ∷ some) low whole h =
      let size : length whole ≡ length (start_of net.state w s ∷ ((reads s).reads ++ done_of (reads s) ∷ h.2)) = ap length h.3 in
      let parts = length-append (reads s).reads (done_of (reads s) ∷ h.2) in
      let here = few_events reply.Found net.fates id s step_call (reads s).nodes (reads s).heard (reads s).reads (h.0).heard in
      let nodes = few_nodes s (reads s).nodes ((h.0).counted).same in
      let rest = few_read reads some (suc (ended_of (reads s))) h.2 h.4 in
      omega (arith, size, parts, here, nodes, rest)

  pub few_shards : length shards ≤ 64
  few_shards = by w.pick
    where
      counts : (first n : ℕ) → length (count_from first n) ≡ n
      counts first zero = refl
      counts first (suc n) = ap suc (counts (suc first) n)

      by : (chosen : Pick) → length (asked_shards net.state chosen) ≤ 64
      by (pick.One ns i) = omega arith
      by (pick.Match ns wanted) = let many = counts 0 (length place.shards) in let few = (((r.ready).lawful).limits).few_shards in omega (arith, many, few)

  module _ (reads : ℕ → ShardRead) (some : List ℕ) (whole tail : List Event) (are : AreRead net.state net.fates id w needed (length events) some reads whole) where
    abbrev all : List Event
    all = events ++ (whole ++ tail)

    pub stands : (s : ℕ) → IsIn some s → StandsIn net.state net.fates id w needed reads all (length events) s
    stands = stand net.state net.fates id w needed reads all some (length events) whole events tail are refl refl

    pub longer : (i : ℕ) (e : Event) → At events i e → At all i e
    longer i e at = at_append events (whole ++ tail) i e at

    make_of : (i : ℕ) (e : Event) → IsOfRead net.state net.fates id w needed reads all some i e → MayMake start (take i all) here e
    make_of i e f =
        let x = stands f.s f.among in
        elim f.is as (λ _. MayMake start (take i all) here e) [
          | inl is ↦ subst (MayMake start (take i all) here) (sym is) tt
          | inr rest ↦ elim rest as (λ _. MayMake start (take i all) here e) [
            | inl own ↦ make_read f.s (reads f.s).nodes (reads f.s).reads (each_read f.s (reads f.s) x.asked) (node_counted f.s (reads f.s) x.asked) all longer (reads f.s).begun x.not_before x.started i own.0 e own.1 own.2
            | inr done ↦ subst (MayMake start (take i all) here) (sym done.1) (make_done f.s (reads f.s) x.asked all longer (reads f.s).begun x.not_before x.started x.each i done.0)
          ]
        ]

    found_at : (i : ℕ) (e : Event) → length events ≤ i → At all i e → IsOfRead net.state net.fates id w needed reads all some i e ⊎ ((j : ℕ) × (i ≡ (length events + length whole) + j) × At tail j e)
    found_at = locate net.state net.fates id w needed reads all some (length events) whole events tail are refl refl

    makes : ((i j : ℕ) (e : Event) → i ≡ (length events + length whole) + j → At tail j e → MayMake start (take i all) here e) → (i : ℕ) (e : Event) → length events ≤ i → 2 ≤ i → At all i e → MayMake start (take i all) here e
    makes ends i e le two at = elim (found_at i e le at) as (λ _. MayMake start (take i all) here e) [ inl f ↦ make_of i e f | inr last ↦ ends i last.0 e last.1 last.2 ]

    restart_of : (i n t : ℕ) (x : StepReply) → IsOfRead net.state net.fates id w needed reads all some i (event.Step n t call.Restart x) → ⊥
    restart_of i n t x f = elim f.is as (λ _. ⊥) [
      | inl is ↦ cc
      | inr rest ↦ elim rest as (λ _. ⊥) [ inl own ↦ not_restarted f.s (reads f.s).nodes (reads f.s).reads (each_read f.s (reads f.s) (stands f.s f.among).asked) (node_counted f.s (reads f.s) (stands f.s f.among).asked) n t x (at_in (reads f.s).reads own.0 (event.Step n t call.Restart x) own.2) | inr done ↦ (let clash = done.1 in cc) ]
    ]

    restarts : ((j n t : ℕ) (x : StepReply) → At tail j (event.Step n t call.Restart x) → ⊥) → (i n t : ℕ) (x : StepReply) → length events ≤ i → 2 ≤ i → At all i (event.Step n t call.Restart x) → EndsRestart (From (length events)) all (λ _. here) here i n t
    restarts none i n t x le two at = elim (found_at i (event.Step n t call.Restart x) le at) as (λ _. EndsRestart (From (length events)) all (λ _. here) here i n t) [ inl f ↦ absurd (restart_of i n t x f) | inr last ↦ absurd (none last.0 n t x last.2) ]

    calm_of : (i : ℕ) (e : Event) → IsOfRead net.state net.fates id w needed reads all some i e → IsCalm e
    calm_of i e f = elim f.is as (λ _. IsCalm e) [
      | inl is ↦ subst IsCalm (sym is) tt
      | inr rest ↦ elim rest as (λ _. IsCalm e) [ inl own ↦ reads_calm f.s (reads f.s).nodes (reads f.s).reads (each_read f.s (reads f.s) (stands f.s f.among).asked) (node_counted f.s (reads f.s) (stands f.s f.among).asked) e (at_in (reads f.s).reads own.0 e own.2) | inr done ↦ subst IsCalm (sym done.1) tt ]
    ]

    pub calm : ((e : Event) → IsIn tail e → IsCalm e) → (e : Event) → IsIn (whole ++ tail) e → IsCalm e
    calm ends e m =
        let at = in_at (whole ++ tail) e m in
        elim (found_at (length events + at.0) e (omega arith) (back_at events (whole ++ tail) at.0 e at.1)) as (λ _. IsCalm e) [ inl f ↦ calm_of (length events + at.0) e f | inr last ↦ ends e (at_in tail last.0 e last.2) ]

    -- the line, whatever came last
    pub line : ((s : ℕ) → IsIn some s → IsAskedBy start here asks_for s) → AreSteps tail ⊎ IsCutShort start here asks_for tail → ((nodes : List ℕ) → b ≡ answer.Acks nodes → ⊥) → printed b ≡ None
        → ((i j : ℕ) (e : Event) → i ≡ (length events + length whole) + j → At tail j e → MayMake start (take i all) here e) → ((j n t : ℕ) (x : StepReply) → At tail j (event.Step n t call.Restart x) → ⊥)
        → HearsBy start events (InStretch all (length events) (length all)) here a b → ((found : Found) → found_of b ≡ Some found → Finds start here asks_for (fetched_in reads) some found) → ReadLine start turns events a b (whole ++ tail)
    line asks ends no_acks no_place may none hears finds = record {
      makes = record { makes = makes may; restarts = restarts none; hears = hears };
      asking = asks_for;
      of_turn = of_turn;
      no_acks = no_acks;
      not_unmet = read_not_unmet a b net.state.rules.spaces read_made r.of_act;
      no_rules = read_sets_none a b net.state.rules.spaces read_made r.of_act;
      no_seed = read_seeds_none a b net.state.rules.spaces read_made r.of_act;
      no_place = no_place;
      opened = opened;
      fetches = fetched_in reads;
      shards = some;
      adds = fetched_of reads some (length events) whole tail are asks ends;
      finds = finds;
    }

  pub leaves : (new : Net D G) (more : List Event) → new.replicas.events ≡ events ++ more → ReadLine start turns events a b more → ((e : Event) → IsIn more e → IsCalm e) → length more ≤ MOST_REQUEST_EVENTS
      → (b ≡ answer.Memory) ⊎ IsOfKind [] start here a b → HearsOf start (InStretch (events ++ more) (length events) (length (events ++ more))) here [] b → LeavesLine ReadLine start turns [] net a b new
  leaves new more grew line calm few kind heard = record {
    more = more;
    grew = grew;
    line = line;
    serves = λ none. serves_so start turns events a b more calm few [] heard (λ x m. absurd m) (answered start turns events a b more calm kind none);
    delivered = delivered_so turns a b [] (λ x m. absurd m);
  }
