-- The events of a read that wasn't answered tell of its line: too few answered it, or it ended early.
use Rattle.std.proofs.Common.{◌≡◌, ℕ, zero, suc, ◌+◌, ◌<◌, ◌≤◌, List, [], ◌∷◌, ◌++◌, length, take, refl, sym, ap, subst, ◌∙◌, inl, inr, arith, length-append}
use Rattle.std.specs.Prelude.{◌⊎◌, Option, Some, None}
use Rattle.std.proofs.lemmas.List.{append-nil}
use Rattle.m3_model.specs.Ascends.{Ascends}
use Rattle.m3_model.specs.Levels.{needed_read}
use Rattle.m3_model.specs.Members.{IsIn}
use Rattle.m3_model.specs.Reads.{found_of}
use Rattle.m3_model.specs.declared.act.Act.{Act}
use Rattle.m3_model.specs.declared.act.ReadLevel.{ReadLevel}
use Rattle.m3_model.specs.declared.answer.Answer.{Answer}
use Rattle.m3_model.specs.declared.answer.Answer.TheVariants as answer
use Rattle.m3_model.specs.declared.limits.TheConstants.{MOST_REQUEST_EVENTS}
use Rattle.m3_model.specs.declared.rules.MetaState.{MetaState}
use Rattle.m3_model.specs.declared.turn.Turn.{Turn}
use Rattle.m3_outside.specs.DiskState.{DiskState}
use Rattle.m3_outside.specs.declared.disk.Disk.{Ghosts}
use Rattle.cluster_core.specs.Legal.{Legal}
use Rattle.cluster_core.specs.Lists.{At}
use Rattle.cluster_core.specs.declared.event.Event.{Event}
use Rattle.cluster_core.specs.declared.event.Event.TheVariants as event
use Rattle.cluster_core.specs.declared.event.StepCall.TheVariants as call
use Rattle.cluster_core.specs.declared.event.StepReply.{StepReply}
use Rattle.cluster_core.specs.declared.event.StepReply.TheVariants as reply
use Rattle.cluster_core.proofs.ListLemmas.{at_append, at_in, some_same}
use Rattle.placement_core.specs.Shards.{counted, shard_at}
use Rattle.session_net.specs.replica_exchange.declared.call_id.CallId.{CallId}
use Rattle.session_net.specs.Outcomes.{answering}
use Rattle.session_net.specs.Reads.{ShardRead, Wish, asked_shards, most_added, read_of as read_call, start_of, told_in, IsStopped, WereRead, IsCutShort as IsCut}
use Rattle.session_net.specs.declared.net.Net.{Net}
use Rattle.told_runs.specs.Answers.{HearsOf, IsOfKind, MayLackRoom}
use Rattle.told_runs.specs.told_by.Hears.{HearsBy, HearsShard, InStretch}
use Rattle.told_runs.specs.told_by.Lines.{IsCutShort, ReadLine, position_after}
use Rattle.told_runs.specs.told_by.Makes.{MayMake}
use Rattle.told_runs.specs.told_by.Reads.{IsAskedBy}
use Rattle.told_runs.proofs.told_by_proofs.OneLemmas.{back_at}
use Rattle.told_runs.specs.transcripts.Placements.{IsCounted, printed}
use Rattle.line_tracks.specs.calls.Laws.{IsCalm, LeavesLine}
use Rattle.line_tracks.specs.calls.ReadLaws.{FirstShortTells, IsReadTurn, EndedTells, FullTells}
use Rattle.line_tracks.proofs.calls.HeardLemmas.{IsExchangedBy, events_are, few_events}
use Rattle.line_tracks.proofs.calls.ToldLemmas.{permuted-IsIn}
use Rattle.line_tracks.proofs.calls.ActLemmas.{unmet_kind, shards_ascend, stands_before}
use Rattle.line_tracks.proofs.calls.ReadLemmas.{call_made, asks_for, uses_it, asked_in, in_asked, few_read, few_shards, stands, longer, line, calm, leaves, has_enough, hears_it, reads_steps, reads_calm, not_restarted, make_read, start_same, few_nodes, each_read, node_counted}
use Rattle.m3_model.proofs.MemberLemmas.{IsIn-append_left, IsIn-append_right}
use Rattle.line_tracks.proofs.calls.ServeLemmas.{delivered_so, may_lack, serves_so}
use Rattle.line_tracks.proofs.calls.IdleLemmas.{IsIdle, finds_nothing, gives_no_acks, hears_nothing, prints_nothing}

-- ---- some first ones

take_in : (k : ℕ) (ns : List ℕ) (n : ℕ) → IsIn (take k ns) n → IsIn ns n
take_in zero ns n m = absurd m
take_in (suc k) [] n m = absurd m
take_in (suc k) (x ∷ ns) n (inl same) = inl same
take_in (suc k) (x ∷ ns) n (inr rest) = inr (take_in k ns n rest)

take_few : (k : ℕ) (ns : List ℕ) → length (take k ns) ≤ length ns
take_few zero ns = omega arith
take_few (suc k) [] = omega arith
take_few (suc k) (x ∷ ns) = let rest = take_few k ns in omega (arith, rest)

-- ---- behind whole reads, one that began

module _ {D : Type 0} {G : Ghosts D} (start : Option MetaState) (turns : List Turn) (old : Net D G) (id : CallId) (a : Act) (w : Wish) (level : ReadLevel) (r : IsReadTurn start turns old id a w level) (b : Answer) (before : List ℕ) (one : ℕ) (after : List ℕ)
    (reads : ℕ → ShardRead) (whole : List Event) (were : WereRead old.state old.fates id w (needed_read level old.state.place.rf) (length old.replicas.events) before (one ∷ after) reads whole) (nodes : List ℕ) (own : List Event)
    (each : (e : Event) → IsIn own e → IsExchangedBy old.fates id one (read_call id old.state.rules old.state.place.version w) nodes e) (within : (n : ℕ) → IsIn nodes n → IsCounted old.state.place one n) where
  abbrev pub tail : List Event
  tail = start_of old.state w one ∷ own

  abbrev pub whole_list : List Event
  whole_list = old.replicas.events ++ (whole ++ tail)

  abbrev pub begun : ℕ
  begun = length old.replicas.events + length whole

  pub low : length old.replicas.events ≤ begun
  low = omega arith

  there : (k : ℕ) (e : Event) → At tail k e → At whole_list (begun + k) e
  there k e at = let same : length old.replicas.events + (length whole + k) ≡ begun + k = omega arith in subst (λ j. At whole_list j e) same (back_at old.replicas.events (whole ++ tail) (length whole + k) e (back_at whole tail k e at))

  pub started : At whole_list begun (start_of old.state w one)
  started = let none : begun + 0 ≡ begun = omega arith in subst (λ j. At whole_list j (start_of old.state w one)) none (there 0 (start_of old.state w one) refl)

  pub each_there : (k : ℕ) (e : Event) → At own k e → At whole_list (begun + suc k) e
  each_there k e at = there (suc k) e at

  in_before : (s : ℕ) → IsIn before s → IsIn (asked_shards old.state w.pick) s
  in_before s m = subst (λ ns. IsIn ns s) (sym were.asked) (IsIn-append_left before (one ∷ after) s m)

  pub before_asked : (s : ℕ) → IsIn before s → IsAskedBy start (position_after turns a b) (asks_for start turns old id a w level r b) s
  before_asked s m = in_asked start turns old id a w level r b s (in_before s m)

  pub one_asked : IsAskedBy start (position_after turns a b) (asks_for start turns old id a w level r b) one
  one_asked = in_asked start turns old id a w level r b one (subst (λ ns. IsIn ns one) (sym were.asked) (IsIn-append_right before (one ∷ after) one (inl refl)))

  longer_so : (i : ℕ) (e : Event) → At old.replicas.events i e → At whole_list i e
  longer_so i e at = at_append old.replicas.events (whole ++ tail) i e at

  may : (i j : ℕ) (e : Event) → i ≡ begun + j → At tail j e → MayMake start (take i whole_list) (position_after turns a b) e
  may i zero e is at = subst (MayMake start (take i whole_list) (position_after turns a b)) (some_same (start_of old.state w one) e at) tt
  may i (suc k) e is at = make_read start turns old id a w level r b one nodes own each within whole_list longer_so begun low started i k e is at

  no_restart : (j n t : ℕ) (x : StepReply) → At tail j (event.Step n t call.Restart x) → ⊥
  no_restart zero n t x at = cc
  no_restart (suc k) n t x at = not_restarted start turns old id a w level r b one nodes own each within n t x (at_in own k (event.Step n t call.Restart x) at)

  calm_tail : (e : Event) → IsIn tail e → IsCalm e
  calm_tail e (inl is) = subst IsCalm is tt
  calm_tail e (inr m) = reads_calm start turns old id a w level r b one nodes own each within e m

  cut : IsCutShort start (position_after turns a b) (asks_for start turns old id a w level r b) tail
  cut = record { s = one; asked = one_asked; reads = own; steps = reads_steps start turns old id a w level r b one nodes own each within; adds = ap (λ x. x ∷ own) (start_same start turns old id a w level r b one) }

  few_so : length own ≤ 24 → length (whole ++ tail) ≤ MOST_REQUEST_EVENTS
  few_so short =
      let few = few_read start turns old id a w level r b reads before (length old.replicas.events) whole were.are in
      let most = few_shards start turns old id a w level r b in
      let parts : length (asked_shards old.state w.pick) ≡ length before + length (one ∷ after) = ap length were.asked ∙ length-append before (one ∷ after) in
      let long = length-append whole tail in
      omega (arith, few, most, parts, long, short)

  pub leaves_so : (new : Net D G) → new.replicas.events ≡ whole_list → length own ≤ 24 → ((nodes : List ℕ) → b ≡ answer.Acks nodes → ⊥) → printed b ≡ None → found_of b ≡ None → (b ≡ answer.Memory) ⊎ IsOfKind [] start (position_after turns a b) a b
      → HearsOf start (InStretch whole_list (length old.replicas.events) (length whole_list)) (position_after turns a b) [] b → HearsBy start old.replicas.events (InStretch whole_list (length old.replicas.events) (length whole_list)) (position_after turns a b) a b
      → LeavesLine ReadLine start turns [] old a b new
  leaves_so new grew short no_acks no_place no_found kind delivers hears = leaves start turns old id a w level r b new (whole ++ tail) grew
      (line start turns old id a w level r b reads before whole tail were.are before_asked (inr cut) no_acks no_place may no_restart hears (λ found is. absurd (let bad : None ≡ Some found = sym no_found ∙ is in cc)))
      (calm start turns old id a w level r b reads before whole tail were.are calm_tail) (few_so short) kind delivers

-- ---- too few

pub first_short_tells : {D : Type 0} {G : Ghosts D} (state : D → DiskState) (old : Net D G) → FirstShortTells state old
first_short_tells {D} {G} state old tells start turns new id a w level shard due got reasons r legal h =
    let b : Answer = answer.Consistency got due reasons shard in
    let x = h.last in
    let one = h.here in
    let spaces = old.state.rules.spaces in
    let each = each_read start turns old id a w level r b one x h.asked in
    let within = node_counted start turns old id a w level r b one x h.asked in
    let all = old.replicas.events ++ (h.events ++ start_of old.state w one ∷ x.reads) in
    let Here = InStretch all (length old.replicas.events) (length all) in
    let grew : new.replicas.events ≡ all = (h.ran).grew in
    let short = h.too_few in
    let begins = begun start turns old id a w level r b h.before one h.after h.reads h.events h.were x.nodes x.reads each within in
    let low_so = low start turns old id a w level r b h.before one h.after h.reads h.events h.were x.nodes x.reads each within in
    let starts = started start turns old id a w level r b h.before one h.after h.reads h.events h.were x.nodes x.reads each within in
    let reads_there = each_there start turns old id a w level r b h.before one h.after h.reads h.events h.were x.nodes x.reads each within in
    let tail_list = start_of old.state w one ∷ x.reads in
    let longer_list = longer start turns old id a w level r b h.reads h.before h.events tail_list (h.were).are in
    let asks = one_asked start turns old id a w level r b h.before one h.after h.reads h.events h.were x.nodes x.reads each within in
    let heard = hears_it start turns old id a w level r b one x h.asked all longer_list begins low_so starts reads_there tells (subst (Legal tells) grew legal) in
    let ascends : Ascends ◌<◌ (h.before ++ one ∷ h.after) = subst (Ascends ◌<◌) (h.were).asked (shards_ascend old.state w.pick) in
    let lower_stands : (lower : ℕ) → lower < shard → IsAskedBy start (position_after turns a b) (asks_for start turns old id a w level r b) lower → IsIn h.before lower = λ lower lt also.
    stands_before h.before one h.after ascends lower (subst (λ ns. IsIn ns lower) (h.were).asked (asked_in start turns old id a w level r b lower also)) (let same = short.shard_is in omega (arith, same, lt)) in
    leaves_so start turns old id a w level r b h.before one h.after h.reads h.events h.were x.nodes x.reads each within new grew
    (let few = few_events reply.Found old.fates id one (read_call id old.state.rules old.state.place.version w) x.nodes x.heard x.reads (h.asked).heard in let six = few_nodes start turns old id a w level r b one x.nodes ((h.asked).counted).same in omega (arith, few, six))
    (λ nodes e. cc) refl refl (inr (unmet_kind start (position_after turns a b) a spaces (record { pick = w.pick; from = w.from; to = w.to; level = level }) r.of_act got due reasons shard)) tt (record {
      call = call_made start turns old id a w level r b;
      of_call = r.of_call;
      place = old.state.place;
      may_use = uses_it start turns old id a w level r b;
      asked = subst (IsAskedBy start (position_after turns a b) (asks_for start turns old id a w level r b)) (sym short.shard_is) asks;
      needed_is = short.needed_is;
      fewer = short.fewer;
      hears = subst (λ s. HearsShard start Here (position_after turns a b) old.state.place s got reasons) (sym short.shard_is)
          (subst (λ n. HearsShard start Here (position_after turns a b) old.state.place one n reasons) (sym short.got_is)
          (subst (λ rs. HearsShard start Here (position_after turns a b) old.state.place one (length (answering (told_in x))) rs) (sym short.reasons_are) heard));
      first = λ lower lt also.
          let m = lower_stands lower lt also in
          let y = stands start turns old id a w level r b h.reads h.before h.events tail_list (h.were).are lower m in
          has_enough start turns old id a w level r b lower (h.reads lower) y.asked all longer_list (h.reads lower).begun y.not_before y.started y.each due (let enough = y.enough in let is = short.needed_is in omega (arith, enough, is));
    })

-- ---- ended early

module _ {D : Type 0} {G : Ghosts D} (state : D → DiskState) (start : Option MetaState) (turns : List Turn) (old new : Net D G) (id : CallId) (a : Act) (w : Wish) (level : ReadLevel) (r : IsReadTurn start turns old id a w level) where
  -- between two shards
  stopped_line : (b : Answer) → IsIdle b → (before after : List ℕ) (reads : ℕ → ShardRead) (whole : List Event) → WereRead old.state old.fates id w (needed_read level old.state.place.rf) (length old.replicas.events) before after reads whole
      → ReadLine start turns old.replicas.events a b (whole ++ [])
  stopped_line b up before after reads whole were = line start turns old id a w level r b reads before whole [] were.are
      (λ s m. in_asked start turns old id a w level r b s (subst (λ ns. IsIn ns s) (sym were.asked) (IsIn-append_left before after s m))) (inl (λ e m. absurd m)) (gives_no_acks b up) (prints_nothing b up) (λ i j e is at. cc) (λ j n t x at. cc)
      (hears_nothing start old.replicas.events (InStretch (old.replicas.events ++ (whole ++ [])) (length old.replicas.events) (length (old.replicas.events ++ (whole ++ [])))) (position_after turns a b) a b up) (λ found is. absurd (let none = finds_nothing b up in let bad : None ≡ Some found = sym none ∙ is in cc))

  stopped : IsStopped state old.state old.fates id w (needed_read level old.state.place.rf) old.replicas new.replicas → LeavesLine ReadLine start turns [] old a answer.Memory new
  stopped h = leaves start turns old id a w level r answer.Memory new (h.events ++ []) ((h.ran).grew ∙ ap (λ es. old.replicas.events ++ es) (sym (append-nil h.events))) (stopped_line answer.Memory tt h.before h.after h.reads h.events h.were)
      (calm start turns old id a w level r answer.Memory h.reads h.before h.events [] (h.were).are (λ e m. absurd m))
      (let few = few_read start turns old id a w level r answer.Memory h.reads h.before (length old.replicas.events) h.events (h.were).are in
      let most = few_shards start turns old id a w level r answer.Memory in
      let parts : length (asked_shards old.state w.pick) ≡ length h.before + length h.after = ap length (h.were).asked ∙ length-append h.before h.after in
      let long = length-append h.events [] in
      omega (arith, few, most, parts, long))
      (inl refl) tt

  -- within one
  cut_short : IsCut state old.state old.fates id w (needed_read level old.state.place.rf) old.replicas new.replicas → LeavesLine ReadLine start turns [] old a answer.Memory new
  cut_short h =
      let x = h.last in
      let asked = h.asked in
      let c = read_call id old.state.rules old.state.place.version w in
      let nodes = take h.k x.nodes in
      leaves_so start turns old id a w level r answer.Memory h.before h.here h.after h.reads h.events h.were nodes x.reads (events_are reply.Found old.fates id h.here c nodes x.heard x.reads asked.heard)
      (λ n m. permuted-IsIn (counted (shard_at old.state.place h.here)) x.nodes (asked.counted).same n (take_in h.k x.nodes n m)) new (h.ran).grew
      (let few = few_events reply.Found old.fates id h.here c nodes x.heard x.reads asked.heard in let six = few_nodes start turns old id a w level r answer.Memory h.here x.nodes (asked.counted).same in let some = take_few h.k x.nodes in omega (arith, few, six, some))
      (λ nodes e. cc) refl refl (inl refl) tt (hears_nothing start old.replicas.events (InStretch (old.replicas.events ++ (h.events ++ start_of old.state w h.here ∷ x.reads)) (length old.replicas.events) (length (old.replicas.events ++ (h.events ++ start_of old.state w h.here ∷ x.reads)))) (position_after turns a answer.Memory) a answer.Memory tt)

pub ended_tells : {D : Type 0} {G : Ghosts D} (state : D → DiskState) (old : Net D G) → EndedTells state old
ended_tells {D} {G} state old start turns new id a w level r (inl h) = stopped state start turns old new id a w level r h
ended_tells {D} {G} state old start turns new id a w level r (inr h) = cut_short state start turns old new id a w level r h

-- before a shard for which the list has no room
pub full_tells : {D : Type 0} {G : Ghosts D} (state : D → DiskState) (old : Net D G) → FullTells state old
full_tells {D} {G} state old start turns new id a w level r h =
    let events = old.replicas.events in
    let more = h.events ++ [] in
    let grew : new.replicas.events ≡ events ++ more = (h.ran).grew ∙ ap (λ es. events ++ es) (sym (append-nil h.events)) in
    let is_calm = calm start turns old id a w level r answer.Full h.reads h.before h.events [] (h.were).are (λ e m. absurd m) in
    let fits : length more ≤ MOST_REQUEST_EVENTS =
    (let few = few_read start turns old id a w level r answer.Full h.reads h.before (length events) h.events (h.were).are in
    let most = few_shards start turns old id a w level r answer.Full in
    let parts : length (asked_shards old.state w.pick) ≡ length h.before + length (h.here ∷ h.after) = ap length (h.were).asked ∙ length-append h.before (h.here ∷ h.after) in
    let long = length-append h.events [] in
    omega (arith, few, most, parts, long)) in
    let six = few_nodes start turns old id a w level r answer.Full h.here h.nodes (h.counted).same in
    let lacks : MayLackRoom (length (events ++ more)) = subst (λ es. MayLackRoom (length es)) grew (may_lack (most_added h.nodes) new.replicas.events (omega (arith, six)) h.no_room) in
    record {
      more = more;
      grew = grew;
      line = stopped_line state start turns old new id a w level r answer.Full tt h.before (h.here ∷ h.after) h.reads h.events h.were;
      serves = serves_so start turns events a answer.Full more is_calm fits [] tt (λ x m. absurd m) (inr (inl (refl, lacks)));
      delivered = delivered_so turns a answer.Full [] (λ x m. absurd m);
    }
