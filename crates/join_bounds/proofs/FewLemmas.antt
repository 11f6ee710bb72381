-- How many events a bootstrap adds.
use Rattle.std.proofs.Common.{◌≡◌, ◌≤◌, ◌<◌, ◌+◌, ◌*◌, ℕ, zero, suc, List, [], ◌∷◌, ◌++◌, length, map, sym, ◌∙◌, subst, inl, inr, arith, true, length-append}
use Rattle.std.specs.Prelude.{Option, Some, None, slice_index_or}
use Rattle.std.specs.Option.{option_map_or}
use Rattle.std.proofs.lemmas.List.{append-nil, length-map}
use Rattle.m3_model.specs.Members.{IsIn}
use Rattle.m3_model.specs.declared.act.Act.{Act}
use Rattle.m3_model.specs.declared.act.Act.TheVariants as act
use Rattle.m3_model.specs.declared.answer.Answer.{Answer}
use Rattle.m3_model.specs.declared.limits.TheConstants.{MOST_REQUEST_EVENTS}
use Rattle.m3_model.specs.declared.placement.Placement.{Placement}
use Rattle.m3_model.specs.declared.point.Page.{Page}
use Rattle.m3_model.specs.declared.point.Point.{Point}
use Rattle.m3_model.specs.declared.rules.MetaState.{MetaState}
use Rattle.m3_model.specs.declared.turn.Turn.{Turn}
use Rattle.m3_model.proofs.Lists.{IsIn-flat_map, flat_map-IsIn}
use Rattle.m3_model.proofs.MemberLemmas.{IsIn-append_cases, IsIn-append_left, IsIn-append_right}
use Rattle.placement_core.specs.Lawful.{IsLawful}
use Rattle.placement_core.specs.Shards.{nodes_of, shard_at}
use Rattle.cluster_core.specs.Core.{AgreesWith, Opening}
use Rattle.cluster_core.specs.Legal.{Legal}
use Rattle.cluster_core.specs.Lists.{At}
use Rattle.cluster_core.specs.declared.event.Event.{Event}
use Rattle.cluster_core.specs.declared.event.Event.TheVariants as event
use Rattle.cluster_core.specs.declared.event.StepCall.{StepCall}
use Rattle.cluster_core.specs.declared.event.StepCall.TheVariants as call
use Rattle.cluster_core.specs.declared.event.StepReply.TheVariants as reply
use Rattle.transcripts.specs.Left.{OpeningStands}
use Rattle.transcripts.specs.Record.{Record, line_of}
use Rattle.told_by.specs.Told.{ToldBy}
use Rattle.told_runs.specs.Bounds.{writes_taken}
use Rattle.peer_streams.specs.Joins.{Join, Opened}
use Rattle.peer_streams.specs.Streams.{replied}
use Rattle.told_joins.specs.Laws.{IsHeldUpLine, IsJoinLine, IsMissedLine, IsPartLine, IsUnmarkedLine}
use Rattle.told_joins.specs.Lines.{AreOpened, added_by, joined_of, marks, source_ends}
use Rattle.told_joins.proofs.AskLemmas.{MayHappen, all_happen, held_each, missed_each, part_each, unmarked_each}
use Rattle.join_bounds.specs.Bounds.{AreFew}
use Rattle.join_bounds.proofs.CountLemmas.{ascending_few, flat_within, sent_few, sent_so_far}
use Rattle.join_bounds.proofs.SentLemmas.{SendsNone, page_sent}
use Rattle.join_bounds.proofs.StreamLemmas.{held_long, missed_long, most_opened, opened_long, short_long}

-- ---- shards

-- a node that has the shard has one of the placement's
shard_low : (place : Placement) (s y : ℕ) → IsIn (nodes_of (shard_at place s)) y → s < length place.shards
shard_low place s y m = by place.shards s m
  where
    by : (xs : List _) (k : ℕ) → IsIn (nodes_of (slice_index_or xs k [])) y → k < length xs
    by [] k m = absurd m
    by (x ∷ xs) zero m = omega arith
    by (x ∷ xs) (suc k) m = let lt = by xs k m in omega (arith, lt)

-- at most 64 shards are opened, those that are left with them
opened_few : (place : Placement) → IsLawful place → (y : ℕ) (only : Option ℕ) (opened : List Opened) (left : List ℕ) → AreOpened place y only opened left → length opened ≤ 64
opened_few place lawful y only opened left h =
    let shards : List ℕ = map (λ (o : Opened). o.shard) opened ++ left in
    let low = ascending_few 0 (length place.shards) shards h.by_number (λ s m. omega arith) (λ s m. shard_low place s y ((h.are s).0 m).1) (omega arith) in
    let few = lawful.limits.few_shards in
    omega (arith, low, few, length-append (map (λ (o : Opened). o.shard) opened) left, length-map opened (λ (o : Opened). o.shard))

-- ---- no point goes out

happens_sends_none : (place : Placement) (y : ℕ) (only : Option ℕ) (e : Event) → MayHappen place y only e → SendsNone e
happens_sends_none place y only (event.Ask what) h = tt
happens_sends_none place y only (event.Step n s c a) h = tt
happens_sends_none place y only _ h = absurd h

replied_sends_none : (n s : ℕ) (c : StepCall) (e : Event) → IsIn (replied n s c reply.Done) e → SendsNone e
replied_sends_none n s c e (inl is) = subst SendsNone is tt
replied_sends_none n s c e (inr (inl is)) = subst SendsNone is tt
replied_sends_none n s c e (inr (inr none)) = absurd none

source_sends_none : (o : Opened) (e : Event) → IsIn (source_ends o) e → SendsNone e
source_sends_none o e m = by o.joined m
  where
    by : (j : Option Join) → IsIn (option_map_or (λ (k : Join). replied k.source o.shard call.End reply.Done) j []) e → SendsNone e
    by None m = absurd m
    by (Some j) m = replied_sends_none j.source o.shard call.End e m

marks_send_none : (y : ℕ) (opened : List Opened) (available : List (ℕ × List ℕ)) (next : Placement) (e : Event) → IsIn (marks y opened available next) e → SendsNone e
marks_send_none y opened [] next e m = absurd m
marks_send_none y opened (x ∷ available) next e (inl is) = subst SendsNone is tt
marks_send_none y opened (x ∷ available) next e (inr (inl is)) = subst SendsNone is tt
marks_send_none y opened (x ∷ available) next e (inr (inr m)) = let o = IsIn-flat_map source_ends opened e m in source_sends_none o.0 e o.2

source_long : (o : Opened) → length (source_ends o) ≤ 2
source_long o = by o.joined
  where
    by : (j : Option Join) → length (option_map_or (λ (k : Join). replied k.source o.shard call.End reply.Done) j []) ≤ 2
    by None = omega arith
    by (Some j) = omega arith

marks_long : (y : ℕ) (opened : List Opened) (available : List (ℕ × List ℕ)) (next : Placement) → length opened ≤ 64 → length (marks y opened available next) ≤ 130
marks_long y opened [] next few = omega arith
marks_long y opened (x ∷ available) next few = let ends = flat_within source_ends 2 64 opened (λ o m. source_long o) few in omega (arith, ends)

-- ---- a bootstrap

module _ (past : List Record) (start : Option MetaState) (turns : List Turn) (events more : List Event) (opening : Opening) (legal : Legal true (events ++ more)) (agrees : AgreesWith (events ++ more) opening) (stands : OpeningStands past start opening)
    (told : ToldBy start turns events) (place : Placement) (lawful : IsLawful place) (name : List ℕ) (only : Option ℕ) (y : ℕ) (b : Answer) where
  abbrev a : Act
  a = act.Bootstrap name only

  abbrev written : List Point
  written = sent_so_far past start turns a b

  abbrev taken : ℕ
  taken = writes_taken past (turns ++ line_of a b ∷ [])

  -- all that it may add is within the bound, where each shard adds so much at most
  enough : (opened rest : ℕ) → opened ≤ ((4 * length written + 12) * 5 + ((4 * length written + 12) + 2)) * 64 → rest ≤ (4 * length written + 12) * 5 + ((4 * length written + 12) + 2) + 130 → opened + rest ≤ MOST_REQUEST_EVENTS * (taken + 1)
  enough opened rest of_opened of_rest = let few = sent_few past start turns a b in omega (arith, of_opened, of_rest, few)

  -- where no point goes out, and so each point of a page was written
  module _ (quiet : (e : Event) → IsIn more e → SendsNone e) where
    sent : (i n s : ℕ) (c : StepCall) (page : Page) → At (events ++ more) i (event.Step n s c (reply.Paged page)) → (p : Point) → IsIn page.points p → IsIn written p
    sent = page_sent past start turns events more opening legal agrees stands told quiet a b

    among : (e : Event) → IsIn more e → IsIn (events ++ more) e
    among e m = IsIn-append_right events more e m

    front_long : (opened : List Opened) (left : List ℕ) → AreOpened place y only opened left → (last : List Event) → more ≡ added_by opened ++ last → length (added_by opened) ≤ most_opened (events ++ more) legal written sent place lawful * 64
    front_long opened left h last is =
        flat_within (λ (o : Opened). o.added) (most_opened (events ++ more) legal written sent place lawful) 64 opened
        (λ o m. opened_long (events ++ more) legal written sent place lawful y o (h.each o m)
        (λ e k. among e (subst (λ xs. IsIn xs e) (sym is) (IsIn-append_left (added_by opened) last e (flat_map-IsIn (λ (x : Opened). x.added) opened o e m k)))))
        (opened_few place lawful y only opened left h)

    last_among : (opened : List Opened) (last : List Event) → more ≡ added_by opened ++ last → (e : Event) → IsIn last e → IsIn (events ++ more) e
    last_among opened last is e m = among e (subst (λ xs. IsIn xs e) (sym is) (IsIn-append_right (added_by opened) last e m))

    both_few : (opened : List Opened) (left : List ℕ) → AreOpened place y only opened left → (last : List Event) → more ≡ added_by opened ++ last → length last ≤ most_opened (events ++ more) legal written sent place lawful + 130 → length more ≤ MOST_REQUEST_EVENTS * (taken + 1)
    both_few opened left h last is few =
        let front = front_long opened left h last is in
        let all = enough (length (added_by opened)) (length last) front few in
        subst (λ xs. length xs ≤ MOST_REQUEST_EVENTS * (taken + 1)) (sym is) (omega (arith, all, length-append (added_by opened) last))

  -- of a line that makes no placement
  quiet_by : ((e : Event) → IsIn more e → MayHappen place y only e) → (e : Event) → IsIn more e → SendsNone e
  quiet_by each e m = happens_sends_none place y only e (each e m)

  abbrev Few : Type 0
  Few = length more ≤ MOST_REQUEST_EVENTS * (taken + 1)

  pub of_joins : (kept : ℕ) → IsJoinLine place y only name b kept events more → Few
  of_joins kept line =
      let opened = line.opened in
      let all = (line.adds).all in
      let last = marks y opened (joined_of opened) line.next in
      let quiet : (e : Event) → IsIn more e → SendsNone e = λ e m. elim (IsIn-append_cases (added_by opened) last e (subst (λ xs. IsIn xs e) (line.adds).adds m)) as (λ _. SendsNone e) [
        | inl front ↦ happens_sends_none place y only e (all_happen place y only opened [] all e front)
        | inr rest ↦ marks_send_none y opened (joined_of opened) line.next e rest
      ] in
      let few = marks_long y opened (joined_of opened) line.next (opened_few place lawful y only opened [] all) in
      both_few quiet opened [] all last (line.adds).adds (omega (arith, few))

  pub of_held : (kept : ℕ) → IsHeldUpLine place y only name b kept events more → Few
  of_held kept line =
      let h = line.adds in
      let quiet = quiet_by (held_each place y only line.shard line.why more h) in
      let few = held_long (events ++ more) legal written (sent quiet) place lawful line.shard y line.why h.last h.held (last_among quiet h.opened h.last h.adds) in
      both_few quiet h.opened (line.shard ∷ h.left) h.before h.last h.adds (omega (arith, few))

  pub of_missed : (kept : ℕ) → IsMissedLine place y only name b kept events more → Few
  of_missed kept line =
      let h = line.adds in
      let quiet = quiet_by (missed_each place y only line.shard line.peers more h) in
      let few = missed_long (events ++ more) legal written (sent quiet) place lawful line.shard y line.peers h.last h.misses (last_among quiet h.opened h.last h.adds) in
      both_few quiet h.opened (line.shard ∷ h.left) h.before h.last h.adds (omega (arith, few))

  pub of_unmarked : (kept : ℕ) → IsUnmarkedLine place y only name b kept events more → Few
  of_unmarked kept line =
      let h = line.adds in
      let is : more ≡ added_by h.opened ++ [] = h.adds ∙ sym (append-nil (added_by h.opened)) in
      both_few (quiet_by (unmarked_each place y only kept more h)) h.opened [] h.all [] is (omega arith)

  pub of_part : (kept : ℕ) → IsPartLine place y only name b kept events more → Few
  of_part kept line =
      let h = line.adds in
      let quiet = quiet_by (part_each place y only more h) in
      let last : length h.last ≤ most_opened (events ++ more) legal written (sent quiet) place lawful = elim h.part as (λ _. length h.last ≤ most_opened (events ++ more) legal written (sent quiet) place lawful) [
        | inl none ↦ subst (λ xs. length xs ≤ most_opened (events ++ more) legal written (sent quiet) place lawful) (sym none) (omega arith)
        | inr part ↦ short_long (events ++ more) legal written (sent quiet) place lawful part.0 y h.last part.3 (last_among quiet h.opened h.last h.adds)
      ] in
      both_few quiet h.opened h.left h.before h.last h.adds (omega (arith, last))

pub joins_few : AreFew IsJoinLine
joins_few past start turns events more opening legal agrees stands told place lawful name only y b kept line = of_joins past start turns events more opening legal agrees stands told place lawful name only y b kept line

pub held_up_few : AreFew IsHeldUpLine
held_up_few past start turns events more opening legal agrees stands told place lawful name only y b kept line = of_held past start turns events more opening legal agrees stands told place lawful name only y b kept line

pub part_few : AreFew IsPartLine
part_few past start turns events more opening legal agrees stands told place lawful name only y b kept line = of_part past start turns events more opening legal agrees stands told place lawful name only y b kept line

pub missed_few : AreFew IsMissedLine
missed_few past start turns events more opening legal agrees stands told place lawful name only y b kept line = of_missed past start turns events more opening legal agrees stands told place lawful name only y b kept line

pub unmarked_few : AreFew IsUnmarkedLine
unmarked_few past start turns events more opening legal agrees stands told place lawful name only y b kept line = of_unmarked past start turns events more opening legal agrees stands told place lawful name only y b kept line
