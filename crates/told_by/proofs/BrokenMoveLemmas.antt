-- Why lists with a moment within a read, with a peer that wasn't streamed, with one move that two turns print, or with a placement that isn't printed don't tell
-- of their runs.
use Rattle.std.proofs.Common.{◌≡◌, ℕ, ◌+◌, ◌≤◌, ◌<◌, List, [], ◌∷◌, ◌++◌, take, length, refl, sym, ap, ◌∙◌, subst, inl, inr, arith, false, true}
use Rattle.std.specs.Prelude.{Some, None}
use Rattle.std.proofs.lemmas.Bool.{cases_lt}
use Rattle.std.proofs.lemmas.Option.{same_Some}
use Rattle.m3_model.specs.Hash.{shard_of}
use Rattle.m3_model.specs.Levels.{needed_read}
use Rattle.m3_model.specs.Members.{IsIn}
use Rattle.m3_model.specs.declared.act.Act.TheVariants as act
use Rattle.m3_model.specs.declared.act.ReadLevel.TheVariants as level
use Rattle.m3_model.specs.declared.answer.Answer.TheVariants as answer
use Rattle.m3_model.specs.declared.placement.Placement.{Placement}
use Rattle.m3_model.specs.declared.point.Pick.TheVariants as pick
use Rattle.m3_model.specs.declared.turn.Reply.TheVariants as replies
use Rattle.m3_model.specs.declared.turn.Request.TheVariants as request
use Rattle.m3_model.specs.declared.turn.Turn.{Turn}
use Rattle.transcripts.specs.Calls.{Call, IsAskedOf}
use Rattle.transcripts.specs.Placements.{printed, seed_at}
use Rattle.transcripts.specs.Record.{InnerTurn, TurnPosition, IsTurnPosition, inner_turns, line_of, lists_of}
use Rattle.cluster_core.specs.Joins.{HasFenced, HasStreamed}
use Rattle.cluster_core.specs.Lists.{At}
use Rattle.cluster_core.specs.declared.event.Asked.TheVariants as asked
use Rattle.cluster_core.specs.declared.event.Event.{Event}
use Rattle.cluster_core.specs.declared.event.Event.TheVariants as event
use Rattle.told_by.specs.Placements.{IsBootstrapOf}
use Rattle.told_by.specs.Broken.{MomentWithinRead, MovePrintedTwice, PlacedUnprinted, UnstreamedPeer, both_join, clocked, five, joined, joining, later_place, later_rules, moved, other_name, unprinted, unstreamed}
use Rattle.told_by.specs.Clocks.{IsClockOf, sets_rules}
use Rattle.told_by.specs.Reads.{IsAskedBy}
use Rattle.told_by.specs.Sample.{fetched, name, place, rules, series}
use Rattle.told_by.specs.Told.{ToldBy}
use Rattle.told_by.proofs.BrokenLemmas.{turn_among}
use Rattle.told_by.proofs.LineLemmas.{position_last, position_stays}
use Rattle.told_by.proofs.OneLemmas.{is_last}
use Rattle.told_by.proofs.SampleLemmas.{Each, each_at, found, reading, third}

-- ---- a moment within a read

reading_in : IsTurnPosition five reading
reading_in = position_stays (third ++ line_of fetched found ∷ []) (line_of (act.Now 1) answer.Done) reading (position_last third (line_of fetched found) reading (is_last None third [] fetched found []))

-- the end of a fetch
abbrev IsEnd : Event → Type 0
IsEnd (event.FetchDone began nodes answered) = Unit {0}
IsEnd _ = ⊥

none : {X : Type 0} → ⊥ → X
none h = absurd h

-- the list has one
one_end : Each (λ i e. IsEnd e → i ≡ 15) 0 clocked
one_end = (none, (none, (none, (none, (none, (none, (none, (none, (none, (none, (none, (none, (none, (none, (none, (λ h. refl, tt))))))))))))))))

-- a read doesn't set the moment
sets_nothing : (t : InnerTurn) → lists_of (line_of fetched found) ≡ (t ∷ []) ∷ [] → sets_rules t.act t.answer ≡ false
sets_nothing t e = let same : record { act = fetched; answer = found } ≡ t = cc in ap (λ (x : InnerTurn). sets_rules x.act x.answer) (sym same)

module _ (told : ToldBy None five clocked) where
  -- the turn that made the Clock within the read is neither before the read nor after it, and isn't the read
  by_line : (q : TurnPosition) → IsTurnPosition five q → (told.spans).from q ≤ 12 → 12 < (told.spans).to q → IsClockOf None five q later_rules → (told.spans).from reading ≤ 10 → 15 < (told.spans).to reading → ⊥
  by_line q at begins finishes clock low high =
      elim (cases_lt (length q.lines) 3) as (λ _. ⊥) [
        | inl before ↦ omega (arith, finishes, low, (told.tells).order.order q reading at reading_in (inl before))
        | inr ge ↦ elim (cases_lt 3 (length q.lines)) as (λ _. ⊥) [
          | inl later ↦ omega (arith, begins, high, (told.tells).order.order reading q reading_in at (inl later))
          | inr le ↦
              let same : length q.lines ≡ 3 = omega arith in
              let line = (clock.alone).0 in
              let is : line_of fetched found ≡ line = same_Some (line_of fetched found) line (subst (λ n. At five n line) same (clock.alone).1) in
              let bad : false ≡ true = sym (sets_nothing q.turn (ap lists_of is ∙ (clock.alone).2)) ∙ clock.sets in
              cc
        ]
      ]

  by_makers : told.makers 15 ≡ reading → ⊥
  by_makers own =
      let ends = (told.tells).order.made 15 (event.FetchDone 10 (0 ∷ []) series) (omega arith) (omega arith) refl tt in
      let begins = (told.tells).order.made 10 (event.FetchStart 1 0 rules (pick.One 0 name) 0 10) (omega arith) (omega arith) refl tt in
      let start = (told.tells).reads.each_done 15 10 (0 ∷ []) series (omega arith) refl in
      let clock = (told.tells).order.made 12 (event.Clock later_rules) (omega arith) (omega arith) refl tt in
      by_line (told.makers 12) clock.0 (clock.1).0 (clock.1).1 ((told.tells).clocks.each_clock 12 later_rules (omega arith) (omega arith) refl)
      (subst (λ q. (told.spans).from q ≤ 10) (start.own ∙ own) (begins.1).0) (subst (λ q. 15 < (told.spans).to q) own (ends.1).1)

pub moment_within : MomentWithinRead
moment_within told =
    let t = (told.tells).reads.found reading reading_in (record { series = series; short = false }) refl in
    let call : Call = record { id = Some name; version = None; needed = needed_read level.Majority } in
    let shards = length ((t.asking).place).shards in
    let s = shard_of name (seed_at None reading) shards in
    let asked : IsAskedBy None reading t.asking s = subst (λ (c : Call). IsAskedOf c.id (seed_at None reading) shards s) (same_Some call (t.asking).call (t.of_turn).of_call) refl in
    let f = t.fetches s in
    let each = t.each s asked in
    let last : 0 + f.ended ≡ 15 = each_at (λ i e. IsEnd e → i ≡ 15) 0 clocked one_end f.ended (event.FetchDone f.began f.nodes f.series) each.done_there tt in
    let here : f.ended ≡ 15 = omega (arith, last) in
    by_makers told (ap told.makers (sym here) ∙ each.own_done)

-- ---- a peer that wasn't streamed

no_fence : (q tenure : ℕ) → HasFenced 0 q 1 tenure (event.Ask (asked.Place moved ((0, 1) ∷ [])) ∷ []) → ⊥
no_fence q tenure (inl h) = h.0
no_fence q tenure (inr h) = h

no_stream : (q tenure : ℕ) → HasStreamed 0 1 tenure q (take 5 unstreamed) → ⊥
no_stream q tenure (inl h) = h.0
no_stream q tenure (inr (inl h)) = h.0
no_stream q tenure (inr (inr (inl h))) = h.0
no_stream q tenure (inr (inr (inr (inl h)))) = no_fence q tenure h.1
no_stream q tenure (inr (inr (inr (inr (inl h))))) = h.0
no_stream q tenure (inr (inr (inr (inr (inr h))))) = h

some_name : (names : List ℕ) → 1 ≤ length names → (q : ℕ) × IsIn names q
some_name [] h = absurd (omega arith)
some_name (q ∷ names) h = (q, inl refl)

pub peer_unstreamed : UnstreamedPeer
peer_unstreamed told =
    let e = (told.tells).placements.each_end 5 moved ((0, 1) ∷ []) (omega arith) (omega arith) refl (0, 1) (inl refl) in
    let q = some_name e.names (omega (arith, (e.enough).enough)) in
    no_stream q.0 (e.joining).tenure (e.streamed q.0 q.1)

-- ---- a move that two turns print

-- the line, and its two turns
abbrev both : Turn
both = record { request = request.Par [] ((joining ∷ []) ∷ (joining ∷ []) ∷ []); reply = replies.Par [] ((joined ∷ []) ∷ (joined ∷ []) ∷ []) }

abbrev one_worker : ℕ → TurnPosition
one_worker client = record { lines = []; line = both; client = client; earlier = []; beside = record { act = joining; answer = joined } ∷ []; turn = record { act = joining; answer = joined } }

first_in : IsTurnPosition both_join (one_worker 1)
first_in = record { after = []; in_run = refl; stands = record { front = []; later = []; back = (record { act = joining; answer = joined } ∷ []) ∷ []; in_line = refl; others = refl; client_is = refl } }

second_in : IsTurnPosition both_join (one_worker 2)
second_in = record { after = []; in_run = refl; stands = record { front = (record { act = joining; answer = joined } ∷ []) ∷ []; later = []; back = []; in_line = refl; others = refl; client_is = refl } }

prints_it : (client : ℕ) → IsBootstrapOf (one_worker client) ((0, 0 ∷ []) ∷ [])
prints_it client = record { node = other_name; asked = None; act_is = refl; place = moved; version = 3; answered = refl }

-- each has a Place of its own that ends a move of the shard, and the list has one
pub printed_twice : MovePrintedTwice
printed_twice events once told =
    let e = (told.tells).placements.ends_printed (one_worker 1) first_in ((0, 0 ∷ []) ∷ []) (prints_it 1) (0, 0 ∷ []) (inl refl) in
    let f = (told.tells).placements.ends_printed (one_worker 2) second_in ((0, 0 ∷ []) ∷ []) (prints_it 2) (0, 0 ∷ []) (inl refl) in
    let same : e.place_at ≡ f.place_at = once e.place_at f.place_at e.place f.place e.done f.done e.node f.node e.there f.there e.ended f.ended in
    let one : one_worker 1 ≡ one_worker 2 = sym e.own ∙ ap told.makers same ∙ f.own in
    omega (arith, ap (λ (p : TurnPosition). p.client) one)

-- ---- a placement that isn't printed

pub place_unprinted : PlacedUnprinted
place_unprinted told =
    let made = (told.tells).order.made 5 (event.Place later_place []) (omega arith) (omega arith) refl tt in
    let h = (told.tells).makes 5 (event.Place later_place []) (omega arith) (omega arith) refl in
    by_turn (told.makers 5).turn h.stood (turn_among unprinted (told.makers 5) made.0) h.prints h.not_before
  where
    by_turn : (t : InnerTurn) (stood : Placement) → IsIn (inner_turns unprinted) t → printed t.answer ≡ Some stood → 2 ≤ stood.version → ⊥
    by_turn t stood (inl e) prints late =
        let same : place ≡ stood = same_Some place stood (ap (λ (u : InnerTurn). printed u.answer) e ∙ prints) in
        omega (arith, late, ap (λ (p : Placement). p.version) same)
    by_turn t stood (inr (inl e)) prints late = let bad : None ≡ Some stood = ap (λ (u : InnerTurn). printed u.answer) e ∙ prints in cc
    by_turn t stood (inr (inr nothing)) prints late = nothing
