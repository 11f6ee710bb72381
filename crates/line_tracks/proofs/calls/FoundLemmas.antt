-- The events of a read that was answered tell of its line.
use Rattle.std.proofs.Common.{◌≡◌, ℕ, ◌≤◌, List, [], ◌++◌, length, refl, sym, ap, subst, ◌∙◌, inl, inr, arith, Bool, false, length-append}
use Rattle.std.specs.Prelude.{Option, Some}
use Rattle.std.proofs.lemmas.Bool.{cases_lt}
use Rattle.std.proofs.lemmas.List.{append-nil}
use Rattle.m3_model.specs.Levels.{majority, needed_read}
use Rattle.m3_model.specs.Members.{IsIn}
use Rattle.m3_model.specs.Reads.{Found, Read, found_of, read_of}
use Rattle.m3_model.specs.declared.act.Act.{Act}
use Rattle.m3_model.specs.declared.act.Act.TheVariants as act
use Rattle.m3_model.specs.declared.act.ReadLevel.{ReadLevel}
use Rattle.m3_model.specs.declared.act.ReadLevel.TheVariants as reading
use Rattle.m3_model.specs.declared.answer.Answer.{Answer}
use Rattle.m3_model.specs.declared.answer.Answer.TheVariants as answer
use Rattle.m3_model.specs.declared.point.Series.{Series}
use Rattle.m3_model.specs.declared.rules.MetaState.{MetaState}
use Rattle.m3_model.specs.declared.rules.Space.{Space}
use Rattle.m3_model.specs.declared.turn.Turn.{Turn}
use Rattle.m3_outside.specs.DiskState.{DiskState}
use Rattle.m3_outside.specs.declared.disk.Disk.{Ghosts}
use Rattle.cluster_core.specs.Legal.{Legal}
use Rattle.cluster_core.specs.declared.event.Event.{Event}
use Rattle.cluster_core.proofs.ListLemmas.{some_same}
use Rattle.session_net.specs.replica_exchange.declared.call_id.CallId.{CallId}
use Rattle.session_net.specs.Outcomes.{answering, refusing}
use Rattle.session_net.specs.Reads.{IsReadFound, Wish, asked_shards, told_in}
use Rattle.session_net.specs.declared.net.Net.{Net}
use Rattle.told_runs.specs.Answers.{IsOfKind}
use Rattle.told_runs.specs.told_by.Hears.{HasEnough, HearsFound, InStretch}
use Rattle.told_runs.specs.told_by.Lines.{Finds, ReadLine, position_after}
use Rattle.told_runs.specs.told_by.Reads.{IsAskedBy}
use Rattle.told_runs.specs.transcripts.Record.{TurnPosition}
use Rattle.line_tracks.specs.calls.Laws.{LeavesLine}
use Rattle.line_tracks.specs.calls.ReadLaws.{FoundTells, IsReadTurn}
use Rattle.line_tracks.proofs.calls.StandLemmas.{StandsIn}
use Rattle.line_tracks.proofs.calls.ActLemmas.{it_is, level_in, level_of, is_it}
use Rattle.line_tracks.proofs.calls.ReadLemmas.{call_made, asks_for, uses_it, asked_in, in_asked, fetched_in, few_read, few_shards, stands, longer, line, calm, leaves, has_enough, hears_it}

-- ---- one that was answered

some_needed : (l : ReadLevel) (rf : ℕ) → 1 ≤ rf → 1 ≤ needed_read l rf
some_needed reading.One rf some = omega arith
some_needed reading.Unstrict rf some = omega arith
some_needed reading.Majority rf some = omega arith
some_needed reading.All rf some = some

found_kind : (start : Option MetaState) (p : TurnPosition) (a : Act) (spaces : List Space) (r : Read) → read_of spaces a ≡ Some r → (series : List Series) (short : Bool) → IsOfKind [] start p a (answer.Found series short)
found_kind start p (act.Fetch ns id from to level version) spaces r e series short = tt
found_kind start p (act.Match ns wanted from to level version) spaces r e series short = tt
found_kind start p _ spaces r e series short = cc

module _ {D : Type 0} {G : Ghosts D} (state : D → DiskState) (tells : Bool) (start : Option MetaState) (turns : List Turn) (old new : Net D G) (id : CallId) (a : Act) (w : Wish) (level : ReadLevel) (series : List Series) (short : Bool) (r : IsReadTurn start turns old id a w level)
    (legal : Legal tells new.replicas.events) (h : IsReadFound state old id w level series short new) where
  abbrev b : Answer
  b = answer.Found series short

  abbrev listed : List ℕ
  listed = asked_shards old.state w.pick

  abbrev whole_list : List Event
  whole_list = old.replicas.events ++ (h.events ++ [])

  abbrev Within : ℕ → Event → Type 0
  Within = InStretch whole_list (length old.replicas.events) (length whole_list)

  grew : new.replicas.events ≡ whole_list
  grew = (h.ran).grew ∙ ap (λ es. old.replicas.events ++ es) (sym (append-nil h.events))

  stand_of : (s : ℕ) → IsIn listed s → StandsIn old.state old.fates id w (needed_read level old.state.place.rf) h.reads whole_list (length old.replicas.events) s
  stand_of = stands start turns old id a w level r b h.reads listed h.events [] h.are

  enough_of : (s least : ℕ) → IsIn listed s → least ≤ length (answering (told_in (h.reads s))) → HasEnough start Within (position_after turns a b) old.state.place s least
  enough_of s least m enough =
      let x = stand_of s m in
      has_enough start turns old id a w level r b s (h.reads s) x.asked whole_list (longer start turns old id a w level r b h.reads listed h.events [] h.are) (h.reads s).begun x.not_before x.started x.each least enough

  -- a read that isn't short was answered by a majority of each shard
  long_of : short ≡ false → level ≡ reading.Unstrict → (s : ℕ) → IsIn listed s → majority old.state.place.rf ≤ length (answering (told_in (h.reads s)))
  long_of e u s m = elim (cases_lt (length (answering (told_in (h.reads s)))) (majority old.state.place.rf)) as (λ _. majority old.state.place.rf ≤ length (answering (told_in (h.reads s)))) [
    | inl lt ↦ (let short_is = h.short_where.1 (u, (s, m, lt)) in cc)
    | inr ge ↦ ge
  ]

  level_is : level_in a ≡ Some level
  level_is = level_of a old.state.rules.spaces (record { pick = w.pick; from = w.from; to = w.to; level = level }) r.of_act

  asks_of : (s : ℕ) → IsAskedBy start (position_after turns a b) (asks_for start turns old id a w level r b) s → IsIn listed s
  asks_of = asked_in start turns old id a w level r b

  of_asked : (s : ℕ) → IsIn listed s → IsAskedBy start (position_after turns a b) (asks_for start turns old id a w level r b) s
  of_asked = in_asked start turns old id a w level r b

  hears_found : HearsFound start Within (position_after turns a b) short
  hears_found = record {
    call = call_made start turns old id a w level r b;
    of_call = r.of_call;
    place = old.state.place;
    may_use = uses_it start turns old id a w level r b;
    enough = λ s asks. enough_of s (needed_read level old.state.place.rf) (asks_of s asks) (stand_of s (asks_of s asks)).enough;
    is_short = λ e.
        let why = h.short_where.0 e in
        let low = why.1 in
        let x = stand_of low.0 low.1 in (
          is_it a level level_is why.0,
          record {
            shard = low.0;
            asked = of_asked low.0 low.1;
            got = length (answering (told_in (h.reads low.0)));
            reasons = refusing (told_in (h.reads low.0));
            hears = hears_it start turns old id a w level r b low.0 (h.reads low.0) x.asked whole_list (longer start turns old id a w level r b h.reads listed h.events [] h.are) (h.reads low.0).begun x.not_before x.started x.each tells (subst (Legal tells) grew legal);
            some = (let least = some_needed level old.state.place.rf (((r.ready).lawful).limits).some_replicas in let enough = x.enough in omega (arith, least, enough));
            fewer = low.2;
          },
        );
    not_short = λ e u s asks. enough_of s (majority old.state.place.rf) (asks_of s asks) (long_of e (it_is a level level_is u) s (asks_of s asks));
  }

  finds_so : (found : Found) → found_of b ≡ Some found → Finds start (position_after turns a b) (asks_for start turns old id a w level r b) (fetched_in start turns old id a w level r b h.reads) listed found
  finds_so found is = subst (Finds start (position_after turns a b) (asks_for start turns old id a w level r b) (fetched_in start turns old id a w level r b h.reads) listed) (some_same (record { series = series; short = short }) found is) (record {
    all = asks_of;
    enough = λ s asks. (stand_of s (asks_of s asks)).enough;
    together = record {
      nothing_else = λ p m. let from = (h.together).nothing_else p m in (from.0, of_asked from.0 from.1, from.2);
      all_there = λ s asks p m. (h.together).all_there s (asks_of s asks) p m;
      ordered = (h.together).ordered;
    };
    is_short = λ e. let why = h.short_where.0 e in let low = why.1 in (why.0, low.0, of_asked low.0 low.1, low.2);
    not_short = λ e u s asks. long_of e u s (asks_of s asks);
  })

  found_leaves : LeavesLine ReadLine start turns [] old a b new
  found_leaves = leaves start turns old id a w level r b new (h.events ++ []) grew
      (line start turns old id a w level r b h.reads listed h.events [] h.are of_asked (inl (λ e m. absurd m)) (λ nodes e. cc) refl (λ i j e is at. cc) (λ j n t x at. cc) hears_found finds_so)
      (calm start turns old id a w level r b h.reads listed h.events [] h.are (λ e m. absurd m))
      (let few = few_read start turns old id a w level r b h.reads listed (length old.replicas.events) h.events h.are in let most = few_shards start turns old id a w level r b in let long = length-append h.events [] in omega (arith, few, most, long))
      (inr (found_kind start (position_after turns a b) a old.state.rules.spaces (record { pick = w.pick; from = w.from; to = w.to; level = level }) r.of_act series short)) tt

pub found_tells : {D : Type 0} {G : Ghosts D} (state : D → DiskState) (old : Net D G) → FoundTells state old
found_tells {D} {G} state old tells start turns new id a w level series short r legal h = found_leaves state tells start turns old new id a w level series short r legal h
