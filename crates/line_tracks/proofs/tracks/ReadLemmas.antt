-- The lines of a fetch and of a match.
use Rattle.std.proofs.Common.{◌≡◌, ◌<◌, ℕ, List, [], ◌∷◌, ◌++◌, refl, sym, ap, ◌∙◌, subst, inl, inr, Bool}
use Rattle.std.specs.Prelude.{◌⊎◌, Option, Some, None, option_map}
use Rattle.m3_model.specs.Levels.{needed_read}
use Rattle.m3_model.specs.Reads.{read_of}
use Rattle.m3_model.specs.Rules.{namespace_position}
use Rattle.m3_model.specs.declared.act.Act.{Act}
use Rattle.m3_model.specs.declared.act.Act.TheVariants as act
use Rattle.m3_model.specs.declared.act.ReadLevel.{ReadLevel}
use Rattle.m3_model.specs.declared.answer.Answer.{Answer}
use Rattle.m3_model.specs.declared.answer.Answer.TheVariants as answer
use Rattle.m3_model.specs.declared.placement.Placement.{Placement}
use Rattle.m3_model.specs.declared.point.Pick.{Pick}
use Rattle.m3_model.specs.declared.point.Pick.TheVariants as pick
use Rattle.m3_model.specs.declared.point.Series.{Series}
use Rattle.m3_model.specs.declared.reason.Reason.{Reason}
use Rattle.m3_model.specs.declared.rules.MetaState.{MetaState}
use Rattle.m3_model.specs.declared.turn.Turn.{Turn}
use Rattle.m3_outside.specs.Depots.{Depot}
use Rattle.m3_outside.specs.DiskState.{DiskState, IsLawfulDisk}
use Rattle.m3_outside.specs.declared.disk.Disk.{Ghosts}
use Rattle.cluster_core.specs.Legal.{Legal}
use Rattle.cluster_core.specs.declared.event.Event.{Event}
use Rattle.node_calls.specs.replica_exchange.declared.call_id.CallId.{CallId}
use Rattle.node_calls.specs.session_net.Calls.{Tracked}
use Rattle.node_calls.specs.session_net.Reads.{IsCutShort, IsFirstShort, IsReadFound, IsFull, IsStopped, Wish}
use Rattle.node_calls.specs.session_net.Runs.{Ran}
use Rattle.node_calls.specs.session_net.declared.net.Net.{Net}
use Rattle.told_runs.specs.told_by.Lines.{ReadLine}
use Rattle.told_runs.specs.told_by.Makes.{OpensReplicas}
use Rattle.transcripts.specs.Calls.{call_of}
use Rattle.transcripts.specs.Record.{Record, line_of}
use Rattle.line_tracks.specs.calls.Laws.{IsNotRefused, LeavesLine}
use Rattle.line_tracks.specs.calls.ReadLaws.{IsReadTurn}
use Rattle.line_tracks.proofs.calls.FoundLemmas.{found_tells}
use Rattle.line_tracks.proofs.calls.ShortLemmas.{ended_tells, first_short_tells, full_tells}
use Rattle.node_calls.specs.cluster_members.Calls.{IsFetchAnswer, IsReadAnswer, KeepsCluster, wish}
use Rattle.node_calls.specs.cluster_members.Kept.{IsBy, Uses}
use Rattle.node_calls.specs.cluster_members.Steps.{spaces_in}
use Rattle.node_calls.specs.cluster_members.declared.calls.Range.{Range}
use Rattle.node_calls.specs.cluster_members.declared.members.Members.{Members}
use Rattle.line_tracks.specs.acts.Due.{SpaceDue}
use Rattle.line_tracks.specs.acts.Quiet.{DeliversNone, SetsNone}
use Rattle.line_tracks.specs.tracks.Numbers.{last_number, numbers_by}
use Rattle.line_tracks.specs.tracks.Tracks.{Tracks}
use Rattle.line_tracks.proofs.tracks.StepLemmas.{read_on}
use Rattle.line_tracks.specs.tracks.Acts.{MayCall, next_call}
use Rattle.line_tracks.specs.tracks.Lines.{FetchesAreTracked, IsLeft, MatchesAreTracked, MayGoOn}
use Rattle.line_tracks.proofs.tracks.CallLemmas.{left_due, missing_on, next_is, same_bag, served_on, told_on, wanted_on}
use Rattle.line_tracks.proofs.tracks.KeptLemmas.{callable_so, is_known, line_so, ran_so, served_so, usable_so}

-- the act reads what this pick picks in a namespace of this name
record Reads (a : Act) (ns : List ℕ) (pick : ℕ → Pick) (range : Range) (level : ReadLevel) (version : Option ℕ) : Type 0 where
  name : Option (List ℕ)
  of_call : call_of a ≡ Some (record { id = name; version = version; needed = needed_read level })
  of_act : (spaces : List _) (k : ℕ) → namespace_position ns spaces ≡ Some k → read_of spaces a ≡ Some (record { pick = pick k; from = range.from; to = range.to; level = level })
  calm : OpensReplicas a → ⊥

module _ {D : Type 0} {G : Ghosts D} (state : D → DiskState) (lawful : (d : D) → IsLawfulDisk (state d)) (m : Members D G) (a : Act) (ns : List ℕ) (pick : ℕ → Pick) (range : Range) (level : ReadLevel) (version : Option ℕ) (reads : Reads a ns pick range level version)
    (tells : Bool) (past : List Record) (start : Option MetaState) (first now : Depot D) (turns : List Turn) (calls : List ℕ) (on : MayGoOn state tells past start first now turns calls m) (due : (b : Answer) → SpaceDue start turns m.net.state.rules ns version a b) (g : Members D G) (is_left : IsLeft tells g) where
  abbrev call : CallId
  call = next_call calls

  abbrev IsTracked : Answer → Type 0
  IsTracked b = Tracks state tells past start first now (turns ++ line_of a b ∷ []) (Some g) (numbers_by a b calls)

  module _ (position : ℕ) (found : namespace_position ns (spaces_in m) ≡ Some position) (low : call.number < last_number) (keeps : KeepsCluster m g) (bag : g.net.bag ≡ m.net.bag)
      (place : Placement) (uses : Uses m.net.state.place m.past.items version place) (before after : Net D G) (began : IsBy place m.net before) (ended : IsBy place g.net after) where
    abbrev w : Wish
    w = wish (pick position) range

    abbrev enough : ℕ
    enough = needed_read level before.state.place.rf

    is_read : IsReadTurn start turns before call a w level
    is_read = record {
      version = version;
      left = usable_so m start turns on.tracks.after.stands version place uses before began;
      ready = callable_so m start turns on.tracks.after.stands version place uses before began;
      next = next_is state m tells past start first now turns calls on low;
      name = reads.name;
      of_call = reads.of_call;
      of_act = reads.of_act before.state.rules.spaces position (ap (λ (s : MetaState). namespace_position ns s.rules.spaces) began.state ∙ found);
    }

    free : (b : Answer) → IsNotRefused start turns a b
    free b = (due b).free position found (is_known m start turns on.tracks.after.stands version place uses)

    ran_here : (more : List Event) → Ran state before.replicas more after.replicas → Ran state m.net.replicas more g.net.replicas
    ran_here more ran = ran_so m.net before after g.net began.replicas ended.replicas state more ran

    legal_after : Legal tells after.replicas.events
    legal_after = subst (Legal tells) (ap (λ (t : Tracked D). t.events) (sym ended.replicas)) is_left.legal

    -- what came tells of the line
    told : (b : Answer) → SetsNone b → DeliversNone b → LeavesLine ReadLine start turns [] before a b after → (more : List Event) → Ran state before.replicas more after.replicas → IsTracked b
    told b sets delivers line more ran =
        told_on state m tells past start first now turns calls on lawful a b g is_left sets reads.calm keeps ReadLine (read_on state (Some m)) (λ more made. made.makes)
        (line_so m.net before after g.net began.replicas ended.replicas ReadLine start turns [] a b line) (free b) more (ran_here more ran) (same_bag state m tells past start first now turns calls on lawful a b g is_left sets reads.calm keeps delivers bag)

    answered : (series : List Series) (short : Bool) → IsReadFound state before call w level series short after → IsTracked (answer.Found series short)
    answered series short h = told (answer.Found series short) tt tt (found_tells state before tells start turns after call a w level series short is_read legal_after h) h.events h.ran

    fell_short : (got needed : ℕ) (reasons : List (ℕ × Reason)) (shard : ℕ) → IsFirstShort state before.state before.fates call w enough before.replicas after.replicas shard needed got reasons → IsTracked (answer.Consistency got needed reasons shard)
    fell_short got needed reasons shard h = told (answer.Consistency got needed reasons shard) tt tt (first_short_tells state before tells start turns after call a w level shard needed got reasons is_read legal_after h) _ h.ran

    ended_early : IsStopped state before.state before.fates call w enough before.replicas after.replicas ⊎ IsCutShort state before.state before.fates call w enough before.replicas after.replicas → IsTracked answer.Memory
    ended_early (inl h) = told answer.Memory tt tt (ended_tells state before start turns after call a w level is_read (inl h)) h.events h.ran
    ended_early (inr h) = told answer.Memory tt tt (ended_tells state before start turns after call a w level is_read (inr h)) _ h.ran

    full : IsFull state before.state before.fates call w enough before.replicas after.replicas → IsTracked answer.Full
    full h =
        let line = served_so m.net before after g.net began.replicas ended.replicas ReadLine start turns [] a answer.Full (full_tells state before start turns after call a w level is_read h) in
        served_on state m tells past start first now turns calls on lawful a answer.Full g is_left tt reads.calm keeps ReadLine (read_on state (Some m)) (λ more made. made.makes) line h.events (ran_here h.events h.ran)
        (same_bag state m tells past start first now turns calls on lawful a answer.Full g is_left tt reads.calm keeps tt bag)

    asked : (b : Answer) → IsReadAnswer state before call w level b after → IsTracked b
    asked (answer.Found series short) h = answered series short h
    asked (answer.Consistency got needed reasons shard) h = fell_short got needed reasons shard h
    asked answer.Memory h = ended_early h
    asked answer.Full h = full h
    asked _ h = absurd h

  fetched : (b : Answer) → call.number < last_number → IsFetchAnswer state m call ns pick range level version b g → IsTracked b
  fetched b low (inl missing) = missing_on state m tells past start first now turns calls on a b g ns version (due b) missing
  fetched b low (inr h) = let went = h.answers in asked h.position h.found low h.keeps h.bag went.place went.uses went.before went.after went.began went.ended b went.made

  does : (b : Answer) → MayCall call.number (IsFetchAnswer state m call ns pick range level version b g) b m g → IsTracked b
  does b (inl h) = fetched b h.0 h.1
  does b (inr none) = wanted_on state m tells past start first now turns calls on a b g none.2 none.1

pub fetches_are_tracked : {D : Type 0} {G : Ghosts D} (state : D → DiskState) → ((d : D) → IsLawfulDisk (state d)) → (m : Members D G) → FetchesAreTracked state m
fetches_are_tracked state lawful m ns id from to level version tells past start first now turns calls b g on is_left h =
    let range : Range = record { from = from; to = to } in
    does state lawful m (act.Fetch ns id from to level version) ns (λ k. pick.One k id) range level version
    (record { name = Some id; of_call = refl; of_act = λ spaces k found. ap (option_map (λ j. record { pick = pick.One j id; from = from; to = to; level = level })) found; calm = λ opens. opens })
    tells past start first now turns calls on ((left_due state m tells past start first now turns calls on).fetch ns id from to level version) g is_left b h

pub matches_are_tracked : {D : Type 0} {G : Ghosts D} (state : D → DiskState) → ((d : D) → IsLawfulDisk (state d)) → (m : Members D G) → MatchesAreTracked state m
matches_are_tracked state lawful m ns wanted from to level version tells past start first now turns calls b g on is_left h =
    let range : Range = record { from = from; to = to } in
    does state lawful m (act.Match ns wanted from to level version) ns (λ k. pick.Match k wanted) range level version
    (record { name = None; of_call = refl; of_act = λ spaces k found. ap (option_map (λ j. record { pick = pick.Match j wanted; from = from; to = to; level = level })) found; calm = λ opens. opens })
    tells past start first now turns calls on ((left_due state m tells past start first now turns calls on).find ns wanted from to level version) g is_left b h
