-- Each kind of line tells of its turn.
use Rattle.transcripts.specs.Record.{TurnPosition, line_of}
use Rattle.std.proofs.Common.{◌≡◌, ℕ, suc, ◌<◌, ◌≤◌, ◌+◌, List, [], ◌∷◌, ◌++◌, take, length, refl, sym, ap, ◌∙◌, subst, inl, inr, arith, length-append, append_assoc, true, false}
use Rattle.std.specs.Prelude.{◌⊎◌, Option, Some, None}
use Rattle.std.proofs.lemmas.Bool.{cases_lt}
use Rattle.m3_model.proofs.MemberLemmas.{IsIn-append_cases}
use Rattle.m3_model.specs.Members.{IsIn}
use Rattle.m3_model.specs.Reads.{found_of}
use Rattle.transcripts.specs.Placements.{printed}
use Rattle.transcripts.specs.Rules.{rules_at, start_rules}
use Rattle.m3_model.specs.declared.act.Act.{Act}
use Rattle.m3_model.specs.declared.act.Act.TheVariants as act
use Rattle.m3_model.specs.declared.answer.Answer.{Answer}
use Rattle.m3_model.specs.declared.answer.Answer.TheVariants as answer
use Rattle.m3_model.specs.declared.placement.Placement.{Placement}
use Rattle.m3_model.specs.declared.point.Pick.{Pick}
use Rattle.m3_model.specs.declared.point.Series.{Series}
use Rattle.m3_model.specs.declared.rules.MetaState.{MetaState}
use Rattle.m3_model.specs.declared.rules.Rules.{Rules}
use Rattle.m3_model.specs.declared.turn.Turn.{Turn}
use Rattle.cluster_core.specs.Lists.{At}
use Rattle.cluster_core.specs.declared.event.Event.{Event}
use Rattle.cluster_core.specs.declared.event.Event.TheVariants as event
use Rattle.cluster_core.proofs.ListLemmas.{at_append, at_in, at_within}
use Rattle.told_by.specs.Clocks.{IsClockOf, rules_left, sets_rules}
use Rattle.told_by.specs.Lines.{AreFetched, ClockLine, InitLine, IsAskOrStep, MayChange, PlainLine, ReadLine, WriteLine, ack_by, position_after, start_of}
use Rattle.told_by.specs.Openings.{IsInitOf, sets_seed}
use Rattle.told_by.specs.Placements.{EndsPrinted, PrintsPeers}
use Rattle.told_by.specs.Reads.{Asking, IsAskedBy, Fetched, IsAskingOf, IsFetchOf, IsStartAt, IsStartOf}
use Rattle.told_by.specs.Spans.{From}
use Rattle.told_by.specs.Told.{TellsLine}
use Rattle.told_by.specs.Writes.{IsSendAt, IsSendOf, IsUnmetWrite}
use Rattle.told_by.proofs.AnswerLemmas.{write_sets_no_seed}
use Rattle.told_by.proofs.LineLemmas.{at_front, lift_asking, lift_send_of}
use Rattle.told_by.proofs.OneLemmas.{among_back, at_back, back_at, is_alone, one_told, one_told_from, one_told_to, spans, makers}
use Rattle.told_by.proofs.TurnLemmas.{at_cut}

-- ---- acts and answers

sets_done : (a : Act) (b : Answer) → sets_rules a b ≡ true → b ≡ answer.Done
sets_done (act.Now now) answer.Done e = refl
sets_done (act.Namespace name block past future retention) answer.Done e = refl
sets_done _ _ e = cc

done_seeds_not : (a : Act) → sets_seed a answer.Done ≡ false
done_seeds_not (act.Init rf shards seed nodes) = refl
done_seeds_not _ = refl

done_not_unmet : (a : Act) → IsUnmetWrite a answer.Done → ⊥
done_not_unmet (act.Write ns id t v level version) h = h
done_not_unmet _ h = h

placed_sets_not : (a : Act) (place : Placement) (version : ℕ) → sets_rules a (answer.Placed place version) ≡ false
placed_sets_not (act.Now now) place version = refl
placed_sets_not (act.Namespace name block past future retention) place version = refl
placed_sets_not _ place version = refl

placed_not_unmet : (a : Act) (place : Placement) (version : ℕ) → IsUnmetWrite a (answer.Placed place version) → ⊥
placed_not_unmet (act.Write ns id t v level versioned) place version h = h
placed_not_unmet _ place version h = h

in_ack : (n : ℕ) (b : Answer) (e : Event) → IsIn (ack_by n b) e → (nodes : List ℕ) × (b ≡ answer.Acks nodes) × (event.Ack n nodes ≡ e)
in_ack n (answer.Acks nodes) e (inl same) = (nodes, refl, same)
in_ack n (answer.Acks nodes) e (inr none) = absurd none
in_ack n _ e h = absurd h

-- an answer of another kind prints no shard as turned available
not_boot : {Mine : ℕ → Type 0} {events : List Event} {makers : ℕ → TurnPosition} → (turns : List Turn) (a : Act) (b : Answer) → ((available : List (ℕ × List ℕ)) (place : Placement) (version : ℕ) → b ≡ answer.Available available place version → ⊥) → EndsPrinted Mine events makers (position_after turns a b)
not_boot turns a b other available boot x m = absurd (other available boot.place boot.version boot.answered)

-- ---- lines of no event of a turn but Places

module _ (start : Option MetaState) (turns : List Turn) (events : List Event) (a : Act) (b : Answer) (more : List Event) where
  stays : (i : ℕ) (e : Event) → At events i e → At (events ++ more) i e
  stays i e h = at_append events more i e h

  -- past the events so far the line has some
  not_first : (0 < length events) ⊎ (more ≡ []) → From (length events) 0 → (e : Event) → At (events ++ more) 0 e → ⊥
  not_first (inl some) none e there = omega arith
  not_first (inr no_more) none e there = omega (arith, at_within (events ++ more) 0 e there, length-append events more, ap length no_more)

  pub taken : (i : ℕ) → take (length events + i) (events ++ more) ≡ events ++ take i more
  taken i = take_past events more i
    where
      take_past : {X : Type 0} (xs ys : List X) (i : ℕ) → take (length xs + i) (xs ++ ys) ≡ xs ++ take i ys
      take_past [] ys i = let same : 0 + i ≡ i = omega arith in ap (λ n. take n ys) same
      take_past (x ∷ xs) ys i = let same : suc (length xs) + i ≡ suc (length xs + i) = omega arith in ap (λ n. take n (x ∷ (xs ++ ys))) same ∙ ap (λ zs. x ∷ zs) (take_past xs ys i)

  pub plain_told : PlainLine start turns events a b more → TellsLine start turns events (line_of a b) more
  plain_told h =
      let among : (i : ℕ) (e : Event) → length events ≤ i → At (events ++ more) i e → MayChange (position_after turns a b) (take i (events ++ more)) e =
      λ i e le there.
      let r = at_back events more i e there le in
      subst (λ es. MayChange (position_after turns a b) es e) (sym (ap (λ n. take n (events ++ more)) r.1 ∙ taken r.0)) (h.adds r.0 e r.2) in
      one_told start turns events a b more (record {
        begun = λ none e there. absurd (not_first h.opened none e there);
        inits = λ sets. absurd (let bad : true ≡ false = sym sets ∙ (h.plain).no_seed in cc);
        acked = λ nodes is. absurd ((h.plain).no_acks nodes is);
        sent = λ unmet. absurd ((h.plain).not_unmet unmet);
        each_send = λ i version s point le there. absurd (among i (event.Send version s point) le there);
        each_ack = λ i send nodes le there. absurd (among i (event.Ack send nodes) le there);
        finds = λ found is. absurd (let bad : None ≡ Some found = sym (h.plain).no_found ∙ is in cc);
        each_start = λ i version s rules chosen from to le there. absurd (among i (event.FetchStart version s rules chosen from to) le there);
        each_done = λ i began nodes series le there. absurd (among i (event.FetchDone began nodes series) le there);
        prints = h.prints;
        each_end = λ i place done le past there. among i (event.Place place done) le there;
        ends = h.ends;
        set = λ sets. absurd (let bad : true ≡ false = sym sets ∙ (h.plain).no_rules in cc);
        makes = (h.makes).makes;
        restarts = (h.makes).restarts;
        hears = (h.makes).hears;
        each_clock = λ i rules le past there. absurd (among i (event.Clock rules) le there);
      })

  pub plain_told_from : (h : PlainLine start turns events a b more) → ((plain_told h).spans).from (position_after turns a b) ≡ length events
  unfolding plain_told
  plain_told_from h = one_told_from start turns events a b more (_)

  pub plain_told_to : (h : PlainLine start turns events a b more) → ((plain_told h).spans).to (position_after turns a b) ≡ length (events ++ more)
  unfolding plain_told
  plain_told_to h = one_told_to start turns events a b more (_)

  -- ---- `now` and `namespace`

  pub clock_told : ClockLine start turns events a b more → TellsLine start turns events (line_of a b) more
  clock_told h =
      let done = sets_done a b h.sets in
      let left = rules_left start (position_after turns a b) in
      let kinds : (e : Event) → IsIn more e → IsAskOrStep e ⊎ (event.Clock left ≡ e) =
      λ e m. elim (IsIn-append_cases h.asks (event.Clock left ∷ []) e (subst (λ es. IsIn es e) h.adds m)) as (λ _. IsAskOrStep e ⊎ (event.Clock left ≡ e)) [
        | inl ask ↦ inl (h.steps e ask)
        | inr last ↦ elim last as (λ _. IsAskOrStep e ⊎ (event.Clock left ≡ e)) [ inl is ↦ inr is | inr none ↦ absurd none ]
      ] in
      let among : (i : ℕ) (e : Event) → length events ≤ i → At (events ++ more) i e → IsAskOrStep e ⊎ (event.Clock left ≡ e) = λ i e le there. kinds e (among_back events more i e there le) in
      let clock_there : At (events ++ more) (length events + length h.asks) (event.Clock left) = back_at events more (length h.asks) (event.Clock left) (subst (λ es. At es (length h.asks) (event.Clock left)) (sym h.adds) (at_cut h.asks (event.Clock left) [])) in
      one_told start turns events a b more (record {
        begun = λ none e there. absurd (omega (arith, h.opened));
        inits = λ sets. absurd (let bad : true ≡ false = sym sets ∙ ap (sets_seed a) done ∙ done_seeds_not a in cc);
        acked = λ nodes is. absurd (let bad : answer.Done ≡ answer.Acks nodes = sym done ∙ is in cc);
        sent = λ unmet. absurd (done_not_unmet a (subst (IsUnmetWrite a) done unmet));
        each_send = λ i version s point le there. elim (among i (event.Send version s point) le there) as (λ _. IsSendOf start (events ++ more) (position_after turns a b) version s point) [ inl none ↦ absurd none | inr is ↦ cc ];
        each_ack = λ i send nodes le there. elim (among i (event.Ack send nodes) le there) as (λ _. IsSendAt (From (length events)) (events ++ more) (makers start turns events a b more) (position_after turns a b) send) [ inl none ↦ absurd none | inr is ↦ cc ];
        finds = λ found is. absurd (let bad : None ≡ Some found = sym (ap found_of done) ∙ is in cc);
        each_start = λ i version s rules chosen from to le there. elim (among i (event.FetchStart version s rules chosen from to) le there) as (λ _. IsStartOf start (events ++ more) (position_after turns a b) version s rules chosen from to) [ inl none ↦ absurd none | inr is ↦ cc ];
        each_done = λ i began nodes series le there. elim (among i (event.FetchDone began nodes series) le there) as (λ _. IsStartAt (From (length events)) (events ++ more) (makers start turns events a b more) (position_after turns a b) began) [ inl none ↦ absurd none | inr is ↦ cc ];
        prints = record { is_place = λ place is. absurd (let bad : None ≡ Some place = sym (ap printed done) ∙ is in cc); not_earlier = λ p k was is of_was of_is. absurd (let bad : None ≡ Some is = sym (ap printed done) ∙ of_is in cc) };
        each_end = λ i place done le past there d m. elim (among i (event.Place place done) le there) as (λ _. PrintsPeers place (take i (events ++ more)) (position_after turns a b) d.0 d.1) [ inl none ↦ absurd none | inr is ↦ cc ];
        ends = not_boot turns a b (λ available place version is. let bad : answer.Done ≡ answer.Available available place version = sym done ∙ is in cc);
        set = λ sets. record { clock = length events + length h.asks; there = clock_there; mine = omega arith; past_opening = omega (arith, h.opened); own = refl };
        makes = (h.makes).makes;
        restarts = (h.makes).restarts;
        hears = (h.makes).hears;
        each_clock = λ i rules le past there. elim (among i (event.Clock rules) le there) as (λ _. IsClockOf start (turns ++ line_of a b ∷ []) (position_after turns a b) rules) [
          | inl none ↦ absurd none
          | inr is ↦ record { alone = is_alone start turns events a b more; sets = h.sets; rules_are = cc }
        ];
      })

  pub clock_told_from : (h : ClockLine start turns events a b more) → ((clock_told h).spans).from (position_after turns a b) ≡ length events
  unfolding clock_told
  clock_told_from h = one_told_from start turns events a b more (_)

  pub clock_told_to : (h : ClockLine start turns events a b more) → ((clock_told h).spans).to (position_after turns a b) ≡ length (events ++ more)
  unfolding clock_told
  clock_told_to h = one_told_to start turns events a b more (_)

  -- ---- `init`

  pub init_told : InitLine start turns events a b more → TellsLine start turns events (line_of a b) more
  init_told h =
      let placing = event.Place h.place [] in
      let clock = event.Clock (start_rules None) in
      let whole : events ++ more ≡ (placing ∷ clock ∷ []) ++ h.begins = ap (λ es. es ++ more) h.opens ∙ h.adds in
      let placed : At (events ++ more) 0 placing = subst (λ es. At es 0 placing) (sym whole) refl in
      let clocked : At (events ++ more) 1 clock = subst (λ es. At es 1 clock) (sym whole) refl in
      let kinds : (i : ℕ) (e : Event) → At (events ++ more) i e → IsAskOrStep e ⊎ ((placing ≡ e) ⊎ (clock ≡ e)) =
      λ i e there. elim (at_in ((placing ∷ clock ∷ []) ++ h.begins) i e (subst (λ es. At es i e) whole there)) as (λ _. IsAskOrStep e ⊎ ((placing ≡ e) ⊎ (clock ≡ e))) [
        | inl is ↦ inr (inl is)
        | inr rest ↦ elim rest as (λ _. IsAskOrStep e ⊎ ((placing ≡ e) ⊎ (clock ≡ e))) [ inl is ↦ inr (inr is) | inr step ↦ inl (h.steps e step) ]
      ] in
      let is_init : IsInitOf start (turns ++ line_of a b ∷ []) (events ++ more) (spans start turns events a b more) (position_after turns a b) = record {
        found_nothing = h.found_nothing;
        alone = is_alone start turns events a b more;
        sets = h.sets;
        place = h.place;
        version = h.version;
        answered = h.answered;
        placed = placed;
        clock = clocked;
        from_is = ap length h.opens;
        to_above = omega (arith, at_within (events ++ more) 1 clock clocked);
      } in
      one_told start turns events a b more (record {
        begun = λ none e there. is_init;
        inits = λ sets. is_init;
        acked = λ nodes is. absurd (let bad : answer.Placed h.place h.version ≡ answer.Acks nodes = sym h.answered ∙ is in cc);
        sent = λ unmet. absurd (placed_not_unmet a h.place h.version (subst (IsUnmetWrite a) h.answered unmet));
        each_send = λ i version s point le there. elim (kinds i (event.Send version s point) there) as (λ _. IsSendOf start (events ++ more) (position_after turns a b) version s point) [ inl none ↦ absurd none | inr is ↦ elim is as (λ _. IsSendOf start (events ++ more) (position_after turns a b) version s point) [ inl e ↦ cc | inr e ↦ cc ] ];
        each_ack = λ i send nodes le there. elim (kinds i (event.Ack send nodes) there) as (λ _. IsSendAt (From (length events)) (events ++ more) (makers start turns events a b more) (position_after turns a b) send) [ inl none ↦ absurd none | inr is ↦ elim is as (λ _. IsSendAt (From (length events)) (events ++ more) (makers start turns events a b more) (position_after turns a b) send) [ inl e ↦ cc | inr e ↦ cc ] ];
        finds = λ found is. absurd (let bad : None ≡ Some found = sym (ap found_of h.answered) ∙ is in cc);
        each_start = λ i version s rules chosen from to le there. elim (kinds i (event.FetchStart version s rules chosen from to) there) as (λ _. IsStartOf start (events ++ more) (position_after turns a b) version s rules chosen from to) [ inl none ↦ absurd none | inr is ↦ elim is as (λ _. IsStartOf start (events ++ more) (position_after turns a b) version s rules chosen from to) [ inl e ↦ cc | inr e ↦ cc ] ];
        each_done = λ i began nodes series le there. elim (kinds i (event.FetchDone began nodes series) there) as (λ _. IsStartAt (From (length events)) (events ++ more) (makers start turns events a b more) (position_after turns a b) began) [ inl none ↦ absurd none | inr is ↦ elim is as (λ _. IsStartAt (From (length events)) (events ++ more) (makers start turns events a b more) (position_after turns a b) began) [ inl e ↦ cc | inr e ↦ cc ] ];
        prints = record {
          is_place = λ place is.
              let same : h.place ≡ place = let both : Some h.place ≡ Some place = sym (ap printed h.answered) ∙ is in cc in
              record { place_at = 0; done = []; there = subst (λ p. At (events ++ more) 0 (event.Place p [])) same placed; in_time = at_within (events ++ more) 0 placing placed };
          not_earlier = λ p k was is of_was of_is. absurd (let bad : None ≡ Some was = sym (h.not_earlier p k) ∙ of_was in cc);
        };
        each_end = λ i place done le past there d m. absurd (h.steps (event.Place place done) (among_back (placing ∷ clock ∷ []) h.begins i (event.Place place done) (subst (λ es. At es i (event.Place place done)) whole there) past));
        ends = not_boot turns a b (λ available place version is. let bad : answer.Placed h.place h.version ≡ answer.Available available place version = sym h.answered ∙ is in cc);
        set = λ sets. absurd (let bad : true ≡ false = sym sets ∙ ap (sets_rules a) h.answered ∙ placed_sets_not a h.place h.version in cc);
        makes = (h.makes).makes;
        restarts = (h.makes).restarts;
        hears = (h.makes).hears;
        each_clock = λ i rules le past there. absurd (h.steps (event.Clock rules) (among_back (placing ∷ clock ∷ []) h.begins i (event.Clock rules) (subst (λ es. At es i (event.Clock rules)) whole there) past));
      })

  pub init_told_from : (h : InitLine start turns events a b more) → ((init_told h).spans).from (position_after turns a b) ≡ length events
  unfolding init_told
  init_told_from h = one_told_from start turns events a b more (_)

  pub init_told_to : (h : InitLine start turns events a b more) → ((init_told h).spans).to (position_after turns a b) ≡ length (events ++ more)
  unfolding init_told
  init_told_to h = one_told_to start turns events a b more (_)

  -- ---- writes

  pub write_told : WriteLine start turns events a b more → TellsLine start turns events (line_of a b) more
  write_told h =
      let send = event.Send h.version h.s h.point in
      let kinds : (e : Event) → IsIn more e → (send ≡ e) ⊎ (IsAskOrStep e ⊎ IsIn (ack_by (length events) b) e) =
      λ e m. elim (subst (λ es. IsIn es e) h.adds m) as (λ _. (send ≡ e) ⊎ (IsAskOrStep e ⊎ IsIn (ack_by (length events) b) e)) [
        | inl is ↦ inl is
        | inr rest ↦ elim (IsIn-append_cases h.puts (ack_by (length events) b) e rest) as (λ _. (send ≡ e) ⊎ (IsAskOrStep e ⊎ IsIn (ack_by (length events) b) e)) [ inl step ↦ inr (inl (h.steps e step)) | inr last ↦ inr (inr last) ]
      ] in
      let among : (i : ℕ) (e : Event) → length events ≤ i → At (events ++ more) i e → (send ≡ e) ⊎ (IsAskOrStep e ⊎ IsIn (ack_by (length events) b) e) = λ i e le there. kinds e (among_back events more i e there le) in
      let here : length events + 0 ≡ length events = omega arith in
      let send_there : At (events ++ more) (length events) send = subst (λ n. At (events ++ more) n send) here (back_at events more 0 send (subst (λ es. At es 0 send) (sym h.adds) refl)) in
      let send_at : IsSendAt (From (length events)) (events ++ more) (makers start turns events a b more) (position_after turns a b) (length events) = record { version = h.version; s = h.s; point = h.point; there = send_there; mine = omega arith; own = refl } in
      let sends = lift_send_of stays start (position_after turns a b) h.version h.s h.point h.sends in
      let no_seed = write_sets_no_seed (rules_at start (position_after turns a b)).spaces a b h.point (h.sends).of_point in
      one_told start turns events a b more (record {
        begun = λ none e there. absurd (omega (arith, h.opened));
        inits = λ sets. absurd (let bad : true ≡ false = sym sets ∙ no_seed in cc);
        acked = λ nodes is.
            let acked = event.Ack (length events) nodes in
            let whole : more ≡ (send ∷ h.puts) ++ acked ∷ [] = h.adds ∙ ap (λ es. send ∷ (h.puts ++ es)) (ap (ack_by (length events)) is) in
            record {
              send = length events;
              sent = send_at;
              ack = length events + length (send ∷ h.puts);
              acked = back_at events more (length (send ∷ h.puts)) acked (subst (λ es. At es (length (send ∷ h.puts)) acked) (sym whole) (at_cut (send ∷ h.puts) acked []));
              mine = omega arith;
              own = refl;
            };
        sent = λ unmet. record { send = length events; sent = send_at };
        each_send = λ i version s point le there. elim (among i (event.Send version s point) le there) as (λ _. IsSendOf start (events ++ more) (position_after turns a b) version s point) [
          | inl is ↦
              let v : h.version ≡ version = cc in
              let k : h.s ≡ s = cc in
              let p : h.point ≡ point = cc in
              subst (λ x. IsSendOf start (events ++ more) (position_after turns a b) version s x) p (subst (λ n. IsSendOf start (events ++ more) (position_after turns a b) version n h.point) k (subst (λ n. IsSendOf start (events ++ more) (position_after turns a b) n h.s h.point) v sends))
          | inr rest ↦ elim rest as (λ _. IsSendOf start (events ++ more) (position_after turns a b) version s point) [ inl none ↦ absurd none | inr last ↦ let k = in_ack (length events) b (event.Send version s point) last in let bad = k.2 in cc ]
        ];
        each_ack = λ i sent nodes le there. elim (among i (event.Ack sent nodes) le there) as (λ _. IsSendAt (From (length events)) (events ++ more) (makers start turns events a b more) (position_after turns a b) sent) [
          | inl is ↦ cc
          | inr rest ↦ elim rest as (λ _. IsSendAt (From (length events)) (events ++ more) (makers start turns events a b more) (position_after turns a b) sent) [
            | inl none ↦ absurd none
            | inr last ↦
                let k = in_ack (length events) b (event.Ack sent nodes) last in
                let same_ack : event.Ack (length events) k.0 ≡ event.Ack sent nodes = k.2 in
                let place : length events ≡ sent = cc in
                subst (λ n. IsSendAt (From (length events)) (events ++ more) (makers start turns events a b more) (position_after turns a b) n) place send_at
          ]
        ];
        finds = λ found is. absurd (let bad : None ≡ Some found = sym h.no_found ∙ is in cc);
        each_start = λ i version s rules chosen from to le there. elim (among i (event.FetchStart version s rules chosen from to) le there) as (λ _. IsStartOf start (events ++ more) (position_after turns a b) version s rules chosen from to) [
          | inl is ↦ cc
          | inr rest ↦ elim rest as (λ _. IsStartOf start (events ++ more) (position_after turns a b) version s rules chosen from to) [ inl none ↦ absurd none | inr last ↦ let k = in_ack (length events) b (event.FetchStart version s rules chosen from to) last in let bad = k.2 in cc ]
        ];
        each_done = λ i began nodes series le there. elim (among i (event.FetchDone began nodes series) le there) as (λ _. IsStartAt (From (length events)) (events ++ more) (makers start turns events a b more) (position_after turns a b) began) [
          | inl is ↦ cc
          | inr rest ↦ elim rest as (λ _. IsStartAt (From (length events)) (events ++ more) (makers start turns events a b more) (position_after turns a b) began) [ inl none ↦ absurd none | inr last ↦ let k = in_ack (length events) b (event.FetchDone began nodes series) last in let bad = k.2 in cc ]
        ];
        prints = record { is_place = λ place is. absurd (let bad : None ≡ Some place = sym h.no_place ∙ is in cc); not_earlier = λ p k was is of_was of_is. absurd (let bad : None ≡ Some is = sym h.no_place ∙ of_is in cc) };
        each_end = λ i place done le past there d m. elim (among i (event.Place place done) le there) as (λ _. PrintsPeers place (take i (events ++ more)) (position_after turns a b) d.0 d.1) [
          | inl is ↦ cc
          | inr rest ↦ elim rest as (λ _. PrintsPeers place (take i (events ++ more)) (position_after turns a b) d.0 d.1) [ inl none ↦ absurd none | inr last ↦ let k = in_ack (length events) b (event.Place place done) last in let bad = k.2 in cc ]
        ];
        ends = not_boot turns a b (λ available place version is. let bad : None ≡ Some place = sym h.no_place ∙ ap printed is in cc);
        set = λ sets. absurd (let bad : true ≡ false = sym sets ∙ h.no_rules in cc);
        makes = (h.makes).makes;
        restarts = (h.makes).restarts;
        hears = (h.makes).hears;
        each_clock = λ i rules le past there. elim (among i (event.Clock rules) le there) as (λ _. IsClockOf start (turns ++ line_of a b ∷ []) (position_after turns a b) rules) [
          | inl is ↦ cc
          | inr rest ↦ elim rest as (λ _. IsClockOf start (turns ++ line_of a b ∷ []) (position_after turns a b) rules) [ inl none ↦ absurd none | inr last ↦ let k = in_ack (length events) b (event.Clock rules) last in let bad = k.2 in cc ]
        ];
      })

  pub write_told_from : (h : WriteLine start turns events a b more) → ((write_told h).spans).from (position_after turns a b) ≡ length events
  unfolding write_told
  write_told_from h = one_told_from start turns events a b more (_)

  pub write_told_to : (h : WriteLine start turns events a b more) → ((write_told h).spans).to (position_after turns a b) ≡ length (events ++ more)
  unfolding write_told
  write_told_to h = one_told_to start turns events a b more (_)

  -- ---- reads

  -- an event of a read
  abbrev IsReading : Event → Type 0
  IsReading (event.FetchStart version s rules chosen from to) = Unit {0}
  IsReading (event.FetchDone began nodes series) = Unit {0}
  IsReading e = IsAskOrStep e

  reading_step : (e : Event) → IsAskOrStep e → IsReading e
  reading_step (event.Ask asked) h = tt
  reading_step (event.Step n s c r) h = tt
  reading_step _ h = absurd h

  reading_is : (d e : Event) → d ≡ e → IsReading d → IsReading e
  reading_is d e same h = subst IsReading same h

  -- what is known of the events behind a front of the list
  record Reading (asking : Asking) (fetches : ℕ → Fetched) (low : ℕ) (shards : List ℕ) : Type 0 where
    starts : (i version s : ℕ) (rules : Rules) (chosen : Pick) (from to : ℕ) → low ≤ i → At (events ++ more) i (event.FetchStart version s rules chosen from to) → IsStartOf start (events ++ more) (position_after turns a b) version s rules chosen from to
    dones : (i began : ℕ) (nodes : List ℕ) (series : List Series) → low ≤ i → At (events ++ more) i (event.FetchDone began nodes series) → IsStartAt (From (length events)) (events ++ more) (makers start turns events a b more) (position_after turns a b) began
    kinds : (i : ℕ) (e : Event) → low ≤ i → At (events ++ more) i e → IsReading e
    each : (s : ℕ) → IsIn shards s → IsFetchOf start (From (length events)) (events ++ more) (makers start turns events a b more) (position_after turns a b) asking s (fetches s)

  start_is : (asking : Asking) → IsAskingOf start events (position_after turns a b) asking → (s : ℕ) → IsAskedBy start (position_after turns a b) asking s → (version t : ℕ) (rules : Rules) (chosen : Pick) (from to : ℕ)
      → start_of start (position_after turns a b) asking s ≡ event.FetchStart version t rules chosen from to → IsStartOf start (events ++ more) (position_after turns a b) version t rules chosen from to
  start_is asking of_turn s asked version t rules chosen from to e =
      let shard : s ≡ t = cc in
      record {
        asking = asking;
        of_turn = lift_asking stays start (position_after turns a b) asking of_turn;
        asked = subst (IsAskedBy start (position_after turns a b) asking) shard asked;
        version_is = cc;
        rules_are = cc;
        pick_is = cc;
        from_is = cc;
        to_is = cc;
      }

  reading : (asking : Asking) → IsAskingOf start events (position_after turns a b) asking → (fetches : ℕ → Fetched) → (shards : List ℕ) (pre rest : List Event) → events ++ more ≡ pre ++ rest → length events ≤ length pre
      → AreFetched start (position_after turns a b) asking fetches (length pre) shards rest → Reading asking fetches (length pre) shards
  reading asking of_turn fetches [] pre rest whole low (inl steps) =
      let among : (i : ℕ) (e : Event) → length pre ≤ i → At (events ++ more) i e → IsAskOrStep e = λ i e le there. steps e (among_back pre rest i e (subst (λ es. At es i e) whole there) le) in
      record {
        starts = λ i version s rules chosen from to le there. absurd (among i (event.FetchStart version s rules chosen from to) le there);
        dones = λ i began nodes series le there. absurd (among i (event.FetchDone began nodes series) le there);
        kinds = λ i e le there. reading_step e (among i e le there);
        each = λ s m. absurd m;
      }
  reading asking of_turn fetches [] pre rest whole low (inr cut) =
      let began = start_of start (position_after turns a b) asking cut.s in
      let among : (i : ℕ) (e : Event) → length pre ≤ i → At (events ++ more) i e → (began ≡ e) ⊎ IsAskOrStep e =
      λ i e le there. elim (subst (λ es. IsIn es e) cut.adds (among_back pre rest i e (subst (λ es. At es i e) whole there) le)) as (λ _. (began ≡ e) ⊎ IsAskOrStep e) [ inl is ↦ inl is | inr step ↦ inr (cut.steps e step) ] in
      record {
        starts = λ i version s rules chosen from to le there. elim (among i (event.FetchStart version s rules chosen from to) le there) as (λ _. IsStartOf start (events ++ more) (position_after turns a b) version s rules chosen from to) [
          | inl is ↦ start_is asking of_turn cut.s cut.asked version s rules chosen from to is
          | inr none ↦ absurd none
        ];
        dones = λ i done nodes series le there. elim (among i (event.FetchDone done nodes series) le there) as (λ _. IsStartAt (From (length events)) (events ++ more) (makers start turns events a b more) (position_after turns a b) done) [ inl is ↦ cc | inr none ↦ absurd none ];
        kinds = λ i e le there. elim (among i e le there) as (λ _. IsReading e) [ inl is ↦ reading_is began e is tt | inr step ↦ reading_step e step ];
        each = λ s m. absurd m;
      }
  reading asking of_turn fetches (s ∷ shards) pre rest whole low h =
      let f = h.1 in
      let began = start_of start (position_after turns a b) asking s in
      let ended = event.FetchDone (length pre) (fetches s).nodes (fetches s).series in
      let chunk : List Event = began ∷ (f.reads ++ ended ∷ []) in
      let split : rest ≡ chunk ++ h.0 = f.adds ∙ ap (λ es. began ∷ es) (sym (append_assoc f.reads (ended ∷ []) h.0)) in
      let further : events ++ more ≡ (pre ++ chunk) ++ h.0 = whole ∙ ap (λ es. pre ++ es) split ∙ sym (append_assoc pre chunk h.0) in
      let size : length (pre ++ chunk) ≡ suc (fetches s).ended = length-append pre chunk ∙ omega (arith, f.ended_is, length-append f.reads (ended ∷ [])) in
      let later = reading asking of_turn fetches shards (pre ++ chunk) h.0 further (omega (arith, length-append pre chunk)) (subst (λ n. AreFetched start (position_after turns a b) asking fetches n shards h.0) (sym size) h.2) in
      let here : length pre + 0 ≡ length pre = omega arith in
      let began_there : At (events ++ more) (length pre) began = subst (λ n. At (events ++ more) n began) here (subst (λ es. At es (length pre + 0) began) (sym whole) (back_at pre rest 0 began (subst (λ es. At es 0 began) (sym f.adds) refl))) in
      let chunk_ended : At chunk (length (began ∷ f.reads)) ended = at_cut (began ∷ f.reads) ended [] in
      let ended_there : At (events ++ more) (length pre + (1 + length f.reads)) ended =
      let suc_is : length (began ∷ f.reads) ≡ 1 + length f.reads = omega arith in
      subst (λ n. At (events ++ more) (length pre + n) ended) suc_is (subst (λ es. At es (length pre + length (began ∷ f.reads)) ended) (sym whole) (back_at pre rest (length (began ∷ f.reads)) ended (subst (λ es. At es (length (began ∷ f.reads)) ended) (sym split) (at_append chunk h.0 (length (began ∷ f.reads)) ended chunk_ended)))) in
      let among : (i : ℕ) (e : Event) → i < length (pre ++ chunk) → length pre ≤ i → At (events ++ more) i e → (began ≡ e) ⊎ (IsAskOrStep e ⊎ (ended ≡ e)) =
      λ i e lt le there.
      elim (among_back pre chunk i e (at_front (pre ++ chunk) h.0 i e (subst (λ es. At es i e) further there) lt) le) as (λ _. (began ≡ e) ⊎ (IsAskOrStep e ⊎ (ended ≡ e))) [
        | inl is ↦ inl is
        | inr tail ↦ elim (IsIn-append_cases f.reads (ended ∷ []) e tail) as (λ _. (began ≡ e) ⊎ (IsAskOrStep e ⊎ (ended ≡ e))) [
          | inl step ↦ inr (inl (f.steps e step))
          | inr last ↦ elim last as (λ _. (began ≡ e) ⊎ (IsAskOrStep e ⊎ (ended ≡ e))) [ inl is ↦ inr (inr is) | inr none ↦ absurd none ]
        ]
      ] in
      let begun_at : IsStartAt (From (length events)) (events ++ more) (makers start turns events a b more) (position_after turns a b) (length pre) = record {
        version = (asking.place).version;
        s = s;
        rules = rules_at start (position_after turns a b);
        pick = (asking.read).pick;
        from = (asking.read).from;
        to = (asking.read).to;
        there = began_there;
        mine = low;
        own = refl;
      } in
      record {
        starts = λ i version t rules chosen from to le there. elim (cases_lt i (length (pre ++ chunk))) as (λ _. IsStartOf start (events ++ more) (position_after turns a b) version t rules chosen from to) [
          | inr ge ↦ later.starts i version t rules chosen from to ge there
          | inl lt ↦ elim (among i (event.FetchStart version t rules chosen from to) lt le there) as (λ _. IsStartOf start (events ++ more) (position_after turns a b) version t rules chosen from to) [
            | inl is ↦ start_is asking of_turn s f.asked version t rules chosen from to is
            | inr rest_of ↦ elim rest_of as (λ _. IsStartOf start (events ++ more) (position_after turns a b) version t rules chosen from to) [ inl none ↦ absurd none | inr is ↦ cc ]
          ]
        ];
        dones = λ i done nodes series le there. elim (cases_lt i (length (pre ++ chunk))) as (λ _. IsStartAt (From (length events)) (events ++ more) (makers start turns events a b more) (position_after turns a b) done) [
          | inr ge ↦ later.dones i done nodes series ge there
          | inl lt ↦ elim (among i (event.FetchDone done nodes series) lt le there) as (λ _. IsStartAt (From (length events)) (events ++ more) (makers start turns events a b more) (position_after turns a b) done) [
            | inl is ↦ cc
            | inr rest_of ↦ elim rest_of as (λ _. IsStartAt (From (length events)) (events ++ more) (makers start turns events a b more) (position_after turns a b) done) [
              | inl none ↦ absurd none
              | inr is ↦ let position : length pre ≡ done = cc in subst (λ n. IsStartAt (From (length events)) (events ++ more) (makers start turns events a b more) (position_after turns a b) n) position begun_at
            ]
          ]
        ];
        kinds = λ i e le there. elim (cases_lt i (length (pre ++ chunk))) as (λ _. IsReading e) [
          | inr ge ↦ later.kinds i e ge there
          | inl lt ↦ elim (among i e lt le there) as (λ _. IsReading e) [
            | inl is ↦ reading_is began e is tt
            | inr rest_of ↦ elim rest_of as (λ _. IsReading e) [ inl step ↦ reading_step e step | inr is ↦ reading_is ended e is tt ]
          ]
        ];
        each = λ t m. elim m as (λ _. IsFetchOf start (From (length events)) (events ++ more) (makers start turns events a b more) (position_after turns a b) asking t (fetches t)) [
          | inr r ↦ later.each t r
          | inl same ↦
              subst (λ n. IsFetchOf start (From (length events)) (events ++ more) (makers start turns events a b more) (position_after turns a b) asking n (fetches n)) same
              (record {
                start_there = subst (λ n. At (events ++ more) n began) (sym f.began_is) began_there;
                start_mine = omega (arith, f.began_is, low);
                own_start = refl;
                done_there = subst (λ n. At (events ++ more) n (event.FetchDone (fetches s).began (fetches s).nodes (fetches s).series)) (sym f.ended_is) (subst (λ n. At (events ++ more) (length pre + (1 + length f.reads)) (event.FetchDone n (fetches s).nodes (fetches s).series)) (sym f.began_is) ended_there);
                done_mine = omega (arith, f.ended_is, low);
                own_done = refl;
              })
        ];
      }

  pub read_told : ReadLine start turns events a b more → TellsLine start turns events (line_of a b) more
  read_told h =
      let r = reading h.asking h.of_turn h.fetches h.shards events more refl (omega arith) h.adds in
      one_told start turns events a b more (record {
        begun = λ none e there. absurd (omega (arith, h.opened));
        inits = λ sets. absurd (let bad : true ≡ false = sym sets ∙ h.no_seed in cc);
        acked = λ nodes is. absurd (h.no_acks nodes is);
        sent = λ unmet. absurd (h.not_unmet unmet);
        each_send = λ i version s point le there. absurd (r.kinds i (event.Send version s point) le there);
        each_ack = λ i send nodes le there. absurd (r.kinds i (event.Ack send nodes) le there);
        finds = λ found is.
            let f = h.finds found is in
            record {
              asking = h.asking;
              of_turn = lift_asking stays start (position_after turns a b) h.asking h.of_turn;
              fetches = h.fetches;
              each = λ s asked. r.each s (f.all s asked);
              enough = f.enough;
              together = f.together;
              is_short = f.is_short;
              not_short = f.not_short;
            };
        each_start = r.starts;
        each_done = r.dones;
        prints = record { is_place = λ place is. absurd (let bad : None ≡ Some place = sym h.no_place ∙ is in cc); not_earlier = λ p k was is of_was of_is. absurd (let bad : None ≡ Some is = sym h.no_place ∙ of_is in cc) };
        each_end = λ i place done le past there. absurd (r.kinds i (event.Place place done) le there);
        ends = not_boot turns a b (λ available place version is. let bad : None ≡ Some place = sym h.no_place ∙ ap printed is in cc);
        set = λ sets. absurd (let bad : true ≡ false = sym sets ∙ h.no_rules in cc);
        makes = (h.makes).makes;
        restarts = (h.makes).restarts;
        hears = (h.makes).hears;
        each_clock = λ i rules le past there. absurd (r.kinds i (event.Clock rules) le there);
      })

  pub read_told_from : (h : ReadLine start turns events a b more) → ((read_told h).spans).from (position_after turns a b) ≡ length events
  unfolding read_told
  read_told_from h = one_told_from start turns events a b more (_)

  pub read_told_to : (h : ReadLine start turns events a b more) → ((read_told h).spans).to (position_after turns a b) ≡ length (events ++ more)
  unfolding read_told
  read_told_to h = one_told_to start turns events a b more (_)
