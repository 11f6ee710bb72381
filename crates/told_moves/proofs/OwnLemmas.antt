-- A put or a read that is refused as not owned: its node has no replica of the shard, or has it with a later tenure, or since a line that assigned it anew.
use Rattle.std.proofs.Common.{◌≡◌, ℕ, zero, suc, ◌<◌, ◌≤◌, List, [], ◌∷◌, ◌++◌, take, length, refl, sym, ap, ◌∙◌, subst, inl, inr, arith, Bool, true, false, append-nil}
use Rattle.std.specs.Bool.{OnTrue}
use Rattle.std.specs.Prelude.{◌⊎◌, Option, Some, None, is_some, nat_eq, ◌&&◌}
use Rattle.std.specs.Cmp.Lexicographic.{pointwise}
use Rattle.std.proofs.lemmas.Bool.{cases_lt, cases_Bool, and_parts}
use Rattle.std.proofs.lemmas.List.{take-append-le}
use Rattle.m3_model.specs.Members.{IsIn}
use Rattle.m3_model.specs.declared.act.Act.{Act}
use Rattle.m3_model.specs.declared.act.Act.TheVariants as act
use Rattle.m3_model.specs.declared.answer.Answer.{Answer}
use Rattle.m3_model.specs.declared.answer.Answer.TheVariants as answer
use Rattle.m3_model.specs.declared.placement.Placement.{Placement}
use Rattle.m3_model.specs.declared.reason.Reason.TheVariants as reason
use Rattle.m3_model.specs.declared.replica.Standing.TheVariants as standing
use Rattle.m3_model.specs.declared.rules.MetaState.{MetaState}
use Rattle.m3_model.specs.declared.turn.Turn.{Turn}
use Rattle.placement_core.proofs.ListLemmas.{IsIn-from_Any}
use Rattle.cluster_core.specs.Rows.{MayBeHigher}
use Rattle.cluster_core.specs.Earlier.{last_place}
use Rattle.cluster_core.specs.Legal.{Legal}
use Rattle.cluster_core.specs.Lists.{At}
use Rattle.cluster_core.specs.declared.event.Event.{Event}
use Rattle.cluster_core.specs.declared.event.Event.TheVariants as event
use Rattle.cluster_core.specs.declared.event.StepCall.TheVariants as call
use Rattle.cluster_core.specs.declared.event.StepReply.{StepReply}
use Rattle.cluster_core.specs.declared.event.StepReply.TheVariants as reply
use Rattle.cluster_core.specs.declared.replica_state.ReplicaState.{ReplicaState}
use Rattle.cluster_core.proofs.ListLemmas.{at_append, at_take, at_within}
use Rattle.cluster_core.proofs.PlaceLemmas.{placed_at}
use Rattle.cluster_core.proofs.TraceLemmas.{lawful_step, open_begun, replica_own}
use Rattle.transcripts.specs.Fates.{OfNode}
use Rattle.transcripts.specs.Moves.{IsNew, IsUnowned, OwnsNot, is_begun_in, placement_by}
use Rattle.transcripts.specs.Placements.{MayStand, has_replica, placement_after, printed, start_placement}
use Rattle.transcripts.specs.Record.{InnerTurn, TurnPosition, IsTurnPosition, inner_turns, joined, lists_of}
use Rattle.transcripts.specs.Waiting.{Replica, is_assigned, is_begun_by, is_covering, is_member}
use Rattle.told_by.specs.Hears.{IsBegun, IsNamedBy}
use Rattle.told_by.specs.Told.{ToldBy}
use Rattle.told_by.proofs.LeaveLemmas.{place_there}
use Rattle.told_by.proofs.LineLemmas.{line_below}
use Rattle.told_by.proofs.OpeningLemmas.{first_event}
use Rattle.told_by.proofs.PrintedLemmas.{ends_grow, ends_within, placements_stand}
use Rattle.told_by.proofs.TurnLemmas.{cut_at, own_list, position_in}
use Rattle.told_causes.proofs.AloneLemmas.{stands_from}
use Rattle.told_causes.proofs.BootLemmas.{HasBegun, covered_begun}
use Rattle.told_causes.proofs.StoodLemmas.{alone_last, alone_or_beside, back, gives_none, had_before, held_before, member_before, member_met}
use Rattle.told_causes.proofs.HaltLemmas.{late_step, opening_two}
use Rattle.told_causes.proofs.NameLemmas.{any_found, name_is}
use Rattle.told_causes.proofs.RefusalLemmas.{first_down, refused_law}
use Rattle.told_causes.proofs.WaitLemmas.{EndsWait, assigned_by, is_member_of, member_given, member_place}
use Rattle.told_moves.specs.Moves.{IsQuiet, IsRefusedAt, NotOwnedIsSaid, StreamsAreOwned}
use Rattle.told_moves.specs.Order.{IsInOrder}
use Rattle.told_moves.proofs.AskLemmas.{begin_asked}
use Rattle.told_moves.proofs.ReasonLemmas.{RefusedIn, refused_in, refused_stream}
use Rattle.told_moves.proofs.SlotLemmas.{EndedAt, IsEnded, Tries, ended_at, owned_began, slot, tried_began}
use Rattle.told_moves.proofs.TenureLemmas.{GivenAt, given_by, line_low, member_named, member_tenure, name_everywhere, stands_at, tenure_grows}

-- ---- turns

-- a turn that begins the replica is a bootstrap that ends its wait
begun_is : (x : Replica) (stays : Bool) (t : InnerTurn) (a : Act) (b : Answer) → t.act ≡ a → t.answer ≡ b → is_begun_by x stays a b ≡ true → EndsWait x stays t
begun_is x stays t (act.Bootstrap node asked) (answer.Available available place version) ea eb e = record { node = node; asked = asked; available = available; place = place; version = version; act_is = ea; answered = eb; ends = e }
begun_is x stays t _ _ ea eb e = absurd (let bad : false ≡ true = e in cc)

-- where no turn of the list is such a bootstrap, none began it
none_begun : (x : Replica) (before next : Option Placement) (ts : List InnerTurn) → ((t : InnerTurn) → IsIn ts t → EndsWait x (is_member x before && is_member x next) t → ⊥) → is_begun_in x before next ts ≡ false
none_begun x before next ts none =
    elim (cases_Bool (is_begun_in x before next ts)) as (λ _. is_begun_in x before next ts ≡ false) [
      | inr e ↦ e
      | inl e ↦
          let stays = is_member x before && is_member x next in
          let t = any_found (λ (turn : InnerTurn). is_begun_by x stays turn.act turn.answer) ts e in
          absurd (none t.0 t.1 (begun_is x stays t.0 (t.0).act (t.0).answer refl refl t.2))
    ]

module _ {tells : Bool} (start : Option MetaState) (turns : List Turn) (events : List Event) (legal : Legal tells events) (told : ToldBy start turns events) (order : IsInOrder start turns events told) where
  -- ---- tenures

  -- a begin's tenure was given before
  pub begin_given : (n s i tenure : ℕ) (a : StepReply) → At events i (event.Step n s (call.Begin tenure) a) → (k : ℕ) × (k < i) × (1 ≤ k) × GivenAt events legal n s k tenure
  begin_given n s i tenure a there =
      let b = begin_asked start turns events legal told i n s tenure a there in
      let ask = b.2 in
      let stands = place_there (take b.0 events) ask.place ask.last in
      (b.0, b.1, omega (arith, (at_take events stands.0 b.0 (event.Place ask.place stands.1) stands.2).1), given_by events legal n s b.0 tenure ask.place ask.last ask.assigned)

  -- where the replica has a tenure above the version, the node has no replica of the shard, or has it with a tenure above the version
  above_owns_not : (p : TurnPosition) (n s version tenure i : ℕ) (place : Placement) → i ≤ length events → last_place (take i events) ≡ Some place → MayStand start p place → (slot events legal n s i).tenure ≡ Some tenure → version < tenure → OwnsNot start p s n version
  above_owns_not p n s version tenure i place high last stands owned above =
      elim (cases_Bool (has_replica (Some place) s n)) as (λ _. OwnsNot start p s n version) [
        | inr gone ↦ record { place = place; may_stand = stands; not_owned = inl gone }
        | inl member ↦
            let b = owned_began events legal n s tenure i high owned in
            let below = b.below in
            let g = begin_given n s b.position tenure b.answer b.there in
            let a = member_tenure events legal n s g.0 i tenure place g.2 (omega (arith, g.1, below)) high g.3 last member in
            let low = a.kind in
            record { place = place; may_stand = stands; not_owned = inr (record { assignment = a.assignment; among = a.among; of_node = a.of_node; kind = omega (arith, low, above) }) }
      ]

  -- ---- the line that assigned the slot

  abbrev placed : ℕ → Option Placement
  placed k = placement_by start turns k

  -- where it is a member, and wasn't at an earlier event, a line in between assigned it
  record WasAssigned (x : Replica) (e k : ℕ) : Type 0 where
    line : ℕ
    early : line < k
    later : e < told.ends (suc line)
    assigned : is_assigned x (placed line) (placed (suc line)) ≡ true

  assigned_at : (x : Replica) (e : ℕ) (was : Placement) → 2 ≤ e → last_place (take e events) ≡ Some was → is_member x (Some was) ≡ false → (k : ℕ) → k ≤ length turns → e < told.ends k → is_member x (placed k) ≡ true → WasAssigned x e k
  assigned_at x e was late last gone zero high before member = absurd (omega (arith, before, late, (told.lines).first, opening_two start))
  assigned_at x e was late last gone (suc k) high before member =
      elim (cases_lt e (told.ends k)) as (λ _. WasAssigned x e (suc k)) [
        | inl lt ↦ elim (cases_Bool (is_member x (placed k))) as (λ _. WasAssigned x e (suc k)) [
          | inl still ↦ let w = assigned_at x e was late last gone k (omega (arith, high)) lt still in let early = w.early in record { line = w.line; early = omega (arith, early); later = w.later; assigned = w.assigned }
          | inr new ↦
              let there = place_there (take e events) was last in
              let first = first_event events legal there.0 (event.Place was there.1) (at_take events there.0 e (event.Place was there.1) there.2).0 in
              let p = placed_at events legal first.place [] first.there (told.ends k) (omega (arith, lt)) (ends_within start turns events told k (omega (arith, high))) in
              here p.0 (sym (placements_stand start turns events legal told k (omega (arith, high))) ∙ p.1) new
        ]
        | inr ge ↦ elim (stands_from events legal (told.ends k) e ge (omega (arith, before, ends_within start turns events told (suc k) high)) was last) as (λ _. WasAssigned x e (suc k)) [
          | inl same ↦
              let is : placed k ≡ Some was = sym (placements_stand start turns events legal told k (omega (arith, high))) ∙ same in
              here was is (ap (is_member x) is ∙ gone)
          | inr z ↦ elim (alone_or_beside start turns events legal told order.places k (omega (arith, high))) as (λ _. WasAssigned x e (suc k)) [
            | inl one ↦
                let is : placed (suc k) ≡ Some was = alone_last start turns events legal told order.places k (omega (arith, high)) one z.0 was z.1 z.2 (omega (arith, z.3, before)) z.4 in
                let bad : true ≡ false = sym member ∙ ap (is_member x) is ∙ gone in
                cc
            | inr many ↦
                let next = member_place (placed (suc k)) x.shard x.node member in
                let has = held_before start turns events legal told order.places k (omega (arith, high)) many.1 z.0 was z.1 z.2 z.4 (told.ends (suc k)) (omega (arith, z.3, before)) (omega arith) next.0 (placements_stand start turns events legal told (suc k) high ∙ next.1) x.node x.shard (ap (is_member x) (sym next.1) ∙ member) in
                let bad : true ≡ false = sym has ∙ gone in
                cc
          ]
        ]
      ]
    where
      here : (place : Placement) → placed k ≡ Some place → is_member x (placed k) ≡ false → WasAssigned x e (suc k)
      here place is new = record { line = k; early = omega arith; later = before; assigned = assigned_by (is_some (placed k)) (is_member x (placed k)) (is_member x (placed (suc k))) (ap is_some is) new member }

  -- ---- bootstraps since

  -- no begin of a slot whose tenure ended, with a tenure that isn't below those that it began with, leaves it so
  begin_clash : tells ≡ true → (n s m tenure : ℕ) (a : StepReply) → IsBegun a → At events m (event.Step n s (call.Begin tenure) a) → IsEnded (slot events legal n s m) → IsEnded (slot events legal n s (suc m)) → ((own : ℕ) → Tries (slot events legal n s m) own → own ≤ tenure) → ⊥
  begin_clash is n s m tenure (reply.Began fence points) begun there now next none =
      let bad : Some tenure ≡ None = sym (ap (λ (r : ReplicaState). r.tenure) (replica_own events legal n s m (call.Begin tenure) (reply.Began fence points) there)) ∙ next.none in
      cc
  begin_clash is n s m tenure (reply.Refused reason.Down) begun there now next none =
      let r = slot events legal n s m in
      let down = first_down r (call.Begin tenure) (refused_law tells (take m events) n s r (call.Begin tenure) reason.Down (lawful_step events legal m n s (call.Begin tenure) (reply.Refused reason.Down) there)) in
      let bad : standing.Down ≡ standing.Open = sym down ∙ now.open_ in
      cc
  begin_clash is n s m tenure (reply.Refused reason.NotOwned) begun there now next none =
      let r = slot events legal n s m in
      let law = refused_law tells (take m events) n s r (call.Begin tenure) reason.NotOwned (lawful_step events legal m n s (call.Begin tenure) (reply.Refused reason.NotOwned) there) in
      elim (subst (λ (known : Bool). OnTrue known (MayBeHigher r tenure)) is law.1) as (λ _. ⊥) [
        | inl any ↦ let t = IsIn-from_Any (λ own. tenure < own) r.begun any in omega (arith, none t.0 (inl t.1), t.2)
        | inr other ↦ elim other as (λ _. ⊥) [
          | inl any ↦ let t = IsIn-from_Any (λ own. tenure < own) r.tried any in omega (arith, none t.0 (inr t.1), t.2)
          | inr empty ↦ open_begun events legal n s m (omega (arith, at_within events m (event.Step n s (call.Begin tenure) (reply.Refused reason.NotOwned)) there)) now.open_ empty
        ]
      ]
  begin_clash is n s m tenure _ begun there now next none = absurd begun

  -- what a slot tried by a position of a line isn't above the tenure that it had before in the line
  pub tried_low : (k : ℕ) → k < length turns → (n s f m tenure : ℕ) → told.ends k ≤ f → f ≤ m → m < told.ends (suc k) → GivenAt events legal n s f tenure → (own : ℕ) → Tries (slot events legal n s m) own → own ≤ tenure
  tried_low k less n s f m tenure begins low high g own tries =
      let bound = ends_within start turns events told (suc k) less in
      let b = tried_began events legal n s own m (omega (arith, high, bound)) tries in
      let below = b.below in
      let was = begin_given n s b.position own b.answer b.there in
      elim (cases_lt was.0 f) as (λ _. own ≤ tenure) [
        | inl lt ↦ tenure_grows events legal n s was.0 f own tenure was.2 (omega (arith, lt)) (omega (arith, low, high, bound)) was.3 g
        | inr ge ↦ line_low start turns events legal told order k less f was.0 n s tenure own begins ge (omega (arith, was.1, below, high)) g was.3
      ]

  module _ (n s : ℕ) (name : List ℕ) (named : IsNamedBy events n name) where
    abbrev x : Replica
    x = record { shard = s; node = n; name = name }

    -- a bootstrap after the end of the slot's tenure that covers it, a member where it begins, would have begun it
    turn_clash : tells ≡ true → (i : ℕ) → i ≤ length events → (e : EndedAt events legal n s i) → (q : TurnPosition) → IsTurnPosition turns q → (k : ℕ) → k < length turns → e.position < told.ends k → length q.lines ≡ k → (told.spans).to q ≤ i → ((place : Placement) → last_place (take ((told.spans).from q) events) ≡ Some place → has_replica (Some place) s n ≡ true)
        → (stays : Bool) → EndsWait x stays q.turn → ⊥
    turn_clash is i bound e q at_q k less later line_is finishes members stays h =
        let begins : told.ends k ≤ (told.spans).from q = omega (arith, (told.lines).low q at_q, ap told.ends line_is) in
        let first = first_event events legal e.position (event.Step n s call.End reply.Done) e.there in
        let p = placed_at events legal first.place [] first.there ((told.spans).from q) (omega (arith, later, begins)) (omega (arith, (told.tells).order.not_back q at_q, (told.tells).order.not_above q at_q)) in
        let ends = and_parts stays (pointwise nat_eq name h.node && is_covering s h.asked) h.ends in
        let covers = and_parts (pointwise nat_eq name h.node) (is_covering s h.asked) ends.1 in
        let is_there = members p.0 p.1 in
        let b = covered_begun start turns events legal told q at_q n s name p.0 p.1 is_there (λ z done here. member_named start turns events legal told order z n s p.0 done name here named is_there)
        h.node h.asked h.available h.place h.version h.act_is h.answered (name_is name h.node covers.0) covers.1 in
        by_begun b begins finishes (omega (arith, (told.lines).high q at_q, ap (λ j. told.ends (suc j)) line_is))
      where
        by_begun : {from to : ℕ} {stood : Placement} → HasBegun events from to n s stood → told.ends k ≤ from → to ≤ i → to ≤ told.ends (suc k) → ⊥
        by_begun {from} {to} {stood} b begins finishes ends =
            let low = b.low in
            let high = b.high in
            begin_clash is n s b.position b.tenure b.answer b.begun b.there (e.since b.position (omega (arith, later, begins, low)) (omega (arith, high, finishes))) (e.since (suc b.position) (omega (arith, later, begins, low)) (omega (arith, high, finishes)))
            (tried_low k less n s from b.position b.tenure begins low (omega (arith, high, ends)) (given_by events legal n s from b.tenure stood b.last b.given))

    -- so in a line of a member that stays one
    boot_clash : tells ≡ true → (i : ℕ) → i ≤ length events → (e : EndedAt events legal n s i) → (k : ℕ) → k < length turns → e.position < told.ends k → told.ends (suc k) ≤ i → (line : Turn) → At turns k line
        → (t : InnerTurn) → IsIn (inner_turns (line ∷ [])) t → EndsWait x (is_member x (placed k) && is_member x (placed (suc k))) t → ⊥
    boot_clash is i bound e k less later finishes line there t m h =
        let cut = cut_at turns k line there in
        let q = position_in turns cut.0 line cut.1 cut.2 t (subst (λ ts. IsIn ts t) (append-nil (joined (lists_of line))) m) in
        let line_is : length (q.0).lines ≡ k = ap length q.3 ∙ cut.3 in
        turn_clash is i bound e q.0 q.1 k less later line_is (omega (arith, (told.lines).high q.0 q.1, ap (λ j. told.ends (suc j)) line_is, finishes)) (by_met q.0 q.1 line_is) (is_member x (placed k) && is_member x (placed (suc k))) (subst (EndsWait x (is_member x (placed k) && is_member x (placed (suc k)))) (sym q.2) h)
      where
        stays : (is_member x (placed k) ≡ true) × (is_member x (placed (suc k)) ≡ true)
        stays = let ends = and_parts (is_member x (placed k) && is_member x (placed (suc k))) (pointwise nat_eq name h.node && is_covering s h.asked) h.ends in and_parts (is_member x (placed k)) (is_member x (placed (suc k))) ends.0

        by_met : (q : TurnPosition) → IsTurnPosition turns q → length q.lines ≡ k → (place : Placement) → last_place (take ((told.spans).from q) events) ≡ Some place → has_replica (Some place) s n ≡ true
        by_met q at line_is place last =
            member_met start turns events legal told order.places k less ((told.spans).from q) (omega (arith, (told.lines).low q at, ap told.ends line_is)) (omega (arith, (told.tells).order.not_back q at, (told.lines).high q at, ap (λ j. told.ends (suc j)) line_is)) place last n s stays.0 stays.1

    -- so a member whose tenure ended is new since the line that assigned it
    is_new : (p : TurnPosition) → IsTurnPosition turns p → printed p.turn.answer ≡ None → (i : ℕ) → (told.spans).from p ≤ i → i ≤ length events → (e : EndedAt events legal n s i) → WasAssigned x e.position (length p.lines) → IsNew tells x start p
    is_new p at quiet i low bound e w = record {
      lines = w.line;
      earlier = w.early;
      assigned = let early = w.early in ap (λ o. is_assigned x o (placement_by start p.lines (suc w.line))) (same w.line (omega (arith, early))) ∙ ap (is_assigned x (placed w.line)) (same (suc w.line) early) ∙ w.assigned;
      not_since = λ is k line above there. by_line is k line above there (at_within p.lines k line there);
      not_beside = λ is. none_begun x (placement_by start p.lines (length p.lines)) (placement_after (placement_by start p.lines (length p.lines)) (p.earlier ++ p.beside)) p.earlier (by_earlier is (placement_after (placement_by start p.lines (length p.lines)) (p.earlier ++ p.beside)) (ap (λ o. placement_after o (p.earlier ++ p.beside)) (same (length p.lines) (omega arith))));
    }
      where
        same : (j : ℕ) → j ≤ length p.lines → placement_by start p.lines j ≡ placed j
        same j le = ap (λ ls. placement_after (start_placement start) (inner_turns ls)) (sym (ap (take j) at.in_run ∙ take-append-le j p.lines (p.line ∷ at.after) le))

        by_earlier : tells ≡ true → (after : Option Placement) → after ≡ placement_after (placed (length p.lines)) (p.earlier ++ p.beside) → (t : InnerTurn) → IsIn p.earlier t → EndsWait x (is_member x (placement_by start p.lines (length p.lines)) && is_member x after) t → ⊥
        by_earlier is after after_is t m h =
            let k = length p.lines in
            let q = own_list turns p at t m in
            let less : k < length turns = line_below turns p at in
            let later = w.later in
            let begins : e.position < told.ends k = omega (arith, later, ends_grow start turns events told (suc w.line) k w.early (omega (arith, less))) in
            let finishes = (told.tells).order.order q.position p q.in_run at (inr (ap length q.lines_are, q.client_is, q.earlier)) in
            let stays = is_member x (placement_by start p.lines k) && is_member x after in
            let ends = and_parts stays (pointwise nat_eq name h.node && is_covering s h.asked) h.ends in
            let both = and_parts (is_member x (placement_by start p.lines k)) (is_member x after) ends.0 in
            let member : is_member x (placed k) ≡ true = ap (is_member x) (sym (same k (omega arith))) ∙ both.0 in
            turn_clash is i bound e q.position q.in_run k less begins (ap length q.lines_are) (omega (arith, finishes, low))
            (λ place last. member_before start turns events legal told order.places p at ((told.spans).from q.position) (omega (arith, (told.lines).low q.position q.in_run, ap (λ ls. told.ends (length ls)) q.lines_are)) (omega (arith, (told.tells).order.not_back q.position q.in_run, finishes)) place last n s member (ap (is_member x) (sym after_is) ∙ both.1)) stays (subst (EndsWait x stays) (sym q.turn_is) h)

        by_line : tells ≡ true → (k : ℕ) (line : Turn) → w.line < k → At p.lines k line → k < length p.lines → is_begun_in x (placement_by start p.lines k) (placement_by start p.lines (suc k)) (inner_turns (line ∷ [])) ≡ false
        by_line is k line above there early =
            let less : k < length turns = omega (arith, early, line_below turns p at) in
            let later = w.later in
            let begins : e.position < told.ends k = omega (arith, later, ends_grow start turns events told (suc w.line) k above (omega (arith, less))) in
            let finishes : told.ends (suc k) ≤ i = omega (arith, ends_grow start turns events told (suc k) (length p.lines) early (omega (arith, line_below turns p at)), (told.lines).low p at, low) in
            let here : At turns k line = subst (λ ts. At ts k line) (sym at.in_run) (at_append p.lines (p.line ∷ at.after) k line there) in
            ap (λ o. is_begun_in x o (placement_by start p.lines (suc k)) (inner_turns (line ∷ []))) (same k (omega (arith, early)))
            ∙ ap (λ o. is_begun_in x (placed k) o (inner_turns (line ∷ []))) (same (suc k) early)
            ∙ none_begun x (placed k) (placed (suc k)) (inner_turns (line ∷ [])) (λ t m h. boot_clash is i bound e k less begins finishes line here t m h)

    -- an open replica without a tenure is of a node that has none of the shard, or is new
    ended_unowned : (p : TurnPosition) → IsTurnPosition turns p → printed p.turn.answer ≡ None → (version i : ℕ) → (told.spans).from p ≤ i → i < (told.spans).to p → (place : Placement) → last_place (take i events) ≡ Some place → MayStand start p place → EndedAt events legal n s i
        → OwnsNot start p s n version ⊎ IsNew tells x start p
    ended_unowned p at quiet version i low high place last stands e =
        elim (cases_Bool (has_replica (Some place) s n)) as (λ _. OwnsNot start p s n version ⊎ IsNew tells x start p) [
          | inr gone ↦ inl (record { place = place; may_stand = stands; not_owned = inl gone })
          | inl member ↦ inr (is_new p at quiet i low (omega (arith, high, (told.tells).order.not_above p at)) e (by_member member))
        ]
      where
        was : (at_end : Placement) × (last_place (take e.position events) ≡ Some at_end)
        was = stands_at start turns events legal told order e.position n s call.End reply.Done e.there

        gone : has_replica (Some was.0) s n ≡ false
        gone = order.ends e.position n s reply.Done e.there was.0 was.1

        by_member : has_replica (Some place) s n ≡ true → WasAssigned x e.position (length p.lines)
        by_member member =
            let k = length p.lines in
            let below = e.below in
            let line_end : i ≤ told.ends (suc k) = omega (arith, high, (told.lines).high p at) in
            let given = member_given place s n member in
            elim (cases_lt e.position (told.ends k)) as (λ _. WasAssigned x e.position k) [
              | inl lt ↦
                  let h = had_before start turns events legal told order.places p at quiet i (omega (arith, (told.lines).low p at, low)) line_end place last in
                  assigned_at x e.position was.0 (late_step events legal e.position n s call.End reply.Done e.there) was.1 gone k (omega (arith, line_below turns p at)) lt (ap (is_member x) h.2 ∙ is_member_of h.0 s n given.0 (h.3 n s given.0 given.1))
              | inr ge ↦
                  let old = back start turns events legal told order.places k (line_below turns p at) (λ z next done above below there. (gives_none start turns events legal told order.places p at quiet z next done above below there).0) e.position i ge (omega (arith, below)) line_end was.0 place was.1 last n s given.0 given.1 in
                  let bad : true ≡ false = sym (is_member_of was.0 s n given.0 old) ∙ gone in
                  cc
            ]

  not_owned_at : (p : TurnPosition) → IsTurnPosition turns p → IsQuiet p → (used : Placement) (s n : ℕ) → IsRefusedAt start turns events told p used s n reason.NotOwned → RefusedIn start turns events told p n s used.version reason.NotOwned → IsUnowned tells start p used s n
  not_owned_at p at quiet used s n h r =
      elim r.founds as (λ _. IsUnowned tells start p used s n) [
        | inr t ↦ inl (above_owns_not p n s used.version t.0 r.at r.place r.bound r.last r.stands t.1 t.2)
        | inl none ↦
            let e = ended_at events legal n s r.at r.bound (record { open_ = r.open_; none = none }) in
            elim (ended_unowned n s h.name (name_everywhere events legal n used h.name h.placed h.named) p at quiet.prints_none used.version r.at r.low r.high r.place r.last r.stands e) as (λ _. IsUnowned tells start p used s n) [
              | inl not ↦ inl not
              | inr new ↦
                  let named = h.named in
                  inr (record { instance_ = named.instance_; stands = named.stands; holds = subst (λ own. IsNew tells (record { shard = s; node = n; name = own }) start p) (sym named.holds) new })
            ]
      ]

  stream_owned_at : (p : TurnPosition) → IsTurnPosition turns p → printed p.turn.answer ≡ None → (place : Placement) (s n version : ℕ) (name : List ℕ) → OfNode place n (λ own. own ≡ name) → IsNamedBy events n name → RefusedIn start turns events told p n s version reason.NotOwned
      → OwnsNot start p s n version ⊎ OfNode place n (λ own. IsNew tells (record { shard = s; node = n; name = own }) start p)
  stream_owned_at p at quiet place s n version name named everywhere r =
      elim r.founds as (λ _. OwnsNot start p s n version ⊎ OfNode place n (λ own. IsNew tells (record { shard = s; node = n; name = own }) start p)) [
        | inr t ↦ inl (above_owns_not p n s version t.0 r.at r.place r.bound r.last r.stands t.1 t.2)
        | inl none ↦
            let e = ended_at events legal n s r.at r.bound (record { open_ = r.open_; none = none }) in
            elim (ended_unowned n s name everywhere p at quiet version r.at r.low r.high r.place r.last r.stands e) as (λ _. OwnsNot start p s n version ⊎ OfNode place n (λ own. IsNew tells (record { shard = s; node = n; name = own }) start p)) [
              | inl not ↦ inl not
              | inr new ↦ inr (record { instance_ = named.instance_; stands = named.stands; holds = subst (λ own. IsNew tells (record { shard = s; node = n; name = own }) start p) (sym named.holds) new })
            ]
      ]

pub not_owned_said : {tells : Bool} → NotOwnedIsSaid tells
not_owned_said start turns events legal told order p at quiet used s n h = not_owned_at start turns events legal told order p at quiet used s n h (refused_in start turns events legal told order p at quiet used s n reason.NotOwned tt h)

pub streams_owned : {tells : Bool} → StreamsAreOwned tells
streams_owned start turns events legal told order p at quiet place s n version name named everywhere h = stream_owned_at start turns events legal told order p at quiet place s n version name named everywhere (refused_stream start turns events legal told order p at quiet version s n h)
