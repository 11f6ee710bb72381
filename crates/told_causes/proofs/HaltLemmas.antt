-- What a list says of stops and restarts: each Stop leaves its node stopped at the end of its line, and an ok restart has a Restart of each slot.
use Rattle.std.proofs.Common.{◌≡◌, ℕ, zero, suc, ◌<◌, ◌≤◌, List, [], ◌∷◌, ◌++◌, take, length, refl, sym, ap, ◌∙◌, subst, inl, inr, arith, true, cond, append-nil, length-append, Bool}
use Rattle.std.specs.Prelude.{Option, Some, None, nat_eq}
use Rattle.std.specs.List.{list_any}
use Rattle.std.specs.Cmp.Lexicographic.{pointwise}
use Rattle.std.proofs.lemmas.Bool.{cases_lt}
use Rattle.m3_model.specs.Members.{IsIn}
use Rattle.m3_model.specs.declared.act.Act.{Act}
use Rattle.m3_model.specs.declared.act.Act.TheVariants as act
use Rattle.m3_model.specs.declared.answer.Answer.TheVariants as answer
use Rattle.m3_model.specs.declared.rules.MetaState.{MetaState}
use Rattle.m3_model.specs.declared.turn.Turn.{Turn}
use Rattle.cluster_core.specs.Legal.{Legal}
use Rattle.cluster_core.specs.Lists.{At}
use Rattle.cluster_core.specs.declared.event.Asked.TheVariants as asked
use Rattle.cluster_core.specs.declared.event.Event.{Event}
use Rattle.cluster_core.specs.declared.event.Event.TheVariants as event
use Rattle.cluster_core.specs.declared.event.StepCall.{StepCall}
use Rattle.cluster_core.specs.declared.event.StepCall.TheVariants as call
use Rattle.cluster_core.specs.declared.event.StepReply.{StepReply}
use Rattle.cluster_core.specs.declared.event.StepReply.TheVariants as reply
use Rattle.cluster_core.proofs.ListLemmas.{at_take, take_at}
use Rattle.transcripts.specs.Fates.{is_stopped, stopped_by}
use Rattle.transcripts.specs.Faults.{is_restart}
use Rattle.transcripts.specs.Record.{InnerTurn, TurnPosition, IsTurnPosition, inner_turns, joined, lists_of}
use Rattle.told_by.specs.Hears.{HearsBy, HearsEachSlot, InStretch, IsNamedBy}
use Rattle.told_by.specs.Makes.{IsNamedLast, MayAsk}
use Rattle.told_by.specs.Openings.{opening_length}
use Rattle.told_by.specs.Spans.{IsWithin}
use Rattle.told_by.specs.Told.{ToldBy}
use Rattle.told_by.proofs.LeaveLemmas.{place_there}
use Rattle.told_by.proofs.PrintedLemmas.{ends_grow}
use Rattle.told_by.proofs.TurnLemmas.{cut_at, position_in}
use Rattle.told_causes.proofs.NameLemmas.{any_found, name_self, refused_stays, restart_is, stopped_after}

pub take_cut : {X : Type 0} (xs : List X) (y : X) (zs : List X) → take (suc (length xs)) (xs ++ y ∷ zs) ≡ xs ++ y ∷ []
take_cut [] y zs = refl
take_cut (x ∷ xs) y zs = ap (λ ys. x ∷ ys) (take_cut xs y zs)

-- a step doesn't open a legal list
pub late_step : {tells : Bool} → (events : List Event) → Legal tells events → (i n s : ℕ) (c : StepCall) (a : StepReply) → At events i (event.Step n s c a) → 2 ≤ i
late_step events legal zero n s c a h = absurd (legal zero (event.Step n s c a) h)
late_step events legal (suc zero) n s c a h = absurd (legal 1 (event.Step n s c a) h)
late_step events legal (suc (suc i)) n s c a h = omega arith

pub opening_low : (o : Option MetaState) (i : ℕ) → 2 ≤ i → opening_length o ≤ i
opening_low None i h = omega arith
opening_low (Some state) i h = h

pub opening_two : (o : Option MetaState) → opening_length o ≤ 2
opening_two None = omega arith
opening_two (Some state) = omega arith

-- the name of a node in the placement that stands is the one that all placements give it
pub last_name : (events : List Event) (i n : ℕ) (name node : List ℕ) → IsNamedBy events n name → IsNamedLast (take i events) n node → name ≡ node
last_name events i n name node named h =
    let there = place_there (take i events) h.place h.last in
    let own = named there.0 h.place there.1 (h.named).instance_ (at_take events there.0 i (event.Place h.place there.1) there.2).0 (h.named).stands in
    sym own ∙ (h.named).holds

module _ {tells : Bool} (start : Option MetaState) (turns : List Turn) (events : List Event) (legal : Legal tells events) (told : ToldBy start turns events) where
  not_before : (i j k : ℕ) → j < k → k < length turns → i < told.ends (suc j) → told.ends k ≤ i → ⊥
  not_before i j k lt high end begin = omega (arith, ends_grow start turns events told (suc j) k lt (omega (arith, high)), end, begin)

  -- a position stands in one line
  pub one_line : (i j k : ℕ) → j < length turns → k < length turns → told.ends j ≤ i → i < told.ends (suc j) → told.ends k ≤ i → i < told.ends (suc k) → j ≡ k
  one_line i j k hj hk low_j high_j low_k high_k =
      elim (cases_lt j k) as (λ _. j ≡ k) [
        | inl lt ↦ absurd (not_before i j k lt hk high_j low_k)
        | inr ge ↦ elim (cases_lt k j) as (λ _. j ≡ k) [ inl gt ↦ absurd (not_before i k j gt hj high_k low_j) | inr le ↦ omega arith ]
      ]

  -- the maker of a stop or a restart: a turn of its line, alone there
  pub record Halts (i k n s : ℕ) (c : StepCall) : Type 0 where
    pub q : TurnPosition
    pub in_run : IsTurnPosition turns q
    pub line_is : length q.lines ≡ k
    pub asks : MayAsk start (take i events) q q.turn.act (asked.Step n s c)

  halted_by : (q : TurnPosition) (i k n s : ℕ) (c : StepCall) → k < length turns → told.ends k ≤ i → i < told.ends (suc k) → IsTurnPosition turns q × IsWithin told.spans q i → MayAsk start (take i events) q q.turn.act (asked.Step n s c) → Halts i k n s c
  halted_by q i k n s c less low high made asks =
      let early : length q.lines < length turns = omega (arith, ap length (made.0).in_run, length-append q.lines (q.line ∷ (made.0).after)) in
      record {
        q = q;
        in_run = made.0;
        line_is = one_line i (length q.lines) k early less (omega (arith, (told.lines).low q made.0, (made.1).0)) (omega (arith, (told.lines).high q made.0, (made.1).1)) low high;
        asks = asks;
      }

  pub stop_halts : (i k n s : ℕ) (a : StepReply) → At events i (event.Step n s call.Stop a) → k < length turns → told.ends k ≤ i → i < told.ends (suc k) → Halts i k n s call.Stop
  stop_halts i k n s a there less low high =
      let late = late_step events legal i n s call.Stop a there in
      let above = opening_low start i late in
      let made = (told.tells).order.made i (event.Step n s call.Stop a) above late there tt in
      halted_by (told.makers i) i k n s call.Stop less low high made ((told.tells).makes i (event.Step n s call.Stop a) above late there)

  -- a Stop leaves its node stopped at the end of its line
  pub stops : (n s : ℕ) (name : List ℕ) → IsNamedBy events n name → (i k : ℕ) (a : StepReply) → At events i (event.Step n s call.Stop a) → k < length turns → told.ends k ≤ i → i < told.ends (suc k) → is_stopped (inner_turns (take (suc k) turns)) name ≡ true
  stops n s name named i k a there less low high =
      let h = stop_halts i k n s a there less low high in
      let lines : take (suc k) turns ≡ (h.q).lines ++ (h.q).line ∷ [] = ap (λ m. take (suc m) turns) (sym h.line_is) ∙ ap (take (suc (length (h.q).lines))) (h.in_run).in_run ∙ take_cut (h.q).lines (h.q).line (h.in_run).after in
      ap (λ ls. is_stopped (inner_turns ls) name) lines ∙ by_act h.q (h.q).turn.act refl h.asks
    where
      by_act : (q : TurnPosition) (x : Act) → q.turn.act ≡ x → MayAsk start (take i events) q x (asked.Step n s call.Stop) → is_stopped (inner_turns (q.lines ++ q.line ∷ [])) name ≡ true
      by_act q (act.Stop node) is h =
          let same = last_name events i n name node named (h.0).of_node in
          stopped_after name q.lines q.line q.turn (h.0).alone
          ∙ ap (λ x. stopped_by name x q.turn.answer (is_stopped (inner_turns q.lines) name)) is
          ∙ ap (λ b. stopped_by name (act.Stop node) b (is_stopped (inner_turns q.lines) name)) h.1
          ∙ ap (λ t. cond t true (is_stopped (inner_turns q.lines) name)) (ap (pointwise nat_eq name) (sym same) ∙ name_self name)
      by_act q (act.Restart node pick) is h =
          let same = last_name events i n name node named (h.0).of_node in
          stopped_after name q.lines q.line q.turn (h.0).alone
          ∙ ap (λ x. stopped_by name x q.turn.answer (is_stopped (inner_turns q.lines) name)) is
          ∙ refused_stays name node pick q.turn.answer (is_stopped (inner_turns q.lines) name) h.2
          ∙ ap (is_stopped (inner_turns q.lines)) same ∙ h.1
      by_act q _ is h = absurd h

  -- an ok restart has a Restart of each slot that was called before its line
  pub restarts : (n s : ℕ) (name : List ℕ) → IsNamedBy events n name → (k : ℕ) (line : Turn) → At turns k line → list_any (is_restart name) (inner_turns (line ∷ [])) ≡ true → (j : ℕ) (c : StepCall) (a : StepReply) → At events j (event.Step n s c a) → j < told.ends k
      → (i : ℕ) × (told.ends k ≤ i) × (i < told.ends (suc k)) × At events i (event.Step n s call.Restart reply.Done)
  restarts n s name named k line at any j c a called before =
      let t = any_found (is_restart name) (inner_turns (line ∷ [])) any in
      let is = restart_is name t.0 t.2 in
      let cut = cut_at turns k line at in
      let here : IsIn (joined (lists_of line)) t.0 = subst (λ ts. IsIn ts t.0) (append-nil (joined (lists_of line))) t.1 in
      let q = position_in turns cut.0 line cut.1 cut.2 t.0 here in
      let line_is : length (q.0).lines ≡ k = ap length q.3 ∙ cut.3 in
      let low = (told.lines).low q.0 q.1 in
      let high = (told.lines).high q.0 q.1 in
      let from = (told.spans).from q.0 in
      let acts : (q.0).turn.act ≡ act.Restart name is.0 = ap (λ (u : InnerTurn). u.act) q.2 ∙ is.1 in
      let answers : (q.0).turn.answer ≡ answer.Done = ap (λ (u : InnerTurn). u.answer) q.2 ∙ is.2 in
      let hears : HearsEachSlot (take from events) (InStretch events from ((told.spans).to q.0)) name call.Restart =
      subst (λ b. HearsBy start (take from events) (InStretch events from ((told.spans).to q.0)) q.0 (act.Restart name is.0) b) answers
      (subst (λ x. HearsBy start (take from events) (InStretch events from ((told.spans).to q.0)) q.0 x (q.0).turn.answer) acts ((told.tells).hears q.0 q.1)) in
      let early : j < from = omega (arith, ap told.ends line_is, low, before) in
      let step = hears n s (record {
        named = λ i place done own there own_is. named i place done own (at_take events i from (event.Place place done) there).0 own_is;
        has = inr (j, c, a, take_at events j from (event.Step n s c a) called early);
      }) in
      (step.0, omega (arith, ap told.ends line_is, low, (step.1).0), omega (arith, ap (λ m. told.ends (suc m)) line_is, high, (step.1).1), (step.1).2)
