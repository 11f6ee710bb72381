-- The short run is served so.
use Rattle.std.proofs.Common.{◌≡◌, ◌≤◌, ◌<◌, ◌+◌, ◌*◌, ◌-◌, ℕ, zero, suc, false, List, [], ◌∷◌, ◌++◌, take, length, refl, sym, ap, ◌∙◌, subst, inl, inr, arith, Bool}
use Rattle.std.specs.Prelude.{Some, None, slice_get}
use Rattle.std.proofs.Common.{append-nil}
use Rattle.std.specs.Ordering.{is_gt}
use Rattle.std.proofs.Math.Nat.{mul-le-mul_left}
use Rattle.std.proofs.lemmas.Option.{same_Some}
use Rattle.m3_model.specs.Members.{IsIn}
use Rattle.m3_model.specs.declared.act.Act.{Act}
use Rattle.m3_model.specs.declared.answer.Answer.{Answer}
use Rattle.m3_model.specs.declared.answer.Answer.TheVariants as answer
use Rattle.m3_model.specs.declared.limits.TheConstants.{MOST_REQUEST_EVENTS}
use Rattle.m3_model.specs.declared.placement.Assignment.{Assignment}
use Rattle.m3_model.specs.declared.placement.Placement.{Placement}
use Rattle.m3_model.specs.declared.point.Point.{Point}
use Rattle.m3_model.specs.declared.reason.Reason.TheVariants as reason
use Rattle.m3_model.specs.declared.turn.Turn.{Turn}
use Rattle.placement_core.specs.Lawful.{IsLawful}
use Rattle.placement_core.specs.Shards.{Shard}
use Rattle.placement_plan.specs.Choices.{taking_cmp}
use Rattle.placement_plan.specs.Nodes.{load}
use Rattle.placement_plan.specs.First.{IsInitial, IsPlaced, IsPlacedShard, MayHold, first_at, first_instances}
use Rattle.cluster_core.specs.Earlier.{last_place}
use Rattle.cluster_core.specs.Lists.{At}
use Rattle.cluster_core.specs.declared.event.Event.TheVariants as event
use Rattle.cluster_core.specs.declared.event.StepCall.TheVariants as call
use Rattle.cluster_core.specs.declared.event.StepReply.{StepReply}
use Rattle.cluster_core.specs.declared.event.StepReply.TheVariants as reply
use Rattle.transcripts.specs.Caused.{IsRefusedWhole, acts_in}
use Rattle.transcripts.specs.Record.{TurnPosition, IsAfter, IsTurnPosition, IsLastTurnPosition, inner_turns, line_of}
use Rattle.transcripts.proofs.PositionLemmas.{at_push}
use Rattle.cluster_core.proofs.ListLemmas.{at_in, at_within}
use Rattle.cluster_core.proofs.UntoldLemmas.{legal_untold}
use Rattle.told_by.specs.Lines.{position_after}
use Rattle.told_by.specs.Sample.{begun, events, fetched, name, place, placed, series, spaced, turns, written}
use Rattle.told_by.proofs.LegalSampleLemmas.{lawful_place, sample_legal}
use Rattle.told_by.proofs.LineLemmas.{no_place}
use Rattle.told_by.proofs.OneLemmas.{is_own}
use Rattle.told_by.proofs.PrintedLemmas.{ends_within}
use Rattle.told_by.proofs.SampleLemmas.{each_at, sample_told}
use Rattle.told_by.proofs.TurnLemmas.{in_cut}
use Rattle.told_causes.proofs.AloneLemmas.{quiet_places}
use Rattle.told_causes.proofs.KnownLemmas.{never_refused, one_place}
use Rattle.told_causes.specs.Boot.{HasOneTurn}
use Rattle.told_moves.specs.Order.{OpensWithin}
use Rattle.told_runs.specs.Laws.{IsMadeInOrder}
use Rattle.told_runs.specs.Answers.{AreAnswered, Delivers, IsAnswered}
use Rattle.told_runs.specs.Bounds.{IsBounded, writes_taken}
use Rattle.told_runs.specs.Sample.{ShortIsServed}

-- ---- its four turns

abbrev one_line : List Turn
one_line = line_of begun placed ∷ []

abbrev two_lines : List Turn
two_lines = line_of begun placed ∷ line_of spaced answer.Done ∷ []

abbrev three_lines : List Turn
three_lines = line_of begun placed ∷ line_of spaced answer.Done ∷ line_of written (answer.Acks (0 ∷ [])) ∷ []

abbrev found : Answer
found = answer.Found series false

-- what holds of the four holds of each
each_turn : (P : TurnPosition → Type 0) → P (position_after [] begun placed) → P (position_after one_line spaced answer.Done) → P (position_after two_lines written (answer.Acks (0 ∷ []))) → P (position_after three_lines fetched found) → (q : TurnPosition) → IsTurnPosition turns q → P q
each_turn P first second third fourth =
    at_push P three_lines (line_of fetched found)
    (at_push P two_lines (line_of written (answer.Acks (0 ∷ [])))
    (at_push P one_line (line_of spaced answer.Done) (at_push P [] (line_of begun placed) (λ q at. absurd (no_place q at)) (last [] begun placed first)) (last one_line spaced answer.Done second))
    (last two_lines written (answer.Acks (0 ∷ [])) third))
    (last three_lines fetched found fourth)
  where
    last : (lines : List Turn) (a : Act) (b : Answer) → P (position_after lines a b) → (q : TurnPosition) → IsLastTurnPosition lines (line_of a b) q → P q
    last lines a b holds q h = subst P (sym (is_own None lines [] a b [] q h)) holds

-- ---- its events

-- one placement stands from the first event on
stands : (n : ℕ) → 1 ≤ n → n ≤ length events → last_place (take n events) ≡ Some place
stands n some high =
    let whole : 1 + (n - 1) ≡ n = omega (arith, some) in
    subst (λ m. last_place (take m events) ≡ Some place) whole (quiet_places events 1 (n - 1) (omega (arith, whole, high)) (λ i other done low below there. none i other done low there))
  where
    none : (i : ℕ) (other : Placement) (done : List (ℕ × ℕ)) → 1 ≤ i → At events i (event.Place other done) → ⊥
    none i other done low there = each_at (λ k x. 1 ≤ k → x ≡ event.Place other done → ⊥) 0 events ((λ at e. omega (arith, at)), ((λ at e. cc), ((λ at e. cc), ((λ at e. cc), ((λ at e. cc), ((λ at e. cc), ((λ at e. cc), ((λ at e. cc), ((λ at e. cc), ((λ at e. cc), ((λ at e. cc), ((λ at e. cc), ((λ at e. cc), ((λ at e. cc), tt)))))))))))))) i (event.Place other done) there (omega (arith, low)) refl

pub never_ends : (i n s : ℕ) (a : StepReply) → At events i (event.Step n s call.End a) → ⊥
never_ends i n s a there = each_at (λ k x. x ≡ event.Step n s call.End a → ⊥) 0 events ((λ e. cc), ((λ e. cc), ((λ e. cc), ((λ e. cc), ((λ e. cc), ((λ e. cc), ((λ e. cc), ((λ e. cc), ((λ e. cc), ((λ e. cc), ((λ e. cc), ((λ e. cc), ((λ e. cc), ((λ e. cc), tt)))))))))))))) i (event.Step n s call.End a) there refl

-- the one begin has its tenure as fence
pub began_so : (i n s tenure fence : ℕ) (points : List Point) → At events i (event.Step n s (call.Begin tenure) (reply.Began fence points)) → fence ≡ tenure
began_so i n s tenure fence points there =
    each_at (λ k x. x ≡ event.Step n s (call.Begin tenure) (reply.Began fence points) → fence ≡ tenure) 0 events ((λ e. absurd (cc)), ((λ e. absurd (cc)), ((λ e. absurd (cc)), ((λ e. let t : 1 ≡ tenure = cc in let f : 1 ≡ fence = cc in sym f ∙ t), ((λ e. absurd (cc)), ((λ e. absurd (cc)), ((λ e. absurd (cc)), ((λ e. absurd (cc)), ((λ e. absurd (cc)), ((λ e. absurd (cc)), ((λ e. absurd (cc)), ((λ e. absurd (cc)), ((λ e. absurd (cc)), ((λ e. absurd (cc)), tt))))))))))))))
    i (event.Step n s (call.Begin tenure) (reply.Began fence points)) there refl

-- each of its lines has one turn
one_turn : (k : ℕ) → k < length turns → HasOneTurn turns k
one_turn zero less = (line_of begun placed, record { act = begun; answer = placed }, refl, refl)
one_turn (suc zero) less = (line_of spaced answer.Done, record { act = spaced; answer = answer.Done }, refl, refl)
one_turn (suc (suc zero)) less = (line_of written (answer.Acks (0 ∷ [])), record { act = written; answer = answer.Acks (0 ∷ []) }, refl, refl)
one_turn (suc (suc (suc zero))) less = (line_of fetched found, record { act = fetched; answer = found }, refl, refl)
one_turn (suc (suc (suc (suc k)))) less = absurd (omega (arith, less))

order : IsMadeInOrder None turns events sample_told
order = record {
  alone = λ k i other done less single low high there.
      stands (sample_told.ends (suc k)) (omega (arith, high)) (ends_within None turns events sample_told (suc k) less) ∙ ap Some (one_place i other done there);
  beside = λ k i other done less many. absurd (many (one_turn k less));
  lawful = λ i other done there. subst IsLawful (one_place i other done there) lawful_place;
  ends = λ i n s a there stood last. absurd (never_ends i n s a there);
}

opens : OpensWithin None events
opens = record {
  fenced = λ i n s tenure fence points there none. inl (began_so i n s tenure fence points there);
}

-- ---- its answers

abbrev only : Shard
only = first_at 0 ∷ []

abbrev loads : ℕ → ℕ
loads n = load n ([] ++ [] ∷ [])

pub initial : IsInitial 1 1 ((name, name) ∷ []) place
initial = record { version = refl; rf_is = refl; instances = refl; count = refl; each = each_shard }
  where
    may_hold : (other : ℕ) → MayHold (first_instances ((name, name) ∷ [])) [] other → other ≡ 0
    may_hold other may = let low = may.within in omega (arith, low)

    least : (other : ℕ) → other ≡ 0 → is_gt (taking_cmp (first_instances ((name, name) ∷ [])) loads 0 other) ≡ false
    least other e = subst (λ o. is_gt (taking_cmp (first_instances ((name, name) ∷ [])) loads 0 o) ≡ false) (sym e) refl

    placed_there : (r : ℕ) (a : Assignment) → slice_get only r ≡ Some a → IsPlaced (first_instances ((name, name) ∷ [])) (λ n. load n ([] ++ take r only ∷ [])) (take r only) a
    placed_there zero a e = (0, record { may = record { within = omega arith; free = λ b m. absurd m }; least = λ other may. least other (may_hold other may) }, sym (same_Some (first_at 0) a e))
    placed_there (suc r) a e = cc

    each_shard : (s : ℕ) (shard : Shard) → slice_get place.shards s ≡ Some shard → IsPlacedShard 1 place.instances (take s place.shards) shard
    each_shard zero shard e = subst (IsPlacedShard 1 place.instances []) (same_Some only shard e) (record { all = refl; each = placed_there })
    each_shard (suc s) shard e = cc

no_order : (before : List Turn) (line : Turn) (after : List Turn) → turns ≡ before ++ line ∷ after → IsRefusedWhole None before line.request line.reply
no_order before line after e = by (subst (λ ls. IsIn ls line) (sym e) (in_cut before line after))
  where
    by : IsIn turns line → IsRefusedWhole None before line.request line.reply
    by (inl is) = subst (λ (l : Turn). IsRefusedWhole None before l.request l.reply) is tt
    by (inr (inl is)) = subst (λ (l : Turn). IsRefusedWhole None before l.request l.reply) is tt
    by (inr (inr (inl is))) = subst (λ (l : Turn). IsRefusedWhole None before l.request l.reply) is tt
    by (inr (inr (inr (inl is)))) = subst (λ (l : Turn). IsRefusedWhole None before l.request l.reply) is tt
    by (inr (inr (inr (inr none)))) = absurd none

answered : AreAnswered [] (λ p. []) None turns events sample_told
answered = record {
  each = each_turn (λ q. IsAnswered [] None ((sample_told.spans).to q) q)
      (inr (inr ([], alone, (initial, refl))))
      (inr (inr (inner_turns one_line, alone, tt)))
      (inr (inr (inner_turns two_lines, alone, tt)))
      (inr (inr (inner_turns three_lines, alone, tt)));
  delivers = each_turn (λ q. Delivers None events sample_told.spans q []) tt tt tt tt;
  once = λ p q at there a b m n same. absurd m;
  whole = no_order;
  untaken = λ f m. absurd m;
  different = tt;
}
  where
    alone : {lines : List Turn} {a : Act} {b : Answer} → IsAfter (position_after lines a b) (inner_turns lines)
    alone {lines} = record { others = []; some_of = tt; are = sym (append-nil (inner_turns lines)) }

bounded : IsBounded [] turns sample_told.ends
bounded k line at =
    let high = at_within turns k line at in
    let most : sample_told.ends (suc k) ≤ length events = ends_within None turns events sample_told (suc k) high in
    let one : length (acts_in (line ∷ [])) ≡ 1 = by (at_in turns k line at) in
    let writes = writes_taken [] (take (suc k) turns) in
    let some : (MOST_REQUEST_EVENTS * 1) * 1 ≤ (MOST_REQUEST_EVENTS * 1) * (writes + 1) = mul-le-mul_left (MOST_REQUEST_EVENTS * 1) (one_more writes) in
    let room : length events ≤ (MOST_REQUEST_EVENTS * 1) * 1 = omega arith in
    subst (λ n. sample_told.ends (suc k) ≤ sample_told.ends k + (MOST_REQUEST_EVENTS * n) * (writes + 1)) (sym one) (omega (arith, most, some, room))
  where
    one_more : (n : ℕ) → 1 ≤ n + 1
    one_more n = omega arith

    by : IsIn turns line → length (acts_in (line ∷ [])) ≡ 1
    by (inl is) = ap (λ l. length (acts_in (l ∷ []))) (sym is)
    by (inr (inl is)) = ap (λ l. length (acts_in (l ∷ []))) (sym is)
    by (inr (inr (inl is))) = ap (λ l. length (acts_in (l ∷ []))) (sym is)
    by (inr (inr (inr (inl is)))) = ap (λ l. length (acts_in (l ∷ []))) (sym is)
    by (inr (inr (inr (inr none)))) = absurd none

pub short_served : (tells : Bool) → ShortIsServed tells
short_served tells = (legal_untold tells events sample_legal, sample_told, record { order = order; halts = each_turn _ (λ h. absurd h) (λ h. absurd h) (λ h. absurd h) (λ h. absurd h); opens = λ is. opens; owned = λ is i n s tenure there. absurd (never_refused i n s (call.Begin tenure) reason.NotOwned there); answers = answered; bound = λ is. bounded })
