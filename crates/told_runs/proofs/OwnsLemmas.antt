-- No begin that a turn is to make is refused as not owned: tenures never fall, and files hold none above the first with which a slot begins.
use Rattle.std.proofs.Common.{◌≡◌, ◌≤◌, ◌<◌, ℕ, suc, true, List, [], take, length, sym, ap, ◌∙◌, inl, inr, arith}
use Rattle.std.specs.Prelude.{Some, Option}
use Rattle.std.proofs.lemmas.Option.{same_Some}
use Rattle.m3_model.specs.declared.placement.Placement.{Placement}
use Rattle.m3_model.specs.declared.reason.Reason.TheVariants as reason
use Rattle.m3_model.specs.declared.rules.MetaState.{MetaState}
use Rattle.m3_model.specs.declared.turn.Turn.{Turn}
use Rattle.placement_core.proofs.ListLemmas.{IsIn-from_Any}
use Rattle.cluster_core.specs.Earlier.{last_place}
use Rattle.cluster_core.specs.Legal.{Legal}
use Rattle.cluster_core.specs.Lists.{At}
use Rattle.cluster_core.specs.declared.event.Event.{Event}
use Rattle.cluster_core.specs.declared.event.Event.TheVariants as event
use Rattle.cluster_core.specs.declared.event.StepCall.TheVariants as call
use Rattle.cluster_core.specs.declared.event.StepReply.TheVariants as reply
use Rattle.cluster_core.proofs.ListLemmas.{at_take}
use Rattle.cluster_core.proofs.TraceLemmas.{lawful_step}
use Rattle.transcripts.specs.Placements.{printed}
use Rattle.transcripts.specs.Record.{TurnPosition, IsTurnPosition}
use Rattle.told_by.specs.Hears.{InStretch}
use Rattle.told_by.specs.Makes.{IsAssigned}
use Rattle.told_by.specs.Openings.{sets_seed}
use Rattle.told_by.specs.Told.{ToldBy}
use Rattle.told_by.proofs.LeaveLemmas.{place_there}
use Rattle.told_by.proofs.LineLemmas.{line_below}
use Rattle.told_by.proofs.PrintedLemmas.{ends_within}
use Rattle.told_causes.specs.Boot.{HasOneTurn, IsBootAct, OwnsWhereBegun}
use Rattle.told_causes.proofs.RefusalLemmas.{refused_law}
use Rattle.told_moves.specs.Order.{IsInOrder}
use Rattle.told_runs.specs.Laws.{OwnsFiles}
use Rattle.told_moves.proofs.OwnLemmas.{begin_given, tried_low}
use Rattle.told_moves.proofs.SlotLemmas.{Tries, slot, tried_began}
use Rattle.told_moves.proofs.TenureLemmas.{GivenAt, given_by, tenure_grows}

module _ (start : Option MetaState) (turns : List Turn) (events : List Event) (legal : Legal true events) (told : ToldBy start turns events) (order : IsInOrder start turns events told) (owned : OwnsFiles events) where
  -- a begin with a tenure that isn't below those which the slot tried isn't refused so
  owned_begin : (n s i tenure : ℕ) → At events i (event.Step n s (call.Begin tenure) (reply.Refused reason.NotOwned)) → ((own : ℕ) → Tries (slot events legal n s i) own → own ≤ tenure) → ⊥
  owned_begin n s i tenure there low =
      let r = slot events legal n s i in
      let law = refused_law true (take i events) n s r (call.Begin tenure) reason.NotOwned (lawful_step events legal i n s (call.Begin tenure) (reply.Refused reason.NotOwned) there) in
      elim law.1 as (λ _. ⊥) [
        | inl any ↦ let t = IsIn-from_Any (λ own. tenure < own) r.begun any in omega (arith, low t.0 (inl t.1), t.2)
        | inr other ↦ elim other as (λ _. ⊥) [
          | inl any ↦ let t = IsIn-from_Any (λ own. tenure < own) r.tried any in omega (arith, low t.0 (inr t.1), t.2)
          | inr empty ↦ owned i n s tenure there empty
        ]
      ]

  -- over the placement that stands when a bootstrap begins
  by_boot : (q : TurnPosition) → IsTurnPosition turns q → IsBootAct q.turn.act → (place : Placement) → last_place (take ((told.spans).from q) events) ≡ Some place → (n s tenure : ℕ) → IsAssigned place n s tenure
      → (i : ℕ) → InStretch events ((told.spans).from q) ((told.spans).to q) i (event.Step n s (call.Begin tenure) (reply.Refused reason.NotOwned)) → ⊥
  by_boot q at boots place last n s tenure given i here =
      let k = length q.lines in
      let less : k < length turns = line_below turns q at in
      let from = (told.spans).from q in
      owned_begin n s i tenure here.2 (tried_low start turns events legal told order k less n s from i tenure ((told.lines).low q at) here.0 (omega (arith, here.1, (told.lines).high q at)) (given_by events legal n s from tenure place last given))

  -- over the placement that an `init` prints
  by_init : (q : TurnPosition) → IsTurnPosition turns q → sets_seed q.turn.act q.turn.answer ≡ true → (place : Placement) → printed q.turn.answer ≡ Some place → (n s tenure : ℕ) → IsAssigned place n s tenure
      → (i : ℕ) → InStretch events ((told.spans).from q) ((told.spans).to q) i (event.Step n s (call.Begin tenure) (reply.Refused reason.NotOwned)) → ⊥
  by_init q at sets place prints n s tenure given i here =
      let k = length q.lines in
      let less : k < length turns = line_below turns q at in
      let init = (told.tells).init.inits q at sets in
      let same : init.place ≡ place = same_Some init.place place (ap printed (sym init.answered) ∙ prints) in
      let low : told.ends k ≤ 0 = omega (arith, (told.lines).low q at, init.from_is) in
      let high : i < told.ends (suc k) = omega (arith, here.1, (told.lines).high q at) in
      let bound = ends_within start turns events told (suc k) less in
      let one : HasOneTurn turns k = ((init.alone).0, q.turn, (init.alone).1, (init.alone).2) in
      let last = order.places.alone k 0 init.place [] less one low (omega (arith, high)) init.placed in
      owned_begin n s i tenure here.2 (λ own tries.
      let b = tried_began events legal n s own i (omega (arith, high, bound)) tries in
      let below = b.below in
      let was = begin_given start turns events legal told order n s b.position own b.answer b.there in
      let g = was.3 in
      by_given own one was.0 (omega (arith, was.1, below, high)) was.2 g low high less last same bound)
    where
      by_given : (own : ℕ) → HasOneTurn turns (length q.lines) → (z : ℕ) → z < told.ends (suc (length q.lines)) → 1 ≤ z → GivenAt events legal n s z own → told.ends (length q.lines) ≤ 0 → i < told.ends (suc (length q.lines)) → length q.lines < length turns
          → {first : Placement} → last_place (take (told.ends (suc (length q.lines))) events) ≡ Some first → first ≡ place → told.ends (suc (length q.lines)) ≤ length events → own ≤ tenure
      by_given own only z before some g low high less {first} last same bound =
          let stood = place_there (take z events) (g.is).place (g.is).last in
          let there = at_take events stood.0 z (event.Place (g.is).place stood.1) stood.2 in
          let one = order.places.alone (length q.lines) stood.0 (g.is).place stood.1 less only (omega (arith, low)) (omega (arith, there.1, before)) there.0 in
          let is : (g.is).place ≡ place = same_Some (g.is).place first (sym one ∙ last) ∙ same in
          tenure_grows events legal n s z z own tenure some (omega arith) (omega (arith, before, bound)) g (given_by events legal n s z tenure place ((g.is).last ∙ ap Some is) given)

  pub owns : (node shard : ℕ) → OwnsWhereBegun start turns events told node shard
  owns node shard q at place (inl boots) tenure given i here = by_boot q at boots.0 place boots.1 node shard tenure given i here
  owns node shard q at place (inr init) tenure given i here = by_init q at init.0 place init.1 node shard tenure given i here
