-- Lines that make a placement, and those that are refused, are told.
use Rattle.std.proofs.Common.{◌≡◌, ◌<◌, ◌∙◌, ℕ, zero, suc, Bool, true, false, List, [], ◌∷◌, ◌++◌, length, take, Option, Some, None, refl, sym, ap, subst, inl, inr, arith, fold}
use Rattle.std.proofs.lemmas.Grind.{fold-append}
use Rattle.std.proofs.lemmas.Option.{same_Some}
use Rattle.m3_model.specs.Members.{IsIn}
use Rattle.m3_model.specs.Reads.{found_of}
use Rattle.m3_model.specs.declared.act.Act.{Act}
use Rattle.m3_model.specs.declared.answer.Answer.{Answer}
use Rattle.m3_model.specs.declared.answer.Answer.TheVariants as answer
use Rattle.m3_model.specs.declared.placement.Placement.{Placement}
use Rattle.m3_model.specs.declared.rules.MetaState.{MetaState}
use Rattle.m3_model.specs.declared.turn.Turn.{Turn}
use Rattle.m3_model.proofs.Lists.{take_whole}
use Rattle.placement_acts.specs.Acts.{is_step_act}
use Rattle.placement_acts.proofs.ActLemmas.{by_step}
use Rattle.cluster_core.specs.Earlier.{last_place, place_after as place_by}
use Rattle.cluster_core.specs.Legal.{Legal}
use Rattle.cluster_core.specs.Lists.{At}
use Rattle.cluster_core.specs.declared.event.Asked.{Asked}
use Rattle.cluster_core.specs.declared.event.Asked.TheVariants as asked
use Rattle.cluster_core.specs.declared.event.Event.{Event}
use Rattle.cluster_core.specs.declared.event.Event.TheVariants as event
use Rattle.cluster_core.specs.declared.event.StepCall.TheVariants as call
use Rattle.cluster_core.specs.declared.event.StepReply.{StepReply}
use Rattle.transcripts.specs.Placements.{printed}
use Rattle.transcripts.specs.Record.{TurnPosition}
use Rattle.told_by.specs.Clocks.{sets_rules}
use Rattle.told_by.specs.Hears.{HearsBy, InStretch}
use Rattle.told_by.specs.Lines.{IsPlain, MayChange, PlainLine, position_after}
use Rattle.told_by.specs.Makes.{MayAsk, MayChangePlace, MayMake}
use Rattle.told_by.specs.Openings.{sets_seed}
use Rattle.told_by.specs.Steps.{EndsGone, IsUnmoved, StepsTell, UnmovedTell}
use Rattle.told_by.specs.Told.{ToldBy}
use Rattle.told_by.specs.Writes.{IsUnmetWrite}
use Rattle.told_by.proofs.KindLemmas.{taken}
use Rattle.told_by.proofs.LineLemmas.{nothing_at}
use Rattle.told_by.proofs.LoopLemmas.{last_prints}
use Rattle.told_by.proofs.OneLemmas.{at_back}

-- ---- what each of the acts may ask, hears and sets

step_asks : (start : Option MetaState) (past : List Event) (p : TurnPosition) (what : Asked) (a : Act) → is_step_act a ≡ true → MayChangePlace past what → MayAsk start past p a what
step_asks start past p what = by_step (λ a. MayChangePlace past what → MayAsk start past p a what) (λ node group h. h) (λ node h. h) (λ node h. h) (λ node h. h) (λ node by group h. h)

placed_hears : (start : Option MetaState) (past : List Event) (Here : ℕ → Event → Type 0) (p : TurnPosition) (next : Placement) (version : ℕ) (a : Act) → is_step_act a ≡ true → HearsBy start past Here p a (answer.Placed next version)
placed_hears start past Here p next version = by_step (λ a. HearsBy start past Here p a (answer.Placed next version)) (λ node group. tt) (λ node. tt) (λ node. tt) (λ node. tt) (λ node by group. tt)

placed_plain : (next : Placement) (version : ℕ) (a : Act) → is_step_act a ≡ true → IsPlain a (answer.Placed next version)
placed_plain next version a step = record {
  no_acks = λ nodes e. cc;
  not_unmet = by_step (λ x. ¬ IsUnmetWrite x (answer.Placed next version)) (λ node group h. h) (λ node h. h) (λ node h. h) (λ node h. h) (λ node by group h. h) a step;
  no_found = refl;
  no_rules = by_step (λ x. sets_rules x (answer.Placed next version) ≡ false) (λ node group. refl) (λ node. refl) (λ node. refl) (λ node. refl) (λ node by group. refl) a step;
  no_seed = by_step (λ x. sets_seed x (answer.Placed next version) ≡ false) (λ node group. refl) (λ node. refl) (λ node. refl) (λ node. refl) (λ node by group. refl) a step;
}

-- ---- the events

module _ (next : Placement) where
  -- the placement stands behind ends of tenures
  stays : (k : ℕ) (ends : List Event) → ((e : Event) → IsIn ends e → EndsGone next e) → fold place_by (Some next) (take k ends) ≡ Some next
  stays zero ends gone = refl
  stays (suc k) [] gone = refl
  stays (suc k) (e ∷ ends) gone = ap (λ o. fold place_by o (take k ends)) (kept e (gone e (inl refl))) ∙ stays k ends (λ x m. gone x (inr m))
    where
      kept : (x : Event) → EndsGone next x → place_by (Some next) x ≡ Some next
      kept (event.Ask (asked.Step n s call.End)) h = refl
      kept (event.Step n s call.End a) h = refl
      kept _ h = absurd h

  pub ends_in : (k : ℕ) (ends : List Event) (e : Event) → At ends k e → IsIn ends e
  ends_in zero [] e there = cc
  ends_in (suc k) [] e there = cc
  ends_in zero (x ∷ ends) e there = inl (same_Some x e there)
  ends_in (suc k) (x ∷ ends) e there = inr (ends_in k ends e there)

  module _ (start : Option MetaState) (turns : List Turn) (events : List Event) (a : Act) (step : is_step_act a ≡ true) (ends : List Event) (gone : (e : Event) → IsIn ends e → EndsGone next e) where
    abbrev added : List Event
    added = event.Ask (asked.Place next []) ∷ event.Place next [] ∷ ends

    abbrev own : TurnPosition
    own = position_after turns a (answer.Placed next next.version)

    -- behind its Place the placement stands
    pub last_behind : (k : ℕ) → last_place (events ++ take (suc (suc k)) added) ≡ Some next
    last_behind k = fold-append place_by None events (take (suc (suc k)) added) ∙ stays k ends gone

    may_make : (k : ℕ) (e : Event) → At added k e → MayMake start (events ++ take k added) own e
    may_make zero e there = subst (MayMake start (events ++ []) own) (same_Some _ e there) (step_asks start (events ++ []) own (asked.Place next []) a step refl)
    may_make (suc zero) e there = subst (MayMake start (events ++ take 1 added) own) (same_Some _ e there) (record { stood = next; prints = refl; not_before = omega arith })
    may_make (suc (suc k)) e there = by e (gone e (ends_in k ends e there))
      where
        by : (x : Event) → EndsGone next x → MayMake start (events ++ take (suc (suc k)) added) own x
        by (event.Ask (asked.Step n s call.End)) h = step_asks start (events ++ take (suc (suc k)) added) own (asked.Step n s call.End) a step (record { place = next; last = last_behind k; gone = h })
        by (event.Step n s call.End r) h = tt
        by _ h = absurd h

    may_change : (k : ℕ) (e : Event) → At added k e → MayChange own (events ++ take k added) e
    may_change zero e there = subst (MayChange own (events ++ [])) (same_Some _ e there) tt
    may_change (suc zero) e there = subst (MayChange own (events ++ take 1 added)) (same_Some _ e there) (λ d none. absurd none)
    may_change (suc (suc k)) e there = by e (gone e (ends_in k ends e there))
      where
        by : (x : Event) → EndsGone next x → MayChange own (events ++ take (suc (suc k)) added) x
        by (event.Ask (asked.Step n s call.End)) h = tt
        by (event.Step n s call.End r) h = tt
        by _ h = absurd h

    not_restart : (k n s : ℕ) (r : StepReply) → At added k (event.Step n s call.Restart r) → ⊥
    not_restart zero n s r there = cc
    not_restart (suc zero) n s r there = cc
    not_restart (suc (suc k)) n s r there = gone (event.Step n s call.Restart r) (ends_in k ends (event.Step n s call.Restart r) there)

    pub step_tells : {tells : Bool} → 0 < length events → Legal tells (events ++ added) → ToldBy start turns events → PlainLine start turns events a (answer.Placed next next.version) added
    step_tells {tells} some legal told = record {
      makes = record {
        makes = λ i e le two there.
            let r = at_back events added i e there le in
            subst (λ es. MayMake start es own e) (sym (ap (λ n. take n (events ++ added)) r.1 ∙ taken start turns events a (answer.Placed next next.version) added r.0)) (may_make r.0 e r.2);
        restarts = λ i n s r le two there. let b = at_back events added i (event.Step n s call.Restart r) there le in absurd (not_restart b.0 n s r b.2);
        hears = placed_hears start events (InStretch (events ++ added) (length events) (length (events ++ added))) own next next.version a step;
      };
      plain = placed_plain next next.version a step;
      opened = inl some;
      adds = may_change;
      prints = last_prints start turns events (answer.Placed next next.version) added legal told (λ place is. fold-append place_by None events added ∙ whole ∙ is);
      ends = λ available boot x m. absurd (let bad : answer.Placed next next.version ≡ answer.Available available boot.place boot.version = boot.answered in cc);
    }
      where
        whole : fold place_by (Some next) ends ≡ Some next
        whole = ap (fold place_by (Some next)) (sym (take_whole ends)) ∙ stays (length ends) ends gone

pub steps_tell : {tells : Bool} → StepsTell tells
steps_tell {tells} start turns events a next more step some legal told adds =
    subst (PlainLine start turns events a (answer.Placed next next.version)) (sym adds.adds)
    (step_tells next start turns events a step adds.ends adds.gone some (subst (λ es. Legal tells (events ++ es)) adds.adds legal) told)

-- ---- lines that make none

unmoved_quiet : (b : Answer) → IsUnmoved b → (found_of b ≡ None) × (printed b ≡ None)
unmoved_quiet answer.Order h = (refl, refl)
unmoved_quiet (answer.Unknown name) h = (refl, refl)
unmoved_quiet (answer.Limit limit) h = (refl, refl)
unmoved_quiet (answer.Busy name shard) h = (refl, refl)
unmoved_quiet (answer.Group shard) h = (refl, refl)
unmoved_quiet (answer.Disk name shard) h = (refl, refl)
unmoved_quiet answer.Memory h = (refl, refl)
unmoved_quiet answer.Full h = (refl, refl)
unmoved_quiet _ h = absurd h

unmoved_hears : (start : Option MetaState) (past : List Event) (Here : ℕ → Event → Type 0) (p : TurnPosition) (a : Act) → is_step_act a ≡ true → (b : Answer) → IsUnmoved b → HearsBy start past Here p a b
unmoved_hears start past Here p a step answer.Order h = by_step (λ x. HearsBy start past Here p x answer.Order) (λ node group. tt) (λ node. tt) (λ node. tt) (λ node. tt) (λ node by group. tt) a step
unmoved_hears start past Here p a step (answer.Unknown name) h = by_step (λ x. HearsBy start past Here p x (answer.Unknown name)) (λ node group. tt) (λ node. tt) (λ node. tt) (λ node. tt) (λ node by group. tt) a step
unmoved_hears start past Here p a step (answer.Limit limit) h = by_step (λ x. HearsBy start past Here p x (answer.Limit limit)) (λ node group. tt) (λ node. tt) (λ node. tt) (λ node. tt) (λ node by group. tt) a step
unmoved_hears start past Here p a step (answer.Busy name shard) h = by_step (λ x. HearsBy start past Here p x (answer.Busy name shard)) (λ node group. tt) (λ node. tt) (λ node. tt) (λ node. tt) (λ node by group. tt) a step
unmoved_hears start past Here p a step (answer.Group shard) h = by_step (λ x. HearsBy start past Here p x (answer.Group shard)) (λ node group. tt) (λ node. tt) (λ node. tt) (λ node. tt) (λ node by group. tt) a step
unmoved_hears start past Here p a step (answer.Disk name shard) h = by_step (λ x. HearsBy start past Here p x (answer.Disk name shard)) (λ node group. tt) (λ node. tt) (λ node. tt) (λ node. tt) (λ node by group. tt) a step
unmoved_hears start past Here p a step answer.Memory h = by_step (λ x. HearsBy start past Here p x answer.Memory) (λ node group. tt) (λ node. tt) (λ node. tt) (λ node. tt) (λ node by group. tt) a step
unmoved_hears start past Here p a step answer.Full h = by_step (λ x. HearsBy start past Here p x answer.Full) (λ node group. tt) (λ node. tt) (λ node. tt) (λ node. tt) (λ node by group. tt) a step
unmoved_hears start past Here p a step _ h = absurd h

unmoved_plain : (a : Act) (b : Answer) → is_step_act a ≡ true → IsUnmoved b → IsPlain a b
unmoved_plain a b step unmoved = record {
  no_acks = λ nodes e. subst IsUnmoved e unmoved;
  not_unmet = by_step (λ x. ¬ IsUnmetWrite x b) (λ node group h. h) (λ node h. h) (λ node h. h) (λ node h. h) (λ node by group h. h) a step;
  no_found = (unmoved_quiet b unmoved).0;
  no_rules = by_step (λ x. sets_rules x b ≡ false) (λ node group. refl) (λ node. refl) (λ node. refl) (λ node. refl) (λ node by group. refl) a step;
  no_seed = by_step (λ x. sets_seed x b ≡ false) (λ node group. refl) (λ node. refl) (λ node. refl) (λ node. refl) (λ node by group. refl) a step;
}

pub unmoved_tell : UnmovedTell
unmoved_tell start turns events a b step unmoved =
    let none : (place : Placement) → printed b ≡ Some place → ⊥ = λ place is. (let bad : None ≡ Some place = sym (unmoved_quiet b unmoved).1 ∙ is in cc) in
    record {
      makes = record {
        makes = λ i e le two there. let r = at_back events [] i e there le in absurd (nothing_at r.0 e r.2);
        restarts = λ i n s r le two there. let x = at_back events [] i (event.Step n s call.Restart r) there le in absurd (nothing_at x.0 (event.Step n s call.Restart r) x.2);
        hears = unmoved_hears start events (InStretch (events ++ []) (length events) (length (events ++ []))) (position_after turns a b) a step b unmoved;
      };
      plain = unmoved_plain a b step unmoved;
      opened = inr refl;
      adds = λ i e there. absurd (nothing_at i e there);
      prints = record { is_place = λ place is. absurd (none place is); not_earlier = λ p at was is of_was of_is. absurd (none is of_is) };
      ends = λ available boot x m. absurd (subst IsUnmoved boot.answered unmoved);
    }
