-- In a legal list no more Clocks stand than were asked for, and a Clock that is asked for may come.
use Rattle.std.proofs.Common.{◌≡◌, ℕ, zero, suc, ◌≤◌, List, [], ◌∷◌, ◌++◌, length, refl, sym, ap, ◌∙◌, subst, inl, inr, arith, Bool, false, length-append}
use Rattle.std.proofs.lemmas.Grind.{fold-append}
use Rattle.std.specs.Prelude.{◌⊎◌, None}
use Rattle.m3_model.specs.Members.{IsIn}
use Rattle.m3_model.specs.declared.rules.MetaState.{MetaState}
use Rattle.m3_model.specs.declared.rules.Rules.{Rules}
use Rattle.m3_outside.specs.DiskState.{DiskState}
use Rattle.session_writes.specs.net_plan.declared.late_write.LateWrite.{LateWrite}
use Rattle.session_writes.specs.cluster_core.Asks.{IsAskFor, IsLike, WasAsked}
use Rattle.session_writes.specs.cluster_core.Earlier.{IsSend, clock_after, last_clock, last_place, place_after}
use Rattle.session_writes.specs.cluster_core.Legal.{IsNextClock, LawfulAt, Legal, Lawful}
use Rattle.session_writes.specs.cluster_core.Lists.{At}
use Rattle.session_writes.specs.cluster_core.declared.event.Asked.TheVariants as asked
use Rattle.session_writes.specs.cluster_core.declared.event.Event.{Event}
use Rattle.session_writes.specs.cluster_core.declared.event.Event.TheVariants as event
use Rattle.session_writes.proofs.cluster_core_proofs.ExtendLemmas.{at_last, at_push, legal_last}
use Rattle.session_writes.proofs.cluster_core_proofs.ListLemmas.{at_append, at_within}
use Rattle.session_writes.proofs.event_trail_proofs.Balances.{IsBalanced, legal_init}
use Rattle.session_writes.specs.session_net.Calls.{Tracked}
use Rattle.session_writes.specs.session_net.Ready.{IsReady}
use Rattle.session_writes.specs.session_net.Runs.{Ran}
use Rattle.session_writes.proofs.session_net_proofs.ReadyLemmas.{any_after, there_after}
use Rattle.cluster_members.specs.Steps.{clock_events}

-- ---- as many as were asked for

snoc : {X : Type 0} (x : X) (xs : List X) → (ys : List X) × (y : X) × (x ∷ xs ≡ ys ++ y ∷ [])
snoc x [] = ([], x, refl)
snoc x (z ∷ xs) = let r = snoc z xs in (x ∷ r.0, r.1, ap (λ l. x ∷ l) r.2)

module _ (rules : Rules) where
  abbrev pub own : Event
  own = event.Clock rules

  empty_balanced : IsBalanced [] own
  empty_balanced = record { asks = []; answered = []; distinct = tt; are_asks = λ i m. absurd m; are_all = λ i other two at like. let low = at_within [] i other at in absurd (omega (arith, low)); enough = omega arith }

  -- one that isn't like it, or one of the first two, comes
  balanced_other : (past : List Event) (x : Event) → (2 ≤ length past → IsLike own x → ⊥) → IsBalanced past own → IsBalanced (past ++ x ∷ []) own
  balanced_other past x apart b = record {
    asks = b.asks;
    answered = b.answered;
    distinct = b.distinct;
    are_asks = λ i m. let y = b.are_asks i m in (y.0, at_append past (x ∷ []) i y.0 y.1, y.2);
    are_all = λ i other two at like. elim (at_push past x i other at) as (λ _. IsIn b.answered i) [
      | inl old ↦ b.are_all i other two old like
      | inr new ↦ absurd (apart (subst (λ k. 2 ≤ k) new.0 two) (subst (IsLike own) (sym new.1) like))
    ];
    enough = b.enough;
  }

  -- one like it comes, which was asked for
  balanced_own : (past : List Event) (x : Event) → WasAsked past own → IsBalanced (past ++ x ∷ []) own
  balanced_own past x w =
      let more = w.more in
      record {
        asks = w.asks;
        answered = length past ∷ w.answered;
        distinct = w.distinct;
        are_asks = λ i m. let y = w.are_asks i m in (y.0, at_append past (x ∷ []) i y.0 y.1, y.2);
        are_all = λ i other two at like. elim (at_push past x i other at) as (λ _. (length past ≡ i) ⊎ IsIn w.answered i) [
          | inl old ↦ inr (w.are_all i other two old like)
          | inr new ↦ inl (sym new.0)
        ];
        enough = omega (arith, more);
      }

  module _ (same : (x y : Rules) → (x ≡ y) ⊎ (x ≡ y → ⊥)) (tells : Bool) where
    push : (past : List Event) (x : Event) → LawfulAt tells (length past) past x → IsBalanced past own → IsBalanced (past ++ x ∷ []) own
    push past (event.Clock r) law b =
        elim (same r rules) as (λ _. IsBalanced (past ++ event.Clock r ∷ []) own) [
          | inr other ↦ balanced_other past (event.Clock r) (λ two like. other like) b
          | inl is ↦ at_position past law is b
        ]
      where
        at_position : (xs : List Event) → LawfulAt tells (length xs) xs (event.Clock r) → r ≡ rules → IsBalanced xs own → IsBalanced (xs ++ event.Clock r ∷ []) own
        at_position [] law is b = absurd law
        at_position (y ∷ []) law is b = balanced_other (y ∷ []) (event.Clock r) (λ two like. absurd (omega (arith, two))) b
        at_position (y ∷ z ∷ xs) law is b = balanced_own (y ∷ z ∷ xs) (event.Clock r) (subst (λ (k : Rules). WasAsked (y ∷ z ∷ xs) (event.Clock k)) is law.0)
    push past _ law b = balanced_other past _ (λ two like. absurd like) b

    by_length : (k : ℕ) (past : List Event) → length past ≡ k → Legal tells past → IsBalanced past own
    by_length k [] is legal = empty_balanced
    by_length zero (x ∷ past) is legal = absurd (omega (arith, is))
    by_length (suc k) (x ∷ past) is legal =
        let last = snoc x past in
        let legal' : Legal tells (last.0 ++ last.1 ∷ []) = subst (Legal tells) last.2 legal in
        let long = ap length last.2 ∙ length-append last.0 (last.1 ∷ []) in
        subst (λ l. IsBalanced l own) (sym last.2) (push last.0 last.1 (legal_last tells last.0 last.1 legal') (by_length k last.0 (omega (arith, is, long)) (legal_init tells last.0 (last.1 ∷ []) legal')))

    pub balanced : (past : List Event) → Legal tells past → IsBalanced past own
    balanced past legal = by_length (length past) past refl legal

  was_asked : (past : List Event) → IsBalanced past own → WasAsked (past ++ event.Ask (asked.Clock rules) ∷ []) own
  was_asked past b =
      let enough = b.enough in
      let ask : Event = event.Ask (asked.Clock rules) in
      record {
        asks = length past ∷ b.asks;
        answered = b.answered;
        distinct = (λ j m same. let x = b.are_asks j m in let low = at_within past j x.0 x.1 in absurd (omega (arith, same, low)), b.distinct);
        are_asks = λ i m. elim m as (λ _. (x : Event) × At (past ++ ask ∷ []) i x × IsAskFor own x) [
          | inl here ↦ (ask, subst (λ k. At (past ++ ask ∷ []) k ask) here (at_last past ask), refl)
          | inr old ↦ let x = b.are_asks i old in (x.0, at_append past (ask ∷ []) i x.0 x.1, x.2)
        ];
        are_all = λ i other two at like. elim (at_push past ask i other at) as (λ _. IsIn b.answered i) [
          | inl old ↦ b.are_all i other two old like
          | inr new ↦ absurd (subst (IsLike own) (sym new.1) like)
        ];
        more = omega (arith, enough);
      }

  -- ---- the Clock behind its Ask

  -- where it is the next one it is lawful behind its Ask
  pub clock_lawful : (past asked_past : List Event) → ((x y : Rules) → (x ≡ y) ⊎ (x ≡ y → ⊥)) → Legal false past → IsNextClock past rules → asked_past ≡ past ++ event.Ask (asked.Clock rules) ∷ [] → (tells : Bool) → Lawful tells asked_past own
  clock_lawful past asked_past same legal next is tells = subst (λ es. Lawful tells es own) (sym is) (
    was_asked past (balanced same false past legal),
    record { last = next.last; last_is = fold-append clock_after None past (event.Ask (asked.Clock rules) ∷ []) ∙ next.last_is; not_lower = next.not_lower; grows = next.grows },
  )

-- ---- what may be called then

-- calls may be made by the rules that were set
pub ready_ruled : {D : Type 0} (disk : D → DiskState) (state later : MetaState) (old new : Tracked D) (bag : List LateWrite) (rules : Rules) → IsReady state old bag → Ran disk old (clock_events rules) new → later ≡ record state { rules = rules } → IsReady later new bag
ready_ruled disk state later old new bag rules was ran is = subst (λ s. IsReady s new bag) (sym is) (record {
  clock = ap last_clock ran.grew ∙ fold-append clock_after None old.events (clock_events rules);
  place = ap last_place ran.grew ∙ fold-append place_after None old.events (clock_events rules) ∙ was.place;
  lawful = was.lawful;
  there = λ n s m. there_after disk old new (clock_events rules) _ ran (was.there n s m);
  late = λ one m. let sent = was.late one m in record { sent = any_after disk (IsSend one.version one.shard one.point) old new (clock_events rules) ran sent.sent; there = there_after disk old new (clock_events rules) _ ran sent.there };
})
