use Rattle.std.proofs.Common.{◌≡◌, ◌≢◌, ◌<◌, List, length, Some, None, subst, sym, ap, ◌∙◌, rules}
use Rattle.std.specs.FinMap as finite
use Rattle.std.proofs.lemmas.Fn.{always_returns_same}
use Rattle.m3_model.specs.declared.act.Fate.TheVariants.{Deliver}
use Rattle.net_plan.specs.Fates.{Item, FateMap, key_of}
use Rattle.net_plan.proofs.RowLemmas.{get-at_position, get-at_gap, told_listed, told_none}
use Rattle.net_plan.proofs.fates.Fates.fate.Goals as goal

pub returns-in-Ok : goal.returns-in-Ok
returns-in-Ok c =
    let list = c.self.inside.items.items in
    let key = c.args.call.now in
    let item = c.index.result.now in
    let found = get-at_position list c.deref.result.now key c.in-Ok.position item c.deref.ensures.value c.self.invariant.distinct c.in-Ok.ensures.bound c.index.ensures
    (c.in-Ok.ensures.position key_of (always_returns_same _ _ _ (λ a r q k. search rules))) in
    let inside = subst (λ (xs : List Item). c.in-Ok.position < length xs) c.deref.ensures.value c.in-Ok.ensures.bound in
    let other : item.3 ≢ Deliver = λ is. c.self.invariant.none_delivered c.in-Ok.position item inside (ap (λ (x : Item). x.3) (sym c.index.ensures) ∙ is) in
    let told = told_listed c.args.self.now key item.3 other (subst (λ (m : FateMap). finite.get m key ≡ Some item.3) c.self.view_is found) in
    record { listed = told.0; deliver = told.1 }

pub returns-in-Err : goal.returns-in-Err
returns-in-Err c =
    let key = c.args.call.now in
    let missed = get-at_gap c.self.inside.items.items c.deref.result.now key c.in-Err.field-0 c.deref.ensures.value c.self.invariant.sorted c.self.invariant.distinct
    (c.in-Err.ensures.position key_of (always_returns_same _ _ _ (λ a r q k. search rules))) in
    let told = told_none c.args.self.now key (subst (λ (m : FateMap). finite.get m key ≡ None) c.self.view_is missed) in
    record { listed = told.0; deliver = told.1 }
