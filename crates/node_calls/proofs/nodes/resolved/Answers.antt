use Rattle.std.proofs.Common.{◌∷◌, [], ◌++◌, length, Bool, cond, refl, ap, sym, subst, ◌∙◌}
use Rattle.std.proofs.lemmas.Iterator.Adapters.{YieldsList-from_vec}
use Rattle.std.proofs.lemmas.Iterator.Consumers.{YieldsList-so_far, YieldsList-turn, YieldsList-end}
use Rattle.std.proofs.lemmas.List.{map-id}
use Rattle.net_plan.specs.Fates.{Item}
use Rattle.cluster_members.specs.Names.{AreNumbered, node_named}
use Rattle.node_calls.proofs.RowLemmas.{Fated, missing_at, numbered_push}
use Rattle.node_calls.proofs.nodes.resolved.Goals as goal

pub loop-client-init : goal.loop-client-init
loop-client-init c = subst (AreNumbered c.args.instances.now []) (sym c.new-numbered.ensures.items) tt

pub returns-in_default : goal.returns-in_default
returns-in_default c =
    let gives = c.into_iter-client-iterator.ensures.into_iter_gives in
    let is = c.into_vec-client-items.ensures in
    let all = YieldsList-from_vec {s = c.into_iter-client-iterator.result} c.args.list (gives.0 ∙ is) (gives.1 ∙ c.into_vec-client-items.result.ok.0 ∙ ap length is) in
    let fate : Fated = (c.in-Some.client, c.in-Some.call, c.in-Some.name, c.in-Some.fate) in
    let before = YieldsList-so_far all c.loop-client.yielded c.loop-client.client-iterator c.loop-client.yielded_by in
    let turn = YieldsList-turn all c.loop-client.yielded c.loop-client.client-iterator c.loop-client.yielded_by c.next.result c.next.new.self fate c.in-Some.is c.next.ensures.steps in
    missing_at c.args.instances.now c.loop-client.yielded c.loop-client.numbered.items c.args.list fate c.loop-client.invariant (sym (map-id c.loop-client.yielded) ∙ before) turn.0 turn.1
    (ap (λ name. node_named name c.args.instances.now) (sym c.as_str.ensures) ∙ sym c.in_default.ensures.found)

pub loop-client-preserved : goal.loop-client-preserved
loop-client-preserved c =
    let fate : Fated = (c.in-Some.client, c.in-Some.call, c.in-Some.name, c.in-Some.fate) in
    let item : Item = (c.in-Some.client, c.in-Some.call, c.in-Some-node_named.node, c.in-Some.fate) in
    let found = ap (λ name. node_named name c.args.instances.now) (sym c.as_str.ensures) ∙ sym c.in-Some-node_named.ensures.found in
    let items = c.push.ensures.items ∙ ap (λ (pushed : Bool). cond pushed (c.loop-client.numbered.items ++ item ∷ []) c.loop-client.numbered.items) c.if-is_err.ensures.negation in
    subst (AreNumbered c.args.instances.now (c.loop-client.yielded ++ fate ∷ [])) (sym items)
    (numbered_push c.args.instances.now c.loop-client.yielded c.loop-client.numbered.items fate item c.loop-client.invariant (record { client = refl; call = refl; node = found; becomes = refl }))

pub returns : goal.returns
returns c =
    let gives = c.into_iter-client-iterator.ensures.into_iter_gives in
    let is = c.into_vec-client-items.ensures in
    let all = YieldsList-from_vec {s = c.into_iter-client-iterator.result} c.args.list (gives.0 ∙ is) (gives.1 ∙ c.into_vec-client-items.result.ok.0 ∙ ap length is) in
    let end = YieldsList-end all c.loop-client.yielded c.loop-client.client-iterator c.loop-client.yielded_by c.next.result c.next.new.self c.in-None.is c.next.ensures.steps in
    let whole = sym (map-id c.loop-client.yielded) ∙ end.0 in
    subst (AreNumbered c.args.instances.now c.args.list) (sym c.from_vec.ensures) (subst (λ list. AreNumbered c.args.instances.now list c.loop-client.numbered.items) whole c.loop-client.invariant)
