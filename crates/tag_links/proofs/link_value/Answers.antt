use Rattle.std.proofs.Common.{◌∙◌, ◌||◌, ap, subst, rules, Some}
use Rattle.std.specs.Prelude.{nat_eq, string_bytes}
use Rattle.std.specs.BTreeMap.{is_at}
use Rattle.std.specs.List.{list_any}
use Rattle.std.specs.Ordering.{nat_cmp}
use Rattle.std.specs.HashMap.{get_by_text}
use Rattle.std.proofs.lemmas.Map.Text.{hash_map_updates_text}
use Rattle.tag_links.specs.Links.{is_in}
use Rattle.tag_links.proofs.KeyLemmas.{IsPut, more_there, same_there, put_same, put_in, none_in, at_error}
use Rattle.tag_links.proofs.link_value.Goals as goal

pub returns-in_err-insert-in-Some-clause-err : goal.returns-in_err-insert-in-Some-clause-err
returns-in_err-insert-in-Some-clause-err c =
    let old = get_by_text c.args.values.now in
    let new = get_by_text (c.get_mut.follows.lender c.insert.new.self) in
    let put : IsPut c.args.value.now old new (Some c.insert.new.self) = hash_map_updates_text c.args.value.now c.args.values.now (c.get_mut.follows.lender c.insert.new.self) _ ((c.get_mut.follows.holds c.insert.new.self).3 (search rules)) in
    at_error c.from_residual.result
    (λ v o. same_there c.args.value.now (λ x. is_in x o) old new (Some c.insert.new.self) put
    (ap (list_any (is_at (nat_cmp o))) c.in_err-insert-in-Some.ensures.err ∙ ap (λ x. is_in x o) c.in-Some.ensures.value) v)

pub returns-in_ok-insert-in-Some-clause-ok : goal.returns-in_ok-insert-in-Some-clause-ok
returns-in_ok-insert-in-Some-clause-ok c v o =
    let old = get_by_text c.args.values.now in
    let new = get_by_text (c.get_mut.follows.lender c.insert.new.self) in
    let put : IsPut c.args.value.now old new (Some c.insert.new.self) = hash_map_updates_text c.args.value.now c.args.values.now (c.get_mut.follows.lender c.insert.new.self) _ ((c.get_mut.follows.holds c.insert.new.self).3 (search rules)) in
    more_there c.args.value.now (λ x. is_in x o) old new (Some c.insert.new.self) (nat_eq c.args.ordinal o) put
    (put_in c.in-Some.ordinals.now c.insert.new.self c.args.ordinal o (c.in_ok-insert-in-Some.ensures.updates.0 o) ∙ ap (λ x. is_in x o || nat_eq c.args.ordinal o) c.in-Some.ensures.value) v

pub returns-in_ok-insert-in-None-2-clause-ok : goal.returns-in_ok-insert-in-None-2-clause-ok
returns-in_ok-insert-in-None-2-clause-ok c v o =
    let old = get_by_text c.args.values.now in
    let new = get_by_text c.insert-in-None-2.new.self in
    let put : IsPut c.args.value.now old new (Some c.insert-in-None.new.self) =
    subst (λ m. IsPut c.args.value.now (get_by_text m) new (Some c.insert-in-None.new.self)) c.get_mut.follows.holds-at-none
    (put_same _ _ c.in_ok-key-in-None.ensures.ok _ new _ (hash_map_updates_text (string_bytes c.in_ok-key-in-None.key) c.get_mut.follows.lender-at-none c.insert-in-None-2.new.self _ c.in_ok-insert-in-None-2.ensures.updates)) in
    more_there c.args.value.now (λ x. is_in x o) old new (Some c.insert-in-None.new.self) (nat_eq c.args.ordinal o) put
    (put_in c.new-ordinals.result c.insert-in-None.new.self c.args.ordinal o (c.in_ok-insert-in-None.ensures.updates.0 o)
    ∙ ap (λ b. b || nat_eq c.args.ordinal o) (none_in c.new-ordinals.result c.new-ordinals.ensures.len o)
    ∙ ap (λ x. is_in x o || nat_eq c.args.ordinal o) c.in-None.ensures.value) v
