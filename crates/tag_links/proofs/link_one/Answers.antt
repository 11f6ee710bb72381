use Rattle.std.proofs.Common.{◌∙◌, ◌||◌, ◌&&◌, ap, sym, subst, rules, Some, Bool}
use Rattle.std.specs.Prelude.{nat_eq, string_bytes}
use Rattle.std.specs.HashMap.{get_by_text}
use Rattle.std.specs.Str.{bytes_eq}
use Rattle.std.proofs.lemmas.Map.Text.{hash_map_updates_text}
use Rattle.std.proofs.Math.Bool.{or-false}
use Rattle.tag_links.specs.Links.{is_in, value_at, link_of, is_same, is_linked_in}
use Rattle.tag_links.proofs.KeyLemmas.{IsPut, more_there, same_there, put_same, none_at_all, at_error}
use Rattle.tag_links.proofs.link_one.Goals as goal

pub returns-in_err-link_value-in-Some-clause-err : goal.returns-in_err-link_value-in-Some-clause-err
returns-in_err-link_value-in-Some-clause-err c =
    let key = c.as_str-name.result.now in
    let old = get_by_text c.args.links.now in
    let new = get_by_text (c.get_mut.follows.lender c.link_value.new.values) in
    let put : IsPut key old new (Some c.link_value.new.values) = hash_map_updates_text key c.args.links.now (c.get_mut.follows.lender c.link_value.new.values) _ ((c.get_mut.follows.holds c.link_value.new.values).3 (search rules)) in
    at_error c.from_residual.result
    (λ q. same_there key (λ x. is_in (value_at x q.value) q.ordinal) old new (Some c.link_value.new.values) put
    (c.in_err-link_value-in-Some.ensures.err q.value q.ordinal ∙ ap (λ x. is_in (value_at x q.value) q.ordinal) c.in-Some.ensures.value) q.name)

pub returns-in_ok-link_value-in-Some-clause-ok : goal.returns-in_ok-link_value-in-Some-clause-ok
returns-in_ok-link_value-in-Some-clause-ok c q =
    let key = c.as_str-name.result.now in
    let old = get_by_text c.args.links.now in
    let new = get_by_text (c.get_mut.follows.lender c.link_value.new.values) in
    let put : IsPut key old new (Some c.link_value.new.values) = hash_map_updates_text key c.args.links.now (c.get_mut.follows.lender c.link_value.new.values) _ ((c.get_mut.follows.holds c.link_value.new.values).3 (search rules)) in
    let more : Bool = bytes_eq c.as_str-value.result.now q.value && nat_eq c.args.ordinal q.ordinal in
    more_there key (λ x. is_in (value_at x q.value) q.ordinal) old new (Some c.link_value.new.values) more put
    (c.in_ok-link_value-in-Some.ensures.ok q.value q.ordinal ∙ ap (λ x. is_in (value_at x q.value) q.ordinal || more) c.in-Some.ensures.value) q.name
    ∙ (λ i. is_linked_in c.args.links.now q || (bytes_eq (c.as_str-name.ensures i) q.name && (bytes_eq (c.as_str-value.ensures i) q.value && nat_eq c.args.ordinal q.ordinal)))
    ∙ ap (λ b. is_linked_in c.args.links.now q || b) (sym (or-false (is_same (link_of c.args.ordinal c.args.tag.now) q)))

pub returns-in_ok-insert-in-None-clause-ok : goal.returns-in_ok-insert-in-None-clause-ok
returns-in_ok-insert-in-None-clause-ok c q =
    let key = c.as_str-name.result.now in
    let old = get_by_text c.args.links.now in
    let new = get_by_text c.insert.new.self in
    let values = c.link_value-in-None.new.values in
    let put : IsPut key old new (Some values) =
    subst (λ m. IsPut key (get_by_text m) new (Some values)) c.get_mut.follows.holds-at-none
    (put_same _ _ c.in_ok-key-in-None.ensures.ok _ new _ (hash_map_updates_text (string_bytes c.in_ok-key-in-None.key) c.get_mut.follows.lender-at-none c.insert.new.self _ c.in_ok-insert-in-None.ensures.updates)) in
    let more : Bool = bytes_eq c.as_str-value.result.now q.value && nat_eq c.args.ordinal q.ordinal in
    more_there key (λ x. is_in (value_at x q.value) q.ordinal) old new (Some values) more put
    (c.in_ok-link_value-in-None.ensures.ok q.value q.ordinal
    ∙ ap (λ x. is_in x q.ordinal || more) (none_at_all c.new-values.result c.new-values.ensures.len q.value)
    ∙ ap (λ x. is_in (value_at x q.value) q.ordinal || more) c.in-None.ensures.value) q.name
    ∙ (λ i. is_linked_in c.args.links.now q || (bytes_eq (c.as_str-name.ensures i) q.name && (bytes_eq (c.as_str-value.ensures i) q.value && nat_eq c.args.ordinal q.ordinal)))
    ∙ ap (λ b. is_linked_in c.args.links.now q || b) (sym (or-false (is_same (link_of c.args.ordinal c.args.tag.now) q)))
