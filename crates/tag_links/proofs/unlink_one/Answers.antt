use Rattle.std.proofs.Common.{◌∙◌, ◌&&◌, ap, sym, not, rules, Some, None, Bool}
use Rattle.std.specs.Prelude.{nat_eq}
use Rattle.std.specs.HashMap.{get_by_text}
use Rattle.std.specs.Str.{bytes_eq}
use Rattle.std.proofs.lemmas.Map.Text.{hash_map_updates_text}
use Rattle.std.proofs.Math.Bool.{or-false}
use Rattle.tag_links.specs.Links.{is_in, value_at, link_of, is_same, is_linked_in}
use Rattle.tag_links.proofs.KeyLemmas.{IsPut, less_there, put_twice, none_at_all}
use Rattle.tag_links.proofs.unlink_one.Goals as goal

pub returns-then-is_empty : goal.returns-then-is_empty
returns-then-is_empty c q =
    let key = c.as_str-name.result.now in
    let old = get_by_text c.args.links.now in
    let between = get_by_text (c.get_mut.follows.lender c.unlink_value.new.values) in
    let new = get_by_text c.swap_remove.new.self in
    let first : IsPut key old between (Some c.unlink_value.new.values) = hash_map_updates_text key c.args.links.now (c.get_mut.follows.lender c.unlink_value.new.values) _ ((c.get_mut.follows.holds c.unlink_value.new.values).3 (search rules)) in
    let second : IsPut key between new None = hash_map_updates_text key (c.get_mut.follows.lender c.unlink_value.new.values) c.swap_remove.new.self _ c.swap_remove.ensures.updates in
    let less : Bool = bytes_eq c.as_str-value.result.now q.value && nat_eq c.args.ordinal q.ordinal in
    less_there key (λ x. is_in (value_at x q.value) q.ordinal) old new None less (put_twice key old between new (Some c.unlink_value.new.values) None first second)
    (sym (ap (λ x. is_in x q.ordinal) (none_at_all c.unlink_value.new.values (c.is_empty.ensures.0 c.if-is_empty.true) q.value))
    ∙ c.unlink_value.ensures q.value q.ordinal
    ∙ ap (λ x. is_in (value_at x q.value) q.ordinal && not less) c.in-Some.ensures.value) q.name
    ∙ (λ i. is_linked_in c.args.links.now q && not (bytes_eq (c.as_str-name.ensures i) q.name && (bytes_eq (c.as_str-value.ensures i) q.value && nat_eq c.args.ordinal q.ordinal)))
    ∙ ap (λ b. is_linked_in c.args.links.now q && not b) (sym (or-false (is_same (link_of c.args.ordinal c.args.tag.now) q)))

pub returns-else-is_empty : goal.returns-else-is_empty
returns-else-is_empty c q =
    let key = c.as_str-name.result.now in
    let old = get_by_text c.args.links.now in
    let new = get_by_text (c.get_mut.follows.lender c.unlink_value.new.values) in
    let put : IsPut key old new (Some c.unlink_value.new.values) = hash_map_updates_text key c.args.links.now (c.get_mut.follows.lender c.unlink_value.new.values) _ ((c.get_mut.follows.holds c.unlink_value.new.values).3 (search rules)) in
    let less : Bool = bytes_eq c.as_str-value.result.now q.value && nat_eq c.args.ordinal q.ordinal in
    less_there key (λ x. is_in (value_at x q.value) q.ordinal) old new (Some c.unlink_value.new.values) less put
    (c.unlink_value.ensures q.value q.ordinal ∙ ap (λ x. is_in (value_at x q.value) q.ordinal && not less) c.in-Some.ensures.value) q.name
    ∙ (λ i. is_linked_in c.args.links.now q && not (bytes_eq (c.as_str-name.ensures i) q.name && (bytes_eq (c.as_str-value.ensures i) q.value && nat_eq c.args.ordinal q.ordinal)))
    ∙ ap (λ b. is_linked_in c.args.links.now q && not b) (sym (or-false (is_same (link_of c.args.ordinal c.args.tag.now) q)))
