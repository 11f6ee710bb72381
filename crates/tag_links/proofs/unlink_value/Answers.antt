use Rattle.std.proofs.Common.{◌∙◌, ◌&&◌, ap, sym, not, rules, Some, None}
use Rattle.std.specs.Prelude.{nat_eq}
use Rattle.std.specs.HashMap.{get_by_text}
use Rattle.std.proofs.lemmas.Map.Text.{hash_map_updates_text}
use Rattle.tag_links.specs.Links.{is_in}
use Rattle.tag_links.proofs.KeyLemmas.{IsPut, less_there, put_twice, taken_from, none_in}
use Rattle.tag_links.proofs.unlink_value.Goals as goal

pub returns-then-is_empty : goal.returns-then-is_empty
returns-then-is_empty c v o =
    let old = get_by_text c.args.values.now in
    let between = get_by_text (c.get_mut.follows.lender c.remove.new.self) in
    let new = get_by_text c.swap_remove.new.self in
    let first : IsPut c.args.value.now old between (Some c.remove.new.self) = hash_map_updates_text c.args.value.now c.args.values.now (c.get_mut.follows.lender c.remove.new.self) _ ((c.get_mut.follows.holds c.remove.new.self).3 (search rules)) in
    let second : IsPut c.args.value.now between new None = hash_map_updates_text c.args.value.now (c.get_mut.follows.lender c.remove.new.self) c.swap_remove.new.self _ c.swap_remove.ensures.updates in
    less_there c.args.value.now (λ x. is_in x o) old new None (nat_eq c.args.ordinal o) (put_twice c.args.value.now old between new (Some c.remove.new.self) None first second)
    (sym (none_in c.remove.new.self (c.is_empty.ensures.0 c.if-is_empty.true) o)
    ∙ taken_from c.in-Some.ordinals.now c.remove.new.self c.args.ordinal o (c.remove.ensures.updates.0 o)
    ∙ ap (λ x. is_in x o && not (nat_eq c.args.ordinal o)) c.in-Some.ensures.value) v

pub returns-else-is_empty : goal.returns-else-is_empty
returns-else-is_empty c v o =
    let old = get_by_text c.args.values.now in
    let new = get_by_text (c.get_mut.follows.lender c.remove.new.self) in
    let put : IsPut c.args.value.now old new (Some c.remove.new.self) = hash_map_updates_text c.args.value.now c.args.values.now (c.get_mut.follows.lender c.remove.new.self) _ ((c.get_mut.follows.holds c.remove.new.self).3 (search rules)) in
    less_there c.args.value.now (λ x. is_in x o) old new (Some c.remove.new.self) (nat_eq c.args.ordinal o) put
    (taken_from c.in-Some.ordinals.now c.remove.new.self c.args.ordinal o (c.remove.ensures.updates.0 o) ∙ ap (λ x. is_in x o && not (nat_eq c.args.ordinal o)) c.in-Some.ensures.value) v
