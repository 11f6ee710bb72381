use Rattle.std.proofs.Common.{◌*◌, List, ℕ, length, sym, ap, ◌∙◌}
use Rattle.std.specs.List.{list_all}
use Rattle.wire_bytes.specs.Volumes.{bits_of, is_set}
use Rattle.fileset_lookup.proofs.BitLemmas.{bloom_is_filter, bits_are, in_filter, looked, own_set, one_row}
use Rattle.fileset_lookup.proofs.bits.may_hold.Goals as goal

pub returns-then-not-is_filter-clause-rows : goal.returns-then-not-is_filter-clause-rows
returns-then-not-is_filter-clause-rows c = λ rows some few is.
    let filter = bloom_is_filter rows c.args.bits.now some few is in
    let result = c.is_filter.ensures in
    let other = c.if-not-is_filter.true in
    absurd (cc)

pub returns-clause-bits : goal.returns-clause-bits
returns-clause-bits c =
    let bits = c.args.bits.now in
    let id = c.args.id.now in
    looked bits id c.read_u32-count.result c.are_set.result c.read_u32-count.ensures c.are_set.ensures ∙ sym (in_filter bits id (sym c.is_filter.ensures ∙ c.if-not-is_filter.false))

pub returns-clause-rows : goal.returns-clause-rows
returns-clause-rows c = λ rows some few is.
    let bits = c.args.bits.now in
    let id = c.args.id.now in
    looked bits id c.read_u32-count.result c.are_set.result c.read_u32-count.ensures c.are_set.ensures ∙ bits_are rows bits id some few is

pub returns-clause-held : goal.returns-clause-held
returns-clause-held c = λ rows few is s own named.
    let bits = c.args.bits.now in
    let id = c.args.id.now in
    looked bits id c.read_u32-count.result c.are_set.result c.read_u32-count.ensures c.are_set.ensures ∙ bits_are rows bits id (one_row rows s own) few is
    ∙ ap (λ (i : List ℕ). list_all (is_set (16 * length rows) rows) (bits_of (16 * length rows) i)) (sym named) ∙ own_set (16 * length rows) rows s own
