use Rattle.std.proofs.Common.{List, ℕ, take, drop, sym, ◌∙◌}
use Rattle.series_id.specs.Names.{BeginsWithName}
use Rattle.series_id.proofs.Names.{name_within, begins_with_name}
use Rattle.series_id.proofs.scan.split_name.Goals as goal

pub split_at-requires : goal.split_at-requires
split_at-requires c = name_within c.args.text.now c.name_len.result c.name_len.ensures.exact

pub returns-in-len1-up : goal.returns-in-len1-up
returns-in-len1-up c =
    let text : List ℕ = c.args.text.now in
    let n : ℕ = c.name_len.result in
    let found : BeginsWithName text (take n text) (drop n text) = begins_with_name text c.in-len1-up.len_at_least (sym c.is_first_byte.ensures ∙ c.if-is_first_byte.true) n c.name_len.ensures.exact in
    rw (c.split_at.ensures.front, c.split_at.ensures.back) found
