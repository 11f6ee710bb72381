use Rattle.std.proofs.Common.{sym, ◌∙◌, arith}
use Rattle.series_id.proofs.Orders.{same_text, below_back}
use Rattle.series_id.proofs.spell.added_fault.Goals as goal

pub returns-in-Equal : goal.returns-in-Equal
returns-in-Equal c = (omega arith, c.in_default.ensures, same_text c.args.name.now c.args.before.now (sym c.cmp.ensures ∙ c.in-Equal.is))

pub returns-in-Greater : goal.returns-in-Greater
returns-in-Greater c = (omega arith, c.in_default.ensures, below_back c.args.name.now c.args.before.now (sym c.cmp.ensures ∙ c.in-Greater.is))
