use Rattle.series_id.proofs.Spelled.{IsBegun}
use Rattle.series_id.proofs.spell.spell.Given as goal

abbrev pub invariant-loop-number : goal.invariant-loop-number
invariant-loop-number l = IsBegun l.tags l.number l.text.items l.before l.fault
