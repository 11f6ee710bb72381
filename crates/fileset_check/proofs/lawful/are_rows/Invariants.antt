use Rattle.std.proofs.Common.{◌↔◌, drop, [], IsUtf8}
use Rattle.fileset_check.specs.Lawful.{AreRows}
use Rattle.fileset_check.proofs.lawful.are_rows.Given as goal

-- whether all series fit is a matter of those that are left
abbrev pub invariant-loop-row : goal.invariant-loop-row
invariant-loop-row l = record {
  text : IsUtf8 l.last;
  left : AreRows l.start l.end l.last (drop l.row-index l.rows) ↔ AreRows l.start l.end [] l.rows;
}
