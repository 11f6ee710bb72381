use Rattle.std.proofs.Common.{◌≡◌, ◌++◌}
use Rattle.std.specs.Vec.Iter.{into_iter_items}
use Rattle.m3_model.specs.Members.{IsIn}
use Rattle.held_points.specs.Selected.{IsSelection}
use Rattle.held_points.proofs.ranges.ranges.Given as goal

abbrev pub invariant-loop-id : goal.invariant-loop-id
invariant-loop-id l = record {
  all : l.yielded ++ into_iter_items l.id-iterator ≡ l.fn.ids;
  is : IsSelection l.buffer.points l.ns (IsIn l.yielded) l.from l.to l.all.items;
}
