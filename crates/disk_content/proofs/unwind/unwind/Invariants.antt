use Rattle.std.proofs.Common.{◌≡◌, ◌≤◌, length, map, take, drop}
use Rattle.disk_content.specs.Undo.{as_write, unwound}
use Rattle.disk_content.proofs.unwind.unwind.Given as goal

abbrev pub invariant-loop-left : goal.invariant-loop-left
invariant-loop-left l = record {
  within : l.left ≤ length l.entries;
  len : length l.entries ≡ length l.initial.entries;
  rest : take l.left l.entries ≡ take l.left l.initial.entries;
  files : l.files ≡ (unwound (drop l.left l.initial.entries) l.initial.files).files;
  writes : map as_write (drop l.left l.entries) ≡ (unwound (drop l.left l.initial.entries) l.initial.files).writes;
}

abbrev pub decreases-loop-left : goal.decreases-loop-left
decreases-loop-left l = l.left
