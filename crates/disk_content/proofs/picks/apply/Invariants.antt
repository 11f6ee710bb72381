use Rattle.std.proofs.Common.{◌≡◌, map, drop}
use Rattle.disk_content.specs.Contents.{AllFit}
use Rattle.disk_content.specs.Undo.{as_write}
use Rattle.disk_content.specs.Picks.{picked_files}
use Rattle.disk_content.proofs.picks.apply.Given as goal

abbrev pub invariant-loop-entry : goal.invariant-loop-entry
invariant-loop-entry l = record {
  rest : drop l.entry-index l.entries ≡ drop l.entry-index l.initial.entries;
  fit : AllFit (map as_write (drop l.entry-index l.initial.entries)) l.files;
  same : picked_files l.digits (map as_write (drop l.entry-index l.initial.entries)) l.files ≡ picked_files l.pick (map as_write l.initial.entries) l.initial.files;
}
