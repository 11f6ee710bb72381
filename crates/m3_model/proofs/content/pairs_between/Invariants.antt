use Rattle.std.proofs.Common.{◌≡◌, map, ◌++◌}
use Rattle.std.specs.BTreeMap.Range.{entries_between}
use Rattle.std.specs.declared.ops.Bound.TheVariants.{Included, Excluded}
use Rattle.m3_model.specs.Keys.{key_cmp}
use Rattle.m3_model.specs.Contents.{timed}
use Rattle.m3_model.proofs.content.pairs_between.Given as goal

abbrev pub invariant-loop-key : goal.invariant-loop-key
invariant-loop-key l = l.pairs.items ++ map timed l.key-iterator ≡ map timed (entries_between key_cmp (Included l.fn.low) (Excluded l.fn.high) l.entries.entries)
