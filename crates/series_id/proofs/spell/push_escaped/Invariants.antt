use Rattle.std.proofs.Common.{◌≡◌, ◌++◌, take}
use Rattle.m3_model.specs.Tags.{escaped}
use Rattle.series_id.proofs.spell.push_escaped.Given as goal

abbrev pub invariant-loop-byte : goal.invariant-loop-byte
invariant-loop-byte l = l.text.items ≡ l.initial.text.items ++ escaped (take l.byte-index l.value)
