use Rattle.std.proofs.Common.{◌≡◌, ◌++◌, ◌<◌, ◌^◌, map, ℕ}
use Rattle.slab.specs.Slab.{entries}
use Rattle.m3_model.specs.Members.{IsIn}
use Rattle.tag_index.specs.declared.entry.Entry.{Entry}
use Rattle.tag_index.proofs.index.ordinals_of.Given as goal

abbrev pub invariant-loop-key : goal.invariant-loop-key
invariant-loop-key l = record {
  made : l.ordinals.items ++ map (λ (e : ℕ × Entry). e.0) l.key-iterator ≡ map (λ (e : ℕ × Entry). e.0) (entries l.slots);
  small : (x : ℕ × Entry) → IsIn l.key-iterator x → x.0 < 2 ^ 32;
}
