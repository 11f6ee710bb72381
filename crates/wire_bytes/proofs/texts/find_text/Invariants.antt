use Rattle.std.proofs.Common.{ℕ, List, ◌-◌, ◌≤◌, ◌++◌, ◌↔◌, length, take, IsUtf8}
use Rattle.wire_bytes.specs.Texts.{MayFollow, IsFair, needed}
use Rattle.wire_bytes.proofs.texts.find_text.Given as goal

abbrev pub invariant-loop-i : goal.invariant-loop-i
invariant-loop-i l = record {
  there : l.i ≤ length l.rest;
  fair : IsFair l.due;
  short : needed l.due ≤ l.len - l.i;
  follow : (r : List ℕ) → MayFollow l.due r ↔ IsUtf8 (take l.i l.rest ++ r);
}
