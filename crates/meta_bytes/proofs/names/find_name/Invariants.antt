use Rattle.std.proofs.Common.{◌≡◌, ◌+◌, ◌-◌, ◌≤◌, length, take, drop, true}
use Rattle.std.specs.List.{list_all}
use Rattle.m3_model.specs.Names.{is_name_byte}
use Rattle.wire_bytes.specs.Fields.{IsFault}
use Rattle.wire_bytes.specs.declared.wire_err.WireErr.{WireErr}
use Rattle.meta_bytes.specs.Forms.{Byte, HasForm, Times}
use Rattle.meta_bytes.proofs.names.find_name.Given as goal

abbrev pub invariant-loop-offset : goal.invariant-loop-offset
invariant-loop-offset l = record {
  within : l.offset ≤ length l.bytes;
  name : list_all is_name_byte (take (l.offset - l.at) (drop l.at l.bytes)) ≡ true;
  faults : (e : WireErr) → IsFault (Times (l.at + l.len - l.offset) (HasForm (Byte is_name_byte))) l.bytes l.offset e → IsFault (Times l.len (HasForm (Byte is_name_byte))) l.bytes l.at e;
}
