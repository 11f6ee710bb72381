use Rattle.std.proofs.Common.{◌≡◌, ◌-◌, ◌++◌, map, take, drop}
use Rattle.disk_content.proofs.file_bytes.FileBytes.flip.Given as goal

abbrev pub invariant-loop-byte : goal.invariant-loop-byte
invariant-loop-byte l = l.byte-items ≡ map (λ b. 255 - b) (take l.byte-index l.initial.byte-items) ++ drop l.byte-index l.initial.byte-items
