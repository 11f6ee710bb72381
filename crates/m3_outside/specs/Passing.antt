-- What passes between a program and its streams.
use Rattle.std.specs.Prelude.{ℕ, List, [], take, Result, Ok, Err}

-- the bytes that a read or a write moved: so many of the front of the piece, and none where it failed
abbrev pub passed_front : {E : Type 0} → Result ℕ E → List ℕ → List ℕ
passed_front (Ok n) bytes = take n bytes
passed_front (Err e) bytes = []
