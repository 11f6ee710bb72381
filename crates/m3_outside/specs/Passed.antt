-- The list of bytes that a stream keeps of what passed.
use Rattle.std.specs.Prelude.{ℕ, List, [], ◌∷◌, ◌++◌}
use Rattle.m3_outside.specs.declared.passed.Link.{Link}
use Rattle.m3_outside.specs.declared.passed.Link.TheVariants.{Start, Then}

abbrev pub bytes_of : Link → List ℕ
bytes_of Start = []
bytes_of (Then before last) = before.value ++ last.value ∷ []
