use Rattle.std.proofs.Common.{bit_xor, ◌/◌, ◌^◌, refl}
use Rattle.std.proofs.lemmas.Nat.{mul-mod_first}
use Rattle.series_id.proofs.hash.finished.Goals as goal

pub returns : goal.returns
returns c = rw (mul-mod_first (bit_xor c.args.hash (c.args.hash / 2 ^ 16)) 0x85ebca6b (2 ^ 32)) refl
