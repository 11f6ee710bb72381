-- What a buffer holds: points, and room for one.
use Rattle.std.specs.Prelude.{ℕ, ◌+◌, Option, Bool, ◌&&◌, not, nat_eq, nat_le, nat_lt, refl}
use Rattle.std.specs.Coded.{Coded, code_by, coded×, coded_option}
use Rattle.std.specs.FinMap as map
use Rattle.m3_model.specs.declared.point.Key.{Key}
use Rattle.m3_model.specs.Keys.{key_code}
use Rattle.m3_model.specs.Contents.{Contents, contents_code}
pub use Rattle.retention.specs.Expiry.{has_ended, has_expired}

-- A buffer: its points, and the key at which the next `put` takes no memory.
pub record InMemory : Type 0 where
  pub points : Contents
  pub room : Option Key

abbrev pub held_code : Coded InMemory
held_code = code_by (Contents × Option Key) (coded× contents_code (coded_option key_code)) (λ h. (h.points, h.room)) (λ p. record { points = p.0; room = p.1 }) (λ _. refl)

-- the key is of this namespace and this block
abbrev pub is_in_block : ℕ → ℕ → ℕ → Key → Bool
is_in_block ns start size k = nat_eq ns k.ns && (nat_le start k.t && nat_lt k.t (start + size))

-- the content without the keys that pass the test
abbrev pub without : Contents → (Key → Bool) → Contents
without c test = map.retain_keys c (λ k. not (test k))
