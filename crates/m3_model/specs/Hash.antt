-- Which shard an identifier belongs to: MurmurHash3_x86_32 of its bytes, modulo the number of shards; M3DB's page "Sharding".
use Rattle.std.specs.Prelude.{ℕ, ◌+◌, ◌-◌, ◌*◌, ◌/◌, ◌%◌, ◌^◌, List, [], ◌∷◌, length, bit_xor}

-- a word of 32 bits, rotated to the left
abbrev pub rotated : ℕ → ℕ → ℕ
rotated word bits = (word * 2 ^ bits) % 2 ^ 32 + word / 2 ^ (32 - bits)

-- what a group of bytes, as a little-endian number, adds to the hash
abbrev pub scrambled : ℕ → ℕ
scrambled group = (rotated ((group * 0xcc9e2d51) % 2 ^ 32) 15 * 0x1b873593) % 2 ^ 32

-- the hash after one more whole group
abbrev pub stirred : ℕ → ℕ → ℕ
stirred hash group = (rotated (bit_xor hash (scrambled group)) 13 * 5 + 0xe6546b64) % 2 ^ 32

-- the hash after all groups of four bytes and the one to three bytes that are left
abbrev pub hash_of_groups : ℕ → List ℕ → ℕ
hash_of_groups hash [] = hash
hash_of_groups hash (a ∷ []) = bit_xor hash (scrambled a)
hash_of_groups hash (a ∷ b ∷ []) = bit_xor hash (scrambled (a + 2 ^ 8 * b))
hash_of_groups hash (a ∷ b ∷ c ∷ []) = bit_xor hash (scrambled (a + 2 ^ 8 * b + 2 ^ 16 * c))
hash_of_groups hash (a ∷ b ∷ c ∷ d ∷ rest) = hash_of_groups (stirred hash (a + 2 ^ 8 * b + 2 ^ 16 * c + 2 ^ 24 * d)) rest

-- a word with its upper bits mixed into its lower ones
abbrev pub folded_down : ℕ → ℕ → ℕ
folded_down word bits = bit_xor word (word / 2 ^ bits)

-- the last mixing
abbrev pub finished : ℕ → ℕ
finished hash = folded_down ((folded_down ((folded_down hash 16 * 0x85ebca6b) % 2 ^ 32) 13 * 0xc2b2ae35) % 2 ^ 32) 16

unfoldable pub murmur3 : List ℕ → ℕ → ℕ
murmur3 bytes seed = finished (bit_xor (hash_of_groups seed bytes) (length bytes))

-- the shard of an identifier
abbrev pub shard_of : List ℕ → ℕ → ℕ → ℕ
shard_of id seed shards = murmur3 id seed % shards
