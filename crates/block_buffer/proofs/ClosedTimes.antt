-- The last time of the blocks of which no write is taken any more.
use Rattle.std.proofs.Common.{◌≡◌, ℕ, ◌+◌, ◌-◌, ◌*◌, ◌/◌, ◌%◌, ◌<◌, ◌≤◌, refl, sym, Bool, true, false, arith}
use Rattle.std.specs.Prelude.{nat_le}
use Rattle.std.proofs.lemmas.Bool.{leb-true, le-leb}
use Rattle.std.proofs.lemmas.Nat.{div-add-mod', div_below, le-div, mod_below, mul-le}
use Rattle.block_buffer.specs.Blocks.{block_start}

same_test : (a b : Bool) → (a ≡ true → b ≡ true) → (b ≡ true → a ≡ true) → a ≡ b
same_test true b to from = sym (to refl)
same_test false true to from = from refl
same_test false false to from = refl

not_true : (a : Bool) → (a ≡ true → ⊥) → a ≡ false
not_true true h = absurd (h refl)
not_true false h = refl

-- writes are taken for longer than it is
pub none_closed_early : (start block past now : ℕ) → now < past → nat_le (start + block + past) now ≡ false
none_closed_early start block past now early = not_true (nat_le (start + block + past) now) (λ e.
    let le = leb-true (start + block + past) now e in
    omega (arith, le, early))

rising : (a b c : ℕ) → a ≤ b → a * c ≤ b * c
rising a b c le = mul-le a c b c le (itself c)
  where
    itself : (n : ℕ) → n ≤ n
    itself n = omega arith

module _ (block past now t : ℕ) (some : 0 < block) (reached : past ≤ now) where
  abbrev m : ℕ
  m = now - past

  -- the whole blocks up to there end with the last one that is closed
  ends : m - m % block ≡ m / block * block
  ends = let e : m / block * block + m % block ≡ m = div-add-mod' m block in omega (arith, e)

  turned : block_start block t ≡ t / block * block
  turned = grind arith

  up : nat_le (block_start block t + block + past) now ≡ true → t / block < m / block
  up e =
      let le = leb-true (block_start block t + block + past) now e in
      let q : ℕ = t / block in
      let wide : (q + 1) * block ≡ q * block + block = grind arith in
      let is = turned in
      let low : (q + 1) * block ≤ m = omega (arith, le, wide, is, reached) in
      let above = le-div (q + 1) m block some low in
      omega (arith, above)

  down : t / block < m / block → nat_le (block_start block t + block + past) now ≡ true
  down h =
      let q : ℕ = t / block in
      let wide : (q + 1) * block ≡ q * block + block = grind arith in
      let is = turned in
      let no_more : (q + 1) * block ≤ m / block * block = rising (q + 1) (m / block) block (omega (arith, h)) in
      let e : m / block * block + m % block ≡ m = div-add-mod' m block in
      le-leb (block_start block t + block + past) now (omega (arith, no_more, wide, is, e, reached))

  below : t / block < m / block → t < m - m % block
  below h =
      let is = ends in
      let e : t / block * block + t % block ≡ t = div-add-mod' t block in
      let q : ℕ = t / block in
      let wide : (q + 1) * block ≡ q * block + block = grind arith in
      let no_more : (q + 1) * block ≤ m / block * block = rising (q + 1) (m / block) block (omega (arith, h)) in
      let rest : t % block < block = mod_below t block some in
      omega (arith, is, e, wide, no_more, rest)

  before : t < m - m % block → t / block < m / block
  before h = let is = ends in div_below t block (m / block) some (omega (arith, h, is))

  pub none_closed : m - m % block ≡ 0 → nat_le (block_start block t + block + past) now ≡ false
  none_closed none = not_true (nat_le (block_start block t + block + past) now) (λ e. let low = below (up e) in omega (arith, low, none))

  pub closed_up_to : (last : ℕ) → last + 1 ≡ m - m % block → nat_le (block_start block t + block + past) now ≡ nat_le t last
  closed_up_to last is = same_test (nat_le (block_start block t + block + past) now) (nat_le t last) (λ e. let low = below (up e) in le-leb t last (omega (arith, low, is))) (λ e.
      let le = leb-true t last e in
      down (before (omega (arith, le, is))))
