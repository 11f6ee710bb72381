-- How many keys a tick takes from the content, one namespace after the other.
use Rattle.std.proofs.Common.{◌≡◌, ◌⊎◌, inl, inr, ⊎_elim, ℕ, zero, suc, ◌+◌, ◌<◌, ◌≤◌, List, [], ◌∷◌, length, refl, sym, ap, ◌∙◌, arith, Bool, true, false, not, ◌&&◌, Some, None, Option}
use Rattle.std.specs.Prelude.{◌↔◌, IsTrue, nat_eq, nat_le, nat_lt, slice_get}
use Rattle.std.specs.FinMap.{len, retain_keys}
use Rattle.std.proofs.lemmas.Bool.{eqb-true, eq-eqb, le-leb, ltb-true, lt-ltb}
use Rattle.m3_model.specs.Contents.{Contents, key_of}
use Rattle.m3_model.specs.declared.point.Key.{Key}
use Rattle.m3_model.specs.declared.point.Point.{Point}
use Rattle.m3_model.specs.declared.rules.Rules.{Rules}
use Rattle.m3_model.specs.declared.rules.Space.{Space}
use Rattle.store_log.specs.listed_volumes.block_buffer.Held.{has_ended, has_expired, is_in_block, without}
use Rattle.store_log.proofs.listed_volumes_proofs.shard_files_proofs.CountedLemmas.{both}
use Rattle.shard_store.specs.Ticks.{expired_in, keys_in}
use Rattle.shard_store.proofs.CountLemmas.{len_parts}
use Rattle.shard_store.proofs.PointLemmas.{has_fewer, has_holds, has_kept, has_untested, fewer_has, kept_has, same_by_points}

-- expired, in one of the first so many namespaces
abbrev pub is_gone : Rules → ℕ → Key → Bool
is_gone rules n k = nat_lt k.ns n && has_expired rules k

-- keys with the same answers to two tests are left out alike
without_alike : (c : Contents) (s t : Key → Bool) → ((k : Key) → s k ≡ t k) → without c s ≡ without c t
without_alike c s t same = same_by_points (without c s) (without c t)
    (λ p h. has_holds (without c t) p (fewer_has c t p (has_fewer c s p h) (sym (same (key_of p)) ∙ has_untested c s p h)))
    (λ p h. has_holds (without c s) p (fewer_has c s p (has_fewer c t p h) (same (key_of p) ∙ has_untested c t p h)))

module _ (rules : Rules) (n : ℕ) (space : Space) (stands : slice_get rules.spaces n ≡ Some space) (end : ℕ) (ends : (t : ℕ) → IsTrue (expired_in space.retention rules.now t) ↔ (t < end)) where
  abbrev here : Key → Bool
  here = is_in_block n 0 end

  -- a key of this namespace has expired where it is below the end
  pub here_expired : (k : Key) → here k ≡ true → (k.ns ≡ n) × (has_expired rules k ≡ true)
  here_expired k t =
      let outer = both (nat_eq n k.ns) (nat_le 0 k.t && nat_lt k.t (0 + end)) t in
      let inner = both (nat_le 0 k.t) (nat_lt k.t (0 + end)) outer.1 in
      let space_is : n ≡ k.ns = eqb-true n k.ns outer.0 in
      let under = ltb-true k.t (0 + end) inner.1 in
      let low : k.t < end = omega (arith, under) in
      (sym space_is, ap (λ m. has_ended (slice_get rules.spaces m) rules.now k.t) (sym space_is) ∙ ap (λ o. has_ended o rules.now k.t) stands ∙ (ends k.t).1 low)

  expired_here : (k : Key) → k.ns ≡ n → has_expired rules k ≡ true → here k ≡ true
  expired_here k e t =
      let test : expired_in space.retention rules.now k.t ≡ true = sym (ap (λ m. has_ended (slice_get rules.spaces m) rules.now k.t) e ∙ ap (λ o. has_ended o rules.now k.t) stands) ∙ t in
      let low : k.t < end = (ends k.t).0 test in
      let a : nat_eq n k.ns ≡ true = eq-eqb n k.ns (sym e) in
      let b : nat_le 0 k.t ≡ true = le-leb 0 k.t (omega arith) in
      let c : nat_lt k.t (0 + end) ≡ true = lt-ltb k.t (0 + end) (omega (arith, low)) in
      cc

  lt_test : (a b : ℕ) → a < b → nat_lt a b ≡ true
  lt_test a b lt = lt-ltb a b lt

  -- those of this namespace and of the ones before it are those of the first n + 1
  step_test : (k : Key) (a b c d : Bool) → nat_lt k.ns n ≡ a → nat_lt k.ns (n + 1) ≡ b → has_expired rules k ≡ c → here k ≡ d → (not (a && c) ≡ true) × (not d ≡ true) → (b && c) ≡ false
  step_test k a true true d e f g h none = ⊎_elim
      (λ (lt : k.ns < n). let before : a ≡ true = sym e ∙ lt_test k.ns n lt in let bad : not (true && true) ≡ true = ap (λ x. not (x && true)) (sym before) ∙ none.0 in absurd (cc))
      (λ (same : k.ns ≡ n). let at : d ≡ true = sym h ∙ expired_here k same g in let bad : not true ≡ true = ap not (sym at) ∙ none.1 in absurd (cc))
      (split (ltb-true k.ns (n + 1) f))
    where
      split : k.ns < n + 1 → (k.ns < n) ⊎ (k.ns ≡ n)
      split lt = by (nat_lt k.ns n) refl
        where
          by : (b : Bool) → nat_lt k.ns n ≡ b → (k.ns < n) ⊎ (k.ns ≡ n)
          by true t = inl (ltb-true k.ns n t)
          by false t = inr (grind (arith, lt, t))
  step_test k a false c d e f g h none = refl
  step_test k a true false d e f g h none = refl

  back_test : (k : Key) → is_gone rules (n + 1) k ≡ false → (is_gone rules n k ≡ false) × (here k ≡ false)
  back_test k none = (first (is_gone rules n k) refl, second (here k) refl)
    where
      later : (nat_lt k.ns (n + 1) ≡ true) → has_expired rules k ≡ true → ⊥
      later lt t = let bad : true ≡ false = sym (λ i. lt i && t i) ∙ none in cc

      first : (b : Bool) → is_gone rules n k ≡ b → b ≡ false
      first false e = refl
      first true e =
          let parts = both (nat_lt k.ns n) (has_expired rules k) e in
          let low = ltb-true k.ns n parts.0 in
          absurd (later (lt_test k.ns (n + 1) (omega (arith, low))) parts.1)

      second : (b : Bool) → here k ≡ b → b ≡ false
      second false e = refl
      second true e = let at = here_expired k e in absurd (later (lt_test k.ns (n + 1) (omega (arith, at.0))) at.1)

  pub step_without : (c : Contents) → without (without c (is_gone rules n)) here ≡ without c (is_gone rules (n + 1))
  step_without c = same_by_points _ _
      (λ p h.
      let outside = has_untested (without c (is_gone rules n)) here p h in
      let rest = has_fewer (without c (is_gone rules n)) here p h in
      let before = has_untested c (is_gone rules n) p rest in
      has_holds (without c (is_gone rules (n + 1))) p (fewer_has c (is_gone rules (n + 1)) p (has_fewer c (is_gone rules n) p rest)
      (step_test (key_of p) (nat_lt p.ns n) (nat_lt p.ns (n + 1)) (has_expired rules (key_of p)) (here (key_of p)) refl refl refl refl (ap not before, ap not outside))))
      (λ p h.
      let none = back_test (key_of p) (has_untested c (is_gone rules (n + 1)) p h) in
      has_holds (without (without c (is_gone rules n)) here) p (fewer_has (without c (is_gone rules n)) here p (fewer_has c (is_gone rules n) p (has_fewer c (is_gone rules (n + 1)) p h) none.0) none.1))

  pub step_kept : (c : Contents) → retain_keys (without c (is_gone rules n)) here ≡ retain_keys c here
  step_kept c = same_by_points _ _
      (λ p h. let k = has_kept (without c (is_gone rules n)) here p h in has_holds (retain_keys c here) p (kept_has c here p (has_fewer c (is_gone rules n) p k.0) k.1))
      (λ p h.
      let k = has_kept c here p h in
      let at = here_expired (key_of p) k.1 in
      has_holds (retain_keys (without c (is_gone rules n)) here) p (kept_has (without c (is_gone rules n)) here p (fewer_has c (is_gone rules n) p k.0 (not_before p at.0)) k.1))
    where
      not_before : (p : Point) → p.ns ≡ n → is_gone rules n (key_of p) ≡ false
      not_before p e = by (nat_lt p.ns n) refl
        where
          by : (b : Bool) → nat_lt p.ns n ≡ b → (b && has_expired rules (key_of p)) ≡ false
          by false t = refl
          by true t = let low = ltb-true p.ns n t in absurd (omega (arith, low, e))

  pub step_len : (c : Contents) → len (without c (is_gone rules (n + 1))) + keys_in c n end ≡ len (without c (is_gone rules n))
  step_len c =
      let parts = len_parts (without c (is_gone rules n)) here in
      let a = ap len (step_without c) in
      let b = ap len (step_kept c) in
      omega (arith, parts, a, b)

-- none before the first namespace
pub first_len : (rules : Rules) (c : Contents) → len (without c (is_gone rules 0)) ≡ len c
first_len rules c = ap len (same_by_points (without c (is_gone rules 0)) c (λ p h. has_holds c p (has_fewer c (is_gone rules 0) p h)) (λ p h. has_holds (without c (is_gone rules 0)) p (fewer_has c (is_gone rules 0) p h (none p (nat_lt p.ns 0) refl))))
  where
    none : (p : Point) (b : Bool) → nat_lt p.ns 0 ≡ b → (b && has_expired rules (key_of p)) ≡ false
    none p false t = refl
    none p true t = let low = ltb-true p.ns 0 t in absurd (omega (arith, low))

-- all that have expired are gone behind the last namespace
pub last_without : (rules : Rules) (n : ℕ) (c : Contents) → length rules.spaces ≤ n → without c (is_gone rules n) ≡ without c (has_expired rules)
last_without rules n c le = without_alike c (is_gone rules n) (has_expired rules) (λ k. by k (has_expired rules k) refl)
  where
    below : (k : Key) (o : Option Space) → slice_get rules.spaces k.ns ≡ o → has_ended o rules.now k.t ≡ true → k.ns < length rules.spaces
    below k None e t = absurd (cc)
    below k (Some s) e t = there rules.spaces k.ns s e
      where
        there : (xs : List Space) (i : ℕ) (s : Space) → slice_get xs i ≡ Some s → i < length xs
        there [] i s e = absurd (cc)
        there (x ∷ xs) zero s e = omega arith
        there (x ∷ xs) (suc i) s e = let rest = there xs i s e in omega (arith, rest)

    by : (k : Key) (b : Bool) → has_expired rules k ≡ b → (nat_lt k.ns n && has_expired rules k) ≡ has_expired rules k
    by k true t = let low = below k (slice_get rules.spaces k.ns) refl t in ap (λ b. b && has_expired rules k) (lt-ltb k.ns n (omega (arith, low, le)))
    by k false t = by_other (nat_lt k.ns n)
      where
        by_other : (b : Bool) → (b && has_expired rules k) ≡ has_expired rules k
        by_other true = refl
        by_other false = sym t
