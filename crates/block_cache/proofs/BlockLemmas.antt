-- Blocks found after each call.
use Rattle.std.proofs.Common.{◌≡◌, ℕ, suc, zero, List, [], ◌∷◌, Bool, true, false, Option, Some, None, take, get_or, cond, refl, sym, ap, ◌∙◌, inl, inr, ◌⊎◌, All, Contains}
use Rattle.std.specs.Cmp.{IsEquivalence, and_equiv, on_equiv, nat_eq_equiv}
use Rattle.std.specs.Map.{lookup, lookup_entry, remove_entry}
use Rattle.std.specs.Option.{option_map_or}
use Rattle.std.proofs.lemmas.Bool.{eqb-true, and_parts, cases_Bool}
use Rattle.std.proofs.lemmas.List.Elements.{All-contains, All-contains_itself}
use Rattle.lru.specs.LruCache.{lru_cache}
use Rattle.lru.proofs.CallerLemmas.{Contains-lookup_entry, Contains-remove_entry, Contains-promoted, Contains-put_entries}
use Rattle.m3_model.specs.declared.point.Series.{Series}
use Rattle.block_cache.specs.Blocks.{Blocks, BlockKey, same_block, after_get, after_put, after_forget}

pub same_true : (a b : BlockKey) → same_block a b ≡ true → a ≡ b
same_true a b h =
    let both = and_parts _ _ h in
    let first = and_parts _ _ both.0 in
    let ns : a.0 ≡ b.0 = eqb-true a.0 b.0 first.0 in
    let start : a.1 ≡ b.1 = eqb-true a.1 b.1 first.1 in
    let number : a.2 ≡ b.2 = eqb-true a.2 b.2 both.1 in
    ap (λ (n : ℕ). let k : BlockKey = (n, a.1, a.2) in k) ns ∙ ap (λ (n : ℕ). let k : BlockKey = (b.0, n, a.2) in k) start ∙ ap (λ (n : ℕ). let k : BlockKey = (b.0, b.1, n) in k) number

pub same_equiv : IsEquivalence same_block
same_equiv = and_equiv (and_equiv (on_equiv (λ (t : BlockKey). t.0) nat_eq_equiv) (on_equiv (λ (t : BlockKey). t.1) nat_eq_equiv)) (on_equiv (λ (t : BlockKey). t.2) nat_eq_equiv)

-- a block that isn't the key isn't at an entry of the key
not_there : (key other : BlockKey) (e : BlockKey × List Series) → same_block other key ≡ false → same_block key e.0 ≡ true → same_block other e.0 ≡ false
not_there key other e apart t = ap (same_block other) (sym (same_true key e.0 t)) ∙ apart

skips : (other : BlockKey) (e : BlockKey × List Series) (es : List (BlockKey × List Series)) → same_block other e.0 ≡ false → lookup (same_block other) (e ∷ es) ≡ lookup (same_block other) es
skips other e es h = ap (λ b. cond b (Some e.1) (lookup (same_block other) es)) h

pub lookup_without : (key other : BlockKey) (es : List (BlockKey × List Series)) → same_block other key ≡ false → lookup (same_block other) (remove_entry (same_block key) es) ≡ lookup (same_block other) es
lookup_without key other [] apart = refl
lookup_without key other (e ∷ es) apart =
    elim (cases_Bool (same_block key e.0)) as (λ _. lookup (same_block other) (remove_entry (same_block key) (e ∷ es)) ≡ lookup (same_block other) (e ∷ es)) [
      | inl t ↦ ap (λ b. lookup (same_block other) (cond b es (e ∷ remove_entry (same_block key) es))) t ∙ sym (skips other e es (not_there key other e apart t))
      | inr f ↦ ap (λ b. lookup (same_block other) (cond b es (e ∷ remove_entry (same_block key) es))) f
          ∙ ap (λ (o : Option (List Series)). cond (same_block other e.0) (Some e.1) o) (lookup_without key other es apart)
    ]

pub lookup_first : (key other : BlockKey) (es : List (BlockKey × List Series)) (o : Option (BlockKey × List Series)) → lookup_entry (same_block key) es ≡ o → same_block other key ≡ false
    → lookup (same_block other) (option_map_or (λ e. e ∷ remove_entry (same_block key) es) o es) ≡ lookup (same_block other) es
lookup_first key other es None h apart = refl
lookup_first key other es (Some f) h apart =
    skips other f (remove_entry (same_block key) es) (not_there key other f apart (Contains-lookup_entry (same_block key) es f h).1) ∙ lookup_without key other es apart

lookup_take : (test : BlockKey → Bool) (n : ℕ) (es : List (BlockKey × List Series)) → (lookup test (take n es) ≡ lookup test es) ⊎ (lookup test (take n es) ≡ None)
lookup_take test zero es = inr refl
lookup_take test (suc n) [] = inl refl
lookup_take test (suc n) (e ∷ es) =
    elim (cases_Bool (test e.0)) as (λ _. (lookup test (take (suc n) (e ∷ es)) ≡ lookup test (e ∷ es)) ⊎ (lookup test (take (suc n) (e ∷ es)) ≡ None)) [
      | inl t ↦ inl (ap (λ b. cond b (Some e.1) (lookup test (take n es))) t ∙ sym (ap (λ b. cond b (Some e.1) (lookup test es)) t))
      | inr f ↦ elim (lookup_take test n es) as (λ _. (lookup test (take (suc n) (e ∷ es)) ≡ lookup test (e ∷ es)) ⊎ (lookup test (take (suc n) (e ∷ es)) ≡ None)) [
        | inl same ↦ inl (ap (λ (o : Option (List Series)). cond (test e.0) (Some e.1) o) same)
        | inr none ↦ inr (ap (λ b. cond b (Some e.1) (lookup test (take n es))) f ∙ none)
      ]
    ]

pub lookup_put : (key other : BlockKey) (rows : List Series) (n : ℕ) (es : List (BlockKey × List Series)) (o : Option (BlockKey × List Series)) → lookup_entry (same_block key) es ≡ o → same_block other key ≡ false
    → let later = lookup (same_block other) (option_map_or (λ e. (e.0, rows) ∷ remove_entry (same_block key) es) o ((key, rows) ∷ take n es)) in (later ≡ lookup (same_block other) es) ⊎ (later ≡ None)
lookup_put key other rows n es None h apart =
    elim (lookup_take (same_block other) n es) as (λ _. (lookup (same_block other) ((key, rows) ∷ take n es) ≡ lookup (same_block other) es) ⊎ (lookup (same_block other) ((key, rows) ∷ take n es) ≡ None)) [
      | inl same ↦ inl (skips other (key, rows) (take n es) apart ∙ same)
      | inr none ↦ inr (skips other (key, rows) (take n es) apart ∙ none)
    ]
lookup_put key other rows n es (Some f) h apart =
    inl (skips other (f.0, rows) (remove_entry (same_block key) es) (not_there key other f apart (Contains-lookup_entry (same_block key) es f h).1) ∙ lookup_without key other es apart)

pub none_there : (test : BlockKey → Bool) (es : List (BlockKey × List Series)) → lookup test es ≡ None → lookup_entry test es ≡ None
none_there test [] h = refl
none_there test (e ∷ es) h =
    elim (cases_Bool (test e.0)) as (λ _. lookup_entry test (e ∷ es) ≡ None) [
      | inl t ↦ let found : Some e.1 ≡ None = sym (ap (λ b. cond b (Some e.1) (lookup test es)) t) ∙ h in cc
      | inr f ↦ ap (λ b. cond b (Some e) (lookup_entry test es)) f ∙ none_there test es (sym (ap (λ b. cond b (Some e.1) (lookup test es)) f) ∙ h)
    ]

All-by : {X : Type 0} (P : X → Type 0) (xs : List X) → ((x : X) → Contains xs x → P x) → All P xs
All-by P xs each k d lt = each (get_or xs k d) (All-contains_itself xs k d lt)

-- what each call leaves was there, or was put
pub got_before : (p : BlockKey × List Series → Bool) (key : BlockKey) (b : Blocks) → All (λ e. p e ≡ true) b.held → All (λ e. p e ≡ true) (after_get key b).held
got_before p key b all = All-by (λ e. p e ≡ true) (after_get key b).held (λ e in_it. All-contains (λ e. p e ≡ true) b.held e all (Contains-promoted (same_block key) b.held e in_it))

pub forgotten_before : (p : BlockKey × List Series → Bool) (key : BlockKey) (b : Blocks) → All (λ e. p e ≡ true) b.held → All (λ e. p e ≡ true) (after_forget key b).held
forgotten_before p key b all = All-by (λ e. p e ≡ true) (after_forget key b).held (λ e in_it. All-contains (λ e. p e ≡ true) b.held e all (Contains-remove_entry (same_block key) b.held e in_it))

pub put_before : (p : BlockKey × List Series → Bool) (key : BlockKey) (rows : List Series) (b : Blocks) → All (λ e. p e ≡ true) b.held → p (key, rows) ≡ true → All (λ e. p e ≡ true) (after_put key rows b).held
put_before p key rows b all here =
    All-by (λ e. p e ≡ true) (after_put key rows b).held (λ e in_it. elim (Contains-put_entries same_block (lru_cache b.held b.most) key rows e in_it) as (λ _. p e ≡ true) [
      | inl there ↦ All-contains (λ e. p e ≡ true) b.held e all there
      | inr put ↦ ap (λ (v : List Series). p (e.0, v)) put.0 ∙ ap (λ (k : BlockKey). p (k, rows)) (own_key e put.1) ∙ here
    ])
  where
    own_key : (e : BlockKey × List Series) → (e.0 ≡ key) ⊎ ((w : List Series) × Contains b.held (e.0, w) × (same_block key e.0 ≡ true)) → e.0 ≡ key
    own_key e (inl same) = same
    own_key e (inr there) = sym (same_true key e.0 there.2)
