-- Lists of volumes that a store knows: one more in its place, and some taken off.
use Rattle.std.proofs.Common.{◌≡◌, inl, inr, ℕ, zero, suc, ◌+◌, ◌<◌, ◌≤◌, List, [], ◌∷◌, ◌++◌, length, take, drop, get_or, map, refl, sym, ap, subst, ◌∙◌, append_assoc, arith, Bool, true, false, cond, Result, Ok, Err}
use Rattle.std.specs.Prelude.{⊤, filter, insert, is_ok, IsOk}
use Rattle.std.specs.Ordering.{is_lt}
use Rattle.std.proofs.lemmas.List.{drop_more, take_all, drop_all}
use Rattle.m3_model.specs.Members.{IsIn}
use Rattle.m3_model.specs.declared.point.Series.{Series}
use Rattle.store_log.specs.listed_volumes.wire_bytes.Volumes.{VolumeHead}
use Rattle.store_log.specs.listed_volumes.volume_bytes.declared.heads.Head.{Head}
use Rattle.store_log.specs.listed_volumes.volume_bytes.Heads.{head_of}
use Rattle.store_log.specs.listed_volumes.shard_files.Parts.{KnownVolume}
use Rattle.store_log.specs.snapshot_steps.volume_steps.KnownLists.{head_cmp, volume_of, with_volume}
use Rattle.store_log.specs.listed_volumes.Listed.{known_as, known_in}
use Rattle.store_log.specs.listed_volumes.declared.volume.ListedVolume.{ListedVolume}
use Rattle.shard_store.proofs.ListLemmas.{map_append, map_more}

-- the rest of the list begins with the next volume
next_is : (vs : List ListedVolume) (i : ℕ) (v : ListedVolume) → i < length vs → v ≡ get_or vs i v → drop i vs ≡ v ∷ drop (i + 1) vs
next_is vs i v lt is = drop_more vs i v lt ∙ ap (λ (x : ListedVolume). x ∷ drop (i + 1) vs) (sym is)

place_by : (k j : KnownVolume) (ks : List KnownVolume) (b : Bool) → is_lt (head_cmp j.head k.head) ≡ b → with_volume k (j ∷ ks) ≡ cond b (j ∷ with_volume k ks) (k ∷ j ∷ ks)
place_by k j ks b is = ap (λ c. cond c (j ∷ with_volume k ks) (k ∷ j ∷ ks)) is

module _ (k : KnownVolume) (vs : List ListedVolume) (i : ℕ) where
  -- the volume comes behind the next one
  pub with_next : (v : ListedVolume) → i < length vs → v ≡ get_or vs i v → is_lt (head_cmp (known_as v).head k.head) ≡ true → with_volume k (known_in vs) ≡ known_in (take i vs) ++ with_volume k (known_in (drop i vs))
      → with_volume k (known_in vs) ≡ known_in (take (i + 1) vs) ++ with_volume k (known_in (drop (i + 1) vs))
  with_next v lt is before so_far =
      let rest = known_in (drop (i + 1) vs) in
      so_far ∙ ap (λ l. known_in (take i vs) ++ with_volume k (known_in l)) (next_is vs i v lt is) ∙ ap (λ l. known_in (take i vs) ++ l) (place_by k (known_as v) rest true before)
      ∙ sym (append_assoc (known_in (take i vs)) (known_as v ∷ []) (with_volume k rest)) ∙ ap (λ l. l ++ with_volume k rest) (sym (map_more known_as vs i v lt is))

  -- it comes here, before the next one
  pub with_here : (v : ListedVolume) → i < length vs → v ≡ get_or vs i v → is_lt (head_cmp (known_as v).head k.head) ≡ false → with_volume k (known_in vs) ≡ known_in (take i vs) ++ with_volume k (known_in (drop i vs))
      → known_in (take i vs) ++ (k ∷ known_in (drop i vs)) ≡ with_volume k (known_in vs)
  with_here v lt is before so_far =
      let rest = known_in (drop (i + 1) vs) in
      sym (so_far ∙ ap (λ l. known_in (take i vs) ++ with_volume k (known_in l)) (next_is vs i v lt is) ∙ ap (λ l. known_in (take i vs) ++ l) (place_by k (known_as v) rest false before)
      ∙ ap (λ l. known_in (take i vs) ++ (k ∷ known_in l)) (sym (next_is vs i v lt is)))

  -- it comes last
  pub with_last : length vs ≤ i → with_volume k (known_in vs) ≡ known_in (take i vs) ++ with_volume k (known_in (drop i vs)) → known_in (take (length vs) vs) ++ (k ∷ known_in (drop (length vs) vs)) ≡ with_volume k (known_in vs)
  with_last le so_far =
      sym (so_far ∙ ap (λ l. known_in l ++ with_volume k (known_in (drop i vs))) (take_all i vs le ∙ sym (take_all (length vs) vs (omega arith))) ∙ ap (λ l. known_in (take (length vs) vs) ++ with_volume k (known_in l)) (drop_all i vs le)
      ∙ ap (λ l. known_in (take (length vs) vs) ++ (k ∷ known_in l)) (sym (drop_all (length vs) vs (omega arith))))

-- a volume that was added where there was room
pub added : {E : Type 0} (xs ys : List ListedVolume) (i : ℕ) (v : ListedVolume) (r : Result ⊤ E) (ks : List KnownVolume) → IsOk r → ys ≡ cond (is_ok r) (insert xs i v) xs → known_in (take i xs) ++ (known_as v ∷ known_in (drop i xs)) ≡ ks → known_in ys ≡ ks
added xs ys i v (Ok u) ks ok is place = ap known_in is ∙ map_append known_as (take i xs) (v ∷ drop i xs) ∙ place
added xs ys i v (Err e) ks ok is place = absurd (cc)

-- the known ones of those that pass a test are those of the known ones that do
pub filter_known : (test : KnownVolume → Bool) (vs : List ListedVolume) → known_in (filter (λ v. test (known_as v)) vs) ≡ filter test (known_in vs)
filter_known test [] = refl
filter_known test (v ∷ vs) = by (test (known_as v)) (filter_known test vs)
  where
    by : (b : Bool) → known_in (filter (λ w. test (known_as w)) vs) ≡ filter test (known_in vs) → known_in (cond b (v ∷ filter (λ w. test (known_as w)) vs) (filter (λ w. test (known_as w)) vs)) ≡ cond b (known_as v ∷ filter test (known_in vs)) (filter test (known_in vs))
    by true later = ap (λ l. known_as v ∷ l) later
    by false later = later

-- ---- heads

heads_known : (vs : List ListedVolume) → map head_of (map (λ v. v.head) vs) ≡ map (λ k. k.head) (known_in vs)
heads_known [] = refl
heads_known (v ∷ vs) = ap (λ l. head_of v.head ∷ l) (heads_known vs)

filter_heads : (test : VolumeHead → Bool) (heads : List Head) (known : List KnownVolume) → map (λ k. k.head) known ≡ map head_of heads
    → map (λ k. k.head) (filter (λ k. test k.head) known) ≡ map head_of (filter (λ h. test (head_of h)) heads)
filter_heads test [] [] e = refl
filter_heads test [] (k ∷ known) e = cc
filter_heads test (h ∷ heads) [] e = cc
filter_heads test (h ∷ heads) (k ∷ known) e =
    let first : k.head ≡ head_of h = cc in
    let rest : map (λ (j : KnownVolume). j.head) known ≡ map head_of heads = cc in
    by (test k.head) (test (head_of h)) (ap test first) first (filter_heads test heads known rest)
  where
    by : (a b : Bool) → a ≡ b → k.head ≡ head_of h → map (λ (j : KnownVolume). j.head) (filter (λ (j : KnownVolume). test j.head) known) ≡ map head_of (filter (λ (g : Head). test (head_of g)) heads)
        → map (λ (j : KnownVolume). j.head) (cond a (k ∷ filter (λ (j : KnownVolume). test j.head) known) (filter (λ (j : KnownVolume). test j.head) known))
        ≡ map head_of (cond b (h ∷ filter (λ (g : Head). test (head_of g)) heads) (filter (λ (g : Head). test (head_of g)) heads))
    by true true same first later = λ i. first i ∷ later i
    by false false same first later = later
    by true false same first later = cc
    by false true same first later = cc

-- the heads of those that pass a test
pub some_heads : (test : VolumeHead → Bool) (vs : List ListedVolume) (heads found : List Head) → heads ≡ map (λ v. v.head) vs → found ≡ filter (λ h. test (head_of h)) heads
    → map head_of found ≡ map (λ k. k.head) (filter (λ k. test k.head) (known_in vs))
some_heads test vs heads found are is = ap (map head_of) is ∙ sym (filter_heads test heads (known_in vs) (sym (ap (map head_of) are ∙ heads_known vs)))

-- the known volumes of these heads are there
pub known_by_heads : (vs : List ListedVolume) (heads : List Head) → heads ≡ map (λ v. v.head) vs → map (λ k. k.head) (known_in vs) ≡ map head_of heads
known_by_heads vs heads are = sym (ap (map head_of) are ∙ heads_known vs)

in_at : {X : Type 0} (xs : List X) (k : ℕ) (d : X) → k < length xs → IsIn xs (get_or xs k d)
in_at [] k d lt = absurd (omega (arith, lt))
in_at (x ∷ xs) zero d lt = inl refl
in_at (x ∷ xs) (suc k) d lt = inr (in_at xs k d (omega (arith, lt)))

pub item_in : {X : Type 0} (xs : List X) (k : ℕ) (x : X) → k < length xs → x ≡ get_or xs k x → IsIn xs x
item_in xs k x lt is = subst (IsIn xs) (sym is) (in_at xs k x lt)

-- ---- a volume under another number

abbrev pub under : ℕ → KnownVolume → KnownVolume
under n k = record { head = record { format = k.head.format; ns = k.head.ns; start = k.head.start; size = k.head.size; number = n }; rows = k.rows }

pub numbered : (k : KnownVolume) (ns start size old n : ℕ) (rows : List Series) → k ≡ volume_of ns start size old rows → under n k ≡ volume_of ns start size n rows
numbered k ns start size old n rows is = ap (under n) is
