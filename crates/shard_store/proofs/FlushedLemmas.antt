-- Blocks that are flushed one after another.
use Rattle.std.proofs.Common.{◌≡◌, inl, inr, ⊎_elim, ℕ, ◌+◌, ◌*◌, ◌/◌, ◌<◌, ◌≤◌, List, [], ◌∷◌, ◌++◌, refl, sym, ap, subst, ◌∙◌, arith, Bool, true, false, cond, ◌&&◌, rules}
use Rattle.std.specs.Prelude.{◌==◌, ◌↔◌, ◌||◌, filter, nat_eq, nat_le, nat_lt, Option, Some, None, option_map, slice_get}
use Rattle.std.specs.List.{All}
use Rattle.std.specs.FinMap.{retain_keys}
use Rattle.std.proofs.lemmas.Bool.{eqb-true, leb-true, ltb-true}
use Rattle.std.proofs.lemmas.List.Folds.{list_any-append}
use Rattle.std.proofs.lemmas.List.Elements.{All-get_or}
use Rattle.std.proofs.lemmas.Nat.{div_below, le-div}
use Rattle.std.proofs.lemmas.Option.{get_or_from_slice_get, slice_get_within}
use Rattle.m3_model.specs.Answers.{HasPoint}
use Rattle.m3_model.specs.Contents.{Contents, key_of, Holds}
use Rattle.m3_model.specs.Members.{IsIn}
use Rattle.m3_model.specs.declared.point.Key.{Key}
use Rattle.m3_model.specs.declared.point.Point.{Point}
use Rattle.m3_model.specs.declared.rules.Rules.{Rules}
use Rattle.m3_model.specs.declared.rules.Space.{Space}
use Rattle.m3_model.proofs.MemberLemmas.{IsIn-append_left, IsIn-append_right, IsIn-append_cases}
use Rattle.m3_outside.specs.Files.{Files}
use Rattle.store_log.specs.listed_volumes.block_buffer.Blocks.{IsBlocksOf, block_start}
use Rattle.store_log.specs.listed_volumes.block_buffer.Held.{without}
use Rattle.store_log.proofs.listed_volumes_proofs.block_buffer_proofs.BlockLemmas.{any-IsIn}
use Rattle.store_log.specs.listed_volumes.shard_files.Parts.{KnownVolume}
use Rattle.store_log.specs.listed_volumes.shard_files.FilesHold.{volume_points}
use Rattle.store_log.specs.listed_volumes.shard_files.Steps.{next_volume}
use Rattle.store_log.proofs.listed_volumes_proofs.shard_files_proofs.CountedLemmas.{IsIn-filter, chosen, filter-IsIn, both}
use Rattle.shard_store.specs.Blocks.{IsOneVolume}
use Rattle.shard_store.specs.Flushes.{AreFlushedTo, IsFlushOf, block_size, ended_size, is_in, is_in_one, is_volume_of, is_over, size_in}
use Rattle.shard_store.specs.Stores.{joined_with}
use Rattle.shard_store.proofs.PointLemmas.{has_holds, same_by_points, same_joins, joined_holds, kept_has, has_kept, fewer_has, has_fewer, has_untested}
use Rattle.shard_store.proofs.BlockLemmas.{more_points}

-- ---- the blocks of a list

-- a time lies in one block of a size
quotient : (size q t : ℕ) → 0 < size → size * q ≤ t → t < size * q + size → t / size ≡ q
quotient size q t some low high =
    let below : t < (q + 1) * size = grind (arith, high) in
    let under : t / size < q + 1 = div_below t size (q + 1) some below in
    let from : q * size ≤ t = grind (arith, low) in
    let over : q ≤ t / size = le-div q t size some from in
    omega (arith, under, over)

of_all : {X : Type 0} (P : X → Type 0) (xs : List X) (i : ℕ) (x : X) → All P xs → slice_get xs i ≡ Some x → P x
of_all P xs i x all is = subst P (get_or_from_slice_get xs i x x is) (All-get_or P xs i x (slice_get_within xs i x is) all)

-- the block begins at a multiple of its size, which is at least 1
pub record IsAligned (rules : Rules) (block : ℕ × ℕ) : Type 0 where
  pub times : ℕ
  pub some : 0 < block_size rules block.0
  pub start : block.1 ≡ block_size rules block.0 * times

-- so do all that have points
pub blocks_aligned : (rules : Rules) (c : Contents) (blocks : List (ℕ × ℕ)) → All (λ space. 0 < space.block) rules.spaces → IsBlocksOf rules c blocks → (block : ℕ × ℕ) → IsIn blocks block → IsAligned rules block
blocks_aligned rules c blocks some of block m =
    let held = of.held block m in
    let p = held.0 in
    by p (slice_get rules.spaces p.ns) refl held.2
  where
    by : (p : Point) (o : Option Space) → slice_get rules.spaces p.ns ≡ o → option_map (λ (space : Space). (p.ns, block_start space.block p.t)) (slice_get rules.spaces p.ns) ≡ Some block → IsAligned rules block
    by p None e is = let bad : None ≡ Some block = sym (ap (option_map (λ (space : Space). (p.ns, block_start space.block p.t))) e) ∙ is in cc
    by p (Some space) e is =
        let same : Some (p.ns, block_start space.block p.t) ≡ Some block = sym (ap (option_map (λ (s : Space). (p.ns, block_start s.block p.t))) e) ∙ is in
        let first : p.ns ≡ block.0 = cc in
        let second : block_start space.block p.t ≡ block.1 = cc in
        let size : block_size rules block.0 ≡ space.block = ap (λ n. size_in (slice_get rules.spaces n)) (sym first) ∙ ap size_in e in
        record { times = p.t / space.block; some = subst (λ n. 0 < n) (sym size) (of_all (λ (s : Space). 0 < s.block) rules.spaces p.ns space some e); start = sym second ∙ ap (λ n. n * (p.t / space.block)) (sym size) }

module _ (rules : Rules) where
  in_is : (block : ℕ × ℕ) (k : Key) → is_in rules block k ≡ true → (block.0 ≡ k.ns) × (block.1 ≤ k.t) × (k.t < block.1 + block_size rules block.0)
  in_is block k t =
      let outer = both (nat_eq block.0 k.ns) (nat_le block.1 k.t && nat_lt k.t (block.1 + block_size rules block.0)) t in
      let inner = both (nat_le block.1 k.t) (nat_lt k.t (block.1 + block_size rules block.0)) outer.1 in
      (eqb-true block.0 k.ns outer.0, leb-true block.1 k.t inner.0, ltb-true k.t (block.1 + block_size rules block.0) inner.1)

  -- no key lies in two of them
  pub apart : (a b : ℕ × ℕ) (k : Key) → IsAligned rules a → IsAligned rules b → is_in rules a k ≡ true → is_in rules b k ≡ true → a ≡ b
  apart a b k f g s t =
      let x = in_is a k s in
      let y = in_is b k t in
      let space : a.0 ≡ b.0 = x.0 ∙ sym y.0 in
      let size : block_size rules a.0 ≡ block_size rules b.0 = ap (block_size rules) space in
      let one : k.t / block_size rules a.0 ≡ f.times = quotient (block_size rules a.0) f.times k.t f.some (subst (λ n. n ≤ k.t) f.start x.1) (subst (λ n. k.t < n + block_size rules a.0) f.start x.2) in
      let two : k.t / block_size rules b.0 ≡ g.times = quotient (block_size rules b.0) g.times k.t g.some (subst (λ n. n ≤ k.t) g.start y.1) (subst (λ n. k.t < n + block_size rules b.0) g.start y.2) in
      let times : f.times ≡ g.times = sym one ∙ ap (λ n. k.t / n) size ∙ two in
      let start : a.1 ≡ b.1 = f.start ∙ (λ i. size i * times i) ∙ sym g.start in
      λ i. (space i, start i)

  of_is : (block : ℕ × ℕ) (k : KnownVolume) → is_volume_of rules block k ≡ true → (k.head.ns ≡ block.0) × (k.head.start ≡ block.1)
  of_is block k t =
      let outer = both (k.head.ns == block.0) ((k.head.start == block.1) && (k.head.size == block_size rules block.0)) t in
      let inner = both (k.head.start == block.1) (k.head.size == block_size rules block.0) outer.1 in
      (eqb-true k.head.ns block.0 outer.0, eqb-true k.head.start block.1 inner.0)

  -- a volume is of one block
  pub of_one : (a b : ℕ × ℕ) (k : KnownVolume) → is_volume_of rules a k ≡ true → is_volume_of rules b k ≡ true → a ≡ b
  of_one a b k s t =
      let x = of_is a k s in
      let y = of_is b k t in
      λ i. ((sym x.0 ∙ y.0) i, (sym x.1 ∙ y.1) i)

  false_or : (b : Bool) → (b ≡ true → ⊥) → b ≡ false
  false_or true never = absurd (never refl)
  false_or false never = refl

  pub of_other : (a b : ℕ × ℕ) (k : KnownVolume) → (a ≡ b → ⊥) → is_volume_of rules a k ≡ true → is_volume_of rules b k ≡ false
  of_other a b k other s = false_or (is_volume_of rules b k) (λ t. other (of_one a b k s t))

  -- ---- one block more

  module _ (m : Contents) (ks : List KnownVolume) (x : Files) (done : List (ℕ × ℕ)) (b : ℕ × ℕ) (fresh : IsIn done b → ⊥) (aligned : (a : ℕ × ℕ) → IsIn done a → IsAligned rules a) (own : IsAligned rules b) where
    -- none of its points left memory with the others
    same_in_block : retain_keys (without m (is_in_one rules done)) (is_in rules b) ≡ retain_keys m (is_in rules b)
    same_in_block = same_by_points _ _
        (λ p h. let here = has_kept (without m (is_in_one rules done)) (is_in rules b) p h in holds_it (retain_keys m (is_in rules b)) p (kept_has m (is_in rules b) p (has_fewer m (is_in_one rules done) p here.0) here.1))
        (λ p h.
        let here = has_kept m (is_in rules b) p h in
        let none : is_in_one rules done (key_of p) ≡ false = false_or (is_in_one rules done (key_of p)) (λ t. let a = any-IsIn (λ block. is_in rules block (key_of p)) done t in fresh (subst (IsIn done) (apart a.0 b (key_of p) (aligned a.0 a.1) own a.2 here.1) a.1)) in
        holds_it (retain_keys (without m (is_in_one rules done)) (is_in rules b)) p (kept_has (without m (is_in_one rules done)) (is_in rules b) p (fewer_has m (is_in_one rules done) p here.0 none) here.1))
      where
        holds_it : (c : Contents) (p : Point) → HasPoint c p → Holds c p
        holds_it c p h = has_holds c p h

    module _ (now : List KnownVolume) (y : Files) (so_far : AreFlushedTo rules m done ks x now) (nexts : (n s : ℕ) → (IsIn done (n, s) → ⊥) → next_volume n s y ≡ next_volume n s x)
        (later : List KnownVolume) (one : IsOneVolume b.0 b.1 (block_size rules b.0) (without m (is_in_one rules done)) now y later) where
      not_done : (k : KnownVolume) → is_volume_of rules b k ≡ true → (a : ℕ × ℕ) → IsIn done a → is_volume_of rules a k ≡ false
      not_done k t a at = of_other b a k (λ e. fresh (subst (IsIn done) (sym e) at)) t

      -- the volumes of the block are those from before
      same_volumes : joined_with (retain_keys m (is_in rules b)) (filter (is_volume_of rules b) now) ≡ joined_with (retain_keys m (is_in rules b)) (filter (is_volume_of rules b) ks)
      same_volumes = same_joins (retain_keys m (is_in rules b)) (retain_keys m (is_in rules b)) (volume_points (filter (is_volume_of rules b) now)) (volume_points (filter (is_volume_of rules b) ks))
          (λ p s. joined_holds (retain_keys m (is_in rules b)) (volume_points (filter (is_volume_of rules b) ks)) p (⊎_elim (λ (h : HasPoint (retain_keys m (is_in rules b)) p). inl h) (λ (v : IsIn (volume_points (filter (is_volume_of rules b) now)) p). inr (more_points (filter (is_volume_of rules b) now) (filter (is_volume_of rules b) ks) (moved now ks (λ k t at. (so_far.others k (not_done k t)).0 at)) p v)) s))
          (λ p s. joined_holds (retain_keys m (is_in rules b)) (volume_points (filter (is_volume_of rules b) now)) p (⊎_elim (λ (h : HasPoint (retain_keys m (is_in rules b)) p). inl h) (λ (v : IsIn (volume_points (filter (is_volume_of rules b) ks)) p). inr (more_points (filter (is_volume_of rules b) ks) (filter (is_volume_of rules b) now) (moved ks now (λ k t at. (so_far.others k (not_done k t)).1 at)) p v)) s))
        where
          moved : (js bs : List KnownVolume) → ((k : KnownVolume) → is_volume_of rules b k ≡ true → IsIn js k → IsIn bs k) → (k : KnownVolume) → IsIn (filter (is_volume_of rules b) js) k → IsIn (filter (is_volume_of rules b) bs) k
          moved js bs to k at =
              let t = chosen (is_volume_of rules b) js k at in
              filter-IsIn (is_volume_of rules b) bs k (to k t (IsIn-filter (is_volume_of rules b) js k at)) t

      own_flush : IsFlushOf rules m ks x b one.volume
      own_flush = record {
        of_block = one.of_block;
        number = one.number ∙ nexts b.0 b.1 fresh;
        joins = one.joins ∙ ap (λ c. joined_with c (filter (is_volume_of rules b) now)) same_in_block ∙ same_volumes;
      }

      -- what is of another block that was flushed is there still
      before_done : (a : ℕ × ℕ) → IsIn done a → (k : KnownVolume) → is_volume_of rules a k ≡ true → IsIn now k ↔ IsIn later k
      before_done a at k t = let other = one.others k (of_other a b k (λ e. fresh (subst (IsIn done) e at)) t) in (other.1, other.0)

      pub flushed_more : AreFlushedTo rules m (done ++ b ∷ []) ks x later
      flushed_more = record {
        written = λ a at. ⊎_elim (λ (old : IsIn done a). let k = so_far.written a old in (k.0, (before_done a old k.0 k.2.of_block).0 k.1, k.2))
            (λ (new : IsIn (b ∷ []) a). ⊎_elim (λ (e : b ≡ a). subst (λ c. (k : KnownVolume) × IsIn later k × IsFlushOf rules m ks x c k) e (one.volume, one.there, own_flush)) (λ (none : ⊥). absurd none) new) (IsIn-append_cases done (b ∷ []) a at);
        alone = λ a at j k f g s t. ⊎_elim (λ (old : IsIn done a). so_far.alone a old j k ((before_done a old j s).1 f) ((before_done a old k t).1 g) s t)
            (λ (new : IsIn (b ∷ []) a). ⊎_elim (λ (e : b ≡ a). one.alone j f (subst (λ c. is_volume_of rules c j ≡ true) (sym e) s) ∙ sym (one.alone k g (subst (λ c. is_volume_of rules c k ≡ true) (sym e) t))) (λ (none : ⊥). absurd none) new) (IsIn-append_cases done (b ∷ []) a at);
        others = λ k none.
            let here = one.others k (none b (IsIn-append_right done (b ∷ []) b (inl refl))) in
            let before = so_far.others k (λ a at. none a (IsIn-append_left done (b ∷ []) a at)) in
            (λ f. before.0 (here.0 f), λ f. here.1 (before.1 f));
      }

-- what leaves memory with one block more
pub without_more : (rules : Rules) (m : Contents) (done : List (ℕ × ℕ)) (b : ℕ × ℕ) → without (without m (is_in_one rules done)) (is_in rules b) ≡ without m (is_in_one rules (done ++ b ∷ []))
without_more rules m done b = same_by_points _ _
    (λ p h.
    let one = has_untested (without m (is_in_one rules done)) (is_in rules b) p h in
    let rest = has_fewer (without m (is_in_one rules done)) (is_in rules b) p h in
    has_holds _ p (fewer_has m (is_in_one rules (done ++ b ∷ [])) p (has_fewer m (is_in_one rules done) p rest) (test p ∙ (λ i. has_untested m (is_in_one rules done) p rest i || (one i || false)))))
    (λ p h.
    let none = sym (test p) ∙ has_untested m (is_in_one rules (done ++ b ∷ [])) p h in
    let split = neither (is_in_one rules done (key_of p)) (is_in rules b (key_of p)) none in
    has_holds _ p (fewer_has (without m (is_in_one rules done)) (is_in rules b) p (fewer_has m (is_in_one rules done) p (has_fewer m (is_in_one rules (done ++ b ∷ [])) p h) split.0) split.1))
  where
    test : (p : Point) → is_in_one rules (done ++ b ∷ []) (key_of p) ≡ (is_in_one rules done (key_of p) || (is_in rules b (key_of p) || false))
    test p = list_any-append (λ block. is_in rules block (key_of p)) done (b ∷ [])

    neither : (s t : Bool) → (s || (t || false)) ≡ false → (s ≡ false) × (t ≡ false)
    neither true t e = absurd (cc)
    neither false true e = absurd (cc)
    neither false false e = (refl, refl)

-- ---- which block is flushed

pub not_ended : (o : Option Space) (start now : ℕ) → ended_size o start now ≡ None → is_over o start now ≡ false
not_ended None start now e = refl
not_ended (Some space) start now e = by (nat_le (start + space.block + space.past) now) refl
  where
    by : (b : Bool) → nat_le (start + space.block + space.past) now ≡ b → b ≡ false
    by false t = refl
    by true t = let bad : Some space.block ≡ None = sym (ap (λ b. cond b (Some space.block) None) t) ∙ e in cc

pub has_ended_size : (o : Option Space) (start now size : ℕ) → ended_size o start now ≡ Some size → (is_over o start now ≡ true) × (size ≡ size_in o) × (start + size ≤ now)
has_ended_size None start now size e = absurd (cc)
has_ended_size (Some space) start now size e = by (nat_le (start + space.block + space.past) now) refl
  where
    by : (b : Bool) → nat_le (start + space.block + space.past) now ≡ b → (b ≡ true) × (size ≡ space.block) × (start + size ≤ now)
    by false t = let bad : None ≡ Some size = sym (ap (λ b. cond b (Some space.block) None) t) ∙ e in absurd (cc)
    by true t =
        let is : Some space.block ≡ Some size = sym (ap (λ b. cond b (Some space.block) None) t) ∙ e in
        let same : size ≡ space.block = cc in
        let low = leb-true (start + space.block + space.past) now t in
        (refl, same, omega (arith, low, same))
