-- A block that is joined, written, and without its older volumes.
use Rattle.std.proofs.Common.{◌≡◌, ◌⊎◌, inl, inr, ⊎_elim, ℕ, ℤ, ◌≤ℤ◌, List, map, refl, sym, ap, subst, ◌∙◌, Bool, true, false, not, ◌&&◌, Some, None, rules}
use Rattle.std.specs.Prelude.{◌==◌, filter}
use Rattle.std.specs.FinMap.{get, keys, retain_keys}
use Rattle.std.proofs.lemmas.Bool.{eqb-true}
use Rattle.m3_model.specs.Answers.{HasPoint}
use Rattle.m3_model.specs.Contents.{Contents, Holds}
use Rattle.m3_model.specs.Members.{IsIn}
use Rattle.m3_model.specs.Reads.{Covers, IsOrdered}
use Rattle.m3_model.specs.declared.point.Point.{Point}
use Rattle.m3_model.specs.declared.point.Series.{Series}
use Rattle.m3_model.proofs.MemberLemmas.{IsIn-map, map-IsIn}
use Rattle.m3_outside.specs.Files.{Files, IsAbsent}
use Rattle.m3_outside.specs.declared.file_name.FileName.{FileName}
use Rattle.store_log.specs.listed_volumes.commit_log.Contents.{next_after}
use Rattle.store_log.specs.listed_volumes.block_buffer.Held.{is_in_block, without}
use Rattle.store_log.specs.listed_volumes.block_buffer.Joins.{joined}
use Rattle.store_log.proofs.listed_volumes_proofs.block_buffer_proofs.BlockLemmas.{any-IsIn, IsIn-any}
use Rattle.store_log.proofs.listed_volumes_proofs.series_merge_proofs.OrderLemmas.{ordered_has}
use Rattle.store_log.specs.listed_volumes.wire_bytes.Volumes.{VolumeHead, Checkpoint, points_of_rows}
use Rattle.store_log.specs.listed_volumes.volume_bytes.declared.heads.Head.{Head}
use Rattle.store_log.specs.listed_volumes.volume_bytes.Heads.{head_of}
use Rattle.store_log.specs.listed_volumes.shard_files.Parts.{KnownVolume, VolumesAre, part_name, part_of, counted_volumes}
use Rattle.store_log.specs.listed_volumes.shard_files.FilesHold.{points_known, volume_points}
use Rattle.store_log.specs.listed_volumes.shard_files.Steps.{OthersStay, is_part, next_volume}
use Rattle.store_log.proofs.listed_volumes_proofs.shard_files_proofs.ContentLemmas.{content_covers}
use Rattle.store_log.proofs.listed_volumes_proofs.shard_files_proofs.CountedLemmas.{IsIn-filter, chosen, filter-IsIn, filter_ascends, Before, both, same_names, keys_ascend, key_there, there_key}
use Rattle.store_log.proofs.listed_volumes_proofs.shard_files_proofs.GainLemmas.{≤ℤ_trans}
use Rattle.store_log.proofs.listed_volumes_proofs.shard_files_proofs.NextLemmas.{next_volume_is_new}
use Rattle.store_log.proofs.listed_volumes_proofs.shard_files_proofs.PartLemmas.{one_known}
use Rattle.store_log.proofs.listed_volumes_proofs.shard_files_proofs.VolumeSteps.{of_known}
use Rattle.store_log.specs.listed_volumes.Known.{is_of}
use Rattle.store_log.specs.snapshot_steps.volume_steps.Known.{HaveContent, HaveRows, StandsIn}
use Rattle.store_log.specs.snapshot_steps.volume_steps.KnownLists.{IsOfOne, is_volume_at, is_one_of, volume_of, with_volume, without_volumes}
use Rattle.store_log.proofs.snapshot_steps_proofs.volume_steps_proofs.KnownLemmas.{points_of_known, known_of_points}
use Rattle.store_log.proofs.snapshot_steps_proofs.volume_steps_proofs.LawLemmas.{join_is_there}
use Rattle.store_log.proofs.snapshot_steps_proofs.volume_steps_proofs.ListLemmas.{in_with, with_in}
use Rattle.shard_store.specs.Blocks.{IsBlockJoin, IsOneVolume, OtherNumbersStay, block_join}
use Rattle.shard_store.specs.Stores.{joined_with}
use Rattle.shard_store.proofs.PointLemmas.{antisym, holds_covered, joined_holds, joined_source, same_joins, has_kept, has_fewer, parted}

-- ---- points of some volumes

pub more_points : (ks js : List KnownVolume) → ((k : KnownVolume) → IsIn ks k → IsIn js k) → (p : Point) → IsIn (volume_points ks) p → IsIn (volume_points js) p
more_points ks js among p m = let k = points_of_known ks p m in known_of_points js k.0 p (among k.0 k.1) k.2

pub filtered_points : (test : KnownVolume → Bool) (ks : List KnownVolume) (p : Point) → IsIn (volume_points (filter test ks)) p → IsIn (volume_points ks) p
filtered_points test ks p m = more_points (filter test ks) ks (λ k mem. IsIn-filter test ks k mem) p m

-- where a volume isn't among those that stay, whatever it has stands elsewhere: so the content is the same
pub content_fewer : (m : Contents) (ks js : List KnownVolume) → ((k : KnownVolume) → IsIn js k → IsIn ks k) → HaveContent m js (joined_with m ks) → joined_with m js ≡ joined_with m ks
content_fewer m ks js among have =
    same_joins m m (volume_points js) (volume_points ks)
    (λ p stands. joined_holds m (volume_points ks) p (⊎_elim (λ (h : HasPoint m p). inl h) (λ (v : IsIn (volume_points js) p). inr (more_points js ks among p v)) stands))
    (λ p stands.
    let high = joined_holds m (volume_points ks) p stands in
    let top : Point = record p { v = high.value } in
    let there = joined_holds m (volume_points js) top (have top high.stands) in
    record { value = there.value; at_least = ≤ℤ_trans high.at_least there.at_least; stands = there.stands })

-- a point that stands in a join, and is covered by some of the points that were joined, is one of these
pub top_is : (c : Contents) (ps qs : List Point) (p : Point) → HasPoint (joined c ps) p → Covers qs p → ((q : Point) → IsIn qs q → IsIn ps q) → IsIn qs p
top_is c ps qs p h covers among =
    let q : Point = record p { v = covers.value } in
    let high = joined_holds c ps q (inr (among q covers.stands)) in
    let same : high.value ≡ p.v = some_same high.value p.v (sym high.stands ∙ h) in
    let is : p.v ≡ covers.value = antisym p.v covers.value covers.at_least (subst (λ (v : ℤ). covers.value ≤ℤ v) same high.at_least) in
    subst (λ (v : ℤ). IsIn qs (record p { v = v })) (sym is) covers.stands
  where
    some_same : (a b : ℤ) → Some a ≡ Some b → a ≡ b
    some_same a b is = cc

-- ---- a block that is written

module _ (m : Contents) (ks : List KnownVolume) (ns start size : ℕ) (rows : List Series) (ordered : IsOrdered rows) (is : IsBlockJoin m ks ns start size rows) where
  abbrev in_block : Contents
  in_block = retain_keys m (is_in_block ns start size)

  abbrev left : Contents
  left = without m (is_in_block ns start size)

  abbrev of_block : List KnownVolume
  of_block = filter (is_of ns start size) ks

  -- each point of the rows is in memory or in a volume
  pub have_rows : HaveRows m ks ns rows
  have_rows p mem =
      let has : HasPoint (block_join m ks ns start size) p = subst (λ c. HasPoint c p) is (ordered_has ns rows p ordered mem) in
      ⊎_elim (λ (h : HasPoint in_block p). inl (has_kept m (is_in_block ns start size) p h).0) (λ (v : IsIn (volume_points of_block) p). inr (filtered_points (is_of ns start size) ks p v)) (joined_source in_block (volume_points of_block) p has)

  -- the rows cover what they were joined of
  pub rows_cover : (p : Point) → HasPoint in_block p ⊎ IsIn (volume_points of_block) p → Covers (points_of_rows ns rows) p
  rows_cover p stands = content_covers (points_of_rows ns rows) p (subst (λ c. Holds c p) (sym is) (joined_holds in_block (volume_points of_block) p stands))

  module _ (n : ℕ) where
    abbrev new : KnownVolume
    new = volume_of ns start size n rows

    rows_known : (q : Point) → IsIn (points_of_rows ns rows) q → IsIn (volume_points (with_volume new ks)) q
    rows_known q mem = known_of_points (with_volume new ks) new q (with_in new new ks (inl refl)) mem

    -- without its points in memory, and with the volume, the content is the same
    pub content_written : joined_with left (with_volume new ks) ≡ joined_with m ks
    content_written =
        same_joins left m (volume_points (with_volume new ks)) (volume_points ks)
        (λ p stands. joined_holds m (volume_points ks) p (⊎_elim (λ (h : HasPoint left p). inl (has_fewer m (is_in_block ns start size) p h)) (λ (v : IsIn (volume_points (with_volume new ks)) p).
        let k = points_of_known (with_volume new ks) p v in
        ⊎_elim (λ (e : k.0 ≡ new). have_rows p (subst (λ (j : KnownVolume). IsIn (points_known j) p) e k.2)) (λ (old : IsIn ks k.0). inr (known_of_points ks k.0 p old k.2)) (in_with new k.0 ks k.1)) stands))
        (λ p stands. ⊎_elim (λ (h : HasPoint m p). ⊎_elim
        (λ (inside : HasPoint in_block p). holds_covered (joined_with left (with_volume new ks)) (points_of_rows ns rows) p (rows_cover p (inl inside)) (λ q mem. joined_holds left (volume_points (with_volume new ks)) q (inr (rows_known q mem))))
        (λ (outside : HasPoint left p). joined_holds left (volume_points (with_volume new ks)) p (inl outside)) (parted m (is_in_block ns start size) p h))
        (λ (v : IsIn (volume_points ks) p). joined_holds left (volume_points (with_volume new ks)) p (inr (more_points ks (with_volume new ks) (λ k old. with_in new k ks (inr old)) p v))) stands)

    -- ---- and without its older volumes

    module _ (x : Files) (are : VolumesAre ks x) (fresh : n ≡ next_volume ns start x) (olds : List Head) (olds_are : map head_of olds ≡ map (λ k. k.head) of_block) where
      abbrev now : List KnownVolume
      now = without_volumes olds (with_volume new ks)

      -- each of the older ones is one of the block
      old_of : (h : Head) → IsIn olds h → (k : KnownVolume) × IsIn ks k × (is_of ns start size k ≡ true) × (k.head ≡ head_of h)
      old_of h mem =
          let listed : IsIn (map (λ (k : KnownVolume). k.head) of_block) (head_of h) = subst (λ (l : List VolumeHead). IsIn l (head_of h)) olds_are (map-IsIn head_of olds h mem) in
          let k = IsIn-map (λ (k : KnownVolume). k.head) of_block (head_of h) listed in
          (k.0, IsIn-filter (is_of ns start size) ks k.0 k.1, chosen (is_of ns start size) ks k.0 k.1, k.2)

      at_of : (a b c : ℕ) (k : KnownVolume) → is_volume_at a b c k ≡ true → (k.head.ns ≡ a) × (k.head.start ≡ b) × (k.head.number ≡ c)
      at_of a b c k t =
          let outer = both (k.head.ns == a) ((k.head.start == b) && (k.head.number == c)) t in
          let inner = both (k.head.start == b) (k.head.number == c) outer.1 in
          (eqb-true k.head.ns a outer.0, eqb-true k.head.start b inner.0, eqb-true k.head.number c inner.1)

      of_of : (k : KnownVolume) → is_of ns start size k ≡ true → (k.head.ns ≡ ns) × (k.head.start ≡ start) × (k.head.size ≡ size)
      of_of k t =
          let outer = both (k.head.ns == ns) ((k.head.start == start) && (k.head.size == size)) t in
          let inner = both (k.head.start == start) (k.head.size == size) outer.1 in
          (eqb-true k.head.ns ns outer.0, eqb-true k.head.start start inner.0, eqb-true k.head.size size inner.1)

      -- two known volumes of one namespace, start and number are one
      one_of_name : (j k : KnownVolume) → IsIn ks j → IsIn ks k → j.head.ns ≡ k.head.ns → j.head.start ≡ k.head.start → j.head.number ≡ k.head.number → j ≡ k
      one_of_name j k a b e f g =
          let one = of_known x (counted_volumes x) ks are j a in
          let two = of_known x (counted_volumes x) ks are k b in
          let same : part_of Checkpoint k.head ≡ part_of Checkpoint j.head = λ i. part_name Checkpoint (sym e i) (sym f i) (sym g i) in
          one_known x one.0 j k one.2 (record { named = one.2.named ∙ sym same; holds = two.2.holds })

      -- a known volume that is one of the older ones is of the block
      old_in_block : (j : KnownVolume) → IsIn ks j → is_one_of olds j ≡ true → is_of ns start size j ≡ true
      old_in_block j mem t =
          let h = any-IsIn (λ (g : Head). is_volume_at g.ns g.start g.number j) olds t in
          let at = at_of h.0.ns h.0.start h.0.number j h.2 in
          let k = old_of h.0 h.1 in
          let same = one_of_name k.0 j k.1 mem (ap (λ (v : VolumeHead). v.ns) k.3 ∙ sym at.0) (ap (λ (v : VolumeHead). v.start) k.3 ∙ sym at.1) (ap (λ (v : VolumeHead). v.number) k.3 ∙ sym at.2) in
          subst (λ (i : KnownVolume). is_of ns start size i ≡ true) same k.2

      -- one of the block is one of the older ones
      block_is_old : (j : KnownVolume) → IsIn ks j → is_of ns start size j ≡ true → is_one_of olds j ≡ true
      block_is_old j mem t =
          let listed : IsIn (map head_of olds) j.head = subst (λ (l : List VolumeHead). IsIn l j.head) (sym olds_are) (map-IsIn (λ (k : KnownVolume). k.head) of_block j (filter-IsIn (is_of ns start size) ks j mem t)) in
          let h = IsIn-map head_of olds j.head listed in
          IsIn-any (λ (g : Head). is_volume_at g.ns g.start g.number j) olds h.0 h.1 (at_itself h.0 j h.2)
        where
          eq_itself : (a : ℕ) → (a == a) ≡ true
          eq_itself a = search rules

          at_itself : (h : Head) (j : KnownVolume) → head_of h ≡ j.head → is_volume_at h.ns h.start h.number j ≡ true
          at_itself h j e =
              let a : (j.head.ns == h.ns) ≡ true = ap (λ (v : VolumeHead). v.ns == h.ns) (sym e) ∙ eq_itself h.ns in
              let b : (j.head.start == h.start) ≡ true = ap (λ (v : VolumeHead). v.start == h.start) (sym e) ∙ eq_itself h.start in
              let c : (j.head.number == h.number) ≡ true = ap (λ (v : VolumeHead). v.number == h.number) (sym e) ∙ eq_itself h.number in
              cc

      -- the new one is none of the older ones
      new_stays : is_one_of olds new ≡ false
      new_stays = by (is_one_of olds new) refl
        where
          by : (b : Bool) → is_one_of olds new ≡ b → b ≡ false
          by false e = refl
          by true e =
              let h = any-IsIn (λ (g : Head). is_volume_at g.ns g.start g.number new) olds e in
              let at = at_of h.0.ns h.0.start h.0.number new h.2 in
              let k = old_of h.0 h.1 in
              let block = of_of k.0 k.2 in
              let one = of_known x (counted_volumes x) ks are k.0 k.1 in
              let number : k.0.head.number ≡ next_volume ns start x = ap (λ (v : VolumeHead). v.number) k.3 ∙ sym at.2 ∙ fresh in
              let gone : IsAbsent (part_name Checkpoint ns start (next_volume ns start x)) x = next_volume_is_new 1 ns start size x Checkpoint in
              let same : part_of Checkpoint k.0.head ≡ part_name Checkpoint ns start (next_volume ns start x) = λ i. part_name Checkpoint (block.0 i) (block.1 i) (number i) in
              let there = one.2.holds.parts Checkpoint in
              let bad = sym there ∙ ap (get x) same ∙ gone in
              absurd (let none : Some _ ≡ None = bad in cc)

      not_of : (b : Bool) → b ≡ false → not b ≡ true
      not_of true e = absurd (cc)
      not_of false e = refl

      not_true : (b : Bool) → not b ≡ true → b ≡ true → ⊥
      not_true true e f = cc
      not_true false e f = cc

      stays : (j : KnownVolume) → IsIn (with_volume new ks) j → is_one_of olds j ≡ false → IsIn now j
      stays j mem t = filter-IsIn (λ k. not (is_one_of olds k)) (with_volume new ks) j mem (not_of (is_one_of olds j) t)

      new_there : IsIn now new
      new_there = stays new (with_in new new ks (inl refl)) new_stays

      -- all that the content has stands without the older ones
      pub have_without : HaveContent left now (joined_with left (with_volume new ks))
      have_without p has = ⊎_elim (λ (v : IsIn (volume_points (with_volume new ks)) p). of_volume v) (λ (h : HasPoint left p). inl h) (flip (join_is_there left (with_volume new ks) p has))
        where
          flip : StandsIn left (with_volume new ks) p → IsIn (volume_points (with_volume new ks)) p ⊎ HasPoint left p
          flip (inl h) = inr h
          flip (inr v) = inl v

          of_new : IsIn (points_of_rows ns rows) p → StandsIn left now p
          of_new mem = inr (known_of_points now new p new_there mem)

          of_old : (k : KnownVolume) → IsIn ks k → IsIn (points_known k) p → (b : Bool) → is_one_of olds k ≡ b → StandsIn left now p
          of_old k mem q true t =
              let inside = old_in_block k mem t in
              let covers = rows_cover p (inr (known_of_points of_block k p (filter-IsIn (is_of ns start size) ks k mem inside) q)) in
              of_new (top_is left (volume_points (with_volume new ks)) (points_of_rows ns rows) p has covers rows_known)
          of_old k mem q false t = inr (known_of_points now k p (stays k (with_in new k ks (inr mem)) t) q)

          of_volume : IsIn (volume_points (with_volume new ks)) p → StandsIn left now p
          of_volume v =
              let k = points_of_known (with_volume new ks) p v in
              ⊎_elim (λ (e : k.0 ≡ new). of_new (subst (λ (j : KnownVolume). IsIn (points_known j) p) e k.2)) (λ (old : IsIn ks k.0). of_old k.0 old k.2 (is_one_of olds k.0) refl) (in_with new k.0 ks k.1)

      -- the block has this volume, and all others are as before
      pub one_volume : IsOneVolume ns start size m ks x now
      one_volume = record {
        volume = new;
        there = new_there;
        of_block = new_of_block;
        number = fresh;
        joins = is;
        alone = λ k mem t.
            let was = IsIn-filter (λ j. not (is_one_of olds j)) (with_volume new ks) k mem in
            let kept = chosen (λ j. not (is_one_of olds j)) (with_volume new ks) k mem in
            ⊎_elim (λ (e : k ≡ new). e) (λ (old : IsIn ks k). absurd (not_true (is_one_of olds k) kept (block_is_old k old t))) (in_with new k ks was);
        others = λ k t. (
          λ mem. ⊎_elim (λ (e : k ≡ new). absurd (let bad : true ≡ false = sym new_of_block ∙ ap (is_of ns start size) (sym e) ∙ t in cc)) (λ (old : IsIn ks k). old) (in_with new k ks (IsIn-filter (λ j. not (is_one_of olds j)) (with_volume new ks) k mem)),
          λ old. stays k (with_in new k ks (inr old)) (other k old t (is_one_of olds k) refl),
        );
      }
        where
          eq_itself : (a : ℕ) → (a == a) ≡ true
          eq_itself a = search rules

          new_of_block : is_of ns start size new ≡ true
          new_of_block =
              let a = eq_itself ns in
              let b = eq_itself start in
              let c = eq_itself size in
              cc

          other : (k : KnownVolume) → IsIn ks k → is_of ns start size k ≡ false → (b : Bool) → is_one_of olds k ≡ b → b ≡ false
          other k old t true e = let bad : true ≡ false = sym (old_in_block k old e) ∙ t in cc
          other k old t false e = refl

      -- only files of the block's volumes change
      pub old_parts : (name : FileName) → IsOfOne olds name → is_part ns start name ≡ true
      old_parts name own =
          let k = old_of own.0 own.1 in
          let block = of_of k.0 k.2 in
          let a : own.0.ns ≡ ns = sym (ap (λ (v : VolumeHead). v.ns) k.3) ∙ block.0 in
          let b : own.0.start ≡ start = sym (ap (λ (v : VolumeHead). v.start) k.3) ∙ block.1 in
          subst (λ (s : ℕ). is_part ns s name ≡ true) b (subst (λ (n : ℕ). is_part n own.0.start name ≡ true) a own.2)

-- ---- numbers of other blocks

part_at : (ns start : ℕ) (name : FileName) → is_part ns start name ≡ true → (name.ns ≡ ns) × (name.block ≡ start)
part_at ns start name t =
    let outer = both _ ((name.ns == ns) && (name.block == start)) t in
    let inner = both (name.ns == ns) (name.block == start) outer.1 in
    (eqb-true name.ns ns inner.0, eqb-true name.block start inner.1)

pub other_numbers : (ns start : ℕ) (x y : Files) → OthersStay (λ name. is_part ns start name ≡ true) x y → OtherNumbersStay ns start x y
other_numbers ns start x y stay n s apart = ap (λ (l : List FileName). next_after (map (λ (name : FileName). name.number) l)) same
  where
    eq_itself : (a : ℕ) → (a == a) ≡ true
    eq_itself a = search rules

    not_own : (q : FileName) → is_part n s q ≡ true → is_part ns start q ≡ true → ⊥
    not_own q t u =
        let a = part_at n s q t in
        let b = part_at ns start q u in
        let e : (n == ns) ≡ true = ap (λ (k : ℕ). n == k) (sym b.0 ∙ a.0) ∙ eq_itself n in
        let f : (s == start) ≡ true = ap (λ (k : ℕ). s == k) (sym b.1 ∙ a.1) ∙ eq_itself s in
        let bad : true ≡ false = sym (ap (λ (c : Bool). c && (s == start)) e ∙ f) ∙ apart in cc

    moved : (a b : Files) → ((q : FileName) → is_part n s q ≡ true → get b q ≡ get a q) → (q : FileName) → IsIn (filter (is_part n s) (keys a)) q → IsIn (filter (is_part n s) (keys b)) q
    moved a b alike q mem =
        let there = key_there a q (IsIn-filter (is_part n s) (keys a) q mem) in
        let asked = chosen (is_part n s) (keys a) q mem in
        filter-IsIn (is_part n s) (keys b) q (there_key b q there.file (alike q asked ∙ there.there)) asked

    same : filter (is_part n s) (keys y) ≡ filter (is_part n s) (keys x)
    same = same_names (filter (is_part n s) (keys y)) (filter (is_part n s) (keys x)) (filter_ascends Before (is_part n s) (keys y) (keys_ascend y)) (filter_ascends Before (is_part n s) (keys x) (keys_ascend x))
        (λ q mem. moved y x (λ r t. sym (stay r (not_own r t))) q mem) (λ q mem. moved x y (λ r t. stay r (not_own r t)) q mem)
