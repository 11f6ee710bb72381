-- What a tick takes away, and how much of the content that is.
use Rattle.std.proofs.Common.{◌≡◌, ◌⊎◌, inl, inr, ⊎_elim, ℕ, ℤ, ◌+◌, ◌<◌, List, [], ◌∷◌, ◌++◌, map, refl, sym, ap, subst, ◌∙◌, arith, Bool, true, false, cond, not, ◌&&◌, Some, None, Option}
use Rattle.std.specs.Prelude.{◌==◌, filter, slice_get}
use Rattle.std.proofs.lemmas.Bool.{eqb-true, eq-eqb, leb-true, le-leb}
use Rattle.std.proofs.lemmas.List.Sums.{fold-append}
use Rattle.m3_model.specs.Answers.{HasPoint}
use Rattle.m3_model.specs.Contents.{Contents, Holds, key_of, raised}
use Rattle.m3_model.specs.Members.{IsIn}
use Rattle.m3_model.specs.declared.limits.TheConstants.{TIME_END}
use Rattle.m3_model.specs.declared.point.Key.{Key}
use Rattle.m3_model.specs.declared.point.Point.{Point}
use Rattle.m3_model.specs.declared.point.Series.{Series}
use Rattle.m3_model.specs.declared.rules.Rules.{Rules}
use Rattle.m3_model.specs.declared.rules.Space.{Space}
use Rattle.m3_model.proofs.MemberLemmas.{IsIn-append_left, IsIn-append_right, IsIn-append_cases, IsIn-map, map-IsIn}
use Rattle.m3_outside.specs.Files.{Files}
use Rattle.store_log.specs.listed_volumes.block_buffer.Held.{has_ended, has_expired, without}
use Rattle.store_log.specs.listed_volumes.block_buffer.Joins.{joined}
use Rattle.store_log.proofs.listed_volumes_proofs.block_buffer_proofs.BlockLemmas.{any-IsIn, IsIn-any}
use Rattle.store_log.specs.listed_volumes.wire_bytes.Volumes.{VolumeHead, Checkpoint, points_of_row, points_of_rows}
use Rattle.store_log.specs.listed_volumes.volume_bytes.declared.heads.Head.{Head}
use Rattle.store_log.specs.listed_volumes.volume_bytes.Heads.{head_of}
use Rattle.store_log.specs.listed_volumes.shard_files.Parts.{KnownVolume, VolumeHolds, VolumesAre, counted_volumes, part_name, part_of}
use Rattle.store_log.specs.listed_volumes.shard_files.FilesHold.{points_known, volume_points}
use Rattle.store_log.proofs.listed_volumes_proofs.shard_files_proofs.CountedLemmas.{IsIn-filter, chosen, filter-IsIn, both}
use Rattle.store_log.proofs.listed_volumes_proofs.shard_files_proofs.PartLemmas.{one_known}
use Rattle.store_log.proofs.listed_volumes_proofs.shard_files_proofs.VolumeSteps.{of_known}
use Rattle.store_log.specs.snapshot_steps.volume_steps.Known.{HaveContent}
use Rattle.store_log.specs.snapshot_steps.volume_steps.KnownLists.{is_volume_at, is_one_of, without_volumes}
use Rattle.store_log.proofs.snapshot_steps_proofs.volume_steps_proofs.KnownLemmas.{points_of_known, known_of_points}
use Rattle.store_log.proofs.snapshot_steps_proofs.volume_steps_proofs.LawLemmas.{join_is_there}
use Rattle.shard_store.specs.Stores.{joined_with}
use Rattle.shard_store.specs.Ticks.{has_outlived, live_volumes, ticked_content}
use Rattle.shard_store.proofs.BlockLemmas.{more_points}
use Rattle.shard_store.proofs.PointLemmas.{has_fewer, has_untested, fewer_has, joined_holds, joined_source, same_by_points, same_joins}

-- ---- volumes that go and volumes that stay

module _ (rules : Rules) (ks : List KnownVolume) where
  abbrev going : List KnownVolume
  going = filter (has_outlived rules) ks

  abbrev staying : List KnownVolume
  staying = live_volumes rules ks

  -- together they are all
  pub parts_joined : (m : Contents) → joined (joined m (volume_points going)) (volume_points staying) ≡ joined_with m ks
  parts_joined m =
      sym (fold-append raised m (volume_points going) (volume_points staying))
      ∙ same_joins m m (volume_points going ++ volume_points staying) (volume_points ks)
      (λ p s. joined_holds m (volume_points ks) p (⊎_elim (λ (h : HasPoint m p). inl h) (λ (v : IsIn (volume_points going ++ volume_points staying) p). inr (⊎_elim
      (λ (g : IsIn (volume_points going) p). more_points going ks (λ k mem. IsIn-filter (has_outlived rules) ks k mem) p g)
      (λ (t : IsIn (volume_points staying) p). more_points staying ks (λ k mem. IsIn-filter (λ j. not (has_outlived rules j)) ks k mem) p t) (IsIn-append_cases (volume_points going) (volume_points staying) p v))) s))
      (λ p s. joined_holds m (volume_points going ++ volume_points staying) p (⊎_elim (λ (h : HasPoint m p). inl h) (λ (v : IsIn (volume_points ks) p). inr (of_one p (points_of_known ks p v))) s))
    where
      of_one : (p : Point) → ((k : KnownVolume) × IsIn ks k × IsIn (points_known k) p) → IsIn (volume_points going ++ volume_points staying) p
      of_one p k = by (has_outlived rules k.0) refl
        where
          by : (b : Bool) → has_outlived rules k.0 ≡ b → IsIn (volume_points going ++ volume_points staying) p
          by true t = IsIn-append_left (volume_points going) (volume_points staying) p (known_of_points going k.0 p (filter-IsIn (has_outlived rules) ks k.0 k.1 t) k.2)
          by false t = IsIn-append_right (volume_points going) (volume_points staying) p (known_of_points staying k.0 p (filter-IsIn (λ j. not (has_outlived rules j)) ks k.0 k.1 (ap not t)) k.2)

  module _ (x : Files) (are : VolumesAre ks x) where
    one_of_name : (j k : KnownVolume) → IsIn ks j → IsIn ks k → j.head.ns ≡ k.head.ns → j.head.start ≡ k.head.start → j.head.number ≡ k.head.number → j ≡ k
    one_of_name j k a b e f g =
        let one = of_known x (counted_volumes x) ks are j a in
        let two = of_known x (counted_volumes x) ks are k b in
        let same : part_of Checkpoint k.head ≡ part_of Checkpoint j.head = λ i. part_name Checkpoint (sym e i) (sym f i) (sym g i) in
        one_known x one.0 j k one.2 (record { named = one.2.named ∙ sym same; holds = two.2.holds })

    holds : (k : KnownVolume) → IsIn ks k → VolumeHolds k.head k.rows x
    holds k mem = let n = of_known x (counted_volumes x) ks are k mem in n.2.holds

    row_in : (ns : ℕ) (rows : List Series) (p : Point) → IsIn (points_of_rows ns rows) p → (s : Series) × IsIn rows s × IsIn (points_of_row ns s) p
    row_in ns [] p m = absurd m
    row_in ns (s ∷ rows) p m = ⊎_elim (λ (here : IsIn (points_of_row ns s) p). (s, inl refl, here)) (λ (rest : IsIn (points_of_rows ns rows) p). let later = row_in ns rows p rest in (later.0, inr later.1, later.2)) (IsIn-append_cases (points_of_row ns s) (points_of_rows ns rows) p m)

    -- a point of a volume is of its namespace, before the end of its block and before the end of time
    at_volume : (k : KnownVolume) → IsIn ks k → (p : Point) → IsIn (points_known k) p → (p.ns ≡ k.head.ns) × (p.t < k.head.start + k.head.size) × (p.t < TIME_END)
    at_volume k mem p q =
        let s = row_in k.head.ns k.rows p q in
        let row = (holds k mem).values.row s.0 s.1 in
        let y = IsIn-map (λ (y : ℕ × ℤ). record { ns = k.head.ns; id = s.0.id; t = y.0; v = y.1 }) s.0.points p s.2 in
        (ap (λ (r : Point). r.ns) (sym y.2), subst (λ (t : ℕ). t < k.head.start + k.head.size) (ap (λ (r : Point). r.t) y.2) (row.high y.0 y.1), subst (λ (t : ℕ). t < TIME_END) (ap (λ (r : Point). r.t) y.2) (row.time y.0 y.1))

    -- all points of a volume that goes have expired
    pub outlived_expired : (k : KnownVolume) → IsIn ks k → has_outlived rules k ≡ true → (p : Point) → IsIn (points_known k) p → has_expired rules (key_of p) ≡ true
    outlived_expired k mem t p q = let at = at_volume k mem p q in by (slice_get rules.spaces k.head.ns) refl t at.0 at.1
      where
        by : (o : Option Space) → slice_get rules.spaces k.head.ns ≡ o → has_ended o rules.now (k.head.start + k.head.size) ≡ true → p.ns ≡ k.head.ns → p.t < k.head.start + k.head.size → has_ended (slice_get rules.spaces p.ns) rules.now p.t ≡ true
        by None e t space low = absurd (cc)
        by (Some s) e t space low =
            let past = leb-true (k.head.start + k.head.size + s.retention) rules.now t in
            ap (λ n. has_ended (slice_get rules.spaces n) rules.now p.t) space ∙ ap (λ o. has_ended o rules.now p.t) e ∙ le-leb (p.t + s.retention) rules.now (omega (arith, past, low))

    module _ (goes : List Head) (goes_are : map head_of goes ≡ map (λ k. k.head) going) where
      at_of : (a b c : ℕ) (k : KnownVolume) → is_volume_at a b c k ≡ true → (k.head.ns ≡ a) × (k.head.start ≡ b) × (k.head.number ≡ c)
      at_of a b c k t =
          let outer = both (k.head.ns == a) ((k.head.start == b) && (k.head.number == c)) t in
          let inner = both (k.head.start == b) (k.head.number == c) outer.1 in
          (eqb-true k.head.ns a outer.0, eqb-true k.head.start b inner.0, eqb-true k.head.number c inner.1)

      gone_outlived : (k : KnownVolume) → IsIn ks k → is_one_of goes k ≡ true → has_outlived rules k ≡ true
      gone_outlived k mem t =
          let h = any-IsIn (λ (g : Head). is_volume_at g.ns g.start g.number k) goes t in
          let at = at_of h.0.ns h.0.start h.0.number k h.2 in
          let listed : IsIn (map (λ (j : KnownVolume). j.head) going) (head_of h.0) = subst (λ (l : List VolumeHead). IsIn l (head_of h.0)) goes_are (map-IsIn head_of goes h.0 h.1) in
          let j = IsIn-map (λ (j : KnownVolume). j.head) going (head_of h.0) listed in
          let same = one_of_name j.0 k (IsIn-filter (has_outlived rules) ks j.0 j.1) mem (ap (λ (v : VolumeHead). v.ns) j.2 ∙ sym at.0) (ap (λ (v : VolumeHead). v.start) j.2 ∙ sym at.1) (ap (λ (v : VolumeHead). v.number) j.2 ∙ sym at.2) in
          subst (λ (i : KnownVolume). has_outlived rules i ≡ true) same (chosen (has_outlived rules) ks j.0 j.1)

      outlived_gone : (k : KnownVolume) → IsIn ks k → has_outlived rules k ≡ true → is_one_of goes k ≡ true
      outlived_gone k mem t =
          let listed : IsIn (map head_of goes) k.head = subst (λ (l : List VolumeHead). IsIn l k.head) (sym goes_are) (map-IsIn (λ (j : KnownVolume). j.head) going k (filter-IsIn (has_outlived rules) ks k mem t)) in
          let h = IsIn-map head_of goes k.head listed in
          IsIn-any (λ (g : Head). is_volume_at g.ns g.start g.number k) goes h.0 h.1 (at_itself h.0 h.2)
        where
          at_itself : (h : Head) → head_of h ≡ k.head → is_volume_at h.ns h.start h.number k ≡ true
          at_itself h e =
              let a : (k.head.ns == h.ns) ≡ true = eq-eqb k.head.ns h.ns (ap (λ (v : VolumeHead). v.ns) (sym e)) in
              let b : (k.head.start == h.start) ≡ true = eq-eqb k.head.start h.start (ap (λ (v : VolumeHead). v.start) (sym e)) in
              let c : (k.head.number == h.number) ≡ true = eq-eqb k.head.number h.number (ap (λ (v : VolumeHead). v.number) (sym e)) in
              cc

      filter_same : (p q : KnownVolume → Bool) (js : List KnownVolume) → ((k : KnownVolume) → IsIn js k → p k ≡ q k) → filter p js ≡ filter q js
      filter_same p q [] same = refl
      filter_same p q (j ∷ js) same = (λ i. cond (same j (inl refl) i) (j ∷ filter p js) (filter p js)) ∙ ap (λ l. cond (q j) (j ∷ l) l) (filter_same p q js (λ k mem. same k (inr mem)))

      -- without the ones that go are the ones that stay
      pub without_going : without_volumes goes ks ≡ staying
      without_going = filter_same (λ k. not (is_one_of goes k)) (λ k. not (has_outlived rules k)) ks (λ k mem. ap not (alike k mem (is_one_of goes k) (has_outlived rules k) refl refl))
        where
          alike : (k : KnownVolume) → IsIn ks k → (a b : Bool) → is_one_of goes k ≡ a → has_outlived rules k ≡ b → a ≡ b
          alike k mem true true e f = refl
          alike k mem false false e f = refl
          alike k mem true false e f = let bad : true ≡ false = sym (gone_outlived k mem e) ∙ f in cc
          alike k mem false true e f = let bad : true ≡ false = sym (outlived_gone k mem f) ∙ e in cc

    -- ---- what is left

    abbrev expired : Key → Bool
    expired = has_expired rules

    -- what hasn't expired stands without the volumes that go
    pub have_live : (m : Contents) → HaveContent (without m expired) staying (without (joined_with m ks) expired)
    have_live m p h = by (join_is_there m ks p (has_fewer (joined_with m ks) expired p h))
      where
        live : expired (key_of p) ≡ false
        live = has_untested (joined_with m ks) expired p h

        of_volume : (k : KnownVolume) → IsIn ks k → IsIn (points_known k) p → (b : Bool) → has_outlived rules k ≡ b → IsIn (volume_points staying) p
        of_volume k mem q true t = let bad : true ≡ false = sym (outlived_expired k mem t p q) ∙ live in absurd (cc)
        of_volume k mem q false t = known_of_points staying k p (filter-IsIn (λ j. not (has_outlived rules j)) ks k mem (ap not t)) q

        by : HasPoint m p ⊎ IsIn (volume_points ks) p → HasPoint (without m expired) p ⊎ IsIn (volume_points staying) p
        by (inl here) = inl (fewer_has m expired p here live)
        by (inr v) = let k = points_of_known ks p v in inr (of_volume k.0 k.1 k.2 (has_outlived rules k.0) refl)

    -- the rest of the content is as before
    pub live_same : (m : Contents) → without (ticked_content rules m ks) expired ≡ without (joined_with m ks) expired
    live_same m = same_by_points _ _
        (λ p h. at_top p (has_fewer (ticked_content rules m ks) expired p h) (has_untested (ticked_content rules m ks) expired p h))
        (λ p h.
        let there = have_live m p h in
        let live = has_untested (joined_with m ks) expired p h in
        let high = joined_holds (without m expired) (volume_points staying) p there in
        record { value = high.value; at_least = high.at_least; stands = fewer_has (ticked_content rules m ks) expired (record p { v = high.value }) high.stands live })
      where
        at_top : (p : Point) → HasPoint (ticked_content rules m ks) p → expired (key_of p) ≡ false → Holds (without (joined_with m ks) expired) p
        at_top p h live =
            let stands = ⊎_elim (λ (here : HasPoint (without m expired) p). joined_holds m (volume_points ks) p (inl (has_fewer m expired p here)))
            (λ (v : IsIn (volume_points staying) p). joined_holds m (volume_points ks) p (inr (more_points staying ks (λ k mem. IsIn-filter (λ j. not (has_outlived rules j)) ks k mem) p v))) (joined_source (without m expired) (volume_points staying) p h) in
            record { value = stands.value; at_least = stands.at_least; stands = fewer_has (joined_with m ks) expired (record p { v = stands.value }) stands.stands live }
