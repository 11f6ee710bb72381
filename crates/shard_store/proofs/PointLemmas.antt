-- Contents by their points.
use Rattle.std.proofs.Common.{◌≡◌, ◌⊎◌, inl, inr, ⊎_elim, ℤ, pos, negsuc, ◌≤ℤ◌, leb, arith, List, [], ◌∷◌, refl, sym, ap, subst, ◌∙◌, Option, Some, None, Bool, true, false, cond, not}
use Rattle.std.specs.FinMap as map
use Rattle.std.specs.FinMap.{get-retain_keys, get-remove}
use Rattle.std.specs.Ordering.{eq_by_cmp}
use Rattle.std.specs.Int.Signed.{≤ℤ_refl}
use Rattle.std.proofs.lemmas.Bool.{leb-true}
use Rattle.std.proofs.lemmas.Int.{ints}
use Rattle.m3_model.specs.Answers.{HasPoint}
use Rattle.m3_model.specs.Contents.{Contents, content_of, Holds, key_of, point_at, raised}
use Rattle.m3_model.specs.Keys.{key_cmp, key_cmp_total}
use Rattle.m3_model.specs.Members.{IsIn}
use Rattle.m3_model.specs.Reads.{Covers}
use Rattle.m3_model.specs.declared.point.Key.{Key}
use Rattle.m3_model.specs.declared.point.Point.{Point}
use Rattle.m3_model.proofs.Keyed.{key_cmp-IsAntisymmetric, true_of}
use Rattle.store_log.specs.listed_volumes.block_buffer.Held.{without}
use Rattle.store_log.specs.listed_volumes.block_buffer.Joins.{joined}
use Rattle.store_log.specs.listed_volumes.block_buffer.Taken.{is_settled, settled_at, settled_with}
use Rattle.store_log.proofs.listed_volumes_proofs.block_buffer_proofs.ContentLemmas.{same_key, tied_key}
use Rattle.store_log.proofs.listed_volumes_proofs.series_merge_proofs.JoinLemmas.{join_swap, joined_stays, joined_has, joined_from}
use Rattle.store_log.proofs.listed_volumes_proofs.shard_files_proofs.GainLemmas.{≤ℤ_trans, covers_itself}
use Rattle.store_log.proofs.listed_volumes_proofs.shard_files_proofs.ContentLemmas.{content_holds}

pub antisym : (a b : ℤ) → a ≤ℤ b → b ≤ℤ a → a ≡ b
antisym (pos a) (pos b) h g = let x = leb-true a b (true_of (leb a b) h.le) in let y = leb-true b a (true_of (leb b a) g.le) in let same : a ≡ b = omega (arith, x, y) in ap pos same
antisym (pos a) (negsuc b) h g = absurd h.le
antisym (negsuc a) (pos b) h g = absurd g.le
antisym (negsuc a) (negsuc b) h g = let x = leb-true b a (true_of (leb b a) h.le) in let y = leb-true a b (true_of (leb a b) g.le) in let same : a ≡ b = omega (arith, x, y) in ap negsuc same

pub has_holds : (c : Contents) (p : Point) → HasPoint c p → Holds c p
has_holds c p h = record { value = p.v; at_least = ≤ℤ_refl p.v; stands = h }

-- contents each of which holds the points of the other are the same
same_at : (c d : Contents) → ((p : Point) → HasPoint c p → Holds d p) → ((p : Point) → HasPoint d p → Holds c p) → (k : Key) (o q : Option ℤ) → map.get c k ≡ o → map.get d k ≡ q → o ≡ q
same_at c d to back k None None e f = refl
same_at c d to back k None (Some w) e f = let h = back (point_at k w) f in let s = h.stands in absurd (cc)
same_at c d to back k (Some v) None e f = let h = to (point_at k v) e in let s = h.stands in absurd (cc)
same_at c d to back k (Some v) (Some w) e f =
    let h = back (point_at k w) f in
    let g = to (point_at k v) e in
    let v_is : h.value ≡ v = some_same h.value v (sym h.stands ∙ e) in
    let w_is : g.value ≡ w = some_same g.value w (sym g.stands ∙ f) in
    ap Some (antisym v w (subst (λ (n : ℤ). v ≤ℤ n) w_is g.at_least) (subst (λ (n : ℤ). w ≤ℤ n) v_is h.at_least))
  where
    some_same : (a b : ℤ) → Some a ≡ Some b → a ≡ b
    some_same a b is = cc

pub same_by_points : (c d : Contents) → ((p : Point) → HasPoint c p → Holds d p) → ((p : Point) → HasPoint d p → Holds c p) → c ≡ d
same_by_points c d to back = map.same_map key_cmp_total key_cmp-IsAntisymmetric c d (λ k. same_at c d to back k (map.get c k) (map.get d k) refl refl)

-- what holds a point that covers another holds the other
pub holds_covered : (c : Contents) (ps : List Point) (p : Point) → Covers ps p → ((q : Point) → IsIn ps q → Holds c q) → Holds c p
holds_covered c ps p covers there =
    let h = there (record p { v = covers.value }) covers.stands in
    record { value = h.value; at_least = ≤ℤ_trans covers.at_least h.at_least; stands = h.stands }

-- ---- joins

-- what is in a content or among points is held where these are joined
pub joined_holds : (c : Contents) (ps : List Point) (p : Point) → HasPoint c p ⊎ IsIn ps p → Holds (joined c ps) p
joined_holds c ps p (inl here) = joined_stays ps c p (has_holds c p here)
joined_holds c ps p (inr there) = joined_has ps c p there

pub joined_source : (c : Contents) (ps : List Point) (p : Point) → HasPoint (joined c ps) p → HasPoint c p ⊎ IsIn ps p
joined_source c ps p h = joined_from ps c p h

-- a point that is raised before a join is raised after it
pub joined_raised : (c : Contents) (p : Point) (ps : List Point) → joined (raised c p) ps ≡ raised (joined c ps) p
joined_raised c p ps = join_swap (p ∷ []) ps c

-- joins are the same where each holds what the other has
pub same_joins : (c d : Contents) (ps qs : List Point) → ((p : Point) → HasPoint c p ⊎ IsIn ps p → Holds (joined d qs) p) → ((p : Point) → HasPoint d p ⊎ IsIn qs p → Holds (joined c ps) p) → joined c ps ≡ joined d qs
same_joins c d ps qs to back = same_by_points (joined c ps) (joined d qs) (λ p h. to p (joined_source c ps p h)) (λ p h. back p (joined_source d qs p h))

-- ---- contents with some keys, and without them

module _ (c : Contents) (test : Key → Bool) where
  get-kept : (k : Key) → map.get (map.retain_keys c test) k ≡ cond (test k) (map.get c k) None
  get-kept k = get-retain_keys c test k (λ x e. ap test (sym (key_cmp-IsAntisymmetric k x e)))

  pub kept_has : (p : Point) → HasPoint c p → test (key_of p) ≡ true → HasPoint (map.retain_keys c test) p
  kept_has p h t = get-kept (key_of p) ∙ ap (λ b. cond b (map.get c (key_of p)) None) t ∙ h

  pub has_kept : (p : Point) → HasPoint (map.retain_keys c test) p → HasPoint c p × (test (key_of p) ≡ true)
  has_kept p h = by (test (key_of p)) refl
    where
      by : (b : Bool) → test (key_of p) ≡ b → HasPoint c p × (test (key_of p) ≡ true)
      by true t = (sym (get-kept (key_of p) ∙ ap (λ b. cond b (map.get c (key_of p)) None) t) ∙ h, t)
      by false t = let bad : None ≡ Some p.v = sym (get-kept (key_of p) ∙ ap (λ b. cond b (map.get c (key_of p)) None) t) ∙ h in absurd (cc)

pub has_fewer : (c : Contents) (test : Key → Bool) (p : Point) → HasPoint (without c test) p → HasPoint c p
has_fewer c test p h = (has_kept c (λ k. not (test k)) p h).0

not_passed : (b : Bool) → not b ≡ true → b ≡ false
not_passed true e = absurd (cc)
not_passed false e = refl

pub has_untested : (c : Contents) (test : Key → Bool) (p : Point) → HasPoint (without c test) p → test (key_of p) ≡ false
has_untested c test p h = not_passed (test (key_of p)) (has_kept c (λ k. not (test k)) p h).1

pub fewer_has : (c : Contents) (test : Key → Bool) (p : Point) → HasPoint c p → test (key_of p) ≡ false → HasPoint (without c test) p
fewer_has c test p h t = kept_has c (λ k. not (test k)) p h (ap not t)

-- a point of the content passes the test, or is in the content without those that do
pub parted : (c : Contents) (test : Key → Bool) (p : Point) → HasPoint c p → HasPoint (map.retain_keys c test) p ⊎ HasPoint (without c test) p
parted c test p h = by (test (key_of p)) refl
  where
    by : (b : Bool) → test (key_of p) ≡ b → HasPoint (map.retain_keys c test) p ⊎ HasPoint (without c test) p
    by true t = inl (kept_has c test p h t)
    by false t = inr (fewer_has c test p h t)

-- ---- points that are settled

module _ (c : Contents) (q : Point) where
  abbrev gone : Bool
  gone = is_settled (map.get c (key_of q)) q.v

  get-gone : (k : Key) → map.get (map.remove c (key_of q)) k ≡ cond (eq_by_cmp key_cmp k (key_of q)) None (map.get c k)
  get-gone k = get-remove key_cmp_total c (key_of q) k

  at_key : (p : Point) (b : Bool) → eq_by_cmp key_cmp (key_of p) (key_of q) ≡ b → HasPoint (map.remove c (key_of q)) p → HasPoint c p × (q ≡ p → ⊥)
  at_key p true t h = let bad : None ≡ Some p.v = sym (get-gone (key_of p) ∙ ap (λ b. cond b None (map.get c (key_of p))) t) ∙ h in absurd (cc)
  at_key p false t h = (
    sym (get-gone (key_of p) ∙ ap (λ b. cond b None (map.get c (key_of p))) t) ∙ h,
    λ e. let bad : true ≡ false = sym (same_key (key_of p)) ∙ ap (λ (x : Point). eq_by_cmp key_cmp (key_of p) (key_of x)) (sym e) ∙ t in cc,
  )

  itself : (v : ℤ) → is_settled (Some v) v ≡ true
  itself v = grind (arith, ints)

  one_settled : (p : Point) → HasPoint (settled_at c q) p → HasPoint c p × (q ≡ p → ⊥)
  one_settled p h = by gone refl h
    where
      by : (b : Bool) → gone ≡ b → HasPoint (cond b (map.remove c (key_of q)) c) p → HasPoint c p × (q ≡ p → ⊥)
      by true t h = at_key p (eq_by_cmp key_cmp (key_of p) (key_of q)) refl h
      by false t h = (
        h,
        λ e.
            let there : map.get c (key_of q) ≡ Some q.v = subst (HasPoint c) (sym e) h in
            let bad : true ≡ false = sym (itself q.v) ∙ ap (λ o. is_settled o q.v) (sym there) ∙ t in cc,
      )

  up_to : (w v : ℤ) → is_settled (Some w) v ≡ true → w ≤ℤ v
  up_to w v e = grind (arith, ints, e)

  one_left : (p : Point) → HasPoint c p → HasPoint (settled_at c q) p ⊎ ((key_of q ≡ key_of p) × (p.v ≤ℤ q.v))
  one_left p h = by gone refl
    where
      apart : (b : Bool) → eq_by_cmp key_cmp (key_of p) (key_of q) ≡ b → gone ≡ true → HasPoint (map.remove c (key_of q)) p ⊎ ((key_of q ≡ key_of p) × (p.v ≤ℤ q.v))
      apart true t g =
          let same : key_of p ≡ key_of q = tied_key (key_of p) (key_of q) t in
          let there : map.get c (key_of q) ≡ Some p.v = ap (map.get c) (sym same) ∙ h in
          inr (sym same, up_to p.v q.v (ap (λ o. is_settled o q.v) (sym there) ∙ g))
      apart false t g = inl (get-gone (key_of p) ∙ ap (λ b. cond b None (map.get c (key_of p))) t ∙ h)

      by : (b : Bool) → gone ≡ b → HasPoint (cond b (map.remove c (key_of q)) c) p ⊎ ((key_of q ≡ key_of p) × (p.v ≤ℤ q.v))
      by true t = apart (eq_by_cmp key_cmp (key_of p) (key_of q)) refl t
      by false t = inl h

-- what is left was there, and is none of the points
pub settled_source : (ps : List Point) (c : Contents) (p : Point) → HasPoint (settled_with c ps) p → HasPoint c p × (IsIn ps p → ⊥)
settled_source [] c p h = (h, λ m. m)
settled_source (q ∷ ps) c p h =
    let later = settled_source ps (settled_at c q) p h in
    let one = one_settled c q p later.0 in
    (one.0, λ m. ⊎_elim (λ (e : q ≡ p). one.1 e) (λ (rest : IsIn ps p). later.1 rest) m)

-- what was there is left, or one of the points covers it
pub settled_covers : (ps : List Point) (c : Contents) (p : Point) → HasPoint c p → HasPoint (settled_with c ps) p ⊎ Covers ps p
settled_covers [] c p h = inl h
settled_covers (q ∷ ps) c p h =
    ⊎_elim (λ (left : HasPoint (settled_at c q) p). ⊎_elim (λ (l : HasPoint (settled_with (settled_at c q) ps) p). inl l) (λ (covers : Covers ps p). let v = covers.value in inr (record { value = v; at_least = covers.at_least; stands = inr covers.stands })) (settled_covers ps (settled_at c q) p left))
    (λ (gone : (key_of q ≡ key_of p) × (p.v ≤ℤ q.v)).
    let is : q ≡ record p { v = q.v } = λ i. record { ns = (gone.0 i).ns; id = (gone.0 i).id; t = (gone.0 i).t; v = q.v } in
    inr (record { value = q.v; at_least = gone.1; stands = inl is })) (one_left c q p h)

-- points that are settled by some of them, joined with these again, stand for the same
pub settled_joins : (all ps : List Point) → ((p : Point) → IsIn ps p → IsIn all p) → joined (settled_with (content_of all) ps) ps ≡ content_of all
settled_joins all ps among =
    same_by_points (joined (settled_with (content_of all) ps) ps) (content_of all)
    (λ p h. ⊎_elim (λ (left : HasPoint (settled_with (content_of all) ps) p). has_holds (content_of all) p (settled_source ps (content_of all) p left).0)
    (λ (m : IsIn ps p). content_holds all p (covers_itself all p (among p m))) (joined_source (settled_with (content_of all) ps) ps p h))
    (λ p h. ⊎_elim (λ (left : HasPoint (settled_with (content_of all) ps) p). joined_holds (settled_with (content_of all) ps) ps p (inl left))
    (λ (covers : Covers ps p). holds_covered (joined (settled_with (content_of all) ps) ps) ps p covers (λ q m. joined_holds (settled_with (content_of all) ps) ps q (inr m))) (settled_covers ps (content_of all) p h))
