-- Lists of points that stand for one content.
use Rattle.std.proofs.Common.{◌≡◌, ◌⊎◌, inl, inr, ⊎_elim, ℤ, pos, negsuc, ◌≤ℤ◌, leb, arith, List, [], ◌∷◌, ◌++◌, refl, sym, ap, subst, ◌∙◌, Option, Some, None}
use Rattle.std.specs.Prelude.{fold}
use Rattle.std.proofs.lemmas.List.Sums.{fold-append}
use Rattle.std.proofs.lemmas.Option.{none-some, same_Some}
use Rattle.std.proofs.lemmas.Bool.{leb-true}
use Rattle.commit_log.proofs.m3_model_proofs.Keyed.{true_of}
use Rattle.std.specs.FinMap as map
use Rattle.commit_log.specs.m3_model.Contents.{Contents, raised, content_of, Holds, key_of, point_at}
use Rattle.commit_log.specs.m3_model.Keys.{key_cmp, key_cmp_total}
use Rattle.commit_log.proofs.m3_model_proofs.Keyed.{key_cmp-IsAntisymmetric}
use Rattle.commit_log.specs.m3_model.Members.{IsIn}
use Rattle.commit_log.specs.m3_model.Reads.{Covers}
use Rattle.commit_log.specs.m3_model.declared.point.Key.{Key}
use Rattle.commit_log.specs.m3_model.declared.point.Point.{Point}
use Rattle.commit_log.proofs.m3_model_proofs.JoinLemmas.{raised_holds, raised_keeps, raised_source}
use Rattle.commit_log.proofs.m3_model_proofs.MemberLemmas.{IsIn-append_left, IsIn-append_right, IsIn-append_cases}
use Rattle.shard_files.specs.HeldLaws.{GrownIsJoined}
use Rattle.shard_files.proofs.GainLemmas.{covers_itself, ≤ℤ_trans}

fold_keeps : (ps : List Point) (c : Contents) (p : Point) → Holds c p → Holds (fold raised c ps) p
fold_keeps [] c p holds = holds
fold_keeps (q ∷ ps) c p holds = fold_keeps ps (raised c q) p (raised_keeps c q p holds)

fold_holds : (ps : List Point) (c : Contents) (p : Point) → IsIn ps p → Holds (fold raised c ps) p
fold_holds [] c p m = absurd m
fold_holds (q ∷ ps) c p (inl same) = fold_keeps ps (raised c q) p (subst (λ (x : Point). Holds (raised c q) x) same (raised_holds c q))
fold_holds (q ∷ ps) c p (inr m) = fold_holds ps (raised c q) p m

fold_source : (ps : List Point) (c : Contents) (k : Key) (v : ℤ) → map.get (fold raised c ps) k ≡ Some v → IsIn ps (point_at k v) ⊎ (map.get c k ≡ Some v)
fold_source [] c k v e = inr e
fold_source (q ∷ ps) c k v e =
    ⊎_elim (λ (m : IsIn ps (point_at k v)). inl (inr m))
    (λ (was : map.get (raised c q) k ≡ Some v). ⊎_elim (λ (here : q ≡ point_at k v). inl (inl here)) (λ (before : map.get c k ≡ Some v). inr before) (raised_source c q k v was)) (fold_source ps (raised c q) k v e)

-- what a list of points stands for has its points and no others
pub content_holds : (ps : List Point) (p : Point) → Covers ps p → Holds (content_of ps) p
content_holds ps p c =
    let there = fold_holds ps map.empty (record p { v = c.value }) c.stands in
    record { value = there.value; at_least = ≤ℤ_trans c.at_least there.at_least; stands = there.stands }

pub content_source : (ps : List Point) (k : Key) (v : ℤ) → map.get (content_of ps) k ≡ Some v → IsIn ps (point_at k v)
content_source ps k v e = ⊎_elim (λ (m : IsIn ps (point_at k v)). m) (λ (none : map.get (let e : Contents = map.empty in e) k ≡ Some v). absurd (none-some v (sym (map.get-empty key_cmp k) ∙ none))) (fold_source ps map.empty k v e)

pub content_covers : (ps : List Point) (p : Point) → Holds (content_of ps) p → Covers ps p
content_covers ps p h = record { value = h.value; at_least = h.at_least; stands = content_source ps (key_of p) h.value h.stands }

antisym : (a b : ℤ) → a ≤ℤ b → b ≤ℤ a → a ≡ b
antisym (pos a) (pos b) h g = let x = leb-true a b (true_of (leb a b) h.le) in let y = leb-true b a (true_of (leb b a) g.le) in let same : a ≡ b = omega (arith, x, y) in ap pos same
antisym (pos a) (negsuc b) h g = absurd h.le
antisym (negsuc a) (pos b) h g = absurd g.le
antisym (negsuc a) (negsuc b) h g = let x = leb-true b a (true_of (leb b a) h.le) in let y = leb-true a b (true_of (leb a b) g.le) in let same : a ≡ b = omega (arith, x, y) in ap negsuc same

-- lists that cover one another stand for the same
same_at : (xs ys : List Point) → ((p : Point) → IsIn xs p → Covers ys p) → ((p : Point) → IsIn ys p → Covers xs p) → (k : Key) (o q : Option ℤ) → map.get (content_of xs) k ≡ o → map.get (content_of ys) k ≡ q → o ≡ q
same_at xs ys to back k None None e f = refl
same_at xs ys to back k None (Some w) e f = let h = content_holds xs (point_at k w) (back (point_at k w) (content_source ys k w f)) in let s = h.stands in absurd (cc)
same_at xs ys to back k (Some v) None e f = let h = content_holds ys (point_at k v) (to (point_at k v) (content_source xs k v e)) in let s = h.stands in absurd (cc)
same_at xs ys to back k (Some v) (Some w) e f =
    let h = content_holds xs (point_at k w) (back (point_at k w) (content_source ys k w f)) in
    let g = content_holds ys (point_at k v) (to (point_at k v) (content_source xs k v e)) in
    let v_is : h.value ≡ v = same_Some h.value v (sym h.stands ∙ e) in
    let w_is : g.value ≡ w = same_Some g.value w (sym g.stands ∙ f) in
    ap Some (antisym v w (subst (λ (n : ℤ). v ≤ℤ n) w_is g.at_least) (subst (λ (n : ℤ). w ≤ℤ n) v_is h.at_least))

pub same_content : (xs ys : List Point) → ((p : Point) → IsIn xs p → Covers ys p) → ((p : Point) → IsIn ys p → Covers xs p) → content_of xs ≡ content_of ys
same_content xs ys to back = map.same_map key_cmp_total key_cmp-IsAntisymmetric (content_of xs) (content_of ys) (λ k. same_at xs ys to back k (map.get (content_of xs) k) (map.get (content_of ys) k) refl refl)

-- those of the points that a gain brought: each stands now, and each point that stands now is one of them or from before
record IsSplit (before gained now : List Point) : Type 0 where
  pub part : List Point
  pub of_gain : (p : Point) → IsIn part p → IsIn gained p
  pub of_now : (p : Point) → IsIn part p → IsIn now p
  pub all : (p : Point) → IsIn now p → IsIn before p ⊎ IsIn part p

split_of : (before gained now : List Point) → ((p : Point) → IsIn now p → IsIn before p ⊎ IsIn gained p) → IsSplit before gained now
split_of before gained [] from = record { part = []; of_gain = λ p m. absurd m; of_now = λ p m. absurd m; all = λ p m. absurd m }
split_of before gained (q ∷ now) from = add (from q (inl refl)) (split_of before gained now (λ p m. from p (inr m)))
  where
    add : IsIn before q ⊎ IsIn gained q → IsSplit before gained now → IsSplit before gained (q ∷ now)
    add (inl old) rest = record {
      part = rest.part;
      of_gain = rest.of_gain;
      of_now = λ p m. inr (rest.of_now p m);
      all = λ p m. ⊎_elim (λ (same : q ≡ p). inl (subst (IsIn before) same old)) (λ (later : IsIn now p). rest.all p later) m;
    }
    add (inr new) rest = record {
      part = q ∷ rest.part;
      of_gain = λ p m. ⊎_elim (λ (same : q ≡ p). subst (IsIn gained) same new) (λ (later : IsIn rest.part p). rest.of_gain p later) m;
      of_now = λ p m. ⊎_elim (λ (same : q ≡ p). inl same) (λ (later : IsIn rest.part p). inr (rest.of_now p later)) m;
      all = λ p m. ⊎_elim (λ (same : q ≡ p). inr (inl same)) (λ (later : IsIn now p). ⊎_elim (λ (old : IsIn before p). inl old) (λ (n : IsIn rest.part p). inr (inr n)) (rest.all p later)) m;
    }

pub grown_is_joined : GrownIsJoined
grown_is_joined before now gain grows =
    let s = split_of before gain.points now grows.nothing_else in
    let same : content_of now ≡ content_of (before ++ s.part) = same_content now (before ++ s.part)
    (λ p m. covers_itself (before ++ s.part) p (⊎_elim (λ (old : IsIn before p). IsIn-append_left before s.part p old) (λ (new : IsIn s.part p). IsIn-append_right before s.part p new) (s.all p m)))
    (λ p m. ⊎_elim (λ (old : IsIn before p). covers_itself now p (grows.stays p old)) (λ (new : IsIn s.part p). covers_itself now p (s.of_now p new)) (IsIn-append_cases before s.part p m)) in
    record { part = s.part; of_gain = s.of_gain; joined = same ∙ fold-append raised map.empty before s.part }
