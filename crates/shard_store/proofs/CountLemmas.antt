-- How many keys a content has.
use Rattle.std.proofs.Common.{◌≡◌, inl, inr, ⊎_elim, ℕ, ◌+◌, ◌<◌, ◌≤◌, ℤ, List, [], ◌∷◌, ◌++◌, length, map, fold, refl, sym, ap, subst, ◌∙◌, arith, Bool, true, false, cond, Some, None, Option}
use Rattle.std.specs.Prelude.{is_some}
use Rattle.std.specs.FinMap as finite
use Rattle.std.specs.FinMap.{get, len, contains_key, len-insert, get-insert, len-empty, get-empty, retain_keys, entries}
use Rattle.std.specs.Ordering.{eq_by_cmp, nat_cmp}
use Rattle.std.specs.Cmp.Lexicographic.{slice_cmp}
use Rattle.std.specs.Cmp.{tied_itself}
use Rattle.std.proofs.lemmas.Cmp.{nat_list_cmp_total}
use Rattle.std.specs.declared.cmp.Ordering.TheVariants.{Less, Equal}
use Rattle.std.proofs.lemmas.List.Sums.{sum_by-cons}
use Rattle.m3_model.specs.Answers.{HasPoint, IsAnswer}
use Rattle.m3_model.specs.Ascends.{Ascends}
use Rattle.m3_model.specs.Contents.{Contents, content_of, higher, key_of, point_at, raised}
use Rattle.m3_model.specs.Keys.{key_cmp, key_cmp_total}
use Rattle.m3_model.specs.Members.{IsIn}
use Rattle.m3_model.specs.Reads.{IsOrdered, points_in}
use Rattle.m3_model.specs.Tags.{IsBelow}
use Rattle.m3_model.specs.declared.point.Key.{Key}
use Rattle.m3_model.specs.declared.point.Matcher.{Matcher}
use Rattle.m3_model.specs.declared.point.Pick.TheVariants as pick
use Rattle.m3_model.specs.declared.point.Point.{Point}
use Rattle.m3_model.specs.declared.point.Series.{Series}
use Rattle.m3_model.proofs.MemberLemmas.{IsIn-append_cases, IsIn-map, map-IsIn}
use Rattle.m3_model.proofs.FindLemmas.{entries_ascend, get-IsIn, IsIn-get}
use Rattle.m3_model.proofs.Keyed.{key_cmp-IsAntisymmetric}
use Rattle.store_log.specs.listed_volumes.block_buffer.Held.{without}
use Rattle.store_log.proofs.listed_volumes_proofs.shard_files_proofs.ContentLemmas.{content_holds}
use Rattle.store_log.proofs.listed_volumes_proofs.shard_files_proofs.GainLemmas.{covers_itself}
use Rattle.store_log.proofs.listed_volumes_proofs.block_buffer_proofs.ContentLemmas.{tied_key}
use Rattle.store_log.proofs.listed_volumes_proofs.held_points_proofs.ListLemmas.{ascends_append}
use Rattle.store_log.specs.listed_volumes.series_slots.Ranges.{IsRangeOf}
use Rattle.store_log.specs.listed_volumes.series_merge.Merges.{IsMergeOf}
use Rattle.store_log.proofs.listed_volumes_proofs.series_merge_proofs.OrderLemmas.{content_in, merge_joins}
use Rattle.store_log.proofs.listed_volumes_proofs.series_merge_proofs.JoinLemmas.{join_swap}
use Rattle.store_log.specs.listed_volumes.wire_bytes.Volumes.{count_of}
use Rattle.store_log.proofs.listed_volumes_proofs.AnswerLemmas.{block_is_range}
use Rattle.shard_store.specs.Ticks.{keys_in}
use Rattle.shard_store.proofs.PointLemmas.{has_fewer, has_holds, has_kept, has_untested, joined_holds, joined_source, parted, same_by_points}

-- ---- points that are raised

-- no key leaves
raised_more : (c : Contents) (p : Point) → len c ≤ len (raised c p)
raised_more c p = by (contains_key c (key_of p)) (len-insert key_cmp_total c (key_of p) (higher (get c (key_of p)) p.v))
  where
    by : (b : Bool) → len (raised c p) ≡ cond b (len c) (len c + 1) → len c ≤ len (raised c p)
    by true e = omega (arith, e)
    by false e = omega (arith, e)

pub joined_more : (ps : List Point) (c : Contents) → len c ≤ len (fold raised c ps)
joined_more [] c = omega arith
joined_more (p ∷ ps) c =
    let one = raised_more c p in
    let rest = joined_more ps (raised c p) in
    omega (arith, one, rest)

-- a new key is one more
raised_new : (c : Contents) (p : Point) → get c (key_of p) ≡ None → len (raised c p) ≡ len c + 1
raised_new c p none =
    let without : contains_key c (key_of p) ≡ false = ap is_some none in
    len-insert key_cmp_total c (key_of p) (higher (get c (key_of p)) p.v) ∙ ap (λ b. cond b (len c) (len c + 1)) without

raised_apart : (c : Contents) (q : Point) (k : Key) → (key_of q ≡ k → ⊥) → get (raised c q) k ≡ get c k
raised_apart c q k apart = get-insert key_cmp_total c (key_of q) (higher (get c (key_of q)) q.v) k ∙ by (eq_by_cmp key_cmp k (key_of q)) refl
  where
    by : (b : Bool) → eq_by_cmp key_cmp k (key_of q) ≡ b → cond b (Some (higher (get c (key_of q)) q.v)) (get c k) ≡ get c k
    by true t = absurd (apart (sym (tied_key k (key_of q) t)))
    by false t = refl

-- points of which no two have one key
abbrev pub AreDistinct : List Point → Type 0
AreDistinct ps = Ascends (λ p q. key_of p ≡ key_of q → ⊥) ps

len_distinct : (ps : List Point) (c : Contents) → AreDistinct ps → ((p : Point) → IsIn ps p → get c (key_of p) ≡ None) → len (fold raised c ps) ≡ len c + length ps
len_distinct [] c apart none = omega arith
len_distinct (p ∷ ps) c apart none =
    let one = raised_new c p (none p (inl refl)) in
    let rest = len_distinct ps (raised c p) apart.1 (λ q m. raised_apart c p (key_of q) (apart.0 q m) ∙ none q (inr m)) in
    omega (arith, one, rest)

-- ---- series in order

pairs_apart : (ns : ℕ) (id : List ℕ) (xs : List (ℕ × ℤ)) → Ascends (λ (a b : ℕ × ℤ). a.0 < b.0) xs → AreDistinct (map (λ (x : ℕ × ℤ). record { ns = ns; id = id; t = x.0; v = x.1 }) xs)
pairs_apart ns id [] up = tt
pairs_apart ns id (x ∷ xs) up = (
  (λ q m e.
      let y = IsIn-map (λ (x : ℕ × ℤ). record { ns = ns; id = id; t = x.0; v = x.1 }) xs q m in
      let later = up.0 y.0 y.1 in
      let time : x.0 ≡ y.0.0 = ap (λ (k : Key). k.t) e ∙ sym (ap (λ (r : Point). r.t) y.2) in
      omega (arith, later, time)),
  pairs_apart ns id xs up.1,
)

series_of : (ns : ℕ) (series : List Series) (q : Point) → IsIn (points_in ns series) q → (s : Series) × IsIn series s × (q.id ≡ s.id)
series_of ns [] q m = absurd m
series_of ns (s ∷ series) q m =
    ⊎_elim (λ (here : IsIn (map (λ (x : ℕ × ℤ). record { ns = ns; id = s.id; t = x.0; v = x.1 }) s.points) q).
    let x = IsIn-map (λ (x : ℕ × ℤ). record { ns = ns; id = s.id; t = x.0; v = x.1 }) s.points q here in
    (s, inl refl, ap (λ (r : Point). r.id) (sym x.2)))
    (λ (rest : IsIn (points_in ns series) q). let later = series_of ns series q rest in (later.0, inr later.1, later.2)) (IsIn-append_cases _ (points_in ns series) q m)

not_below : (x : List ℕ) → IsBelow x x → ⊥
not_below x h = let tied : slice_cmp nat_cmp x x ≡ Equal = tied_itself nat_list_cmp_total x in let bad : Less ≡ Equal = sym h ∙ tied in cc

rest_ordered : (s : Series) (series : List Series) → IsOrdered (s ∷ series) → IsOrdered series
rest_ordered s series h = record { ids = h.ids.1; times = λ r m. h.times r (inr m); none_empty = λ r m. h.none_empty r (inr m) }

pub series_apart : (ns : ℕ) (series : List Series) → IsOrdered series → AreDistinct (points_in ns series)
series_apart ns [] h = tt
series_apart ns (s ∷ series) h =
    ascends_append (λ (p q : Point). key_of p ≡ key_of q → ⊥) (map (λ (x : ℕ × ℤ). record { ns = ns; id = s.id; t = x.0; v = x.1 }) s.points) (points_in ns series) (pairs_apart ns s.id s.points (h.times s (inl refl))) (series_apart ns series (rest_ordered s series h))
    (λ p q m n e.
    let x = IsIn-map (λ (x : ℕ × ℤ). record { ns = ns; id = s.id; t = x.0; v = x.1 }) s.points p m in
    let r = series_of ns series q n in
    let same : s.id ≡ r.0.id = ap (λ (z : Point). z.id) x.2 ∙ ap (λ (k : Key). k.id) e ∙ r.2 in
    not_below s.id (subst (IsBelow s.id) (sym same) (h.ids.0 r.0 r.1)))

length_map : {X Y : Type 0} (f : X → Y) (xs : List X) → length (map f xs) ≡ length xs
length_map f [] = refl
length_map f (x ∷ xs) = let e = length_map f xs in omega (arith, e)

length_append : {X : Type 0} (xs ys : List X) → length (xs ++ ys) ≡ length xs + length ys
length_append [] ys = omega arith
length_append (x ∷ xs) ys = let e = length_append xs ys in omega (arith, e)

points_counted : (ns : ℕ) (series : List Series) → length (points_in ns series) ≡ count_of series
points_counted ns [] = refl
points_counted ns (s ∷ series) =
    length_append (map (λ (x : ℕ × ℤ). record { ns = ns; id = s.id; t = x.0; v = x.1 }) s.points) (points_in ns series)
    ∙ (λ i. length_map {Y = Point} (λ (x : ℕ × ℤ). record { ns = ns; id = s.id; t = x.0; v = x.1 }) s.points i + points_counted ns series i)
    ∙ sym (sum_by-cons (λ (r : Series). length r.points) s series)

-- an ordered list of series has as many keys as points
pub keys_counted : (ns : ℕ) (series : List Series) → IsOrdered series → len (content_of (points_in ns series)) ≡ count_of series
keys_counted ns series h =
    let all = len_distinct (points_in ns series) finite.empty (series_apart ns series h) (λ p m. get-empty key_cmp (key_of p)) in
    let none : len (let e : Contents = finite.empty in e) ≡ 0 = len-empty key_cmp ℤ in
    let points = points_counted ns series in
    omega (arith, all, none, points)

-- ---- answers without matchers

range_of_answer : (c : Contents) (ns end : ℕ) (series : List Series) → IsAnswer c (pick.Match ns []) 0 end series → (wanted : List Matcher) → IsRangeOf c (pick.Match ns wanted) 0 (0 + end) series
range_of_answer c ns end series a wanted = record {
  ordered = a.ordered;
  nothing_else = λ p m. let w = a.nothing_else p m in let low = w.in_range.1 in (w.stands, w.matches.0, (w.in_range.0, omega (arith, low)));
  whole = λ p stands space range. a.whole p (record { stands = stands; matches = (space, λ tags has q none. absurd none); in_range = (range.0, let low = range.1 in omega (arith, low)) });
}

-- the keys of the namespace below the end are counted by the answer
pub answer_counted : (c : Contents) (ns end : ℕ) (series : List Series) → IsAnswer c (pick.Match ns []) 0 end series → keys_in c ns end ≡ count_of series
answer_counted c ns end series a = ap len (sym (block_is_range c ns 0 end series (range_of_answer c ns end series a))) ∙ keys_counted ns series a.ordered

-- a merge has no fewer points than what was merged into it
pub merge_counted : (ns : ℕ) (one other series : List Series) → IsOrdered other → IsMergeOf one other series → count_of other ≤ count_of series
merge_counted ns one other series ordered merge =
    let all : content_of (points_in ns series) ≡ fold raised (content_of (points_in ns other)) (points_in ns one) = merge_joins ns one other series merge ∙ join_swap (points_in ns one) (points_in ns other) finite.empty in
    let more = joined_more (points_in ns one) (content_of (points_in ns other)) in
    let a = keys_counted ns other ordered in
    let b = keys_counted ns series merge.ordered in
    let c = ap len all in
    omega (arith, more, a, b, c)

-- ---- keys that pass a test, and the others

-- the points of a content
abbrev pub all_points : Contents → List Point
all_points c = map (λ e. point_at e.0 e.1) (entries c)

point_of : (c : Contents) (p : Point) → IsIn (all_points c) p → HasPoint c p
point_of c p m =
    let e = IsIn-map (λ (e : Key × ℤ). point_at e.0 e.1) (entries c) p m in
    let at : get c e.0.0 ≡ Some e.0.1 = IsIn-get key_cmp key_cmp_total key_cmp-IsAntisymmetric c e.0.0 e.0.1 e.1 in
    subst (HasPoint c) e.2 at

of_point : (c : Contents) (p : Point) → HasPoint c p → IsIn (all_points c) p
of_point c p h = map-IsIn (λ (e : Key × ℤ). point_at e.0 e.1) (entries c) (key_of p, p.v) (get-IsIn key_cmp key_cmp_total key_cmp-IsAntisymmetric c (key_of p) p.v h)

keys_apart : (es : List (Key × ℤ)) → Ascends (λ (a b : Key × ℤ). key_cmp a.0 b.0 ≡ Less) es → AreDistinct (map (λ e. point_at e.0 e.1) es)
keys_apart [] up = tt
keys_apart (e ∷ es) up = (
  (λ q m same.
      let f = IsIn-map (λ (f : Key × ℤ). point_at f.0 f.1) es q m in
      let keys : e.0 ≡ f.0.0 = same ∙ ap key_of (sym f.2) in
      let less : key_cmp e.0 e.0 ≡ Less = ap (key_cmp e.0) keys ∙ up.0 f.0 f.1 in
      let tied : key_cmp e.0 e.0 ≡ Equal = tied_itself key_cmp_total e.0 in
      let bad : Less ≡ Equal = sym less ∙ tied in cc),
  keys_apart es up.1,
)

points_apart : (c : Contents) → AreDistinct (all_points c)
points_apart c = keys_apart (entries c) (entries_ascend key_cmp key_cmp_total key_cmp-IsAntisymmetric c)

-- a content has so many keys as points
points_len : (c : Contents) → len c ≡ length (all_points c)
points_len c =
    let same : content_of (all_points c) ≡ c = same_by_points (content_of (all_points c)) c
    (λ p h. has_holds c p (point_of c p (content_in (all_points c) p h)))
    (λ p h. content_holds (all_points c) p (covers_itself (all_points c) p (of_point c p h))) in
    let all = len_distinct (all_points c) finite.empty (points_apart c) (λ p m. get-empty key_cmp (key_of p)) in
    let none : len (let e : Contents = finite.empty in e) ≡ 0 = len-empty key_cmp ℤ in
    let is = ap len same in
    omega (arith, all, none, is)

pub len_parts : (c : Contents) (test : Key → Bool) → len (without c test) + len (retain_keys c test) ≡ len c
len_parts c test =
    let ps = all_points (retain_keys c test) in
    let same : fold raised (without c test) ps ≡ c = same_by_points (fold raised (without c test) ps) c
    (λ p h. ⊎_elim (λ (out : HasPoint (without c test) p). has_holds c p (has_fewer c test p out)) (λ (m : IsIn ps p). has_holds c p (has_kept c test p (point_of (retain_keys c test) p m)).0) (joined_source (without c test) ps p h))
    (λ p h. joined_holds (without c test) ps p (⊎_elim (λ (k : HasPoint (retain_keys c test) p). inr (of_point (retain_keys c test) p k)) (λ (out : HasPoint (without c test) p). inl out) (parted c test p h))) in
    let all = len_distinct ps (without c test) (points_apart (retain_keys c test)) (λ p m. gone c test p (has_kept c test p (point_of (retain_keys c test) p m)).1) in
    let kept = points_len (retain_keys c test) in
    let is = ap len same in
    omega (arith, all, kept, is)
  where
    gone : (c : Contents) (test : Key → Bool) (p : Point) → test (key_of p) ≡ true → get (without c test) (key_of p) ≡ None
    gone c test p t = by (get (without c test) (key_of p)) refl
      where
        by : (o : Option ℤ) → get (without c test) (key_of p) ≡ o → o ≡ None
        by None e = refl
        by (Some v) e = let bad : true ≡ false = sym t ∙ has_untested c test (record p { v = v }) e in cc
