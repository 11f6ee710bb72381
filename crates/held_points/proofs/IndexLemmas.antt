-- How the index of a store goes on to agree with its points.
use Rattle.std.proofs.Common.{◌≡◌, ℕ, ℤ, ◌≤ℤ◌, List, refl, sym, ap, ◌∙◌, subst, inl, inr, Bool, true, false, cond, arith}
use Rattle.std.specs.Prelude.{◌⊎◌, Option, Some, None, IsSome, option_map, MatchBool}
use Rattle.std.proofs.lemmas.Int.{ints}
use Rattle.std.specs.FinMap as finite
use Rattle.std.specs.FinMap.{get-insert, get-remove, get-empty, same_map, nat_cmp-IsAntisymmetric}
use Rattle.std.specs.Cmp.{nat_cmp_total, tied_itself}
use Rattle.std.specs.Ordering.{nat_cmp, eq_by_cmp, is_eq}
use Rattle.m3_model.specs.declared.point.Key.{Key}
use Rattle.m3_model.specs.Keys.{key_cmp}
use Rattle.m3_model.specs.declared.point.Point.{Point}
use Rattle.m3_model.specs.Contents.{Contents, raised, raised_at, key_of, point_at}
use Rattle.m3_model.specs.Tags.{HasTags}
use Rattle.m3_model.proofs.Keyed.{equal_of}
use Rattle.m3_model.proofs.JoinLemmas.{raised_holds, raised_keeps, raised_source}
use Rattle.tag_index.specs.declared.entry.Entry.{Entry}
use Rattle.tag_index.specs.Listed.{Listed, IsAt, IsPresent}
use Rattle.held_points.specs.Indexed.{HoldsSeries, IsIndexed, IsNewlyListed, WasListed, IsIndexedFor}

entry_of : (o : Option Entry) (id : List ℕ) → option_map (λ (e : Entry). e.id) o ≡ Some id → (e : Entry) × (o ≡ Some e) × (e.id ≡ id)
entry_of None id h = cc
entry_of (Some e) id h = let same : e.id ≡ id = cc in (e, refl, same)

-- the series that is listed at an ordinal
pub at_entry : (index : Listed) (o : ℕ) (id : List ℕ) → IsAt index o id → (e : Entry) × (finite.get index o ≡ Some e) × (e.id ≡ id)
at_entry index o id h = entry_of (finite.get index o) id h

entry_at : (index : Listed) (o : ℕ) (e : Entry) → finite.get index o ≡ Some e → IsAt index o e.id
entry_at index o e h = ap (option_map (λ (x : Entry). x.id)) h

-- without points and series the index agrees
pub empty_indexed : IsIndexed finite.empty finite.empty
empty_indexed = record {
  tagged = λ o e h. let none : None ≡ Some e = sym (get-empty nat_cmp o) ∙ h in absurd (cc);
  held = λ o e h. let none : None ≡ Some e = sym (get-empty nat_cmp o) ∙ h in absurd (cc);
  listed = λ key value h. let none : None ≡ Some value = sym (get-empty key_cmp key) ∙ h in absurd (cc);
}

-- ---- a point more

le_itself : (v : ℤ) → v ≤ℤ v
le_itself v = grind (arith, ints)

-- a series that has a point still has one
held_on : (c : Contents) (p : Point) (id : List ℕ) → HoldsSeries c id → HoldsSeries (raised c p) id
held_on c p id h =
    let stays = raised_keeps c p (point_at h.key h.value) (record { value = h.value; at_least = le_itself h.value; stands = h.stands }) in
    record { key = h.key; value = stays.value; stands = stays.stands; named = h.named }

-- that of the point has one
held_now : (c : Contents) (p : Point) (id : List ℕ) → p.id ≡ id → HoldsSeries (raised c p) id
held_now c p id e = let stands = raised_holds c p in record { key = key_of p; value = stands.value; stands = stands.stands; named = e }

listed_on : (c : Contents) (p : Point) (index new : Listed) → ((key : Key) (value : ℤ) → finite.get c key ≡ Some value → IsPresent index key.id)
    → ((id : List ℕ) → IsPresent index id → IsPresent new id) → IsPresent new p.id → (key : Key) (value : ℤ) → finite.get (raised c p) key ≡ Some value → IsPresent new key.id
listed_on c p index new listed kept here key value h =
    elim (raised_source c p key value h) as (λ _. IsPresent new key.id) [
      | inl same ↦ subst (IsPresent new) (ap (λ (q : Point). q.id) same) here
      | inr old ↦ kept key.id (listed key value old)
    ]

-- a point of a series that was listed
pub raised_listed : (c : Contents) (p : Point) (index new : Listed) → IsIndexed c index → WasListed index new p.id → IsIndexed (raised c p) new
raised_listed c p index new h was = subst (IsIndexed (raised c p)) (sym was.unchanged) (record {
  tagged = h.tagged;
  held = λ o e at. held_on c p e.id (h.held o e at);
  listed = listed_on c p index index h.listed (λ id there. there) was.present;
})

at_new : (index : Listed) (o : ℕ) (e : Entry) → finite.get (finite.insert index o e) o ≡ Some e
at_new index o e = get-insert nat_cmp_total index o e o ∙ ap (λ b. cond b (Some e) (finite.get index o)) (ap is_eq (tied_itself nat_cmp_total o))

-- what stands in an index to which one series was added: that one, or one from before
added_or_old : (index : Listed) (o : ℕ) (e : Entry) (q : ℕ) (x : Entry) → finite.get (finite.insert index o e) q ≡ Some x → (e ≡ x) ⊎ (finite.get index q ≡ Some x)
added_or_old index o e q x h = by_test (eq_by_cmp nat_cmp q o) (sym (get-insert nat_cmp_total index o e q) ∙ h)
  where
    by_test : (b : Bool) → cond b (Some e) (finite.get index q) ≡ Some x → (e ≡ x) ⊎ (finite.get index q ≡ Some x)
    by_test true h = inl (cc)
    by_test false h = inr h

-- one from before still stands there, since the ordinal was free
old_stays : (index : Listed) (o : ℕ) (e : Entry) → finite.get index o ≡ None → (q : ℕ) (x : Entry) → finite.get index q ≡ Some x → finite.get (finite.insert index o e) q ≡ Some x
old_stays index o e free q x h = get-insert nat_cmp_total index o e q ∙ by_test (eq_by_cmp nat_cmp q o) refl
  where
    by_test : (b : Bool) → eq_by_cmp nat_cmp q o ≡ b → cond b (Some e) (finite.get index q) ≡ Some x
    by_test true t =
        let same : q ≡ o = nat_cmp-IsAntisymmetric q o (equal_of _ t) in
        let wrong : None ≡ Some x = sym free ∙ ap (finite.get index) (sym same) ∙ h in
        cc
    by_test false t = h

present_stays : (index : Listed) (o : ℕ) (e : Entry) → finite.get index o ≡ None → (id : List ℕ) → IsPresent index id → IsPresent (finite.insert index o e) id
present_stays index o e free id there =
    let entry = at_entry index there.0 id there.1 in
    (there.0, ap (option_map (λ (x : Entry). x.id)) (old_stays index o e free there.0 entry.0 entry.1) ∙ ap Some entry.2)

-- a point of a series that was newly listed
pub raised_newly : (c : Contents) (p : Point) (index new : Listed) → IsIndexed c index → IsNewlyListed index new p.id → IsIndexed (raised c p) new
raised_newly c p index new h is =
    let entry : Entry = record { id = p.id; tags = is.tags } in
    subst (IsIndexed (raised c p)) (sym is.added) (record {
      tagged = λ o e at. elim (added_or_old index is.ordinal entry o e at) as (λ _. HasTags e.id e.tags) [
        | inl same ↦ subst (λ (x : Entry). HasTags x.id x.tags) same is.tagged
        | inr old ↦ h.tagged o e old
      ];
      held = λ o e at. elim (added_or_old index is.ordinal entry o e at) as (λ _. HoldsSeries (raised c p) e.id) [
        | inl same ↦ held_now c p e.id (ap (λ (x : Entry). x.id) same)
        | inr old ↦ held_on c p e.id (h.held o e old)
      ];
      listed = listed_on c p index (finite.insert index is.ordinal entry) h.listed (present_stays index is.ordinal entry is.free) (is.ordinal, entry_at _ is.ordinal entry (at_new index is.ordinal entry));
    })

-- a point of a series that was newly listed, or listed before
pub raised_indexed : (c : Contents) (p : Point) (index new : Listed) (newly : Bool) → IsIndexed c index → MatchBool newly (IsNewlyListed index new p.id) (WasListed index new p.id) → IsIndexed (raised c p) new
raised_indexed c p index new true h is = raised_newly c p index new h is
raised_indexed c p index new false h was = raised_listed c p index new h was

-- ---- no point, for want of memory

-- a series that was newly listed and taken out again leaves the index as it was
pub unlisted : (index added new : Listed) (id : List ℕ) → IsNewlyListed index added id → ((o : ℕ) → IsAt added o id → new ≡ finite.remove added o) → new ≡ index
unlisted index added new id is removed =
    let entry : Entry = record { id = id; tags = is.tags } in
    let at : IsAt (finite.insert index is.ordinal entry) is.ordinal id = entry_at _ is.ordinal entry (at_new index is.ordinal entry) in
    let gone : new ≡ finite.remove added is.ordinal = removed is.ordinal (subst (λ (m : Listed). IsAt m is.ordinal id) (sym is.added) at) in
    gone ∙ ap (λ (m : Listed). finite.remove m is.ordinal) is.added
    ∙ same_map nat_cmp_total nat_cmp-IsAntisymmetric _ index (λ q. get-remove nat_cmp_total (finite.insert index is.ordinal entry) is.ordinal q ∙ as_before entry q (eq_by_cmp nat_cmp q is.ordinal) refl)
  where
    as_before : (entry : Entry) (q : ℕ) (b : Bool) → eq_by_cmp nat_cmp q is.ordinal ≡ b → cond b None (finite.get (finite.insert index is.ordinal entry) q) ≡ finite.get index q
    as_before entry q true t = sym is.free ∙ ap (finite.get index) (sym (nat_cmp-IsAntisymmetric q is.ordinal (equal_of _ t)))
    as_before entry q false t = get-insert nat_cmp_total index is.ordinal entry q ∙ ap (λ b. cond b (Some entry) (finite.get index q)) t

-- ---- room for a point

-- the index before the point's series was listed
pub index_before : (room : Option Key) (newly : Bool) (c : Contents) (p : Point) (index : Listed) → room ≡ Some (key_of p) → IsIndexedFor room newly c index
    → (before : Listed) × IsIndexed c before × MatchBool newly (IsNewlyListed before index p.id) (WasListed before index p.id)
index_before room newly c p index is given = subst (λ (o : Option Key). IsIndexedFor o newly c index) is given

-- the point is put
pub put_indexed : (room : Option Key) (newly : Bool) (c : Contents) (p : Point) (index : Listed) → room ≡ Some (key_of p) → IsIndexedFor room newly c index → IsIndexed (raised c p) index
put_indexed room newly c p index is given = let was = index_before room newly c p index is given in raised_indexed c p was.0 index newly was.1 was.2

-- a value rises at a key at which a point stands
pub raised_there : (room : Option Key) (newly : Bool) (c : Contents) (key : Key) (v : ℤ) (index : Listed) → room ≡ None → IsSome (finite.get c key) → IsIndexedFor room newly c index → IsIndexed (raised_at c key v) index
raised_there room newly c key v index none there given = by (finite.get c key) refl there
  where
    was : IsIndexed c index
    was = subst (λ (o : Option Key). IsIndexedFor o newly c index) none given

    by : (o : Option ℤ) → finite.get c key ≡ o → IsSome o → IsIndexed (raised_at c key v) index
    by None e some = absurd (let bad : false ≡ true = some in cc)
    by (Some w) e some = raised_listed c (point_at key v) index index was (record { present = was.listed key w e; unchanged = refl })
