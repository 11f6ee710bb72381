-- How the index of a store goes on to agree with its points where one leaves.
use Rattle.std.proofs.Common.{◌≡◌, ℕ, ◌+◌, ℤ, List, refl, sym, ap, ◌∙◌, subst, inl, inr, Bool, true, false, cond}
use Rattle.std.specs.Prelude.{Option, Some, None, option_map, MatchOption}
use Rattle.std.specs.FinMap as finite
use Rattle.std.specs.FinMap.{get-remove, nat_cmp-IsAntisymmetric}
use Rattle.std.specs.Cmp.{nat_cmp_total, tied_itself}
use Rattle.std.specs.Ordering.{nat_cmp, eq_by_cmp, is_eq}
use Rattle.m3_model.specs.declared.point.Key.{Key}
use Rattle.m3_model.specs.Keys.{key_cmp, key_cmp_total}
use Rattle.m3_model.specs.Contents.{Contents}
use Rattle.m3_model.proofs.Keyed.{key_cmp-IsAntisymmetric, equal_of}
use Rattle.series_slots.specs.declared.series_key.SeriesKey.{SeriesKey}
use Rattle.series_slots.specs.SeriesKeys.{series_of, key_at}
use Rattle.block_buffer.specs.Held.{InMemory, without}
use Rattle.block_buffer.proofs.ContentLemmas.{without_removed, without_none, len_removed}
use Rattle.block_buffer.specs.Taken.{HasSeries, IsTaken}
use Rattle.block_buffer.specs.declared.taken.Taken.{Taken}
use Rattle.tag_index.specs.declared.entry.Entry.{Entry}
use Rattle.tag_index.specs.Listed.{Listed, IsAt}
use Rattle.held_points.specs.Counted.{TakesOne}
use Rattle.held_points.specs.Indexed.{HoldsSeries, IsIndexed, IsIndexedFor, IsUnlisted, IsForgotten}
use Rattle.held_points.proofs.IndexLemmas.{at_entry}

stood : (c : Contents) (key k : Key) (v : ℤ) → finite.get (finite.remove c key) k ≡ Some v → finite.get c k ≡ Some v
stood c key k v e = by_test (eq_by_cmp key_cmp k key) (sym (get-remove key_cmp_total c key k) ∙ e)
  where
    by_test : (b : Bool) → cond b None (finite.get c k) ≡ Some v → finite.get c k ≡ Some v
    by_test true g = cc
    by_test false g = g

-- a series that has a point still has one, if that is another or one remains
held_but : (c : Contents) (key : Key) (id : List ℕ) → HoldsSeries c id → (key.id ≡ id → HoldsSeries (finite.remove c key) id) → HoldsSeries (finite.remove c key) id
held_but c key id h rest = by_test (eq_by_cmp key_cmp h.key key) refl
  where
    by_test : (b : Bool) → eq_by_cmp key_cmp h.key key ≡ b → HoldsSeries (finite.remove c key) id
    by_test true t = let same : h.key ≡ key = key_cmp-IsAntisymmetric h.key key (equal_of _ t) in rest (ap (λ (k : Key). k.id) (sym same) ∙ h.named)
    by_test false t = record {
      key = h.key;
      value = h.value;
      stands = get-remove key_cmp_total c key h.key ∙ ap (λ b. cond b None (finite.get c h.key)) t ∙ h.stands;
      named = h.named;
    }

-- the series of the point has another
still_indexed : (c : Contents) (key : Key) (index : Listed) → IsIndexed c index → HoldsSeries (finite.remove c key) key.id → IsIndexed (finite.remove c key) index
still_indexed c key index h other = record {
  tagged = h.tagged;
  held = λ o e at. held_but c key e.id (h.held o e at) (λ is. subst (HoldsSeries (finite.remove c key)) is other);
  listed = λ k v e. h.listed k v (stood c key k v e);
}

entry_stood : (index : Listed) (gone o : ℕ) (e : Entry) → finite.get (finite.remove index gone) o ≡ Some e → finite.get index o ≡ Some e
entry_stood index gone o e at = by_test (eq_by_cmp nat_cmp o gone) (sym (get-remove nat_cmp_total index gone o) ∙ at)
  where
    by_test : (b : Bool) → cond b None (finite.get index o) ≡ Some e → finite.get index o ≡ Some e
    by_test true g = cc
    by_test false g = g

not_there : (index : Listed) (o : ℕ) (e : Entry) → finite.get (finite.remove index o) o ≡ Some e → ⊥
not_there index o e at =
    let none : None ≡ Some e = sym (get-remove nat_cmp_total index o o ∙ ap (λ b. cond b None (finite.get index o)) (ap is_eq (tied_itself nat_cmp_total o))) ∙ at in
    cc

-- it was the last of its identifier, which the index forgot
no_more_indexed : (c : Contents) (key : Key) (v : ℤ) (index after : Listed) → IsIndexed c index → finite.get c key ≡ Some v → IsUnlisted (finite.remove c key) index after key.id → IsIndexed (finite.remove c key) after
no_more_indexed c key v index after h stands gone =
    let there = h.listed key v stands in
    let removed : after ≡ finite.remove index there.0 = gone.removed there.0 there.1 in
    subst (IsIndexed (finite.remove c key)) (sym removed) (record {
      tagged = λ o e at. h.tagged o e (entry_stood index there.0 o e at);
      held = λ o e at.
          let old = entry_stood index there.0 o e at in
          held_but c key e.id (h.held o e old) (λ is.
          let named : IsAt index o key.id = ap (option_map (λ (x : Entry). x.id)) old ∙ ap Some (sym is) in
          absurd (not_there index o e (ap (λ (m : Listed). finite.get m o) (sym (gone.removed o named) ∙ removed) ∙ at)));
      listed = λ k w e.
          let old = h.listed k w (stood c key k w e) in
          let entry = at_entry index old.0 k.id old.1 in (
            old.0,
            ap (option_map (λ (x : Entry). x.id)) (stays old.0 there.0 entry.0 entry.1 (λ is.
                let same : Some k.id ≡ Some key.id = sym old.1 ∙ ap (λ o. option_map (λ (x : Entry). x.id) (finite.get index o)) is ∙ there.1 in
                let id : k.id ≡ key.id = cc in
                gone.unheld (record { key = k; value = w; stands = e; named = id }))) ∙ ap Some entry.2,
          );
    })
  where
    stays : (o gone : ℕ) (e : Entry) → finite.get index o ≡ Some e → (o ≡ gone → ⊥) → finite.get (finite.remove index gone) o ≡ Some e
    stays o gone e at apart = get-remove nat_cmp_total index gone o ∙ by_test (eq_by_cmp nat_cmp o gone) refl
      where
        by_test : (b : Bool) → eq_by_cmp nat_cmp o gone ≡ b → cond b None (finite.get index o) ≡ Some e
        by_test true t = absurd (apart (nat_cmp-IsAntisymmetric o gone (equal_of _ t)))
        by_test false t = at

-- a point left, and the index forgot its identifier if need be
pub forgotten : (c new : Contents) (key : Key) (v : ℤ) (gone : Option SeriesKey) (index after : Listed) → IsIndexed c index → finite.get c key ≡ Some v → new ≡ finite.remove c key
    → MatchOption gone (HasSeries new (series_of key)) (λ s. (s ≡ series_of key) × (HasSeries new s → ⊥)) → IsForgotten new gone index after → IsIndexed new after
forgotten c new key v None index after h stands left series is =
    let other : HoldsSeries new key.id = record { key = key_at (series_of key) series.t; value = series.v; stands = series.stands; named = refl } in
    subst (λ (n : Contents). IsIndexed n after) (sym left) (subst (IsIndexed (finite.remove c key)) (sym is)
    (still_indexed c key index h (subst (λ (n : Contents). HoldsSeries n key.id) left other)))
forgotten c new key v (Some s) index after h stands left series is =
    let id : s.id ≡ key.id = ap (λ (x : SeriesKey). x.id) series.0 in
    elim is as (λ _. IsIndexed new after) [
      | inl unlisted ↦
          let gone : IsUnlisted (finite.remove c key) index after key.id = subst (λ (n : Contents). IsUnlisted n index after key.id) left (subst (IsUnlisted new index after) id unlisted) in
          subst (λ (n : Contents). IsIndexed n after) (sym left) (no_more_indexed c key v index after h stands gone)
      | inr still ↦
          let other : HoldsSeries (finite.remove c key) key.id = subst (λ (n : Contents). HoldsSeries n key.id) left (subst (HoldsSeries new) id still.held) in
          subst (λ (n : Contents). IsIndexed n after) (sym left) (subst (IsIndexed (finite.remove c key)) (sym still.unchanged) (still_indexed c key index h other))
    ]

-- ---- where there is no room

pub indexed_of : (room : Option Key) (newly : Bool) (c : Contents) (index : Listed) → room ≡ None → IsIndexedFor room newly c index → IsIndexed c index
indexed_of room newly c index none given = subst (λ (o : Option Key). IsIndexedFor o newly c index) none given

pub indexed_for : (room : Option Key) (newly : Bool) (c : Contents) (index : Listed) → room ≡ None → IsIndexed c index → IsIndexedFor room newly c index
indexed_for room newly c index none given = subst (λ (o : Option Key). IsIndexedFor o newly c index) (sym none) given

-- a point was taken out, and the index forgot its identifier if need be
pub taken_indexed : (old new : InMemory) (newly : Bool) (P : Key → Type 0) (x : Taken) (index after : Listed) → old.room ≡ None → new.room ≡ None → IsIndexedFor old.room newly old.points index → IsTaken old.points new.points P x
    → IsForgotten new.points x.gone index after → IsIndexedFor new.room newly new.points after
taken_indexed old new newly P x index after was none given h is =
    indexed_for new.room newly new.points after none (forgotten old.points new.points h.key x.v x.gone index after (indexed_of old.room newly old.points index was given) h.stands h.left h.gone is)

pub same_indexed : (old new : InMemory) (newly : Bool) (index : Listed) → old.room ≡ None → new.room ≡ None → new.points ≡ old.points → IsIndexedFor old.room newly old.points index → IsIndexedFor new.room newly new.points index
same_indexed old new newly index was none same given =
    indexed_for new.room newly new.points index none (subst (λ (c : Contents). IsIndexed c index) (sym same) (indexed_of old.room newly old.points index was given))

pub takes_one : (old new : InMemory) (P : Key → Type 0) (x : Taken) → new.room ≡ None → IsTaken old.points new.points P x → TakesOne old new P
takes_one old new P x none h = record { key = h.key; value = x.v; holds = h.holds; stands = h.stands; left = λ i. record { points = h.left i; room = none i } }

pub no_other : (h : InMemory) (c : Contents) → h.points ≡ c → h.room ≡ None → h ≡ record { points = c; room = None }
no_other h c points room = λ i. record { points = points i; room = room i }

-- ---- where points leave one after the other

pub kept_one : (old new : InMemory) (first : Contents) (test : Key → Bool) → TakesOne old new (λ k. test k ≡ true) → without old.points test ≡ without first test → without new.points test ≡ without first test
kept_one old new first test h kept = ap (λ (x : InMemory). without x.points test) h.left ∙ without_removed old.points h.key test h.holds ∙ kept

pub one_fewer : (old new : InMemory) (P : Key → Type 0) → TakesOne old new P → finite.len new.points + 1 ≡ finite.len old.points
one_fewer old new P h = ap (λ (x : InMemory). finite.len x.points + 1) h.left ∙ len_removed old.points h.key h.value h.stands

pub no_room_left : (old new : InMemory) (P : Key → Type 0) → TakesOne old new P → new.room ≡ None
no_room_left old new P h = ap (λ (x : InMemory). x.room) h.left

pub weaken_one : (old new : InMemory) (P Q : Key → Type 0) → ((k : Key) → P k → Q k) → TakesOne old new P → TakesOne old new Q
weaken_one old new P Q to h = record { key = h.key; value = h.value; holds = to h.key h.holds; stands = h.stands; left = h.left }

-- none of them is left
pub ended : (old new : InMemory) (first : Contents) (test : Key → Bool) → new ≡ old → ((k : Key) (v : ℤ) → finite.get old.points k ≡ Some v → test k ≡ true → ⊥) → old.room ≡ None → without old.points test ≡ without first test
    → new ≡ record { points = without first test; room = None }
ended old new first test same none room kept = same ∙ no_other old (without first test) (without_none old.points test none ∙ kept) room
