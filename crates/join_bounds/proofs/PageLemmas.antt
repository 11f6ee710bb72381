-- A stream has at most one page more than keys were written.
use Rattle.std.proofs.Common.{◌≡◌, ◌≤◌, ℕ, suc, List, [], ◌∷◌, length, map, take, refl, sym, ap, ◌∙◌, subst, inl, inr, arith, true}
use Rattle.std.specs.Prelude.{⊤, Option, Some, None, MatchOption}
use Rattle.std.specs.Ordering.{ordering_reverse}
use Rattle.std.specs.declared.cmp.Ordering.{Ordering}
use Rattle.std.specs.declared.cmp.Ordering.TheVariants.{Less}
use Rattle.m3_model.specs.Ascends.{Ascends}
use Rattle.m3_model.specs.Contents.{key_of}
use Rattle.m3_model.specs.Keys.{key_cmp, key_cmp_total}
use Rattle.m3_model.specs.Members.{IsIn}
use Rattle.m3_model.specs.declared.point.Key.{Key}
use Rattle.m3_model.specs.declared.point.Page.{Page}
use Rattle.m3_model.specs.declared.point.Point.{Point}
use Rattle.m3_model.proofs.MemberLemmas.{map-IsIn}
use Rattle.placement_core.proofs.ListLemmas.{each-from_All}
use Rattle.cluster_core.specs.Answers.{AsksFor, GoesOn, IsCover, IsCoverFrom, IsKeyBelow, IsPage, IsPastKey}
use Rattle.cluster_core.specs.Legal.{Legal}
use Rattle.cluster_core.specs.Lists.{At}
use Rattle.cluster_core.specs.Replicas.{replica}
use Rattle.cluster_core.specs.declared.event.Event.{Event}
use Rattle.cluster_core.specs.declared.event.Event.TheVariants as event
use Rattle.cluster_core.specs.declared.event.StepCall.{StepCall}
use Rattle.cluster_core.specs.declared.event.StepCall.TheVariants as call
use Rattle.cluster_core.specs.declared.event.StepReply.TheVariants as reply
use Rattle.cluster_core.specs.declared.replica_state.ReplicaState.{ReplicaState}
use Rattle.cluster_core.proofs.ListLemmas.{at_in, in_at}
use Rattle.cluster_core.proofs.TraceLemmas.{lawful_step}
use Rattle.peer_streams.specs.Streams.{GoOnTo, Handed, page_asked}
use Rattle.join_bounds.proofs.CountLemmas.{apart_within}

-- ---- keys

not_less : (o : Ordering) → o ≡ ordering_reverse o → o ≡ Less → ⊥
not_less o back e = let bad : Less ≡ ordering_reverse Less = sym e ∙ back ∙ ap ordering_reverse e in cc

below_differs : (a b : Key) → IsKeyBelow a b → a ≡ b → ⊥
below_differs a b below same = not_less (key_cmp a a) (key_cmp_total.antisymm a a) (ap (key_cmp a) same ∙ below)

-- what is past a later key is past the earlier one
past_both : (from : Option Key) (k l : Key) → IsPastKey from k → IsKeyBelow k l → IsPastKey from l
past_both None k l past below = tt
past_both (Some a) k l past below = key_cmp_total.trans a k l past below

-- ---- one page

-- the page ends with a key past the one from which it was asked for, of one of its points
record EndsPast (from : Option Key) (page : Page) (next : Key) : Type 0 where
  last : Point
  among : IsIn page.points last
  key_is : key_of last ≡ next
  past : IsPastKey from next

page_ends : (r : ReplicaState) (from : Option Key) (page : Page) (next : Key) → IsPage r (call.Page from) page → page.next ≡ Some next → EndsPast from page next
page_ends r from page next is e =
    let on : GoesOn r (call.Page from) page next = subst (λ (o : Option Key). MatchOption o ⊤ (λ k. GoesOn r (call.Page from) page k)) e is.next in
    let among = at_in page.points 63 on.last on.at_end in
    record {
      last = on.last;
      among = among;
      key_is = on.next_is;
      past = subst (IsPastKey from) on.next_is (each-from_All (λ (p : Point). IsIn r.sure p × AsksFor (call.Page from) p) page.points is.nothing_else on.last among).1;
    }

-- ---- pages, one after the other

-- So many keys ascend, past this one, each that of a point that was written.
record KeysAscend (written : List Point) (from : Option Key) (count : ℕ) : Type 0 where
  keys : List Key
  long : length keys ≡ count
  up : Ascends IsKeyBelow keys
  past : (k : Key) → IsIn keys k → IsPastKey from k
  there : (k : Key) → IsIn keys k → IsIn (map key_of written) k

no_keys : (written : List Point) (from : Option Key) → KeysAscend written from 0
no_keys written from = record { keys = []; long = refl; up = tt; past = λ k m. absurd m; there = λ k m. absurd m }

one_more : (written : List Point) (from : Option Key) (next : Key) (count : ℕ) → IsPastKey from next → IsIn (map key_of written) next → KeysAscend written (Some next) count → KeysAscend written from (suc count)
one_more written from next count past there rest = record {
  keys = next ∷ rest.keys;
  long = ap suc rest.long;
  up = (rest.past, rest.up);
  past = λ k m. elim m as (λ _. IsPastKey from k) [ inl same ↦ subst (IsPastKey from) same past | inr later ↦ past_both from next k past (rest.past k later) ];
  there = λ k m. elim m as (λ _. IsIn (map key_of written) k) [ inl same ↦ subst (IsIn (map key_of written)) same there | inr later ↦ rest.there k later ];
}

-- they are no more than the points
keys_few : (written : List Point) (from : Option Key) (count : ℕ) → KeysAscend written from count → count ≤ length written
keys_few written from count h = let few = apart_within IsKeyBelow below_differs h.keys (map key_of written) h.up h.there in omega (arith, few, h.long, length-map written)
  where
    length-map : (xs : List Point) → length (map key_of xs) ≡ length xs
    length-map [] = refl
    length-map (x ∷ xs) = ap suc (length-map xs)

module _ (events : List Event) (legal : Legal true events) (s q : ℕ) (written : List Point) (sent : (i : ℕ) (c : StepCall) (page : Page) → At events i (event.Step q s c (reply.Paged page)) → (p : Point) → IsIn page.points p → IsIn written p) where
  -- the page was given, as it was asked for
  abbrev pub WasGiven : Handed → Type 0
  WasGiven h = IsIn events (event.Step q s (call.Page h.from) (reply.Paged h.page))

  page_key : (h : Handed) (from : Option Key) (next : Key) → WasGiven h → h.from ≡ from → h.page.next ≡ Some next → IsPastKey from next × IsIn (map key_of written) next
  page_key h from next given from_is e =
      let there = in_at events (event.Step q s (call.Page h.from) (reply.Paged h.page)) given in
      let row = lawful_step events legal there.0 q s (call.Page h.from) (reply.Paged h.page) there.1 in
      let ends = page_ends (replica q s (take there.0 events)) h.from h.page next row.1 e in (
        subst (λ (o : Option Key). IsPastKey o next) from_is ends.past,
        subst (IsIn (map key_of written)) ends.key_is (map-IsIn key_of written ends.last (sent there.0 (call.Page h.from) h.page there.1 ends.last ends.among)),
      )

  going_keys : (from : Option Key) (pages : List Handed) (to : Option Key) → GoOnTo from (map page_asked pages) to → ((h : Handed) → IsIn pages h → WasGiven h) → KeysAscend written from (length pages)
  going_keys from [] to goes given = no_keys written from
  going_keys from (h ∷ pages) to goes given =
      let here = page_key h from goes.1 (given h (inl refl)) goes.0 goes.2 in
      one_more written from goes.1 (length pages) here.0 here.1 (going_keys (Some goes.1) pages to goes.3 (λ x m. given x (inr m)))

  pub going_few : (pages : List Handed) (to : Option Key) → GoOnTo None (map page_asked pages) to → ((h : Handed) → IsIn pages h → WasGiven h) → length pages ≤ length written
  going_few pages to goes given = keys_few written None (length pages) (going_keys None pages to goes given)

  -- all but the last one go on
  cover_keys : (from : Option Key) (pages : List Handed) → IsCoverFrom from (map page_asked pages) → ((h : Handed) → IsIn pages h → WasGiven h) → (count : ℕ) × (length pages ≡ suc count) × KeysAscend written from count
  cover_keys from [] covers given = absurd covers
  cover_keys from (h ∷ pages) covers given = by (λ k rest. cover_keys (Some k) pages rest (λ x m. given x (inr m))) h.page.next refl covers.1
    where
      none_left : (xs : List Handed) → map page_asked xs ≡ [] → length xs ≡ 0
      none_left [] e = refl
      none_left (x ∷ xs) e = cc

      by : ((k : Key) → IsCoverFrom (Some k) (map page_asked pages) → (count : ℕ) × (length pages ≡ suc count) × KeysAscend written (Some k) count)
          → (o : Option Key) → h.page.next ≡ o → MatchOption o (map page_asked pages ≡ []) (λ k. IsCoverFrom (Some k) (map page_asked pages)) → (count : ℕ) × (suc (length pages) ≡ suc count) × KeysAscend written from count
      by later None is rest = (0, ap suc (none_left pages rest), no_keys written from)
      by later (Some next) is rest =
          let here = page_key h from next (given h (inl refl)) covers.0 is in
          let behind = later next rest in
          (suc behind.0, ap suc behind.1, one_more written from next behind.0 here.0 here.1 behind.2)

  pub cover_few : (pages : List Handed) → IsCover (map page_asked pages) → ((h : Handed) → IsIn pages h → WasGiven h) → length pages ≤ suc (length written)
  cover_few pages covers given =
      let h = cover_keys None pages covers given in
      let few = keys_few written None h.0 h.2 in
      omega (arith, few, h.1)
