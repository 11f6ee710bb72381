-- The shard to which a write goes, and its members.
use Rattle.std.proofs.Common.{◌≡◌, ℕ, ◌<◌, ◌%◌, List, [], length, filter, true, refl, sym, subst, ◌∙◌, arith, IsPermutation, swap}
use Rattle.std.specs.Prelude.{◌≢◌, None}
use Rattle.std.specs.FinMap as finite
use Rattle.std.proofs.lemmas.List.{get_or_default}
use Rattle.std.proofs.lemmas.List.Edits.{length-swap}
use Rattle.std.proofs.lemmas.List.Sorted.{IsPermutation-keeps}
use Rattle.m3_model.specs.Ascends.{Ascends}
use Rattle.m3_model.specs.Hash.{murmur3, shard_of}
use Rattle.m3_model.specs.Members.{IsIn}
use Rattle.m3_model.specs.declared.placement.Assignment.{Assignment}
use Rattle.m3_model.specs.declared.point.Point.{Point}
use Rattle.m3_model.specs.declared.rules.MetaState.{MetaState}
use Rattle.m3_model.proofs.MemberLemmas.{map-IsIn}
use Rattle.session_net.specs.m3_outside.declared.disk.Disk.{Ghosts}
use Rattle.session_net.specs.cluster_core.Earlier.{PlacesShard, CountsNodes, HasShard, AreCounted}
use Rattle.session_net.specs.cluster_core.Lists.{At}
use Rattle.placement_core.specs.Shards.{Shard, shard_at, is_available, counts, counted}
use Rattle.placement_core.proofs.ListLemmas.{IsIn-from_index, index-from_IsIn, filter-IsIn, at_index, All-from_each}
use Rattle.placement_core.proofs.OrderLemmas.{came, apart_of, apart_permutation, ascends-from_at}
use Rattle.session_net.specs.Ready.{IsCallable}
use Rattle.session_net.specs.Runs.{slot_at}
use Rattle.session_net.specs.Writes.{shard_of_point, AreMembers}
use Rattle.session_net.specs.declared.net.Net.{Net}
use Rattle.session_net.proofs.ReadyLemmas.{placed_there}

-- the shard of an identifier is one of them
shard_low : (id : List ℕ) (seed shards : ℕ) → 0 < shards → shard_of id seed shards < shards
shard_low id seed shards some = rest_low (murmur3 id seed) shards some
  where
    rest_low : (n k : ℕ) → 0 < k → n % k < k
    rest_low n k h = omega arith

-- ---- a list in another order

-- an exchange brings no new element
swap_in : {X : Type 0} (xs : List X) (i j : ℕ) (x : X) → i < length xs → j < length xs → IsIn (swap xs i j) x → IsIn xs x
swap_in xs i j x li lj h =
    let at = index-from_IsIn (swap xs i j) x h in
    let size = length-swap xs i j in
    let from = came xs i j at.0 x li lj (omega (arith, at.1, size)) in
    subst (IsIn xs) (sym from.3 ∙ at.2 x) (IsIn-from_index xs from.0 x from.1)

-- it has the same elements
permuted_in : {X : Type 0} (xs ys : List X) → IsPermutation xs ys → (x : X) → IsIn ys x → IsIn xs x
permuted_in xs ys p = IsPermutation-keeps xs (λ l. (x : _) → IsIn l x → IsIn xs x) (λ x h. h) (λ l i j li lj keeps x h. keeps x (swap_in l i j x li lj h)) ys p

-- ---- the members

counted_in : (shard : Shard) (a : Assignment) (n : ℕ) → IsIn shard a → counts a.state ≡ true → a.node ≡ n → IsIn (counted shard) n
counted_in shard a n m is node = subst (IsIn (counted shard)) node (map-IsIn (λ (b : Assignment). b.node) (filter is_available shard) a (filter-IsIn is_available shard a m is))

-- the write of a point goes to the members of its shard
pub record GoesTo (state : MetaState) (p : Point) (s : ℕ) (members : Shard) : Type 0 where
  pub shard : s ≡ shard_of_point state p
  pub are : AreMembers state.place s members
  pub here : AreMembers state.place (shard_of_point state p) members

pub goes_to : (state : MetaState) (p : Point) (s : ℕ) (made members : Shard) → s ≡ shard_of_point state p → AreMembers state.place s made → members ≡ made → GoesTo state p s members
goes_to state p s made members is are same =
    let given : AreMembers state.place s members = subst (AreMembers state.place s) (sym same) are in
    record { shard = is; are = given; here = subst (λ k. AreMembers state.place k members) is given }

module _ {D : Type 0} {G : Ghosts D} (net : Net D G) (ready : IsCallable net.state net.replicas net.bag) (p : Point) (s : ℕ) (members : Shard) (to : GoesTo net.state p s members) where
  low : s < length net.state.place.shards
  low = subst (λ k. k < length net.state.place.shards) (sym to.shard) (shard_low p.id net.state.seed (length net.state.place.shards) net.some_shards)

  shard_is : At net.state.place.shards s (shard_at net.state.place s)
  shard_is = at_index net.state.place.shards s (shard_at net.state.place s) low (get_or_default net.state.place.shards s [] (shard_at net.state.place s) low)

  member_in : (a : Assignment) → IsIn members a → IsIn (shard_at net.state.place s) a
  member_in = permuted_in (shard_at net.state.place s) members to.are.same

  -- its placement stands
  pub has_shard : HasShard net.replicas.events net.state.place.version s
  has_shard = placed_there (PlacesShard net.state.place.version s) net.replicas.events net.state.place ready.place (λ done. (refl, shard_at net.state.place s, shard_is))

  -- and in it count the members that do
  pub are_counted : (nodes : List ℕ) → ((n : ℕ) → IsIn nodes n → (a : Assignment) × IsIn members a × (counts a.state ≡ true) × (a.node ≡ n)) → AreCounted net.replicas.events net.state.place.version s nodes
  are_counted nodes each = placed_there (CountsNodes net.state.place.version s nodes) net.replicas.events net.state.place ready.place (λ done. (
    refl,
    shard_at net.state.place s,
    shard_is,
    All-from_each (λ n. IsIn (counted (shard_at net.state.place s)) n) nodes (λ n m. let t = each n m in counted_in (shard_at net.state.place s) t.0 n (member_in t.0 t.1) t.2 t.3),
  ))

  -- they are different nodes
  pub members_differ : Ascends (λ a b. a.node ≢ b.node) members
  members_differ =
      let R : Assignment → Assignment → Type 0 = λ a b. a.node ≢ b.node in
      let distinct = (ready.lawful.shards (shard_at net.state.place s) (IsIn-from_index net.state.place.shards s [] low)).distinct in
      let apart = apart_permutation R (shard_at net.state.place s) members (apart_of R (λ x y h e. h (sym e)) (shard_at net.state.place s) distinct) to.are.same in
      ascends-from_at R members (λ i j d lt within. apart i j d (omega (arith, lt, within)) within (omega (arith, lt)))

  -- each has its replica
  pub member_there : (a : Assignment) → IsIn members a → finite.get net.replicas.members (slot_at a.node s) ≢ None
  member_there a m = ready.there a.node s (map-IsIn (λ (b : Assignment). b.node) (shard_at net.state.place s) a (member_in a m))
