-- The rows of a placement: they are its members, each once, by shard and then by name.
use Rattle.std.proofs.Common.{◌≡◌, ◌<◌, ◌≤◌, ◌+◌, ◌*◌, ℕ, zero, suc, List, [], ◌∷◌, ◌++◌, map, length, take, get_or, refl, sym, ap, ◌∙◌, subst, inl, inr, arith, length-append, append_assoc, add-one, IsPermutation}
use Rattle.std.specs.Prelude.{◌⊎◌, slice_index_or}
use Rattle.std.specs.List.{Any}
use Rattle.std.proofs.lemmas.List.{length-map, map-append, take_more}
use Rattle.std.proofs.lemmas.List.Sorted.{All-permutation, IsPermutation-sym, length_permutation}
use Rattle.m3_model.specs.Ascends.{Ascends}
use Rattle.m3_model.specs.Members.{IsIn}
use Rattle.m3_model.specs.declared.limits.TheConstants.{MOST_NODES, MOST_SHARDS}
use Rattle.m3_model.specs.declared.placement.Assignment.{Assignment}
use Rattle.m3_model.specs.declared.placement.Placement.{Placement}
use Rattle.m3_model.proofs.MemberLemmas.{IsIn-append_cases, IsIn-append_left, IsIn-append_right, IsIn-map, map-IsIn}
use Rattle.m3_model.proofs.Lists.{All-from_each}
use Rattle.m3_model.proofs.Ascending.{Ascends-append}
use Rattle.placement_core.specs.Lawful.{IsLawful}
use Rattle.placement_core.specs.NodeNames.{IsNamedBelow}
use Rattle.placement_core.specs.Shards.{Shard, nodes_of, shard_at}
use Rattle.placement_core.proofs.ListLemmas.{Any-from_IsIn, IsIn-from_Any, each-from_All}
use Rattle.placement_core.proofs.OrderLemmas.{ascends-map}
use Rattle.cluster_core.specs.Lists.{At}
use Rattle.cluster_core.proofs.ListLemmas.{at_in, at_within}
use Rattle.node_calls.specs.session_net.Runs.{slot_at}
use Rattle.node_calls.specs.session_net.Writes.{AreMembers}
use Rattle.node_calls.specs.transcripts.Sweeps.{AreAllMembers, IsSlotBelow}
use Rattle.cluster_upkeep.specs.Rows.{AreRowsBelow, HasShardRows, row_at, slot_in}
use Rattle.cluster_upkeep.specs.declared.rows.Row.{Row}

-- ---- lists

permuted_in : {X : Type 0} (xs ys : List X) → IsPermutation xs ys → (x : X) → IsIn ys x → IsIn xs x
permuted_in xs ys p = each-from_All (IsIn xs) ys (All-permutation (IsIn xs) xs ys p (All-from_each (IsIn xs) xs (λ y m. m)))

-- a shard that has an assignment is there
shard_there : (shards : List Shard) (s : ℕ) (a : Assignment) → IsIn (slice_index_or shards s []) a → At shards s (slice_index_or shards s [])
shard_there [] s a m = absurd m
shard_there (x ∷ shards) zero a m = refl
shard_there (x ∷ shards) (suc s) a m = shard_there shards s a m

-- ---- one shard

module _ (place : Placement) (shard : ℕ) (before rows : List Row) (h : HasShardRows place shard before rows) where
  abbrev added : List Row
  added = map (row_at shard) h.members

  -- a row behind the others is of an assignment of the shard
  shard_row : (r : Row) → IsIn added r → (a : Assignment) × IsIn (shard_at place shard) a × (row_at shard a ≡ r)
  shard_row r m = let found = IsIn-map (row_at shard) h.members r m in (found.0, permuted_in (shard_at place shard) h.members (h.are).same found.0 found.1, found.2)

  row_of_shard : (a : Assignment) → IsIn (shard_at place shard) a → IsIn added (row_at shard a)
  row_of_shard a m = map-IsIn (row_at shard) h.members a (permuted_in h.members (shard_at place shard) (IsPermutation-sym (shard_at place shard) h.members (h.are).same) a m)

  shard_long : length added ≡ length (shard_at place shard)
  shard_long = length-map h.members (row_at shard) ∙ length_permutation (shard_at place shard) h.members (h.are).same

  -- by name
  shard_in_order : IsLawful place → Ascends (λ a b. IsSlotBelow place (slot_in a) (slot_in b)) added
  shard_in_order lawful = ascends-map (λ a b. IsSlotBelow place (slot_in a) (slot_in b)) (row_at shard) h.members (same h.members ((h.are).by_name lawful))
    where
      same : (members : Shard) → Ascends (λ a b. IsNamedBelow place a.node b.node) members → Ascends (λ a b. IsSlotBelow place (slot_in (row_at shard a)) (slot_in (row_at shard b))) members
      same [] h = tt
      same (a ∷ members) h = (λ b m. inr (refl, h.0 b m), same members h.1)

-- one more of its assignments was listed
pub shard_pushed : (shard : ℕ) (before : List Row) (members : Shard) (i : ℕ) (d : Assignment) (rows new : List Row) → i < length members → rows ≡ before ++ map (row_at shard) (take i members) → new ≡ rows ++ row_at shard (get_or members i d) ∷ []
    → new ≡ before ++ map (row_at shard) (take (i + 1) members)
shard_pushed shard before members i d rows new low same is =
    let row = row_at shard (get_or members i d) in
    is ∙ ap (λ xs. xs ++ row ∷ []) same ∙ append_assoc before (map (row_at shard) (take i members)) (row ∷ [])
    ∙ sym (ap (λ ms. before ++ map (row_at shard) ms) (take_more members i d low) ∙ ap (λ xs. before ++ xs) (map-append (row_at shard) (take i members) (get_or members i d ∷ [])))

-- ---- all shards

-- one more shard was listed
pub shards_pushed : (place : Placement) (shard : ℕ) (rows new : List Row) → AreRowsBelow place shard rows → HasShardRows place shard rows new → AreRowsBelow place (shard + 1) new
shards_pushed place shard rows new h here = subst (λ n. AreRowsBelow place n new) (sym (add-one shard)) (rows, h, here)

-- a row is of an assignment of its shard, which is one of those below
pub record IsRowOf (place : Placement) (n : ℕ) (r : Row) : Type 0 where
  pub assignment : Assignment
  pub below : r.slot.shard < n
  pub among : IsIn (shard_at place r.slot.shard) assignment
  pub node_is : assignment.node ≡ r.slot.node
  pub state_is : assignment.state ≡ r.state

pub row_below : (place : Placement) (n : ℕ) (rows : List Row) → AreRowsBelow place n rows → (r : Row) → IsIn rows r → IsRowOf place n r
row_below place zero rows h r m = absurd (subst (λ rs. IsIn rs r) h m)
row_below place (suc n) rows (before, earlier, here) r m =
    elim (IsIn-append_cases before (map (row_at n) here.members) r (subst (λ rs. IsIn rs r) here.rows_are m)) as (λ _. IsRowOf place (suc n) r) [
      | inl old ↦
          let was = row_below place n before earlier r old in
          let low = was.below in
          record { assignment = was.assignment; below = omega (arith, low); among = was.among; node_is = was.node_is; state_is = was.state_is }
      | inr new ↦
          let found = shard_row place n before rows here r new in
          let own : n ≡ r.slot.shard = ap (λ (x : Row). x.slot.shard) found.2 in
          record {
            assignment = found.0;
            below = omega (arith, own);
            among = subst (λ s. IsIn (shard_at place s) found.0) own found.1;
            node_is = ap (λ (x : Row). x.slot.node) found.2;
            state_is = ap (λ (x : Row). x.state) found.2;
          }
    ]

row_there : (place : Placement) (n : ℕ) (rows : List Row) → AreRowsBelow place n rows → (s : ℕ) (a : Assignment) → s < n → IsIn (shard_at place s) a → IsIn rows (row_at s a)
row_there place zero rows h s a low m = absurd (omega (arith, low))
row_there place (suc n) rows (before, earlier, here) s a low m =
    subst (λ rs. IsIn rs (row_at s a)) (sym here.rows_are) (by (λ less. row_there place n before earlier s a less m) (cases s n low))
  where
    cases : (k j : ℕ) → k < suc j → (k < j) ⊎ (k ≡ j)
    cases zero zero lt = inr refl
    cases zero (suc j) lt = inl (omega arith)
    cases (suc k) zero lt = absurd (omega (arith, lt))
    cases (suc k) (suc j) lt = elim (cases k j (omega (arith, lt))) as (λ _. (suc k < suc j) ⊎ (suc k ≡ suc j)) [ inl less ↦ inl (omega (arith, less)) | inr same ↦ inr (ap suc same) ]

    by : (s < n → IsIn before (row_at s a)) → (s < n) ⊎ (s ≡ n) → IsIn (before ++ map (row_at n) here.members) (row_at s a)
    by old (inl less) = IsIn-append_left before (map (row_at n) here.members) (row_at s a) (old less)
    by old (inr same) = IsIn-append_right before (map (row_at n) here.members) (row_at s a) (subst (λ k. IsIn (map (row_at n) here.members) (row_at k a)) (sym same) (row_of_shard place n before rows here a (subst (λ k. IsIn (shard_at place k) a) same m)))

rows_in_order : (place : Placement) → IsLawful place → (n : ℕ) (rows : List Row) → AreRowsBelow place n rows → Ascends (λ a b. IsSlotBelow place (slot_in a) (slot_in b)) rows
rows_in_order place lawful zero rows h = subst (Ascends (λ a b. IsSlotBelow place (slot_in a) (slot_in b))) (sym h) tt
rows_in_order place lawful (suc n) rows (before, earlier, here) =
    subst (Ascends (λ a b. IsSlotBelow place (slot_in a) (slot_in b))) (sym here.rows_are)
    (Ascends-append (λ a b. IsSlotBelow place (slot_in a) (slot_in b)) before (map (row_at n) here.members) (rows_in_order place lawful n before earlier) (shard_in_order place n before rows here lawful)
    (λ x y old new.
    let low = (row_below place n before earlier x old).below in
    let own : n ≡ y.slot.shard = ap (λ (r : Row). r.slot.shard) (shard_row place n before rows here y new).2 in
    inl (omega (arith, low, own))))

-- they are its members
pub all_members : (place : Placement) → IsLawful place → (rows : List Row) → AreRowsBelow place (length place.shards) rows → AreAllMembers place (map slot_in rows)
all_members place lawful rows h = record {
  each = λ node shard. (to node shard, back node shard);
  in_order = ascends-map (IsSlotBelow place) slot_in rows (rows_in_order place lawful (length place.shards) rows h);
}
  where
    to : (node shard : ℕ) → IsIn (map slot_in rows) (node, shard) → IsIn (nodes_of (shard_at place shard)) node
    to node shard m =
        let found = IsIn-map slot_in rows (node, shard) m in
        let row = row_below place (length place.shards) rows h found.0 found.1 in
        let of_node : row.assignment.node ≡ node = row.node_is ∙ ap (λ (x : ℕ × ℕ). x.0) found.2 in
        let of_shard : (found.0).slot.shard ≡ shard = ap (λ (x : ℕ × ℕ). x.1) found.2 in
        subst (IsIn (nodes_of (shard_at place shard))) of_node (map-IsIn (λ (a : Assignment). a.node) (shard_at place shard) row.assignment (subst (λ s. IsIn (shard_at place s) row.assignment) of_shard row.among))

    back : (node shard : ℕ) → IsIn (nodes_of (shard_at place shard)) node → IsIn (map slot_in rows) (node, shard)
    back node shard m =
        let found = IsIn-map (λ (a : Assignment). a.node) (shard_at place shard) node m in
        let low = at_within place.shards shard (shard_at place shard) (shard_there place.shards shard found.0 found.1) in
        subst (λ n. IsIn (map slot_in rows) (n, shard)) found.2 (map-IsIn slot_in rows (row_at shard found.0) (row_there place (length place.shards) rows h shard found.0 low found.1))

-- with the states in which their nodes have the shards
pub row_state : (place : Placement) (n : ℕ) (rows : List Row) → AreRowsBelow place n rows → (r : Row) → IsIn rows r → Any (λ (a : Assignment). (a.node ≡ r.slot.node) × (a.state ≡ r.state)) (shard_at place r.slot.shard)
row_state place n rows h r m = let row = row_below place n rows h r m in Any-from_IsIn (λ (a : Assignment). (a.node ≡ r.slot.node) × (a.state ≡ r.state)) (shard_at place r.slot.shard) row.assignment row.among (row.node_is, row.state_is)

-- ---- how many they are

shard_few : (place : Placement) → IsLawful place → (s : ℕ) → length (shard_at place s) ≤ 6
shard_few place lawful s = by (shard_at place s) refl
  where
    by : (shard : Shard) → shard_at place s ≡ shard → length (shard_at place s) ≤ 6
    by [] is = let none : length (shard_at place s) ≡ 0 = ap length is in omega (arith, none)
    by (a ∷ shard) is =
        let there = at_in place.shards s (shard_at place s) (shard_there place.shards s a (subst (λ xs. IsIn xs a) (sym is) (inl refl))) in
        let rf = (lawful.limits).few_replicas in
        elim (lawful.shards (shard_at place s) there).replicas as (λ _. length (shard_at place s) ≤ 6) [ inl steady ↦ (let many = steady.1 in omega (arith, many, rf)) | inr moving ↦ (let many = moving.1 in omega (arith, many, rf)) ]

rows_below_few : (place : Placement) → IsLawful place → (n : ℕ) (rows : List Row) → AreRowsBelow place n rows → length rows ≤ 6 * n
rows_below_few place lawful zero rows h = let none : length rows ≡ 0 = ap length h in omega (arith, none)
rows_below_few place lawful (suc n) rows (before, earlier, here) =
    let both : length rows ≡ length before + length (map (row_at n) here.members) = ap length here.rows_are ∙ length-append before (map (row_at n) here.members) in
    let low = rows_below_few place lawful n before earlier in
    let own = shard_long place n before rows here in
    let few = shard_few place lawful n in
    omega (arith, both, low, own, few)

pub rows_few : (place : Placement) → IsLawful place → (rows : List Row) → AreRowsBelow place (length place.shards) rows → length rows ≤ MOST_NODES * MOST_SHARDS
rows_few place lawful rows h = let low = rows_below_few place lawful (length place.shards) rows h in let few = (lawful.limits).few_shards in omega (arith, low, few)
