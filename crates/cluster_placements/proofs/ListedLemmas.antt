-- The slots of a placement, as a loop lists them.
use Rattle.std.proofs.Common.{◌≡◌, ◌<◌, ◌≤◌, ◌+◌, ℕ, zero, suc, List, [], ◌∷◌, ◌++◌, length, take, get_or, map, refl, sym, ap, subst, ◌∙◌, arith, append_assoc}
use Rattle.std.proofs.lemmas.List.{append-nil, map-append}
use Rattle.m3_model.specs.declared.placement.Assignment.{Assignment}
use Rattle.placement_core.specs.Shards.{Shard, nodes_of}
use Rattle.node_calls.specs.replica_exchange.declared.slot.Slot.{Slot}
use Rattle.node_calls.specs.session_net.Runs.{slot_at}
use Rattle.first_cluster.specs.Slots.{slots_from}
use Rattle.first_cluster.proofs.ListLemmas.{take_at, take_whole}

-- those of one shard
abbrev pub slots_in : ℕ → Shard → List Slot
slots_in k shard = map (λ node. slot_at node k) (nodes_of shard)

-- one more shard
slots_push : (k : ℕ) (shards : List Shard) (shard : Shard) → slots_from k (shards ++ shard ∷ []) ≡ slots_from k shards ++ slots_in (k + length shards) shard
slots_push k [] shard = append-nil (slots_in k shard) ∙ (let same : k ≡ k + 0 = omega arith in ap (λ n. slots_in n shard) same)
slots_push k (s ∷ shards) shard =
    let same : suc k + length shards ≡ k + suc (length shards) = omega arith in
    ap (λ slots. slots_in k s ++ slots) (slots_push (suc k) shards shard) ∙ sym (append_assoc (slots_in k s) (slots_from (suc k) shards) (slots_in (suc k + length shards) shard))
    ∙ ap (λ n. (slots_in k s ++ slots_from (suc k) shards) ++ slots_in n shard) same

take_length : {X : Type 0} (xs : List X) (i : ℕ) → i ≤ length xs → length (take i xs) ≡ i
take_length [] zero h = refl
take_length [] (suc i) h = absurd (omega (arith, h))
take_length (x ∷ xs) zero h = refl
take_length (x ∷ xs) (suc i) h = ap suc (take_length xs i (omega (arith, h)))

-- those of one more shard, as a loop reads it
slots_more : (shards : List Shard) (i : ℕ) (d : Shard) → i < length shards → slots_from 0 (take (i + 1) shards) ≡ slots_from 0 (take i shards) ++ slots_in i (get_or shards i d)
slots_more shards i d low =
    let at : 0 + length (take i shards) ≡ i = omega (arith, take_length shards i (omega (arith, low))) in
    ap (slots_from 0) (take_at shards i d low) ∙ slots_push 0 (take i shards) (get_or shards i d) ∙ ap (λ n. slots_from 0 (take i shards) ++ slots_in n (get_or shards i d)) at

-- that of one more assignment
slot_more : (k : ℕ) (shard : Shard) (i : ℕ) (d : Assignment) → i < length shard → slots_in k (take (i + 1) shard) ≡ slots_in k (take i shard) ++ slot_at (get_or shard i d).node k ∷ []
slot_more k shard i d low =
    ap (slots_in k) (take_at shard i d low) ∙ ap (map (λ node. slot_at node k)) (map-append (λ (a : Assignment). a.node) (take i shard) (get_or shard i d ∷ []))
    ∙ map-append (λ node. slot_at node k) (nodes_of (take i shard)) ((get_or shard i d).node ∷ [])

pub slot_pushed : (before : List Slot) (k : ℕ) (shard : Shard) (i : ℕ) (d : Assignment) (slots new : List Slot) → i < length shard → slots ≡ before ++ slots_in k (take i shard) → new ≡ slots ++ slot_at (get_or shard i d).node k ∷ []
    → new ≡ before ++ slots_in k (take (i + 1) shard)
slot_pushed before k shard i d slots new low had push =
    push ∙ ap (λ xs. xs ++ slot_at (get_or shard i d).node k ∷ []) had ∙ append_assoc before (slots_in k (take i shard)) (slot_at (get_or shard i d).node k ∷ []) ∙ ap (λ ys. before ++ ys) (sym (slot_more k shard i d low))

pub shard_pushed : (shards all : List Shard) (k : ℕ) (d items : Shard) (n : ℕ) (slots : List Slot) → all ≡ shards → k < length all → items ≡ get_or all k d → length items ≤ n → slots ≡ slots_from 0 (take k shards) ++ slots_in k (take n items)
    → slots ≡ slots_from 0 (take (k + 1) shards)
shard_pushed shards all k d items n slots same low item whole had =
    let low_too : k < length shards = subst (λ xs. k < length xs) same low in
    had ∙ ap (λ xs. slots_from 0 (take k shards) ++ slots_in k xs) (take_whole items n whole ∙ item ∙ ap (λ (xs : List Shard). get_or xs k d) same) ∙ sym (slots_more shards k d low_too)

pub shards_pushed : (shards all : List Shard) (k : ℕ) (slots : List Slot) → all ≡ shards → length all ≤ k → slots ≡ slots_from 0 (take k shards) → slots ≡ slots_from 0 shards
shards_pushed shards all k slots same whole had = had ∙ ap (slots_from 0) (take_whole shards k (subst (λ (xs : List Shard). length xs ≤ k) same whole))
