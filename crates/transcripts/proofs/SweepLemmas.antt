-- Entries of sweeps, and what a sweep's answer lists of them.
use Rattle.std.proofs.Common.{◌≡◌, ℕ, List, refl, ap, subst}
use Rattle.std.specs.Prelude.{Option, Some, None, Result, Ok, Err, map, option_map}
use Rattle.std.specs.Result.{result_ok, result_err}
use Rattle.std.proofs.lemmas.Option.{same_Some}
use Rattle.m3_model.specs.Members.{IsIn}
use Rattle.m3_model.specs.declared.reason.Reason.{Reason}
use Rattle.m3_model.proofs.MemberLemmas.{IsIn-filter_map, map-IsIn}
use Rattle.transcripts.specs.Sweeps.{Entry, done_in, failed_in, slot_of}

-- the entry of a slot that did it
pub record HasDone (entries : List Entry) (x : ℕ × ℕ × ℕ) : Type 0 where
  pub entry : Entry
  pub among : IsIn entries entry
  pub node_is : entry.node ≡ x.0
  pub shard_is : entry.shard ≡ x.1
  pub said_is : entry.said ≡ Ok x.2

pub done_entry : (entries : List Entry) (x : ℕ × ℕ × ℕ) → IsIn (done_in entries) x → HasDone entries x
done_entry entries x m = let found = IsIn-filter_map (λ (e : Entry). option_map (λ n. (e.node, e.shard, n)) (result_ok e.said)) entries x m in by found.0 (found.0).said refl found.1 found.2
  where
    by : (e : Entry) (said : Result ℕ Reason) → e.said ≡ said → IsIn entries e → option_map (λ n. (e.node, e.shard, n)) (result_ok said) ≡ Some x → HasDone entries x
    by e (Ok n) is among same =
        let it : (e.node, e.shard, n) ≡ x = same_Some (e.node, e.shard, n) x same in
        record { entry = e; among = among; node_is = ap (λ (y : ℕ × ℕ × ℕ). y.0) it; shard_is = ap (λ (y : ℕ × ℕ × ℕ). y.1) it; said_is = subst (λ k. e.said ≡ Ok k) (ap (λ (y : ℕ × ℕ × ℕ). y.2) it) is }
    by e (Err why) is among same = cc

-- and of one that refused
pub record HasRefused (entries : List Entry) (x : ℕ × ℕ × Reason) : Type 0 where
  pub entry : Entry
  pub among : IsIn entries entry
  pub node_is : entry.node ≡ x.0
  pub shard_is : entry.shard ≡ x.1
  pub said_is : entry.said ≡ Err x.2

pub failed_entry : (entries : List Entry) (x : ℕ × ℕ × Reason) → IsIn (failed_in entries) x → HasRefused entries x
failed_entry entries x m = let found = IsIn-filter_map (λ (e : Entry). option_map (λ why. (e.node, e.shard, why)) (result_err e.said)) entries x m in by found.0 (found.0).said refl found.1 found.2
  where
    by : (e : Entry) (said : Result ℕ Reason) → e.said ≡ said → IsIn entries e → option_map (λ why. (e.node, e.shard, why)) (result_err said) ≡ Some x → HasRefused entries x
    by e (Ok n) is among same = cc
    by e (Err why) is among same =
        let it : (e.node, e.shard, why) ≡ x = same_Some (e.node, e.shard, why) x same in
        record { entry = e; among = among; node_is = ap (λ (y : ℕ × ℕ × Reason). y.0) it; shard_is = ap (λ (y : ℕ × ℕ × Reason). y.1) it; said_is = subst (λ k. e.said ≡ Err k) (ap (λ (y : ℕ × ℕ × Reason). y.2) it) is }

-- an entry's slot is one of the slots
pub entry_slot : (entries : List Entry) (e : Entry) (node shard : ℕ) → IsIn entries e → e.node ≡ node → e.shard ≡ shard → IsIn (map slot_of entries) (node, shard)
entry_slot entries e node shard among node_is shard_is = subst (λ (x : ℕ × ℕ). IsIn (map slot_of entries) x) (λ i. (node_is i, shard_is i)) (map-IsIn slot_of entries e among)
