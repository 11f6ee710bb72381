-- What befalls a node, as its members answer it.
use Rattle.std.proofs.Common.{◌≡◌, ◌<◌, ℕ, List, length, get_or, refl, sym, ap, subst, ◌∙◌, inl, inr, arith, Bool}
use Rattle.std.specs.Prelude.{Option, Some, None, IfSome, slice_get}
use Rattle.m3_model.specs.declared.answer.Answer.{Answer}
use Rattle.m3_model.specs.declared.placement.Instance.{Instance}
use Rattle.m3_model.specs.declared.reason.Reason.{Reason}
use Rattle.m3_outside.specs.DiskState.{DiskState}
use Rattle.m3_outside.specs.declared.disk.Disk.{Ghosts}
use Rattle.cluster_members.proofs.placement_core_proofs.ListLemmas.{at_index}
use Rattle.cluster_members.specs.Names.{node_named}
use Rattle.node_calls.specs.Boots.{refused_answer}
use Rattle.node_calls.specs.Nodes.{IsNode, IsUnstarted, IsRestarted, HasShard}
use Rattle.cluster_members.specs.declared.members.Members.{Members}

-- the node was found
pub node_found : {D : Type 0} {G : Ghosts D} (m : Members D G) (name text : List ℕ) (instances : List Instance) (node : ℕ) → text ≡ name → instances ≡ m.net.state.place.instances → Some node ≡ node_named text instances
    → node_named name m.net.state.place.instances ≡ Some node
node_found m name text instances node named same found = ap (λ n. node_named n m.net.state.place.instances) (sym named) ∙ ap (node_named text) (sym same) ∙ sym found

-- and is stopped or not
pub node_halted : {D : Type 0} {G : Ghosts D} (m : Members D G) (instances : List Instance) (node : ℕ) (halted b : Bool) → instances ≡ m.net.state.place.instances → node < length instances → b ≡ get_or m.stopped.items node b → b ≡ halted
    → slice_get m.stopped.items node ≡ Some halted
node_halted m instances node halted b same low at is = at_index m.stopped.items node b (omega (arith, low, ap length same, m.one_each)) at ∙ ap Some is

-- the node that was found, which is stopped or not
abbrev pub node_is : {D : Type 0} {G : Ghosts D} (m : Members D G) (name text : List ℕ) (instances : List Instance) (node : ℕ) (halted b : Bool) → text ≡ name → instances ≡ m.net.state.place.instances → Some node ≡ node_named text instances
    → node < length instances → b ≡ get_or m.stopped.items node b → b ≡ halted → IsNode m name halted
node_is m name text instances node halted b named same found low at is =
    record { node = node; found = node_found m name text instances node named same found; is = node_halted m instances node halted b same low at is }

-- the shard that is asked for is there
pub has_shard : {D : Type 0} {G : Ghosts D} (m : Members D G) (asked : Option ℕ) (shards : ℕ) → shards ≡ length m.net.state.place.shards → IfSome asked (λ shard. shard < shards) → HasShard m asked
has_shard m None shards same low = tt
has_shard m (Some shard) shards same low = subst (λ n. shard < n) same low

-- a refused restart's answer
pub unstarted_answer : {D : Type 0} {G : Ghosts D} (state : D → DiskState) (old new : Members D G) (name : List ℕ) (shard : ℕ) (why : Reason) (b : Answer) → b ≡ refused_answer name shard why → IsUnstarted state old name shard why new
    → IsRestarted state old name b new
unstarted_answer state old new name shard why b is h =
    elim (h.refused).refusal as (λ _. IsRestarted state old name b new) [
      | inl memory ↦ subst (λ x. IsRestarted state old name x new) (sym (is ∙ ap (refused_answer name shard) memory)) (shard, subst (λ w. IsUnstarted state old name shard w new) memory h)
      | inr disk ↦ subst (λ x. IsRestarted state old name x new) (sym (is ∙ ap (refused_answer name shard) disk)) (refl, subst (λ w. IsUnstarted state old name shard w new) disk h)
    ]
