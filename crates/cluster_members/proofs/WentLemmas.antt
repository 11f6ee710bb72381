-- A call by a placement that is kept, of a cluster.
use Rattle.std.proofs.Common.{◌≡◌, ℕ, ◌≤◌, List, ◌++◌, length, take, sym, ap, ◌∙◌, subst, arith}
use Rattle.std.proofs.lemmas.List.{take-append-le, take_all}
use Rattle.std.specs.Prelude.{Option}
use Rattle.m3_model.specs.Members.{IsIn}
use Rattle.m3_model.specs.declared.placement.Placement.{Placement}
use Rattle.m3_model.specs.declared.rules.MetaState.{MetaState}
use Rattle.m3_outside.specs.declared.disk.Disk.{Ghosts}
use Rattle.session_writes.proofs.cluster_core_proofs.ListLemmas.{at_in}
use Rattle.session_writes.specs.net_plan.declared.late_write.LateWrite.{LateWrite}
use Rattle.session_writes.specs.session_net.Calls.{Tracked}
use Rattle.session_writes.specs.session_net.Ready.{IsReady, IsCallable}
use Rattle.session_writes.specs.session_net.declared.net.Net.{Net}
use Rattle.session_writes.proofs.session_net_proofs.ReadyLemmas.{may_call}
use Rattle.cluster_members.specs.Kept.{MadeBy, StandsAt, Uses, WentBy}
use Rattle.cluster_members.specs.declared.kept.Kept.{Kept}
use Rattle.cluster_members.specs.declared.kept.Kept.TheVariants as kept
use Rattle.cluster_members.specs.declared.members.Members.{Members}

-- what was lent and came back as it was
pub items_back : (len : ℕ) (items lent rest : List Placement) → lent ≡ items → length items ≡ len → take len (lent ++ rest) ≡ items
items_back len items lent rest same long =
    let there : length lent ≡ len = ap length same ∙ long in
    take-append-le len lent rest (omega (arith, there)) ∙ take_all len lent (omega (arith, there)) ∙ same

-- a call may go by each placement that is kept
pub may_use : {D : Type 0} {G : Ghosts D} (net : Net D G) (past : List Placement) (k : Kept) (place : Placement) → IsReady net.state net.replicas net.bag
    → ((p : Placement) → IsIn past p → IsCallable (record net.state { place = p }) net.replicas net.bag) → StandsAt net.state.place past k place → IsCallable (record net.state { place = place }) net.replicas net.bag
may_use net past kept.Standing place ready serves is = subst (λ (p : Placement). IsCallable (record net.state { place = p }) net.replicas net.bag) (sym is) (may_call net.state net.replicas net.bag ready)
may_use net past (kept.Past i) place ready serves is = serves place (at_in past i place is)

-- also after a call that keeps what may be called
pub serves_after : {D : Type 0} (was state : MetaState) (replicas later : Tracked D) (bag later_bag : List LateWrite) (past items : List Placement) → ((p : Placement) → IsIn past p → IsCallable (record was { place = p }) replicas bag)
    → ((s : MetaState) → IsCallable s replicas bag → IsCallable s later later_bag) → state ≡ was → items ≡ past → (p : Placement) → IsIn items p → IsCallable (record state { place = p }) later later_bag
serves_after was state replicas later bag later_bag past items serves keeps same back p m =
    subst (λ (s : MetaState). IsCallable (record s { place = p }) later later_bag) (sym same) (keeps (record was { place = p }) (serves p (subst (λ xs. IsIn xs p) back m)))

-- it went by a placement that it may use
pub went_by : {D : Type 0} {G : Ghosts D} (old : Members D G) (version : Option ℕ) (Made : Net D G → Net D G → Type 0) (new : Net D G) (place : Placement) → Uses old.net.state.place old.past.items version place → MadeBy place Made old.net new → WentBy old version Made new
went_by old version Made new place uses made = record { place = place; uses = uses; before = made.before; began = made.began; after = made.after; made = made.made; ended = made.ended }
