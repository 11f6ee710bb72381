-- The placement that stands, exchanged for one that is kept, and back.
use Rattle.std.proofs.Common.{◌≡◌, ℕ, zero, suc, List, [], ◌∷◌, set, refl, sym, ap, ◌∙◌, subst}
use Rattle.std.specs.Prelude.{Some, slice_get}
use Rattle.m3_model.specs.declared.act.ReadLevel.{ReadLevel}
use Rattle.m3_model.specs.declared.act.WriteLevel.{WriteLevel}
use Rattle.m3_model.specs.declared.placement.Placement.{Placement}
use Rattle.m3_model.specs.declared.point.Point.{Point}
use Rattle.m3_model.specs.declared.rules.MetaState.{MetaState}
use Rattle.m3_outside.specs.DiskState.{DiskState}
use Rattle.m3_outside.specs.declared.disk.Disk.{Ghosts}
use Rattle.session_writes.specs.net_plan.declared.late_write.LateWrite.{LateWrite}
use Rattle.session_writes.specs.replica_exchange.declared.call_id.CallId.{CallId}
use Rattle.session_writes.specs.session_net.Calls.{Tracked}
use Rattle.session_writes.specs.session_net.Reads.{Wish, IsRefusedRead}
use Rattle.session_writes.specs.session_net.Writes.{IsRefused}
use Rattle.session_writes.specs.session_net.declared.net.Net.{Net}
use Rattle.session_writes.specs.session_net.declared.session_err.SessionErr.{SessionErr}
use Rattle.session_writes.specs.session_net.declared.session_err.SessionErr.TheVariants as err
use Rattle.cluster_members.specs.Calls.{IsReadAnswer, IsWriteAnswer, answer_of}
use Rattle.cluster_members.specs.Kept.{IsBy, MadeBy, StandsAt, past_by}
use Rattle.cluster_members.specs.declared.kept.Kept.{Kept}
use Rattle.cluster_members.specs.declared.kept.Kept.TheVariants as kept

same_some : (x y : Placement) → Some x ≡ Some y → x ≡ y
same_some x y e = cc

get_set : (xs : List Placement) (i : ℕ) (x y : Placement) → slice_get xs i ≡ Some x → slice_get (set xs i y) i ≡ Some y
get_set [] i x y is = cc
get_set (z ∷ xs) zero x y is = refl
get_set (z ∷ xs) (suc i) x y is = get_set xs i x y is

set_back : (xs : List Placement) (i : ℕ) (x y : Placement) → slice_get xs i ≡ Some x → set (set xs i y) i x ≡ xs
set_back [] i x y is = cc
set_back (z ∷ xs) zero x y is = ap (λ w. w ∷ xs) (sym (same_some z x is))
set_back (z ∷ xs) (suc i) x y is = ap (λ ws. z ∷ ws) (set_back xs i x y is)

stands_back : (standing place : Placement) (past : List Placement) (k : Kept) → StandsAt standing past k place → StandsAt place (past_by standing past k) k standing
stands_back standing place past kept.Standing is = sym is
stands_back standing place past (kept.Past i) is = get_set past i place standing is

past_back : (standing place : Placement) (past : List Placement) (k : Kept) → StandsAt standing past k place → past_by place (past_by standing past k) k ≡ past
past_back standing place past kept.Standing is = refl
past_back standing place past (kept.Past i) is = set_back past i place standing is

-- a net, by the kept placement, and after a call
module _ {D : Type 0} {G : Ghosts D} (old mid later : Net D G) (past first : List Placement) (k : Kept) (place : Placement) (at : StandsAt old.state.place past k place) (to : (q : Placement) → StandsAt old.state.place past k q → IsBy q old mid)
    (first_is : first ≡ past_by old.state.place past k) (same_state : later.state ≡ mid.state) (same_fates : later.fates ≡ mid.fates) where
  began : IsBy place old mid
  began = to place at

  later_state : later.state ≡ record old.state { place = place }
  later_state = same_state ∙ began.state

  later_place : later.state.place ≡ place
  later_place = ap (λ (s : MetaState). s.place) later_state

  -- its own placement is kept there
  pub at_back : StandsAt later.state.place first k old.state.place
  at_back = subst (λ (p : Placement). StandsAt p first k old.state.place) (sym later_place) (subst (λ xs. StandsAt place xs k old.state.place) (sym first_is) (stands_back old.state.place place past k at))

  -- and by its own again
  module _ (new : Net D G) (last : List Placement) (from : (q : Placement) → StandsAt later.state.place first k q → IsBy q later new) (last_is : last ≡ past_by later.state.place first k) where
    back : IsBy old.state.place later new
    back = from old.state.place at_back

    pub state_same : new.state ≡ old.state
    state_same = back.state ∙ ap (λ (s : MetaState). record s { place = old.state.place }) later_state

    pub fates_same : new.fates ≡ old.fates
    fates_same = back.fates ∙ same_fates ∙ began.fates

    pub past_same : last ≡ past
    past_same = last_is ∙ ap (λ (p : Placement). past_by p first k) later_place ∙ ap (λ xs. past_by place xs k) first_is ∙ past_back old.state.place place past k at

    ended : IsBy place new later
    ended = record { state = later_state ∙ ap (λ (s : MetaState). record s { place = place }) (sym state_same); replicas = sym back.replicas; fates = sym back.fates; bag = sym back.bag }

    pub made_by : (Made : Net D G → Net D G → Type 0) → Made mid later → MadeBy place Made old new
    made_by Made made = record { before = mid; began = began; after = later; made = made; ended = ended }

    -- what a call keeps of the replicas and of late messages
    pub keeps : (P : Tracked D → List LateWrite → Type 0) → (P mid.replicas mid.bag → P later.replicas later.bag) → P old.replicas old.bag → P new.replicas new.bag
    keeps P kept was =
        subst (λ bag. P new.replicas bag) (sym back.bag) (subst (λ (t : Tracked D). P t later.bag) (sym back.replicas)
        (kept (subst (λ bag. P mid.replicas bag) (sym began.bag) (subst (λ (t : Tracked D). P t old.bag) (sym began.replicas) was))))

    pub bag_same : later.bag ≡ mid.bag → new.bag ≡ old.bag
    bag_same same = back.bag ∙ same ∙ began.bag

-- ---- refusals, as answers

pub write_refused : {D : Type 0} {G : Ghosts D} (state : D → DiskState) (old new : Net D G) (id : CallId) (p : Point) (level : WriteLevel) (e : SessionErr) → IsRefused state old id p level new e → IsWriteAnswer state old id p level (answer_of e) new
write_refused state old new id p level (err.Consistency shard needed got reasons) h = h
write_refused state old new id p level err.Memory h = h
write_refused state old new id p level err.Full h = h

pub read_refused : {D : Type 0} {G : Ghosts D} (state : D → DiskState) (old new : Net D G) (id : CallId) (w : Wish) (level : ReadLevel) (e : SessionErr) → IsRefusedRead state old id w level new e → IsReadAnswer state old id w level (answer_of e) new
read_refused state old new id w level (err.Consistency shard needed got reasons) h = h
read_refused state old new id w level err.Memory h = h
read_refused state old new id w level err.Full h = h
