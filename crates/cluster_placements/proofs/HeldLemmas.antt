-- What a cluster needs for its next line is so again: the disks that are out are those of its replicas, and each replica's steps alone stand in the list.
use Rattle.std.proofs.Common.{◌≡◌, ◌≢◌, List, [], ◌++◌, refl, sym, ap, subst, ◌∙◌, inl, inr, IsPermutation}
use Rattle.std.specs.Prelude.{◌⊎◌, Option, Some, None}
use Rattle.std.specs.FinMap.{get}
use Rattle.std.proofs.lemmas.List.Elements.{filter_map-append}
use Rattle.m3_model.specs.Members.{IsIn}
use Rattle.m3_model.proofs.MemberLemmas.{IsIn-append_cases, IsIn-append_left, IsIn-append_right}
use Rattle.m3_outside.specs.Depots.{Depot}
use Rattle.m3_outside.specs.DiskState.{DiskState, IsEmpty}
use Rattle.m3_outside.specs.Slots.{Here, MayGive, Out}
use Rattle.cluster_core.specs.declared.event.Event.{Event}
use Rattle.node_calls.specs.replica_exchange.declared.member.Member.{Member}
use Rattle.node_calls.specs.replica_exchange.declared.slot.Slot.{Slot}
use Rattle.node_calls.specs.replica_calls.Calls.{Tracked, first_member}
use Rattle.node_calls.specs.replica_calls.Slots.{MemberMap}
use Rattle.node_calls.specs.session_net.Runs.{IsStepped, Ran, Step, step_in, steps_of}
use Rattle.node_calls.proofs.session_net_proofs.ReadyLemmas.{there_after}
use Rattle.node_calls.specs.Halts.{AreManned}
use Rattle.first_cluster.specs.Depots.{AreOut, disk_slot_of}
use Rattle.first_cluster.specs.Lending.{IsLeftAt}
use Rattle.first_cluster.proofs.SlotLists.{in_or_out}
use Rattle.cluster_placements.specs.Lending.{HaveGained, HaveReturned}
use Rattle.cluster_placements.proofs.OrderLemmas.{in_again, in_before}

clash : {X : Type 0} (o : Option X) (x : X) → o ≡ None → o ≡ Some x → ⊥
clash o x none some_ = let bad : None ≡ Some x = sym none ∙ some_ in cc

-- a replica is there or not
cases : {X : Type 0} (o : Option X) → (o ≡ None) ⊎ ((x : X) × (o ≡ Some x))
cases None = inl refl
cases (Some x) = inr (x, refl)

module _ {D : Type 0} (state : D → DiskState) where
  none_stays : (steps : List Step) (a b : Option (Member D)) → IsStepped state steps a b → a ≡ None → b ≡ None
  none_stays steps a b h none = subst (λ o. IsStepped state steps o b) none h

  -- ---- replicas were made

  module _ (new_ : List Slot) (slots all : List Slot) (old after : Depot D) (before made : MemberMap D) (events : List Event) (replicas : Tracked D) (more : List Event) (out : AreOut slots before old.held) (manned : (s : Slot) → IsIn slots s → get before s ≢ None)
      (unstepped : (s : Slot) → get before s ≡ None → steps_of s events ≡ []) (gained : HaveGained state new_ old before after made) (ran : Ran state (record { members = made; events = events }) more replicas) (same : IsPermutation (slots ++ new_) all) where
    made_new : (s : Slot) → IsIn new_ s → get made s ≢ None
    made_new s i none = clash (get made s) (first_member (gained.gained s i).disk) none (gained.gained s i).stands

    made_old : (s : Slot) → get before s ≢ None → get made s ≢ None
    made_old s there = elim (in_or_out new_ s) as (λ _. get made s ≢ None) [ inl i ↦ made_new s i | inr away ↦ λ none. there (sym (gained.others s away).member ∙ none) ]

    -- a slot without a replica had none
    none_before : (s : Slot) → get replicas.members s ≡ None → get made s ≡ None
    none_before s none = elim (cases (get made s)) as (λ _. get made s ≡ None) [
      | inl e ↦ e
      | inr m ↦ absurd (there_after state (record { members = made; events = events }) replicas more s ran (λ e. clash (get made s) m.0 e m.1) none)
    ]

    not_new : (s : Slot) → get made s ≡ None → ¬ IsIn new_ s
    not_new s none i = made_new s i none

    none_at_first : (s : Slot) → get made s ≡ None → get before s ≡ None
    none_at_first s none = sym (gained.others s (not_new s none)).member ∙ none

    pub manned_then : AreManned all replicas
    manned_then s i = there_after state (record { members = made; events = events }) replicas more s ran (elim (IsIn-append_cases slots new_ s (in_before (slots ++ new_) all same s i)) as (λ _. get made s ≢ None) [ inl had ↦ made_old s (manned s had) | inr is ↦ made_new s is ])

    pub unstepped_then : (s : Slot) → get replicas.members s ≡ None → steps_of s replicas.events ≡ []
    unstepped_then s none =
        let gone = none_before s none in
        ap (steps_of s) ran.grew ∙ filter_map-append (step_in s) events more ∙ ap (λ xs. xs ++ steps_of s more) (unstepped s (none_at_first s gone)) ∙ ran.only s gone

    out_lent : (s : Slot) (m : Member D) → get replicas.members s ≡ Some m → after.held (disk_slot_of s) ≡ Out
    out_lent s m there = elim (in_or_out new_ s) as (λ _. after.held (disk_slot_of s) ≡ Out) [
      | inl i ↦ (gained.gained s i).held
      | inr away ↦ elim (cases (get before s)) as (λ _. after.held (disk_slot_of s) ≡ Out) [
        | inr had ↦ (gained.others s away).held ∙ out.lent s had.0 had.1
        | inl none ↦ absurd (clash (get replicas.members s) m (none_stays (steps_of s more) (get made s) (get replicas.members s) (ran.stepped s) ((gained.others s away).member ∙ none)) there)
      ]
    ]

    pub out_then : AreOut all replicas.members after.held
    out_then = record {
      only = λ s away. none_stays (steps_of s more) (get made s) (get replicas.members s) (ran.stepped s)
          ((gained.others s (λ i. away (in_again (slots ++ new_) all same s (IsIn-append_right slots new_ s i)))).member ∙ out.only s (λ i. away (in_again (slots ++ new_) all same s (IsIn-append_left slots new_ s i))));
      lent = out_lent;
      there = λ s low none is_out.
          let gone = none_before s none in
          out.there s low (none_at_first s gone) (sym (gained.others s (not_new s gone)).held ∙ is_out);
    }

  -- ---- disks were given back

  pub out_still : (slots : List Slot) (members : MemberMap D) (old new : Depot D) → AreOut slots members old.held → (taken : List Slot) → HaveReturned state taken old new → AreOut slots members new.held
  out_still slots members old new out taken back = record {
    only = out.only;
    lent = λ s m there. lent_at s (out.lent s m there) (at s);
    there = λ s low none. there_at s (out.there s low none) (at s);
  }
    where
      at : (s : Slot) → IsLeftAt state old new s
      at s = elim (in_or_out taken s) as (λ _. IsLeftAt state old new s) [ inl i ↦ back.each s i | inr away ↦ inl (back.others s away) ]

      lent_at : (s : Slot) → old.held (disk_slot_of s) ≡ Out → IsLeftAt state old new s → new.held (disk_slot_of s) ≡ Out
      lent_at s was (inl same) = same.held ∙ was
      lent_at s was (inr given) = absurd (subst (λ h. MayGive (λ d. IsEmpty (state d)) h given.disk) was given.given)

      there_at : (s : Slot) → old.held (disk_slot_of s) ≢ Out → IsLeftAt state old new s → new.held (disk_slot_of s) ≢ Out
      there_at s was (inl same) is_out = was (sym same.held ∙ is_out)
      there_at s was (inr given) is_out = let bad : Here given.disk ≡ Out = sym given.held ∙ is_out in cc
