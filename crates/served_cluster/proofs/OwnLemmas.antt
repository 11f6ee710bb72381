-- Whose the disks are that are out.
use Rattle.std.proofs.Common.{◌≡◌, ℕ, List, refl, sym, subst, ◌∙◌, true, false, inl, inr}
use Rattle.std.specs.Prelude.{◌≢◌, ◌⊎◌, Option, Some, None, ◌<◌}
use Rattle.std.specs.FinMap as finite
use Rattle.std.specs.Option.{is_some}
use Rattle.m3_model.specs.Members.{IsIn}
use Rattle.m3_model.specs.declared.act.Act.{Act}
use Rattle.m3_model.specs.declared.act.Act.TheVariants as act
use Rattle.m3_model.specs.declared.answer.Answer.{Answer}
use Rattle.m3_model.specs.declared.answer.Answer.TheVariants as answer
use Rattle.m3_model.specs.declared.limits.TheConstants.{MOST_NODES}
use Rattle.m3_outside.specs.Depots.{Depot}
use Rattle.m3_outside.specs.DiskState.{DiskState}
use Rattle.m3_outside.specs.Slots.{Held, Out}
use Rattle.m3_outside.specs.declared.disk.Disk.{Ghosts}
use Rattle.m3_outside.specs.declared.slot.DiskSlot.{DiskSlot}
use Rattle.line_tracks.specs.replica_exchange.declared.member.Member.{Member}
use Rattle.line_tracks.specs.replica_exchange.declared.slot.Slot.{Slot}
use Rattle.line_tracks.specs.replica_calls.Slots.{MemberMap}
use Rattle.line_tracks.specs.session_net.Runs.{slot_at}
use Rattle.line_tracks.specs.cluster_members.declared.members.Members.{Members}
use Rattle.placement_acts.specs.Acts.{is_step_act}
use Rattle.line_tracks.specs.first_cluster.First.{IsRefusedInit}
use Rattle.line_tracks.specs.first_cluster.Depots.{AreOut, OwnedBy, disk_slot_of, IsForReplicas}
use Rattle.line_tracks.specs.first_cluster.Lending.{HasGivenBack, HasReturned, IsBack, IsGivenBack, IsKept, IsUntouched}
use Rattle.line_tracks.proofs.first_cluster_proofs.GiveAll.{returned_none}
use Rattle.line_tracks.specs.tracks.Acts.{Does, IsServedBy, IsStepAnswer, OnMembers, next_call}
use Rattle.line_tracks.proofs.first_cluster_proofs.PlacedSlots.{no_meta}
use Rattle.line_tracks.proofs.first_cluster_proofs.SlotLists.{in_or_out}
use Rattle.line_tracks.specs.tracks.Slots.{KeepsSlots, is_bootstrap}
use Rattle.line_tracks.proofs.tracks.SlotLemmas.{acts_keep_slots}
use Rattle.served_cluster.specs.Acts.{Answers, Serves, is_init}
use Rattle.served_cluster.specs.Owned.{held_at}
use Rattle.served_cluster.specs.declared.cluster.Cluster.{Cluster}

-- ---- `init`

-- none stood
pub none_stood : {X : Type 0} (o : Option X) → false ≡ is_some o → o ≡ None
none_stood None none = refl
none_stood (Some x) none = cc

pub not_some : {X : Type 0} (o : Option X) → ((x : X) → o ≡ Some x → ⊥) → o ≡ None
not_some None other = refl
not_some (Some x) other = absurd (other x refl)

-- one that was refused gave all disks back
pub refused_returned : {D : Type 0} (state : D → DiskState) (rf shards seed : ℕ) (nodes : List (List ℕ × List ℕ)) (old new : Depot D) (b : Answer) → IsRefusedInit state rf shards seed nodes old new b → HasReturned state old finite.empty new
refused_returned state rf shards seed nodes old new (answer.Disk name shard) h = h.1
refused_returned state rf shards seed nodes old new (answer.Group shard) h = subst (HasReturned state old finite.empty) (sym h.1) (returned_none state old)
refused_returned state rf shards seed nodes old new answer.Memory h = h
refused_returned state rf shards seed nodes old new _ h = absurd h

-- ---- disks given back

module _ {D : Type 0} (state : D → DiskState) where
  -- after an `init` that was refused no disk is out, but the meta disk may be
  pub none_returned : (old new : Depot D) → ((disk_slot : DiskSlot) → IsForReplicas disk_slot → old.held disk_slot ≢ Out) → HasReturned state old finite.empty new → (disk_slot : DiskSlot) → IsForReplicas disk_slot → new.held disk_slot ≢ Out
  none_returned old new none h disk_slot other out = by (h.each (slot_at disk_slot.node disk_slot.shard))
    where
      by : IsUntouched old finite.empty new (slot_at disk_slot.node disk_slot.shard) ⊎ IsGivenBack state old finite.empty new (slot_at disk_slot.node disk_slot.shard) → ⊥
      by (inl same) = none disk_slot other (sym same.held ∙ out)
      by (inr back) = (let clash = sym back.held ∙ out in cc)

  -- the meta disk stays where it is, as disks of nodes are given back
  pub meta_stays : (slots : List Slot) (old new : Depot D) (members left : MemberMap D) → AreOut slots members old.held → ((s : Slot) → IsIn slots s → s.node < MOST_NODES) → HasGivenBack state slots old members new left
      → (disk_slot : DiskSlot) → ¬ IsForReplicas disk_slot → new.held disk_slot ≡ old.held disk_slot
  meta_stays slots old new members left own low h disk_slot is = by (h.each s)
    where
      s : Slot
      s = slot_at disk_slot.node disk_slot.shard

      in_slots : (m : Member D) → finite.get members s ≡ Some m → IsIn slots s
      in_slots m there = elim (in_or_out slots s) as (λ _. IsIn slots s) [
        | inl i ↦ i
        | inr out ↦ absurd (let clash : None ≡ Some m = sym (own.only s out) ∙ there in cc)
      ]

      by : IsKept old members new left s ⊎ IsBack state members new left s → new.held disk_slot ≡ old.held disk_slot
      by (inl kept) = kept.held
      by (inr back) = absurd (is (no_meta s (low s (in_slots back.member back.was))))

  -- nor once those of all slots are given back
  pub none_given_back : (slots : List Slot) (old new : Depot D) (members left : MemberMap D) → AreOut slots members old.held → HasGivenBack state slots old members new left → (disk_slot : DiskSlot) → IsForReplicas disk_slot → new.held disk_slot ≢ Out
  none_given_back slots old new members left own h disk_slot other out = by (h.each s)
    where
      s : Slot
      s = slot_at disk_slot.node disk_slot.shard

      -- one that kept its replica would be none of the slots, and of no other
      none_left : (o : Option (Member D)) → finite.get members s ≡ o → finite.get left s ≡ finite.get members s → finite.get members s ≡ None
      none_left None is same = is
      none_left (Some m) is same =
          let away : ¬ IsIn slots s = λ i. (let clash : None ≡ Some m = sym (h.gone s i) ∙ same ∙ is in cc) in
          own.only s away

      by : IsKept old members new left s ⊎ IsBack state members new left s → ⊥
      by (inl kept) = own.there s other (none_left (finite.get members s) refl kept.member) (sym kept.held ∙ out)
      by (inr back) = (let clash = sym back.held ∙ out in cc)

  -- each slot has its own disk again
  pub held_back : (slots : List Slot) (old new : Depot D) (members left : MemberMap D) → AreOut slots members old.held → HasGivenBack state slots old members new left
      → (s : Slot) → new.held (disk_slot_of s) ≡ held_at old (finite.get members s) s
  held_back slots old new members left own h s = by (h.each s)
    where
      none_left : (o : Option (Member D)) → finite.get members s ≡ o → finite.get left s ≡ finite.get members s → finite.get members s ≡ None
      none_left None is same = is
      none_left (Some m) is same =
          let away : ¬ IsIn slots s = λ i. (let clash : None ≡ Some m = sym (h.gone s i) ∙ same ∙ is in cc) in
          own.only s away

      by : IsKept old members new left s ⊎ IsBack state members new left s → new.held (disk_slot_of s) ≡ held_at old (finite.get members s) s
      by (inl kept) = subst (λ o. new.held (disk_slot_of s) ≡ held_at old o s) (sym (none_left (finite.get members s) refl kept.member)) kept.held
      by (inr back) = subst (λ o. new.held (disk_slot_of s) ≡ held_at old o s) (sym back.was) back.held

-- ---- acts

module _ {D : Type 0} {G : Ghosts D} (state : D → DiskState) (held : DiskSlot → Held D) where
  owned_on : (m g : Members D G) → KeepsSlots m g → OwnedBy (Some m) held → OwnedBy (Some g) held
  owned_on m g keeps own = record {
    only = λ s away. (keeps.same s).1 (own.only s (λ i. away (subst (λ slots. IsIn slots s) (sym keeps.slots) i)));
    lent = λ s r is. by_old s (finite.get m.net.replicas.members s) refl (λ none. (let clash : None ≡ Some r = sym ((keeps.same s).1 none) ∙ is in cc));
    there = λ s other none. own.there s other ((keeps.same s).0 none);
  }
    where
      by_old : (s : Slot) (o : Option (Member D)) → finite.get m.net.replicas.members s ≡ o → (finite.get m.net.replicas.members s ≡ None → ⊥) → held (disk_slot_of s) ≡ Out
      by_old s None is some = absurd (some is)
      by_old s (Some r) is some = own.lent s r is

  -- the disks that are out stay those of its replicas
  pub owned_after : (old : Option (Members D G)) (a : Act) (b : Answer) (calls : _) (new : Option (Members D G)) → is_bootstrap a ≡ false → OnMembers old (λ m g. Does state (next_call calls) m a b g) b new → OwnedBy old held → OwnedBy new held
  owned_after None a b calls new other did own = subst (λ (o : Option (Members D G)). OwnedBy o held) (sym did.1) own
  owned_after (Some m) a b calls new other did own = subst (λ (o : Option (Members D G)). OwnedBy o held) (sym did.1) (owned_on m did.0 (acts_keep_slots state m (next_call calls) a b did.0 other did.2) own)

-- what is answered an act that makes no placement serves it
pub serves_so : {D : Type 0} {G : Ghosts D} (state : D → DiskState) (depot : Depot D) (old : Cluster D G) (a : Act) (b : Answer) (new : Cluster D G) → is_init a ≡ false → is_step_act a ≡ false → Answers state old a b new → Serves state depot old a b depot new
serves_so {D} {G} state depot old a b new other no_step h = record { members = by a other no_step h.members; calls = h.calls }
  where
    by : (x : Act) → is_init x ≡ false → is_step_act x ≡ false → OnMembers old.members (λ m g. Does state (next_call old.calls) m x b g) b new.members → IsServedBy state old.calls depot old.members x b depot new.members
    by (act.Init rf shards seed nodes) no_init no_step it = cc
    by (act.Add node group) no_init no_step it = cc
    by (act.Drain node) no_init no_step it = cc
    by (act.Cancel node) no_init no_step it = cc
    by (act.Remove node) no_init no_step it = cc
    by (act.Replace node with_ group) no_init no_step it = cc
    by (act.Namespace name block past future retention) no_init no_step it = (it, refl)
    by (act.Now now) no_init no_step it = (it, refl)
    by (act.Write ns id t v level version) no_init no_step it = (it, refl)
    by (act.Fetch ns id from to level version) no_init no_step it = (it, refl)
    by (act.Match ns wanted from to level version) no_init no_step it = (it, refl)
    by (act.Fates list) no_init no_step it = (it, refl)
    by act.Deliver no_init no_step it = (it, refl)
    by (act.Stop node) no_init no_step it = (it, refl)
    by (act.Restart node pick) no_init no_step it = (it, refl)
    by (act.Bootstrap node asked) no_init no_step it = (it, refl)
    by _ no_init no_step it = (it, refl)

-- what is answered a line that makes a placement serves its act
pub serves_step : {D : Type 0} {G : Ghosts D} (state : D → DiskState) (depot : Depot D) (old : Cluster D G) (a : Act) (b : Answer) (after : Depot D) (new : Cluster D G) → is_step_act a ≡ true → IsStepAnswer state depot old.members a b after new.members → new.calls ≡ old.calls → Serves state depot old a b after new
serves_step state depot old (act.Add node group) b after new step h calls = record { members = h; calls = calls }
serves_step state depot old (act.Drain node) b after new step h calls = record { members = h; calls = calls }
serves_step state depot old (act.Cancel node) b after new step h calls = record { members = h; calls = calls }
serves_step state depot old (act.Remove node) b after new step h calls = record { members = h; calls = calls }
serves_step state depot old (act.Replace node with_ group) b after new step h calls = record { members = h; calls = calls }
serves_step state depot old _ b after new step h calls = cc

-- where none stands it is out of order
pub none_changed : {D : Type 0} {G : Ghosts D} (state : D → DiskState) (depot : Depot D) (old : Option (Members D G)) (a : Act) → old ≡ None → IsStepAnswer state depot old a answer.Order depot old
none_changed {D} {G} state depot old a none = subst (λ (o : Option (Members D G)). IsStepAnswer state depot o a answer.Order depot o) (sym none) (refl, refl, refl)
