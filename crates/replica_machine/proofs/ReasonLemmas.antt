-- What stands against a call stands against it in the core.
use Rattle.std.proofs.Common.{◌≡◌, ◌+◌, inl, inr, ℕ, List, refl, sym, ap, subst, ◌∙◌, Bool, true, false, cond, Option, Some, None, Result, Ok, Err}
use Rattle.std.specs.Prelude.{⊤, ◌≢◌, nat_le, slice_get}
use Rattle.std.specs.Option.{option_or}
use Rattle.m3_model.specs.declared.point.Point.{Point}
use Rattle.m3_model.specs.declared.reason.Damage.{Damage}
use Rattle.m3_model.specs.declared.reason.Reason.{Reason}
use Rattle.m3_model.specs.declared.reason.Reason.TheVariants as reason
use Rattle.m3_model.specs.declared.replica.Standing.{Standing}
use Rattle.m3_model.specs.declared.replica.Standing.TheVariants as standing
use Rattle.m3_model.specs.declared.rules.Rules.{Rules}
use Rattle.m3_model.specs.declared.rules.Space.{Space}
use Rattle.m3_outside.specs.Files.{Files}
use Rattle.m3_outside.specs.DiskState.{DiskState}
use Rattle.m3_outside.specs.declared.disk_err.DiskErr.{DiskErr}
use Rattle.m3_outside.specs.declared.disk_err.DiskErr.TheVariants as refused
use Rattle.cluster_core.specs.Refusals.{reason_if, shut, unowned, untenured, outdated, outside_of, outside, first_refusal}
use Rattle.cluster_core.specs.Rows.{ReplicaMayRefuse, MayBeUnowned}
use Rattle.cluster_core.specs.declared.event.Event.{Event}
use Rattle.cluster_core.specs.declared.event.StepCall.{StepCall}
use Rattle.cluster_core.specs.declared.replica_state.ReplicaState.{ReplicaState}
use Rattle.replica_machine.specs.Machines.{MachineState, IsMachineOf, IsRefusedFor, IsOwn, reason_of, settled_answer}

-- ---- reasons that stand against a call: no memory, no fault and no damage is needed for them

abbrev pub IsPlain : Reason → Type 0
IsPlain reason.Cut = ⊥
IsPlain reason.Memory = ⊥
IsPlain reason.Disk = ⊥
IsPlain (reason.Corrupt damage) = ⊥
IsPlain _ = ⊤

abbrev pub ArePlain : Option Reason → Type 0
ArePlain None = ⊤
ArePlain (Some why) = IsPlain why

plain_or : (a b : Option Reason) → ArePlain a → ArePlain b → ArePlain (option_or a b)
plain_or None b p q = q
plain_or (Some why) b p q = p

plain_cond : (b : Bool) (o q : Option Reason) → ArePlain o → ArePlain q → ArePlain (cond b o q)
plain_cond true o q p r = p
plain_cond false o q p r = r

shut_plain : (s : Standing) → ArePlain (shut s)
shut_plain standing.Down = tt
shut_plain standing.Boot = tt
shut_plain standing.Open = tt

unowned_plain : (t : Option ℕ) (version : ℕ) → ArePlain (unowned t version)
unowned_plain None version = tt
unowned_plain (Some tenure) version = plain_cond (nat_le tenure version) None (Some reason.NotOwned) tt tt

outdated_plain : (fence version : ℕ) → ArePlain (outdated fence version)
outdated_plain fence version = plain_cond (nat_le fence version) None (Some (reason.Stale fence)) tt tt

outside_plain : (rules : Rules) (p : Point) (o : Option Space) → ArePlain (outside_of rules p o)
outside_plain rules p None = tt
outside_plain rules p (Some space) =
    plain_or (reason_if (nat_le (p.t + space.past) rules.now) reason.Past) (reason_if (nat_le (rules.now + space.future) p.t) reason.Future)
    (plain_cond (nat_le (p.t + space.past) rules.now) (Some reason.Past) None tt tt) (plain_cond (nat_le (rules.now + space.future) p.t) (Some reason.Future) None tt tt)

at_some : (o : Option Reason) (why : Reason) → ArePlain o → o ≡ Some why → IsPlain why
at_some None why p e = let wrong : None ≡ Some why = e in absurd (cc)
at_some (Some w) why p e = by w why p (some_same w why e)
  where
    some_same : (a b : Reason) → Some a ≡ Some b → a ≡ b
    some_same a b is = cc

    by : (a b : Reason) → IsPlain a → a ≡ b → IsPlain b
    by a b plain is = subst IsPlain is plain

pub shut_by : (s : Standing) (why : Reason) → shut s ≡ Some why → IsPlain why
shut_by s why e = at_some (shut s) why (shut_plain s) e

pub served_plain : (s : Standing) (t : Option ℕ) (fence version : ℕ) (why : Reason) → option_or (shut s) (option_or (unowned t version) (outdated fence version)) ≡ Some why → IsPlain why
served_plain s t fence version why e = at_some (option_or (shut s) (option_or (unowned t version) (outdated fence version))) why (plain_or (shut s) (option_or (unowned t version) (outdated fence version)) (shut_plain s) (plain_or (unowned t version) (outdated fence version) (unowned_plain t version) (outdated_plain fence version))) e

pub put_plain : (s : Standing) (t : Option ℕ) (fence version : ℕ) (rules : Rules) (p : Point) (why : Reason)
    → option_or (shut s) (option_or (unowned t version) (option_or (outdated fence version) (outside rules p))) ≡ Some why → IsPlain why
put_plain s t fence version rules p why e =
    at_some (option_or (shut s) (option_or (unowned t version) (option_or (outdated fence version) (outside rules p)))) why
    (plain_or (shut s) _ (shut_plain s) (plain_or (unowned t version) _ (unowned_plain t version) (plain_or (outdated fence version) _ (outdated_plain fence version) (outside_plain rules p (slice_get rules.spaces p.ns))))) e

pub fence_plain : (s : Standing) (t : Option ℕ) (version : ℕ) (why : Reason) → option_or (shut s) (unowned t version) ≡ Some why → IsPlain why
fence_plain s t version why e = at_some (option_or (shut s) (unowned t version)) why (plain_or (shut s) _ (shut_plain s) (unowned_plain t version)) e

untenured_plain : (t : Option ℕ) → ArePlain (untenured t)
untenured_plain None = tt
untenured_plain (Some since) = tt

pub unheld_plain : (s : Standing) (t : Option ℕ) (why : Reason) → option_or (shut s) (untenured t) ≡ Some why → IsPlain why
unheld_plain s t why e = at_some (option_or (shut s) (untenured t)) why (plain_or (shut s) _ (shut_plain s) (untenured_plain t)) e

pub plain_no_damage : (why : Reason) → IsPlain why → (damage : Damage) → why ≢ reason.Corrupt damage
plain_no_damage why plain damage e = subst IsPlain e plain

pub plain_no_fault : (why : Reason) → IsPlain why → why ≢ reason.Disk
plain_no_fault reason.Disk p e = p
plain_no_fault reason.Down p e = cc
plain_no_fault reason.Boot p e = cc
plain_no_fault reason.NotOwned p e = cc
plain_no_fault (reason.Stale fence) p e = cc
plain_no_fault reason.Past p e = cc
plain_no_fault reason.Future p e = cc
plain_no_fault reason.Cut p e = absurd p
plain_no_fault reason.Memory p e = absurd p
plain_no_fault (reason.Corrupt damage) p e = absurd p

pub plain_lawful : (tells : Bool) (past : List Event) (s : ℕ) (r : ReplicaState) (c : StepCall) → (first_refusal r c ≡ Some reason.NotOwned → MayBeUnowned tells r c) → (why : Reason) → IsPlain why → first_refusal r c ≡ Some why → ReplicaMayRefuse tells past s r c why
plain_lawful tells past s r c unowned reason.Down p e = e
plain_lawful tells past s r c unowned reason.Boot p e = e
plain_lawful tells past s r c unowned reason.NotOwned p e = unowned e
plain_lawful tells past s r c unowned (reason.Stale fence) p e = e
plain_lawful tells past s r c unowned reason.Past p e = e
plain_lawful tells past s r c unowned reason.Future p e = e
plain_lawful tells past s r c unowned reason.Disk p e = absurd p
plain_lawful tells past s r c unowned reason.Cut p e = absurd p
plain_lawful tells past s r c unowned reason.Memory p e = absurd p
plain_lawful tells past s r c unowned (reason.Corrupt damage) p e = absurd p

-- ---- the machine's and the replica's

module _ {D : Type 0} (state : D → DiskState) (r : ReplicaState) {base : Files → Type 0} (m : MachineState D) (h : IsMachineOf state base r m) where
  pub shut_alike : (F : Option ℕ → ℕ → Option Reason) → option_or (shut r.standing) (F r.tenure r.fence) ≡ option_or (shut m.standing) (F m.tenure m.fence)
  shut_alike F = by m.standing refl
    where
      here : (s : Standing) → m.standing ≡ s → option_or (shut s) (F m.tenure m.fence) ≡ option_or (shut m.standing) (F m.tenure m.fence)
      here s e = ap (λ (x : Standing). option_or (shut x) (F m.tenure m.fence)) (sym e)

      there : (s : Standing) → m.standing ≡ s → option_or (shut r.standing) (F r.tenure r.fence) ≡ option_or (shut s) (F r.tenure r.fence)
      there s e = ap (λ (x : Standing). option_or (shut x) (F r.tenure r.fence)) (sym h.stands ∙ e)

      by : (s : Standing) → m.standing ≡ s → option_or (shut r.standing) (F r.tenure r.fence) ≡ option_or (shut m.standing) (F m.tenure m.fence)
      by standing.Down e = there standing.Down e ∙ here standing.Down e
      by standing.Boot e = there standing.Boot e ∙ here standing.Boot e
      by standing.Open e = let all = h.open_ e in there standing.Open e ∙ ap (λ (t : Option ℕ). F t r.fence) (sym all.tenure) ∙ ap (F m.tenure) (sym all.fence) ∙ here standing.Open e

-- ---- first reasons

pub first_of_three : (a b c d : Option Reason) (why : Reason) → option_or a (option_or b c) ≡ Some why → option_or a (option_or b (option_or c d)) ≡ Some why
first_of_three (Some x) b c d why e = e
first_of_three None (Some x) c d why e = e
first_of_three None None (Some x) d why e = e
first_of_three None None None d why e = let wrong : None ≡ Some why = e in absurd (cc)

pub after_three : (a b c d o : Option Reason) → option_or a (option_or b c) ≡ None → d ≡ o → option_or a (option_or b (option_or c d)) ≡ o
after_three (Some x) b c d o e f = let wrong : Some x ≡ None = e in absurd (cc)
after_three None (Some x) c d o e f = let wrong : Some x ≡ None = e in absurd (cc)
after_three None None (Some x) d o e f = let wrong : Some x ≡ None = e in absurd (cc)
after_three None None None d o e f = f

pub first_of_two : (a b : Option Reason) (why : Reason) → a ≡ Some why → option_or a b ≡ Some why
first_of_two (Some x) b why e = e
first_of_two None b why e = let wrong : None ≡ Some why = e in absurd (cc)

pub after_two : (a b o : Option Reason) → a ≡ None → b ≡ o → option_or a b ≡ o
after_two (Some x) b o e f = let wrong : Some x ≡ None = e in absurd (cc)
after_two None b o e f = f

pub own_reason : (e : DiskErr) → IsOwn (reason_of e)
own_reason refused.Failed = inr refl
own_reason refused.Memory = inl refl

pub refused_none : {X : Type 0} (o : Option Reason) (said : Result X DiskErr) → o ≡ None → IsRefusedFor o (settled_answer said)
refused_none (Some why) said e = let wrong : Some why ≡ None = e in absurd (cc)
refused_none None (Ok u) e = tt
refused_none None (Err why) e = own_reason why

pub refused_some : (X : Type 0) (o : Option Reason) (why : Reason) → o ≡ Some why → (let r : Result X Reason = Err why in IsRefusedFor o r)
refused_some X None why e = let wrong : None ≡ Some why = e in absurd (cc)
refused_some X (Some w) why e = ap Err (some_same w why e)
  where
    some_same : (a b : Reason) → Some a ≡ Some b → b ≡ a
    some_same a b is = cc
