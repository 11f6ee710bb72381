-- The reasons for which a begin is refused.
use Rattle.std.proofs.Common.{◌≡◌, ⊎_elim, inl, inr, refl, sym, subst, ◌∙◌, Result, Ok, Err}
use Rattle.std.specs.Prelude.{◌⊎◌, IfErr, IsErrOf}
use Rattle.shard_store.specs.Told.{AreApart}
use Rattle.m3_model.specs.declared.reason.Damage.{Damage}
use Rattle.m3_model.specs.declared.reason.Reason.{Reason}
use Rattle.m3_model.specs.declared.reason.Reason.TheVariants as reason
use Rattle.shard_store.specs.shard_files.declared.load_err.LoadErr.{LoadErr}
use Rattle.shard_store.specs.shard_files.declared.load_err.LoadErr.TheVariants as failures
use Rattle.replica_machine.specs.Boots.{MayNotLoad, IsBootReason}
use Rattle.shard_store.specs.shard_files.Damage.{OfForm, OfDigest}
use Rattle.replica_machine.specs.Damages.{told_of, IsFileDamage}
use Rattle.replica_machine.specs.Machines.{IsOwn}

is_one : (why known : Reason) → IsBootReason known → why ≡ known → IsBootReason why
is_one why known is same = subst IsBootReason (sym same) is

own_reason : (why : Reason) → IsOwn why → IsBootReason why
own_reason why own = ⊎_elim (λ (memory : why ≡ reason.Memory). is_one why reason.Memory tt memory) (λ (fault : why ≡ reason.Disk). is_one why reason.Disk tt fault) own

-- where only memory and the disk refuse
pub own_reasons : {X : Type 0} (r : Result X Reason) → IfErr r IsOwn → IfErr r IsBootReason
own_reasons (Ok x) own = tt
own_reasons (Err why) own = own_reason why own

damaged_reason : (why : Reason) (told : Damage) → (why ≡ reason.Memory) ⊎ (why ≡ reason.Corrupt told) → IsBootReason why
damaged_reason why told either = ⊎_elim (λ (memory : why ≡ reason.Memory). is_one why reason.Memory tt memory) (λ (damage : why ≡ reason.Corrupt told). is_one why (reason.Corrupt told) tt damage) either

-- where the files couldn't be read
pub unread_reason : (e : LoadErr) (why : Reason) → MayNotLoad e why → IsBootReason why
unread_reason failures.Disk why is = is_one why reason.Disk tt is
unread_reason failures.Memory why is = is_one why reason.Memory tt is
unread_reason (failures.Digest name kept found) why either = damaged_reason why (told_of (OfDigest name kept found)) either
unread_reason (failures.Form name at) why either = damaged_reason why (told_of (OfForm name at)) either

-- ---- the damage for which it is

err_is : {X : Type 0} (why other : Reason) → (let r : Result X Reason = Err why in IsErrOf r other) → why ≡ other
err_is why other e = cc

no_damage : {X : Type 0} (why : Reason) → (why ≡ reason.Memory) ⊎ (why ≡ reason.Disk) → (told : Damage) → (let r : Result X Reason = Err why in IsErrOf r (reason.Corrupt told)) → ⊥
no_damage why own told e =
    let is = err_is why (reason.Corrupt told) e in
    ⊎_elim (λ (memory : why ≡ reason.Memory). let bad : reason.Memory ≡ reason.Corrupt told = sym memory ∙ is in cc) (λ (disk : why ≡ reason.Disk). let bad : reason.Disk ≡ reason.Corrupt told = sym disk ∙ is in cc) own

same_damage : (a b : Damage) → reason.Corrupt a ≡ reason.Corrupt b → a ≡ b
same_damage a b e = cc

as_told : {X : Type 0} (why : Reason) (own : Damage) → IsFileDamage own → (why ≡ reason.Memory) ⊎ (why ≡ reason.Corrupt own) → (told : Damage) → (let r : Result X Reason = Err why in IsErrOf r (reason.Corrupt told)) → IsFileDamage told
as_told {X} why own is either told e =
    ⊎_elim (λ (memory : why ≡ reason.Memory). absurd (no_damage {X = X} why (inl memory) told e))
    (λ (damage : why ≡ reason.Corrupt own). subst IsFileDamage (same_damage own told (sym damage ∙ err_is why (reason.Corrupt told) e)) is) either

-- where the files couldn't be read, it names a file
pub unread_damage : {X : Type 0} (e : LoadErr) (why : Reason) → AreApart e → MayNotLoad e why → (told : Damage) → (let r : Result X Reason = Err why in IsErrOf r (reason.Corrupt told)) → IsFileDamage told
unread_damage {X} failures.Disk why apart is told f = absurd (no_damage {X = X} why (inr is) told f)
unread_damage {X} failures.Memory why apart is told f = absurd (no_damage {X = X} why (inl is) told f)
unread_damage (failures.Digest name kept found) why apart either told f = as_told why (told_of (OfDigest name kept found)) ((name, refl), apart) either told f
unread_damage (failures.Form name at) why apart either told f = as_told why (told_of (OfForm name at)) (name, refl) either told f

-- where only memory and the disk refuse, there is none
pub own_damage : {X : Type 0} (r : Result X Reason) → IfErr r IsOwn → (told : Damage) → IsErrOf r (reason.Corrupt told) → IsFileDamage told
own_damage (Ok x) own told e = absurd (cc)
own_damage {X} (Err why) own told e = absurd (no_damage {X = X} why own told e)
