-- What calls do to a disk, one after another, as a machine answers them.
use Rattle.std.proofs.Common.{◌≡◌, ◌≢◌, ⊎_elim, ℕ, List, max, true, refl, sym, ap, subst, ◌∙◌, arith, Result, Ok, Err}
use Rattle.std.specs.Prelude.{⊤, IfErr, IsErrOf}
use Rattle.m3_model.specs.declared.point.Point.{Point}
use Rattle.m3_model.specs.declared.reason.Reason.{Reason}
use Rattle.m3_model.specs.declared.reason.Reason.TheVariants as reason
use Rattle.m3_outside.specs.Causes.{CountsFaults}
use Rattle.m3_outside.specs.Files.{Files, Stays}
use Rattle.m3_outside.specs.DiskState.{DiskState, EachImage, StepOf, Elapses}
use Rattle.m3_outside.specs.declared.disk_err.DiskErr.{DiskErr}
use Rattle.m3_outside.specs.declared.disk_err.DiskErr.TheVariants as refused
use Rattle.m3_outside.proofs.Moments.{step_as, elapses_as, elapses_then}
use Rattle.shard_store.specs.shard_files.Parts.{AreWhole}
use Rattle.shard_store.specs.shard_files.FilesHold.{FilesHold}
use Rattle.shard_store.specs.shard_files.Gains.{Gain, nothing, HoldsAll, Gains, MayGain, Brings}
use Rattle.shard_store.proofs.shard_files_proofs.GainLemmas.{gains_nothing, nothing_is_part}
use Rattle.cluster_core.specs.declared.event.StepReply.{StepReply}
use Rattle.cluster_core.specs.declared.event.StepReply.TheVariants as reply
use Rattle.shard_store.proofs.LogStepLemmas.{after_nothing, steps_after_nothing, on_ok_as, brings_none}
use Rattle.shard_store.proofs.Counts.{counts_both, counts_for}
use Rattle.replica_machine.specs.Machines.{reason_of, settled_answer}
use Rattle.replica_machine.specs.Steps.{reply_by, BringsTo}

-- each image, a step on
pub each_step : {step : Files → Files → Type 0} (old new : DiskState) (P Q : Files → Type 0) → new.tells ≡ old.tells → (old.tells ≡ true → (c : Files) → new.images c → StepOf step old.images c) → ((x y : Files) → step x y → P x → Q y)
    → EachImage old P → EachImage new Q
each_step old new P Q same steps to each tells c image =
    let told = sym same ∙ tells in
    let s = steps told c image in
    to s.before c s.stepped (each told s.before s.was)

-- snapshots stay whole
pub each_whole : {step : Files → Files → Type 0} (old new : DiskState) (base : Files → Type 0) → new.tells ≡ old.tells → (old.tells ≡ true → (c : Files) → new.images c → StepOf step old.images c) → ((x y : Files) → step x y → AreWhole x → AreWhole y)
    → (((c : Files) → base c → AreWhole c) → EachImage old AreWhole) → ((c : Files) → base c → AreWhole c) → EachImage new AreWhole
each_whole old new base same steps stays each sound = each_step old new AreWhole AreWhole same steps stays (each sound)

-- part of nothing is nothing
all_of_nothing : (x y : Files) → MayGain nothing x y → (before : List Point) (tenure fence : ℕ) → FilesHold before tenure fence x → HoldsAll before tenure fence nothing y
all_of_nothing x y may before tenure fence held =
    let part = may.held before tenure fence held in
    let numbers : (part.tenure_now ≡ max tenure 0) × (part.fence_now ≡ max fence 0) =
    ⊎_elim (λ (same : (part.tenure_now ≡ tenure) × (part.fence_now ≡ fence)). let t = same.0 in let f = same.1 in (t ∙ zero_more tenure, f ∙ zero_more fence))
    (λ (more : (part.tenure_now ≡ max tenure 0) × (part.fence_now ≡ max fence 0)). more) part.numbers in
    record {
      points = part.points;
      held = subst (λ (n : ℕ). FilesHold part.points n (max fence 0) y) (numbers.0) (subst (λ (n : ℕ). FilesHold part.points part.tenure_now n y) (numbers.1) part.held);
      grows = part.grows;
      comes = λ p m. absurd m;
    }
  where
    zero_more : (n : ℕ) → n ≡ max n 0
    zero_more n = omega arith

pub part_of_nothing : (x y : Files) → MayGain nothing x y → Gains nothing x y
part_of_nothing x y may = record { held = all_of_nothing x y may; snapshots = may.snapshots }

-- a call that brought nothing, and then one that brought something
pub brings_then : (gain : Gain) (u : ⊤) (said : Result ⊤ DiskErr) (a b c : DiskState) → Brings nothing (Ok u) a b → Brings gain said b c → Brings gain said a c
brings_then gain u said a b c one two = record {
  any_moment = after_nothing gain a b c begins one.tells (λ t. two.any_moment (one.tells ∙ t));
  acknowledged = λ t. on_ok_as said (λ steps. steps_after_nothing gain a b c begins one.tells t steps) (two.acknowledged (one.tells ∙ t));
  unchanged = λ t memory. steps_after_nothing nothing a b c begins one.tells t (two.unchanged (one.tells ∙ t) memory);
  tells = two.tells ∙ one.tells;
  faults = counts_both _ _ _ _ _ one.faults two.faults;
}
  where
    begins : a.tells ≡ true → Elapses (Gains nothing) a b
    begins t = elapses_as a b (λ x y image may. part_of_nothing x y may) (one.any_moment t)

-- a call that brought nothing and was refused, to one that might have brought something
pub brings_refused : (gain : Gain) (e : DiskErr) (a b : DiskState) → (let r : Result ⊤ DiskErr = Err e in Brings nothing r a b) → (let r : Result ⊤ DiskErr = Err e in Brings gain r a b)
brings_refused gain e a b one = record {
  any_moment = λ t. elapses_as a b (λ x y image may. nothing_is_part gain x y (part_of_nothing x y may)) (one.any_moment t);
  acknowledged = λ t. tt;
  unchanged = one.unchanged;
  tells = one.tells;
  faults = one.faults;
}

-- ---- as a machine answers

-- the count of faults of a call, by what it answered
pub reply_counts : {X : Type 0} (ok : X → StepReply) (result : Result X Reason) (m n : ℕ) → ((x : X) → ok x ≡ reply.Refused reason.Disk → ⊥) → CountsFaults (IsErrOf result reason.Disk) m n → CountsFaults (reply_by ok result ≡ reply.Refused reason.Disk) m n
reply_counts ok (Ok x) m n never counts = counts_for _ _ _ _ (λ e. absurd (never x e)) counts
reply_counts ok (Err why) m n never counts = counts_for _ _ _ _ (λ e. ap Err (reason_same why e)) counts
  where
    reason_same : (w : Reason) → reply.Refused w ≡ reply.Refused reason.Disk → w ≡ reason.Disk
    reason_same w e = cc

pub brings_ok : {X : Type 0} (gain : Gain) (u : ⊤) (x : X) (a b : DiskState) → Brings gain (Ok u) a b → (let r : Result X Reason = Ok x in BringsTo gain r a b)
brings_ok {X} gain u x a b one = record {
  any_moment = one.any_moment;
  acknowledged = one.acknowledged;
  unchanged = λ t. tt;
  tells = one.tells;
  faults = counts_for _ _ _ _ (λ f. absurd (never f)) one.faults;
}
  where
    never : (let r : Result X Reason = Ok x in IsErrOf r reason.Disk) → ⊥
    never f = cc

pub brings_err : {X : Type 0} (gain : Gain) (e : DiskErr) (a b : DiskState) → (let r : Result ⊤ DiskErr = Err e in Brings gain r a b) → (let r : Result X Reason = Err (reason_of e) in BringsTo gain r a b)
brings_err gain refused.Failed a b one = record {
  any_moment = one.any_moment;
  acknowledged = λ t. tt;
  unchanged = λ t not. absurd (not refl);
  tells = one.tells;
  faults = counts_for _ _ _ _ (λ f. refl) one.faults;
}
brings_err {X} gain refused.Memory a b one = record {
  any_moment = one.any_moment;
  acknowledged = λ t. tt;
  unchanged = λ t not. one.unchanged t refl;
  tells = one.tells;
  faults = counts_for _ _ _ _ (λ f. absurd (never f)) one.faults;
}
  where
    never : (let r : Result X Reason = Err reason.Memory in IsErrOf r reason.Disk) → ⊥
    never f = cc

pub brings_settled : (gain : Gain) (said : Result ⊤ DiskErr) (a b : DiskState) → Brings gain said a b → BringsTo gain (settled_answer said) a b
brings_settled gain (Ok u) a b one = brings_ok gain u u a b one
brings_settled gain (Err e) a b one = brings_err gain e a b one

-- refused before the disk was called
pub brings_none_to : {X : Type 0} (gain : Gain) (why : Reason) (a : DiskState) → why ≢ reason.Disk → (let r : Result X Reason = Err why in BringsTo gain r a a)
brings_none_to {X} gain why a not =
    let none = brings_none gain (Err refused.Memory) a refl in
    record {
      any_moment = none.any_moment;
      acknowledged = λ t. tt;
      unchanged = λ t is. none.unchanged t refl;
      tells = refl;
      faults = counts_for _ _ _ _ (λ f. absurd (not (why_is f))) none.faults;
    }
  where
    why_is : (let r : Result X Reason = Err why in IsErrOf r reason.Disk) → why ≡ reason.Disk
    why_is f = cc

if_err_as : {X E : Type 0} {P Q : E → Type 0} (r : Result X E) → ((e : E) → P e → Q e) → IfErr r P → IfErr r Q
if_err_as (Ok x) to p = tt
if_err_as (Err e) to p = to e p

pub stays_nothing : (x y : Files) → Stays x y → Gains nothing x y
stays_nothing x y same = subst (Gains nothing x) (sym same) (gains_nothing x)

pub stays_steps : (a b : DiskState) → Elapses Stays a b → (c : Files) → b.images c → StepOf (Gains nothing) a.images c
stays_steps a b stays c image = step_as (λ x y was is. stays_nothing x y is) c (stays.images c image)

-- a call that changed no file, whatever it was refused for
pub brings_stays : {X : Type 0} {f : Type 0} (gain : Gain) (why : Reason) (a b : DiskState) → (a.tells ≡ true → Elapses Stays a b) → b.tells ≡ a.tells → CountsFaults f a.faults b.faults → (why ≡ reason.Disk → f)
    → (let r : Result X Reason = Err why in BringsTo gain r a b)
brings_stays {X} gain why a b stays same faults to = record {
  any_moment = λ t. elapses_as a b (λ x y image is. nothing_is_part gain x y (stays_nothing x y is)) (stays t);
  acknowledged = λ t. tt;
  unchanged = λ t not. stays_steps a b (stays t);
  tells = same;
  faults = counts_for _ _ _ _ (λ f. to (why_is f)) faults;
}
  where
    why_is : (let r : Result X Reason = Err why in IsErrOf r reason.Disk) → why ≡ reason.Disk
    why_is f = cc

-- a call that changed no file, and then one that brought something
module _ (a b c : DiskState) (stays : a.tells ≡ true → Elapses Stays a b) (same : b.tells ≡ a.tells) where
  steps_after_stays : {step : Files → Files → Type 0} → a.tells ≡ true → ((z : Files) → c.images z → StepOf step b.images z) → (z : Files) → c.images z → StepOf step a.images z
  steps_after_stays {step} t steps z image =
      let last = steps z image in
      let first = (stays t).images last.before last.was in
      record { before = first.before; was = first.was; stepped = subst (λ (w : Files). step w z) first.stepped last.stepped }

  pub after_stays : {X : Type 0} {f : Type 0} (gain : Gain) (r : Result X Reason) → CountsFaults f a.faults b.faults → BringsTo gain r b c → BringsTo gain r a c
  after_stays gain r faults two = record {
    any_moment = λ t. elapses_then a b c (λ x y image is. nothing_is_part gain x y (stays_nothing x y is)) (λ x y z image is image1 may. subst (λ (w : Files). MayGain gain w z) is may) (stays t) (two.any_moment (same ∙ t));
    acknowledged = λ t. on_ok_as r (λ steps. steps_after_stays t steps) (two.acknowledged (same ∙ t));
    unchanged = λ t. if_err_as r (λ why steps not. steps_after_stays t (steps not)) (two.unchanged (same ∙ t));
    tells = two.tells ∙ same;
    faults = counts_both _ _ _ _ _ faults two.faults;
  }
