-- What stops leave of the meta disk, as its log is readied and the state is saved.
use Rattle.std.proofs.Common.{◌≡◌, ◌⊎◌, inl, inr, ◌≤◌, ℕ, Option, Some, true, sym, subst, ◌∙◌, arith}
use Rattle.m3_model.specs.declared.rules.MetaState.{MetaState}
use Rattle.m3_outside.specs.Causes.{CountsFaults}
use Rattle.m3_outside.specs.Files.{Files}
use Rattle.m3_outside.specs.DiskState.{DiskState, EachImage, Elapses, StepOf, Told}
use Rattle.m3_outside.proofs.Moments.{elapses_then}
use Rattle.placement_log.specs.MetaHolds.{KeepsLast, MaySave, MetaHolds, Saves}
use Rattle.placement_log.proofs.ElseLemmas.{else_then}

-- first the last state stays, and then another one may be saved
pub may_then : (next : MetaState) (a b c : DiskState) → Elapses KeepsLast a b → Elapses (MaySave next) b c → Elapses (MaySave next) a c
may_then next a b c one two = elapses_then a b c (λ x y image keeps. record { last = λ last h. inl (keeps.last last h); others = keeps.others })
    (λ x y z image keeps image1 may. record { last = λ last h. may.last last (keeps.last last h); others = else_then x y z keeps.others may.others }) one two

-- each stop leaves what it left, where the last state stays
pub saved_still : (last : Option MetaState) (a b : DiskState) → b.tells ≡ a.tells → (a.tells ≡ true → Elapses KeepsLast a b) → EachImage a (MetaHolds last) → EachImage b (MetaHolds last)
saved_still last a b same goes saved tells c image =
    let told = sym same ∙ tells in
    let step = (goes told).images c image in
    (step.stepped).last last (saved told step.before step.was)

-- and the state that was saved, once the save is acknowledged
pub saved_now : (last : Option MetaState) (next : MetaState) (a b : DiskState) → b.tells ≡ a.tells → (a.tells ≡ true → (c : Files) → b.images c → StepOf (Saves next) a.images c) → EachImage a (MetaHolds last) → EachImage b (MetaHolds (Some next))
saved_now last next a b same goes saved tells c image =
    let told = sym same ∙ tells in
    let step = goes told c image in
    step.stepped last (saved told step.before step.was)

-- where each stop leaves what reads give, it leaves what these hold
pub saved_by_reads : (last : Option MetaState) (d : DiskState) → EachImage d (λ c. c ≡ d.files) → Told d (MetaHolds last) → EachImage d (MetaHolds last)
saved_by_reads last d only holds tells c image = subst (MetaHolds last) (sym (only tells c image)) (holds tells)

-- ---- counts

-- nothing was done at the disk
pub counts_same : (failed : Type 0) (n : ℕ) → (failed → ⊥) → CountsFaults failed n n
counts_same failed n never = record { later = omega arith; stays = λ last. last; rose = λ f. absurd (never f) }

-- what failed here failed there
pub counts_as : (failed other : Type 0) (a b : ℕ) → (other → failed) → CountsFaults failed a b → CountsFaults other a b
counts_as failed other a b so one = record { later = one.later; stays = one.stays; rose = λ f. one.rose (so f) }
