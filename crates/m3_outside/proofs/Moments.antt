-- How runs of calls of a disk go on.
use Rattle.std.proofs.Common.{◌≡◌, inl, inr, ⊎_elim, ℕ, true, refl, ◌∙◌, arith}
use Rattle.m3_outside.specs.Causes.{CountsFaults}
use Rattle.m3_outside.specs.Files.{Files}
use Rattle.m3_outside.specs.DiskState.{DiskState, StepOf, Elapses, Becomes}
use Rattle.m3_outside.specs.DiskCalls.{LeavesFiles}

-- a step read as another, which it is on the images that there were
pub step_as : {s u : Files → Files → Type 0} {images : Files → Type 0} → ((x y : Files) → images x → s x y → u x y) → (c : Files) → StepOf s images c → StepOf u images c
step_as reads c step = record { before = step.before; was = step.was; stepped = reads step.before c step.was step.stepped }

pub elapses_as : {s u : Files → Files → Type 0} (old new : DiskState) → ((x y : Files) → old.images x → s x y → u x y) → Elapses s old new → Elapses u old new
elapses_as {s} {u} old new reads goes = record {
  later = goes.later;
  images = λ c now. step_as reads c (goes.images c now);
  nothing_else = λ t c le left. ⊎_elim (λ was. inl was) (λ step. inr (step_as reads c step)) (goes.nothing_else t c le left);
  keeps = goes.keeps;
}

-- one run after another: what a stop may leave of either is a step from what there was
pub elapses_then : {s t u : Files → Files → Type 0} (old mid new : DiskState)
    → ((x y : Files) → old.images x → s x y → u x y)
    → ((x y z : Files) → old.images x → s x y → mid.images y → t y z → u x z)
    → Elapses s old mid → Elapses t mid new → Elapses u old new
elapses_then {s} {t} {u} old mid new first both one two = record {
  later = omega (arith, one.later, two.later);
  images = λ c now. joined c (two.images c now);
  nothing_else = λ m c le left. ⊎_elim (λ was. ⊎_elim (λ a. inl a) (λ a. inr (step_as first c a)) (one.nothing_else m c le was)) (λ step. inr (joined c step)) (two.nothing_else m c (omega (arith, le, one.later)) left);
  keeps = λ m c le left. two.keeps m c (omega (arith, le, one.later)) (one.keeps m c le left);
}
  where
    joined : (c : Files) → StepOf t mid.images c → StepOf u old.images c
    joined c step =
        let before = one.images step.before step.was in
        record { before = before.before; was = before.was; stepped = both before.before step.before c before.was before.stepped step.was step.stepped }

-- more of a run, whose images so far are such a step
pub elapses_from : {s t u : Files → Files → Type 0} (old mid new : DiskState) → ((x y z : Files) → s x y → t y z → u x z)
    → Elapses u old mid → ((y : Files) → mid.images y → StepOf s old.images y) → Elapses t mid new → Elapses u old new
elapses_from {s} {t} {u} old mid new both one so_far two = record {
  later = omega (arith, one.later, two.later);
  images = λ c now. joined c (two.images c now);
  nothing_else = λ m c le left. ⊎_elim (λ was. one.nothing_else m c le was) (λ step. inr (joined c step)) (two.nothing_else m c (omega (arith, le, one.later)) left);
  keeps = λ m c le left. two.keeps m c (omega (arith, le, one.later)) (one.keeps m c le left);
}
  where
    joined : (c : Files) → StepOf t mid.images c → StepOf u old.images c
    joined c step = let before = so_far step.before step.was in record { before = before.before; was = before.was; stepped = both before.before step.before c before.stepped step.stepped }

-- one change and then another
pub becomes_both : (f g h : Files → Files) (a b c : DiskState) → ((x y : Files) → y ≡ f x → g y ≡ h x) → Becomes f a b → Becomes g b c → Becomes h a c
becomes_both f g h a b c both one two = record {
  files = two.files ∙ both a.files b.files one.files;
  images = λ x image.
      let last = two.images x image in
      let first = one.images last.before last.was in
      record { before = first.before; was = first.was; stepped = last.stepped ∙ both first.before last.before first.stepped };
}

pub becomes_stays : (failed : Type 0) (a b : DiskState) → LeavesFiles failed a b → a.tells ≡ true → Becomes (λ files. files) a b
becomes_stays failed a b leaves t = record { files = leaves.files t; images = (leaves.proceeds.told t).images }

pub same_becomes : (a : DiskState) → Becomes (λ files. files) a a
same_becomes a = record { files = refl; images = λ c image. record { before = c; was = image; stepped = refl } }

-- one count after another
pub counts_then : (failed : Type 0) (a b c : ℕ) → CountsFaults ⊥ a b → CountsFaults failed b c → CountsFaults failed a c
counts_then failed a b c one two = record {
  later = omega (arith, one.later, two.later);
  stays = λ e. two.stays (one.stays e);
  rose = λ f. let r = two.rose f in omega (arith, one.later, r);
}

pub counts_none : (failed : Type 0) (a b : ℕ) → (failed → ⊥) → CountsFaults failed a b → CountsFaults ⊥ a b
counts_none failed a b never one = record { later = one.later; stays = one.stays; rose = λ f. absurd f }

-- of calls that can't have failed where these haven't
pub counts_when : (f g : Type 0) (a b : ℕ) → (f → g) → CountsFaults g a b → CountsFaults f a b
counts_when f g a b also one = record { later = one.later; stays = one.stays; rose = λ failed. one.rose (also failed) }
