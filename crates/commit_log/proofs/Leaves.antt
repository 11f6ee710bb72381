-- Calls that leave all files, one after another.
use Rattle.std.proofs.Common.{◌≡◌, inl, refl, ◌∙◌, arith, Result, Err, IsErrAnd}
use Rattle.std.specs.Prelude.{IsErrOf}
use Rattle.std.proofs.lemmas.Result.{err_from_is_err_and}
use Rattle.log_chunks.specs.m3_outside.DiskState.{DiskState}
use Rattle.log_chunks.specs.m3_outside.DiskCalls.{LeavesFiles}
use Rattle.log_chunks.proofs.m3_outside_proofs.Moments.{elapses_then}
use Rattle.log_chunks.specs.m3_outside.declared.disk_err.DiskErr.{DiskErr}
use Rattle.log_chunks.specs.m3_outside.declared.disk_err.DiskErr.TheVariants.{Memory, Failed as DiskFailed}

pub leaves_none : (failed : Type 0) (d : DiskState) → (failed → ⊥) → LeavesFiles failed d d
leaves_none failed d never = record {
  proceeds = record {
    tells = refl;
    faults = record { later = omega arith; stays = λ e. e; rose = λ f. absurd (never f) };
    told = λ t. record { later = omega arith; images = λ c image. record { before = c; was = image; stepped = refl }; nothing_else = λ m c le left. inl left; keeps = λ m c le left. left };
  };
  files = λ t. refl;
  spare = omega arith;
}

-- want of memory is no fault
pub leaves_memory : {T : Type 0} (r : Result T DiskErr) (d : DiskState) → IsErrAnd r (λ e. e ≡ Memory) → LeavesFiles (IsErrOf r DiskFailed) d d
leaves_memory {T} r d is = leaves_none (IsErrOf r DiskFailed) d (λ f. let p = err_from_is_err_and r is in both r p.0 p.1 p.2 f)
  where
    both : (r : Result T DiskErr) (y : DiskErr) → r ≡ Err y → y ≡ Memory → r ≡ Err DiskFailed → ⊥
    both r y a b f = cc

pub leaves_as : (F G : Type 0) (a b : DiskState) → (G → F) → LeavesFiles F a b → LeavesFiles G a b
leaves_as F G a b back one = record {
  proceeds = record {
    tells = one.proceeds.tells;
    faults = record { later = one.proceeds.faults.later; stays = one.proceeds.faults.stays; rose = λ g. one.proceeds.faults.rose (back g) };
    told = one.proceeds.told;
  };
  files = one.files;
  spare = one.spare;
}

pub leaves_then : (F G : Type 0) (a b c : DiskState) → LeavesFiles F a b → LeavesFiles G b c → LeavesFiles G a c
leaves_then F G a b c one two = record {
  proceeds = record {
    tells = two.proceeds.tells ∙ one.proceeds.tells;
    faults = record {
      later = omega (arith, one.proceeds.faults.later, two.proceeds.faults.later);
      stays = λ e. two.proceeds.faults.stays (one.proceeds.faults.stays e);
      rose = λ g. let r = two.proceeds.faults.rose g in omega (arith, one.proceeds.faults.later, r);
    };
    told = λ t. elapses_then a b c (λ x y image same. same) (λ x y z image same image1 more. more ∙ same) (one.proceeds.told t) (two.proceeds.told (one.proceeds.tells ∙ t));
  };
  files = λ t. two.files (one.proceeds.tells ∙ t) ∙ one.files t;
  spare = omega (arith, one.spare, two.spare);
}
