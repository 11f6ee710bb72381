-- Calls of a disk that doesn't tell.
use Rattle.std.proofs.Common.{ℕ, List, Err, refl, arith}
use Rattle.std.specs.Prelude.{⊤}
use Rattle.m3_outside.specs.Causes.{CountsFaults}
use Rattle.m3_outside.specs.DiskCalls.{Reads}
use Rattle.m3_outside.specs.declared.failed.Failed.{Failed}
use Rattle.m3_outside.specs.declared.file_name.FileName.{FileName}
use Rattle.lookup_tests.specs.Silent.{silent}

pub silent_fault : (name : FileName) (at : ℕ) (buf : List ℕ) (e : Failed) (before now : ℕ) → CountsFaults ⊤ before now → Reads name at buf (Err e) (silent before) (silent now)
silent_fault name at buf e before now rose = record {
  leaves = record {
    proceeds = record {
      tells = refl;
      faults = record { later = rose.later; stays = rose.stays; rose = λ failed. rose.rose tt };
      told = λ t. absurd (cc);
    };
    files = λ t. absurd (cc);
    spare = omega arith;
  };
  bytes = λ t. absurd (cc);
}
