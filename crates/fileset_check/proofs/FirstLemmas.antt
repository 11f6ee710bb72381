-- The first of some looks that tells anything, and errors that tell of it.
use Rattle.std.proofs.Common.{◌≡◌, inl, inr, ℕ, List, [], ◌∷◌, ◌++◌, Result, Ok, Err, IsErrAnd, IfErr, refl, sym, ap, subst, ◌∙◌, append_assoc}
use Rattle.std.proofs.lemmas.Result.{err_from_is_err_and}
use Rattle.fileset_read.specs.m3_model.Members.{IsIn}
use Rattle.fileset_read.specs.shard_files.Damage.{Damage, FirstFound}
use Rattle.fileset_check.specs.Told.{Says, MayTell, of_part}
use Rattle.fileset_check.specs.declared.part_err.PartErr.{PartErr}
use Rattle.fileset_check.specs.declared.part_err.PartErr.TheVariants as faults
use Rattle.fileset_check.specs.declared.check_err.CheckErr.{CheckErr}
use Rattle.fileset_check.specs.declared.check_err.CheckErr.TheVariants as failures

module _ {X : Type 0} (Finds : X → Damage → Type 0) where
  pub first_here : (x : X) (xs : List X) (d : Damage) → Finds x d → FirstFound Finds (x ∷ xs) d
  first_here x xs d f = record { before = []; one = x; after = xs; split = refl; none = λ y m o g. m; found = f }

  pub first_there : (x : X) (xs : List X) (d : Damage) → ((o : Damage) → Finds x o → ⊥) → FirstFound Finds xs d → FirstFound Finds (x ∷ xs) d
  first_there x xs d never r = record { before = x ∷ r.before; one = r.one; after = r.after; split = ap (λ (l : List X). x ∷ l) r.split; none = none; found = r.found }
    where
      none : (y : X) → IsIn (x ∷ r.before) y → (o : Damage) → Finds y o → ⊥
      none y (inl e) o g = never o (subst (λ z. Finds z o) (sym e) g)
      none y (inr m) o g = r.none y m o g

  pub first_front : (xs ys : List X) (d : Damage) → FirstFound Finds xs d → FirstFound Finds (xs ++ ys) d
  first_front xs ys d r = record { before = r.before; one = r.one; after = r.after ++ ys; split = ap (λ (l : List X). l ++ ys) r.split ∙ append_assoc r.before (r.one ∷ r.after) ys; none = r.none; found = r.found }

  pub first_behind : (xs ys : List X) (d : Damage) → ((x : X) → IsIn xs x → (o : Damage) → Finds x o → ⊥) → FirstFound Finds ys d → FirstFound Finds (xs ++ ys) d
  first_behind [] ys d none r = r
  first_behind (x ∷ xs) ys d none r = first_there x (xs ++ ys) d (none x (inl refl)) (first_behind xs ys d (λ y m. none y (inr m)) r)

pub says_as : (P Q : Damage → Type 0) (e : PartErr) → ((d : Damage) → P d → Q d) → Says P e → Says Q e
says_as P Q faults.Memory to s = tt
says_as P Q (faults.Digest name kept found) to s = to _ s
says_as P Q (faults.Form name at) to s = to _ s

pub tells_as : (P Q : Damage → Type 0) (e : CheckErr) → ((d : Damage) → P d → Q d) → MayTell P e → MayTell Q e
tells_as P Q failures.Disk to s = tt
tells_as P Q failures.Memory to s = tt
tells_as P Q (failures.Digest name kept found) to s = to _ s
tells_as P Q (failures.Form name at) to s = to _ s

-- the same, as an answer of a disk's call
pub says_tells : (P : Damage → Type 0) (e : PartErr) → Says P e → MayTell P (of_part e)
says_tells P faults.Memory s = tt
says_tells P (faults.Digest name kept found) s = s
says_tells P (faults.Form name at) s = s

-- it is no fault of the disk
pub no_fault : {T : Type 0} (r : Result T CheckErr) (e : PartErr) → IsErrAnd r (λ x. x ≡ of_part e) → r ≡ Err failures.Disk → ⊥
no_fault {T} r e is f = let p = err_from_is_err_and r is in by r p.0 e p.1 p.2 f
  where
    by : (r : Result T CheckErr) (x : CheckErr) (e : PartErr) → r ≡ Err x → x ≡ of_part e → r ≡ Err failures.Disk → ⊥
    by r x faults.Memory a b f = cc
    by r x (faults.Digest name kept found) a b f = cc
    by r x (faults.Form name at) a b f = cc

-- what is told of a call's result as it is handed on
pub err_as : {T : Type 0} (r : Result T PartErr) (P Q : Damage → Type 0) → ((d : Damage) → P d → Q d) → IfErr r (Says P) → IfErr r (Says Q)
err_as (Ok x) P Q to s = tt
err_as (Err e) P Q to s = says_as P Q e to s
