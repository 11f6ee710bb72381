-- Files that are synced one after another.
use Rattle.std.proofs.Common.{◌≡◌, ⊎_elim, ℕ, ◌+◌, ◌<◌, ◌≤◌, List, [], ◌∷◌, length, take, get_or, refl, sym, ap, subst, ◌∙◌, arith, true, Option, Some, None, Result, Ok, Err}
use Rattle.std.specs.Prelude.{⊤, IsErr, IsErrAnd, IsErrOf}
use Rattle.std.specs.FinMap.{get, keys, entries}
use Rattle.std.proofs.lemmas.List.{take_all, take_more}
use Rattle.m3_model.proofs.MemberLemmas.{IsIn-append_cases, IsIn-map, map-IsIn}
use Rattle.m3_model.proofs.FindLemmas.{IsIn-get, get-IsIn}
use Rattle.m3_model.proofs.Lists.{IsIn-get_or}
use Rattle.m3_model.specs.Members.{IsIn}
use Rattle.m3_outside.specs.Causes.{CountsFaults}
use Rattle.m3_outside.specs.declared.file_name.FileName.{FileName}
use Rattle.m3_outside.specs.declared.failed.Failed.{Failed}
use Rattle.m3_outside.specs.declared.disk_err.DiskErr.{DiskErr}
use Rattle.m3_outside.specs.declared.disk_err.DiskErr.TheVariants.{Failed as DiskFailed}
use Rattle.m3_outside.specs.Files.{Files, IsPresent, Stays, name_cmp}
use Rattle.m3_outside.specs.DiskState.{DiskState, EachImage, Elapses, Proceeds, IsLawfulDisk}
use Rattle.m3_outside.specs.DiskCalls.{Syncs, LeavesFiles}
use Rattle.m3_outside.proofs.Names.{name_total, name_same, same_files}
use Rattle.m3_outside.proofs.Moments.{elapses_then, counts_then, counts_none, counts_when}

-- files stay, and the first i of them are as each stop leaves them
pub record Synced (names : List FileName) (i : ℕ) (old now : DiskState) : Type 0 where
  pub tells : now.tells ≡ old.tells
  pub faults : CountsFaults ⊥ old.faults now.faults
  pub elapses : old.tells ≡ true → Elapses Stays old now
  pub files : old.tells ≡ true → now.files ≡ old.files
  pub synced : EachImage now (λ c. (name : FileName) → IsIn (take i names) name → get c name ≡ get now.files name)
  pub room : length names ≤ now.spare + i

pub both_stay : (x y z : Files) → Stays x y → Stays y z → Stays x z
both_stay x y z one two = two ∙ one

pub elapses_stays : (a b c : DiskState) → Elapses Stays a b → Elapses Stays b c → Elapses Stays a c
elapses_stays a b c one two = elapses_then a b c (λ x y image same. same) (λ x y z image same image1 same1. both_stay x y z same same1) one two

-- an error that is passed on is a fault only where it was one
pub failed_as : (r : Result ⊤ DiskErr) (e : DiskErr) → IsErrAnd r (λ x. x ≡ e) → IsErrOf r DiskFailed → (let was : Result ⊤ DiskErr = Err e in IsErrOf was DiskFailed)
failed_as (Ok u) e same failed = absurd same
failed_as (Err x) e same failed = ap Err (sym same) ∙ failed

-- a call after one that hasn't failed
pub stays_then : (f g h : Type 0) (a b c : DiskState) → (f → ⊥) → (h → g) → Proceeds Stays f a b → Proceeds Stays g b c → Proceeds Stays h a c
stays_then f g h a b c passed also one two = record {
  tells = two.tells ∙ one.tells;
  faults = counts_then h _ _ _ (counts_none f _ _ passed one.faults) (counts_when h g _ _ also two.faults);
  told = λ tells. elapses_stays a b c (one.told tells) (two.told (one.tells ∙ tells));
}

syncs_elapses : (r : Result ⊤ Failed) (names : List FileName) (i : ℕ) (name : FileName) (a b c : DiskState) → Synced names i a b → Syncs name r b c → a.tells ≡ true → Elapses Stays a c
syncs_elapses r names i name a b c so syncs tells = elapses_stays a b c (so.elapses tells) (syncs.proceeds.told (so.tells ∙ tells))

-- a name that is listed is a file's, and each file's is listed
listed_there : (files : Files) (name : FileName) → IsIn (keys files) name → IsPresent name files
listed_there files name m =
    let e = IsIn-map (λ (x : FileName × List ℕ). x.0) (entries files) name m in
    record { file = e.0.1; there = ap (get files) (sym e.2) ∙ IsIn-get name_cmp name_total name_same files e.0.0 e.0.1 e.1 }

there_listed : (files : Files) (name : FileName) (file : List ℕ) → get files name ≡ Some file → IsIn (keys files) name
there_listed files name file e = map-IsIn (λ (x : FileName × List ℕ). x.0) (entries files) (name, file) (get-IsIn name_cmp name_total name_same files name file e)

-- no file is synced yet
pub none_synced : (names : List FileName) (a b c : DiskState) (f g : Type 0) → LeavesFiles f a b → LeavesFiles g b c → (f → ⊥) → (g → ⊥) → length names ≤ c.spare → Synced names 0 a c
none_synced names a b c f g one two no_f no_g room = record {
  tells = two.proceeds.tells ∙ one.proceeds.tells;
  faults = counts_then ⊥ _ _ _ (counts_none f _ _ no_f one.proceeds.faults) (counts_none g _ _ no_g two.proceeds.faults);
  elapses = λ tells. elapses_stays a b c (one.proceeds.told tells) (two.proceeds.told (one.proceeds.tells ∙ tells));
  files = λ tells. two.files (one.proceeds.tells ∙ tells) ∙ one.files tells;
  synced = λ tells c image name m. absurd m;
  room = omega (arith, room);
}

module _ (names : List FileName) (i : ℕ) (d : FileName) (lt : i < length names) (a b c : DiskState) (so : Synced names i a b) where
  pub one_present : (a.tells ≡ true → names ≡ keys a.files) → b.tells ≡ true → IsPresent (get_or names i d) b.files
  one_present listed tells =
      let told = sym so.tells ∙ tells in
      subst (IsPresent (get_or names i d)) (sym (so.files told)) (listed_there a.files (get_or names i d) (subst (λ (l : List FileName). IsIn l (get_or names i d)) (listed told) (IsIn-get_or names i d lt)))

  pub one_synced : (u : ⊤) → Syncs (get_or names i d) (Ok u) b c → Synced names (i + 1) a c
  one_synced u syncs = record {
    tells = syncs.proceeds.tells ∙ so.tells;
    faults = counts_then ⊥ _ _ _ so.faults (counts_none (let r : Result ⊤ Failed = Ok u in IsErr r) _ _ (λ e. absurd (cc)) syncs.proceeds.faults);
    elapses = λ tells. syncs_elapses (Ok u) names i (get_or names i d) a b c so syncs tells;
    files = λ tells. syncs.files (so.tells ∙ tells) ∙ so.files tells;
    synced = λ tells image is name m.
        let told = sym syncs.proceeds.tells ∙ tells in
        ⊎_elim (λ (before : IsIn (take i names) name).
        let step = (syncs.proceeds.told told).images image is in
        ap (λ (x : Files). get x name) step.stepped ∙ so.synced told step.before step.was name before ∙ sym (ap (λ (x : Files). get x name) (syncs.files told)))
        (λ (here : IsIn (get_or names i d ∷ []) name).
        ⊎_elim (λ (same : get_or names i d ≡ name). ap (get image) (sym same) ∙ syncs.synced told image is ∙ ap (get c.files) same) (λ (none : ⊥). absurd none) here)
        (IsIn-append_cases (take i names) (get_or names i d ∷ []) name (subst (λ (l : List FileName). IsIn l name) (take_more names i d lt) m));
    room = omega (arith, so.room, syncs.spare);
  }

  pub sync_failed : (F : Type 0) (e : Failed) → Syncs (get_or names i d) (Err e) b c → Proceeds Stays F a c
  sync_failed F e syncs = stays_then ⊥ _ F a b c (λ none. none) (λ f. refl) (record { tells = so.tells; faults = so.faults; told = so.elapses }) syncs.proceeds

pub synced_so_far : (F : Type 0) (names : List FileName) (i : ℕ) (a b : DiskState) → (F → ⊥) → Synced names i a b → Proceeds Stays F a b
synced_so_far F names i a b passed so = record { tells = so.tells; faults = counts_when F ⊥ _ _ passed so.faults; told = so.elapses }

-- all files are as each stop leaves them, and it leaves no others
pub all_synced : (names : List FileName) (i : ℕ) (a b : DiskState) → length names ≤ i → Synced names i a b → (a.tells ≡ true → names ≡ keys a.files) → IsLawfulDisk b → EachImage b (λ c. c ≡ b.files)
all_synced names i a b le so listed lawful tells c image = same_files c b.files at
  where
    told : a.tells ≡ true
    told = sym so.tells ∙ tells

    at_file : (q : FileName) (o : Option (List ℕ)) → get b.files q ≡ o → get c q ≡ get b.files q
    at_file q None e = (lawful.same_names tells c image q).0 e ∙ sym e
    at_file q (Some file) e =
        so.synced tells c image q (subst (λ (l : List FileName). IsIn l q) (sym (take_all i names le)) (subst (λ (l : List FileName). IsIn l q) (sym (listed told)) (there_listed a.files q file (ap (λ (x : Files). get x q) (sym (so.files told)) ∙ e))))

    at : (q : FileName) → get c q ≡ get b.files q
    at q = at_file q (get b.files q) refl
