-- Segments that are read one after another.
use Rattle.std.proofs.Common.{add-one, Result, Err, IsErrAnd, IfErr, ◌≡◌, ℕ, ◌+◌, ◌<◌, List, [], ◌∷◌, ◌++◌, length, take, drop, get_or, refl, sym, ap, subst, ◌∙◌, append_assoc}
use Rattle.std.proofs.lemmas.List.{append-nil, take-append-drop, take_more}
use Rattle.std.proofs.Math.Seq.{drop-cons}
use Rattle.std.proofs.lemmas.Result.{err_from_is_err_and}
use Rattle.log_chunks.specs.m3_outside.Files.{Files}
use Rattle.log_chunks.specs.m3_outside.declared.disk_err.DiskErr.{DiskErr}
use Rattle.log_chunks.specs.m3_outside.declared.disk_err.DiskErr.TheVariants.{Memory, Failed as DiskFailed}
use Rattle.commit_log.specs.Errors.{log_err_of}
use Rattle.commit_log.specs.Contents.{PartsHold, HasDamage, segment_bytes}
use Rattle.commit_log.specs.Reading.{ReadsMore, MayBreak, FindsAll, MayBeFirstDamage}
use Rattle.commit_log.specs.declared.log_err.LogErr.{LogErr}
use Rattle.commit_log.specs.declared.log_err.LogErr.TheVariants as errors
use Rattle.commit_log.proofs.Parts.{parts_more}
use Rattle.commit_log.proofs.FileFronts.{has_chunks}

-- one more of the list
pub one_more : (ns : List ℕ) (i n : ℕ) → i < length ns → n ≡ get_or ns i 0 → take (i + 1) ns ≡ take i ns ++ n ∷ []
one_more ns i n lt is = take_more ns i 0 lt ∙ ap (λ (k : ℕ). take i ns ++ k ∷ []) (sym is)

drop_first : (ns : List ℕ) (i : ℕ) → i < length ns → drop i ns ≡ get_or ns i 0 ∷ drop (i + 1) ns
drop_first ns i lt = rw add-one (drop-cons ns i 0 lt)

pub rest_at : (ns : List ℕ) (i n : ℕ) → i < length ns → n ≡ get_or ns i 0 → drop i ns ≡ n ∷ drop (i + 1) ns
rest_at ns i n lt is = drop_first ns i lt ∙ ap (λ (k : ℕ). k ∷ drop (i + 1) ns) (sym is)

pub split_at : (ns : List ℕ) (i n : ℕ) → i < length ns → n ≡ get_or ns i 0 → ns ≡ take i ns ++ n ∷ drop (i + 1) ns
split_at ns i n lt is = sym (take-append-drop i ns) ∙ ap (λ (l : List ℕ). take i ns ++ l) (rest_at ns i n lt is)

pub finds_none : (files : Files) (old : List (List ℕ)) → FindsAll [] files old old
finds_none files old = record { chunks = []; is = sym (append-nil old); has = refl }

pub finds_next : (ns : List ℕ) (i n : ℕ) (files : Files) (a b c : List (List ℕ)) → i < length ns → n ≡ get_or ns i 0 → FindsAll (take i ns) files a b → ReadsMore (segment_bytes n files) b c → FindsAll (take (i + 1) ns) files a c
finds_next ns i n files a b c lt is all more = record {
  chunks = all.chunks ++ more.chunks;
  is = more.is ∙ ap (λ (l : List (List ℕ)). l ++ more.chunks) all.is ∙ append_assoc a all.chunks more.chunks;
  has = subst (λ (l : List ℕ). PartsHold l files (all.chunks ++ more.chunks)) (sym (one_more ns i n lt is)) (parts_more (take i ns) n files all.chunks more.chunks all.has (has_chunks n files more.chunks more.long more.reads));
}

pub first_damage : (ns : List ℕ) (i n : ℕ) (files : Files) (a b : List (List ℕ)) → i < length ns → n ≡ get_or ns i 0 → FindsAll (take i ns) files a b → (e : LogErr) → MayBreak n (segment_bytes n files) e → MayBeFirstDamage ns files e
first_damage ns i n files a b lt is all errors.Disk d = absurd d
first_damage ns i n files a b lt is all errors.Memory d = tt
first_damage ns i n files a b lt is all (errors.Form k at) d = record {
  before = take i ns;
  after = drop (i + 1) ns;
  split = split_at ns i k lt (d.0 ∙ is);
  chunks = all.chunks;
  whole = all.has;
  damage = subst (λ m. HasDamage m at files) (sym d.0) d.1;
}

-- an error that is passed on
pub passed_err : {T U E : Type 0} (r : Result T E) (q : Result U E) (x d : E) → q ≡ Err x → IsErrAnd r (λ e. e ≡ x) → r ≡ Err d → q ≡ Err d
passed_err {T} {U} {E} r q x d was is failed = let p = err_from_is_err_and r is in by r p.0 p.1 p.2 failed
  where
    by : (r : Result T E) (y : E) → r ≡ Err y → y ≡ x → r ≡ Err d → q ≡ Err d
    by r y a b f = let same : y ≡ d = cc in was ∙ ap Err (sym b ∙ same)

pub passed_on : {T : Type 0} (r : Result T LogErr) (x : LogErr) (P : LogErr → Type 0) → IsErrAnd r (λ e. e ≡ x) → P x → IfErr r P
passed_on {T} r x P is p = let q = err_from_is_err_and r is in subst (λ (s : Result T LogErr). IfErr s P) (sym q.1) (subst P (sym q.2) p)

-- a refusal of the disk that is passed on
pub passed_fault : {T U : Type 0} (r : Result T LogErr) (q : Result U DiskErr) (x : DiskErr) → q ≡ Err x → IsErrAnd r (λ e. e ≡ log_err_of x) → r ≡ Err errors.Disk → q ≡ Err DiskFailed
passed_fault {T} {U} r q x was is failed = let p = err_from_is_err_and r is in by x was p.0 p.1 p.2
  where
    by : (x : DiskErr) → q ≡ Err x → (y : LogErr) → r ≡ Err y → y ≡ log_err_of x → q ≡ Err DiskFailed
    by DiskFailed was y a b = was
    by Memory was y a b = absurd (let f = failed in let c : y ≡ errors.Memory = b in cc)

pub passed_plain : {T : Type 0} (r : Result T LogErr) (x : DiskErr) (ns : List ℕ) (files : Files) → IsErrAnd r (λ e. e ≡ log_err_of x) → IfErr r (MayBeFirstDamage ns files)
passed_plain {T} r x ns files is = passed_on r (log_err_of x) (MayBeFirstDamage ns files) is (by x)
  where
    by : (x : DiskErr) → MayBeFirstDamage ns files (log_err_of x)
    by DiskFailed = tt
    by Memory = tt
