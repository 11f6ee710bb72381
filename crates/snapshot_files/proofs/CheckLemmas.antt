-- What is told of the two files of a snapshot.
use Rattle.std.proofs.Common.{◌≡◌, true, ℕ, List, [], ◌∷◌, length, drop, Option, Some, Result, Ok, Err, IfErr, sym, ap, subst, ◌∙◌}
use Rattle.std.specs.Prelude.{unwrap_or, is_some}
use Rattle.std.specs.FinMap.{get}
use Rattle.sha2.specs.Sha256.{sha256}
use Rattle.fileset_check.specs.m3_outside.Files.{Files}
use Rattle.fileset_check.specs.m3_outside.declared.file_name.FileName.{FileName}
use Rattle.fileset_check.specs.wire_bytes.Fields.{StopsAt}
use Rattle.fileset_check.specs.wire_bytes.Snapshots.{snapshot_bytes}
use Rattle.fileset_check.specs.shard_files.Parts.{snapshot_checkpoint, snapshot_data}
use Rattle.fileset_check.specs.shard_files.Damage.{Damage, OfForm, OfDigest, Differs, SnapshotLook, AtGate, AtKept, AtBody, BreaksForm, BreaksDigest, IsGate, bytes_at}
use Rattle.fileset_check.specs.PartFiles.{Keeps}
use Rattle.fileset_check.specs.Told.{MayTell}
use Rattle.fileset_check.specs.declared.check_err.CheckErr.{CheckErr}
use Rattle.fileset_check.proofs.DigestLemmas.{there, unbroken}
use Rattle.fileset_check.proofs.FirstLemmas.{first_here, first_there, tells_as}
use Rattle.fileset_check.specs.fileset_read.declared.row_err.RowErr.{RowErr}
use Rattle.fileset_check.specs.fileset_read.declared.row_err.RowErr.TheVariants as errors
use Rattle.snapshot_files.specs.Bodies.{IsReadAs, Refuses}
use Rattle.snapshot_files.specs.Snaps.{seen}
use Rattle.snapshot_files.specs.Told.{AreFiles, IsThere, IsUnfit, LookTells, SnapshotTells}
use Rattle.snapshot_files.specs.declared.snap.Snap.{Snap}

pub refuses_as : (P Q : Type 0) (e : RowErr) → (Q → P) → Refuses P e → Refuses Q e
refuses_as P Q errors.Memory back r = tt
refuses_as P Q errors.Form back r = λ q. r (back q)

pub each_err : {T : Type 0} (r : Result T CheckErr) (P Q : Damage → Type 0) → ((d : Damage) → P d → Q d) → IfErr r (MayTell P) → IfErr r (MayTell Q)
each_err (Ok x) P Q to p = tt
each_err (Err e) P Q to p = tells_as P Q e to p

-- what stops in bytes that were read stops in the file
pub breaks_form : (Form : List ℕ → Type 0) (files : Files) (file name : FileName) (found : Option (List ℕ)) (bytes : List ℕ) (at : ℕ) → found ≡ get files file → bytes ≡ unwrap_or found [] → name ≡ file → StopsAt Form bytes at
    → BreaksForm Form files file (OfForm name at)
breaks_form Form files file name found bytes at is read named s = record {
  at = at;
  stops = subst (λ (l : List ℕ). StopsAt Form l at) (read ∙ ap (λ (o : Option (List ℕ)). unwrap_or o []) is) s;
  is = ap (λ (n : FileName). OfForm n at) named;
}

-- a digest that isn't the one that is kept
pub digest_told : (files : Files) (file name : FileName) (found : Option (List ℕ)) (kept digest : List ℕ) → found ≡ get files file → name ≡ file → is_some found ≡ true → digest ≡ sha256 (unwrap_or found []) → (digest ≡ kept → ⊥)
    → BreaksDigest kept files file (OfDigest name kept digest)
digest_told files file name found kept digest is named some made differ =
    Differs (unwrap_or found []) (sym is ∙ there found some) (λ e. differ (made ∙ sym e)) (λ i. OfDigest (named i) kept (made i))

module _ (number : ℕ) (files : Files) (gate body : Option (List ℕ)) (a : AreFiles number gate body files) where
  abbrev Finds : SnapshotLook → Damage → Type 0
  Finds look d = LookTells number files look d

  pub gate_told : (d : Damage) → BreaksForm IsGate files (snapshot_checkpoint number) d → SnapshotTells number files d
  gate_told d f = first_here Finds AtGate (AtKept ∷ AtBody ∷ []) d f

  module _ (kept : List ℕ) (long : length kept ≡ 32) (gate_is : gate ≡ Some (1 ∷ kept)) where
    here : bytes_at files (snapshot_checkpoint number) ≡ 1 ∷ kept
    here = ap (λ (o : Option (List ℕ)). unwrap_or o []) (sym a.checkpoint ∙ gate_is)

    gate_none : (d : Damage) → Finds AtGate d → ⊥
    gate_none d f = f.stops.none (record { digest = kept; long = long; is = here })

    pub kept_told : (d : Damage) → BreaksDigest kept files (snapshot_data number) d → SnapshotTells number files d
    kept_told d f =
        first_there Finds AtGate (AtKept ∷ AtBody ∷ []) d gate_none
        (first_here Finds AtKept (AtBody ∷ []) d (subst (λ (l : List ℕ). BreaksDigest l files (snapshot_data number) d) (sym (ap (drop 1) here)) f))

    module _ (k : Keeps kept body) (bytes : List ℕ) (read : bytes ≡ unwrap_or body []) where
      kept_none : (d : Damage) → Finds AtKept d → ⊥
      kept_none d f = unbroken kept (drop 1 (bytes_at files (snapshot_checkpoint number))) files (snapshot_data number) d (subst (Keeps kept) a.content k) (ap (drop 1) here) f

      pub body_told : (d : Damage) → IsUnfit number bytes d → SnapshotTells number files d
      body_told d f =
          first_there Finds AtGate (AtKept ∷ AtBody ∷ []) d gate_none
          (first_there Finds AtKept (AtBody ∷ []) d kept_none
          (first_here Finds AtBody [] d (subst (λ (l : List ℕ). IsUnfit number l d) (read ∙ ap (λ (o : Option (List ℕ)). unwrap_or o []) a.content) f)))

      pub is_there : (s : Snap) → IsReadAs number bytes s → IsThere number files s
      is_there s r =
          let same : k.bytes ≡ snapshot_bytes (seen s) = sym (read ∙ ap (λ (o : Option (List ℕ)). unwrap_or o []) k.there) ∙ r.is in
          record {
            numbered = r.numbered;
            holds = record {
              values = r.values;
              body = ap (λ (n : ℕ). get files (snapshot_data n)) r.numbered ∙ sym a.content ∙ k.there ∙ ap Some same;
              checkpoint = ap (λ (n : ℕ). get files (snapshot_checkpoint n)) r.numbered ∙ sym a.checkpoint ∙ gate_is ∙ ap (λ (l : List ℕ). Some (1 ∷ l)) (k.is ∙ ap sha256 same);
            };
          }
