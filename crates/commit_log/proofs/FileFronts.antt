-- What the first bytes of a segment's file tell of the file.
use Rattle.std.proofs.Common.{◌≡◌, ◌⊎◌, inl, inr, ℕ, suc, ◌<◌, ◌≤◌, min, List, [], length, take, refl, sym, ap, subst, ◌∙◌, arith, append-nil, Option, Some, None, Bool, true, false, IsTrue, length-append, length-take}
use Rattle.std.specs.Prelude.{unwrap_or, option_map, nat_eq}
use Rattle.std.proofs.lemmas.List.{take_all, take-take, length-take-le}
use Rattle.std.proofs.lemmas.Bool.{cases_lt, eqb-true, eq-eqb}
use Rattle.std.specs.FinMap.{get}
use Rattle.log_chunks.specs.m3_outside.declared.file_name.FileName.{FileName}
use Rattle.log_chunks.specs.m3_outside.Files.{Files, IsPresent}
use Rattle.log_chunks.specs.Fields.{Begins, StopsAt}
use Rattle.log_chunks.proofs.FieldLemmas.{begins_take}
use Rattle.commit_log.specs.Segment.{segment, ReadsChunks, IsSegment, HasChunks}
use Rattle.commit_log.specs.Contents.{segment_bytes}
use Rattle.commit_log.specs.Reading.{EndStands, IsFront}

begun : (bytes : List ℕ) → IsSegment bytes → Begins IsSegment bytes
begun bytes is = record { rest = []; whole = subst IsSegment (sym (append-nil bytes)) is }

-- where the front stops to be a segment's, the file does
pub front_bad : (front file : List ℕ) (whole : Bool) (offset : ℕ) → IsFront front whole file → offset < length front → StopsAt IsSegment front offset → StopsAt IsSegment file offset
front_bad front file whole offset f lt s =
    let long : length front ≤ 65536 = (let t = length-take 65536 file in omega (arith, ap length f.is, t)) in
    let short : length front ≤ length file = (let t = length-take 65536 file in omega (arith, ap length f.is, t)) in
    let cut : (k : ℕ) → k ≤ length front → take k front ≡ take k file = λ (k : ℕ) le. ap (take k) f.is ∙ take-take k 65536 file (omega (arith, le, long)) in
    let none : ¬ (Begins IsSegment (take (suc offset) file)) = λ g. s.stops lt (subst (Begins IsSegment) (sym (cut (suc offset) lt)) g) in
    record {
      inside = omega (arith, lt, short);
      begins = subst (Begins IsSegment) (cut offset (omega (arith, lt))) s.begins;
      stops = λ _ g. none g;
      none = λ is. none (begins_take IsSegment (suc offset) file (begun file is));
    }

-- a file of another size stops to be a segment's where the front ends
pub front_ends : (cs : List (List ℕ)) (front file : List ℕ) (whole : Bool) (at : ℕ) → IsFront front whole file → whole ≡ false → EndStands cs front at → StopsAt IsSegment file (length front)
front_ends cs front file whole at f other_size s = by (cases_lt (length file) 65536)
  where
    other : length file ≡ 65536 → ⊥
    other e = absurd (let w : whole ≡ true = f.whole_is.1 e in let o = other_size in cc)

    stop : (n : ℕ) → length front ≡ n → take n file ≡ front → n ≤ length file → (n < length file → 65536 ≤ n) → StopsAt IsSegment file (length front)
    stop n long same le full = subst (StopsAt IsSegment file) (sym long) (record {
      inside = le;
      begins = subst (Begins IsSegment) (sym same) s.fits;
      stops = λ lt g.
          let l = g.whole.long in
          let a = length-append (take (suc n) file) g.rest in
          let t = length-take-le (suc n) file lt in
          let u = full lt in
          absurd (omega (arith, l, a, t, u));
      none = λ is. other is.long;
    })

    by : (length file < 65536) ⊎ (65536 ≤ length file) → StopsAt IsSegment file (length front)
    by (inl lt) =
        let same : front ≡ file = f.is ∙ take_all 65536 file (omega (arith, lt)) in
        stop (length file) (ap length same) (take_all (length file) file (omega arith) ∙ sym same) (omega arith) (λ less. absurd (omega (arith, less)))
    by (inr ge) = stop 65536 (ap length f.is ∙ length-take-le 65536 file ge) (sym f.is) ge (λ less. omega arith)

-- a file of a segment's size is its front
pub front_whole : (cs : List (List ℕ)) (front file : List ℕ) (whole : Bool) (at : ℕ) → IsFront front whole file → IsTrue whole → EndStands cs front at → (length file ≡ 65536) × ReadsChunks cs file
front_whole cs front file whole at f is s =
    let long = f.whole_is.0 is in
    let same : front ≡ file = f.is ∙ take_all 65536 file (omega (arith, long)) in
    (long, subst (ReadsChunks cs) same (s.ends (ap length same ∙ long)))

-- a segment of that size is there
pub has_chunks : (number : ℕ) (files : Files) (cs : List (List ℕ)) → length (segment_bytes number files) ≡ 65536 → ReadsChunks cs (segment_bytes number files) → HasChunks (segment number) cs files
has_chunks number files cs long reads = by (get files (segment number)) refl long reads
  where
    by : (o : Option (List ℕ)) → get files (segment number) ≡ o → length (unwrap_or o []) ≡ 65536 → ReadsChunks cs (unwrap_or o []) → HasChunks (segment number) cs files
    by None is long reads = absurd (let e : 0 ≡ 65536 = long in omega (arith, e))
    by (Some file) is long reads = record { file = file; there = is; size = long; reads = reads }

-- the first bytes of a file of this size
min_take : (size : ℕ) (file : List ℕ) → length file ≡ size → take (min size 65536) file ≡ take 65536 file
min_take size file long = elim (cases_lt size 65536) [
  | inl lt ↦ (let e : min size 65536 ≡ size = omega (arith, lt) in ap (λ (k : ℕ). take k file) e ∙ take_all size file (omega (arith, long)) ∙ sym (take_all 65536 file (omega (arith, long, lt))))
  | inr ge ↦ (let e : min size 65536 ≡ 65536 = omega (arith, ge) in ap (λ (k : ℕ). take k file) e)
]

pub front_is : (files : Files) (number size : ℕ) (name : FileName) (bytes : List ℕ) → name ≡ segment number → Some size ≡ option_map length (get files name) → ((file : List ℕ) → get files name ≡ Some file → bytes ≡ take (min size 65536) file)
    → IsFront bytes (nat_eq size 65536) (segment_bytes number files)
front_is files number size name bytes named is read = by (get files name) refl is
  where
    by : (o : Option (List ℕ)) → get files name ≡ o → Some size ≡ option_map length o → IsFront bytes (nat_eq size 65536) (segment_bytes number files)
    by None there e = absurd (cc)
    by (Some file) there e =
        let long : length file ≡ size = (let s : size ≡ length file = cc in sym s) in
        let same : segment_bytes number files ≡ file = ap (λ (m : FileName). unwrap_or (get files m) []) (sym named) ∙ ap (λ (o : Option (List ℕ)). unwrap_or o []) there in
        record {
          is = read file there ∙ min_take size file long ∙ ap (take 65536) (sym same);
          whole_is = ((λ w. ap length same ∙ long ∙ eqb-true size 65536 w), (λ e. eq-eqb size 65536 (sym long ∙ ap length (sym same) ∙ e)));
        }

-- a segment whose file has a size is there
pub sized_is_there : (files : Files) (number size : ℕ) (name : FileName) → name ≡ segment number → Some size ≡ option_map length (get files name) → IsPresent (segment number) files
sized_is_there files number size name named is = by (get files name) refl is
  where
    by : (o : Option (List ℕ)) → get files name ≡ o → Some size ≡ option_map length o → IsPresent (segment number) files
    by None there e = absurd (cc)
    by (Some file) there e = record { file = file; there = ap (λ (m : FileName). get files m) (sym named) ∙ there }
