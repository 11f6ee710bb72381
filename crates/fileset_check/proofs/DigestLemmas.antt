-- Files that keep to their digests tell of no damage.
use Rattle.std.proofs.Common.{◌≡◌, inl, inr, ℕ, ◌≤◌, List, [], ◌∷◌, ◌++◌, length, take, drop, Option, Some, None, Bool, true, false, refl, sym, ap, subst, ◌∙◌, arith}
use Rattle.std.specs.Prelude.{unwrap_or, is_some}
use Rattle.std.proofs.lemmas.List.{take_all}
use Rattle.std.specs.FinMap.{get}
use Rattle.std.proofs.lemmas.Option.{same_Some}
use Rattle.sha2.specs.Sha256.{sha256}
use Rattle.sha2.proofs.Facts256.{length-sha256}
use Rattle.fileset_read.specs.m3_model.Members.{IsIn}
use Rattle.fileset_read.specs.m3_outside.Files.{Files, IsAbsent}
use Rattle.fileset_read.specs.m3_outside.declared.file_name.FileName.{FileName}
use Rattle.fileset_read.specs.wire_bytes.Fields.{StopsAt}
use Rattle.fileset_read.specs.wire_bytes.Volumes.{Part, Info, Summaries, Index, Data, Bloom, Digests, Checkpoint}
use Rattle.fileset_read.specs.shard_files.Parts.{part_name, kind_of}
use Rattle.fileset_read.specs.shard_files.Damage.{Damage, OfForm, OfDigest, Look, AtForm, AtDigest, bytes_at, BreaksForm, BreaksDigest, IsGone, Differs, BreaksKept, IsGate, kept_of}
use Rattle.fileset_check.specs.PartFiles.{AreParts, AreDigests, AreSealed, Keeps, part_in, bytes_in, file_of}
use Rattle.fileset_check.specs.Told.{LookTells, at_gates, at_digests}

pub not_none : {X : Type 0} (o : Option X) (a : X) → o ≡ Some a → o ≡ None → ⊥
not_none o a e f = cc

pub gone : (o : Option (List ℕ)) → is_some o ≡ false → o ≡ None
gone None e = refl
gone (Some bytes) e = absurd (cc)

pub there : (o : Option (List ℕ)) → is_some o ≡ true → o ≡ Some (unwrap_or o [])
there None e = absurd (cc)
there (Some bytes) e = refl

-- a gate that was read
pub gate_there : (o : Option (List ℕ)) (bytes kept : List ℕ) → bytes ≡ unwrap_or o [] → IsGate bytes → kept ≡ take 32 (drop 1 bytes) → o ≡ Some (1 ∷ kept)
gate_there None bytes kept read g is = absurd (let long = ap length (sym read ∙ g.is) in omega (arith, long))
gate_there (Some file) bytes kept read g is =
    let all : take 32 (drop 1 bytes) ≡ g.digest = ap (λ (l : List ℕ). take 32 (drop 1 l)) g.is ∙ take_all 32 g.digest (let long = g.long in omega (arith, long)) in
    ap Some (sym read ∙ g.is ∙ ap (λ (l : List ℕ). 1 ∷ l) (sym (is ∙ all)))

pub gate_bytes : (bytes : List ℕ) → IsGate bytes → length bytes ≡ 33
gate_bytes bytes g = ap length g.is ∙ (let long = g.long in omega (arith, long))

-- a file that keeps to its digest breaks none
pub unbroken : (kept other : List ℕ) (files : Files) (name : FileName) (d : Damage) → Keeps kept (get files name) → other ≡ kept → BreaksDigest other files name d → ⊥
unbroken kept other files name d k same (IsGone gone told) = not_none (get files name) k.bytes k.there gone
unbroken kept other files name d k same (Differs bytes have differ told) = differ (same ∙ k.is ∙ ap sha256 (same_Some k.bytes bytes (sym k.there ∙ have)))

-- bytes that were read are those of the file
pub bytes_are : (of : FileName) (files : Files) (parts : List (Option (List ℕ))) (kind : ℕ) → AreParts of files parts → 1 ≤ kind → kind ≤ 7 → bytes_in parts kind ≡ bytes_at files (file_of kind of)
bytes_are of files parts kind p low high = ap (λ (o : Option (List ℕ)). unwrap_or o []) (p.each kind low high)

module _ (of : FileName) (files : Files) (parts : List (Option (List ℕ))) (p : AreParts of files parts) where
  abbrev Tells : Look → Damage → Type 0
  Tells look d = LookTells of.ns of.block of.number files look d

  here : (kind : ℕ) (bytes : List ℕ) → 1 ≤ kind → kind ≤ 7 → part_in parts kind ≡ Some bytes → bytes_at files (file_of kind of) ≡ bytes
  here kind bytes low high is = ap (λ (o : Option (List ℕ)). unwrap_or o []) (sym (p.each kind low high) ∙ is)

  pub keeps_here : (kind : ℕ) (kept : List ℕ) → 1 ≤ kind → kind ≤ 7 → Keeps kept (part_in parts kind) → Keeps kept (get files (file_of kind of))
  keeps_here kind kept low high k = subst (Keeps kept) (p.each kind low high) k

  -- what stops in bytes that were read stops in the file
  pub breaks_form : (Form : List ℕ → Type 0) (kind : ℕ) (bytes : List ℕ) (name : FileName) (at : ℕ) → 1 ≤ kind → kind ≤ 7 → bytes ≡ bytes_in parts kind → name ≡ file_of kind of → StopsAt Form bytes at → BreaksForm Form files (file_of kind of) (OfForm name at)
  breaks_form Form kind bytes name at low high read named s = record { at = at; stops = subst (λ (l : List ℕ). StopsAt Form l at) (read ∙ bytes_are of files parts kind p low high) s; is = ap (λ (n : FileName). OfForm n at) named }

  pub breaks_gone : (kept : List ℕ) (kind : ℕ) (name : FileName) → 1 ≤ kind → kind ≤ 7 → name ≡ file_of kind of → is_some (part_in parts kind) ≡ false → BreaksDigest kept files (file_of kind of) (OfForm name 0)
  breaks_gone kept kind name low high named none = IsGone (sym (p.each kind low high) ∙ gone (part_in parts kind) none) (ap (λ (n : FileName). OfForm n 0) named)

  pub breaks_digest : (kept found : List ℕ) (kind : ℕ) (name : FileName) → 1 ≤ kind → kind ≤ 7 → name ≡ file_of kind of → is_some (part_in parts kind) ≡ true → found ≡ sha256 (bytes_in parts kind) → (found ≡ kept → ⊥) → BreaksDigest kept files (file_of kind of) (OfDigest name kept found)
  breaks_digest kept found kind name low high named some is differ =
      Differs (bytes_in parts kind) (sym (p.each kind low high) ∙ there (part_in parts kind) some) (λ e. differ (is ∙ sym e)) ((λ i. OfDigest (named i) kept (is i)))

  -- the checkpoint has a gate
  pub gate_none : (bytes : List ℕ) → length bytes ≡ 32 → part_in parts 7 ≡ Some (1 ∷ bytes) → (d : Damage) → Tells (AtForm Checkpoint) d → ⊥
  gate_none bytes long is d b = b.stops.none (record { digest = bytes; long = long; is = here 7 (1 ∷ bytes) (omega arith) (omega arith) is })

  -- the digests keep to the checkpoint
  pub kept_none : (kept : List ℕ) → part_in parts 7 ≡ Some (1 ∷ kept) → Keeps kept (part_in parts 6) → (d : Damage) → Tells (AtDigest Digests) d → ⊥
  kept_none kept is k d b =
      let of_gate : drop 1 (bytes_at files (file_of 7 of)) ≡ kept = ap (drop 1) (here 7 (1 ∷ kept) (omega arith) (omega arith) is) in
      unbroken kept b.kept files (file_of 6 of) d (keeps_here 6 kept (omega arith) (omega arith) k) (sym (same_Some _ b.kept b.is_kept) ∙ of_gate) b.breaks

  pub breaks_kept : (kept : List ℕ) (d : Damage) → part_in parts 7 ≡ Some (1 ∷ kept) → BreaksDigest kept files (file_of 6 of) d → Tells (AtDigest Digests) d
  breaks_kept kept d is b = record { kept = kept; is_kept = ap (λ (l : List ℕ). Some (drop 1 l)) (here 7 (1 ∷ kept) (omega arith) (omega arith) is); breaks = b }

  module _ (a : AreDigests parts) where
    five_here : bytes_at files (file_of 6 of) ≡ a.five
    five_here = here 6 a.five (omega arith) (omega arith) a.digests

    five_long : (d : Damage) → Tells (AtForm Digests) d → ⊥
    five_long d b = b.stops.none (ap length five_here ∙ a.long)

    pub gates_none : (look : Look) → IsIn at_gates look → (d : Damage) → Tells look d → ⊥
    gates_none look (inl e) d b = gate_none (sha256 a.five) (length-sha256 a.five) a.checkpoint d (subst (λ (l : Look). Tells l d) (sym e) b)
    gates_none look (inr (inl e)) d b = kept_none (sha256 a.five) a.checkpoint (record { bytes = a.five; there = a.digests; is = refl }) d (subst (λ (l : Look). Tells l d) (sym e) b)
    gates_none look (inr (inr (inl e))) d b = five_long d (subst (λ (l : Look). Tells l d) (sym e) b)
    gates_none look (inr (inr (inr m))) d b = m

    -- one of the five keeps to its digest
    pub one_none : (part : Part) (kept : List ℕ) → 1 ≤ kind_of part → kind_of part ≤ 7 → kept_of part of.ns of.block of.number files ≡ Some kept → Keeps kept (part_in parts (kind_of part)) → (d : Damage) → BreaksKept part of.ns of.block of.number files d → ⊥
    one_none part kept low high is k d b = unbroken kept b.kept files (file_of (kind_of part) of) d (keeps_here (kind_of part) kept low high k) (same_Some b.kept kept (sym b.is_kept ∙ is)) b.breaks

    pub one_breaks : (part : Part) (kept : List ℕ) (d : Damage) → kept_of part of.ns of.block of.number files ≡ Some kept → BreaksDigest kept files (file_of (kind_of part) of) d → BreaksKept part of.ns of.block of.number files d
    one_breaks part kept d is b = record { kept = kept; is_kept = is; breaks = b }

    pub kept_info : kept_of Info of.ns of.block of.number files ≡ Some (take 32 a.five)
    kept_info = ap (λ (l : List ℕ). Some (take 32 l)) five_here

    pub kept_summaries : kept_of Summaries of.ns of.block of.number files ≡ Some (take 32 (drop 32 a.five))
    kept_summaries = ap (λ (l : List ℕ). Some (take 32 (drop 32 l))) five_here

    pub kept_index : kept_of Index of.ns of.block of.number files ≡ Some (take 32 (drop 64 a.five))
    kept_index = ap (λ (l : List ℕ). Some (take 32 (drop 64 l))) five_here

    pub kept_data : kept_of Data of.ns of.block of.number files ≡ Some (take 32 (drop 96 a.five))
    kept_data = ap (λ (l : List ℕ). Some (take 32 (drop 96 l))) five_here

    pub kept_bloom : kept_of Bloom of.ns of.block of.number files ≡ Some (take 32 (drop 128 a.five))
    kept_bloom = ap (λ (l : List ℕ). Some (take 32 (drop 128 l))) five_here

  -- nothing is told of digests
  pub digests_none : (s : AreSealed parts) (look : Look) → IsIn at_digests look → (d : Damage) → Tells look d → ⊥
  digests_none s look (inl e) d b = gates_none s.digests look (inl e) d b
  digests_none s look (inr (inl e)) d b = gates_none s.digests look (inr (inl e)) d b
  digests_none s look (inr (inr (inl e))) d b = gates_none s.digests look (inr (inr (inl e))) d b
  digests_none s look (inr (inr (inr (inl e)))) d b = one_none s.digests Info _ (omega arith) (omega arith) (kept_info s.digests) s.info d (subst (λ (l : Look). Tells l d) (sym e) b)
  digests_none s look (inr (inr (inr (inr (inl e))))) d b = one_none s.digests Summaries _ (omega arith) (omega arith) (kept_summaries s.digests) s.summaries d (subst (λ (l : Look). Tells l d) (sym e) b)
  digests_none s look (inr (inr (inr (inr (inr (inl e)))))) d b = one_none s.digests Index _ (omega arith) (omega arith) (kept_index s.digests) s.index d (subst (λ (l : Look). Tells l d) (sym e) b)
  digests_none s look (inr (inr (inr (inr (inr (inr (inl e))))))) d b = one_none s.digests Data _ (omega arith) (omega arith) (kept_data s.digests) s.body d (subst (λ (l : Look). Tells l d) (sym e) b)
  digests_none s look (inr (inr (inr (inr (inr (inr (inr (inl e)))))))) d b = one_none s.digests Bloom _ (omega arith) (omega arith) (kept_bloom s.digests) s.bloom d (subst (λ (l : Look). Tells l d) (sym e) b)
  digests_none s look (inr (inr (inr (inr (inr (inr (inr (inr m)))))))) d b = m

-- the digests are five, and the checkpoint has theirs
pub kept_five : (parts : List (Option (List ℕ))) (kept : List ℕ) → part_in parts 7 ≡ Some (1 ∷ kept) → Keeps kept (part_in parts 6) → length (bytes_in parts 6) ≡ 160 → AreDigests parts
kept_five parts kept gate k long = record {
  five = k.bytes;
  checkpoint = gate ∙ ap (λ (l : List ℕ). Some (1 ∷ l)) k.is;
  digests = k.there;
  long = ap (λ (o : Option (List ℕ)). length (unwrap_or o [])) (sym k.there) ∙ long;
}

-- what the five digests are
pub five_in : (parts : List (Option (List ℕ))) → (a : AreDigests parts) → bytes_in parts 6 ≡ a.five
five_in parts a = ap (λ (o : Option (List ℕ)). unwrap_or o []) a.digests
