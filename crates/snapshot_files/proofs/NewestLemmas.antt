-- Which of the names is that of the newest snapshot that counts.
use Rattle.std.proofs.Common.{◌≡◌, inl, inr, ℕ, ◌+◌, ◌<◌, List, [], ◌∷◌, ◌++◌, length, take, map, get_or, Bool, true, false, cond, ◌&&◌, if◌then◌else◌, Option, Some, None, refl, sym, ap, ◌∙◌}
use Rattle.std.specs.Prelude.{filter}
use Rattle.std.specs.FinMap.{get, keys, entries}
use Rattle.std.proofs.lemmas.List.{append-nil}
use Rattle.std.proofs.lemmas.List.Elements.{filter_more}
use Rattle.std.proofs.lemmas.Bool.{and_parts}
use Rattle.fileset_check.specs.m3_model.Members.{IsIn}
use Rattle.fileset_check.proofs.m3_model_proofs.FindLemmas.{IsIn-get}
use Rattle.fileset_check.specs.m3_outside.declared.file_name.FileName.{FileName}
use Rattle.fileset_check.specs.m3_outside.Files.{Files, name_cmp}
use Rattle.fileset_check.proofs.m3_outside_proofs.Names.{name_total, name_same}
use Rattle.fileset_check.specs.shard_files.Parts.{is_open, counts, is_snapshot_checkpoint, counted_snapshots, snapshot_checkpoint, NewestIs}
use Rattle.fileset_check.specs.shard_files.Damage.{last_of}
use Rattle.fileset_check.proofs.shard_files_proofs.PartLemmas.{snapshot_named}
use Rattle.snapshot_files.specs.Snaps.{seen}
use Rattle.snapshot_files.specs.Told.{IsThere, checkpoint_of, is_counted}
use Rattle.snapshot_files.specs.declared.snap.Snap.{Snap}

pub last_more : (names : List FileName) (name : FileName) → last_of (names ++ name ∷ []) ≡ name ∷ []
last_more [] name = refl
last_more (n ∷ []) name = refl
last_more (n ∷ m ∷ names) name = last_more (m ∷ names) name

none_last : (names : List FileName) → last_of names ≡ [] → names ≡ []
none_last [] is = refl
none_last (n ∷ []) is = is
none_last (n ∷ m ∷ names) is = absurd (never (none_last (m ∷ names) is))
  where
    never : m ∷ names ≡ [] → ⊥
    never e = cc

-- a list up to its last
record IsLast (names : List FileName) (name : FileName) : Type 0 where
  older : List FileName
  is : names ≡ older ++ name ∷ []

one_last : (names : List FileName) (name : FileName) → last_of names ≡ name ∷ [] → IsLast names name
one_last [] name is = absurd (cc)
one_last (n ∷ []) name is = record { older = []; is = is }
one_last (n ∷ m ∷ names) name is = let r = one_last (m ∷ names) name is in record { older = n ∷ r.older; is = ap (λ (l : List FileName). n ∷ l) r.is }

module _ (files : Files) where
  of_entries : (es : List (FileName × List ℕ)) → ((e : FileName × List ℕ) → IsIn es e → get files e.0 ≡ Some e.1)
      → filter (is_counted files) (map (λ (e : FileName × List ℕ). e.0) es) ≡ map (λ (e : FileName × List ℕ). e.0) (filter (counts is_snapshot_checkpoint) es)
  of_entries [] there = refl
  of_entries (e ∷ es) there =
      by (is_counted files e.0) (counts is_snapshot_checkpoint e) (ap (λ o. is_snapshot_checkpoint e.0 && is_open o) (there e (inl refl))) (of_entries es (λ x m. there x (inr m)))
    where
      by : (a b : Bool) → a ≡ b → filter (is_counted files) (map (λ (x : FileName × List ℕ). x.0) es) ≡ map (λ (x : FileName × List ℕ). x.0) (filter (counts is_snapshot_checkpoint) es)
          → cond a (e.0 ∷ filter (is_counted files) (map (λ (x : FileName × List ℕ). x.0) es)) (filter (is_counted files) (map (λ (x : FileName × List ℕ). x.0) es)) ≡ map (λ (x : FileName × List ℕ). x.0) (cond b (e ∷ filter (counts is_snapshot_checkpoint) es) (filter (counts is_snapshot_checkpoint) es))
      by true true same rest = ap (λ (l : List FileName). e.0 ∷ l) rest
      by true false same rest = absurd (cc)
      by false true same rest = absurd (cc)
      by false false same rest = rest

  pub counted_names : filter (is_counted files) (keys files) ≡ counted_snapshots files
  counted_names = of_entries (entries files) (λ e m. IsIn-get name_cmp name_total name_same files e.0 e.1 m)

  -- one name more is looked at
  later : (names : List FileName) (name : FileName) (b : Bool) (before : Option ℕ) → is_counted files name ≡ b → last_of names ≡ checkpoint_of before
      → last_of (names ++ cond b (name ∷ []) []) ≡ checkpoint_of (if b then Some name.number else before)
  later names name true before counted was = last_more names name ∙ ap (λ (n : FileName). n ∷ []) (snapshot_named name (and_parts (is_snapshot_checkpoint name) (is_open (get files name)) counted).0)
  later names name false before counted was = ap last_of (append-nil names) ∙ was

  pub name_more : (names : List FileName) (i : ℕ) (d : FileName) (is : Bool) (before now : Option ℕ) → i < length names → is ≡ is_counted files (get_or names i d) → last_of (filter (is_counted files) (take i names)) ≡ checkpoint_of before
      → now ≡ (if is then Some (get_or names i d).number else before) → last_of (filter (is_counted files) (take (i + 1) names)) ≡ checkpoint_of now
  name_more names i d is before now lt counted was then_ =
      ap last_of (filter_more (is_counted files) names i d lt)
      ∙ later (filter (is_counted files) (take i names)) (get_or names i d) (is_counted files (get_or names i d)) before refl was
      ∙ ap (λ (b : Bool). checkpoint_of (if b then Some (get_or names i d).number else before)) (sym counted)
      ∙ ap checkpoint_of (sym then_)

  pub none_newest : last_of (counted_snapshots files) ≡ [] → NewestIs None files
  none_newest is = none_last (counted_snapshots files) is

  pub is_newest : (number : ℕ) (s : Snap) → last_of (counted_snapshots files) ≡ snapshot_checkpoint number ∷ [] → IsThere number files s → NewestIs (Some (seen s)) files
  is_newest number s is there =
      let l = one_last (counted_snapshots files) (snapshot_checkpoint number) is in
      record { older = l.older; last = l.is ∙ ap (λ (n : ℕ). l.older ++ snapshot_checkpoint n ∷ []) (sym there.numbered); holds = there.holds }
