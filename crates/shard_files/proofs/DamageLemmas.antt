-- The first damage of a log's segments, and that damaged files hold nothing.
use Rattle.std.proofs.Common.{◌≡◌, inl, ℕ, ◌+◌, ◌<◌, List, [], ◌∷◌, ◌++◌, length, take, drop, get_or, map, refl, sym, ap, subst, ◌∙◌, append_assoc, append-nil}
use Rattle.std.proofs.lemmas.List.{map-append}
use Rattle.commit_log.specs.m3_model.Members.{IsIn}
use Rattle.commit_log.proofs.m3_model_proofs.MemberLemmas.{IsIn-append_right}
use Rattle.commit_log.specs.m3_outside.Files.{Files}
use Rattle.commit_log.specs.Contents.{numbers, PartsHold, segment_bytes}
use Rattle.commit_log.proofs.FileFronts.{has_chunks}
use Rattle.commit_log.proofs.Parts.{parts_more}
use Rattle.commit_log.proofs.ReadLemmas.{one_more, split_at}
use Rattle.shard_files.specs.declared.entries.LogEntry.{LogEntry}
use Rattle.shard_files.specs.Entries.{spelled}
use Rattle.shard_files.specs.HeldEntries.{HoldsEntries}
use Rattle.shard_files.specs.FilesHold.{IsSound}
use Rattle.shard_files.specs.Damage.{Damage, OfForm, OfDigest, BreaksSegment}
use Rattle.shard_files.specs.declared.load_err.LoadErr.{LoadErr}
use Rattle.shard_files.specs.declared.load_err.LoadErr.TheVariants as failures
use Rattle.shard_files.specs.Loading.{ReadsEntries, FindsEntries, Tells, LogTells}
use Rattle.shard_files.proofs.FirstDamageLemmas.{segment_unbroken}
use Rattle.shard_files.proofs.SpellingLemmas.{within_both}

pub damaged_is_unsound : (damage : Damage) (files : Files) → LogTells files damage → IsSound files → ⊥
damaged_is_unsound damage files first sound =
    segment_unbroken (numbers files) files sound.held.parts.entries sound.held.holds.log.within sound.held.holds.log.parts first.one
    (subst (λ (l : List ℕ). IsIn l first.one) (sym first.split) (IsIn-append_right first.before (first.one ∷ first.after) first.one (inl refl))) damage first.found

-- ---- segments that are read one after another

pub found_none : (files : Files) (old : List LogEntry) → FindsEntries [] files old old
found_none files old = record { entries = []; is = sym (append-nil old); within = tt; has = refl }

pub found_next : (ns : List ℕ) (i n : ℕ) (files : Files) (a b c : List LogEntry) → i < length ns → n ≡ get_or ns i 0 → FindsEntries (take i ns) files a b → ReadsEntries (segment_bytes n files) b c → FindsEntries (take (i + 1) ns) files a c
found_next ns i n files a b c lt is all more = record {
  entries = all.entries ++ more.entries;
  is = more.is ∙ ap (λ (l : List LogEntry). l ++ more.entries) all.is ∙ append_assoc a all.entries more.entries;
  within = within_both all.entries more.entries all.within more.within;
  has = subst (λ (l : List ℕ). PartsHold l files (map spelled (all.entries ++ more.entries))) (sym (one_more ns i n lt is))
      (subst (PartsHold (take i ns ++ n ∷ []) files) (sym (map-append spelled all.entries more.entries))
      (parts_more (take i ns) n files (map spelled all.entries) (map spelled more.entries) all.has (has_chunks n files (map spelled more.entries) more.long more.reads)));
}

pub found_damage : (ns : List ℕ) (i n : ℕ) (files : Files) (a b : List LogEntry) (damage : Damage) → ns ≡ numbers files → i < length ns → n ≡ get_or ns i 0 → FindsEntries (take i ns) files a b → BreaksSegment files n damage → LogTells files damage
found_damage ns i n files a b damage all lt is found breaks = record {
  before = take i ns;
  one = n;
  after = drop (i + 1) ns;
  split = sym all ∙ split_at ns i n lt is;
  none = λ k m d broken. segment_unbroken (take i ns) files found.entries found.within found.has k m d broken;
  found = breaks;
}

pub found_broken : (ns : List ℕ) (i n : ℕ) (files : Files) (a b : List LogEntry) → ns ≡ numbers files → i < length ns → n ≡ get_or ns i 0 → FindsEntries (take i ns) files a b → (e : LoadErr) → Tells (BreaksSegment files n) e → Tells (LogTells files) e
found_broken ns i n files a b all lt is found failures.Disk d = tt
found_broken ns i n files a b all lt is found failures.Memory d = tt
found_broken ns i n files a b all lt is found (failures.Digest name kept other) d = found_damage ns i n files a b (OfDigest name kept other) all lt is found d
found_broken ns i n files a b all lt is found (failures.Form name at) d = found_damage ns i n files a b (OfForm name at) all lt is found d

-- entries that all segments have
pub all_entries : (files : Files) (old new : List LogEntry) → old ≡ [] → FindsEntries (numbers files) files old new → HoldsEntries new files
all_entries files old new none found =
    let same : found.entries ≡ new = sym (found.is ∙ ap (λ (l : List LogEntry). l ++ found.entries) none) in
    subst (λ (l : List LogEntry). HoldsEntries l files) same (record { parts = found.has; within = found.within })
