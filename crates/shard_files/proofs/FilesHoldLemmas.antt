-- What files hold, whole, and what the calls of a log do to it.
use Rattle.std.proofs.Common.{◌≡◌, ◌⊎◌, inl, inr, ℕ, zero, suc, ◌+◌, ◌≤◌, max, List, [], ◌∷◌, ◌++◌, map, refl, sym, ap, subst, ◌∙◌, arith, append_assoc, Bool, Some, None}
use Rattle.std.specs.Prelude.{filter}
use Rattle.std.specs.FinMap.{get, empty, entries, len-entries, len-empty}
use Rattle.std.proofs.lemmas.List.{nil_from_length}
use Rattle.commit_log.specs.m3_model.Members.{IsIn}
use Rattle.commit_log.specs.m3_model.declared.point.Point.{Point}
use Rattle.commit_log.proofs.m3_model_proofs.MemberLemmas.{IsIn-append_left, IsIn-append_right, IsIn-append_cases}
use Rattle.commit_log.specs.m3_outside.declared.file_name.FileName.{FileName}
use Rattle.commit_log.specs.m3_outside.Files.{Files, name_cmp}
use Rattle.commit_log.proofs.m3_outside_proofs.Names.{get_apart}
use Rattle.commit_log.specs.Segment.{segment, MayAdd, Adds, OthersStay}
use Rattle.commit_log.specs.LogEnd.{NoneFrom, MayBeginSegment}
use Rattle.shard_files.specs.declared.entries.LogEntry.{LogEntry}
use Rattle.shard_files.specs.HeldEntries.{HoldsEntries, points_in, tenure_in, fence_in, points_of}
use Rattle.shard_files.specs.Gains.{nothing, HoldsAll, HoldsPart}
use Rattle.shard_files.specs.LogSteps.{gain_in}
use Rattle.shard_files.specs.Parts.{counts, counted, is_volume_checkpoint, is_snapshot_checkpoint, AreKnown}
use Rattle.shard_files.specs.FilesHold.{Counted, file_points, file_tenure, file_fence, volume_points, points_in_newest, tenure_in_newest, fence_in_newest, FilesHold, HoldWhole}
use Rattle.shard_files.specs.FileLaws.{FilesHoldOne, FilesHoldOrdered, SameKinds, AppendKeepsOthers, AppendBrings}
use Rattle.shard_files.proofs.HeldLemmas.{entries_are_one, one_more, tenures_are_fences, no_files_no_entries, adds_entry, may_add_entry, begun_entries}
use Rattle.shard_files.proofs.GainLemmas.{covers_itself, gains_nothing}
use Rattle.shard_files.proofs.EntryLemmas.{first_segment}
use Rattle.shard_files.proofs.PartLemmas.{volumes_as, newest_as, whole_as, one_volumes, one_newest}

-- ---- one thing

pub files_hold_one : FilesHoldOne
files_hold_one ps qs t u f g files a b =
    let volumes = one_volumes files (counted is_volume_checkpoint files) a.parts.volumes b.parts.volumes a.holds.volumes b.holds.volumes in
    let newest = one_newest files a.parts.newest b.parts.newest a.holds.newest b.holds.newest in
    let log = entries_are_one a.parts.entries b.parts.entries files a.holds.log b.holds.log in
    let same : a.parts ≡ b.parts = λ i. record { volumes = volumes i; newest = newest i; entries = log i } in (
      a.points_are ∙ ap file_points same ∙ sym b.points_are,
      a.tenure_is ∙ ap file_tenure same ∙ sym b.tenure_is,
      a.fence_is ∙ ap file_fence same ∙ sym b.fence_is,
    )

newest_ordered : (s : _) → tenure_in_newest s ≤ fence_in_newest s
newest_ordered None = omega arith
newest_ordered (Some s) = omega arith

pub files_hold_ordered : FilesHoldOrdered
files_hold_ordered ps t f files a =
    let one = newest_ordered a.parts.newest in
    let log = tenures_are_fences a.parts.entries in
    omega (arith, one, log, a.tenure_is, a.fence_is)

no_counted : (is_asked : FileName → Bool) → counted is_asked empty ≡ []
no_counted is_asked =
    let none : entries (empty {X = List ℕ} {R = name_cmp}) ≡ [] = nil_from_length _ (sym (len-entries _) ∙ len-empty name_cmp (List ℕ)) in
    ap (λ (es : List (FileName × List ℕ)). map (λ (f : FileName × List ℕ). f.0) (filter (counts is_asked) es)) none

pub no_files_hold_nothing : FilesHold [] 0 0 empty
no_files_hold_nothing = record {
  parts = record { volumes = []; newest = None; entries = [] };
  holds = record {
    volumes = subst (λ l. AreKnown empty l []) (sym (no_counted is_volume_checkpoint)) tt;
    newest = no_counted is_snapshot_checkpoint;
    log = no_files_no_entries;
  };
  points_are = refl;
  tenure_is = refl;
  fence_is = refl;
}

pub no_files_hold_whole_nothing : HoldWhole [] 0 0 empty
no_files_hold_whole_nothing = record { held = no_files_hold_nothing; snapshots = λ n m. absurd (subst (λ l. IsIn l n) (no_counted is_snapshot_checkpoint) m) }

-- ---- files of which only the log is another

abbrev pub OthersSame : Files → Files → Type 0
OthersSame x y = (q : FileName) → (q.kind ≡ 0 → ⊥) → get y q ≡ get x q

others_same : (number : ℕ) (x y : Files) → OthersStay (segment number) x y → OthersSame x y
others_same number x y others q apart = others q (λ e. apart (ap (λ (n : FileName). n.kind) e))

of_volumes : (x y : Files) → OthersSame x y → SameKinds 1 7 x y
of_volumes x y same q low high = same q (λ e. omega (arith, low, e))

of_snapshots : (x y : Files) → OthersSame x y → SameKinds 8 9 x y
of_snapshots x y same q low high = same q (λ e. omega (arith, low, e))

pub append_keeps_others : AppendKeepsOthers
append_keeps_others = record {
  volumes = λ known number chunk x y may are. volumes_as x y (of_volumes x y (others_same number x y may.others)) known are;
  newest = λ s number chunk x y may is. newest_as x y (of_snapshots x y (others_same number x y may.others)) s is;
  snapshots = λ number chunk x y may all. whole_as x y (of_snapshots x y (others_same number x y may.others)) all;
}

-- the same volumes and snapshots with these entries
module _ (x y : Files) (same : OthersSame x y) (before : List Point) (tenure fence : ℕ) (held : FilesHold before tenure fence x) where
  abbrev parts_now : List LogEntry → Counted
  parts_now es = record { volumes = held.parts.volumes; newest = held.parts.newest; entries = es }

  held_now : (es : List LogEntry) (points : List Point) (t f : ℕ) → HoldsEntries es y → points ≡ file_points (parts_now es) → t ≡ file_tenure (parts_now es) → f ≡ file_fence (parts_now es) → FilesHold points t f y
  held_now es points t f log points_are tenure_is fence_is = record {
    parts = parts_now es;
    holds = record { volumes = volumes_as x y (of_volumes x y same) held.parts.volumes held.holds.volumes; newest = newest_as x y (of_snapshots x y same) held.parts.newest held.holds.newest; log = log };
    points_are = points_are;
    tenure_is = tenure_is;
    fence_is = fence_is;
  }

  pub same_log : HoldsEntries held.parts.entries y → FilesHold before tenure fence y
  same_log log = held_now held.parts.entries before tenure fence log held.points_are held.tenure_is held.fence_is

  -- one more entry behind the others
  points_more : (e : LogEntry) → before ++ points_in e ≡ file_points (parts_now (held.parts.entries ++ e ∷ []))
  points_more e =
      let vs = volume_points held.parts.volumes in
      let ns = points_in_newest held.parts.newest in
      let es = held.parts.entries in
      ap (λ (l : List Point). l ++ points_in e) held.points_are ∙ append_assoc vs (ns ++ points_of es) (points_in e)
      ∙ ap (λ (l : List Point). vs ++ l) (append_assoc ns (points_of es) (points_in e) ∙ ap (λ (l : List Point). ns ++ l) (sym (one_more es e).points))

  pub more_log : (e : LogEntry) → HoldsEntries (held.parts.entries ++ e ∷ []) y → HoldsAll before tenure fence (gain_in e) y
  more_log e log =
      let one = one_more held.parts.entries e in
      let t = one.tenure in
      let f = one.fence in
      record {
        points = before ++ points_in e;
        held = held_now (held.parts.entries ++ e ∷ []) (before ++ points_in e) (max tenure (tenure_in e)) (max fence (fence_in e)) log (points_more e) (omega (arith, held.tenure_is, t)) (omega (arith, held.fence_is, f));
        grows = record { nothing_else = λ p m. IsIn-append_cases before (points_in e) p m; stays = λ p m. IsIn-append_left before (points_in e) p m };
        comes = λ p m. covers_itself (before ++ points_in e) p (IsIn-append_right before (points_in e) p m);
      }

  pub part_log : (e : LogEntry) → HoldsEntries held.parts.entries y ⊎ HoldsEntries (held.parts.entries ++ e ∷ []) y → HoldsPart before tenure fence (gain_in e) y
  part_log e (inl log) = record { points = before; tenure_now = tenure; fence_now = fence; held = same_log log; grows = record { nothing_else = λ p m. inl m; stays = λ p m. m }; numbers = inl (refl, refl) }
  part_log e (inr log) =
      let all = more_log e log in
      record { points = all.points; tenure_now = max tenure (tenure_in e); fence_now = max fence (fence_in e); held = all.held; grows = all.grows; numbers = inr (refl, refl) }

  pub nothing_log : HoldsEntries held.parts.entries y → HoldsAll before tenure fence nothing y
  nothing_log log = (gains_nothing y).held before tenure fence (same_log log)

-- ---- a segment that begins

begun_same : (number : ℕ) (x y : Files) → MayBeginSegment number x y → OthersSame x y
begun_same number x y (inl same) q apart = ap (λ (f : Files). get f q) same
begun_same number x y (inr done) q apart = ap (λ (f : Files). get f q) done ∙ get_apart x (segment number) _ q (λ e. apart (ap (λ (n : FileName). n.kind) e))

begun_log : (number : ℕ) (x y : Files) (es : List LogEntry) → NoneFrom number x → MayBeginSegment number x y → HoldsEntries es x → HoldsEntries es y
begun_log zero x y es none may log = first_segment es x y log none may
begun_log (suc last) x y es none may log =
    let up : suc last ≡ last + 1 = omega arith in
    begun_entries es last x y log (λ n lt. none n (omega (arith, lt))) (subst (λ (n : ℕ). MayBeginSegment n x y) up may)

pub append_brings : AppendBrings
append_brings = record {
  all = λ e bytes number x y is above adds.
      let same = others_same number x y adds.others in
      record {
        held = λ before tenure fence held. more_log x y same before tenure fence held e (adds_entry held.parts.entries e number x y is.within held.holds.log above (subst (λ (b : List ℕ). Adds (segment number) b x y) is.is adds));
        snapshots = whole_as x y (of_snapshots x y same);
      };
  part = λ e bytes number x y is above may.
      let same = others_same number x y may.others in
      record {
        held = λ before tenure fence held. part_log x y same before tenure fence held e (may_add_entry held.parts.entries e number x y is.within held.holds.log above (subst (λ (b : List ℕ). MayAdd (segment number) b x y) is.is may));
        snapshots = whole_as x y (of_snapshots x y same);
      };
  begins = λ number x y none may.
      let same = begun_same number x y may in
      record {
        held = λ before tenure fence held. nothing_log x y same before tenure fence held (begun_log number x y held.parts.entries none may held.holds.log);
        snapshots = whole_as x y (of_snapshots x y same);
      };
}
