-- Files that are those of one volume, of one snapshot or of a log alone.
use Rattle.std.proofs.Common.{◌≡◌, inl, ⊎_elim, ℕ, ◌≤◌, max, List, [], ◌∷◌, ◌++◌, refl, sym, ap, ap₂, subst, ◌∙◌, arith, append-nil, true, Option, Some, None}
use Rattle.std.specs.FinMap.{get}
use Rattle.commit_log.specs.m3_model.Members.{IsIn}
use Rattle.commit_log.specs.m3_model.declared.point.Point.{Point}
use Rattle.commit_log.proofs.m3_model_proofs.Lists.{nil_from_no_member}
use Rattle.commit_log.specs.m3_outside.declared.file_name.FileName.{FileName}
use Rattle.commit_log.specs.m3_outside.Files.{Files, IsAbsent}
use Rattle.commit_log.proofs.m3_outside_proofs.Names.{name_is}
use Rattle.commit_log.specs.Contents.{numbers, PartsHold}
use Rattle.commit_log.specs.Segment.{segment}
use Rattle.commit_log.proofs.Numbers.{in_there}
use Rattle.commit_log.specs.wire_bytes.Snapshots.{Snapshot}
use Rattle.commit_log.specs.wire_bytes.Volumes.{VolumeHead, Checkpoint, points_of_rows}
use Rattle.shard_files.specs.FilesHold.{HoldWhole, volume_points, points_in_newest, tenure_in_newest, fence_in_newest}
use Rattle.shard_files.specs.HeldEntries.{HoldsEntries, LogAmountsTo, points_of, tenure_of, fence_of}
use Rattle.shard_files.specs.Parts.{is_open, counted, part_of, KnownVolume, AreKnown, is_volume_checkpoint, counted_volumes, snapshot_data, snapshot_checkpoint, is_snapshot_checkpoint, counted_snapshots, IsNewest, NewestIs}
use Rattle.shard_files.specs.Steps.{IsPartOf}
use Rattle.shard_files.specs.FileLaws.{VolumeIsHeld, SnapshotIsHeld, AreOfLog, LogIsHeld}
use Rattle.shard_files.proofs.CountedLemmas.{same_names, counted_asked, counted_open, counted_ascend, is_counted}
use Rattle.shard_files.proofs.PartLemmas.{kind_low, kind_high, volume_kind, snapshot_named}
use Rattle.shard_files.proofs.VolumeSteps.{checkpoint_kind}

-- a name that counts is there
not_gone : (files : Files) (q : FileName) → is_open (get files q) ≡ true → IsAbsent q files → ⊥
not_gone files q open_ gone = let never : is_open None ≡ true = ap is_open (sym gone) ∙ open_ in cc

no_segments : (files : Files) → ((q : FileName) → q.kind ≡ 0 → IsAbsent q files) → HoldsEntries [] files
no_segments files gone = record { parts = subst (λ (ns : List ℕ). PartsHold ns files []) (sym (nil_from_no_member (numbers files) (λ n m. let there = in_there files n m in let none = gone (segment n) refl in cc))) refl; within = tt }

-- the one name that counts
one_counted : (is_asked : FileName → _) (files : Files) (own : FileName) → is_asked own ≡ true → is_open (get files own) ≡ true → ((q : FileName) → is_asked q ≡ true → (q ≡ own → ⊥) → IsAbsent q files) → counted is_asked files ≡ own ∷ []
one_counted is_asked files own asked open_ gone = same_names (counted is_asked files) (own ∷ []) (counted_ascend is_asked files) ((λ q none. absurd none), tt)
    (λ q m. ⊎_elim (λ (e : q ≡ own). inl (sym e)) (λ (apart : q ≡ own → ⊥). absurd (not_gone files q (counted_open is_asked files q m) (gone q (counted_asked is_asked files q m) apart))) (name_is q own))
    (λ q m. ⊎_elim (λ (e : own ≡ q). subst (IsIn (counted is_asked files)) e (is_counted is_asked files own asked open_)) (λ (none : ⊥). absurd none) m)

none_counted : (is_asked : FileName → _) (files : Files) → ((q : FileName) → is_asked q ≡ true → IsAbsent q files) → counted is_asked files ≡ []
none_counted is_asked files gone = nil_from_no_member (counted is_asked files) (λ q m. not_gone files q (counted_open is_asked files q m) (gone q (counted_asked is_asked files q m)))

part_low : (v : VolumeHead) (q : FileName) → IsPartOf v q → 1 ≤ q.kind
part_low v q own = let k = ap (λ (n : FileName). n.kind) own.is in let low = kind_low own.part in omega (arith, k, low)

part_high : (v : VolumeHead) (q : FileName) → IsPartOf v q → q.kind ≤ 7
part_high v q own = let k = ap (λ (n : FileName). n.kind) own.is in let high = kind_high own.part in omega (arith, k, high)

pub volume_is_held : VolumeIsHeld
volume_is_held v rows files h gone =
    let names : counted_volumes files ≡ part_of Checkpoint v ∷ [] = one_counted is_volume_checkpoint files (part_of Checkpoint v) refl (ap is_open (h.parts Checkpoint)) (λ q asked apart. gone q (λ own.
    let seven = sym (ap (λ (n : FileName). n.kind) own.is) ∙ volume_kind q asked in
    apart (own.is ∙ ap (λ part. part_of part v) (checkpoint_kind own.part seven)))) in
    let known : KnownVolume = record { head = v; rows = rows } in
    let snapshots : counted_snapshots files ≡ [] = none_counted is_snapshot_checkpoint files (λ q asked. gone q (λ own. let k = ap (λ (n : FileName). n.kind) (snapshot_named q asked) in let high = part_high v q own in omega (arith, k, high))) in
    record {
      held = record {
        parts = record { volumes = known ∷ []; newest = None; entries = [] };
        holds = record { volumes = subst (λ l. AreKnown files l (known ∷ [])) (sym names) (record { named = refl; holds = h }, tt); newest = snapshots; log = no_segments files (λ q zero_kind. gone q (λ own. let low = part_low v q own in omega (arith, low, zero_kind))) };
        points_are = sym (append-nil (points_of_rows v.ns rows ++ []) ∙ append-nil (points_of_rows v.ns rows));
        tenure_is = refl;
        fence_is = refl;
      };
      snapshots = λ q m. absurd (subst (λ l. IsIn l q) snapshots m);
    }

pub snapshot_is_held : SnapshotIsHeld
snapshot_is_held s files h gone =
    let own = snapshot_checkpoint s.number in
    let names : counted_snapshots files ≡ own ∷ [] = one_counted is_snapshot_checkpoint files own refl (ap is_open h.checkpoint) (λ q asked apart. gone q (λ of.
    ⊎_elim (λ (e : q ≡ snapshot_data s.number). let nine = ap (λ (n : FileName). n.kind) (snapshot_named q asked) in let eight = ap (λ (n : FileName). n.kind) e in omega (arith, nine, eight)) apart of)) in
    let volumes : counted_volumes files ≡ [] = none_counted is_volume_checkpoint files (λ q asked. gone q (λ of. let seven = volume_kind q asked in
    ⊎_elim (λ (e : q ≡ snapshot_data s.number). let eight = ap (λ (n : FileName). n.kind) e in omega (arith, seven, eight)) (λ (e : q ≡ own). let nine = ap (λ (n : FileName). n.kind) e in omega (arith, seven, nine)) of)) in
    let newest : IsNewest s files = record { older = []; last = names; holds = h } in
    record {
      held = record {
        parts = record { volumes = []; newest = Some s; entries = [] };
        holds = record {
          volumes = subst (λ l. AreKnown files l []) (sym volumes) tt;
          newest = newest;
          log = no_segments files (λ q zero_kind. gone q (λ of.
              ⊎_elim (λ (e : q ≡ snapshot_data s.number). let eight = ap (λ (n : FileName). n.kind) e in omega (arith, zero_kind, eight)) (λ (e : q ≡ own). let nine = ap (λ (n : FileName). n.kind) e in omega (arith, zero_kind, nine)) of));
        };
        points_are = sym (append-nil s.points);
        tenure_is = omega arith;
        fence_is = omega arith;
      };
      snapshots = λ q m. ⊎_elim (λ (e : own ≡ q). record { snapshot = s; named = sym e; holds = h }) (λ (none : ⊥). absurd none) (subst (λ l. IsIn l q) names m);
    }

-- ---- of a log

zero_max : (n : ℕ) → max 0 n ≡ n
zero_max n = omega arith

no_last : {X : Type 0} (xs : List X) (x : X) → [] ≡ xs ++ x ∷ [] → ⊥
no_last [] x e = cc
no_last (y ∷ xs) x e = cc

none_known : (files : Files) (known : List KnownVolume) → AreKnown files [] known → known ≡ []
none_known files [] h = refl
none_known files (k ∷ known) h = absurd h

module _ (files : Files) (alone : AreOfLog files) where
  no_volumes : counted_volumes files ≡ []
  no_volumes = none_counted is_volume_checkpoint files (λ q asked. alone q (let seven = volume_kind q asked in omega (arith, seven)))

  no_snapshots : counted_snapshots files ≡ []
  no_snapshots = none_counted is_snapshot_checkpoint files (λ q asked. alone q (let nine = ap (λ (n : FileName). n.kind) (snapshot_named q asked) in omega (arith, nine)))

  no_newest : (newest : Option Snapshot) → NewestIs newest files → newest ≡ None
  no_newest None h = refl
  no_newest (Some s) h = absurd (no_last h.older (snapshot_checkpoint s.number) (sym no_snapshots ∙ h.last))

  whole : (points : List Point) (tenure fence : ℕ) → LogAmountsTo points tenure fence files → HoldWhole points tenure fence files
  whole points tenure fence h = record {
    held = record {
      parts = record { volumes = []; newest = None; entries = h.entries };
      holds = record { volumes = subst (λ l. AreKnown files l []) (sym no_volumes) tt; newest = no_snapshots; log = h.holds };
      points_are = h.amount.points_are;
      tenure_is = h.amount.tenure_is ∙ sym (zero_max (tenure_of h.entries));
      fence_is = h.amount.fence_is ∙ sym (zero_max (fence_of h.entries));
    };
    snapshots = λ q m. absurd (subst (λ l. IsIn l q) no_snapshots m);
  }

  by_log : (points : List Point) (tenure fence : ℕ) → HoldWhole points tenure fence files → LogAmountsTo points tenure fence files
  by_log points tenure fence w =
      let entries = w.held.parts.entries in
      let volumes = none_known files w.held.parts.volumes (subst (λ l. AreKnown files l w.held.parts.volumes) no_volumes w.held.holds.volumes) in
      let newest = no_newest w.held.parts.newest w.held.holds.newest in
      record {
        entries = entries;
        holds = w.held.holds.log;
        amount = record {
          points_are = w.held.points_are ∙ ap₂ (λ (known : List KnownVolume) (s : Option Snapshot). volume_points known ++ (points_in_newest s ++ points_of entries)) volumes newest;
          tenure_is = w.held.tenure_is ∙ (ap (λ (s : Option Snapshot). max (tenure_in_newest s) (tenure_of entries)) newest ∙ zero_max (tenure_of entries));
          fence_is = w.held.fence_is ∙ (ap (λ (s : Option Snapshot). max (fence_in_newest s) (fence_of entries)) newest ∙ zero_max (fence_of entries));
        };
      }

pub log_is_held : LogIsHeld
log_is_held points tenure fence files alone = (whole files alone points tenure fence, by_log files alone points tenure fence)
