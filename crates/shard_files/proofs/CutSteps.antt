-- A log that is cut: what files hold then.
use Rattle.std.proofs.Common.{◌≡◌, ⊎_elim, ℕ, ◌≤◌, List, [], ◌∷◌, ◌++◌, map, refl, sym, ap, subst, ◌∙◌, arith, append_assoc}
use Rattle.std.specs.FinMap.{get}
use Rattle.commit_log.specs.m3_model.Contents.{Contents}
use Rattle.commit_log.specs.m3_model.Members.{IsIn}
use Rattle.commit_log.specs.m3_model.declared.point.Point.{Point}
use Rattle.commit_log.proofs.m3_model_proofs.MemberLemmas.{IsIn-append_left, IsIn-append_right, IsIn-append_cases, IsIn-map}
use Rattle.commit_log.specs.m3_outside.declared.file_name.FileName.{FileName}
use Rattle.commit_log.specs.m3_outside.Files.{Files}
use Rattle.commit_log.specs.m3_outside.Removal.{MayTakeAway}
use Rattle.commit_log.proofs.m3_outside_proofs.Removal.{left_same}
use Rattle.commit_log.specs.Segment.{segment}
use Rattle.commit_log.specs.Contents.{numbers, next_after, PartsHold}
use Rattle.commit_log.specs.Cutting.{numbers_below, numbers_from, segments_below}
use Rattle.commit_log.proofs.Numbers.{ascend, none_from_after}
use Rattle.commit_log.proofs.Parts.{parts_split}
use Rattle.commit_log.proofs.CutLaws.{halves, cut_end}
use Rattle.shard_files.specs.declared.entries.LogEntry.{LogEntry}
use Rattle.shard_files.specs.Entries.{spelled, AreWithin}
use Rattle.shard_files.specs.HeldEntries.{HoldsEntries, points_in, points_of, tenure_of, fence_of}
use Rattle.shard_files.specs.FilesHold.{volume_points, points_in_newest, FilesHold}
use Rattle.shard_files.specs.Keeps.{HoldsKept}
use Rattle.shard_files.specs.FileLaws.{SameKinds}
use Rattle.shard_files.specs.StepLaws.{MayBeCut, CutKeeps}
use Rattle.shard_files.proofs.PartLemmas.{volumes_as, newest_as, whole_as}

-- entries whose chunks are two parts
record AreSplit (es : List LogEntry) (front back : List (List ℕ)) : Type 0 where
  pub cut : List LogEntry
  pub left : List LogEntry
  pub split : es ≡ cut ++ left
  pub back_is : back ≡ map spelled left

split_of : (es : List LogEntry) (front back : List (List ℕ)) → map spelled es ≡ front ++ back → AreSplit es front back
split_of es [] back is = record { cut = []; left = es; split = refl; back_is = sym is }
split_of [] (c ∷ front) back is = absurd (cc)
split_of (e ∷ es) (c ∷ front) back is =
    let later : map spelled es ≡ front ++ back = cc in
    let rest = split_of es front back later in
    record { cut = e ∷ rest.cut; left = rest.left; split = ap (λ (l : List LogEntry). e ∷ l) rest.split; back_is = rest.back_is }

later_within : (cut left : List LogEntry) → AreWithin (cut ++ left) → AreWithin left
later_within [] left all = all
later_within (e ∷ cut) left all = later_within cut left all.1

later_points : (cut left : List LogEntry) (p : Point) → IsIn (points_of left) p → IsIn (points_of (cut ++ left)) p
later_points [] left p m = m
later_points (e ∷ cut) left p m = IsIn-append_right (points_in e) (points_of (cut ++ left)) p (later_points cut left p m)

later_tenure : (cut left : List LogEntry) → tenure_of left ≤ tenure_of (cut ++ left)
later_tenure [] left = omega arith
later_tenure (e ∷ cut) left = let h = later_tenure cut left in omega (arith, h)

later_fence : (cut left : List LogEntry) → fence_of left ≤ fence_of (cut ++ left)
later_fence [] left = omega arith
later_fence (e ∷ cut) left = let h = later_fence cut left in omega (arith, h)

-- what a log that is cut still has: the last few of its entries
pub record HasLast (es : List LogEntry) (files : Files) : Type 0 where
  pub cut : List LogEntry
  pub left : List LogEntry
  pub split : es ≡ cut ++ left
  pub holds : HoldsEntries left files

module _ (number : ℕ) (x y : Files) (takes : MayTakeAway (segments_below number x) x y) where
  -- no file but a segment is gone
  pub others : (q : FileName) → 1 ≤ q.kind → get y q ≡ get x q
  others q low = ap (λ (f : Files). get f q) takes.taken ∙ left_same takes.gone x q (λ g.
      let e = IsIn-map segment (numbers_below number x) q (subst (λ l. IsIn l q) (sym takes.split) (IsIn-append_left takes.gone takes.left q g)) in
      let kind = ap (λ (n : FileName). n.kind) e.2 in
      omega (arith, kind, low))

  pub last_entries : (es : List LogEntry) → HoldsEntries es x → HasLast es y
  last_entries es log =
      let parts = parts_split (numbers_below number x) (numbers_from number x) x (map spelled es) (subst (λ ns. PartsHold ns x (map spelled es)) (halves number (numbers x) (ascend x)) log.parts) in
      let none = none_from_after x (next_after (numbers x)) refl in
      let end = cut_end number (next_after (numbers x)) parts.front parts.back x y (record { parts_below = parts.of_front; parts_from = parts.of_back; above = λ n lt. none n (omega (arith, lt)) }) takes in
      let whole : map spelled es ≡ end.gone ++ (end.left ++ parts.back) = parts.split ∙ ap (λ (l : List (List ℕ)). l ++ parts.back) end.split ∙ append_assoc end.gone end.left parts.back in
      let s = split_of es end.gone (end.left ++ parts.back) whole in
      record {
        cut = s.cut;
        left = s.left;
        split = s.split;
        holds = record { parts = subst (PartsHold (numbers y) y) s.back_is end.log.parts; within = later_within s.cut s.left (subst AreWithin s.split log.within) };
      }

holds_cut : (kept : Contents) (number : ℕ) (x y : Files) → MayBeCut kept x → MayTakeAway (segments_below number x) x y → (before : List Point) (tenure fence : ℕ) → FilesHold before tenure fence x → HoldsKept kept before tenure fence y
holds_cut kept number x y may takes before tenure fence held =
    let parts = held.parts in
    let last = last_entries number x y takes parts.entries held.holds.log in
    let volumes : SameKinds 1 7 x y = λ q low high. others number x y takes q low in
    let snapshots : SameKinds 8 9 x y = λ q low high. others number x y takes q (omega (arith, low)) in
    let vs = volume_points parts.volumes in
    let ns = points_in_newest parts.newest in
    let old_points : (p : Point) → IsIn (points_of last.left) p → IsIn (points_of parts.entries) p = λ p m. subst (λ (l : List LogEntry). IsIn (points_of l) p) (sym last.split) (later_points last.cut last.left p m) in
    let t_low = later_tenure last.cut last.left in
    let f_low = later_fence last.cut last.left in
    let t_all = may.tenure parts held.holds in
    let f_all = may.fence parts held.holds in
    let t_same = ap tenure_of last.split in
    let f_same = ap fence_of last.split in
    record {
      points = vs ++ (ns ++ points_of last.left);
      held = record {
        parts = record { volumes = parts.volumes; newest = parts.newest; entries = last.left };
        holds = record { volumes = volumes_as x y volumes parts.volumes held.holds.volumes; newest = newest_as x y snapshots parts.newest held.holds.newest; log = last.holds };
        points_are = refl;
        tenure_is = omega (arith, held.tenure_is, t_low, t_all, t_same);
        fence_is = omega (arith, held.fence_is, f_low, f_all, f_same);
      };
      sheds = record {
        nothing_else = λ p m. subst (λ l. IsIn l p) (sym held.points_are)
            (⊎_elim (λ (vol : IsIn vs p). IsIn-append_left vs (ns ++ points_of parts.entries) p vol)
            (λ (rest : IsIn (ns ++ points_of last.left) p).
            IsIn-append_right vs (ns ++ points_of parts.entries) p (⊎_elim (λ (new : IsIn ns p). IsIn-append_left ns (points_of parts.entries) p new) (λ (log : IsIn (points_of last.left) p). IsIn-append_right ns (points_of parts.entries) p (old_points p log)) (IsIn-append_cases ns (points_of last.left) p rest)))
            (IsIn-append_cases vs (ns ++ points_of last.left) p m));
        whole = λ p has. ⊎_elim (λ (vol : IsIn vs p). IsIn-append_left vs (ns ++ points_of last.left) p vol) (λ (new : IsIn ns p). IsIn-append_right vs (ns ++ points_of last.left) p (IsIn-append_left ns (points_of last.left) p new)) (IsIn-append_cases vs ns p (may.points parts held.holds p has));
      };
    }

pub cut_keeps : CutKeeps
cut_keeps kept number x y may takes = record {
  held = holds_cut kept number x y may takes;
  snapshots = whole_as x y (λ q low high. others number x y takes q (omega (arith, low)));
}
