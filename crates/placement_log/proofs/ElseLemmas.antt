-- The files of the meta disk that are no segments.
use Rattle.std.proofs.Common.{◌≡◌, inl, inr, ℕ, List, map, false, true, sym, ap, ◌∙◌}
use Rattle.std.specs.FinMap.{get}
use Rattle.m3_model.proofs.MemberLemmas.{IsIn-map}
use Rattle.m3_outside.specs.declared.file_name.FileName.{FileName}
use Rattle.m3_outside.specs.Files.{Files}
use Rattle.m3_outside.specs.Removal.{MayTakeAway}
use Rattle.m3_outside.proofs.Names.{get_apart}
use Rattle.m3_outside.proofs.Removal.{left_same}
use Rattle.commit_log.specs.Contents.{is_segment}
use Rattle.commit_log.specs.LogEnd.{MayBeginSegment}
use Rattle.commit_log.specs.Segment.{segment, OthersStay}
use Rattle.commit_log.proofs.CutLemmas.{by_numbers}
use Rattle.placement_log.specs.MetaHolds.{ElseStays}

-- no segment has such a name
no_segment : (q : FileName) (number : ℕ) → is_segment q ≡ false → q ≡ segment number → ⊥
no_segment q number other same = let yes : is_segment q ≡ true = ap is_segment same in absurd (cc)

pub else_same : (x y : Files) → y ≡ x → ElseStays x y
else_same x y same = λ q other. ap (λ (w : Files). get w q) same

pub else_then : (x y z : Files) → ElseStays x y → ElseStays y z → ElseStays x z
else_then x y z one two = λ q other. two q other ∙ one q other

pub else_others : (number : ℕ) (x y : Files) → OthersStay (segment number) x y → ElseStays x y
else_others number x y others = λ q other. others q (no_segment q number other)

pub else_begun : (number : ℕ) (x y : Files) → MayBeginSegment number x y → ElseStays x y
else_begun number x y (inl same) = else_same x y same
else_begun number x y (inr done) = λ q other. ap (λ (w : Files). get w q) done ∙ get_apart x (segment number) _ q (no_segment q number other)

pub else_taken : (ns : List ℕ) (x y : Files) → MayTakeAway (map segment ns) x y → ElseStays x y
else_taken ns x y takes = λ q other.
    let cut = by_numbers ns x y takes in
    ap (λ (w : Files). get w q) cut.cut ∙ left_same (map segment cut.gone) x q (λ m. let e = IsIn-map segment cut.gone q m in no_segment q e.0 other (sym e.2))
