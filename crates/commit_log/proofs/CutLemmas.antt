-- Segments that are taken away, by their numbers.
use Rattle.std.proofs.Common.{◌≡◌, inl, inr, ℕ, ◌<◌, List, [], ◌∷◌, ◌++◌, map, refl, sym, ap, ◌∙◌, arith}
use Rattle.std.specs.FinMap.{get}
use Rattle.log_chunks.specs.m3_model.Members.{IsIn}
use Rattle.log_chunks.specs.m3_model.Ascends.{Ascends}
use Rattle.log_chunks.proofs.m3_model_proofs.MemberLemmas.{IsIn-map}
use Rattle.log_chunks.specs.m3_outside.declared.file_name.FileName.{FileName}
use Rattle.log_chunks.specs.m3_outside.Files.{Files, IsPresent}
use Rattle.log_chunks.specs.m3_outside.Removal.{without_files, MayTakeAway, AreRemovable}
use Rattle.log_chunks.proofs.m3_outside_proofs.Removal.{Distinct, removable}
use Rattle.commit_log.specs.Segment.{segment}
use Rattle.commit_log.specs.Contents.{numbers}
use Rattle.commit_log.specs.Cutting.{numbers_below, segments_below}
use Rattle.commit_log.proofs.Numbers.{in_there, in_below, below_ascend, ascend}

-- a name among those of segments is that of one of their numbers
pub named_in : (ns : List ℕ) (n : ℕ) → IsIn (map segment ns) (segment n) → IsIn ns n
named_in [] n m = absurd m
named_in (k ∷ ns) n (inl same) = inl (ap (λ (q : FileName). q.number) same)
named_in (k ∷ ns) n (inr rest) = inr (named_in ns n rest)

-- two parts of a list of names are those of two parts of the numbers
pub record IsSplit (ns : List ℕ) (front back : List FileName) : Type 0 where
  pub gone : List ℕ
  pub left : List ℕ
  pub split : ns ≡ gone ++ left
  pub is : front ≡ map segment gone

split_of : (ns : List ℕ) (front back : List FileName) → map segment ns ≡ front ++ back → IsSplit ns front back
split_of ns [] back is = record { gone = []; left = ns; split = refl; is = refl }
split_of [] (q ∷ front) back is = absurd (cc)
split_of (n ∷ ns) (q ∷ front) back is =
    let first : q ≡ segment n = cc in
    let later : map segment ns ≡ front ++ back = cc in
    let rest = split_of ns front back later in
    record { gone = n ∷ rest.gone; left = rest.left; split = ap (λ (l : List ℕ). n ∷ l) rest.split; is = λ i. first i ∷ rest.is i }

-- the segments of the first few of these numbers are gone
pub record IsCut (ns : List ℕ) (old new : Files) : Type 0 where
  pub gone : List ℕ
  pub left : List ℕ
  pub split : ns ≡ gone ++ left
  pub cut : new ≡ without_files (map segment gone) old

pub by_numbers : (ns : List ℕ) (x y : Files) → MayTakeAway (map segment ns) x y → IsCut ns x y
by_numbers ns x y may =
    let s = split_of ns may.gone may.left may.split in
    record { gone = s.gone; left = s.left; split = s.split; cut = may.taken ∙ ap (λ (l : List FileName). without_files l x) s.is }

distinct : (ns : List ℕ) → Ascends (λ a b. a < b) ns → Distinct (map segment ns)
distinct [] up = tt
distinct (n ∷ ns) up = (
  (λ q m same.
      let e = IsIn-map segment ns q m in
      let lt = up.0 e.0 e.1 in
      let alike : e.0 ≡ n = ap (λ (f : FileName). f.number) (e.2 ∙ same) in
      omega (arith, lt, alike)),
  distinct ns up.1,
)

-- the segments below a number can be taken away
pub below_removable : (number : ℕ) (files : Files) → AreRemovable (segments_below number files) files
below_removable number files = removable (segments_below number files) files (distinct (numbers_below number files) (below_ascend (numbers files) number (ascend files))) there
  where
    there : (q : FileName) → IsIn (segments_below number files) q → IsPresent q files
    there q m =
        let e = IsIn-map segment (numbers_below number files) q m in
        let f = in_there files e.0 (in_below (numbers files) number e.0 e.1).0 in
        record { file = f.0; there = ap (get files) (sym e.2) ∙ f.1 }
