-- Points in memory beside listed volumes, where reads go on.
use Rattle.std.proofs.Common.{◌≡◌, ◌∙◌, ◌+◌, ◌≤◌, ℕ, List, [], ◌∷◌, ◌++◌, map, length, Bool, true, false, refl, sym, ap, subst, inl, inr, ⊎_elim, arith, append_assoc, append-nil, length-append}
use Rattle.std.specs.Prelude.{cond}
use Rattle.std.proofs.lemmas.List.{map-append}
use Rattle.m3_model.specs.Contents.{Contents, key_of}
use Rattle.m3_model.specs.Members.{IsIn}
use Rattle.m3_model.specs.declared.point.Point.{Point}
use Rattle.m3_model.proofs.MemberLemmas.{IsIn-append_cases}
use Rattle.m3_outside.specs.DiskState.{DiskState, Told}
use Rattle.m3_outside.specs.DiskCalls.{LeavesFiles}
use Rattle.m3_outside.specs.Files.{Files}
use Rattle.listed_volumes.specs.wire_bytes.Entries.{AllBounded, IsBounded}
use Rattle.listed_volumes.specs.shard_files.Parts.{KnownVolume}
use Rattle.listed_volumes.specs.Cached.{StayOfVolumes, StayRight}
use Rattle.listed_volumes.specs.Listed.{AreHeld, known_in}
use Rattle.listed_volumes.specs.declared.row_cache.RowCache.{RowCache}
use Rattle.listed_volumes.specs.declared.volume.ListedVolume.{ListedVolume}
use Rattle.listed_volumes.specs.series_slots.SeriesKeys.{series_of}
use Rattle.held_pages.specs.declared.rising.Rise.{Rise}
use Rattle.held_pages.specs.Rises.{AreOfSeries, points_of}
use Rattle.joined_reads.specs.Beside.{AddsRises, AreCachedOn, risen_in, rises}

-- the rows that a read keeps are those of the volumes
pub cached_on : (vs : List ListedVolume) (old new : RowCache) (a b : DiskState) → b.tells ≡ a.tells → Told a (AreHeld (known_in vs)) → StayOfVolumes (known_in vs) old new → (a.tells ≡ true → StayRight a.files old new) → AreCachedOn vs old a → AreCachedOn vs new b
cached_on vs old new a b same held listed right has = (
  listed (known_in vs) (λ k m. m) has.0,
  λ tells. let told = sym same ∙ tells in right told (known_in vs) (held told) (has.1 told),
)

-- volumes are there whole where the files are left
pub held_left : (ks : List KnownVolume) (F : Type 0) (a b : DiskState) → LeavesFiles F a b → Told a (AreHeld ks) → Told b (AreHeld ks)
held_left ks F a b leaves held tells = let was = sym leaves.proceeds.tells ∙ tells in subst (λ (m : Files). AreHeld ks m) (sym (leaves.files was)) (held was)

-- ---- which points rise

pub risen_one : (c : Contents) (p : Point) → rises c p ≡ true → risen_in c (p ∷ []) ≡ p ∷ []
risen_one c p up = ap (λ b. cond b (p ∷ []) []) up

pub risen_not : (c : Contents) (p : Point) → rises c p ≡ false → risen_in c (p ∷ []) ≡ []
risen_not c p down = ap (λ b. cond b (p ∷ []) []) down

pub risen_more : (c : Contents) (p : Point) (ps : List Point) → risen_in c (p ∷ ps) ≡ risen_in c (p ∷ []) ++ risen_in c ps
risen_more c p ps = by (rises c p)
  where
    by : (b : Bool) → cond b (p ∷ risen_in c ps) (risen_in c ps) ≡ cond b (p ∷ []) [] ++ risen_in c ps
    by true = refl
    by false = refl

-- ---- rises that come

pub adds_none : (points : List Point) (old new : List Rise) → new ≡ old → AddsRises points old new
adds_none points old new is = subst (AddsRises points old) (sym is) (record { few = omega arith; bounded = λ all. all; series = λ all. all })

bounded_push : (ps : List Point) (p : Point) → AllBounded ps → IsBounded p → AllBounded (ps ++ p ∷ [])
bounded_push [] p all one = (one, tt)
bounded_push (q ∷ ps) p all one = (all.0, bounded_push ps p all.1 one)

pub adds_one : (p : Point) (old new : List Rise) (r : Rise) → IsBounded p → r.point ≡ p → r.series ≡ series_of (key_of p) → new ≡ old ++ r ∷ [] → AddsRises (p ∷ []) old new
adds_one p old new r bounded point series is = subst (AddsRises (p ∷ []) old) (sym is) (record {
  few = (let e = length-append old (r ∷ []) in omega (arith, e));
  bounded = λ all. subst AllBounded (sym (map-append (λ (x : Rise). x.point) old (r ∷ []))) (bounded_push (points_of old) r.point all (subst IsBounded (sym point) bounded));
  series = λ all q m. ⊎_elim (λ (first : IsIn old q). all q first) (λ (last : IsIn (r ∷ []) q). by q last) (IsIn-append_cases old (r ∷ []) q m);
})
  where
    by : (q : Rise) → IsIn (r ∷ []) q → q.series ≡ series_of (key_of q.point)
    by q (inl same) = subst (λ (x : Rise). x.series ≡ series_of (key_of x.point)) same (series ∙ ap (λ (x : Point). series_of (key_of x)) (sym point))
    by q (inr none) = absurd none

pub adds_then : (p : Point) (ps : List Point) (old mid new : List Rise) → AddsRises (p ∷ []) old mid → AddsRises ps mid new → AddsRises (p ∷ ps) old new
adds_then p ps old mid new one later = record {
  few = omega (arith, one.few, later.few);
  bounded = λ all. later.bounded (one.bounded all);
  series = λ all. later.series (one.series all);
}

-- points that are found
pub points_added : (c : Contents) (p : Point) (old new : List Rise) → rises c p ≡ true → points_of new ≡ points_of old ++ p ∷ [] → points_of new ≡ points_of old ++ risen_in c (p ∷ [])
points_added c p old new up is = is ∙ ap (λ (l : List Point). points_of old ++ l) (sym (risen_one c p up))

pub points_stay : (c : Contents) (p : Point) (old new : List Rise) → rises c p ≡ false → new ≡ old → points_of new ≡ points_of old ++ risen_in c (p ∷ [])
points_stay c p old new down is = ap points_of is ∙ sym (append-nil (points_of old)) ∙ ap (λ (l : List Point). points_of old ++ l) (sym (risen_not c p down))

pub points_then : (c : Contents) (all ps : List Point) (p : Point) (old mid new : List Rise) → all ≡ p ∷ ps → points_of mid ≡ points_of old ++ risen_in c (p ∷ []) → points_of new ≡ points_of mid ++ risen_in c ps → points_of new ≡ points_of old ++ risen_in c all
points_then c all ps p old mid new is one later =
    later ∙ ap (λ (l : List Point). l ++ risen_in c ps) one ∙ append_assoc (points_of old) (risen_in c (p ∷ [])) (risen_in c ps) ∙ ap (λ (l : List Point). points_of old ++ l) (sym (risen_more c p ps) ∙ ap (risen_in c) (sym is))

pub adds_all : (all ps : List Point) (p : Point) (old mid new : List Rise) → all ≡ p ∷ ps → AddsRises (p ∷ []) old mid → AddsRises ps mid new → AddsRises all old new
adds_all all ps p old mid new is one later = subst (λ (l : List Point). AddsRises l old new) (sym is) (adds_then p ps old mid new one later)

-- the first of points that are all within their bounds, and the others
pub first_bounded : (all ps : List Point) (p : Point) → all ≡ p ∷ ps → AllBounded all → IsBounded p
first_bounded all ps p is bounded = (subst AllBounded is bounded).0

pub later_bounded : (all ps : List Point) (p : Point) → all ≡ p ∷ ps → AllBounded all → AllBounded ps
later_bounded all ps p is bounded = (subst AllBounded is bounded).1
