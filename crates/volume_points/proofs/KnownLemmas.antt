-- Volumes that are known by their heads.
use Rattle.std.proofs.Common.{◌≡◌, ℕ, List, [], ◌∷◌, ◌++◌, take, drop, refl, sym, ap, ◌∙◌, subst, inl, inr, Bool, true, false, cond, Result, Ok, Err}
use Rattle.std.specs.Prelude.{map, filter, IfOk}
use Rattle.std.specs.List.{take-map, drop-map}
use Rattle.std.proofs.lemmas.List.{take-append-drop}
use Rattle.std.proofs.lemmas.List.Concat.{flat_map-append}
use Rattle.m3_model.specs.Members.{IsIn}
use Rattle.m3_model.proofs.MemberLemmas.{IsIn-append_left, IsIn-append_right, IsIn-map, map-IsIn}
use Rattle.fileset_check.specs.m3_outside.Files.{Files}
use Rattle.fileset_check.specs.m3_outside.declared.file_name.FileName.{FileName}
use Rattle.fileset_check.specs.wire_bytes.Volumes.{VolumeHead}
use Rattle.fileset_check.specs.shard_files.Parts.{AreKnown, KnownVolume, VolumeHolds, counted_volumes}
use Rattle.fileset_check.specs.shard_files.FilesHold.{points_known, volume_points}
use Rattle.fileset_check.specs.volume_bytes.declared.heads.Head.{Head}
use Rattle.fileset_check.specs.volume_bytes.Heads.{head_of}
use Rattle.volume_points.specs.Known.{AreOf, AreThere, is_head_of, is_of}
use Rattle.volume_points.specs.Laws.{KnownAreThere, VolumesAreKnown}

abbrev head_in : KnownVolume → VolumeHead
head_in k = k.head

-- ---- parts of a list

pub in_take : {X : Type 0} (n : ℕ) (xs : List X) (x : X) → IsIn (take n xs) x → IsIn xs x
in_take n xs x m = subst (λ l. IsIn l x) (take-append-drop n xs) (IsIn-append_left (take n xs) (drop n xs) x m)

pub in_drop : {X : Type 0} (n : ℕ) (xs : List X) (x : X) → IsIn (drop n xs) x → IsIn xs x
in_drop n xs x m = subst (λ l. IsIn l x) (take-append-drop n xs) (IsIn-append_right (take n xs) (drop n xs) x m)

pub there_front : (n : ℕ) (heads : List Head) (files : Files) → AreThere heads files → AreThere (take n heads) files
there_front n heads files h = λ v m. h v (in_take n heads v m)

pub there_back : (n : ℕ) (heads : List Head) (files : Files) → AreThere heads files → AreThere (drop n heads) files
there_back n heads files h = λ v m. h v (in_drop n heads v m)

pub of_front : (n : ℕ) (heads : List Head) (known : List KnownVolume) (files : Files) → AreOf heads known files → AreOf (take n heads) (take n known) files
of_front n heads known files a = record {
  heads_are = sym (take-map head_in n known) ∙ ap (take n) a.heads_are ∙ take-map head_of n heads;
  hold = λ k m. a.hold k (in_take n known k m);
}

pub of_back : (n : ℕ) (heads : List Head) (known : List KnownVolume) (files : Files) → AreOf heads known files → AreOf (drop n heads) (drop n known) files
of_back n heads known files a = record {
  heads_are = sym (drop-map head_in n known) ∙ ap (drop n) a.heads_are ∙ drop-map head_of n heads;
  hold = λ k m. a.hold k (in_drop n known k m);
}

pub points_of_both : (n : ℕ) (known : List KnownVolume) → volume_points known ≡ volume_points (take n known) ++ volume_points (drop n known)
points_of_both n known = ap volume_points (sym (take-append-drop n known)) ∙ flat_map-append points_known (take n known) (drop n known)

-- ---- none, and one

pub of_none : (known : List KnownVolume) (files : Files) → AreOf [] known files → known ≡ []
of_none [] files a = refl
of_none (k ∷ known) files a = let e = a.heads_are in cc

pub record IsOfOne (head : Head) (known : List KnownVolume) (files : Files) : Type 0 where
  pub one : KnownVolume
  pub known_is : known ≡ one ∷ []
  pub head_is : one.head ≡ head_of head
  pub holds : VolumeHolds one.head one.rows files

pub of_one : (head : Head) (known : List KnownVolume) (files : Files) → AreOf (head ∷ []) known files → IsOfOne head known files
of_one head [] files a = let e = a.heads_are in cc
of_one head (k ∷ []) files a =
    let e = a.heads_are in
    let is : k.head ≡ head_of head = cc in
    record { one = k; known_is = refl; head_is = is; holds = a.hold k (inl refl) }
of_one head (k ∷ j ∷ known) files a = let e = a.heads_are in cc

-- ---- some of them

filter_heads : (test : VolumeHead → Bool) (heads : List Head) (known : List KnownVolume) → map head_in known ≡ map head_of heads
    → map head_in (filter (λ k. test k.head) known) ≡ map head_of (filter (λ h. test (head_of h)) heads)
filter_heads test [] [] e = refl
filter_heads test [] (k ∷ known) e = cc
filter_heads test (h ∷ heads) [] e = cc
filter_heads test (h ∷ heads) (k ∷ known) e =
    let first : k.head ≡ head_of h = cc in
    let rest : map head_in known ≡ map head_of heads = cc in
    by (test k.head) (test (head_of h)) (ap test first) first (filter_heads test heads known rest)
  where
    by : (a b : Bool) → a ≡ b → k.head ≡ head_of h → map head_in (filter (λ (j : KnownVolume). test j.head) known) ≡ map head_of (filter (λ (g : Head). test (head_of g)) heads)
        → map head_in (cond a (k ∷ filter (λ (j : KnownVolume). test j.head) known) (filter (λ (j : KnownVolume). test j.head) known))
        ≡ map head_of (cond b (h ∷ filter (λ (g : Head). test (head_of g)) heads) (filter (λ (g : Head). test (head_of g)) heads))
    by true true same first later = λ i. first i ∷ later i
    by false false same first later = later
    by true false same first later = cc
    by false true same first later = cc

in_filter : {X : Type 0} (p : X → Bool) (xs : List X) (x : X) → IsIn (filter p xs) x → IsIn xs x
in_filter p [] x m = absurd m
in_filter p (y ∷ xs) x m = by (p y) m (in_filter p xs x)
  where
    by : (b : Bool) → IsIn (cond b (y ∷ filter p xs) (filter p xs)) x → (IsIn (filter p xs) x → IsIn xs x) → IsIn (y ∷ xs) x
    by true (inl e) later = inl e
    by true (inr n) later = inr (later n)
    by false n later = inr (later n)

pub of_some : (ns start size : ℕ) (heads : List Head) (known : List KnownVolume) (files : Files) → AreOf heads known files
    → AreOf (filter (λ h. is_head_of ns start size (head_of h)) heads) (filter (is_of ns start size) known) files
of_some ns start size heads known files a = record {
  heads_are = filter_heads (is_head_of ns start size) heads known a.heads_are;
  hold = λ k m. a.hold k (in_filter (is_of ns start size) known k m);
}

pub there_some : (p : Head → Bool) (heads : List Head) (files : Files) → AreThere heads files → AreThere (filter p heads) files
there_some p heads files h = λ v m. h v (in_filter p heads v m)

-- ---- those that count

each_holds : (files : Files) (names : List FileName) (known : List KnownVolume) → AreKnown files names known → (k : KnownVolume) → IsIn known k → VolumeHolds k.head k.rows files
each_holds files names [] a k m = absurd m
each_holds files [] (j ∷ known) a k m = absurd a
each_holds files (name ∷ names) (j ∷ known) a k (inl e) = subst (λ (x : KnownVolume). VolumeHolds x.head x.rows files) e a.0.holds
each_holds files (name ∷ names) (j ∷ known) a k (inr m) = each_holds files names known a.1 k m

pub volumes_are_known : VolumesAreKnown
volumes_are_known heads known files e are = record { heads_are = e; hold = each_holds files (counted_volumes files) known are }

pub known_are_there : KnownAreThere
known_are_there heads known files a = λ h m.
    let here : IsIn (map head_in known) (head_of h) = subst (λ (l : List VolumeHead). IsIn l (head_of h)) (sym a.heads_are) (map-IsIn head_of heads h m) in
    let of = IsIn-map head_in known (head_of h) here in
    record { rows = of.0.rows; holds = subst (λ (v : VolumeHead). VolumeHolds v of.0.rows files) of.2 (a.hold of.0 of.1) }

-- ---- results

-- what is known of a value in two ways
pub of_both : {X E : Type 0} (r : Result X E) (P Q S : X → Type 0) → ((x : X) → P x → Q x → S x) → IfOk r P → IfOk r Q → IfOk r S
of_both (Ok x) P Q S f p q = f x p q
of_both (Err e) P Q S f p q = tt
