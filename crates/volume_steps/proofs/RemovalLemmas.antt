-- Volumes that are taken away one after another.
use Rattle.std.proofs.Common.{◌≡◌, inl, inr, ⊎_elim, ℕ, ◌+◌, ◌*◌, ◌<◌, ◌≤◌, List, [], ◌∷◌, length, take, drop, get_or, refl, sym, ap, subst, ◌∙◌, arith, Bool, true, false, cond, not, ◌&&◌}
use Rattle.std.specs.FinMap.{get}
use Rattle.std.proofs.lemmas.Bool.{eqb-true, eqb-false, and_parts}
use Rattle.std.specs.Prelude.{nat_le, ◌==◌, filter, ◌||◌}
use Rattle.std.proofs.lemmas.List.{take-append-drop, take_more, take_all}
use Rattle.std.proofs.lemmas.List.Folds.{list_any-append}
use Rattle.m3_model.specs.Contents.{Contents}
use Rattle.m3_model.specs.Members.{IsIn}
use Rattle.m3_model.proofs.MemberLemmas.{IsIn-append_cases}
use Rattle.m3_model.proofs.Lists.{IsIn-get_or, IsIn-filter, IsIn-filter_passes, filter-IsIn}
use Rattle.m3_model.specs.declared.point.Point.{Point}
use Rattle.shard_files.specs.m3_outside.Causes.{CountsFaults}
use Rattle.shard_files.specs.m3_outside.DiskState.{DiskState, EachImage, Elapses}
use Rattle.shard_files.specs.m3_outside.DiskCalls.{LeavesFiles}
use Rattle.shard_files.specs.m3_outside.Files.{Files, IsAbsent}
use Rattle.shard_files.specs.m3_outside.declared.file_name.FileName.{FileName}
use Rattle.shard_files.proofs.m3_outside_proofs.Moments.{elapses_as, elapses_then}
use Rattle.shard_files.specs.commit_log.Contents.{numbers}
use Rattle.shard_files.specs.commit_log.LogEnd.{LogEnd, LogEndStands}
use Rattle.shard_files.proofs.commit_log_proofs.Begin.{stands_stays}
use Rattle.shard_files.specs.wire_bytes.Volumes.{Part}
use Rattle.shard_files.specs.Parts.{kind_of, part_name, KnownVolume}
use Rattle.shard_files.specs.Steps.{OthersStay, is_part}
use Rattle.shard_files.specs.FilesHold.{volume_points}
use Rattle.shard_files.specs.Keeps.{Keeps}
use Rattle.shard_files.proofs.KeepLemmas.{keeps_then}
use Rattle.volume_bytes.specs.declared.heads.Head.{Head}
use Rattle.volume_steps.specs.Known.{HoldsKnown, HaveContent}
use Rattle.volume_steps.specs.KnownLists.{IsOfOne, is_volume_at, without_volume, is_one_of, without_volumes}
use Rattle.volume_steps.proofs.KnownLemmas.{points_of_known, known_of_points, is_file_point}
use Rattle.volume_steps.proofs.DiskLemmas.{kept_as}

-- ---- lists without some volumes

filter_all : {X : Type 0} (xs : List X) → filter (λ x. true) xs ≡ xs
filter_all [] = refl
filter_all (x ∷ xs) = ap (λ l. x ∷ l) (filter_all xs)

-- one test after another is both
filter_both : {X : Type 0} (p q r : X → Bool) → ((x : X) → r x ≡ (q x && p x)) → (xs : List X) → filter p (filter q xs) ≡ filter r xs
filter_both p q r is [] = refl
filter_both {X} p q r is (x ∷ xs) = by (q x) refl (filter_both p q r is xs)
  where
    by : (b : Bool) → q x ≡ b → filter p (filter q xs) ≡ filter r xs → filter p (cond b (x ∷ filter q xs) (filter q xs)) ≡ filter r (x ∷ xs)
    by true e rest = ap (λ l. cond (p x) (x ∷ l) l) rest ∙ ap (λ b. cond b (x ∷ filter r xs) (filter r xs)) (sym (is x ∙ ap (λ b. b && p x) e))
    by false e rest = rest ∙ ap (λ b. cond b (x ∷ filter r xs) (filter r xs)) (sym (is x ∙ ap (λ b. b && p x) e))

neither : (a b : Bool) → not (a || (b || false)) ≡ (not a && not b)
neither true b = refl
neither false true = refl
neither false false = refl

pub none_without : (known : List KnownVolume) → without_volumes [] known ≡ known
none_without known = filter_all known

-- one more of them
pub next_without : (heads : List Head) (i : ℕ) (d : Head) → i < length heads → (known : List KnownVolume)
    → without_volume (get_or heads i d).ns (get_or heads i d).start (get_or heads i d).number (without_volumes (take i heads) known) ≡ without_volumes (take (i + 1) heads) known
next_without heads i d lt known =
    let h = get_or heads i d in
    filter_both (λ k. not (is_volume_at h.ns h.start h.number k)) (λ k. not (is_one_of (take i heads) k)) (λ k. not (is_one_of (take (i + 1) heads) k))
    (λ k. ap (λ (l : List Head). not (is_one_of l k)) (take_more heads i d lt) ∙ ap not (list_any-append (λ (g : Head). is_volume_at g.ns g.start g.number k) (take i heads) (h ∷ [])) ∙ neither (is_one_of (take i heads) k) (is_volume_at h.ns h.start h.number k)) known

left_of : (a b : Bool) → not (a || b) ≡ true → not a ≡ true
left_of true b e = e
left_of false b e = refl

-- a point that is left without all of them is left without the first few
pub fewer_without : (heads : List Head) (i : ℕ) (known : List KnownVolume) (p : Point) → IsIn (volume_points (without_volumes heads known)) p → IsIn (volume_points (without_volumes (take i heads) known)) p
fewer_without heads i known p m =
    let k = points_of_known (without_volumes heads known) p m in
    let old = IsIn-filter (λ j. not (is_one_of heads j)) known k.0 k.1 in
    let test : not (is_one_of heads k.0) ≡ true = IsIn-filter_passes (λ j. not (is_one_of heads j)) known k.0 k.1 in
    let split : not (is_one_of (take i heads) k.0 || is_one_of (drop i heads) k.0) ≡ true =
    ap not (sym (list_any-append (λ (g : Head). is_volume_at g.ns g.start g.number k.0) (take i heads) (drop i heads))) ∙ ap (λ (l : List Head). not (is_one_of l k.0)) (take-append-drop i heads) ∙ test in
    known_of_points (without_volumes (take i heads) known) k.0 p (filter-IsIn (λ j. not (is_one_of (take i heads) j)) known k.0 old (left_of (is_one_of (take i heads) k.0) (is_one_of (drop i heads) k.0) split)) k.2

have_fewer : (memory : Contents) (heads : List Head) (i : ℕ) (known : List KnownVolume) (kept : Contents) → HaveContent memory (without_volumes heads known) kept → HaveContent memory (without_volumes (take i heads) known) kept
have_fewer memory heads i known kept have p m = ⊎_elim (λ here. inl here) (λ vol. inr (fewer_without heads i known p vol)) (have p m)

-- ---- a call that leaves the files

-- files that have what is to be kept keep it
keeps_same : (memory : Contents) (known : List KnownVolume) (tenure fence : ℕ) (x : Files) (kept : Contents) → HoldsKnown memory known tenure fence x → HaveContent memory known kept → Keeps kept x x
keeps_same memory known tenure fence x kept has have = record {
  held = λ before t f held. record { points = before; held = held; sheds = record { nothing_else = λ p m. m; whole = λ p m. is_file_point memory known tenure fence x has p (have p m) before t f held } };
  snapshots = λ all. all;
}

module _ (F : Type 0) (a b : DiskState) (leaves : LeavesFiles F a b) where
  pub left_moment : (kept memory : Contents) (known : List KnownVolume) (tenure fence : ℕ) → EachImage a (HoldsKnown memory known tenure fence) → HaveContent memory known kept → a.tells ≡ true → Elapses (Keeps kept) a b
  left_moment kept memory known tenure fence each have tells =
      elapses_as a b (λ x y image same. subst (Keeps kept x) (sym same) (keeps_same memory known tenure fence x kept (each tells x image) have)) (leaves.proceeds.told tells)

  pub left_known : {P : Files → Type 0} → EachImage a P → EachImage b P
  left_known {P} each = kept_as a b leaves.proceeds.tells (λ told x y image same has. subst P (sym same) has) (λ told. (leaves.proceeds.told told).images) each

-- ---- the first i of the volumes are taken away

-- no file of another volume comes where one is taken away
none_back : (ns start number : ℕ) (x y : Files) → ((part : Part) → IsAbsent (part_name part ns start number) y) → OthersStay (λ name. (is_part ns start name ≡ true) × (name.number ≡ number)) x y
    → (part : Part) (m s n : ℕ) → IsAbsent (part_name part m s n) x → IsAbsent (part_name part m s n) y
none_back ns start number x y own others part m s n absent = by (is_part ns start (part_name part m s n)) refl (n == number) refl
  where
    by : (a : Bool) → is_part ns start (part_name part m s n) ≡ a → (b : Bool) → (n == number) ≡ b → IsAbsent (part_name part m s n) y
    by false e b f = others (part_name part m s n) (λ is. let never : false ≡ true = sym e ∙ is.0 in cc) ∙ absent
    by true e false f = others (part_name part m s n) (λ is. eqb-false n number f is.1) ∙ absent
    by true e true f =
        let offset = and_parts (nat_le 1 (kind_of part) && nat_le (kind_of part) 7) ((m == ns) && (s == start)) e in
        let two = and_parts (m == ns) (s == start) offset.1 in
        let same_ns = eqb-true m ns two.0 in
        let same_start = eqb-true s start two.1 in
        let same_number = eqb-true n number f in
        ap (get y) (λ i. part_name part (same_ns i) (same_start i) (same_number i)) ∙ own part

pub record Removing (heads : List Head) (i : ℕ) (old now : DiskState) : Type 0 where
  pub tells : now.tells ≡ old.tells
  pub faults : CountsFaults ⊥ old.faults now.faults
  pub room : 7 * length heads ≤ now.spare + 7 * i
  pub segments : old.tells ≡ true → numbers now.files ≡ numbers old.files
  pub gone : old.tells ≡ true → (h : Head) → IsIn (take i heads) h → (part : Part) → IsAbsent (part_name part h.ns h.start h.number) now.files
  pub others : old.tells ≡ true → OthersStay (IsOfOne heads) old.files now.files
  pub stands : (log : LogEnd) → LogEndStands log old → LogEndStands log now
  pub known : (memory : Contents) (known : List KnownVolume) (tenure fence : ℕ) → EachImage old (HoldsKnown memory known tenure fence) → EachImage now (HoldsKnown memory (without_volumes (take i heads) known) tenure fence)
  pub elapses : (kept memory : Contents) (known : List KnownVolume) (tenure fence : ℕ) → EachImage old (HoldsKnown memory known tenure fence) → HaveContent memory (without_volumes heads known) kept → old.tells ≡ true → Elapses (Keeps kept) old now

have_all : (memory : Contents) (heads : List Head) (known : List KnownVolume) (kept : Contents) → HaveContent memory (without_volumes heads known) kept → HaveContent memory known kept
have_all memory heads known kept have = subst (λ ks. HaveContent memory ks kept) (none_without known) (have_fewer memory heads 0 known kept have)

pub reserved_moment : (heads : List Head) (F : Type 0) (a b : DiskState) → LeavesFiles F a b → (kept memory : Contents) (known : List KnownVolume) (tenure fence : ℕ) → EachImage a (HoldsKnown memory known tenure fence)
    → HaveContent memory (without_volumes heads known) kept → a.tells ≡ true → Elapses (Keeps kept) a b
reserved_moment heads F a b leaves kept memory known tenure fence each have tells = left_moment F a b leaves kept memory known tenure fence each (have_all memory heads known kept have) tells

pub not_removing : (heads : List Head) (F : Type 0) (a b : DiskState) → LeavesFiles F a b → (F → ⊥) → 7 * length heads ≤ b.spare → Removing heads 0 a b
not_removing heads F a b leaves fine room = record {
  tells = leaves.proceeds.tells;
  faults = let one = leaves.proceeds.faults in record { later = one.later; stays = one.stays; rose = λ f. absurd f };
  room = omega (arith, room);
  segments = λ tells. ap numbers (leaves.files tells);
  gone = λ tells h m. absurd m;
  others = λ tells q apart. ap (λ (f : Files). get f q) (leaves.files tells);
  stands = λ log st. stands_stays log F a b leaves st;
  known = λ memory known tenure fence each. subst (λ ks. EachImage b (HoldsKnown memory ks tenure fence)) (sym (none_without known)) (left_known F a b leaves each);
  elapses = λ kept memory known tenure fence each have tells. reserved_moment heads F a b leaves kept memory known tenure fence each have tells;
}

module _ (heads : List Head) (i : ℕ) (d : Head) (lt : i < length heads) (a b c : DiskState) (so_far : Removing heads i a b) where
  abbrev h : Head
  h = get_or heads i d

  pub next_moment : (kept memory : Contents) (known : List KnownVolume) (tenure fence : ℕ) → EachImage a (HoldsKnown memory known tenure fence) → HaveContent memory (without_volumes heads known) kept → a.tells ≡ true
      → ((ks : List KnownVolume) → EachImage b (HoldsKnown memory ks tenure fence) → HaveContent memory (without_volume h.ns h.start h.number ks) kept → b.tells ≡ true → Elapses (Keeps kept) b c) → Elapses (Keeps kept) a c
  next_moment kept memory known tenure fence each have tells goes =
      elapses_then a b c (λ x y image keeps. keeps) (λ x y z image one image1 two. keeps_then kept x y z one two) (so_far.elapses kept memory known tenure fence each have tells)
      (goes (without_volumes (take i heads) known) (so_far.known memory known tenure fence each)
      (subst (λ ks. HaveContent memory ks kept) (sym (next_without heads i d lt known)) (have_fewer memory heads (i + 1) known kept have)) (so_far.tells ∙ tells))

  pub next_others : ((q : FileName) → ((is_part h.ns h.start q ≡ true) × (q.number ≡ h.number) → ⊥) → get c.files q ≡ get b.files q) → a.tells ≡ true → OthersStay (IsOfOne heads) a.files c.files
  next_others stay tells q apart = stay q (λ own. apart (h, IsIn-get_or heads i d lt, own.0, own.1)) ∙ so_far.others tells q apart

  -- there is room for it
  pub next_room : 7 ≤ b.spare
  next_room = let room = so_far.room in omega (arith, room, lt)

  pub next_gone : a.tells ≡ true → ((part : Part) → IsAbsent (part_name part h.ns h.start h.number) c.files) → OthersStay (λ name. (is_part h.ns h.start name ≡ true) × (name.number ≡ h.number)) b.files c.files
      → (g : Head) → IsIn (take (i + 1) heads) g → (part : Part) → IsAbsent (part_name part g.ns g.start g.number) c.files
  next_gone tells own others g m part =
      ⊎_elim (λ (old : IsIn (take i heads) g). none_back h.ns h.start h.number b.files c.files own others part g.ns g.start g.number (so_far.gone tells g old part))
      (λ (new : IsIn (h ∷ []) g). ⊎_elim (λ (e : h ≡ g). subst (λ (k : Head). IsAbsent (part_name part k.ns k.start k.number) c.files) e (own part)) (λ (none : ⊥). absurd none) new)
      (IsIn-append_cases (take i heads) (h ∷ []) g (subst (λ (l : List Head). IsIn l g) (take_more heads i d lt) m))

  pub next_known : (memory : Contents) (known : List KnownVolume) (tenure fence : ℕ) → EachImage a (HoldsKnown memory known tenure fence)
      → ((ks : List KnownVolume) → EachImage b (HoldsKnown memory ks tenure fence) → EachImage c (HoldsKnown memory (without_volume h.ns h.start h.number ks) tenure fence))
      → EachImage c (HoldsKnown memory (without_volumes (take (i + 1) heads) known) tenure fence)
  next_known memory known tenure fence each removes =
      subst (λ ks. EachImage c (HoldsKnown memory ks tenure fence)) (next_without heads i d lt known) (removes (without_volumes (take i heads) known) (so_far.known memory known tenure fence each))

-- all of them
pub all_removed : (heads : List Head) (i : ℕ) (a b : DiskState) → length heads ≤ i → Removing heads i a b → (memory : Contents) (known : List KnownVolume) (tenure fence : ℕ) → EachImage a (HoldsKnown memory known tenure fence)
    → EachImage b (HoldsKnown memory (without_volumes heads known) tenure fence)
all_removed heads i a b le going memory known tenure fence each = subst (λ (l : List Head). EachImage b (HoldsKnown memory (without_volumes l known) tenure fence)) (take_all i heads le) (going.known memory known tenure fence each)
