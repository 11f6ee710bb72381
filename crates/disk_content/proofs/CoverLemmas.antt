-- Which bytes pending writes cover, and what a stop may leave where one more is pending.
use Rattle.std.proofs.Common.{◌≡◌, ◌⊎◌, inl, inr, ⊎_elim, ℕ, ◌+◌, ◌-◌, ◌<◌, ◌≤◌, List, [], ◌∷◌, ◌++◌, length, take, drop, get_or, true, false, not, cond, nat_lt, ◌&&◌, ◌||◌, refl, sym, ap, ◌∙◌, Option, Some, None, arith, true≢false, length-take, length-drop}
use Rattle.std.proofs.lemmas.Bool.{cases_lt, lt-ltb, le-ltb}
use Rattle.std.proofs.lemmas.List.{places}
use Rattle.std.specs.List.{filter}
use Rattle.std.specs.Ordering.{eq_by_cmp}
use Rattle.m3_outside.specs.declared.file_name.FileName.{FileName}
use Rattle.m3_outside.specs.Files.{name_cmp, patched}
use Rattle.m3_outside.proofs.Names.{eq_itself, eq_true, eq_false}
use Rattle.m3_outside.proofs.Patches.{length-patched, patched_inside, patched_before, patched_behind}
use Rattle.disk_content.specs.Writes.{PendingWrite}
use Rattle.disk_content.specs.Writes.{is_other, to_others}
use Rattle.disk_content.specs.Images.{in_range, covered, Left, MayLeave}

covered_more : (ws : List PendingWrite) (w : PendingWrite) (q : FileName) (i : ℕ) → covered (ws ++ w ∷ []) q i ≡ (covered ws q i || (eq_by_cmp name_cmp q w.name && in_range w i))
covered_more [] w q i = elim (eq_by_cmp name_cmp q w.name && in_range w i) as (λ b. (b || false) ≡ b) [ true ↦ refl | false ↦ refl ]
covered_more (r ∷ ws) w q i =
    ap (λ b. (eq_by_cmp name_cmp q r.name && in_range r i) || b) (covered_more ws w q i)
    ∙ elim (eq_by_cmp name_cmp q r.name && in_range r i) as (λ b. (b || (covered ws q i || (eq_by_cmp name_cmp q w.name && in_range w i))) ≡ ((b || covered ws q i) || (eq_by_cmp name_cmp q w.name && in_range w i))) [ true ↦ refl | false ↦ refl ]

-- a byte that no write covers with one more is one that none covered before
fewer : (ws : List PendingWrite) (w : PendingWrite) (q : FileName) (i : ℕ) → covered (ws ++ w ∷ []) q i ≡ false → covered ws q i ≡ false
fewer ws w q i none =
    elim (covered ws q i) as (λ b. (b || (eq_by_cmp name_cmp q w.name && in_range w i)) ≡ false → b ≡ false) [ true ↦ λ e. absurd (true≢false e) | false ↦ λ e. refl ] (sym (covered_more ws w q i) ∙ none)

-- of another file it covers the same
same_other : (ws : List PendingWrite) (w : PendingWrite) (q : FileName) (i : ℕ) → (q ≡ w.name → ⊥) → covered (ws ++ w ∷ []) q i ≡ covered ws q i
same_other ws w q i apart =
    covered_more ws w q i ∙ ap (λ b. covered ws q i || (b && in_range w i)) (eq_false q w.name apart)
    ∙ elim (covered ws q i) as (λ b. (b || false) ≡ b) [ true ↦ refl | false ↦ refl ]

in_range_true : (w : PendingWrite) (i : ℕ) → w.at ≤ i → i < w.at + length w.bytes → in_range w i ≡ true
in_range_true w i from below = ap (λ b. not b && nat_lt i (w.at + length w.bytes)) (le-ltb i w.at from) ∙ lt-ltb i (w.at + length w.bytes) below

pub in_range_false : (w : PendingWrite) (i : ℕ) → (i < w.at) ⊎ (w.at + length w.bytes ≤ i) → in_range w i ≡ false
in_range_false w i (inl below) = ap (λ b. not b && nat_lt i (w.at + length w.bytes)) (lt-ltb i w.at below)
in_range_false w i (inr behind) = ap (λ b. not (nat_lt i w.at) && b) (le-ltb i (w.at + length w.bytes) behind) ∙ elim (nat_lt i w.at) as (λ b. (not b && false) ≡ false) [ true ↦ refl | false ↦ refl ]

outside_of : (ws : List PendingWrite) (w : PendingWrite) (q : FileName) (i : ℕ) → covered (ws ++ w ∷ []) q i ≡ false → q ≡ w.name → (i < w.at) ⊎ (w.at + length w.bytes ≤ i)
outside_of ws w q i none named = elim (cases_lt i w.at) [
  | inl below ↦ inl below
  | inr from ↦ elim (cases_lt i (w.at + length w.bytes)) [
    | inr behind ↦ inr behind
    | inl inside ↦ absurd (true≢false (sym (covered_more ws w q i ∙ ap (λ b. covered ws q i || (b && in_range w i)) (ap (λ m. eq_by_cmp name_cmp m w.name) named ∙ eq_itself w.name) ∙ ap (λ b. covered ws q i || b) (in_range_true w i from inside)
        ∙ elim (covered ws q i) as (λ b. (b || true) ≡ true) [ true ↦ refl | false ↦ refl ]) ∙ none))
  ]
]

-- what was left is left with one more write, done or not
left_more : (ws : List PendingWrite) (w : PendingWrite) (q : FileName) (synced left : List ℕ) → Left ws q synced left → Left (ws ++ w ∷ []) q synced left
left_more ws w q synced left may = record { same_length = may.same_length; outside = λ i none. may.outside i (fewer ws w q i none) }

-- bytes within the write's range may be changed
pub left_written : (ws : List PendingWrite) (w : PendingWrite) (synced left : List ℕ) (at : ℕ) (bytes : List ℕ) → w.at ≤ at → at + length bytes ≤ w.at + length w.bytes → w.at + length w.bytes ≤ length left → Left ws w.name synced left
    → Left (ws ++ w ∷ []) w.name synced (patched left at bytes)
left_written ws w synced left at bytes low high within may = record {
  same_length = length-patched left at bytes (omega arith) ∙ may.same_length;
  outside = λ i none. ⊎_elim
      (λ (below : i < w.at). patched_before left at bytes i 0 (omega arith) (omega arith) ∙ may.outside i (fewer ws w w.name i none))
      (λ (behind : w.at + length w.bytes ≤ i). patched_behind left at bytes i 0 (omega arith) (omega arith) ∙ may.outside i (fewer ws w w.name i none))
      (outside_of ws w w.name i none refl);
}

pub may_more : (ws : List PendingWrite) (w : PendingWrite) (q : FileName) (x y : Option (List ℕ)) → MayLeave ws q x y → MayLeave (ws ++ w ∷ []) q x y
may_more ws w q None None may = may
may_more ws w q None (Some y) may = may
may_more ws w q (Some x) None may = may
may_more ws w q (Some x) (Some y) may = left_more ws w q x y may

pub may_less : (ws : List PendingWrite) (w : PendingWrite) (q : FileName) (x y : Option (List ℕ)) → (q ≡ w.name → ⊥) → MayLeave (ws ++ w ∷ []) q x y → MayLeave ws q x y
may_less ws w q None None apart may = may
may_less ws w q None (Some y) apart may = may
may_less ws w q (Some x) None apart may = may
may_less ws w q (Some x) (Some y) apart may = record { same_length = may.same_length; outside = λ i none. may.outside i (same_other ws w q i apart ∙ none) }

-- before the write, its range was as it was synced, or anything
pub left_before : (ws : List PendingWrite) (w : PendingWrite) (synced left : List ℕ) → w.at + length w.bytes ≤ length synced → Left (ws ++ w ∷ []) w.name synced left
    → Left ws w.name synced (patched left w.at (take (length w.bytes) (drop w.at synced)))
left_before ws w synced left within may =
    let n : length (take (length w.bytes) (drop w.at synced)) ≡ length w.bytes = simp (length-take, length-drop) (omega arith) in
    let in_left : w.at + length (take (length w.bytes) (drop w.at synced)) ≤ length left = omega (arith, n, within, may.same_length) in
    record {
      same_length = length-patched left w.at _ in_left ∙ may.same_length;
      outside = λ i none. ⊎_elim
          (λ (below : i < w.at). patched_before left w.at _ i 0 in_left below ∙ may.outside i (uncovered i none (inl below)))
          (λ (from : w.at ≤ i). ⊎_elim
          (λ (inside : i < w.at + length w.bytes). patched_inside left w.at _ i 0 in_left from (omega (arith, n, inside)) ∙ read_back i from inside)
          (λ (behind : w.at + length w.bytes ≤ i). patched_behind left w.at _ i 0 in_left (omega (arith, n, behind)) ∙ may.outside i (uncovered i none (inr behind)))
          (cases_lt i (w.at + length w.bytes)))
          (cases_lt i w.at);
    }
  where
    uncovered : (i : ℕ) → covered ws w.name i ≡ false → (i < w.at) ⊎ (w.at + length w.bytes ≤ i) → covered (ws ++ w ∷ []) w.name i ≡ false
    uncovered i none out = covered_more ws w w.name i ∙ ap (λ b. b || (eq_by_cmp name_cmp w.name w.name && in_range w i)) none ∙ ap (λ b. eq_by_cmp name_cmp w.name w.name && b) (in_range_false w i out)
        ∙ elim (eq_by_cmp name_cmp w.name w.name) as (λ b. (b && false) ≡ false) [ true ↦ refl | false ↦ refl ]

    read_back : (i : ℕ) → w.at ≤ i → i < w.at + length w.bytes → get_or (take (length w.bytes) (drop w.at synced)) (i - w.at) 0 ≡ get_or synced i 0
    read_back i from inside = grind (arith, places)

-- the pending writes of all other files
abbrev pub without : FileName → List PendingWrite → List PendingWrite
without name ws = filter (λ w. not (eq_by_cmp name_cmp name w.name)) ws

pub without_is : (name : FileName) (ws : List PendingWrite) → to_others name ws ≡ without name ws
unfolding is_other
without_is name ws = refl

pub none_of : (name : FileName) (ws : List PendingWrite) (i : ℕ) → covered (without name ws) name i ≡ false
none_of name [] i = refl
none_of name (w ∷ ws) i =
    elim (eq_by_cmp name_cmp name w.name) as (λ b. eq_by_cmp name_cmp name w.name ≡ b → covered (cond (not b) (w ∷ without name ws) (without name ws)) name i ≡ false) [
      | true ↦ λ e. none_of name ws i
      | false ↦ λ e. ap (λ b. (b && in_range w i) || covered (without name ws) name i) e ∙ none_of name ws i
    ] refl

pub others_of : (name q : FileName) (ws : List PendingWrite) (i : ℕ) → (q ≡ name → ⊥) → covered (without name ws) q i ≡ covered ws q i
others_of name q [] i apart = refl
others_of name q (w ∷ ws) i apart =
    elim (eq_by_cmp name_cmp name w.name) as (λ b. eq_by_cmp name_cmp name w.name ≡ b → covered (cond (not b) (w ∷ without name ws) (without name ws)) q i ≡ covered (w ∷ ws) q i) [
      | true ↦ λ e. others_of name q ws i apart ∙ sym (ap (λ b. (b && in_range w i) || covered ws q i) (eq_false q w.name (λ same. apart (same ∙ sym (eq_true name w.name e)))))
      | false ↦ λ e. ap (λ b. (eq_by_cmp name_cmp q w.name && in_range w i) || b) (others_of name q ws i apart)
    ] refl

pub may_over : (ws rs : List PendingWrite) (q : FileName) (x y : Option (List ℕ)) → ((i : ℕ) → covered ws q i ≡ covered rs q i) → MayLeave ws q x y → MayLeave rs q x y
may_over ws rs q None None same may = may
may_over ws rs q None (Some y) same may = may
may_over ws rs q (Some x) None same may = may
may_over ws rs q (Some x) (Some y) same may = record { same_length = may.same_length; outside = λ i none. may.outside i (same i ∙ none) }
