-- One more pending write, and what reads then give.
use Rattle.std.proofs.Common.{◌≡◌, ⊎_elim, ℕ, ◌+◌, ◌-◌, ◌<◌, ◌≤◌, List, [], ◌∷◌, ◌++◌, length, take, drop, get_or, refl, sym, ap, subst, ◌∙◌, Option, Some, None, arith, length-take, length-drop, append_assoc, take-append-drop}
use Rattle.std.proofs.lemmas.Bool.{cases_lt}
use Rattle.std.proofs.lemmas.List.{places, same_lists, drop-drop}
use Rattle.std.specs.FinMap.{get, insert}
use Rattle.m3_outside.specs.declared.file_name.FileName.{FileName}
use Rattle.m3_outside.specs.Files.{Files, Torn, Wrote, IsInside, patched}
use Rattle.m3_outside.specs.DiskState.{StepOf}
use Rattle.m3_outside.proofs.Names.{name_is, get_here, get_apart, is_insert}
use Rattle.m3_outside.proofs.Patches.{length-patched, patched_inside, patched_before, patched_behind}
use Rattle.disk_content.specs.Contents.{Content}
use Rattle.disk_content.specs.Writes.{PendingWrite}
use Rattle.disk_content.specs.Tables.{with_bytes}
use Rattle.disk_content.specs.Contents.{FitsFile, AllFit, content_after_failed_write, content_after_write}
use Rattle.disk_content.specs.Images.{MayLeave, ImagesOf, IsSound}
use Rattle.disk_content.proofs.CoverLemmas.{left_written, left_before, may_more, may_less}
use Rattle.disk_content.proofs.TableLemmas.{with_bytes_found}

pub undone : (now : List ℕ) (at : ℕ) (other : List ℕ) → at + length other ≤ length now → patched (patched now at other) at (take (length other) (drop at now)) ≡ now
undone now at other within = same_lists _ _ lengths (λ k d below. each k d below)
  where
    n : length (take (length other) (drop at now)) ≡ length other
    n = simp (length-take, length-drop) (omega arith)

    first : length (patched now at other) ≡ length now
    first = length-patched now at other within

    lengths : length (patched (patched now at other) at (take (length other) (drop at now))) ≡ length now
    lengths = length-patched (patched now at other) at _ (omega (arith, n, first, within)) ∙ first

    fits : at + length (take (length other) (drop at now)) ≤ length (patched now at other)
    fits = omega (arith, n, first, within)

    read : (k d : ℕ) → at ≤ k → k < at + length other → get_or (take (length other) (drop at now)) (k - at) d ≡ get_or now k d
    read k d from inside = grind (arith, places)

    each : (k d : ℕ) → k < length (patched (patched now at other) at (take (length other) (drop at now))) → get_or (patched (patched now at other) at (take (length other) (drop at now))) k d ≡ get_or now k d
    each k d below = ⊎_elim
        (λ (before : k < at). patched_before (patched now at other) at _ k d fits before ∙ patched_before now at other k d within before)
        (λ (from : at ≤ k). ⊎_elim
        (λ (inside : k < at + length other). patched_inside (patched now at other) at _ k d fits from (omega (arith, n, inside)) ∙ read k d from inside)
        (λ (behind : at + length other ≤ k). patched_behind (patched now at other) at _ k d fits (omega (arith, n, behind)) ∙ patched_behind now at other k d within behind)
        (cases_lt k (at + length other)))
        (cases_lt k at)

-- an image with one more pending write is one from before, with other bytes in the write's range
pub torn_image : (c d : Content) (w : PendingWrite) → FitsFile w (get c.synced w.name) → d.synced ≡ c.synced → d.pending.writes ≡ c.pending.writes ++ w ∷ []
    → (files : Files) → ImagesOf d files → StepOf (Torn w.name w.at (length w.bytes)) (ImagesOf c) files
torn_image c d w fits synced more files image = from (get c.synced w.name) (get files w.name) refl refl (moved w.name) fits
  where
    ws : List PendingWrite
    ws = c.pending.writes

    moved : (q : FileName) → MayLeave (c.pending.writes ++ w ∷ []) q (get c.synced q) (get files q)
    moved q = subst (λ (s : Files). MayLeave (c.pending.writes ++ w ∷ []) q (get s q) (get files q)) synced (subst (λ (l : List PendingWrite). MayLeave l q (get d.synced q) (get files q)) more (image q))

    from : (base now : Option (List ℕ)) → get c.synced w.name ≡ base → get files w.name ≡ now → MayLeave (c.pending.writes ++ w ∷ []) w.name base now → FitsFile w base → StepOf (Torn w.name w.at (length w.bytes)) (ImagesOf c) files
    from None now there is may fits = absurd fits
    from (Some base) None there is may fits = absurd may
    from (Some base) (Some now) there is left within =
        let n = length w.bytes in
        let other = take n (drop w.at base) in
        let k : length other ≡ n = simp (length-take, length-drop) (omega arith) in
        let fits : w.at + length other ≤ length now = omega (arith, k, within, left.same_length) in
        let mid = patched now w.at other in
        record {
          before = insert files w.name mid;
          was = λ q. ⊎_elim
              (λ (same : q ≡ w.name). subst (λ m. MayLeave c.pending.writes m (get c.synced m) (get (insert files w.name mid) m)) (sym same)
              (subst (MayLeave c.pending.writes w.name (get c.synced w.name)) (sym (get_here files w.name mid))
              (subst (λ b. MayLeave c.pending.writes w.name b (Some mid)) (sym there) (left_before c.pending.writes w base now within left))))
              (λ (apart : q ≡ w.name → ⊥). subst (MayLeave c.pending.writes q (get c.synced q)) (sym (get_apart files w.name mid q apart)) (may_less c.pending.writes w q _ _ apart (moved q)))
              (name_is q w.name);
          stepped = record {
            bytes = take (length other) (drop w.at now);
            same_length = simp (length-take, length-drop) (omega (arith, k, fits));
            wrote = record {
              file = mid;
              there = get_here files w.name mid;
              after = is_insert _ files w.name _ (is ∙ ap (λ (l : List ℕ). Some l) (sym (undone now w.at other fits))) (λ q apart. sym (get_apart files w.name mid q apart));
            };
          };
        }

-- what is inside of the file as reads give it is so as it stands synced
pub fits_synced : (c : Content) (w : PendingWrite) → IsSound c → IsInside w.name w.at (length w.bytes) c.seen → FitsFile w (get c.synced w.name)
fits_synced c w sound inside = from (get c.synced w.name) (subst (MayLeave c.pending.writes w.name (get c.synced w.name)) inside.there (sound.read_is_image w.name))
  where
    from : (base : Option (List ℕ)) → MayLeave c.pending.writes w.name base (Some inside.file) → FitsFile w base
    from None may = absurd may
    from (Some base) left = omega (arith, inside.within, left.same_length)

pub all_fit_push : (ws : List PendingWrite) (w : PendingWrite) (files : Files) → AllFit ws files → FitsFile w (get files w.name) → AllFit (ws ++ w ∷ []) files
all_fit_push [] w files all fits = (fits, tt)
all_fit_push (r ∷ ws) w files all fits = (all.0, all_fit_push ws w files all.1 fits)

pub sound_failed_write : (c : Content) (name : FileName) (at : ℕ) (bytes : List ℕ) → IsSound c → IsInside name at (length bytes) c.seen → IsSound (content_after_failed_write name at bytes c)
sound_failed_write c name at bytes sound inside =
    let w : PendingWrite = record { name = name; at = at; bytes = bytes } in
    record {
      read_is_image = λ q. may_more c.pending.writes w q _ _ (sound.read_is_image q);
      fit = all_fit_push c.pending.writes w c.synced sound.fit (fits_synced c w sound inside);
    }

pub wrote_seen : (c : Content) (name : FileName) (at : ℕ) (bytes : List ℕ) → IsInside name at (length bytes) c.seen → Wrote name at bytes c.seen (with_bytes name at bytes c.seen)
wrote_seen c name at bytes inside = record { file = inside.file; there = inside.there; after = sym (with_bytes_found c.seen name at bytes inside.file inside.there) }

pub sound_write : (c : Content) (name : FileName) (at : ℕ) (bytes : List ℕ) → IsSound c → IsInside name at (length bytes) c.seen → IsSound (content_after_write name at bytes c)
sound_write c name at bytes sound inside = record {
  read_is_image = λ q. subst (λ (m : Files). MayLeave (c.pending.writes ++ w ∷ []) q (get c.synced q) (get m q)) after (each q);
  fit = all_fit_push c.pending.writes w c.synced sound.fit (fits_synced c w sound inside);
}
  where
    w : PendingWrite
    w = record { name = name; at = at; bytes = bytes }

    after : insert c.seen name (patched inside.file at bytes) ≡ with_bytes name at bytes c.seen
    after = with_bytes_found c.seen name at bytes inside.file inside.there

    here : (base : Option (List ℕ)) → MayLeave c.pending.writes name base (Some inside.file) → MayLeave (c.pending.writes ++ w ∷ []) name base (Some (patched inside.file at bytes))
    here None may = may
    here (Some base) left = left_written c.pending.writes w base inside.file at bytes (omega arith) (omega arith) inside.within left

    each : (q : FileName) → MayLeave (c.pending.writes ++ w ∷ []) q (get c.synced q) (get (insert c.seen name (patched inside.file at bytes)) q)
    each q = ⊎_elim
        (λ (same : q ≡ name). subst (λ m. MayLeave (c.pending.writes ++ w ∷ []) m (get c.synced m) (get (insert c.seen name (patched inside.file at bytes)) m)) (sym same)
        (subst (MayLeave (c.pending.writes ++ w ∷ []) name (get c.synced name)) (sym (get_here c.seen name (patched inside.file at bytes)))
        (here (get c.synced name) (subst (MayLeave c.pending.writes name (get c.synced name)) inside.there (sound.read_is_image name)))))
        (λ (apart : q ≡ name → ⊥). subst (MayLeave (c.pending.writes ++ w ∷ []) q (get c.synced q)) (sym (get_apart c.seen name (patched inside.file at bytes) q apart)) (may_more c.pending.writes w q _ _ (sound.read_is_image q)))
        (name_is q name)

patched_same : (file : List ℕ) (at n : ℕ) → at + n ≤ length file → patched file at (take n (drop at file)) ≡ file
patched_same file at n within =
    let k : length (take n (drop at file)) ≡ n = simp (length-take, length-drop) (omega arith) in
    ap (λ j. take at file ++ take n (drop at file) ++ drop j file) (ap (λ j. at + j) k)
    ∙ ap (λ (l : List ℕ). take at file ++ take n (drop at file) ++ l) (sym (drop-drop n at file))
    ∙ append_assoc (take at file) (take n (drop at file)) (drop n (drop at file))
    ∙ ap (λ (l : List ℕ). take at file ++ l) (take-append-drop n (drop at file))
    ∙ take-append-drop at file

-- a write that did nothing to what reads give
pub torn_not : (files : Files) (name : FileName) (at n : ℕ) → IsInside name at n files → Torn name at n files files
torn_not files name at n inside = record {
  bytes = take n (drop at inside.file);
  same_length = simp (length-take, length-drop) (omega (arith, inside.within));
  wrote = record {
    file = inside.file;
    there = inside.there;
    after = is_insert files files name _ (inside.there ∙ ap (λ (l : List ℕ). Some l) (sym (patched_same inside.file at n inside.within))) (λ q apart. refl);
  };
}
