use Rattle.std.proofs.Common.{◌≡◌, ℕ, List, Option, Some, None, length, option_map, unwrap_or, refl, sym, ap, subst, ◌∙◌, arith}
use Rattle.std.specs.FinMap.{get}
use Rattle.m3_outside.specs.declared.file_name.FileName.{FileName}
use Rattle.m3_outside.specs.Files.{Files, IsInside}
use Rattle.commit_log.specs.Segment.{segment}
use Rattle.log_tests.proofs.logs.first_segment.Goals as goal

-- a file that has bytes is there
file_inside : (files : Files) (name : FileName) (size : ℕ) → size ≡ unwrap_or (option_map length (get files name)) 0 → (size ≡ 0 → ⊥) → IsInside name 0 size files
file_inside files name size is some = by (get files name) refl is
  where
    by : (o : Option (List ℕ)) → get files name ≡ o → size ≡ unwrap_or (option_map length o) 0 → IsInside name 0 size files
    by None there is = absurd (some is)
    by (Some file) there is = record { file = file; there = there; within = omega (arith, is) }

pub read-requires : goal.read-requires
read-requires g c = λ h.
    let t = sym c.in_ok-size.ensures.leaves.proceeds.tells ∙ h in
    let size : c.unwrap_or-size.result ≡ 65536 = c.if-size-ne-SEGMENT_BYTES.false in
    let wide : length c.deref_mut.result.now ≡ 65536 = omega (arith, c.deref_mut.ensures.len, c.in_ok-bytes.ensures.len) in
    subst (IsInside (segment 1) 0 (length c.deref_mut.result.now)) (sym (c.in_ok-size.ensures.leaves.files t))
    (subst (λ (n : ℕ). IsInside (segment 1) 0 n (g.D.Disk.state c.args.disk.now).files) (size ∙ sym wide)
    (file_inside (g.D.Disk.state c.args.disk.now).files (segment 1) c.unwrap_or-size.result (c.unwrap_or-size.ensures ∙ ap (λ (o : Option ℕ). unwrap_or o 0) (c.in_ok-size.ensures.size t)) (λ e. omega (arith, e, size))))
