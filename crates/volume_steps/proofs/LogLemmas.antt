-- What files hold, in the words of what is in memory, where calls of a log go over them.
use Rattle.std.proofs.Common.{◌≡◌, ◌⊎◌, inl, inr, ⊎_elim, ℕ, zero, suc, ◌+◌, max, List, [], ◌∷◌, ◌++◌, refl, sym, ap, subst, ◌∙◌, arith}
use Rattle.std.specs.Prelude.{fold}
use Rattle.std.specs.FinMap.{get}
use Rattle.m3_model.specs.Answers.{HasPoint}
use Rattle.m3_model.specs.Contents.{Contents, key_of, raised}
use Rattle.m3_model.specs.Members.{IsIn}
use Rattle.m3_model.specs.declared.point.Point.{Point}
use Rattle.m3_model.proofs.MemberLemmas.{IsIn-append_left, IsIn-append_right, IsIn-append_cases}
use Rattle.shard_files.specs.m3_outside.declared.file_name.FileName.{FileName}
use Rattle.shard_files.specs.m3_outside.Files.{Files}
use Rattle.shard_files.proofs.m3_outside_proofs.Names.{get_apart}
use Rattle.shard_files.specs.commit_log.Segment.{segment, Adds}
use Rattle.shard_files.specs.commit_log.LogEnd.{NoneAbove, NoneFrom, MayBeginSegment}
use Rattle.volume_steps.proofs.LawLemmas.{raised_from}
use Rattle.shard_files.specs.declared.entries.LogEntry.{LogEntry}
use Rattle.shard_files.specs.Entries.{IsEntry}
use Rattle.shard_files.specs.HeldEntries.{HoldsEntries, points_in, points_of, tenure_in, fence_in}
use Rattle.shard_files.specs.Parts.{KnownVolume}
use Rattle.shard_files.specs.FilesHold.{Counted, file_points, file_tenure, file_fence, points_in_newest}
use Rattle.shard_files.proofs.EntryLemmas.{first_segment}
use Rattle.shard_files.proofs.HeldLemmas.{one_more, adds_entry, begun_entries}
use Rattle.shard_files.proofs.PartLemmas.{volumes_as, newest_as}
use Rattle.volume_steps.specs.Known.{HoldsKnown, points_beside}
use Rattle.volume_steps.specs.Laws.{LogStepsKeep}

flip : {A B : Type 0} → A ⊎ B → B ⊎ A
flip (inl a) = inr a
flip (inr b) = inl b

-- files of which only the log is another
module _ (x y : Files) (same : (q : FileName) → (q.kind ≡ 0 → ⊥) → get y q ≡ get x q) (memory : Contents) (known : List KnownVolume) (tenure fence : ℕ) (has : HoldsKnown memory known tenure fence x) where
  abbrev parts_with : List LogEntry → Counted
  parts_with es = record { volumes = has.held.parts.volumes; newest = has.held.parts.newest; entries = es }

  known_with : (es : List LogEntry) (now : Contents) (t f : ℕ) → HoldsEntries es y → t ≡ file_tenure (parts_with es) → f ≡ file_fence (parts_with es) → ((p : Point) → HasPoint now p → IsIn (points_beside (parts_with es)) p) → HoldsKnown now known t f y
  known_with es now t f log t_is f_is there = record {
    points = file_points (parts_with es);
    held = record {
      parts = parts_with es;
      holds = record {
        volumes = volumes_as x y (λ q low high. same q (λ e. omega (arith, low, e))) has.held.parts.volumes has.held.holds.volumes;
        newest = newest_as x y (λ q low high. same q (λ e. omega (arith, low, e))) has.held.parts.newest has.held.holds.newest;
        log = log;
      };
      points_are = refl;
      tenure_is = t_is;
      fence_is = f_is;
    };
    volumes = has.volumes;
    there = there;
  }

  known_same : HoldsEntries has.held.parts.entries y → HoldsKnown memory known tenure fence y
  known_same log = known_with has.held.parts.entries memory tenure fence log has.held.tenure_is has.held.fence_is has.there

  known_more : (e : LogEntry) → HoldsEntries (has.held.parts.entries ++ e ∷ []) y → HoldsKnown (fold raised memory (points_in e)) known (max tenure (tenure_in e)) (max fence (fence_in e)) y
  known_more e log =
      let es = has.held.parts.entries in
      let ns = points_in_newest has.held.parts.newest in
      let one = one_more es e in
      let t = one.tenure in
      let f = one.fence in
      let now : List Point = points_of (es ++ e ∷ []) in
      known_with (es ++ e ∷ []) (fold raised memory (points_in e)) (max tenure (tenure_in e)) (max fence (fence_in e)) log (omega (arith, has.held.tenure_is, t)) (omega (arith, has.held.fence_is, f))
      (λ p h. ⊎_elim
      (λ (old : HasPoint memory p). ⊎_elim (λ (m : IsIn ns p). IsIn-append_left ns now p m) (λ (m : IsIn (points_of es) p). IsIn-append_right ns now p (subst (λ l. IsIn l p) (sym one.points) (IsIn-append_left (points_of es) (points_in e) p m))) (IsIn-append_cases ns (points_of es) p (has.there p old)))
      (λ (m : IsIn (points_in e) p). IsIn-append_right ns now p (subst (λ l. IsIn l p) (sym one.points) (IsIn-append_right (points_of es) (points_in e) p m)))
      (flip (raised_from (points_in e) memory (key_of p) p.v h)))

-- ---- a segment that begins

begun_same : (number : ℕ) (x y : Files) → MayBeginSegment number x y → (q : FileName) → (q.kind ≡ 0 → ⊥) → get y q ≡ get x q
begun_same number x y (inl same) q apart = ap (λ (f : Files). get f q) same
begun_same number x y (inr done) q apart = ap (λ (f : Files). get f q) done ∙ get_apart x (segment number) _ q (λ e. apart (ap (λ (n : FileName). n.kind) e))

begun_log : (number : ℕ) (x y : Files) (es : List LogEntry) → NoneFrom number x → MayBeginSegment number x y → HoldsEntries es x → HoldsEntries es y
begun_log zero x y es none may log = first_segment es x y log none may
begun_log (suc last) x y es none may log =
    let up : suc last ≡ last + 1 = omega arith in
    begun_entries es last x y log (λ n lt. none n (omega (arith, lt))) (subst (λ (n : ℕ). MayBeginSegment n x y) up may)

pub begun_known : (number : ℕ) (memory : Contents) (known : List KnownVolume) (tenure fence : ℕ) (x y : Files) → NoneFrom number x → MayBeginSegment number x y → HoldsKnown memory known tenure fence x → HoldsKnown memory known tenure fence y
begun_known number memory known tenure fence x y none may has = known_same x y (begun_same number x y may) memory known tenure fence has (begun_log number x y has.held.parts.entries none may has.held.holds.log)

-- ---- an entry that is added

pub added_known : (e : LogEntry) (bytes : List ℕ) (number : ℕ) (memory : Contents) (known : List KnownVolume) (tenure fence : ℕ) (x y : Files) → IsEntry bytes e → NoneAbove number x → Adds (segment number) bytes x y → HoldsKnown memory known tenure fence x
    → HoldsKnown (fold raised memory (points_in e)) known (max tenure (tenure_in e)) (max fence (fence_in e)) y
added_known e bytes number memory known tenure fence x y is above adds has =
    known_more x y (λ q apart. adds.others q (λ own. apart (ap (λ (n : FileName). n.kind) own))) memory known tenure fence has e
    (adds_entry has.held.parts.entries e number x y is.within has.held.holds.log above (subst (λ (b : List ℕ). Adds (segment number) b x y) is.is adds))

pub log_steps_keep : LogStepsKeep
log_steps_keep = record { begins = begun_known; adds = added_known }
