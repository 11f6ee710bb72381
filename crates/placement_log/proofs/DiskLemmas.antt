-- What the calls of the meta disk's log leave of the disk.
use Rattle.std.proofs.Common.{◌≡◌, inl, inr, ℕ, ◌-◌, ◌<◌, ◌≤◌, List, [], ◌∷◌, map, true, Option, Some, None, refl, sym, ap, subst, ◌∙◌, arith}
use Rattle.std.specs.Prelude.{nat_lt}
use Rattle.std.specs.List.{filter}
use Rattle.m3_model.specs.declared.limits.TheConstants.{NUMBER_END}
use Rattle.m3_model.specs.declared.rules.MetaState.{MetaState}
use Rattle.m3_outside.specs.declared.file_name.FileName.{FileName}
use Rattle.m3_outside.specs.Files.{Files, Stays}
use Rattle.m3_outside.specs.DiskState.{DiskState, Told, StepOf, Elapses, Becomes, IsLawfulDisk}
use Rattle.m3_outside.specs.DiskCalls.{LeavesFiles}
use Rattle.m3_outside.specs.Removal.{without_files, MayTakeAway}
use Rattle.m3_outside.proofs.Moments.{elapses_as, elapses_then, elapses_from}
use Rattle.commit_log.specs.Contents.{numbers}
use Rattle.commit_log.specs.Cutting.{numbers_below, segments_below}
use Rattle.commit_log.specs.LogEnd.{LogEnd, LogEndStands, IsReadyFor, NoneAbove, NoneFrom, MayBeginSegment}
use Rattle.commit_log.specs.Segment.{segment, MayAdd, Adds}
use Rattle.commit_log.proofs.Begin.{stands_stays}
use Rattle.commit_log.proofs.LogLemmas.{apart_names}
use Rattle.meta_bytes.specs.States.{IsMetaState}
use Rattle.placement_log.specs.States.{payload_bytes}
use Rattle.placement_log.specs.MetaHolds.{ElseStays, MetaHolds, KeepsLast, MaySave, Saves, MetaEnd, LogStands, MetaStands, all_but_last}
use Rattle.placement_log.proofs.ElseLemmas.{else_same, else_then, else_others, else_taken}
use Rattle.placement_log.proofs.HoldsLemmas.{begun_keeps, may_save, swept_saves}
use Rattle.placement_log.proofs.NumberLemmas.{names_numbers, none_image, adds_numbers, older_below, swept_numbers}

-- ---- the last state stays

pub keeps_then : (a b c : DiskState) → Elapses KeepsLast a b → Elapses KeepsLast b c → Elapses KeepsLast a c
keeps_then a b c one two = elapses_then a b c (λ x y image keeps. keeps) (λ x y z image keeps image1 keeps1. record { last = λ l h. keeps1.last l (keeps.last l h); others = else_then x y z keeps.others keeps1.others }) one two

stay_keeps : (x y : Files) → Stays x y → KeepsLast x y
stay_keeps x y same = record { last = λ l h. subst (MetaHolds l) (sym same) h; others = else_same x y same }

pub keeps_stays : (a b : DiskState) → Elapses Stays a b → Elapses KeepsLast a b
keeps_stays a b goes = elapses_as a b (λ x y image same. stay_keeps x y same) goes

pub keeps_none : (a : DiskState) → Elapses KeepsLast a a
keeps_none a = record { later = omega arith; images = λ c now. record { before = c; was = now; stepped = stay_keeps c c refl }; nothing_else = λ t c le left. inl left; keeps = λ t c le left. left }

-- then a call that leaves the files
pub keeps_left : (failed : Type 0) (a b c : DiskState) → b.tells ≡ a.tells → (a.tells ≡ true → Elapses KeepsLast a b) → LeavesFiles failed b c → a.tells ≡ true → Elapses KeepsLast a c
keeps_left failed a b c same one leaves t = keeps_then a b c (one t) (keeps_stays b c (leaves.proceeds.told (same ∙ t)))

pub keeps_begun : (last number : ℕ) (a b : DiskState) → IsLawfulDisk a → a.tells ≡ true → last < number → Told a (NoneAbove last) → Elapses (MayBeginSegment number) a b → Elapses KeepsLast a b
keeps_begun last number a b lawful tells lt none goes = elapses_as a b (λ x y image may. begun_keeps last number lt x y (none_image last a.files x (lawful.same_names tells x image) (none tells)) may) goes

-- no segment from a number on is none above the number before
pub above_before : (number : ℕ) (d : DiskState) → 1 ≤ number → Told d (NoneFrom number) → Told d (NoneAbove (number - 1))
above_before number d some none = λ tells n lt. none tells n (omega (arith, some, lt))

-- ---- a log that stands

pub log_stays : (log : Option LogEnd) (next : ℕ) (failed : Type 0) (a b : DiskState) → LeavesFiles failed a b → LogStands log next a → LogStands log next b
log_stays (Some end) next failed a b leaves st = stands_stays end failed a b leaves st
log_stays None next failed a b leaves none = λ tells. let told = sym leaves.proceeds.tells ∙ tells in subst (NoneFrom next) (sym (leaves.files told)) (none told)

pub meta_stays : (m : MetaEnd) (failed : Type 0) (a b : DiskState) → LeavesFiles failed a b → MetaStands m a → MetaStands m b
meta_stays m failed a b leaves st = record { log = log_stays m.log m.next failed a b leaves st.log; some = st.some; few = st.few }

pub begun_stands : (m : MetaEnd) (end : LogEnd) (d : DiskState) → m.log ≡ Some end → 1 ≤ m.next → m.next ≤ NUMBER_END → LogEndStands end d → MetaStands m d
begun_stands m end d begun some few st = record { log = subst (λ (o : Option LogEnd). LogStands o m.next d) (sym begun) st; some = some; few = few }

pub ready_stays : (end : LogEnd) (n : ℕ) (failed : Type 0) (a b : DiskState) → LeavesFiles failed a b → IsReadyFor end n a → IsReadyFor end n b
ready_stays end n failed a b leaves ready =
    let st = stands_stays end failed a b leaves ready.stands in
    let room = ready.ready.room in
    let spare = ready.ready.spare in
    let more = leaves.spare in
    record { stands = st; clean = ready.clean; ready = record { kept = st.kept ready.clean; room = room; spare = omega (arith, spare, more) } }

-- the segments below the log's are all but the last
pub older_of : (end : LogEnd) (n : ℕ) (d : DiskState) → IsReadyFor end n d → d.tells ≡ true → segments_below end.number d.files ≡ map segment (all_but_last (numbers d.files))
older_of end n d ready tells = let there = (ready.ready.kept).rest tells in older_below end.number d.files _ (ready.stands.above tells) there.there

-- ---- a state is saved

pub appended_may : (number : ℕ) (state : MetaState) (a b : DiskState) → IsLawfulDisk a → a.tells ≡ true → IsMetaState state → Told a (NoneAbove number) → Elapses (MayAdd (segment number) (payload_bytes state)) a b → Elapses (MaySave state) a b
appended_may number state a b lawful tells is none goes = elapses_as a b (λ x y image may. may_save number state is x y (none_image number a.files x (lawful.same_names tells x image) (none tells)) may) goes

-- behind an append that is done
module _ (number : ℕ) (state : MetaState) (is : IsMetaState state) (a b : DiskState) (lawful : IsLawfulDisk a) (tells : a.tells ≡ true) (none : Told a (NoneAbove number)) (older : List FileName) (are : older ≡ segments_below number a.files)
    (added : (c : Files) → b.images c → StepOf (Adds (segment number) (payload_bytes state)) a.images c) where
  -- an image from before, and the chunk behind it
  abbrev Added : Files → Files → Type 0
  Added x y = a.images x × Adds (segment number) (payload_bytes state) x y

  none_in : (x : Files) → a.images x → NoneAbove number x
  none_in x image = none_image number a.files x (lawful.same_names tells x image) (none tells)

  same_older : (x y : Files) → a.images x → Adds (segment number) (payload_bytes state) x y → segments_below number y ≡ older
  same_older x y image adds =
      ap (λ (ns : List ℕ). map segment (filter (λ n. nat_lt n number) ns)) (adds_numbers number (payload_bytes state) x y adds ∙ names_numbers a.files x (lawful.same_names tells x image)) ∙ sym are

  with_added : (y : Files) → b.images y → StepOf Added a.images y
  with_added y image = let from = added y image in record { before = from.before; was = from.was; stepped = (from.was, from.stepped) }

  taken : (x y z : Files) → Added x y → MayTakeAway older y z → Saves state x z
  taken x y z from takes = swept_saves number state is x y z (none_in x from.0) from.1 (subst (λ (names : List FileName). MayTakeAway names y z) (sym (same_older x y from.0 from.1)) takes)

  taken_else : (x y z : Files) → Added x y → MayTakeAway older y z → ElseStays x z
  taken_else x y z from takes =
      else_then x y z (else_others number x y (from.1).others) (else_taken (numbers_below number y) y z (subst (λ (names : List FileName). MayTakeAway names y z) (sym (same_older x y from.0 from.1)) takes))

  -- a sweep behind it
  pub swept_may : (c : DiskState) → Elapses (MaySave state) a b → Elapses (MayTakeAway older) b c → Elapses (MaySave state) a c
  swept_may c one two = elapses_from a b c (λ x y z from takes. record { last = λ l h. inr (taken x y z from takes l h); others = taken_else x y z from takes }) one with_added two

  pub swept_images : (c : DiskState) → Elapses (MayTakeAway older) b c → (z : Files) → c.images z → StepOf (Saves state) a.images z
  swept_images c goes z image =
      let step = goes.images z image in
      let from = with_added step.before step.was in
      record { before = from.before; was = from.was; stepped = taken from.before step.before z from.stepped step.stepped }

  -- the segments below the log's, for reads
  pub read_older : IsLawfulDisk b → b.tells ≡ true → segments_below number b.files ≡ older
  read_older lawful_b told =
      let from = added b.files (lawful_b.read_is_image told) in
      same_older from.before b.files from.was from.stepped

  -- where those are gone, the log's is left alone
  swept_alone : (y z : Files) → b.images y → z ≡ without_files older y → numbers z ≡ number ∷ []
  swept_alone y z image is_z =
      let from = added y image in
      let adds = from.stepped in
      let own = adds.after in
      swept_numbers number y z own.file (λ n lt. adds.others (segment n) (apart_names n number (λ e. omega (arith, lt, e))) ∙ none_in from.before from.was n lt) own.there
      (is_z ∙ ap (λ (names : List FileName). without_files names y) (sym (same_older from.before y from.was adds)))

  pub swept_reads : (c : DiskState) → IsLawfulDisk b → b.tells ≡ true → Becomes (without_files older) b c → numbers c.files ≡ number ∷ []
  swept_reads c lawful_b told becomes = swept_alone b.files c.files (lawful_b.read_is_image told) becomes.files

  pub swept_stops : (c : DiskState) → Becomes (without_files older) b c → (z : Files) → c.images z → numbers z ≡ number ∷ []
  swept_stops c becomes z image = let step = becomes.images z image in swept_alone step.before z step.was step.stepped
