-- Calls of a log as steps of what the files hold.
use Rattle.std.proofs.Common.{◌≡◌, inl, ℕ, ◌+◌, ◌<◌, ◌≤◌, max, true, Option, None, List, [], ◌∷◌, length, refl, sym, ap, subst, ◌∙◌, arith, Result, Ok, Err}
use Rattle.std.specs.Prelude.{⊤, IsErr, IsErrAnd, IsErrOf, IfOk, OnOk}
use Rattle.m3_outside.specs.Causes.{CountsFaults}
use Rattle.m3_outside.specs.Files.{Files, files_with_zeros}
use Rattle.m3_outside.specs.DiskState.{Becomes, DiskState, Told, EachImage, StepOf, Elapses, IsLawfulDisk}
use Rattle.m3_outside.specs.declared.disk_err.DiskErr.{DiskErr}
use Rattle.m3_outside.specs.declared.disk_err.DiskErr.TheVariants.{Memory, Failed as DiskFailed}
use Rattle.m3_outside.proofs.Moments.{step_as, elapses_as, elapses_then}
use Rattle.joined_reads.specs.listed_volumes.commit_log.Segment.{segment, MayAdd, Adds}
use Rattle.joined_reads.specs.listed_volumes.commit_log.LogEnd.{LogEnd, NoneAbove, NoneFrom, LogEndStands, MayBeginSegment}
use Rattle.joined_reads.specs.listed_volumes.shard_files.declared.entries.LogEntry.{LogEntry}
use Rattle.joined_reads.specs.listed_volumes.shard_files.Entries.{IsEntry}
use Rattle.joined_reads.specs.listed_volumes.commit_log.Contents.{numbers}
use Rattle.joined_reads.specs.listed_volumes.shard_files.Parts.{IsNewestNumber, KnownVolume}
use Rattle.joined_reads.specs.listed_volumes.shard_files.Gains.{Gain, nothing, Gains, MayGain, Brings}
use Rattle.joined_reads.specs.listed_volumes.shard_files.LogSteps.{gain_in}
use Rattle.joined_reads.specs.listed_volumes.block_buffer.Held.{InMemory}
use Rattle.m3_model.specs.Contents.{Contents, raised}
use Rattle.m3_model.specs.declared.limits.TheConstants.{NUMBER_END}
use Rattle.m3_model.specs.declared.point.Key.{Key}
use Rattle.joined_reads.specs.listed_volumes.shard_files.declared.entries.LogEntry.TheVariants as entry
use Rattle.store_log.specs.Kept.{IsKeptOn, memory_with}
use Rattle.joined_reads.specs.listed_volumes.wire_bytes.Entries.{IsBounded, ArePoints}
use Rattle.m3_model.specs.Members.{IsIn}
use Rattle.m3_model.specs.declared.point.Point.{Point}
use Rattle.joined_reads.proofs.listed_volumes_proofs.shard_files_proofs.GainLemmas.{gains_nothing, all_is_part, nothing_is_part, nothing_then_all, nothing_then_part}
use Rattle.joined_reads.specs.listed_volumes.shard_files.HeldEntries.{tenure_in, fence_in}
use Rattle.joined_reads.proofs.listed_volumes_proofs.shard_files_proofs.HeldLemmas.{tenure_is_fence}
use Rattle.joined_reads.proofs.listed_volumes_proofs.shard_files_proofs.FilesHoldLemmas.{append_brings}
use Rattle.snapshot_steps.specs.Counts.{AreCounted, StayCounted}
use Rattle.snapshot_steps.proofs.LogCounts.{counted_made}
use Rattle.snapshot_steps.specs.volume_steps.Known.{HoldsKnown}
use Rattle.store_log.proofs.KeptLemmas.{there_already}
use Rattle.snapshot_steps.proofs.volume_steps_proofs.LogLemmas.{log_steps_keep}

-- no image has a segment above the log's end
pub above_all : (log : LogEnd) (d : DiskState) → IsLawfulDisk d → LogEndStands log d → d.tells ≡ true → (c : Files) → d.images c → NoneAbove log.number c
above_all log d lawful stands tells c image n lt = (lawful.same_names tells c image (segment n)).0 (stands.above tells n lt)

-- what each image keeps, a step on
pub kept_as : {step : Files → Files → Type 0} {P Q : Files → Type 0} (old new : DiskState) → new.tells ≡ old.tells → (old.tells ≡ true → (x y : Files) → old.images x → step x y → P x → Q y)
    → (old.tells ≡ true → (c : Files) → new.images c → StepOf step old.images c) → EachImage old P → EachImage new Q
kept_as old new same keeps steps each tells c image =
    let told = sym same ∙ tells in
    let step = steps told c image in
    keeps told step.before c step.was step.stepped (each told step.before step.was)

-- the log's next segment isn't there, and none above
none_next : (log : LogEnd) (d : DiskState) → IsLawfulDisk d → LogEndStands log d → d.tells ≡ true → (x : Files) → d.images x → NoneFrom (log.number + 1) x
none_next log d lawful stands tells x image n le = above_all log d lawful stands tells x image n (omega (arith, le))

-- what is in memory is what each stop leaves still, where a segment begins
pub kept_by_begin : (number : ℕ) (log end : LogEnd) (memory : InMemory) (known : List KnownVolume) (tenure fence : ℕ) (old new : DiskState) → new.tells ≡ old.tells → LogEndStands end new → (old.tells ≡ true → (x : Files) → old.images x → NoneFrom number x)
    → (old.tells ≡ true → Elapses (MayBeginSegment number) old new) → IsKeptOn log memory known tenure fence old → IsKeptOn end memory known tenure fence new
kept_by_begin number log end memory known tenure fence old new same stands none goes kept = record {
  stands = stands;
  exact = kept_as old new same (λ told x y image may has. log_steps_keep.begins number memory.points known tenure fence x y (none told x image) may has) (λ told. (goes told).images) kept.exact;
  at_rest = kept.at_rest;
  order = kept.order;
}

pub kept_by_ready : (log end : LogEnd) (memory : InMemory) (known : List KnownVolume) (tenure fence : ℕ) (old new : DiskState) → IsLawfulDisk old → LogEndStands log old → new.tells ≡ old.tells → LogEndStands end new → (old.tells ≡ true → Elapses (MayBeginSegment (log.number + 1)) old new)
    → IsKeptOn log memory known tenure fence old → IsKeptOn end memory known tenure fence new
kept_by_ready log end memory known tenure fence old new lawful stood same stands goes kept = kept_by_begin (log.number + 1) log end memory known tenure fence old new same stands (none_next log old lawful stood) goes kept

-- and where an entry is added
pub kept_by_entry : {X E : Type 0} (r : Result X E) (e : LogEntry) (bytes : List ℕ) → IsEntry bytes e → (log end : LogEnd) (memory : InMemory) (known : List KnownVolume) (tenure fence : ℕ) (old new : DiskState) → IsLawfulDisk old → LogEndStands log old → new.tells ≡ old.tells → LogEndStands end new
    → (old.tells ≡ true → OnOk r ((c : Files) → new.images c → StepOf (Adds (segment log.number) bytes) old.images c)) → IsKeptOn log memory known tenure fence old
    → OnOk r (IsKeptOn end (memory_with e memory) known (max tenure (tenure_in e)) (max fence (fence_in e)) new)
kept_by_entry (Ok x) e bytes is log end memory known tenure fence old new lawful stood same stands steps kept = record {
  stands = stands;
  exact = kept_as old new same (λ told x y image adds has. log_steps_keep.adds e bytes log.number memory.points known tenure fence x y is (above_all log old lawful stood told x image) adds has) steps kept.exact;
  at_rest = kept.at_rest;
  order = let up = tenure_is_fence e in omega (arith, kept.order, up);
}
kept_by_entry (Err x) e bytes is log end memory known tenure fence old new lawful stood same stands steps kept = tt

-- a segment that may begin
module _ (log : LogEnd) (old new : DiskState) (lawful : IsLawfulDisk old) (stands : LogEndStands log old) where
  pub begin_elapses : old.tells ≡ true → Elapses (MayBeginSegment (log.number + 1)) old new → Elapses (Gains nothing) old new
  begin_elapses tells goes = elapses_as old new (λ x y image may.
      append_brings.begins (log.number + 1) x y (λ n le. above_all log old lawful stands tells x image n (omega (arith, le))) may) goes

-- an entry that may be added
module _ (log : LogEnd) (old new : DiskState) (lawful : IsLawfulDisk old) (stands : LogEndStands log old) (bytes : List ℕ) (e : LogEntry) (is : IsEntry bytes e) where
  pub append_elapses : old.tells ≡ true → Elapses (MayAdd (segment log.number) bytes) old new → Elapses (MayGain (gain_in e)) old new
  append_elapses tells goes = elapses_as old new (λ x y image may. append_brings.part e bytes log.number x y is (above_all log old lawful stands tells x image) may) goes

  pub append_added : old.tells ≡ true → ((c : Files) → new.images c → StepOf (Adds (segment log.number) bytes) old.images c) → (c : Files) → new.images c → StepOf (Gains (gain_in e)) old.images c
  append_added tells steps c image = step_as (λ x y was adds. append_brings.all e bytes log.number x y is (above_all log old lawful stands tells x was) adds) c (steps c image)

-- first a call that brings nothing, and then one that brings something
module _ (gain : Gain) (a b c : DiskState) (one : a.tells ≡ true → Elapses (Gains nothing) a b) (same : b.tells ≡ a.tells) where
  pub after_nothing : (a.tells ≡ true → Elapses (MayGain gain) b c) → a.tells ≡ true → Elapses (MayGain gain) a c
  after_nothing two tells = elapses_then a b c (λ x y image gains. nothing_is_part gain x y gains) (λ x y z image gains image1 may. nothing_then_part gain x y z gains may) (one tells) (two tells)

  pub steps_after_nothing : a.tells ≡ true → ((z : Files) → c.images z → StepOf (Gains gain) b.images z) → (z : Files) → c.images z → StepOf (Gains gain) a.images z
  steps_after_nothing tells steps z image =
      let last = steps z image in
      let first = (one tells).images last.before last.was in
      record { before = first.before; was = first.was; stepped = nothing_then_all gain first.before last.before z first.stepped last.stepped }

-- a call that brought nothing, also to a call that might have brought something
pub brings_nothing : (gain : Gain) (r : Result ⊤ DiskErr) (e : DiskErr) (a b : DiskState) → r ≡ Err e → (a.tells ≡ true → Elapses (Gains nothing) a b) → b.tells ≡ a.tells → CountsFaults (IsErrOf r DiskFailed) a.faults b.faults → Brings gain r a b
brings_nothing gain r e a b is one same faults = record {
  any_moment = λ tells. elapses_as a b (λ x y image gains. nothing_is_part gain x y gains) (one tells);
  acknowledged = λ tells. subst (λ (q : Result ⊤ DiskErr). OnOk q ((c : Files) → b.images c → StepOf (Gains gain) a.images c)) (sym is) tt;
  unchanged = λ tells memory. (one tells).images;
  tells = same;
  faults = faults;
}

pub on_ok_as : {X E P Q : Type 0} (r : Result X E) → (P → Q) → OnOk r P → OnOk r Q
on_ok_as (Ok x) to p = to p
on_ok_as (Err e) to p = tt

-- the one error that there is
pub err_is : {X E : Type 0} (r : Result X E) (e : E) → IsErr r × IsErrAnd r (λ x. x ≡ e) → r ≡ Err e
err_is (Ok x) e is = let no = is.0 in absurd (cc)
err_is (Err x) e is = ap Err is.1

-- what failed, but for no fault, failed for want of memory
pub want_else : (r : Result ⊤ DiskErr) (q : Result ℕ DiskErr) (e : DiskErr) → q ≡ Err e → r ≡ Err e → (IsErrOf r DiskFailed → ⊥) → IsErrOf q Memory
want_else r q Memory was is fine = was
want_else r q DiskFailed was is fine = absurd (fine is)

-- a fault that came after a call that brought nothing
pub brings_fault : (gain : Gain) (r : Result ⊤ DiskErr) (a c : DiskState) → r ≡ Err DiskFailed → (a.tells ≡ true → Elapses (MayGain gain) a c) → c.tells ≡ a.tells → CountsFaults ⊤ a.faults c.faults → Brings gain r a c
brings_fault gain r a c is goes same faults = record {
  any_moment = goes;
  acknowledged = λ tells. subst (λ (q : Result ⊤ DiskErr). OnOk q ((z : Files) → c.images z → StepOf (Gains gain) a.images z)) (sym is) tt;
  unchanged = λ tells memory. absurd (not_memory (subst (λ (q : Result ⊤ DiskErr). IsErrOf q Memory) is memory));
  tells = same;
  faults = record { later = faults.later; stays = faults.stays; rose = λ f. faults.rose tt };
}
  where
    not_memory : (let q : Result ⊤ DiskErr = Err DiskFailed in IsErrOf q Memory) → ⊥
    not_memory e = cc

pub brings_all : (gain : Gain) (u : ⊤) (a c : DiskState) → (a.tells ≡ true → Elapses (MayGain gain) a c) → (a.tells ≡ true → (z : Files) → c.images z → StepOf (Gains gain) a.images z) → c.tells ≡ a.tells → CountsFaults ⊥ a.faults c.faults → Brings gain (Ok u) a c
brings_all gain u a c goes steps same faults = record {
  any_moment = goes;
  acknowledged = λ tells. steps tells;
  unchanged = λ tells memory. absurd (cc);
  tells = same;
  faults = record { later = faults.later; stays = faults.stays; rose = λ f. absurd (cc) };
}

pub elapses_same : (step : Files → Files → Type 0) (a : DiskState) → ((x : Files) → a.images x → step x x) → Elapses step a a
elapses_same step a same = record { later = omega arith; images = λ c image. record { before = c; was = image; stepped = same c image }; nothing_else = λ t c le left. inl left; keeps = λ t c le left. left }

pub counts_same : (f : Type 0) (n : ℕ) → (f → ⊥) → CountsFaults f n n
counts_same f n never = record { later = omega arith; stays = λ e. e; rose = λ h. absurd (never h) }

pub not_failed : (let q : Result ⊤ DiskErr = Err Memory in IsErrOf q DiskFailed) → ⊥
not_failed e = cc

-- what no disk call was made for, since memory was wanted before
pub brings_none : (gain : Gain) (r : Result ⊤ DiskErr) (a : DiskState) → r ≡ Err Memory → Brings gain r a a
brings_none gain r a is =
    brings_nothing gain r Memory a a is (λ tells. elapses_same (Gains nothing) a (λ x image. gains_nothing x)) refl (counts_same (IsErrOf r DiskFailed) a.faults (λ h. not_failed (subst (λ (q : Result ⊤ DiskErr). IsErrOf q DiskFailed) is h)))

-- a number that the files have already
pub brings_there : (gain : Gain) (u : ⊤) (memory : Contents) (known : List KnownVolume) (tenure fence : ℕ) (a : DiskState) → EachImage a (HoldsKnown memory known tenure fence) → ((p : Point) → IsIn gain.points p → ⊥) → gain.tenure ≤ tenure → gain.fence ≤ fence
    → Brings gain (Ok u) a a
brings_there gain u memory known tenure fence a each none t f =
    let there = λ (tells : a.tells ≡ true) (x : Files) (image : a.images x). let has = each tells x image in there_already gain x has.points tenure fence has.held none t f in
    brings_all gain u a a (λ tells. elapses_same (MayGain gain) a (λ x image. all_is_part gain x x (there tells x image)))
    (λ tells z image. record { before = z; was = image; stepped = there tells z image }) refl (counts_same ⊥ a.faults (λ h. h))

-- the disk after an entry that was logged, where the caller hands its answer on
pub brings_as : (gain : Gain) (r q : Result ⊤ DiskErr) (a b : DiskState) → q ≡ r → Brings gain r a b → Brings gain q a b
brings_as gain r q a b same brings = subst (λ (x : Result ⊤ DiskErr). Brings gain x a b) (sym same) brings

pub kept_for : (log : LogEnd) (memory : InMemory) (known : List KnownVolume) (t f u g : ℕ) (d : DiskState) → t ≡ u → f ≡ g → IsKeptOn log memory known t f d → IsKeptOn log memory known u g d
kept_for log memory known t f u g d a b kept = subst (λ (n : ℕ). IsKeptOn log memory known n g d) a (subst (λ (n : ℕ). IsKeptOn log memory known t n d) b kept)

-- as the same volumes are known
pub kept_known : (log : LogEnd) (memory : InMemory) (ks js : List KnownVolume) (t f : ℕ) (d : DiskState) → ks ≡ js → IsKeptOn log memory ks t f d → IsKeptOn log memory js t f d
kept_known log memory ks js t f d same kept = subst (λ (l : List KnownVolume). IsKeptOn log memory l t f d) same kept

-- the entry of one point
pub one_bounded : (p : Point) → IsBounded p → ArePoints (p ∷ [])
one_bounded p bounded = record { some = omega arith; most = omega arith; bounded = (bounded, tt) }

-- a fresh segment, where no image has one of its number or above
pub fresh_elapses : (number : ℕ) (old new : DiskState) → IsLawfulDisk old → Told old (NoneFrom number) → old.tells ≡ true → Elapses (MayBeginSegment number) old new → Elapses (Gains nothing) old new
fresh_elapses number old new lawful none tells goes = elapses_as old new (λ x y image may. append_brings.begins number x y (λ n le. (lawful.same_names tells x image (segment n)).0 (none tells n le)) may) goes

pub begun_kept : (r : Result LogEnd DiskErr) (log : LogEnd) (memory : InMemory) (known : List KnownVolume) (tenure fence : ℕ) (d : DiskState) → IfOk r (λ end. end ≡ log) → OnOk r (LogEndStands log d)
    → EachImage d (HoldsKnown memory.points known tenure fence) → memory.room ≡ None → tenure ≤ fence → IfOk r (λ end. IsKeptOn end memory known tenure fence d)
begun_kept (Ok end) log memory known tenure fence d is stands exact at_rest order = record { stands = subst (λ l. LogEndStands l d) (sym is) stands; exact = exact; at_rest = at_rest; order = order }
begun_kept (Err e) log memory known tenure fence d is stands exact at_rest order = tt

-- each image holds what it held where a fresh segment begins
pub known_fresh : (number : ℕ) (memory : Contents) (known : List KnownVolume) (tenure fence : ℕ) (old new : DiskState) → IsLawfulDisk old → Told old (NoneFrom number) → new.tells ≡ old.tells → (old.tells ≡ true → Elapses (MayBeginSegment number) old new)
    → EachImage old (HoldsKnown memory known tenure fence) → EachImage new (HoldsKnown memory known tenure fence)
known_fresh number memory known tenure fence old new lawful none same goes each =
    kept_as old new same (λ told x y image may has. log_steps_keep.begins number memory known tenure fence x y (λ n le. (lawful.same_names told x image (segment n)).0 (none told n le)) may has) (λ told. (goes told).images) each

pub brings_nothing_more : (u : ⊤) (a c : DiskState) → (a.tells ≡ true → Elapses (Gains nothing) a c) → c.tells ≡ a.tells → CountsFaults ⊥ a.faults c.faults → Brings nothing (Ok u) a c
brings_nothing_more u a c goes same faults = brings_all nothing u a c (λ tells. elapses_as a c (λ x y image gains. all_is_part nothing x y gains) (goes tells)) (λ tells. (goes tells).images) same faults

-- the same error, handed on
pub err_to : {X Y E : Type 0} (r : Result X E) (q : Result Y E) (e d : E) → r ≡ Err e → q ≡ Err e → IsErrOf q d → IsErrOf r d
err_to {X} {Y} {E} r q e d was same f = was ∙ ap Err (err_same e d (sym same ∙ f))
  where
    err_same : (e d : E) → (let x : Result Y E = Err e in let y : Result Y E = Err d in x ≡ y) → e ≡ d
    err_same e d is = cc

-- an error that is no fault is want of memory
pub memory_else : {X Y : Type 0} (r : Result X DiskErr) (q : Result Y DiskErr) (e : DiskErr) → r ≡ Err e → q ≡ Err e → (IsErrOf q DiskFailed → ⊥) → IsErrOf r Memory
memory_else r q Memory was same fine = was
memory_else r q DiskFailed was same fine = absurd (fine same)

-- what is in memory with a point put into it
pub memory_put : (memory room now : InMemory) (p : Point) (k : Option Key) → memory.room ≡ None → room ≡ record { points = memory.points; room = k } → now ≡ record { points = raised room.points p; room = None }
    → memory_with (entry.Points (p ∷ [])) memory ≡ now
memory_put memory room now p k at_rest roomed is =
    let first : memory_with (entry.Points (p ∷ [])) memory ≡ record { points = raised memory.points p; room = None } = ap (λ (o : Option Key). let m : InMemory = record { points = raised memory.points p; room = o } in m) at_rest in
    let last : now ≡ record { points = raised memory.points p; room = None } = is ∙ ap (λ (m : InMemory). let n : InMemory = record { points = raised m.points p; room = None } in n) roomed in
    first ∙ sym last

-- ---- what is counted

-- where the log went on
pub counted_on : (log end : LogEnd) (missing snapshot : ℕ) (a b : DiskState) → b.tells ≡ a.tells → (a.tells ≡ true → StayCounted log end a.files b.files) → Told a (AreCounted log missing snapshot) → Told b (AreCounted end missing snapshot)
counted_on log end missing snapshot a b same stays has tells = let was = sym same ∙ tells in stays was missing snapshot (has was)

pub begun_counted : (r : Result LogEnd DiskErr) (number missing snapshot : ℕ) (old new : DiskState) → new.tells ≡ old.tells → Told old (NoneFrom number) → IfOk r (λ log. log ≡ record { number = number; at = 0; clean = true }) → OnOk r (number < NUMBER_END)
    → (old.tells ≡ true → OnOk r (Becomes (files_with_zeros (segment number) 65536) old new)) → Told old (λ files. (length (numbers files) + missing ≡ number) × IsNewestNumber snapshot files) → IfOk r (λ log. Told new (AreCounted log missing snapshot))
begun_counted (Ok log) number missing snapshot old new same none is limit made counts = λ tells.
    let was = sym same ∙ tells in
    let here = ap (λ (l : LogEnd). l.number) is in
    counted_made number old.files new.files (none was) (made was).files log missing snapshot here (subst (λ (n : ℕ). n < NUMBER_END) (sym here) limit) (counts was).0 (counts was).1
begun_counted (Err e) number missing snapshot old new same none is limit made counts = tt

-- ---- counts of faults

-- two counts, one after the other
pub counts_both : (f g : Type 0) (a b c : ℕ) → CountsFaults f a b → CountsFaults g b c → CountsFaults g a c
counts_both f g a b c one two = record { later = omega (arith, one.later, two.later); stays = λ e. two.stays (one.stays e); rose = λ h. let r = two.rose h in omega (arith, one.later, r) }

pub counts_for : (f g : Type 0) (a b : ℕ) → (g → f) → CountsFaults f a b → CountsFaults g a b
counts_for f g a b to one = record { later = one.later; stays = one.stays; rose = λ h. one.rose (to h) }
