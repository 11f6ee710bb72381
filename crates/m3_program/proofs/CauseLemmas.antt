-- A cause that lies later lies since the beginning.
use Rattle.std.proofs.Common.{◌≡◌, ℕ, ◌≤◌, List, inl, inr, refl, sym, ap, subst, ◌∙◌, arith}
use Rattle.std.specs.Option.{ok_or}
use Rattle.std.specs.Prelude.{◌⊎◌, Option, Some, None, Result, Ok, Err, IfErr, IsErrAnd, IsErrOf}
use Rattle.m3_outside.specs.Causes.{CountsFaults, Rose}
use Rattle.saved_cluster.specs.declared.lost.Lost.{Lost}
use Rattle.saved_cluster.specs.declared.lost.Lost.TheVariants as lost
use Rattle.m3_program.specs.Passing.{Outflow, Takes}
use Rattle.m3_program.specs.declared.status.Status.{Status}
use Rattle.m3_program.specs.declared.status.Status.TheVariants as status
use Rattle.command_words.specs.declared.task.Task.{Task}
use Rattle.command_words.specs.declared.task.Task.TheVariants as task
use Rattle.m3_program.specs.Causes.{EndsLine, EndsReading, EndsScript, EndsStep, EndsTask}
use Rattle.placement_log.specs.declared.open_err.OpenErr.{OpenErr}
use Rattle.placement_log.specs.declared.open_err.OpenErr.TheVariants as failures
use Rattle.m3_program.specs.Openings.{ended_by, ended_for}
use Rattle.m3_program.specs.Writing.{WritesUntil}

pub rose_earlier : (before mid now : ℕ) → before ≤ mid → Rose mid now → Rose before now
rose_earlier before mid now h r = omega arith

pub rose_still : (before mid now : ℕ) → Rose before mid → mid ≤ now → Rose before now
rose_still before mid now r h = omega arith

-- ---- the sink

-- it failed or took nothing
pub sink_ends : (s : Status) (a b x y m n : ℕ) → s ≡ status.WriteFault → Rose a b ⊎ Rose x y → EndsLine s a b x y m n
sink_ends s a b x y m n is rose = subst (λ t. EndsLine t a b x y m n) (sym is) rose

pub sink_ends_script : (s : Status) (a b x y m n : ℕ) → s ≡ status.WriteFault → Rose a b ⊎ Rose x y → EndsScript s a b x y m n
sink_ends_script s a b x y m n is rose = subst (λ t. EndsScript t a b x y m n) (sym is) rose

-- ---- the meta disk

-- the run can't go on
pub lost_ends : (why : Lost) (a b x y m n : ℕ) → (why ≡ lost.Meta → Rose m n) → EndsLine (ended_for why) a b x y m n
lost_ends lost.Meta a b x y m n rose = rose refl
lost_ends lost.Memory a b x y m n rose = tt

pub lost_ends_script : (why : Lost) (a b x y m n : ℕ) → (why ≡ lost.Meta → Rose m n) → EndsScript (ended_for why) a b x y m n
lost_ends_script lost.Meta a b x y m n rose = rose refl
lost_ends_script lost.Memory a b x y m n rose = tt

-- it failed where the run ends so
pub meta_lost : (why : Lost) → ended_for why ≡ status.DiskFault → why ≡ lost.Meta
meta_lost lost.Meta is = refl
meta_lost lost.Memory is = cc

-- and it didn't where memory was wanted
pub wanted_no_meta : {T : Type 0} (r : Result T Lost) → IfErr r (λ e. e ≡ lost.Memory) → IsErrOf r lost.Meta → ⊥
wanted_no_meta (Ok x) want is = cc
wanted_no_meta {T} (Err e) want is =
    let wanted : e ≡ lost.Memory = want in
    let failed : ◌≡◌ {A = Result T Lost} (Err e) (Err lost.Meta) = is in
    cc

-- as it was where this gave none
pub none_is_want : {T : Type 0} (o : Option T) → IfErr (ok_or o lost.Memory) (λ e. e ≡ lost.Memory)
none_is_want None = refl
none_is_want (Some x) = tt

-- nor where a result that isn't so was passed on
pub passed_no_meta : {T U : Type 0} (r : Result T Lost) (q : Result U Lost) (x : Lost) → q ≡ Err x → IsErrAnd r (λ e. e ≡ x) → (IsErrOf q lost.Meta → ⊥) → IsErrOf r lost.Meta → ⊥
passed_no_meta (Ok t) q x was is never failed = absurd is
passed_no_meta {T} {U} (Err y) q x was is never failed =
    let same : y ≡ x = is in
    let meta : ◌≡◌ {A = Result T Lost} (Err y) (Err lost.Meta) = failed in
    let which : y ≡ lost.Meta = cc in
    never (was ∙ ap Err (sym same ∙ which))

-- nor where the sink failed
pub sink_no_meta : (s : Status) → s ≡ status.WriteFault → s ≡ status.DiskFault → ⊥
sink_no_meta s by is = cc

-- all was written before
pub lost_writes : (why : Lost) (sink : Outflow) (bytes : List ℕ) (sink2 : Outflow) → Takes sink sink2 bytes → WritesUntil (ended_for why) sink bytes sink2
lost_writes lost.Meta sink bytes sink2 wrote = wrote
lost_writes lost.Memory sink bytes sink2 wrote = wrote

-- ---- since the beginning

pub ends_earlier : (s : Status) (a b c x y z m n k : ℕ) → a ≤ b → x ≤ y → m ≤ n → EndsLine s b c y z n k → EndsLine s a c x z m k
ends_earlier status.WriteFault a b c x y z m n k h i j e = elim e as (λ _. Rose a c ⊎ Rose x z) [ inl f ↦ inl (rose_earlier a b c h f) | inr t ↦ inr (rose_earlier x y z i t) ]
ends_earlier status.DiskFault a b c x y z m n k h i j e = rose_earlier m n k j e
ends_earlier status.Memory a b c x y z m n k h i j e = tt
ends_earlier _ a b c x y z m n k h i j e = absurd e

-- no step that failed ends a run as done
pub step_not_done : (s : Status) (p q a b x y m n : ℕ) → EndsStep s p q a b x y m n → s ≡ status.Done → ⊥
step_not_done status.ReadFault p q a b x y m n e is = cc
step_not_done status.WriteFault p q a b x y m n e is = cc
step_not_done status.DiskFault p q a b x y m n e is = cc
step_not_done status.Memory p q a b x y m n e is = cc
step_not_done _ p q a b x y m n e is = absurd e

-- nor does a cluster that wasn't opened
pub opening_not_done : (why : OpenErr) → ended_by why ≡ status.Done → ⊥
opening_not_done failures.Disk is = cc
opening_not_done failures.Memory is = cc
opening_not_done (failures.Digest number kept found) is = cc
opening_not_done (failures.Form number at) is = cc

-- a failed source ends no line
pub line_no_read : (s : Status) (a b x y m n : ℕ) → EndsLine s a b x y m n → s ≡ status.ReadFault → ⊥
line_no_read status.WriteFault a b x y m n e is = cc
line_no_read status.DiskFault a b x y m n e is = cc
line_no_read status.Memory a b x y m n e is = cc
line_no_read _ a b x y m n e is = absurd e

-- what ends a line ends a step
pub line_ends_step : (s : Status) (p q a b x y m n : ℕ) → EndsLine s a b x y m n → EndsStep s p q a b x y m n
line_ends_step status.WriteFault p q a b x y m n e = e
line_ends_step status.DiskFault p q a b x y m n e = e
line_ends_step status.Memory p q a b x y m n e = tt
line_ends_step _ p q a b x y m n e = absurd e

-- what ends a step ends the run, also where the counts were lower when it began
pub step_ends_run : (s : Status) (p0 p q a0 a b x0 x y m0 m n : ℕ) → p0 ≤ p → a0 ≤ a → x0 ≤ x → m0 ≤ m → EndsStep s p q a b x y m n → EndsReading s p0 q a0 b x0 y m0 n
step_ends_run status.ReadFault p0 p q a0 a b x0 x y m0 m n h i j k e = rose_earlier p0 p q h e
step_ends_run status.WriteFault p0 p q a0 a b x0 x y m0 m n h i j k e = elim e as (λ _. Rose a0 b ⊎ Rose x0 y) [ inl f ↦ inl (rose_earlier a0 a b i f) | inr t ↦ inr (rose_earlier x0 x y j t) ]
step_ends_run status.DiskFault p0 p q a0 a b x0 x y m0 m n h i j k e = rose_earlier m0 m n k e
step_ends_run status.Memory p0 p q a0 a b x0 x y m0 m n h i j k e = tt
step_ends_run _ p0 p q a0 a b x0 x y m0 m n h i j k e = absurd e

-- the meta disk's count was no higher when the cluster was opened
pub reading_earlier : (s : Status) (p q a b x y m0 m n : ℕ) → m0 ≤ m → EndsReading s p q a b x y m n → EndsReading s p q a b x y m0 n
reading_earlier status.Done p q a b x y m0 m n h e = tt
reading_earlier status.TooLong p q a b x y m0 m n h e = tt
reading_earlier status.ReadFault p q a b x y m0 m n h e = e
reading_earlier status.WriteFault p q a b x y m0 m n h e = e
reading_earlier status.DiskFault p q a b x y m0 m n h e = rose_earlier m0 m n h e
reading_earlier status.Memory p q a b x y m0 m n h e = tt
reading_earlier _ p q a b x y m0 m n h e = absurd e

pub script_earlier : (s : Status) (a b x y m0 m n : ℕ) → m0 ≤ m → EndsScript s a b x y m n → EndsScript s a b x y m0 n
script_earlier status.Done a b x y m0 m n h e = tt
script_earlier status.WriteFault a b x y m0 m n h e = e
script_earlier status.DiskFault a b x y m0 m n h e = rose_earlier m0 m n h e
script_earlier status.Memory a b x y m0 m n h e = tt
script_earlier _ a b x y m0 m n h e = absurd e

-- ---- want of memory

-- the meta disk wasn't asked
pub counts_none : (n : ℕ) → CountsFaults ⊥ n n
counts_none n = record { later = omega arith; stays = λ e. e; rose = λ never. absurd never }

-- an error is want of memory alone
pub counts_wanted : {T : Type 0} (A : Type 0) (r : Result T Lost) (m n : ℕ) → CountsFaults A m n → IfErr r (λ e. e ≡ lost.Memory) → CountsFaults (IsErrOf r lost.Meta) m n
counts_wanted A r m n counts want = record { later = counts.later; stays = counts.stays; rose = λ is. absurd (other r want is) }
  where
    other : {U : Type 0} (x : Result U Lost) → IfErr x (λ e. e ≡ lost.Memory) → IsErrOf x lost.Meta → ⊥
    other (Ok y) want is = cc
    other (Err e) want is = cc

-- memory may always be wanted
pub memory_ends : (t : Option Task) (Unopened : Type 0) (p q a b x y m n : ℕ) → EndsTask t status.Memory Unopened p q a b x y m n
memory_ends None Unopened p q a b x y m n = tt
memory_ends (Some task.Run) Unopened p q a b x y m n = inr tt
memory_ends (Some (task.Generate number)) Unopened p q a b x y m n = inr tt
