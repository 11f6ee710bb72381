-- Empty disks stand for the empty life, a stop leaves disks standing, what is promised of every run is promised of a first one, and a life of runs is kept.
use Rattle.std.proofs.Common.{◌≡◌, ℕ, List, [], ◌∷◌, ◌++◌, map, append-nil, append_assoc, refl, sym, ap, subst, ◌∙◌, arith, inl, true, false}
use Rattle.std.specs.Prelude.{None}
use Rattle.std.specs.FinMap.{empty, entries, len-empty, len-entries}
use Rattle.std.proofs.lemmas.List.{nil_from_length}
use Rattle.std.proofs.lemmas.List.Elements.{All-nil}
use Rattle.m3_model.specs.Members.{IsIn}
use Rattle.m3_model.specs.declared.point.Point.{Point}
use Rattle.m3_outside.specs.DiskState.{DiskState, IsEmpty}
use Rattle.m3_outside.specs.Files.{Files, name_cmp}
use Rattle.m3_outside.specs.Slots.{Held, Here, MayGive, Out, Unused}
use Rattle.m3_outside.specs.declared.file_name.FileName.{FileName}
use Rattle.m3_outside.specs.declared.slot.DiskSlot.{DiskSlot}
use Rattle.commit_log.specs.Contents.{PartsHold, numbers, numbers_of}
use Rattle.shard_files.specs.FilesHold.{HoldWhole}
use Rattle.shard_files.proofs.FilesHoldLemmas.{no_files_hold_whole_nothing}
use Rattle.placement_log.proofs.LastLemmas.{last_is_one}
use Rattle.placement_log.specs.MetaHolds.{MetaHolds}
use Rattle.transcripts.specs.Record.{Record}
use Rattle.life_ends.specs.Lies.{MayLie}
use Rattle.saved_cluster.specs.first_cluster.Depots.{meta_slot}
use Rattle.m3_program.specs.Faults.{IsUnwritten}
use Rattle.m3_program.specs.LifeLaws.{EmptyDisksStand, FirstFoundNone, FirstRunIsOne, MadeRun, NoRunsLeaveNothing, RunsKeep, RunsLeaveStanding, StopsLeaveStanding, WereMade, record_made}
use Rattle.m3_program.specs.Lives.{StandFor, replica_slot}

-- no files hold no state
no_segments : numbers empty ≡ []
no_segments =
    let none : entries (empty {X = List ℕ} {R = name_cmp}) ≡ [] = nil_from_length _ (sym (len-entries _) ∙ len-empty name_cmp (List ℕ)) in
    ap (λ (es : List (FileName × List ℕ)). numbers_of (map (λ (e : FileName × List ℕ). e.0) es)) none

none_held : MetaHolds None empty
none_held = record { states = []; are = All-nil _; log = subst (λ (ns : List ℕ). PartsHold ns empty []) (sym no_segments) refl; last_is = refl }

-- an empty disk leaves no files
nothing_lies : {D : Type 0} (state : D → DiskState) → ((d : D) → (state d).tells ≡ true) → (held : Held D) → IsUnwritten state held → (files : Files) → MayLie state held files → files ≡ empty
nothing_lies state tell Unused none files lies = lies
nothing_lies state tell (Here disk) none files lies = none.images (tell disk) files lies
nothing_lies state tell Out none files lies = lies

pub empty_disks_stand : {D : Type 0} (state : D → DiskState) → EmptyDisksStand state
empty_disks_stand state held none = record {
  tell = none.tell;
  each = λ files lie.
      let nothing = λ (slot : DiskSlot). nothing_lies state none.tell (held slot) (none.unwritten slot) (files slot) (lie slot) in
      record {
        state = None;
        last = subst (MetaHolds None) (sym (nothing meta_slot)) none_held;
        follows = refl;
        held = λ n s. [];
        slots = λ n s away. record { tenure = 0; fence = 0; whole = subst (HoldWhole [] 0 0) (sym (nothing (replica_slot n s))) no_files_hold_whole_nothing; low = (refl, omega arith, omega arith) };
        none = λ n s same. refl;
        stands = record { acked = λ turn among nodes is. absurd among; sent = λ n s point among. absurd among };
      };
}

pub stops_leave_standing : {D : Type 0} (state : D → DiskState) → StopsLeaveStanding state
stops_leave_standing state past held next fewer stands = record { tell = stands.tell; each = λ files lie. stands.each files (λ slot. fewer slot (files slot) (lie slot)) }

-- ---- files that stand for no run, or for one

pub no_runs_leave_nothing : NoRunsLeaveNothing
no_runs_leave_nothing files f = (sym f.follows, λ n s. by n s (f.held n s) refl)
  where
    by : (n s : ℕ) (points : List Point) → f.held n s ≡ points → points ≡ []
    by n s [] is = refl
    by n s (x ∷ xs) is = absurd (f.stands.sent n s x (subst (λ ps. IsIn ps x) (sym is) (inl refl))).among

pub first_found_none : FirstFoundNone
first_found_none run files f = f.follows.0

-- ---- a first run

-- a slot that is empty gives an empty disk
gives_empty : {D : Type 0} (state : D → DiskState) (held : Held D) (disk : D) → IsUnwritten state held → MayGive (λ d. IsEmpty (state d)) held disk → IsEmpty (state disk)
gives_empty state Unused disk none given = given
gives_empty state (Here there) disk none given = subst (λ d. IsEmpty (state d)) (sym given) none
gives_empty state Out disk none given = absurd given

pub first_run_is_one : {D : Type 0} (state : D → DiskState) → FirstRunIsOne state
first_run_is_one {D} state first now start ended input left written run = record {
  none_found = λ none.
      let clean = gives_empty state (first.held meta_slot) (run.found).disk (none.unwritten meta_slot) ((run.found).is_meta).given in
      let told = none.tell (run.found).disk in
      last_is_one start None empty (subst (MetaHolds start) (clean.files told) ((run.found).last told)) none_held;
  ran = run.ran;
  kept = λ none. run.kept [] (empty_disks_stand state first.held none);
  joined = run.joined [];
  causes = λ none. run.causes true [] (λ is. empty_disks_stand state first.held none);
  leaves = λ none. run.leaves [] (empty_disks_stand state first.held none);
  untold = run.causes false [] (λ is. absurd (let clash : false ≡ true = is in cc));
}

-- ---- a life of runs

runs_leave : {D : Type 0} (state : D → DiskState) (held now : DiskSlot → Held D) (past : List Record) (runs : List (MadeRun state)) → StandFor state past held → WereMade state held runs now → StandFor state (past ++ map record_made runs) now
runs_leave state held now past [] stand less = subst (λ rs. StandFor state rs now) (sym (append-nil past)) (stops_leave_standing state past held now less stand)
runs_leave state held now past (run ∷ runs) stand (less, rest) =
    let left = (run.did).leaves past (stops_leave_standing state past held run.first.held less stand) in
    subst (λ rs. StandFor state rs now) (append_assoc past (record_made run ∷ []) (map record_made runs)) (runs_leave state run.now.held now (past ++ record_made run ∷ []) runs left rest)

pub runs_leave_standing : {D : Type 0} (state : D → DiskState) → RunsLeaveStanding state
runs_leave_standing state held now runs none made = runs_leave state held now [] runs (empty_disks_stand state held none) made

pub runs_keep : {D : Type 0} (state : D → DiskState) → RunsKeep state
runs_keep state held runs run none made =
    let stand = runs_leave_standing state held run.first.held runs none made in ((run.did).kept (map record_made runs) stand, (run.did).causes true (map record_made runs) (λ is. stand))
