-- What each call of the meta disk's log leaves.
use Rattle.std.proofs.Common.{◌≡◌, ◌⊎◌, inl, inr, ⊎_elim, ℕ, ◌+◌, ◌-◌, ◌≤◌, List, length, map, true, Option, Some, None, Result, Ok, Err, sym, ap, subst, ◌∙◌, arith}
use Rattle.std.specs.Prelude.{⊤, OnOk}
use Rattle.std.specs.FinMap.{get}
use Rattle.m3_model.specs.declared.limits.TheConstants.{NUMBER_END}
use Rattle.m3_model.specs.declared.rules.MetaState.{MetaState}
use Rattle.m3_outside.specs.declared.file_name.FileName.{FileName}
use Rattle.m3_outside.specs.Files.{Files, files_with_zeros}
use Rattle.m3_outside.specs.DiskState.{DiskState, Told, StepOf, Elapses, Becomes, IsLawfulDisk}
use Rattle.m3_outside.specs.DiskCalls.{LeavesFiles}
use Rattle.m3_outside.specs.Removal.{without_files, MayTakeAway, HasTakenAway, AreRemovable}
use Rattle.m3_outside.proofs.Names.{get_apart}
use Rattle.commit_log.specs.Contents.{numbers}
use Rattle.commit_log.specs.Cutting.{segments_below}
use Rattle.commit_log.specs.LogEnd.{LogEnd, LogEndStands, IsReadyFor, NoneAbove, NoneFrom, MayBeginSegment, BeganOrNot}
use Rattle.commit_log.specs.Segment.{segment, MayAdd, Adds}
use Rattle.commit_log.proofs.CutLaws.{stands_cut}
use Rattle.commit_log.proofs.CutLemmas.{below_removable}
use Rattle.commit_log.proofs.LogLemmas.{apart_names}
use Rattle.meta_bytes.specs.States.{IsMetaState}
use Rattle.placement_log.specs.States.{payload_bytes}
use Rattle.placement_log.specs.MetaHolds.{KeepsLast, MaySave, Saves, MetaEnd, LogStands, MetaStands, HasRoom, IsReadyToSave, Appended, Sweeps, all_but_last}
use Rattle.placement_log.proofs.DiskLemmas.{keeps_begun, above_before, meta_stays, begun_stands, ready_stays, older_of, appended_may, read_older, swept_may, swept_images, swept_reads, swept_stops}

-- ---- the first segment

pub none_begun : (m : MetaEnd) (d : DiskState) → m.log ≡ None → MetaStands m d → Told d (NoneFrom m.next)
none_begun m d is st = subst (λ (o : Option LogEnd). LogStands o m.next d) is st.log

pub begin_moment : (m : MetaEnd) (a b : DiskState) → IsLawfulDisk a → m.log ≡ None → MetaStands m a → a.tells ≡ true → Elapses (MayBeginSegment m.next) a b → Elapses KeepsLast a b
begin_moment m a b lawful is st tells goes = let some = st.some in keeps_begun (m.next - 1) m.next a b lawful tells (omega (arith, some)) (above_before m.next a some (none_begun m a is st)) goes

-- a begin that was refused for want of memory
pub unbegun_stands : (m : MetaEnd) (a b : DiskState) → m.log ≡ None → MetaStands m a → b.tells ≡ a.tells → (a.tells ≡ true → Becomes (λ files. files) a b) → MetaStands m b
unbegun_stands m a b is st same becomes = record {
  log = subst (λ (o : Option LogEnd). LogStands o m.next b) (sym is) (λ t. let told = sym same ∙ t in subst (NoneFrom m.next) (sym (becomes told).files) (none_begun m a is st told));
  some = st.some;
  few = st.few;
}

none_next : (number next : ℕ) (x y : Files) → next ≡ number + 1 → NoneFrom number x → (y ≡ x) ⊎ (y ≡ files_with_zeros (segment number) 65536 x) → NoneFrom next y
none_next number next x y e none (inl same) = λ n le. ap (λ (w : Files). get w (segment n)) same ∙ none n (omega (arith, e, le))
none_next number next x y e none (inr done) = λ n le. ap (λ (w : Files). get w (segment n)) done ∙ get_apart x (segment number) _ (segment n) (apart_names n number (λ s. omega (arith, s, e, le))) ∙ none n (omega (arith, e, le))

-- a begin that failed: the number isn't tried again
pub failed_stands : (m n : MetaEnd) (a b : DiskState) → m.log ≡ None → n.log ≡ None → n.next ≡ m.next + 1 → n.next ≤ NUMBER_END → MetaStands m a → b.tells ≡ a.tells → (a.tells ≡ true → BeganOrNot m.next a b) → MetaStands n b
failed_stands m n a b is is_n next few st same began = record {
  log = subst (λ (o : Option LogEnd). LogStands o n.next b) (sym is_n) (λ t.
      let told = sym same ∙ t in
      none_next m.next n.next a.files b.files next (none_begun m a is st told) (⊎_elim (λ (k : Becomes (λ files. files) a b). inl k.files) (λ (k : Becomes (files_with_zeros (segment m.next) 65536) a b). inr k.files) (began told)));
  some = let some = st.some in omega (arith, some, next);
  few = few;
}

-- ---- room for a chunk

pub end_stands : (m : MetaEnd) (end : LogEnd) (d : DiskState) → m.log ≡ Some end → MetaStands m d → LogEndStands end d
end_stands m end d is st = subst (λ (o : Option LogEnd). LogStands o m.next d) is st.log

pub next_moment : (end : LogEnd) (a b : DiskState) → IsLawfulDisk a → LogEndStands end a → a.tells ≡ true → Elapses (MayBeginSegment (end.number + 1)) a b → Elapses KeepsLast a b
next_moment end a b lawful st tells goes = keeps_begun end.number (end.number + 1) a b lawful tells (omega arith) st.above goes

pub has_room : {E : Type 0} (r : Result ⊤ E) (m : MetaEnd) (end : LogEnd) (n : ℕ) (d : DiskState) → m.log ≡ Some end → OnOk r (IsReadyFor end n d) → OnOk r (HasRoom m n d)
has_room (Ok u) m end n d is ready = record { end = end; begun = is; ready = ready }
has_room (Err e) m end n d is ready = tt

-- ---- all that a save takes

pub is_ready : (m out : MetaEnd) (state : MetaState) (n : ℕ) (b c d : DiskState) (f g : Type 0) → IsMetaState state → MetaStands m b → HasRoom m n b → out.next ≡ m.next → out.log ≡ m.log → out.payload ≡ payload_bytes state → n ≡ length out.payload
    → LeavesFiles f b c → (b.tells ≡ true → out.older ≡ map segment (all_but_last (numbers b.files))) → LeavesFiles g c d → 5 + length out.older ≤ d.spare → IsReadyToSave out state d
is_ready m out state n b c d f g is st room next log of_state long one names two spare =
    let stands = meta_stays m g c d two (meta_stays m f b c one st) in
    let end = room.end in
    let ready = ready_stays end n g c d two (ready_stays end n f b c one room.ready) in
    record {
      state_is = is;
      stands = record {
        log = subst (λ (o : Option LogEnd). LogStands o out.next d) (sym log) (subst (λ (k : ℕ). LogStands m.log k d) (sym next) stands.log);
        some = subst (λ (k : ℕ). 1 ≤ k) (sym next) stands.some;
        few = subst (λ (k : ℕ). k ≤ NUMBER_END) (sym next) stands.few;
      };
      end = end;
      begun = log ∙ room.begun;
      payload = of_state;
      ready = subst (λ (k : ℕ). IsReadyFor end k d) long ready;
      older = λ t.
          let told_c = sym two.proceeds.tells ∙ t in
          let told = sym one.proceeds.tells ∙ told_c in
          names told ∙ sym (older_of end n b room.ready told) ∙ sym (ap (segments_below end.number) (two.files told_c ∙ one.files told));
      room = spare;
    }

-- ---- an append

module _ (m : MetaEnd) (state : MetaState) (a : DiskState) (ready : IsReadyToSave m state a) (e : LogEnd) (is : m.log ≡ Some e) where
  same_end : ready.end ≡ e
  same_end = let both : Some ready.end ≡ Some e = sym ready.begun ∙ is in cc

  pub may_append : IsReadyFor e (length m.payload) a
  may_append = subst (λ (x : LogEnd). IsReadyFor x (length m.payload) a) same_end ready.ready

  pub append_moment : (b : DiskState) (p : List ℕ) → p ≡ m.payload → IsLawfulDisk a → a.tells ≡ true → Elapses (MayAdd (segment e.number) p) a b → Elapses (MaySave state) a b
  append_moment b p is_p lawful tells goes = appended_may e.number state a b lawful tells ready.state_is may_append.stands.above (subst (λ (q : List ℕ). Elapses (MayAdd (segment e.number) q) a b) (is_p ∙ ready.payload) goes)

  pub append_done : {E : Type 0} (r : Result ⊤ E) (m_new : MetaEnd) (e_new : LogEnd) (b : DiskState) (p : List ℕ) → p ≡ m.payload → m_new.log ≡ Some e_new → e_new.number ≡ e.number
      → (a.tells ≡ true → OnOk r ((c : Files) → b.images c → StepOf (Adds (segment e.number) p) a.images c)) → OnOk r (Appended m m_new state a b)
  append_done (Ok u) m_new e_new b p is_p is_new same added = record { end = e; begun = is; end_new = e_new; begun_new = is_new; same = same; added = λ t c image. subst (λ (q : List ℕ). StepOf (Adds (segment e.number) q) a.images c) (is_p ∙ ready.payload) (added t c image) }
  append_done (Err x) m_new e_new b p is_p is_new same added = tt

-- ---- a save, behind its append

module _ (m m_new : MetaEnd) (state : MetaState) (a b : DiskState) (lawful : IsLawfulDisk a) (lawful_b : IsLawfulDisk b) (ready : IsReadyToSave m state a) (done : Appended m m_new state a b) (told_b : b.tells ≡ a.tells) where
  abbrev number : ℕ
  number = done.end.number

  none : Told a (NoneAbove number)
  none = (may_append m state a ready done.end done.begun).stands.above

  are : a.tells ≡ true → m.older ≡ segments_below number a.files
  are t = ready.older t ∙ ap (λ (x : LogEnd). segments_below x.number a.files) (same_end m state a ready done.end done.begun)

  same : a.tells ≡ true → segments_below number b.files ≡ m.older
  same t = read_older number state ready.state_is a b lawful t none m.older (are t) (done.added t) lawful_b (told_b ∙ t)

  module _ (names : List FileName) (are_names : names ≡ m.older) where
    same_names : a.tells ≡ true → segments_below number b.files ≡ names
    same_names t = same t ∙ sym are_names

    pub removable : Told b (AreRemovable names)
    removable h = let t : a.tells ≡ true = sym told_b ∙ h in subst (λ (l : List FileName). AreRemovable l b.files) (same_names t) (below_removable number b.files)

    module _ (c : DiskState) (goes : b.tells ≡ true → Elapses (MayTakeAway names) b c) (told_c : c.tells ≡ b.tells) where
      goes_older : a.tells ≡ true → Elapses (MayTakeAway m.older) b c
      goes_older t = subst (λ (l : List FileName). Elapses (MayTakeAway l) b c) are_names (goes (told_b ∙ t))

      pub sweep_moment : a.tells ≡ true → Elapses (MaySave state) a b → Elapses (MaySave state) a c
      sweep_moment t one = swept_may number state ready.state_is a b lawful t none m.older (are t) (done.added t) c one (goes_older t)

      pub sweep_saved : {E : Type 0} (r : Result ⊤ E) → a.tells ≡ true → OnOk r ((z : Files) → c.images z → StepOf (Saves state) a.images z)
      sweep_saved (Ok u) t = swept_images number state ready.state_is a b lawful t none m.older (are t) (done.added t) c (goes_older t)
      sweep_saved (Err e) t = tt

      swept : a.tells ≡ true → Becomes (without_files m.older) b c → Sweeps m c
      swept t becomes = record {
        end = done.end;
        begun = done.begun;
        now = swept_reads number state ready.state_is a b lawful t none m.older (are t) (done.added t) c lawful_b (told_b ∙ t) becomes;
        stop = swept_stops number state ready.state_is a b lawful t none m.older (are t) (done.added t) c becomes;
      }

      pub sweep_all : {E : Type 0} (r : Result ⊤ E) → a.tells ≡ true → (b.tells ≡ true → OnOk r (Becomes (without_files names) b c)) → OnOk r (Sweeps m c)
      sweep_all (Ok u) t becomes = swept t (subst (λ (l : List FileName). Becomes (without_files l) b c) are_names (becomes (told_b ∙ t)))
      sweep_all (Err e) t becomes = tt

      pub sweep_stands : MetaStands m_new b → (b.tells ≡ true → HasTakenAway names b c) → MetaStands m_new c
      sweep_stands st took =
          let end = end_stands m_new done.end_new b done.begun_new st in
          let numbered = done.same in
          let a_told : b.tells ≡ true → a.tells ≡ true = λ h. sym told_b ∙ h in
          begun_stands m_new done.end_new c done.begun_new st.some st.few
          (stands_cut done.end_new number b c (omega (arith, numbered)) told_c (λ h. subst (λ (l : List FileName). Elapses (MayTakeAway l) b c) (sym (same_names (a_told h))) (goes h)) (λ h. subst (λ (l : List FileName). HasTakenAway l b c) (sym (same_names (a_told h))) (took h)) end)
