-- What a run promises, after the requests that it took.
use Rattle.std.proofs.Common.{◌≡◌, ℕ, ◌+◌, ◌<◌, ◌≤◌, ◌⊎◌, List, [], ◌∷◌, ◌++◌, length, length-append, sym, ap, subst, ◌∙◌, inl, inr, append-nil, arith, refl, Bool, true, false}
use Rattle.std.specs.Prelude.{Option, Some, None, Result, Ok, Err, IsErrOf, IsOk, OnOk, count_by}
use Rattle.m3_model.specs.declared.rules.MetaState.{MetaState}
use Rattle.m3_model.specs.declared.act.Act.{Act}
use Rattle.m3_model.specs.declared.answer.Answer.{Answer}
use Rattle.m3_model.specs.declared.turn.Reply.{Reply}
use Rattle.m3_model.specs.declared.turn.Reply.TheVariants as reply
use Rattle.m3_model.specs.declared.turn.Request.{Request}
use Rattle.m3_model.specs.declared.turn.Request.TheVariants as request
use Rattle.m3_model.specs.declared.turn.Turn.{Turn}
use Rattle.m3_model.proofs.Lists.{All-from_each}
use Rattle.transcripts.specs.Fates.{is_stopped}
use Rattle.transcripts.specs.Faults.{is_taking}
use Rattle.transcripts.specs.Joined.{Joined}
use Rattle.transcripts.specs.Placements.{placement_after}
use Rattle.transcripts.specs.Record.{IsAnsweredBy, Life, Record, inner_turns, line_of}
use Rattle.m3_outside.specs.Causes.{RoseBy}
use Rattle.m3_outside.specs.DiskState.{DiskState, IsLawfulDisk}
use Rattle.m3_outside.specs.declared.disk.Disk.{Ghosts}
use Rattle.m3_outside.specs.declared.slot.DiskSlot.{DiskSlot}
use Rattle.m3_outside.specs.Depots.{Depot}
use Rattle.m3_outside.specs.Slots.{Held, Out}
use Rattle.saved_cluster.specs.cluster_members.declared.members.Members.{Members}
use Rattle.saved_cluster.specs.first_cluster.Depots.{IsForReplicas, RisesBy, count_at, disk_slot_of, meta_slot, risen}
use Rattle.saved_cluster.proofs.first_cluster_proofs.SlotCases.{other_disk_slot}
use Rattle.saved_cluster.proofs.first_cluster_proofs.SlotLists.{slot_or_other}
use Rattle.saved_cluster.specs.replica_exchange.declared.slot.Slot.{Slot}
use Rattle.saved_cluster.specs.session_net.Runs.{slot_at}
use Rattle.saved_cluster.specs.served_cluster.Ends.{AreGivenBack, is_failed_at, replica_at}
use Rattle.saved_cluster.specs.served_cluster.Tracks.{faults_of}
use Rattle.saved_cluster.specs.served_cluster.Acts.{Serves, ServesRequest}
use Rattle.saved_cluster.specs.served_cluster.Owned.{TracksTurns, place_of}
use Rattle.saved_cluster.specs.served_cluster.Plans.{state_of}
use Rattle.saved_cluster.specs.Saved.{ElapsesBy, IsSaved, MayClose, MayServeSaved, RunsOn, ServesRequestSome, TracksRequest}
use Rattle.saved_cluster.specs.declared.saved.SavedCluster.{SavedCluster}
use Rattle.saved_cluster.specs.States.{IsOnRunning, is_init_request, kept_of, saves, saves_by}
use Rattle.saved_cluster.proofs.BesideLemmas.{kept_left, running_left}
use Rattle.saved_cluster.specs.declared.lost.Lost.{Lost}
use Rattle.saved_cluster.specs.declared.lost.Lost.TheVariants as lost
use Rattle.saved_cluster.proofs.OutLemmas.{meta_at}
use Rattle.saved_cluster.proofs.served_cluster_proofs.EndLemmas.{caused_where_tracked, joined_where_tracked, shown_where_tracked}
use Rattle.m3_program.specs.Exchanges.{Exchange, turns_of}
use Rattle.m3_program.specs.Faults.{IsOfRun, counts_of, one_for}
use Rattle.m3_program.specs.Runs.{HasCauses}
use Rattle.m3_program.specs.Saved.{LeaveState, kept_by}
use Rattle.m3_program.specs.Streams.{HaveServed, IsFresh, LeaveSlots, LeavesSlots, Opening, Progress, PromisesSo, Stage, StandsAfter, held_back, opening_at}
use Rattle.m3_program.proofs.LeaveLemmas.{LostSo, init_asked, lost_slots, said_slots, stood_slots}
use Rattle.m3_program.proofs.MetaLemmas.{counted_stays, lost_leaves, saved_leaves}
use Rattle.m3_program.proofs.StateLemmas.{leave_nothing, leave_on}

-- ---- while the disks are out

-- a cluster that may serve may be closed
pub may_close : {D : Type 0} {G : Ghosts D} (state : D → DiskState) (c : SavedCluster D G) (held : DiskSlot → Held D) → MayServeSaved state c held → MayClose c held
may_close state c held may = record { cluster = may.cluster; meta_out = may.meta_out }

-- before the first turn
pub begins_so : {D : Type 0} {G : Ghosts D} (state : D → DiskState) (now : Stage D G) → IsFresh state now → StandsAfter state (opening_at now) [] now
begins_so state now fresh = record { leave = leave_nothing (state_of now.saved.cluster); saved = fresh.saved; counted = refl; untold = fresh.untold; tracks = λ tells past lay begins. begins }

-- so the turns are tracked, whatever the disks tell and whatever runs were before
untold_so : {D : Type 0} {G : Ghosts D} (state : D → DiskState) (first : Opening D G) (now : Stage D G) (turns : List Turn) (s : StandsAfter state first turns now) (past : List Record) → TracksTurns state false past first.start (s.untold).lay now.depot turns now.saved.cluster
untold_so state first now turns s past = s.tracks false past (s.untold).lay ((s.untold).each past)

-- and whoever turned available was joined
joined_so : {D : Type 0} {G : Ghosts D} (state : D → DiskState) (first : Opening D G) (now : Stage D G) (turns : List Turn) (unanswered : Option Request) → StandsAfter state first turns now → (past : List Record)
    → Joined (record { past = past; present = record { start = first.start; turns = turns; unanswered = unanswered } })
joined_so state first now turns unanswered s past =
    joined_where_tracked state now.saved.cluster.members false past first.start (s.untold).lay now.depot turns now.saved.cluster.calls unanswered (untold_so state first now turns s past)

-- nothing more was served after these turns
pub stood : {D : Type 0} {G : Ghosts D} (state : D → DiskState) (first : Opening D G) (now : Stage D G) (turns : List Turn) (unanswered : Option Request) → StandsAfter state first turns now → HaveServed state first now turns unanswered
stood state first now turns unanswered s = record {
  leaves = saved_leaves (state now.saved.meta) first.start (state_of now.saved.cluster) turns unanswered s.leave s.saved;
  slots = stood_slots state first now turns unanswered s;
  counted = s.counted;
  tracked = λ tells past lay begins. record { more = []; few = omega arith; tracks = subst (λ ts. TracksTurns state tells past first.start lay now.depot ts now.saved.cluster) (sym (append-nil turns)) (s.tracks tells past lay begins) };
  joined = joined_so state first now turns unanswered s;
}

-- after these exchanges, whatever request was taken and not served
pub promised : {D : Type 0} {G : Ghosts D} (state : D → DiskState) (first : Opening D G) (now : Stage D G) (xs : List Exchange) (unanswered : Option Request) → Progress state first xs now → PromisesSo state first now xs unanswered
promised state first now xs unanswered p = stood state first now (turns_of xs) unanswered p.stands

-- what came of a request that was served, whether or not it got a reply
pub record Serving {D : Type 0} {G : Ghosts D} (state : D → DiskState) (old : Stage D G) (asked : Request) (answered : Result Reply Lost) (new : Stage D G) : Type 0 where
  pub out : old.depot.held meta_slot ≡ Out
  pub served : ServesRequestSome state old.depot old.saved.cluster asked answered new.depot new.saved.cluster
  pub tracks : (tells : Bool) (past : List Record) (start : Option MetaState) (first : Depot D) (turns : List Turn) → TracksTurns state tells past start first old.depot turns old.saved.cluster → TracksRequest state tells past start first new.depot turns asked answered new.saved
  pub any_moment : (state old.saved.meta).tells ≡ true → ElapsesBy old.saved.cluster asked new.saved.cluster (state old.saved.meta) (state new.saved.meta)
  pub tells : (state new.saved.meta).tells ≡ (state old.saved.meta).tells
  pub saved : OnOk answered (IsSaved (state_of new.saved.cluster) (state new.saved.meta))
  pub saves : saves asked ≡ false → IsOk answered
  pub unmade : IsErrOf answered lost.Meta → is_init_request asked ≡ true → new.saved.cluster.members ≡ None
  pub unbegun : IsErrOf answered lost.Memory → new.saved.cluster.members ≡ None

err_not_ok : (e : Lost) (answered : Result Reply Lost) → answered ≡ Err e → ¬ IsOk answered
err_not_ok e (Ok said) is ok = (let clash : Ok said ≡ Err e = is in cc)
err_not_ok e (Err why) is ok = (let clash : false ≡ true = ok in cc)

module _ {D : Type 0} {G : Ghosts D} (state : D → DiskState) (old new : Stage D G) where
  counted_so : (asked : Request) (said : Reply) → old.depot.held meta_slot ≡ Out → ServesRequest state old.depot old.saved.cluster asked said new.depot new.saved.cluster → new.depot.counted meta_slot ≡ old.depot.counted meta_slot
  counted_so (request.One a) (reply.One b) out h = counted_stays state old.depot old.saved.cluster a b new.depot new.saved.cluster h out
  counted_so _ _ out h = absurd h

  kept_so : (first : Opening D G) (turns : List Turn) → StandsAfter state first turns old → kept_of old.saved.cluster ≡ kept_by first.start turns (state_of old.saved.cluster)
  kept_so first turns was = kept_left state false [] first.start (was.untold).lay old.depot turns old.saved.cluster (untold_so state first old turns was [])

  running_so : (first : Opening D G) (turns : List Turn) (asked : Request) → StandsAfter state first turns old → RunsOn old.saved.cluster asked → IsOnRunning (is_stopped (inner_turns turns)) asked
  running_so first turns asked was runs = running_left state false [] first.start (was.untold).lay old.depot turns old.saved.cluster asked (untold_so state first old turns was []) runs

  -- what lies in the slots then
  lost_one : (first : Opening D G) (turns : List Turn) (a : Act) (answered : Result Reply Lost) (said : Answer) → StandsAfter state first turns old → Serving state old (request.One a) answered new → Serves state old.depot old.saved.cluster a said new.depot new.saved.cluster
      → LeaveSlots state first new turns (Some (request.One a))
  lost_one first turns a answered said was s served past lay begins are files image = by next.0 next.3 next.2
    where
      next : TracksRequest state true past first.start lay new.depot turns (request.One a) answered new.saved
      next = s.tracks true past first.start lay turns (was.tracks true past lay begins)

      Left : Type 0
      Left = LeavesSlots state past (record { start = first.start; turns = turns; unanswered = Some (request.One a) }) (held_back new) files

      lost_for : (e : Lost) → answered ≡ Err e → LostSo old new a
      lost_for e is = record { saves = saves (saves_by a) refl; unmade = λ init. unmade e is (init_asked a ∙ init) }
        where
          saves : (x : Bool) → saves_by a ≡ x → saves_by a ≡ true
          saves true is_saved = is_saved
          saves false unsaved = absurd (err_not_ok e answered is (s.saves unsaved))

          unmade : (x : Lost) → answered ≡ Err x → is_init_request (request.One a) ≡ true → new.saved.cluster.members ≡ None
          unmade lost.Meta same init = s.unmade same init
          unmade lost.Memory same init = s.unbegun same

      of_answer : (b : Answer) → TracksTurns state true past first.start lay new.depot (turns ++ line_of a b ∷ []) new.saved.cluster → (x : Result Reply Lost) → answered ≡ x → Left
      of_answer b t (Ok reply) is = said_slots state first new turns a b past lay (subst (λ r. OnOk r (IsSaved (state_of new.saved.cluster) (state new.saved.meta))) is s.saved) t are files image
      of_answer b t (Err e) is = lost_slots state first old new turns a was b said served (lost_for e is) s.any_moment past lay begins t are files image

      by : (r : Reply) → IsAnsweredBy (request.One a) r → TracksTurns state true past first.start lay new.depot (turns ++ record { request = request.One a; reply = r } ∷ []) new.saved.cluster → Left
      by (reply.One b) shape t = of_answer b t answered refl
      by (reply.Par for_clients for_workers) shape t = absurd shape

  lost_so_slots : (first : Opening D G) (turns : List Turn) (asked : Request) (answered : Result Reply Lost) (said : Reply) → StandsAfter state first turns old → Serving state old asked answered new → ServesRequest state old.depot old.saved.cluster asked said new.depot new.saved.cluster
      → LeaveSlots state first new turns (Some asked)
  lost_so_slots first turns (request.One a) answered (reply.One b) was s served = lost_one first turns a answered b was s served
  lost_so_slots first turns _ answered _ was s served = absurd served

  -- it may have been served, and got no reply
  pub lost_so : (first : Opening D G) (turns : List Turn) (asked : Request) (answered : Result Reply Lost) → StandsAfter state first turns old → Serving state old asked answered new → HaveServed state first new turns (Some asked)
  lost_so first turns asked answered was s = record {
    leaves = lost_leaves (state old.saved.meta) (state new.saved.meta) first.start turns old.saved.cluster new.saved.cluster asked s.tells was.leave was.saved (kept_so first turns was) (running_so first turns asked was) s.any_moment;
    slots = lost_so_slots first turns asked answered s.served.0 was s s.served.2;
    counted = counted_so asked s.served.0 s.out s.served.2 ∙ was.counted;
    tracked = λ tells past lay begins.
        let next = s.tracks tells past first.start lay turns (was.tracks tells past lay begins) in
        record { more = record { request = asked; reply = next.0 } ∷ []; few = omega arith; tracks = next.2 };
    joined = joined_so state first old turns (Some asked) was;
  }

  led_so : (start : Option MetaState) (turns : List Turn) (asked : Request) (said : Reply) → LeaveState start turns (state_of old.saved.cluster) → ServesRequest state old.depot old.saved.cluster asked said new.depot new.saved.cluster
      → placement_after (place_of old.saved.cluster) (inner_turns (record { request = asked; reply = said } ∷ [])) ≡ place_of new.saved.cluster → LeaveState start (turns ++ record { request = asked; reply = said } ∷ []) (state_of new.saved.cluster)
  led_so start turns (request.One a) (reply.One b) leave h stands = leave_on state start turns old.depot new.depot old.saved.cluster new.saved.cluster a b h stands leave
  led_so start turns _ _ leave h stands = absurd h

  -- it was served, and got this reply
  pub served_so : (first : Opening D G) (turns : List Turn) (asked : Request) (said : Reply) → StandsAfter state first turns old → Serving state old asked (Ok said) new
      → placement_after (place_of old.saved.cluster) (inner_turns (record { request = asked; reply = said } ∷ [])) ≡ place_of new.saved.cluster → IsSaved (state_of new.saved.cluster) (state new.saved.meta)
      → StandsAfter state first (turns ++ record { request = asked; reply = said } ∷ []) new
  served_so first turns asked said was s stands saved = record {
    leave = led_so first.start turns asked said was.leave (subst (λ r. ServesRequest state old.depot old.saved.cluster asked r new.depot new.saved.cluster) (sym s.served.1) s.served.2) stands;
    saved = saved;
    counted = counted_so asked s.served.0 s.out s.served.2 ∙ was.counted;
    untold = was.untold;
    tracks = λ tells past lay begins.
        let next = s.tracks tells past first.start lay turns (was.tracks tells past lay begins) in
        subst (λ r. TracksTurns state tells past first.start lay new.depot (turns ++ record { request = asked; reply = r } ∷ []) new.saved.cluster) (sym next.1) next.2;
  }

-- ---- when the disks are given back

-- the life of a run of these turns behind others, and of the request that was taken and not answered, if there is one
abbrev pub life_after : List Record → Option MetaState → List Turn → Option Request → Life
life_after past start turns unanswered = record { past = past; present = record { start = start; turns = turns; unanswered = unanswered } }

-- a line of these turns is one of a request that was taken
line_taken : (turns more : List Turn) (unanswered : Option Request) (line : ℕ) → length more ≤ one_for unanswered → line < length (turns ++ more) → line < length turns + one_for unanswered
line_taken turns more unanswered line few low = let all = length-append turns more in omega (arith, few, low, all)

-- What is counted at the end of a run that began so: of the disks of replicas what these did, and of the meta disk, which was out, no less than before.
pub record Closes {D : Type 0} {G : Ghosts D} (state : D → DiskState) (before lay : Depot D) (mid : Stage D G) (last : Depot D) : Type 0 where
  pub same : (disk_slot : DiskSlot) → lay.counted disk_slot ≡ before.counted disk_slot
  pub opened : before.faults ≤ lay.faults
  pub no_replica : replica_at mid.saved.cluster.members meta_at ≡ None
  pub counted : (s : Slot) → IsForReplicas (disk_slot_of s) → last.counted (disk_slot_of s) ≡ count_at state mid.depot (replica_at mid.saved.cluster.members s) s
  pub meta_later : lay.counted meta_slot ≤ last.counted meta_slot
  pub rose : RisesBy state mid.depot mid.saved.cluster.members last.faults
  pub later : mid.depot.faults ≤ last.faults

rose_later : (n a b c : ℕ) → RoseBy n a b → b ≤ c → RoseBy n a c
rose_later n a b c rose on = omega (arith, rose, on)

rose_before : (n a b c : ℕ) → a ≤ b → RoseBy n b c → RoseBy n a c
rose_before n a b c on rose = omega (arith, rose, on)

-- it rose by so much, and later by more
rose_between : (n m a b c : ℕ) → RoseBy n a b → RoseBy m b c → RoseBy n a c
rose_between n m a b c one two = omega (arith, one, two)

-- the count of all faults rose also as the meta disk was given back
pub rises_on : {D : Type 0} {G : Ghosts D} (state : D → DiskState) (depot : Depot D) (members : Option (Members D G)) (between more last : ℕ) → RisesBy state depot members between → RoseBy more between last → RisesBy state depot members last
rises_on state depot None between more last rises rose = tt
rises_on state depot (Some m) between more last rises rose = λ apart. rose_between (risen state depot m.net.replicas.members m.slots.items) more depot.faults between last (rises apart) rose

module _ {D : Type 0} {G : Ghosts D} (state : D → DiskState) (before lay : Depot D) (mid : Stage D G) (last : Depot D) (c : Closes state before lay mid last) (kept : mid.depot.counted meta_slot ≡ lay.counted meta_slot) where
  -- what the disk of the slot counts, be it a replica's or not
  abbrev count_in : DiskSlot → ℕ
  count_in disk_slot = count_at state mid.depot (replica_at mid.saved.cluster.members (slot_at disk_slot.node disk_slot.shard)) (slot_at disk_slot.node disk_slot.shard)

  given_back : AreGivenBack state mid.depot mid.saved.cluster.members last.faults count_in
  given_back = record { later = c.later; counted = λ s. refl; rose = c.rose }

  -- that of the meta disk is what it was
  meta_in : count_in meta_slot ≡ lay.counted meta_slot
  meta_in = ap (λ o. count_at state mid.depot o meta_at) c.no_replica ∙ kept

  counts_on : (disk_slot : DiskSlot) → count_in disk_slot ≤ last.counted disk_slot
  counts_on disk_slot = by (slot_or_other (slot_at disk_slot.node disk_slot.shard) meta_at)
    where
      by : (slot_at disk_slot.node disk_slot.shard ≡ meta_at) ⊎ ¬ (slot_at disk_slot.node disk_slot.shard ≡ meta_at) → count_in disk_slot ≤ last.counted disk_slot
      by (inl same) = subst (λ (t : Slot). count_in (disk_slot_of t) ≤ last.counted (disk_slot_of t)) (sym same) (let is = meta_in in let on = c.meta_later in omega (arith, is, on))
      by (inr other) = let is = c.counted (slot_at disk_slot.node disk_slot.shard) (other_disk_slot (slot_at disk_slot.node disk_slot.shard) meta_at other) in omega (arith, is)

  -- the causes, shown by the counts
  pub causes_closed : ((d : D) → IsLawfulDisk (state d)) → (tells : Bool) (past : List Record) (start : Option MetaState) (turns more : List Turn) (unanswered : Option Request) → length more ≤ one_for unanswered → TracksTurns state tells past start lay mid.depot (turns ++ more) mid.saved.cluster
      → HasCauses tells (counts_of before) (counts_of last) (life_after past start turns unanswered)
  causes_closed lawful tells past start turns more unanswered few tracks =
      let members = mid.saved.cluster.members in
      let calls = mid.saved.cluster.calls in
      let shown = shown_where_tracked state lawful members tells past start lay mid.depot (turns ++ more) calls last.faults count_in tracks given_back in
      record {
        faults = faults_of tracks;
        counted = record {
          of_run = All-from_each (IsOfRun tells (life_after past start turns unanswered).present) (faults_of tracks)
              (λ f i. record { in_run = line_taken turns more unanswered f.line few (shown.of_lines f i); undamaged = λ e. shown.undamaged e f i });
          of_taking = rose_before (count_by (λ f. is_taking f.kind) (faults_of tracks)) before.faults lay.faults last.faults c.opened shown.of_taking;
          of_disks = λ disk_slot.
              let n = count_by (is_failed_at disk_slot) (faults_of tracks) in
              subst (λ k. RoseBy n k (last.counted disk_slot)) (c.same disk_slot) (rose_later n (lay.counted disk_slot) (count_in disk_slot) (last.counted disk_slot) (shown.of_disks disk_slot) (counts_on disk_slot));
          of_all = λ low each.
              let all = shown.of_all low (λ disk_slot. let on = counts_on disk_slot in let below = each disk_slot in omega (arith, on, below)) in
              let opened = c.opened in
              omega (arith, all, opened);
        };
        caused = caused_where_tracked state members tells past start lay mid.depot turns more calls unanswered tracks;
      }
