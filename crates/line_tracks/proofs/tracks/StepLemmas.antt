-- One more line of a run that is tracked.
use Rattle.std.specs.Prelude.{Option, None, slice_index}
use Rattle.std.specs.FinMap as finite
use Rattle.m3_outside.specs.Causes.{RoseBy}
use Rattle.m3_outside.specs.DiskState.{DiskState}
use Rattle.m3_outside.specs.declared.disk.Disk.{Ghosts}
use Rattle.cluster_core.specs.Legal.{Legal}
use Rattle.cluster_core.specs.declared.event.Event.{Event}
use Rattle.told_runs.specs.told_by.Lines.{ClockLine, InitLine, PlainLine, ReadLine, WriteLine}
use Rattle.told_runs.specs.Lines.{IsToldAndServed, KindServes, delivered_on}
use Rattle.told_runs.proofs.LineLemmas.{clock_serves, init_serves, plain_serves, read_serves, served_first, write_serves}
use Rattle.transcripts.specs.Record.{line_of}
use Rattle.line_tracks.specs.calls.Laws.{Kind}
use Rattle.node_calls.specs.cluster_members.declared.members.Members.{Members}
use Rattle.first_cluster.specs.Slots.{AreApart}
use Rattle.line_tracks.specs.tracks.Steps.{StandsAfterLine, TracksAtFirst, TracksOn}
use Rattle.line_tracks.specs.tracks.Tracks.{HasTenures, Tracks, events_of}
use Rattle.line_tracks.specs.tracks.Lain.{AreStillThere}
use Rattle.line_tracks.proofs.tracks.FailureLemmas.{rose_both, rose_none, stepped_none}
use Rattle.line_tracks.proofs.tracks.NumberLemmas.{numbers_stay}
use Rattle.line_tracks.proofs.tracks.RunLemmas.{run_goes_on}
use Rattle.std.proofs.Common.{◌≡◌, ◌+◌, ℕ, List, [], ◌∷◌, ◌++◌, length, length-append, refl, sym, ap, subst, arith, Bool}
use Rattle.m3_model.specs.declared.rules.MetaState.{MetaState}
use Rattle.m3_outside.specs.Slots.{Held}
use Rattle.m3_outside.specs.declared.slot.DiskSlot.{DiskSlot}
use Rattle.node_calls.specs.replica_calls.Calls.{Tracked}
use Rattle.node_calls.specs.session_net.Runs.{Ran, steps_of}

-- ---- at first

none_legal : (tells : Bool) → Legal tells []
none_legal tells i e there = cc

pub tracks_at_first : {D : Type 0} {G : Ghosts D} (state : D → DiskState) (members : Option (Members D G)) → TracksAtFirst state members
tracks_at_first {D} {G} state members tells past start first calls found none zero tell lain =
    subst (λ (x : Option MetaState). Tracks state tells past x first first [] members calls) (sym found) (subst (λ (o : Option (Members D G)). Tracks state tells past None first first [] o calls) (sym none) (record {
      tell = tell;
      legal = none_legal tells;
      taking = [];
      delivered = λ p. [];
      served = served_first past None;
      were = λ q at m i. absurd i;
      numbered = record { next = ap (λ xs. slice_index xs 0) zero; all = ap length zero };
      untaken = rose_none first.faults first.faults (omega arith);
      later = λ disk_slot. omega arith;
      after = record { found = refl; none = record { prints = λ turn m. absurd m; rules = refl; fates = refl; runs = λ name. refl }; lain = lain };
    }))

-- ---- one line

module _ {D : Type 0} {G : Ghosts D} (Line : Kind) (serves : (tells : Bool) → KindServes Line tells) (state : D → DiskState) (old : Option (Members D G)) where
  tracks_on : TracksOn Line state old
  tracks_on tells past start first before now turns calls a b new t next =
      let adds = next.adds in
      let on = serves tells past start turns None None (events_of old) a b adds.more next.untaken t.taking next.messages t.delivered t.served adds.line adds.serves in
      record {
        tell = t.tell;
        legal = next.legal;
        taking = next.untaken ++ t.taking;
        delivered = delivered_on turns t.delivered (λ p. next.messages);
        served = subst (IsToldAndServed tells (next.untaken ++ t.taking) (delivered_on turns t.delivered (λ p. next.messages)) past start (turns ++ line_of a b ∷ []) None) (sym adds.grew) on;
        were = adds.delivered;
        numbered = numbers_stay turns calls a b t.numbered;
        untaken = (let sum = length-append next.untaken t.taking in let one = t.untaken in let two = next.rose in
            subst (λ n. RoseBy n first.faults now.faults) (sum_is (length next.untaken) (length t.taking) (length (next.untaken ++ t.taking)) sum) (rose_both (length t.taking) (length next.untaken) first.faults before.faults now.faults one two));
        later = λ disk_slot. (let one = t.later disk_slot in let two = next.later disk_slot in omega (arith, one, two));
        after = next.after;
      }
    where
      sum_is : (n m k : ℕ) → k ≡ n + m → m + n ≡ k
      sum_is n m k e = omega (arith, e)

pub plain_on : {D : Type 0} {G : Ghosts D} (state : D → DiskState) (old : Option (Members D G)) → TracksOn PlainLine state old
plain_on state old = tracks_on PlainLine (λ tells. plain_serves {tells = tells}) state old

pub clock_on : {D : Type 0} {G : Ghosts D} (state : D → DiskState) (old : Option (Members D G)) → TracksOn ClockLine state old
clock_on state old = tracks_on ClockLine (λ tells. clock_serves {tells = tells}) state old

pub init_on : {D : Type 0} {G : Ghosts D} (state : D → DiskState) (old : Option (Members D G)) → TracksOn InitLine state old
init_on state old = tracks_on InitLine (λ tells. init_serves {tells = tells}) state old

pub write_on : {D : Type 0} {G : Ghosts D} (state : D → DiskState) (old : Option (Members D G)) → TracksOn WriteLine state old
write_on state old = tracks_on WriteLine (λ tells. write_serves {tells = tells}) state old

pub read_on : {D : Type 0} {G : Ghosts D} (state : D → DiskState) (old : Option (Members D G)) → TracksOn ReadLine state old
read_on state old = tracks_on ReadLine (λ tells. read_serves {tells = tells}) state old

-- ---- a line of a cluster that stands

-- slots without a replica stay as they are where replicas take steps
pub still_on : {D : Type 0} (state : D → DiskState) (lay : DiskSlot → Held D) (old new : Tracked D) (held : DiskSlot → Held D) (more : List Event) → Ran state old more new → AreStillThere state lay old.members held → AreStillThere state lay new.members held
still_on state lay old new held more ran still s none = still s (stepped_none state (steps_of s more) (finite.get old.members s) (finite.get new.members s) (ran.stepped s) none)

pub stands_after_line : {D : Type 0} {G : Ghosts D} (state : D → DiskState) (old : Members D G) → StandsAfterLine state old
stands_after_line {D} {G} state old tells past start now turns a b new h on = record {
  stands = on.stands;
  lay = h.lay;
  lain = h.lain;
  run = run_goes_on state old.net.replicas h.lay now new.net.replicas on.more h.run on.ran on.others;
  still = still_on state h.lay old.net.replicas new.net.replicas now.held on.more on.ran h.still;
  apart = subst AreApart (sym on.slots) h.apart;
  low = on.low;
  tenures = λ none. subst HasTenures (sym on.place) (h.tenures none);
}
