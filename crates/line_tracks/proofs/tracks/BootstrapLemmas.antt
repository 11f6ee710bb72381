-- Lines that bootstrap a node, whether moves end by them or not.
use Rattle.std.proofs.Common.{◌≡◌, ℕ, List, [], ◌∷◌, ◌++◌, refl, sym, ap, subst, inl, inr, Bool, true}
use Rattle.std.specs.Prelude.{◌⊎◌, Option, Some, None}
use Rattle.m3_model.specs.declared.act.Act.TheVariants as act
use Rattle.m3_model.specs.declared.answer.Answer.{Answer}
use Rattle.m3_model.specs.declared.answer.Answer.TheVariants as answer
use Rattle.m3_model.specs.declared.placement.Placement.{Placement}
use Rattle.m3_model.specs.declared.rules.MetaState.{MetaState}
use Rattle.m3_model.specs.declared.turn.Turn.{Turn}
use Rattle.m3_outside.specs.Depots.{Depot}
use Rattle.m3_outside.specs.DiskState.{DiskState, IsLawfulDisk}
use Rattle.m3_outside.specs.declared.disk.Disk.{Ghosts}
use Rattle.placement_plan.specs.Plans.{IsAvailable}
use Rattle.cluster_core.specs.declared.event.Event.{Event}
use Rattle.cluster_core.specs.Legal.{Legal}
use Rattle.transcripts.specs.Record.{Record, line_of}
use Rattle.node_calls.specs.session_net.Runs.{Ran}
use Rattle.node_calls.specs.cluster_members.declared.members.Members.{Members}
use Rattle.first_cluster.specs.Slots.{AreApart}
use Rattle.told_runs.specs.Lines.{delivered_on}
use Rattle.node_calls.proofs.session_net_proofs.RunLemmas.{ran_nothing}
use Rattle.line_tracks.proofs.calls.ServeLemmas.{delivered_so}
use Rattle.told_runs.proofs.OrderLemmas.{in_order}
use Rattle.life_ends.specs.Runs.{OpensAsLeft}
use Rattle.told_joins.specs.Lines.{Leaves, joined_of}
use Rattle.cluster_joins.specs.Boots.{IsBooted, IsEndedBy}
use Rattle.line_tracks.proofs.joins.ServeLemmas.{bootstraps_serve}
use Rattle.line_tracks.proofs.joins.StandLemmas.{bootstraps_stand}
use Rattle.line_tracks.specs.tracks.Lines.{BootstrapsAreTracked, IsLeft, MayGoOn}
use Rattle.line_tracks.specs.tracks.Numbers.{numbers_by}
use Rattle.line_tracks.specs.tracks.Runs.{HaveRun}
use Rattle.line_tracks.specs.tracks.Tracks.{HasTenures, StandsSo, Tracks}
use Rattle.line_tracks.proofs.tracks.NodeLemmas.{may_begin}
use Rattle.line_tracks.proofs.tracks.NumberLemmas.{numbers_stay}
use Rattle.line_tracks.proofs.tracks.PlacementLemmas.{low_then, tenures_over}
use Rattle.line_tracks.proofs.tracks.RunLemmas.{run_goes_on}
use Rattle.line_tracks.proofs.tracks.OpenLemmas.{run_opens_as_left}
use Rattle.line_tracks.proofs.tracks.StepLemmas.{still_on}

-- ---- what it leaves, whatever it is answered

-- replicas took steps, the slots stay, and so does the placement, or moves of it are over
record KeepsBut {D : Type 0} {G : Ghosts D} (state : D → DiskState) (m g : Members D G) : Type 0 where
  more : List Event
  ran : Ran state m.net.replicas more g.net.replicas
  slots : g.slots.items ≡ m.slots.items
  place : (g.net.state.place ≡ m.net.state.place) ⊎ ((done : List (ℕ × ℕ)) × IsAvailable m.net.state.place done g.net.state.place)

-- where no shard was joined the placement stays
left_so : (place : Placement) (y : ℕ) (joined : List (ℕ × List ℕ)) (next : Placement) → Leaves place y joined next → (next ≡ place) ⊎ ((done : List (ℕ × ℕ)) × IsAvailable place done next)
left_so place y [] next same = inl same
left_so place y (x ∷ joined) next over = inr (_, over.0)

module _ {D : Type 0} {G : Ghosts D} (state : D → DiskState) (m g : Members D G) (name : List ℕ) (asked : Option ℕ) where
  keeps_same : g ≡ m → KeepsBut state m g
  keeps_same same = subst (KeepsBut state m) (sym same) (record { more = []; ran = ran_nothing state m.net.replicas; slots = refl; place = inl refl })

  keeps_ended : (Adds : Placement → ℕ → Option ℕ → List Event → Type 0) → IsEndedBy state m name asked Adds g → KeepsBut state m g
  keeps_ended Adds h = record { more = h.more; ran = h.ran; slots = h.keeps.keeps.slots; place = inl (ap (λ (s : MetaState). s.place) h.keeps.keeps.state) }

  keeps_so : (b : Answer) → IsBooted state m name asked b g → KeepsBut state m g
  keeps_so (answer.Available available next version) (is, h) =
      let stands : g.net.state.place ≡ next = ap (λ (s : MetaState). s.place) h.state_is in
      record {
        more = h.more;
        ran = h.ran;
        slots = h.slots;
        place = subst (λ (p : Placement). (p ≡ m.net.state.place) ⊎ ((done : List (ℕ × ℕ)) × IsAvailable m.net.state.place done p)) (sym stands) (left_so m.net.state.place h.may.runs.node (joined_of h.opened) next h.adds.leaves);
      }
  keeps_so (answer.Peers got needed reasons shard) (peers, is, h) = keeps_ended _ h
  keeps_so (answer.Disk node shard) (is, h) = keeps_ended _ h
  keeps_so (answer.Corrupt node shard damage) (is, shown, h) = keeps_ended _ h
  keeps_so answer.Memory (inl same) = keeps_same same
  keeps_so answer.Memory (inr (inl (shard, h))) = keeps_ended _ h
  keeps_so answer.Memory (inr (inr h)) = keeps_ended _ h
  keeps_so answer.Full (lacks, h) = keeps_ended _ h
  keeps_so (answer.Limit limit) (is, h) = keeps_ended _ h
  keeps_so (answer.Unknown unknown) (which, same) = keeps_same same
  keeps_so (answer.State node) (was, has, is, same) = keeps_same same
  keeps_so _ h = absurd h

-- each replica of the placement that stands then has its shard since some version
tenures_kept : (place next : Placement) → (next ≡ place) ⊎ ((done : List (ℕ × ℕ)) × IsAvailable place done next) → HasTenures place → HasTenures next
tenures_kept place next (inl same) was = subst HasTenures (sym same) was
tenures_kept place next (inr (done, over)) was = tenures_over place next done over was

-- ---- the line

module _ {D : Type 0} {G : Ghosts D} (state : D → DiskState) (lawful : (d : D) → IsLawfulDisk (state d)) (m : Members D G) (tells : Bool) (past : List Record) (start : Option MetaState) (first now : Depot D) (turns : List Turn) (calls : List ℕ) (go : MayGoOn state tells past start first now turns calls m)
    (name : List ℕ) (asked : Option ℕ) (b : Answer) (g : Members D G) (left : IsLeft tells g) (did : IsBooted state m name asked b g) where
  abbrev longer : List Turn
  longer = turns ++ line_of (act.Bootstrap name asked) b ∷ []

  abbrev t : Tracks state tells past start first now turns (Some m) calls
  t = go.tracks

  abbrev so : StandsSo state tells past start now turns m
  so = go.tracks.after

  keeps : KeepsBut state m g
  keeps = keeps_so state m g name asked b did

  run : HaveRun state so.lay now g.net.replicas
  run = run_goes_on state m.net.replicas so.lay now g.net.replicas keeps.more so.run keeps.ran keeps.ran.only

  tenures : start ≡ None → HasTenures g.net.state.place
  tenures none = tenures_kept m.net.state.place g.net.state.place keeps.place (so.tenures none)

  -- where the disks tell, replicas begin with what earlier runs left
  opens : tells ≡ true → OpensAsLeft past start g.net.replicas.events
  opens e = run_opens_as_left state lawful g.net.replicas past start so.lay now (t.tell e) (so.lain e) run (subst (λ (x : Bool). Legal x g.net.replicas.events) e left.legal)

  tracked : Tracks state tells past start first now longer (Some g) (numbers_by (act.Bootstrap name asked) b calls)
  tracked =
      let served = bootstraps_serve state m tells past start turns None None t.taking t.delivered name asked b g t.served t.were so.stands (may_begin state m tells past start first now turns calls go lawful) left.legal opens did in
      let stands = bootstraps_stand state m start turns name asked b g so.stands left.ready did in
      let order = in_order t.taking start longer g.net.replicas.events left.legal served.0 (served.1.answers).each served.1.order in
      record {
        tell = t.tell;
        legal = left.legal;
        taking = t.taking;
        delivered = delivered_on turns t.delivered (λ p. []);
        served = served;
        were = delivered_so turns (act.Bootstrap name asked) b [] (λ x i. absurd i) t.delivered t.were;
        numbered = numbers_stay turns calls (act.Bootstrap name asked) b t.numbered;
        untaken = t.untaken;
        later = t.later;
        after = record {
          stands = stands;
          lay = so.lay;
          lain = so.lain;
          run = run;
          still = still_on state so.lay m.net.replicas g.net.replicas now.held keeps.more keeps.ran so.still;
          apart = subst AreApart (sym keeps.slots) so.apart;
          low = low_then state tells past start now longer g left.legal served.0 order so.lay so.lain run stands.ready.place tenures;
          tenures = tenures;
        };
      }

pub bootstraps_are_tracked : {D : Type 0} {G : Ghosts D} (state : D → DiskState) → ((d : D) → IsLawfulDisk (state d)) → (m : Members D G) → BootstrapsAreTracked state m
bootstraps_are_tracked state lawful m name asked tells past start first now turns calls b g go left did = tracked state lawful m tells past start first now turns calls go name asked b g left did
