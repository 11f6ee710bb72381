-- The turns of a run are tracked from its beginning, whether a state was found or none.
use Rattle.std.proofs.Common.{◌≡◌, zero, suc, List, [], ◌∷◌, ap, subst, sym, ◌∙◌, refl, Bool, true}
use Rattle.std.specs.Prelude.{Option, Some, None, option_map}
use Rattle.std.proofs.lemmas.Option.{same_Some}
use Rattle.m3_model.specs.declared.rules.MetaState.{MetaState}
use Rattle.m3_outside.specs.Depots.{Depot, TellAll}
use Rattle.m3_outside.specs.DiskState.{DiskState}
use Rattle.m3_outside.specs.declared.disk.Disk.{Ghosts}
use Rattle.line_tracks.specs.placement_core.Lawful.{IsLawful}
use Rattle.line_tracks.specs.cluster_core.Legal.{IsOpeningPlace, IsSecond, Legal}
use Rattle.line_tracks.specs.cluster_core.declared.event.Event.TheVariants as event
use Rattle.line_tracks.specs.cluster_members.declared.members.Members.{Members}
use Rattle.line_tracks.specs.acts.Stands.{ClusterStands}
use Rattle.line_tracks.specs.transcripts.Record.{Record}
use Rattle.line_tracks.specs.tracks.Lain.{HadLain, LayBare}
use Rattle.line_tracks.proofs.tracks.AfreshLemmas.{tracks_afresh}
use Rattle.opened_cluster.specs.Reopened.{IsReopened}
use Rattle.served_cluster.specs.Acts.{first_numbers}
use Rattle.served_cluster.specs.Owned.{TracksTurns}
use Rattle.served_cluster.specs.Plans.{state_of}
use Rattle.served_cluster.specs.declared.cluster.Cluster.{Cluster}
use Rattle.saved_cluster.specs.Openings.{BeginsTracked}

-- two events that open a list are legal
opening_legal : (tells : Bool) (found : MetaState) → IsLawful found.place → Legal tells (event.Place found.place [] ∷ event.Clock found.rules ∷ [])
opening_legal tells found lawful zero e there = subst IsOpeningPlace (same_Some (event.Place found.place []) e there) (lawful, refl)
opening_legal tells found lawful (suc zero) e there = subst IsSecond (same_Some (event.Clock found.rules) e there) tt
opening_legal tells found lawful (suc (suc i)) e there = cc

module _ {D : Type 0} {G : Ghosts D} (state : D → DiskState) (before : Depot D) (c : Cluster D G) where
  -- nothing was found
  pub begins_bare : c.members ≡ None → ((tells : Bool) (past : List Record) → (tells ≡ true → TellAll state) → (tells ≡ true → LayBare state past before.held) → TracksTurns state tells past None before before [] c) → BeginsTracked state before before c
  begins_bare none begins tells past tell lain =
      let e : state_of c ≡ None = ap (option_map (λ (m : Members D G). m.net.state)) none in
      subst (λ (x : Option MetaState). TracksTurns state tells past x before before [] c) (sym e) (begins tells past tell (λ t. subst (λ (x : Option MetaState). HadLain state past x before.held) e (lain t)))

  -- a state was found, and stands
  pub begins_afresh : (now : Depot D) (found : MetaState) (m : Members D G) → IsLawful found.place → c.members ≡ Some m → c.calls ≡ first_numbers → IsReopened state found before now m → ClusterStands (Some found) [] m → BeginsTracked state before now c
  begins_afresh now found m lawful is calls_are opened stands tells past tell lain =
      let e : state_of c ≡ Some found = ap (option_map (λ (x : Members D G). x.net.state)) is ∙ ap Some opened.anew.state_is in
      subst (λ (x : Option MetaState). TracksTurns state tells past x before now [] c) (sym e) (tracks_afresh state c.members tells past found before now c.calls m is calls_are tell (record {
        lawful = lawful;
        opened = opened.events;
        legal = subst (Legal tells) (sym opened.events) (opening_legal tells found lawful);
        stands = stands;
        slots = opened.anew.slots;
        gained = opened.gained;
        lain = λ t. subst (λ (x : Option MetaState). HadLain state past x before.held) e (lain t);
      }))
