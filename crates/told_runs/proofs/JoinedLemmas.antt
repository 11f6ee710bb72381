-- A run that a legal list tells of is joined: who is printed as a peer runs and was begun, as it was fenced in the bootstrap's stretch.
use Rattle.std.proofs.Common.{◌≡◌, ℕ, List, [], ◌∷◌, take, Some, refl, subst, inl, inr, Bool}
use Rattle.std.specs.Prelude.{slice_get}
use Rattle.m3_model.specs.Ascends.{Ascends}
use Rattle.m3_model.specs.Members.{IsIn}
use Rattle.m3_model.specs.declared.act.Act.TheVariants as act
use Rattle.m3_model.specs.declared.placement.Instance.{Instance}
use Rattle.m3_model.specs.declared.placement.Placement.{Placement}
use Rattle.placement_core.specs.Lawful.{IsLawful}
use Rattle.placement_core.specs.NodeNames.{IsNamedBelow}
use Rattle.cluster_core.specs.Legal.{Legal}
use Rattle.cluster_core.specs.Lists.{At}
use Rattle.cluster_core.specs.declared.event.Event.{Event}
use Rattle.cluster_core.specs.declared.event.Event.TheVariants as event
use Rattle.cluster_core.proofs.ListLemmas.{at_in, at_take}
use Rattle.m3_model.specs.Tags.{IsBelow}
use Rattle.transcripts.specs.Deliveries.{LateMessage}
use Rattle.transcripts.specs.Fates.{IsRunningAt, OfNode}
use Rattle.transcripts.specs.Faults.{Fault}
use Rattle.transcripts.specs.Joined.{IsJoiningTurn, TurnsAvailable}
use Rattle.transcripts.specs.Record.{Life, TurnPosition, IsTurnPosition}
use Rattle.transcripts.specs.Waiting.{IsBegunFor}
use Rattle.told_by.specs.Hears.{HearsBy, HearsStreamed, InStretch, IsNamedBy}
use Rattle.told_by.specs.Laws.{PrintsFormer}
use Rattle.told_by.specs.Told.{ToldBy}
use Rattle.told_by.proofs.JoinedLemmas.{placed, told_joined}
use Rattle.told_by.proofs.LeaveLemmas.{place_there}
use Rattle.told_moves.specs.Moves.{IsPlacedIn}
use Rattle.told_moves.proofs.TenureLemmas.{name_everywhere}
use Rattle.told_runs.specs.Laws.{IsJoinedWhereTold, IsServedRun}
use Rattle.told_runs.proofs.FormerLemmas.{fenced_serves, former_named, former_there}

-- what holds of any two of a list where one stands before the other holds in its order
ascends_within : (R S : ℕ → ℕ → Type 0) (xs : List ℕ) → ((a b : ℕ) → IsIn xs a → IsIn xs b → R a b → S a b) → Ascends R xs → Ascends S xs
ascends_within R S [] to up = tt
ascends_within R S (x ∷ xs) to up = ((λ y m. to x y (inl refl) (inr m) (up.0 y m)), ascends_within R S xs (λ a b of_a of_b. to a b (inr of_a) (inr of_b)) up.1)

module _ {tells : Bool} (life : Life) (events : List Event) (legal : Legal tells events) (told : ToldBy life.present.start life.present.turns events) (taking : List Fault) (delivered : TurnPosition → List LateMessage)
    (served : IsServedRun tells taking delivered life events told) (was next : Placement) (i : ℕ) (done : List (ℕ × ℕ)) (there : At events i (event.Place was done)) (led : IsPlacedIn events next) (number node : ℕ) (t : TurnsAvailable was next number node)
    (p : TurnPosition) (at : IsTurnPosition life.present.turns p) (f : PrintsFormer events p was next number node t.shard) where
  lawful : IsLawful was
  lawful = (served.order).lawful i was done there

  -- each that is printed is one of the nodes
  known : (q : ℕ) → IsIn f.names q → (one : Instance) × (slice_get was.instances q ≡ Some one)
  known q m = former_there was lawful number t.shard t.shard_is q ((f.enough).within q m)

  -- and all placements call it so
  everywhere : (q : ℕ) (m : IsIn f.names q) → IsNamedBy events q ((known q m).0).name
  everywhere q m = name_everywhere events legal q was ((known q m).0).name (record { place_at = i; done = done; there = there }) (record { instance_ = (known q m).0; stands = (known q m).1; holds = refl })

  -- by name in the one placement is by name in the other
  by_name : Ascends (IsNamedBelow was) f.names
  by_name =
      let last = place_there (take f.upto events) f.last f.last_is in
      let placed_last = (at_take events last.0 f.upto (event.Place f.last last.1) last.2).0 in
      ascends_within (IsNamedBelow f.last) (IsNamedBelow was) f.names (λ a b of_a of_b below. record {
        one = (known a of_a).0;
        other = (known b of_b).0;
        of_one = (known a of_a).1;
        of_other = (known b of_b).1;
        below = subst (λ (n : List ℕ). IsBelow n ((known b of_b).0).name) (everywhere a of_a last.0 f.last last.1 below.one placed_last below.of_one)
            (subst (λ (n : List ℕ). IsBelow (below.one).name n) (everywhere b of_b last.0 f.last last.1 below.other placed_last below.of_other) below.below);
      }) f.by_name

  -- each was fenced in the turn's stretch
  fenced : HearsStreamed (InStretch events ((told.spans).from p) ((told.spans).to p)) f.available
  fenced =
      let boot = f.bootstrap in
      (subst (λ b. HearsBy life.present.start (take ((told.spans).from p) events) (InStretch events ((told.spans).from p) ((told.spans).to p)) p (act.Bootstrap boot.name boot.asked) b) boot.answered
      (subst (λ a. HearsBy life.present.start (take ((told.spans).from p) events) (InStretch events ((told.spans).from p) ((told.spans).to p)) p a p.turn.answer) boot.act_is ((told.tells).hears p at))).1

  -- the bootstrap's node has its name in the first placement, too
  own : OfNode was (t.joining).node (λ name. name ≡ (f.bootstrap).name)
  own =
      let listed = ((lawful.spread t.shard (at_in was.shards number t.shard t.shard_is)).listed) t.joining t.joins in
      let everywhere = name_everywhere events legal node next (f.bootstrap).name led (f.bootstrap).named in
      record { instance_ = listed.0; stands = listed.1; holds = everywhere i was done listed.0 there (subst (λ n. slice_get was.instances n ≡ Some listed.0) t.of_node listed.1) }

  -- so each runs, and was begun
  serves : (q : ℕ) → IsIn f.names q → IsRunningAt p was q × IsBegunFor life.present.start p was number q
  serves q m =
      let fence = fenced (number, f.names) f.printed q m in
      let other = former_named was lawful number t.shard t.shard_is t.joining t.joins t.is_joining (f.bootstrap).name own q ((f.enough).within q m) (known q m).0 (known q m).1 in
      fenced_serves life.present.start life.present.turns events legal told served.halts p at (f.bootstrap).name (f.bootstrap).asked (f.bootstrap).act_is was q number (known q m).0 (known q m).1 (everywhere q m) other fence.0 fence.1

  pub joins : IsJoiningTurn life.present.start p was next number node t.shard
  joins = record {
    available = f.available;
    bootstrap = f.bootstrap;
    names = f.names;
    printed = f.printed;
    peers = record { by_name = by_name; within = (f.enough).within; running = λ q m. (serves q m).0; begun = λ q m. (serves q m).1; enough = (f.enough).enough };
  }

pub run_joined : {tells : Bool} → IsJoinedWhereTold tells
run_joined life events legal told taking delivered served was next among_was among_next number node t =
    let found = told_joined life events legal told was next among_was among_next number node t in
    let place = placed (life.present).start (life.present).turns events told was among_was in
    let led = placed (life.present).start (life.present).turns events told next among_next in
    (found.0, found.1, joins life events legal told taking delivered served was next place.0 place.1 place.2 (record { place_at = led.0; done = led.1; there = led.2 }) number node t found.0 found.1 found.2)
