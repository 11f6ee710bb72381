-- What a line that is saved leads to, what it may be answered, and what stops leave as it is served.
use Rattle.std.proofs.Common.{◌≡◌, ◌≢◌, ◌≤◌, ◌<◌, ℕ, List, [], refl, sym, ap, subst, ◌∙◌, inl, inr, arith, Bool, true, false}
use Rattle.std.specs.Prelude.{Option, Some, None, Result, Ok, Err, IfErr, IfOk, IfSome, IsErrOf, option_map}
use Rattle.std.specs.FinMap.{empty}
use Rattle.std.specs.Option.{is_some}
use Rattle.std.specs.Result.{result_ok}
use Rattle.std.proofs.lemmas.List.Elements.{All-nil}
use Rattle.std.proofs.lemmas.Option.{same_Some}
use Rattle.m3_model.specs.Limits.{IsInit, MeetsLimits}
use Rattle.m3_model.specs.declared.act.Act.{Act}
use Rattle.m3_model.specs.declared.act.Act.TheVariants as act
use Rattle.m3_model.specs.declared.answer.Answer.{Answer}
use Rattle.m3_model.specs.declared.answer.Answer.TheVariants as answer
use Rattle.m3_model.specs.declared.memory.Memory.{Memory}
use Rattle.m3_model.specs.declared.rules.MetaState.{MetaState}
use Rattle.m3_model.specs.declared.rules.Rules.{Rules}
use Rattle.m3_model.specs.declared.turn.Request.TheVariants as request
use Rattle.m3_outside.specs.Depots.{Depot}
use Rattle.m3_outside.specs.DiskState.{DiskState, Elapses}
use Rattle.m3_outside.specs.Slots.{Held, Out}
use Rattle.m3_outside.specs.declared.disk.Disk.{Ghosts}
use Rattle.m3_outside.specs.declared.slot.DiskSlot.{DiskSlot}
use Rattle.placement_log.specs.MetaHolds.{KeepsLast, MetaEnd}
use Rattle.placement_log.specs.States.{MayBeState}
use Rattle.meta_bytes.specs.States.{AreSpaces, IsMetaState, IsSpaceOf}
use Rattle.line_tracks.specs.placement_core.Lawful.{IsLawful}
use Rattle.line_tracks.specs.session_net.Ready.{IsReady}
use Rattle.line_tracks.specs.cluster_members.declared.members.Members.{Members}
use Rattle.line_tracks.specs.first_cluster.Depots.{IsForReplicas, OwnedBy}
use Rattle.line_tracks.specs.first_cluster.First.{opening_of}
use Rattle.line_tracks.specs.first_cluster.Lending.{HasReturned}
use Rattle.line_tracks.specs.first_cluster.Slots.{starts_of}
use Rattle.line_tracks.proofs.first_cluster_proofs.FirstLemmas.{first_out}
use Rattle.line_tracks.specs.cluster_placements.Steps.{kept_in}
use Rattle.line_tracks.specs.tracks.Acts.{IsInitAnswer}
use Rattle.line_tracks.specs.tracks.Lines.{EachMember}
use Rattle.served_cluster.specs.Acts.{Serves, is_init}
use Rattle.served_cluster.specs.Owned.{AreReady, MayServeCluster}
use Rattle.served_cluster.specs.Plans.{IsPlannedBy, IsPlannedOn, RefusesOn, by_plan, state_after, state_of}
use Rattle.served_cluster.specs.declared.cluster.Cluster.{Cluster}
use Rattle.served_cluster.specs.declared.plan.Plan.{Plan}
use Rattle.served_cluster.specs.declared.plan.Plan.TheVariants as plan
use Rattle.served_cluster.proofs.KeptLemmas.{first_ready, first_serves}
use Rattle.served_cluster.proofs.OwnLemmas.{none_returned, refused_returned}
use Rattle.served_cluster.proofs.PlanLemmas.{planned_changes, refused_serves}
use Rattle.saved_cluster.specs.Saved.{IsReadyFor, Leads}
use Rattle.saved_cluster.specs.States.{LeadsToState, is_init_request, kept_of}
use Rattle.saved_cluster.specs.declared.lost.Lost.{Lost}
use Rattle.saved_cluster.specs.declared.lost.Lost.TheVariants as lost
use Rattle.saved_cluster.proofs.PlanLemmas.{planned_lawful, planned_leads, planned_runs}

-- ---- stops

-- where nothing was done, stops leave what they left
pub elapses_same : (d : DiskState) → Elapses KeepsLast d d
elapses_same d = record {
  later = omega arith;
  images = λ c image. record { before = c; was = image; stepped = record { last = λ last h. h; others = λ q other. refl } };
  nothing_else = λ t c low since. inl since;
  keeps = λ t c low since. since;
}

-- ---- want of memory

may_want : {D : Type 0} {G : Ghosts D} (m : Members D G) (a : Act) (made : Plan) → IsPlannedOn m a made → RefusesOn m a answer.Memory
may_want m (act.Namespace name block past future retention) (plan.Rules rules) h = h.may_name
may_want m (act.Now now) (plan.Rules rules) h = h.not_lower
may_want m (act.Namespace name block past future retention) (plan.Next change) h = (let never = h.0 in cc)
may_want m (act.Now now) (plan.Next change) h = (let never = h.0 in cc)
may_want m _ (plan.Next change) h = inl refl
may_want m _ (plan.Rules rules) h = absurd h

-- what was planned may still be refused for want of memory
pub wanted_serves : {D : Type 0} {G : Ghosts D} (state : D → DiskState) (c : Cluster D G) (a : Act) (made : Plan) → IsPlannedBy c a made → (depot : Depot D) → Serves state depot c a answer.Memory depot c
wanted_serves state c a made planned = refused_serves state c planned.0 a answer.Memory planned.1 (planned_changes planned.0 a made planned.2) (may_want planned.0 a made planned.2)

-- ---- the state that a plan leads to

pub state_is : {D : Type 0} {G : Ghosts D} (c : Cluster D G) (m : Members D G) → c.members ≡ Some m → state_of c ≡ Some m.net.state
state_is {D} {G} c m is = ap (option_map (λ (x : Members D G). x.net.state)) is

pub kept_is : {D : Type 0} {G : Ghosts D} (c : Cluster D G) (m : Members D G) → c.members ≡ Some m → kept_of c ≡ kept_in m
kept_is {D} {G} c m is = ap (λ (o : Option (Members D G)). kept_of (record c { members = o })) is

module _ {D : Type 0} {G : Ghosts D} (c : Cluster D G) (a : Act) (made : Plan) (planned : IsPlannedBy c a made) (next : MetaState) (leads : Some next ≡ option_map (by_plan made) (state_of c)) where
  next_is : next ≡ by_plan made planned.0.net.state
  next_is = let both = leads ∙ ap (option_map (by_plan made)) (state_is c planned.0 planned.1) in same_Some next (by_plan made planned.0.net.state) both

  -- it may be saved
  pub plan_lawful : MeetsLimits a → MayBeState (state_of c) → IsMetaState next
  plan_lawful limits was = subst IsMetaState (sym next_is) (planned_lawful planned.0 a made limits planned.2 (subst MayBeState (state_is c planned.0 planned.1) was))

  -- and the line leads to it
  plan_leads_to : LeadsToState (state_of c) (kept_of c) a next
  plan_leads_to =
      subst (λ (n : MetaState). LeadsToState (state_of c) (kept_of c) a n) (sym next_is)
      (subst (λ (o : Option MetaState). LeadsToState o (kept_of c) a (by_plan made planned.0.net.state)) (sym (state_is c planned.0 planned.1))
      (subst (λ (k : ℕ). LeadsToState (Some planned.0.net.state) k a (by_plan made planned.0.net.state)) (sym (kept_is c planned.0 planned.1)) (planned_leads planned.0 a made planned.2)))

  pub plan_leads : Leads c (request.One a) next
  plan_leads = record { to = plan_leads_to; runs = planned_runs c planned.0 a made planned.2 }

-- what was made is what was planned
pub state_made : (b : Bool) (made : Plan) (o : Option MetaState) → b ≡ true → option_map (state_after b made) o ≡ option_map (by_plan made) o
state_made b made None is = refl
state_made b made (Some s) is = ap (λ t. Some (state_after t made s)) is

-- and where nothing was, the state stays
pub state_unmade : (b : Bool) (made : Plan) (o : Option MetaState) → b ≡ false → option_map (state_after b made) o ≡ o
state_unmade b made None is = refl
state_unmade b made (Some s) is = ap (λ t. Some (state_after t made s)) is

-- a state that was made is this one, where memory sufficed to make it
pub made_lawful : (made : Result MetaState Memory) (o : Option MetaState) → IfOk made (λ next. Some next ≡ o) → ((next : MetaState) → Some next ≡ o → IsMetaState next) → IfSome (result_ok made) IsMetaState
made_lawful (Ok next) o is lawful = lawful next is
made_lawful (Err e) o is lawful = tt

pub made_ready : (made : Result MetaState Memory) (o : Option MetaState) (log : MetaEnd) (d : DiskState) → IfOk made (λ next. Some next ≡ o) → IsReadyFor (result_ok made) log d → IsReadyFor o log d
made_ready (Ok next) o log d is ready = subst (λ x. IsReadyFor x log d) is ready
made_ready (Err e) o log d is ready = absurd ready

-- ---- a first cluster

no_spaces : AreSpaces []
no_spaces = record { few = omega arith; each = All-nil IsSpaceOf; distinct = tt }

-- its state may be saved
pub first_lawful : (rf shards seed : ℕ) (nodes : List (List ℕ × List ℕ)) (s : MetaState) → IsInit rf shards seed nodes → IsLawful s.place → s.rules ≡ record { now = 0; spaces = [] } → s.seed ≡ seed → IsMetaState s
first_lawful rf shards seed nodes s limits lawful rules is = record {
  moment = (let none : s.rules.now ≡ 0 = ap (λ (r : Rules). r.now) rules in omega (arith, none));
  seed = (let fits = limits.seed_fits in omega (arith, fits, is));
  place = lawful;
  spaces = subst (λ (r : Rules). AreSpaces r.spaces) (sym rules) no_spaces;
}

-- whatever an `init` is answered, the cluster may serve
pub init_serves : {D : Type 0} {G : Ghosts D} (state : D → DiskState) (rf shards seed : ℕ) (nodes : List (List ℕ × List ℕ)) (before after : Depot D) (b : Answer) (new : Cluster D G) → ((disk_slot : DiskSlot) → IsForReplicas disk_slot → before.held disk_slot ≢ Out)
    → IsInitAnswer state before None rf shards seed nodes b after new.members → EachMember new.members (λ m. IsReady m.net.state m.net.replicas m.net.bag) → MayServeCluster new after.held
init_serves {D} {G} state rf shards seed nodes before after b new free = by b
  where
    refused : (said : Answer) → new.members ≡ None → HasReturned state before empty after → MayServeCluster new after.held
    refused said none given = record {
      owned = subst (λ (o : Option (Members D G)). OwnedBy o after.held) (sym none) (none_returned state before after free given);
      ready = subst (λ (o : Option (Members D G)). AreReady o) (sym none) tt;
    }

    by : (said : Answer) → IsInitAnswer state before None rf shards seed nodes said after new.members → EachMember new.members (λ m. IsReady m.net.state m.net.replicas m.net.bag) → MayServeCluster new after.held
    by (answer.Placed place version) h each =
        let m = h.1 in
        let own = first_out state m.slots.items (starts_of m.net.state.place) (opening_of m.net.state) before after m.net.replicas free h.3.opened in
        let ready = subst (λ (o : Option (Members D G)). EachMember o (λ m. IsReady m.net.state m.net.replicas m.net.bag)) h.2 each in
        first_serves new m after.held h.2 own (first_ready state rf shards seed nodes before after m h.3 ready own)
    by answer.Order h each = let clash : false ≡ true = h.0 in cc
    by said h each = refused said h.1 (refused_returned state rf shards seed nodes before after said h.2)

-- ---- whether one stands

some_by : {X Y : Type 0} (f : X → Y) (o : Option X) → is_some (option_map f o) ≡ is_some o
some_by f None = refl
some_by f (Some x) = refl

-- where a state is there, a cluster stands, and else none
pub stands_by : {D : Type 0} {G : Ghosts D} {R : Type 0} (c : Cluster D G) (now : R → MetaState) (found : Option R) → option_map now found ≡ state_of c → is_some c.members ≡ is_some found
stands_by {D} {G} c now found is = sym (some_by (λ (m : Members D G). m.net.state) c.members) ∙ ap is_some (sym is) ∙ some_by now found

-- ---- requests, and errors of other results

-- the meta disk failed, so no memory was wanted
pub no_want : (r : Result Answer Lost) → IfErr r (λ e. e ≡ lost.Meta) → IsErrOf r lost.Memory → ⊥
no_want (Ok b) meta is = cc
no_want (Err e) meta is = let clash : ◌≡◌ {A = Result Answer Lost} (Err lost.Meta) (Err lost.Memory) = ap Err (sym meta) ∙ is in cc

abbrev lost_or : {T : Type 0} → Lost → Result T Lost → Lost
lost_or e (Ok x) = e
lost_or e (Err f) = f

-- why a request got no reply is why its act got no answer
pub err_as : (A B : Type 0) (e f : Lost) → IsErrOf {T = A} (Err e) f → IsErrOf {T = B} (Err e) f
err_as A B e f is = let same : e ≡ f = ap (lost_or f) is in ap Err same

pub init_of : (a : Act) → is_init_request (request.One a) ≡ is_init a
init_of (act.Init rf shards seed nodes) = refl
init_of _ = refl
