-- Acts that change the state of a cluster that stands, in two parts.
use Rattle.std.proofs.Common.{◌≡◌, ℕ, [], refl, sym, subst, ◌∙◌, inl, inr, true, false}
use Rattle.std.specs.Prelude.{Option, Some, None}
use Rattle.std.proofs.lemmas.Option.{same_Some}
use Rattle.m3_model.specs.declared.act.Act.{Act}
use Rattle.m3_model.specs.declared.act.Act.TheVariants as act
use Rattle.m3_model.specs.declared.answer.Answer.{Answer}
use Rattle.m3_model.specs.declared.answer.Answer.TheVariants as answer
use Rattle.m3_model.specs.declared.rules.Rules.{Rules}
use Rattle.m3_model.specs.declared.rules.Space.{Space}
use Rattle.m3_outside.specs.Depots.{Depot}
use Rattle.m3_outside.specs.DiskState.{DiskState}
use Rattle.m3_outside.specs.declared.disk.Disk.{Ghosts}
use Rattle.m3_outside.specs.Slots.{Held}
use Rattle.m3_outside.specs.declared.slot.DiskSlot.{DiskSlot}
use Rattle.placement_acts.specs.Acts.{LeadsNowhere, is_step_act}
use Rattle.line_tracks.specs.session_net.Ready.{IsReady}
use Rattle.line_tracks.specs.cluster_members.Steps.{IsMoved, IsSpaceAdded, MaySetRules, RefusesMove, RefusesSpace, SetsRules}
use Rattle.line_tracks.specs.cluster_members.declared.members.Members.{Members}
use Rattle.line_tracks.proofs.cluster_members_proofs.PlanLemmas.{move_refused, space_refused}
use Rattle.line_tracks.specs.cluster_placements.Steps.{IsChange, IsChanged, MakesPlanned, MayChange, kept_in}
use Rattle.line_tracks.specs.cluster_placements.declared.plan.Change.{Change}
use Rattle.line_tracks.specs.tracks.Acts.{Does, IsServedBy, IsStepAnswer, next_call}
use Rattle.line_tracks.specs.tracks.Slots.{is_bootstrap}
use Rattle.served_cluster.specs.Acts.{Serves}
use Rattle.served_cluster.specs.Plans.{IsPlannedBy, IsPlannedOn, MakesOn, RefusesOn, changes_state, is_placed, state_after}
use Rattle.served_cluster.specs.declared.cluster.Cluster.{Cluster}
use Rattle.served_cluster.specs.declared.plan.Plan.{Plan}
use Rattle.served_cluster.specs.declared.plan.Plan.TheVariants as plan
use Rattle.served_cluster.proofs.KeptLemmas.{may_change, ready_on, ready_still}
use Rattle.served_cluster.proofs.OwnLemmas.{none_changed, owned_after, serves_step}

-- ---- refused before anything changes

step_refused : {D : Type 0} {G : Ghosts D} (state : D → DiskState) (m : Members D G) (a : Act) (b : Answer) (depot : Depot D) → LeadsNowhere (Some m.net.state.place) (kept_in m) a b → IsChanged state (kept_in m) a depot m b depot m
step_refused state m a b depot h = inr (inl (record {
  nowhere = h;
  same = record { state_is = refl; past = refl; replicas = refl; fates = refl; bag = refl; slots = refl; stopped = refl };
  depot_is = refl;
}))

-- so it serves the act
pub refused_serves : {D : Type 0} {G : Ghosts D} (state : D → DiskState) (c : Cluster D G) (m : Members D G) (a : Act) (b : Answer) → c.members ≡ Some m → changes_state a ≡ true → RefusesOn m a b → (depot : Depot D) → Serves state depot c a b depot c
refused_serves {D} {G} state c m a b is = by a
  where
    step : (x : Act) → is_step_act x ≡ true → LeadsNowhere (Some m.net.state.place) (kept_in m) x b → (depot : Depot D) → Serves state depot c x b depot c
    step x steps h depot = serves_step state depot c x b depot c steps (subst (λ (o : Option (Members D G)). IsStepAnswer state depot o x b depot o) (sym is) (m, refl, step_refused state m x b depot h)) refl

    by : (x : Act) → changes_state x ≡ true → RefusesOn m x b → (depot : Depot D) → Serves state depot c x b depot c
    by (act.Namespace name block past future retention) changes h depot =
        let space : Space = record { name = name; block = block; past = past; future = future; retention = retention } in
        record { members = subst (λ (o : Option (Members D G)). IsServedBy state c.calls depot o (act.Namespace name block past future retention) b depot o) (sym is) ((m, refl, space_refused state m space b h), refl); calls = refl }
    by (act.Now now) changes h depot = record { members = subst (λ (o : Option (Members D G)). IsServedBy state c.calls depot o (act.Now now) b depot o) (sym is) ((m, refl, move_refused state m now b h), refl); calls = refl }
    by (act.Add node group) changes h depot = step (act.Add node group) refl h depot
    by (act.Drain node) changes h depot = step (act.Drain node) refl h depot
    by (act.Cancel node) changes h depot = step (act.Cancel node) refl h depot
    by (act.Remove node) changes h depot = step (act.Remove node) refl h depot
    by (act.Replace node with_ group) changes h depot = step (act.Replace node with_ group) refl h depot
    by _ changes h depot = cc

-- where none stands it is out of order
pub order_serves : {D : Type 0} {G : Ghosts D} (state : D → DiskState) (c : Cluster D G) (a : Act) → c.members ≡ None → changes_state a ≡ true → (depot : Depot D) → Serves state depot c a answer.Order depot c
order_serves {D} {G} state c a none = by a
  where
    by : (x : Act) → changes_state x ≡ true → (depot : Depot D) → Serves state depot c x answer.Order depot c
    by (act.Namespace name block past future retention) changes depot = record { members = subst (λ (o : Option (Members D G)). IsServedBy state c.calls depot o (act.Namespace name block past future retention) answer.Order depot o) (sym none) ((refl, refl), refl); calls = refl }
    by (act.Now now) changes depot = record { members = subst (λ (o : Option (Members D G)). IsServedBy state c.calls depot o (act.Now now) answer.Order depot o) (sym none) ((refl, refl), refl); calls = refl }
    by (act.Add node group) changes depot = serves_step state depot c (act.Add node group) answer.Order depot c refl (none_changed state depot c.members (act.Add node group) none) refl
    by (act.Drain node) changes depot = serves_step state depot c (act.Drain node) answer.Order depot c refl (none_changed state depot c.members (act.Drain node) none) refl
    by (act.Cancel node) changes depot = serves_step state depot c (act.Cancel node) answer.Order depot c refl (none_changed state depot c.members (act.Cancel node) none) refl
    by (act.Remove node) changes depot = serves_step state depot c (act.Remove node) answer.Order depot c refl (none_changed state depot c.members (act.Remove node) none) refl
    by (act.Replace node with_ group) changes depot = serves_step state depot c (act.Replace node with_ group) answer.Order depot c refl (none_changed state depot c.members (act.Replace node with_ group) none) refl
    by _ changes depot = cc

-- ---- made

-- rules that were planned may be set
pub may_set : {D : Type 0} {G : Ghosts D} (m : Members D G) (a : Act) (rules : Rules) → IsPlannedOn m a (plan.Rules rules) → MaySetRules m rules
may_set m (act.Namespace name block past future retention) rules h = h.may_set
may_set m (act.Now now) rules h = h.may_set
may_set m _ rules h = absurd h

-- and are the act's
pub rules_make : {D : Type 0} {G : Ghosts D} (state : D → DiskState) (depot : Depot D) (m g : Members D G) (a : Act) (rules : Rules) → IsPlannedOn m a (plan.Rules rules) → SetsRules state rules m g → MakesOn state depot m a answer.Done depot g
rules_make state depot m g (act.Namespace name block past future retention) rules h sets = ((h.may_name, subst (λ (r : Rules). SetsRules state r m g) h.rules_are sets), refl)
rules_make state depot m g (act.Now now) rules h sets = ((h.not_lower, subst (λ (r : Rules). SetsRules state r m g) h.rules_are sets), refl)
rules_make state depot m g _ rules h sets = absurd h

-- the cluster may change again once they are set
pub rules_may : {D : Type 0} {G : Ghosts D} (state : D → DiskState) (held : DiskSlot → Held D) (m g : Members D G) (a : Act) (rules : Rules) → IsPlannedOn m a (plan.Rules rules) → SetsRules state rules m g → IsReady g.net.state g.net.replicas g.net.bag → MayChange m held → MayChange g held
rules_may {D} {G} state held m g a rules h sets ready may = by a h
  where
    on : (x : Act) → is_bootstrap x ≡ false → Does state (next_call []) m x answer.Done g → MayChange g held
    on x other does = may_change g held (owned_after state held (Some m) x answer.Done [] (Some g) other (g, refl, does) may.out) (ready_on state m g (next_call []) x answer.Done other does (ready_still m held may) ready)

    by : (x : Act) → IsPlannedOn m x (plan.Rules rules) → MayChange g held
    by (act.Namespace name block past future retention) h = on (act.Namespace name block past future retention) refl (h.may_name, subst (λ (r : Rules). SetsRules state r m g) h.rules_are sets)
    by (act.Now now) h = on (act.Now now) refl (h.not_lower, subst (λ (r : Rules). SetsRules state r m g) h.rules_are sets)
    by _ h = absurd h

-- a placement that was planned is that of an act that makes one
pub next_of : {D : Type 0} {G : Ghosts D} (m : Members D G) (a : Act) (change : Change) → IsPlannedOn m a (plan.Next change) → (is_step_act a ≡ true) × IsChange m (kept_in m) a change
next_of m (act.Namespace name block past future retention) change h = h
next_of m (act.Now now) change h = h
next_of m _ change h = h

pub step_makes : {D : Type 0} {G : Ghosts D} (state : D → DiskState) (depot after : Depot D) (m g : Members D G) (a : Act) (b : Answer) → is_step_act a ≡ true → IsChanged state (kept_in m) a depot m b after g → MakesOn state depot m a b after g
step_makes state depot after m g (act.Namespace name block past future retention) b step h = cc
step_makes state depot after m g (act.Now now) b step h = cc
step_makes state depot after m g _ b step h = h

pub step_state : {D : Type 0} {G : Ghosts D} (state : D → DiskState) (depot after : Depot D) (m g : Members D G) (change : Change) (b : Answer) → MakesPlanned state depot m change.next b after g → g.net.state ≡ state_after (is_placed b) (plan.Next change) m.net.state
step_state state depot after m g change (answer.Placed place version) h = h.2.state_is
step_state state depot after m g change _ h = h.state_is

-- what is made serves the act
pub made_serves : {D : Type 0} {G : Ghosts D} (state : D → DiskState) (depot after : Depot D) (old new : Cluster D G) (m g : Members D G) (a : Act) (b : Answer) → old.members ≡ Some m → new.members ≡ Some g → new.calls ≡ old.calls → changes_state a ≡ true → MakesOn state depot m a b after g
    → Serves state depot old a b after new
made_serves {D} {G} state depot after old new m g a b is is_new calls = by a
  where
    step : (x : Act) → is_step_act x ≡ true → IsChanged state (kept_in m) x depot m b after g → Serves state depot old x b after new
    step x steps h = serves_step state depot old x b after new steps (subst (λ (o : Option (Members D G)). IsStepAnswer state depot o x b after new.members) (sym is) (g, is_new, h)) calls

    by : (x : Act) → changes_state x ≡ true → MakesOn state depot m x b after g → Serves state depot old x b after new
    by (act.Namespace name block past future retention) changes h =
        record { members = subst (λ (o : Option (Members D G)). IsServedBy state old.calls depot o (act.Namespace name block past future retention) b after new.members) (sym is) ((g, is_new, h.0), h.1); calls = calls }
    by (act.Now now) changes h = record { members = subst (λ (o : Option (Members D G)). IsServedBy state old.calls depot o (act.Now now) b after new.members) (sym is) ((g, is_new, h.0), h.1); calls = calls }
    by (act.Add node group) changes h = step (act.Add node group) refl h
    by (act.Drain node) changes h = step (act.Drain node) refl h
    by (act.Cancel node) changes h = step (act.Cancel node) refl h
    by (act.Remove node) changes h = step (act.Remove node) refl h
    by (act.Replace node with_ group) changes h = step (act.Replace node with_ group) refl h
    by _ changes h = cc

-- each planned act is one that changes the state
pub planned_changes : {D : Type 0} {G : Ghosts D} (m : Members D G) (a : Act) (made : Plan) → IsPlannedOn m a made → changes_state a ≡ true
planned_changes m (act.Namespace name block past future retention) made h = refl
planned_changes m (act.Now now) made h = refl
planned_changes m (act.Add node group) made h = refl
planned_changes m (act.Drain node) made h = refl
planned_changes m (act.Cancel node) made h = refl
planned_changes m (act.Remove node) made h = refl
planned_changes m (act.Replace node with_ group) made h = refl
planned_changes m _ (plan.Rules rules) h = absurd h
planned_changes m _ (plan.Next change) h = cc

-- what was planned of a cluster was planned of its members
pub planned_here : {D : Type 0} {G : Ghosts D} (c : Cluster D G) (m : Members D G) (a : Act) (made : Plan) → c.members ≡ Some m → IsPlannedBy c a made → IsPlannedOn m a made
planned_here {D} {G} c m a made is planned =
    let both : Some planned.0 ≡ Some m = sym planned.1 ∙ is in
    subst (λ (x : Members D G). IsPlannedOn x a made) (same_Some planned.0 m both) planned.2
