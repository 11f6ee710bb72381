-- The state to which a plan leads may be saved, and is the one to which the line leads.
use Rattle.std.proofs.Common.{◌≡◌, ap, refl, subst, sym, true, false}
use Rattle.std.specs.Prelude.{Some}
use Rattle.m3_model.specs.Limits.{MeetsLimits}
use Rattle.m3_model.specs.declared.act.Act.{Act}
use Rattle.m3_model.specs.declared.act.Act.TheVariants as act
use Rattle.m3_model.specs.declared.rules.MetaState.{MetaState}
use Rattle.m3_model.specs.declared.rules.Rules.{Rules}
use Rattle.m3_model.specs.declared.turn.Request.TheVariants as request
use Rattle.m3_outside.specs.declared.disk.Disk.{Ghosts}
use Rattle.placement_acts.specs.Acts.{is_step_act}
use Rattle.line_tracks.specs.cluster_members.declared.members.Members.{Members}
use Rattle.line_tracks.specs.cluster_placements.Steps.{IsChange, kept_in}
use Rattle.line_tracks.specs.cluster_placements.declared.plan.Change.{Change}
use Rattle.meta_bytes.specs.States.{IsMetaState}
use Rattle.served_cluster.specs.Plans.{IsPlannedOn, by_plan}
use Rattle.served_cluster.specs.declared.cluster.Cluster.{Cluster}
use Rattle.served_cluster.specs.declared.plan.Plan.{Plan}
use Rattle.served_cluster.specs.declared.plan.Plan.TheVariants as plan
use Rattle.served_cluster.proofs.PlanLemmas.{next_of}
use Rattle.saved_cluster.specs.Saved.{RunsOn}
use Rattle.saved_cluster.specs.States.{IsNextState, LeadsToState}
use Rattle.saved_cluster.proofs.StateLemmas.{moment_lawful, place_lawful, space_lawful}

-- it is one that a cluster may have
pub planned_lawful : {D : Type 0} {G : Ghosts D} (m : Members D G) (a : Act) (made : Plan) → MeetsLimits a → IsPlannedOn m a made → IsMetaState m.net.state → IsMetaState (by_plan made m.net.state)
planned_lawful m (act.Namespace name block past future retention) (plan.Rules rules) limits h was =
    let state : MetaState = m.net.state in
    subst (λ (r : Rules). IsMetaState (record state { rules = r })) (sym h.rules_are) (space_lawful state (record { name = name; block = block; past = past; future = future; retention = retention }) was h.may_name limits)
planned_lawful m (act.Now now) (plan.Rules rules) limits h was =
    let state : MetaState = m.net.state in
    subst (λ (r : Rules). IsMetaState (record state { rules = r })) (sym h.rules_are) (moment_lawful state now was limits)
planned_lawful m a (plan.Next change) limits h was = place_lawful m.net.state change.next was (next_of m a change h).1.leads.lawful
planned_lawful m _ (plan.Rules rules) limits h was = absurd h

step_leads : {D : Type 0} {G : Ghosts D} (m : Members D G) (a : Act) (change : Change) → is_step_act a ≡ true → IsChange m (kept_in m) a change → LeadsToState (Some m.net.state) (kept_in m) a (by_plan (plan.Next change) m.net.state)
step_leads m (act.Namespace name block past future retention) change step h = cc
step_leads m (act.Now now) change step h = cc
step_leads m (act.Bootstrap node shard) change step h = cc
step_leads m _ change step h = record { leads = h.leads.leads; rules = refl; seed_is = refl }

-- and the one to which the line leads
pub planned_leads : {D : Type 0} {G : Ghosts D} (m : Members D G) (a : Act) (made : Plan) → IsPlannedOn m a made → LeadsToState (Some m.net.state) (kept_in m) a (by_plan made m.net.state)
planned_leads m (act.Namespace name block past future retention) (plan.Rules rules) h = let state : MetaState = m.net.state in (h.may_name, ap (λ (r : Rules). record state { rules = r }) h.rules_are)
planned_leads m (act.Now now) (plan.Rules rules) h = let state : MetaState = m.net.state in (h.not_lower, ap (λ (r : Rules). record state { rules = r }) h.rules_are)
planned_leads m a (plan.Next change) h = let of = next_of m a change h in step_leads m a change of.0 of.1
planned_leads m _ (plan.Rules rules) h = absurd h

-- no bootstrap is planned so
pub planned_runs : {D : Type 0} {G : Ghosts D} (c : Cluster D G) (m : Members D G) (a : Act) (made : Plan) → IsPlannedOn m a made → RunsOn c (request.One a)
planned_runs c m (act.Bootstrap node shard) (plan.Next change) h =
    let step : is_step_act (act.Bootstrap node shard) ≡ true = (next_of m (act.Bootstrap node shard) change h).0 in
    cc
planned_runs c m (act.Bootstrap node shard) (plan.Rules rules) h = absurd h
planned_runs c m _ made h = tt
