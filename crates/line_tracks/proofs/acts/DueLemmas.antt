-- Which refusal is due, from what the turns left.
use Rattle.std.proofs.Common.{◌≡◌, ℕ, ◌<◌, ◌≤◌, List, [], ◌∷◌, length, map, refl, sym, ap, ap₂, ◌∙◌, Bool, true, false, cond, not, inl, inr}
use Rattle.std.specs.Prelude.{Option, Some, None, option_map, is_some, nat_eq, nat_le, nat_lt, decimal, if◌then◌else◌}
use Rattle.std.specs.List.{list_any}
use Rattle.std.specs.Option.{option_or}
use Rattle.std.proofs.lemmas.Bool.{eq-eqb, le-leb, le-ltb, lt-leb, lt-ltb, ne_eqb, or_from, or_left, or_right}
use Rattle.std.proofs.lemmas.Option.{same_Some}
use Rattle.m3_model.specs.Members.{IsIn}
use Rattle.m3_model.specs.Rules.{namespace_position}
use Rattle.m3_model.specs.declared.act.Act.{Act}
use Rattle.m3_model.specs.declared.act.Act.TheVariants as act
use Rattle.m3_model.specs.declared.answer.Answer.{Answer}
use Rattle.m3_model.specs.declared.answer.Answer.TheVariants as answer
use Rattle.m3_model.specs.declared.limits.TheConstants.{MOST_NAMESPACES}
use Rattle.m3_model.specs.declared.placement.Placement.{Placement}
use Rattle.m3_model.specs.declared.rules.MetaState.{MetaState}
use Rattle.m3_model.specs.declared.rules.Rules.{Rules}
use Rattle.m3_model.specs.declared.turn.Turn.{Turn}
use Rattle.placement_core.specs.NodeNames.{is_listed}
use Rattle.told_runs.specs.told_by.Lines.{position_after}
use Rattle.told_runs.specs.told_moves.Order.{IsInitAct}
use Rattle.transcripts.specs.Fates.{is_stopped}
use Rattle.transcripts.specs.Placements.{placements}
use Rattle.transcripts.specs.Record.{inner_turns}
use Rattle.transcripts.specs.Refusals.{missing_in, missing_shard, missing_version, refusal_by}
use Rattle.transcripts.specs.Rules.{rules_after, start_rules}
use Rattle.transcripts.proofs.RefusalLemmas.{step_refusal}
use Rattle.node_calls.proofs.cluster_members_proofs.NameLemmas.{node_found}
use Rattle.line_tracks.specs.acts.Due.{BootstrapsAreDue, CallsAreDue, DeliveriesAreDue, FatesAreDue, FirstInitIsFree, FlagsTell, HaveLeft, InitsAreDue, IsDueNext, IsKnown, MomentsAreDue, NamespacesAreDue, OrderIsDue, RestartsAreDue, SpaceDue, StepsAreDue, StopsAreDue}
use Rattle.line_tracks.proofs.acts.NameLemmas.{listed_where, missing_same, none_missing, unlisted_where}

-- what is due, by the placement, the versions, the rules and the stopped nodes
refused_with : (start : Option MetaState) (turns : List Turn) (place : Option Placement) (rules : Rules) → HaveLeft start turns place rules → (a : Act) (b : Answer) (refusal : Option Answer)
    → refusal_by place (map (λ (p : Placement). p.version) (placements start (inner_turns turns))) rules (is_stopped (inner_turns turns)) a ≡ refusal → IsDueNext start turns a b refusal
refused_with start turns place rules left a b refusal is =
    let stopped = is_stopped (inner_turns turns) in
    let versions = map (λ (p : Placement). p.version) (placements start (inner_turns turns)) in
    ap (λ (o : Option Placement). refusal_by o versions (rules_after (start_rules start) (inner_turns turns)) stopped a) left.place_is ∙ ap (λ (r : Rules). refusal_by place versions r stopped a) left.rules_are ∙ is

-- the same, whatever the versions are
pub refused_by : (start : Option MetaState) (turns : List Turn) (place : Option Placement) (rules : Rules) → HaveLeft start turns place rules → (a : Act) (b : Answer) (refusal : Option Answer)
    → ((versions : List ℕ) → refusal_by place versions rules (is_stopped (inner_turns turns)) a ≡ refusal) → IsDueNext start turns a b refusal
refused_by start turns place rules left a b refusal by = refused_with start turns place rules left a b refusal (by _)

-- ---- where no placement stands

order_by : (a : Act) → ¬ IsInitAct a → (versions : List ℕ) (rules : Rules) (stopped : List ℕ → Bool) → refusal_by None versions rules stopped a ≡ Some answer.Order
order_by (act.Init rf shards seed nodes) other versions rules stopped = absurd (other tt)
order_by _ other versions rules stopped = refl

pub order_is_due : OrderIsDue
order_is_due start turns none a b other = refused_by start turns None (rules_after (start_rules start) (inner_turns turns)) (record { rules_are = refl; place_is = none }) a b (Some answer.Order) (λ versions. order_by a other versions _ _)

init_by : (a : Act) → IsInitAct a → (versions : List ℕ) (rules : Rules) (stopped : List ℕ → Bool) → refusal_by None versions rules stopped a ≡ None
init_by (act.Init rf shards seed nodes) is versions rules stopped = refl
init_by _ is versions rules stopped = absurd is

pub first_init_is_free : FirstInitIsFree
first_init_is_free start turns none a b is = refused_by start turns None (rules_after (start_rules start) (inner_turns turns)) (record { rules_are = refl; place_is = none }) a b None (λ versions. init_by a is versions _ _)

-- ---- rules

again_by : (place : Placement) (a : Act) → IsInitAct a → (versions : List ℕ) (rules : Rules) (stopped : List ℕ → Bool) → refusal_by (Some place) versions rules stopped a ≡ Some answer.Order
again_by place (act.Init rf shards seed nodes) is versions rules stopped = refl
again_by place _ is versions rules stopped = absurd is

pub inits_are_due : InitsAreDue
inits_are_due start turns place rules left a b is = refused_by start turns (Some place) rules left a b (Some answer.Order) (λ versions. again_by place a is versions _ _)

-- what is refused of a namespace, by whether its name is there and whether there are as many as may be
abbrev space_refusal : Bool → Bool → Option Answer
space_refusal taken many = option_or (cond taken (Some answer.Order) None) (cond many (Some (answer.Limit MOST_NAMESPACES)) None)

end_none : (o : Option Answer) → option_or o None ≡ o
end_none None = refl
end_none (Some a) = refl

pub namespaces_are_due : NamespacesAreDue
namespaces_are_due start turns place rules left name block past future retention b = record {
  taken = λ is. due true _ (Some answer.Order) is refl refl;
  limit = λ new many. due false true (Some (answer.Limit MOST_NAMESPACES)) (ap is_some new) (le-leb MOST_NAMESPACES (length rules.spaces) many) refl;
  free = λ new few. due false false None (ap is_some new) (lt-leb MOST_NAMESPACES (length rules.spaces) few) refl;
}
  where
    due : (taken many : Bool) (refusal : Option Answer) → is_some (namespace_position name rules.spaces) ≡ taken → nat_le MOST_NAMESPACES (length rules.spaces) ≡ many → space_refusal taken many ≡ refusal → IsDueNext start turns (act.Namespace name block past future retention) b refusal
    due taken many refusal e f is = refused_by start turns (Some place) rules left (act.Namespace name block past future retention) b refusal
        (λ versions. ap (λ o. option_or (cond (is_some (namespace_position name rules.spaces)) (Some answer.Order) None) o) (end_none (cond (nat_le MOST_NAMESPACES (length rules.spaces)) (Some (answer.Limit MOST_NAMESPACES)) None))
        ∙ ap₂ space_refusal e f ∙ is)

pub moments_are_due : MomentsAreDue
moments_are_due start turns place rules left now b = record {
  falls = λ low. due true (lt-ltb now rules.now low);
  free = λ high. due false (le-ltb now rules.now high);
}
  where
    due : (falls : Bool) → nat_lt now rules.now ≡ falls → IsDueNext start turns (act.Now now) b (cond falls (Some (answer.Clock rules.now)) None)
    due falls e = refused_by start turns (Some place) rules left (act.Now now) b (cond falls (Some (answer.Clock rules.now)) None) (λ versions. end_none (cond (nat_lt now rules.now) (Some (answer.Clock rules.now)) None) ∙ ap (λ t. cond t (Some (answer.Clock rules.now)) None) e)

-- ---- calls

-- the versions of all placements
abbrev versions_in : Option MetaState → List Turn → List ℕ
versions_in start turns = map (λ (p : Placement). p.version) (placements start (inner_turns turns))

-- what is refused of a call, by whether its namespace is there and what its version lacks
abbrev call_refusal : List ℕ → Bool → Option (List ℕ) → Option Answer
call_refusal ns there missing = option_or (option_map (λ name. answer.Unknown name) (option_or (cond there None (Some ns)) missing)) None

version_there : (places : List Placement) (v : ℕ) (p : Placement) → IsIn places p → p.version ≡ v → list_any (nat_eq v) (map (λ (q : Placement). q.version) places) ≡ true
version_there [] v p m is = absurd m
version_there (q ∷ places) v p (inl same) is = or_left (nat_eq v q.version) _ (eq-eqb v q.version (sym is ∙ ap (λ (r : Placement). r.version) (sym same)))
version_there (q ∷ places) v p (inr later) is = or_right (nat_eq v q.version) _ (version_there places v p later is)

no_version : (places : List Placement) (v : ℕ) → ((p : Placement) → IsIn places p → ¬ (p.version ≡ v)) → list_any (nat_eq v) (map (λ (q : Placement). q.version) places) ≡ false
no_version [] v none = refl
no_version (q ∷ places) v none = or_from (nat_eq v q.version) _ (ne_eqb v q.version (λ is. none q (inl refl) (sym is))) (no_version places v (λ p m. none p (inr m)))

spaces_due : (start : Option MetaState) (turns : List Turn) (place : Placement) (rules : Rules) → HaveLeft start turns (Some place) rules → (ns : List ℕ) (version : Option ℕ) (a : Act) (b : Answer)
    → ((stopped : List ℕ → Bool) → refusal_by (Some place) (versions_in start turns) rules stopped a ≡ call_refusal ns (is_some (namespace_position ns rules.spaces)) (missing_version (versions_in start turns) version)) → SpaceDue start turns rules ns version a b
spaces_due start turns place rules left ns version a b is = record {
  unknown = λ none. due (Some (answer.Unknown ns)) (ap (λ o. call_refusal ns (is_some o) (missing_version (versions_in start turns) version)) none);
  unkept = λ k v there gives none. due (Some (answer.Unknown (decimal v)))
      (ap₂ (λ o m. call_refusal ns (is_some o) m) there (ap (missing_version (versions_in start turns)) gives ∙ ap (λ t. if t then None else Some (decimal v)) (no_version (placements start (inner_turns turns)) v none)));
  free = λ k there known. due None (ap₂ (λ o m. call_refusal ns (is_some o) m) there (nothing_missing version known));
}
  where
    due : (refusal : Option Answer) → call_refusal ns (is_some (namespace_position ns rules.spaces)) (missing_version (versions_in start turns) version) ≡ refusal → IsDueNext start turns a b refusal
    due refusal e = refused_with start turns (Some place) rules left a b refusal (is _ ∙ e)

    nothing_missing : (v : Option ℕ) → IsKnown start turns v → missing_version (versions_in start turns) v ≡ None
    nothing_missing None known = refl
    nothing_missing (Some v) known = ap (λ t. if t then None else Some (decimal v)) (version_there (placements start (inner_turns turns)) v known.0 known.1 known.2)

pub calls_are_due : CallsAreDue
calls_are_due start turns place rules left = record {
  write = λ ns id t v level version b. spaces_due start turns place rules left ns version (act.Write ns id t v level version) b (λ stopped. refl);
  fetch = λ ns id from to level version b. spaces_due start turns place rules left ns version (act.Fetch ns id from to level version) b (λ stopped. refl);
  find = λ ns wanted from to level version b. spaces_due start turns place rules left ns version (act.Match ns wanted from to level version) b (λ stopped. refl);
}

pub deliveries_are_due : DeliveriesAreDue
deliveries_are_due start turns place rules left b = refused_by start turns (Some place) rules left act.Deliver b None (λ versions. refl)

-- ---- nodes

pub flags_tell : FlagsTell
flags_tell turns place flags stops name node halted found flag =
    let at = node_found name place.instances node found in
    ap (is_stopped (inner_turns turns)) (sym at.name_is) ∙ same_Some (is_stopped (inner_turns turns) at.instance_.name) halted (sym (stops node at.instance_ at.stands) ∙ flag)

pub fates_are_due : FatesAreDue
fates_are_due start turns place rules left list b = record {
  unknown = λ name is. due (Some name) (sym (missing_same place list) ∙ is);
  free = λ items numbered. due None (sym (missing_same place list) ∙ none_missing place.instances list items numbered);
}
  where
    due : (missing : Option (List ℕ)) → missing_in (Some place) list ≡ missing → IsDueNext start turns (act.Fates list) b (option_or (option_map (λ name. answer.Unknown name) missing) None)
    due missing e = refused_by start turns (Some place) rules left (act.Fates list) b _ (λ versions. ap (λ o. option_or (option_map (λ name. answer.Unknown name) o) None) e)

-- what is refused of a stop, by whether its node is listed and whether it is stopped
abbrev stop_refusal : List ℕ → Bool → Bool → Option Answer
stop_refusal name listed halted = option_or (option_map (λ n. answer.Unknown n) (cond listed None (Some name))) (cond halted (Some (answer.State name)) None)

pub stops_are_due : StopsAreDue
stops_are_due start turns place rules left name b = record {
  unknown = λ none. due false _ (unlisted_where place name none) refl;
  state = λ node found halted. due true true (listed_where place name node found) halted;
  free = λ node found runs. due true false (listed_where place name node found) runs;
}
  where
    due : (listed halted : Bool) → is_listed name place ≡ listed → is_stopped (inner_turns turns) name ≡ halted → IsDueNext start turns (act.Stop name) b (stop_refusal name listed halted)
    due listed halted e f = refused_by start turns (Some place) rules left (act.Stop name) b (stop_refusal name listed halted) (λ versions. ap₂ (stop_refusal name) e f)

pub restarts_are_due : RestartsAreDue
restarts_are_due start turns place rules left name pick b = record {
  unknown = λ none. due false _ (unlisted_where place name none) refl;
  state = λ node found runs. due true false (listed_where place name node found) runs;
  free = λ node found halted. due true true (listed_where place name node found) halted;
}
  where
    due : (listed halted : Bool) → is_listed name place ≡ listed → is_stopped (inner_turns turns) name ≡ halted → IsDueNext start turns (act.Restart name pick) b (stop_refusal name listed (not halted))
    due listed halted e f = refused_by start turns (Some place) rules left (act.Restart name pick) b (stop_refusal name listed (not halted)) (λ versions. ap₂ (λ l h. stop_refusal name l (not h)) e f)

-- what is refused of a bootstrap, by whether its node is listed, by the shard that is missing, and whether the node is stopped
abbrev boot_refusal : List ℕ → Bool → Option (List ℕ) → Bool → Option Answer
boot_refusal name listed missing halted = option_or (option_map (λ n. answer.Unknown n) (option_or (cond listed None (Some name)) missing)) (cond halted (Some (answer.State name)) None)

shard_there : (place : Placement) (asked : Option ℕ) → ((shard : ℕ) → asked ≡ Some shard → shard < length place.shards) → missing_shard (Some place) asked ≡ None
shard_there place None h = refl
shard_there place (Some shard) h = ap (λ b. cond b None (Some (decimal shard))) (lt-ltb shard (length place.shards) (h shard refl))

shard_away : (place : Placement) (asked : Option ℕ) (shard : ℕ) → asked ≡ Some shard → length place.shards ≤ shard → missing_shard (Some place) asked ≡ Some (decimal shard)
shard_away place asked shard is high = ap (missing_shard (Some place)) is ∙ ap (λ b. cond b None (Some (decimal shard))) (le-ltb shard (length place.shards) high)

pub bootstraps_are_due : BootstrapsAreDue
bootstraps_are_due start turns place rules left name asked b = record {
  unknown = λ none. due false _ _ (unlisted_where place name none) refl refl;
  no_shard = λ node shard found is high. due true (Some (decimal shard)) _ (listed_where place name node found) (shard_away place asked shard is high) refl;
  state = λ node found has halted. due true None true (listed_where place name node found) (shard_there place asked has) halted;
  free = λ node found has runs. due true None false (listed_where place name node found) (shard_there place asked has) runs;
}
  where
    due : (listed : Bool) (missing : Option (List ℕ)) (halted : Bool) → is_listed name place ≡ listed → missing_shard (Some place) asked ≡ missing → is_stopped (inner_turns turns) name ≡ halted → IsDueNext start turns (act.Bootstrap name asked) b (boot_refusal name listed missing halted)
    due listed missing halted e g f = refused_by start turns (Some place) rules left (act.Bootstrap name asked) b (boot_refusal name listed missing halted)
        (λ versions. ap (λ l. boot_refusal name l (missing_shard (Some place) asked) (is_stopped (inner_turns turns) name)) e ∙ ap (λ o. boot_refusal name listed o (is_stopped (inner_turns turns) name)) g ∙ ap (boot_refusal name listed missing) f)

-- ---- placements

pub steps_are_due : StepsAreDue
steps_are_due start turns place rules left a b step = step_refusal start (position_after turns a b) (inner_turns turns) place left.place_is step
