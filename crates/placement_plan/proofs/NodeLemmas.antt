-- Nodes by name.
use Rattle.std.proofs.Common.{◌≡◌, ℕ, List, Bool, true, false, ◌&&◌, nat_eq, slice_get, Some, sym, ap, ◌∙◌}
use Rattle.std.specs.Cmp.Lexicographic.{pointwise}
use Rattle.std.specs.List.{list_any}
use Rattle.std.proofs.lemmas.List.Folds.{list_any_at}
use Rattle.std.proofs.lemmas.Option.{slice_get_within, get_or_from_slice_get}
use Rattle.std.proofs.lemmas.Slice.Eq.{bytes_eq-Decides}
use Rattle.std.proofs.lemmas.Bool.{and_from}
use Rattle.placement_core.specs.m3_model.declared.placement.Instance.{Instance}
use Rattle.placement_core.specs.m3_model.declared.placement.Placement.{Placement}
use Rattle.placement_core.specs.NodeNames.{is_listed}
use Rattle.placement_plan.specs.Nodes.{ListsNode}
use Rattle.placement_plan.specs.Refusals.{IsPastLimit, RefusesAdd, RefusesReplace}
use Rattle.placement_plan.specs.declared.plan_err.PlaceErr.{PlaceErr}
use Rattle.placement_plan.specs.declared.plan_err.PlaceErr.TheVariants.{Busy, Group, Unknown, Exists, Limit, Memory}

pub lists_at : (instances : List Instance) (name : List ℕ) (n : ℕ) (i : Instance) (same : Bool) → slice_get instances n ≡ Some i → i.listed ≡ true → same ≡ pointwise nat_eq name i.name → same ≡ true → ListsNode instances name n
lists_at instances name n i same at listed is on = record { instance = i; stands = at; named = sym ((bytes_eq-Decides name i.name).0 (cc)); listed = listed }

-- a listed node of the name is found
pub listed_found : (instances : List Instance) (name : List ℕ) (n : ℕ) (i : Instance) → slice_get instances n ≡ Some i → i.name ≡ name → i.listed ≡ true → list_any (λ node. node.listed && pointwise nat_eq name node.name) instances ≡ true
listed_found instances name n i at named listed =
    let test : Instance → Bool = λ node. node.listed && pointwise nat_eq name node.name in
    list_any_at test instances n i (slice_get_within instances n i at)
    (ap test (get_or_from_slice_get instances n i i at) ∙ and_from i.listed (pointwise nat_eq name i.name) listed ((bytes_eq-Decides name i.name).1 (sym named)))

pub lists_found : (place : Placement) (name : List ℕ) (n : ℕ) → ListsNode place.instances name n → is_listed name place ≡ true
lists_found place name n h = listed_found place.instances name n h.instance h.stands h.named h.listed

-- one of a name that isn't listed isn't listed
pub unlisted_at : (instances : List Instance) (name : List ℕ) (n : ℕ) (i : Instance) → list_any (λ node. node.listed && pointwise nat_eq name node.name) instances ≡ false → slice_get instances n ≡ Some i → i.name ≡ name → ¬ (i.listed ≡ true)
unlisted_at instances name n i none at named listed = let clash : true ≡ false = sym (listed_found instances name n i at named listed) ∙ none in cc

pub limit_refuses_replace : (place : Placement) (name by group : List ℕ) (e : PlaceErr) → is_listed by place ≡ false → is_listed name place ≡ true → IsPastLimit place.instances by e → RefusesReplace place name by group e
limit_refuses_replace place name by group (Limit limit) new known h = (new, known, h)
limit_refuses_replace place name by group (Busy shard node) new known h = absurd h
limit_refuses_replace place name by group (Group shard) new known h = absurd h
limit_refuses_replace place name by group Unknown new known h = absurd h
limit_refuses_replace place name by group Exists new known h = absurd h
limit_refuses_replace place name by group Memory new known h = absurd h

pub limit_refuses_add : (place : Placement) (name : List ℕ) (e : PlaceErr) → is_listed name place ≡ false → IsPastLimit place.instances name e → RefusesAdd place name e
limit_refuses_add place name (Limit limit) new h = (new, h)
limit_refuses_add place name (Busy shard node) new h = absurd h
limit_refuses_add place name (Group shard) new h = absurd h
limit_refuses_add place name Unknown new h = absurd h
limit_refuses_add place name Exists new h = absurd h
limit_refuses_add place name Memory new h = absurd h
