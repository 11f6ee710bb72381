-- Which points of a content a read gives, and that they are those of the replica.
use Rattle.std.proofs.Common.{◌≡◌, ◌<◌, ◌≤◌, ◌+◌, ℕ, ℤ, List, sym, ◌∙◌, subst, inl, inr, arith}
use Rattle.std.specs.Prelude.{Some, slice_get}
use Rattle.std.proofs.lemmas.Bool.{cases_lt}
use Rattle.m3_model.specs.Answers.{IsAnswer}
use Rattle.m3_model.specs.Contents.{Contents, key_of}
use Rattle.m3_model.specs.Members.{IsIn}
use Rattle.m3_model.specs.Reads.{Matches, Covers, points_in, space_picked}
use Rattle.m3_model.specs.Rules.{HasExpired, IsLive}
use Rattle.m3_model.specs.declared.point.Pick.{Pick}
use Rattle.m3_model.specs.declared.point.Pick.TheVariants as pick
use Rattle.m3_model.specs.declared.point.Point.{Point}
use Rattle.m3_model.specs.declared.point.Series.{Series}
use Rattle.m3_model.specs.declared.rules.Rules.{Rules}
use Rattle.m3_model.specs.declared.rules.Space.{Space}
use Rattle.placement_core.proofs.ListLemmas.{All-from_each}
use Rattle.cluster_core.specs.Answers.{IsWantedUnexpired, IsFoundBy}
use Rattle.cluster_core.specs.Replicas.{Shows, IsGone}
use Rattle.cluster_core.specs.declared.replica_state.ReplicaState.{ReplicaState}
use Rattle.replica_machine.specs.Machines.{IsLiveAnswer}

matches_space : (pick : Pick) (p : Point) → Matches pick p → p.ns ≡ space_picked pick
matches_space (pick.One ns id) p h = h.0
matches_space (pick.Match ns wanted) p h = h.0

matches_value : (pick : Pick) (p : Point) (v : ℤ) → Matches pick p → Matches pick (record p { v = v })
matches_value (pick.One ns id) p v h = h
matches_value (pick.Match ns wanted) p v h = h

same_space : (rules : Rules) (ns : ℕ) (a b : Space) → slice_get rules.spaces ns ≡ Some a → slice_get rules.spaces ns ≡ Some b → a ≡ b
same_space rules ns a b e f = let both : Some a ≡ Some b = sym e ∙ f in cc

-- of the pick's namespace
matched_space : (rules : Rules) (pick : Pick) (space : Space) (p : Point) → slice_get rules.spaces (space_picked pick) ≡ Some space → Matches pick p → slice_get rules.spaces p.ns ≡ Some space
matched_space rules pick space p at m = subst (λ ns. slice_get rules.spaces ns ≡ Some space) (sym (matches_space pick p m)) at

-- a content's points from the first time on at which they live are its live ones
pub live_answer : (c : Contents) (rules : Rules) (pick : Pick) (from first to : ℕ) (space : Space) (series : List Series) → slice_get rules.spaces (space_picked pick) ≡ Some space
    → ((t : ℕ) → first ≤ t → from ≤ t) → ((t : ℕ) → t < to → first ≤ t → rules.now < t + space.retention) → ((t : ℕ) → from ≤ t → rules.now < t + space.retention → first ≤ t)
    → IsAnswer c pick first to series → IsLiveAnswer c rules pick from to series
live_answer c rules pick from first to space series at low live early a = record {
  ordered = a.ordered;
  nothing_else = λ p m.
      let w = a.nothing_else p m in
      (record { stands = w.stands; matches = w.matches; in_range = (low p.t w.in_range.0, w.in_range.1) }, record { space = space; stands = matched_space rules pick space p at w.matches; kept = live p.t w.in_range.1 w.in_range.0 });
  whole = λ p w l.
      let same : l.space ≡ space = same_space rules p.ns l.space space l.stands (matched_space rules pick space p at w.matches) in
      let kept : rules.now < p.t + space.retention = subst (λ (s : Space). rules.now < p.t + s.retention) same l.kept in
      a.whole p (record { stands = w.stands; matches = w.matches; in_range = (early p.t w.in_range.0 kept, w.in_range.1) });
}

not_expired : (rules : Rules) (p : Point) → IsLive rules p → ¬ HasExpired rules p
not_expired rules p l x =
    let same : x.space ≡ l.space = same_space rules p.ns x.space l.space x.stands l.stands in
    let ended : p.t + (l.space).retention ≤ rules.now = subst (λ (s : Space). p.t + s.retention ≤ rules.now) same x.ended in
    omega (arith, l.kept, ended)

kept_live : (rules : Rules) (p : Point) (space : Space) → slice_get rules.spaces p.ns ≡ Some space → ¬ HasExpired rules p → rules.now < p.t + space.retention
kept_live rules p space at stays =
    elim (cases_lt rules.now (p.t + space.retention)) as (λ _. rules.now < p.t + space.retention) [
      | inl kept ↦ kept
      | inr ended ↦ absurd (stays (record { space = space; stands = at; ended = ended }))
    ]

-- the live points of a content that shows a replica are what a read of the replica may find
pub live_found : (r : ReplicaState) (c : Contents) (rules : Rules) (pick : Pick) (from to : ℕ) (space : Space) (series : List Series) → slice_get rules.spaces (space_picked pick) ≡ Some space
    → Shows r c → IsLiveAnswer c rules pick from to series → IsFoundBy r rules pick from to series
live_found r c rules pick from to space series at shows a = record {
  nothing_else = All-from_each (λ p. IsIn r.sure p × IsWantedUnexpired rules pick from to p) (points_in (space_picked pick) series) (λ p m.
      let w = a.nothing_else p m in
      (shows.sure (key_of p) p.v w.0.stands, record { matches = w.0.matches; in_range = w.0.in_range; unexpired = not_expired rules p w.1 }));
  all_there = All-from_each (λ p. ¬ IsGone r p → IsWantedUnexpired rules pick from to p → Covers (points_in (space_picked pick) series) p) r.sure (λ p m stays w.
      let holds = shows.all p m stays in
      let there = matched_space rules pick space p at w.matches in
      record {
        value = holds.value;
        at_least = holds.at_least;
        stands = a.whole (record p { v = holds.value })
            (record { stands = holds.stands; matches = matches_value pick p holds.value w.matches; in_range = w.in_range })
            (record { space = space; stands = there; kept = kept_live rules p space there w.unexpired });
      });
  ordered = a.ordered;
}
