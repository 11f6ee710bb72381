-- The rules, points and reads of the worked transcripts.
use Rattle.std.proofs.Common.{arith, ◌≡◌, ◌<◌, ◌+◌, ◌≤◌, ℕ, ℤ, List, [], ◌∷◌, ◌++◌, refl, sym, ap, ap₂, ◌∙◌, subst, Bool, true, not, ◌&&◌}
use Rattle.std.specs.Prelude.{Some, None, false, codes, slice_get, ⊤}
use Rattle.transcripts.specs.Calls.{Call}
use Rattle.transcripts.specs.Reasons.{IsOutside}
use Rattle.m3_model.specs.declared.reason.Reason.{Reason}
use Rattle.m3_model.specs.declared.reason.Reason.TheVariants as reason
use Rattle.transcripts.specs.Record.{inner_turns}
use Rattle.transcripts.specs.Rules.{rules_at, rules_after, start_rules}
use Rattle.m3_model.specs.Rules.{IsPast, IsFuture}
use Rattle.transcripts.specs.Placements.{placement_after, placements, seed_after}
use Rattle.transcripts.specs.Points.{sent_at, acked_at}
use Rattle.m3_model.specs.Reads.{Read, Found, read_of, IsSought}
use Rattle.transcripts.specs.Kept.{Kept, KeepsPoints}
use Rattle.transcripts.specs.Waiting.{IsBegunFor, Replica, idles_after, waiting_after}
use Rattle.transcripts.specs.Fates.{numbering_after, call_number, fate_in, fate_at, is_stopped, is_reached, reaches}
use Rattle.m3_model.specs.Delivery.{is_cut}
use Rattle.std.specs.Option.{option_map_or}
use Rattle.std.proofs.lemmas.List.{append-nil}
use Rattle.std.proofs.lemmas.Option.{same_Some}
use Rattle.m3_model.specs.declared.act.Act.{Act}
use Rattle.m3_model.specs.declared.answer.Answer.{Answer}
use Rattle.m3_model.specs.declared.placement.Instance.{Instance}
use Rattle.m3_model.specs.declared.point.Point.{Point}
use Rattle.m3_model.specs.declared.point.Matcher.{Matcher}
use Rattle.m3_model.specs.declared.point.Series.{Series}
use Rattle.m3_model.specs.declared.point.Pick.TheVariants as pick
use Rattle.m3_model.specs.declared.rules.Rules.{Rules}
use Rattle.m3_model.specs.declared.act.ReadLevel.TheVariants as read_level
use Rattle.m3_model.specs.declared.turn.Turn.{Turn}
use Rattle.model_laws.specs.Building.{space, place, line, fetch, matching, found, life_of}
use Rattle.model_laws.proofs.EachLemmas.{Each}
use Rattle.model_laws.proofs.PositionLemmas.{position_after, position_after-stands, points_kept}

-- the rules with the one namespace at a moment
abbrev pub rules_when : ℕ → Rules
rules_when now = record { now = now; spaces = space ∷ [] }

-- the replica of a node, which has this name, for the only shard
abbrev pub of_shard : ℕ → List ℕ → Replica
of_shard node name = record { shard = 0; node = node; name = name }

-- the cluster stands after these lines, with these rules
pub record StandsAt (lines : List Turn) (rules : Rules) : Type 0 where
  pub place_is : placement_after None (inner_turns lines) ≡ Some place
  pub one_place : placements None (inner_turns lines) ≡ place ∷ []
  pub rules_is : rules_after (start_rules None) (inner_turns lines) ≡ rules
  pub seed_is : seed_after None (inner_turns lines) ≡ 0
  pub no_fates : (numbering_after 0 lines).fates ≡ []
  pub none_stopped : (name : List ℕ) → is_stopped (inner_turns lines) name ≡ false
  pub none_waits : (name : List ℕ) → Each (λ node. (waiting_after (of_shard node name) None lines).waits ≡ false) (0 ∷ 1 ∷ 2 ∷ [])
  pub none_idle : (x : Replica) → idles_after x None (inner_turns lines) ≡ false

pub stands : {lines : List Turn} {rules : Rules} → placement_after None (inner_turns lines) ≡ Some place → placements None (inner_turns lines) ≡ place ∷ [] → rules_after (start_rules None) (inner_turns lines) ≡ rules → seed_after None (inner_turns lines) ≡ 0
    → (numbering_after 0 lines).fates ≡ [] → ((name : List ℕ) → is_stopped (inner_turns lines) name ≡ false) → ((name : List ℕ) → Each (λ node. (waiting_after (of_shard node name) None lines).waits ≡ false) (0 ∷ 1 ∷ 2 ∷ []))
    → ((x : Replica) → idles_after x None (inner_turns lines) ≡ false) → StandsAt lines rules
stands place_is one_place rules_is seed_is no_fates none_stopped none_waits none_idle = record { place_is = place_is; one_place = one_place; rules_is = rules_is; seed_is = seed_is; no_fates = no_fates; none_stopped = none_stopped; none_waits = none_waits; none_idle = none_idle }

-- nothing is lost or late then
pub not_cut : (lines : List Turn) (rules : Rules) (a : Act) (b : Answer) (name : List ℕ) → StandsAt lines rules → is_cut (fate_at (position_after lines a b) name) ≡ false
not_cut lines rules a b name stood = ap (λ list. is_cut (fate_in list 0 (call_number (position_after lines a b)) name)) stood.no_fates

-- and each node that is there is reached
pub reached_by : (lines : List Turn) (rules : Rules) (a : Act) (b : Answer) (node : ℕ) (one : Instance) → StandsAt lines rules → slice_get place.instances node ≡ Some one → reaches (position_after lines a b) place node ≡ true
reached_by lines rules a b node one stood there =
    ap (λ o. option_map_or (λ (i : Instance). is_reached (position_after lines a b) i.name) o false) there
    ∙ ap₂ (λ (x y : Bool). not x && not y) (not_cut lines rules a b one.name stood) (stood.none_stopped one.name)

-- no bootstrap is wanted of its replica
pub begun_by : (lines : List Turn) (rules : Rules) (a : Act) (b : Answer) (shard node : ℕ) (one : Instance) → StandsAt lines rules → slice_get place.instances node ≡ Some one → IsBegunFor None (position_after lines a b) place shard node
begun_by lines rules a b shard node one stood there =
    let x : Replica = record { shard = shard; node = node; name = one.name } in
    record { instance_ = one; stands = there; holds = ap (idles_after x None) (append-nil (inner_turns lines)) ∙ stood.none_idle x }

-- a call of `hello` at the present version that needs so many replicas
abbrev pub call_with : (ℕ → ℕ) → Call
call_with needed = record { id = Some (codes "hello"); version = None; needed = needed }

-- a point of `hello`
abbrev pub hello : ℕ → ℤ → Point
hello t v = record { ns = 0; id = codes "hello"; t = t; v = v }

-- a read of `hello` at level majority
abbrev pub reading : ℕ → ℕ → Read
reading from to = record { pick = pick.One 0 (codes "hello"); from = from; to = to; level = read_level.Majority }

-- all that these series are, and nothing is missing
abbrev pub whole : List Series → Found
whole series = record { series = series; short = false }

-- a point of the range is sought while it is kept
pub sought : (now from to t : ℕ) (v : ℤ) → from ≤ t → t < to → now < t + 500 → IsSought (rules_when now) (reading from to) (hello t v)
sought now from to t v above below live = record {
  matches = (refl, refl);
  in_range = (omega arith, omega arith);
  live = record { space = space; stands = refl; kept = omega arith };
}

-- a point that is sought is still kept
pub sought-live : (now from to t : ℕ) (v : ℤ) → IsSought (rules_when now) (reading from to) (hello t v) → now < t + 500
sought-live now from to t v s =
    let same : space ≡ s.live.space = same_Some space s.live.space s.live.stands in
    subst (λ x. now < t + x.retention) (sym same) s.live.kept

-- what the fetch at the end of a kept life keeps
pub last_keeps : (lines : List Turn) (from to : ℕ) (series : List Series) (after : List Turn) → Kept (life_of (lines ++ line (fetch from to) (found series) ∷ after))
    → read_of (rules_at None (position_after lines (fetch from to) (found series))).spaces (fetch from to) ≡ Some (reading from to)
    → KeepsPoints (rules_at None (position_after lines (fetch from to) (found series))) (acked_at [] None (position_after lines (fetch from to) (found series))) (sent_at [] None (position_after lines (fetch from to) (found series))) (reading from to) (whole series)
last_keeps lines from to series after kept asked =
    let p = position_after lines (fetch from to) (found series) in
    points_kept [] None p (reading from to) (whole series) (kept p (position_after-stands lines (fetch from to) (found series) after)) refl asked

-- a match at level majority
abbrev pub picking : List Matcher → ℕ → ℕ → Read
picking wanted from to = record { pick = pick.Match 0 wanted; from = from; to = to; level = read_level.Majority }

-- what the match at the end of a kept life keeps
pub last_matches : (lines : List Turn) (wanted : List Matcher) (from to : ℕ) (series : List Series) → Kept (life_of (lines ++ line (matching wanted from to) (found series) ∷ []))
    → read_of (rules_at None (position_after lines (matching wanted from to) (found series))).spaces (matching wanted from to) ≡ Some (picking wanted from to)
    → KeepsPoints (rules_at None (position_after lines (matching wanted from to) (found series))) (acked_at [] None (position_after lines (matching wanted from to) (found series))) (sent_at [] None (position_after lines (matching wanted from to) (found series)))
    (picking wanted from to) (whole series)
last_matches lines wanted from to series kept asked =
    let p = position_after lines (matching wanted from to) (found series) in
    points_kept [] None p (picking wanted from to) (whole series) (kept p (position_after-stands lines (matching wanted from to) (found series) [])) refl asked

-- what a moment lets a replica refuse
abbrev pub WindowRefuses : Rules → Act → Reason → Type 0
WindowRefuses rules a reason.Past = IsOutside IsPast rules a
WindowRefuses rules a reason.Future = IsOutside IsFuture rules a
WindowRefuses rules a reason.Memory = ⊤
WindowRefuses rules a _ = ⊥
