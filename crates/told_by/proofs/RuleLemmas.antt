-- The rules along the lines of a run, and what they say of points.
use Rattle.std.proofs.Common.{◌≡◌, ℕ, suc, ◌+◌, List, [], ◌∷◌, ◌++◌, refl, sym, ap, ◌∙◌, subst, inl, inr, arith, append_assoc, append-nil, Bool, true, false, cond}
use Rattle.std.specs.Prelude.{Option, Some, None, option_map, nat_eq, slice_get}
use Rattle.std.specs.Cmp.Lexicographic.{pointwise}
use Rattle.std.proofs.lemmas.Bool.{cases_lt}
use Rattle.std.proofs.lemmas.List.Sums.{fold-append}
use Rattle.m3_model.specs.Reads.{Read, read_of, space_picked, Matches}
use Rattle.m3_model.specs.Rules.{HasExpired, IsLive, namespace_position}
use Rattle.transcripts.specs.Points.{point_of}
use Rattle.transcripts.specs.Record.{InnerTurn, TurnPosition, inner_turns}
use Rattle.transcripts.specs.Rules.{rules_after, rules_at, rules_by, start_rules}
use Rattle.m3_model.specs.declared.act.Act.{Act}
use Rattle.m3_model.specs.declared.act.Act.TheVariants as act
use Rattle.m3_model.specs.declared.answer.Answer.{Answer}
use Rattle.m3_model.specs.declared.answer.Answer.TheVariants as answer
use Rattle.m3_model.specs.declared.point.Pick.{Pick}
use Rattle.m3_model.specs.declared.point.Pick.TheVariants as pick
use Rattle.m3_model.specs.declared.point.Point.{Point}
use Rattle.m3_model.specs.declared.rules.MetaState.{MetaState}
use Rattle.m3_model.specs.declared.rules.Rules.{Rules}
use Rattle.m3_model.specs.declared.rules.Space.{Space}
use Rattle.m3_model.specs.declared.turn.Turn.{Turn}
use Rattle.told_by.specs.Clocks.{sets_rules}
use Rattle.told_by.proofs.TurnLemmas.{inner-append}

-- ---- namespaces only come

abbrev pub Grows : List Space → List Space → Type 0
Grows xs ys = (more : List Space) × (xs ++ more ≡ ys)

pub grows_same : (xs : List Space) → Grows xs xs
grows_same xs = ([], append-nil xs)

grows_on : (xs ys zs : List Space) → Grows xs ys → Grows ys zs → Grows xs zs
grows_on xs ys zs g h = (g.0 ++ h.0, sym (append_assoc xs g.0 h.0) ∙ ap (λ ws. ws ++ h.0) g.1 ∙ h.1)

by_grows : (a : Act) (b : Answer) (r : Rules) → Grows r.spaces (rules_by a b r).spaces
by_grows (act.Now now) answer.Done r = grows_same r.spaces
by_grows (act.Namespace name block past future retention) answer.Done r = (record { name = name; block = block; past = past; future = future; retention = retention } ∷ [], refl)
by_grows _ _ r = grows_same r.spaces

-- where nothing is set the rules stay
pub by_same : (a : Act) (b : Answer) (r : Rules) → sets_rules a b ≡ false → rules_by a b r ≡ r
by_same (act.Now now) answer.Done r e = cc
by_same (act.Namespace name block past future retention) answer.Done r e = cc
by_same _ _ r e = refl

pub after_grows : (r : Rules) (ts : List InnerTurn) → Grows r.spaces (rules_after r ts).spaces
after_grows r [] = grows_same r.spaces
after_grows r (t ∷ ts) = grows_on r.spaces (rules_by t.act t.answer r).spaces (rules_after r (t ∷ ts)).spaces (by_grows t.act t.answer r) (after_grows (rules_by t.act t.answer r) ts)

pub after-append : (r : Rules) (xs ys : List InnerTurn) → rules_after r (xs ++ ys) ≡ rules_after (rules_after r xs) ys
after-append r xs ys = fold-append (λ (s : Rules) (turn : InnerTurn). rules_by turn.act turn.answer s) r xs ys

pub after_lines : (r : Rules) (xs ys : List Turn) → rules_after r (inner_turns (xs ++ ys)) ≡ rules_after (rules_after r (inner_turns xs)) (inner_turns ys)
after_lines r xs ys = ap (rules_after r) (inner-append xs ys) ∙ after-append r (inner_turns xs) (inner_turns ys)

-- from one line to a later one
pub lines_grow : (start : Option MetaState) (q b : TurnPosition) (rest : List Turn) → b.lines ≡ q.lines ++ rest → Grows (rules_at start q).spaces (rules_at start b).spaces
lines_grow start q b rest e =
    let g = after_grows (rules_at start q) (inner_turns rest) in
    (g.0, g.1 ∙ ap (λ (r : Rules). r.spaces) (sym (ap (λ xs. rules_after (start_rules start) (inner_turns xs)) e ∙ after_lines (start_rules start) q.lines rest)))

pub same_lines_grow : (start : Option MetaState) (q b : TurnPosition) → q.lines ≡ b.lines → Grows (rules_at start q).spaces (rules_at start b).spaces
same_lines_grow start q b e = ([], append-nil (rules_at start q).spaces ∙ ap (λ xs. (rules_after (start_rules start) (inner_turns xs)).spaces) e)

-- ---- a namespace keeps its position

position_by : (name : List ℕ) (s : Space) (spaces more : List Space) (k : ℕ) → ((j : ℕ) → namespace_position name spaces ≡ Some j → namespace_position name (spaces ++ more) ≡ Some j) → (b : Bool)
    → cond b (Some 0) (option_map suc (namespace_position name spaces)) ≡ Some k → cond b (Some 0) (option_map suc (namespace_position name (spaces ++ more))) ≡ Some k
position_by name s spaces more k later true e = e
position_by name s spaces more k later false e = by_position (namespace_position name spaces) refl e
  where
    by_position : (o : Option ℕ) → namespace_position name spaces ≡ o → option_map suc o ≡ Some k → option_map suc (namespace_position name (spaces ++ more)) ≡ Some k
    by_position None p f = cc
    by_position (Some j) p f = ap (option_map suc) (later j p) ∙ f

position_stays : (name : List ℕ) (spaces more : List Space) (k : ℕ) → namespace_position name spaces ≡ Some k → namespace_position name (spaces ++ more) ≡ Some k
position_stays name [] more k e = cc
position_stays name (s ∷ spaces) more k e = position_by name s spaces more k (λ j. position_stays name spaces more j) (pointwise nat_eq name s.name) e

point_by : (name id : List ℕ) (t : ℕ) (v : _) (spaces more : List Space) (p : Point) (o : Option ℕ) → namespace_position name spaces ≡ o
    → option_map (λ k. let q : Point = record { ns = k; id = id; t = t; v = v } in q) o ≡ Some p → option_map (λ k. let q : Point = record { ns = k; id = id; t = t; v = v } in q) (namespace_position name (spaces ++ more)) ≡ Some p
point_by name id t v spaces more p None at e = cc
point_by name id t v spaces more p (Some k) at e = ap (option_map (λ k. let q : Point = record { ns = k; id = id; t = t; v = v } in q)) (position_stays name spaces more k at) ∙ e

point_stays : (spaces more : List Space) (a : Act) (p : Point) → point_of spaces a ≡ Some p → point_of (spaces ++ more) a ≡ Some p
point_stays spaces more (act.Write ns id t v level version) p e = point_by ns id t v spaces more p (namespace_position ns spaces) refl e
point_stays spaces more _ p e = cc

pub point_grows : (xs ys : List Space) → Grows xs ys → (a : Act) (p : Point) → point_of xs a ≡ Some p → point_of ys a ≡ Some p
point_grows xs ys g a p e = subst (λ zs. point_of zs a ≡ Some p) g.1 (point_stays xs g.0 a p e)

position_found : (name : List ℕ) (s : Space) (spaces : List Space) (k : ℕ) → ((j : ℕ) → namespace_position name spaces ≡ Some j → (x : Space) × (slice_get spaces j ≡ Some x)) → (b : Bool)
    → cond b (Some 0) (option_map suc (namespace_position name spaces)) ≡ Some k → (x : Space) × (slice_get (s ∷ spaces) k ≡ Some x)
position_found name s spaces k later true e = let zero_is : 0 ≡ k = cc in (s, ap (slice_get (s ∷ spaces)) (sym zero_is))
position_found name s spaces k later false e = by_position (namespace_position name spaces) refl e
  where
    by_position : (o : Option ℕ) → namespace_position name spaces ≡ o → option_map suc o ≡ Some k → (x : Space) × (slice_get (s ∷ spaces) k ≡ Some x)
    by_position None p f = cc
    by_position (Some j) p f =
        let next : suc j ≡ k = cc in
        let found = later j p in
        (found.0, ap (slice_get (s ∷ spaces)) (sym next) ∙ found.1)

space_at : (name : List ℕ) (spaces : List Space) (k : ℕ) → namespace_position name spaces ≡ Some k → (x : Space) × (slice_get spaces k ≡ Some x)
space_at name [] k e = cc
space_at name (s ∷ spaces) k e = position_found name s spaces k (λ j. space_at name spaces j) (pointwise nat_eq name s.name) e

-- ---- what a read picks

read_by : (spaces : List Space) (name : List ℕ) (o : Option ℕ) (make : ℕ → Read) (picked : (k : ℕ) → space_picked (make k).pick ≡ k) (read : Read) → namespace_position name spaces ≡ o → option_map make o ≡ Some read
    → (space : Space) × (slice_get spaces (space_picked read.pick) ≡ Some space)
read_by spaces name None make picked read at e = cc
read_by spaces name (Some k) make picked read at e =
    let is : make k ≡ read = cc in
    let s = space_at name spaces k at in
    (s.0, ap (slice_get spaces) (sym (ap (λ (r : Read). space_picked r.pick) is) ∙ picked k) ∙ s.1)

-- the namespace of a read is there
pub read_space : (spaces : List Space) (a : Act) (read : Read) → read_of spaces a ≡ Some read → (space : Space) × (slice_get spaces (space_picked read.pick) ≡ Some space)
read_space spaces (act.Fetch ns id from to level version) read e =
    read_by spaces ns (namespace_position ns spaces) (λ k. record { pick = pick.One k id; from = from; to = to; level = level }) (λ k. refl) read refl e
read_space spaces (act.Match ns wanted from to level version) read e =
    read_by spaces ns (namespace_position ns spaces) (λ k. record { pick = pick.Match k wanted; from = from; to = to; level = level }) (λ k. refl) read refl e
read_space spaces _ read e = cc

pub matches_space : (k : Pick) (p : Point) → Matches k p → p.ns ≡ space_picked k
matches_space (pick.One ns id) p h = h.0
matches_space (pick.Match ns wanted) p h = h.0

-- ---- live and expired

pub live_stays : (rules : Rules) (p : Point) → IsLive rules p → ¬ HasExpired rules p
live_stays rules p live gone =
    let both : Some live.space ≡ Some gone.space = sym live.stands ∙ gone.stands in
    let same : live.space ≡ gone.space = cc in
    omega (arith, live.kept, gone.ended, ap (λ (s : Space). s.retention) same)

pub unexpired_live : (rules : Rules) (p : Point) (space : Space) → slice_get rules.spaces p.ns ≡ Some space → ¬ HasExpired rules p → IsLive rules p
unexpired_live rules p space there alive =
    elim (cases_lt rules.now (p.t + space.retention)) as (λ _. IsLive rules p) [
      | inl lt ↦ record { space = space; stands = there; kept = lt }
      | inr ge ↦ absurd (alive (record { space = space; stands = there; ended = ge }))
    ]
