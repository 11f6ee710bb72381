-- How many points were sent, by how many writes were taken; and how long lists are.
use Rattle.std.proofs.Common.{◌≡◌, ◌≤◌, ◌<◌, ◌+◌, ◌*◌, ℕ, suc, List, [], ◌∷◌, ◌++◌, length, map, refl, sym, ap, ◌∙◌, inl, inr, arith, Bool, true, false, length-append}
use Rattle.std.specs.Prelude.{Option, Some, None, ◌⊎◌, count_by, cond}
use Rattle.std.specs.List.{cons_option, flat_map, filter_map}
use Rattle.std.proofs.Math.Nat.{mul-add, mul-le-mul_left}
use Rattle.std.proofs.lemmas.Grind.{flat_map-append}
use Rattle.std.proofs.lemmas.List.Sums.{sum_by-append}
use Rattle.m3_model.specs.Ascends.{Ascends}
use Rattle.m3_model.specs.Members.{IsIn}
use Rattle.m3_model.specs.declared.act.Act.{Act}
use Rattle.m3_model.specs.declared.act.Act.TheVariants as act
use Rattle.m3_model.specs.declared.answer.Answer.{Answer}
use Rattle.m3_model.specs.declared.point.Point.{Point}
use Rattle.m3_model.specs.declared.rules.MetaState.{MetaState}
use Rattle.m3_model.specs.declared.rules.Space.{Space}
use Rattle.m3_model.specs.declared.turn.Reply.{Reply}
use Rattle.m3_model.specs.declared.turn.Reply.TheVariants as reply
use Rattle.m3_model.specs.declared.turn.Request.{Request}
use Rattle.m3_model.specs.declared.turn.Request.TheVariants as request
use Rattle.m3_model.specs.declared.turn.Turn.{Turn}
use Rattle.transcripts.specs.Caused.{acts_in, acts_taken, is_write}
use Rattle.transcripts.specs.Left.{earlier_turns}
use Rattle.transcripts.specs.Points.{point_of, sent_at, sent_point, was_sent}
use Rattle.transcripts.specs.Record.{InnerTurn, Record, acts_of, answered, answered_lists, inner_turns, joined, line_of, lists_by, lists_of}
use Rattle.transcripts.specs.Rules.{rules_at}
use Rattle.told_by.specs.Lines.{position_after}
use Rattle.told_runs.specs.Bounds.{writes_taken}

-- ---- lists

-- the list with one position of an element left out
record Without {X : Type 0} (x : X) (xs : List X) : Type 0 where
  rest : List X
  long : length xs ≡ suc (length rest)
  others : (y : X) → IsIn xs y → (x ≡ y → ⊥) → IsIn rest y

without : {X : Type 0} (x : X) (xs : List X) → IsIn xs x → Without x xs
without x [] m = absurd m
without x (z ∷ xs) (inl same) = record { rest = xs; long = refl; others = λ y m differs. elim m as (λ _. IsIn xs y) [ inl e ↦ absurd (differs (sym same ∙ e)) | inr k ↦ k ] }
without x (z ∷ xs) (inr m) =
    let w = without x xs m in
    record { rest = z ∷ w.rest; long = ap suc w.long; others = λ y k differs. elim k as (λ _. (z ≡ y) ⊎ IsIn w.rest y) [ inl e ↦ inl e | inr l ↦ inr (w.others y l differs) ] }

-- elements that all differ, and are all of a list, are at most as many as it has
pub apart_within : {X : Type 0} (R : X → X → Type 0) → ((x y : X) → R x y → x ≡ y → ⊥) → (xs ys : List X) → Ascends R xs → ((x : X) → IsIn xs x → IsIn ys x) → length xs ≤ length ys
apart_within R differ [] ys up among = omega arith
apart_within R differ (x ∷ xs) ys up among =
    let w = without x ys (among x (inl refl)) in
    let fewer = apart_within R differ xs w.rest up.1 (λ y m. w.others y (among y (inr m)) (differ x y (up.0 y m))) in
    omega (arith, w.long, fewer)

-- numbers that ascend, from one on and below another, are at most as many as lie there
pub ascending_few : (low high : ℕ) (xs : List ℕ) → Ascends (λ a b. a < b) xs → ((x : ℕ) → IsIn xs x → low ≤ x) → ((x : ℕ) → IsIn xs x → x < high) → low ≤ high → low + length xs ≤ high
ascending_few low high [] up from below le = omega (arith, le)
ascending_few low high (x ∷ xs) up from below le =
    let first = from x (inl refl) in
    let rest = ascending_few (suc x) high xs up.1 (λ y m. up.0 y m) (λ y m. below y (inr m)) (below x (inl refl)) in
    omega (arith, first, rest)

-- so many lists, each of which has at most so many elements
pub flat_few : {X Y : Type 0} (f : X → List Y) (most : ℕ) (xs : List X) → ((x : X) → IsIn xs x → length (f x) ≤ most) → length (flat_map f xs) ≤ most * length xs
flat_few f most [] each = omega arith
flat_few f most (x ∷ xs) each =
    let here = each x (inl refl) in
    let rest = flat_few f most xs (λ y m. each y (inr m)) in
    let both = length-append (f x) (flat_map f xs) in
    let split : most * (1 + length xs) ≡ most * 1 + most * length xs = mul-add most 1 (length xs) in
    omega (arith, here, rest, both, split)

-- where each has at most so many, and they are at most so many
pub flat_within : {X Y : Type 0} (f : X → List Y) (most count : ℕ) (xs : List X) → ((x : X) → IsIn xs x → length (f x) ≤ most) → length xs ≤ count → length (flat_map f xs) ≤ most * count
flat_within f most count xs each le = let few = flat_few f most xs each in let more = mul-le-mul_left most le in omega (arith, few, more)

-- ---- writes

abbrev pub writes : List Act → ℕ
writes acts = count_by is_write acts

abbrev act_of : InnerTurn → Act
act_of turn = turn.act

pub writes-append : (xs ys : List Act) → writes (xs ++ ys) ≡ writes xs + writes ys
writes-append xs ys = sum_by-append (λ a. cond (is_write a) 1 0) xs ys

-- an act has a point only where it is a write
point_write : (spaces : List Space) (a : Act) (p : Point) → point_of spaces a ≡ Some p → is_write a ≡ true
point_write spaces (act.Write ns id t v level version) p e = refl
point_write spaces _ p e = cc

sent_write : (spaces : List Space) (turn : InnerTurn) (p : Point) → sent_point spaces turn ≡ Some p → is_write turn.act ≡ true
sent_write spaces turn p e = by (was_sent turn.answer) e
  where
    by : (sent : Bool) → cond sent (point_of spaces turn.act) None ≡ Some p → is_write turn.act ≡ true
    by true f = point_write spaces turn.act p f
    by false f = cc

-- what is made of writes alone is made at most as often as there are writes
writes_cons : (a : Act) (acts : List Act) → writes (a ∷ acts) ≡ (0 + cond (is_write a) 1 0) + writes acts
writes_cons a acts = writes-append (a ∷ []) acts

made_few : {X : Type 0} (f : X → Option Point) (a : X → Act) → ((x : X) (p : Point) → f x ≡ Some p → is_write (a x) ≡ true) → (xs : List X) → length (filter_map f xs) ≤ writes (map a xs)
made_few f a of_write [] = omega arith
made_few f a of_write (x ∷ xs) = by (f x) refl (made_few f a of_write xs)
  where
    by : (o : Option Point) → f x ≡ o → length (filter_map f xs) ≤ writes (map a xs) → length (cons_option o (filter_map f xs)) ≤ writes (a x ∷ map a xs)
    by None is rest =
        let cons = writes_cons (a x) (map a xs) in
        let low : length (filter_map f xs) ≤ writes (a x ∷ map a xs) = omega (arith, rest, cons) in
        low
    by (Some p) is rest =
        let cons : writes (a x ∷ map a xs) ≡ (0 + 1) + writes (map a xs) = writes_cons (a x) (map a xs) ∙ ap (λ t. (0 + cond t 1 0) + writes (map a xs)) (of_write x p is) in
        let low : suc (length (filter_map f xs)) ≤ writes (a x ∷ map a xs) = omega (arith, rest, cons) in
        low

-- ---- turns and acts

-- acts with the answers at their positions have no more writes than the acts
answered_few : (acts : List Act) (answers : List Answer) → writes (map act_of (answered acts answers)) ≤ writes acts
answered_few [] answers = omega arith
answered_few (a ∷ acts) [] = omega arith
answered_few (a ∷ acts) (b ∷ answers) =
    let rest = answered_few acts answers in
    let one = writes_cons a (map act_of (answered acts answers)) in
    let two = writes_cons a acts in
    let low : writes (a ∷ map act_of (answered acts answers)) ≤ writes (a ∷ acts) = omega (arith, rest, one, two) in
    low

map-append : {X Y : Type 0} (f : X → Y) (xs ys : List X) → map f (xs ++ ys) ≡ map f xs ++ map f ys
map-append f [] ys = refl
map-append f (x ∷ xs) ys = ap (λ l. f x ∷ l) (map-append f xs ys)

both_turns : (xs ys : List InnerTurn) → writes (map act_of (xs ++ ys)) ≡ writes (map act_of xs) + writes (map act_of ys)
both_turns xs ys = ap writes (map-append act_of xs ys) ∙ writes-append (map act_of xs) (map act_of ys)

lists_few : (acts : List (List Act)) (answers : List (List Answer)) → writes (map act_of (joined (answered_lists acts answers))) ≤ writes (joined acts)
lists_few [] answers = omega arith
lists_few (a ∷ acts) [] = omega arith
lists_few (a ∷ acts) (b ∷ answers) =
    let here = answered_few a b in
    let rest = lists_few acts answers in
    let split = both_turns (answered a b) (joined (answered_lists acts answers)) in
    let of_acts = writes-append a (joined acts) in
    omega (arith, here, rest, split, of_acts)

request_few : (r : Request) (b : Reply) → writes (map act_of (joined (lists_by r b))) ≤ writes (acts_of (Some r))
request_few (request.One a) (reply.One b) = omega arith
request_few (request.One a) (reply.Par clients workers) = omega arith
request_few (request.Par clients workers) (reply.One b) = omega arith
request_few (request.Par clients workers) (reply.Par for_clients for_workers) =
    let both : writes (map act_of (joined (answered_lists clients for_clients ++ answered_lists workers for_workers))) ≡ writes (map act_of (joined (answered_lists clients for_clients))) + writes (map act_of (joined (answered_lists workers for_workers))) =
    ap (λ l. writes (map act_of l)) (flat_map-append (λ (list : List InnerTurn). list) (answered_lists clients for_clients) (answered_lists workers for_workers)) ∙ both_turns (joined (answered_lists clients for_clients)) (joined (answered_lists workers for_workers)) in
    let of_acts = writes-append (joined clients) (joined workers) in
    omega (arith, both, of_acts, lists_few clients for_clients, lists_few workers for_workers)

turns_few : (turns : List Turn) → writes (map act_of (inner_turns turns)) ≤ writes (acts_in turns)
turns_few [] = omega arith
turns_few (turn ∷ turns) =
    let here = request_few turn.request turn.reply in
    let rest = turns_few turns in
    let split = both_turns (joined (lists_of turn)) (inner_turns turns) in
    let of_acts = writes-append (acts_of (Some turn.request)) (acts_in turns) in
    omega (arith, here, rest, split, of_acts)

abbrev unanswered_acts : List Record → List Act
unanswered_acts past = flat_map (λ (run : Record). acts_of run.unanswered) past

-- what earlier runs sent, or took without an answer
past_few : (past : List Record) → writes (map act_of (earlier_turns past)) + writes (unanswered_acts past) ≤ writes (flat_map acts_taken past)
past_few [] = omega arith
past_few (run ∷ past) =
    let here = turns_few run.turns in
    let rest = past_few past in
    let split = both_turns (inner_turns run.turns) (earlier_turns past) in
    let open_ = writes-append (acts_of run.unanswered) (unanswered_acts past) in
    let taken = writes-append (acts_in run.turns) (acts_of run.unanswered) in
    let all = writes-append (acts_taken run) (flat_map acts_taken past) in
    omega (arith, here, rest, split, open_, taken, all)

-- ---- what was sent by the end of these lines

-- all points that were sent before the next line, or were taken by an earlier run
abbrev pub sent_so_far : List Record → Option MetaState → List Turn → Act → Answer → List Point
sent_so_far past start turns a b = sent_at past start (position_after turns a b)

pub sent_few : (past : List Record) (start : Option MetaState) (turns : List Turn) (a : Act) (b : Answer) → length (sent_so_far past start turns a b) ≤ writes_taken past (turns ++ line_of a b ∷ [])
sent_few past start turns a b =
    let spaces = (rules_at start (position_after turns a b)).spaces in
    let before : List InnerTurn = (earlier_turns past ++ (inner_turns turns ++ [])) ++ [] in
    let open_ = unanswered_acts past in
    let both = length-append (filter_map (sent_point spaces) before) (filter_map (point_of spaces) open_) in
    let of_turns = made_few (sent_point spaces) act_of (sent_write spaces) before in
    let of_open = made_few (point_of spaces) (λ (x : Act). x) (point_write spaces) open_ in
    let same : writes (map (λ (x : Act). x) open_) ≡ writes open_ = ap writes (map-same open_) in
    let one = both_turns (earlier_turns past ++ (inner_turns turns ++ [])) [] in
    let two = both_turns (earlier_turns past) (inner_turns turns ++ []) in
    let three = both_turns (inner_turns turns) [] in
    let earlier = past_few past in
    let here = turns_few turns in
    let line = writes-append (acts_in turns) (acts_in (line_of a b ∷ [])) in
    let long : acts_in (turns ++ line_of a b ∷ []) ≡ acts_in turns ++ acts_in (line_of a b ∷ []) = flat_map-append (λ (turn : Turn). acts_of (Some turn.request)) turns (line_of a b ∷ []) in
    let all : writes_taken past (turns ++ line_of a b ∷ []) ≡ writes (flat_map acts_taken past) + writes (acts_in (turns ++ line_of a b ∷ [])) = writes-append (flat_map acts_taken past) (acts_in (turns ++ line_of a b ∷ [])) in
    omega (arith, both, of_turns, of_open, same, one, two, three, earlier, here, line, ap writes long, all)
  where
    map-same : {X : Type 0} (xs : List X) → map (λ (x : X). x) xs ≡ xs
    map-same [] = refl
    map-same (x ∷ xs) = ap (λ l. x ∷ l) (map-same xs)
