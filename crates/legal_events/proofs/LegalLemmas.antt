-- What the tests of a list tell.
use Rattle.std.proofs.Common.{◌-◌, ◌≡◌, ◌⊎◌, ◌↔◌, ℕ, zero, suc, ◌+◌, ◌<◌, ◌≤◌, List, [], ◌∷◌, ◌++◌, take, drop, get_or, length, refl, sym, ap, ◌∙◌, subst, inl, inr, arith, All, Any, true, Bool, append-nil, append_assoc}
use Rattle.std.proofs.lemmas.List.{length-take, take_all}
use Rattle.std.proofs.lemmas.Bool.{cases_eq}
use Rattle.std.specs.List.{flat_map}
use Rattle.std.specs.Prelude.{None, Some, slice_get}
use Rattle.std.proofs.lemmas.Option.{same_Some, slice_get-get_or}
use Rattle.m3_model.specs.Members.{IsIn}
use Rattle.m3_model.proofs.MemberLemmas.{IsIn-append_left, IsIn-append_right, IsIn-append_cases}
use Rattle.m3_model.proofs.Lists.{All-from_each}
use Rattle.m3_model.specs.Reads.{Covers, points_in, space_picked, IsOrdered}
use Rattle.m3_model.specs.declared.placement.Placement.{Placement}
use Rattle.m3_model.specs.declared.point.Pick.{Pick}
use Rattle.m3_model.specs.declared.point.Point.{Point}
use Rattle.m3_model.specs.declared.point.Series.{Series}
use Rattle.m3_model.specs.declared.rules.Rules.{Rules}
use Rattle.placement_core.specs.Steps.{IsStep}
use Rattle.placement_core.proofs.ListLemmas.{each-from_All, IsIn-from_Any, Any-from_IsIn}
use Rattle.cluster_core.specs.Earlier.{GaveAnswer, AreCounted, HasPut, last_place, last_clock}
use Rattle.legal_events.specs.Fetches.{JoinsTo, CanJoin}
use Rattle.cluster_core.specs.Legal.{EachAnswered, IsJoined, Lawful, LawfulAt, Legal, IsNextClock, IsNextPlace, JoinedAt, AcksSend, IsAck, EndsFetch, IsFetched}
use Rattle.legal_events.specs.Sumless.{HasNoSums, IsAskedStep}
use Rattle.cluster_core.specs.Asks.{StepWasAsked}
use Rattle.cluster_core.specs.Lists.{At, IsPrefix, IsDistinct}
use Rattle.cluster_core.specs.Replicas.{replica}
use Rattle.cluster_core.specs.Rows.{LawfulStep}
use Rattle.lawful_steps.specs.NoSums.{GivesNoSums}
use Rattle.cluster_core.specs.declared.replica_state.ReplicaState.{ReplicaState}
use Rattle.cluster_core.specs.declared.event.StepCall.{StepCall}
use Rattle.cluster_core.specs.declared.event.StepReply.{StepReply}
use Rattle.cluster_core.specs.declared.event.Event.{Event}
use Rattle.cluster_core.specs.declared.event.Event.TheVariants as event
use Rattle.cluster_core.specs.declared.event.StepCall.TheVariants as call
use Rattle.cluster_core.specs.declared.event.StepReply.TheVariants as reply
use Rattle.cluster_core.proofs.ListLemmas.{any_at, at_same, at_in, at_within}

-- a longer list begins no shorter one
pub prefix_short : {X : Type 0} (xs ys : List X) → IsPrefix xs ys → length xs ≤ length ys
prefix_short xs ys p = omega (arith, ap length p, length-take (length xs) ys)

-- past the first two events the rows hold
pub lawful_later : (tells : Bool) (n : ℕ) (past : List Event) (e : Event) → 2 ≤ n → LawfulAt tells n past e ↔ Lawful tells past e
lawful_later tells zero past e le = absurd (omega arith)
lawful_later tells (suc zero) past e le = absurd (omega arith)
lawful_later tells (suc (suc n)) past e le = (λ h. h, λ h. h)

-- ---- answers that a fetch joins

-- an event gives one answer to a fetch
pub one_answer : (n : ℕ) (fetch : Event) (a b : List Series) (e : Event) → GaveAnswer n fetch a e → GaveAnswer n fetch b e → a ≡ b
one_answer n (event.FetchStart version s rules pick from to) a b (event.Step node shard (call.Read client number r v k f t) (reply.Found series)) g h = sym g.7 ∙ h.7
one_answer n _ a b _ g h = absurd g

points_append : (f : List Series → List Point) (so_far : List Point) (answer : List Series) (answers : List (List Series)) → (so_far ++ f answer) ++ flat_map f answers ≡ so_far ++ flat_map f (answer ∷ answers)
points_append f so_far answer answers = append_assoc so_far (f answer) (flat_map f answers)

pub no_more : (since : List Event) (fetch : Event) (ns : ℕ) (so_far joined : List Point) → JoinsTo joined so_far ↔ CanJoin since fetch ns [] so_far joined
no_more since fetch ns so_far joined = (
  λ h. record { answers = []; answered = tt; joins = subst (JoinsTo joined) (sym (append-nil so_far)) h },
  λ h. by h.answers h.answered h.joins,
)
  where
    by : (answers : List (List Series)) → EachAnswered since fetch [] answers → JoinsTo joined (so_far ++ flat_map (points_in ns) answers) → JoinsTo joined so_far
    by [] a j = subst (JoinsTo joined) (append-nil so_far) j
    by (answer ∷ answers) a j = absurd a

-- one more node: one of the events has its answer, and the rest can join with it
pub one_more : (since : List Event) (fetch : Event) (ns n : ℕ) (nodes : List ℕ) (so_far joined : List Point) (e : Event) (answer : List Series) → IsIn since e → GaveAnswer n fetch answer e
    → CanJoin since fetch ns nodes (so_far ++ points_in ns answer) joined → CanJoin since fetch ns (n ∷ nodes) so_far joined
one_more since fetch ns n nodes so_far joined e answer m gave h = record {
  answers = answer ∷ h.answers;
  answered = (Any-from_IsIn (GaveAnswer n fetch answer) since e m gave, h.answered);
  joins = subst (JoinsTo joined) (points_append (points_in ns) so_far answer h.answers) h.joins;
}

pub more_one : (since : List Event) (fetch : Event) (ns n : ℕ) (nodes : List ℕ) (so_far joined : List Point) → CanJoin since fetch ns (n ∷ nodes) so_far joined
    → (i : ℕ) × (e : Event) × (answer : List Series) × At since i e × GaveAnswer n fetch answer e × CanJoin since fetch ns nodes (so_far ++ points_in ns answer) joined
more_one since fetch ns n nodes so_far joined h = by h.answers h.answered h.joins
  where
    by : (answers : List (List Series)) → EachAnswered since fetch (n ∷ nodes) answers → JoinsTo joined (so_far ++ flat_map (points_in ns) answers)
        → (i : ℕ) × (e : Event) × (answer : List Series) × At since i e × GaveAnswer n fetch answer e × CanJoin since fetch ns nodes (so_far ++ points_in ns answer) joined
    by [] a j = absurd a
    by (answer ∷ answers) a j =
        let g = any_at (GaveAnswer n fetch answer) since a.0 in
        (g.0, g.1, answer, g.2, g.3, record { answers = answers; answered = a.1; joins = subst (JoinsTo joined) (sym (points_append (points_in ns) so_far answer answers)) j })

in_flat : (f : List Series → List Point) (answers : List (List Series)) (p : Point) → IsIn (flat_map f answers) p → (answer : List Series) × IsIn answers answer × IsIn (f answer) p
in_flat f [] p m = absurd m
in_flat f (a ∷ answers) p m =
    elim (IsIn-append_cases (f a) (flat_map f answers) p m) as (λ _. (answer : List Series) × ((a ≡ answer) ⊎ IsIn answers answer) × IsIn (f answer) p) [
      | inl h ↦ (a, inl refl, h)
      | inr r ↦ let l = in_flat f answers p r in (l.0, inr l.1, l.2)
    ]

flat_in : (f : List Series → List Point) (answers : List (List Series)) (answer : List Series) (p : Point) → IsIn answers answer → IsIn (f answer) p → IsIn (flat_map f answers) p
flat_in f [] answer p m h = absurd m
flat_in f (a ∷ answers) answer p m h =
    elim m as (λ _. IsIn (f a ++ flat_map f answers) p) [
      | inl e ↦ IsIn-append_left (f a) (flat_map f answers) p (subst (λ x. IsIn (f x) p) (sym e) h)
      | inr r ↦ IsIn-append_right (f a) (flat_map f answers) p (flat_in f answers answer p r h)
    ]

-- the join of answers, by all their points together
pub join_decided : (since : List Event) (fetch : Event) (pick : Pick) (nodes : List ℕ) (series : List Series) → (CanJoin since fetch (space_picked pick) nodes [] (points_in (space_picked pick) series) × IsOrdered series) ↔ IsJoined since fetch pick nodes series
join_decided since fetch pick nodes series =
    let ns = space_picked pick in
    let joined = points_in ns series in (
      λ t.
          let c = t.0 in
          let all = flat_map (points_in ns) c.answers in
          record {
            answers = c.answers;
            answered = c.answered;
            joined = record {
              nothing_else = All-from_each (λ p. Any (λ answer. IsIn (points_in ns answer) p) c.answers) joined
                  (λ p m. let a = in_flat (points_in ns) c.answers p (each-from_All (IsIn all) joined (c.joins).nothing_else p m) in Any-from_IsIn (λ answer. IsIn (points_in ns answer) p) c.answers a.0 a.1 a.2);
              all_there = All-from_each (λ answer. All (λ p. Covers joined p) (points_in ns answer)) c.answers
                  (λ answer m. All-from_each (λ p. Covers joined p) (points_in ns answer) (λ p k. each-from_All (Covers joined) all (c.joins).all_there p (flat_in (points_in ns) c.answers answer p m k)));
              ordered = t.1;
            };
          },
      λ j. (
        record {
          answers = j.answers;
          answered = j.answered;
          joins = record {
            nothing_else = All-from_each (IsIn (flat_map (points_in ns) j.answers)) joined
                (λ p m. let a = IsIn-from_Any (λ answer. IsIn (points_in ns answer) p) j.answers (each-from_All (λ q. Any (λ answer. IsIn (points_in ns answer) q) j.answers) joined (j.joined).nothing_else p m) in flat_in (points_in ns) j.answers a.0 p a.1 a.2);
            all_there = All-from_each (Covers joined) (flat_map (points_in ns) j.answers)
                (λ p m. let a = in_flat (points_in ns) j.answers p m in each-from_All (λ q. Covers joined q) (points_in ns a.0) (each-from_All (λ answer. All (λ q. Covers joined q) (points_in ns answer)) j.answers (j.joined).all_there a.0 a.1) p a.2);
          };
        },
        (j.joined).ordered,
      ),
    )

-- ---- the next clock and placement

pub clock_decided : (past : List Event) (rules last : Rules) → last_clock past ≡ Some last → ((last.now ≤ rules.now) × IsPrefix last.spaces rules.spaces) ↔ IsNextClock past rules
clock_decided past rules last is = (
  λ t. record { last = last; last_is = is; not_lower = t.0; grows = t.1 },
  λ h.
      let same = same_Some h.last last (sym h.last_is ∙ is) in
      (subst (λ (r : Rules). r.now ≤ rules.now) same h.not_lower, subst (λ (r : Rules). IsPrefix r.spaces rules.spaces) same h.grows),
)

pub no_clock : (past : List Event) (rules : Rules) → last_clock past ≡ None → ¬ IsNextClock past rules
no_clock past rules none h = let clash : None ≡ Some h.last = sym none ∙ h.last_is in cc

pub place_decided : (past : List Event) (place last : Placement) (done : List (ℕ × ℕ)) → last_place past ≡ Some last → (All (λ d. JoinedAt past last d.0 d.1) done × IsStep last place done) ↔ IsNextPlace past place done
place_decided past place last done is = (
  λ t. record { last = last; last_is = is; step = t.1; joined = t.0 },
  λ h.
      let same = same_Some h.last last (sym h.last_is ∙ is) in
      (subst (λ (p : Placement). All (λ d. JoinedAt past p d.0 d.1) done) same h.joined, subst (λ (p : Placement). IsStep p place done) same h.step),
)

pub no_place : (past : List Event) (place : Placement) (done : List (ℕ × ℕ)) → last_place past ≡ None → ¬ IsNextPlace past place done
no_place past place done none h = let clash : None ≡ Some h.last = sym none ∙ h.last_is in cc

-- ---- acknowledgements and fetches

pub ack_decided : (past : List Event) (send : ℕ) (nodes : List ℕ) (sent : Event) → At past send sent → AcksSend past nodes sent ↔ IsAck past send nodes
ack_decided past send nodes sent at = (λ h. (sent, at, h), λ h. subst (AcksSend past nodes) (at_same past send h.0 sent h.1 at) h.2)

pub no_ack : (past : List Event) (send : ℕ) (nodes : List ℕ) → slice_get past send ≡ None → ¬ IsAck past send nodes
no_ack past send nodes none h = let clash : None ≡ Some h.0 = sym none ∙ h.1 in cc

pub fetch_decided : (past : List Event) (start : ℕ) (nodes : List ℕ) (series : List Series) (fetch : Event) → At past start fetch → EndsFetch past (drop (suc start) past) nodes series fetch ↔ IsFetched past start nodes series
fetch_decided past start nodes series fetch at = (λ h. (fetch, at, h), λ h. subst (EndsFetch past (drop (suc start) past) nodes series) (at_same past start h.0 fetch h.1 at) h.2)

pub no_fetch : (past : List Event) (start : ℕ) (nodes : List ℕ) (series : List Series) → slice_get past start ≡ None → ¬ IsFetched past start nodes series
no_fetch past start nodes series none h = let clash : None ≡ Some h.0 = sym none ∙ h.1 in cc

-- the points so far are covered where the whole can join
pub so_far_reached : (since : List Event) (fetch : Event) (ns : ℕ) (nodes : List ℕ) (so_far joined : List Point) → CanJoin since fetch ns nodes so_far joined → All (Covers joined) so_far
so_far_reached since fetch ns nodes so_far joined h =
    let all = flat_map (points_in ns) h.answers in
    All-from_each (Covers joined) so_far (λ p m. each-from_All (Covers joined) (so_far ++ all) (h.joins).all_there p (IsIn-append_left so_far all p m))

-- ---- the whole list

-- the first events are lawful at their positions, and no answers of digests
abbrev pub LegalBelow : List Event → ℕ → Type 0
LegalBelow events n = (i : ℕ) (e : Event) → i < n → At events i e → LawfulAt true i (take i events) e × HasNoSums e

pub legal_more : (events : List Event) (n : ℕ) (e : Event) → At events n e → LawfulAt true n (take n events) e × HasNoSums e → LegalBelow events n → LegalBelow events (n + 1)
legal_more events n e at here was i x lt there = elim (cases_eq i n) as (λ _. LawfulAt true i (take i events) x × HasNoSums x) [
  | inl is ↦
      let same : e ≡ x = at_same events n e x at (subst (λ k. At events k x) is there) in
      subst (λ k. LawfulAt true k (take k events) x × HasNoSums x) (sym is) (subst (λ (z : Event). LawfulAt true n (take n events) z × HasNoSums z) same here)
  | inr ne ↦ was i x (omega (arith, lt, ne)) there
]

pub legal_done : (events : List Event) (n : ℕ) → length events ≤ n → LegalBelow events n → Legal true events × All HasNoSums events
legal_done events n le was = (
  λ i e at. (was i e (omega (arith, at_within events i e at, le)) at).0,
  λ k d lt. (was k (get_or events k d) (omega (arith, lt, le)) (slice_get-get_or events k d lt)).1,
)

pub not_legal : (events : List Event) (n : ℕ) (e : Event) → At events n e → ¬ (LawfulAt true n (take n events) e × HasNoSums e) → ¬ (Legal true events × All HasNoSums events)
not_legal events n e at isnt h = isnt (h.0 n e at, each-from_All HasNoSums events h.1 e (at_in events n e at))

-- ---- one node after the other

-- the first node, and the others as a slice has them
nodes_split : (nodes : List ℕ) → 1 ≤ length nodes → nodes ≡ get_or nodes 0 0 ∷ take (length nodes - 1) (drop 1 nodes)
nodes_split [] le = absurd (omega arith)
nodes_split (n ∷ nodes) le = ap (λ ns. n ∷ ns) (sym (take_all (length (n ∷ nodes) - 1) nodes (omega arith)))

pub end_decided : (since : List Event) (fetch : Event) (ns : ℕ) (nodes : List ℕ) (so_far joined : List Point) → length nodes < 1 → All (Covers joined) so_far → All (IsIn so_far) joined ↔ CanJoin since fetch ns nodes so_far joined
end_decided since fetch ns [] so_far joined none reached =
    let is = no_more since fetch ns so_far joined in
    (λ h. is.0 (record { nothing_else = h; all_there = reached }), λ h. (is.1 h).nothing_else)
end_decided since fetch ns (n ∷ nodes) so_far joined none reached = absurd (omega arith)

module _ (since : List Event) (fetch : Event) (ns : ℕ) (nodes : List ℕ) (so_far joined : List Point) (some : 1 ≤ length nodes) where
  -- the others can join with this answer of the first node
  abbrev JoinsWith : List Series → Type 0
  JoinsWith answer = CanJoin since fetch ns (take (length nodes - 1) (drop 1 nodes)) (so_far ++ points_in ns answer) joined

  -- they can't join with an answer of the first events
  abbrev NoneJoins : ℕ → Type 0
  NoneJoins i = (j : ℕ) (e : Event) (answer : List Series) → j < i → At since j e → GaveAnswer (get_or nodes 0 0) fetch answer e → ¬ JoinsWith answer

  pub join_here : (i : ℕ) (e : Event) (answer : List Series) → At since i e → GaveAnswer (get_or nodes 0 0) fetch answer e → JoinsWith answer → CanJoin since fetch ns nodes so_far joined
  join_here i e answer at gave h =
      subst (λ all. CanJoin since fetch ns all so_far joined) (sym (nodes_split nodes some))
      (one_more since fetch ns (get_or nodes 0 0) (take (length nodes - 1) (drop 1 nodes)) so_far joined e answer (at_in since i e at) gave h)

  pub join_next : (i : ℕ) (e : Event) (answer : List Series) → At since i e → GaveAnswer (get_or nodes 0 0) fetch answer e → ¬ JoinsWith answer → NoneJoins i → NoneJoins (i + 1)
  join_next i e answer at gave isnt was j x given lt there gives h = elim (cases_eq j i) as (λ _. ⊥) [
    | inl is ↦
        let same : x ≡ e = at_same since i x e (subst (λ k. At since k x) is there) at in
        isnt (subst JoinsWith (one_answer (get_or nodes 0 0) fetch given answer e (subst (GaveAnswer (get_or nodes 0 0) fetch given) same gives) gave) h)
    | inr ne ↦ was j x given (omega (arith, lt, ne)) there gives h
  ]

  pub join_none : (i : ℕ) → length since ≤ i → NoneJoins i → ¬ CanJoin since fetch ns nodes so_far joined
  join_none i le was h =
      let m = more_one since fetch ns (get_or nodes 0 0) (take (length nodes - 1) (drop 1 nodes)) so_far joined (subst (λ all. CanJoin since fetch ns all so_far joined) (nodes_split nodes some) h) in
      was m.0 m.1 m.2 (omega (arith, at_within since m.0 m.1 m.3, le)) m.3 m.4 m.5

-- ---- rows, by what an event is

pub ends_decided : (past since : List Event) (nodes : List ℕ) (series : List Series) (version s : ℕ) (rules : Rules) (pick : Pick) (from to : ℕ) (fetch : Event) → fetch ≡ event.FetchStart version s rules pick from to
    → IsDistinct nodes → AreCounted past version s nodes → IsJoined since fetch pick nodes series ↔ EndsFetch past since nodes series fetch
ends_decided past since nodes series version s rules pick from to fetch is distinct counted =
    subst (λ f. IsJoined since f pick nodes series ↔ EndsFetch past since nodes series f) (sym is) (λ j. (distinct, counted, j), λ h. h.2)

pub step_decided : (past : List Event) (e : Event) (n s : ℕ) (c : StepCall) (a : StepReply) (r : ReplicaState) → e ≡ event.Step n s c a → r ≡ replica n s past → StepWasAsked past e
    → (LawfulStep true past n s r c a × GivesNoSums a) ↔ IsAskedStep past e
step_decided past e n s c a r is state asked =
    let was = subst (StepWasAsked past) is asked in
    subst (λ f. (LawfulStep true past n s r c a × GivesNoSums a) ↔ IsAskedStep past f) (sym is) (
      λ h. ((was, subst (λ (x : ReplicaState). LawfulStep true past n s x c a) state h.0), h.1),
      λ h. (subst (λ (x : ReplicaState). LawfulStep true past n s x c a) (sym state) (h.0).1, h.1),
    )

pub step_lawful : (past : List Event) (e : Event) (n s : ℕ) (c : StepCall) (a : StepReply) → e ≡ event.Step n s c a → IsAskedStep past e ↔ (Lawful true past e × HasNoSums e)
step_lawful past e n s c a is = subst (λ f. IsAskedStep past f ↔ (Lawful true past f × HasNoSums f)) (sym is) (λ h. h, λ h. h)

pub fetch_lawful : (past : List Event) (e : Event) (start : ℕ) (nodes : List ℕ) (series : List Series) → e ≡ event.FetchDone start nodes series → IsFetched past start nodes series ↔ (Lawful true past e × HasNoSums e)
fetch_lawful past e start nodes series is = subst (λ f. IsFetched past start nodes series ↔ (Lawful true past f × HasNoSums f)) (sym is) (λ h. (h, tt), λ h. h.0)

pub acks_decided : (past : List Event) (nodes : List ℕ) (sent : Event) (version s : ℕ) (p : Point) → sent ≡ event.Send version s p
    → (IsDistinct nodes × AreCounted past version s nodes × All (λ n. HasPut past n s version p) nodes) ↔ AcksSend past nodes sent
acks_decided past nodes sent version s p is = subst (λ x. (IsDistinct nodes × AreCounted past version s nodes × All (λ n. HasPut past n s version p) nodes) ↔ AcksSend past nodes x) (sym is) (λ h. h, λ h. h)
