-- A line that neither positions nor begins or ends replicas is served where no refusal was due.
use Rattle.std.proofs.Common.{◌≡◌, ℕ, zero, suc, ◌+◌, ◌*◌, ◌<◌, ◌≤◌, List, [], ◌∷◌, ◌++◌, drop, length, refl, sym, ap, subst, ◌∙◌, inl, inr, arith, Bool, false, length-append, IsPermutation}
use Rattle.std.specs.Prelude.{◌⊎◌, Option, if◌then◌else◌}
use Rattle.std.proofs.lemmas.List.{append-nil}
use Rattle.std.proofs.lemmas.List.Sorted.{length_permutation}
use Rattle.std.proofs.Math.Nat.{mul-le-mul_left}
use Rattle.std.proofs.lemmas.Bool.{cases_lt, le-ltb, lt-ltb}
use Rattle.m3_model.specs.Members.{IsIn}
use Rattle.m3_model.specs.declared.act.Act.{Act}
use Rattle.m3_model.specs.declared.answer.Answer.{Answer}
use Rattle.m3_model.specs.declared.answer.Answer.TheVariants as answer
use Rattle.m3_model.specs.declared.limits.TheConstants.{MOST_EVENTS, MOST_REQUEST_EVENTS}
use Rattle.m3_model.specs.declared.placement.Placement.{Placement}
use Rattle.m3_model.specs.declared.reason.Reason.TheVariants as reason
use Rattle.m3_model.specs.declared.rules.MetaState.{MetaState}
use Rattle.m3_model.specs.declared.turn.Turn.{Turn}
use Rattle.cluster_core.specs.Lists.{At}
use Rattle.cluster_core.specs.declared.event.Event.{Event}
use Rattle.cluster_core.specs.declared.event.Event.TheVariants as event
use Rattle.cluster_core.specs.declared.event.StepCall.TheVariants as call
use Rattle.cluster_core.specs.declared.event.StepReply.TheVariants as reply
use Rattle.cluster_core.proofs.ListLemmas.{at_in}
use Rattle.net_plan.specs.declared.late_write.LateWrite.{LateWrite}
use Rattle.placement_core.specs.Lawful.{IsLawful}
use Rattle.placement_core.specs.Shards.{Shard, shard_at}
use Rattle.told_runs.specs.told_by.Hears.{InStretch}
use Rattle.told_runs.specs.told_by.Lines.{position_after}
use Rattle.told_runs.proofs.told_by_proofs.LineLemmas.{line_below}
use Rattle.told_runs.proofs.told_by_proofs.OneLemmas.{among_back}
use Rattle.session_net.specs.replica_exchange.MachineCalls.{HasRoom}
use Rattle.told_runs.specs.Answers.{HearsOf, IsAnswered, IsDecidedBy, IsOfKind, MayLackRoom}
use Rattle.told_runs.specs.Bounds.{writes_taken}
use Rattle.told_runs.specs.Lines.{AddsInOrder, OpensNext, ServesOne, delivered_on}
use Rattle.told_runs.specs.transcripts.Caused.{acts_in}
use Rattle.told_runs.specs.transcripts.Deliveries.{IsSameMessage, LateMessage, delivers_nothing}
use Rattle.told_runs.specs.transcripts.Record.{IsTurnPosition, Record, TurnPosition, inner_turns, line_of}
use Rattle.told_runs.proofs.transcripts_proofs.PositionLemmas.{at_push}
use Rattle.line_tracks.specs.calls.Laws.{IsCalm, IsNotRefused}
use Rattle.line_tracks.specs.calls.Left.{AreHeldBack, IsHeldBack, WereDelivered}
use Rattle.line_tracks.proofs.calls.ShardLemmas.{shard_there}

-- ---- sizes

pub few_members : (place : Placement) → IsLawful place → (s : ℕ) (members : Shard) → IsPermutation (shard_at place s) members → length members ≤ 6
few_members place lawful s members same = let long = length_permutation (shard_at place s) members same in let few = by (shard_at place s) refl in omega (arith, long, few)
  where
    by : (shard : Shard) → shard_at place s ≡ shard → length (shard_at place s) ≤ 6
    by [] is = let none : length (shard_at place s) ≡ 0 = ap length is in omega (arith, none)
    by (a ∷ shard) is =
        let there = at_in place.shards s (shard_at place s) (shard_there place.shards s a (subst (λ xs. IsIn xs a) (sym is) (inl refl))) in
        let rf = (lawful.limits).few_replicas in
        elim (lawful.shards (shard_at place s) there).replicas as (λ _. length (shard_at place s) ≤ 6) [ inl steady ↦ (let many = steady.1 in omega (arith, many, rf)) | inr moving ↦ (let many = moving.1 in omega (arith, many, rf)) ]

-- where the list has no room for so few more events, it may lack room for a request
pub may_lack : (n : ℕ) (events : List Event) → n + 2 ≤ MOST_REQUEST_EVENTS → ¬ HasRoom n events → MayLackRoom (length events)
may_lack n events few none =
    elim (cases_lt MOST_EVENTS (length events + n)) as (λ _. MayLackRoom (length events)) [
      | inl over ↦ omega (arith, over, few)
      | inr fits ↦ absurd (none (omega (arith, fits)))
    ]

-- ---- late messages

-- what stands behind some first elements
in_drop : {X : Type 0} (k : ℕ) (xs : List X) (y : X) (ys : List X) → k ≤ length xs → IsIn (drop k (xs ++ y ∷ ys)) y
in_drop zero [] y ys le = inl refl
in_drop zero (x ∷ xs) y ys le = inr (in_drop zero xs y ys (omega arith))
in_drop (suc k) [] y ys le = absurd (omega (arith, le))
in_drop (suc k) (x ∷ xs) y ys le = in_drop k xs y ys (omega (arith, le))

-- a message that is held back was never delivered
pub never_delivered : (start : Option MetaState) (turns : List Turn) (x : LateMessage) (late : LateWrite) → IsHeldBack start turns x late → (was : TurnPosition → List LateMessage) → WereDelivered turns was → (q : TurnPosition) → IsTurnPosition turns q → (y : LateMessage) → IsIn (was q) y → ¬ IsSameMessage x y
never_delivered start turns x late held was were q at y m same =
    let before = were q at y m in
    let behind : suc (length x.position.lines) ≤ length q.lines = let is = same.0.0 in let less = before.0 in omega (arith, is, less) in
    let quiet = (held.is_late).not_yet q.line (subst (λ ts. IsIn (drop (suc (length x.position.lines)) ts) q.line) (sym at.in_run) (in_drop (suc (length x.position.lines)) q.lines q.line at.after behind)) in
    let loud = before.1 in
    cc

pub held_one : (start : Option MetaState) (turns : List Turn) (messages : List LateMessage) (bag : List LateWrite) → AreHeldBack start turns messages bag → (x : LateMessage) → IsIn messages x → (late : LateWrite) × IsHeldBack start turns x late
held_one start turns [] bag held x m = absurd m
held_one start turns (y ∷ messages) [] held x m = absurd held
held_one start turns (y ∷ messages) (late ∷ bag) held x m = elim m as (λ _. (l : LateWrite) × IsHeldBack start turns x l) [ inl same ↦ (late, subst (λ z. IsHeldBack start turns z late) same held.0) | inr rest ↦ held_one start turns messages bag held.1 x rest ]

-- ---- the line

module _ (start : Option MetaState) (turns : List Turn) (events : List Event) (a : Act) (b : Answer) (more : List Event) (calm : (e : Event) → IsIn more e → IsCalm e) where
  added : (i : ℕ) (e : Event) → length events ≤ i → At (events ++ more) i e → IsCalm e
  added i e le at = calm e (among_back events more i e at le)

  in_order : AddsInOrder events more
  in_order = record {
    lawful = λ i place done adds. absurd (added i (event.Place place done) adds.0 adds.1);
    one = λ i place done adds. absurd (added i (event.Place place done) adds.0 adds.1);
    ends = λ i n s r adds. absurd (added i (event.Step n s call.End r) adds.0 adds.1);
  }

  opens_none : OpensNext start events more
  opens_none = record {
    fenced = λ i n s tenure fence points adds. absurd (added i (event.Step n s (call.Begin tenure) (reply.Began fence points)) adds.0 adds.1);
    owned = λ i n s tenure adds. absurd (added i (event.Step n s (call.Begin tenure) (reply.Refused reason.NotOwned)) adds.0 adds.1);
  }

  fits : length more ≤ MOST_REQUEST_EVENTS → (writes : ℕ) → length (events ++ more) ≤ length events + (MOST_REQUEST_EVENTS * length (acts_in (line_of a b ∷ []))) * (writes + 1)
  fits few writes =
      let both = length-append events more in
      let one : 1 ≤ writes + 1 = omega arith in
      let some : (MOST_REQUEST_EVENTS * 1) * 1 ≤ (MOST_REQUEST_EVENTS * 1) * (writes + 1) = mul-le-mul_left (MOST_REQUEST_EVENTS * 1) one in
      omega (arith, both, few, some)

  pub answered : (b ≡ answer.Memory) ⊎ IsOfKind [] start (position_after turns a b) a b → IsNotRefused start turns a b → IsAnswered [] start (length (events ++ more)) (position_after turns a b)
  answered (inl memory) none = inl memory
  answered (inr kind) none = inr (inr (inner_turns turns, record { others = []; some_of = tt; are = sym (append-nil (inner_turns turns)) }, subst (IsDecidedBy [] start (position_after turns a b)) (sym none) kind))

  pub serves_so : length more ≤ MOST_REQUEST_EVENTS → (messages : List LateMessage) → HearsOf start (InStretch (events ++ more) (length events) (length (events ++ more))) (position_after turns a b) messages b
      → ((x : LateMessage) → IsIn messages x → (late : LateWrite) × IsHeldBack start turns x late) → IsAnswered [] start (length (events ++ more)) (position_after turns a b) → (tells : Bool) (was : TurnPosition → List LateMessage) (past : List Record) → WereDelivered turns was
      → ServesOne tells [] messages was past start turns events a b more
  serves_so few messages heard held is_answered tells was past were = record {
    adds = in_order;
    opens = λ is. opens_none;
    answered = is_answered;
    delivers = heard;
    not_again = λ q at x y m k. let late = held x m in never_delivered start turns x late.0 late.1 was were q at y k;
    untaken_are = λ fault m. absurd m;
    different = tt;
    bound = λ is. fits few (writes_taken past (turns ++ line_of a b ∷ []));
  }

-- what was delivered before, and now
pub delivered_so : (turns : List Turn) (a : Act) (b : Answer) (messages : List LateMessage) → ((m : LateMessage) → IsIn messages m → (length m.position.lines < length turns) × (delivers_nothing (line_of a b) ≡ false)) → (was : TurnPosition → List LateMessage) → WereDelivered turns was
    → WereDelivered (turns ++ line_of a b ∷ []) (delivered_on turns was (λ p. messages))
delivered_so turns a b messages now was were = at_push (λ q. (m : LateMessage) → IsIn (delivered_on turns was (λ p. messages) q) m → (length m.position.lines < length q.lines) × (delivers_nothing q.line ≡ false)) turns (line_of a b)
    (λ q at m i. were q at m (subst (λ t. IsIn (if t then was q else messages) m) (lt-ltb (length q.lines) (length turns) (line_below turns q at)) i))
    (λ q last m i. let there = now m (subst (λ t. IsIn (if t then was q else messages) m) (le-ltb (length q.lines) (length turns) (omega (arith, ap length last.lines_are))) i) in
    (subst (λ ls. length m.position.lines < length ls) (sym last.lines_are) there.0, ap delivers_nothing last.line_is ∙ there.1))
