-- Why the broken lists don't tell of their runs.
use Rattle.std.proofs.Common.{◌≡◌, ℕ, zero, suc, ◌≤◌, List, [], ◌∷◌, ◌++◌, take, refl, sym, ap, ◌∙◌, subst, inl, inr, arith}
use Rattle.std.specs.Prelude.{◌⊎◌, Some, None}
use Rattle.m3_model.specs.Members.{IsIn}
use Rattle.m3_model.specs.declared.act.Act.{Act}
use Rattle.m3_model.specs.declared.answer.Answer.TheVariants as answer
use Rattle.m3_model.specs.declared.placement.Placement.{Placement}
use Rattle.m3_model.specs.declared.point.Point.{Point}
use Rattle.m3_model.specs.declared.turn.Turn.{Turn}
use Rattle.transcripts.specs.Record.{line_of}
use Rattle.transcripts.specs.Calls.{call_of}
use Rattle.transcripts.specs.Fates.{call_number}
use Rattle.transcripts.specs.Rules.{rules_at}
use Rattle.m3_model.specs.declared.rules.Rules.{Rules}
use Rattle.m3_model.proofs.Lists.{flat_map-IsIn}
use Rattle.transcripts.specs.Record.{joined, lists_of, InnerTurn, TurnPosition, IsTurnPosition, inner_turns}
use Rattle.cluster_core.specs.Lists.{At}
use Rattle.cluster_core.specs.declared.event.Asked.TheVariants as asked
use Rattle.cluster_core.specs.declared.event.Event.TheVariants as event
use Rattle.cluster_core.specs.declared.event.StepCall.TheVariants as call
use Rattle.cluster_core.specs.declared.event.StepReply.TheVariants as reply
use Rattle.cluster_core.proofs.ListLemmas.{at_in, at_take, take_at}
use Rattle.told_by.specs.Broken.{AckOfOtherPut, AskOfNobody, LostSend, PrintedUnplaced, SendOfNobody, StopWithoutLine, other_place, other_put, other_write, three, two}
use Rattle.told_by.specs.Lines.{position_after}
use Rattle.told_by.specs.Makes.{MayAsk}
use Rattle.told_by.specs.Sample.{begun, of_init, of_space, place, point, rules, spaced, written}
use Rattle.told_by.proofs.LineLemmas.{position_last}
use Rattle.told_by.proofs.OneLemmas.{is_last}
use Rattle.told_by.proofs.TurnLemmas.{in_cut, in_its_line}

-- a turn at a position of the run is one of the run's
pub turn_among : (turns : List Turn) (q : TurnPosition) → IsTurnPosition turns q → IsIn (inner_turns turns) q.turn
turn_among turns q at = flat_map-IsIn (λ (line : Turn). joined (lists_of line)) turns q.line q.turn (subst (λ ts. IsIn ts q.line) (sym at.in_run) (in_cut q.lines q.line at.after)) (in_its_line q at.stands)

-- the two acts of the run up to its namespace
two_acts : (q : TurnPosition) → IsTurnPosition two q → (begun ≡ q.turn.act) ⊎ (spaced ≡ q.turn.act)
two_acts q at =
    elim (turn_among two q at) as (λ _. (begun ≡ q.turn.act) ⊎ (spaced ≡ q.turn.act)) [
      | inl is ↦ inl (ap (λ (t : InnerTurn). t.act) is)
      | inr rest ↦ elim rest as (λ _. (begun ≡ q.turn.act) ⊎ (spaced ≡ q.turn.act)) [ inl is ↦ inr (ap (λ (t : InnerTurn). t.act) is) | inr none ↦ absurd none ]
    ]

pub nobody_sends : SendOfNobody
nobody_sends told =
    let made = (told.tells).order.made 6 (event.Send 1 0 point) (omega arith) (omega arith) refl tt in
    let sends = (told.tells).writes.each_send 6 1 0 point (omega arith) refl in
    elim (two_acts (told.makers 6) made.0) as (λ _. ⊥) [
      | inl is ↦ let bad : None ≡ Some sends.call = ap call_of is ∙ sends.of_act in cc
      | inr is ↦ let bad : None ≡ Some sends.call = ap call_of is ∙ sends.of_act in cc
    ]

pub nobody_stops : StopWithoutLine
nobody_stops told =
    let made = (told.tells).order.made 6 (event.Step 0 0 call.Stop reply.Done) (omega arith) (omega arith) refl tt in
    let asks = (told.tells).makes 6 (event.Step 0 0 call.Stop reply.Done) (omega arith) (omega arith) refl in
    elim (two_acts (told.makers 6) made.0) as (λ _. ⊥) [
      | inl is ↦ subst (λ (a : Act). MayAsk None (take 6 ((of_init ++ of_space) ++ event.Step 0 0 call.Stop reply.Done ∷ [])) (told.makers 6) a (asked.Step 0 0 call.Stop)) (sym is) asks
      | inr is ↦ subst (λ (a : Act). MayAsk None (take 6 ((of_init ++ of_space) ++ event.Step 0 0 call.Stop reply.Done ∷ [])) (told.makers 6) a (asked.Step 0 0 call.Stop)) (sym is) asks
    ]

pub nobody_asks : AskOfNobody
nobody_asks told =
    let what = asked.Step 0 0 other_put in
    let list = (of_init ++ of_space) ++ event.Ask what ∷ [] in
    let made = (told.tells).order.made 6 (event.Ask what) (omega arith) (omega arith) refl tt in
    let asks = (told.tells).makes 6 (event.Ask what) (omega arith) (omega arith) refl in
    elim (two_acts (told.makers 6) made.0) as (λ _. ⊥) [
      | inl is ↦ subst (λ (a : Act). MayAsk None (take 6 list) (told.makers 6) a what) (sym is) asks
      | inr is ↦ subst (λ (a : Act). MayAsk None (take 6 list) (told.makers 6) a what) (sym is) asks
    ]

-- the position of the write
abbrev writing : TurnPosition
writing = position_after two written (answer.Acks (0 ∷ []))

writing_in : IsTurnPosition three writing
writing_in = position_last two (line_of written (answer.Acks (0 ∷ []))) writing (is_last None two [] written (answer.Acks (0 ∷ [])) [])

no_send : (v s : ℕ) (p : Point) → IsIn (of_init ++ of_space) (event.Send v s p) → ⊥
no_send v s p (inl e) = cc
no_send v s p (inr (inl e)) = cc
no_send v s p (inr (inr (inl e))) = cc
no_send v s p (inr (inr (inr (inl e)))) = cc
no_send v s p (inr (inr (inr (inr (inl e))))) = cc
no_send v s p (inr (inr (inr (inr (inr (inl e)))))) = cc
no_send v s p (inr (inr (inr (inr (inr (inr none)))))) = none

pub lost_send : LostSend
lost_send told =
    let ack = (told.tells).writes.acked writing writing_in (0 ∷ []) refl in
    let s = ack.sent in
    no_send s.version s.s s.point (at_in (of_init ++ of_space) ack.send (event.Send s.version s.s s.point) s.there)

no_place9 : (done : List (ℕ × ℕ)) → IsIn of_init (event.Place other_place done) → ⊥
no_place9 done (inl e) = let same : 1 ≡ 9 = version_of place other_place [] done e in omega (arith, same)
  where
    version_of : (p q : Placement) (ds es : List (ℕ × ℕ)) → event.Place p ds ≡ event.Place q es → p.version ≡ q.version
    version_of p q ds es e = let same : p ≡ q = cc in ap (λ (x : Placement). x.version) same
no_place9 done (inr (inl e)) = cc
no_place9 done (inr (inr (inl e))) = cc
no_place9 done (inr (inr (inr (inl e)))) = cc
no_place9 done (inr (inr (inr (inr none)))) = none

pub never_placed : PrintedUnplaced
never_placed told =
    let own = position_after [] begun (answer.Placed other_place 9) in
    let at = position_last [] (line_of begun (answer.Placed other_place 9)) own (is_last None [] [] begun (answer.Placed other_place 9) []) in
    let h = (told.tells).placements.is_place own at other_place refl in
    no_place9 h.done (at_in of_init h.place_at (event.Place other_place h.done) h.there)

client_of : (n s m t c d k l v w : ℕ) (r q : Rules) (x y : Point) → event.Step n s (call.Put c k r v x) reply.Done ≡ event.Step m t (call.Put d l q w y) reply.Done → c ≡ d
client_of n s m t c d k l v w r q x y e = cc

no_own_put : (number s v : ℕ) (by : Rules) (p : Point) → IsIn ((of_init ++ of_space) ++ other_write) (event.Step 0 s (call.Put 0 number by v p) reply.Done) → ⊥
no_own_put number s v by p (inl e) = cc
no_own_put number s v by p (inr (inl e)) = cc
no_own_put number s v by p (inr (inr (inl e))) = cc
no_own_put number s v by p (inr (inr (inr (inl e)))) = cc
no_own_put number s v by p (inr (inr (inr (inr (inl e))))) = cc
no_own_put number s v by p (inr (inr (inr (inr (inr (inl e)))))) = cc
no_own_put number s v by p (inr (inr (inr (inr (inr (inr (inl e))))))) = cc
no_own_put number s v by p (inr (inr (inr (inr (inr (inr (inr (inl e)))))))) = cc
no_own_put number s v by p (inr (inr (inr (inr (inr (inr (inr (inr (inl e))))))))) = let bad = client_of 0 0 0 s 5 0 0 number 1 v rules by point p e in cc
no_own_put number s v by p (inr (inr (inr (inr (inr (inr (inr (inr (inr (inl e)))))))))) = cc
no_own_put number s v by p (inr (inr (inr (inr (inr (inr (inr (inr (inr (inr none)))))))))) = none

pub other_puts : AckOfOtherPut
other_puts told =
    let list = (of_init ++ of_space) ++ other_write in
    let q = told.makers 9 in
    let ack = (told.tells).writes.acked writing writing_in (0 ∷ []) refl in
    let s = ack.sent in
    let late = ack_late ack.ack ack.send ack.acked in
    let makes = (told.tells).makes ack.ack (event.Ack ack.send (0 ∷ [])) (omega arith) late ack.acked in
    let sent_before = own_send ack.ack ack.send s.version s.s s.point ack.acked s.there in
    let took = makes s.version s.s s.point sent_before 0 (inl refl) in
    let client : (told.makers ack.ack).client ≡ 0 = ap (λ (x : TurnPosition). x.client) ack.own in
    no_own_put (call_number (told.makers ack.ack)) s.s s.version (rules_at None (told.makers ack.ack)) s.point
    (subst (λ c. IsIn list (event.Step 0 s.s (call.Put c (call_number (told.makers ack.ack)) (rules_at None (told.makers ack.ack)) s.version s.point) reply.Done)) client
    (at_in list took.position (event.Step 0 s.s (call.Put (told.makers ack.ack).client (call_number (told.makers ack.ack)) (rules_at None (told.makers ack.ack)) s.version s.point) reply.Done)
    (at_take list took.position ack.ack (event.Step 0 s.s (call.Put (told.makers ack.ack).client (call_number (told.makers ack.ack)) (rules_at None (told.makers ack.ack)) s.version s.point) reply.Done) took.took).0))
  where
    ack_late : (i send : ℕ) → At ((of_init ++ of_space) ++ other_write) i (event.Ack send (0 ∷ [])) → 2 ≤ i
    ack_late zero send e = cc
    ack_late (suc zero) send e = cc
    ack_late (suc (suc i)) send e = omega arith

    -- the one Send stands before the one Ack
    ack_position : (i send : ℕ) → At ((of_init ++ of_space) ++ other_write) i (event.Ack send (0 ∷ [])) → i ≡ 9
    ack_position zero send e = cc
    ack_position (suc zero) send e = cc
    ack_position (suc (suc zero)) send e = cc
    ack_position (suc (suc (suc zero))) send e = cc
    ack_position (suc (suc (suc (suc zero)))) send e = cc
    ack_position (suc (suc (suc (suc (suc zero))))) send e = cc
    ack_position (suc (suc (suc (suc (suc (suc zero)))))) send e = cc
    ack_position (suc (suc (suc (suc (suc (suc (suc zero))))))) send e = cc
    ack_position (suc (suc (suc (suc (suc (suc (suc (suc zero)))))))) send e = cc
    ack_position (suc (suc (suc (suc (suc (suc (suc (suc (suc zero))))))))) send e = refl
    ack_position (suc (suc (suc (suc (suc (suc (suc (suc (suc (suc i)))))))))) send e = cc

    send_position : (i v s : ℕ) (p : Point) → At ((of_init ++ of_space) ++ other_write) i (event.Send v s p) → i ≡ 6
    send_position zero v s p e = cc
    send_position (suc zero) v s p e = cc
    send_position (suc (suc zero)) v s p e = cc
    send_position (suc (suc (suc zero))) v s p e = cc
    send_position (suc (suc (suc (suc zero)))) v s p e = cc
    send_position (suc (suc (suc (suc (suc zero))))) v s p e = cc
    send_position (suc (suc (suc (suc (suc (suc zero)))))) v s p e = refl
    send_position (suc (suc (suc (suc (suc (suc (suc zero))))))) v s p e = cc
    send_position (suc (suc (suc (suc (suc (suc (suc (suc zero)))))))) v s p e = cc
    send_position (suc (suc (suc (suc (suc (suc (suc (suc (suc zero))))))))) v s p e = cc
    send_position (suc (suc (suc (suc (suc (suc (suc (suc (suc (suc i)))))))))) v s p e = cc

    own_send : (i send v s : ℕ) (p : Point) → At ((of_init ++ of_space) ++ other_write) i (event.Ack send (0 ∷ [])) → At ((of_init ++ of_space) ++ other_write) send (event.Send v s p) → At (take i ((of_init ++ of_space) ++ other_write)) send (event.Send v s p)
    own_send i send v s p acked there = take_at ((of_init ++ of_space) ++ other_write) send i (event.Send v s p) there (omega (arith, ack_position i send acked, send_position send v s p there))
