-- Each point of a page was sent by a turn before, or by an earlier run.
use Rattle.std.proofs.Common.{◌≡◌, ℕ, List, [], ◌∷◌, ◌++◌, length, sym, subst, inl, inr, true}
use Rattle.std.specs.Prelude.{Option, Some}
use Rattle.std.specs.List.{flat_map, filter_map}
use Rattle.std.proofs.lemmas.Bool.{cases_lt}
use Rattle.m3_model.specs.Members.{IsIn}
use Rattle.m3_model.specs.declared.act.Act.{Act}
use Rattle.m3_model.specs.declared.answer.Answer.{Answer}
use Rattle.m3_model.specs.declared.point.Page.{Page}
use Rattle.m3_model.specs.declared.point.Point.{Point}
use Rattle.m3_model.specs.declared.rules.MetaState.{MetaState}
use Rattle.m3_model.specs.declared.rules.Space.{Space}
use Rattle.m3_model.specs.declared.turn.Turn.{Turn}
use Rattle.m3_model.proofs.MemberLemmas.{IsIn-append_cases, IsIn-append_left, IsIn-append_right, IsIn-filter_map, filter_map-IsIn}
use Rattle.cluster_core.specs.Core.{AgreesWith, Opening}
use Rattle.cluster_core.specs.Legal.{Legal}
use Rattle.cluster_core.specs.Lists.{At}
use Rattle.cluster_core.specs.declared.event.Event.{Event}
use Rattle.cluster_core.specs.declared.event.Event.TheVariants as event
use Rattle.cluster_core.specs.declared.event.StepCall.{StepCall}
use Rattle.cluster_core.specs.declared.event.StepReply.TheVariants as reply
use Rattle.cluster_core.proofs.OriginLemmas.{page_origin}
use Rattle.transcripts.specs.Left.{OpeningStands, earlier_turns}
use Rattle.transcripts.specs.Points.{point_of, sent_point}
use Rattle.transcripts.specs.Record.{InnerTurn, Record, TurnPosition, IsTurnPosition, acts_of, inner_turns, joined, lists_of}
use Rattle.transcripts.specs.Rules.{rules_at, start_rules}
use Rattle.told_by.specs.Lines.{position_after}
use Rattle.told_by.specs.Told.{ToldBy}
use Rattle.told_by.proofs.AnswerLemmas.{sent_by}
use Rattle.told_by.proofs.KeptLemmas.{late_send, opening_low, sent_grows}
use Rattle.told_by.proofs.LineLemmas.{at_front}
use Rattle.told_by.proofs.OneLemmas.{among_back}
use Rattle.told_by.proofs.RuleLemmas.{Grows, after_grows, lines_grow, point_grows}
use Rattle.told_by.proofs.TurnLemmas.{in_its_line, inner-append}
use Rattle.join_bounds.proofs.CountLemmas.{sent_so_far}

-- no point goes out
abbrev pub SendsNone : Event → Type 0
SendsNone (event.Send version s point) = ⊥
SendsNone _ = Unit {0}

module _ (past : List Record) (start : Option MetaState) (turns : List Turn) (events more : List Event) (opening : Opening) (legal : Legal true (events ++ more)) (agrees : AgreesWith (events ++ more) opening) (stands : OpeningStands past start opening)
    (told : ToldBy start turns events) (quiet : (e : Event) → IsIn more e → SendsNone e) (a : Act) (b : Answer) where
  abbrev own : TurnPosition
  own = position_after turns a b

  abbrev spaces : List Space
  spaces = (rules_at start own).spaces

  -- the turn is one of the run's
  of_run : (q : TurnPosition) → IsTurnPosition turns q → IsIn (inner_turns turns) q.turn
  of_run q at =
      subst (λ ls. IsIn (inner_turns ls) q.turn) (sym at.in_run)
      (subst (λ ts. IsIn ts q.turn) (sym (inner-append q.lines (q.line ∷ at.after))) (IsIn-append_right (inner_turns q.lines) (inner_turns (q.line ∷ at.after)) q.turn (IsIn-append_left (joined (lists_of q.line)) (inner_turns at.after) q.turn (in_its_line q at.stands))))

  among_turns : (t : InnerTurn) (p : Point) → IsIn (earlier_turns past ++ (inner_turns turns ++ [])) t → sent_point spaces t ≡ Some p → IsIn (sent_so_far past start turns a b) p
  among_turns t p m is =
      let before = (earlier_turns past ++ (inner_turns turns ++ [])) ++ [] in
      IsIn-append_left (filter_map (sent_point spaces) before) (filter_map (point_of spaces) (flat_map (λ (run : Record). acts_of run.unanswered) past)) p
      (filter_map-IsIn (sent_point spaces) before t p (IsIn-append_left (earlier_turns past ++ (inner_turns turns ++ [])) [] t m) is)

  -- a Send is of a turn of the run
  of_send : (i version s : ℕ) (p : Point) → At (events ++ more) i (event.Send version s p) → IsIn (sent_so_far past start turns a b) p
  of_send i version s p there = elim (cases_lt i (length events)) as (λ _. IsIn (sent_so_far past start turns a b) p) [
    | inl before ↦ (
        let here = at_front events more i (event.Send version s p) there before in
        let late = late_send (events ++ more) legal i version s p there in
        let made = (told.tells).order.made i (event.Send version s p) (opening_low start i late) late here tt in
        let sends = (told.tells).writes.each_send i version s p (opening_low start i late) here in
        let q = told.makers i in
        let grown : Grows (rules_at start q).spaces spaces = lines_grow start q own (q.line ∷ (made.0).after) (made.0).in_run in
        among_turns q.turn p (IsIn-append_right (earlier_turns past) (inner_turns turns ++ []) q.turn (IsIn-append_left (inner_turns turns) [] q.turn (of_run q made.0)))
        (sent_by spaces q.turn p sends.sent (point_grows (rules_at start q).spaces spaces grown q.turn.act p sends.of_point))
        )
    | inr behind ↦ absurd (quiet (event.Send version s p) (among_back events more i (event.Send version s p) there behind))
  ]

  -- what replicas first begin with was sent by an earlier run
  of_opening : (n s : ℕ) (p : Point) → IsIn (opening n s) p → IsIn (sent_so_far past start turns a b) p
  of_opening n s p m =
      let was = stands.sent n s p m in
      let found : List Space = ((was.state).rules).spaces in
      let grown : Grows found spaces = subst (λ o. Grows (start_rules o).spaces spaces) was.found (after_grows (start_rules start) (inner_turns turns)) in
      let open_ = flat_map (λ (run : Record). acts_of run.unanswered) past in
      elim (IsIn-append_cases (filter_map (sent_point found) (earlier_turns past)) (filter_map (point_of found) open_) p was.among) as (λ _. IsIn (sent_so_far past start turns a b) p) [
        | inl turn ↦ (
            let t = IsIn-filter_map (sent_point found) (earlier_turns past) p turn in
            among_turns t.0 p (IsIn-append_left (earlier_turns past) (inner_turns turns ++ []) t.0 t.1) (sent_grows found spaces grown t.0 p t.2)
            )
        | inr unanswered ↦ (
            let x = IsIn-filter_map (point_of found) open_ p unanswered in
            IsIn-append_right (filter_map (sent_point spaces) ((earlier_turns past ++ (inner_turns turns ++ [])) ++ [])) (filter_map (point_of spaces) open_) p (filter_map-IsIn (point_of spaces) open_ x.0 p x.1 (point_grows found spaces grown x.0 p x.2))
            )
      ]

  pub page_sent : (i n s : ℕ) (c : StepCall) (page : Page) → At (events ++ more) i (event.Step n s c (reply.Paged page)) → (p : Point) → IsIn page.points p → IsIn (sent_so_far past start turns a b) p
  page_sent i n s c page there p m = elim (page_origin (events ++ more) legal opening agrees i n s c page there p m) as (λ _. IsIn (sent_so_far past start turns a b) p) [
    | inl sent ↦ of_send sent.0 sent.1 s p sent.3
    | inr opened ↦ of_opening opened.0 s p opened.1
  ]
