-- A turn whose reply wasn't written may be counted as a request that got no answer.
use Rattle.std.proofs.Common.{◌≡◌, List, [], ◌∷◌, ◌++◌, refl, sym, ap, subst, inl, inr}
use Rattle.std.specs.Prelude.{◌⊎◌, Option, Some, None, Bool, true, false, if◌then◌else◌}
use Rattle.std.specs.List.{flat_map, filter_map}
use Rattle.m3_model.proofs.MemberLemmas.{IsIn-append_left, IsIn-append_right, IsIn-append_cases, IsIn-filter_map, filter_map-IsIn}
use Rattle.m3_model.proofs.Lists.{IsIn-flat_map, flat_map-IsIn}
use Rattle.m3_model.specs.Members.{IsIn}
use Rattle.m3_model.specs.declared.act.Act.{Act}
use Rattle.m3_model.specs.declared.answer.Answer.{Answer}
use Rattle.m3_model.specs.declared.point.Point.{Point}
use Rattle.m3_model.specs.declared.rules.MetaState.{MetaState}
use Rattle.m3_model.specs.declared.rules.Space.{Space}
use Rattle.m3_model.specs.declared.turn.Request.TheVariants as request
use Rattle.m3_model.specs.declared.turn.Turn.{Turn}
use Rattle.transcripts.specs.Points.{point_of, sent_point, was_sent}
use Rattle.transcripts.specs.Record.{InnerTurn, Record, acts_of, inner_turns, joined, line_of, lists_of}
use Rattle.transcripts.specs.Left.{earlier_turns, sent_earlier}
use Rattle.told_by.proofs.TurnLemmas.{in_cut}
use Rattle.life_ends.specs.Runs.{UnansweredStands}

module _ (past : List Record) (start : Option MetaState) (turns : List Turn) (a : Act) (b : Answer) where
  abbrev answered : Record
  answered = record { start = start; turns = turns ++ line_of a b ∷ []; unanswered = None }

  abbrev open_ : Record
  open_ = record { start = start; turns = turns; unanswered = Some (request.One a) }

  -- each turn that counts still counted before
  turn_was : (t : InnerTurn) → IsIn (earlier_turns (past ++ open_ ∷ [])) t → IsIn (earlier_turns (past ++ answered ∷ [])) t
  turn_was t h =
      let r = IsIn-flat_map (λ (run : Record). inner_turns run.turns) (past ++ open_ ∷ []) t h in
      elim (IsIn-append_cases past (open_ ∷ []) r.0 r.1) as (λ _. IsIn (earlier_turns (past ++ answered ∷ [])) t) [
        | inl old ↦ flat_map-IsIn (λ (run : Record). inner_turns run.turns) (past ++ answered ∷ []) r.0 t (IsIn-append_left past (answered ∷ []) r.0 old) r.2
        | inr own ↦ elim own as (λ _. IsIn (earlier_turns (past ++ answered ∷ [])) t) [
          | inl same ↦ (let here : IsIn (inner_turns turns) t = subst (λ (run : Record). IsIn (inner_turns run.turns) t) (sym same) r.2 in
              let l = IsIn-flat_map (λ (line : Turn). joined (lists_of line)) turns t here in
              flat_map-IsIn (λ (run : Record). inner_turns run.turns) (past ++ answered ∷ []) answered t (in_cut past answered [])
              (flat_map-IsIn (λ (line : Turn). joined (lists_of line)) (turns ++ line_of a b ∷ []) l.0 t (IsIn-append_left turns (line_of a b ∷ []) l.0 l.1) l.2))
          | inr none ↦ absurd none
        ]
      ]

  -- a turn that counted does so still, or is the one
  turn_is : (t : InnerTurn) → IsIn (earlier_turns (past ++ answered ∷ [])) t → IsIn (earlier_turns (past ++ open_ ∷ [])) t ⊎ (t.act ≡ a)
  turn_is t h =
      let r = IsIn-flat_map (λ (run : Record). inner_turns run.turns) (past ++ answered ∷ []) t h in
      elim (IsIn-append_cases past (answered ∷ []) r.0 r.1) as (λ _. IsIn (earlier_turns (past ++ open_ ∷ [])) t ⊎ (t.act ≡ a)) [
        | inl old ↦ inl (flat_map-IsIn (λ (run : Record). inner_turns run.turns) (past ++ open_ ∷ []) r.0 t (IsIn-append_left past (open_ ∷ []) r.0 old) r.2)
        | inr own ↦ elim own as (λ _. IsIn (earlier_turns (past ++ open_ ∷ [])) t ⊎ (t.act ≡ a)) [
          | inl same ↦ (let here : IsIn (inner_turns (turns ++ line_of a b ∷ [])) t = subst (λ (run : Record). IsIn (inner_turns run.turns) t) (sym same) r.2 in
              let l = IsIn-flat_map (λ (line : Turn). joined (lists_of line)) (turns ++ line_of a b ∷ []) t here in
              elim (IsIn-append_cases turns (line_of a b ∷ []) l.0 l.1) as (λ _. IsIn (earlier_turns (past ++ open_ ∷ [])) t ⊎ (t.act ≡ a)) [
                | inl early ↦ inl (flat_map-IsIn (λ (run : Record). inner_turns run.turns) (past ++ open_ ∷ []) open_ t (in_cut past open_ []) (flat_map-IsIn (λ (line : Turn). joined (lists_of line)) turns l.0 t early l.2))
                | inr last ↦ elim last as (λ _. IsIn (earlier_turns (past ++ open_ ∷ [])) t ⊎ (t.act ≡ a)) [
                  | inl line ↦ inr (of_line t (subst (λ (x : Turn). IsIn (joined (lists_of x)) t) (sym line) l.2))
                  | inr none ↦ absurd none
                ]
              ])
          | inr none ↦ absurd none
        ]
      ]
    where
      of_line : (t : InnerTurn) → IsIn (joined (lists_of (line_of a b))) t → t.act ≡ a
      of_line t (inl same) = ap (λ (x : InnerTurn). x.act) (sym same)
      of_line t (inr none) = absurd none

  -- a request that got no answer did so before
  acts_were : (spaces : List Space) (p : Point) → IsIn (filter_map (point_of spaces) (flat_map (λ (run : Record). acts_of run.unanswered) (past ++ answered ∷ []))) p → IsIn (filter_map (point_of spaces) (flat_map (λ (run : Record). acts_of run.unanswered) (past ++ open_ ∷ []))) p
  acts_were spaces p h =
      let x = IsIn-filter_map (point_of spaces) (flat_map (λ (run : Record). acts_of run.unanswered) (past ++ answered ∷ [])) p h in
      let r = IsIn-flat_map (λ (run : Record). acts_of run.unanswered) (past ++ answered ∷ []) x.0 x.1 in
      filter_map-IsIn (point_of spaces) (flat_map (λ (run : Record). acts_of run.unanswered) (past ++ open_ ∷ [])) x.0 p
      (elim (IsIn-append_cases past (answered ∷ []) r.0 r.1) as (λ _. IsIn (flat_map (λ (run : Record). acts_of run.unanswered) (past ++ open_ ∷ [])) x.0) [
        | inl old ↦ flat_map-IsIn (λ (run : Record). acts_of run.unanswered) (past ++ open_ ∷ []) r.0 x.0 (IsIn-append_left past (open_ ∷ []) r.0 old) r.2
        | inr own ↦ elim own as (λ _. IsIn (flat_map (λ (run : Record). acts_of run.unanswered) (past ++ open_ ∷ [])) x.0) [
          | inl same ↦ absurd (subst (λ (run : Record). IsIn (acts_of run.unanswered) x.0) (sym same) r.2)
          | inr none ↦ absurd none
        ]
      ]) x.2

  sent_of : (spaces : List Space) (t : InnerTurn) (p : Point) → sent_point spaces t ≡ Some p → point_of spaces t.act ≡ Some p
  sent_of spaces t p e = by (was_sent t.answer) e
    where
      by : (was : Bool) → (if was then point_of spaces t.act else None) ≡ Some p → point_of spaces t.act ≡ Some p
      by true e = e
      by false e = cc

  sent_still : (spaces : List Space) (p : Point) → IsIn (sent_earlier (past ++ answered ∷ []) spaces) p → IsIn (sent_earlier (past ++ open_ ∷ []) spaces) p
  sent_still spaces p h =
      elim (IsIn-append_cases (filter_map (sent_point spaces) (earlier_turns (past ++ answered ∷ []))) (filter_map (point_of spaces) (flat_map (λ (run : Record). acts_of run.unanswered) (past ++ answered ∷ []))) p h) as (λ _. IsIn (sent_earlier (past ++ open_ ∷ []) spaces) p) [
        | inl turn ↦ (let t = IsIn-filter_map (sent_point spaces) (earlier_turns (past ++ answered ∷ [])) p turn in
            elim (turn_is t.0 t.1) as (λ _. IsIn (sent_earlier (past ++ open_ ∷ []) spaces) p) [
              | inl old ↦ IsIn-append_left (filter_map (sent_point spaces) (earlier_turns (past ++ open_ ∷ []))) (filter_map (point_of spaces) (flat_map (λ (run : Record). acts_of run.unanswered) (past ++ open_ ∷ []))) p
                  (filter_map-IsIn (sent_point spaces) (earlier_turns (past ++ open_ ∷ [])) t.0 p old t.2)
              | inr same ↦ IsIn-append_right (filter_map (sent_point spaces) (earlier_turns (past ++ open_ ∷ []))) (filter_map (point_of spaces) (flat_map (λ (run : Record). acts_of run.unanswered) (past ++ open_ ∷ []))) p
                  (filter_map-IsIn (point_of spaces) (flat_map (λ (run : Record). acts_of run.unanswered) (past ++ open_ ∷ [])) a p
                  (flat_map-IsIn (λ (run : Record). acts_of run.unanswered) (past ++ open_ ∷ []) open_ a (in_cut past open_ []) (inl refl)) (subst (λ (x : Act). point_of spaces x ≡ Some p) same (sent_of spaces t.0 p t.2)))
            ])
        | inr taken ↦ IsIn-append_right (filter_map (sent_point spaces) (earlier_turns (past ++ open_ ∷ []))) (filter_map (point_of spaces) (flat_map (λ (run : Record). acts_of run.unanswered) (past ++ open_ ∷ []))) p (acts_were spaces p taken)
      ]

pub unanswered_stands : UnansweredStands
unanswered_stands past start turns a b left opening stands = record {
  acked = λ turn among nodes is.
      let c = stands.acked turn (turn_was past start turns a b turn among) nodes is in
      record { state = c.state; found = c.found; point = c.point; of_act = c.of_act; left = c.left };
  sent = λ n s point h.
      let c = stands.sent n s point h in
      record { state = c.state; found = c.found; among = sent_still past start turns a b c.state.rules.spaces point c.among };
}
