-- A run that goes on by one line.
use Rattle.std.proofs.Common.{◌≡◌, List, [], ◌∷◌, ◌++◌, length, refl, sym, ap, ◌∙◌, inl, inr}
use Rattle.m3_model.proofs.SplitLemmas.{not_empty, Splits, split_push}
use Rattle.std.specs.Prelude.{◌⊎◌, Option}
use Rattle.m3_model.specs.declared.rules.MetaState.{MetaState}
use Rattle.m3_model.specs.declared.turn.Turn.{Turn}
use Rattle.m3_model.specs.declared.act.Act.{Act}
use Rattle.m3_model.specs.declared.answer.Answer.{Answer}
use Rattle.m3_model.specs.declared.turn.Request.TheVariants as request
use Rattle.m3_model.specs.declared.turn.Reply.TheVariants as reply
use Rattle.transcripts.specs.Record.{InnerTurn, Record, TurnPosition, IsTurnPosition, client_at, lists_of, joined, IsInLine, IsLastTurnPosition, line_of}
use Rattle.transcripts.specs.Kept.{KeptAt}

-- what holds at the positions of a run that goes on by one line: what held before, and what holds in the last line
pub at_push : (Holds : TurnPosition → Type 0) (turns : List Turn) (line : Turn) → ((p : TurnPosition) → IsTurnPosition turns p → Holds p) → ((p : TurnPosition) → IsLastTurnPosition turns line p → Holds p)
    → (p : TurnPosition) → IsTurnPosition (turns ++ line ∷ []) p → Holds p
at_push Holds turns line before last p h =
    elim (split_push turns line p.lines p.line h.after h.in_run) as (λ _. Holds p) [
      | inl here ↦ last p (record { lines_are = here.0; line_is = here.1; stands = h.stands })
      | inr there ↦ before p (record { after = there.0; in_run = there.1; stands = h.stands })
    ]

-- a run that goes on by one line stays kept
pub kept_push : (past : List Record) (start : Option MetaState) (turns : List Turn) (line : Turn)
    → ((p : TurnPosition) → IsTurnPosition turns p → KeptAt past start p) → ((p : TurnPosition) → IsLastTurnPosition turns line p → KeptAt past start p)
    → (p : TurnPosition) → IsTurnPosition (turns ++ line ∷ []) p → KeptAt past start p
kept_push past start turns line = at_push (KeptAt past start) turns line

-- a line outside `par` has one deed, and nothing stands beside it
pub record IsOnly (turns : List Turn) (d : InnerTurn) (s : TurnPosition) : Type 0 where
  pub lines_are : s.lines ≡ turns
  pub line_is : s.line ≡ line_of d.act d.answer
  pub client_is : s.client ≡ 0
  pub earlier_is : s.earlier ≡ []
  pub beside_is : s.beside ≡ []
  pub turn_is : s.turn ≡ d

only_in : (d : InnerTurn) (earlier : List InnerTurn) (deed : InnerTurn) (later : List InnerTurn) → d ∷ [] ≡ earlier ++ deed ∷ later → (earlier ≡ []) × (deed ≡ d)
only_in d [] deed later e = let same : d ≡ deed = cc in (refl, sym same)
only_in d (w ∷ earlier) deed later e = let rest : [] ≡ earlier ++ deed ∷ later = cc in absurd (not_empty earlier deed later rest)

only_list : {X : Type 0} (one : X) (front : List X) (list : X) (back : List X) → one ∷ [] ≡ front ++ list ∷ back → (front ≡ []) × (list ≡ one) × (back ≡ [])
only_list one [] list back e = let same : one ≡ list = cc in let rest : [] ≡ back = cc in (refl, sym same, sym rest)
only_list one (w ∷ front) list back e = let rest : [] ≡ front ++ list ∷ back = cc in absurd (not_empty front list back rest)

-- the only inner turn of a line outside `par`
pub only_in_line : (a : Act) (b : Answer) (p : TurnPosition) → p.line ≡ line_of a b → IsInLine p → IsOnly p.lines (record { act = a; answer = b }) p
only_in_line a b p line h =
    let d : InnerTurn = record { act = a; answer = b } in
    let in_line : (d ∷ []) ∷ [] ≡ h.front ++ (p.earlier ++ p.turn ∷ h.later) ∷ h.back = ap lists_of (sym line) ∙ h.in_line in
    let lists = only_list (d ∷ []) h.front (p.earlier ++ p.turn ∷ h.later) h.back in_line in
    let turns_are = only_in d p.earlier p.turn h.later (sym lists.1) in
    record {
      lines_are = refl;
      line_is = line;
      client_is = h.client_is ∙ ap (λ (l : Turn). client_at l.request (length h.front)) line;
      earlier_is = turns_are.0;
      beside_is = h.others ∙ ap (λ xs. joined xs ++ joined h.back) lists.0 ∙ ap joined lists.2;
      turn_is = turns_are.1;
    }

-- the same of the line that comes after these
pub only_position : (turns : List Turn) (a : Act) (b : Answer) (p : TurnPosition) → IsLastTurnPosition turns (line_of a b) p → IsOnly turns (record { act = a; answer = b }) p
only_position turns a b p h =
    let only = only_in_line a b p h.line_is h.stands in
    record { lines_are = h.lines_are; line_is = h.line_is; client_is = only.client_is; earlier_is = only.earlier_is; beside_is = only.beside_is; turn_is = only.turn_is }
