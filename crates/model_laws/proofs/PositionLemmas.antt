-- All positions of a run, one after the other, in place of a claim about any position.
use Rattle.std.proofs.Common.{◌≡◌, ◌≢◌, Bool, true, false, List, [], ◌∷◌, ◌++◌, length, refl, sym, ap, ◌∙◌, subst, inl, inr, append_assoc}
use Rattle.std.specs.Prelude.{Option, Some, None}
use Rattle.std.specs.List.{list_all}
use Rattle.std.proofs.lemmas.Option.{same_Some}
use Rattle.std.proofs.lemmas.Bool.{and_parts}
use Rattle.std.proofs.lemmas.List.{append-nil}
use Rattle.m3_model.specs.Members.{IsIn}
use Rattle.transcripts.specs.Record.{Record, Life, InnerTurn, TurnPosition, IsTurnPosition, IsInLine, IsAfter, AreSomeOf, client_at, lists_of, joined, inner_turns}
use Rattle.transcripts.specs.Rules.{rules_at}
use Rattle.transcripts.specs.Placements.{MayStand, placement_after, start_placement}
use Rattle.transcripts.specs.Points.{sent_at, acked_at}
use Rattle.m3_model.specs.Reads.{Read, Found, read_of, found_of}
use Rattle.transcripts.specs.Kept.{Kept, KeptAt, KeepsRead, KeepsPoints}
use Rattle.transcripts.specs.Caused.{Caused, CausedAt, IsDueBy, IsRefusedWhole, refusal_after}
use Rattle.transcripts.specs.Deliveries.{LateMessage, IsSameMessage, IsSamePosition}
use Rattle.transcripts.specs.Faults.{Fault, AreDifferent}
use Rattle.m3_model.specs.declared.rules.MetaState.{MetaState}
use Rattle.m3_model.specs.declared.placement.Placement.{Placement}
use Rattle.m3_model.specs.declared.turn.Turn.{Turn}
use Rattle.m3_model.specs.declared.turn.Request.{Request}
use Rattle.m3_model.specs.declared.turn.Request.TheVariants as request
use Rattle.m3_model.specs.declared.turn.Reply.{Reply}
use Rattle.m3_model.specs.declared.turn.Reply.TheVariants as reply
use Rattle.m3_model.specs.declared.act.Act.{Act}
use Rattle.m3_model.specs.declared.answer.Answer.{Answer}
use Rattle.m3_model.specs.declared.answer.Answer.TheVariants as answer
use Rattle.m3_model.proofs.SplitLemmas.{not_empty}
pub use Rattle.model_laws.specs.Building.{position_after}
use Rattle.model_laws.specs.Building.{line, life_of}

-- a fact of each element with what stands before and behind it
abbrev pub EachSplit : {X : Type 0} → (List X → X → List X → Type 0) → List X → List X → Type 0
EachSplit Q front [] = Unit {0}
EachSplit Q front (x ∷ back) = Q front x back × EachSplit Q (front ++ x ∷ []) back

pub each_split : {X : Type 0} (Q : List X → X → List X → Type 0) (front xs ys : List X) (z : X) (zs : List X) → EachSplit Q front xs → xs ≡ ys ++ z ∷ zs → Q (front ++ ys) z zs
each_split Q front [] ys z zs each e = absurd (not_empty ys z zs e)
each_split Q front (x ∷ xs) [] z zs each e =
    let same : x ≡ z = cc in
    let rest : xs ≡ zs = cc in
    subst (λ w. Q (front ++ []) w zs) same (subst (λ ws. Q (front ++ []) x ws) rest (subst (λ ws. Q ws x xs) (sym (append-nil front)) each.0))
each_split Q front (x ∷ xs) (y ∷ ys) z zs each e =
    let same : x ≡ y = cc in
    let rest : xs ≡ ys ++ z ∷ zs = cc in
    subst (λ ws. Q ws z zs) (append_assoc front (x ∷ []) ys ∙ ap (λ w. front ++ w ∷ ys) same) (each_split Q (front ++ x ∷ []) xs ys z zs each.1 rest)

-- the position of a turn in a line
abbrev pub position_in : List Turn → Turn → List (List InnerTurn) → List (List InnerTurn) → List InnerTurn → InnerTurn → TurnPosition
position_in lines line front back earlier turn = record { lines = lines; line = line; client = client_at line.request (length front); earlier = earlier; beside = joined front ++ joined back; turn = turn }

-- a fact of each position of one line
abbrev pub EachInLine : (TurnPosition → Type 0) → List Turn → Turn → Type 0
EachInLine P lines line = EachSplit (λ front list back. EachSplit (λ earlier turn later. P (position_in lines line front back earlier turn)) [] list) [] (lists_of line)

-- a fact of each position of a run
abbrev pub EachInRun : (TurnPosition → Type 0) → List Turn → Type 0
EachInRun P turns = EachSplit (λ lines line after. EachInLine P lines line) [] turns

pub each_in_line : (P : TurnPosition → Type 0) (p : TurnPosition) → EachInLine P p.lines p.line → IsInLine p → P p
each_in_line P p each s =
    let in_list = each_split (λ front list back. EachSplit (λ earlier turn later. P (position_in p.lines p.line front back earlier turn)) [] list) [] (lists_of p.line) s.front (p.earlier ++ p.turn ∷ s.later) s.back each s.in_line in
    let here = each_split (λ earlier turn later. P (position_in p.lines p.line s.front s.back earlier turn)) [] (p.earlier ++ p.turn ∷ s.later) p.earlier p.turn s.later in_list refl in
    subst (λ client. P (record { lines = p.lines; line = p.line; client = client; earlier = p.earlier; beside = p.beside; turn = p.turn })) (sym s.client_is)
    (subst (λ beside. P (record { lines = p.lines; line = p.line; client = client_at p.line.request (length s.front); earlier = p.earlier; beside = beside; turn = p.turn })) (sym s.others) here)

pub each_position : (P : TurnPosition → Type 0) (turns : List Turn) → EachInRun P turns → (p : TurnPosition) → IsTurnPosition turns p → P p
each_position P turns each p h = each_in_line P p (each_split (λ lines line after. EachInLine P lines line) [] turns p.lines p.line h.after each h.in_run) h.stands

pub kept_by_positions : (life : Life) → EachInRun (KeptAt life.past life.present.start) life.present.turns → Kept life
kept_by_positions life each = each_position (KeptAt life.past life.present.start) life.present.turns each

-- the line isn't refused as a whole with `order`
abbrev pub is_not_whole : Turn → Bool
is_not_whole line = told line.request line.reply
  where
    told : Request → Reply → Bool
    told (request.Par clients workers) (reply.One answer.Order) = false
    told _ _ = true

not_whole : (start : Option MetaState) (before : List Turn) (asked : Request) (replied : Reply) → is_not_whole (record { request = asked; reply = replied }) ≡ true → IsRefusedWhole start before asked replied
not_whole start before (request.Par clients workers) (reply.One answer.Order) e = cc
not_whole start before (request.Par clients workers) (reply.One _) e = tt
not_whole start before (request.Par clients workers) (reply.Par for_clients for_workers) e = tt
not_whole start before (request.One a) replied e = tt

-- none of these lines is
none_whole : (start : Option MetaState) (front turns : List Turn) → list_all is_not_whole turns ≡ true → EachSplit (λ before line after. IsRefusedWhole start before line.request line.reply) front turns
none_whole start front [] each = tt
none_whole start front (line ∷ turns) each =
    let both = and_parts (is_not_whole line) (list_all is_not_whole turns) each in
    (not_whole start front line.request line.reply both.0, none_whole start (front ++ line ∷ []) turns both.1)

-- which late messages are delivered where, and where they are
abbrev pub DeliversOnce : List Turn → (TurnPosition → List LateMessage) → Type 0
DeliversOnce turns delivered = (p q : TurnPosition) → IsTurnPosition turns p → IsTurnPosition turns q → (a b : LateMessage) → IsIn (delivered p) a → IsIn (delivered q) b → IsSameMessage a b → IsSamePosition p q

pub caused_over : (tells : Bool) (faults : List Fault) (life : Life) (delivered : TurnPosition → List LateMessage) → AreDifferent faults → EachSplit (λ before line after. IsRefusedWhole life.present.start before line.request line.reply) [] life.present.turns
    → DeliversOnce life.present.turns delivered → EachInRun (λ p. CausedAt tells faults life.past life.present.start (delivered p) p) life.present.turns → Caused tells life faults
caused_over tells faults life delivered different whole once each = record {
  different = different;
  delivered = delivered;
  each = each_position (λ p. CausedAt tells faults life.past life.present.start (delivered p) p) life.present.turns each;
  once = once;
  whole = λ before line after e. each_split (λ front x back. IsRefusedWhole life.present.start front x.request x.reply) [] life.present.turns before line after whole e;
}

-- where no line is refused as a whole with `order`
pub caused_with : (tells : Bool) (faults : List Fault) (life : Life) (delivered : TurnPosition → List LateMessage) → AreDifferent faults → list_all is_not_whole life.present.turns ≡ true → DeliversOnce life.present.turns delivered
    → EachInRun (λ p. CausedAt tells faults life.past life.present.start (delivered p) p) life.present.turns → Caused tells life faults
caused_with tells faults life delivered different single once each = caused_over tells faults life delivered different (none_whole life.present.start [] life.present.turns single) once each

-- where no late messages are delivered
pub caused_by_positions : (tells : Bool) (faults : List Fault) (life : Life) → AreDifferent faults → list_all is_not_whole life.present.turns ≡ true → EachInRun (CausedAt tells faults life.past life.present.start []) life.present.turns → Caused tells life faults
caused_by_positions tells faults life different single each = caused_with tells faults life (λ p. []) different single (λ p q of_p of_q a b in_p in_q same. absurd in_p) each

-- the only one of its kind, as the act of a line outside `par`
pub only : {A : Type 0} → A → (A × Unit {0}) × Unit {0}
only a = ((a, tt), tt)

pub only_in_line : (lines : List Turn) (a : Act) (b : Answer) → IsInLine (position_after lines a b)
only_in_line lines a b = record { front = []; later = []; back = []; in_line = refl; others = refl; client_is = refl }

pub position_after-stands : (lines : List Turn) (a : Act) (b : Answer) (after : List Turn) → IsTurnPosition (lines ++ line a b ∷ after) (position_after lines a b)
position_after-stands lines a b after = record { after = after; in_run = refl; stands = only_in_line lines a b }

-- outside `par` an answer is given after all lines before
pub only_after : (lines : List Turn) (a : Act) (b : Answer) (turns : List InnerTurn) → IsAfter (position_after lines a b) turns → turns ≡ inner_turns lines
only_after lines a b turns after = after.are ∙ ap (λ xs. inner_turns lines ++ xs) (none_of after.others after.some_of) ∙ append-nil (inner_turns lines)
  where
    none_of : (others : List InnerTurn) → AreSomeOf others [] → others ≡ []
    none_of [] some = refl
    none_of (x ∷ others) some = absurd some

pub after_all : (lines : List Turn) (a : Act) (b : Answer) → IsAfter (position_after lines a b) (inner_turns lines)
after_all lines a b = record { others = []; some_of = tt; are = sym (append-nil (inner_turns lines)) }

-- an answer that is due after all that is before it has its cause
pub due_beside : (tells : Bool) (faults : List Fault) (messages : List LateMessage) (p : TurnPosition) → IsDueBy tells faults None messages p (refusal_after None p (inner_turns p.lines ++ (p.earlier ++ []))) → CausedAt tells faults [] None messages p
due_beside tells faults messages p here = inr (inr (inner_turns p.lines ++ (p.earlier ++ []), record { others = []; some_of = tt; are = refl }, here))

-- an answer that is due outside `par` has its cause
pub due_from : (tells : Bool) (faults : List Fault) (past : List Record) (start : Option MetaState) (messages : List LateMessage) (lines : List Turn) (a : Act) (b : Answer)
    → IsDueBy tells faults start messages (position_after lines a b) (refusal_after start (position_after lines a b) (inner_turns lines)) → CausedAt tells faults past start messages (position_after lines a b)
due_from tells faults past start messages lines a b here = inr (inr (inner_turns lines, after_all lines a b, here))

pub due : (tells : Bool) (faults : List Fault) (messages : List LateMessage) (lines : List Turn) (a : Act) (b : Answer)
    → IsDueBy tells faults None messages (position_after lines a b) (refusal_after None (position_after lines a b) (inner_turns lines)) → CausedAt tells faults [] None messages (position_after lines a b)
due tells faults messages lines a b here = due_from tells faults [] None messages lines a b here

-- an answer that isn't want of memory, and doesn't say that the list of events is full, is the one that is due
pub due_here : (tells : Bool) (faults : List Fault) (past : List Record) (start : Option MetaState) (messages : List LateMessage) (lines : List Turn) (a : Act) (b : Answer) → b ≢ answer.Memory → b ≢ answer.Full
    → CausedAt tells faults past start messages (position_after lines a b) → IsDueBy tells faults start messages (position_after lines a b) (refusal_after start (position_after lines a b) (inner_turns lines))
due_here tells faults past start messages lines a b not_memory not_full here =
    let p = position_after lines a b in
    elim here as (λ _. IsDueBy tells faults start messages p (refusal_after start p (inner_turns lines))) [
      | inl e ↦ absurd (not_memory e)
      | inr told ↦ elim told as (λ _. IsDueBy tells faults start messages p (refusal_after start p (inner_turns lines))) [
        | inl full ↦ absurd (not_full full.0)
        | inr is_due ↦ subst (λ turns. IsDueBy tells faults start messages p (refusal_after start p turns)) (only_after lines a b is_due.0 is_due.1) is_due.2
      ]
    ]

pub due_after : {tells : Bool} {faults : List Fault} (lines : List Turn) (a : Act) (b : Answer) (after : List Turn) → b ≢ answer.Memory → b ≢ answer.Full → (caused : Caused tells (life_of (lines ++ line a b ∷ after)) faults)
    → IsDueBy tells faults None (caused.delivered (position_after lines a b)) (position_after lines a b) (refusal_after None (position_after lines a b) (inner_turns lines))
due_after {tells} {faults} lines a b after not_memory not_full caused =
    due_here tells faults [] None (caused.delivered (position_after lines a b)) lines a b not_memory not_full (caused.each (position_after lines a b) (position_after-stands lines a b after))

-- the placement that stands after the lines before is the one that a request outside `par` meets
pub stands_then : (lines : List Turn) (a : Act) (b : Answer) (x : Placement) → placement_after None (inner_turns lines) ≡ Some x → MayStand None (position_after lines a b) x
stands_then lines a b x stood = (inner_turns lines, after_all lines a b, stood)

-- and no other one
pub used_from : (start : Option MetaState) (lines : List Turn) (a : Act) (b : Answer) (x used : Placement) → placement_after (start_placement start) (inner_turns lines) ≡ Some x → MayStand start (position_after lines a b) used → x ≡ used
used_from start lines a b x used stood may = same_Some x used (sym stood ∙ subst (λ turns. placement_after (start_placement start) turns ≡ Some used) (only_after lines a b may.0 may.1) may.2)

pub only_used : (lines : List Turn) (a : Act) (b : Answer) (x used : Placement) → placement_after None (inner_turns lines) ≡ Some x → MayStand None (position_after lines a b) used → x ≡ used
only_used lines a b x used stood may = used_from None lines a b x used stood may

-- what finds nothing keeps all
pub no_read : (past : List Record) (start : Option MetaState) (p : TurnPosition) → found_of p.turn.answer ≡ None → KeptAt past start p
no_read past start p none found e = cc

-- an answered read is kept where it keeps the points
pub kept_read : (past : List Record) (start : Option MetaState) (p : TurnPosition) (read : Read) (found : Found) → found_of p.turn.answer ≡ Some found → read_of (rules_at start p).spaces p.turn.act ≡ Some read
    → KeepsPoints (rules_at start p) (acked_at past start p) (sent_at past start p) read found → KeptAt past start p
kept_read past start p read found is asked keeps other e =
    subst (λ f. KeepsRead past start p f) (same_Some found other (sym is ∙ e)) (record { read = read; asked = asked; keeps = keeps })

-- what a kept read that is known keeps
pub points_kept : (past : List Record) (start : Option MetaState) (p : TurnPosition) (read : Read) (found : Found) → KeptAt past start p → found_of p.turn.answer ≡ Some found → read_of (rules_at start p).spaces p.turn.act ≡ Some read
    → KeepsPoints (rules_at start p) (acked_at past start p) (sent_at past start p) read found
points_kept past start p read found kept is asked =
    let kept_one : KeepsRead past start p found = kept found is in
    subst (λ r. KeepsPoints (rules_at start p) (acked_at past start p) (sent_at past start p) r found) (same_Some kept_one.read read (sym kept_one.asked ∙ asked)) kept_one.keeps
