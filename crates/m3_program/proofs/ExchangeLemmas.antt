-- A run goes on by one line.
use Rattle.std.proofs.Common.{◌≡◌, ℕ, List, [], ◌∷◌, ◌++◌, refl, sym, ap, ◌∙◌, subst, inl, inr, append-nil, true, false}
use Rattle.std.specs.Prelude.{Option, Some, None, Ok, Result}
use Rattle.std.proofs.lemmas.List.Concat.{flat_map-append}
use Rattle.transcripts.specs.Record.{IsAnsweredBy}
use Rattle.m3_model.specs.declared.answer.Answer.{Answer}
use Rattle.m3_model.specs.declared.rules.MetaState.{MetaState}
use Rattle.m3_model.specs.declared.turn.Request.{Request}
use Rattle.m3_model.specs.declared.turn.Reply.{Reply}
use Rattle.m3_model.specs.declared.turn.Reply.TheVariants as reply
use Rattle.m3_model.specs.declared.turn.Turn.{Turn}
use Rattle.m3_model.proofs.SplitLemmas.{split_push}
use Rattle.m3_outside.specs.DiskState.{DiskState}
use Rattle.m3_outside.specs.declared.disk.Disk.{Ghosts}
use Rattle.m3_json.specs.Requests.{LineMeans}
use Rattle.saved_cluster.specs.served_cluster.Owned.{place_of}
use Rattle.saved_cluster.specs.declared.lost.Lost.{Lost}
use Rattle.m3_program.specs.Exchanges.{Exchange, Outcome, Passed, Refused, Answered, AreExchanges, IsExchange, IsOutcome, IsRefusal, is_blank, turns_by, turns_of, known_place, reply_line}
use Rattle.m3_program.specs.Streams.{Advances, Drops, Opening, Progress, Stage, StandsAfter}
use Rattle.m3_program.proofs.PromiseLemmas.{Serving, lost_so, promised}
use Rattle.m3_program.proofs.StateLemmas.{place_led}

-- one more exchange after the others
pub exchanges_push : (start : Option MetaState) (xs : List Exchange) (x : Exchange) → AreExchanges start xs → IsExchange start (turns_of xs) x → AreExchanges start (xs ++ x ∷ [])
exchanges_push start xs x each last before y after e =
    elim (split_push xs x before y after e) as (λ _. IsExchange start (turns_of before) y) [
      | inl here ↦ subst (λ ys. IsExchange start (turns_of ys) y) (sym here.0) (subst (IsExchange start (turns_of xs)) (sym here.1) last)
      | inr there ↦ each before y there.0 there.1
    ]

pub turns_of-push : (xs : List Exchange) (x : Exchange) → turns_of (xs ++ x ∷ []) ≡ turns_of xs ++ turns_by x.outcome
turns_of-push xs x = flat_map-append (λ y. turns_by y.outcome) xs (x ∷ []) ∙ ap (λ ts. turns_of xs ++ ts) (append-nil (turns_by x.outcome))

-- the turns of a run's exchanges left the placement that stands
known : {D : Type 0} {G : Ghosts D} (state : D → DiskState) (now : Stage D G) (first : Opening D G) (xs : List Exchange) → Progress state first xs now → known_place first.start (turns_of xs) ≡ place_of now.saved.cluster
known state now first xs p = place_led first.start (turns_of xs) now.saved.cluster p.stands.leave

-- a line that makes no turn
still : {D : Type 0} {G : Ghosts D} (state : D → DiskState) (now : Stage D G) (line text : List ℕ) (outcome : Outcome) → turns_by outcome ≡ []
    → ((first : Opening D G) (xs : List Exchange) → Progress state first xs now → IsOutcome first.start (turns_of xs) line outcome text) → Advances state now line text now
still state now line text outcome none said = λ first xs p.
    let x : Exchange = record { line = line; outcome = outcome; text = text } in
    let same : turns_of xs ≡ turns_of (xs ++ x ∷ []) = sym (turns_of-push xs x ∙ ap (λ ts. turns_of xs ++ ts) none ∙ append-nil (turns_of xs)) in
    (outcome, record { each = exchanges_push first.start xs x p.each (said first xs p); stands = subst (λ ts. StandsAfter state first ts now) same p.stands })

-- a blank line
pub passes : {D : Type 0} {G : Ghosts D} (state : D → DiskState) (now : Stage D G) (line text : List ℕ) → is_blank line ≡ true → text ≡ [] → Advances state now line text now
passes state now line text blank empty = still state now line text Passed refl (λ first xs p. (blank, empty))

-- a line that is refused
pub refuses : {D : Type 0} {G : Ghosts D} (state : D → DiskState) (now : Stage D G) (line text : List ℕ) (refusal : Answer) → is_blank line ≡ false → IsRefusal line refusal
    → text ≡ reply_line (place_of now.saved.cluster) (reply.One refusal) → Advances state now line text now
refuses state now line text refusal some why printed =
    still state now line text (Refused refusal) refl (λ first xs p.
    (some, why, printed ∙ ap (λ place. reply_line place (reply.One refusal)) (sym (known state now first xs p))))

-- the turns that a run comes after are so with one more
abbrev pub Follows : {D : Type 0} {G : Ghosts D} → (D → DiskState) → Stage D G → Turn → Stage D G → Type 0
Follows {D} {G} state old turn new = (first : Opening D G) (turns : List Turn) → StandsAfter state first turns old → StandsAfter state first (turns ++ turn ∷ []) new

-- a line that makes a turn
pub answers : {D : Type 0} {G : Ghosts D} (state : D → DiskState) (old new : Stage D G) (line text : List ℕ) (request : Request) (r : Reply) → is_blank line ≡ false → LineMeans line (Ok request) → text ≡ reply_line (place_of new.saved.cluster) r
    → IsAnsweredBy request r → Follows state old (record { request = request; reply = r }) new → Advances state old line text new
answers state old new line text request r some means printed answered goes = λ first xs p.
    let turn : Turn = record { request = request; reply = r } in
    let x : Exchange = record { line = line; outcome = Answered turn; text = text } in
    let same : turns_of xs ++ turn ∷ [] ≡ turns_of (xs ++ x ∷ []) = sym (turns_of-push xs x) in
    let next = goes first (turns_of xs) p.stands in (
      Answered turn,
      record {
        each = exchanges_push first.start xs x p.each
            (some, means, answered, printed ∙ ap (λ place. reply_line place r) (sym (place_led first.start (turns_of xs ++ turn ∷ []) new.saved.cluster next.leave)));
        stands = subst (λ ts. StandsAfter state first ts new) same next;
      },
    )

-- a request that may have been served, and gets no reply
pub drops_served : {D : Type 0} {G : Ghosts D} (state : D → DiskState) (old new : Stage D G) (line : List ℕ) (request : Request) (answered : Result Reply Lost) (Failed : Type 0) → LineMeans line (Ok request) → Serving state old request answered new → Drops state old line new Failed
drops_served state old new line request answered Failed means s = λ first xs p.
    record { unanswered = Some request; means = means; promises = lost_so state old new first (turns_of xs) request answered p.stands s; was_taken = λ failed. refl }

-- a line that wasn't served
pub drops_unserved : {D : Type 0} {G : Ghosts D} (state : D → DiskState) (now : Stage D G) (line : List ℕ) (Failed : Type 0) → (Failed → ⊥) → Drops state now line now Failed
drops_unserved state now line Failed never = λ first xs p. record { unanswered = None; means = tt; promises = promised state first now xs None p; was_taken = λ failed. absurd (never failed) }
