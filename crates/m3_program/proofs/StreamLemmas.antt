-- Reading goes on by a line, by a piece, and to the end.
use Rattle.std.proofs.Common.{◌≡◌, ℕ, ◌<◌, List, [], ◌∷◌, ◌++◌, map, length, refl, sym, ap, ◌∙◌, subst, inl, inr, append_assoc, append-nil}
use Rattle.std.specs.Prelude.{Option, Some, None, IsSome}
use Rattle.std.proofs.lemmas.List.{map-append}
use Rattle.std.proofs.lemmas.List.Concat.{flat_map-append}
use Rattle.m3_model.specs.declared.turn.Request.{Request}
use Rattle.m3_model.specs.Members.{IsIn}
use Rattle.m3_model.proofs.MemberLemmas.{IsIn-append_cases}
use Rattle.m3_model.proofs.SplitLemmas.{not_empty}
use Rattle.m3_outside.specs.DiskState.{DiskState}
use Rattle.m3_outside.specs.declared.disk.Disk.{Ghosts}
use Rattle.m3_program.specs.Exchanges.{Exchange, replies_text}
use Rattle.m3_program.specs.Runs.{Course, IsNext, TakesLines, lines_of, lines_text}
use Rattle.m3_program.specs.Streams.{Opening, Stage, IsFresh, opening_at, Advances, MayMean, PromisesSo, Drops, NoNewline, StreamState, CutShort, Halted, Finished, TakesOn, Cuts, Finishes, HaltsLast}
use Rattle.m3_program.proofs.LineLemmas.{lines_of-line, lines_of-last, lines_of-lines}
use Rattle.m3_program.proofs.PromiseLemmas.{begins_so, promised}

whole_push : (xs : List Exchange) (x : Exchange) → ((y : Exchange) → IsIn xs y → NoNewline y.line) → NoNewline x.line → (y : Exchange) → IsIn (xs ++ x ∷ []) y → NoNewline y.line
whole_push xs x whole last y m = elim (IsIn-append_cases xs (x ∷ []) y m) as (λ _. NoNewline y.line) [
  | inl was ↦ whole y was
  | inr is ↦ elim is as (λ _. NoNewline y.line) [ inl same ↦ subst (λ (z : Exchange). NoNewline z.line) same last | inr none ↦ absurd none ]
]

lines_push : (xs : List Exchange) (x : Exchange) → lines_text (xs ++ x ∷ []) ≡ lines_text xs ++ (x.line ++ 10 ∷ [])
lines_push xs x = flat_map-append (λ (y : Exchange). y.line ++ 10 ∷ []) xs (x ∷ []) ∙ ap (λ l. lines_text xs ++ l) (append-nil (x.line ++ 10 ∷ []))

pub replies_both : (xs ys : List Exchange) → replies_text (xs ++ ys) ≡ replies_text xs ++ replies_text ys
replies_both xs ys = flat_map-append (λ (y : Exchange). y.text) xs ys

-- the replies that were made, with those that are made now
pub both_made : (xs ys : List Exchange) (text text2 : List ℕ) → text ≡ replies_text xs → text2 ≡ replies_text ys → text ++ text2 ≡ replies_text (xs ++ ys)
both_made xs ys text text2 is is2 = ap (λ l. l ++ text2) is ∙ ap (λ l. replies_text xs ++ l) is2 ∙ sym (replies_both xs ys)

-- what was read, whatever comes after it
abbrev pub reads_at : {D : Type 0} {G : Ghosts D} (state : D → DiskState) (first : Opening D G) (xs : List Exchange) (taken tail : List ℕ) (now : Stage D G) (line : List ℕ) (unanswered : Option Request) → StreamState state first xs taken now line
    → IsNext unanswered (lines_of (line ++ tail)) → TakesLines (taken ++ tail) xs unanswered
reads_at state first xs taken tail now line unanswered t next = record {
  later = lines_of (line ++ tail);
  lines_are = ap (λ bytes. lines_of (bytes ++ tail)) t.read ∙ ap lines_of (append_assoc (lines_text xs) line tail) ∙ lines_of-lines xs (line ++ tail) t.whole;
  next = next;
}

-- the course of a run so far, whatever is left of its input
abbrev pub stream_course : {D : Type 0} {G : Ghosts D} (state : D → DiskState) (first : Opening D G) (xs : List Exchange) (input taken left : List ℕ) (now : Stage D G) (line : List ℕ) → StreamState state first xs taken now line → input ≡ taken ++ left → Course first.start input taken
stream_course state first xs input taken left now line t is = record {
  exchanges = xs;
  unanswered = None;
  each = t.progress.each;
  of_input = subst (λ bytes. TakesLines bytes xs None) (sym is) (reads_at state first xs taken left now line None t tt);
  of_taken = subst (λ bytes. TakesLines bytes xs None) (append-nil taken) (reads_at state first xs taken [] now line None t tt);
}

-- a run that was cut short, with what is left of its input
pub halted_of : {D : Type 0} {G : Ghosts D} (state : D → DiskState) (first : Opening D G) (xs : List Exchange) (now : Stage D G) (taken left : List ℕ) (Failed : Type 0) → CutShort state first xs now taken Failed → Halted state first xs now (taken ++ left) taken Failed
halted_of state first xs now taken left Failed cut = record {
  unanswered = cut.unanswered;
  each = cut.each;
  of_input = cut.reads left;
  of_taken = subst (λ bytes. TakesLines bytes xs cut.unanswered) (append-nil taken) (cut.reads []);
  promises = cut.promises;
  was_taken = cut.was_taken;
}

-- nothing more is done, and this request was taken at most
cut_at : {D : Type 0} {G : Ghosts D} (state : D → DiskState) (first : Opening D G) (xs : List Exchange) (taken piece : List ℕ) (old new : Stage D G) (line : List ℕ) (unanswered : Option Request) (Failed : Type 0) → StreamState state first xs taken old line
    → ((left : List ℕ) → IsNext unanswered (lines_of (line ++ (piece ++ left)))) → PromisesSo state first new xs unanswered → (Failed → IsSome unanswered) → CutShort state first xs new (taken ++ piece) Failed
cut_at state first xs taken piece old new line unanswered Failed t next promises was_taken = record {
  unanswered = unanswered;
  each = t.progress.each;
  reads = λ left. subst (λ bytes. TakesLines bytes xs unanswered) (sym (append_assoc taken piece left)) (reads_at state first xs taken (piece ++ left) old line unanswered t (next left));
  promises = promises;
  was_taken = was_taken;
}

-- it took more, and did nothing with it
cut_more : {D : Type 0} {G : Ghosts D} (state : D → DiskState) (first : Opening D G) (xs : List Exchange) (now : Stage D G) (taken more : List ℕ) (Failed : Type 0) → CutShort state first xs now taken Failed → CutShort state first xs now (taken ++ more) Failed
cut_more state first xs now taken more Failed cut = record {
  unanswered = cut.unanswered;
  each = cut.each;
  reads = λ left. subst (λ bytes. TakesLines bytes xs cut.unanswered) (sym (append_assoc taken more left)) (cut.reads (more ++ left));
  promises = cut.promises;
  was_taken = cut.was_taken;
}

next_is : (unanswered : Option Request) (line : List ℕ) (lines : List (List ℕ)) → MayMean line unanswered → IsNext unanswered (line ∷ lines)
next_is None line lines h = tt
next_is (Some request) line lines h = h

-- nothing was read
pub takes_nothing : {D : Type 0} {G : Ghosts D} (state : D → DiskState) (now : Stage D G) (line : List ℕ) → TakesOn state now line [] [] now line
takes_nothing state now line = λ first xs taken t. (
  [],
  refl,
  subst (λ ys. StreamState state first ys (taken ++ []) now line) (sym (append-nil xs)) (subst (λ bytes. StreamState state first xs bytes now line) (sym (append-nil taken)) t),
)

-- a line goes on
pub takes_more : {D : Type 0} {G : Ghosts D} (state : D → DiskState) (now : Stage D G) (line more line2 : List ℕ) → NoNewline more → line2 ≡ line ++ more → TakesOn state now line more [] now line2
takes_more state now line more line2 none is = λ first xs taken t.
    let goes : StreamState state first xs (taken ++ more) now line2 = record {
      progress = t.progress;
      read = ap (λ l. l ++ more) t.read ∙ append_assoc (lines_text xs) line more ∙ ap (λ l. lines_text xs ++ l) (sym is);
      whole = t.whole;
      no_end = λ m. elim (IsIn-append_cases line more 10 (subst (λ l. IsIn l 10) is m)) as (λ _. ⊥) [ inl was ↦ t.no_end was | inr new ↦ none new ];
    } in
    ([], refl, subst (λ ys. StreamState state first ys (taken ++ more) now line2) (sym (append-nil xs)) goes)

no_end_of : (line rest : List ℕ) → NoNewline line → NoNewline rest → NoNewline (line ++ rest)
no_end_of line rest a b = λ m. elim (IsIn-append_cases line rest 10 m) as (λ _. ⊥) [ inl x ↦ a x | inr y ↦ b y ]

-- a line ends, and its reply is made
pub takes_line : {D : Type 0} {G : Ghosts D} (state : D → DiskState) (old new : Stage D G) (line rest text whole line2 : List ℕ) → NoNewline rest → whole ≡ line ++ rest → line2 ≡ [] → Advances state old whole text new
    → TakesOn state old line (rest ++ 10 ∷ []) text new line2
takes_line state old new line rest text whole line2 none is empty goes = λ first xs taken t.
    let next = goes first xs t.progress in
    let x : Exchange = record { line = whole; outcome = next.0; text = text } in
    let no_end : NoNewline whole = subst NoNewline (sym is) (no_end_of line rest t.no_end none) in (
      x ∷ [],
      sym (append-nil text),
      record {
        progress = next.1;
        read = ap (λ l. l ++ (rest ++ 10 ∷ [])) t.read ∙ append_assoc (lines_text xs) line (rest ++ 10 ∷ []) ∙ ap (λ l. lines_text xs ++ l) (sym (append_assoc line rest (10 ∷ [])))
            ∙ ap (λ l. lines_text xs ++ (l ++ 10 ∷ [])) (sym is) ∙ sym (lines_push xs x) ∙ sym (append-nil (lines_text (xs ++ x ∷ []))) ∙ ap (λ l. lines_text (xs ++ x ∷ []) ++ l) (sym empty);
        whole = whole_push xs x t.whole no_end;
        no_end = λ m. subst (λ l. IsIn l 10) empty m;
      },
    )

-- a line that ends, in the input
line_in : {D : Type 0} {G : Ghosts D} (state : D → DiskState) (first : Opening D G) (xs : List Exchange) (taken left : List ℕ) (now : Stage D G) (line rest whole : List ℕ) → NoNewline rest → whole ≡ line ++ rest
    → StreamState state first xs taken now line → lines_of (line ++ ((rest ++ 10 ∷ []) ++ left)) ≡ whole ∷ lines_of left
line_in state first xs taken left now line rest whole none is t =
    ap lines_of (sym (append_assoc line (rest ++ 10 ∷ []) left) ∙ ap (λ l. l ++ left) (sym (append_assoc line rest (10 ∷ []))) ∙ ap (λ l. (l ++ 10 ∷ []) ++ left) (sym is))
    ∙ lines_of-line whole left (subst NoNewline (sym is) (no_end_of line rest t.no_end none))

-- a line ends, and gets no reply
pub drops_line : {D : Type 0} {G : Ghosts D} (state : D → DiskState) (old new : Stage D G) (line rest whole : List ℕ) (Failed : Type 0) → NoNewline rest → whole ≡ line ++ rest → Drops state old whole new Failed → Cuts state old line (rest ++ 10 ∷ []) [] new Failed
drops_line state old new line rest whole Failed none is drops = λ first xs taken t.
    let d = drops first xs t.progress in
    let cut = cut_at state first xs taken (rest ++ 10 ∷ []) old new line d.unanswered Failed t
    (λ left. subst (IsNext d.unanswered) (sym (line_in state first xs taken left old line rest whole none is t)) (next_is d.unanswered whole (lines_of left) d.means)) d.promises d.was_taken in
    ([], refl, subst (λ ys. CutShort state first ys new (taken ++ (rest ++ 10 ∷ [])) Failed) (sym (append-nil xs)) cut)

-- memory was wanted for a piece
pub cuts_silently : {D : Type 0} {G : Ghosts D} (state : D → DiskState) (now : Stage D G) (line piece : List ℕ) (Failed : Type 0) → (Failed → ⊥) → Cuts state now line piece [] now Failed
cuts_silently state now line piece Failed never = λ first xs taken t.
    let cut = cut_at state first xs taken piece now now line None Failed t (λ left. tt) (promised state first now xs None t.progress) (λ failed. absurd (never failed)) in
    ([], refl, subst (λ ys. CutShort state first ys now (taken ++ piece) Failed) (sym (append-nil xs)) cut)

-- it failed in fewer cases
pub cuts_fewer : {D : Type 0} {G : Ghosts D} (state : D → DiskState) (old new : Stage D G) (line piece text : List ℕ) (Failed Fewer : Type 0) → Cuts state old line piece text new Failed → (Fewer → Failed) → Cuts state old line piece text new Fewer
cuts_fewer state old new line piece text Failed Fewer cuts less = λ first xs taken t.
    let (more, is, cut) = cuts first xs taken t in
    (more, is, record { unanswered = cut.unanswered; each = cut.each; reads = cut.reads; promises = cut.promises; was_taken = λ fewer. cut.was_taken (less fewer) })

-- one piece after the other
pub takes_both : {D : Type 0} {G : Ghosts D} (state : D → DiskState) (a b c : Stage D G) (line line2 line3 piece piece2 text text2 : List ℕ) → TakesOn state a line piece text b line2 → TakesOn state b line2 piece2 text2 c line3
    → TakesOn state a line (piece ++ piece2) (text ++ text2) c line3
takes_both state a b c line line2 line3 piece piece2 text text2 f g = λ first xs taken t.
    let mid = f first xs taken t in
    let end = g first (xs ++ mid.0) (taken ++ piece) mid.2 in (
      mid.0 ++ end.0,
      both_made mid.0 end.0 text text2 mid.1 end.1,
      subst (λ ys. StreamState state first ys (taken ++ (piece ++ piece2)) c line3) (append_assoc xs mid.0 end.0)
          (subst (λ bytes. StreamState state first ((xs ++ mid.0) ++ end.0) bytes c line3) (append_assoc taken piece piece2) end.2),
    )

-- a piece, and then one in which it is cut short, and what wasn't looked at
pub cuts_after : {D : Type 0} {G : Ghosts D} (state : D → DiskState) (a b c : Stage D G) (line line2 piece piece2 more text text2 : List ℕ) (Failed : Type 0) → TakesOn state a line piece text b line2 → Cuts state b line2 piece2 text2 c Failed
    → Cuts state a line (piece ++ (piece2 ++ more)) (text ++ text2) c Failed
cuts_after state a b c line line2 piece piece2 more text text2 Failed f g = λ first xs taken t.
    let mid = f first xs taken t in
    let end = g first (xs ++ mid.0) (taken ++ piece) mid.2 in
    let bytes : ((taken ++ piece) ++ piece2) ++ more ≡ taken ++ (piece ++ (piece2 ++ more)) = append_assoc (taken ++ piece) piece2 more ∙ append_assoc taken piece (piece2 ++ more) in (
      mid.0 ++ end.0,
      both_made mid.0 end.0 text text2 mid.1 end.1,
      subst (λ ys. CutShort state first ys c (taken ++ (piece ++ (piece2 ++ more))) Failed) (append_assoc xs mid.0 end.0)
          (subst (λ it. CutShort state first ((xs ++ mid.0) ++ end.0) c it Failed) bytes (cut_more state first ((xs ++ mid.0) ++ end.0) c ((taken ++ piece) ++ piece2) more Failed end.2)),
    )

-- a piece, after which nothing more is done
pub cuts_behind : {D : Type 0} {G : Ghosts D} (state : D → DiskState) (a b : Stage D G) (line line2 piece more text : List ℕ) (Failed : Type 0) → (Failed → ⊥) → TakesOn state a line piece text b line2 → Cuts state a line (piece ++ more) text b Failed
cuts_behind state a b line line2 piece more text Failed never f =
    subst (λ l. Cuts state a line (piece ++ more) l b Failed) (append-nil text) (cuts_after state a b b line line2 piece [] more text [] Failed f (cuts_silently state b line2 [] Failed never))

-- before anything is read
pub stream_begins : {D : Type 0} {G : Ghosts D} (state : D → DiskState) (now : Stage D G) → IsFresh state now → StreamState state (opening_at now) [] [] now []
stream_begins state now fresh = record {
  progress = record { each = λ before x after e. absurd (not_empty before x after e); stands = begins_so state now fresh };
  read = refl;
  whole = λ x m. absurd m;
  no_end = λ m. m;
}

last_in : {D : Type 0} {G : Ghosts D} (state : D → DiskState) (first : Opening D G) (xs : List Exchange) (taken : List ℕ) (now : Stage D G) (line : List ℕ) → 0 < length line → StreamState state first xs taken now line
    → lines_of taken ≡ map (λ x. x.line) xs ++ line ∷ []
last_in state first xs taken now line some t = ap lines_of t.read ∙ lines_of-lines xs line t.whole ∙ ap (λ ls. map (λ x. x.line) xs ++ ls) (lines_of-last line t.no_end some)

-- the input ends with a newline, or is empty
pub finish_empty : {D : Type 0} {G : Ghosts D} (state : D → DiskState) (now : Stage D G) (line : List ℕ) → line ≡ [] → Finishes state now line [] now
finish_empty state now line empty = λ first xs taken t.
    let end : Finished state first xs now taken = record {
      each = t.progress.each;
      lines_are = ap lines_of (t.read ∙ ap (λ l. lines_text xs ++ l) empty) ∙ lines_of-lines xs [] t.whole ∙ append-nil (map (λ x. x.line) xs);
      promises = promised state first now xs None t.progress;
    } in
    ([], refl, subst (λ ys. Finished state first ys now taken) (sym (append-nil xs)) end)

-- its last line is answered
pub finish_line : {D : Type 0} {G : Ghosts D} (state : D → DiskState) (old new : Stage D G) (line text : List ℕ) → 0 < length line → Advances state old line text new → Finishes state old line text new
finish_line state old new line text some goes = λ first xs taken t.
    let next = goes first xs t.progress in
    let x : Exchange = record { line = line; outcome = next.0; text = text } in (
      x ∷ [],
      sym (append-nil text),
      record {
        each = next.1.each;
        lines_are = last_in state first xs taken old line some t ∙ sym (map-append (λ (y : Exchange). y.line) xs (x ∷ []));
        promises = promised state first new (xs ++ x ∷ []) None next.1;
      },
    )

-- it gets no reply
pub drops_last : {D : Type 0} {G : Ghosts D} (state : D → DiskState) (old new : Stage D G) (line : List ℕ) (Failed : Type 0) → 0 < length line → Drops state old line new Failed → HaltsLast state old line [] new Failed
drops_last state old new line Failed some drops = λ first xs taken t.
    let d = drops first xs t.progress in
    let takes : TakesLines taken xs d.unanswered = record { later = line ∷ []; lines_are = last_in state first xs taken old line some t; next = next_is d.unanswered line [] d.means } in
    let end : Halted state first xs new taken taken Failed = record { unanswered = d.unanswered; each = t.progress.each; of_input = takes; of_taken = takes; promises = d.promises; was_taken = d.was_taken } in
    ([], refl, subst (λ ys. Halted state first ys new taken taken Failed) (sym (append-nil xs)) end)

-- it failed in fewer cases
pub halts_fewer : {D : Type 0} {G : Ghosts D} (state : D → DiskState) (old new : Stage D G) (line text : List ℕ) (Failed Fewer : Type 0) → HaltsLast state old line text new Failed → (Fewer → Failed) → HaltsLast state old line text new Fewer
halts_fewer state old new line text Failed Fewer halts less = λ first xs taken t.
    let (more, is, end) = halts first xs taken t in
    (more, is, record { unanswered = end.unanswered; each = end.each; of_input = end.of_input; of_taken = end.of_taken; promises = end.promises; was_taken = λ fewer. end.was_taken (less fewer) })

-- all lines were answered
abbrev pub takes_all : (input : List ℕ) (xs : List Exchange) → lines_of input ≡ map (λ x. x.line) xs → TakesLines input xs None
takes_all input xs is = record { later = []; lines_are = is ∙ sym (append-nil (map (λ x. x.line) xs)); next = tt }

-- a run that came to the end of its input
pub halts_where_finished : {D : Type 0} {G : Ghosts D} (state : D → DiskState) (old new : Stage D G) (line text : List ℕ) (Failed : Type 0) → (Failed → ⊥) → Finishes state old line text new → HaltsLast state old line text new Failed
halts_where_finished state old new line text Failed never f = λ first xs taken t.
    let end = f first xs taken t in
    let takes = takes_all taken (xs ++ end.0) end.2.lines_are in
    (end.0, end.1, record { unanswered = None; each = end.2.each; of_input = takes; of_taken = takes; promises = end.2.promises; was_taken = λ failed. absurd (never failed) })
