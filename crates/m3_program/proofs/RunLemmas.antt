-- What is known of a run so far, and how it ends.
use Rattle.std.proofs.Common.{◌≡◌, ℕ, ◌+◌, ◌<◌, ◌≤◌, List, [], ◌++◌, length, length-append, refl, sym, ap, ◌∙◌, subst, append_assoc, append-nil, arith}
use Rattle.m3_model.specs.declared.limits.TheConstants.{INPUT_END}
use Rattle.std.specs.Prelude.{Option, Some, None}
use Rattle.std.specs.Io.KnownBytes.{IsAtEnd}
use Rattle.std.proofs.KnownBytes.{Consumes-nil, Consumes-trans}
use Rattle.m3_outside.specs.DiskState.{DiskState, IsLawfulDisk}
use Rattle.m3_outside.specs.declared.disk.Disk.{Ghosts}
use Rattle.m3_outside.specs.Depots.{Depot}
use Rattle.saved_cluster.specs.served_cluster.Plans.{state_of}
use Rattle.saved_cluster.specs.Openings.{IsOpened}
use Rattle.saved_cluster.specs.declared.saved.SavedCluster.{SavedCluster}
use Rattle.m3_program.specs.declared.status.Status.{Status}
use Rattle.m3_program.specs.declared.status.Status.TheVariants as status
use Rattle.m3_program.specs.Causes.{EndsStep}
use Rattle.m3_program.specs.Exchanges.{Exchange, replies_text, turns_of}
use Rattle.m3_program.specs.Openings.{IsUnopened, Opened, Unopened}
use Rattle.m3_program.specs.Passing.{Gives, Outflow, Takes, left_in}
use Rattle.m3_program.specs.Runs.{GotTo, AreWholeLines, Course, IsCutOff, Runs, lines_of}
use Rattle.m3_program.specs.Streams.{Opening, Stage, IsFresh, opening_at, stage, StreamState, TakesOn, Cuts, Finishes, Halted, HaltsLast, HasServed}
use Rattle.m3_program.specs.Writing.{WritesUntil}
use Rattle.m3_program.proofs.CloseLemmas.{GivesBack, causes_over, kept_over, leaves_over, unopened_stands}
use Rattle.m3_program.proofs.FreshLemmas.{is_found}
use Rattle.m3_program.proofs.PromiseLemmas.{Closes, promised}
use Rattle.m3_program.proofs.StreamLemmas.{both_made, halted_of, stream_begins, stream_course, takes_all}
use Rattle.m3_program.proofs.WrittenLemmas.{appends_more, appends_nothing}

-- a source gave these bytes, and the sink took the replies to these exchanges behind what it took before
pub record Heard {D : Type 0} {G : Ghosts D} (state : D → DiskState) (first : Opening D G) (left0 : Option (List ℕ)) (gave0 : List ℕ) (sink0 : Outflow) (left : Option (List ℕ)) (gave : List ℕ) (sink : Outflow) (n : ℕ) (now : Stage D G) (line : List ℕ) : Type 0 where
  pub got : List ℕ
  pub told : List ℕ
  pub exchanges : List Exchange
  pub gives : Gives left0 gave0 got left gave
  pub behind : Takes sink0 sink told
  pub told_is : told ≡ replies_text exchanges
  pub count : length got ≡ n
  pub stream : StreamState state first exchanges got now line

-- what a run tells at its end, before its disks are given back
abbrev pub Told : {D : Type 0} {G : Ghosts D} → (D → DiskState) → Opening D G → Stage D G → Status → Option (List ℕ) → List ℕ → Outflow → Option (List ℕ) → List ℕ → Outflow → Type 0
Told state first now s left0 gave0 sink0 left gave sink =
    (taken told : List ℕ) × Gives left0 gave0 taken left gave × Takes sink0 sink told × HasServed state first now s (taken ++ left_in left) (left_in left) told

-- A run that ended within its last piece, when this was written before, and this text was made for the lines of the piece; not how it ended, and what of the text was written.
pub record Stopped {D : Type 0} {G : Ghosts D} (state : D → DiskState) (first : Opening D G) (now : Stage D G) (left0 : Option (List ℕ)) (gave0 : List ℕ) (sink0 : Outflow) (left : Option (List ℕ)) (gave : List ℕ) (sink : Outflow) (text : List ℕ) (Failed : Type 0) : Type 0 where
  pub earlier : List ℕ
  pub piece : List ℕ
  pub told : List ℕ
  pub exchanges : List Exchange
  pub more : List Exchange
  pub gives : Gives left0 gave0 (earlier ++ piece) left gave
  pub few : length (earlier ++ piece) ≤ INPUT_END
  pub short : length piece ≤ 65536
  pub behind : Takes sink0 sink told
  pub told_is : told ≡ replies_text exchanges
  pub made : text ≡ replies_text more
  pub ended : AreWholeLines earlier exchanges
  pub halted : Halted state first (exchanges ++ more) now ((earlier ++ piece) ++ left_in left) (earlier ++ piece) Failed

-- one piece after the other
gives_more : (left left2 left3 : Option (List ℕ)) (gave gave2 gave3 got piece : List ℕ) → Gives left gave got left2 gave2 → Gives left2 gave2 piece left3 gave3 → Gives left gave (got ++ piece) left3 gave3
gives_more left left2 left3 gave gave2 gave3 got piece one two = (Consumes-trans left left2 left3 got piece one.0 two.0, two.1 ∙ ap (λ l. l ++ piece) one.1 ∙ append_assoc gave got piece)

gives_none : (left : Option (List ℕ)) (gave : List ℕ) → Gives left gave [] left gave
gives_none left gave = (Consumes-nil left, sym (append-nil gave))

at_end : (left : Option (List ℕ)) → IsAtEnd left → left_in left ≡ []
at_end None ended = refl
at_end (Some xs) ended = ended

-- all whole lines of what was taken were answered
whole_of : {D : Type 0} {G : Ghosts D} {state : D → DiskState} {first : Opening D G} {xs : List Exchange} {taken : List ℕ} {now : Stage D G} {line : List ℕ} → StreamState state first xs taken now line → AreWholeLines taken xs
whole_of {D} {G} {state} {first} {xs} {taken} {now} {line} t = record { open_line = line; are = t.read; no_end = t.no_end }

pub known_begins : {D : Type 0} {G : Ghosts D} (state : D → DiskState) (left : Option (List ℕ)) (gave : List ℕ) (sink : Outflow) (now : Stage D G) (line : List ℕ) → IsFresh state now → line ≡ [] → Heard state (opening_at now) left gave sink left gave sink 0 now line
known_begins state left gave sink now line fresh empty = record {
  got = [];
  told = [];
  exchanges = [];
  gives = gives_none left gave;
  behind = appends_nothing sink;
  told_is = refl;
  count = refl;
  stream = subst (λ l. StreamState state (opening_at now) [] [] now l) (sym empty) (stream_begins state now fresh);
}

pub known_more : {D : Type 0} {G : Ghosts D} (state : D → DiskState) (first : Opening D G) (left0 : Option (List ℕ)) (gave0 : List ℕ) (sink0 : Outflow) (l l2 : Option (List ℕ)) (g g2 : List ℕ) (w w2 : Outflow) (n k m : ℕ) (old new : Stage D G) (line line2 piece text : List ℕ)
    → Heard state first left0 gave0 sink0 l g w n old line → Gives l g piece l2 g2 → length piece ≡ k → n + k ≡ m → Takes w w2 text → TakesOn state old line piece text new line2 → Heard state first left0 gave0 sink0 l2 g2 w2 m new line2
known_more state first left0 gave0 sink0 l l2 g g2 w w2 n k m old new line line2 piece text h gives size sum wrote takes =
    let next = takes first h.exchanges h.got h.stream in
    record {
      got = h.got ++ piece;
      told = h.told ++ text;
      exchanges = h.exchanges ++ next.0;
      gives = gives_more left0 l l2 gave0 g g2 h.got piece h.gives gives;
      behind = appends_more sink0 w w2 h.told text h.behind wrote;
      told_is = both_made h.exchanges next.0 h.told text h.told_is next.1;
      count = length-append h.got piece ∙ let e = h.count in omega arith;
      stream = next.2;
    }

-- it stopped within a piece
pub known_cuts : {D : Type 0} {G : Ghosts D} (state : D → DiskState) (first : Opening D G) (left0 : Option (List ℕ)) (gave0 : List ℕ) (sink0 : Outflow) (l l2 : Option (List ℕ)) (g g2 : List ℕ) (w : Outflow) (n : ℕ) (old new : Stage D G) (line piece text : List ℕ) (Failed : Type 0)
    → Heard state first left0 gave0 sink0 l g w n old line → Gives l g piece l2 g2 → n + length piece ≤ INPUT_END → length piece ≤ 65536 → Cuts state old line piece text new Failed → Stopped state first new left0 gave0 sink0 l2 g2 w text Failed
known_cuts state first left0 gave0 sink0 l l2 g g2 w n old new line piece text Failed h gives few short cuts =
    let cut = cuts first h.exchanges h.got h.stream in
    record {
      earlier = h.got;
      piece = piece;
      told = h.told;
      exchanges = h.exchanges;
      more = cut.0;
      gives = gives_more left0 l l2 gave0 g g2 h.got piece h.gives gives;
      few = let size = length-append h.got piece in let count = h.count in omega (arith, size, count, few);
      short = short;
      behind = h.behind;
      told_is = h.told_is;
      made = cut.1;
      ended = whole_of h.stream;
      halted = halted_of state first (h.exchanges ++ cut.0) new (h.got ++ piece) (left_in l2) Failed cut.2;
    }

-- it stopped within the last line
pub known_stops : {D : Type 0} {G : Ghosts D} (state : D → DiskState) (first : Opening D G) (left0 : Option (List ℕ)) (gave0 : List ℕ) (sink0 : Outflow) (l : Option (List ℕ)) (g : List ℕ) (w : Outflow) (n : ℕ) (old new : Stage D G) (line text : List ℕ) (Failed : Type 0)
    → Heard state first left0 gave0 sink0 l g w n old line → n ≤ INPUT_END → IsAtEnd l → HaltsLast state old line text new Failed → Stopped state first new left0 gave0 sink0 l g w text Failed
known_stops state first left0 gave0 sink0 l g w n old new line text Failed h few ended stops =
    let none = append-nil h.got in
    let all : (h.got ++ []) ++ left_in l ≡ h.got = ap (λ r. (h.got ++ []) ++ r) (at_end l ended) ∙ append-nil (h.got ++ []) ∙ none in
    let end = stops first h.exchanges h.got h.stream in
    record {
      earlier = h.got;
      piece = [];
      told = h.told;
      exchanges = h.exchanges;
      more = end.0;
      gives = subst (λ t. Gives left0 gave0 t l g) (sym none) h.gives;
      few = let size = ap length none in let count = h.count in omega (arith, size, count, few);
      short = omega arith;
      behind = h.behind;
      told_is = h.told_is;
      made = end.1;
      ended = whole_of h.stream;
      halted = subst (λ i. Halted state first (h.exchanges ++ end.0) new i (h.got ++ []) Failed) (sym all)
          (subst (λ it. Halted state first (h.exchanges ++ end.0) new h.got it Failed) (sym none) end.2);
    }

-- it came to the end
pub known_finishes : {D : Type 0} {G : Ghosts D} (state : D → DiskState) (first : Opening D G) (left0 : Option (List ℕ)) (gave0 : List ℕ) (sink0 : Outflow) (l : Option (List ℕ)) (g : List ℕ) (w w2 : Outflow) (n : ℕ) (old new : Stage D G) (line text : List ℕ)
    → Heard state first left0 gave0 sink0 l g w n old line → n < INPUT_END → IsAtEnd l → Takes w w2 text → Finishes state old line text new → Told state first new status.Done left0 gave0 sink0 l g w2
known_finishes state first left0 gave0 sink0 l g w w2 n old new line text h below ended wrote finishes =
    let none = at_end l ended in
    let all : h.got ++ left_in l ≡ h.got = ap (λ r. h.got ++ r) none ∙ append-nil h.got in
    let end = finishes first h.exchanges h.got h.stream in
    let xs = h.exchanges ++ end.0 in (
      h.got,
      h.told ++ text,
      h.gives,
      appends_more sink0 w w2 h.told text h.behind wrote,
      record {
        ran = record {
          taken = h.got;
          parts = refl;
          few = let count = h.count in omega (arith, count, below);
          course = record { exchanges = xs; unanswered = None; each = end.2.each; of_input = takes_all (h.got ++ left_in l) xs (ap lines_of all ∙ end.2.lines_are); of_taken = takes_all h.got xs end.2.lines_are };
          got_to = (refl, both_made h.exchanges end.0 h.told text h.told_is end.1, none, let count = h.count in omega (arith, count, below));
        };
        promises = end.2.promises;
      },
    )

-- the source failed when so much was taken
pub known_fault : {D : Type 0} {G : Ghosts D} (state : D → DiskState) (first : Opening D G) (left0 : Option (List ℕ)) (gave0 : List ℕ) (sink0 : Outflow) (l : Option (List ℕ)) (g : List ℕ) (w : Outflow) (n : ℕ) (now : Stage D G) (line : List ℕ) → Heard state first left0 gave0 sink0 l g w n now line → n ≤ INPUT_END → Told state first now status.ReadFault left0 gave0 sink0 l g w
known_fault state first left0 gave0 sink0 l g w n now line h few =
    let course = stream_course state first h.exchanges (h.got ++ left_in l) h.got (left_in l) now line h.stream refl in
    let promises = promised state first now h.exchanges None h.stream.progress in (
      h.got,
      h.told,
      h.gives,
      h.behind,
      record { ran = record { taken = h.got; parts = refl; few = let count = h.count in omega (arith, count, few); course = course; got_to = (whole_of h.stream, h.told_is, refl) }; promises = promises },
    )

-- it took as much as may be taken
pub known_limit : {D : Type 0} {G : Ghosts D} (state : D → DiskState) (first : Opening D G) (left0 : Option (List ℕ)) (gave0 : List ℕ) (sink0 : Outflow) (l : Option (List ℕ)) (g : List ℕ) (w : Outflow) (n : ℕ) (now : Stage D G) (line : List ℕ) → Heard state first left0 gave0 sink0 l g w n now line → n ≡ INPUT_END → Told state first now status.TooLong left0 gave0 sink0 l g w
known_limit state first left0 gave0 sink0 l g w n now line h full =
    let course = stream_course state first h.exchanges (h.got ++ left_in l) h.got (left_in l) now line h.stream refl in
    let promises = promised state first now h.exchanges None h.stream.progress in (
      h.got,
      h.told,
      h.gives,
      h.behind,
      record { ran = record { taken = h.got; parts = refl; few = let count = h.count in omega (arith, count, full); course = course; got_to = (whole_of h.stream, h.told_is, h.count ∙ full, refl) }; promises = promises },
    )

-- all replies were written
all_written : (told : List ℕ) (xs : List Exchange) → told ≡ replies_text xs → IsCutOff told xs
all_written told xs is = record { before = xs; last = []; parts = sym (append-nil xs); few = omega arith; part = []; rest = []; of_last = refl; are = is ∙ sym (append-nil (replies_text xs)) }

-- the course of a run that stopped
abbrev stopped_course : {D : Type 0} {G : Ghosts D} (state : D → DiskState) (first : Opening D G) (now : Stage D G) (left0 : Option (List ℕ)) (gave0 : List ℕ) (sink0 : Outflow) (left : Option (List ℕ)) (gave : List ℕ) (sink : Outflow) (text : List ℕ) (Failed : Type 0) → (h : Stopped state first now left0 gave0 sink0 left gave sink text Failed) → Course first.start ((h.earlier ++ h.piece) ++ left_in left) (h.earlier ++ h.piece)
stopped_course state first now left0 gave0 sink0 left gave sink text Failed h =
    record { exchanges = h.exchanges ++ h.more; unanswered = h.halted.unanswered; each = h.halted.each; of_input = h.halted.of_input; of_taken = h.halted.of_taken }

-- this much was written behind what was written before
stopped_told : {D : Type 0} {G : Ghosts D} (state : D → DiskState) (first : Opening D G) (now : Stage D G) (s : Status) (left0 : Option (List ℕ)) (gave0 : List ℕ) (sink0 : Outflow) (left : Option (List ℕ)) (gave : List ℕ) (sink last : Outflow) (text out : List ℕ) (Failed : Type 0) → (h : Stopped state first now left0 gave0 sink0 left gave sink text Failed) → Takes sink last out
    → GotTo s (h.earlier ++ h.piece) (left_in left) (h.told ++ out) (h.exchanges ++ h.more) h.halted.unanswered h.halted.of_input.later → Told state first now s left0 gave0 sink0 left gave last
stopped_told state first now s left0 gave0 sink0 left gave sink last text out Failed h wrote got = (
  h.earlier ++ h.piece,
  h.told ++ out,
  h.gives,
  appends_more sink0 sink last h.told out h.behind wrote,
  record {
    ran = record { taken = h.earlier ++ h.piece; parts = refl; few = h.few; course = stopped_course state first now left0 gave0 sink0 left gave sink text Failed h; got_to = got };
    promises = h.halted.promises;
  },
)

pub step_told : {D : Type 0} {G : Ghosts D} (state : D → DiskState) (first : Opening D G) (now : Stage D G) (s : Status) (a b x y u v m n : ℕ) → EndsStep s a b x y u v m n
    → (left0 : Option (List ℕ)) (gave0 : List ℕ) (sink0 : Outflow) (left : Option (List ℕ)) (gave : List ℕ) (sink sink2 : Outflow) (text : List ℕ) → (s ≡ status.ReadFault → Told state first now status.ReadFault left0 gave0 sink0 left gave sink2)
    → Stopped state first now left0 gave0 sink0 left gave sink text (s ≡ status.DiskFault) → WritesUntil s sink text sink2 → Told state first now s left0 gave0 sink0 left gave sink2
step_told state first now status.ReadFault a b x y u v m n k left0 gave0 sink0 left gave sink sink2 text fault h wrote = fault refl
step_told state first now status.WriteFault a b x y u v m n k left0 gave0 sink0 left gave sink sink2 text fault h wrote =
    stopped_told state first now status.WriteFault left0 gave0 sink0 left gave sink sink2 text wrote.0 _ h wrote.2 (record {
      earlier = h.earlier;
      piece = h.piece;
      of_taken = refl;
      short = h.short;
      before = h.exchanges;
      last = h.more;
      parts = refl;
      ended = h.ended;
      part = wrote.0;
      rest = wrote.1;
      of_last = sym h.made ∙ wrote.3;
      are = ap (λ l. l ++ wrote.0) h.told_is;
    })
step_told state first now status.DiskFault a b x y u v m n k left0 gave0 sink0 left gave sink sink2 text fault h wrote =
    stopped_told state first now status.DiskFault left0 gave0 sink0 left gave sink sink2 text text _ h wrote (both_made h.exchanges h.more h.told text h.told_is h.made, h.halted.was_taken refl)
step_told state first now status.Memory a b x y u v m n k left0 gave0 sink0 left gave sink sink2 text fault h wrote =
    stopped_told state first now status.Memory left0 gave0 sink0 left gave sink sink2 text text _ h wrote (all_written (h.told ++ text) (h.exchanges ++ h.more) (both_made h.exchanges h.more h.told text h.told_is h.made))
step_told state first now _ a b x y u v m n k left0 gave0 sink0 left gave sink sink2 text fault h wrote = absurd k

-- the words couldn't be read, or the cluster wasn't opened, and nothing was read or written
pub told_unopened : {D : Type 0} (state : D → DiskState) (first now : Depot D) (s : Status) (left : Option (List ℕ)) (gave : List ℕ) (sink : Outflow) → IsUnopened state first now s
    → (taken told : List ℕ) × Gives left gave taken left gave × Takes sink sink told × Runs state first now s (taken ++ left_in left) (left_in left) told
told_unopened state first now s left gave sink unopened = ([], [], gives_none left gave, appends_nothing sink, Unopened unopened (refl, refl, unopened_stands state first now s unopened))

-- the disks are given back
pub told_closes : {D : Type 0} {G : Ghosts D} (state : D → DiskState) → ((d : D) → IsLawfulDisk (state d)) → (before now : Depot D) (c : SavedCluster D G) (opened : IsOpened state before now c) (mid : Stage D G) (last : Depot D) (s : Status)
    → Closes state before opened.mid mid last → GivesBack state mid last
    → (left0 : Option (List ℕ)) (gave0 : List ℕ) (sink0 : Outflow) (left : Option (List ℕ)) (gave : List ℕ) (sink : Outflow) → Told state (opening_at (stage c now)) mid s left0 gave0 sink0 left gave sink
    → (taken told : List ℕ) × Gives left0 gave0 taken left gave × Takes sink0 sink told × Runs state before last s (taken ++ left_in left) (left_in left) told
told_closes state lawful before now c opened mid last s closes back left0 gave0 sink0 left gave sink (taken, told, gives, is, run) =
    let start = state_of c.cluster in
    let turns = turns_of run.ran.course.exchanges in
    let unanswered = run.ran.course.unanswered in
    let served = run.promises in (
      taken,
      told,
      gives,
      is,
      Opened start (record {
        found = is_found state before now c opened;
        ran = run.ran;
        meta = record { disk = mid.saved.meta; back = back.meta; leaves = served.leaves };
        joined = served.joined;
        kept = kept_over state lawful before now c opened mid turns unanswered served;
        causes = causes_over state lawful before now c opened mid turns unanswered served last closes;
        leaves = leaves_over state lawful before now c opened mid turns unanswered served last back;
      }),
    )
