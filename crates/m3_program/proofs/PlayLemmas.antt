-- How a run of a script ends, and what it promises.
use Rattle.std.proofs.Common.{◌≡◌, ℕ, List, [], ◌++◌, map, take, drop, refl, sym, ◌∙◌, subst}
use Rattle.std.specs.Prelude.{None}
use Rattle.std.proofs.lemmas.List.{take-append-drop}
use Rattle.m3_model.specs.declared.turn.Reply.{Reply}
use Rattle.m3_outside.specs.DiskState.{DiskState, IsLawfulDisk}
use Rattle.m3_outside.specs.declared.disk.Disk.{Ghosts}
use Rattle.m3_outside.specs.Depots.{Depot}
use Rattle.load_gen.specs.Summaries.{Counts, summary_line}
use Rattle.load_gen.specs.declared.summary.Summary.{Summary}
use Rattle.saved_cluster.specs.served_cluster.Plans.{state_of}
use Rattle.saved_cluster.specs.Openings.{IsOpened}
use Rattle.saved_cluster.specs.declared.lost.Lost.{Lost}
use Rattle.saved_cluster.specs.declared.lost.Lost.TheVariants as lost
use Rattle.saved_cluster.specs.declared.saved.SavedCluster.{SavedCluster}
use Rattle.m3_program.specs.Openings.{IsUnopened, Opened, Unopened, ended_for}
use Rattle.m3_program.specs.Passing.{Outflow, Takes}
use Rattle.m3_program.specs.Rounds.{Goes, HasPlayed, Stopped}
use Rattle.m3_program.specs.Scripts.{Generates, PlayedTo, reply_of, turns_of_parts}
use Rattle.m3_program.specs.Streams.{Opening, Stage, opening_at, stage}
use Rattle.m3_program.specs.declared.status.Status.{Status}
use Rattle.m3_program.specs.declared.status.Status.TheVariants as status
use Rattle.m3_program.proofs.CloseLemmas.{GivesBack, causes_over, kept_over, leaves_over, unopened_stands}
use Rattle.m3_program.proofs.FreshLemmas.{is_found}
use Rattle.m3_program.proofs.PromiseLemmas.{Closes}
use Rattle.m3_program.proofs.ScriptLemmas.{stopped_fewer, stops_here}
use Rattle.m3_program.proofs.WrittenLemmas.{appends_nothing}

-- ---- how it ends

-- what a run of a script tells at its end, before its disks are given back
abbrev pub Tells : {D : Type 0} {G : Ghosts D} → (D → DiskState) → Opening D G → ℕ → Stage D G → Status → Outflow → Outflow → Type 0
Tells state first number now s sink0 sink = (text : List ℕ) × Takes sink0 sink text × HasPlayed state first number s text now

-- it came to the end of the script
pub played_whole : {D : Type 0} {G : Ghosts D} (state : D → DiskState) (first : Opening D G) (number : ℕ) (now : Stage D G) (summary : Summary) (s : Status) (text : List ℕ) → (goes : Goes state first number [] summary now)
    → (s ≡ status.DiskFault → ⊥) → PlayedTo s goes.parts [] None text → HasPlayed state first number s text now
played_whole state first number now summary s text goes never played = record { stopped = stops_here state first number goes.parts [] now (s ≡ status.DiskFault) never goes.within; played_to = played }

-- its line was written
pub tells_all : {D : Type 0} {G : Ghosts D} (state : D → DiskState) (first : Opening D G) (number : ℕ) (now : Stage D G) (summary : Summary) (line bytes : List ℕ) → Goes state first number [] summary now
    → ((replies : List Reply) → Counts replies summary → line ≡ summary_line replies) → bytes ≡ line
    → (sink sink2 : Outflow) → Takes sink sink2 bytes → Tells state first number now status.Done sink sink2
tells_all state first number now summary line bytes goes spells same sink sink2 added =
    (bytes, added, played_whole state first number now summary status.Done bytes goes (λ is. (let clash : status.Done ≡ status.DiskFault = is in cc)) (refl, same ∙ spells (map reply_of goes.parts) goes.counts))

-- a front of its line was written
pub tells_front : {D : Type 0} {G : Ghosts D} (state : D → DiskState) (first : Opening D G) (number : ℕ) (now : Stage D G) (summary : Summary) (line bytes : List ℕ) (n : ℕ) (s : Status) → Goes state first number [] summary now
    → ((replies : List Reply) → Counts replies summary → line ≡ summary_line replies) → bytes ≡ line → s ≡ status.WriteFault
    → (sink sink2 : Outflow) → Takes sink sink2 (take n bytes) → Tells state first number now s sink sink2
tells_front state first number now summary line bytes n s goes spells same ended sink sink2 added =
    let whole : summary_line (map reply_of goes.parts) ≡ take n bytes ++ drop n bytes = sym (spells (map reply_of goes.parts) goes.counts) ∙ sym same ∙ sym (take-append-drop n bytes) in
    subst (λ t. Tells state first number now t sink sink2) (sym ended)
    (take n bytes, added, played_whole state first number now summary status.WriteFault (take n bytes) goes (λ is. (let clash : status.WriteFault ≡ status.DiskFault = is in cc)) (refl, drop n bytes, whole))

-- memory was wanted for its line
pub tells_none : {D : Type 0} {G : Ghosts D} (state : D → DiskState) (first : Opening D G) (number : ℕ) (now : Stage D G) (summary : Summary) → Goes state first number [] summary now
    → (sink : Outflow) → Tells state first number now status.Memory sink sink
tells_none state first number now summary goes sink = ([], appends_nothing sink, played_whole state first number now summary status.Memory [] goes (λ is. (let clash : status.Memory ≡ status.DiskFault = is in cc)) refl)

-- it couldn't go on
pub tells_lost : {D : Type 0} {G : Ghosts D} (state : D → DiskState) (first : Opening D G) (number : ℕ) (now : Stage D G) (why : Lost) → Stopped state first number now (why ≡ lost.Meta)
    → (sink : Outflow) → Tells state first number now (ended_for why) sink sink
tells_lost state first number now lost.Meta stopped sink =
    ([], appends_nothing sink, record { stopped = stopped_fewer state first number now (lost.Meta ≡ lost.Meta) (status.DiskFault ≡ status.DiskFault) stopped (λ ended. refl); played_to = (refl, stopped.was_taken refl) })
tells_lost state first number now lost.Memory stopped sink =
    ([], appends_nothing sink, record { stopped = stopped_fewer state first number now (lost.Memory ≡ lost.Meta) (status.Memory ≡ status.DiskFault) stopped (λ ended. (let clash : status.Memory ≡ status.DiskFault = ended in cc)); played_to = refl })

-- ---- what it promises

-- the words couldn't be read, or the cluster wasn't opened, and nothing was served
pub generated_unopened : {D : Type 0} (state : D → DiskState) (first now : Depot D) (number : ℕ) (s : Status) → IsUnopened state first now s → (sink : Outflow) → (text : List ℕ) × Takes sink sink text × Generates state first now number s text
generated_unopened state first now number s unopened sink = ([], appends_nothing sink, Unopened unopened (refl, unopened_stands state first now s unopened))

-- the disks are given back
pub generated_closes : {D : Type 0} {G : Ghosts D} (state : D → DiskState) → ((d : D) → IsLawfulDisk (state d)) → (before now : Depot D) (c : SavedCluster D G) (opened : IsOpened state before now c) (number : ℕ) (mid : Stage D G) (last : Depot D) (s : Status)
    → Closes state before opened.mid mid last → GivesBack state mid last
    → (sink0 sink : Outflow) → Tells state (opening_at (stage c now)) number mid s sink0 sink
    → (text : List ℕ) × Takes sink0 sink text × Generates state before last number s text
generated_closes state lawful before now c opened number mid last s closes back sink0 sink (text, is, played) =
    let stopped = played.stopped in
    let turns = turns_of_parts stopped.parts in (
      text,
      is,
      Opened (state_of c.cluster) (record {
        found = is_found state before now c opened;
        course = record { parts = stopped.parts; later = stopped.later; unanswered = stopped.unanswered; of_script = stopped.of_script; taken = stopped.taken; each = stopped.each };
        played_to = played.played_to;
        meta = record { disk = mid.saved.meta; back = back.meta; leaves = stopped.served.leaves };
        joined = stopped.served.joined;
        kept = kept_over state lawful before now c opened mid turns stopped.unanswered stopped.served;
        causes = causes_over state lawful before now c opened mid turns stopped.unanswered stopped.served last closes;
        leaves = leaves_over state lawful before now c opened mid turns stopped.unanswered stopped.served last back;
      }),
    )
