-- A run of a script goes on by one request.
use Rattle.std.proofs.Common.{◌≡◌, ℕ, List, [], ◌∷◌, ◌++◌, map, refl, sym, ap, ◌∙◌, subst, inl, inr, append_assoc, append-nil}
use Rattle.std.specs.Prelude.{Option, Some, None, IfSome, Result, Ok, Err, IfOk, OnOk, OnErr}
use Rattle.std.proofs.lemmas.List.{map-append}
use Rattle.std.proofs.lemmas.List.Concat.{flat_map-append}
use Rattle.m3_model.specs.Limits.{KeepsLimits}
use Rattle.m3_model.specs.Members.{IsIn}
use Rattle.m3_model.proofs.MemberLemmas.{IsIn-append_cases, IsIn-append_right}
use Rattle.m3_model.specs.declared.answer.Answer.TheVariants as answer
use Rattle.m3_model.specs.declared.turn.Reply.{Reply}
use Rattle.m3_model.specs.declared.turn.Reply.TheVariants as reply
use Rattle.m3_model.specs.declared.turn.Request.{Request}
use Rattle.m3_model.specs.declared.turn.Turn.{Turn}
use Rattle.m3_outside.specs.DiskState.{DiskState}
use Rattle.m3_outside.specs.declared.disk.Disk.{Ghosts}
use Rattle.transcripts.specs.Placements.{placement_after}
use Rattle.transcripts.specs.Record.{IsAnsweredBy, inner_turns}
use Rattle.served_acts.specs.NotYet.{IsServed}
use Rattle.load_gen.specs.Script.{script}
use Rattle.load_gen.specs.Summaries.{Counts}
use Rattle.load_gen.specs.declared.summary.Summary.{Summary}
use Rattle.load_gen.proofs.LimitLemmas.{script_keeps}
use Rattle.saved_cluster.specs.served_cluster.Owned.{place_of}
use Rattle.saved_cluster.specs.Saved.{MayServeSaved}
use Rattle.saved_cluster.specs.declared.lost.Lost.{Lost}
use Rattle.m3_program.specs.Rounds.{Continues, Goes, IsWithin, Loses, Stopped}
use Rattle.m3_program.specs.Scripts.{AreParts, Deferred, IsTaken, ScriptPart, IsPart, Served, reply_of, request_of, turns_of_part, turns_of_parts}
use Rattle.m3_program.specs.Streams.{IsFresh, Opening, Stage, StandsAfter, opening_at}
use Rattle.m3_program.proofs.ExchangeLemmas.{Follows}
use Rattle.m3_program.proofs.PromiseLemmas.{Serving, begins_so, lost_so, served_so, stood}

-- ---- one request

turns_of-push : (parts : List ScriptPart) (part : ScriptPart) → turns_of_parts (parts ++ part ∷ []) ≡ turns_of_parts parts ++ turns_of_part part
turns_of-push parts part = flat_map-append turns_of_part parts (part ∷ []) ∙ ap (λ ts. turns_of_parts parts ++ ts) (append-nil (turns_of_part part))

-- nothing came yet
pub no_parts : AreParts []
no_parts part i = absurd i

-- one more part after the others
parts_push : (parts : List ScriptPart) (part : ScriptPart) → AreParts parts → IsPart part → AreParts (parts ++ part ∷ [])
parts_push parts part each last x i = elim (IsIn-append_cases parts (part ∷ []) x i) as (λ _. IsPart x) [
  | inl there ↦ each x there
  | inr here ↦ elim here as (λ _. IsPart x) [ inl same ↦ subst IsPart same last | inr none ↦ absurd none ]
]

-- it is put off
pub defers : {D : Type 0} {G : Ghosts D} (state : D → DiskState) (now : Stage D G) (r : Request) → ¬ IsServed r → Continues state now r (reply.One answer.Later) now
defers state now r due = λ first parts g.
    let same : turns_of_parts parts ≡ turns_of_parts (parts ++ Deferred r ∷ []) = sym (turns_of-push parts (Deferred r) ∙ append-nil (turns_of_parts parts)) in
    (Deferred r, refl, refl, record { each = parts_push parts (Deferred r) g.each due; stands = subst (λ ts. StandsAfter state first ts now) same g.stands })

-- it is served
pub serves : {D : Type 0} {G : Ghosts D} (state : D → DiskState) (old new : Stage D G) (r : Request) (answered : Reply) → IsAnsweredBy r answered → Follows state old (record { request = r; reply = answered }) new → Continues state old r answered new
serves state old new r answered is goes = λ first parts g.
    let turn : Turn = record { request = r; reply = answered } in
    let same : turns_of_parts parts ++ turn ∷ [] ≡ turns_of_parts (parts ++ Served turn ∷ []) = sym (turns_of-push parts (Served turn)) in
    (Served turn, refl, refl, record { each = parts_push parts (Served turn) g.each is; stands = subst (λ ts. StandsAfter state first ts new) same (goes first (turns_of_parts parts) g.stands) })

-- whatever came of it: it was served, and got a reply
pub serves_so : {D : Type 0} {G : Ghosts D} (state : D → DiskState) (old new : Stage D G) (r : Request) (answered : Result Reply Lost) → IfOk answered (IsAnsweredBy r) → Serving state old r answered new
    → IfOk answered (λ said. placement_after (place_of old.saved.cluster) (inner_turns (record { request = r; reply = said } ∷ [])) ≡ place_of new.saved.cluster) → OnOk answered (MayServeSaved state new.saved new.depot.held)
    → IfOk answered (λ reply. Continues state old r reply new)
serves_so state old new r (Ok said) is s stands may = serves state old new r said is (λ first turns was. served_so state old new first turns r said was s stands may.saved)
serves_so state old new r (Err e) is s stands may = tt

-- or it got none, and may have been served
pub loses_so : {D : Type 0} {G : Ghosts D} (state : D → DiskState) (old new : Stage D G) (r : Request) (answered : Result Reply Lost) → Serving state old r answered new → OnErr answered (Loses state old r new)
loses_so state old new r (Ok said) s = tt
loses_so state old new r (Err e) s = λ first parts g. lost_so state old new first (turns_of_parts parts) r (Err e) g.stands s

-- ---- what a call answered

pub made : {A : Type 0} (o : Option A) (x : A) (P : A → Type 0) → IfSome o P → o ≡ Some x → P x
made None x P h e = cc
made (Some y) x P h e = let same : y ≡ x = cc in subst P same h

-- ---- the script

pub goes_begins : {D : Type 0} {G : Ghosts D} (state : D → DiskState) (number : ℕ) (later : List Request) (summary : Summary) (now : Stage D G) → IsFresh state now → later ≡ script number → Counts [] summary
    → Goes state (opening_at now) number later summary now
goes_begins state number later summary now fresh all counts = record {
  parts = [];
  within = record { of_script = sym all; going = record { each = no_parts; stands = begins_so state now fresh } };
  counts = counts;
}

-- what is left is of the script, and keeps to the limits
pub next_keeps : {D : Type 0} {G : Ghosts D} (state : D → DiskState) (first : Opening D G) (number : ℕ) (left later : List Request) (r : Request) (summary : Summary) (now : Stage D G) → Goes state first number left summary now
    → left ≡ r ∷ later → KeepsLimits r
next_keeps state first number left later r summary now goes is =
    script_keeps number r (subst (λ rs. IsIn rs r) (sym (goes.within.of_script ∙ ap (λ rs. map request_of goes.parts ++ rs) is)) (IsIn-append_right (map request_of goes.parts) (r ∷ later) r (inl refl)))

-- one request came between
entries_more : (parts : List ScriptPart) (part : ScriptPart) (r : Request) (left later : List Request) (all : List Request) → all ≡ map request_of parts ++ left → left ≡ r ∷ later → request_of part ≡ r
    → all ≡ map request_of (parts ++ part ∷ []) ++ later
entries_more parts part r left later all was is same =
    was ∙ ap (λ rs. map request_of parts ++ rs) (is ∙ ap (λ q. q ∷ later) (sym same)) ∙ sym (append_assoc (map request_of parts) (request_of part ∷ []) later)
    ∙ ap (λ rs. rs ++ later) (sym (map-append request_of parts (part ∷ [])))

within_more : {D : Type 0} {G : Ghosts D} (state : D → DiskState) (first : Opening D G) (number : ℕ) (parts : List ScriptPart) (left later : List Request) (r : Request) (answered : Reply) (old new : Stage D G)
    → IsWithin state first number parts left old → left ≡ r ∷ later → Continues state old r answered new → (part : ScriptPart) × (reply_of part ≡ answered) × IsWithin state first number (parts ++ part ∷ []) later new
within_more state first number parts left later r answered old new was is continues =
    let (part, same, replied, going) = continues first parts was.going in
    (part, replied, record { of_script = entries_more parts part r left later (script number) was.of_script is same; going = going })

pub goes_more : {D : Type 0} {G : Ghosts D} (state : D → DiskState) (first : Opening D G) (number : ℕ) (left later : List Request) (r : Request) (answered : Reply) (summary next : Summary) (old new : Stage D G)
    → Goes state first number left summary old → left ≡ r ∷ later → Continues state old r answered new → ((replies : List Reply) → Counts replies summary → Counts (replies ++ answered ∷ []) next)
    → Goes state first number later next new
goes_more state first number left later r answered summary next old new goes is continues counted =
    let (part, replied, within) = within_more state first number goes.parts left later r answered old new goes.within is continues in
    record {
      parts = goes.parts ++ part ∷ [];
      within = within;
      counts = subst (λ rs. Counts rs next) (ap (λ q. map reply_of goes.parts ++ q ∷ []) (sym replied) ∙ sym (map-append reply_of goes.parts (part ∷ []))) (counted (map reply_of goes.parts) goes.counts);
    }

-- it stops before this request, or behind it
abbrev pub stops_here : {D : Type 0} {G : Ghosts D} (state : D → DiskState) (first : Opening D G) (number : ℕ) (parts : List ScriptPart) (later : List Request) (now : Stage D G) (Failed : Type 0) → (Failed → ⊥) → IsWithin state first number parts later now → Stopped state first number now Failed
stops_here state first number parts later now Failed never w = record {
  parts = parts;
  later = later;
  unanswered = None;
  of_script = w.of_script;
  taken = tt;
  each = w.going.each;
  served = stood state first now (turns_of_parts parts) None w.going.stands;
  was_taken = λ failed. absurd (never failed);
}

-- it failed in fewer cases
abbrev pub stopped_fewer : {D : Type 0} {G : Ghosts D} (state : D → DiskState) (first : Opening D G) (number : ℕ) (now : Stage D G) (Failed Fewer : Type 0) → Stopped state first number now Failed → (Fewer → Failed) → Stopped state first number now Fewer
stopped_fewer state first number now Failed Fewer s less =
    record { parts = s.parts; later = s.later; unanswered = s.unanswered; of_script = s.of_script; taken = s.taken; each = s.each; served = s.served; was_taken = λ fewer. s.was_taken (less fewer) }

pub breaks_behind : {D : Type 0} {G : Ghosts D} (state : D → DiskState) (first : Opening D G) (number : ℕ) (left later : List Request) (r : Request) (answered : Reply) (summary : Summary) (old new : Stage D G)
    → (Failed : Type 0) → (Failed → ⊥) → Goes state first number left summary old → left ≡ r ∷ later → Continues state old r answered new → Stopped state first number new Failed
breaks_behind state first number left later r answered summary old new Failed never goes is continues =
    let (part, replied, within) = within_more state first number goes.parts left later r answered old new goes.within is continues in
    stops_here state first number (goes.parts ++ part ∷ []) later new Failed never within

-- the next request is the one that was taken
next_taken : (r : Request) (left later : List Request) → left ≡ r ∷ later → IsTaken (Some r) left
next_taken r [] later is = cc
next_taken r (x ∷ left) later is = cc

-- it stops at this request, which got no reply
pub breaks_at : {D : Type 0} {G : Ghosts D} (state : D → DiskState) (first : Opening D G) (number : ℕ) (left later : List Request) (r : Request) (summary : Summary) (old new : Stage D G)
    → (Failed : Type 0) → Goes state first number left summary old → left ≡ r ∷ later → Loses state old r new → Stopped state first number new Failed
breaks_at state first number left later r summary old new Failed goes is lost = record {
  parts = goes.parts;
  later = left;
  unanswered = Some r;
  of_script = goes.within.of_script;
  taken = next_taken r left later is;
  each = goes.within.going.each;
  served = lost first goes.parts goes.within.going;
  was_taken = λ failed. refl;
}
