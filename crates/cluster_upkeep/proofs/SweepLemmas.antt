-- Replicas asked one after the other, and what that leaves.
use Rattle.std.proofs.Common.{◌≡◌, ◌<◌, ◌≤◌, ◌+◌, ◌*◌, ℕ, zero, suc, List, [], ◌∷◌, ◌++◌, map, length, take, get_or, refl, sym, ap, ◌∙◌, subst, inl, inr, arith, length-append}
use Rattle.std.specs.Prelude.{◌⊎◌, ◌≢◌, None, Result, Ok, Err, IsErrOf}
use Rattle.std.specs.FinMap as finite
use Rattle.std.specs.List.{Any, flat_map}
use Rattle.std.proofs.lemmas.List.{append-nil, length-map, map-append, take_more}
use Rattle.std.proofs.lemmas.List.Elements.{filter_map-append}
use Rattle.m3_model.specs.Members.{IsIn}
use Rattle.m3_model.specs.declared.answer.Answer.{Answer}
use Rattle.m3_model.specs.declared.answer.Answer.TheVariants as answer
use Rattle.m3_model.specs.declared.answer.StatusLine.{StatusLine}
use Rattle.m3_model.specs.declared.limits.TheConstants.{MOST_NODES, MOST_SHARDS}
use Rattle.m3_model.specs.declared.placement.Assignment.{Assignment}
use Rattle.m3_model.specs.declared.placement.Placement.{Placement}
use Rattle.m3_model.specs.declared.reason.Damage.{Damage}
use Rattle.m3_model.specs.declared.reason.Reason.{Reason}
use Rattle.m3_model.specs.declared.reason.Reason.TheVariants as reason
use Rattle.m3_model.specs.declared.replica.Report.{Report}
use Rattle.m3_model.proofs.MemberLemmas.{IsIn-append_cases, map-IsIn}
use Rattle.m3_outside.specs.DiskState.{DiskState}
use Rattle.m3_outside.specs.declared.disk.Disk.{Ghosts}
use Rattle.placement_core.specs.Lawful.{IsLawful}
use Rattle.placement_core.specs.Shards.{nodes_of, shard_at}
use Rattle.cluster_core.specs.declared.event.Event.{Event}
use Rattle.cluster_core.specs.declared.event.Event.TheVariants as event
use Rattle.cluster_core.specs.declared.event.StepCall.{StepCall}
use Rattle.cluster_core.specs.declared.event.StepCall.TheVariants as call
use Rattle.cluster_core.specs.declared.event.StepReply.TheVariants as reply
use Rattle.node_calls.specs.replica_machine.Damages.{IsFileDamage}
use Rattle.node_calls.specs.replica_machine.Steps.{reply_by}
use Rattle.node_calls.specs.replica_exchange.MachineCalls.{HasRoom}
use Rattle.node_calls.specs.replica_exchange.declared.slot.Slot.{Slot}
use Rattle.node_calls.specs.replica_calls.Calls.{Tracked}
use Rattle.node_calls.specs.session_net.Messages.{exchange}
use Rattle.node_calls.specs.session_net.Runs.{Ran, slot_at}
use Rattle.node_calls.proofs.session_net_proofs.ReadyLemmas.{AreQuiet, IsQuiet, room_after}
use Rattle.node_calls.proofs.session_net_proofs.RunLemmas.{ran_nothing, ran_then}
use Rattle.node_calls.specs.Members.{Members}
use Rattle.node_calls.proofs.ListLemmas.{flat_long, flat_push}
use Rattle.node_calls.proofs.RunLemmas.{quiet_exchange, quiet_flat}
use Rattle.node_calls.specs.transcripts.Sweeps.{AreAllMembers, Entry, done_in, failed_in, slot_of}
use Rattle.cluster_upkeep.specs.Findings.{entry_at}
use Rattle.cluster_upkeep.specs.Rows.{AreRowsBelow, slot_in}
use Rattle.cluster_upkeep.specs.Status.{EndsReport, line_of, reported, row_of, told_at}
use Rattle.cluster_upkeep.specs.Sweeps.{AreOfFiles, EndsSweep, HasSaid, asked_at}
use Rattle.cluster_upkeep.specs.Upkeep.{HasSwept, HasTold, IsSwept}
use Rattle.cluster_upkeep.specs.declared.rows.Row.{Row}
use Rattle.cluster_upkeep.proofs.RowLemmas.{all_members, row_below, row_state, rows_few}

-- ---- what is noted

pub done_ok : (entries : List Entry) (slot : Slot) (n : ℕ) → done_in (entries ++ entry_at slot (Ok n) ∷ []) ≡ done_in entries ++ (slot.node, slot.shard, n) ∷ []
done_ok entries slot n = filter_map-append _ entries (entry_at slot (Ok n) ∷ [])

pub done_err : (entries : List Entry) (slot : Slot) (why : Reason) → done_in (entries ++ entry_at slot (Err why) ∷ []) ≡ done_in entries
done_err entries slot why = filter_map-append _ entries (entry_at slot (Err why) ∷ []) ∙ append-nil (done_in entries)

pub failed_ok : (entries : List Entry) (slot : Slot) (n : ℕ) → failed_in (entries ++ entry_at slot (Ok n) ∷ []) ≡ failed_in entries
failed_ok entries slot n = filter_map-append _ entries (entry_at slot (Ok n) ∷ []) ∙ append-nil (failed_in entries)

pub failed_err : (entries : List Entry) (slot : Slot) (why : Reason) → failed_in (entries ++ entry_at slot (Err why) ∷ []) ≡ failed_in entries ++ (slot.node, slot.shard, why) ∷ []
failed_err entries slot why = filter_map-append _ entries (entry_at slot (Err why) ∷ [])

-- ---- one row after the other

length_take : (xs : List Row) (k : ℕ) → k < length xs → length (take k xs) ≡ k
length_take [] k lt = absurd (omega (arith, lt))
length_take (y ∷ xs) zero lt = refl
length_take (y ∷ xs) (suc k) lt = ap suc (length_take xs k (omega (arith, lt)))

-- one more row was passed
pub slots_more : (rows : List Row) (i : ℕ) (d : Row) (entries : List Entry) (said : Result ℕ Reason) → i < length rows → map slot_of entries ≡ map slot_in (take i rows)
    → map slot_of (entries ++ entry_at (get_or rows i d).slot said ∷ []) ≡ map slot_in (take (i + 1) rows)
slots_more rows i d entries said low same =
    map-append slot_of entries (entry_at (get_or rows i d).slot said ∷ []) ∙ ap (λ xs. xs ++ slot_in (get_or rows i d) ∷ []) same
    ∙ sym (ap (map slot_in) (take_more rows i d low) ∙ map-append slot_in (take i rows) (get_or rows i d ∷ []))

module _ {D : Type 0} (state : D → DiskState) (c : StepCall) (rows : List Row) (i : ℕ) (low : i < length rows) (entries : List Entry) (same : map slot_of entries ≡ map slot_in (take i rows)) (old mid : Tracked D)
    (ran : Ran state old (flat_map (asked_at c) entries) mid) where
  as_many : length entries ≡ length (take i rows)
  as_many = sym (length-map entries slot_of) ∙ ap length same ∙ length-map (take i rows) slot_in

  -- there is room for one more
  pub room_here : HasRoom (2 * length rows) old.events → HasRoom 2 mid.events
  room_here room =
      let long = flat_long (asked_at c) (λ e. refl) entries in
      let many = as_many in
      let front = length_take rows i low in
      room_after state old mid (flat_map (asked_at c) entries) (2 * length rows) 2 ran room (omega (arith, long, many, front, low))

  module _ (d : Row) (said : Result ℕ Reason) (new : Tracked D) (h : HasSaid state (get_or rows i d).slot c said mid new) where
    abbrev next : Entry
    next = entry_at (get_or rows i d).slot said

    pub ran_more : Ran state old (flat_map (asked_at c) (entries ++ next ∷ [])) new
    ran_more = subst (λ es. Ran state old es new) (sym (flat_push (asked_at c) entries next)) (ran_then state (flat_map (asked_at c) entries) (asked_at c next) old mid new ran h.ran)

    pub files_more : AreOfFiles entries → AreOfFiles (entries ++ next ∷ [])
    files_more files e m = elim (IsIn-append_cases entries (next ∷ []) e m) as (λ _. (damage : Damage) → IsErrOf e.said (reason.Corrupt damage) → IsFileDamage damage) [
      | inl old ↦ files e old
      | inr new ↦ elim new as (λ _. (damage : Damage) → IsErrOf e.said (reason.Corrupt damage) → IsFileDamage damage) [
        | inl is ↦ subst (λ (x : Entry). (damage : Damage) → IsErrOf x.said (reason.Corrupt damage) → IsFileDamage damage) is h.form
        | inr none ↦ absurd none
      ]
    ]

-- ---- reports

-- one more row's replica reported
pub rows_more : (rows : List Row) (i : ℕ) (d : Row) (lines : List StatusLine) (report : Report) → i < length rows → map row_of lines ≡ take i rows → map row_of (lines ++ line_of (get_or rows i d) report ∷ []) ≡ take (i + 1) rows
rows_more rows i d lines report low same =
    map-append row_of lines (line_of (get_or rows i d) report ∷ []) ∙ ap (λ xs. xs ++ get_or rows i d ∷ []) same ∙ sym (take_more rows i d low)

pub ran_report : {D : Type 0} (state : D → DiskState) (row : Row) (lines : List StatusLine) (report : Report) (old mid new : Tracked D) → Ran state old (flat_map told_at lines) mid → Ran state mid (reported row.slot report) new
    → Ran state old (flat_map told_at (lines ++ line_of row report ∷ [])) new
ran_report state row lines report old mid new ran here =
    subst (λ es. Ran state old es new) (sym (flat_push told_at lines (line_of row report))) (ran_then state (flat_map told_at lines) (reported row.slot report) old mid new ran here)

pub told_long : (lines : List StatusLine) → length (flat_map told_at lines) ≡ length lines
told_long [] = refl
told_long (line ∷ lines) = ap suc (told_long lines)

-- there is room for one more
pub room_left : {D : Type 0} (state : D → DiskState) (rows : List Row) (i : ℕ) (lines : List StatusLine) (old mid : Tracked D) → i < length rows → map row_of lines ≡ take i rows → Ran state old (flat_map told_at lines) mid
    → HasRoom (length rows) old.events → HasRoom 1 mid.events
room_left state rows i lines old mid low same ran room =
    let many : length lines ≡ length (take i rows) = sym (length-map lines row_of) ∙ ap length same in
    let front = length_take rows i low in
    let long = told_long lines in
    room_after state old mid (flat_map told_at lines) (length rows) 1 ran room (omega (arith, many, front, long, low))

-- ---- answers

pub swept_answer : {D : Type 0} {G : Ghosts D} (state : D → DiskState) (c : StepCall) (old : Members D G) (done : List (ℕ × ℕ × ℕ)) (failed : List (ℕ × ℕ × Reason)) (new : Members D G) (answered : Answer) → answered ≡ answer.Swept done failed → HasSwept state c old done failed new
    → IsSwept state c old answered new
swept_answer state c old done failed new answered is h = subst (λ a. IsSwept state c old a new) (sym is) h

pub told_answer : {D : Type 0} {G : Ghosts D} (state : D → DiskState) (old : Members D G) (now : ℕ) (lines : List StatusLine) (version : ℕ) (new : Members D G) (listed : List StatusLine) → listed ≡ lines → HasTold state old now lines version new → HasTold state old now listed version new
told_answer state old now lines version new listed is h = subst (λ ls. HasTold state old now ls version new) (sym is) h

-- ---- what all of them leave

pub asked_quiet : (c : StepCall) (entries : List Entry) → AreQuiet (flat_map (asked_at c) entries)
asked_quiet c entries = quiet_flat (asked_at c) (λ e. quiet_exchange e.node e.shard c (reply_by (λ n. reply.Count n) e.said)) entries

quiet_told : (line : StatusLine) → AreQuiet (told_at line)
quiet_told line e (inl is) = subst IsQuiet is tt
quiet_told line e (inr none) = absurd none

pub told_quiet : (lines : List StatusLine) → AreQuiet (flat_map told_at lines)
told_quiet lines = quiet_flat told_at quiet_told lines

module _ (place : Placement) (lawful : IsLawful place) (rows : List Row) (are : AreRowsBelow place (length place.shards) rows) where
  -- the entries of a sweep over these rows
  pub entries_members : (entries : List Entry) → map slot_of entries ≡ map slot_in rows → AreAllMembers place (map slot_of entries)
  entries_members entries same = subst (AreAllMembers place) (sym same) (all_members place lawful rows are)

  pub entries_few : (entries : List Entry) → map slot_of entries ≡ map slot_in rows → length entries ≤ MOST_NODES * MOST_SHARDS
  entries_few entries same =
      let long : length entries ≡ length rows = sym (length-map entries slot_of) ∙ ap length same ∙ length-map rows slot_in in
      let few = rows_few place lawful rows are in
      omega (arith, long, few)

  -- and the lines of a status
  pub lines_members : (lines : List StatusLine) → map row_of lines ≡ rows → AreAllMembers place (map (λ line. (line.node, line.shard)) lines)
  lines_members lines same = subst (AreAllMembers place) (ap (map slot_in) (sym same) ∙ slots_of lines) (all_members place lawful rows are)
    where
      slots_of : (lines : List StatusLine) → map slot_in (map row_of lines) ≡ map (λ line. (line.node, line.shard)) lines
      slots_of [] = refl
      slots_of (line ∷ lines) = ap (λ xs. (line.node, line.shard) ∷ xs) (slots_of lines)

  pub lines_few : (lines : List StatusLine) → map row_of lines ≡ rows → length lines ≤ MOST_NODES * MOST_SHARDS
  lines_few lines same =
      let long : length lines ≡ length rows = sym (length-map lines row_of) ∙ ap length same in
      let few = rows_few place lawful rows are in
      omega (arith, long, few)

  pub lines_states : (lines : List StatusLine) → map row_of lines ≡ rows → (line : StatusLine) → IsIn lines line → Any (λ (a : Assignment). (a.node ≡ line.node) × (a.state ≡ line.state)) (shard_at place line.shard)
  lines_states lines same line m = row_state place (length place.shards) rows are (row_of line) (subst (λ rs. IsIn rs (row_of line)) same (map-IsIn row_of lines line m))

  -- rows for which there is no room
  pub slots_few : length (map slot_in rows) ≤ MOST_NODES * MOST_SHARDS
  slots_few = let long = length-map rows slot_in in let few = rows_few place lawful rows are in omega (arith, long, few)

  -- each row has its replica
  pub row_member : (r : Row) → IsIn rows r → IsIn (nodes_of (shard_at place r.slot.shard)) r.slot.node
  row_member r m =
      let row = row_below place (length place.shards) rows are r m in
      subst (IsIn (nodes_of (shard_at place r.slot.shard))) row.node_is (map-IsIn (λ (a : Assignment). a.node) (shard_at place r.slot.shard) row.assignment row.among)
