-- Lines by which nothing came to the list: the refusal that is due was answered, or there was no room.
use Rattle.std.proofs.Common.{◌≡◌, ℕ, ◌*◌, List, [], ◌++◌, length, map, refl, sym, subst, inl, inr, arith, Bool, true, false}
use Rattle.std.specs.Prelude.{Option, Some, None, option_map, not, ◌&&◌, nat_le}
use Rattle.std.specs.Option.{option_or}
use Rattle.std.proofs.lemmas.List.{append-nil}
use Rattle.std.proofs.lemmas.Option.{same_Some}
use Rattle.m3_model.specs.declared.act.Act.{Act}
use Rattle.m3_model.specs.declared.act.Act.TheVariants as act
use Rattle.m3_model.specs.declared.answer.Answer.{Answer}
use Rattle.m3_model.specs.declared.answer.Answer.TheVariants as answer
use Rattle.m3_model.specs.declared.limits.TheConstants.{MOST_LATE_WRITES, MOST_NODES, MOST_VERSIONS}
use Rattle.m3_model.specs.declared.placement.Placement.{Placement}
use Rattle.m3_model.specs.declared.rules.MetaState.{MetaState}
use Rattle.m3_model.specs.declared.rules.Rules.{Rules}
use Rattle.m3_model.specs.declared.rules.Space.{Space}
use Rattle.m3_model.specs.declared.turn.Turn.{Turn}
use Rattle.m3_outside.specs.DiskState.{DiskState}
use Rattle.m3_outside.specs.declared.disk.Disk.{Ghosts}
use Rattle.cluster_core.specs.declared.event.Event.{Event}
use Rattle.node_calls.specs.session_net.Writes.{most_added, shard_of_point}
use Rattle.node_calls.specs.session_net.declared.net.Net.{Net}
use Rattle.told_runs.specs.told_by.Hears.{InStretch}
use Rattle.told_runs.specs.told_by.Lines.{PlainLine, position_after}
use Rattle.told_runs.specs.Answers.{HearsOf, IsAnswered, IsDecidedBy, MayLackRoom}
use Rattle.transcripts.specs.Caused.{refusal_after}
use Rattle.transcripts.specs.Deliveries.{LateMessage}
use Rattle.transcripts.specs.Fates.{is_stopped}
use Rattle.transcripts.specs.Placements.{placement_after, placements, start_placement}
use Rattle.transcripts.specs.Record.{TurnPosition, inner_turns}
use Rattle.transcripts.specs.Rules.{rules_after, start_rules}
use Rattle.told_runs.specs.placement_acts.Acts.{answer_if, is_known, is_step_act, versions_due}
use Rattle.transcripts.specs.Refusals.{is_out_of_order, kept_versions, limit_reached, lowered_moment, missing_name, names_reached, refusal_by, wrong_state}
use Rattle.line_tracks.proofs.calls.DeliverLemmas.{idle_line, nothing_tells}
use Rattle.line_tracks.proofs.calls.IdleLemmas.{IsIdle}
use Rattle.line_tracks.proofs.calls.ServeLemmas.{delivered_so, few_members, may_lack, serves_so}
use Rattle.line_tracks.specs.calls.Laws.{LeavesServed}
use Rattle.line_tracks.specs.acts.Due.{IsDueNext}
use Rattle.line_tracks.specs.acts.Settings.{FullDeliveryTells, FullWriteTells, NoRoomTells, RefusedTells}
use Rattle.line_tracks.specs.acts.Quiet.{DeliversNone, SetsNone}

-- ---- which answers are refusals that are due

-- of two refusals, the first that is due
or_kind : (x y : Option Answer) (b : Answer) → ((r : Answer) → x ≡ Some r → IsIdle r) → ((r : Answer) → y ≡ Some r → IsIdle r) → option_or x y ≡ Some b → IsIdle b
or_kind None y b first second e = second b e
or_kind (Some x) y b first second e = first b e

if_kind : (t : Bool) (x b : Answer) → IsIdle x → answer_if t x ≡ Some b → IsIdle b
if_kind true x b is e = subst IsIdle (same_Some x b e) is
if_kind false x b is e = absurd (let bad : None ≡ Some b = e in cc)

unknown_kind : (o : Option (List ℕ)) (b : Answer) → option_map (λ name. answer.Unknown name) o ≡ Some b → IsIdle b
unknown_kind None b e = absurd (let bad : None ≡ Some b = e in cc)
unknown_kind (Some name) b e = if_kind true (answer.Unknown name) b tt e

names_kind : (place : Option Placement) (name : List ℕ) (b : Answer) → names_reached place name ≡ Some b → IsIdle b
names_kind None name b e = absurd (let bad : None ≡ Some b = e in cc)
names_kind (Some place) name b e = if_kind (not (is_known name place) && nat_le MOST_NODES (length place.instances)) (answer.Limit MOST_NODES) b tt e

versions_kind : (kept : ℕ) (a : Act) (b : Answer) → versions_due kept a ≡ Some b → IsIdle b
versions_kind kept a b e = if_kind (is_step_act a && nat_le MOST_VERSIONS kept) (answer.Limit MOST_VERSIONS) b tt e

limit_kind : (place : Option Placement) (versions : List ℕ) (spaces : List Space) (a : Act) (b : Answer) → limit_reached place versions spaces a ≡ Some b → IsIdle b
limit_kind place versions spaces (act.Namespace name block past future retention) b e = if_kind _ _ b tt e
limit_kind place versions spaces (act.Add node group) b e =
    let kept = kept_versions place versions in
    or_kind (names_reached place node) (versions_due kept (act.Add node group)) b (λ r f. names_kind place node r f) (λ r f. versions_kind kept (act.Add node group) r f) e
limit_kind place versions spaces (act.Replace node by group) b e =
    let kept = kept_versions place versions in
    or_kind (names_reached place by) (versions_due kept (act.Replace node by group)) b (λ r f. names_kind place by r f) (λ r f. versions_kind kept (act.Replace node by group) r f) e
limit_kind place versions spaces a b e = versions_kind (kept_versions place versions) a b e

clock_kind : (moment : ℕ) (a : Act) (b : Answer) → lowered_moment moment a ≡ Some b → IsIdle b
clock_kind moment (act.Now now) b e = if_kind _ _ b tt e
clock_kind moment _ b e = absurd (let bad : None ≡ Some b = e in cc)

state_kind : (stopped : List ℕ → Bool) (a : Act) (b : Answer) → wrong_state stopped a ≡ Some b → IsIdle b
state_kind stopped (act.Stop node) b e = if_kind _ _ b tt e
state_kind stopped (act.Bootstrap node shard) b e = if_kind _ _ b tt e
state_kind stopped (act.Restart node pick) b e = if_kind _ _ b tt e
state_kind stopped _ b e = absurd (let bad : None ≡ Some b = e in cc)

refusal_kind : (place : Option Placement) (versions : List ℕ) (rules : Rules) (stopped : List ℕ → Bool) (a : Act) (b : Answer) → refusal_by place versions rules stopped a ≡ Some b → IsIdle b
refusal_kind place versions rules stopped a b e =
    let late = option_or (lowered_moment rules.now a) (wrong_state stopped a) in
    let limits = option_or (limit_reached place versions rules.spaces a) late in
    let missing = missing_name place versions rules.spaces a in
    let unknown : Option Answer = option_map (λ name. answer.Unknown name) missing in
    let out = is_out_of_order place rules.spaces a in
    or_kind (answer_if out answer.Order) (option_or unknown limits) b (λ r f. if_kind out answer.Order r tt f)
    (λ r f. or_kind unknown limits r (λ q g. unknown_kind missing q g)
    (λ q g. or_kind (limit_reached place versions rules.spaces a) late q (λ s h. limit_kind place versions rules.spaces a s h) (λ s h. or_kind (lowered_moment rules.now a) (wrong_state stopped a) s (λ t i. clock_kind rules.now a t i) (λ t i. state_kind stopped a t i) h) g) f) e

-- ---- what such an answer says of its line

sets_none_so : (b : Answer) → IsIdle b → SetsNone b
sets_none_so answer.Memory h = tt
sets_none_so answer.Full h = tt
sets_none_so answer.Order h = tt
sets_none_so (answer.Unknown unknown) h = tt
sets_none_so (answer.Limit limit) h = tt
sets_none_so (answer.Clock moment) h = tt
sets_none_so (answer.State node) h = tt
sets_none_so _ h = absurd h

delivers_none_so : (b : Answer) → IsIdle b → DeliversNone b
delivers_none_so answer.Memory h = tt
delivers_none_so answer.Full h = tt
delivers_none_so answer.Order h = tt
delivers_none_so (answer.Unknown unknown) h = tt
delivers_none_so (answer.Limit limit) h = tt
delivers_none_so (answer.Clock moment) h = tt
delivers_none_so (answer.State node) h = tt
delivers_none_so _ h = absurd h

says_nothing : (start : Option MetaState) (Here : ℕ → Event → Type 0) (p : TurnPosition) (messages : List LateMessage) (b : Answer) → IsIdle b → HearsOf start Here p messages b
says_nothing start Here p messages answer.Memory h = tt
says_nothing start Here p messages answer.Full h = tt
says_nothing start Here p messages answer.Order h = tt
says_nothing start Here p messages (answer.Unknown unknown) h = tt
says_nothing start Here p messages (answer.Limit limit) h = tt
says_nothing start Here p messages (answer.Clock moment) h = tt
says_nothing start Here p messages (answer.State node) h = tt
says_nothing start Here p messages _ h = absurd h

-- ---- the line

-- nothing came, the line is told, and its answer stands for itself
served_nothing : (start : Option MetaState) (turns : List Turn) (events : List Event) (a : Act) (b : Answer) → PlainLine start turns events a b [] → ((Here : ℕ → Event → Type 0) → HearsOf start Here (position_after turns a b) [] b)
    → IsAnswered [] start (length (events ++ [])) (position_after turns a b) → LeavesServed PlainLine start turns [] events a b events
served_nothing start turns events a b line says answered = record {
  more = [];
  grew = sym (append-nil events);
  line = line;
  serves = serves_so start turns events a b [] (λ e m. absurd m) (omega arith) [] (says (InStretch (events ++ []) (length events) (length (events ++ [])))) (λ x m. absurd m) answered;
  delivered = delivered_so turns a b [] (λ x m. absurd m);
}

pub refused_tells : RefusedTells
refused_tells start turns events a b due =
    let kind = refusal_kind (placement_after (start_placement start) (inner_turns turns)) (map (λ (place : Placement). place.version) (placements start (inner_turns turns))) (rules_after (start_rules start) (inner_turns turns)) (is_stopped (inner_turns turns)) a b due in
    record {
      line = served_nothing start turns events a b (idle_line start turns events a b kind) (λ Here. says_nothing start Here (position_after turns a b) [] b kind)
          (inr (inr (inner_turns turns, record { others = []; some_of = tt; are = sym (append-nil (inner_turns turns)) }, decided due)));
      sets_none = sets_none_so b kind;
      delivers_none = delivers_none_so b kind;
    }
  where
    decided : IsDueNext start turns a b (Some b) → IsDecidedBy [] start (position_after turns a b) (refusal_after start (position_after turns a b) (inner_turns turns))
    decided is = subst (IsDecidedBy [] start (position_after turns a b)) (sym is) refl

-- ---- no room

pub no_room_tells : NoRoomTells
no_room_tells start turns events a n few none = record {
  line = served_nothing start turns events a answer.Full (nothing_tells start turns events a answer.Full tt) (λ Here. tt) (inr (inl (refl, subst (λ es. MayLackRoom (length es)) (sym (append-nil events)) (may_lack n events few none))));
  sets_none = tt;
  delivers_none = tt;
}

pub full_write_tells : {D : Type 0} {G : Ghosts D} (state : D → DiskState) (net : Net D G) → FullWriteTells state net
full_write_tells state net start turns a id point level new ready full =
    let members = full.1.0 in
    let six = few_members net.state.place ready.lawful (shard_of_point net.state point) members (full.1.1).same in
    no_room_tells start turns net.replicas.events a (most_added members) (omega (arith, six)) full.1.2

pub full_delivery_tells : {D : Type 0} {G : Ghosts D} (net : Net D G) → FullDeliveryTells net
full_delivery_tells net start turns a new full = no_room_tells start turns net.replicas.events a (2 * MOST_LATE_WRITES) (omega arith) full.1
