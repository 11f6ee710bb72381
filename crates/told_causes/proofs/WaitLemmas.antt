-- How a replica waits for a bootstrap, line by line.
use Rattle.std.proofs.Common.{◌≡◌, ℕ, zero, suc, ◌<◌, List, [], ◌∷◌, take, refl, sym, ap, ◌∙◌, subst, inl, inr, arith, Bool, true, false}
use Rattle.std.specs.Prelude.{Option, Some, None, not, nat_eq, ◌&&◌, ◌||◌, slice_index_or}
use Rattle.std.specs.Cmp.Lexicographic.{pointwise}
use Rattle.std.specs.List.{Any}
use Rattle.std.proofs.lemmas.Bool.{eq-eqb, eqb-true}
use Rattle.std.proofs.lemmas.List.Folds.{list_any-from_Any}
use Rattle.std.proofs.lemmas.List.Sums.{fold-append}
use Rattle.std.proofs.lemmas.Option.{same_Some}
use Rattle.std.proofs.Math.Bool.{or-true}
use Rattle.m3_model.specs.Members.{IsIn}
use Rattle.m3_model.proofs.MemberLemmas.{IsIn-map, map-IsIn}
use Rattle.m3_model.specs.declared.act.Act.{Act}
use Rattle.m3_model.specs.declared.act.Act.TheVariants as act
use Rattle.m3_model.specs.declared.answer.Answer.{Answer}
use Rattle.m3_model.specs.declared.answer.Answer.TheVariants as answer
use Rattle.m3_model.specs.declared.placement.Assignment.{Assignment}
use Rattle.m3_model.specs.declared.placement.Placement.{Placement}
use Rattle.m3_model.specs.declared.rules.MetaState.{MetaState}
use Rattle.m3_model.specs.declared.turn.Turn.{Turn}
use Rattle.placement_core.specs.Shards.{Shard, nodes_of, shard_at}
use Rattle.placement_core.proofs.ListLemmas.{Any-from_IsIn, IsIn-from_Any}
use Rattle.cluster_core.specs.Lists.{At}
use Rattle.transcripts.specs.Placements.{has_replica, later_placement, placement_after, printed, start_placement}
use Rattle.transcripts.specs.Record.{InnerTurn, inner_turns}
use Rattle.transcripts.specs.Waiting.{Replica, Waiting, is_assigned, is_covering, is_member, waiting_after, waiting_by, waits_after, waits_by}
use Rattle.told_by.specs.Makes.{IsAssigned}
use Rattle.told_by.proofs.TurnLemmas.{inner-append}
use Rattle.told_causes.proofs.NameLemmas.{any_found, name_self, take_line}

-- ---- turns

-- the turn is a bootstrap, answered ok, that ends the replica's wait
pub record EndsWait (x : Replica) (stays : Bool) (t : InnerTurn) : Type 0 where
  pub node : List ℕ
  pub asked : Option ℕ
  pub available : List (ℕ × List ℕ)
  pub place : Placement
  pub version : ℕ
  pub act_is : t.act ≡ act.Bootstrap node asked
  pub answered : t.answer ≡ answer.Available available place version
  pub ends : (stays && (pointwise nat_eq x.name node && is_covering x.shard asked)) ≡ true

by_wait : (x : Replica) (stays : Bool) (t : InnerTurn) → (EndsWait x stays t → ⊥) → (a : Act) (b : Answer) → t.act ≡ a → t.answer ≡ b → waits_by x stays a b true ≡ true
by_wait x stays t none (act.Restart node pick) answer.Done ea eb = or-true (pointwise nat_eq x.name node)
by_wait x stays t none (act.Bootstrap node asked) (answer.Available available place version) ea eb = by (stays && (pointwise nat_eq x.name node && is_covering x.shard asked)) refl
  where
    by : (c : Bool) → (stays && (pointwise nat_eq x.name node && is_covering x.shard asked)) ≡ c → (not c && true) ≡ true
    by true is = absurd (none (record { node = node; asked = asked; available = available; place = place; version = version; act_is = ea; answered = eb; ends = is }))
    by false is = refl
by_wait x stays t none _ _ ea eb = refl

-- who waits goes on waiting where no such bootstrap comes
pub waits_on : (x : Replica) (stays : Bool) (ts : List InnerTurn) → ((t : InnerTurn) → IsIn ts t → EndsWait x stays t → ⊥) → waits_after x stays ts true ≡ true
waits_on x stays [] none = refl
waits_on x stays (t ∷ ts) none =
    ap (λ b. waits_after x stays ts b) (by_wait x stays t (none t (inl refl)) t.act t.answer refl refl) ∙ waits_on x stays ts (λ u m. none u (inr m))

-- an ok restart of its node has it wait
pub restart_waits : (x : Replica) (stays before : Bool) (t : InnerTurn) (pick : ℕ) → t.act ≡ act.Restart x.name pick → t.answer ≡ answer.Done → waits_after x stays (t ∷ []) before ≡ true
restart_waits x stays before t pick ea eb =
    ap (λ a. waits_by x stays a t.answer before) ea ∙ ap (λ b. waits_by x stays (act.Restart x.name pick) b before) eb ∙ ap (λ b. b || before) (name_self x.name)

-- ---- lines

module _ (x : Replica) (start : Option MetaState) (turns : List Turn) where
  abbrev pub placed : ℕ → Option Placement
  placed k = placement_after (start_placement start) (inner_turns (take k turns))

  abbrev pub waiting : ℕ → Waiting
  waiting k = waiting_after x start (take k turns)

  pub waiting_next : (k : ℕ) (line : Turn) → At turns k line → waiting (suc k) ≡ waiting_by x (waiting k) line
  waiting_next k line at =
      ap (waiting_after x start) (take_line turns k line at) ∙ fold-append (waiting_by x) (record { place = start_placement start; waits = is_member x (start_placement start) }) (take k turns) (line ∷ [])

  pub placed_next : (k : ℕ) (line : Turn) → At turns k line → placed (suc k) ≡ placement_after (placed k) (inner_turns (line ∷ []))
  placed_next k line at =
      ap (λ ls. placement_after (start_placement start) (inner_turns ls)) (take_line turns k line at)
      ∙ ap (placement_after (start_placement start)) (inner-append (take k turns) (line ∷ []))
      ∙ fold-append (λ p (turn : InnerTurn). later_placement (printed turn.answer) p) (start_placement start) (inner_turns (take k turns)) (inner_turns (line ∷ []))

  -- both go by the same placement
  pub waiting_place : (k : ℕ) → ((j : ℕ) → j < k → (line : Turn) × At turns j line) → (waiting k).place ≡ placed k
  waiting_place zero there = refl
  waiting_place (suc k) there =
      let line = there k (omega arith) in
      ap (λ (w : Waiting). w.place) (waiting_next k line.0 line.1)
      ∙ ap (λ p. placement_after p (inner_turns (line.0 ∷ []))) (waiting_place k (λ j lt. there j (omega (arith, lt))))
      ∙ sym (placed_next k line.0 line.1)

  pub waits_next : (k : ℕ) (line : Turn) → At turns k line → (waiting k).place ≡ placed k → (waiting (suc k)).waits
      ≡ (is_assigned x (placed k) (placed (suc k)) || waits_after x (is_member x (placed k) && is_member x (placed (suc k))) (inner_turns (line ∷ [])) (waiting k).waits)
  waits_next k line at same =
      ap (λ (w : Waiting). w.waits) (waiting_next k line at)
      ∙ ap (λ p. is_assigned x p (placement_after p (inner_turns (line ∷ []))) || waits_after x (is_member x p && is_member x (placement_after p (inner_turns (line ∷ [])))) (inner_turns (line ∷ [])) (waiting k).waits) same
      ∙ ap (λ q. is_assigned x (placed k) q || waits_after x (is_member x (placed k) && is_member x q) (inner_turns (line ∷ [])) (waiting k).waits) (sym (placed_next k line at))

-- ---- members

pub assigned_by : (a b c : Bool) → a ≡ true → b ≡ false → c ≡ true → ((a && not b) && c) ≡ true
assigned_by a b c ea eb ec = cc

-- the placement in which a replica is a member
pub member_place : (o : Option Placement) (s n : ℕ) → has_replica o s n ≡ true → (place : Placement) × (o ≡ Some place)
member_place None s n e = cc
member_place (Some place) s n e = (place, refl)

pub shard_there : (shards : List Shard) (s : ℕ) (a : Assignment) → IsIn (slice_index_or shards s []) a → At shards s (slice_index_or shards s [])
shard_there [] s a m = absurd m
shard_there (x ∷ shards) zero a m = refl
shard_there (x ∷ shards) (suc s) a m = shard_there shards s a m

-- its assignment
pub record MemberAt (place : Placement) (s n : ℕ) : Type 0 where
  pub shard : Shard
  pub there : At place.shards s shard
  pub assigned : Assignment
  pub among : IsIn shard assigned
  pub of_node : assigned.node ≡ n

pub member_at : (place : Placement) (s n : ℕ) → has_replica (Some place) s n ≡ true → MemberAt place s n
member_at place s n e =
    let f = any_found (nat_eq n) (nodes_of (shard_at place s)) e in
    let a = IsIn-map (λ (a : Assignment). a.node) (shard_at place s) f.0 f.1 in
    record { shard = shard_at place s; there = shard_there place.shards s a.0 a.1; assigned = a.0; among = a.1; of_node = a.2 ∙ sym (eqb-true n f.0 f.2) }

-- a node with an assignment of the shard has a replica of it
pub assigned_member : (place : Placement) (s n : ℕ) (a : Assignment) → IsIn (shard_at place s) a → a.node ≡ n → has_replica (Some place) s n ≡ true
assigned_member place s n a m e =
    let nodes = nodes_of (shard_at place s) in
    let among : IsIn nodes n = subst (IsIn nodes) e (map-IsIn (λ (x : Assignment). x.node) (shard_at place s) a m) in
    list_any-from_Any (nat_eq n) nodes (Any-from_IsIn (λ x. nat_eq n x ≡ true) nodes n among (eq-eqb n n refl))

pub shard_is : (shards : List Shard) (s : ℕ) (shard : Shard) → At shards s shard → slice_index_or shards s [] ≡ shard
shard_is [] s shard e = cc
shard_is (x ∷ shards) zero shard e = same_Some x shard e
shard_is (x ∷ shards) (suc s) shard e = shard_is shards s shard e

-- so has one to which the placement gives a tenure
pub given_member : (place : Placement) (n s : ℕ) (shard : Shard) (Kind : ℕ → Type 0) → At place.shards s shard → Any (λ (a : Assignment). (a.node ≡ n) × Kind a.tenure) shard → has_replica (Some place) s n ≡ true
given_member place n s shard Kind at any =
    let a = IsIn-from_Any (λ (a : Assignment). (a.node ≡ n) × Kind a.tenure) shard any in
    assigned_member place s n a.0 (subst (λ xs. IsIn xs a.0) (sym (shard_is place.shards s shard at)) a.1) (a.2).0

-- a member has a tenure there
pub member_given : (place : Placement) (s n : ℕ) → has_replica (Some place) s n ≡ true → (tenure : ℕ) × IsAssigned place n s tenure
member_given place s n e =
    let m = member_at place s n e in
    ((m.assigned).tenure, (m.shard, m.there, Any-from_IsIn (λ (a : Assignment). (a.node ≡ n) × (a.tenure ≡ (m.assigned).tenure)) m.shard m.assigned m.among (m.of_node, refl)))

-- and who has one is a member
pub is_member_of : (place : Placement) (s n tenure : ℕ) → IsAssigned place n s tenure → has_replica (Some place) s n ≡ true
is_member_of place s n tenure given = given_member place n s given.0 (λ t. t ≡ tenure) given.1 given.2
