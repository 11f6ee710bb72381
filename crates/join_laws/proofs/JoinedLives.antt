-- Whom a node joined with.
use Rattle.std.proofs.Common.{◌≡◌, ◌≢◌, ◌∙◌, ◌<◌, ◌≤◌, ℕ, zero, suc, true, false, List, [], ◌∷◌, ◌++◌, length, Some, None, refl, ap, subst, sym, inl, inr, arith, slice_get}
use Rattle.std.specs.Prelude.{◌⊎◌, Bool, Option, codes, if◌then◌else◌}
use Rattle.std.specs.declared.cmp.Ordering.TheVariants.{Less, Equal, Greater}
use Rattle.std.proofs.lemmas.Option.{same_Some}
use Rattle.m3_model.specs.Ascends.{Ascends}
use Rattle.m3_model.specs.Members.{IsIn}
use Rattle.m3_model.specs.declared.act.Act.{Act}
use Rattle.m3_model.specs.declared.act.Act.TheVariants as act
use Rattle.m3_model.specs.declared.answer.Answer.{Answer}
use Rattle.m3_model.specs.declared.answer.Answer.TheVariants as answer
use Rattle.m3_model.specs.declared.placement.Assignment.{Assignment}
use Rattle.m3_model.specs.declared.placement.Placement.{Placement}
use Rattle.m3_model.specs.declared.placement.ShardState.TheVariants.{Initializing, Available, Leaving}
use Rattle.m3_model.specs.declared.rules.MetaState.{MetaState}
use Rattle.m3_model.specs.declared.turn.Turn.{Turn}
use Rattle.placement_core.specs.NodeNames.{IsNamedBelow}
use Rattle.placement_core.specs.Lawful.{IsLawful}
use Rattle.placement_core.specs.Shards.{Shard, former, holders, holds, is_holder, is_steady, shard_at}
use Rattle.placement_core.proofs.HolderLemmas.{chosen_node, same_node}
use Rattle.transcripts.specs.Fates.{IsRunningAt, is_stopped}
use Rattle.transcripts.specs.Joined.{ArePeers, Joined, IsJoiningTurn, TurnsAvailable}
use Rattle.transcripts.specs.Placements.{placements}
use Rattle.transcripts.specs.Record.{IsTurnPosition, TurnPosition, inner_turns}
use Rattle.transcripts.specs.Waiting.{IsBegunFor, idles_after}
use Rattle.model_laws.specs.Building.{life_of, line, made, place}
use Rattle.model_laws.proofs.EachLemmas.{◌also◌, ascends_by, each_in, texts_differ}
use Rattle.model_laws.proofs.PositionLemmas.{each_position, only, position_after, position_after-stands}
use Rattle.move_laws.specs.Moving.{both_to_a, first_on_a, held, holding, joining, reopened_with}
use Rattle.move_laws.proofs.MovingLemmas.{of_name}
use Rattle.join_laws.specs.Replaced.{a_to_d, b_idle, before_e, boot, boot_of, both_stopped, d_prints, d_to_e, e_prints, half_idle, idle_print, on_d, on_e, replaced_a, replaced_d, second_prints, stopped_print, then_last}
use Rattle.join_laws.proofs.NameLemmas.{names_below}

available_not : Available ≢ Initializing
available_not e = cc

leaving_not : Leaving ≢ Initializing
leaving_not e = cc

-- ---- accepted

-- a claim of whoever turned available from a placement of one shard
of_one_shard : (P : ℕ → ℕ → Shard → Type 0) (was : Placement) (x : Shard) → was.shards ≡ x ∷ [] → ((a : Assignment) → IsIn x a → a.state ≡ Initializing → P 0 a.node x)
    → (next : Placement) (number node : ℕ) (t : TurnsAvailable was next number node) → P number node t.shard
of_one_shard P was x one claim next zero node t =
    let is : Some x ≡ Some t.shard = subst (λ (ss : List Shard). slice_get ss 0 ≡ Some t.shard) one t.shard_is in
    let same : x ≡ t.shard = same_Some x t.shard is in
    subst (λ n. P 0 n t.shard) t.of_node (subst (P 0 t.joining.node) same (claim t.joining (subst (λ (s : Shard). IsIn s t.joining) (sym same) t.joins) t.is_joining))
of_one_shard P was x one claim next (suc k) node t = let bad : None ≡ Some t.shard = subst (λ (ss : List Shard). slice_get ss (suc k) ≡ Some t.shard) one t.shard_is in cc

-- some turn of these lines joined the node so
abbrev JoinsIn : List Turn → Placement → Placement → ℕ → ℕ → Shard → Type 0
JoinsIn turns was next number node shard = (p : TurnPosition) × IsTurnPosition turns p × IsJoiningTurn None p was next number node shard

abbrev both : List Turn
both = second_prints (1 ∷ 2 ∷ [])

-- the placements that are printed
abbrev printed_all : List Placement
printed_all = place ∷ a_to_d ∷ on_d ∷ d_to_e ∷ on_e ∷ []

-- from this placement whoever turned available was joined
abbrev Claim : Placement → Type 0
Claim was = (next : Placement) → IsIn printed_all next → (number node : ℕ) (t : TurnsAvailable was next number node) → JoinsIn both was next number node t.shard

-- nobody joins where no move goes on
steady : (was : Placement) (x : Shard) → was.shards ≡ x ∷ [] → ((a : Assignment) → IsIn x a → a.state ≢ Initializing) → Claim was
steady was x one none next among number node t = of_one_shard (λ number node shard. JoinsIn both was next number node shard) was x one (λ a in_x is. absurd (none a in_x is)) next number node t

-- from a placement of this version the next one is the known one
only_next : (version : ℕ) (known : Placement)
    → (place.version ≡ suc version → place ≡ known) × ((a_to_d.version ≡ suc version → a_to_d ≡ known) × ((on_d.version ≡ suc version → on_d ≡ known) × ((d_to_e.version ≡ suc version → d_to_e ≡ known) × ((on_e.version ≡ suc version → on_e ≡ known) × Unit {0}))))
    → (next : Placement) → IsIn printed_all next → next.version ≡ suc version → next ≡ known
only_next version known each next among = each_in (λ (q : Placement). q.version ≡ suc version → q ≡ known) printed_all each next among

-- b and c stand by name, and hold the shard in both moves
by_name : (was : Placement) → IsNamedBelow was 1 2 → Ascends (IsNamedBelow was) (1 ∷ 2 ∷ [])
by_name was below = ascends_by (IsNamedBelow was) (1 ∷ 2 ∷ []) ((below also tt) also tt also tt)

-- d joined by its bootstrap
d_joins : JoinsIn both a_to_d on_d 0 3 (shard_at a_to_d 0)
d_joins = (
  position_after (made ∷ replaced_a ∷ []) (act.Bootstrap (codes "d") None) (d_prints (1 ∷ 2 ∷ [])),
  position_after-stands (made ∷ replaced_a ∷ []) (act.Bootstrap (codes "d") None) (d_prints (1 ∷ 2 ∷ [])) (replaced_d ∷ boot (codes "e") (e_prints (1 ∷ 2 ∷ [])) ∷ []),
  record {
    available = (0, 1 ∷ 2 ∷ []) ∷ [];
    bootstrap = record { name = codes "d"; asked = None; act_is = refl; named = record { instance_ = _; stands = refl; holds = refl }; version = 3; answered = refl };
    names = 1 ∷ 2 ∷ [];
    printed = inl refl;
    peers = record {
      by_name = by_name a_to_d (record { one = _; other = _; of_one = refl; of_other = refl; below = refl });
      within = each_in (IsIn (former (shard_at a_to_d 0))) (1 ∷ 2 ∷ []) (inr (inl refl) also inr (inr (inl refl)) also tt);
      running = each_in (IsRunningAt (position_after (made ∷ replaced_a ∷ []) (act.Bootstrap (codes "d") None) (d_prints (1 ∷ 2 ∷ []))) a_to_d) (1 ∷ 2 ∷ []) (record { instance_ = _; stands = refl; holds = refl } also record { instance_ = _; stands = refl; holds = refl } also tt);
      begun = each_in (IsBegunFor None (position_after (made ∷ replaced_a ∷ []) (act.Bootstrap (codes "d") None) (d_prints (1 ∷ 2 ∷ []))) a_to_d 0) (1 ∷ 2 ∷ []) (record { instance_ = _; stands = refl; holds = refl } also record { instance_ = _; stands = refl; holds = refl } also tt);
      enough = omega arith;
    };
  },
)

-- and e by its own
e_joins : JoinsIn both d_to_e on_e 0 4 (shard_at d_to_e 0)
e_joins = (
  position_after before_e (act.Bootstrap (codes "e") None) (e_prints (1 ∷ 2 ∷ [])),
  position_after-stands before_e (act.Bootstrap (codes "e") None) (e_prints (1 ∷ 2 ∷ [])) [],
  record {
    available = (0, 1 ∷ 2 ∷ []) ∷ [];
    bootstrap = record { name = codes "e"; asked = None; act_is = refl; named = record { instance_ = _; stands = refl; holds = refl }; version = 5; answered = refl };
    names = 1 ∷ 2 ∷ [];
    printed = inl refl;
    peers = record {
      by_name = by_name d_to_e (record { one = _; other = _; of_one = refl; of_other = refl; below = refl });
      within = each_in (IsIn (former (shard_at d_to_e 0))) (1 ∷ 2 ∷ []) (inl refl also inr (inl refl) also tt);
      running = each_in (IsRunningAt (position_after before_e (act.Bootstrap (codes "e") None) (e_prints (1 ∷ 2 ∷ []))) d_to_e) (1 ∷ 2 ∷ []) (record { instance_ = _; stands = refl; holds = refl } also record { instance_ = _; stands = refl; holds = refl } also tt);
      begun = each_in (IsBegunFor None (position_after before_e (act.Bootstrap (codes "e") None) (e_prints (1 ∷ 2 ∷ []))) d_to_e 0) (1 ∷ 2 ∷ []) (record { instance_ = _; stands = refl; holds = refl } also record { instance_ = _; stands = refl; holds = refl } also tt);
      enough = omega arith;
    };
  },
)

-- whoever is joining is the node of the move
from_a_to_d : Claim a_to_d
from_a_to_d next among number node t =
    of_one_shard (λ number node shard. JoinsIn both a_to_d next number node shard) a_to_d (shard_at a_to_d 0) refl (λ a in_shard is.
    subst (λ q. JoinsIn both a_to_d q 0 a.node (shard_at a_to_d 0)) (sym (only_next 2 on_d ((λ e. absurd (omega (arith, e))) also (λ e. absurd (omega (arith, e))) also (λ e. refl) also (λ e. absurd (omega (arith, e))) also (λ e. absurd (omega (arith, e))) also tt) next among t.follows))
    (each_in (λ (x : Assignment). x.state ≡ Initializing → JoinsIn both a_to_d on_d 0 x.node (shard_at a_to_d 0)) (shard_at a_to_d 0) ((λ e. absurd (leaving_not e)) also (λ e. absurd (available_not e)) also (λ e. absurd (available_not e)) also (λ e. d_joins) also tt) a in_shard is)) next number node t

from_d_to_e : Claim d_to_e
from_d_to_e next among number node t =
    of_one_shard (λ number node shard. JoinsIn both d_to_e next number node shard) d_to_e (shard_at d_to_e 0) refl (λ a in_shard is.
    subst (λ q. JoinsIn both d_to_e q 0 a.node (shard_at d_to_e 0)) (sym (only_next 4 on_e ((λ e. absurd (omega (arith, e))) also (λ e. absurd (omega (arith, e))) also (λ e. absurd (omega (arith, e))) also (λ e. absurd (omega (arith, e))) also (λ e. refl) also tt) next among t.follows))
    (each_in (λ (x : Assignment). x.state ≡ Initializing → JoinsIn both d_to_e on_e 0 x.node (shard_at d_to_e 0)) (shard_at d_to_e 0) ((λ e. absurd (available_not e)) also (λ e. absurd (available_not e)) also (λ e. absurd (leaving_not e)) also (λ e. e_joins) also tt) a in_shard is)) next number node t

pub both-joined : Joined (life_of both)
both-joined was next is_was is_next number node t =
    each_in Claim printed_all (
    steady place (shard_at place 0) refl (each_in (λ (a : Assignment). a.state ≢ Initializing) (shard_at place 0) (available_not also available_not also available_not also tt))
    also from_a_to_d
    also steady on_d (shard_at on_d 0) refl (each_in (λ (a : Assignment). a.state ≢ Initializing) (shard_at on_d 0) (available_not also available_not also available_not also tt))
    also from_d_to_e
    also steady on_e (shard_at on_e 0) refl (each_in (λ (a : Assignment). a.state ≢ Initializing) (shard_at on_e 0) (available_not also available_not also available_not also tt))
    also tt) was is_was next is_next number node t

-- ---- refused

-- the version and the shards that a bootstrap's answer prints
abbrev left_by : Answer → ℕ
left_by (answer.Available available next version) = next.version
left_by _ = 0

abbrev shards_by : Answer → List (ℕ × List ℕ)
shards_by (answer.Available available next version) = available
shards_by _ = []

-- of whom a bootstrap is
abbrev booted : Act → List ℕ
booted (act.Bootstrap name asked) = name
booted _ = []

-- e turned available
turned : TurnsAvailable d_to_e on_e 0 4
turned = record {
  follows = refl;
  shard = shard_at d_to_e 0;
  shard_is = refl;
  joining = joining 4 4 3;
  joins = inr (inr (inr (inl refl)));
  of_node = refl;
  is_joining = refl;
  after = shard_at on_e 0;
  after_is = refl;
  joined = holding 4 4;
  stands = inr (inr (inl refl));
  to_node = refl;
  is_available = refl;
}

-- the turn isn't the one that joined it
abbrev JoinsNot : TurnPosition → Type 0
JoinsNot p = IsJoiningTurn None p d_to_e on_e 0 4 (shard_at d_to_e 0) → ⊥

-- an answer that leaves another version isn't it
other : (p : TurnPosition) (n : ℕ) → left_by p.turn.answer ≡ n → n ≢ 5 → JoinsNot p
other p n is differs joins = differs (sym is ∙ ap left_by joins.bootstrap.answered)

-- so the last line would have to be
refuses : (a : Act) (b : Answer) → IsIn (placements None (inner_turns (then_last a b))) d_to_e → IsIn (placements None (inner_turns (then_last a b))) on_e → JoinsNot (position_after before_e a b) → ¬ Joined (life_of (then_last a b))
unfolding turned
refuses a b is_was is_next last joined =
    let found = joined d_to_e on_e is_was is_next 0 4 turned in
    each_position JoinsNot (then_last a b) (
    only (other _ 0 refl (λ e. omega (arith, e)))
    also only (other _ 0 refl (λ e. omega (arith, e)))
    also only (other _ 3 refl (λ e. omega (arith, e)))
    also only (other _ 0 refl (λ e. omega (arith, e)))
    also only last
    also tt) found.0 found.1 found.2

-- the names that are printed with the only shard are those of the peers
peers_of : (start : Option MetaState) (names : List ℕ) (p : TurnPosition) (was next : Placement) (node : ℕ) (shard : Shard) → shards_by p.turn.answer ≡ (0, names) ∷ [] → (joins : IsJoiningTurn start p was next 0 node shard) → ArePeers start p was 0 shard names
peers_of start names p was next node shard is joins = by (subst (λ (xs : List (ℕ × List ℕ)). IsIn xs (0, joins.names)) is (subst (λ (xs : List (ℕ × List ℕ)). IsIn xs (0, joins.names)) (sym (ap shards_by joins.bootstrap.answered)) joins.printed))
  where
    by : IsIn {X = ℕ × List ℕ} ((0, names) ∷ []) (0, joins.names) → ArePeers start p was 0 shard names
    by (inl same) = subst (ArePeers start p was 0 shard) (sym (ap (λ (x : ℕ × List ℕ). x.1) same)) joins.peers
    by (inr none) = absurd none

-- e's bootstrap prints names that aren't those of such peers
prints_not : (names : List ℕ) → (ArePeers None (position_after before_e (act.Bootstrap (codes "e") None) (e_prints names)) d_to_e 0 (shard_at d_to_e 0) names → ⊥) → ¬ Joined (life_of (second_prints names))
prints_not names not = refuses (act.Bootstrap (codes "e") None) (e_prints names) (inr (inr (inr (inl refl)))) (inr (inr (inr (inr (inl refl))))) (λ joins. not (peers_of None names _ d_to_e on_e 4 (shard_at d_to_e 0) refl joins))

pub nobody-refused : ¬ Joined (life_of (second_prints []))
nobody-refused = prints_not [] (λ peers. let many : 2 ≤ 0 = peers.enough in omega (arith, many))

pub one-refused : ¬ Joined (life_of (second_prints (1 ∷ [])))
one-refused = prints_not (1 ∷ []) (λ peers. let many : 2 ≤ 1 = peers.enough in omega (arith, many))

-- b, c and d are the former replicas
former_of : (node : ℕ) → node ≢ 1 → node ≢ 2 → node ≢ 3 → IsIn (former (shard_at d_to_e 0)) node → ⊥
former_of node not_b not_c not_d (inl is) = not_b (sym is)
former_of node not_b not_c not_d (inr (inl is)) = not_c (sym is)
former_of node not_b not_c not_d (inr (inr (inl is))) = not_d (sym is)
former_of node not_b not_c not_d (inr (inr (inr none))) = none

pub left-refused : ¬ Joined (life_of (second_prints (0 ∷ 1 ∷ [])))
left-refused = prints_not (0 ∷ 1 ∷ []) (λ peers. former_of 0 (λ e. omega (arith, e)) (λ e. omega (arith, e)) (λ e. omega (arith, e)) (peers.within 0 (inl refl)))

pub itself-refused : ¬ Joined (life_of (second_prints (1 ∷ 4 ∷ [])))
itself-refused = prints_not (1 ∷ 4 ∷ []) (λ peers. former_of 4 (λ e. omega (arith, e)) (λ e. omega (arith, e)) (λ e. omega (arith, e)) (peers.within 4 (inr (inl refl))))

pub nowhere-refused : ¬ Joined (life_of (second_prints (1 ∷ 7 ∷ [])))
nowhere-refused = prints_not (1 ∷ 7 ∷ []) (λ peers. former_of 7 (λ e. omega (arith, e)) (λ e. omega (arith, e)) (λ e. omega (arith, e)) (peers.within 7 (inr (inl refl))))

pub twice-refused : ¬ Joined (life_of (second_prints (1 ∷ 1 ∷ [])))
twice-refused = prints_not (1 ∷ 1 ∷ []) (λ peers. let below : Equal ≡ Less = names_below d_to_e 1 1 _ _ refl refl (peers.by_name.0 1 (inl refl)) in cc)

pub order-refused : ¬ Joined (life_of (second_prints (2 ∷ 1 ∷ [])))
order-refused = prints_not (2 ∷ 1 ∷ []) (λ peers. let below : Greater ≡ Less = names_below d_to_e 2 1 _ _ refl refl (peers.by_name.0 1 (inl refl)) in cc)

-- ---- stopped peers

-- d turned available
d_turned : TurnsAvailable a_to_d on_d 0 3
d_turned = record {
  follows = refl;
  shard = shard_at a_to_d 0;
  shard_is = refl;
  joining = joining 3 2 0;
  joins = inr (inr (inr (inl refl)));
  of_node = refl;
  is_joining = refl;
  after = shard_at on_d 0;
  after_is = refl;
  joined = holding 3 2;
  stands = inr (inr (inl refl));
  to_node = refl;
  is_available = refl;
}

abbrev DJoinsNot : TurnPosition → Type 0
DJoinsNot p = IsJoiningTurn None p a_to_d on_d 0 3 (shard_at a_to_d 0) → ⊥

not_d : (p : TurnPosition) → left_by p.turn.answer ≡ 0 → DJoinsNot p
not_d p is joins = let bad : 0 ≡ 3 = sym is ∙ ap left_by joins.bootstrap.answered in omega (arith, bad)

pub stopped-refused : ¬ Joined (life_of stopped_print)
unfolding d_turned
stopped-refused joined =
    let found = joined a_to_d on_d (inr (inl refl)) (inr (inr (inl refl))) 0 3 d_turned in
    each_position DJoinsNot stopped_print (only (not_d _ refl) also only (not_d _ refl) also only (not_d _ refl) also only (not_d _ refl) also only last also tt) found.0 found.1 found.2
  where
    last : DJoinsNot (position_after both_stopped (act.Bootstrap (codes "d") None) (d_prints (1 ∷ 2 ∷ [])))
    last joins =
        let peers = peers_of None (1 ∷ 2 ∷ []) _ a_to_d on_d 3 (shard_at a_to_d 0) refl joins in
        let bad : true ≡ false = of_name a_to_d (λ name. is_stopped (inner_turns both_stopped) name ≡ false) 1 _ refl (peers.running 1 (inl refl)) in
        cc

-- ---- idle peers

pub idle-refused : ¬ Joined (life_of idle_print)
unfolding d_turned
idle-refused joined =
    let found = joined a_to_d on_d (inr (inl refl)) (inr (inr (inl refl))) 0 3 d_turned in
    each_position DJoinsNot idle_print (only (not_d _ refl) also only (not_d _ refl) also only (not_d _ refl) also only (not_d _ refl) also only last also tt) found.0 found.1 found.2
  where
    last : DJoinsNot (position_after b_idle (act.Bootstrap (codes "d") None) (d_prints (1 ∷ 2 ∷ [])))
    last joins =
        let peers = peers_of None (1 ∷ 2 ∷ []) _ a_to_d on_d 3 (shard_at a_to_d 0) refl joins in
        let bad : true ≡ false = of_name a_to_d (λ name. idles_after (record { shard = 0; node = 1; name = name }) None (inner_turns b_idle ++ []) ≡ false) 1 _ refl (peers.begun 1 (inl refl)) in
        cc

-- a turned available in the first of two shards
a_turned : TurnsAvailable both_to_a first_on_a 0 0
a_turned = record {
  follows = refl;
  shard = shard_at both_to_a 0;
  shard_is = refl;
  joining = joining 0 2 1;
  joins = inr (inl refl);
  of_node = refl;
  is_joining = refl;
  after = shard_at first_on_a 0;
  after_is = refl;
  joined = holding 0 2;
  stands = inl refl;
  to_node = refl;
  is_available = refl;
}

abbrev AJoinsNot : TurnPosition → Type 0
AJoinsNot p = IsJoiningTurn (Some (held both_to_a)) p both_to_a first_on_a 0 0 (shard_at both_to_a 0) → ⊥

pub half_idle-refused : ¬ Joined (reopened_with both_to_a half_idle)
unfolding a_turned
half_idle-refused joined =
    let found = joined both_to_a first_on_a (inl refl) (inr (inr (inl refl))) 0 0 a_turned in
    each_position AJoinsNot half_idle (only earlier also only last also tt) found.0 found.1 found.2
  where
    front : List Turn
    front = boot_of (codes "b") 1 (answer.Available [] both_to_a 2) ∷ []

    earlier : AJoinsNot (position_after [] (act.Bootstrap (codes "b") (Some 1)) (answer.Available [] both_to_a 2))
    earlier joins = let bad : 2 ≡ 3 = ap left_by joins.bootstrap.answered in omega (arith, bad)

    last : AJoinsNot (position_after front (act.Bootstrap (codes "a") (Some 0)) (answer.Available ((0, 1 ∷ []) ∷ []) first_on_a 3))
    last joins =
        let peers = peers_of (Some (held both_to_a)) (1 ∷ []) _ both_to_a first_on_a 0 (shard_at both_to_a 0) refl joins in
        let bad : true ≡ false = of_name both_to_a (λ name. idles_after (record { shard = 0; node = 1; name = name }) (Some (held both_to_a)) (inner_turns front ++ []) ≡ false) 1 _ refl (peers.begun 1 (inl refl)) in
        cc

-- ---- the one that joins

pub joining-no_peer : (place : Placement) → IsLawful place → (shard : Shard) → IsIn place.shards shard → (joining : Assignment) → IsIn shard joining → joining.state ≡ Initializing → ¬ IsIn (former shard) joining.node
joining-no_peer place lawful shard stands joining joins is_joining = by (is_steady shard)
  where
    by : (steady : Bool) → IsIn (if steady then [] else holders shard) joining.node → ⊥
    by true none = none
    by false among =
        let x = chosen_node is_holder shard joining.node among in
        let same : x.0 ≡ joining = same_node shard x.0 joining (lawful.shards shard stands).distinct x.1 joins x.2 in
        let bad : true ≡ false = sym x.3 ∙ ap (λ (a : Assignment). holds a.state) same ∙ ap holds is_joining in
        cc

-- ---- other turns

pub other_node-refused : ¬ Joined (life_of (then_last (act.Bootstrap (codes "b") None) (e_prints (1 ∷ 2 ∷ []))))
other_node-refused = refuses (act.Bootstrap (codes "b") None) (e_prints (1 ∷ 2 ∷ [])) (inr (inr (inr (inl refl)))) (inr (inr (inr (inr (inl refl))))) (λ joins.
    texts_differ (codes "e") (codes "b") refl refl (of_name on_e (λ own. own ≡ joins.bootstrap.name) 4 _ refl joins.bootstrap.named ∙ sym (ap booted joins.bootstrap.act_is)))

pub left_out-refused : ¬ Joined (life_of (then_last (act.Bootstrap (codes "e") None) (answer.Available [] on_e 5)))
left_out-refused = refuses (act.Bootstrap (codes "e") None) (answer.Available [] on_e 5) (inr (inr (inr (inl refl)))) (inr (inr (inr (inr (inl refl))))) (λ joins.
    subst (λ (xs : List (ℕ × List ℕ)). IsIn xs (0, joins.names)) (sym (ap shards_by joins.bootstrap.answered)) joins.printed)

pub other_kind-refused : ¬ Joined (life_of (then_last (act.Cancel (codes "e")) (answer.Placed on_e 5)))
other_kind-refused = refuses (act.Cancel (codes "e")) (answer.Placed on_e 5) (inr (inr (inr (inl refl)))) (inr (inr (inr (inr (inl refl))))) (λ joins. let bad : answer.Placed on_e 5 ≡ answer.Available joins.available on_e joins.bootstrap.version = joins.bootstrap.answered in cc)
