-- Bootstraps once many versions are kept.
use Rattle.std.proofs.Common.{◌≡◌, ◌≢◌, ◌≤◌, ◌<◌, ◌-◌, ◌∙◌, ℕ, zero, suc, Bool, true, false, List, [], ◌∷◌, ◌++◌, length, Some, None, refl, ap, subst, sym, inl, inr, arith, append-nil, slice_get}
use Rattle.std.specs.Prelude.{Option, codes, map}
use Rattle.std.specs.declared.cmp.Ordering.TheVariants.{Less, Equal}
use Rattle.std.proofs.lemmas.Option.{same_Some}
use Rattle.m3_model.specs.Members.{IsIn}
use Rattle.m3_model.specs.declared.answer.Answer.{Answer}
use Rattle.m3_model.specs.declared.answer.Answer.TheVariants as answer
use Rattle.m3_model.specs.declared.limits.TheConstants.{MOST_VERSIONS}
use Rattle.m3_model.specs.declared.placement.Assignment.{Assignment}
use Rattle.m3_model.specs.declared.placement.Instance.{Instance}
use Rattle.m3_model.specs.declared.placement.Placement.{Placement}
use Rattle.m3_model.specs.declared.turn.Turn.{Turn}
use Rattle.placement_core.specs.NodeNames.{IsNamedBelow}
use Rattle.placement_core.specs.Shards.{former, shard_at}
use Rattle.transcripts.specs.Caused.{IsBootstrapped, IsDueBy, versions_after}
use Rattle.transcripts.specs.Fates.{IsRunningAt, OfNode, is_stopped}
use Rattle.transcripts.specs.Faults.{Fault}
use Rattle.transcripts.specs.Joined.{ArePeers}
use Rattle.transcripts.specs.Peers.{IsJoinedBy, LacksVersion}
use Rattle.transcripts.specs.Placements.{placement_after}
use Rattle.transcripts.specs.Record.{TurnPosition, inner_turns}
use Rattle.transcripts.specs.Refusals.{kept_versions}
use Rattle.transcripts.specs.Waiting.{IsBegunFor, idles_after}
use Rattle.model_laws.specs.Building.{position_after}
use Rattle.model_laws.proofs.EachLemmas.{◌also◌, ascends_by, each_in}
use Rattle.model_laws.proofs.PositionLemmas.{after_all, due, due_here, only_after, only_used}
use Rattle.move_laws.specs.Moving.{joining}
use Rattle.move_laws.proofs.MovingLemmas.{of_name}
use Rattle.join_laws.specs.Limits.{MayBootLate, Serve, StandsLate, boots_d, late, of_shard}
use Rattle.join_laws.proofs.NameLemmas.{names_below}

-- so many versions are kept then
kept_are : (version : ℕ) (lines : List Turn) → StandsLate version lines → kept_versions (Some (late version)) (versions_after None (inner_turns lines)) ≡ version
kept_are version lines stood = let all : suc version - 1 ≡ version = omega arith in ap (kept_versions (Some (late version))) stood.versions ∙ all

-- what is due of the bootstrap, as nothing refuses it
free_due : (version : ℕ) (lines : List Turn) (faults : List Fault) (b : Answer) → StandsLate version lines → b ≢ answer.Memory → b ≢ answer.Full → MayBootLate lines faults b → IsDueBy true faults None [] (position_after lines boots_d b) None
free_due version lines faults b stood not_memory not_full may = subst (IsDueBy true faults None [] (position_after lines boots_d b)) (stood.free b) (due_here true faults [] None [] lines boots_d b not_memory not_full may)

-- ---- accepted

pub limit-caused : (lines : List Turn) → StandsLate 1024 lines → Serve lines ((1, codes "b") ∷ (2, codes "c") ∷ []) → MayBootLate lines [] (answer.Limit 1024)
limit-caused lines stood serves =
    due true [] [] lines boots_d (answer.Limit 1024) (subst (IsDueBy true [] None [] p) (sym (stood.free (answer.Limit 1024))) (record {
      turns = inner_turns lines;
      after = after_all lines boots_d (answer.Limit 1024);
      place = late 1024;
      stands = stood.place_is;
      shard = 0;
      joins = record { node = 3; named = record { instance_ = _; stands = refl; holds = refl }; covers = refl; joining = joining 3 2 0; among = inr (inr (inr (inl refl))); of_node = refl; is_joining = refl };
      peers = 1 ∷ 2 ∷ [];
      are_peers = record {
        by_name = ascends_by (IsNamedBelow (late 1024)) (1 ∷ 2 ∷ []) ((record { one = _; other = _; of_one = refl; of_other = refl; below = refl } also tt) also tt also tt);
        within = each_in (IsIn (former (shard_at (late 1024) 0))) (1 ∷ 2 ∷ []) (inr (inl refl) also inr (inr (inl refl)) also tt);
        running = each_in (IsRunningAt p (late 1024)) (1 ∷ 2 ∷ []) (record { instance_ = _; stands = refl; holds = serves.0.0 } also record { instance_ = _; stands = refl; holds = serves.1.0.0 } also tt);
        begun = each_in (IsBegunFor None p (late 1024) 0) (1 ∷ 2 ∷ []) (begun 1 (codes "b") _ refl refl serves.0.1 also begun 2 (codes "c") _ refl refl serves.1.0.1 also tt);
        enough = omega arith;
      };
      limit_is = refl;
      reached = subst (λ n. MOST_VERSIONS ≤ n) (sym (kept_are 1024 lines stood)) (omega arith);
    }))
  where
    p : TurnPosition
    p = position_after lines boots_d (answer.Limit 1024)

    begun : (node : ℕ) (name : List ℕ) (one : Instance) → slice_get (late 1024).instances node ≡ Some one → one.name ≡ name → idles_after (of_shard node name) None (inner_turns lines) ≡ false → IsBegunFor None p (late 1024) 0 node
    begun node name one known is wakes = record { instance_ = one; stands = known; holds = ap (λ ts. idles_after (of_shard node one.name) None ts) (append-nil (inner_turns lines)) ∙ ap (λ own. idles_after (of_shard node own) None (inner_turns lines)) is ∙ wakes }

-- ---- refused

lacks : (version : ℕ) (lines : List Turn) (faults : List Fault) (limit : ℕ) → StandsLate version lines → MayBootLate lines faults (answer.Limit limit) → LacksVersion None (position_after lines boots_d (answer.Limit limit)) (codes "d") None limit
lacks version lines faults limit stood may = free_due version lines faults (answer.Limit limit) stood (λ e. cc) (λ e. cc) may

pub other-refused : (lines : List Turn) → StandsLate 1024 lines → (limit : ℕ) → limit ≢ 1024 → (faults : List Fault) → ¬ MayBootLate lines faults (answer.Limit limit)
other-refused lines stood limit differs faults may = differs (lacks 1024 lines faults limit stood may).limit_is

-- the placement that stands is the one of this version
same_place : (version : ℕ) (lines : List Turn) (limit : ℕ) → StandsLate version lines → (l : LacksVersion None (position_after lines boots_d (answer.Limit limit)) (codes "d") None limit) → (l.turns ≡ inner_turns lines) × (late version ≡ l.place)
same_place version lines limit stood l =
    let turns = only_after lines boots_d (answer.Limit limit) l.turns l.after in
    (turns, same_Some (late version) l.place (sym stood.place_is ∙ subst (λ ts. placement_after None ts ≡ Some l.place) turns l.stands))

pub early-refused : (lines : List Turn) → StandsLate 1023 lines → (faults : List Fault) → ¬ MayBootLate lines faults (answer.Limit 1024)
early-refused lines stood faults may =
    let l = lacks 1023 lines faults 1024 stood may in
    let same = same_place 1023 lines 1024 stood l in
    let reached : MOST_VERSIONS ≤ kept_versions (Some (late 1023)) (versions_after None (inner_turns lines)) =
    subst (λ q. MOST_VERSIONS ≤ kept_versions (Some q) (versions_after None (inner_turns lines))) (sym same.1) (subst (λ ts. MOST_VERSIONS ≤ kept_versions (Some l.place) (versions_after None ts)) same.0 l.reached) in
    let bad : MOST_VERSIONS ≤ 1023 = subst (λ n. MOST_VERSIONS ≤ n) (kept_are 1023 lines stood) reached in
    omega (arith, bad)

-- what is false of a node isn't so of one of which it is true
absent : (f : ℕ → List ℕ → Bool) (n : ℕ) (one : Instance) → slice_get (late 1024).instances n ≡ Some one → f n one.name ≡ true → (node : ℕ) → OfNode (late 1024) node (λ name. f node name ≡ false) → node ≢ n
absent f n one known holds node fails is = let bad : true ≡ false = sym holds ∙ of_name (late 1024) (λ name. f n name ≡ false) n one known (subst (λ k. OfNode (late 1024) k (λ name. f k name ≡ false)) is fails) in cc

-- two peers that are neither a nor b would have to be c
not_two : (lines : List Turn) (names : List ℕ) → ((node : ℕ) → IsIn names node → (node ≢ 0) × (node ≢ 1)) → ArePeers None (position_after lines boots_d (answer.Limit 1024)) (late 1024) 0 (shard_at (late 1024) 0) names → ⊥
not_two lines [] others peers = let many : 2 ≤ 0 = peers.enough in omega (arith, many)
not_two lines (x ∷ []) others peers = let many : 2 ≤ 1 = peers.enough in omega (arith, many)
not_two lines (x ∷ y ∷ names) others peers =
    let first : x ≡ 2 = is_c x (others x (inl refl)) (peers.within x (inl refl)) in
    let second : y ≡ 2 = is_c y (others y (inr (inl refl))) (peers.within y (inr (inl refl))) in
    let below : IsNamedBelow (late 1024) 2 2 = subst (λ n. IsNamedBelow (late 1024) n 2) first (subst (IsNamedBelow (late 1024) x) second (peers.by_name.0 y (inl refl))) in
    let bad : Equal ≡ Less = names_below (late 1024) 2 2 _ _ refl refl below in
    cc
  where
    is_c : (node : ℕ) → (node ≢ 0) × (node ≢ 1) → IsIn (former (shard_at (late 1024) 0)) node → node ≡ 2
    is_c node other (inl is) = absurd (other.0 (sym is))
    is_c node other (inr (inl is)) = absurd (other.1 (sym is))
    is_c node other (inr (inr (inl is))) = sym is
    is_c node other (inr (inr (inr none))) = absurd none

-- d joins the only shard
only_shard : (version shard : ℕ) → IsJoinedBy (late version) (codes "d") None shard → shard ≡ 0
only_shard version zero joins = refl
only_shard version (suc shard) joins = absurd joins.among

-- the peers that the limit speaks of
late_peers : (lines : List Turn) (faults : List Fault) → StandsLate 1024 lines → MayBootLate lines faults (answer.Limit 1024) → (names : List ℕ) × ArePeers None (position_after lines boots_d (answer.Limit 1024)) (late 1024) 0 (shard_at (late 1024) 0) names
late_peers lines faults stood may =
    let p = position_after lines boots_d (answer.Limit 1024) in
    let l = lacks 1024 lines faults 1024 stood may in
    let same = same_place 1024 lines 1024 stood l in
    let joins : IsJoinedBy (late 1024) (codes "d") None l.shard = subst (λ q. IsJoinedBy q (codes "d") None l.shard) (sym same.1) l.joins in
    let peers : ArePeers None p (late 1024) l.shard (shard_at (late 1024) l.shard) l.peers = subst (λ q. ArePeers None p q l.shard (shard_at q l.shard) l.peers) (sym same.1) l.are_peers in
    (l.peers, subst (λ s. ArePeers None p (late 1024) s (shard_at (late 1024) s) l.peers) (only_shard 1024 l.shard joins) peers)

pub stopped-refused : (lines : List Turn) → StandsLate 1024 lines → is_stopped (inner_turns lines) (codes "a") ≡ true → is_stopped (inner_turns lines) (codes "b") ≡ true → (faults : List Fault) → ¬ MayBootLate lines faults (answer.Limit 1024)
stopped-refused lines stood a_stops b_stops faults may =
    let l = late_peers lines faults stood may in
    let stops : ℕ → List ℕ → Bool = λ node name. is_stopped (inner_turns lines) name in
    not_two lines l.0 (λ node m. (absent stops 0 _ refl a_stops node (l.1.running node m), absent stops 1 _ refl b_stops node (l.1.running node m))) l.1

pub idle-refused : (lines : List Turn) → StandsLate 1024 lines → idles_after (of_shard 0 (codes "a")) None (inner_turns lines) ≡ true → idles_after (of_shard 1 (codes "b")) None (inner_turns lines) ≡ true → (faults : List Fault) → ¬ MayBootLate lines faults (answer.Limit 1024)
idle-refused lines stood a_idles b_idles faults may =
    let l = late_peers lines faults stood may in
    let idles : ℕ → List ℕ → Bool = λ node name. idles_after (of_shard node name) None (inner_turns lines ++ []) in
    let all = append-nil (inner_turns lines) in
    not_two lines l.0 (λ node m. (
      absent idles 0 _ refl (ap (idles_after (of_shard 0 (codes "a")) None) all ∙ a_idles) node (l.1.begun node m),
      absent idles 1 _ refl (ap (idles_after (of_shard 1 (codes "b")) None) all ∙ b_idles) node (l.1.begun node m),
    )) l.1

pub room-refused : (lines : List Turn) → StandsLate 1024 lines → (peers : List ℕ) (faults : List Fault) → ¬ MayBootLate lines faults (answer.Available ((0, peers) ∷ []) (late 1025) 1025)
room-refused lines stood peers faults may =
    let b = answer.Available ((0, peers) ∷ []) (late 1025) 1025 in
    let told : IsBootstrapped None (position_after lines boots_d b) (codes "d") None ((0, peers) ∷ []) (late 1025) 1025 = free_due 1024 lines faults b stood (λ e. cc) (λ e. cc) may in
    let turns = only_after lines boots_d b told.stands.0 told.stands.1 in
    let same : late 1024 ≡ told.before = only_used lines boots_d b (late 1024) told.before stood.place_is told.stands in
    let room : kept_versions (Some (late 1024)) (versions_after None (inner_turns lines)) < MOST_VERSIONS =
    subst (λ q. kept_versions (Some q) (versions_after None (inner_turns lines)) < MOST_VERSIONS) (sym same) (subst (λ ts. kept_versions (Some told.before) (versions_after None ts) < MOST_VERSIONS) turns told.room) in
    let bad : 1024 < MOST_VERSIONS = subst (λ n. n < MOST_VERSIONS) (kept_are 1024 lines stood) room in
    omega (arith, bad)
