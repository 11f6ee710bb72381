-- What a run leaves stands for the life with it.
use Rattle.std.proofs.Common.{◌≡◌, ℕ, suc, List, [], ◌∷◌, ◌++◌, take, length, refl, sym, ap, ◌∙◌, subst, inl, inr, arith, true}
use Rattle.std.specs.Prelude.{◌≢◌, ◌⊎◌, Option, Some, None}
use Rattle.std.proofs.lemmas.Option.{same_Some}
use Rattle.m3_model.proofs.Lists.{take_whole}
use Rattle.m3_model.specs.Members.{IsIn}
use Rattle.m3_model.specs.Reads.{Covers}
use Rattle.m3_model.specs.Rules.{HasExpired}
use Rattle.m3_model.specs.declared.point.Point.{Point}
use Rattle.m3_model.specs.declared.rules.MetaState.{MetaState}
use Rattle.m3_model.specs.declared.rules.Rules.{Rules}
use Rattle.m3_model.specs.declared.turn.Request.{Request}
use Rattle.m3_model.specs.declared.turn.Turn.{Turn}
use Rattle.m3_outside.specs.DiskState.{DiskState}
use Rattle.m3_outside.specs.Files.{Files}
use Rattle.shard_files.specs.Once.{HaveSamePoints}
use Rattle.transcripts.specs.Record.{Record}
use Rattle.cluster_core.specs.Core.{Opening, IsLiveUpTo, held_by}
use Rattle.cluster_core.specs.Earlier.{clock_after, last_clock}
use Rattle.cluster_core.specs.Legal.{Legal}
use Rattle.cluster_core.specs.Lists.{At}
use Rattle.cluster_core.specs.Replicas.{IsGone, replica}
use Rattle.cluster_core.specs.declared.event.Event.{Event}
use Rattle.cluster_core.specs.declared.event.Event.TheVariants as event
use Rattle.cluster_core.specs.declared.event.StepCall.TheVariants as call
use Rattle.cluster_core.specs.declared.event.StepReply.TheVariants as reply
use Rattle.placement_core.proofs.ListLemmas.{each-from_All}
use Rattle.cluster_core.proofs.HeldLemmas.{covers_here}
use Rattle.cluster_core.proofs.ListLemmas.{along, at_within, fold_suc}
use Rattle.cluster_core.proofs.TraceLemmas.{not_gone}
use Rattle.replica_machine.specs.Machines.{IsHeldBy}
use Rattle.replica_machine.specs.Openings.{BeginsAsMade, HoldAsMade}
use Rattle.told_by.specs.Leaves.{HoldsAgain, IsLeftState, MayBeOpen}
use Rattle.transcripts.specs.Left.{OpeningStands}
use Rattle.told_by.specs.Told.{ToldBy}
use Rattle.told_by.proofs.ClockLemmas.{NotAbove, clock_cases, clocks_ascend, expired_later, not_above_same}
use Rattle.told_by.proofs.LeaveLemmas.{stands_again}
use Rattle.life_ends.specs.Lies.{MayLie}
use Rattle.life_ends.specs.Runs.{HoldOpening, HoldPoints, RunLeavesStanding, RunOpensStanding}
use Rattle.life_ends.proofs.OpenLemmas.{agrees, opening, opening_stands, opens_unbegun, same_refl}

-- ---- the last Clock

-- none in a legal list is above it
clocks_below : (events : List Event) → Legal true events → (left : Rules) → last_clock events ≡ Some left → (i : ℕ) (r : Rules) → At events i (event.Clock r) → NotAbove r left
clocks_below events legal left last i r there =
    let inside = at_within events i (event.Clock r) there in
    let found = along events (λ k. (w : Rules) × (last_clock (take k events) ≡ Some w) × NotAbove r w) (suc i)
    (r, fold_suc clock_after None events i (event.Clock r) there, not_above_same r r refl)
    (λ k e low at was.
    elim (clock_cases (last_clock (take k events)) e) as (λ _. (w : Rules) × (last_clock (take (suc k) events) ≡ Some w) × NotAbove r w) [
      | inl same ↦ (was.0, fold_suc clock_after None events k e at ∙ same ∙ was.1, was.2)
      | inr own ↦ (own.0, fold_suc clock_after None events k e at ∙ own.2, clocks_ascend events legal i k r own.0 (omega (arith, low)) there (at ∙ ap Some own.1))
    ])
    (length events) (omega (arith, inside)) (omega arith) in
    let same : found.0 ≡ left = same_Some found.0 left (sym found.1 ∙ ap last_clock (take_whole events) ∙ last) in
    subst (NotAbove r) same found.2

-- ---- what a slot holds at the end

module _ (past : List Record) (start : Option MetaState) (events : List Event) (legal : Legal true events) (base : ℕ → ℕ → Files → Type 0)
    (ends : ℕ → ℕ → Files)
    (begun : (n s : ℕ) → (replica n s events).begun ≢ [] → IsHeldBy (replica n s events) (ends n s))
    (unbegun : (n s : ℕ) → (replica n s events).begun ≡ [] → HoldAsMade (base n s) (replica n s events).tried (ends n s)) where
  -- what lay in the slot, where it didn't begin, and the points that are there now
  pub record SlotEnds (n s : ℕ) : Type 0 where
    lay : Files
    lay_points : List Point
    mine : (replica n s events).begun ≡ [] → base n s lay
    these : (replica n s events).begun ≡ [] → HoldPoints lay_points lay
    points : List Point
    now : HoldPoints points (ends n s)
    source : (replica n s events).begun ≢ [] → (q : Point) → IsIn points q → IsIn (replica n s events).sure q ⊎ IsIn (replica n s events).doubt q
    all_there : (replica n s events).begun ≢ [] → (q : Point) → IsIn (replica n s events).sure q → ¬ IsGone (replica n s events) q → Covers points q
    as_it_lay : (replica n s events).begun ≡ [] → HaveSamePoints points lay_points

  slot_by : (n s : ℕ) → ((replica n s events).begun ≡ []) ⊎ ((replica n s events).begun ≢ []) → SlotEnds n s
  slot_by n s (inl none) =
      let u = unbegun n s none in
      record {
        lay = u.before;
        lay_points = u.points_before;
        mine = λ _. u.was;
        these = λ _. record { all = u.points_before; tenure = u.tenure_before; fence = u.fence_before; held = u.held_before; same = same_refl u.points_before };
        points = u.points;
        now = record { all = u.points; tenure = u.tenure; fence = u.fence; held = u.held; same = same_refl u.points };
        source = λ some. absurd (some none);
        all_there = λ some. absurd (some none);
        as_it_lay = λ _. u.same;
      }
  slot_by n s (inr some) =
      let b = begun n s some in
      record {
        lay = ends n s;
        lay_points = [];
        mine = λ none. absurd (some none);
        these = λ none. absurd (some none);
        points = b.points;
        now = record { all = b.points; tenure = b.tenure; fence = b.fence; held = b.held; same = same_refl b.points };
        source = λ _ q h. each-from_All (λ p. IsIn (replica n s events).sure p ⊎ IsIn (replica n s events).doubt p) b.points b.source q h;
        all_there = λ _ q h alive. each-from_All (λ p. ¬ IsGone (replica n s events) p → Covers b.points p) (replica n s events).sure b.all_there q h alive;
        as_it_lay = λ none. absurd (some none);
      }

  began_or : (n s : ℕ) → ((replica n s events).begun ≡ []) ⊎ ((replica n s events).begun ≢ [])
  began_or n s = by (replica n s events).begun
    where
      by : (xs : List ℕ) → (xs ≡ []) ⊎ (xs ≢ [])
      by [] = inl refl
      by (x ∷ xs) = inr (λ e. cc)

  pub slot_ends : (n s : ℕ) → SlotEnds n s
  slot_ends n s = slot_by n s (began_or n s)

-- ---- the next opening

module _ (past : List Record) (start : Option MetaState) (turns : List Turn) (unanswered : Option Request) (events more : List Event) (left : MetaState) (base : ℕ → ℕ → Files → Type 0)
    (legal : Legal true (events ++ more)) (told : ToldBy start turns events) (may_be : (e : Event) → IsIn more e → MayBeOpen unanswered left.rules e) (is_left : IsLeftState start turns (events ++ more) left)
    (stand : (files : ℕ → ℕ → Files) → ((n s : ℕ) → base n s (files n s)) → (opening : Opening) × HoldOpening files opening × OpeningStands past start opening)
    (begins : (i n s tenure fence : ℕ) (points : List Point) → At (events ++ more) i (event.Step n s (call.Begin tenure) (reply.Began fence points)) → (replica n s (take i (events ++ more))).begun ≡ [] → (tried : List ℕ) × BeginsAsMade (base n s) tried fence points)
    (ends : ℕ → ℕ → Files)
    (begun : (n s : ℕ) → (replica n s (events ++ more)).begun ≢ [] → IsHeldBy (replica n s (events ++ more)) (ends n s))
    (unbegun : (n s : ℕ) → (replica n s (events ++ more)).begun ≡ [] → HoldAsMade (base n s) (replica n s (events ++ more)).tried (ends n s)) where
  abbrev all : List Event
  all = events ++ more

  abbrev end_at : (n s : ℕ) → SlotEnds past start all legal base ends begun unbegun n s
  end_at n s = slot_ends past start all legal base ends begun unbegun n s

  abbrev opened : Opening
  opened = opening past start all legal base stand begins (λ n s. (end_at n s).lay) (λ n s. (end_at n s).mine) (λ n s. (end_at n s).lay_points) (λ n s. (end_at n s).these)

  abbrev next : Opening
  next n s = (end_at n s).points

  -- a point that hasn't expired isn't gone
  still_there : (n s : ℕ) (p : Point) → ¬ HasExpired left.rules p → ¬ IsGone (replica n s all) p
  still_there n s p alive gone =
      let live : IsLiveUpTo all (length all) p = λ j r lt there expired. alive (expired_later r left.rules p (clocks_below all legal left.rules is_left.clock j r there) expired) in
      not_gone all legal n s (length all) (length all) p (omega arith) (omega arith) live (subst (λ es. IsGone (replica n s es) p) (sym (take_whole all)) gone)

  held_there : (n s : ℕ) (xs : List ℕ) → (replica n s all).begun ≡ xs → (p : Point) → IsIn (held_by (opened n s) (replica n s all) xs) p → ¬ HasExpired left.rules p → Covers (next n s) p
  held_there n s [] none p h alive =
      let same : opened n s ≡ (end_at n s).lay_points =
      opens_unbegun past start all legal base stand begins (λ n s. (end_at n s).lay) (λ n s. (end_at n s).mine) (λ n s. (end_at n s).lay_points) (λ n s. (end_at n s).these) n s none in
      covers_here p (next n s) (((end_at n s).as_it_lay none p).1 (subst (λ (ps : List Point). IsIn ps p) same h))
  held_there n s (x ∷ xs) some p h alive = (end_at n s).all_there (λ none. bad none) p h (still_there n s p alive)
    where
      bad : (replica n s all).begun ≡ [] → ⊥
      bad none = let clash : ◌≡◌ {A = List ℕ} [] (x ∷ xs) = sym none ∙ some in cc

  from_there : (n s : ℕ) (xs : List ℕ) → (replica n s all).begun ≡ xs → (p : Point) → IsIn (next n s) p → IsIn (replica n s all).sure p ⊎ (IsIn (replica n s all).doubt p ⊎ IsIn (opened n s) p)
  from_there n s [] none p h =
      let same : opened n s ≡ (end_at n s).lay_points =
      opens_unbegun past start all legal base stand begins (λ n s. (end_at n s).lay) (λ n s. (end_at n s).mine) (λ n s. (end_at n s).lay_points) (λ n s. (end_at n s).these) n s none in
      inr (inr (subst (λ (ps : List Point). IsIn ps p) (sym same) (((end_at n s).as_it_lay none p).0 h)))
  from_there n s (x ∷ xs) some p h =
      elim ((end_at n s).source (λ none. bad none) p h) as (λ _. IsIn (replica n s all).sure p ⊎ (IsIn (replica n s all).doubt p ⊎ IsIn (opened n s) p)) [ inl sure ↦ inl sure | inr doubt ↦ inr (inl doubt) ]
    where
      bad : (replica n s all).begun ≡ [] → ⊥
      bad none = let clash : ◌≡◌ {A = List ℕ} [] (x ∷ xs) = sym none ∙ some in cc

  holds_again : HoldsAgain all opened left next
  holds_again = record { all_there = λ n s p h alive. held_there n s (replica n s all).begun refl p h alive; nothing_else = λ n s p h. from_there n s (replica n s all).begun refl p h }

  pub next_stands : (opening : Opening) × HoldOpening ends opening × OpeningStands (past ++ record { start = start; turns = turns; unanswered = unanswered } ∷ []) (Some left) opening
  next_stands = (
    next,
    λ n s. (end_at n s).now,
    stands_again past start turns unanswered events more opened left next legal
        (agrees past start all legal base stand begins (λ n s. (end_at n s).lay) (λ n s. (end_at n s).mine) (λ n s. (end_at n s).lay_points) (λ n s. (end_at n s).these))
        (opening_stands past start all legal base stand begins (λ n s. (end_at n s).lay) (λ n s. (end_at n s).mine) (λ n s. (end_at n s).lay_points) (λ n s. (end_at n s).these))
        told may_be is_left holds_again,
  )

-- ---- the laws

pub run_leaves_standing : {D : Type 0} (state : D → DiskState) → RunLeavesStanding state
run_leaves_standing {D} state past start turns unanswered events more left lay now legal told may_be is_left stand begins ends files mine =
    next_stands past start turns unanswered events more left (λ n s. MayLie state (lay n s)) legal told may_be is_left stand begins files (λ n s. (ends n s (files n s) (mine n s)).begun) (λ n s. (ends n s (files n s) (mine n s)).unbegun)

pub run_opens_standing : {D : Type 0} (state : D → DiskState) → RunOpensStanding state
run_opens_standing {D} state past start events lay files legal stand mine begins =
    let found = stand files mine in
    record {
      opening = opening past start events legal (λ n s. MayLie state (lay n s)) stand begins files (λ n s none. mine n s) found.0 (λ n s none. found.1 n s);
      agrees = agrees past start events legal (λ n s. MayLie state (lay n s)) stand begins files (λ n s none. mine n s) found.0 (λ n s none. found.1 n s);
      stands = opening_stands past start events legal (λ n s. MayLie state (lay n s)) stand begins files (λ n s none. mine n s) found.0 (λ n s none. found.1 n s);
    }
