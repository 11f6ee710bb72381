-- A run opens with what lay in its slots.
use Rattle.std.proofs.Common.{◌≡◌, ℕ, ◌<◌, List, [], take, length, refl, sym, subst, inl, inr, arith, true}
use Rattle.std.specs.Prelude.{◌≢◌, ◌⊎◌, Option}
use Rattle.m3_model.proofs.Lists.{take_whole}
use Rattle.m3_model.specs.declared.point.Point.{Point}
use Rattle.m3_model.specs.declared.rules.MetaState.{MetaState}
use Rattle.m3_outside.specs.Files.{Files}
use Rattle.shard_files.specs.Once.{HaveSamePoints}
use Rattle.shard_files.proofs.FilesHoldLemmas.{files_hold_one}
use Rattle.transcripts.specs.Record.{Record}
use Rattle.cluster_core.specs.Core.{AgreesWith, Opening}
use Rattle.cluster_core.specs.Legal.{Legal}
use Rattle.cluster_core.specs.Lists.{At}
use Rattle.cluster_core.specs.Replicas.{replica}
use Rattle.cluster_core.proofs.ListLemmas.{at_within}
use Rattle.cluster_core.specs.declared.event.Event.{Event}
use Rattle.cluster_core.specs.declared.event.Event.TheVariants as event
use Rattle.cluster_core.specs.declared.event.StepCall.TheVariants as call
use Rattle.cluster_core.specs.declared.event.StepReply.TheVariants as reply
use Rattle.replica_machine.specs.Openings.{BeginsAsMade}
use Rattle.transcripts.specs.Left.{OpeningStands}
use Rattle.life_ends.specs.Runs.{HoldOpening, HoldPoints}
use Rattle.life_ends.proofs.FirstLemmas.{IsFirstBegan, begun_after, one_first, so_far}
use Rattle.life_ends.proofs.SameLemmas.{same_opening}

-- ---- points of files

pub same_refl : (ps : List Point) → HaveSamePoints ps ps
same_refl ps p = (λ h. h, λ h. h)

pub same_on : (ps qs rs : List Point) → HaveSamePoints ps qs → HaveSamePoints qs rs → HaveSamePoints ps rs
same_on ps qs rs a b p = (λ h. (b p).0 ((a p).0 h), λ h. (a p).1 ((b p).1 h))

pub same_back : (ps qs : List Point) → HaveSamePoints ps qs → HaveSamePoints qs ps
same_back ps qs a p = ((a p).1, (a p).0)

-- files have these points and no others, in one way
pub these_same : (ps qs : List Point) (files : Files) → HoldPoints ps files → HoldPoints qs files → HaveSamePoints ps qs
these_same ps qs files a b =
    let one = files_hold_one a.all b.all a.tenure b.tenure a.fence b.fence files a.held b.held in
    same_on ps a.all qs a.same (subst (λ (xs : List Point). HaveSamePoints xs qs) (sym one.0) (same_back qs b.all b.same))

-- ---- each slot

module _ (past : List Record) (start : Option MetaState) (events : List Event) (legal : Legal true events) (base : ℕ → ℕ → Files → Type 0)
    (stand : (files : ℕ → ℕ → Files) → ((n s : ℕ) → base n s (files n s)) → (opening : Opening) × HoldOpening files opening × OpeningStands past start opening)
    (begins : (i n s tenure fence : ℕ) (points : List Point) → At events i (event.Step n s (call.Begin tenure) (reply.Began fence points)) → (replica n s (take i events)).begun ≡ [] → (tried : List ℕ) × BeginsAsMade (base n s) tried fence points)
    (files : ℕ → ℕ → Files) (mine : (n s : ℕ) → (replica n s events).begun ≡ [] → base n s (files n s))
    (points_of : ℕ → ℕ → List Point) (these : (n s : ℕ) → (replica n s events).begun ≡ [] → HoldPoints (points_of n s) (files n s)) where
  -- the files with which the slot opens, and their points as its first begin has them
  record SlotOpens (n s : ℕ) : Type 0 where
    lay : Files
    was : base n s lay
    points : List Point
    held : HoldPoints points lay
    agrees : (i : ℕ) (b : IsFirstBegan events n s i) → b.points ≡ points
    unbegun : (replica n s events).begun ≡ [] → points ≡ points_of n s

  whole : take (length events) events ≡ events
  whole = take_whole events

  never : (n s : ℕ) → (replica n s (take (length events) events)).begun ≡ [] → (replica n s events).begun ≡ []
  never n s none = subst (λ (es : List Event). (replica n s es).begun ≡ []) whole none

  began_some : (n s i : ℕ) → IsFirstBegan events n s i → (replica n s events).begun ≢ []
  began_some n s i f =
      subst (λ (es : List Event). (replica n s es).begun ≢ []) whole
      (begun_after events legal n s i (length events) f (at_within events i (event.Step n s (call.Begin f.tenure) (reply.Began f.fence f.points)) f.there) (omega arith))

  slot_by : (n s : ℕ) → ((replica n s (take (length events) events)).begun ≡ []) ⊎ ((i : ℕ) × (i < length events) × IsFirstBegan events n s i) → SlotOpens n s
  slot_by n s (inl none) =
      let no = never n s none in
      record { lay = files n s; was = mine n s no; points = points_of n s; held = these n s no; agrees = λ i b. absurd (began_some n s i b no); unbegun = λ other. refl }
  slot_by n s (inr f) =
      let b = f.2 in
      let m = (begins f.0 n s b.tenure b.fence b.points b.there b.none).1 in
      record {
        lay = m.before;
        was = m.was;
        points = b.points;
        held = record { all = m.points_before; tenure = m.tenure_before; fence = m.fence_before; held = m.held_before; same = m.once.same };
        agrees = λ i c. one_first events legal n s i f.0 c b;
        unbegun = λ none. absurd (began_some n s f.0 b none);
      }

  slot_opens : (n s : ℕ) → SlotOpens n s
  slot_opens n s = slot_by n s (so_far events legal n s (length events) (omega arith))

  -- ---- the opening

  pub opening : Opening
  opening n s = (slot_opens n s).points

  pub agrees : AgreesWith events opening
  unfolding opening slot_opens
  agrees i n s tenure fence points there none = (slot_opens n s).agrees i (record { tenure = tenure; fence = fence; points = points; there = there; none = none })

  pub opens_unbegun : (n s : ℕ) → (replica n s events).begun ≡ [] → opening n s ≡ points_of n s
  unfolding opening slot_opens
  opens_unbegun n s none = (slot_opens n s).unbegun none

  pub opening_stands : OpeningStands past start opening
  unfolding opening slot_opens
  opening_stands =
      let lay = λ (n s : ℕ). (slot_opens n s).lay in
      let found = stand lay (λ n s. (slot_opens n s).was) in
      same_opening past start found.0 opening (λ n s. these_same (opening n s) (found.0 n s) (lay n s) (slot_opens n s).held (found.1 n s)) found.2
