-- A line printed the placement of the next version, and the one before it is kept: which placements are kept then, and which stands.
use Rattle.std.proofs.Common.{◌≡◌, ◌≤◌, ◌+◌, ℕ, suc, List, [], ◌∷◌, ◌++◌, length, refl, sym, ap, subst, ◌∙◌, inl, inr, arith, length-append}
use Rattle.std.specs.Prelude.{Option, Some}
use Rattle.std.proofs.lemmas.Option.{same_Some}
use Rattle.m3_model.specs.Members.{IsIn}
use Rattle.m3_model.specs.declared.act.Act.{Act}
use Rattle.m3_model.specs.declared.answer.Answer.{Answer}
use Rattle.m3_model.specs.declared.placement.Placement.{Placement}
use Rattle.m3_model.specs.declared.rules.MetaState.{MetaState}
use Rattle.m3_model.specs.declared.turn.Turn.{Turn}
use Rattle.m3_model.proofs.MemberLemmas.{IsIn-append_cases, IsIn-append_left, IsIn-append_right}
use Rattle.m3_outside.specs.declared.disk.Disk.{Ghosts}
use Rattle.line_tracks.proofs.calls.KeepLemmas.{newest_next}
use Rattle.told_runs.proofs.told_by_proofs.TurnLemmas.{inner-append}
use Rattle.transcripts.specs.Placements.{later_placement, placement_after, placements, printed, start_placement}
use Rattle.transcripts.specs.Record.{InnerTurn, inner_turns, line_of}
use Rattle.transcripts.proofs.PlacementLemmas.{known_more, known_printed}
use Rattle.node_calls.specs.cluster_members.Kept.{IsKept}
use Rattle.node_calls.specs.cluster_members.declared.members.Members.{Members}
use Rattle.line_tracks.specs.acts.Stands.{AreKept, ClusterStands}
use Rattle.line_tracks.proofs.acts.CountLemmas.{count_next}
use Rattle.line_tracks.proofs.acts.StandLemmas.{known_or_printed, newer_next}

module _ {D : Type 0} {G : Ghosts D} (start : Option MetaState) (turns : List Turn) (old new : Members D G) (stands : ClusterStands start turns old) (a : Act) (b : Answer) (next : Placement) (shows : printed b ≡ Some next) (later : next.version ≡ suc old.net.state.place.version)
    (past_is : new.past.items ≡ old.past.items ++ old.net.state.place ∷ []) where
  abbrev place : Placement
  place = old.net.state.place

  abbrev longer : List Turn
  longer = turns ++ line_of a b ∷ []

  abbrev turn : InnerTurn
  turn = record { act = a; answer = b }

  pub in_past : (q : Placement) → IsIn new.past.items q → IsKept place old.past.items q
  in_past q i = elim (IsIn-append_cases old.past.items (place ∷ []) q (subst (λ xs. IsIn xs q) past_is i)) as (λ _. IsKept place old.past.items q) [
    | inl before ↦ inr before
    | inr last ↦ elim last as (λ _. IsKept place old.past.items q) [ inl is ↦ inl (sym is) | inr none ↦ absurd none ]
  ]

  pub past_has : (q : Placement) → IsKept place old.past.items q → IsIn new.past.items q
  past_has q (inl is) = subst (λ xs. IsIn xs q) (sym past_is) (IsIn-append_right old.past.items (place ∷ []) q (inl (sym is)))
  past_has q (inr i) = subst (λ xs. IsIn xs q) (sym past_is) (IsIn-append_left old.past.items (place ∷ []) q i)

  -- none of them has more nodes than the one before
  pub few_before : (q : Placement) → IsKept place old.past.items q → length q.instances ≤ length place.instances
  few_before q (inl is) = subst (λ (p : Placement). length p.instances ≤ length place.instances) (sym is) (omega arith)
  few_before q (inr i) = stands.kept.fewer q i

  known_is : (q : Placement) → IsIn (placements start (inner_turns longer)) q → IsKept next new.past.items q
  known_is q i =
      elim (known_or_printed start (inner_turns turns) (inner_turns (line_of a b ∷ [])) q (subst (λ (ts : List InnerTurn). IsIn (placements start ts) q) (inner-append turns (line_of a b ∷ [])) i)) as (λ _. IsKept next new.past.items q) [
        | inl before ↦ inr (past_has q ((stands.kept.are q).0 before))
        | inr last ↦ elim last.1 as (λ _. IsKept next new.past.items q) [
          | inl same ↦ inl (sym (same_Some next q (sym shows ∙ ap (λ (x : InnerTurn). printed x.answer) same ∙ last.2)))
          | inr nothing ↦ absurd nothing
        ]
      ]

  is_known : (q : Placement) → IsKept next new.past.items q → IsIn (placements start (inner_turns longer)) q
  is_known q (inl is) =
      subst (λ (ts : List InnerTurn). IsIn (placements start ts) q) (sym (inner-append turns (line_of a b ∷ [])))
      (known_printed start (inner_turns turns ++ inner_turns (line_of a b ∷ [])) turn q (IsIn-append_right (inner_turns turns) (inner_turns (line_of a b ∷ [])) turn (inl refl)) (shows ∙ ap (λ (p : Placement). Some p) (sym is)))
  is_known q (inr i) =
      subst (λ (ts : List InnerTurn). IsIn (placements start ts) q) (sym (inner-append turns (line_of a b ∷ []))) (known_more start (inner_turns turns) (inner_turns (line_of a b ∷ [])) q ((stands.kept.are q).1 (in_past q i)))

  pub kept_then : length place.instances ≤ length next.instances → AreKept start longer next new.past.items
  kept_then most = record {
    are = λ q. (known_is q, is_known q);
    count = count_next start turns a b place next (length old.past.items) later stands.kept.count ∙ ap suc (sym (ap length past_is ∙ length-append old.past.items (place ∷ []) ∙ one_more (length old.past.items)));
    fewer = λ q i. let few = few_before q (in_past q i) in omega (arith, few, most);
  }
    where
      one_more : (n : ℕ) → n + 1 ≡ suc n
      one_more n = omega arith

  pub place_then : placement_after (start_placement start) (inner_turns longer) ≡ Some next
  place_then = newest_next start turns a b ∙ ap (λ o. later_placement o (placement_after (start_placement start) (inner_turns turns))) shows ∙ ap (later_placement (Some next)) stands.left.place ∙ ap (λ (p : Placement). Some p) (newer_next next place later)
