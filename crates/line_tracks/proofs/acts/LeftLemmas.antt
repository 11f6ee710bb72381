-- What the turns left is left still by a turn that prints the placement which stands, or none, and that sets nothing.
use Rattle.std.proofs.Common.{◌≡◌, ℕ, List, [], ◌∷◌, ◌++◌, sym, ap, subst, ◌∙◌}
use Rattle.std.specs.Prelude.{Option, Some, None, IsTrue}
use Rattle.m3_model.specs.declared.act.Act.{Act}
use Rattle.m3_model.specs.declared.answer.Answer.{Answer}
use Rattle.m3_model.specs.declared.placement.Placement.{Placement}
use Rattle.m3_model.specs.declared.rules.MetaState.{MetaState}
use Rattle.m3_model.specs.declared.rules.Rules.{Rules}
use Rattle.m3_model.specs.declared.turn.Reply.TheVariants as reply
use Rattle.m3_model.specs.declared.turn.Request.TheVariants as request
use Rattle.m3_model.specs.declared.turn.Turn.{Turn}
use Rattle.m3_outside.specs.declared.disk.Disk.{Ghosts}
use Rattle.node_calls.specs.session_net.declared.net.Net.{Net}
use Rattle.transcripts.specs.Deliveries.{delivers_nothing}
use Rattle.transcripts.specs.Fates.{fates_set, fate_in}
use Rattle.transcripts.specs.Placements.{later_placement, printed, seed_after, seed_by}
use Rattle.transcripts.specs.Record.{inner_turns, line_of}
use Rattle.transcripts.specs.Rules.{rules_after, rules_by, start_rules}
use Rattle.line_tracks.specs.calls.Keeps.{FieldsStay}
use Rattle.line_tracks.specs.calls.Left.{FareAsSet, HoldsBack, NetIsLeftBy}
use Rattle.line_tracks.proofs.calls.KeepLemmas.{holds_on, newest_next, rules_next, seed_next}
use Rattle.line_tracks.proofs.acts.KnownLemmas.{fates_kept}

-- the turn sets neither the rules nor the seed nor the fates, delivers nothing, and prints this placement or none
pub record SetsNoMore (place : Placement) (a : Act) (b : Answer) : Type 0 where
  pub rules : (x : Rules) → rules_by a b x ≡ x
  pub place_is : later_placement (printed b) (Some place) ≡ Some place
  pub seed : (x : ℕ) → seed_by a b x ≡ x
  pub fates : fates_set (request.One a) (reply.One b) ≡ None
  pub quiet : IsTrue (delivers_nothing (line_of a b))

module _ {D : Type 0} {G : Ghosts D} (start : Option MetaState) (turns : List Turn) (a : Act) (b : Answer) (old new : Net D G) (sets : SetsNoMore old.state.place a b) (left : NetIsLeftBy start turns old) (stay : FieldsStay old new) (bag : new.bag ≡ old.bag) where
  abbrev pub longer : List Turn
  longer = turns ++ line_of a b ∷ []

  pub left_still : NetIsLeftBy start longer new
  left_still = record {
    rules = rules_next start turns a b ∙ sets.rules (rules_after (start_rules start) (inner_turns turns)) ∙ left.rules ∙ ap (λ s. s.rules) (sym stay.state);
    place = newest_next start turns a b ∙ ap (later_placement (printed b)) left.place ∙ sets.place_is ∙ ap (λ s. Some s.place) (sym stay.state);
    seed = seed_next start turns a b ∙ sets.seed (seed_after start (inner_turns turns)) ∙ left.seed ∙ ap (λ s. s.seed) (sym stay.state);
    fates = subst (λ s. FareAsSet longer s.place new.fates) (sym stay.state)
        (subst (FareAsSet longer old.state.place) (sym stay.fates) (λ client call node own stands. left.fates client call node own stands ∙ ap (λ list. fate_in list client call own.name) (sym (fates_kept turns a b sets.fates))));
    late = subst (HoldsBack start longer) (sym bag) (holds_on start turns a b sets.quiet old.bag left.late);
  }
