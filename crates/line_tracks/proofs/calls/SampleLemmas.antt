-- The fields of the sample are what its turns left.
use Rattle.std.proofs.Common.{◌≡◌, ℕ, zero, suc, [], ◌∷◌, ◌++◌, refl, sym, ap, subst, ◌∙◌, inl, true, false}
use Rattle.std.specs.Prelude.{Some, None, IsTrue}
use Rattle.m3_model.specs.Levels.{needed_write}
use Rattle.m3_model.specs.declared.act.WriteLevel.TheVariants as taking
use Rattle.m3_model.specs.declared.placement.Instance.{Instance}
use Rattle.m3_outside.specs.declared.disk.Disk.{Ghosts}
use Rattle.cluster_core.proofs.ListLemmas.{some_same}
use Rattle.net_plan.specs.Fates.{FateMap, fate_of}
use Rattle.session_net.specs.declared.net.Net.{Net}
use Rattle.told_runs.specs.told_by.Sample.{name, place}
use Rattle.told_runs.proofs.told_by_proofs.SampleLemmas.{shard_zero}
use Rattle.told_runs.specs.LateSample.{lines_to_fates, lines_to_write, message}
use Rattle.told_runs.specs.transcripts.Deliveries.{IsLateMessage}
use Rattle.told_runs.specs.transcripts.Fates.{fate_in, numbering_after}
use Rattle.told_runs.specs.transcripts.Placements.{has_replica}
use Rattle.told_runs.specs.transcripts.Record.{IsTurnPosition, inner_turns}
use Rattle.line_tracks.specs.calls.Left.{FareAsSet, HoldsBack, next_delivery}
use Rattle.line_tracks.specs.calls.Sample.{SampleIsLeft, held}

abbrev node : Instance
node = record { name = name; group = name; listed = true; drained = false }

made : IsTurnPosition lines_to_write message.position
made = record { after = []; in_run = refl; stands = record { front = []; later = []; back = []; in_line = refl; others = refl; client_is = refl } }

late : IsLateMessage None (next_delivery lines_to_write) message
late = record {
  made = inl made;
  of_act = refl;
  was_sent = refl;
  call = record { id = Some name; version = None; needed = needed_write taking.Majority };
  of_call = refl;
  may_use = (inner_turns lines_to_fates ++ [], record { others = []; some_of = tt; are = refl }, refl);
  member = subst (λ s. IsTrue (has_replica (Some place) s 0)) (sym (shard_zero name)) refl;
  late = record { instance_ = node; stands = refl; holds = refl };
  not_yet = λ line m. absurd m;
}

holds : HoldsBack None lines_to_write (held ∷ [])
holds = record {
  messages = message ∷ [];
  in_order = (λ y none. absurd none, tt);
  held = (record { made = made; is_late = late; client = refl; number = refl; node = refl; shard = sym (shard_zero name); version = refl; point = refl }, tt);
}

fare : (fates : FateMap) → ((client call : ℕ) → fate_of fates (record { client = client; call = call; node = 0 }) ≡ fate_in (numbering_after 0 lines_to_write).fates client call name) → FareAsSet lines_to_write place fates
fare fates are client call zero own stands = are client call ∙ ap (λ (i : Instance). fate_in (numbering_after 0 lines_to_write).fates client call i.name) (some_same node own stands)
fare fates are client call (suc n) own stands = cc

pub sample_is_left : {D : Type 0} {G : Ghosts D} (net : Net D G) → SampleIsLeft net
sample_is_left {D} {G} net s = record {
  rules = sym s.rules;
  place = ap Some (sym s.place);
  seed = sym s.seed;
  fates = subst (λ p. FareAsSet lines_to_write p net.fates) (sym s.place) (fare net.fates s.fates);
  late = subst (HoldsBack None lines_to_write) (sym s.bag) holds;
}
