-- No events tell of an `init` that couldn't take a disk, and serve it.
use Rattle.std.proofs.Common.{◌≡◌, ℕ, List, [], ◌∷◌, length, None, refl, sym, ap, ◌∙◌, inl, inr}
use Rattle.std.specs.Prelude.{Some}
use Rattle.m3_model.proofs.MemberLemmas.{IsIn-filter_map}
use Rattle.m3_model.specs.declared.act.Act.TheVariants as act
use Rattle.m3_model.specs.declared.answer.Answer.TheVariants as answer
use Rattle.m3_model.specs.declared.turn.Turn.{Turn}
use Rattle.told_runs.specs.told_by.Lines.{position_after}
use Rattle.node_calls.specs.session_net.Runs.{slot_at}
use Rattle.first_cluster.proofs.SlotLists.{slot_replica}
use Rattle.transcripts.specs.Caused.{IsUnmadeIn}
use Rattle.transcripts.specs.Faults.{Fault, Taking}
use Rattle.transcripts.specs.Placements.{HadReplica, printed}
use Rattle.transcripts.specs.Record.{InnerTurn, inner_turns}
use Rattle.line_tracks.specs.acts.Inits.{UntakenTells, untaken_at}
use Rattle.line_tracks.specs.acts.Stands.{NoneStands}
use Rattle.line_tracks.proofs.acts.InitLemmas.{unmade_leaves}

-- no slot had a replica before
none_had : (turns : List Turn) → NoneStands turns → (shard node : ℕ) → ¬ HadReplica None (inner_turns turns) shard node
none_had turns none shard node had =
    let of = IsIn-filter_map (λ (t : InnerTurn). printed t.answer) (inner_turns turns) had.place had.known in
    let bad : None ≡ Some had.place = sym (none.prints of.0 of.1) ∙ of.2 in
    cc

-- ---- the line

pub untaken_tells : {D : Type 0} → UntakenTells D
untaken_tells {D} tells turns rf shards seed nodes name shard old new none untaken =
    let unmade : IsUnmadeIn (untaken_at turns untaken.node shard ∷ []) None (position_after turns (act.Init rf shards seed nodes) (answer.Disk name shard)) untaken.place name shard = record {
      node = untaken.node;
      named = record { instance_ = untaken.instance_; stands = untaken.named; holds = sym untaken.name_is };
      member = slot_replica untaken.place (slot_at untaken.node shard) untaken.of_slot;
      is_new = none_had turns none shard untaken.node;
      untaken = inl refl;
    } in
    unmade_leaves tells (untaken_at turns untaken.node shard ∷ []) turns rf shards seed nodes (answer.Disk name shard) none (record { no_acks = λ nodes e. cc; not_unmet = λ h. h; no_found = refl; no_rules = refl; no_seed = refl }) tt tt refl (λ available place version e. cc)
    (untaken.place, untaken.initial, unmade)
    (λ fault i. elim i as (λ _. (fault.kind ≡ Taking) × (fault.line ≡ length turns)) [ inl same ↦ (ap (λ (f : Fault). f.kind) (sym same), ap (λ (f : Fault). f.line) (sym same)) | inr none ↦ absurd none ]) (λ i. i, tt)
