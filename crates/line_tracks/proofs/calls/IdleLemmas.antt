-- Answers of lines by which nothing came to the list: a refusal that was due, or want of memory or of room.
use Rattle.std.specs.Prelude.{◌≡◌, ℕ, ⊤, List, Option, None, false, refl}
use Rattle.m3_model.specs.Reads.{found_of}
use Rattle.m3_model.specs.declared.act.Act.{Act}
use Rattle.m3_model.specs.declared.act.Act.TheVariants as act
use Rattle.m3_model.specs.declared.answer.Answer.{Answer}
use Rattle.m3_model.specs.declared.answer.Answer.TheVariants as answer
use Rattle.m3_model.specs.declared.placement.Placement.{Placement}
use Rattle.m3_model.specs.declared.rules.MetaState.{MetaState}
use Rattle.cluster_core.specs.declared.event.Event.{Event}
use Rattle.told_runs.specs.told_by.Clocks.{sets_rules}
use Rattle.told_runs.specs.told_by.Hears.{HearsBy}
use Rattle.told_runs.specs.told_by.Openings.{sets_seed}
use Rattle.told_runs.specs.told_by.Writes.{IsUnmetWrite}
use Rattle.told_runs.specs.transcripts.Placements.{printed}
use Rattle.told_runs.specs.transcripts.Record.{TurnPosition}
use Rattle.line_tracks.specs.calls.Laws.{IsGivenUp}

-- the answer is one of these
abbrev pub IsIdle : Answer → Type 0
IsIdle answer.Memory = ⊤
IsIdle answer.Full = ⊤
IsIdle answer.Order = ⊤
IsIdle (answer.Unknown unknown) = ⊤
IsIdle (answer.Limit limit) = ⊤
IsIdle (answer.Clock moment) = ⊤
IsIdle (answer.State node) = ⊤
IsIdle _ = ⊥

pub given_up_idle : (b : Answer) → IsGivenUp b → IsIdle b
given_up_idle answer.Memory h = tt
given_up_idle answer.Full h = tt
given_up_idle _ h = absurd h

-- ---- what it doesn't say of its line

pub gives_no_acks : (b : Answer) → IsIdle b → (nodes : List ℕ) → b ≡ answer.Acks nodes → ⊥
gives_no_acks answer.Memory h nodes e = cc
gives_no_acks answer.Full h nodes e = cc
gives_no_acks answer.Order h nodes e = cc
gives_no_acks (answer.Unknown unknown) h nodes e = cc
gives_no_acks (answer.Limit limit) h nodes e = cc
gives_no_acks (answer.Clock moment) h nodes e = cc
gives_no_acks (answer.State node) h nodes e = cc
gives_no_acks _ h nodes e = absurd h

pub not_unmet_so : (a : Act) (b : Answer) → IsIdle b → ¬ IsUnmetWrite a b
not_unmet_so (act.Write ns id t v level version) answer.Memory h u = u
not_unmet_so (act.Write ns id t v level version) answer.Full h u = u
not_unmet_so (act.Write ns id t v level version) answer.Order h u = u
not_unmet_so (act.Write ns id t v level version) (answer.Unknown unknown) h u = u
not_unmet_so (act.Write ns id t v level version) (answer.Limit limit) h u = u
not_unmet_so (act.Write ns id t v level version) (answer.Clock moment) h u = u
not_unmet_so (act.Write ns id t v level version) (answer.State node) h u = u
not_unmet_so _ answer.Memory h u = u
not_unmet_so _ answer.Full h u = u
not_unmet_so _ answer.Order h u = u
not_unmet_so _ (answer.Unknown unknown) h u = u
not_unmet_so _ (answer.Limit limit) h u = u
not_unmet_so _ (answer.Clock moment) h u = u
not_unmet_so _ (answer.State node) h u = u
not_unmet_so a _ h u = absurd h

pub finds_nothing : (b : Answer) → IsIdle b → found_of b ≡ None
finds_nothing answer.Memory h = refl
finds_nothing answer.Full h = refl
finds_nothing answer.Order h = refl
finds_nothing (answer.Unknown unknown) h = refl
finds_nothing (answer.Limit limit) h = refl
finds_nothing (answer.Clock moment) h = refl
finds_nothing (answer.State node) h = refl
finds_nothing _ h = absurd h

pub sets_none : (a : Act) (b : Answer) → IsIdle b → sets_rules a b ≡ false
sets_none (act.Now now) answer.Memory h = refl
sets_none (act.Now now) answer.Full h = refl
sets_none (act.Now now) answer.Order h = refl
sets_none (act.Now now) (answer.Unknown unknown) h = refl
sets_none (act.Now now) (answer.Limit limit) h = refl
sets_none (act.Now now) (answer.Clock moment) h = refl
sets_none (act.Now now) (answer.State node) h = refl
sets_none (act.Namespace name block past future retention) answer.Memory h = refl
sets_none (act.Namespace name block past future retention) answer.Full h = refl
sets_none (act.Namespace name block past future retention) answer.Order h = refl
sets_none (act.Namespace name block past future retention) (answer.Unknown unknown) h = refl
sets_none (act.Namespace name block past future retention) (answer.Limit limit) h = refl
sets_none (act.Namespace name block past future retention) (answer.Clock moment) h = refl
sets_none (act.Namespace name block past future retention) (answer.State node) h = refl
sets_none _ answer.Memory h = refl
sets_none _ answer.Full h = refl
sets_none _ answer.Order h = refl
sets_none _ (answer.Unknown unknown) h = refl
sets_none _ (answer.Limit limit) h = refl
sets_none _ (answer.Clock moment) h = refl
sets_none _ (answer.State node) h = refl
sets_none a _ h = absurd h

pub seeds_none : (a : Act) (b : Answer) → IsIdle b → sets_seed a b ≡ false
seeds_none (act.Init rf shards seed nodes) answer.Memory h = refl
seeds_none (act.Init rf shards seed nodes) answer.Full h = refl
seeds_none (act.Init rf shards seed nodes) answer.Order h = refl
seeds_none (act.Init rf shards seed nodes) (answer.Unknown unknown) h = refl
seeds_none (act.Init rf shards seed nodes) (answer.Limit limit) h = refl
seeds_none (act.Init rf shards seed nodes) (answer.Clock moment) h = refl
seeds_none (act.Init rf shards seed nodes) (answer.State node) h = refl
seeds_none _ answer.Memory h = refl
seeds_none _ answer.Full h = refl
seeds_none _ answer.Order h = refl
seeds_none _ (answer.Unknown unknown) h = refl
seeds_none _ (answer.Limit limit) h = refl
seeds_none _ (answer.Clock moment) h = refl
seeds_none _ (answer.State node) h = refl
seeds_none a _ h = absurd h

pub prints_nothing : (b : Answer) → IsIdle b → printed b ≡ None
prints_nothing answer.Memory h = refl
prints_nothing answer.Full h = refl
prints_nothing answer.Order h = refl
prints_nothing (answer.Unknown unknown) h = refl
prints_nothing (answer.Limit limit) h = refl
prints_nothing (answer.Clock moment) h = refl
prints_nothing (answer.State node) h = refl
prints_nothing _ h = absurd h

pub gives_no_boot : (b : Answer) → IsIdle b → (available : List (ℕ × List ℕ)) (place : Placement) (version : ℕ) → b ≡ answer.Available available place version → ⊥
gives_no_boot answer.Memory h available place version e = cc
gives_no_boot answer.Full h available place version e = cc
gives_no_boot answer.Order h available place version e = cc
gives_no_boot (answer.Unknown unknown) h available place version e = cc
gives_no_boot (answer.Limit limit) h available place version e = cc
gives_no_boot (answer.Clock moment) h available place version e = cc
gives_no_boot (answer.State node) h available place version e = cc
gives_no_boot _ h available place version e = absurd h

pub hears_nothing : (start : Option MetaState) (events : List Event) (Here : ℕ → Event → Type 0) (p : TurnPosition) (a : Act) (b : Answer) → IsIdle b → HearsBy start events Here p a b
hears_nothing start events Here p (act.Init rf shards seed nodes) answer.Memory h = tt
hears_nothing start events Here p (act.Init rf shards seed nodes) answer.Full h = tt
hears_nothing start events Here p (act.Init rf shards seed nodes) answer.Order h = tt
hears_nothing start events Here p (act.Init rf shards seed nodes) (answer.Unknown unknown) h = tt
hears_nothing start events Here p (act.Init rf shards seed nodes) (answer.Limit limit) h = tt
hears_nothing start events Here p (act.Init rf shards seed nodes) (answer.Clock moment) h = tt
hears_nothing start events Here p (act.Init rf shards seed nodes) (answer.State node) h = tt
hears_nothing start events Here p (act.Stop halted) answer.Memory h = tt
hears_nothing start events Here p (act.Stop halted) answer.Full h = tt
hears_nothing start events Here p (act.Stop halted) answer.Order h = tt
hears_nothing start events Here p (act.Stop halted) (answer.Unknown unknown) h = tt
hears_nothing start events Here p (act.Stop halted) (answer.Limit limit) h = tt
hears_nothing start events Here p (act.Stop halted) (answer.Clock moment) h = tt
hears_nothing start events Here p (act.Stop halted) (answer.State node) h = tt
hears_nothing start events Here p (act.Restart halted pick) answer.Memory h = tt
hears_nothing start events Here p (act.Restart halted pick) answer.Full h = tt
hears_nothing start events Here p (act.Restart halted pick) answer.Order h = tt
hears_nothing start events Here p (act.Restart halted pick) (answer.Unknown unknown) h = tt
hears_nothing start events Here p (act.Restart halted pick) (answer.Limit limit) h = tt
hears_nothing start events Here p (act.Restart halted pick) (answer.Clock moment) h = tt
hears_nothing start events Here p (act.Restart halted pick) (answer.State node) h = tt
hears_nothing start events Here p (act.Bootstrap halted only) answer.Memory h = tt
hears_nothing start events Here p (act.Bootstrap halted only) answer.Full h = tt
hears_nothing start events Here p (act.Bootstrap halted only) answer.Order h = tt
hears_nothing start events Here p (act.Bootstrap halted only) (answer.Unknown unknown) h = tt
hears_nothing start events Here p (act.Bootstrap halted only) (answer.Limit limit) h = tt
hears_nothing start events Here p (act.Bootstrap halted only) (answer.Clock moment) h = tt
hears_nothing start events Here p (act.Bootstrap halted only) (answer.State node) h = tt
hears_nothing start events Here p _ answer.Memory h = tt
hears_nothing start events Here p _ answer.Full h = tt
hears_nothing start events Here p _ answer.Order h = tt
hears_nothing start events Here p _ (answer.Unknown unknown) h = tt
hears_nothing start events Here p _ (answer.Limit limit) h = tt
hears_nothing start events Here p _ (answer.Clock moment) h = tt
hears_nothing start events Here p _ (answer.State node) h = tt
hears_nothing start events Here p a _ h = absurd h
