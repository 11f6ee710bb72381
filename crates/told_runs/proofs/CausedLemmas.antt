-- A run that a legal list tells of is caused.
use Rattle.std.proofs.Common.{◌≡◌, List, Bool, subst}
use Rattle.std.specs.Prelude.{IsTrue, None}
use Rattle.m3_model.specs.Calls.{is_call}
use Rattle.cluster_core.specs.Legal.{Legal}
use Rattle.cluster_core.specs.declared.event.Event.{Event}
use Rattle.transcripts.specs.Deliveries.{LateMessage}
use Rattle.transcripts.specs.Faults.{Fault}
use Rattle.transcripts.specs.Placements.{printed}
use Rattle.transcripts.specs.Record.{Life, TurnPosition, IsTurnPosition}
use Rattle.told_by.specs.Told.{ToldBy}
use Rattle.told_moves.proofs.OwnLemmas.{not_owned_said, streams_owned}
use Rattle.told_moves.proofs.StaleLemmas.{stale_said}
use Rattle.told_runs.specs.Laws.{IsCausedWhereTold, IsGivenAlone, IsServedRun}
use Rattle.told_runs.proofs.AnswerLemmas.{AreKnown, caused}
use Rattle.told_runs.proofs.KnownLemmas.{are_known}
use Rattle.told_runs.proofs.OrderLemmas.{in_order}
use Rattle.told_runs.proofs.OwnsLemmas.{owns}
use Rattle.told_runs.proofs.SilentLemmas.{call_silent}

-- what is known of the run's calls and deliveries
pub known_run : {tells : Bool} → (life : Life) (events : List Event) → Legal tells events → (told : ToldBy life.present.start life.present.turns events) → (taking : List Fault) (delivered : TurnPosition → List LateMessage) → IsServedRun tells taking delivered life events told
    → AreKnown tells life.present.start life.present.turns events told
known_run life events legal told taking delivered served =
    let run = life.present in
    let order = in_order taking run.start run.turns events legal told (served.answers).each served.order in
    let silent : (q : TurnPosition) → IsTurnPosition run.turns q → IsTrue (is_call q.turn.act) → printed q.turn.answer ≡ None = λ q at calls. call_silent taking run.start q ((told.spans).to q) calls ((served.answers).each q at) in
    are_known run.start run.turns events legal told order served.halts served.opens (λ is. owns run.start run.turns events (subst (λ (known : Bool). Legal known events) is legal) told order (served.owned is)) not_owned_said stale_said streams_owned silent

pub told_caused : {tells : Bool} → IsCausedWhereTold tells
told_caused life events legal told taking delivered served =
    let run = life.present in
    caused taking run.start run.turns events legal told (in_order taking run.start run.turns events legal told (served.answers).each served.order) served.halts (known_run life events legal told taking delivered served) life.past served.bound run.unanswered delivered served.answers

pub given_alone : {tells : Bool} → IsGivenAlone tells
given_alone life events legal told taking delivered served k i place done less many low high there =
    let run = life.present in
    ((in_order taking run.start run.turns events legal told (served.answers).each served.order).places.beside k i place done less many low high there).0
