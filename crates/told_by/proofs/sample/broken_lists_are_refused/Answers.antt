use Rattle.told_by.proofs.BrokenMoveLemmas.{moment_within, peer_unstreamed, place_unprinted, printed_twice}
use Rattle.told_by.proofs.BrokenLemmas.{lost_send, never_placed, nobody_asks, nobody_sends, nobody_stops, other_puts}
use Rattle.told_by.proofs.sample.broken_lists_are_refused.Goals as goal

pub returns-clause-nobody_sent : goal.returns-clause-nobody_sent
returns-clause-nobody_sent c = nobody_sends

pub returns-clause-lost_send : goal.returns-clause-lost_send
returns-clause-lost_send c = lost_send

pub returns-clause-nobody_stopped : goal.returns-clause-nobody_stopped
returns-clause-nobody_stopped c = nobody_stops

pub returns-clause-never_placed : goal.returns-clause-never_placed
returns-clause-never_placed c = never_placed

pub returns-clause-other_put : goal.returns-clause-other_put
returns-clause-other_put c = other_puts

pub returns-clause-nobody_asked : goal.returns-clause-nobody_asked
returns-clause-nobody_asked c = nobody_asks

pub returns-clause-within_read : goal.returns-clause-within_read
returns-clause-within_read c = moment_within

pub returns-clause-unstreamed : goal.returns-clause-unstreamed
returns-clause-unstreamed c = peer_unstreamed

pub returns-clause-never_printed : goal.returns-clause-never_printed
returns-clause-never_printed c = place_unprinted

pub returns-clause-printed_twice : goal.returns-clause-printed_twice
returns-clause-printed_twice c = printed_twice
