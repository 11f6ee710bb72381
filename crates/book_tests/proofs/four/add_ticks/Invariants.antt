use Rattle.std.proofs.Common.{◌≡◌, length}
use Rattle.book_tests.proofs.four.add_ticks.Given as goal

abbrev pub invariant-loop-round : goal.invariant-loop-round
invariant-loop-round g l = record {
  name : l.seat.name ≡ l.fn.seat.name;
  made : length l.seat.made ≡ l.round;
  own : length l.own ≡ 8;
  split : length l.split ≡ 8;
}
