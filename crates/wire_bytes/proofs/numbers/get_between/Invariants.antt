use Rattle.std.proofs.Common.{◌≡◌, ◌-◌, ◌/◌, ◌^◌, ◌<◌, ◌≤◌, length, take}
use Rattle.byteorder.specs.Endian.{big_bytes}
use Rattle.wire_bytes.proofs.numbers.get_between.Given as goal

abbrev pub invariant-loop-i : goal.invariant-loop-i
invariant-loop-i l = record {
  there : l.i ≤ length l.rest;
  bytes : big_bytes l.i l.n ≡ take l.i l.rest;
  small : l.n < 256 ^ l.i;
  least : l.low / 256 ^ (l.width - l.i) ≤ l.n;
  most : l.n ≤ l.high / 256 ^ (l.width - l.i);
}
