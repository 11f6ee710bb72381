use Rattle.std.proofs.Common.{◌≡◌, ◌<◌, ◌++◌, drop}
use Rattle.m3_model.specs.Ascends.{Ascends}
use Rattle.tag_query.specs.Lists.{sifted}
use Rattle.tag_query.proofs.postings.sifted.Given as goal

abbrev pub invariant-loop-x : goal.invariant-loop-x
invariant-loop-x l = record {
  kept_is : l.kept.items ++ sifted l.wanted (drop l.x-index l.a) l.rest ≡ sifted l.wanted l.a l.b;
  later_ascend : Ascends ◌<◌ (drop l.x-index l.a);
  rest_ascends : Ascends ◌<◌ l.rest;
}
