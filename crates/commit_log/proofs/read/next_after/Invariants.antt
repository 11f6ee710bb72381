use Rattle.std.proofs.Common.{◌≡◌, ◌<◌, ◌≤◌, max, drop}
use Rattle.log_chunks.specs.m3_model.declared.limits.TheConstants.{NUMBER_END}
use Rattle.commit_log.specs.Contents as contents
use Rattle.commit_log.proofs.read.next_after.Given as goal

-- the greatest so far, and what is left
abbrev pub invariant-loop-number : goal.invariant-loop-number
invariant-loop-number l = record {
  least : 1 ≤ l.next;
  limit : l.next < NUMBER_END;
  rest : max l.next (contents.next_after (drop l.number-index l.numbers)) ≡ contents.next_after l.numbers;
}
