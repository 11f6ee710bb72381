use Rattle.std.proofs.Common.{◌≡◌, drop}
use Rattle.line_lists.specs.Fates.{messages_differ}
use Rattle.line_lists.proofs.Messages.{are_new}
use Rattle.line_lists.proofs.fates.messages_differ.Given as goal

abbrev pub invariant-loop-fate : goal.invariant-loop-fate
invariant-loop-fate l = are_new l.seen (drop l.fate-index l.fates) ≡ messages_differ l.fates
