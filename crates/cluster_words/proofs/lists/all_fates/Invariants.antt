use Rattle.std.proofs.Common.{ℕ, List}
use Rattle.m3_model.specs.Limits.{IsFate}
use Rattle.m3_model.specs.Members.{IsIn}
use Rattle.m3_model.specs.declared.act.Fate.{Fate}
use Rattle.cluster_words.proofs.lists.all_fates.Given as goal

abbrev pub invariant-loop-word : goal.invariant-loop-word
invariant-loop-word l = (one : ℕ × ℕ × List ℕ × Fate) → IsIn l.made.items one → IsFate one
