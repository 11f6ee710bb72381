use Rattle.std.proofs.Common.{ℕ, List, sym, subst}
use Rattle.m3_model.specs.Limits.{IsFate}
use Rattle.m3_model.specs.Members.{IsIn}
use Rattle.cluster_words.proofs.FateLemmas.{Entry, all_pushed}
use Rattle.cluster_words.proofs.lists.all_fates.Goals as goal

pub loop-word-preserved-then-this-lt5 : goal.loop-word-preserved-then-this-lt5
loop-word-preserved-then-this-lt5 c =
    subst (λ (items : List Entry). (one : Entry) → IsIn items one → IsFate one) (sym c.in_ok-push.ensures.items)
    (all_pushed c.loop-word.made.items c.in_ok-fate.field-0 c.loop-word.invariant c.in_ok-fate.ensures)
