use Rattle.std.proofs.Common.{◌∙◌, inl, inr, map}
use Rattle.std.specs.Prelude.{None, ◌≡◌, string_bytes}
use Rattle.command_words.specs.Tasks.{task_of}
use Rattle.command_words.proofs.TaskLemmas.{task_at_fault}
use Rattle.command_words.proofs.task.task_of.Goals as goal

pub returns : goal.returns
returns c = record {
  ok = tt;
  usage = λ is. elim c.in-Err.ensures.fails as (λ _. task_of (map string_bytes c.args.words.now) ≡ None) [
    | inl memory ↦ absurd (c.in_default.not-OutOfMemory (c.kind.ensures ∙ memory))
    | inr among ↦ task_at_fault _ _ (map string_bytes c.args.words.now) among
  ];
}
