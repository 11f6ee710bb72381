use Rattle.std.proofs.Common.{◌≡◌, ◌∙◌, inl, inr, ap, map, subst, sym}
use Rattle.std.specs.Prelude.{◌≢◌, None, IfOk, OnOk, string_bytes}
use Rattle.clap.specs.Words.{fault_of, subcommand_rows_of}
use Rattle.command_words.specs.Line.{line_app}
use Rattle.command_words.specs.Tasks.{folder_by, task_by, task_of}
use Rattle.command_words.proofs.TaskLemmas.{task_at_fault, task_without_fault}
use Rattle.command_words.proofs.disk_folder.folder.Goals as goal

pub returns-in-Ok : goal.returns-in-Ok
returns-in-Ok c =
    let words = map string_bytes c.args.words.now in
    let same = c.in-Ok.ensures.found in
    let task : task_of words ≡ task_by (subcommand_rows_of c.in-Ok.matches) = task_without_fault (fault_of line_app words) words c.in-Ok.ensures.fails ∙ ap task_by (sym same) in
    record {
      ok = subst (λ sub. IfOk c.named_by.result (λ folder. folder ≡ folder_by sub)) same c.named_by.ensures.ok;
      asked = subst (λ t. OnOk c.named_by.result (t ≢ None)) (sym task) c.named_by.ensures.asked;
      usage = λ is. task ∙ c.named_by.ensures.usage is;
    }

pub returns : goal.returns
returns c = record {
  ok = tt;
  asked = tt;
  usage = λ is. elim c.in-Err.ensures.fails as (λ _. task_of (map string_bytes c.args.words.now) ≡ None) [
    | inl memory ↦ absurd (c.in_default.not-OutOfMemory (c.kind.ensures ∙ memory))
    | inr among ↦ task_at_fault _ _ (map string_bytes c.args.words.now) among
  ];
}
