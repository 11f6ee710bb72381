use Rattle.std.proofs.Common.{◌≡◌, ℕ, Bool, true, refl, ap, ◌∙◌}
use Rattle.std.specs.Prelude.{Option, None, option_map, length}
use Rattle.std.specs.FinMap.{get, get-empty}
use Rattle.m3_outside.specs.Files.{name_cmp}
use Rattle.disk_content.specs.Contents.{Content}
use Rattle.mem_disk.specs.Calls.{fails_next}
use Rattle.callers.proofs.failures.ask_twice.Goals as goal

pub returns-clause-answers : goal.returns-clause-answers
returns-clause-answers c =
    let failed : c.is_err-failed.result ≡ true = c.is_err-failed.ensures.value ∙ c.size.ensures.calls.exactly ∙ ap fails_next c.in_ok-disk.ensures.calls in
    let none : c.in_ok-size.size ≡ None = c.in_ok-size.ensures.disk.size refl ∙ ap (λ (k : Content). option_map length (get k.seen c.args.name)) (c.size.ensures.content ∙ c.in_ok-disk.ensures.content) ∙ ap (option_map length) (get-empty name_cmp c.args.name) in
    ap (λ (b : Bool). (b, c.in_ok-size.size)) failed ∙ ap (λ (o : Option ℕ). (true, o)) none
