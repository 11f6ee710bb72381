use Rattle.std.proofs.Common.{Some, sym, ap, ◌∙◌}
use Rattle.std.specs.Prelude.{slice_get}
use Rattle.m3_model.specs.declared.turn.Request.{Request}
use Rattle.load_gen.specs.Lines.{write_line}
use Rattle.load_gen.specs.Left.{left_from}
use Rattle.load_gen.specs.declared.script.Next.{Next}
use Rattle.load_gen.proofs.LeftLemmas.{first_write}
use Rattle.load_gen.proofs.script.Script.request.Goals as goal

pub returns-in_ok-write-in-Write : goal.returns-in_ok-write-in-Write
returns-in_ok-write-in-Write c =
    let k = c.args.self.now.rounds in
    let x = c.args.self.now.x in
    ap (λ (r : Request). Some r) (c.in_ok-write-in-Write.ensures ∙ ap (λ m. write_line m x) c.moment_of.ensures) ∙ first_write c.in-Write.field-0 k x
    ∙ ap (λ (n : Next). slice_get (left_from n k x) 0) (sym c.in-Write.is)
