use Rattle.std.proofs.Common.{◌≡◌, ◌-◌, suc, Some, sym, ap, ◌∙◌, arith}
use Rattle.std.specs.Prelude.{slice_get}
use Rattle.std.proofs.lemmas.Result.{IfOk-weaker}
use Rattle.m3_model.specs.declared.turn.Request.{Request}
use Rattle.load_gen.specs.Lines.{now_line}
use Rattle.load_gen.specs.Script.{rounds}
use Rattle.load_gen.proofs.LeftLemmas.{first_match, first_round}
use Rattle.load_gen.proofs.script.Script.round.Goals as goal

pub returns-then-self-eq0 : goal.returns-then-self-eq0
returns-then-self-eq0 c =
    let x = c.args.self.now.x in
    IfOk-weaker c.match_all.result _ _ (λ request is. ap (λ (r : Request). Some r) is ∙ first_match x ∙ ap (λ n. slice_get (rounds n x) 0) (sym c.if-self-eq0.true)) c.match_all.ensures

pub returns : goal.returns
returns c =
    let k = c.args.self.now.rounds in
    let x = c.args.self.now.x in
    let is : suc (k - 1) ≡ k = omega arith in
    ap (λ m. Some (now_line m)) c.moment_of-now.ensures ∙ first_round (k - 1) x ∙ ap (λ n. slice_get (rounds n x) 0) is
