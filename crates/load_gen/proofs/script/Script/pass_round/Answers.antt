use Rattle.std.proofs.Common.{◌≡◌, ◌-◌, suc, drop, ap, ◌∙◌, arith}
use Rattle.load_gen.specs.Left.{left_from}
use Rattle.load_gen.specs.declared.script.Next.TheVariants.{Round}
use Rattle.load_gen.proofs.LeftLemmas.{behind_round, behind_match}
use Rattle.load_gen.proofs.script.Script.pass_round.Goals as goal

pub returns-then-self-eq0 : goal.returns-then-self-eq0
returns-then-self-eq0 c = rw c.if-self-eq0.true (behind_match c.args.self.now.x)

pub returns-else-self-eq0 : goal.returns-else-self-eq0
returns-else-self-eq0 c =
    let is : suc (c.args.self.now.rounds - 1) ≡ c.args.self.now.rounds = omega arith in
    behind_round (c.args.self.now.rounds - 1) c.args.self.now.x ∙ ap (λ n. drop 1 (left_from Round n c.args.self.now.x)) is
