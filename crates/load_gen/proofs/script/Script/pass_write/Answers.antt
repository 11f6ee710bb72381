use Rattle.std.proofs.Common.{◌≡◌, ◌-◌, suc, drop, ap, ◌∙◌, arith}
use Rattle.load_gen.specs.Draws.{drawn}
use Rattle.load_gen.specs.Script.{moment_of}
use Rattle.load_gen.specs.Left.{left_from, next_by_moment}
use Rattle.load_gen.specs.declared.script.Next.{Next}
use Rattle.load_gen.specs.declared.script.Next.TheVariants.{Write}
use Rattle.load_gen.proofs.LeftLemmas.{behind_more_writes, behind_last_write}
use Rattle.load_gen.proofs.script.Script.pass_write.Goals as goal

pub returns-then-further-gt0 : goal.returns-then-further-gt0
returns-then-further-gt0 c =
    let k = c.args.self.now.rounds in
    let x = c.args.self.now.x in
    let is : suc (c.args.further - 1) ≡ c.args.further = omega arith in
    ap (λ y. left_from (Write (c.args.further - 1)) k y) (c.drawn-self.ensures ∙ ap drawn c.drawn.ensures) ∙ behind_more_writes (c.args.further - 1) k x ∙ ap (λ n. drop 1 (left_from (Write n) k x)) is

pub returns-else-further-gt0 : goal.returns-else-further-gt0
returns-else-further-gt0 c =
    let k = c.args.self.now.rounds in
    let x = c.args.self.now.x in
    let is : 0 ≡ c.args.further = omega arith in
    ap (λ (n : Next). left_from n k c.drawn-self.result) (c.next_by_moment-self.ensures ∙ ap next_by_moment c.moment_of.ensures)
    ∙ ap (λ y. left_from (next_by_moment (moment_of k)) k y) (c.drawn-self.ensures ∙ ap drawn c.drawn.ensures) ∙ behind_last_write k x ∙ ap (λ n. drop 1 (left_from (Write n) k x)) is
