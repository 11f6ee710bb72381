use Rattle.std.proofs.Common.{sym, ◌∙◌, subst}
use Rattle.series_id.specs.Names.{BeginsWithName}
use Rattle.series_id.proofs.Orders.{same_text, below_back}
use Rattle.series_id.proofs.scan.read_name.Goals as goal

pub returns-in-Equal-clause-err : goal.returns-in-Equal-clause-err
returns-in-Equal-clause-err c =
    (c.in-Some.later.now, subst (λ name. BeginsWithName c.args.text.now name c.in-Some.later.now) (same_text _ _ (sym c.cmp.ensures ∙ c.in-Equal.is)) c.in-Some.ensures)

pub returns-in-Greater-clause-ok : goal.returns-in-Greater-clause-ok
returns-in-Greater-clause-ok c = record {
  begins = c.in-Some.ensures;
  above = below_back c.in-Some.name.now c.args.before.now (sym c.cmp.ensures ∙ c.in-Greater.is);
}
