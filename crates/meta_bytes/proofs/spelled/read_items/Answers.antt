use Rattle.std.proofs.Common.{◌≡◌, ℕ, suc, ◌+◌, ◌-◌, List, sym, subst, arith, All}
use Rattle.std.proofs.lemmas.List.Elements.{All-nil, All-push}
use Rattle.wire_bytes.proofs.PointLemmas.{exit_err}
use Rattle.meta_bytes.specs.Forms.{HasForm, Times, MayFault}
use Rattle.meta_bytes.specs.Lists.{ItemsStand}
use Rattle.meta_bytes.proofs.FormLemmas.{may_one, may_later}
use Rattle.meta_bytes.proofs.ListLemmas.{no_items, one_more}
use Rattle.meta_bytes.proofs.spelled.read_items.Goals as goal

pub loop-i-init : goal.loop-i-init
loop-i-init g c =
    let form = g.T.Spelled.form in
    let all : c.args.count - 0 ≡ c.args.count = omega arith in
    record {
      items = subst (λ (xs : List g.row.T.Denot). ItemsStand form g.T.Spelled.spelled 0 xs c.args.bytes.now c.args.from c.args.from) (sym c.new-items.ensures.items) (no_items form g.T.Spelled.spelled c.args.bytes.now c.args.from c.requires.inside);
      fits = subst (All g.T.Spelled.fits) (sym c.new-items.ensures.items) (All-nil g.T.Spelled.fits);
      faults = λ e a. subst (λ (n : ℕ). MayFault (Times n (HasForm form)) c.args.bytes.now c.args.from e) all a;
    }

pub returns-in_err-item-clause-err : goal.returns-in_err-item-clause-err
returns-in_err-item-clause-err g c =
    let form = g.T.Spelled.form in
    let left : suc (c.args.count - c.loop-i._i - 1) ≡ c.args.count - c.loop-i._i = omega arith in
    let e = c.in_err-item.field-0.0 in
    exit_err c.from_residual.result e (MayFault (Times c.args.count (HasForm form)) c.args.bytes.now c.args.from) c.from_residual.ensures.1
    (c.loop-i.invariant.faults e (subst (λ (n : ℕ). MayFault (Times n (HasForm form)) c.args.bytes.now c.loop-i.offset e) left
    (may_one form c.requires.fair (c.args.count - c.loop-i._i - 1) c.args.bytes.now c.loop-i.offset e c.in_err-item.ensures.err)))

pub loop-i-preserved : goal.loop-i-preserved
loop-i-preserved g c =
    let form = g.T.Spelled.form in
    let spelled = g.T.Spelled.spelled in
    let left : suc (c.args.count - (c.loop-i._i + 1)) ≡ c.args.count - c.loop-i._i = omega arith in
    let item = c.in_ok-item.item in
    let next = c.in_ok-item.next in
    let st = c.in_ok-item.ensures.ok in
    record {
      items = subst (λ (xs : List g.row.T.Denot). ItemsStand form spelled (c.loop-i._i + 1) xs c.args.bytes.now c.args.from next) (sym c.in_ok-push.ensures.items)
          (one_more form spelled c.loop-i._i c.loop-i.items.items item c.args.bytes.now c.args.from c.loop-i.offset next c.loop-i.invariant.items st);
      fits = subst (All g.T.Spelled.fits) (sym c.in_ok-push.ensures.items) (All-push g.T.Spelled.fits c.loop-i.items.items item c.loop-i.invariant.fits c.in_ok-item.ensures.fits);
      faults = λ e a. c.loop-i.invariant.faults e (subst (λ (n : ℕ). MayFault (Times n (HasForm form)) c.args.bytes.now c.loop-i.offset e) left
          (may_later form c.requires.fair (c.args.count - (c.loop-i._i + 1)) (spelled item) c.args.bytes.now c.loop-i.offset next e st a));
    }

pub returns-clause-ok : goal.returns-clause-ok
returns-clause-ok g c =
    let all : c.loop-i._i ≡ c.args.count = omega arith in
    subst (λ (xs : List g.row.T.Denot). ItemsStand g.T.Spelled.form g.T.Spelled.spelled c.args.count xs c.args.bytes.now c.args.from c.loop-i.offset) (sym c.from_vec.ensures)
    (subst (λ (n : ℕ). ItemsStand g.T.Spelled.form g.T.Spelled.spelled n c.loop-i.items.items c.args.bytes.now c.args.from c.loop-i.offset) all c.loop-i.invariant.items)

pub returns-clause-fits : goal.returns-clause-fits
returns-clause-fits g c = subst (All g.T.Spelled.fits) (sym c.from_vec.ensures) c.loop-i.invariant.fits
