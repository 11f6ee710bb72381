use Rattle.std.proofs.Common.{◌-◌, All}
use Rattle.meta_bytes.specs.Forms.{HasForm, Times, MayFault}
use Rattle.meta_bytes.specs.Lists.{ItemsStand}
use Rattle.meta_bytes.specs.declared.read_err.ReadErr.{ReadErr}
use Rattle.meta_bytes.proofs.spelled.read_items.Given as goal

abbrev pub invariant-loop-i : goal.invariant-loop-i
invariant-loop-i g l = record {
  items : ItemsStand g.T.Spelled.form g.T.Spelled.spelled l._i l.items.items l.bytes l.from l.offset;
  fits : All g.T.Spelled.fits l.items.items;
  faults : (e : ReadErr) → MayFault (Times (l.count - l._i) (HasForm g.T.Spelled.form)) l.bytes l.offset e → MayFault (Times l.count (HasForm g.T.Spelled.form)) l.bytes l.from e;
}
