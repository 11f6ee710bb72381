use Rattle.std.proofs.Common.{sym, ap, ◌∙◌, ◌<◌, length, arith, false}
use Rattle.std.specs.Prelude.{Some}
use Rattle.first_points.proofs.MergeLemmas.{moved_one, moved_other, joined_both, fewer_of_one, fewer_of_other, fewer_of_both}
use Rattle.first_points.proofs.merging.Merging.step.Goals as goal

pub returns-in_ok-move_first-in-Some-Less-clause-part : goal.returns-in_ok-move_first-in-Some-Less-clause-part
returns-in_ok-move_first-in-Some-Less-clause-part k c d both after join was =
    let now = k.args.self.now in
    let few : length now.done.items < k.args.limit = search arith in
    moved_one c d both join after k.args.limit now.done.items now.one.items now.other.items few was k.move_first.new.done.items k.move_first.new.from.items (sym k.in-Some-Less.ensures ∙ ap Some k.in-Some-Less.field-0-is)
    k.in_ok-move_first-in-Some-Less.ensures

pub returns-in_ok-move_first-in-Some-Less-clause-goes_on : goal.returns-in_ok-move_first-in-Some-Less-clause-goes_on
returns-in_ok-move_first-in-Some-Less-clause-goes_on c more =
    let now = c.args.self.now in
    fewer_of_one now.one.items now.other.items c.move_first.new.from.items now.done.items c.move_first.new.done.items (sym c.in-Some-Less.ensures ∙ ap Some c.in-Some-Less.field-0-is) c.in_ok-move_first-in-Some-Less.ensures

pub returns-in_ok-move_first-in-Some-Greater-clause-part : goal.returns-in_ok-move_first-in-Some-Greater-clause-part
returns-in_ok-move_first-in-Some-Greater-clause-part k c d both after join was =
    let now = k.args.self.now in
    let few : length now.done.items < k.args.limit = search arith in
    moved_other c d both join after k.args.limit now.done.items now.one.items now.other.items few was k.move_first-in-Some-Greater.new.done.items k.move_first-in-Some-Greater.new.from.items
    (sym k.in-Some-Greater.ensures ∙ ap Some k.in-Some-Greater.field-0-is) k.in_ok-move_first-in-Some-Greater.ensures

pub returns-in_ok-move_first-in-Some-Greater-clause-goes_on : goal.returns-in_ok-move_first-in-Some-Greater-clause-goes_on
returns-in_ok-move_first-in-Some-Greater-clause-goes_on c more =
    let now = c.args.self.now in
    fewer_of_other now.one.items now.other.items c.move_first-in-Some-Greater.new.from.items now.done.items c.move_first-in-Some-Greater.new.done.items (sym c.in-Some-Greater.ensures ∙ ap Some c.in-Some-Greater.field-0-is)
    c.in_ok-move_first-in-Some-Greater.ensures

pub returns-in_ok-join_first-in-Some-Equal-clause-part : goal.returns-in_ok-join_first-in-Some-Equal-clause-part
returns-in_ok-join_first-in-Some-Equal-clause-part k c d both after join was =
    let now = k.args.self.now in
    let few : length now.done.items < k.args.limit = search arith in
    joined_both c d both join after k.args.limit now.done.items now.one.items now.other.items few was k.join_first.new.done.items k.join_first.new.one.items k.join_first.new.other.items (sym k.in-Some-Equal.ensures ∙ ap Some k.in-Some-Equal.field-0-is)
    (k.in_ok-join_first-in-Some-Equal).ensures

pub returns-in_ok-join_first-in-Some-Equal-clause-goes_on : goal.returns-in_ok-join_first-in-Some-Equal-clause-goes_on
returns-in_ok-join_first-in-Some-Equal-clause-goes_on c more =
    let now = c.args.self.now in
    fewer_of_both now.one.items now.other.items c.join_first.new.one.items c.join_first.new.other.items now.done.items c.join_first.new.done.items (sym c.in-Some-Equal.ensures ∙ ap Some c.in-Some-Equal.field-0-is) (c.in_ok-join_first-in-Some-Equal).ensures
