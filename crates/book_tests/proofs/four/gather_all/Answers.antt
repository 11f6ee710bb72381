use Rattle.book_tests.proofs.Numbering.{ended_in}
use Rattle.book_tests.proofs.four.gather_all.Goals as goal

pub returns-clause-d : goal.returns-clause-d
returns-clause-d g c =
    let log = c.gather-4.new.first.seen in
    (ended_in c.gather-3.new.first c.args.d.seat c.gather-4.new.first log c.gather-4.ensures c.know.ensures.ended).1

pub returns-clause-c : goal.returns-clause-c
returns-clause-c g c =
    let log = c.gather-4.new.first.seen in
    let d = ended_in c.gather-3.new.first c.args.d.seat c.gather-4.new.first log c.gather-4.ensures c.know.ensures.ended in
    (ended_in c.gather-2.new.first c.args.c.seat c.gather-3.new.first log c.gather-3.ensures d.0).1

pub returns-clause-b : goal.returns-clause-b
returns-clause-b g c =
    let log = c.gather-4.new.first.seen in
    let d = ended_in c.gather-3.new.first c.args.d.seat c.gather-4.new.first log c.gather-4.ensures c.know.ensures.ended in
    let e = ended_in c.gather-2.new.first c.args.c.seat c.gather-3.new.first log c.gather-3.ensures d.0 in
    (ended_in c.gather.new.first c.args.b.seat c.gather-2.new.first log c.gather-2.ensures e.0).1

pub returns-clause-a : goal.returns-clause-a
returns-clause-a g c =
    let log = c.gather-4.new.first.seen in
    let d = ended_in c.gather-3.new.first c.args.d.seat c.gather-4.new.first log c.gather-4.ensures c.know.ensures.ended in
    let e = ended_in c.gather-2.new.first c.args.c.seat c.gather-3.new.first log c.gather-3.ensures d.0 in
    let f = ended_in c.gather.new.first c.args.b.seat c.gather-2.new.first log c.gather-2.ensures e.0 in
    (ended_in c.args.first.now c.args.a.seat c.gather.new.first log c.gather.ensures f.0).1
