use Rattle.std.proofs.Common.{◌≡◌, ◌<◌, ◌∷◌, length, None, sym, ap, subst, ◌∙◌, arith, rules, ℤ, w64}
use Rattle.std.specs.Prelude.{IsSome, FitsSigned}
use Rattle.std.proofs.lemmas.Int.{to_z-of_z}
use Rattle.block_buffer.specs.Taken.{settled_at}
use Rattle.std.specs.FinMap as finite
use Rattle.std.proofs.lemmas.Result.{on_ok_weaker}
use Rattle.m3_model.specs.Contents.{raised}
use Rattle.series_slots.specs.SeriesKeys.{key_at}
use Rattle.block_buffer.specs.Held.{InMemory}
use Rattle.block_buffer.specs.Joins.{joined}
use Rattle.held_pages.specs.declared.rising.Rise.{Rise}
use Rattle.held_pages.specs.Rises.{points_of}
use Rattle.held_pages.proofs.RiseLemmas.{first_of_series, later_of_series, all_of_more, same_skipped, same_held, its_key, raised_stays, raised_stands, put_then, taken_out, is_none}
use Rattle.held_pages.proofs.rising.+hold_new.Goals as goal

pub hold_new-requires : goal.hold_new-requires
hold_new-requires t c =
    let is : c.args.rises.now ≡ c.in-Some.first.now ∷ c.in-Some.later.now = c.in-Some.ensures.cases.0 in
    let less : length c.in-Some.later.now < length c.args.rises.now = (let n = c.in-Some.ensures.cases.1 in omega (arith, n)) in
    (search (rules, less), (c.requires.room, later_of_series c.args.rises.now c.in-Some.later.now c.in-Some.first.now is c.requires.series))

pub returns-then-stands-clause-same : goal.returns-then-stands-clause-same
returns-then-stands-clause-same t c =
    on_ok_weaker c.hold_new.result (λ same. same_skipped c.args.held.now.points c.hold_new.new.held.points c.args.rises.now c.in-Some.later.now c.in-Some.first.now c.in-Some.ensures.cases.0 same) c.hold_new.ensures.same

pub hold_new-requires-2 : goal.hold_new-requires-2
hold_new-requires-2 t c =
    let is : c.args.rises.now ≡ c.in-Some.first.now ∷ c.in-Some.later.now = c.in-Some.ensures.cases.0 in
    let less : length c.in-Some.later.now < length c.args.rises.now = (let n = c.in-Some.ensures.cases.1 in omega (arith, n)) in
    (search (rules, less), (ap (λ (m : InMemory). m.room) c.put.ensures, later_of_series c.args.rises.now c.in-Some.later.now c.in-Some.first.now is c.requires.series))

pub returns-in-Err-clause-err : goal.returns-in-Err-clause-err
returns-in-Err-clause-err t c =
    let first : Rise = c.in-Some.first.now in
    let put = put_then c.args.held.now c.room.new.self c.put.new.self first.point c.in_ok-room.ensures.ok c.put.ensures in
    let held : InMemory = c.hold_new-2.new.held in
    let fits : FitsSigned w64 first.point.v = search rules in
    let settled = c.settle_at.ensures
    ∙ ap (λ (z : ℤ). let n : InMemory = record { points = settled_at held.points (record { ns = first.series.ns; id = first.series.id; t = first.point.t; v = z }); room = None } in n) (to_z-of_z w64 first.point.v fits) in
    let absent = is_none _ (sym c.stands.ensures ∙ c.if-stands.false) in
    taken_out c.args.held.now c.hold_new-2.new.held c.settle_at.new.self first c.requires.room (first_of_series c.args.rises.now c.in-Some.later.now first c.in-Some.ensures.cases.0 c.requires.series) absent (c.in-Err.ensures.err ∙ put) settled

pub returns-clause-stand : goal.returns-clause-stand
returns-clause-stand t c =
    let first : Rise = c.in-Some.first.now in
    let is = c.in-Some.ensures.cases.0 in
    let put = put_then c.args.held.now c.room.new.self c.put.new.self first.point c.in_ok-room.ensures.ok c.put.ensures in
    let key = its_key first (first_of_series c.args.rises.now c.in-Some.later.now first is c.requires.series) in
    let came : IsSome (finite.get c.put.new.self.points (key_at first.series first.point.t)) =
    subst (λ (m : InMemory). IsSome (finite.get m.points (key_at first.series first.point.t))) (sym put) (subst (λ k. IsSome (finite.get (raised c.args.held.now.points first.point) k)) (sym key) (raised_stands c.args.held.now.points first.point)) in
    all_of_more c.hold_new-2.new.held.points c.args.rises.now c.in-Some.later.now first is (c.in_default-hold_new.ensures.stays (key_at first.series first.point.t) came) c.in_default-hold_new.ensures.stand

pub returns-clause-same : goal.returns-clause-same
returns-clause-same t c =
    let first : Rise = c.in-Some.first.now in
    let put = put_then c.args.held.now c.room.new.self c.put.new.self first.point c.in_ok-room.ensures.ok c.put.ensures in
    same_held c.args.held.now.points c.hold_new-2.new.held.points c.args.rises.now c.in-Some.later.now first c.in-Some.ensures.cases.0
    (c.in_default-hold_new.ensures.same ∙ ap (λ (m : InMemory). joined m.points (points_of c.in-Some.later.now)) put)

pub returns-clause-stays : goal.returns-clause-stays
returns-clause-stays t c k some =
    let first : Rise = c.in-Some.first.now in
    let put = put_then c.args.held.now c.room.new.self c.put.new.self first.point c.in_ok-room.ensures.ok c.put.ensures in
    c.in_default-hold_new.ensures.stays k (subst (λ (m : InMemory). IsSome (finite.get m.points k)) (sym put) (raised_stays c.args.held.now.points first.point k some))
