use Rattle.std.proofs.Common.{◌≡◌, ◌<◌, List, ◌∷◌, length, sym, ap, subst, arith, rules}
use Rattle.block_buffer.specs.Held.{InMemory}
use Rattle.held_pages.specs.declared.rising.Rise.{Rise}
use Rattle.held_pages.specs.Rises.{AllStand}
use Rattle.held_pages.proofs.RiseLemmas.{later_of_series, later_stand, stand_raised}
use Rattle.held_pages.proofs.rising.+raise_all.Goals as goal

pub raise_all-requires : goal.raise_all-requires
raise_all-requires t c =
    let is : c.args.rises.now ≡ c.in-Some.first.now ∷ c.in-Some.later.now = c.in-Some.ensures.cases.0 in
    let less : length c.in-Some.later.now < length c.args.rises.now = (let n = c.in-Some.ensures.cases.1 in omega (arith, n)) in
    let held = c.raise.ensures in
    let later : List Rise = c.in-Some.later.now in
    let first : Rise = c.in-Some.first.now in
    let stand = later_stand c.args.held.now.points c.args.rises.now later first is c.requires.stand in (
      search (rules, less),
      (
        ap (λ (m : InMemory). m.room) held,
        (later_of_series c.args.rises.now later first is c.requires.series, subst (λ (m : InMemory). AllStand m.points later) (sym held) (stand_raised c.args.held.now.points _ _ later stand)),
      ),
    )
