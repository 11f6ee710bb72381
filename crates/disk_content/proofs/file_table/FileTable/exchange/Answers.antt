use Rattle.std.proofs.Common.{◌≡◌, ap, sym, ◌∙◌, length}
use Rattle.std.specs.Prelude.{Some}
use Rattle.std.specs.FinMap as finite
use Rattle.m3_outside.specs.Files.{IsInside}
use Rattle.disk_content.specs.Tables.{range_in}
use Rattle.disk_content.proofs.TableLemmas.{table, get_of, Wrote, wrote, inside_found, not_missing, with_bytes_found}
use Rattle.disk_content.proofs.file_table.FileTable.exchange.Goals as goal

pub exchange-requires : goal.exchange-requires
exchange-requires c =
    let inside : IsInside c.args.name c.args.at (length c.args.other.now) (table c.self.inside.map.entries) = rw c.self.view_is c.requires in
    inside_found (table c.self.inside.map.entries) c.args.name c.args.at (length c.args.other.now) c.in-Some.file.now inside (get_of c.self.inside.map.entries c.args.name ∙ sym c.in-Some.ensures.value)

pub unreachable-requires : goal.unreachable-requires
unreachable-requires c =
    let inside : IsInside c.args.name c.args.at (length c.args.other.now) (table c.self.inside.map.entries) = rw c.self.view_is c.requires in
    not_missing (table c.self.inside.map.entries) c.args.name c.args.at (length c.args.other.now) inside (get_of c.self.inside.map.entries c.args.name ∙ sym c.in-None.ensures.value)

pub returns-clause-other : goal.returns-clause-other
returns-clause-other c =
    let found : finite.get c.args.self.now c.args.name ≡ Some c.in-Some.file.now = rw (← c.self.view_is) (get_of c.self.inside.map.entries c.args.name ∙ sym c.in-Some.ensures.value) in
    c.exchange.ensures.other ∙ ap (range_in c.args.at (length c.args.other.now)) (sym found)

pub returns-clause-after : goal.returns-clause-after
returns-clause-after c =
    let done : Wrote c.self.inside.map.entries (c.get_mut.follows.lender c.exchange.new.self).entries c.args.name c.in-Some.file.now c.exchange.new.self =
    wrote c.self.inside.map (c.get_mut.follows.lender c.exchange.new.self) c.args.name c.in-Some.file.now c.exchange.new.self (c.get_mut.follows.holds c.exchange.new.self) c.in-Some.ensures.value in
    rw (← c.self.view_is) (done.after ∙ ap (λ v. finite.insert (table c.self.inside.map.entries) c.args.name v) c.exchange.ensures.after
    ∙ with_bytes_found (table c.self.inside.map.entries) c.args.name c.args.at c.args.other.now c.in-Some.file.now done.found)
