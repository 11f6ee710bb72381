use Rattle.std.proofs.Common.{◌≡◌, ap, sym, ◌∙◌, length}
use Rattle.std.specs.Prelude.{Some}
use Rattle.std.specs.FinMap as finite
use Rattle.m3_outside.specs.Files.{IsInside}
use Rattle.disk_content.specs.Tables.{range_in}
use Rattle.disk_content.proofs.TableLemmas.{table, get_of, Wrote, wrote, inside_found, not_missing, with_bytes_found}
use Rattle.disk_content.proofs.file_table.FileTable.replace.Goals as goal

pub replace-requires : goal.replace-requires
replace-requires c =
    let inside : IsInside c.args.name c.args.at (length c.args.bytes.now) (table c.self.inside.map.entries) = rw c.self.view_is c.requires in
    inside_found (table c.self.inside.map.entries) c.args.name c.args.at (length c.args.bytes.now) c.in-Some.file.now inside (get_of c.self.inside.map.entries c.args.name ∙ sym c.in-Some.ensures.value)

pub unreachable-requires : goal.unreachable-requires
unreachable-requires c =
    let inside : IsInside c.args.name c.args.at (length c.args.bytes.now) (table c.self.inside.map.entries) = rw c.self.view_is c.requires in
    not_missing (table c.self.inside.map.entries) c.args.name c.args.at (length c.args.bytes.now) inside (get_of c.self.inside.map.entries c.args.name ∙ sym c.in-None.ensures.value)

pub returns-clause-value : goal.returns-clause-value
returns-clause-value c =
    let found : finite.get c.args.self.now c.args.name ≡ Some c.in-Some.file.now = rw (← c.self.view_is) (get_of c.self.inside.map.entries c.args.name ∙ sym c.in-Some.ensures.value) in
    c.replace.ensures.value ∙ ap (range_in c.args.at (length c.args.bytes.now)) (sym found)

pub returns-clause-after : goal.returns-clause-after
returns-clause-after c =
    let done : Wrote c.self.inside.map.entries (c.get_mut.follows.lender c.replace.new.self).entries c.args.name c.in-Some.file.now c.replace.new.self =
    wrote c.self.inside.map (c.get_mut.follows.lender c.replace.new.self) c.args.name c.in-Some.file.now c.replace.new.self (c.get_mut.follows.holds c.replace.new.self) c.in-Some.ensures.value in
    rw (← c.self.view_is) (done.after ∙ ap (λ v. finite.insert (table c.self.inside.map.entries) c.args.name v) c.replace.ensures.after
    ∙ with_bytes_found (table c.self.inside.map.entries) c.args.name c.args.at c.args.bytes.now c.in-Some.file.now done.found)
