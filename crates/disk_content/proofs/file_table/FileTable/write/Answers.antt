use Rattle.std.proofs.Common.{ap, sym, ◌∙◌, length}
use Rattle.std.specs.FinMap as finite
use Rattle.m3_outside.specs.Files.{IsInside}
use Rattle.disk_content.proofs.TableLemmas.{table, get_of, Wrote, wrote, inside_found, not_missing, with_bytes_found}
use Rattle.disk_content.proofs.file_table.FileTable.write.Goals as goal
use Rattle.disk_content.proofs.file_table.FileTable.write.Goals.{in-Some, in_default}

pub write-requires : goal.write-requires
write-requires c =
    let inside : IsInside c.args.name c.args.at (length c.args.bytes.now) (table c.self.inside.map.entries) = rw c.self.view_is c.requires in
    inside_found (table c.self.inside.map.entries) c.args.name c.args.at (length c.args.bytes.now) c.in-Some.file.now inside (get_of c.self.inside.map.entries c.args.name ∙ sym c.in-Some.ensures.value)

pub returns : goal.returns
returns c = elim c.match-get_mut.branch [
  | in-Some w ↦
      let done : Wrote c.self.inside.map.entries (c.get_mut.follows.lender w.write.new.self).entries c.args.name w.in-Some.file.now w.write.new.self =
      wrote c.self.inside.map (c.get_mut.follows.lender w.write.new.self) c.args.name w.in-Some.file.now w.write.new.self (c.get_mut.follows.holds w.write.new.self) w.in-Some.ensures.value in
      rw (w.self-inside-is, ← c.self.view_is) (done.after ∙ ap (λ v. finite.insert (table c.self.inside.map.entries) c.args.name v) w.write.ensures
      ∙ with_bytes_found (table c.self.inside.map.entries) c.args.name c.args.at c.args.bytes.now w.in-Some.file.now done.found)
  | in_default w ↦
      let inside : IsInside c.args.name c.args.at (length c.args.bytes.now) (table c.self.inside.map.entries) = rw c.self.view_is c.requires in
      absurd (not_missing (table c.self.inside.map.entries) c.args.name c.args.at (length c.args.bytes.now) inside (get_of c.self.inside.map.entries c.args.name ∙ sym w.in_default.ensures.value))
]
