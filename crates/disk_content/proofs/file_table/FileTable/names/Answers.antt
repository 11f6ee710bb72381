use Rattle.std.proofs.Common.{◌≡◌, ap, subst, ◌∙◌, List, rules, IsPermutation}
use Rattle.std.specs.FinMap as finite
use Rattle.std.specs.Map.{keys_of}
use Rattle.m3_outside.specs.declared.file_name.FileName.{FileName}
use Rattle.m3_outside.specs.Files.{Files}
use Rattle.disk_content.proofs.TableLemmas.{sorted_names}
use Rattle.disk_content.proofs.file_table.FileTable.names.Goals as goal

pub returns : goal.returns
returns c =
    let es = c.self.inside.map.entries in
    let made : c.in_ok-names.names.items ≡ keys_of es = search rules in
    sorted_names es c.sort_unstable.new.self.items c.keys.ensures.unique
    (subst (λ (ks : List FileName). IsPermutation ks c.sort_unstable.new.self.items) made c.sort_unstable.ensures.permutation) c.sort_unstable.ensures.sorted
    ∙ ap (λ (m : Files). finite.keys m) c.self.view_is
