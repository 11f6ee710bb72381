use Rattle.std.proofs.Common.{◌≡◌, sym, ap, subst, ◌∙◌, length, map, List}
use Rattle.disk_content.specs.declared.undo_log.UndoEntry.{UndoEntry}
use Rattle.disk_content.specs.Undo.{Undo, AllLieIn, whole}
use Rattle.disk_content.proofs.EntryLemmas.{all_over}
use Rattle.disk_content.proofs.UndoLemmas.{unwound_all_fit}
use Rattle.disk_content.proofs.undo_log.UndoLog.restart.Goals as goal

pub apply-requires : goal.apply-requires
apply-requires c =
    let len = c.unwind.auto.entries ∙ ap length c.deref_mut.ensures.value in
    let over = all_over c.self.inside.entries.len c.unwind.new.entries c.self.inside.entries.items len (sym c.deref_mut.ensures.len ∙ ap length c.deref_mut.ensures.value) in
    let none_lost : map whole c.self.inside.entries.items ≡ c.self.inside.entries.items = subst (λ (es : List UndoEntry). map whole es ≡ es) c.deref.ensures.value (c.has_lost.ensures c.if-has_lost.false) in
    let lies : AllLieIn c.self.inside.entries.items c.args.files.now = subst (λ (es : List UndoEntry). AllLieIn es c.args.files.now) (sym (ap (λ (u : Undo). u.entries) c.self.view_is) ∙ none_lost) c.requires in
    rw (c.deref_mut-2.ensures.value, over, c.unwind.ensures.writes, c.unwind.ensures.files, c.deref_mut.ensures.value) (unwound_all_fit c.self.inside.entries.items c.args.files.now lies)
