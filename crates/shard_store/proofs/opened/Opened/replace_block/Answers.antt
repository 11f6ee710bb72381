use Rattle.std.proofs.Common.{ap, sym, subst, ◌∙◌}
use Rattle.std.specs.Prelude.{IsErrOf}
use Rattle.m3_model.specs.Answers.{HasPoint}
use Rattle.m3_outside.specs.declared.disk_err.DiskErr.TheVariants.{Failed as DiskFailed}
use Rattle.store_log.specs.listed_volumes.block_buffer.Held.{InMemory, is_in_block}
use Rattle.store_log.proofs.listed_volumes_proofs.commit_log_proofs.ReadLemmas.{passed_err}
use Rattle.store_log.specs.listed_volumes.Listed.{known_in}
use Rattle.shard_store.specs.StoreParts.{content_of_opened}
use Rattle.shard_store.proofs.KnownReads.{known_counted}
use Rattle.store_log.proofs.LogStepLemmas.{err_is, err_to}
use Rattle.shard_store.proofs.PointLemmas.{has_fewer}
use Rattle.shard_store.proofs.RearrangeLemmas.{rearranges_then, rearranges_for}
use Rattle.shard_store.proofs.ReplaceLemmas.{there_after, one_after, numbers_after}
use Rattle.shard_store.proofs.opened.Opened.replace_block.Goals as goal

-- ---- the volume wasn't written

pub returns-in_err-write_block-clause-kept : goal.returns-in_err-write_block-clause-kept
returns-in_err-write_block-clause-kept g c = λ fine.
    let why = c.in_err-write_block.field-0.0 in
    c.write_block.ensures.kept (λ f. fine (err_to c.from_residual.result c.write_block.result why DiskFailed (err_is c.from_residual.result why c.from_residual.ensures) c.in_err-write_block.was f))

pub returns-in_err-write_block-clause-fewer : goal.returns-in_err-write_block-clause-fewer
returns-in_err-write_block-clause-fewer g c p h = subst (λ (w : InMemory). HasPoint w.points p) c.in_err-write_block.ensures.err.0 h

pub returns-in_err-write_block-clause-disk : goal.returns-in_err-write_block-clause-disk
returns-in_err-write_block-clause-disk g c =
    rearranges_for (content_of_opened c.args.self.now) (IsErrOf c.write_block.result DiskFailed) _ (g.D.Disk.state c.args.disk.now) (g.D.Disk.state c.write_block.new.disk)
    (λ f. passed_err c.from_residual.result c.write_block.result c.in_err-write_block.field-0.0 DiskFailed c.in_err-write_block.was c.from_residual.ensures.1 f) c.write_block.ensures.disk

-- ---- the older ones

pub remove_older-requires-clause-there : goal.remove_older-requires-clause-there
remove_older-requires-clause-there g c tells =
    let s = c.args.self.now in
    let h = c.args.head.now in
    let told = sym c.write_block.ensures.disk.tells ∙ tells in
    let known = c.in_ok-write_block.ensures.known in
    there_after s.held.points (known_in s.volumes.items) h.ns h.start h.size c.args.rows.now c.requires.ordered (c.requires.join told) known.0 (g.D.Disk.state c.args.disk.now).files
    (known_counted s.held.points (known_in s.volumes.items) s.tenure s.fence (g.D.Disk.state c.args.disk.now) (g.met.D.Disk.lawful c.args.disk.now) c.requires.kept.exact told)
    (known.2 told) c.args.olds.now c.requires.olds c.write_block.new.self c.in_ok-write_block.ensures.ok known.1

pub returns-in_err-remove_older-clause-kept : goal.returns-in_err-remove_older-clause-kept
returns-in_err-remove_older-clause-kept g c = λ fine.
    let why = c.in_err-remove_older.field-0.0 in
    c.remove_older.ensures.kept (λ f. fine (err_to c.from_residual-in_err-remove_older.result c.remove_older.result why DiskFailed (err_is c.from_residual-in_err-remove_older.result why c.from_residual-in_err-remove_older.ensures) c.in_err-remove_older.was f))

pub returns-in_err-remove_older-clause-others : goal.returns-in_err-remove_older-clause-others
returns-in_err-remove_older-clause-others g c tells =
    let s = c.args.self.now in
    let h = c.args.head.now in
    let known = c.in_ok-write_block.ensures.known in
    numbers_after s.held.points (known_in s.volumes.items) h.ns h.start h.size c.args.rows.now c.requires.ordered (c.requires.join tells) known.0 (g.D.Disk.state c.args.disk.now).files
    (known_counted s.held.points (known_in s.volumes.items) s.tenure s.fence (g.D.Disk.state c.args.disk.now) (g.met.D.Disk.lawful c.args.disk.now) c.requires.kept.exact tells)
    (known.2 tells) c.args.olds.now c.requires.olds (g.D.Disk.state c.write_block.new.disk).files (g.D.Disk.state c.remove_older.new.disk).files (c.write_block.ensures.others tells) (c.remove_older.ensures.others (c.write_block.ensures.disk.tells ∙ tells))

pub returns-in_err-remove_older-clause-fewer : goal.returns-in_err-remove_older-clause-fewer
returns-in_err-remove_older-clause-fewer g c p h =
    let head = c.args.head.now in
    has_fewer c.args.self.now.held.points (is_in_block head.ns head.start head.size) p (subst (λ (w : InMemory). HasPoint w.points p) (c.remove_older.ensures.held ∙ c.in_ok-write_block.ensures.ok) h)

pub returns-in_err-remove_older-clause-content : goal.returns-in_err-remove_older-clause-content
returns-in_err-remove_older-clause-content g c tells = c.remove_older.ensures.content (c.write_block.ensures.disk.tells ∙ tells) ∙ c.write_block.ensures.content tells

pub returns-in_err-remove_older-clause-disk : goal.returns-in_err-remove_older-clause-disk
returns-in_err-remove_older-clause-disk g c =
    rearranges_then (content_of_opened c.args.self.now) (content_of_opened c.write_block.new.self) _ (g.D.Disk.state c.args.disk.now) (g.D.Disk.state c.write_block.new.disk) (g.D.Disk.state c.remove_older.new.disk) c.write_block.ensures.content
    (rearranges_for (content_of_opened c.args.self.now) (IsErrOf c.write_block.result DiskFailed) ⊥ (g.D.Disk.state c.args.disk.now) (g.D.Disk.state c.write_block.new.disk) (λ none. absurd none) c.write_block.ensures.disk)
    (rearranges_for (content_of_opened c.write_block.new.self) (IsErrOf c.remove_older.result DiskFailed) _ (g.D.Disk.state c.write_block.new.disk) (g.D.Disk.state c.remove_older.new.disk)
    (λ f. passed_err c.from_residual-in_err-remove_older.result c.remove_older.result c.in_err-remove_older.field-0.0 DiskFailed c.in_err-remove_older.was c.from_residual-in_err-remove_older.ensures.1 f) c.remove_older.ensures.disk)

-- ---- both are done

pub returns-clause-ok : goal.returns-clause-ok
returns-clause-ok g c = ap (λ (w : InMemory). w.points) (c.remove_older.ensures.held ∙ c.in_ok-write_block.ensures.ok)

pub returns-clause-one : goal.returns-clause-one
returns-clause-one g c tells =
    let s = c.args.self.now in
    let h = c.args.head.now in
    let known = c.in_ok-write_block.ensures.known in
    one_after s.held.points (known_in s.volumes.items) h.ns h.start h.size c.args.rows.now c.requires.ordered (c.requires.join tells) known.0 (g.D.Disk.state c.args.disk.now).files
    (known_counted s.held.points (known_in s.volumes.items) s.tenure s.fence (g.D.Disk.state c.args.disk.now) (g.met.D.Disk.lawful c.args.disk.now) c.requires.kept.exact tells)
    (known.2 tells) c.args.olds.now c.requires.olds c.write_block.new.self c.in_ok-write_block.ensures.ok known.1 (known_in c.remove_older.new.self.volumes.items) c.in_ok-remove_older.ensures.ok

pub returns-clause-others : goal.returns-clause-others
returns-clause-others g c tells =
    let s = c.args.self.now in
    let h = c.args.head.now in
    let known = c.in_ok-write_block.ensures.known in
    numbers_after s.held.points (known_in s.volumes.items) h.ns h.start h.size c.args.rows.now c.requires.ordered (c.requires.join tells) known.0 (g.D.Disk.state c.args.disk.now).files
    (known_counted s.held.points (known_in s.volumes.items) s.tenure s.fence (g.D.Disk.state c.args.disk.now) (g.met.D.Disk.lawful c.args.disk.now) c.requires.kept.exact tells)
    (known.2 tells) c.args.olds.now c.requires.olds (g.D.Disk.state c.write_block.new.disk).files (g.D.Disk.state c.remove_older.new.disk).files (c.write_block.ensures.others tells) (c.remove_older.ensures.others (c.write_block.ensures.disk.tells ∙ tells))

pub returns-clause-fewer : goal.returns-clause-fewer
returns-clause-fewer g c p h =
    let head = c.args.head.now in
    has_fewer c.args.self.now.held.points (is_in_block head.ns head.start head.size) p (subst (λ (w : InMemory). HasPoint w.points p) (c.remove_older.ensures.held ∙ c.in_ok-write_block.ensures.ok) h)

pub returns-clause-content : goal.returns-clause-content
returns-clause-content g c tells = c.remove_older.ensures.content (c.write_block.ensures.disk.tells ∙ tells) ∙ c.write_block.ensures.content tells

pub returns-clause-disk : goal.returns-clause-disk
returns-clause-disk g c =
    rearranges_then (content_of_opened c.args.self.now) (content_of_opened c.write_block.new.self) _ (g.D.Disk.state c.args.disk.now) (g.D.Disk.state c.write_block.new.disk) (g.D.Disk.state c.remove_older.new.disk) c.write_block.ensures.content
    (rearranges_for (content_of_opened c.args.self.now) (IsErrOf c.write_block.result DiskFailed) ⊥ (g.D.Disk.state c.args.disk.now) (g.D.Disk.state c.write_block.new.disk) (λ none. absurd none) c.write_block.ensures.disk)
    (rearranges_for (content_of_opened c.write_block.new.self) (IsErrOf c.remove_older.result DiskFailed) _ (g.D.Disk.state c.write_block.new.disk) (g.D.Disk.state c.remove_older.new.disk) (λ f. absurd (let bad = f in cc)) c.remove_older.ensures.disk)

pub returns-in_err-write_block-clause-counted : goal.returns-in_err-write_block-clause-counted
returns-in_err-write_block-clause-counted g c = c.write_block.ensures.counted

pub returns-in_err-remove_older-clause-counted : goal.returns-in_err-remove_older-clause-counted
returns-in_err-remove_older-clause-counted g c = λ has. c.remove_older.ensures.counted (c.write_block.ensures.counted has)

pub returns-clause-counted : goal.returns-clause-counted
returns-clause-counted g c = λ has. c.remove_older.ensures.counted (c.write_block.ensures.counted has)

pub returns-in_err-write_block-clause-cached : goal.returns-in_err-write_block-clause-cached
returns-in_err-write_block-clause-cached g c = c.write_block.ensures.cached

pub returns-in_err-remove_older-clause-cached : goal.returns-in_err-remove_older-clause-cached
returns-in_err-remove_older-clause-cached g c = λ has. c.remove_older.ensures.cached (c.write_block.ensures.cached has)

pub returns-clause-cached : goal.returns-clause-cached
returns-clause-cached g c = λ has. c.remove_older.ensures.cached (c.write_block.ensures.cached has)
