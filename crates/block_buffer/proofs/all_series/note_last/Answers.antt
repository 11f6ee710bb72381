use Rattle.std.proofs.Common.{◌≡◌, ℕ, ◌-◌, ◌≤◌, Some, refl, sym, ap, subst, ◌∙◌, true, false, arith}
use Rattle.std.specs.Prelude.{is_some, slice_get}
use Rattle.block_buffer.specs.Bounds.{bound_at, HasGroup}
use Rattle.block_buffer.specs.Spots.{group_of}
use Rattle.block_buffer.proofs.EntryLemmas.{entry_at}
use Rattle.block_buffer.proofs.all_series.note_last.Goals as goal

pub first_time-requires : goal.first_time-requires
first_time-requires c =
    let some = c.requires in
    let all = c.len-last.ensures in
    let at = entry_at c.args.placed.now (c.len-last.result - 1) (omega (arith, some, all)) in
    (at.0, record { slots = at.1; entry = at.2 })

pub space_at-requires : goal.space_at-requires
space_at-requires c =
    let some = c.requires in
    let all = c.len-last.ensures in
    let at = entry_at c.args.placed.now (c.len-last.result - 1) (omega (arith, some, all)) in
    (at.0, record { slots = at.1; entry = at.2 })

pub returns-in-Some-clause-noted : goal.returns-in-Some-clause-noted
returns-in-Some-clause-noted c t g e at some le has =
    let there : slice_get c.args.placed.now (c.len-last.result - 1) ≡ Some e = ap (λ (n : ℕ). slice_get c.args.placed.now (n - 1)) c.len-last.ensures ∙ at in
    let space : c.space_at.result ≡ e.0.ns = c.space_at.ensures e.0 (record { slots = e.1; entry = there }) in
    let first : c.in-Some.t ≤ t = (c.in-Some.ensures.some e.0 e.1 there).first t some in
    let noted = c.lower.ensures.noted g le (subst (λ (n : ℕ). HasGroup c.args.firsts.now.spaces.items n g) (sym space) has) in
    subst (λ (n : ℕ). bound_at c.lower.new.self.spaces.items n (group_of c.args.position) ≤ t) space (omega (arith, noted, first))

pub returns-in-None-clause-noted : goal.returns-in-None-clause-noted
returns-in-None-clause-noted c t g e at some le has =
    let there : slice_get c.args.placed.now (c.len-last.result - 1) ≡ Some e = ap (λ (n : ℕ). slice_get c.args.placed.now (n - 1)) c.len-last.ensures ∙ at in
    let wrong : false ≡ true = sym (ap is_some (c.in-None.ensures.none refl e.0 e.1 there t)) ∙ some in
    cc
