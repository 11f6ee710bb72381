use Rattle.std.proofs.Common.{◌≡◌, refl, sym, ap, subst, ◌∙◌}
use Rattle.std.specs.Option.{option_copied}
use Rattle.std.specs.Prelude.{Some}
use Rattle.saved_cluster.specs.Saved.{IsReadyFor, IsSaved}
use Rattle.saved_cluster.proofs.DiskLemmas.{counts_as, saved_now}
use Rattle.served_cluster.specs.Plans.{state_of}
use Rattle.saved_cluster.proofs.saved.SavedCluster.save.Goals as goal

pub save-requires : goal.save-requires
save-requires g c = subst (λ o. IsReadyFor o c.args.self.now.log (g.D.Disk.state c.args.self.now.meta)) (sym c.state.ensures ∙ ap option_copied c.in-Some.is) c.requires

pub returns-in-Ok-clause-saved : goal.returns-in-Ok-clause-saved
returns-in-Ok-clause-saved g c = λ last h.
    subst (λ o. IsSaved o (g.D.Disk.state c.save.new.disk)) (sym (sym c.state.ensures ∙ ap option_copied c.in-Some.is)) (saved_now last c.in-Some.state.now (g.D.Disk.state c.args.self.now.meta) (g.D.Disk.state c.save.new.disk) c.save.ensures.tells c.in-Ok.ensures.acknowledged h)

pub returns-in-Ok-clause-any_moment : goal.returns-in-Ok-clause-any_moment
returns-in-Ok-clause-any_moment g c = (_, sym c.state.ensures ∙ ap option_copied c.in-Some.is, c.save.ensures.any_moment)

pub returns-in-Err-clause-any_moment : goal.returns-in-Err-clause-any_moment
returns-in-Err-clause-any_moment g c = (_, sym c.state.ensures ∙ ap option_copied c.in-Some.is, c.save.ensures.any_moment)
