use Rattle.std.proofs.Common.{◌≡◌, refl, sym, ap, subst, ◌∙◌}
use Rattle.std.specs.Prelude.{Some, None, IfSome, option_map}
use Rattle.m3_model.specs.declared.answer.Answer.TheVariants as answer
use Rattle.line_tracks.specs.session_net.Ready.{IsReady}
use Rattle.line_tracks.specs.tracks.Lines.{EachMember}
use Rattle.saved_cluster.proofs.DiskLemmas.{counts_as, saved_now}
use Rattle.saved_cluster.proofs.saved.SavedCluster.begin.Goals as goal

-- The save failed: the disks of the replicas are back as they were.
pub returns-in-Err-clause-served : goal.returns-in-Err-clause-served
returns-in-Err-clause-served g c = λ rf shards seed nodes first is. (answer.Memory, tt, (refl, c.requires.none, c.give_back.ensures.returned rf shards seed nodes first is))

pub returns-in-Err-clause-ready : goal.returns-in-Err-clause-ready
returns-in-Err-clause-ready g c = subst (λ o. EachMember o (λ m. IsReady m.net.state m.net.replicas m.net.bag)) (sym c.requires.none) tt

pub returns-in-Err-clause-has : goal.returns-in-Err-clause-has
returns-in-Err-clause-has g c = subst (λ o. IfSome (option_map (λ m. m.net.state) o) (λ it. it ≡ c.args.lent.members.net.state)) (sym c.requires.none) tt

pub returns-in-Err-clause-untouched : goal.returns-in-Err-clause-untouched
returns-in-Err-clause-untouched g c = λ lost. c.give_back.ensures.as_they_were

pub returns-in-Err-clause-unmade : goal.returns-in-Err-clause-unmade
returns-in-Err-clause-unmade g c = λ lost. c.requires.none

pub returns-in-Err-clause-faults : goal.returns-in-Err-clause-faults
returns-in-Err-clause-faults g c = counts_as _ _ _ _ (λ is. refl) c.in-Err.ensures.faults

-- Memory was wanted as the replicas began: their disks are back.
pub returns-in-Err-begin_first-clause-served : goal.returns-in-Err-begin_first-clause-served
returns-in-Err-begin_first-clause-served g c = λ rf shards seed nodes first is. (answer.Memory, tt, (refl, c.requires.none, c.in-Err-begin_first.ensures.returned rf shards seed nodes first is))

pub returns-in-Err-begin_first-clause-ready : goal.returns-in-Err-begin_first-clause-ready
returns-in-Err-begin_first-clause-ready g c = subst (λ o. EachMember o (λ m. IsReady m.net.state m.net.replicas m.net.bag)) (sym c.requires.none) tt

pub returns-in-Err-begin_first-clause-has : goal.returns-in-Err-begin_first-clause-has
returns-in-Err-begin_first-clause-has g c = subst (λ o. IfSome (option_map (λ m. m.net.state) o) (λ it. it ≡ c.args.lent.members.net.state)) (sym c.requires.none) tt

pub returns-in-Err-begin_first-clause-untouched : goal.returns-in-Err-begin_first-clause-untouched
returns-in-Err-begin_first-clause-untouched g c = λ is. absurd (let clash = is in cc)

pub returns-in-Err-begin_first-clause-unmade : goal.returns-in-Err-begin_first-clause-unmade
returns-in-Err-begin_first-clause-unmade g c = λ is. c.requires.none

pub returns-in-Err-begin_first-clause-unbegun : goal.returns-in-Err-begin_first-clause-unbegun
returns-in-Err-begin_first-clause-unbegun g c = λ is. (c.requires.none, λ last h. saved_now last c.args.lent.members.net.state (g.D.Disk.state c.args.self.now.meta) (g.D.Disk.state c.save.new.disk) c.save.ensures.tells c.in-Ok.ensures.acknowledged h)

pub returns-in-Err-begin_first-clause-faults : goal.returns-in-Err-begin_first-clause-faults
returns-in-Err-begin_first-clause-faults g c = counts_as _ _ _ _ (λ is. (let clash = is in cc)) c.in-Ok.ensures.faults

-- They began, and the cluster stands.
pub returns : goal.returns
returns g c =
    let made = c.in-Ok-begin_first.ensures in
    let save = c.save.ensures in
    let stands = ap (option_map (λ m. m.net.state)) c.stand.ensures.members ∙ ap Some made.state in
    record {
      served = λ rf shards seed nodes first is. (_, refl, (refl, _, c.stand.ensures.members, made.members rf shards seed nodes first is, made.placement, refl));
      ready = subst (λ o. EachMember o (λ m. IsReady m.net.state m.net.replicas m.net.bag)) (sym c.stand.ensures.members) made.ready;
      state = stands;
      has = subst (λ o. IfSome o (λ it. it ≡ c.args.lent.members.net.state)) (sym stands) refl;
      calls = c.stand.ensures.calls;
      untouched = λ is. absurd (let clash = is in cc);
      unmade = λ is. absurd (let clash = is in cc);
      saved = λ last h. saved_now last c.args.lent.members.net.state (g.D.Disk.state c.args.self.now.meta) (g.D.Disk.state c.save.new.disk) save.tells c.in-Ok.ensures.acknowledged h;
      unbegun = λ is. absurd (let clash = is in cc);
      any_moment = save.any_moment;
      log = save.stands;
      tells = save.tells;
      faults = counts_as _ _ _ _ (λ is. (let clash = is in cc)) c.in-Ok.ensures.faults;
    }
