use Rattle.std.proofs.Common.{◌≡◌, [], ◌∷◌, refl, sym, ap, subst, ◌∙◌}
use Rattle.std.specs.Prelude.{OnOk}
use Rattle.m3_model.specs.declared.answer.Answer.{Answer}
use Rattle.m3_model.specs.declared.turn.Reply.{Reply}
use Rattle.m3_model.specs.declared.turn.Reply.TheVariants as reply
use Rattle.served_acts.specs.NotYet.{IsServed}
use Rattle.line_tracks.specs.transcripts.Placements.{placement_after}
use Rattle.line_tracks.specs.transcripts.Record.{IsAnsweredBy, inner_turns}
use Rattle.served_cluster.specs.Acts.{Serves, ServesRequest}
use Rattle.served_cluster.specs.Owned.{place_of}
use Rattle.served_cluster.specs.Plans.{state_of}
use Rattle.served_cluster.proofs.PlaceLemmas.{serves_place}
use Rattle.served_cluster.proofs.TrackLemmas.{tracks_on}
use Rattle.saved_cluster.specs.Saved.{AnswersSaved, ElapsesBy, IsUnbegun, MayServeSaved}
use Rattle.saved_cluster.specs.States.{is_init_request, saves}
use Rattle.saved_cluster.specs.declared.lost.Lost.TheVariants as lost
use Rattle.saved_cluster.proofs.DiskLemmas.{counts_as}
use Rattle.saved_cluster.proofs.ServeLemmas.{err_as, init_of}
use Rattle.saved_cluster.proofs.saved.SavedCluster.serve.Goals as goal

-- What is tracked follows from what was served, by the answer or by one that might have come, and from what the list is known to be before and after.

pub returns-in-Ok-clause-served : goal.returns-in-Ok-clause-served
returns-in-Ok-clause-served g c =
    let act = c.serve_act-answered in
    let before = g.X.Disks.depot c.args.disks.now in
    let after = g.X.Disks.depot act.new.disks in
    let old = c.args.self.now.cluster in
    let answered = subst (λ r. AnswersSaved g.D.Disk.state before c.args.self.now c.in-One.act r after act.new.self) c.in-Ok.is act.ensures.answered in
    let serves = subst (λ b. Serves g.D.Disk.state before old c.in-One.act b after act.new.self.cluster) (sym answered.served.1) answered.served.2 in
    (_, refl, subst (λ r. ServesRequest g.D.Disk.state before old r (reply.One c.in-Ok.answer) after act.new.self.cluster) (sym c.in-One.is) serves)

pub returns-in-Ok-clause-place : goal.returns-in-Ok-clause-place
returns-in-Ok-clause-place g c =
    let act = c.serve_act-answered in
    let before = g.X.Disks.depot c.args.disks.now in
    let after = g.X.Disks.depot act.new.disks in
    let old = c.args.self.now.cluster in
    let answered = subst (λ r. AnswersSaved g.D.Disk.state before c.args.self.now c.in-One.act r after act.new.self) c.in-Ok.is act.ensures.answered in
    let serves = subst (λ b. Serves g.D.Disk.state before old c.in-One.act b after act.new.self.cluster) (sym answered.served.1) answered.served.2 in
    subst (λ r. placement_after (place_of old) (inner_turns (record { request = r; reply = reply.One c.in-Ok.answer } ∷ [])) ≡ place_of act.new.self.cluster) (sym c.in-One.is) (serves_place g.D.Disk.state before old c.in-One.act c.in-Ok.answer after act.new.self.cluster serves)

pub returns-in-Ok-clause-tracks : goal.returns-in-Ok-clause-tracks
returns-in-Ok-clause-tracks g c = λ tells past start first turns t.
    let act = c.serve_act-answered in
    let before = g.X.Disks.depot c.args.disks.now in
    let after = g.X.Disks.depot act.new.disks in
    let old = c.args.self.now.cluster in
    let answered = subst (λ r. AnswersSaved g.D.Disk.state before c.args.self.now c.in-One.act r after act.new.self) c.in-Ok.is act.ensures.answered in
    let serves = subst (λ b. Serves g.D.Disk.state before old c.in-One.act b after act.new.self.cluster) (sym answered.served.1) answered.served.2 in (
      _,
      refl,
      tracks_on g.D.Disk.state g.met.D.Disk.lawful old act.new.self.cluster before after c.args.request c.in-One.act c.in-Ok.answer c.in-One.is (subst IsServed c.in-One.is c.requires.served)
          c.know.ensures.members serves c.know-in-One.ensures.legal answered.close.cluster tells past start first turns t,
      subst (λ r. IsAnsweredBy r (reply.One c.in-Ok.answer)) (sym c.in-One.is) tt,
    )

pub returns-in-Err-clause-tracks : goal.returns-in-Err-clause-tracks
returns-in-Err-clause-tracks g c = λ tells past start first turns t.
    let act = c.serve_act-answered in
    let before = g.X.Disks.depot c.args.disks.now in
    let after = g.X.Disks.depot act.new.disks in
    let old = c.args.self.now.cluster in
    let said = act.ensures.answered.served in (
      reply.One said.0,
      tt,
      tracks_on g.D.Disk.state g.met.D.Disk.lawful old act.new.self.cluster before after c.args.request c.in-One.act said.0 c.in-One.is (subst IsServed c.in-One.is c.requires.served)
          c.know.ensures.members said.2 c.know-in-One.ensures.legal act.ensures.answered.close.cluster tells past start first turns t,
      subst (λ r. IsAnsweredBy r (reply.One said.0)) (sym c.in-One.is) tt,
    )

pub returns-in-Err-clause-served : goal.returns-in-Err-clause-served
returns-in-Err-clause-served g c =
    let act = c.serve_act-answered in
    let before = g.X.Disks.depot c.args.disks.now in
    let after = g.X.Disks.depot act.new.disks in
    let said = act.ensures.answered.served in
    (reply.One said.0, tt, subst (λ r. ServesRequest g.D.Disk.state before c.args.self.now.cluster r (reply.One said.0) after act.new.self.cluster) (sym c.in-One.is) said.2)

pub returns-in-Ok-clause-any_moment : goal.returns-in-Ok-clause-any_moment
returns-in-Ok-clause-any_moment g c = λ tells.
    let old = c.args.self.now in
    subst (λ r. ElapsesBy old.cluster r c.serve_act-answered.new.self.cluster (g.D.Disk.state old.meta) (g.D.Disk.state c.serve_act-answered.new.self.meta)) (sym c.in-One.is) (c.serve_act-answered.ensures.answered.any_moment tells)

pub returns-in-Err-clause-any_moment : goal.returns-in-Err-clause-any_moment
returns-in-Err-clause-any_moment g c = λ tells.
    let old = c.args.self.now in
    subst (λ r. ElapsesBy old.cluster r c.serve_act-answered.new.self.cluster (g.D.Disk.state old.meta) (g.D.Disk.state c.serve_act-answered.new.self.meta)) (sym c.in-One.is) (c.serve_act-answered.ensures.answered.any_moment tells)

-- Why it got no reply is why the act got no answer.

pub returns-in-Err-clause-unbegun : goal.returns-in-Err-clause-unbegun
returns-in-Err-clause-unbegun g c = λ is.
    subst (λ r. IsUnbegun g.D.Disk.state c.args.self.now r c.serve_act-answered.new.self) (sym c.in-One.is) (c.serve_act-answered.ensures.unbegun (c.in-Err.is ∙ err_as Reply Answer c.in-Err.lost lost.Memory is))

pub returns-in-Err-clause-wanted : goal.returns-in-Err-clause-wanted
returns-in-Err-clause-wanted g c = λ is. ap is_init_request c.in-One.is ∙ init_of c.in-One.act ∙ c.serve_act-answered.ensures.wanted (c.in-Err.is ∙ err_as Reply Answer c.in-Err.lost lost.Memory is)

pub returns-in-Err-clause-untouched : goal.returns-in-Err-clause-untouched
returns-in-Err-clause-untouched g c = λ is init.
    c.serve_act-answered.ensures.untouched (c.in-Err.is ∙ err_as Reply Answer c.in-Err.lost lost.Meta is) (sym (init_of c.in-One.act) ∙ sym (ap is_init_request c.in-One.is) ∙ init)

pub returns-in-Err-clause-unmade : goal.returns-in-Err-clause-unmade
returns-in-Err-clause-unmade g c = λ is init.
    c.serve_act-answered.ensures.unmade (c.in-Err.is ∙ err_as Reply Answer c.in-Err.lost lost.Meta is) (sym (init_of c.in-One.act) ∙ sym (ap is_init_request c.in-One.is) ∙ init)

pub returns-in-Err-clause-faults : goal.returns-in-Err-clause-faults
returns-in-Err-clause-faults g c = counts_as _ _ _ _ (λ is. c.in-Err.is ∙ err_as Reply Answer c.in-Err.lost lost.Meta is) c.serve_act-answered.ensures.answered.faults

pub returns-in-Ok-clause-faults : goal.returns-in-Ok-clause-faults
returns-in-Ok-clause-faults g c = counts_as _ _ _ _ (λ is. absurd (let clash = is in cc)) c.serve_act-answered.ensures.answered.faults

-- A request that isn't saved leaves the meta disk.
pub returns-in-Ok-clause-others : goal.returns-in-Ok-clause-others
returns-in-Ok-clause-others g c = λ stays. let others = c.serve_act-answered.ensures.others (sym (ap saves c.in-One.is) ∙ stays) in (others.0, others.1, refl)

pub returns-in-Ok-clause-may : goal.returns-in-Ok-clause-may
returns-in-Ok-clause-may g c = subst (λ r. OnOk r (MayServeSaved g.D.Disk.state c.serve_act-answered.new.self (g.X.Disks.depot c.serve_act-answered.new.disks).held)) c.in-Ok.is c.serve_act-answered.ensures.answered.may
