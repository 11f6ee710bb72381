use Rattle.std.proofs.Common.{[], sym, ◌∙◌, ap, refl, subst, append-nil}
use Rattle.std.specs.Prelude.{Err, Ok}
use Rattle.std.proofs.lemmas.Result.{on_ok_weaker}
use Rattle.m3_model.specs.declared.answer.Answer.TheVariants as answer
use Rattle.m3_model.specs.declared.turn.Reply.TheVariants as reply
use Rattle.m3_json.specs.Requests.{LineMeans}
use Rattle.saved_cluster.specs.declared.lost.Lost.TheVariants as lost
use Rattle.m3_program.specs.Exchanges.{reply_line}
use Rattle.m3_program.specs.Streams.{Stage, stage}
use Rattle.m3_program.proofs.CauseLemmas.{counts_none, counts_wanted, wanted_no_meta}
use Rattle.m3_program.proofs.WrittenLemmas.{on_err_just}
use Rattle.m3_program.proofs.ExchangeLemmas.{passes, refuses, answers, drops_served, drops_unserved}
use Rattle.m3_program.proofs.PromiseLemmas.{Serving, may_close, served_so}
use Rattle.m3_program.proofs.exchange.answer_line.Goals as goal

pub returns-then-is_blank-clause-ok : goal.returns-then-is_blank-clause-ok
returns-then-is_blank-clause-ok g c =
    let now : Stage g.row.X-D.Denot g.X.D.Disk = stage c.args.cluster.now (g.X.Disks.depot c.args.disks.now) in
    ([], sym (append-nil c.args.replies.now.items), passes g.X.D.Disk.state now c.args.line.now [] (sym c.is_blank.ensures ∙ c.if-is_blank.true) refl)

pub returns-then-is_blank-clause-close : goal.returns-then-is_blank-clause-close
returns-then-is_blank-clause-close g c =
    may_close g.X.D.Disk.state c.args.cluster.now (g.X.Disks.depot c.args.disks.now).held c.requires.may

pub returns-in-Ok-serve-clause-ok : goal.returns-in-Ok-serve-clause-ok
returns-in-Ok-serve-clause-ok g c =
    let old : Stage g.row.X-D.Denot g.X.D.Disk = stage c.args.cluster.now (g.X.Disks.depot c.args.disks.now) in
    let new : Stage g.row.X-D.Denot g.X.D.Disk = stage c.serve.new.self (g.X.Disks.depot c.serve.new.disks) in
    let s : Serving g.X.D.Disk.state old c.in-Ok.request (Ok c.in-Ok-serve.reply) new = record { out = c.requires.may.meta_out; served = c.in-Ok-serve.ensures.served; tracks = c.in-Ok-serve.ensures.tracks; any_moment = c.in-Ok-serve.ensures.any_moment; tells = c.in-Ok-serve.ensures.tells; saved = c.in-Ok-serve.ensures.may.saved; saves = λ stays. refl; unmade = λ is. absurd (let clash = is in cc); unbegun = λ is. absurd (let clash = is in cc) } in
    on_ok_weaker c.put_reply.result
    (λ e. (
      _,
      e,
      answers g.X.D.Disk.state old new c.args.line.now _ c.in-Ok.request c.in-Ok-serve.reply (sym c.is_blank.ensures ∙ c.if-is_blank.false) c.in-Ok.ensures.ok (ap (λ place. reply_line place c.in-Ok-serve.reply) c.place.ensures.stands) c.in-Ok-serve.ensures.answered
          (λ first turns was. served_so g.X.D.Disk.state old new first turns c.in-Ok.request c.in-Ok-serve.reply was s c.in-Ok-serve.ensures.place c.in-Ok-serve.ensures.may.saved),
    )) c.put_reply.ensures.ok

pub returns-in-Ok-serve-clause-err : goal.returns-in-Ok-serve-clause-err
returns-in-Ok-serve-clause-err g c =
    let old : Stage g.row.X-D.Denot g.X.D.Disk = stage c.args.cluster.now (g.X.Disks.depot c.args.disks.now) in
    let new : Stage g.row.X-D.Denot g.X.D.Disk = stage c.serve.new.self (g.X.Disks.depot c.serve.new.disks) in
    let s : Serving g.X.D.Disk.state old c.in-Ok.request (Ok c.in-Ok-serve.reply) new = record { out = c.requires.may.meta_out; served = c.in-Ok-serve.ensures.served; tracks = c.in-Ok-serve.ensures.tracks; any_moment = c.in-Ok-serve.ensures.any_moment; tells = c.in-Ok-serve.ensures.tells; saved = c.in-Ok-serve.ensures.may.saved; saves = λ stays. refl; unmade = λ is. absurd (let clash = is in cc); unbegun = λ is. absurd (let clash = is in cc) } in
    on_err_just c.put_reply.result (drops_served g.X.D.Disk.state old new c.args.line.now c.in-Ok.request (Ok c.in-Ok-serve.reply) _ c.in-Ok.ensures.ok s)

pub returns-in-Ok-serve-clause-may : goal.returns-in-Ok-serve-clause-may
returns-in-Ok-serve-clause-may g c =
    on_ok_weaker c.put_reply.result (λ e. c.in-Ok-serve.ensures.may) c.put_reply.ensures.ok

pub returns-in-Ok-serve-clause-meta : goal.returns-in-Ok-serve-clause-meta
returns-in-Ok-serve-clause-meta g c =
    counts_wanted _ c.put_reply.result (g.X.D.Disk.state c.args.cluster.now.meta).faults (g.X.D.Disk.state c.serve.new.self.meta).faults c.in-Ok-serve.ensures.faults c.put_reply.ensures.want

pub returns-in-Err-clause-err : goal.returns-in-Err-clause-err
returns-in-Err-clause-err g c =
    let old : Stage g.row.X-D.Denot g.X.D.Disk = stage c.args.cluster.now (g.X.Disks.depot c.args.disks.now) in
    let new : Stage g.row.X-D.Denot g.X.D.Disk = stage c.serve.new.self (g.X.Disks.depot c.serve.new.disks) in
    let s : Serving g.X.D.Disk.state old c.in-Ok.request (Err c.in-Err.lost) new = record { out = c.requires.may.meta_out; served = c.in-Err.ensures.served; tracks = c.in-Err.ensures.tracks; any_moment = c.in-Err.ensures.any_moment; tells = c.in-Err.ensures.tells; saved = tt; saves = λ stays. (c.in-Err.ensures.others stays).2; unmade = c.in-Err.ensures.unmade; unbegun = λ is. (c.in-Err.ensures.unbegun is).none } in
    drops_served g.X.D.Disk.state old new c.args.line.now c.in-Ok.request (Err c.in-Err.lost) _ c.in-Ok.ensures.ok s

pub returns-in-Err-Form-clause-ok : goal.returns-in-Err-Form-clause-ok
returns-in-Err-Form-clause-ok g c =
    let now : Stage g.row.X-D.Denot g.X.D.Disk = stage c.args.cluster.now (g.X.Disks.depot c.args.disks.now) in
    on_ok_weaker c.put_reply-in-Err-Form.result
    (λ e. (
      _,
      e,
      refuses g.X.D.Disk.state now c.args.line.now _ answer.Form (sym c.is_blank.ensures ∙ c.if-is_blank.false)
          (subst (λ f. LineMeans c.args.line.now (Err f)) c.in-Err-Form.field-0-is c.in-Err-Form.ensures.err) (ap (λ place. reply_line place (reply.One answer.Form)) c.place-in-Err-Form.ensures.stands),
    )) c.put_reply-in-Err-Form.ensures.ok

pub returns-in-Err-Form-clause-err : goal.returns-in-Err-Form-clause-err
returns-in-Err-Form-clause-err g c =
    let now : Stage g.row.X-D.Denot g.X.D.Disk = stage c.args.cluster.now (g.X.Disks.depot c.args.disks.now) in
    on_err_just c.put_reply-in-Err-Form.result (drops_unserved g.X.D.Disk.state now c.args.line.now _ (wanted_no_meta c.put_reply-in-Err-Form.result c.put_reply-in-Err-Form.ensures.want))

pub returns-in-Err-Form-clause-may : goal.returns-in-Err-Form-clause-may
returns-in-Err-Form-clause-may g c =
    on_ok_weaker c.put_reply-in-Err-Form.result (λ e. c.requires.may) c.put_reply-in-Err-Form.ensures.ok

pub returns-in-Err-Form-clause-close : goal.returns-in-Err-Form-clause-close
returns-in-Err-Form-clause-close g c =
    may_close g.X.D.Disk.state c.args.cluster.now (g.X.Disks.depot c.args.disks.now).held c.requires.may

pub returns-in-Err-Form-clause-meta : goal.returns-in-Err-Form-clause-meta
returns-in-Err-Form-clause-meta g c =
    counts_wanted ⊥ c.put_reply-in-Err-Form.result (g.X.D.Disk.state c.args.cluster.now.meta).faults (g.X.D.Disk.state c.args.cluster.now.meta).faults (counts_none (g.X.D.Disk.state c.args.cluster.now.meta).faults) c.put_reply-in-Err-Form.ensures.want

pub returns-in-Err-Later-clause-ok : goal.returns-in-Err-Later-clause-ok
returns-in-Err-Later-clause-ok g c =
    let now : Stage g.row.X-D.Denot g.X.D.Disk = stage c.args.cluster.now (g.X.Disks.depot c.args.disks.now) in
    on_ok_weaker c.put_reply-in-Err-Later.result
    (λ e. (
      _,
      e,
      refuses g.X.D.Disk.state now c.args.line.now _ answer.Later (sym c.is_blank.ensures ∙ c.if-is_blank.false)
          (subst (λ f. LineMeans c.args.line.now (Err f)) c.in-Err-Later.field-0-is c.in-Err-Later.ensures.err) (ap (λ place. reply_line place (reply.One answer.Later)) c.place-in-Err-Later.ensures.stands),
    )) c.put_reply-in-Err-Later.ensures.ok

pub returns-in-Err-Later-clause-err : goal.returns-in-Err-Later-clause-err
returns-in-Err-Later-clause-err g c =
    let now : Stage g.row.X-D.Denot g.X.D.Disk = stage c.args.cluster.now (g.X.Disks.depot c.args.disks.now) in
    on_err_just c.put_reply-in-Err-Later.result (drops_unserved g.X.D.Disk.state now c.args.line.now _ (wanted_no_meta c.put_reply-in-Err-Later.result c.put_reply-in-Err-Later.ensures.want))

pub returns-in-Err-Later-clause-may : goal.returns-in-Err-Later-clause-may
returns-in-Err-Later-clause-may g c =
    on_ok_weaker c.put_reply-in-Err-Later.result (λ e. c.requires.may) c.put_reply-in-Err-Later.ensures.ok

pub returns-in-Err-Later-clause-close : goal.returns-in-Err-Later-clause-close
returns-in-Err-Later-clause-close g c =
    may_close g.X.D.Disk.state c.args.cluster.now (g.X.Disks.depot c.args.disks.now).held c.requires.may

pub returns-in-Err-Later-clause-meta : goal.returns-in-Err-Later-clause-meta
returns-in-Err-Later-clause-meta g c =
    counts_wanted ⊥ c.put_reply-in-Err-Later.result (g.X.D.Disk.state c.args.cluster.now.meta).faults (g.X.D.Disk.state c.args.cluster.now.meta).faults (counts_none (g.X.D.Disk.state c.args.cluster.now.meta).faults) c.put_reply-in-Err-Later.ensures.want

pub returns-in-Err-Memory-clause-err : goal.returns-in-Err-Memory-clause-err
returns-in-Err-Memory-clause-err g c =
    let now : Stage g.row.X-D.Denot g.X.D.Disk = stage c.args.cluster.now (g.X.Disks.depot c.args.disks.now) in
    drops_unserved g.X.D.Disk.state now c.args.line.now _ (wanted_no_meta (Err lost.Memory) refl)

pub returns-in-Err-Memory-clause-close : goal.returns-in-Err-Memory-clause-close
returns-in-Err-Memory-clause-close g c =
    may_close g.X.D.Disk.state c.args.cluster.now (g.X.Disks.depot c.args.disks.now).held c.requires.may

pub returns-in-Err-Memory-clause-meta : goal.returns-in-Err-Memory-clause-meta
returns-in-Err-Memory-clause-meta g c =
    counts_wanted ⊥ _ (g.X.D.Disk.state c.args.cluster.now.meta).faults (g.X.D.Disk.state c.args.cluster.now.meta).faults (counts_none (g.X.D.Disk.state c.args.cluster.now.meta).faults) refl
