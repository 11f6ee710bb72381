use Rattle.std.proofs.Common.{sym, subst}
use Rattle.m3_model.specs.declared.answer.Answer.{Answer}
use Rattle.session_writes.specs.session_net.Ready.{IsReady, IsCallable}
use Rattle.cluster_members.specs.Calls.{IsReadAnswer, wish}
use Rattle.cluster_members.proofs.ExchangeLemmas.{made_by, keeps, state_same, fates_same, past_same, at_back, bag_same, read_refused}
use Rattle.cluster_members.proofs.calls.read_by.Goals as goal

pub exchange-requires-2 : goal.exchange-requires-2
exchange-requires-2 g c = record {
  there =
      let net = c.args.net.now in
      (net.state.place, at_back c.args.net.now c.exchange.new.net c.fetch-said.new.net c.args.past.now c.exchange.new.past c.args.kept c.requires.there.0 c.requires.there.1 c.exchange.ensures.by c.exchange.ensures.past c.fetch-said.ensures.state c.fetch-said.ensures.fates, net.some_shards, net.few_shards);
}

pub returns-in-Ok-clause-by : goal.returns-in-Ok-clause-by
returns-in-Ok-clause-by g c place at =
    made_by c.args.net.now c.exchange.new.net c.fetch-said.new.net c.args.past.now c.exchange.new.past c.args.kept place at c.exchange.ensures.by c.exchange.ensures.past c.fetch-said.ensures.state c.fetch-said.ensures.fates c.exchange-2.new.net c.exchange-2.new.past c.exchange-2.ensures.by c.exchange-2.ensures.past _ c.in-Ok.ensures.ok

pub returns-in-Ok-clause-callable : goal.returns-in-Ok-clause-callable
returns-in-Ok-clause-callable g c s = keeps c.args.net.now c.exchange.new.net c.fetch-said.new.net c.args.past.now c.exchange.new.past c.args.kept c.requires.there.0 c.requires.there.1 c.exchange.ensures.by c.exchange.ensures.past c.fetch-said.ensures.state c.fetch-said.ensures.fates c.exchange-2.new.net c.exchange-2.new.past c.exchange-2.ensures.by c.exchange-2.ensures.past (IsCallable s) (c.fetch-said.ensures.callable s)

pub returns-in-Ok-clause-ready : goal.returns-in-Ok-clause-ready
returns-in-Ok-clause-ready g c s = keeps c.args.net.now c.exchange.new.net c.fetch-said.new.net c.args.past.now c.exchange.new.past c.args.kept c.requires.there.0 c.requires.there.1 c.exchange.ensures.by c.exchange.ensures.past c.fetch-said.ensures.state c.fetch-said.ensures.fates c.exchange-2.new.net c.exchange-2.new.past c.exchange-2.ensures.by c.exchange-2.ensures.past (IsReady s) (c.fetch-said.ensures.ready s)

pub returns-in-Ok-clause-state : goal.returns-in-Ok-clause-state
returns-in-Ok-clause-state g c = state_same c.args.net.now c.exchange.new.net c.fetch-said.new.net c.args.past.now c.exchange.new.past c.args.kept c.requires.there.0 c.requires.there.1 c.exchange.ensures.by c.exchange.ensures.past c.fetch-said.ensures.state c.fetch-said.ensures.fates c.exchange-2.new.net c.exchange-2.new.past c.exchange-2.ensures.by c.exchange-2.ensures.past

pub returns-in-Ok-clause-fates : goal.returns-in-Ok-clause-fates
returns-in-Ok-clause-fates g c = fates_same c.args.net.now c.exchange.new.net c.fetch-said.new.net c.args.past.now c.exchange.new.past c.args.kept c.requires.there.0 c.requires.there.1 c.exchange.ensures.by c.exchange.ensures.past c.fetch-said.ensures.state c.fetch-said.ensures.fates c.exchange-2.new.net c.exchange-2.new.past c.exchange-2.ensures.by c.exchange-2.ensures.past

pub returns-in-Ok-clause-past : goal.returns-in-Ok-clause-past
returns-in-Ok-clause-past g c = past_same c.args.net.now c.exchange.new.net c.fetch-said.new.net c.args.past.now c.exchange.new.past c.args.kept c.requires.there.0 c.requires.there.1 c.exchange.ensures.by c.exchange.ensures.past c.fetch-said.ensures.state c.fetch-said.ensures.fates c.exchange-2.new.net c.exchange-2.new.past c.exchange-2.ensures.by c.exchange-2.ensures.past

pub returns-in-Ok-clause-bag : goal.returns-in-Ok-clause-bag
returns-in-Ok-clause-bag g c = bag_same c.args.net.now c.exchange.new.net c.fetch-said.new.net c.args.past.now c.exchange.new.past c.args.kept c.requires.there.0 c.requires.there.1 c.exchange.ensures.by c.exchange.ensures.past c.fetch-said.ensures.state c.fetch-said.ensures.fates c.exchange-2.new.net c.exchange-2.new.past c.exchange-2.ensures.by c.exchange-2.ensures.past c.fetch-said.ensures.bag

pub returns-in-Err-clause-by : goal.returns-in-Err-clause-by
returns-in-Err-clause-by g c place at =
    made_by c.args.net.now c.exchange.new.net c.fetch-said.new.net c.args.past.now c.exchange.new.past c.args.kept place at c.exchange.ensures.by c.exchange.ensures.past c.fetch-said.ensures.state c.fetch-said.ensures.fates c.exchange-2.new.net c.exchange-2.new.past c.exchange-2.ensures.by c.exchange-2.ensures.past _
    (subst (λ (b : Answer). IsReadAnswer g.D.Disk.state c.exchange.new.net c.args.id (wish c.args.pick.now c.args.range) c.args.level b c.fetch-said.new.net) (sym c.answer_of.ensures) (read_refused g.D.Disk.state c.exchange.new.net c.fetch-said.new.net c.args.id (wish c.args.pick.now c.args.range) c.args.level c.in-Err.refused c.in-Err.ensures.err))

pub returns-in-Err-clause-callable : goal.returns-in-Err-clause-callable
returns-in-Err-clause-callable g c s = keeps c.args.net.now c.exchange.new.net c.fetch-said.new.net c.args.past.now c.exchange.new.past c.args.kept c.requires.there.0 c.requires.there.1 c.exchange.ensures.by c.exchange.ensures.past c.fetch-said.ensures.state c.fetch-said.ensures.fates c.exchange-2.new.net c.exchange-2.new.past c.exchange-2.ensures.by c.exchange-2.ensures.past (IsCallable s) (c.fetch-said.ensures.callable s)

pub returns-in-Err-clause-ready : goal.returns-in-Err-clause-ready
returns-in-Err-clause-ready g c s = keeps c.args.net.now c.exchange.new.net c.fetch-said.new.net c.args.past.now c.exchange.new.past c.args.kept c.requires.there.0 c.requires.there.1 c.exchange.ensures.by c.exchange.ensures.past c.fetch-said.ensures.state c.fetch-said.ensures.fates c.exchange-2.new.net c.exchange-2.new.past c.exchange-2.ensures.by c.exchange-2.ensures.past (IsReady s) (c.fetch-said.ensures.ready s)

pub returns-in-Err-clause-state : goal.returns-in-Err-clause-state
returns-in-Err-clause-state g c = state_same c.args.net.now c.exchange.new.net c.fetch-said.new.net c.args.past.now c.exchange.new.past c.args.kept c.requires.there.0 c.requires.there.1 c.exchange.ensures.by c.exchange.ensures.past c.fetch-said.ensures.state c.fetch-said.ensures.fates c.exchange-2.new.net c.exchange-2.new.past c.exchange-2.ensures.by c.exchange-2.ensures.past

pub returns-in-Err-clause-fates : goal.returns-in-Err-clause-fates
returns-in-Err-clause-fates g c = fates_same c.args.net.now c.exchange.new.net c.fetch-said.new.net c.args.past.now c.exchange.new.past c.args.kept c.requires.there.0 c.requires.there.1 c.exchange.ensures.by c.exchange.ensures.past c.fetch-said.ensures.state c.fetch-said.ensures.fates c.exchange-2.new.net c.exchange-2.new.past c.exchange-2.ensures.by c.exchange-2.ensures.past

pub returns-in-Err-clause-past : goal.returns-in-Err-clause-past
returns-in-Err-clause-past g c = past_same c.args.net.now c.exchange.new.net c.fetch-said.new.net c.args.past.now c.exchange.new.past c.args.kept c.requires.there.0 c.requires.there.1 c.exchange.ensures.by c.exchange.ensures.past c.fetch-said.ensures.state c.fetch-said.ensures.fates c.exchange-2.new.net c.exchange-2.new.past c.exchange-2.ensures.by c.exchange-2.ensures.past

pub returns-in-Err-clause-bag : goal.returns-in-Err-clause-bag
returns-in-Err-clause-bag g c = bag_same c.args.net.now c.exchange.new.net c.fetch-said.new.net c.args.past.now c.exchange.new.past c.args.kept c.requires.there.0 c.requires.there.1 c.exchange.ensures.by c.exchange.ensures.past c.fetch-said.ensures.state c.fetch-said.ensures.fates c.exchange-2.new.net c.exchange-2.new.past c.exchange-2.ensures.by c.exchange-2.ensures.past c.fetch-said.ensures.bag
