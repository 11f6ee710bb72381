-- What earlier runs left is told of the points of an opening, in whatever order.
use Rattle.std.proofs.Common.{ℕ, List}
use Rattle.std.specs.Prelude.{Option}
use Rattle.m3_model.specs.declared.rules.MetaState.{MetaState}
use Rattle.shard_files.specs.Once.{HaveSamePoints}
use Rattle.transcripts.specs.Record.{Record}
use Rattle.cluster_core.specs.Core.{Opening}
use Rattle.cluster_core.proofs.HeldLemmas.{covers_sub}
use Rattle.transcripts.specs.Left.{OpeningStands}

pub same_opening : (past : List Record) (start : Option MetaState) (one other : Opening) → ((n s : ℕ) → HaveSamePoints (other n s) (one n s)) → OpeningStands past start one → OpeningStands past start other
same_opening past start one other same stands = record {
  acked = λ turn among nodes is.
      let c = stands.acked turn among nodes is in
      record {
        state = c.state;
        found = c.found;
        point = c.point;
        of_act = c.of_act;
        left = λ enough alive.
            let l = c.left enough alive in
            (l.0, l.1, λ members m. let f = l.2 members m in (f.0, f.1, covers_sub (one f.0 _) (other f.0 _) c.point (λ q. (same f.0 _ q).1) f.2));
      };
  sent = λ n s point h. stands.sent n s point ((same n s point).0 h);
}
