use Rattle.std.proofs.Common.{sym, ◌∙◌, subst}
use Rattle.block_buffer.specs.Held.{InMemory}
use Rattle.block_buffer.specs.Blocks.{IsClosedBlocksOf}
use Rattle.block_buffer.proofs.BlockLemmas.{closed_blocks_of}
use Rattle.block_buffer.proofs.buffer.Buffer.closed_blocks.Goals as goal

pub returns : goal.returns
returns c =
    subst (IsClosedBlocksOf c.args.rules.now c.args.self.now.points) (sym (c.from_vec.ensures ∙ c.in_ok-blocks.ensures.same))
    (subst (λ (h : InMemory). IsClosedBlocksOf c.args.rules.now h.points c.in_ok-starts.starts.keys) c.self.view_is
    (closed_blocks_of c.args.rules.now c.self.inside.all c.in_ok-starts.starts.keys c.in_ok-blocks.ensures.ordered c.in_ok-starts.ensures.held c.in_ok-starts.ensures.whole))
