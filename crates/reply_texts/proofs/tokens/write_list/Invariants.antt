use Rattle.std.proofs.Common.{◌≡◌, ◌++◌, drop}
use Rattle.reply_values.specs.Json.{list_of}
use Rattle.reply_texts.specs.Tokens.{tokens_of}
use Rattle.reply_texts.proofs.ListLemmas.{rest_tokens, RestReads}
use Rattle.reply_texts.proofs.tokens.write_list.Given as goal

-- what is written so far, and then the rest
abbrev pub invariant-loop-item : goal.invariant-loop-item
invariant-loop-item g l = record {
  tokens : l.out.tokens ++ rest_tokens (g.T.Tokens.data_of l.instances) (drop l.item-index l.items) ≡ l.fn.out.tokens ++ tokens_of (list_of (g.T.Tokens.data_of l.instances) l.items);
  reads : RestReads (g.T.Tokens.data_of l.instances) (drop l.item-index l.items) → RestReads (g.T.Tokens.data_of l.instances) l.items;
  before : l.out.before ≡ l.fn.out.before;
}
