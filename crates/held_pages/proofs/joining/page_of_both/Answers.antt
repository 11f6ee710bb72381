use Rattle.held_pages.proofs.joining.page_of_both.Goals as goal

pub returns : goal.returns
returns k c d join after joins one other = k.page_of_first.ensures join after (k.in_ok-first.ensures c d join after joins one other)
