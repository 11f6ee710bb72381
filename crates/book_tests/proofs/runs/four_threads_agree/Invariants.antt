use Rattle.std.proofs.Common.{true}
use Rattle.book_tests.proofs.runs.four_threads_agree.Given as goal

abbrev pub ghosts-one_run : goal.ghosts-one_run
ghosts-one_run g a = record { table = a.blank; tells = true }
