use Rattle.std.proofs.Common.{length, ◌≡◌}
use Rattle.small_books_run.proofs.edges.tests_book.Given as goal

abbrev pub invariant-loop-i : goal.invariant-loop-i
invariant-loop-i l = length l.book ≡ 186
