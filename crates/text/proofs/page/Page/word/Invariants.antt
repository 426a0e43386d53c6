use Rattle.std.proofs.Common.{take}
use Rattle.text.specs.Text.{Adds}
use Rattle.text.proofs.page.Page.word.Given as goal

abbrev pub invariant-loop-byte : goal.invariant-loop-byte
invariant-loop-byte l = Adds (take l.byte-index l.word) l.initial.self l.self
