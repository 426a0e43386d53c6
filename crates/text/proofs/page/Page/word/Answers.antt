use Rattle.std.proofs.Common.{rules}
use Rattle.text.proofs.Adds.{word_more}
use Rattle.text.proofs.page.Page.word.Goals as goal

pub loop-byte-preserved : goal.loop-byte-preserved
loop-byte-preserved c = search (rules, word_more)
