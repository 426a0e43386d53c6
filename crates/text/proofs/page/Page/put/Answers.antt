use Rattle.std.proofs.Common.{rules}
use Rattle.text.proofs.Adds.{adds_past}
use Rattle.text.proofs.page.Page.put.Goals as goal

pub returns-else-self-lt-SIZE : goal.returns-else-self-lt-SIZE
returns-else-self-lt-SIZE c = adds_past c.self.inside.at _ c.self.inside.bytes _ (search rules) (search rules) (search rules) (search rules)
