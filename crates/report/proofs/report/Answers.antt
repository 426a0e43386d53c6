use Rattle.report.proofs.Page.{report_laid}
use Rattle.report.proofs.report.Goals as goal

pub returns : goal.returns
returns c = search report_laid
