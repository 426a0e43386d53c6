use Rattle.report.proofs.Page.{table_paged}
use Rattle.report.proofs.table_page.Goals as goal

pub returns : goal.returns
returns c = search table_paged
