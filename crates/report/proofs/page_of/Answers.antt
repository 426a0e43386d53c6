use Rattle.report.proofs.Page.{page_formed}
use Rattle.report.proofs.page_of.Goals as goal

pub table_page-requires : goal.table_page-requires
table_page-requires c = search page_formed
