use Rattle.tockbronze.proofs.Buffers.{report_small, report_call}
use Rattle.tockbronze.proofs.tockbronze_report.Goals as goal

pub packed-requires : goal.packed-requires
packed-requires c = report_small _ _ c.report.result _ c.type_inv.book c.report.ensures

pub returns : goal.returns
returns c = report_call _ _ c.report.result _ _ c.report.ensures c.packed.ensures
