use Rattle.tockbronze.proofs.Buffers.{sheet_small}
use Rattle.tockbronze.proofs.tockbronze_witness_sheet.Goals as goal

pub packed-requires : goal.packed-requires
packed-requires c = sheet_small _ _ _ _ _ c.witness_sheet.ensures
