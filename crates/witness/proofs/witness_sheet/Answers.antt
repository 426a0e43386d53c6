use Rattle.lent.proofs.Lent.{writes_24, writes_0}
use Rattle.witness.specs.Witness.{sheet_of}
use Rattle.witness.proofs.Size.{sheet_bytes, sheet_fits, some_class, pairs_fit}
use Rattle.witness.proofs.witness_sheet.Goals as goal

pub overflow_sub-bytes : goal.overflow_sub-bytes
overflow_sub-bytes c = some_class c.in_ok-given.given _ c.class_count-k.ensures

pub overflow_mul-bytes : goal.overflow_mul-bytes
overflow_mul-bytes c = pairs_fit c.in_ok-given.given _ c.class_count-k.ensures

pub returns-then-buf-bytes : goal.returns-then-buf-bytes
returns-then-buf-bytes c =
    writes_24 _ _ sheet_of _ c.in_ok-given.given c.in_ok-given.ensures _ (sheet_bytes c.in_ok-given.given _ c.class_count-k.ensures) c.if-buf-bytes.true

pub write_sheet-requires : goal.write_sheet-requires
write_sheet-requires c = (c.class_count-k.ensures, sheet_fits c.in_ok-given.given _ c.class_count-k.ensures _ c.if-buf-bytes.false)

pub returns : goal.returns
returns c =
    writes_0 _ _ sheet_of _ c.in_ok-given.given c.in_ok-given.ensures _ (sheet_bytes c.in_ok-given.given _ c.class_count-k.ensures) c.if-buf-bytes.false _ c.write_sheet.ensures
