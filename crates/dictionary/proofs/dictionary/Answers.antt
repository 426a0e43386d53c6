use Rattle.lent.proofs.Lent.{writes_24, writes_0}
use Rattle.dictionary.specs.Dictionary.{dictionary_of}
use Rattle.dictionary.proofs.Rows.{dictionary_size, dictionary_fits, bytes_fit}
use Rattle.dictionary.proofs.dictionary.Goals as goal

pub overflow_mul-bytes : goal.overflow_mul-bytes
overflow_mul-bytes c = bytes_fit c.in_ok-given.given _ _ c.size-n.ensures c.class_count.ensures

pub returns-then-buf-bytes : goal.returns-then-buf-bytes
returns-then-buf-bytes c =
    writes_24 _ _ dictionary_of _ c.in_ok-given.given c.in_ok-given.ensures _
    (dictionary_size c.in_ok-given.given _ _ c.size-n.ensures c.class_count.ensures) c.if-buf-bytes.true

pub write_rows-requires : goal.write_rows-requires
write_rows-requires c =
    (c.size-n.ensures, dictionary_fits c.in_ok-given.given _ _ c.size-n.ensures c.class_count.ensures _ c.if-buf-bytes.false)

pub returns : goal.returns
returns c =
    writes_0 _ _ dictionary_of _ c.in_ok-given.given c.in_ok-given.ensures _
    (dictionary_size c.in_ok-given.given _ _ c.size-n.ensures c.class_count.ensures) c.if-buf-bytes.false _ c.write_rows.ensures
