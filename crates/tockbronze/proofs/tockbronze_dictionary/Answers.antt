use Rattle.tockbronze.proofs.Buffers.{dictionary_small}
use Rattle.tockbronze.proofs.tockbronze_dictionary.Goals as goal

pub packed-requires : goal.packed-requires
packed-requires c = dictionary_small _ _ _ _ _ c.dictionary.ensures
