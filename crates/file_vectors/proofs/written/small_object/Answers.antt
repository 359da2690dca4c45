use Rattle.std.proofs.Common.{arith}
use Rattle.file_vectors.proofs.SmallFiles.{small_object}
use Rattle.file_vectors.proofs.written.small_object.Goals as goal

pub returns : goal.returns
returns c c' = small_object _ c'.small_symbols.ensures.count c'.small_symbols.ensures.names
    (omega (arith, c'.list.ensures, c'.list-2.ensures, c'.list-3.ensures, c'.small_relocs.ensures.count)) c'.small_relocs.ensures.named
