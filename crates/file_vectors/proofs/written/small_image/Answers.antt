use Rattle.std.proofs.Common.{arith}
use Rattle.file_vectors.proofs.SmallFiles.{small_image}
use Rattle.file_vectors.proofs.written.small_image.Goals as goal

pub returns : goal.returns
returns c c' = small_image _ (omega (arith, c'.list.ensures, c'.list-2.ensures, c'.list-3.ensures))
