use Rattle.std.proofs.Common.{arith}
use Rattle.ia32_rows.proofs.Readers.{AreBytes-from_each}
use Rattle.image_check.proofs.FileLimits.{few_sites, text_bytes}
use Rattle.image_check.proofs.checking.read.Goals as goal

pub returns-in-Ok-clause-short : goal.returns-in-Ok-clause-short
returns-in-Ok-clause-short c = few_sites c.args.bytes.now _ c.in-Ok.ensures.image

pub returns-in-Ok-clause-bytes : goal.returns-in-Ok-clause-bytes
returns-in-Ok-clause-bytes c =
    text_bytes c.args.bytes.now _ c.in-Ok.ensures.image (AreBytes-from_each _ (λ i. omega (arith, c.type_inv.bytes i)))
