use Rattle.std.proofs.Common.{rules}
use Rattle.ia32_encode.proofs.parts.memory_disp_len.Goals as goal

pub returns-then-base_code-ne5 : goal.returns-then-base_code-ne5
returns-then-base_code-ne5 c = search rules

pub returns-then-fits_signed_byte : goal.returns-then-fits_signed_byte
returns-then-fits_signed_byte c = search rules
