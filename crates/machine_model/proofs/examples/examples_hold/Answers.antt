use Rattle.std.proofs.Common.{refl}
use Rattle.guest_ram.specs.Bytes.{part, word32}
use Rattle.paging.specs.Fresh.{tables_read}
use Rattle.image_check.specs.Places.{is_start}
use Rattle.image_check.specs.Sweep.{sweep_from, sweep, starts_of}
use Rattle.ia32_decode.specs.Decoding.{answer_from, decoded}
use Rattle.ia32_rows.specs.Rows.{rows}
use Rattle.ia32_rows.specs.Spelling.{parts_at, lead_at, coded_at}
use Rattle.ia32_rows.specs.Fields.{addressing_at, immediate_at}
use Rattle.machine_model.proofs.examples.examples_hold.Goals as goal

pub returns : goal.returns
unfolding is_start tables_read word32 part starts_of sweep sweep_from decoded answer_from rows parts_at lead_at coded_at
    addressing_at immediate_at
returns c = record {
  first_count = refl;
  first_digest = refl;
  user_count = refl;
  copy_clashes = refl;
  dirty_copy = refl;
  fresh_copy = refl;
  lone_write = refl;
  narrow = λ b set. refl;
  wide = λ b set. refl;
  open_flags = λ cpu own. refl;
  closed_flags = λ cpu own. refl;
  port_flags = λ cpu own. refl;
  same_level = λ cpu own. refl;
  at_nop = refl;
  at_jump = refl;
  in_jump = refl;
  before = refl;
  behind = refl;
  both_read = refl;
  directory_read = refl;
  table_read = refl;
  no_table_read = refl;
}
