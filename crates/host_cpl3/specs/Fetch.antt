-- The instruction at EIP.
use Rattle.std.specs.Prelude.{ℕ, ◌+◌, ◌*◌, ◌/◌, ◌%◌, List, ◌++◌, ◌==◌, false, Ok, Err, if◌then◌else◌}
use Rattle.guest_ram.specs.Bytes.{part}
use Rattle.ia32_types.specs.declared.addresses.TheConstants.{LAST_PAGE}
use Rattle.ia32_types.specs.declared.insn.Insn.{Insn}
use Rattle.ia32_decode.specs.declared.answer.Decoded.{Decoded}
use Rattle.ia32_decode.specs.declared.answer.Decoded.TheVariants as begins
use Rattle.ia32_decode.specs.Decoding.{decoded}
use Rattle.ia32_decode.specs.Front.{longest, front_len}
use Rattle.host_cpl3.specs.declared.exit.Exit.TheVariants as exits
use Rattle.host_cpl3.specs.Met.{Met, ◌>>=◌, gives}
use Rattle.host_cpl3.specs.Pages.{page_met}

-- bytes of one page
unfoldable pub fetching : List ℕ → ℕ → ℕ → ℕ → Met (List ℕ)
fetching m root at len = do
  frame ← page_met m root false at
  gives (part m (4096 * frame + at % 4096) len)

-- with bytes of the next page after those of the first
unfoldable pub fetched_on : List ℕ → ℕ → ℕ → List ℕ → Met Decoded
fetched_on m root eip front = do
  more ← fetching m root (eip / 4096 * 4096 + 4096) longest
  gives (decoded (front ++ more))

-- The second page is reached exactly where the first page's bytes are a proper prefix of a spelling.
abbrev pub fetched_by : List ℕ → ℕ → ℕ → List ℕ → Decoded → Met Decoded
fetched_by m root eip front (begins.Insn insn len) = gives (begins.Insn insn len)
fetched_by m root eip front begins.Outside = gives begins.Outside
fetched_by m root eip front begins.Short = if eip / 4096 == LAST_PAGE then Err exits.Wrap else fetched_on m root eip front

unfoldable pub fetched : List ℕ → ℕ → ℕ → Met Decoded
fetched m root eip = do
  front ← fetching m root eip (front_len eip)
  fetched_by m root eip front (decoded front)

-- the instruction and its length
abbrev pub spelled : Decoded → Met (Insn × ℕ)
spelled (begins.Insn insn len) = Ok (insn, len)
spelled begins.Short = Err exits.Outside
spelled begins.Outside = Err exits.Outside
