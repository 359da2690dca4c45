-- The ranges of an instruction.
use Rattle.std.specs.Prelude.{◌≡◌, ℕ, ◌+◌, ◌-◌, ◌*◌, ◌/◌, ◌^◌, List, Bool, ◌==◌, true, false, not, nat_le, Option, Some, None, Ok, if◌then◌else◌}
use Rattle.ia32_types.specs.declared.flags.Regs.{Regs}
use Rattle.ia32_types.specs.declared.insn.Insn.{Insn}
use Rattle.ia32_exec.specs.declared.access.Range.{Range}
use Rattle.ia32_exec.specs.Effect.{ranges_of}
use Rattle.host_cpl3.specs.declared.view.View.{View}
use Rattle.host_cpl3.specs.declared.exit.Exit.TheVariants as exits
use Rattle.host_cpl3.specs.Met.{Met, ◌>>=◌, gives, unless}
use Rattle.host_cpl3.specs.Views.{is_null, is_past_limit, protection, limit_fault}
use Rattle.host_cpl3.specs.Pages.{page_met}

-- a null segment denies every access
abbrev pub segment_met : View → Option Range → Met (Unit {0})
segment_met v None = gives tt
segment_met v (Some r) = unless protection (not (is_null v r.seg))

-- the page of the last byte
abbrev pub last_page : Range → ℕ
last_page r = (r.at + (r.len - 1)) / 4096

-- both pages of a range that has two; the frames of its first and of its last page
unfoldable pub pages_met : List ℕ → ℕ → Bool → Range → Met (ℕ × ℕ)
pages_met m root write r = do
  first ← page_met m root write r.at
  last ← if last_page r == r.at / 4096 then gives first else page_met m root write (last_page r * 4096)
  gives (first, last)

-- a range: it ends with the address space, lies above its segment's limit, and its pages let the access pass
unfoldable pub range_met : List ℕ → View → Bool → Range → Met (ℕ × ℕ)
range_met m v write r = do
  _ ← unless exits.Wrap (nat_le (r.at + r.len) (2 ^ 32))
  _ ← unless (limit_fault r.seg) (not (is_past_limit v r.at))
  pages_met m v.root write r

-- if there is one
abbrev pub access_met : List ℕ → View → Bool → Option Range → Met (Unit {0})
access_met m v write None = gives tt
access_met m v write (Some r) = do
  _ ← range_met m v write r
  gives tt

-- nothing denies the instruction its ranges
pub record AreMet (v : View) (m : List ℕ) (r : Regs) (insn : Insn) : Type 0 where
  pub read_segment : segment_met v (ranges_of insn r).read ≡ Ok tt
  pub write_segment : segment_met v (ranges_of insn r).write ≡ Ok tt
  pub read : access_met m v false (ranges_of insn r).read ≡ Ok tt
  pub write : access_met m v true (ranges_of insn r).write ≡ Ok tt
