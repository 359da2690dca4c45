-- Which steps' lines are printed.
use Rattle.std.specs.Prelude.{ℕ, ◌+◌, ◌==◌, ◌&&◌, nat_lt, Bool, true, false, Option, Some, None}
use Rattle.std.specs.List.{list_any}
use Rattle.ia32_exec.specs.declared.access.Range.{Range}
use Rattle.look_words.specs.Words.{Only, Each, At, On}
use Rattle.step_text.specs.declared.activity.Activity.{Activity}
use Rattle.step_text.specs.declared.activity.Activity.TheVariants as activity

-- the processor begins the instruction at EIP
abbrev pub begins_instruction : Activity → Bool
begins_instruction (activity.Takes vector) = false
begins_instruction activity.Waits = false
begins_instruction _ = true

-- they have an address in common
abbrev pub meets : ℕ → ℕ → Option Range → Bool
meets address len None = false
meets address len (Some range) = nat_lt range.at (address + len) && nat_lt address (range.at + range.len)

-- each; those that begin an instruction at one of these addresses; or those that write to a range
unfoldable pub wants : Only → Activity → (eip : ℕ) → (written : Option Range) → Bool
wants Each does eip written = true
wants (At addresses) does eip written = begins_instruction does && list_any (λ a. a == eip) addresses
wants (On address len) does eip written = meets address len written
