use Rattle.std.proofs.Common.{◌≡◌, ℕ, ◌<◌, ◌≤◌, Ok, Err, refl, arith, rules}
use Rattle.std.proofs.lemmas.Bool.{le-ltb, lt-ltb}
use Rattle.paging.specs.Space.{Space}
use Rattle.descriptors.specs.Form.{descriptor_of}
use Rattle.descriptors.specs.declared.cpu.Cpu.{Cpu}
use Rattle.sys_exec.specs.declared.effect.Refusal.{Refusal}
use Rattle.sys_exec.specs.declared.segment.Purpose.{Purpose}
use Rattle.sys_exec.specs.declared.segment.Purpose.TheVariants as purposes
use Rattle.sys_exec.specs.Operand.{protection_0}
use Rattle.sys_exec.specs.Segment.{form_stop, selected, find_data, find_stack, find_return, find_jump}
use Rattle.sys_exec.specs.Purposes.{judged, found}
use Rattle.sys_exec.proofs.segment.find.Goals as goal

null : (purpose : Purpose) (cpu : Cpu) (sel : ℕ) (s : Space) → sel < 4 → (purpose ≡ purposes.Data → 4 ≤ sel)
    → found purpose cpu sel s ≡ Err (protection_0, s)
unfolding find_data find_stack find_return find_jump
null purposes.Data cpu sel s below above = absurd (omega (arith, above refl))
null (purposes.Stack level) cpu sel s below above = rw (lt-ltb sel 4 below) refl
null purposes.Return cpu sel s below above = rw (lt-ltb sel 4 below) refl
null purposes.Jump cpu sel s below above = rw (lt-ltb sel 4 below) refl

not_read : (purpose : Purpose) (cpu : Cpu) (sel : ℕ) (s t : Space) (e : Refusal) → 4 ≤ sel → selected cpu form_stop sel s ≡ Err (e, t)
    → found purpose cpu sel s ≡ Err (e, t)
unfolding find_data find_stack find_return find_jump
not_read purposes.Data cpu sel s t e above read = rw read refl
not_read (purposes.Stack level) cpu sel s t e above read = rw (le-ltb sel 4 above, read) refl
not_read purposes.Return cpu sel s t e above read = rw (le-ltb sel 4 above, read) refl
not_read purposes.Jump cpu sel s t e above read = rw (le-ltb sel 4 above, read) refl

read_in : (purpose : Purpose) (cpu : Cpu) (sel low high : ℕ) (s t : Space) → 4 ≤ sel → selected cpu form_stop sel s ≡ Ok ((low, high), t)
    → found purpose cpu sel s ≡ judged purpose cpu.cpl sel high (descriptor_of low high) t
unfolding find_data find_stack find_return find_jump
read_in purposes.Data cpu sel low high s t above read = rw read refl
read_in (purposes.Stack level) cpu sel low high s t above read = rw (le-ltb sel 4 above, read) refl
read_in purposes.Return cpu sel low high s t above read = rw (le-ltb sel 4 above, read) refl
read_in purposes.Jump cpu sel low high s t above read = rw (le-ltb sel 4 above, read) refl

pub returns-then-sel-lt4-clause-gives : goal.returns-then-sel-lt4-clause-gives
returns-then-sel-lt4-clause-gives g c = null c.args.purpose c.args.cpu.now c.args.sel _ c.if-sel-lt4.true c.requires.above

pub returns-in_err-low-clause-gives : goal.returns-in_err-low-clause-gives
returns-in_err-low-clause-gives g c =
    rw (not_read c.args.purpose c.args.cpu.now c.args.sel _ _ _ c.if-sel-lt4.false c.in_err-low.ensures.gives) (search rules)

pub returns-clause-gives : goal.returns-clause-gives
returns-clause-gives g c =
    rw (
      read_in c.args.purpose c.args.cpu.now c.args.sel _ _ _ _ c.if-sel-lt4.false c.in_ok-low.ensures.gives,
      ← c.descriptor.ensures,
    ) (c.judged.ensures _)
