-- Loads of segment registers, each as the list of its tests in their order, and the accessed flag. Intel SDM volume 3,
-- protection; where this list differs from the manual in an order or in a code, the list decides.
use Rattle.std.specs.Prelude.{ℕ, ◌+◌, ◌*◌, ◌/◌, ◌%◌, ◌^◌, Bool, true, false, ◌==◌, nat_lt, ◌||◌, not, if◌then◌else◌, bit_or}
use Rattle.ia32_types.specs.declared.stop.Stop.TheVariants as stops
use Rattle.paging.specs.Work.{Work, ◌>>=◌, refuses, gives, unless}
use Rattle.descriptors.specs.Form.{descriptor_of, access_rights, marking, is_code, is_data, is_of_system, is_foreign_form, dpl_of, is_present, is_used}
use Rattle.descriptors.specs.Segments.{slot}
use Rattle.descriptors.specs.Access.{pair_at, byte_set, mark}
use Rattle.descriptors.specs.declared.cpu.Cpu.{Cpu}
use Rattle.descriptors.specs.declared.cpu.Hidden.{Hidden}
use Rattle.descriptors.specs.declared.cpu.Task.{Task}
use Rattle.descriptors.specs.declared.form.Descriptor.{Descriptor}
use Rattle.descriptors.specs.declared.form.Descriptor.TheVariants as forms
use Rattle.sys_exec.specs.declared.effect.Refusal.{Refusal}
use Rattle.sys_exec.specs.declared.effect.Refusal.TheVariants.{Raise, Stop}
use Rattle.sys_exec.specs.declared.effect.Loading.{Loading}
use Rattle.sys_exec.specs.Access.{denials}
use Rattle.sys_exec.specs.Operand.{protection_0}

-- a general protection fault with the selector's error code
abbrev pub protection : ℕ → Refusal
protection sel = Raise 13 (sel / 4 * 4)

abbrev pub absent : ℕ → ℕ → Refusal
absent vector sel = Raise vector (sel / 4 * 4)

abbrev pub form_stop : Refusal
form_stop = Stop stops.SegmentForm

-- a test that ends the load where it holds
abbrev pub ends_if : Refusal → Bool → Work Refusal (Unit {0})
ends_if e test = unless e (not test)

-- the two words of the descriptor that a selector names, where it isn't one of a local table and lies within the limit
unfoldable pub selected : Cpu → Refusal → ℕ → Work Refusal (ℕ × ℕ)
selected cpu local sel = do
  _ ← ends_if local (sel / 4 % 2 == 1)
  _ ← ends_if (protection sel) (nat_lt cpu.gdt.limit (sel / 8 * 8 + 7))
  pair_at denials (slot cpu sel)

-- the register as it is loaded, and what byte 5 is to become
abbrev pub loading : ℕ → ℕ → Descriptor → Loading
loading sel high d = record { hidden = record { sel = sel; null = false; dpl = dpl_of d }; marking = marking high (is_used d) }

-- DS and ES, where the selector isn't null
abbrev pub data_tests : ℕ → ℕ → Descriptor → Work Refusal (Unit {0})
data_tests cpl sel d = do
  _ ← ends_if (protection sel) (is_of_system d)
  _ ← ends_if form_stop (is_foreign_form d || is_code d)
  _ ← ends_if (protection sel) (nat_lt (dpl_of d) cpl || nat_lt (dpl_of d) (sel % 4))
  ends_if (absent 11 sel) (not (is_present d))

unfoldable pub find_data : Cpu → ℕ → Work Refusal Loading
find_data cpu sel = do
  pair ← selected cpu form_stop sel
  _ ← data_tests cpu.cpl sel (descriptor_of pair.0 pair.1)
  gives (loading sel pair.1 (descriptor_of pair.0 pair.1))

-- the accessed flag is set where it is clear
abbrev pub marked : Cpu → Loading → Work Refusal (Unit {0})
marked cpu l = mark denials cpu l.hidden.sel l.marking

-- a null selector of data isn't looked up
unfoldable pub load_data : Cpu → ℕ → Work Refusal Hidden
load_data cpu sel = if nat_lt sel 4 then gives (record { sel = sel; null = true; dpl = 0 }) else do
  l ← find_data cpu sel
  _ ← marked cpu l
  gives l.hidden

-- SS, for a processor at this level
abbrev pub stack_tests : ℕ → ℕ → Descriptor → Work Refusal (Unit {0})
stack_tests cpl sel d = do
  _ ← ends_if (protection sel) (is_of_system d)
  _ ← ends_if form_stop (is_foreign_form d)
  _ ← ends_if (protection sel) (not (sel % 4 == cpl) || (is_code d || not (dpl_of d == cpl)))
  ends_if (absent 12 sel) (not (is_present d))

unfoldable pub find_stack : Cpu → ℕ → ℕ → Work Refusal Loading
find_stack cpu cpl sel = do
  _ ← ends_if protection_0 (nat_lt sel 4)
  pair ← selected cpu form_stop sel
  _ ← stack_tests cpl sel (descriptor_of pair.0 pair.1)
  gives (loading sel pair.1 (descriptor_of pair.0 pair.1))

-- the code that an IRET goes to
abbrev pub return_tests : ℕ → ℕ → Descriptor → Work Refusal (Unit {0})
return_tests cpl sel d = do
  _ ← ends_if (protection sel) (is_of_system d)
  _ ← ends_if form_stop (is_foreign_form d)
  _ ← ends_if (protection sel) (is_data d || (nat_lt (sel % 4) cpl || not (dpl_of d == sel % 4)))
  ends_if (absent 11 sel) (not (is_present d))

unfoldable pub find_return : Cpu → ℕ → Work Refusal Loading
find_return cpu sel = do
  _ ← ends_if protection_0 (nat_lt sel 4)
  pair ← selected cpu form_stop sel
  _ ← return_tests cpu.cpl sel (descriptor_of pair.0 pair.1)
  gives (loading sel pair.1 (descriptor_of pair.0 pair.1))

-- the code that a far jump goes to; the register gets the level in use
abbrev pub jump_tests : ℕ → ℕ → Descriptor → Work Refusal (Unit {0})
jump_tests cpl sel d = do
  _ ← ends_if form_stop (is_of_system d || is_foreign_form d)
  _ ← ends_if (protection sel) (is_data d || (nat_lt cpl (sel % 4) || not (dpl_of d == cpl)))
  ends_if (absent 11 sel) (not (is_present d))

unfoldable pub find_jump : Cpu → ℕ → Work Refusal Loading
find_jump cpu sel = do
  _ ← ends_if protection_0 (nat_lt sel 4)
  pair ← selected cpu form_stop sel
  _ ← jump_tests cpu.cpl sel (descriptor_of pair.0 pair.1)
  gives (loading (sel / 4 * 4 + cpu.cpl % 4) pair.1 (descriptor_of pair.0 pair.1))

-- a TSS, which must be available
abbrev pub as_task : ℕ → Descriptor → Work Refusal Task
as_task sel (forms.Task base limit present busy) = do
  _ ← ends_if (protection sel) busy
  _ ← ends_if (absent 11 sel) (not present)
  gives (record { sel = sel; base = base; limit = limit; loaded = true })
as_task sel _ = refuses (protection sel)

-- the task register, TR: type 1, a TSS of 16 bits, is a stop; the TSS becomes busy
unfoldable pub load_task : Cpu → ℕ → Work Refusal Task
load_task cpu sel = do
  _ ← ends_if protection_0 (nat_lt sel 4)
  pair ← selected cpu (protection sel) sel
  _ ← ends_if form_stop (access_rights pair.1 % 0x20 == 1)
  task ← as_task sel (descriptor_of pair.0 pair.1)
  _ ← byte_set denials ((slot cpu sel + 5) % 2 ^ 32) (bit_or (access_rights pair.1) 2)
  gives task
