-- The processor that a delivery leaves: in its handler, at level 0. What a delivery keeps is read off this.
use Rattle.std.proofs.Common.{◌≡◌, ◌⊎◌, inl, inr, ℕ, ◌+◌, ◌%◌, ◌^◌, ◌==◌, ◌&&◌, true, false, refl, subst, Option, None, Ok, nat_lt, nat_le, slice_index, arith}
use Rattle.std.proofs.lemmas.Bool.{and_parts}
use Rattle.std.proofs.lemmas.Bool.Decides.{nat_tests}
use Rattle.ia32_types.specs.declared.size.Size.TheVariants.{Long, Word}
use Rattle.descriptors.specs.Access.{reaching, by_processor, mark}
use Rattle.descriptors.specs.Segments.{seg_of}
use Rattle.descriptors.specs.declared.cpu.Cpu.{Cpu}
use Rattle.paging.specs.Space.{Space}
use Rattle.paging.specs.Work.{Outcome, unless, reads}
use Rattle.event_entry.specs.Access.{failed, denials}
use Rattle.event_entry.specs.Deliver.{is_usable, entry_of, code_marking, data_marking, inner_stack, stack_of, push_frame, entered, delivered}
use Rattle.event_entry.specs.declared.delivery.Entry.{Entry}
use Rattle.event_entry.specs.declared.delivery.Stack.{Stack}
use Rattle.event_entry.specs.declared.refusal.Kind.{Kind}
use Rattle.event_entry.specs.declared.refusal.NotDelivered.{NotDelivered}
use Rattle.machine_model.proofs.Yielding.{Ends, Yields, OfValue, then_yields, any_yields, gives_yields, unless_yields, keeps_yields, by_yields}

-- the selector of a stack: the TSS's, which isn't below 4, or the one in use
abbrev pub IsStack : Cpu → Stack → Type 0
IsStack cpu stack = (nat_lt stack.sel 4 ≡ false) ⊎ (stack.sel ≡ (seg_of cpu 2).sel)

pub data Enters (cpu : Cpu) : Cpu → Type 0 where
  handler : (entry : Entry) (stack : Stack) (top : ℕ) → nat_lt entry.sel 4 ≡ false → IsStack cpu stack
      → Enters cpu (entered cpu entry stack top)

usable : (limit sel : ℕ) → is_usable limit sel ≡ true → nat_lt sel 4 ≡ false
usable limit sel e = let far : nat_le 4 sel ≡ true = (and_parts (nat_le 4 sel) _ e).0 in grind (arith, nat_tests)

code_usable : (cpu : Cpu) (sel : ℕ) → Yields (λ done. nat_lt sel 4 ≡ false) (code_marking cpu sel)
unfolding code_marking
code_usable cpu sel =
    then_yields (unless_yields failed (is_usable cpu.gdt.limit sel)) (λ done t. keeps_yields _ (usable cpu.gdt.limit sel t))

data_usable : (cpu : Cpu) (sel : ℕ) → Yields (λ done. nat_lt sel 4 ≡ false) (data_marking cpu sel)
unfolding data_marking
data_usable cpu sel =
    then_yields (unless_yields failed (is_usable cpu.gdt.limit sel && sel % 4 == 0))
    (λ done t. keeps_yields _ (usable cpu.gdt.limit sel (and_parts (is_usable cpu.gdt.limit sel) (sel % 4 == 0) t).0))

of_inner : (cpu : Cpu) → OfValue (inner_stack cpu) (IsStack cpu)
unfolding inner_stack
of_inner cpu =
    any_yields (unless failed (cpu.task.loaded && nat_le 9 cpu.task.limit)) (λ one.
    any_yields (reaching denials ((cpu.task.base + 4) % 2 ^ 32) 4 (by_processor false)) (λ two.
    any_yields (reads ((cpu.task.base + 4) % 2 ^ 32) Long) (λ top.
    any_yields (reaching denials ((cpu.task.base + 8) % 2 ^ 32) 2 (by_processor false)) (λ three.
    any_yields (reads ((cpu.task.base + 8) % 2 ^ 32) Word) (λ sel.
    then_yields (data_usable cpu sel)
    (λ marking far. gives_yields {x = record { top = top; sel = sel; marking = marking; inner = true }} (inl far)))))))

of_stack : (cpu : Cpu) → OfValue (stack_of cpu) (IsStack cpu)
unfolding stack_of
of_stack cpu =
    by_yields (cpu.cpl == 3) (λ user. of_inner cpu) (λ kernel.
    gives_yields {x = record { top = slice_index cpu.regs.r 4; sel = (seg_of cpu 2).sel; marking = None; inner = false }} (inr refl))

enters : (cpu : Cpu) (vector : ℕ) (kind : Kind) (code : Option ℕ) → Yields (Enters cpu) (delivered cpu vector kind code)
unfolding delivered
enters cpu vector kind code =
    any_yields (entry_of cpu vector kind)
    (λ entry. then_yields (code_usable cpu entry.sel) (λ marking far. then_yields (of_stack cpu) (λ stack is.
    any_yields (push_frame cpu stack code)
    (λ top. any_yields (mark denials cpu entry.sel marking) (λ one. any_yields (mark denials cpu stack.sel stack.marking) (λ two.
    gives_yields (Enters.handler entry stack top far is)))))))

pub entering : (cpu after : Cpu) (vector : ℕ) (kind : Kind) (code : Option ℕ) (s t : Space)
    → delivered cpu vector kind code s ≡ Ok (after, t) → Enters cpu after
entering cpu after vector kind code s t e =
    subst (λ (o : Outcome NotDelivered Cpu). Ends (Enters cpu) o) e ((enters cpu vector kind code).each s)
