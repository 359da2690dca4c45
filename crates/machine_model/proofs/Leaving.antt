-- How each row leaves the processor. What a step keeps of a processor is read off this.
use Rattle.std.proofs.Common.{ap, ◌∙◌, ◌≡◌, ℕ, ◌+◌, ◌%◌, ◌^◌, ◌==◌, Bool, true, false, cond, ◌&&◌, refl, ◌||◌, slice_set, nat_lt, bit_and, bit_or, arith}
use Rattle.ia32_types.specs.declared.flags.TheConstants.{INTERRUPT_AT}
use Rattle.ia32_types.specs.Flags.{flag_put}
use Rattle.ia32_types.specs.declared.flags.Flags.{Flags}
use Rattle.ia32_types.specs.declared.insn.Insn.{Insn}
use Rattle.ia32_types.specs.declared.insn.Op.{Op}
use Rattle.ia32_types.specs.declared.insn.Op.TheVariants as ops
use Rattle.ia32_types.specs.declared.insn.Operand.{Operand}
use Rattle.ia32_types.specs.declared.insn.Operand.TheVariants as operands
use Rattle.ia32_types.specs.declared.register.Seg.{Seg}
use Rattle.ia32_types.specs.declared.register.Seg.TheVariants.{Es, Cs, Ss, Ds}
use Rattle.ia32_types.specs.declared.size.Size.TheVariants.{Word}
use Rattle.ia32_exec.specs.Registers.{address_of}
use Rattle.descriptors.specs.declared.cpu.Cpu.{Cpu}
use Rattle.descriptors.specs.declared.cpu.Hidden.{Hidden}
use Rattle.descriptors.specs.Controls.{control_0_needed, control_0_refused, control_3_refused, pse_of}
use Rattle.paging.specs.Work.{unless, writes}
use Rattle.sys_exec.specs.declared.effect.SysEffect.{SysEffect}
use Rattle.sys_exec.specs.declared.effect.SysEffect.TheVariants as effects
use Rattle.sys_exec.specs.declared.effect.SysOutcome.{SysOutcome}
use Rattle.sys_exec.specs.declared.effect.Loading.{Loading}
use Rattle.sys_exec.specs.declared.iret.Popped.{Popped}
use Rattle.sys_exec.specs.Operand.{protection_0, kernel_alone, selector, selector_in, operand_reached, long_of, pulled, pushed, past, past_pop, gone_to, reg_at, next}
use Rattle.sys_exec.specs.Segment.{marked, load_task}
use Rattle.sys_exec.specs.Iret.{is_within, new_flags, popped, popped_outer, top_of, returned, outer_segments, return_same, return_outer, interrupt_return}
use Rattle.sys_exec.specs.Control.{control_stop, changes_pse, control_of, load_control, write_control, read_control}
use Rattle.sys_exec.specs.Flags.{clear_interrupts, set_interrupts, halt, push_flags, pop_flags}
use Rattle.sys_exec.specs.Table.{table_at, load_gdt, load_idt, load_tr, drop_at, dropped, drop_page}
use Rattle.sys_exec.specs.Move.{selector_kept, read_seg, load_by, load_seg, push_seg, pop_seg, far_jump}
use Rattle.sys_exec.specs.Port.{port_in, port_out}
use Rattle.sys_exec.specs.Branch.{return_to, jump_to, called_through, call_to}
use Rattle.sys_exec.specs.Sys.{row, sys_work}
use Rattle.std.proofs.lemmas.Bool.{eqb-true}
use Rattle.machine_model.specs.Taken.{is_write, is_control_3}
use Rattle.machine_model.specs.Fit.{IsSegment}
use Rattle.machine_model.proofs.Yielding.{Yields, then_yields, any_yields, gives_yields, unless_yields, by_yields}
use Rattle.machine_model.proofs.AbleRows.{flags_tested}
use Rattle.machine_model.proofs.FitParts.{IsFound}
use Rattle.machine_model.proofs.Finding.{IsBack, found_stack, found_jump, found_return, hidden_loaded}

-- the same but for registers, and with these flags
pub record IsBeside (cpu : Cpu) (f : Flags) (new : Cpu) : Type 0 where
  pub level : new.cpl ≡ cpu.cpl
  pub segments : new.seg ≡ cpu.seg
  pub flags : new.regs.flags ≡ f
  pub cr0 : new.cr0 ≡ cpu.cr0
  pub cr3 : new.cr3 ≡ cpu.cr3
  pub cr4 : new.cr4 ≡ cpu.cr4
  pub halted : new.halted ≡ cpu.halted

abbrev pub drops_all : SysEffect → Bool
drops_all effects.DropAll = true
drops_all e = false

-- `load` says whether CR3 is loaded
pub data Left (cpu : Cpu) (load : Bool) : SysOutcome → Type 0 where
  beside : load ≡ false → (new : Cpu) (e : SysEffect) → drops_all e ≡ false → IsBeside cpu cpu.regs.flags new
      → Left cpu load (record { cpu = new; effect = e })
  interrupts : load ≡ false → (new : Cpu) (b : Bool) → is_within cpu ≡ true → IsBeside cpu (flag_put cpu.regs.flags INTERRUPT_AT b) new
      → Left cpu load (record { cpu = new; effect = effects.Next })
  popped_flags : load ≡ false → (new : Cpu) (image : ℕ) → IsBeside cpu (new_flags cpu image) new
      → Left cpu load (record { cpu = new; effect = effects.Next })
  halts : load ≡ false → (len : ℕ) → (cpu.cpl == 0) ≡ true
      → Left cpu load (record { cpu = record (past cpu len) { halted = true }; effect = effects.Halted })
  stack : load ≡ false → (after : Cpu) (h : Hidden) → IsBeside cpu cpu.regs.flags after → IsFound h cpu.cpl
      → Left cpu load (record { cpu = record after { seg = slice_set after.seg 2 h; held = true }; effect = effects.Next })
  of_data : load ≡ false → (after : Cpu) (place : ℕ) (h : Hidden) → IsBeside cpu cpu.regs.flags after → (1 ≡ place → ⊥) → (2 ≡ place → ⊥)
      → IsSegment h → Left cpu load (record { cpu = record after { seg = slice_set after.seg place h }; effect = effects.Next })
  code : load ≡ false → (eip : ℕ) (h : Hidden) → IsFound h cpu.cpl
      → Left cpu load (record { cpu = record (gone_to cpu eip) { seg = slice_set cpu.seg 1 h }; effect = effects.Next })
  same_level : load ≡ false → (p : Popped) (l : Loading) → IsBack cpu l.hidden p.sel → nat_lt cpu.cpl (p.sel % 4) ≡ false
      → Left cpu load (record {
        cpu = returned cpu p ((top_of cpu + 12) % 2 ^ 32) cpu.cpl (slice_set cpu.seg 1 l.hidden);
        effect = effects.Next;
      })
  outer_level : load ≡ false → (p : Popped) (top : ℕ) (l s : Loading) → IsBack cpu l.hidden p.sel → IsFound s.hidden (p.sel % 4)
      → Left cpu load (record {
        cpu = returned cpu p top (p.sel % 4) (outer_segments cpu (p.sel % 4) l.hidden s.hidden);
        effect = effects.Next;
      })
  control_0 : load ≡ false → (len : ℕ) (v : ℕ) → (bit_and v control_0_needed == control_0_needed && bit_and v control_0_refused == 0) ≡ true
      → Left cpu load (record { cpu = record (past cpu len) { cr0 = bit_or v 0x10 }; effect = effects.Next })
  control_3 : load ≡ true → (len : ℕ) (v : ℕ) → (bit_and v control_3_refused == 0) ≡ true
      → Left cpu load (record { cpu = record (past cpu len) { cr3 = v }; effect = effects.DropAll })
  control_4 : load ≡ false → (len : ℕ) (v : ℕ) → (v == 0 || v == 0x10) ≡ true
      → Left cpu load (record {
        cpu = record (past cpu len) { cr4 = v };
        effect = cond (changes_pse (past cpu len) v) effects.DropAll effects.Next;
      })

module _ (cpu : Cpu) (load : Bool) (none : load ≡ false) where
  abbrev IsReturned : Cpu → Type 0
  IsReturned c = Left cpu load (record { cpu = c; effect = effects.Next })

  goes_on : (new : Cpu) → IsBeside cpu cpu.regs.flags new → Yields (Left cpu load) (next new)
  goes_on new h = gives_yields (Left.beside none _ effects.Next refl h)

  of_cli : (len : ℕ) → Yields (Left cpu load) (clear_interrupts len cpu)
  unfolding clear_interrupts
  of_cli len = then_yields (unless_yields protection_0 (is_within cpu))
      (λ done w. gives_yields
      (Left.interrupts none _ false w
      (record { level = refl; segments = refl; flags = refl; cr0 = refl; cr3 = refl; cr4 = refl; halted = refl })))

  of_sti : (len : ℕ) → Yields (Left cpu load) (set_interrupts len cpu)
  unfolding set_interrupts
  of_sti len = then_yields (unless_yields protection_0 (is_within cpu))
      (λ done w. gives_yields
      (Left.interrupts none _ true w
      (record { level = refl; segments = refl; flags = refl; cr0 = refl; cr3 = refl; cr4 = refl; halted = refl })))

  of_hlt : (len : ℕ) → Yields (Left cpu load) (halt len cpu)
  unfolding halt
  of_hlt len = then_yields (unless_yields protection_0 (cpu.cpl == 0)) (λ done t. gives_yields (Left.halts none len t))

  of_pushf : (len : ℕ) → Yields (Left cpu load) (push_flags len cpu)
  unfolding push_flags
  of_pushf len = any_yields (pushed cpu cpu.regs.flags.bits)
      (λ done. goes_on _ (record { level = refl; segments = refl; flags = refl; cr0 = refl; cr3 = refl; cr4 = refl; halted = refl }))

  of_popf : (len : ℕ) → Yields (Left cpu load) (pop_flags len cpu)
  unfolding pop_flags
  of_popf len =
      any_yields (pulled cpu)
      (λ image. any_yields (flags_tested image)
      (λ done. gives_yields (Left.popped_flags none _ image
      (record { level = refl; segments = refl; flags = refl; cr0 = refl; cr3 = refl; cr4 = refl; halted = refl }))))

  -- ---- IRET

  of_same : (p : Popped) (l : Loading) → IsBack cpu l.hidden p.sel → nat_lt cpu.cpl (p.sel % 4) ≡ false
      → Yields IsReturned (return_same cpu p l)
  unfolding return_same
  of_same p l h inward =
      any_yields (flags_tested p.flags) (λ one. any_yields (marked cpu l) (λ two. gives_yields (Left.same_level none p l h inward)))

  of_outer : (p : Popped) (l : Loading) → IsBack cpu l.hidden p.sel → Yields IsReturned (return_outer cpu p l)
  unfolding return_outer
  of_outer p l h = any_yields (popped_outer cpu) (λ outer. then_yields (found_stack cpu (p.sel % 4) outer.sel) (λ stack k.
      any_yields (flags_tested p.flags)
      (λ one. any_yields (marked cpu l)
      (λ two. any_yields (marked cpu stack) (λ three. gives_yields (Left.outer_level none p outer.top l stack h k))))))

  of_iret : Yields IsReturned (interrupt_return cpu)
  unfolding interrupt_return
  of_iret =
      any_yields (popped cpu)
      (λ p. then_yields (found_return cpu p.sel)
      (λ l h. by_yields (nat_lt cpu.cpl (p.sel % 4)) (λ outward. of_outer p l h) (λ inward. of_same p l h inward)))

  -- ---- control registers

  of_read_control : (a b : Operand) (len : ℕ) → Yields (Left cpu load) (read_control a b len cpu)
  unfolding read_control
  of_read_control (operands.Register k) (operands.Control number) len = any_yields (kernel_alone cpu)
      (λ done. any_yields (control_of cpu number)
      (λ v. goes_on _ (record { level = refl; segments = refl; flags = refl; cr0 = refl; cr3 = refl; cr4 = refl; halted = refl })))
  of_read_control a b len = record { each = λ s. tt }

  -- ---- tables

  of_gdt : (a : Operand) (len : ℕ) → Yields (Left cpu load) (load_gdt a len cpu)
  unfolding load_gdt
  of_gdt a len = any_yields (kernel_alone cpu)
      (λ done. any_yields (table_at cpu a)
      (λ table. goes_on _ (record { level = refl; segments = refl; flags = refl; cr0 = refl; cr3 = refl; cr4 = refl; halted = refl })))

  of_idt : (a : Operand) (len : ℕ) → Yields (Left cpu load) (load_idt a len cpu)
  unfolding load_idt
  of_idt a len = any_yields (kernel_alone cpu)
      (λ done. any_yields (table_at cpu a)
      (λ table. goes_on _ (record { level = refl; segments = refl; flags = refl; cr0 = refl; cr3 = refl; cr4 = refl; halted = refl })))

  of_tr : (a : Operand) (len : ℕ) → Yields (Left cpu load) (load_tr a len cpu)
  unfolding load_tr
  of_tr a len = any_yields (kernel_alone cpu)
      (λ done. any_yields (selector cpu a)
      (λ sel. any_yields (load_task cpu sel)
      (λ task. goes_on _ (record { level = refl; segments = refl; flags = refl; cr0 = refl; cr3 = refl; cr4 = refl; halted = refl }))))

  not_all : (pse : Bool) (at : ℕ) → drops_all (drop_at pse at) ≡ false
  not_all true at = refl
  not_all false at = refl

  of_dropped : (len : ℕ) (a : Operand) → Yields (Left cpu load) (dropped len cpu a)
  of_dropped len (operands.Memory a) =
      gives_yields (Left.beside none _ _ (not_all (pse_of cpu) (address_of a cpu.regs))
      (record { level = refl; segments = refl; flags = refl; cr0 = refl; cr3 = refl; cr4 = refl; halted = refl }))
  of_dropped len a = record { each = λ s. tt }

  of_drop_page : (a : Operand) (len : ℕ) → Yields (Left cpu load) (drop_page a len cpu)
  unfolding drop_page
  of_drop_page a len = any_yields (kernel_alone cpu) (λ done. of_dropped len a)

  -- ---- segment registers

  of_kept : (len sel : ℕ) (a : Operand) → Yields (Left cpu load) (selector_kept len cpu sel a)
  unfolding selector_kept
  of_kept len sel (operands.Register k) =
      goes_on _ (record { level = refl; segments = refl; flags = refl; cr0 = refl; cr3 = refl; cr4 = refl; halted = refl })
  of_kept len sel (operands.Memory a) = any_yields (operand_reached cpu a 2 true)
      (λ one. any_yields (writes (address_of a cpu.regs) Word sel)
      (λ two. goes_on (past cpu len)
      (record { level = refl; segments = refl; flags = refl; cr0 = refl; cr3 = refl; cr4 = refl; halted = refl })))
  of_kept len sel a = record { each = λ s. tt }

  of_read_seg : (insn : Insn) (b : Operand) (len : ℕ) → Yields (Left cpu load) (read_seg insn b len cpu)
  unfolding read_seg
  of_read_seg insn (operands.Segment seg) len = of_kept len _ insn.a
  of_read_seg insn b len = record { each = λ s. tt }

  of_load : (after : Cpu) (sel : ℕ) (seg : Seg) → IsBeside cpu cpu.regs.flags after → Yields (Left cpu load) (load_by after cpu sel seg)
  unfolding load_by
  of_load after sel Cs w = record { each = λ s. tt }
  of_load after sel Ss w = then_yields (found_stack cpu cpu.cpl sel)
      (λ load k. any_yields (marked cpu load) (λ done. gives_yields (Left.stack none after load.hidden w k)))
  of_load after sel Ds w = then_yields (hidden_loaded cpu sel)
      (λ hidden k. gives_yields (Left.of_data none after 3 hidden w (λ d. omega (arith, d)) (λ d. omega (arith, d)) k))
  of_load after sel Es w = then_yields (hidden_loaded cpu sel)
      (λ hidden k. gives_yields (Left.of_data none after 0 hidden w (λ d. omega (arith, d)) (λ d. omega (arith, d)) k))

  of_load_seg : (insn : Insn) (a : Operand) (len : ℕ) → Yields (Left cpu load) (load_seg insn a len cpu)
  unfolding load_seg
  of_load_seg insn (operands.Segment seg) len = any_yields (selector cpu insn.b)
      (λ sel. of_load (past cpu len) sel seg
      (record { level = refl; segments = refl; flags = refl; cr0 = refl; cr3 = refl; cr4 = refl; halted = refl }))
  of_load_seg insn a len = record { each = λ s. tt }

  of_push_seg : (a : Operand) (len : ℕ) → Yields (Left cpu load) (push_seg a len cpu)
  unfolding push_seg
  of_push_seg (operands.Segment seg) len = any_yields (pushed cpu (selector_in cpu seg))
      (λ done. goes_on _ (record { level = refl; segments = refl; flags = refl; cr0 = refl; cr3 = refl; cr4 = refl; halted = refl }))
  of_push_seg a len = record { each = λ s. tt }

  of_pop_seg : (a : Operand) (len : ℕ) → Yields (Left cpu load) (pop_seg a len cpu)
  unfolding pop_seg
  of_pop_seg (operands.Segment seg) len =
      any_yields (pulled cpu)
      (λ v. of_load (past_pop cpu len) (v % 65536) seg
      (record { level = refl; segments = refl; flags = refl; cr0 = refl; cr3 = refl; cr4 = refl; halted = refl }))
  of_pop_seg a len = record { each = λ s. tt }

  of_far_jump : (insn : Insn) → Yields (Left cpu load) (far_jump insn cpu)
  unfolding far_jump
  of_far_jump insn =
      then_yields (found_jump cpu insn.sel) (λ l k. any_yields (marked cpu l) (λ done. gives_yields (Left.code none insn.imm l.hidden k)))

  -- ---- ports and branches

  of_port_in : (insn : Insn) (len : ℕ) → Yields (Left cpu load) (port_in insn len cpu)
  unfolding port_in
  of_port_in insn len = any_yields (unless protection_0 (is_within cpu))
      (λ done. gives_yields (Left.beside none _ _ refl
      (record { level = refl; segments = refl; flags = refl; cr0 = refl; cr3 = refl; cr4 = refl; halted = refl })))

  of_port_out : (insn : Insn) (len : ℕ) → Yields (Left cpu load) (port_out insn len cpu)
  unfolding port_out
  of_port_out insn len = any_yields (unless protection_0 (is_within cpu))
      (λ done. gives_yields (Left.beside none _ _ refl
      (record { level = refl; segments = refl; flags = refl; cr0 = refl; cr3 = refl; cr4 = refl; halted = refl })))

  of_return : (more : ℕ) → Yields (Left cpu load) (return_to more cpu)
  unfolding return_to
  of_return more =
      any_yields (pulled cpu)
      (λ target. goes_on _ (record { level = refl; segments = refl; flags = refl; cr0 = refl; cr3 = refl; cr4 = refl; halted = refl }))

  of_jump : (a : Operand) → Yields (Left cpu load) (jump_to a cpu)
  unfolding jump_to
  of_jump a =
      any_yields (long_of cpu a)
      (λ target. goes_on _ (record { level = refl; segments = refl; flags = refl; cr0 = refl; cr3 = refl; cr4 = refl; halted = refl }))

  of_call : (a : Operand) (len : ℕ) → Yields (Left cpu load) (call_to a len cpu)
  unfolding call_to
  of_call (operands.Register k) len = any_yields (pushed cpu (past cpu len).regs.eip)
      (λ done. goes_on _ (record { level = refl; segments = refl; flags = refl; cr0 = refl; cr3 = refl; cr4 = refl; halted = refl }))
  of_call (operands.Memory a) len = any_yields (called_through a len cpu)
      (λ target. goes_on _ (record { level = refl; segments = refl; flags = refl; cr0 = refl; cr3 = refl; cr4 = refl; halted = refl }))
  of_call a len = record { each = λ s. tt }

module _ (cpu : Cpu) (load : Bool) where
  -- ---- MOV to a control register

  of_load_control : (len number v : ℕ) → load ≡ (number == 3) → Yields (Left cpu load) (load_control (past cpu len) number v)
  unfolding load_control
  of_load_control len number v e =
      by_yields (number == 0)
      (λ zero. then_yields (unless_yields control_stop (bit_and v control_0_needed == control_0_needed && bit_and v control_0_refused == 0))
      (λ done t. gives_yields (Left.control_0 (other 0 zero refl) len v t)))
      (λ _. by_yields (number == 2)
      (λ two. gives_yields (Left.beside (other 2 two refl) _ effects.Next refl
      (record { level = refl; segments = refl; flags = refl; cr0 = refl; cr3 = refl; cr4 = refl; halted = refl })))
      (λ _. by_yields (number == 3)
      (λ three. then_yields (unless_yields control_stop (bit_and v control_3_refused == 0))
      (λ done t. gives_yields (Left.control_3 (e ∙ three) len v t)))
      (λ _. by_yields (number == 4)
      (λ four. then_yields (unless_yields control_stop (v == 0 || v == 0x10))
      (λ done t. gives_yields (Left.control_4 (other 4 four refl) len v t)))
      (λ _. record { each = λ s. tt }))))
    where
      other : (n : ℕ) → (number == n) ≡ true → (n == 3) ≡ false → load ≡ false
      other n t apart = e ∙ ap (λ (x : ℕ). x == 3) (eqb-true number n t) ∙ apart

  of_write_control : (a b : Operand) (len : ℕ) → load ≡ is_control_3 a → Yields (Left cpu load) (write_control a b len cpu)
  unfolding write_control
  of_write_control (operands.Control number) (operands.Register k) len e =
      any_yields (kernel_alone cpu) (λ done. of_load_control len number (reg_at cpu k) e)
  of_write_control a b len e = record { each = λ s. tt }

  -- ---- the rows

  row_left : (o : Op) (insn : Insn) (len : ℕ) → load ≡ (is_write o && is_control_3 insn.a) → Yields (Left cpu load) (row o insn len cpu)
  row_left ops.Cli insn len e = of_cli cpu load e len
  row_left ops.Sti insn len e = of_sti cpu load e len
  row_left ops.Hlt insn len e = of_hlt cpu load e len
  row_left ops.PushFlags insn len e = of_pushf cpu load e len
  row_left ops.PopFlags insn len e = of_popf cpu load e len
  row_left ops.Iret insn len e = then_yields (of_iret cpu load e) (λ returned h. gives_yields h)
  row_left ops.ReadControl insn len e = of_read_control cpu load e insn.a insn.b len
  row_left ops.WriteControl insn len e = of_write_control insn.a insn.b len e
  row_left ops.LoadGdt insn len e = of_gdt cpu load e insn.a len
  row_left ops.LoadIdt insn len e = of_idt cpu load e insn.a len
  row_left ops.LoadTask insn len e = of_tr cpu load e insn.a len
  row_left ops.DropPage insn len e = of_drop_page cpu load e insn.a len
  row_left ops.ReadSeg insn len e = of_read_seg cpu load e insn insn.b len
  row_left ops.LoadSeg insn len e = of_load_seg cpu load e insn insn.a len
  row_left ops.PushSeg insn len e = of_push_seg cpu load e insn.a len
  row_left ops.PopSeg insn len e = of_pop_seg cpu load e insn.a len
  row_left ops.FarJump insn len e = of_far_jump cpu load e insn
  row_left ops.PortIn insn len e = of_port_in cpu load e insn len
  row_left ops.PortOut insn len e = of_port_out cpu load e insn len
  row_left ops.Return insn len e = of_return cpu load e insn.imm
  row_left ops.JumpTo insn len e = of_jump cpu load e insn.a
  row_left ops.CallTo insn len e = of_call cpu load e insn.a len
  row_left o insn len e = record { each = λ s. tt }

  pub sys_left : (insn : Insn) (len : ℕ) → load ≡ (is_write insn.op && is_control_3 insn.a) → Yields (Left cpu load) (sys_work insn len cpu)
  unfolding sys_work
  sys_left insn len e = row_left insn.op insn len e
