-- Each row is done by the function of its name.
use Rattle.std.proofs.Common.{◌≡◌, ℕ, Result, sym, subst}
use Rattle.ia32_types.specs.declared.insn.Insn.{Insn}
use Rattle.ia32_types.specs.declared.insn.Op.{Op}
use Rattle.paging.specs.Space.{Space}
use Rattle.paging.specs.Gives.{Gives}
use Rattle.descriptors.specs.declared.cpu.Cpu.{Cpu}
use Rattle.sys_exec.specs.declared.effect.Refusal.{Refusal}
use Rattle.sys_exec.specs.declared.effect.SysOutcome.{SysOutcome}
use Rattle.sys_exec.specs.Sys.{row, sys_work}
use Rattle.sys_exec.proofs.Pages.{none, wider, has}
use Rattle.sys_exec.proofs.execute.dispatch.Goals as goal

at_row : (o : Op) (insn : Insn) (len : ℕ) (cpu : Cpu) (s t : Space) (r : Result SysOutcome Refusal) → insn.op ≡ o
    → Gives r t (row o insn len cpu s) → Gives r t (sys_work insn len cpu s)
unfolding sys_work
at_row o insn len cpu s t r e h = subst (λ (x : Op). Gives r t (row x insn len cpu s)) (sym e) h

pub returns-in-Cli-clause-gives : goal.returns-in-Cli-clause-gives
returns-in-Cli-clause-gives g c = at_row _ _ _ _ _ _ _ c.in-Cli.is (c.clear_interrupts.ensures.gives _)

pub returns-in-Cli-clause-pages : goal.returns-in-Cli-clause-pages
returns-in-Cli-clause-pages g c = none 16 _

pub returns-in-Sti-clause-gives : goal.returns-in-Sti-clause-gives
returns-in-Sti-clause-gives g c = at_row _ _ _ _ _ _ _ c.in-Sti.is (c.set_interrupts.ensures.gives _)

pub returns-in-Sti-clause-pages : goal.returns-in-Sti-clause-pages
returns-in-Sti-clause-pages g c = none 16 _

pub returns-in-Hlt-clause-gives : goal.returns-in-Hlt-clause-gives
returns-in-Hlt-clause-gives g c = at_row _ _ _ _ _ _ _ c.in-Hlt.is (c.halt.ensures.gives _)

pub returns-in-Hlt-clause-pages : goal.returns-in-Hlt-clause-pages
returns-in-Hlt-clause-pages g c = none 16 _

pub returns-in-ReadControl-clause-gives : goal.returns-in-ReadControl-clause-gives
returns-in-ReadControl-clause-gives g c = at_row _ _ _ _ _ _ _ c.in-ReadControl.is (c.read_control.ensures.gives _)

pub returns-in-ReadControl-clause-pages : goal.returns-in-ReadControl-clause-pages
returns-in-ReadControl-clause-pages g c = none 16 _

pub returns-in-WriteControl-clause-gives : goal.returns-in-WriteControl-clause-gives
returns-in-WriteControl-clause-gives g c = at_row _ _ _ _ _ _ _ c.in-WriteControl.is (c.write_control.ensures.gives _)

pub returns-in-WriteControl-clause-pages : goal.returns-in-WriteControl-clause-pages
returns-in-WriteControl-clause-pages g c = none 16 _

pub returns-in-DropPage-clause-gives : goal.returns-in-DropPage-clause-gives
returns-in-DropPage-clause-gives g c = at_row _ _ _ _ _ _ _ c.in-DropPage.is (c.drop_page.ensures.gives _)

pub returns-in-DropPage-clause-pages : goal.returns-in-DropPage-clause-pages
returns-in-DropPage-clause-pages g c = none 16 _

pub returns-in-PortIn-clause-gives : goal.returns-in-PortIn-clause-gives
returns-in-PortIn-clause-gives g c = at_row _ _ _ _ _ _ _ c.in-PortIn.is (c.port_in.ensures.gives _)

pub returns-in-PortIn-clause-pages : goal.returns-in-PortIn-clause-pages
returns-in-PortIn-clause-pages g c = none 16 _

pub returns-in-PortOut-clause-gives : goal.returns-in-PortOut-clause-gives
returns-in-PortOut-clause-gives g c = at_row _ _ _ _ _ _ _ c.in-PortOut.is (c.port_out.ensures.gives _)

pub returns-in-PortOut-clause-pages : goal.returns-in-PortOut-clause-pages
returns-in-PortOut-clause-pages g c = none 16 _

pub push_flags-requires : goal.push_flags-requires
push_flags-requires g c = has 48 14 _ c.requires

pub returns-in-PushFlags-clause-gives : goal.returns-in-PushFlags-clause-gives
returns-in-PushFlags-clause-gives g c = at_row _ _ _ _ _ _ _ c.in-PushFlags.is c.push_flags.ensures.gives

pub returns-in-PushFlags-clause-pages : goal.returns-in-PushFlags-clause-pages
returns-in-PushFlags-clause-pages g c = wider 2 14 _ _ c.push_flags.ensures.pages

pub pop_flags-requires : goal.pop_flags-requires
pop_flags-requires g c = has 48 14 _ c.requires

pub returns-in-PopFlags-clause-gives : goal.returns-in-PopFlags-clause-gives
returns-in-PopFlags-clause-gives g c = at_row _ _ _ _ _ _ _ c.in-PopFlags.is c.pop_flags.ensures.gives

pub returns-in-PopFlags-clause-pages : goal.returns-in-PopFlags-clause-pages
returns-in-PopFlags-clause-pages g c = wider 2 14 _ _ c.pop_flags.ensures.pages

pub load_gdt-requires : goal.load_gdt-requires
load_gdt-requires g c = has 48 14 _ c.requires

pub returns-in-LoadGdt-clause-gives : goal.returns-in-LoadGdt-clause-gives
returns-in-LoadGdt-clause-gives g c = at_row _ _ _ _ _ _ _ c.in-LoadGdt.is c.load_gdt.ensures.gives

pub returns-in-LoadGdt-clause-pages : goal.returns-in-LoadGdt-clause-pages
returns-in-LoadGdt-clause-pages g c = wider 2 14 _ _ c.load_gdt.ensures.pages

pub load_idt-requires : goal.load_idt-requires
load_idt-requires g c = has 48 14 _ c.requires

pub returns-in-LoadIdt-clause-gives : goal.returns-in-LoadIdt-clause-gives
returns-in-LoadIdt-clause-gives g c = at_row _ _ _ _ _ _ _ c.in-LoadIdt.is c.load_idt.ensures.gives

pub returns-in-LoadIdt-clause-pages : goal.returns-in-LoadIdt-clause-pages
returns-in-LoadIdt-clause-pages g c = wider 2 14 _ _ c.load_idt.ensures.pages

pub load_tr-requires : goal.load_tr-requires
load_tr-requires g c = has 48 8 _ c.requires

pub returns-in-LoadTask-clause-gives : goal.returns-in-LoadTask-clause-gives
returns-in-LoadTask-clause-gives g c = at_row _ _ _ _ _ _ _ c.in-LoadTask.is c.load_tr.ensures.gives

pub returns-in-LoadTask-clause-pages : goal.returns-in-LoadTask-clause-pages
returns-in-LoadTask-clause-pages g c = wider 6 10 _ _ c.load_tr.ensures.pages

pub read_seg-requires : goal.read_seg-requires
read_seg-requires g c = has 48 14 _ c.requires

pub returns-in-ReadSeg-clause-gives : goal.returns-in-ReadSeg-clause-gives
returns-in-ReadSeg-clause-gives g c = at_row _ _ _ _ _ _ _ c.in-ReadSeg.is c.read_seg.ensures.gives

pub returns-in-ReadSeg-clause-pages : goal.returns-in-ReadSeg-clause-pages
returns-in-ReadSeg-clause-pages g c = wider 2 14 _ _ c.read_seg.ensures.pages

pub load_seg-requires : goal.load_seg-requires
load_seg-requires g c = has 48 8 _ c.requires

pub returns-in-LoadSeg-clause-gives : goal.returns-in-LoadSeg-clause-gives
returns-in-LoadSeg-clause-gives g c = at_row _ _ _ _ _ _ _ c.in-LoadSeg.is c.load_seg.ensures.gives

pub returns-in-LoadSeg-clause-pages : goal.returns-in-LoadSeg-clause-pages
returns-in-LoadSeg-clause-pages g c = wider 6 10 _ _ c.load_seg.ensures.pages

pub push_seg-requires : goal.push_seg-requires
push_seg-requires g c = has 48 14 _ c.requires

pub returns-in-PushSeg-clause-gives : goal.returns-in-PushSeg-clause-gives
returns-in-PushSeg-clause-gives g c = at_row _ _ _ _ _ _ _ c.in-PushSeg.is c.push_seg.ensures.gives

pub returns-in-PushSeg-clause-pages : goal.returns-in-PushSeg-clause-pages
returns-in-PushSeg-clause-pages g c = wider 2 14 _ _ c.push_seg.ensures.pages

pub pop_seg-requires : goal.pop_seg-requires
pop_seg-requires g c = has 48 8 _ c.requires

pub returns-in-PopSeg-clause-gives : goal.returns-in-PopSeg-clause-gives
returns-in-PopSeg-clause-gives g c = at_row _ _ _ _ _ _ _ c.in-PopSeg.is c.pop_seg.ensures.gives

pub returns-in-PopSeg-clause-pages : goal.returns-in-PopSeg-clause-pages
returns-in-PopSeg-clause-pages g c = wider 6 10 _ _ c.pop_seg.ensures.pages

pub far_jump-requires : goal.far_jump-requires
far_jump-requires g c = has 48 12 _ c.requires

pub returns-in-FarJump-clause-gives : goal.returns-in-FarJump-clause-gives
returns-in-FarJump-clause-gives g c = at_row _ _ _ _ _ _ _ c.in-FarJump.is c.far_jump.ensures.gives

pub returns-in-FarJump-clause-pages : goal.returns-in-FarJump-clause-pages
returns-in-FarJump-clause-pages g c = wider 4 12 _ _ c.far_jump.ensures.pages

pub return_to-requires : goal.return_to-requires
return_to-requires g c = has 48 14 _ c.requires

pub returns-in-Return-clause-gives : goal.returns-in-Return-clause-gives
returns-in-Return-clause-gives g c = at_row _ _ _ _ _ _ _ c.in-Return.is c.return_to.ensures.gives

pub returns-in-Return-clause-pages : goal.returns-in-Return-clause-pages
returns-in-Return-clause-pages g c = wider 2 14 _ _ c.return_to.ensures.pages

pub jump_to-requires : goal.jump_to-requires
jump_to-requires g c = has 48 14 _ c.requires

pub returns-in-JumpTo-clause-gives : goal.returns-in-JumpTo-clause-gives
returns-in-JumpTo-clause-gives g c = at_row _ _ _ _ _ _ _ c.in-JumpTo.is c.jump_to.ensures.gives

pub returns-in-JumpTo-clause-pages : goal.returns-in-JumpTo-clause-pages
returns-in-JumpTo-clause-pages g c = wider 2 14 _ _ c.jump_to.ensures.pages

pub call_to-requires : goal.call_to-requires
call_to-requires g c = has 48 12 _ c.requires

pub returns-in-CallTo-clause-gives : goal.returns-in-CallTo-clause-gives
returns-in-CallTo-clause-gives g c = at_row _ _ _ _ _ _ _ c.in-CallTo.is c.call_to.ensures.gives

pub returns-in-CallTo-clause-pages : goal.returns-in-CallTo-clause-pages
returns-in-CallTo-clause-pages g c = wider 4 12 _ _ c.call_to.ensures.pages
