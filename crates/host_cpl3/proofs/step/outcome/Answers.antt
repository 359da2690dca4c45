use Rattle.ia32_exec.specs.Effect.{ranges_of}
use Rattle.host_cpl3.proofs.Reading.{first_read, second_read}
use Rattle.host_cpl3.proofs.step.outcome.Goals as goal

pub user_effect-requires-clause-ready : goal.user_effect-requires-clause-ready
user_effect-requires-clause-ready c =
    let a = c.args in
    record {
      read = first_read a.ram.now a.view.now.root a.read a.write (ranges_of a.insn.now a.regs.now).read c.requires.read
          c.requires.write c.requires.read_of;
      modified = second_read a.ram.now a.view.now.root a.read a.write (ranges_of a.insn.now a.regs.now).write c.requires.read
          c.requires.write c.requires.write_of;
    }
