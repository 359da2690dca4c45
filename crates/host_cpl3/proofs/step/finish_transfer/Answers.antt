use Rattle.std.proofs.Common.{ℕ, List, Ok, sym, ap, ◌∙◌}
use Rattle.host_cpl3.specs.declared.exit.Completion.{Completion}
use Rattle.host_cpl3.specs.Views.{selectors_of}
use Rattle.host_cpl3.specs.Pages.{place, byte_at}
use Rattle.host_cpl3.specs.HostStep.{ended, finished}
use Rattle.host_cpl3.specs.Reaches.{placed}
use Rattle.host_cpl3.proofs.Finishing.{finish_stores}
use Rattle.host_cpl3.proofs.Storing.{stores_same}
use Rattle.host_cpl3.proofs.step.finish_transfer.Goals as goal

pub stored-requires-clause-stores : goal.stored-requires-clause-stores
stored-requires-clause-stores c =
    let a = c.args in
    (finish_stores a.ram.now a.view.now.root (selectors_of a.view.now) a.insn.now a.len a.regs.now (byte_at a.ram.now a.view.now.root)
    c.in-Done.after c.in-Done.stores a.write
    (sym c.in-Done.is ∙ c.outcome-came.ensures) c.requires.write c.requires.write_of).0

pub returns-in-Done-clause-gives : goal.returns-in-Done-clause-gives
returns-in-Done-clause-gives c =
    let a = c.args in
    let is = sym c.in-Done.is ∙ c.outcome-came.ensures in
    let same =
    (finish_stores a.ram.now a.view.now.root (selectors_of a.view.now) a.insn.now a.len a.regs.now (byte_at a.ram.now a.view.now.root)
    c.in-Done.after c.in-Done.stores a.write
    is c.requires.write c.requires.write_of).1 in
    ap (finished a.view.now a.insn.now.op a.ram.now) (sym is)
    ∙ ap (λ (m : List ℕ). Ok (ended a.view.now a.insn.now.op c.in-Done.after, m))
    (sym (stores_same (placed a.write) (place a.ram.now a.view.now.root) a.ram.now c.in-Done.stores same) ∙ sym c.stored.ensures.memory)
    ∙ ap (λ (done : Completion). Ok (done, c.stored.new.ram)) (sym c.ended.ensures)
