use Rattle.std.proofs.Common.{ℕ, List, Ok, Err, refl, sym, ap, ◌∙◌}
use Rattle.ia32_exec.specs.Effect.{ranges_of}
use Rattle.host_cpl3.specs.declared.exit.Completion.{Completion}
use Rattle.host_cpl3.specs.declared.exit.Exit.{Exit}
use Rattle.host_cpl3.specs.Views.{selectors_of}
use Rattle.host_cpl3.specs.Pages.{place, byte_at}
use Rattle.host_cpl3.specs.HostStep.{ended, finished}
use Rattle.host_cpl3.specs.Reaches.{placed}
use Rattle.host_cpl3.proofs.Finishing.{finish_stores}
use Rattle.host_cpl3.proofs.Insensitive.{same_effect, is_done}
use Rattle.host_cpl3.proofs.Reading.{first_read, second_read}
use Rattle.host_cpl3.proofs.Storing.{stores_same}
use Rattle.host_cpl3.proofs.step.finish_plain.Goals as goal

pub effect-requires-clause-kind : goal.effect-requires-clause-kind
effect-requires-clause-kind c = is_done c.args.insn.now.op c.requires.insensitive c.requires.done

pub effect-requires-clause-ready : goal.effect-requires-clause-ready
effect-requires-clause-ready c =
    let a = c.args in
    record {
      read = first_read a.ram.now a.view.now.root a.read a.write (ranges_of a.insn.now a.regs.now).read c.requires.read
          c.requires.write c.requires.read_of;
      modified = second_read a.ram.now a.view.now.root a.read a.write (ranges_of a.insn.now a.regs.now).write c.requires.read
          c.requires.write c.requires.write_of;
    }

pub stored-requires-clause-stores : goal.stored-requires-clause-stores
stored-requires-clause-stores c =
    let v = c.args.view.now in
    let m = c.args.ram.now in
    let f = byte_at m v.root in
    let insn = c.args.insn.now in
    let came = same_effect (selectors_of v) insn c.args.len c.args.regs.now f c.requires.insensitive ∙ sym c.effect.ensures in
    (finish_stores m v.root (selectors_of v) insn c.args.len c.args.regs.now f c.in-Done.after c.in-Done.stores c.args.write
    (sym (came ∙ c.in-Done.is)) c.requires.write c.requires.write_of).0

pub returns-in-Done-clause-gives : goal.returns-in-Done-clause-gives
returns-in-Done-clause-gives c =
    let v = c.args.view.now in
    let m = c.args.ram.now in
    let f = byte_at m v.root in
    let insn = c.args.insn.now in
    let came = same_effect (selectors_of v) insn c.args.len c.args.regs.now f c.requires.insensitive ∙ sym c.effect.ensures in
    let is = came ∙ c.in-Done.is in
    let same = (finish_stores m v.root (selectors_of v) insn c.args.len c.args.regs.now f c.in-Done.after c.in-Done.stores c.args.write
    (sym is) c.requires.write c.requires.write_of).1 in
    ap (finished v insn.op m) is
    ∙ ap (λ (n : List ℕ). Ok (ended v insn.op c.in-Done.after, n))
    (sym (stores_same (placed c.args.write) (place m v.root) m c.in-Done.stores same) ∙ sym c.stored.ensures.memory)
    ∙ ap (λ (done : Completion). Ok (done, c.stored.new.ram)) (sym c.ended.ensures)

pub returns-in-Raise-clause-gives : goal.returns-in-Raise-clause-gives
returns-in-Raise-clause-gives c =
    let v = c.args.view.now in
    let m = c.args.ram.now in
    let f = byte_at m v.root in
    let insn = c.args.insn.now in
    let came = same_effect (selectors_of v) insn c.args.len c.args.regs.now f c.requires.insensitive ∙ sym c.effect.ensures in
    (ap (finished v insn.op m) (came ∙ c.in-Raise.is) ∙ ap (λ (x : Exit). Err x) (sym c.fault.ensures), refl, refl)

pub returns-in-Stop-clause-gives : goal.returns-in-Stop-clause-gives
returns-in-Stop-clause-gives c =
    let v = c.args.view.now in
    let m = c.args.ram.now in
    let f = byte_at m v.root in
    let insn = c.args.insn.now in
    let came = same_effect (selectors_of v) insn c.args.len c.args.regs.now f c.requires.insensitive ∙ sym c.effect.ensures in
    (ap (finished v insn.op m) (came ∙ c.in-Stop.is) ∙ ap (λ (x : Exit). Err x) (sym c.exit_of.ensures), refl, refl)
