use Rattle.std.proofs.Common.{◌≡◌, ℕ, ◌*◌, ◌^◌, ◌≤◌, ◌<◌, length, refl, ap, subst, sym, ◌∙◌, arith}
use Rattle.descriptors.specs.declared.cpu.Cpu.{Cpu}
use Rattle.guest_ram.specs.Bytes.{AreBytes}
use Rattle.machine_model.specs.State.{wedge}
use Rattle.wedge_step.proofs.LookedUses.{as_the_step, as_it_looks}
use Rattle.wedge_step.proofs.clash.clashes.Goals as goal

fits_in : (size room : ℕ) → size ≡ room → room ≤ size
fits_in size room e = omega (arith, e)

pub returns-clause-step : goal.returns-clause-step
returns-clause-step g c = λ script b insn len fetch is_cpu is_ram is_set found.
    let a = c.args in
    let m = wedge a.image.now script a.frames in
    let long : length b.ram ≡ 4096 * a.frames = ap length is_ram ∙ c.are_bytes.ensures.length in
    let room = fits_in _ _ long in
    let fit : AreBytes b.ram = subst AreBytes (sym is_ram) c.are_bytes.ensures.bytes in
    let same : b.cpu.regs.eip ≡ a.cpu.now.regs.eip = ap (λ (x : Cpu). x.regs.eip) is_cpu in
    let small : b.cpu.regs.eip < 2 ^ 32 = omega (arith, same) in
    as_the_step a.image.now script a.frames b a.cpu.now _ _ _ _ _ c.is_clash.ensures c.as_slice.ensures.value c.uses-uses.ensures
    is_cpu is_ram is_set
    (c.uses_are_seen.ensures.uses m b refl room fit small insn len fetch found)

pub returns-clause-clashes : goal.returns-clause-clashes
returns-clause-clashes g c = λ found script b is_cpu is_ram is_set.
    let a = c.args in
    let m = wedge a.image.now script a.frames in
    let long : length b.ram ≡ 4096 * a.frames = ap length is_ram ∙ c.are_bytes.ensures.length in
    let room = fits_in _ _ long in
    let fit : AreBytes b.ram = subst AreBytes (sym is_ram) c.are_bytes.ensures.bytes in
    let same : b.cpu.regs.eip ≡ a.cpu.now.regs.eip = ap (λ (x : Cpu). x.regs.eip) is_cpu in
    let small : b.cpu.regs.eip < 2 ^ 32 = omega (arith, same) in
    c.uses_are_seen.ensures.clashes m b refl room fit small
    (as_it_looks a.image.now script a.frames b a.cpu.now _ _ _ _ _ c.is_clash.ensures c.as_slice.ensures.value c.uses-uses.ensures is_cpu
    is_ram is_set found)
