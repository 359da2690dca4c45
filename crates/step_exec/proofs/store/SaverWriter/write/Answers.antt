use Rattle.std.proofs.Common.{◌/◌}
use Rattle.ia32_types.specs.Size.{width}
use Rattle.step_exec.proofs.Ready.{number_writable}
use Rattle.step_exec.proofs.Stored.{some_bytes}
use Rattle.step_exec.proofs.store.SaverWriter.write.Goals as goal

pub save-requires : goal.save-requires
save-requires g c =
    let s = c.args.store in
    number_writable (g.M.GuestMem.space c.args.mem.now) s.at (width s.size / 8) (λ k lt. (c.requires.open_to k lt).0) (some_bytes s.size)
