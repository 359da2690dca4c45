use Rattle.native_steps.proofs.Clear.{clear_from}
use Rattle.native_steps.proofs.Granting.{leaves}
use Rattle.native_steps.proofs.granted.grants.Goals as goal

pub returns : goal.returns
returns c = λ m v b mode room fit sound sees next small insn len fetch read write translated clash.
    leaves m v b (record {
      flags = c.effects.ensures;
      mode = mode;
      room = room;
      fit = fit;
      sound = sound;
      sees = sees;
      next = next;
      small = small;
    }) insn len fetch read write translated
    (clear_from m b insn len fetch translated.fetched translated.segments clash)
