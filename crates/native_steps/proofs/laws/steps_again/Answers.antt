use Rattle.native_steps.proofs.Clear.{clear_from}
use Rattle.native_steps.proofs.Repeated.{steps_same}
use Rattle.native_steps.proofs.laws.steps_again.Goals as goal

pub returns : goal.returns
returns c = λ m v b mode room fit sound sees next small insn len fetch read write translated clash.
    steps_same m v b (record {
      flags = c.effects.ensures;
      mode = mode;
      room = room;
      fit = fit;
      sound = sound;
      sees = sees;
      next = next;
      small = small;
    }) insn len fetch read write translated
    (clear_from m b insn len fetch translated.fetched translated.segments clash)
