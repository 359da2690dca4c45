use Rattle.std.proofs.Common.{◌≡◌, ◌*◌, length, drop, refl, ap, arith, length-drop}
use Rattle.step_mem.specs.declared.walking.Control.{Control}
use Rattle.bare_machine.specs.Settings.{bare}
use Rattle.bare_machine.proofs.machine.tried.Goals as goal

pub returns-clause-memory : goal.returns-clause-memory
returns-clause-memory g c = rw c.step_again.ensures.stays.1 refl

-- nothing that lies past the frames changed, so memory is as long as it was
pub returns-clause-size : goal.returns-clause-size
returns-clause-size g c =
    let n = 4096 * c.args.frames in
    let behind : drop n c.step_again.new.ram ≡ drop n c.args.ram.now = c.step_again.ensures.stays.2 in
    let e = ap length behind in
    let frames : c.step_again.new.state.control.frames ≡ c.args.frames = ap (λ (k : Control). k.frames) c.step_again.ensures.stays.0 in
    let room = c.step_again.ensures.sound.frames_in in
    let before = c.requires.ram in
    omega (arith, e, length-drop n c.step_again.new.ram, length-drop n c.args.ram.now, room, frames, before)

pub returns-clause-told : goal.returns-clause-told
returns-clause-told g c = c.step_again.ensures.sound.told

pub returns-clause-few : goal.returns-clause-few
returns-clause-few g c = omega (arith, c.step_again.ensures.sound.visits, c.step_again.ensures.sound.few)

pub returns-clause-works : goal.returns-clause-works
returns-clause-works g c = λ image script b.
    let s = bare image script c.args.frames in
    record {
      comes = c.step_again.ensures.step s b (record { has = refl; over = tt });
      raises = c.step_again.ensures.raised s b (record { has = refl; over = tt });
      leaves = c.step_again.ensures.leaves s b (record { has = refl; over = tt });
    }
