use Rattle.std.proofs.Common.{List, ℕ, ◌*◌, take, ap, ◌∙◌}
use Rattle.guest_ram.specs.Bytes.{with_part}
use Rattle.checkpoint.proofs.Seats.{first_frames}
use Rattle.checkpoint.proofs.guest.memory_of.Goals as goal

pub returns-clause-ram : goal.returns-clause-ram
returns-clause-ram c =
    c.put-2.ensures.memory
    ∙ ap (λ (m : List ℕ). with_part m 0x100000 c.text.result.now)
    (first_frames c.in_ok-ram.ram c.args.memory.now c.part.result.now c.put.new.self c.args.frames c.in_ok-ram.ensures.len c.requires.room
    c.part.ensures.bytes c.put.ensures.memory)
    ∙ ap (λ (t : List ℕ). with_part (take (4096 * c.args.frames) c.args.memory.now) 0x100000 t) c.text.ensures.text
