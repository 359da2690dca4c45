use Rattle.std.proofs.Common.{ℕ, List, ◌∙◌, drop, ap, arith, length-drop}
use Rattle.std.proofs.lemmas.List.{take_rest}
use Rattle.guest_ram.specs.Bytes.{with_part}
use Rattle.checkpoint.proofs.Files.{put_all}
use Rattle.checkpoint.proofs.reading.memory.Goals as goal

pub returns : goal.returns
returns c =
    let l = c.in_ok-ram.ensures.len in
    let s = c.requires.size in
    c.put.ensures.memory ∙ ap (λ (xs : List ℕ). with_part c.in_ok-ram.ram 0 xs) (take_rest c.args.bytes.now 256)
    ∙ put_all c.in_ok-ram.ram (drop 256 c.args.bytes.now) (omega (arith, length-drop 256 c.args.bytes.now))
