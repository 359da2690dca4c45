use Rattle.std.proofs.Common.{◌≡◌, ◌*◌, ◌-◌, ℕ, List, length, take, drop, ap, ◌∙◌, arith}
use Rattle.guest_ram.specs.Bytes.{part, with_part}
use Rattle.guest_sched.proofs.Fronts.{back_put, front_put, front_front}
use Rattle.guest_sched.proofs.exchange.exchange_fronts.Goals as goal

pub returns-then-len-clause-front : goal.returns-then-len-clause-front
returns-then-len-clause-front c =
    let n = 4096 * c.args.frames in
    ap (take n) (c.exchange.ensures.theirs ∙ front_put n c.args.ram.now c.args.host.now c.requires.room)
    ∙ front_front n c.args.host.now (drop n c.args.ram.now) c.requires.room

pub returns-clause-host : goal.returns-clause-host
returns-clause-host c =
    let n = 4096 * c.args.frames in
    let host = c.args.host.now in
    let same : length c.args.ram.now ≡ length host =
    (let a = c.len-len.ensures.count in let b = c.len.ensures.count in let e = c.if-len.false in omega (arith, a, b, e)) in
    c.put.ensures.memory
    ∙ ap (λ (z : List ℕ). with_part c.swap.new.x n z)
    (c.part.ensures.bytes ∙ ap (λ (k : ℕ). part c.swap.new.y n (k - n)) c.len-len.ensures.count
    ∙ ap (λ (z : List ℕ). part z n (length host - n)) c.swap.ensures.y_after)
    ∙ ap (λ (z : List ℕ). with_part z n (part host n (length host - n))) c.swap.ensures.x_after
    ∙ back_put n host c.args.ram.now same c.requires.room
