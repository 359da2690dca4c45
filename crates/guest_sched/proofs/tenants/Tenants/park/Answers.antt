use Rattle.guest_sched.proofs.Brought.{any_of}
use Rattle.guest_sched.proofs.Parked.{parked, none_parked}
use Rattle.guest_sched.proofs.tenants.Tenants.park.Goals as goal
use Rattle.std.proofs.Common.{length, arith, ◌<◌}

pub returns-then-present-len-clause-parked : goal.returns-then-present-len-clause-parked
returns-then-present-len-clause-parked g c =
    let old = c.args.self.now in
    let left = c.exchange.new.self in
    let there : old.present < length old.list.items = (let a = c.if-present-len.true in let b = c.len.ensures in omega (arith, a, b)) in
    let d = any_of old.list.items old.present there in
    let a = c.exchange.ensures.list d in
    parked old.frames (g.H.Host.bytes c.args.host.now) (g.H.Host.bytes c.exchange.new.host) old.present old.list.items
    left.list.items d a.0 there
    c.requires.theirs c.requires.room a.1 a.2 a.3 a.4 a.5 (c.exchange.ensures.host d)

pub returns-else-present-len-clause-parked : goal.returns-else-present-len-clause-parked
returns-else-present-len-clause-parked g c =
    let old = c.args.self.now in
    none_parked old.frames (g.H.Host.bytes c.args.host.now) old.present old.list.items (let a = c.if-present-len.false in
    let b = c.len.ensures in omega (arith, a, b)) c.requires.theirs
