use Rattle.std.proofs.Common.{◌≡◌, ◌*◌, ◌≤◌, ℕ, length, get_or, ap, sym, subst, ◌∙◌, arith}
use Rattle.std.specs.List.{All}
use Rattle.std.proofs.lemmas.List.{length-set}
use Rattle.guest_ram.specs.Bytes.{part, with_part}
use Rattle.guest_sched.specs.declared.tenants.Tenant.{Tenant}
use Rattle.guest_sched.proofs.Brought.{any_of, left_rooms, left_size, brought}
use Rattle.guest_sched.proofs.tenants.Tenants.bring.Goals as goal

pub exchange-requires-2-clause-known : goal.exchange-requires-2-clause-known
exchange-requires-2-clause-known g c =
    let old = c.args.self.now in
    let e = c.exchange.ensures.list (any_of old.list.items old.present c.requires.present) in
    let n = ap length e.1 ∙ length-set old.list.items old.present e.0 in
    let k = c.requires.known in
    omega (arith, n, k)

pub exchange-requires-2-clause-theirs : goal.exchange-requires-2-clause-theirs
exchange-requires-2-clause-theirs g c =
    let old = c.args.self.now in
    let d = any_of old.list.items old.present c.requires.present in
    let e = c.exchange.ensures.list d in
    subst (λ (f : ℕ). All (λ (t : Tenant). 4096 * f ≤ length t.ram) c.exchange.new.self.list.items) (sym c.exchange.ensures.rest.1)
    (left_rooms old.frames old.present old.list.items c.exchange.new.self.list.items e.0 c.requires.present e.1
    (let n : length e.0.ram ≡ length (get_or old.list.items old.present d).ram = e.3 in
    let there : 4096 * old.frames ≤ length (get_or old.list.items old.present d).ram = c.requires.theirs old.present d c.requires.present in
    omega (arith, n, there)) c.requires.theirs)

pub exchange-requires-2-clause-room : goal.exchange-requires-2-clause-room
exchange-requires-2-clause-room g c =
    let old = c.args.self.now in
    let d = any_of old.list.items old.present c.requires.present in
    let l = left_size old.frames (g.H.Host.bytes c.args.host.now) (g.H.Host.bytes c.exchange.new.host) (get_or old.list.items old.present d)
    (c.requires.theirs old.present d c.requires.present) c.requires.room (c.exchange.ensures.host d) in
    subst (λ (f : ℕ). 4096 * f ≤ length (g.H.Host.bytes c.exchange.new.host)) (sym c.exchange.ensures.rest.1) l

pub returns-clause-brought : goal.returns-clause-brought
returns-clause-brought g c =
    let old = c.args.self.now in
    let left = c.exchange.new.self in
    let both = c.exchange-2.new.self in
    let host = g.H.Host.bytes c.args.host.now in
    let mid = g.H.Host.bytes c.exchange.new.host in
    let d = any_of old.list.items old.present c.requires.present in
    let a = c.exchange.ensures.list d in
    let b = c.exchange-2.ensures.list d in
    let same : left.frames ≡ old.frames = c.exchange.ensures.rest.1 in
    brought old.frames host mid (g.H.Host.bytes c.exchange-2.new.host) old.present c.args.kernel old.list.items left.list.items
    both.list.items d a.0 b.0
    c.if-kernel-self.false c.requires.known c.requires.present c.requires.theirs c.requires.room
    a.1 a.2 a.3 a.4 a.5 (c.exchange.ensures.host d)
    b.1 b.3 b.4 b.5
    (c.exchange-2.ensures.host d ∙ ap (λ (f : ℕ). with_part mid 0 (part (get_or left.list.items c.args.kernel d).ram 0 (4096 * f))) same)
