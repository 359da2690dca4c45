use Rattle.std.proofs.Common.{ℕ, Result, Ok, Err, ap, sym, subst, ◌∙◌, arith}
use Rattle.std.specs.Prelude.{IfErr}
use Rattle.std.proofs.lemmas.Result.{err_from_is_err_and}
use Rattle.frame_pool.specs.declared.Pool.{Pool}
use Rattle.image_load.specs.declared.boot.Boot.{Boot}
use Rattle.guest_sched.specs.Admitting.{CantAdmit, HasBegun, IsMemory, MayBegin}
use Rattle.guest_sched.specs.declared.kernel.Kernel.{Kernel}
use Rattle.guest_sched.specs.declared.kernel.SharedFault.{SharedFault}
use Rattle.guest_sched.specs.declared.kernel.SharedFault.TheVariants as fault
use Rattle.guest_sched.proofs.Admitted.{parked_stands, parked_free, taken_in}
use Rattle.guest_sched.proofs.tenants.Tenants.admit.Goals as goal

-- no memory was found
memory_lacks : (kernel : Kernel) (frames : ℕ) (f : SharedFault) → IsMemory f → CantAdmit kernel frames f
memory_lacks kernel frames fault.Write h = absurd h
memory_lacks kernel frames (fault.TooSmall small) h = absurd h
memory_lacks kernel frames fault.Memory h = tt

lacks_memory : {T : Type 0} (result : Result T SharedFault) (kernel : Kernel) (frames : ℕ) → IfErr result IsMemory
    → IfErr result (CantAdmit kernel frames)
lacks_memory (Ok done) kernel frames h = tt
lacks_memory (Err f) kernel frames h = memory_lacks kernel frames f h

pub returns-in_err-guest-clause-refused : goal.returns-in_err-guest-clause-refused
returns-in_err-guest-clause-refused g c =
    let p = err_from_is_err_and c.from_residual-in_err-guest.result c.from_residual-in_err-guest.ensures.1 in
    rw (p.1, p.2) (subst (λ (n : ℕ). CantAdmit c.args.kernel.now n c.in_err-guest.field-0.0) c.park.ensures.rest.1
    c.in_err-guest.ensures.refused)

pub returns-clause-refused : goal.returns-clause-refused
returns-clause-refused g c = lacks_memory c.add.result c.args.kernel.now c.args.self.now.frames c.add.ensures.refused

pub begin-requires-clause-may : goal.begin-requires-clause-may
begin-requires-clause-may g c =
    let old = c.args.self.now in
    let s = c.requires.so_far in
    let same = c.park.ensures.rest in
    let there = g.H.Host.bytes c.park.new.host in
    let room = c.in_ok-ram.ensures.len in
    let loaded = c.in-Ok.ensures.len in
    let of_old : MayBegin c.args.kernel.now old.frames c.in-Ok.boot.cpu c.load.new.ram old.pool there = record {
      fits = c.in-Ok.ensures.ok.0;
      cpu_is = ap (λ (b : Boot). b.cpu) c.in-Ok.ensures.ok.1;
      front = c.in-Ok.ensures.front;
      len = omega (arith, room, loaded);
      size = c.park.ensures.parked.size ∙ s.1.size;
      pool_is = s.1.pool_is;
      stands = parked_stands s.0 old.frames old.present old.list.items c.park.new.self.list.items old.pool (g.H.Host.bytes c.args.host.now)
          there s.1 c.park.ensures.parked;
      free = parked_free s.0 old.frames old.present old.list.items c.park.new.self.list.items old.pool (g.H.Host.bytes c.args.host.now)
          there s.1 c.park.ensures.parked c.requires.few;
    } in
    subst (λ (n : ℕ). MayBegin c.args.kernel.now n c.in-Ok.boot.cpu c.load.new.ram c.park.new.self.pool there) (sym same.1)
    (subst (λ (p : Pool). MayBegin c.args.kernel.now old.frames c.in-Ok.boot.cpu c.load.new.ram p there) (sym same.0) of_old)

pub returns-clause-admitted : goal.returns-clause-admitted
returns-clause-admitted g c =
    let old = c.args.self.now in
    let mid = c.park.new.self in
    let same = c.park.ensures.rest in
    let begun =
    subst (λ (p : Pool). HasBegun c.args.kernel.now old.frames p c.begin.new.pool (g.H.Host.bytes c.park.new.host)
    (g.H.Host.bytes c.begin.new.host) c.in_ok-guest.guest) same.0
    (subst (λ (n : ℕ). HasBegun c.args.kernel.now n mid.pool c.begin.new.pool (g.H.Host.bytes c.park.new.host)
    (g.H.Host.bytes c.begin.new.host) c.in_ok-guest.guest) same.1 c.in_ok-guest.ensures.begun) in
    let room = c.in_ok-ram.ensures.len in
    let loaded = c.in-Ok.ensures.len in
    let swapped = c.in_ok-guest.ensures.len in
    taken_in c.args.kernel.now old.frames old.present old.list.items mid.list.items c.add.new.self.list.items old.pool c.begin.new.pool
    c.add.new.self.pool c.add.new.self.frames c.add.new.self.present
    (g.H.Host.bytes c.args.host.now) (g.H.Host.bytes c.park.new.host) (g.H.Host.bytes c.begin.new.host) c.in_ok-guest.guest
    c.begin.new.ram c.add.result
    c.park.ensures.parked begun c.in-Ok.ensures.ok.0 (omega (arith, room, loaded, swapped)) c.requires.few c.add.ensures.list
    c.add.ensures.present c.add.ensures.rest.0 (c.add.ensures.rest.1 ∙ same.1)
