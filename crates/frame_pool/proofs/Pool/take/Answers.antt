use Rattle.std.proofs.Common.{◌≡◌, ◌-◌, List, ◌∷◌, ◌*◌, ◌<◌, ◌^◌, length, ℕ, replicate, refl, arith}
use Rattle.std.proofs.lemmas.List.{length-replicate}
use Rattle.guest_ram.specs.Bytes.{with_part}
use Rattle.frame_pool.specs.Pool.{Takes, free_list, chain}
use Rattle.frame_pool.proofs.Chains.{chain-none, take-fits, take-memory, take-list, take-stands, take-out, take-zeroed}
use Rattle.frame_pool.proofs.Pool.take.Goals as goal

pub returns-then-self-eq0-clause-frame : goal.returns-then-self-eq0-clause-frame
returns-then-self-eq0-clause-frame c = (chain-none _ _ _ c.if-self-eq0.true, refl, refl)

pub overflow_mul-frame : goal.overflow_mul-frame
overflow_mul-frame c =
    let h = take-fits c.args.self.now c.args.ram.now c.requires c.if-self-eq0.false in
    let h' : 4096 * c.args.self.now.head < 2 ^ 32 = omega (arith, h) in
    record { fits = h' }

pub read32-self-requires : goal.read32-self-requires
read32-self-requires c = omega (arith, take-fits c.args.self.now c.args.ram.now c.requires c.if-self-eq0.false)

pub overflow_mul-frame-2 : goal.overflow_mul-frame-2
overflow_mul-frame-2 c =
    let h = take-fits c.args.self.now c.args.ram.now c.requires c.if-self-eq0.false in
    let h' : 4096 * c.args.self.now.head < 2 ^ 32 = omega (arith, h) in
    record { fits = h' }

pub put-requires : goal.put-requires
put-requires c = take-fits c.args.self.now c.args.ram.now c.requires c.if-self-eq0.false

taken : (c : goal.After-put)
    → Takes c.args.self.now (record {
      head = c.read32-self.result;
      base = c.args.self.now.base;
      count = c.args.self.now.count;
      free = c.args.self.now.free - 1;
    }) c.args.ram.now c.put.new.self c.args.self.now.head
taken c =
    let p = c.args.self.now in
    let m = c.args.ram.now in
    let ne = c.if-self-eq0.false in
    let zeros : List ℕ = replicate 4096 0 in
    let put : c.put.new.self ≡ with_part m (4096 * p.head) zeros = c.put.ensures.memory in
    let s = take-memory p m zeros c.requires ne (length-replicate {A = ℕ} 4096 0) in
    let list : free_list p m ≡ p.head ∷ chain c.put.new.self (p.free - 1) c.read32-self.result =
    rw (put, c.read32-self.ensures) (take-list p m _ c.requires ne s)
    in
    let size : length c.put.new.self ≡ length m = rw put s.size in
    let stands = take-stands p _ m _ p.head c.requires size refl refl list in
    record {
      list = list;
      fits = take-fits p m c.requires ne;
      memory = put;
      zeroed = rw put (take-zeroed p m c.requires ne);
      but = rw put s;
      stands = stands;
      same = (refl, refl);
      out = take-out p _ m _ p.head c.requires refl refl list;
    }

pub returns-clause-stands : goal.returns-clause-stands
returns-clause-stands c = (taken c).stands

pub returns-clause-frame : goal.returns-clause-frame
returns-clause-frame c = taken c
