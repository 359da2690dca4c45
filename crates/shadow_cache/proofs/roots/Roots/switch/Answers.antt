use Rattle.std.proofs.Common.{List, ◌∷◌, subst}
use Rattle.std.proofs.lemmas.Grind.{merely}
use Rattle.frame_pool.proofs.Held.{Owns-moves, Moves-trans}
use Rattle.shadow_cache.specs.Pairs.{frames_of}
use Rattle.shadow_cache.specs.Switched.{Comes}
use Rattle.shadow_cache.specs.Roots.{pairs_of, is_barred}
use Rattle.shadow_cache.specs.Standing.{stood}
use Rattle.shadow_cache.specs.declared.pair.Pair.{Pair}
use Rattle.shadow_cache.proofs.Coming.{comes-after, stays-here}
use Rattle.shadow_cache.proofs.CallSteps.{step-switch}
use Rattle.shadow_cache.proofs.Listing.{switched-barred}
use Rattle.shadow_cache.proofs.roots.Roots.switch.Goals as goal

pub put_by-requires : goal.put_by-requires
put_by-requires c = record { roots = (stood c.args.self.now c.args.ram.now c.requires.stands).roots; owns = c.requires.owns }

pub come-requires-clause-owns : goal.come-requires-clause-owns
come-requires-clause-owns c =
    Owns-moves c.args.pool.now c.put_by.new.pool c.args.ram.now c.put_by.new.ram (frames_of (pairs_of c.args.self.now) c.args.ram.now)
    (frames_of c.put_by.new.others c.put_by.new.ram) c.requires.owns c.put_by.ensures.moves

pub returns-clause-switched : goal.returns-clause-switched
returns-clause-switched c =
    let ps = pairs_of c.args.self.now in let qs : List Pair = c.come.new.present ∷ c.come.new.others in
    let m = c.args.ram.now in let m1 = c.put_by.new.ram in let m2 = c.come.new.ram in
    let a = c.put_by.ensures in
    subst (λ (xs : List Pair). Comes xs qs m m2 c.args.cr3) a.staying
    (comes-after c.put_by.new.others qs m m1 m2 c.args.cr3 a.kept c.come.ensures.comes)

pub returns-clause-stands : goal.returns-clause-stands
returns-clause-stands c =
    let r = c.args.self.now in let s =
    stood r c.args.ram.now c.requires.stands in let qs : List Pair = c.come.new.present ∷ c.come.new.others in
    merely (record {
      roots = c.come.ensures.roots;
      barred =
          switched-barred (is_barred r) r.present r.others qs c.args.ram.now c.come.new.ram c.args.cr3 s.barred (returns-clause-switched c);
    })

pub returns-clause-moves : goal.returns-clause-moves
returns-clause-moves c =
    Moves-trans c.args.pool.now c.put_by.new.pool c.come.new.pool c.args.ram.now c.put_by.new.ram c.come.new.ram
    (frames_of (pairs_of c.args.self.now) c.args.ram.now)
    (frames_of c.put_by.new.others c.put_by.new.ram) (frames_of (c.come.new.present ∷ c.come.new.others) c.come.new.ram)
    c.put_by.ensures.moves c.come.ensures.moves

pub returns-clause-owns : goal.returns-clause-owns
returns-clause-owns c =
    Owns-moves c.args.pool.now c.come.new.pool c.args.ram.now c.come.new.ram (frames_of (pairs_of c.args.self.now) c.args.ram.now)
    (frames_of (c.come.new.present ∷ c.come.new.others) c.come.new.ram) c.requires.owns (returns-clause-moves c)

pub returns-clause-told : goal.returns-clause-told
returns-clause-told c = λ value calls a.
    step-switch value calls c.args.cr3 c.args.ram.now c.come.new.ram (pairs_of c.args.self.now) (c.come.new.present ∷ c.come.new.others)
    (returns-clause-switched c) a

pub returns-then-not-self-clause-switched : goal.returns-then-not-self-clause-switched
returns-then-not-self-clause-switched c =
    let r = c.args.self.now in let m = c.args.ram.now in
    stays-here r.present r.others m c.args.cr3 (stood r m c.requires.stands).roots.shadows c.if-self-cr3.true c.if-not-self.true

pub returns-then-not-self-clause-told : goal.returns-then-not-self-clause-told
returns-then-not-self-clause-told c = λ value calls a.
    step-switch value calls c.args.cr3 c.args.ram.now c.args.ram.now (pairs_of c.args.self.now) (pairs_of c.args.self.now)
    (returns-then-not-self-clause-switched c) a
