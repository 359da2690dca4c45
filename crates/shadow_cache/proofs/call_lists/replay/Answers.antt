use Rattle.std.proofs.Common.{arith, [], take}
use Rattle.frame_pool.proofs.Held.{Owns-moves, Moves-trans}
use Rattle.shadow_cache.specs.Pairs.{frames_of}
use Rattle.shadow_cache.specs.Roots.{pairs_of}
use Rattle.shadow_cache.specs.Past.{pairs_after}
use Rattle.shadow_cache.specs.Agreeing.{Agree}
use Rattle.shadow_cache.proofs.Told.{pasts-of, present-of, all-few}
use Rattle.shadow_cache.proofs.call_lists.replay.Goals as goal
use Rattle.shadow_cache.proofs.call_lists.replay.Goals.{After-follow-count}

pub returns-clause-owns : goal.returns-clause-owns
returns-clause-owns c =
    let r = c.in_ok-roots.roots in
    Owns-moves c.new.new.pool c.follow-count.new.pool c.new.new.ram c.follow-count.new.ram (frames_of (pairs_of r) c.new.new.ram)
    (frames_of (pairs_of c.follow-count.new.roots) c.follow-count.new.ram) c.in_ok-roots.ensures.owns c.follow-count.ensures.moves

pub returns-clause-moves : goal.returns-clause-moves
returns-clause-moves c =
    let r = c.in_ok-roots.roots in
    Moves-trans c.args.pool.now c.new.new.pool c.follow-count.new.pool c.args.ram.now c.new.new.ram c.follow-count.new.ram []
    (frames_of (pairs_of r) c.new.new.ram) (frames_of (pairs_of c.follow-count.new.roots) c.follow-count.new.ram)
    c.in_ok-roots.ensures.moves c.follow-count.ensures.moves

-- the law, over what `new` gave
after : (c : After-follow-count) → Agree c.args.cr3 (take c.follow-count.result c.args.calls.now) (pairs_of c.follow-count.new.roots)
    c.follow-count.new.ram
after c = c.follow-count.ensures.law c.args.cr3 c.in_ok-roots.ensures.told

pub returns-clause-pairs : goal.returns-clause-pairs
returns-clause-pairs c =
    let cs = take c.follow-count.result c.args.calls.now in
    pasts-of c.args.cr3 cs (pairs_after c.args.cr3 cs) (pairs_of c.follow-count.new.roots) c.follow-count.new.ram (after c)

pub returns-clause-law : goal.returns-clause-law
returns-clause-law c = λ page l.
    let cs = take c.follow-count.result c.args.calls.now in let r = c.follow-count.new.roots in
    present-of c.args.cr3 cs (pairs_after c.args.cr3 cs) r.present r.others c.follow-count.new.ram (after c) page l

pub returns-clause-frames : goal.returns-clause-frames
returns-clause-frames c =
    let cs = take c.follow-count.result c.args.calls.now in
    let few = all-few c.args.cr3 cs (pairs_after c.args.cr3 cs) (pairs_of c.follow-count.new.roots) c.follow-count.new.ram (after c) in
    let all = (returns-clause-moves c).lengths in
    omega (arith, few, all)
