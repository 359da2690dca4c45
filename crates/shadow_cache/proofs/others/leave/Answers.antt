use Rattle.std.proofs.Common.{List, sym, subst}
use Rattle.frame_pool.specs.Held.{Moves}
use Rattle.shadow_cache.specs.Pairs.{frames_of}
use Rattle.shadow_cache.specs.Others.{AreKept}
use Rattle.shadow_cache.specs.declared.pair.Pair.{Pair}
use Rattle.shadow_cache.proofs.Leaving.{shadows-at, leaves-owns, leaves-kept, leaves-moves}
use Rattle.shadow_cache.proofs.others.leave.Goals as goal

pub close-requires-clause-shadow : goal.close-requires-clause-shadow
close-requires-clause-shadow c =
    shadows-at c.args.pairs.now c.args.i c.take-pair.result c.args.ram.now c.take-pair.ensures.pair c.requires.shadows

pub close-requires-clause-owns : goal.close-requires-clause-owns
close-requires-clause-owns c = leaves-owns c.args.pool.now c.args.ram.now c.args.pairs.now c.args.i c.take-pair.result
    c.take-pair.ensures.pair c.requires.shadows c.requires.owns

pub returns-clause-kept : goal.returns-clause-kept
returns-clause-kept c =
    subst (λ (ps : List Pair). AreKept ps c.args.ram.now c.close.new.ram) (sym c.take-pair.ensures.rest)
    (leaves-kept c.args.pool.now c.args.ram.now c.args.pairs.now c.args.i c.take-pair.result c.take-pair.ensures.pair c.requires.shadows
    c.requires.owns c.close.new.pool c.close.new.ram c.close.ensures.moves)

pub returns-clause-moves : goal.returns-clause-moves
returns-clause-moves c =
    subst (λ (ps : List Pair). Moves c.args.pool.now c.close.new.pool c.args.ram.now c.close.new.ram
    (frames_of c.args.pairs.now c.args.ram.now) (frames_of ps c.close.new.ram)) (sym c.take-pair.ensures.rest)
    (leaves-moves c.args.pool.now c.args.ram.now c.args.pairs.now c.args.i c.take-pair.result c.take-pair.ensures.pair c.requires.shadows
    c.requires.owns c.close.new.pool c.close.new.ram c.close.ensures.moves)
