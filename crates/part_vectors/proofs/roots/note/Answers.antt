use Rattle.frame_pool.proofs.Held.{Owns-moves}
use Rattle.shadow_cache.specs.Pairs.{frames_of}
use Rattle.shadow_cache.specs.Roots.{pairs_of}
use Rattle.part_vectors.proofs.roots.note.Goals as goal

pub returns-clause-owns : goal.returns-clause-owns
returns-clause-owns g c =
    let b = c.args.bench in let p = b.pool in
    Owns-moves p p b.ram c.note.new.ram (frames_of (pairs_of b.roots) b.ram) (frames_of (pairs_of c.note.new.self) c.note.new.ram)
    c.requires.owns (c.note.ensures.moves p c.requires.owns)
