use Rattle.std.proofs.Common.{ℕ, List, ap, ◌∙◌, subst, arith}
use Rattle.frame_pool.specs.Held.{Moves}
use Rattle.frame_pool.proofs.Held.{Owns-moves, Moves-trans, Moves-refl}
use Rattle.shadow_cache.specs.Pairs.{frames_of}
use Rattle.shadow_cache.specs.declared.pair.Pair.{Pair}
use Rattle.shadow_cache.specs.Laws.{kept-shadows}
use Rattle.shadow_cache.proofs.Leaving.{none-frames, none-left}
use Rattle.shadow_cache.proofs.others.leave_all.Goals as goal

pub leave-requires-clause-owns : goal.leave-requires-clause-owns
leave-requires-clause-owns c =
    let l = c.loop-pairs in
    Owns-moves c.args.pool.now l.pool c.args.ram.now l.ram (frames_of c.args.pairs.now c.args.ram.now) (frames_of l.pairs l.ram)
    c.requires.owns l.invariant.moves

pub loop-pairs-preserved : goal.loop-pairs-preserved
loop-pairs-preserved c =
    let l = c.loop-pairs in
    record {
      shadows = kept-shadows c.leave.new.pairs l.ram c.leave.new.ram c.leave.ensures.kept;
      moves = Moves-trans c.args.pool.now l.pool c.leave.new.pool c.args.ram.now l.ram c.leave.new.ram
          (frames_of c.args.pairs.now c.args.ram.now) (frames_of l.pairs l.ram) (frames_of c.leave.new.pairs c.leave.new.ram)
          l.invariant.moves c.leave.ensures.moves;
    }

pub returns-clause-moves : goal.returns-clause-moves
returns-clause-moves c =
    let l = c.loop-pairs in
    subst (λ (fs : List ℕ). Moves c.args.pool.now l.pool c.args.ram.now l.ram (frames_of c.args.pairs.now c.args.ram.now) fs)
    (ap (λ (ps : List Pair). frames_of ps l.ram) (none-left l.pairs (omega arith)) ∙ none-frames l.ram) l.invariant.moves

pub loop-pairs-init : goal.loop-pairs-init
loop-pairs-init c = record {
  shadows = c.requires.shadows;
  moves = Moves-refl c.args.pool.now c.args.ram.now (frames_of c.args.pairs.now c.args.ram.now) c.requires.owns.stands;
}
