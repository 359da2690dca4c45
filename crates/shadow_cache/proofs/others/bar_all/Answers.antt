use Rattle.std.proofs.Common.{ℕ, List, refl, sym, ◌∙◌, subst, arith}
use Rattle.frame_pool.specs.Held.{Holds, Writes}
use Rattle.frame_pool.proofs.Held.{Holds-writes, Writes-refl, Writes-trans}
use Rattle.shadow_cache.specs.Pairs.{frames_of}
use Rattle.shadow_cache.proofs.Leaving.{shadows-at}
use Rattle.shadow_cache.proofs.Barring.{lose-none, lose-more, lose-all, bar-shadows, barred-frames, bar-writes}
use Rattle.shadow_cache.proofs.others.bar_all.Goals as goal

pub loop-i-init : goal.loop-i-init
loop-i-init c = record {
  shadows = c.requires.shadows;
  frames = refl;
  loses = lose-none c.args.pairs.now c.args.ram.now c.args.frame;
  memory = Writes-refl (frames_of c.args.pairs.now c.args.ram.now) c.args.ram.now;
}

pub bar-requires : goal.bar-requires
bar-requires c =
    record { shadow = shadows-at c.args.pairs.now c.loop-i.i c.at.result.now c.loop-i.ram c.at.ensures c.loop-i.invariant.shadows }

pub loop-i-preserved : goal.loop-i-preserved
loop-i-preserved c =
    let l = c.loop-i in let ps = c.args.pairs.now in let m = c.args.ram.now in let n = c.bar.new.ram in
    let e = c.bar.ensures in
    let holds : Holds l.ram (frames_of ps l.ram) =
    subst (Holds l.ram) (sym l.invariant.frames) (Holds-writes (frames_of ps m) m l.ram c.requires.holds l.invariant.memory.size) in
    let shadows = l.invariant.shadows in
    record {
      shadows = bar-shadows ps l.i c.at.result.now l.ram n c.at.ensures shadows holds e.shadow e.memory;
      frames = barred-frames ps l.i c.at.result.now l.ram n c.at.ensures shadows holds e.held e.memory ∙ l.invariant.frames;
      loses = lose-more l.i ps c.at.result.now m l.ram n c.args.frame c.at.ensures shadows holds e.loses e.memory e.held
          e.tables l.invariant.loses;
      memory = Writes-trans (frames_of ps m) m l.ram n l.invariant.memory
          (subst (λ (fs : List ℕ). Writes fs l.ram n) l.invariant.frames (bar-writes ps l.i c.at.result.now l.ram n c.at.ensures e.memory));
    }

pub returns-clause-loses : goal.returns-clause-loses
returns-clause-loses c =
    lose-all c.loop-i.i c.args.pairs.now c.args.ram.now c.loop-i.ram c.args.frame (omega arith) c.loop-i.invariant.loses
