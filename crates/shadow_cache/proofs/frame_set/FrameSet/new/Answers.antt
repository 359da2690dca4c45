use Rattle.shadow_cache.specs.FrameSets.{no_frames}
use Rattle.shadow_cache.proofs.Spread.{spread-zeros}
use Rattle.shadow_cache.proofs.frame_set.FrameSet.new.Goals as goal

pub returns : goal.returns
unfolding no_frames
returns c = spread-zeros 256
