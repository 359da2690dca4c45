use Rattle.shadow_cache.specs.FrameSets.{all_frames}
use Rattle.shadow_cache.proofs.Spread.{spread-ones}
use Rattle.shadow_cache.proofs.frame_set.FrameSet.full.Goals as goal

pub returns : goal.returns
unfolding all_frames
returns c = spread-ones 256
