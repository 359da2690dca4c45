use Rattle.std.proofs.Common.{◌≡◌, ℕ, false, ◌&&◌, take}
use Rattle.std.specs.Prelude.{slice_index_or, not}
use Rattle.std.specs.List.{list_any}
use Rattle.image_check.specs.Targets.{is_inside}
use Rattle.image_check.proofs.target.entrances.Given as goal

abbrev pub invariant-loop-site : goal.invariant-loop-site
invariant-loop-site l = (k : ℕ)
    → slice_index_or l.flags.items k false ≡ (slice_index_or l.starts k false && not (list_any (is_inside k) (take l.site-index l.sites)))
