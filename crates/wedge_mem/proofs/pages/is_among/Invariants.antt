use Rattle.std.proofs.Common.{◌≡◌, drop}
use Rattle.guest_ram.specs.Among.{is_among}
use Rattle.wedge_mem.proofs.pages.is_among.Given as goal

abbrev pub invariant-loop-other : goal.invariant-loop-other
invariant-loop-other l = is_among l.page l.pages ≡ is_among l.page (drop l.other-index l.pages)
