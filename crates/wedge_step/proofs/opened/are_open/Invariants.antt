use Rattle.std.proofs.Common.{◌≡◌, ℕ, take, true}
use Rattle.std.specs.FinMap.{get}
use Rattle.shadow_tables.specs.Entries.{entries_of}
use Rattle.guest_ram.specs.Among.{is_among}
use Rattle.step_mem.specs.Changes.{changed}
use Rattle.wedge_step.specs.Opened.{is_entry_open}
use Rattle.wedge_step.proofs.opened.are_open.Given as goal

abbrev pub invariant-loop-page : goal.invariant-loop-page
invariant-loop-page g l = (page : ℕ) → is_among page (take l.page-index l.page-items) ≡ true
    → is_entry_open l.count l.side (get (changed (entries_of (g.S.Shadows.slots l.shadows l.ram)) l.state.changes) page) ≡ true
