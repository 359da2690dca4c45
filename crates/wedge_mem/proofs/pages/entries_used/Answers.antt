use Rattle.std.proofs.Common.{List, ℕ, length, sym, ap, ◌∙◌}
use Rattle.shadow_tables.specs.Entries.{entries_of}
use Rattle.step_mem.specs.Changes.{changed}
use Rattle.wedge_mem.specs.Settled.{used}
use Rattle.wedge_mem.proofs.Visited.{used-visited}
use Rattle.wedge_mem.proofs.pages.entries_used.Goals as goal

pub returns : goal.returns
returns g c =
    let st = c.args.state.now in
    let set = changed (entries_of (g.S.Shadows.slots c.args.shadows.now c.args.ram.now)) st.changes in
    c.count_used.ensures ∙ (ap (λ (xs : List ℕ). length (used set xs)) c.as_slice.ensures
    ∙ sym (used-visited set st.visited st.changes c.requires.told))
