use Rattle.std.proofs.Common.{◌≤◌, List, ℕ, length, ap, subst, arith}
use Rattle.shadow_tables.specs.Entries.{entries_of}
use Rattle.step_mem.specs.Changes.{changed}
use Rattle.wedge_mem.proofs.Lists.{used-few}
use Rattle.wedge_mem.proofs.Visited.{used-visited}
use Rattle.wedge_mem.proofs.pages.lacks_frames.Goals as goal

pub returns-then-as_slice-free-clause-enough : goal.returns-then-as_slice-free-clause-enough
returns-then-as_slice-free-clause-enough g c = λ _.
    let st = c.args.state.now in
    let set = changed (entries_of (g.S.Shadows.slots c.args.shadows.now c.args.ram.now)) st.changes in
    let same = used-visited set st.visited st.changes c.requires.told in
    let few = used-few set st.visited in
    let list = ap (λ (xs : List ℕ). length xs) c.as_slice.ensures in
    let test = c.if-as_slice-free.true in
    omega (arith, same, few, list, test)
