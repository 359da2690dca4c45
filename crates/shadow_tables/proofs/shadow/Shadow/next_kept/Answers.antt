use Rattle.std.proofs.Common.{◌≡◌, ℕ, ◌≤◌, ◌<◌, sym, ap, ◌∙◌, subst}
use Rattle.shadow_views.specs.Tables.{dir, by_dir, IsView}
use Rattle.shadow_views.proofs.Changes.{IsView-from_Holds}
use Rattle.shadow_tables.specs.Slots.{roots}
use Rattle.shadow_tables.specs.Laws.Views.{in-kernel, in-user}
use Rattle.shadow_tables.proofs.Fills.{slot-none}
use Rattle.shadow_tables.proofs.Bars.{table-lies, word-none}
use Rattle.shadow_tables.proofs.shadow.Shadow.next_kept.Goals as goal

pub dir-kernel-requires-clause-view : goal.dir-kernel-requires-clause-view
dir-kernel-requires-clause-view c =
    let s = c.args.self.now in
    subst (IsView c.args.ram.now) (sym c.root.ensures)
    (IsView-from_Holds c.args.ram.now (roots s) s.kernel c.requires.shadow.holds (in-kernel s))

pub dir-user-requires-clause-view : goal.dir-user-requires-clause-view
dir-user-requires-clause-view c =
    let s = c.args.self.now in
    subst (IsView c.args.ram.now) (sym c.root-2.ensures)
    (IsView-from_Holds c.args.ram.now (roots s) s.user c.requires.shadow.holds (in-user s))

pub next_word-requires-clause-kernel : goal.next_word-requires-clause-kernel
next_word-requires-clause-kernel c =
    let s = c.args.self.now in
    table-lies c.args.ram.now s.kernel c.args.index c.dir-kernel.result
    (IsView-from_Holds c.args.ram.now (roots s) s.kernel c.requires.shadow.holds (in-kernel s))
    c.requires.index (c.dir-kernel.ensures ∙ ap (λ r. dir c.args.ram.now r c.args.index) c.root.ensures)

pub next_word-requires-clause-user : goal.next_word-requires-clause-user
next_word-requires-clause-user c =
    let s = c.args.self.now in
    table-lies c.args.ram.now s.user c.args.index c.dir-user.result
    (IsView-from_Holds c.args.ram.now (roots s) s.user c.requires.shadow.holds (in-user s))
    c.requires.index (c.dir-user.ensures ∙ ap (λ r. dir c.args.ram.now r c.args.index) c.root-2.ensures)

pub returns-clause-none : goal.returns-clause-none
returns-clause-none c = λ page l low high.
    let s = c.args.self.now in let m = c.args.ram.now in let index = c.args.index in let next = c.next_word.result in
    let kernel : c.dir-kernel.result ≡ dir m s.kernel index = c.dir-kernel.ensures ∙ ap (λ r. dir m r index) c.root.ensures in
    let user : c.dir-user.result ≡ dir m s.user index = c.dir-user.ensures ∙ ap (λ r. dir m r index) c.root-2.ensures in
    slot-none s m page
    (word-none m s.kernel index c.args.from next c.next_word.ensures.within
    (subst (λ d. (i : ℕ) → c.args.from ≤ i → i < next → by_dir m d i ≡ 0) kernel c.next_word.ensures.kernel) page low high)
    (word-none m s.user index c.args.from next c.next_word.ensures.within
    (subst (λ d. (i : ℕ) → c.args.from ≤ i → i < next → by_dir m d i ≡ 0) user c.next_word.ensures.user) page low high)
