use Rattle.std.proofs.Common.{◌≡◌, ◌≢◌, ℕ, ◌+◌, ◌*◌, ◌≤◌, ◌<◌, ◌⊎◌, inl, inr, sym, ap, ◌∙◌, subst, arith}
use Rattle.std.proofs.lemmas.Bool.{cases_lt}
use Rattle.shadow_views.specs.Tables.{dir, by_dir, IsView}
use Rattle.shadow_views.proofs.Changes.{IsView-from_Holds}
use Rattle.shadow_tables.specs.Slots.{barred_word, roots}
use Rattle.shadow_tables.specs.Laws.Views.{in-kernel, in-user}
use Rattle.shadow_tables.proofs.Bars.{page-still, page-turns, table-lies, word-still, word-turns}
use Rattle.shadow_tables.proofs.shadow.Shadow.next_to_bar.Goals as goal

pub dir-kernel-requires-clause-view : goal.dir-kernel-requires-clause-view
dir-kernel-requires-clause-view c =
    let s = c.args.self.now in
    subst (IsView c.args.ram.now) (sym c.root.ensures)
    (IsView-from_Holds c.args.ram.now (roots s) s.kernel c.requires.shadow.holds (in-kernel s))

pub dir-user-requires-clause-view : goal.dir-user-requires-clause-view
dir-user-requires-clause-view c =
    let s = c.args.self.now in
    subst (IsView c.args.ram.now) (sym c.root-2.ensures)
    (IsView-from_Holds c.args.ram.now (roots s) s.user c.requires.shadow.holds (in-user s))

pub next_giving-requires-clause-lies : goal.next_giving-requires-clause-lies
next_giving-requires-clause-lies c =
    let s = c.args.self.now in
    table-lies c.args.ram.now s.kernel c.args.index c.dir-kernel.result
    (IsView-from_Holds c.args.ram.now (roots s) s.kernel c.requires.shadow.holds (in-kernel s))
    c.requires.index (c.dir-kernel.ensures ∙ ap (λ r. dir c.args.ram.now r c.args.index) c.root.ensures)

pub next_giving-requires-2-clause-lies : goal.next_giving-requires-2-clause-lies
next_giving-requires-2-clause-lies c =
    let s = c.args.self.now in
    table-lies c.args.ram.now s.user c.args.index c.dir-user.result
    (IsView-from_Holds c.args.ram.now (roots s) s.user c.requires.shadow.holds (in-user s))
    c.requires.index (c.dir-user.ensures ∙ ap (λ r. dir c.args.ram.now r c.args.index) c.root-2.ensures)

pub returns-clause-none : goal.returns-clause-none
returns-clause-none c = λ page l low high.
    let s = c.args.self.now in let m = c.args.ram.now in let index = c.args.index in let frame = c.args.frame in
    let kernel : c.dir-kernel.result ≡ dir m s.kernel index = c.dir-kernel.ensures ∙ ap (λ r. dir m r index) c.root.ensures in
    let user : c.dir-user.result ≡ dir m s.user index = c.dir-user.ensures ∙ ap (λ r. dir m r index) c.root-2.ensures in
    let least = c.min.ensures in
    page-still s m page frame c.requires.shadow l
    (word-still m s.kernel index frame c.args.from c.next_giving.result c.next_giving.ensures.within
    (subst (λ d. (i : ℕ) → c.args.from ≤ i → i < c.next_giving.result → barred_word frame (by_dir m d i) ≡ by_dir m d i) kernel
    c.next_giving.ensures.none)
    page low (omega (arith, high, least)))
    (word-still m s.user index frame c.args.from c.next_giving-2.result c.next_giving-2.ensures.within
    (subst (λ d. (i : ℕ) → c.args.from ≤ i → i < c.next_giving-2.result → barred_word frame (by_dir m d i) ≡ by_dir m d i) user
    c.next_giving-2.ensures.none)
    page low (omega (arith, high, least)))

pub returns-clause-found : goal.returns-clause-found
returns-clause-found c = λ few.
    let s = c.args.self.now in let m = c.args.ram.now in let index = c.args.index in let frame = c.args.frame in
    let result = c.min.result in
    let kernel : c.dir-kernel.result ≡ dir m s.kernel index = c.dir-kernel.ensures ∙ ap (λ r. dir m r index) c.root.ensures in
    let user : c.dir-user.result ≡ dir m s.user index = c.dir-user.ensures ∙ ap (λ r. dir m r index) c.root-2.ensures in
    let least = c.min.ensures in let in-range = c.requires.index in
    page-turns s m (1024 * index + result) frame c.requires.shadow (omega (arith, few, in-range))
    (elim (cases_lt c.next_giving.result c.next_giving-2.result) [
      | inl b ↦ let e : result ≡ c.next_giving.result = omega (arith, least, b) in inl (word-turns m s.kernel index frame result few
          (subst (λ d. barred_word frame (by_dir m d result) ≢ by_dir m d result) kernel
          (subst (λ i. barred_word frame (by_dir m c.dir-kernel.result i) ≢ by_dir m c.dir-kernel.result i) (sym e)
          (c.next_giving.ensures.found (omega (arith, few, e))))))
      | inr b ↦ let e : result ≡ c.next_giving-2.result = omega (arith, least, b) in inr (word-turns m s.user index frame result few
          (subst (λ d. barred_word frame (by_dir m d result) ≢ by_dir m d result) user
          (subst (λ i. barred_word frame (by_dir m c.dir-user.result i) ≢ by_dir m c.dir-user.result i) (sym e)
          (c.next_giving-2.ensures.found (omega (arith, few, e))))))
    ])
