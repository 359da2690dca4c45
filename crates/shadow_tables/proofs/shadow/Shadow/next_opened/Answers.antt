use Rattle.std.proofs.Common.{◌≡◌, ◌+◌, ◌*◌, ◌/◌, sym, ap, ◌∙◌, subst, arith}
use Rattle.guest_ram.specs.Bytes.{word32}
use Rattle.shadow_views.specs.Tables.{dir, IsView}
use Rattle.shadow_views.proofs.Changes.{IsView-from_Holds}
use Rattle.shadow_views.proofs.Nones.{AreNone, NoDirs, none-dirs}
use Rattle.shadow_tables.specs.Slots.{roots}
use Rattle.shadow_tables.specs.Laws.Views.{in-kernel, in-user}
use Rattle.shadow_tables.proofs.Bars.{dirs-none}
use Rattle.shadow_tables.proofs.shadow.Shadow.next_opened.Goals as goal

pub next_pair_in-requires-clause-first : goal.next_pair_in-requires-clause-first
next_pair_in-requires-clause-first c =
    let s = c.args.self.now in
    (subst (IsView c.args.ram.now) (sym c.root-kernel.ensures)
    (IsView-from_Holds c.args.ram.now (roots s) s.kernel c.requires.shadow.holds (in-kernel s))).root

pub next_pair_in-requires-clause-second : goal.next_pair_in-requires-clause-second
next_pair_in-requires-clause-second c =
    let s = c.args.self.now in
    (subst (IsView c.args.ram.now) (sym c.root-user.ensures)
    (IsView-from_Holds c.args.ram.now (roots s) s.user c.requires.shadow.holds (in-user s))).root

pub returns-clause-none : goal.returns-clause-none
returns-clause-none c = λ page l low high.
    let s = c.args.self.now in let m = c.args.ram.now in let first = c.args.from in let pair = c.next_pair_in.result in
    let most = c.max.ensures in
    let kernel : NoDirs m s.kernel (2 * (first / 2)) (2 * pair) =
    none-dirs m s.kernel (2 * (first / 2)) (2 * pair)
    (subst (λ r. AreNone m r (2 * (first / 2)) (2 * pair)) c.root-kernel.ensures c.next_pair_in.ensures.first)
    in
    let user : NoDirs m s.user (2 * (first / 2)) (2 * pair) =
    none-dirs m s.user (2 * (first / 2)) (2 * pair)
    (subst (λ r. AreNone m r (2 * (first / 2)) (2 * pair)) c.root-user.ensures c.next_pair_in.ensures.second)
    in
    dirs-none s m first c.max.result
    (λ j a b. kernel j (omega (arith, a)) (omega (arith, a, b, most)))
    (λ j a b. user j (omega (arith, a)) (omega (arith, a, b, most)))
    page l low high

pub returns-clause-found : goal.returns-clause-found
unfolding dir
returns-clause-found c = λ few none.
    let s = c.args.self.now in let m = c.args.ram.now in let pair = c.next_pair_in.result in
    let behind = c.next_pair_in.ensures.behind in
    let most = c.max.ensures in
    let kernel = c.root-kernel.ensures in
    let user = c.root-user.ensures in
    c.next_pair_in.ensures.found (omega (arith, few, most))
    (λ k l.
    let both = none (2 * pair + k) (omega (arith, behind, few, most, l)) in
    let first : 4096 * c.root-kernel.result + 8 * pair + 4 * k ≡ 4096 * s.kernel + 4 * (2 * pair + k) = omega (arith, kernel) in
    let second : 4096 * c.root-user.result + 8 * pair + 4 * k ≡ 4096 * s.user + 4 * (2 * pair + k) = omega (arith, user) in
    (ap (word32 m) first ∙ both.0, ap (word32 m) second ∙ both.1))
