use Rattle.std.proofs.Common.{◌≡◌, ℕ, ◌+◌, ◌*◌, None, refl, sym, ◌∙◌, subst, arith}
use Rattle.frame_pool.proofs.Held.{Moves-kept}
use Rattle.shadow_tables.specs.declared.shadow.Shadow.{Shadow}
use Rattle.shadow_tables.specs.Slots.{held, slot_at, IsShadow}
use Rattle.shadow_tables.specs.Sweeps.{Sweeps}
use Rattle.shadow_tables.specs.Laws.Entries.{entries_of-lost}
use Rattle.shadow_tables.proofs.Sweeps.{sweeps-none, sweeps-more, sweeps-over, loses-dir}
use Rattle.shadow_tables.proofs.shadow.Shadow.drop_dir.Goals as goal

pub loop-word-init : goal.loop-word-init
loop-word-init c =
    let s = c.args.self.now in let m = c.args.ram.now in let first : ℕ = 1024 * c.args.index in
    let e = c.next_kept-word.ensures in
    record {
      same = refl;
      sweeps = sweeps-over s m m first first (first + c.next_kept-word.result) (λ page. None)
          (sweeps-none s m first (λ page. None) c.requires.shadow) (omega arith) (omega arith)
          (λ page l low high. e.none page l (omega (arith, low)) high);
      within = e.within;
    }

pub drop_page-requires-clause-shadow : goal.drop_page-requires-clause-shadow
drop_page-requires-clause-shadow c =
    subst (λ s. IsShadow s c.loop-word.ram) (sym c.loop-word.invariant.same) c.loop-word.invariant.sweeps.shadow

pub next_kept-word-requires-in-loop-word-clause-shadow : goal.next_kept-word-requires-in-loop-word-clause-shadow
next_kept-word-requires-in-loop-word-clause-shadow c =
    subst (λ s. IsShadow s c.drop_page.new.ram) (sym c.drop_page.ensures.same) c.drop_page.ensures.becomes.shadow

pub loop-word-preserved : goal.loop-word-preserved
loop-word-preserved c =
    let s = c.args.self.now in let m = c.args.ram.now in let first : ℕ = 1024 * c.args.index in
    let l = c.loop-word in let n = c.drop_page.new.ram in
    let becomes = c.drop_page.ensures.becomes in
    let same = l.invariant.same in
    let step : Sweeps s m n first (first + l.word + 1) (λ page. None) =
    sweeps-more s m l.ram n first (first + l.word) (λ page. None) None (omega arith) l.invariant.sweeps
    (rw same at becomes) refl (rw same at c.drop_page.ensures.held) (rw same at c.drop_page.ensures.memory)
    (rw same at c.drop_page.ensures.tables)
    in
    let still : c.drop_page.new.self ≡ s = c.drop_page.ensures.same ∙ same in
    let next = c.next_kept-word-in-loop-word.ensures in
    let behind = next.behind in
    record {
      same = still;
      sweeps = sweeps-over s m n first (first + l.word + 1) (first + c.next_kept-word-in-loop-word.result) (λ page. None) step
          (omega (arith, behind)) (omega arith)
          (λ page lt low high.
          sym (step.others page lt (λ x y. absurd (omega (arith, y, low))))
          ∙ subst (λ (t : Shadow). slot_at t n page ≡ None) still (next.none page lt (omega (arith, low)) high));
      within = next.within;
    }

pub returns-clause-shadow : goal.returns-clause-shadow
returns-clause-shadow c = c.loop-word.invariant.sweeps.shadow

pub returns-clause-loses : goal.returns-clause-loses
returns-clause-loses c = loses-dir c.args.self.now c.args.ram.now c.loop-word.ram c.args.index (let a = c.loop-word.invariant.sweeps in
    let within = c.loop-word.invariant.within in let test =
    c.loop-word-test.false in let e : c.loop-word.word ≡ 1024 = omega (arith, within, test) in rw e at a)

pub returns-clause-entries : goal.returns-clause-entries
returns-clause-entries c =
    entries_of-lost (slot_at c.args.self.now c.args.ram.now) (slot_at c.args.self.now c.loop-word.ram) c.args.index (returns-clause-loses c)

pub returns-clause-moves : goal.returns-clause-moves
returns-clause-moves c = λ p o.
    let s = c.args.self.now in let a = c.loop-word.invariant.sweeps in
    Moves-kept p c.args.ram.now c.loop-word.ram (held s c.args.ram.now) (held s c.loop-word.ram) o a.frames a.memory
