use Rattle.std.proofs.Common.{ℕ, ◌+◌, ◌*◌, arith}
use Rattle.shadow_tables.proofs.Sweeps.{sweeps-none}
use Rattle.shadow_tables.proofs.Bars.{without, bars-more, bars-over}
use Rattle.shadow_tables.proofs.shadow.Shadow.bar_dir.Goals as goal

pub loop-word-init : goal.loop-word-init
loop-word-init c =
    let s = c.args.self.now in let m = c.args.ram.now in let first : ℕ = 1024 * c.args.index in
    let e = c.next_to_bar-word.ensures in
    record {
      swept = bars-over s m m first first (first + c.next_to_bar-word.result) c.args.frame (omega arith) (omega arith)
          (sweeps-none s m first (without s m c.args.frame) c.requires.shadow)
          (λ page l low high. e.none page l (omega (arith, low)) high);
      within = e.within;
    }

pub loop-word-preserved : goal.loop-word-preserved
loop-word-preserved c =
    let s = c.args.self.now in let m = c.args.ram.now in let first : ℕ = 1024 * c.args.index in
    let l = c.loop-word in let n = c.bar_page.new.ram in
    let e = c.bar_page.ensures in
    let next = c.next_to_bar-word-in-loop-word.ensures in
    let behind = next.behind in
    record {
      swept = bars-over s m n first (first + l.word + 1) (first + c.next_to_bar-word-in-loop-word.result) c.args.frame (omega arith)
          (omega (arith, behind))
          (bars-more s m l.ram n first (first + l.word) c.args.frame (omega arith) (omega arith) l.invariant.swept e.becomes
          e.held e.memory e.tables)
          (λ page lt low high. next.none page lt (omega (arith, low)) high);
      within = next.within;
    }
