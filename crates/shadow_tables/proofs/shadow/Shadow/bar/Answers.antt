use Rattle.std.proofs.Common.{◌+◌, ◌*◌, arith}
use Rattle.shadow_tables.proofs.Sweeps.{sweeps-none}
use Rattle.shadow_tables.proofs.Bars.{without, bars-over, bars-trans, none-without}
use Rattle.shadow_tables.proofs.shadow.Shadow.bar.Goals as goal

pub loop-index-init : goal.loop-index-init
loop-index-init c =
    let s = c.args.self.now in let m = c.args.ram.now in let e = c.next_opened-index.ensures in
    record {
      swept = bars-over s m m 0 0 (1024 * c.next_opened-index.result) c.args.frame (omega arith) (omega arith)
          (sweeps-none s m 0 (without s m c.args.frame) c.requires.shadow)
          (λ page l low high. none-without s m c.args.frame page (e.none page l (omega (arith, low)) high));
      within = e.within;
    }

pub loop-index-preserved : goal.loop-index-preserved
loop-index-preserved c =
    let s = c.args.self.now in let m = c.args.ram.now in
    let l = c.loop-index in let n = c.bar_dir.new.ram in
    let e = c.next_opened-index-in-loop-index.ensures in
    let behind = e.behind in
    record {
      swept = bars-over s m n 0 (1024 * l.index + 1024) (1024 * c.next_opened-index-in-loop-index.result) c.args.frame (omega arith)
          (omega (arith, behind))
          (bars-trans s m l.ram n 0 (1024 * l.index) (1024 * l.index + 1024) c.args.frame (omega arith) (omega arith)
          l.invariant.swept c.bar_dir.ensures)
          (λ page lt low high. none-without s n c.args.frame page (e.none page lt (omega (arith, low)) high));
      within = e.within;
    }

pub returns-clause-loses : goal.returns-clause-loses
returns-clause-loses c = λ page h.
    let within = c.loop-index.invariant.within in let test = c.loop-index-test.false in
    c.loop-index.invariant.swept.there page h (omega arith) (omega (arith, h, within, test))
