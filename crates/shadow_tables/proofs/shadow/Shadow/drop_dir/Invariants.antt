use Rattle.std.proofs.Common.{◌≡◌, ◌+◌, ◌-◌, ◌*◌, ◌≤◌, None}
use Rattle.shadow_tables.specs.Sweeps.{Sweeps}
use Rattle.shadow_tables.proofs.shadow.Shadow.drop_dir.Given as goal

abbrev pub invariant-loop-word : goal.invariant-loop-word
invariant-loop-word l = record {
  same : l.self ≡ l.fn.self;
  sweeps : Sweeps l.fn.self l.fn.ram l.ram (1024 * l.index) (1024 * l.index + l.word) (λ page. None);
  within : l.word ≤ 1024;
}

abbrev pub decreases-loop-word : goal.decreases-loop-word
decreases-loop-word l = 1024 - l.word
