use Rattle.std.proofs.Common.{rules}
use Rattle.sys_exec.proofs.segment.data_loading.Goals as goal

pub returns-then-not-present : goal.returns-then-not-present
returns-then-not-present g c = search rules

pub returns-else-not-present : goal.returns-else-not-present
returns-else-not-present g c = search rules
