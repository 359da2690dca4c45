use Rattle.std.proofs.Common.{◌≡◌, List, ℕ, Result, Ok, inl, sym, subst}
use Rattle.image_load.specs.declared.fault.RunFault.{RunFault}
use Rattle.checkpoint.specs.declared.rested.Rested.{Rested}
use Rattle.checkpoint.specs.declared.rested.Rested.TheVariants as rest
use Rattle.checkpoint.specs.States.{checkpoint_bytes, checkpoint_in}
use Rattle.pv_build.specs.declared.status.Status.TheVariants as status
use Rattle.pv_tasks.specs.Beside.{beside}
use Rattle.pv_tasks.specs.Delivery.{Delivers}
use Rattle.pv_save.specs.Leaving.{LeavesAs}
use Rattle.pv_save.proofs.saving.leave.Goals as goal

pub returns-in-Ok-At-clause-leaves : goal.returns-in-Ok-At-clause-leaves
returns-in-Ok-At-clause-leaves g c = λ completed memory.
    let state = c.in-Ok-At.state in
    let made = c.in-Ok.made in
    let name = c.args.name.now in
    let o = beside g.F.Files g.S.Sink (c.args.files.now, c.deliver.new.files) (c.args.out.now, c.deliver.new.out) completed memory in
    let is : c.args.rested ≡ Ok (rest.At state) = cc (c.in-Ok-At.is, c.in-Ok-At.field-0-is) in
    let bytes = subst (λ (b : List ℕ). Delivers name b made.line status.Done o c.deliver.result) c.in-Ok.ensures.file
    (c.deliver.ensures.delivers completed memory) in
    let done = subst (λ (l : List ℕ). Delivers name (checkpoint_bytes state) l status.Done o c.deliver.result) c.in-Ok.ensures.line bytes in
    let back = subst (λ (b : List ℕ). checkpoint_in b ≡ Ok state) c.in-Ok.ensures.file c.in-Ok.ensures.read_back in
    subst (λ (r : Result Rested RunFault). LeavesAs r name o c.deliver.result) (sym is) (inl (done, back))
