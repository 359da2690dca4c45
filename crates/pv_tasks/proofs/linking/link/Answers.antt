use Rattle.std.proofs.Common.{ℕ, List, [], Option, refl, subst, map, string_bytes}
use Rattle.pv_io.specs.Files.{FileMap, Stores}
use Rattle.pv_tasks.specs.Linking.{link_task}
use Rattle.wedge_core.specs.Counts.{Counts}
use Rattle.pv_tasks.specs.Beside.{beside}
use Rattle.pv_tasks.proofs.Deliveries.{halts, delivered, counts_read, counts_stored, some_is_none, stored_done, not_ended}
use Rattle.pv_tasks.proofs.LinkMeanings.{is_linked}
use Rattle.pv_tasks.proofs.Faults.{ends_halted, ends_since}
use Rattle.pv_tasks.proofs.linking.link.Goals as goal

pub returns-in-Err-clause-meaning : goal.returns-in-Err-clause-meaning
returns-in-Err-clause-meaning g c = λ completed memory.
    halts _ _ (link_task c.args.image.now (map string_bytes c.args.objects.now)) _ c.end.result c.in-Err.halt
    (λ line told. told c.args.image.now) (λ held. held) c.in-Err.ensures.read.held
    refl c.in-Err.ensures.halted c.end.ensures

pub returns-in-Ok-clause-meaning : goal.returns-in-Ok-clause-meaning
returns-in-Ok-clause-meaning g c = λ completed memory.
    let read = c.in-Ok.ensures.read in
    let o = beside g.F.Files g.S.Sink (c.made.new.files, c.deliver.new.files) (c.args.out.now, c.deliver.new.out) completed memory in
    delivered (link_task c.args.image.now (map string_bytes c.args.objects.now)) o (g.F.Files.held c.args.files.now)
    (g.F.Files.sure c.args.files.now) (g.F.Files.load_faults c.args.files.now) (g.F.Files.store_faults c.args.files.now)
    c.args.image.now c.in-Ok.made.file.items c.in-Ok.made.line c.deliver.result (λ half. half) read.held read.same_sure read.same_stores
    read.later (λ same. same)
    (is_linked _ (map string_bytes c.args.objects.now) c.args.image.now c.in-Ok.made.file.items c.in-Ok.made.line c.in-Ok.ensures.made) refl
    (c.deliver.ensures.delivers completed memory)

pub returns-in-Err-clause-counts : goal.returns-in-Err-clause-counts
returns-in-Err-clause-counts g c = λ completed memory.
    counts_read g.F.Files g.S.Sink (link_task c.args.image.now (map string_bytes c.args.objects.now)) c.args.files.now c.made.new.files
    c.args.out.now c.end.new.out completed memory c.in-Err.ensures.read

pub returns-in-Ok-clause-counts : goal.returns-in-Ok-clause-counts
returns-in-Ok-clause-counts g c = λ completed memory.
    counts_stored g.F.Files g.S.Sink (link_task c.args.image.now (map string_bytes c.args.objects.now)) c.args.files.now c.made.new.files
    c.deliver.new.files c.args.out.now c.deliver.new.out completed memory (some_is_none c.args.image.now)
    c.in-Ok.ensures.read c.deliver.ensures.stored

pub returns-in-Err-clause-leaves : goal.returns-in-Err-clause-leaves
returns-in-Err-clause-leaves g c = λ done. absurd (not_ended c.in-Err.halt _ _ _ _ c.end.result c.end.ensures done)

pub returns-in-Ok-clause-leaves : goal.returns-in-Ok-clause-leaves
returns-in-Ok-clause-leaves g c =
    let made = c.in-Ok.ensures.made in
    let none : Counts = record { retired = 0; passed = 0 } in
    let o = beside g.F.Files g.S.Sink (c.made.new.files, c.deliver.new.files) (c.args.out.now, c.deliver.new.out) none [] in
    λ done. (
      made.0,
      made.1,
      subst (λ (b : List ℕ). Stores (g.F.Files.held c.args.files.now) (g.F.Files.held c.deliver.new.files) c.args.image.now b) made.2
          (subst (λ (f : Option FileMap). Stores f (g.F.Files.held c.deliver.new.files) c.args.image.now c.in-Ok.made.file.items)
          c.in-Ok.ensures.read.held
          (stored_done o c.args.image.now c.in-Ok.made.file.items c.in-Ok.made.line c.deliver.result
          (c.deliver.ensures.delivers none []) done)),
    )

pub returns-in-Err-clause-ends : goal.returns-in-Err-clause-ends
returns-in-Err-clause-ends g c =
    ends_halted g.F.Files g.S.Sink c.args.files.now c.made.new.files c.args.out.now c.end.new.out c.in-Err.halt
    (g.S.Sink.taken c.args.out.now) (g.S.Sink.taken c.end.new.out)
    c.end.result c.in-Err.ensures.kept c.in-Err.ensures.read.same_stores c.end.ensures

pub returns-in-Ok-clause-ends : goal.returns-in-Ok-clause-ends
returns-in-Ok-clause-ends g c =
    ends_since g.F.Files g.S.Sink c.args.files.now c.made.new.files c.deliver.new.files c.args.out.now c.deliver.new.out c.deliver.result
    c.in-Ok.ensures.kept c.in-Ok.ensures.read.same_stores c.deliver.ensures.ends
