use Rattle.std.proofs.Common.{◌≡◌, ◌+◌, ℕ, List, [], ◌∷◌, ◌++◌, length, map, take, drop, suc, string_bytes, Option, sym, ap, subst, ◌∙◌, arith, add-one, length-append}
use Rattle.std.specs.Prelude.{All}
use Rattle.elf_form.specs.Linkable.{IsLinkable}
use Rattle.std.proofs.lemmas.Result.{err_from_is_err_and}
use Rattle.pv_io.specs.Files.{FileMap}
use Rattle.elf_form.specs.ObjectParts.{ObjectParts}
use Rattle.pv_build.specs.Objects.{HasObject, HasNoObject, HasObjects, FirstFault}
use Rattle.pv_build.proofs.Halts.{halts_as, halts_since}
use Rattle.pv_build.proofs.Failures.{none_since}
use Rattle.pv_build.proofs.Readings.{read_on}
use Rattle.pv_build.proofs.Objects.{one_more, first_fault, split_at, taken_on, taken_length, found_next, all_more}
use Rattle.pv_build.proofs.object.objects_in.Goals as goal

pub returns-in_err-object-clause-halted : goal.returns-in_err-object-clause-halted
returns-in_err-object-clause-halted g c =
    let p = err_from_is_err_and c.from_residual.result c.from_residual.ensures.1 in
    let before = map string_bytes (take c.loop-i.i c.args.names.now) in
    let later = map string_bytes (drop (suc c.loop-i.i) c.args.names.now) in
    let name = c.as_str.result.now in
    let now_is : map string_bytes c.args.names.now ≡ before ++ name ∷ later =
    split_at string_bytes c.args.names.now c.loop-i.i c.index-names-i.result c.loop-i-test.true c.index-names-i.is
    ∙ ap (λ (n : List ℕ). before ++ n ∷ later) (sym c.as_str.ensures.value) in
    let count : length before ≡ c.loop-i.i = taken_length string_bytes c.args.names.now c.loop-i.i c.loop-i-test.true in
    let read = c.loop-i.invariant.read in
    rw (p.1, p.2)
    (halts_since _ _ (g.F.Files.sure c.args.files.now) (g.F.Files.sure c.loop-i.files) (g.F.Files.load_faults c.args.files.now)
    (g.F.Files.load_faults c.loop-i.files) _ c.in_err-object.field-0.0 read.same_sure read.later
    (halts_as _ _ _ _ _ _ _ c.in_err-object.field-0.0
    (λ line told. (
      c.loop-i.i,
      told.0,
      subst (λ (l : List (List ℕ)). FirstFault (g.F.Files.held c.args.files.now) l c.loop-i.i told.0) (sym now_is)
          (subst (λ (n : ℕ). FirstFault (g.F.Files.held c.args.files.now) (before ++ name ∷ later) n told.0) count
          (first_fault (g.F.Files.held c.args.files.now) before c.loop-i.objects.items name later told.0 c.loop-i.invariant.objects
          (subst (λ (f : Option FileMap). HasNoObject f name told.0) read.held told.1))),
      told.2,
    ))
    (found_next string_bytes (g.F.Files.held c.args.files.now) (g.F.Files.held c.loop-i.files) c.args.names.now c.loop-i.i
    c.index-names-i.result c.as_str.result.now c.loop-i.objects.items
    c.loop-i-test.true c.index-names-i.is c.as_str.ensures.value c.loop-i.invariant.read.held c.loop-i.invariant.objects)
    c.in_err-object.ensures.halted))

pub returns-in_err-object-clause-read : goal.returns-in_err-object-clause-read
returns-in_err-object-clause-read g c =
    read_on _ _ _ _ _ _ c.loop-i.invariant.read c.in_err-object.ensures.read
    (found_next string_bytes (g.F.Files.held c.args.files.now) (g.F.Files.held c.loop-i.files) c.args.names.now c.loop-i.i
    c.index-names-i.result c.as_str.result.now c.loop-i.objects.items
    c.loop-i-test.true c.index-names-i.is c.as_str.ensures.value c.loop-i.invariant.read.held c.loop-i.invariant.objects)

pub returns-in_err-push-clause-read : goal.returns-in_err-push-clause-read
returns-in_err-push-clause-read g c =
    read_on _ _ _ _ _ _ c.loop-i.invariant.read c.in_ok-object.ensures.read
    (found_next string_bytes (g.F.Files.held c.args.files.now) (g.F.Files.held c.loop-i.files) c.args.names.now c.loop-i.i
    c.index-names-i.result c.as_str.result.now c.loop-i.objects.items
    c.loop-i-test.true c.index-names-i.is c.as_str.ensures.value c.loop-i.invariant.read.held c.loop-i.invariant.objects)

pub loop-i-preserved : goal.loop-i-preserved
loop-i-preserved g c =
    let before = map string_bytes (take c.loop-i.i c.args.names.now) in
    let name = c.as_str.result.now in
    let read = c.loop-i.invariant.read in
    let names_are : map string_bytes (take (c.loop-i.i + 1) c.args.names.now) ≡ before ++ name ∷ [] =
    rw add-one (taken_on string_bytes c.args.names.now c.loop-i.i c.index-names-i.result c.loop-i-test.true c.index-names-i.is
    ∙ ap (λ (n : List ℕ). before ++ n ∷ []) (sym c.as_str.ensures.value)) in
    let objects =
    one_more (g.F.Files.held c.args.files.now) before c.loop-i.objects.items name c.in_ok-object.object c.loop-i.invariant.objects
    (subst (λ (f : Option FileMap). HasObject f name c.in_ok-object.object) read.held c.in_ok-object.ensures.object) in
    record {
      kept = c.in_ok-object.ensures.kept ∙ c.loop-i.invariant.kept;
      objects = subst (λ (l : List (List ℕ)). HasObjects (g.F.Files.held c.args.files.now) l c.push.new.self.items) (sym names_are)
          (subst (λ (os : List ObjectParts). HasObjects (g.F.Files.held c.args.files.now) (before ++ name ∷ []) os)
          (sym c.in_ok-push.ensures.items) objects);
      linkable = subst (λ (os : List ObjectParts). All IsLinkable os) (sym c.in_ok-push.ensures.items)
          (all_more IsLinkable c.loop-i.objects.items c.in_ok-object.object c.loop-i.invariant.linkable c.in_ok-object.ensures.linkable);
      count = let e = simp length-append at (ap length c.in_ok-push.ensures.items) in omega (arith, e, c.loop-i.invariant.count);
      read = read_on _ _ _ _ _ _ read c.in_ok-object.ensures.read
          (found_next string_bytes (g.F.Files.held c.args.files.now) (g.F.Files.held c.loop-i.files) c.args.names.now c.loop-i.i
          c.index-names-i.result c.as_str.result.now c.loop-i.objects.items
          c.loop-i-test.true c.index-names-i.is c.as_str.ensures.value c.loop-i.invariant.read.held c.loop-i.invariant.objects);
    }

pub returns-in_err-object-clause-kept : goal.returns-in_err-object-clause-kept
returns-in_err-object-clause-kept g c =
    let p = err_from_is_err_and c.from_residual.result c.from_residual.ensures.1 in
    rw (p.1, p.2) (none_since _ _ _ c.in_err-object.field-0.0 c.loop-i.invariant.kept c.in_err-object.ensures.kept)
