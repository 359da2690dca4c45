use Rattle.std.proofs.lemmas.Result.{IfOk-from_err}
use Rattle.std.proofs.Common.{◌≡◌, ℕ, List, [], ◌∷◌, ◌++◌, replicate, sym, ap, ◌∙◌, append_assoc, arith}
use Rattle.std.proofs.lemmas.List.{append-nil, replicate-append-replicate}
use Rattle.elf_link.proofs.linking.put_padded.Goals as goal

pub returns : goal.returns
returns c =
    let end : c.loop-i._i ≡ c.pad-i-end.result = omega (arith, c.loop-i-test.false, c.loop-i.auto._i-end) in
    c.loop-i.invariant ∙ append_assoc c.args.out.now.items c.args.bytes.now (replicate c.loop-i._i c.args.fill)
    ∙ ap (λ (n : ℕ). c.args.out.now.items ++ (c.args.bytes.now ++ replicate n c.args.fill)) (end ∙ c.pad-i-end.ensures.pad)

pub loop-i-init : goal.loop-i-init
loop-i-init c = c.in_ok-extend_from_slice.ensures.items ∙ sym (append-nil (c.args.out.now.items ++ c.args.bytes.now))

pub loop-i-preserved : goal.loop-i-preserved
loop-i-preserved c =
    let done = c.args.out.now.items ++ c.args.bytes.now in
    c.in_ok-push.ensures.items ∙ ap (λ (bytes : List ℕ). bytes ++ c.args.fill ∷ []) c.loop-i.invariant
    ∙ append_assoc done (replicate c.loop-i._i c.args.fill) (c.args.fill ∷ [])
    ∙ ap (λ (bytes : List ℕ). done ++ bytes) (replicate-append-replicate c.loop-i._i 1 c.args.fill)

pub pad-i-end-requires : goal.pad-i-end-requires
pad-i-end-requires c = c.requires.0

pub returns-in_err-push : goal.returns-in_err-push
returns-in_err-push c = IfOk-from_err c.from_residual-in_err-push.result _ c.from_residual-in_err-push.ensures.0

pub returns-in_err-extend_from_slice : goal.returns-in_err-extend_from_slice
returns-in_err-extend_from_slice c = IfOk-from_err c.from_residual.result _ c.from_residual.ensures.0
