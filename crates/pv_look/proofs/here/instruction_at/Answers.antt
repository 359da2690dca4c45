use Rattle.std.proofs.Common.{ℕ, List, drop, subst, ap, ◌∙◌, inl, inr}
use Rattle.pv_look.specs.declared.here.Here.{Here}
use Rattle.pv_look.specs.Here.{swept}
use Rattle.pv_look.proofs.Sweeps.{Says, begins_there, goes_on, stands}
use Rattle.ia32_decode.specs.declared.answer.Decoded.TheVariants as answer
use Rattle.pv_look.proofs.here.instruction_at.Goals as goal

pub unreachable-requires : goal.unreachable-requires
unreachable-requires c =
    let r = c.requires.reached in
    let says = subst (λ (t : List ℕ). Says c.decode.result t) (c.rest_of.ensures ∙ ap (drop c.args.at) c.text.ensures.text)
    c.decode.ensures.insn in
    let there = begins_there c.args.image.now.text c.args.at r.0 r.1 c.decode.result r.2 c.requires.inside says in
    elim c.in-Short.is [ inl is ↦ cc (is, there.2) | inr is ↦ cc (is, there.2) ]

pub returns-clause-next : goal.returns-clause-next
returns-clause-next c =
    goes_on c.args.image.now.text c.args.at c.in-Insn.insn c.in-Insn.len c.requires.inside
    (subst (λ (t : List ℕ). Says (answer.Insn c.in-Insn.insn c.in-Insn.len) t) (c.rest_of.ensures ∙ ap (drop c.args.at) c.text.ensures.text)
    c.in-Insn.ensures.insn)

pub returns-clause-some : goal.returns-clause-some
returns-clause-some c =
    let r = c.requires.reached in
    let h : Here = record { at = c.args.at; len = c.in-Insn.len; insn = c.in-Insn.insn } in
    let g = goes_on c.args.image.now.text c.args.at c.in-Insn.insn c.in-Insn.len c.requires.inside
    (subst (λ (t : List ℕ). Says (answer.Insn c.in-Insn.insn c.in-Insn.len) t) (c.rest_of.ensures ∙ ap (drop c.args.at) c.text.ensures.text)
    c.in-Insn.ensures.insn) r.0 r.1 r.2 in
    (c.outside_sites.ensures.room c.args.image.now c.accepted.ensures (swept h) (stands c.args.image.now.text h c.args.at r.0 r.1 r.2 g)).0

pub returns-clause-few : goal.returns-clause-few
returns-clause-few c =
    let r = c.requires.reached in
    let h : Here = record { at = c.args.at; len = c.in-Insn.len; insn = c.in-Insn.insn } in
    let g = goes_on c.args.image.now.text c.args.at c.in-Insn.insn c.in-Insn.len c.requires.inside
    (subst (λ (t : List ℕ). Says (answer.Insn c.in-Insn.insn c.in-Insn.len) t) (c.rest_of.ensures ∙ ap (drop c.args.at) c.text.ensures.text)
    c.in-Insn.ensures.insn) r.0 r.1 r.2 in
    (c.outside_sites.ensures.room c.args.image.now c.accepted.ensures (swept h) (stands c.args.image.now.text h c.args.at r.0 r.1 r.2 g)).1

pub returns-clause-within : goal.returns-clause-within
returns-clause-within c =
    let r = c.requires.reached in
    let h : Here = record { at = c.args.at; len = c.in-Insn.len; insn = c.in-Insn.insn } in
    let g = goes_on c.args.image.now.text c.args.at c.in-Insn.insn c.in-Insn.len c.requires.inside
    (subst (λ (t : List ℕ). Says (answer.Insn c.in-Insn.insn c.in-Insn.len) t) (c.rest_of.ensures ∙ ap (drop c.args.at) c.text.ensures.text)
    c.in-Insn.ensures.insn) r.0 r.1 r.2 in
    (c.outside_sites.ensures.room c.args.image.now c.accepted.ensures (swept h) (stands c.args.image.now.text h c.args.at r.0 r.1 r.2 g)).2
