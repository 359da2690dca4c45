use Rattle.std.proofs.Common.{◌≡◌, ℕ, ◌<◌, ◌≤◌, List, length, get_or, Option, None, Some, slice_get, sym, ap, ◌∙◌}
use Rattle.std.proofs.lemmas.Option.{slice_get-get_or, slice_get_past}
use Rattle.elf_form.specs.ObjectParts.{ObjectParts}
use Rattle.elf_form.specs.declared.object.Symbol.{Symbol}
use Rattle.elf_link.specs.declared.base.Base.{Base}
use Rattle.elf_link.specs.Symbols.{address}
use Rattle.elf_link.specs.Relocations.{address_by, target_by}
use Rattle.elf_link.proofs.relocations.named_address.Goals as goal

-- the symbol that was read is the relocation's
named : (xs ys : List Symbol) (i : ℕ) (s : Symbol) → xs ≡ ys → i < length xs → s ≡ get_or xs i s → Some s ≡ slice_get ys i
named xs ys i s e lt is = ap Some is ∙ (sym (slice_get-get_or xs i s lt) ∙ ap (λ (zs : List Symbol). slice_get zs i) e)

past : (xs ys : List Symbol) (i : ℕ) → xs ≡ ys → length xs ≤ i → None ≡ slice_get ys i
past xs ys i e le = sym (slice_get_past xs i le) ∙ ap (λ (zs : List Symbol). slice_get zs i) e

pub returns-in-None : goal.returns-in-None
returns-in-None c =
    let symbols : c.deref.result.now ≡ c.args.object.now.symbols =
    c.deref.ensures.value ∙ ap (λ (o : ObjectParts). o.symbols) c.object.view_is in
    ap (λ (s : Option Symbol). address_by c.args.plan.now.bases.items (target_by c.args.plan.now.globals c.args.number s))
    (past c.deref.result.now c.args.object.now.symbols c.args.reloc.symbol symbols c.in-None.ensures.lookup.3)

pub returns-in-None-target_of : goal.returns-in-None-target_of
returns-in-None-target_of c =
    let symbols : c.deref.result.now ≡ c.args.object.now.symbols =
    c.deref.ensures.value ∙ ap (λ (o : ObjectParts). o.symbols) c.object.view_is in
    let is = named c.deref.result.now c.args.object.now.symbols c.args.reloc.symbol c.in-Some.symbol.now symbols
    c.in-Some.ensures.lookup.3.0 c.in-Some.ensures.lookup.1 in
    ap (address_by c.args.plan.now.bases.items) (c.in-None-target_of.ensures ∙ ap (target_by c.args.plan.now.globals c.args.number) is)

pub returns-in-Some-target_of : goal.returns-in-Some-target_of
returns-in-Some-target_of c =
    let symbols : c.deref.result.now ≡ c.args.object.now.symbols =
    c.deref.ensures.value ∙ ap (λ (o : ObjectParts). o.symbols) c.object.view_is in
    let is = named c.deref.result.now c.args.object.now.symbols c.args.reloc.symbol c.in-Some.symbol.now symbols
    c.in-Some.ensures.lookup.3.0 c.in-Some.ensures.lookup.1 in
    c.address.ensures ∙ (ap (λ (bs : List Base). address bs c.in-Some-target_of.target) c.deref-in-Some-target_of.ensures.value
    ∙ ap (address_by c.args.plan.now.bases.items) (c.in-Some-target_of.ensures ∙ ap (target_by c.args.plan.now.globals c.args.number) is))
