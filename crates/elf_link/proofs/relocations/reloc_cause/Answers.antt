use Rattle.std.proofs.Common.{◌≡◌, ℕ, ◌&&◌, Bool, true, false, not, cond, List, length, get_or, Option, None, Some, slice_get, refl, sym, ap, ◌∙◌}
use Rattle.std.proofs.lemmas.Option.{slice_get_read}
use Rattle.elf_form.specs.ObjectParts.{ObjectParts}
use Rattle.elf_form.specs.declared.object.Reloc.{Reloc}
use Rattle.elf_form.specs.declared.object.Symbol.{Symbol}
use Rattle.elf_link.specs.declared.fault.LinkCause.{LinkCause}
use Rattle.elf_link.specs.declared.fault.LinkCause.TheVariants.{NotText}
use Rattle.elf_link.specs.declared.target.Target.{Target}
use Rattle.elf_link.specs.Symbols.{is_text, target_of}
use Rattle.elf_link.specs.Relocations.{reloc_cause, symbol_cause, target_cause}
use Rattle.elf_link.proofs.relocations.reloc_cause.Goals as goal
use Rattle.elf_link.proofs.relocations.reloc_cause.Goals.{else-reloc-via-then-reloc+then-reloc-2+else-not-is_text, else-reloc-via-then-reloc+else-reloc-2, else-reloc-via-else-reloc}

-- the cause by what the symbol stands for
caused : (gs : List (List ℕ × Target)) (i : ℕ) (o : ObjectParts) (r : Reloc) (s : Symbol) (found : Option Target)
    → slice_get o.symbols r.symbol ≡ Some s → found ≡ target_of gs i s → target_cause r s found ≡ reloc_cause gs (i, o) r
unfolding reloc_cause
caused gs i o r s found at is = ap (target_cause r s) is ∙ ap (symbol_cause gs i r) (sym at)

-- and by the three tests
tests_are : (r : Reloc) (t : Target) (s : Symbol) (a b d : Bool) → r.in_text ≡ a → r.relative ≡ b → is_text t.place ≡ d
    → target_cause r s (Some t) ≡ cond {A = Option LinkCause} ((a && b) && not d) (Some (NotText r.at)) None
tests_are r t s a b d e f g = λ j. cond {A = Option LinkCause} ((e j && f j) && not (g j)) (Some (NotText r.at)) None

pub returns-then-not-is_text : goal.returns-then-not-is_text
returns-then-not-is_text c =
    let o = c.args.object.now in
    let s = c.index-symbol.result.now in
    let at = slice_get_read o.symbols (length o.symbols) c.args.reloc.symbol s refl c.requires
    (c.index-symbol.ensures ∙ ap (λ (x : ObjectParts). get_or x.symbols c.args.reloc.symbol s) c.object.view_is) in
    sym (tests_are c.args.reloc c.in-Some.target s true true false c.if-reloc.true c.if-reloc-2.true (sym c.if-not-is_text.ensures))
    ∙ caused c.args.globals.now c.args.number o c.args.reloc s (Some c.in-Some.target) at c.in-Some.ensures

pub returns-else-reloc : goal.returns-else-reloc
returns-else-reloc c =
    let o = c.args.object.now in
    let s = c.index-symbol.result.now in
    let at = slice_get_read o.symbols (length o.symbols) c.args.reloc.symbol s refl c.requires
    (c.index-symbol.ensures ∙ ap (λ (x : ObjectParts). get_or x.symbols c.args.reloc.symbol s) c.object.view_is) in
    let is = caused c.args.globals.now c.args.number o c.args.reloc s (Some c.in-Some.target) at c.in-Some.ensures in
    elim c.else-reloc.branch [
      | else-reloc-via-then-reloc+then-reloc-2+else-not-is_text w ↦
          sym (tests_are c.args.reloc c.in-Some.target s true true true w.if-reloc.true w.if-reloc-2.true (sym w.if-not-is_text.ensures))
          ∙ is
      | else-reloc-via-then-reloc+else-reloc-2 w ↦
          sym (tests_are c.args.reloc c.in-Some.target s true false (is_text c.in-Some.target.place) w.if-reloc.true
          w.if-reloc-2.false refl) ∙ is
      | else-reloc-via-else-reloc w ↦
          sym (tests_are c.args.reloc c.in-Some.target s false c.args.reloc.relative (is_text c.in-Some.target.place)
          w.if-reloc.false refl refl) ∙ is
    ]
