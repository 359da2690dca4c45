-- The meaning of `burn`.
use Rattle.std.proofs.Common.{◌≡◌, inl, inr, ℕ, List, Option, Some, Result, Ok, Err, sym, ap, subst, ◌∙◌, arith}
use Rattle.pv_io.specs.Files.{FileMap}
use Rattle.asm_lex.specs.declared.fault.SourceCause.{SourceCause}
use Rattle.asm_source.specs.declared.tree.SourceItem.{SourceItem}
use Rattle.asm_parse.specs.Source.{SourceAs}
use Rattle.asm_parse.proofs.Sources.{is_read}
use Rattle.asm_parse.proofs.OneCause.{one_fault, no_reading}
use Rattle.elf_form.specs.ObjectParts.{ObjectParts}
use Rattle.elf_form.specs.ObjectLayout.{object_bytes}
use Rattle.afterburner.specs.Burnt.{Fault, burnt}
use Rattle.pv_build.specs.Sources.{IsNoSource, SaysSource, source_line}
use Rattle.pv_build.specs.SourceFiles.{HasSource, HasNoSource}
use Rattle.pv_build.specs.Objects.{burn_line, object_made_line}
use Rattle.pv_tasks.specs.Outcome.{Outcome, refused, stored_as}
use Rattle.pv_tasks.specs.Burning.{HasBurnt, written, burned, Burns}
use Rattle.pv_tasks.proofs.SameFiles.{same_file}

-- the outcome of the text of a file

pub no_source : (files : Option FileMap) (name object line : List ℕ) → (at : ℕ) × (cause : SourceCause) × HasNoSource files name (at, cause)
    × (line ≡ source_line at cause) → Burns files name object (refused line)
no_source files name object line h = record { text = h.2.0; holds = h.2.1; said = Err (h.0, h.1); says = h.2.2; comes = ap refused h.3 }

pub not_burnt : (files : Option FileMap) (name object line : List ℕ) (items : List SourceItem) (fault : Fault) → HasSource files name items
    → burnt items ≡ Err fault → line ≡ burn_line fault → Burns files name object (refused line)
not_burnt files name object line items fault has fails is =
    record { text = has.0; holds = has.1; said = Ok items; says = has.2; comes = ap refused is ∙ sym (ap (written object) fails) }

pub is_burnt : (files : Option FileMap) (name object bytes line : List ℕ) (o : ObjectParts) → HasBurnt files name o → bytes ≡ object_bytes o
    → line ≡ object_made_line o
    → Burns files name object (stored_as object bytes line)
is_burnt files name object bytes line o has bytes_are line_is =
    record {
      text = has.text;
      holds = has.holds;
      said = Ok has.items;
      says = has.says;
      comes = ap (λ (b : List ℕ). stored_as object b line) bytes_are
          ∙ (ap (stored_as object (object_bytes o)) line_is ∙ sym (ap (written object) has.burnt_is));
    }

read_once : (text : List ℕ) (i j : List SourceItem) → SourceAs text i → SourceAs text j → i ≡ j
read_once text i j h k =
    let a = is_read text i h.1 in
    let b = is_read text j k.1 in
    let same : a.0 ≡ b.0 = cc (a.1, b.1) in
    cc (a.2, b.2, same)

read_or_not : (text : List ℕ) (i : List SourceItem) (fault : ℕ × SourceCause) → SourceAs text i → IsNoSource text fault → ⊥
read_or_not text i fault h (inl k) = absurd (omega (arith, h.0, k.0))
read_or_not text i fault h (inr k) = no_reading text k.1 (i, h.1)

fault_once : (text : List ℕ) (f g : ℕ × SourceCause) → IsNoSource text f → IsNoSource text g → f ≡ g
fault_once text f g (inl h) (inl k) = h.1 ∙ sym k.1
fault_once text f g (inl h) (inr k) = absurd (omega (arith, h.0, k.0))
fault_once text f g (inr h) (inl k) = absurd (omega (arith, h.0, k.0))
fault_once text f g (inr h) (inr k) =
    let one = one_fault text h.1 k.1 in
    λ i. (one.0 i, one.1 i)

-- a text says one thing
pub said_once : (text : List ℕ) (r s : Result (List SourceItem) (ℕ × SourceCause)) → SaysSource text r → SaysSource text s → r ≡ s
said_once text (Ok i) (Ok j) h k = ap (λ (x : List SourceItem). Ok x) (read_once text i j h k)
said_once text (Ok i) (Err g) h k = absurd (read_or_not text i g h k)
said_once text (Err f) (Ok j) h k = absurd (read_or_not text j f k h)
said_once text (Err f) (Err g) h k = ap (λ (x : ℕ × SourceCause). Err x) (fault_once text f g h k)

-- `burn` has one outcome
pub burns_once : (told : FileMap) (source object : List ℕ) (w v : Outcome) → Burns (Some told) source object w
    → Burns (Some told) source object v → v ≡ w
burns_once told source object w v h k =
    let same = same_file told source k.text h.text k.holds h.holds in
    let once = said_once h.text k.said h.said (subst (λ (t : List ℕ). SaysSource t k.said) same k.says) h.says in
    k.comes ∙ (ap (burned object) once ∙ sym h.comes)
