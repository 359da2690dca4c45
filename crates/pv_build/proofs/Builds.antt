-- What a text is built into, part by part.
use Rattle.std.proofs.Common.{◌≡◌, ℕ, List, [], ◌∷◌, Result, Ok, Err, IfOk, IfErr, sym, ap, subst, ◌∙◌}
use Rattle.asm_lex.specs.declared.fault.SourceCause.{SourceCause}
use Rattle.asm_source.specs.declared.tree.SourceItem.{SourceItem}
use Rattle.asm_parse.specs.Source.{SourceAs}
use Rattle.elf_form.specs.Faults.{◌>>=◌}
use Rattle.elf_form.specs.ObjectParts.{ObjectParts}
use Rattle.elf_form.specs.ImageParts.{ImageParts}
use Rattle.elf_form.specs.ImageLayout.{image_bytes}
use Rattle.afterburner.specs.Burnt.{burnt}
use Rattle.elf_link.specs.Linked.{linked_image}
use Rattle.image_check.specs.Image.{Image}
use Rattle.image_check.specs.Checking.{image_of}
use Rattle.pv_build.specs.Telling.{RefusesAs, Answers}
use Rattle.pv_build.specs.Sources.{IsNoSource, source_line}
use Rattle.pv_build.specs.Building.{Builds, object_made, image_made, image_accepted, built}
use Rattle.pv_build.specs.declared.halt.Halt.{Halt}
use Rattle.pv_build.specs.declared.halt.Halt.TheVariants as halt

-- a part refuses what its definition refuses
pub refused_by : {X : Type 0} (h : Halt) (wanted : Result X (List ℕ)) (told : List ℕ → Type 0)
    → ((line : List ℕ) → wanted ≡ Err line → told line)
    → Answers {X = X} (Err h) wanted → RefusesAs told h
refused_by (halt.Refused line) wanted told to is = to line is
refused_by halt.ReadFault wanted told to is = absurd is
refused_by halt.Memory wanted told to is = tt

pub answers_ok : {X : Type 0} (r : Result X Halt) (wanted : Result X (List ℕ)) (P : X → Type 0) → ((x : X) → wanted ≡ Ok x → P x)
    → Answers r wanted → IfOk r P
answers_ok (Ok x) wanted P to is = to x is
answers_ok (Err h) wanted P to is = tt

pub answers_err : {X : Type 0} (r : Result X Halt) (wanted : Result X (List ℕ)) (told : List ℕ → Type 0)
    → ((line : List ℕ) → wanted ≡ Err line → told line) → Answers r wanted → IfErr r (RefusesAs told)
answers_err (Ok x) wanted told to is = tt
answers_err {X} (Err h) wanted told to is = refused_by {X = X} h wanted told to is

abbrev linked_alone : ObjectParts → Result ImageParts (List ℕ)
linked_alone o = image_made (linked_image (o ∷ []))

abbrev accepted_file : ImageParts → Result Image (List ℕ)
accepted_file p = image_accepted (image_of (image_bytes p))

pub no_text : (text kernel line : List ℕ) → text ≡ kernel → (at : ℕ) × (cause : SourceCause) × IsNoSource text (at, cause)
    × (line ≡ source_line at cause) → Builds kernel (Err line)
no_text text kernel line same h =
    record {
      said = Err (h.0, h.1);
      says = subst (λ (t : List ℕ). IsNoSource t (h.0, h.1)) same h.2;
      comes = ap (λ (l : List ℕ). Err l) h.3;
    }

of_items : (text kernel : List ℕ) (items : List SourceItem) (r : Result Image (List ℕ)) → text ≡ kernel → SourceAs text items
    → r ≡ built items → Builds kernel r
of_items text kernel items r same source is =
    record { said = Ok items; says = subst (λ (t : List ℕ). SourceAs t items) same source; comes = is }

pub no_object : (text kernel line : List ℕ) (items : List SourceItem) → text ≡ kernel → SourceAs text items
    → object_made (burnt items) ≡ Err line → Builds kernel (Err line)
no_object text kernel line items same source is =
    of_items text kernel items (Err line) same source
    (sym (ap (λ (r : Result ObjectParts (List ℕ)). (r >>= linked_alone) >>= accepted_file) is))

pub from_object : (text kernel : List ℕ) (items : List SourceItem) (o : ObjectParts) (r : Result ImageParts (List ℕ)) → text ≡ kernel
    → SourceAs text items → object_made (burnt items) ≡ Ok o
    → image_made (linked_image (o ∷ [])) ≡ r → Builds kernel (r >>= accepted_file)
from_object text kernel items o r same source made is =
    of_items text kernel items (r >>= accepted_file) same source
    (sym (ap (λ (m : Result ObjectParts (List ℕ)). (m >>= linked_alone) >>= accepted_file) made
    ∙ ap (λ (m : Result ImageParts (List ℕ)). m >>= accepted_file) is))

pub from_image : (text kernel : List ℕ) (items : List SourceItem) (o : ObjectParts) (p : ImageParts) (r : Result Image (List ℕ))
    → text ≡ kernel → SourceAs text items
    → object_made (burnt items) ≡ Ok o → image_made (linked_image (o ∷ [])) ≡ Ok p
    → image_accepted (image_of (image_bytes p)) ≡ r → Builds kernel r
from_image text kernel items o p r same source made linked is =
    subst (λ (x : Result Image (List ℕ)). Builds kernel x) is (from_object text kernel items o (Ok p) same source made linked)
