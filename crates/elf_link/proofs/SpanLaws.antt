-- One part more in a span.
use Rattle.std.proofs.Common.{◌≡◌, ℕ, ◌+◌, ◌<◌, List, length, get_or, take, ap, sym, ◌∙◌}
use Rattle.std.specs.Prelude.{sum_by}
use Rattle.elf_form.specs.ObjectParts.{ObjectParts}
use Rattle.elf_link.specs.declared.layout.Span.{Span}
use Rattle.elf_link.specs.Layout.{extent}
use Rattle.elf_link.specs.Steps.{behind}
use Rattle.elf_link.proofs.LayoutLaws.{room_of, sum-more, extent-more}

pub record Spans (size : ObjectParts → ℕ) (os : List ObjectParts) (i : ℕ) (span : Span) : Type 0 where
  pub room : span.room ≡ sum_by (room_of size) (take i os)
  pub end : span.end ≡ extent size (take i os)

pub spans_next : (size : ObjectParts → ℕ) (os : List ObjectParts) (i : ℕ) (o : ObjectParts) (span new : Span) (n : ℕ) → i < length os
    → get_or os i o ≡ o → n ≡ size o → Spans size os i span → new ≡ behind span n → Spans size os (i + 1) new
spans_next size os i o span new n lt is e now step = record {
  room = ap (λ (s : Span). s.room) step ∙ rw (e, now.room) (sym (sum-more (room_of size) os i o lt is));
  end = ap (λ (s : Span). s.end) step ∙ rw (e, now.room, now.end) (sym (extent-more size os i o lt is));
}
