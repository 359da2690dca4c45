use Rattle.std.proofs.Common.{length, ap, ◌∙◌}
use Rattle.afterburner.specs.ObjectSoFar.{ObjectSoFar}
use Rattle.afterburner.proofs.object.object.Goals as goal

pub symbols-requires : goal.symbols-requires
symbols-requires c = ap length (c.deref.ensures.value ∙ ap (λ (m : ObjectSoFar). m.definitions) c.made.view_is) ∙ c.requires.definitions

pub relocs-requires-clause-count : goal.relocs-requires-clause-count
relocs-requires-clause-count c = rw (c.deref-2.ensures.value, ap (λ (m : ObjectSoFar). m.definitions) c.made.view_is) c.requires.count

pub relocs-requires-clause-text : goal.relocs-requires-clause-text
relocs-requires-clause-text c =
    rw (
      c.deref-2.ensures.value,
      c.deref-3.ensures.value,
      ap (λ (m : ObjectSoFar). m.definitions) c.made.view_is,
      ap (λ (m : ObjectSoFar). m.text_relocs) c.made.view_is,
    ) c.requires.text

pub relocs-requires-clause-init : goal.relocs-requires-clause-init
relocs-requires-clause-init c =
    rw (
      c.deref-2.ensures.value,
      c.deref-4.ensures.value,
      ap (λ (m : ObjectSoFar). m.definitions) c.made.view_is,
      ap (λ (m : ObjectSoFar). m.data_relocs) c.made.view_is,
    ) c.requires.init

pub write_sites-requires-clause-count : goal.write_sites-requires-clause-count
write_sites-requires-clause-count c = rw (c.of_text-sites.ensures.sites, ap (λ (m : ObjectSoFar). m.sites) c.made.view_is) c.requires.few

pub write_sites-requires-clause-sites : goal.write_sites-requires-clause-sites
write_sites-requires-clause-sites c =
    let same = ap (λ (m : ObjectSoFar). m.sites) c.made.view_is in
    c.of_text-sites.ensures.writable (rw same c.requires.sites) (λ _. rw same c.requires.gaps)
