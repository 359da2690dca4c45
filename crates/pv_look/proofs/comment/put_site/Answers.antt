use Rattle.std.proofs.Common.{ℕ, List, ◌++◌, ap, ◌∙◌}
use Rattle.std.specs.Prelude.{codes}
use Rattle.sites.specs.Patched.{patch_bytes}
use Rattle.pv_look.specs.Lines.{bytes_text}
use Rattle.pv_look.specs.SiteNames.{site_name}
use Rattle.pv_look.proofs.Pieces.{four_pieces, patched_front}
use Rattle.pv_look.proofs.comment.put_site.Goals as goal

pub returns-clause-text : goal.returns-clause-text
returns-clause-text c =
    let named = c.add-2.ensures ∙ ap (λ (name : List ℕ). c.add.new.line.items ++ name) c.site_name.ensures.name in
    let patched = c.put_bytes.ensures.text ∙ ap (λ (xs : List ℕ). c.add-3.new.line.items ++ bytes_text xs)
    (patched_front c.args.site.total c.requires.some c.requires.few) in
    four_pieces c.args.line.now.items (codes " site ") (site_name c.args.site.kind) (codes " patched")
    (bytes_text (patch_bytes c.args.site.total)) _ _ _ _
    c.add.ensures named c.add-3.ensures patched
