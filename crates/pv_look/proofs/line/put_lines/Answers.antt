use Rattle.std.proofs.Common.{ℕ, List, ◌++◌, Option, ap, ◌∙◌}
use Rattle.ia32_encode.specs.declared.choose.Wide.{Wide}
use Rattle.pv_look.specs.Here.{swept}
use Rattle.pv_look.specs.Spelling.{named_fields}
use Rattle.pv_look.specs.Lines.{labels_text, line_with, lines_with}
use Rattle.pv_look.proofs.line.put_lines.Goals as goal

pub returns : goal.returns
unfolding lines_with
returns c =
    let image = c.args.image.now in
    let s = swept c.args.here.now in
    let fields = c.named_fields-fields.ensures ∙ ap (named_fields s.insn) c.bytes_at-bytes.ensures.bytes in
    let front = c.put_labels.ensures.text ∙ ap (λ (line : List ℕ). line ++ labels_text image c.args.labelled s) c.requires.empty in
    c.put_line.ensures ∙ (ap (λ (line : List ℕ). line ++ line_with image s c.named_fields-fields.result) front
    ∙ ap (λ (o : Option Wide). labels_text image c.args.labelled s ++ line_with image s o) fields)
