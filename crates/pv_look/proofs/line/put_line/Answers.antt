use Rattle.std.proofs.Common.{◌≡◌, ℕ, List, ◌++◌, subst}
use Rattle.std.specs.Prelude.{codes}
use Rattle.pv_look.specs.declared.part.Part.{Part}
use Rattle.pv_look.specs.Here.{swept, bytes_of}
use Rattle.pv_look.specs.Lines.{in_column, statement_text, place_text, note_text}
use Rattle.pv_look.proofs.Pieces.{four_pieces}
use Rattle.pv_look.proofs.line.put_line.Goals as goal

pub returns : goal.returns
returns c =
    let line = c.args.line.now.items in
    let fields = c.args.fields in
    let s = swept c.args.here.now in
    let part = c.part_of-part.result in
    let whole = four_pieces line (in_column (statement_text part fields s)) (place_text s.at c.args.bytes.now) (note_text part fields)
    (codes "\n") _ _ _ _
    c.put_column.ensures.text c.put_place.ensures.text c.put_note.ensures.text c.add.ensures in
    let over_bytes =
    subst (λ (xs : List ℕ). c.add.new.line.items ≡ line
    ++ (in_column (statement_text part fields s) ++ place_text s.at xs ++ note_text part fields ++ codes "\n")) c.requires.bytes whole in
    subst (λ (p : Part). c.add.new.line.items ≡ line
    ++ (in_column (statement_text p fields s) ++ place_text s.at (bytes_of c.args.image.now.text s) ++ note_text p fields ++ codes "\n"))
    c.part_of-part.ensures.part over_bytes
