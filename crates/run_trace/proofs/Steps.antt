-- Items and their lines, one after the other.
use Rattle.std.proofs.Common.{◌≡◌, ℕ, zero, suc, ◌+◌, ◌<◌, List, [], ◌∷◌, ◌++◌, length, take, drop, get_or, refl, sym, ap, ◌∙◌, add-one, append_assoc, arith}
use Rattle.std.proofs.Math.ListN.{set}
use Rattle.std.proofs.Math.Seq.{take-suc-set}
use Rattle.run_trace.specs.declared.items.Item.{Item}
use Rattle.run_trace.specs.Text.{item_line, lines_of}

pub one_more : (items : List Item) (n : ℕ) (item : Item) → n < length items →
    take (n + 1) (set items n item) ≡ take n items ++ item ∷ []
one_more items n item within = rw add-one (take-suc-set items n item within)

-- the lines round one item's
pub lines_split : (items : List Item) (i : ℕ) (d : Item) → i < length items →
    lines_of items ≡ lines_of (take i items) ++ (item_line (get_or items i d) ++ lines_of (drop (suc i) items))
lines_split [] i d lt = absurd (omega arith)
lines_split (x ∷ items) zero d lt = refl
lines_split (x ∷ items) (suc i) d lt =
    let less : i < length items = omega arith in
    ap (λ (l : List ℕ). item_line x ++ l) (lines_split items i d less)
    ∙ sym (append_assoc (item_line x) (lines_of (take i items)) (item_line (get_or items i d) ++ lines_of (drop (suc i) items)))
