-- The words of a walk, where the directory is in memory.
use Rattle.std.proofs.Common.{◌≡◌, ℕ, ◌/◌, ◌<◌, Bool, List, [], refl, sym, ap, ◌∙◌}
use Rattle.std.proofs.lemmas.Bool.{lt-leb}
use Rattle.std.specs.Prelude.{nat_le, false, if◌then◌else◌}
use Rattle.guest_ram.specs.Bytes.{word32}
use Rattle.paging.specs.Fresh.{dir_place}
use Rattle.linear_view.specs.View.{View}
use Rattle.machine_text.specs.Walks.{dir_lines, words_text}

chosen : (b : Bool) (xs : List ℕ) → b ≡ false → xs ≡ (if b then [] else xs)
chosen b xs is = sym (ap (λ (c : Bool). if c then [] else xs) is)

pub words_there : (v : View) (page dir : ℕ) → v.cr3 / 4096 < v.frames → dir ≡ word32 v.ram (dir_place v.cr3 page)
    → dir_lines v page dir ≡ words_text v page
words_there v page dir lt is =
    ap (dir_lines v page) is
    ∙ chosen (nat_le v.frames (v.cr3 / 4096)) (dir_lines v page (word32 v.ram (dir_place v.cr3 page))) (lt-leb _ _ lt)
