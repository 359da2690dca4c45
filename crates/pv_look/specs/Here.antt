-- An instruction of a text, where it stands, and its bytes.
use Rattle.std.specs.Prelude.{ℕ, List, take, drop}
use Rattle.image_check.specs.Sweep.{Swept}
use Rattle.pv_look.specs.declared.here.Here.{Here}

-- as the sweep has it
abbrev pub swept : Here → Swept
swept h = record { at = h.at; len = h.len; insn = h.insn }

abbrev pub bytes_of : List ℕ → Swept → List ℕ
bytes_of text s = take s.len (drop s.at text)
