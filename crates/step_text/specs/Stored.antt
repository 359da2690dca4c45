-- What a line says of memory: the bytes that stand after the step where the instruction wrote.
use Rattle.std.specs.Prelude.{ℕ, ◌==◌, List, [], ◌++◌, length, codes, if◌then◌else◌}
use Rattle.std.specs.List.{flat_map}
use Rattle.run_trace.specs.Text.{hex2, hex8}

unfoldable pub digits_of : List ℕ → List ℕ
digits_of bytes = flat_map hex2 bytes

abbrev pub stored_bytes : ℕ → List ℕ → List ℕ
stored_bytes at bytes = codes "  [" ++ hex8 at ++ codes "] " ++ digits_of bytes

-- nothing where no byte is known
abbrev pub stored_text : ℕ → List ℕ → List ℕ
stored_text at bytes = if length bytes == 0 then [] else stored_bytes at bytes
