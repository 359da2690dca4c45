-- What `work` reports of its two runs.
use Rattle.std.specs.Prelude.{ℕ, ◌-◌, List, length, Option, Some, None}
use Rattle.image_check.specs.Image.{Image}
use Rattle.trace_check.specs.Lines.{lines, differing}
use Rattle.pv_build.specs.Lines.{work_line, same_line, differ_line}

-- The first line: what the image has, how many lines the second text has before its last, and its fills.
abbrev pub told_line : ℕ → Image → List ℕ → ℕ → List ℕ
told_line number image second fills = work_line number (length image.text) (length image.sites) (length (lines second) - 1) fills

-- The second: both texts are the same, or the first of their lines, from 1, that differs or is missing in one.
abbrev pub comparison_line : Option ℕ → List ℕ
comparison_line None = same_line
comparison_line (Some line) = differ_line line

abbrev pub compared_line : List ℕ → List ℕ → List ℕ
compared_line first second = comparison_line (differing 1 (lines first) (lines second))
