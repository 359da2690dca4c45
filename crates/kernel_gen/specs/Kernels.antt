-- Generated kernels: sources that are made from a number. They are this project's own.
use Rattle.std.specs.Prelude.{ℕ, zero, suc, ◌+◌, ◌*◌, ◌/◌, ◌%◌, ◌^◌, ◌==◌, List, [], ◌∷◌, ◌++◌, if◌then◌else◌, map, codes, decimal}
use Rattle.std.specs.List.{flat_map, range_with_len}

-- the numbers, each from the one before it
unfoldable pub next : ℕ → ℕ
next x = (1664525 * x + 1013904223) % 2 ^ 32

unfoldable pub x_of : ℕ → ℕ → ℕ
x_of number zero = number
x_of number (suc i) = next (x_of number i)

-- a place of a word in the buffer
abbrev pub place_of : ℕ → ℕ
place_of x = 4 * ((x / 256) % 16384)

-- what a number lets be done: one of six things
abbrev pub lines_in : ℕ → ℕ → List (List ℕ)
lines_in kind x =
    if kind == 0 then (codes "movl $" ++ decimal x ++ codes ",%eax") ∷ codes "outl %eax,$128" ∷ []
    else if kind == 1 then codes "pushf" ∷ codes "popf" ∷ []
    else if kind == 2 then (codes "movl $" ++ decimal x ++ codes ",buf+" ++ decimal (place_of x)) ∷ []
    else if kind == 3 then (codes "movl buf+" ++ decimal (place_of x) ++ codes ",%eax") ∷ codes "outl %eax,$128" ∷ []
    else if kind == 4 then codes "cli" ∷ codes "sti" ∷ []
    else (codes "invlpg buf+" ++ decimal (place_of x)) ∷ []

unfoldable pub lines_of : ℕ → List (List ℕ)
lines_of x = lines_in ((x / 2 ^ 24) % 6) x

-- the lines of the first n numbers after the kernel's own
unfoldable pub body : ℕ → ℕ → List (List ℕ)
body number n = flat_map lines_of (map (x_of number) (range_with_len 1 n))

abbrev pub head : List (List ℕ)
head = codes ".bss" ∷ codes "buf: .zero 65536" ∷ codes ".text" ∷ codes "_start:" ∷ codes "top:" ∷ []

-- each line ends with a newline
unfoldable pub text_of : List (List ℕ) → List ℕ
text_of lines = flat_map (λ line. line ++ codes "\n") lines

-- the kernel of a number: a thousand things that are done again and again
unfoldable pub kernel_text : ℕ → List ℕ
kernel_text number = text_of (head ++ body number 1000 ++ codes "jmp top" ∷ [])
