-- The lines that are printed, and the numbers of the causes in them.
use Rattle.std.specs.Prelude.{ℕ, List, ◌++◌, codes, decimal}
use Rattle.board.specs.declared.fault.ScriptCause.{ScriptCause}
use Rattle.board.specs.declared.fault.ScriptCause.TheVariants as script
use Rattle.elf_form.specs.declared.cause.ElfCause.{ElfCause}
use Rattle.elf_form.specs.declared.cause.ElfCause.TheVariants as elf
use Rattle.elf_link.specs.declared.fault.LinkCause.{LinkCause}
use Rattle.elf_link.specs.declared.fault.LinkCause.TheVariants as link
use Rattle.elf_link.specs.Numbers.{number}
use Rattle.image_check.specs.declared.fault.CheckCause.{CheckCause}
use Rattle.image_check.specs.declared.fault.CheckCause.TheVariants as check
use Rattle.image_check.specs.Refusals.{Refusal, Form, Wrong}

-- of a script
abbrev pub script_number : ScriptCause → ℕ
script_number script.NoForm = 80
script_number script.BadNumber = 81
script_number script.StepFalls = 82
script_number script.TooMany = 83
script_number script.NotAscii = 84

-- of a file that is no object or image
abbrev pub form_number : ElfCause → ℕ
form_number elf.Truncated = 40
form_number elf.Magic = 41
form_number elf.Class = 42
form_number elf.Encoding = 43
form_number elf.Version = 44
form_number elf.FileType = 45
form_number elf.Machine = 46
form_number elf.Sizes = 47
form_number elf.SectionForm = 48
form_number elf.Compressed = 49
form_number elf.StringPlace = 50
form_number elf.SymbolForm = 51
form_number elf.RelocForm = 52

-- of an image that is not accepted
abbrev pub check_number : CheckCause → ℕ
check_number check.TextPlace = 60
check_number check.InitPlace = 61
check_number check.TextSize = 62
check_number check.InitSize = 63
check_number check.EntryPlace = 64
check_number check.RefusedCode = 65
check_number check.BadCode = 66
check_number check.TextEnd = 67
check_number check.SiteWrong = 68
check_number check.SitesForm = 69
check_number check.Target = 70
check_number check.EntryStart = 71

-- how many bytes of text, of data and of zeroed data something has, and how many sites
abbrev pub sizes_line : List ℕ → ℕ → ℕ → ℕ → ℕ → List ℕ → List ℕ
sizes_line what text init bss sites tail =
    what
    ++ (codes " text " ++ (decimal text
    ++ (codes " data " ++ (decimal init
    ++ (codes " bss " ++ (decimal bss ++ (codes " sites " ++ (decimal sites ++ (tail ++ codes "\n")))))))))

-- a refusal at an offset of a file
abbrev pub place_line : ℕ → ℕ → List ℕ
place_line number at = codes "refused " ++ (decimal number ++ (codes " at " ++ (decimal at ++ codes "\n")))

-- a refusal at a line of a text
abbrev pub refusal_at_line : ℕ → ℕ → List ℕ
refusal_at_line number line = codes "refused " ++ (decimal number ++ (codes " line " ++ (decimal line ++ codes "\n")))

abbrev pub image_line : Refusal → List ℕ
image_line (Form fault) = place_line (form_number fault.cause) fault.at
image_line (Wrong at cause) = place_line (check_number cause) at

abbrev pub script_line : ℕ → ScriptCause → List ℕ
script_line line cause = refusal_at_line (script_number cause) line

-- an image that needs more frames than there are
abbrev pub too_small_line : ℕ → ℕ → List ℕ
too_small_line need have = codes "refused 90 need " ++ (decimal need ++ (codes " have " ++ (decimal have ++ codes "\n")))

-- a refusal of an object, counted from 0: at an offset, with the bytes of a name, or alone
abbrev pub object_place_line : ℕ → ℕ → ℕ → List ℕ
object_place_line number object at =
    codes "refused " ++ (decimal number ++ (codes " object " ++ (decimal object ++ (codes " at " ++ (decimal at ++ codes "\n")))))

abbrev pub object_name_line : ℕ → ℕ → List ℕ → List ℕ
object_name_line number object name =
    codes "refused " ++ (decimal number ++ (codes " object " ++ (decimal object ++ (codes " name " ++ (name ++ codes "\n")))))

abbrev pub object_line : ℕ → ℕ → List ℕ
object_line number object = codes "refused " ++ (decimal number ++ (codes " object " ++ (decimal object ++ codes "\n")))

-- a refusal of an object that is not linked, with the number of its cause
abbrev pub cause_line : ℕ → ℕ → LinkCause → List ℕ
cause_line number object (link.NoSymbol name) = object_name_line number object name
cause_line number object (link.Doubled name) = object_name_line number object name
cause_line number object (link.NotText at) = object_place_line number object at
cause_line number object _ = object_line number object

abbrev pub link_line : ℕ → LinkCause → List ℕ
link_line object cause = cause_line (number cause) object cause

-- what `work` prints: the number, how many bytes of text and how many sites the image has, how many items there were in the
-- second run's trace, and how many fills
abbrev pub work_line : ℕ → ℕ → ℕ → ℕ → ℕ → List ℕ
work_line number text sites items fills =
    codes "work "
    ++ (decimal number ++ (codes " text "
    ++ (decimal text ++ (codes " sites "
    ++ (decimal sites ++ (codes " items " ++ (decimal items ++ (codes " fills " ++ (decimal fills ++ codes "\n")))))))))

-- two texts are the same, or the first of their lines, from 1, that differs or is missing
abbrev pub same_line : List ℕ
same_line = codes "same\n"

abbrev pub differ_line : ℕ → List ℕ
differ_line line = codes "differ line " ++ (decimal line ++ codes "\n")
