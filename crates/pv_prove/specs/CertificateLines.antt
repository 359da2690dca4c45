-- The lines of certificates: what one has, why it isn't read, and what is said of a text by it.
use Rattle.std.specs.Prelude.{ℕ, List, ◌++◌, codes, decimal}
use Rattle.ia32_types.specs.declared.stop.Stop.{Stop}
use Rattle.run_trace.specs.Text.{stop_name}
use Rattle.trace_check.specs.declared.answer.Verdict.{Verdict}
use Rattle.trace_check.specs.declared.answer.Verdict.TheVariants.{Yes, YesBefore, BadEntry, Differs}
use Rattle.trace_check.specs.Lines.{number_of}
use Rattle.pv_build.specs.Lines.{place_line}

-- a certificate that isn't in the form, at an offset
abbrev pub certificate_refusal : ℕ → List ℕ
certificate_refusal at = place_line 120 at

-- how many entries it has, or that there is none
abbrev pub certificate_line : ℕ → List ℕ
certificate_line entries = codes "certificate " ++ (decimal entries ++ codes " entries\n")

abbrev pub no_certificate_line : List ℕ
no_certificate_line = codes "certificate none\n"

-- a stop's number, with which its name in a trace begins
abbrev pub stop_number : Stop → ℕ
stop_number stop = number_of (stop_name stop)

-- a text is that of the run, or is before a stop, by its number; or this entry, from 0, can't be chosen; or this line, from 1,
-- is the first that differs or is missing
abbrev pub verdict_line : Verdict → List ℕ
verdict_line Yes = codes "yes\n"
verdict_line (YesBefore stop) = codes "yes before stop " ++ (decimal (stop_number stop) ++ codes "\n")
verdict_line (BadEntry entry) = codes "no entry " ++ (decimal entry ++ codes "\n")
verdict_line (Differs line) = codes "no line " ++ (decimal line ++ codes "\n")
