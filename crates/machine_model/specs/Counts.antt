-- What of a run an unprivileged processor could have done: how many instructions, and a digest of their addresses.
use Rattle.std.specs.Prelude.{ℕ, Bool, true, false, ◌&&◌, not, List, [], ◌∷◌, length, Option, Some, None, if◌then◌else◌}
use Rattle.std.specs.List.{flat_map}
use Rattle.ia32_types.specs.declared.insn.Op.{Op}
use Rattle.ia32_types.specs.declared.insn.Op.TheVariants as op
use Rattle.ia32_exec.specs.Digest.{digest}
use Rattle.sites.specs.declared.site.Site.{Site}
use Rattle.image_check.specs.Places.{is_site_at}
use Rattle.machine_model.specs.Step.{Completed, Report}

-- INT and INT3, which are deliveries
abbrev pub is_software : Op → Bool
is_software op.Int = true
is_software op.Int3 = true
is_software _ = false

-- what needs a descriptor: loads of segment registers, far JMP and IRET
abbrev pub needs_descriptor : Op → Bool
needs_descriptor op.LoadSeg = true
needs_descriptor op.PopSeg = true
needs_descriptor op.FarJump = true
needs_descriptor op.Iret = true
needs_descriptor _ = false

-- at level 3 all but what needs a descriptor, at level 0 all outside the sites, and neither INT nor INT3
abbrev pub is_direct : List Site → Completed → Bool
is_direct sites c = not (is_software c.insn.op) && (if c.user then not (needs_descriptor c.insn.op) else not (is_site_at sites c.eip))

-- the address of the instruction that completed in a step, if it is direct
abbrev pub direct_in : List Site → Option Completed → List ℕ
direct_in sites None = []
direct_in sites (Some c) = if is_direct sites c then c.eip ∷ [] else []

-- the addresses of all direct instructions, in the order of the steps
abbrev pub direct_addresses : List Site → List Report → List ℕ
direct_addresses sites reports = flat_map (λ (r : Report). direct_in sites r.completed) reports

abbrev pub direct_count : List Site → List Report → ℕ
direct_count sites reports = length (direct_addresses sites reports)

-- one address more
abbrev pub passed_on : ℕ → List ℕ → ℕ
passed_on p [] = p
passed_on p (eip ∷ eips) = passed_on (digest p eip) eips

abbrev pub passed_digest : List Site → ℕ → List Report → ℕ
passed_digest sites p reports = passed_on p (direct_addresses sites reports)
