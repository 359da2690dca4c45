-- The instructions that are refused by their names, without suffixes (profile).
use Rattle.std.specs.Prelude.{codes, [], ◌∷◌}
use Rattle.ia32_types.specs.declared.site.Refused.{Refused}
use Rattle.ia32_types.specs.declared.site.Refused.TheVariants as refused
use Rattle.asm_instruction.specs.Names.{Table}

unfoldable pub refused_names : Table Refused
refused_names =
    (codes "rdtsc", refused.Rdtsc) ∷ (codes "cpuid", refused.Cpuid) ∷ (codes "sgdt", refused.Sgdt) ∷ (codes "sidt", refused.Sidt) ∷
    (codes "sldt", refused.Sldt) ∷ (codes "str", refused.Str) ∷ (codes "smsw", refused.Smsw) ∷ (codes "lmsw", refused.Lmsw) ∷
    (codes "lldt", refused.Lldt) ∷ (codes "verr", refused.Verr) ∷ (codes "verw", refused.Verw) ∷ (codes "lar", refused.Lar) ∷
    (codes "lsl", refused.Lsl) ∷ (codes "clts", refused.Clts) ∷ (codes "rdmsr", refused.Rdmsr) ∷ (codes "wrmsr", refused.Wrmsr) ∷ []
