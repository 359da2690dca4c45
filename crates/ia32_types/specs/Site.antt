-- Which instructions are sites, and of which kind.
use Rattle.std.specs.Prelude.{Option, Some, None}
use Rattle.ia32_types.specs.declared.insn.Insn.{Insn}
use Rattle.ia32_types.specs.declared.insn.Op.{Op}
use Rattle.ia32_types.specs.declared.insn.Op.TheVariants as op
use Rattle.ia32_types.specs.declared.site.SiteKind.{SiteKind}
use Rattle.ia32_types.specs.declared.site.SiteKind.TheVariants as site

-- the kind of site that an instruction of this name makes; those that are not named make none
abbrev pub kind_of : Op → Option SiteKind
kind_of op.Cli = Some site.Cli
kind_of op.Sti = Some site.Sti
kind_of op.Hlt = Some site.Hlt
kind_of op.PushFlags = Some site.PushFlags
kind_of op.PopFlags = Some site.PopFlags
kind_of op.Iret = Some site.Iret
kind_of op.ReadControl = Some site.ReadControl
kind_of op.WriteControl = Some site.WriteControl
kind_of op.LoadGdt = Some site.LoadGdt
kind_of op.LoadIdt = Some site.LoadIdt
kind_of op.LoadTask = Some site.LoadTask
kind_of op.DropPage = Some site.DropPage
kind_of op.ReadSeg = Some site.ReadSeg
kind_of op.LoadSeg = Some site.LoadSeg
kind_of op.PushSeg = Some site.PushSeg
kind_of op.PopSeg = Some site.PopSeg
kind_of op.FarJump = Some site.FarJump
kind_of op.PortIn = Some site.PortIn
kind_of op.PortOut = Some site.PortOut
kind_of op.Return = Some site.Return
kind_of op.JumpTo = Some site.JumpTo
kind_of op.CallTo = Some site.CallTo
kind_of _ = None

-- the kind of site that the instruction makes, if it is sensitive (profile: the choice of sites is this
-- project's own)
abbrev pub sensitive_kind : Insn → Option SiteKind
sensitive_kind insn = kind_of insn.op
