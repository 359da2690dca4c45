-- The names of the kinds of sites.
use Rattle.std.specs.Prelude.{ℕ, List, codes}
use Rattle.ia32_types.specs.declared.site.SiteKind.{SiteKind}
use Rattle.ia32_types.specs.declared.site.SiteKind.TheVariants as site

unfoldable pub site_name : SiteKind → List ℕ
site_name site.Cli = codes "Cli"
site_name site.Sti = codes "Sti"
site_name site.StiHlt = codes "StiHlt"
site_name site.Hlt = codes "Hlt"
site_name site.PushFlags = codes "PushFlags"
site_name site.PopFlags = codes "PopFlags"
site_name site.Iret = codes "Iret"
site_name site.ReadControl = codes "ReadControl"
site_name site.WriteControl = codes "WriteControl"
site_name site.LoadGdt = codes "LoadGdt"
site_name site.LoadIdt = codes "LoadIdt"
site_name site.LoadTask = codes "LoadTask"
site_name site.DropPage = codes "DropPage"
site_name site.ReadSeg = codes "ReadSeg"
site_name site.LoadSeg = codes "LoadSeg"
site_name site.PushSeg = codes "PushSeg"
site_name site.PopSeg = codes "PopSeg"
site_name site.FarJump = codes "FarJump"
site_name site.PortIn = codes "PortIn"
site_name site.PortOut = codes "PortOut"
site_name site.Return = codes "Return"
site_name site.JumpTo = codes "JumpTo"
site_name site.CallTo = codes "CallTo"
