-- How the sites of an accepted image lie in its text, and of what instructions they are made.
use Rattle.std.specs.Prelude.{◌≡◌, ◌⊎◌, ℕ, ◌+◌, ◌≤◌, List, [], ◌∷◌, Some}
use Rattle.ia32_types.specs.declared.insn.Op.TheVariants as op
use Rattle.ia32_types.specs.declared.site.SiteKind.TheVariants.{Sti, StiHlt, Hlt}
use Rattle.ia32_types.specs.Site.{sensitive_kind}
use Rattle.sites.specs.declared.site.Site.{Site}
use Rattle.image_check.specs.Sweep.{Swept}

-- Sites of five bytes at least that lie one after the other, from one offset on and before another.
abbrev pub AreApart : ℕ → List Site → ℕ → Type 0
AreApart from [] to = from ≤ to
AreApart from (s ∷ sites) to = (from ≤ s.at) × (5 ≤ s.total) × AreApart (s.at + s.total) sites to

-- The sensitive instruction of a site that has one.
pub record IsAlone (site : Site) (s : Swept) : Type 0 where
  pub place : s.at ≡ site.at
  pub len : s.len ≡ site.len
  pub kind : sensitive_kind s.insn ≡ Some site.kind

-- STI, and the HLT after it, of a pair.
pub record IsPairSti (site : Site) (s : Swept) : Type 0 where
  pub pair : (site.kind ≡ StiHlt) × (site.len ≡ 2)
  pub place : s.at ≡ site.at
  pub len : s.len ≡ 1
  pub kind : sensitive_kind s.insn ≡ Some Sti

pub record IsPairHlt (site : Site) (s : Swept) : Type 0 where
  pub pair : (site.kind ≡ StiHlt) × (site.len ≡ 2)
  pub place : s.at ≡ site.at + 1
  pub len : s.len ≡ 1
  pub kind : sensitive_kind s.insn ≡ Some Hlt

-- A NOP after the sensitive part of a site.
pub record IsPadding (site : Site) (s : Swept) : Type 0 where
  pub behind : site.at + site.len ≤ s.at
  pub len : s.len ≡ 1
  pub nop : s.insn.op ≡ op.Nop

-- What an instruction inside a site is.
pub data PartOf (site : Site) (s : Swept) : Type 0 where
  Alone : IsAlone site s → PartOf site s
  PairSti : IsPairSti site s → PartOf site s
  PairHlt : IsPairHlt site s → PartOf site s
  Padding : IsPadding site s → PartOf site s

-- A site begins with its sensitive instruction, or with the STI of a pair.
abbrev pub BeginsSite : Site → Swept → Type 0
BeginsSite site s = IsAlone site s ⊎ IsPairSti site s
