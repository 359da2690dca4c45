-- The numbers of the causes.
use Rattle.std.specs.Prelude.{ℕ}
use Rattle.elf_link.specs.declared.fault.LinkCause.{LinkCause}
use Rattle.elf_link.specs.declared.fault.LinkCause.TheVariants.{NoSymbol, Doubled, NotText, TextTooLarge, InitTooLarge, TooManySymbols, SitesForm}

abbrev pub number : LinkCause → ℕ
number (NoSymbol name) = 30
number (Doubled name) = 31
number (NotText at) = 32
number TextTooLarge = 33
number InitTooLarge = 34
number TooManySymbols = 35
number SitesForm = 36
