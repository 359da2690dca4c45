-- Small values of the definitions, computed.
use Rattle.std.specs.Prelude.{◌≡◌, ℕ, ◌*◌, Bool, true, false, ◌==◌, List, [], ◌∷◌, map, Option, Some, None, if◌then◌else◌}
use Rattle.ia32_types.specs.declared.insn.Insn.{Insn}
use Rattle.ia32_types.specs.declared.insn.Op.{Op}
use Rattle.ia32_types.specs.declared.insn.Op.TheVariants as op
use Rattle.ia32_types.specs.declared.insn.Operand.TheVariants.{Absent}
use Rattle.ia32_types.specs.declared.size.Size.TheVariants.{Long}
use Rattle.ia32_types.specs.declared.site.SiteKind.TheVariants as kind
use Rattle.sites.specs.declared.site.Site.{Site}
use Rattle.descriptors.specs.declared.cpu.Cpu.{Cpu}
use Rattle.paging.specs.declared.entry.Entry.{Entry}
use Rattle.paging.specs.Fresh.{tables_read}
use Rattle.paging.specs.Space.{Wedge, Own}
use Rattle.machine_model.specs.State.{State}
use Rattle.image_check.specs.Image.{Image}
use Rattle.machine_model.specs.Rules.{is_start, may_leave}
use Rattle.machine_model.specs.Step.{Report}
use Rattle.machine_model.specs.Run.{Set}
use Rattle.machine_model.specs.Counts.{direct_count, passed_digest}
use Rattle.machine_model.specs.Taken.{Taken}
use Rattle.machine_model.specs.Clash.{Use, clash_in}
use Rattle.machine_model.specs.Keeping.{is_roomy}
use Rattle.machine_model.specs.Resting.{nothing}

abbrev pub plain_insn : Op → Insn
plain_insn o = record { op = o; size = Long; a = Absent; b = Absent; imm = 0; sel = 0; rep = false }

abbrev pub report_of : Op → Bool → ℕ → Report
report_of o user eip =
    record { items = []; completed = Some (record { insn = plain_insn o; eip = eip; user = user }); pages = []; tables = []; wrote = [] }

-- two moves, OUT with its NOPs, HLT, and a halted step
abbrev pub first_sites : List Site
first_sites = record { at = 7; kind = kind.PortOut; len = 1; total = 5 } ∷ record { at = 12; kind = kind.Hlt; len = 1; total = 5 } ∷ []

abbrev pub first_reports : List Report
first_reports =
    report_of op.Mov false 0x10000000 ∷ report_of op.Mov false 0x10000005 ∷ report_of op.PortOut false 0x10000007 ∷ report_of
    op.Nop false 0x10000008
    ∷ report_of op.Nop false 0x10000009 ∷ report_of op.Nop false 0x1000000A ∷ report_of op.Nop false 0x1000000B ∷ report_of op.Hlt false
    0x1000000C ∷ nothing ∷ []

-- of a user's code INT, a load of a segment register and IRET don't count, and addresses of sites do
abbrev pub user_reports : List Report
user_reports = report_of op.Int true 0x400000 ∷ report_of op.LoadSeg true 0x400002 ∷ report_of op.Iret true 0x400004 ∷ report_of op.Mov
    true 0x10000007 ∷ []

abbrev pub entry_of : Bool → Entry
entry_of dirty = record { page = 0x11400; frame = 0x400; user = false; write = true; dirty = dirty }

abbrev pub held_entry : Bool → ℕ → Option Entry
held_entry dirty page = if page == 0x11400 then Some (entry_of dirty) else None

abbrev pub no_entry : ℕ → Option Entry
no_entry page = None

abbrev pub use_of : ℕ → Bool → Use
use_of page write = record { page = page; access = record { write = write; user = false } }

-- a fetch of another page, then a page that is read and written
abbrev pub copy : List Use
copy = use_of 0x10000 false ∷ use_of 0x11400 false ∷ use_of 0x11400 true ∷ []

abbrev pub taken_with : State → Set → List ℕ → Taken
taken_with b set pages = record { before = b; set = set; report = record nothing { pages = pages }; after = b }

-- a page under each of 24 directory indices
abbrev pub indices : List ℕ
indices =
    1 ∷ 2 ∷ 3 ∷ 4 ∷ 5 ∷ 6 ∷ 7 ∷ 8 ∷ 9 ∷ 10 ∷ 11 ∷ 12 ∷ 13 ∷ 14 ∷ 15 ∷ 16 ∷ 17 ∷ 18 ∷ 19 ∷ 20 ∷ 21 ∷ 22 ∷ 23 ∷ 24 ∷ []

abbrev pub wide_pages : List ℕ
wide_pages = map (λ i. 1024 * i) indices

abbrev pub image_of : List ℕ → Image
image_of text = record { text = text; init = []; bss = 0; entry = 0x10000000; sites = []; format = 1 }

abbrev pub with_bits : Cpu → ℕ → ℕ → Cpu
with_bits cpu cpl bits = record cpu { regs = record cpu.regs { flags = record { bits = bits } }; cpl = cpl }

pub record ExamplesHold : Type 0 where
  pub first_count : direct_count first_sites first_reports ≡ 2
  pub first_digest : passed_digest first_sites 0 first_reports ≡ 8589934597
  pub user_count : direct_count first_sites user_reports ≡ 1
  -- the write is not allowed by an entry without its dirty flag
  pub copy_clashes : clash_in (held_entry false) true copy ≡ true
  pub dirty_copy : clash_in (held_entry true) true copy ≡ false
  pub fresh_copy : clash_in no_entry true copy ≡ false
  pub lone_write : clash_in (held_entry false) true (use_of 0x11400 true ∷ []) ≡ false
  pub narrow : (b : State) (set : Set) → is_roomy (taken_with b set wide_pages ∷ taken_with b set (1025 ∷ 2048 ∷ []) ∷ []) ≡ true
  pub wide : (b : State) (set : Set) → is_roomy (taken_with b set wide_pages ∷ taken_with b set (25 * 1024 ∷ []) ∷ []) ≡ false
  -- IRET to a user's code, with IF 1 and IOPL 0, with IF 0, and with IOPL 1; and one that stays at its level
  pub open_flags : (cpu : Cpu) (own : Own) → may_leave (Wedge 0x100 1 own) (with_bits cpu 0 2) (with_bits cpu 3 0x202) ≡ true
  pub closed_flags : (cpu : Cpu) (own : Own) → may_leave (Wedge 0x100 1 own) (with_bits cpu 0 2) (with_bits cpu 3 2) ≡ false
  pub port_flags : (cpu : Cpu) (own : Own) → may_leave (Wedge 0x100 1 own) (with_bits cpu 0 2) (with_bits cpu 3 0x1202) ≡ false
  pub same_level : (cpu : Cpu) (own : Own) → may_leave (Wedge 0x100 1 own) (with_bits cpu 0 2) (with_bits cpu 0 2) ≡ true
  -- NOP and a jump to itself: the jump's second byte is no start, and neither is what lies before or after the text
  pub at_nop : is_start (image_of (0x90 ∷ 0xEB ∷ 0xFE ∷ [])) 0x10000000 ≡ true
  pub at_jump : is_start (image_of (0x90 ∷ 0xEB ∷ 0xFE ∷ [])) 0x10000001 ≡ true
  pub in_jump : is_start (image_of (0x90 ∷ 0xEB ∷ 0xFE ∷ [])) 0x10000002 ≡ false
  pub before : is_start (image_of (0x90 ∷ 0xEB ∷ 0xFE ∷ [])) 0x0FFFFFFF ≡ false
  pub behind : is_start (image_of (0x90 ∷ 0xEB ∷ 0xFE ∷ [])) 0x10000003 ≡ false
  -- a directory in frame 0 whose first word names frame 1, and whose second word is clear
  pub both_read : tables_read (3 ∷ 16 ∷ 0 ∷ 0 ∷ 0 ∷ 0 ∷ 0 ∷ 0 ∷ []) 2 0 false 0 ≡ 0 ∷ 1 ∷ []
  pub directory_read : tables_read (3 ∷ 16 ∷ 0 ∷ 0 ∷ 0 ∷ 0 ∷ 0 ∷ 0 ∷ []) 2 0 false 1024 ≡ 0 ∷ []
  -- with bit 7 the first word names a table, or under PSE maps a page of 4 MB
  pub table_read : tables_read (131 ∷ 16 ∷ 0 ∷ 0 ∷ []) 2 0 false 0 ≡ 0 ∷ 1 ∷ []
  pub no_table_read : tables_read (131 ∷ 16 ∷ 0 ∷ 0 ∷ []) 2 0 true 0 ≡ 0 ∷ []
