-- Both machines do one instruction by its pure effect.
use Rattle.std.proofs.Common.{◌≡◌, ℕ, ◌+◌, ◌/◌, ◌%◌, List, Bool, true, false, cond, ◌&&◌, ◌||◌, not, ◌==◌, is_none, Option, Some, None, Ok, refl, sym, ap, subst, ◌∙◌, inl, inr, arith}
use Rattle.std.specs.Prelude.{nat_le}
use Rattle.std.specs.FinMap.{FinMap, get}
use Rattle.std.specs.Ordering.{nat_cmp}
use Rattle.std.proofs.lemmas.Bool.{cond-true, cond-false, and_parts, false_from_ne_true, lt-leb, leb-true, eqb-true}
use Rattle.guest_ram.specs.Bytes.{byte}
use Rattle.ia32_types.specs.declared.insn.Insn.{Insn}
use Rattle.ia32_types.specs.declared.insn.Op.{Op}
use Rattle.ia32_types.specs.declared.insn.Op.TheVariants as op
use Rattle.ia32_types.specs.declared.register.Seg.{Seg}
use Rattle.ia32_types.specs.declared.register.Seg.TheVariants.{Es, Cs, Ss, Ds}
use Rattle.ia32_types.specs.Shape.{IsShaped}
use Rattle.ia32_types.specs.Site.{kind_of}
use Rattle.ia32_decode.specs.declared.answer.Decoded.TheVariants as begins
use Rattle.ia32_exec.specs.declared.outcome.Outcome as exec
use Rattle.ia32_exec.specs.declared.access.Range.{Range}
use Rattle.ia32_exec.specs.Readable.{Covers}
use Rattle.ia32_exec.specs.Effect.{ranges_of}
use Rattle.ia32_exec.specs.UserEffect.{user_effect}
use Rattle.descriptors.specs.declared.cpu.Cpu.{Cpu}
use Rattle.paging.specs.declared.entry.Entry.{Entry}
use Rattle.paging.specs.Space.{no_own, Space, place, place_by, byte_at, with_ram}
use Rattle.native_steps.specs.EffectLaws.{EffectLaws}
use Rattle.step_exec.specs.Users.{user_finished}
use Rattle.step_exec.specs.Plain as plain
use Rattle.step_exec.specs.Plain.{is_denied, is_refused, is_in, byte_by}
use Rattle.host_cpl3.specs.declared.view.View.{View}
use Rattle.host_cpl3.specs.Permit.{permitted_row, permitted}
use Rattle.host_cpl3.specs.Views.{selectors_of, is_null, is_entry}
use Rattle.host_cpl3.specs.Pages as host_pages
use Rattle.host_cpl3.specs.HostStep as host
use Rattle.image_check.specs.Image.{Image}
use Rattle.machine_model.specs.Rules as rules
use Rattle.machine_model.specs.State.{Setting, State, space_at_start}
use Rattle.machine_model.specs.Instruction.{fetched, instructed, is_plain}
use Rattle.machine_model.specs.Step.{after_instruction, begun, by_op, after_fetch, fetches_next, begins_next, worked, by_interrupt, unheld, stepped}
use Rattle.native_steps.specs.Mirrors.{IsWedge, IsLevelOf, Sees, Mirrors}
use Rattle.image_check.specs.Places.{is_site_at}
use Rattle.machine_model.specs.Counts.{is_software, needs_descriptor, is_direct}
use Rattle.native_steps.proofs.Inside.{not_inside}
use Rattle.native_steps.specs.Native.{byte_of, effect_of, IsNative}
use Rattle.native_steps.specs.Forward.{IsNext}
use Rattle.native_steps.proofs.Pages.{At}
use Rattle.native_steps.proofs.Ways.{Way}
use Rattle.native_steps.proofs.HostParts.{Leads, IsMet, IsDenied, host_is}
use Rattle.native_steps.proofs.Doing.{Selects, IsUser, IsPopFlags, instructed_is}
use Rattle.native_steps.proofs.Fetching.{Fetches, fetched_comes}
use Rattle.native_steps.proofs.Shaped.{decoded_shaped}
use Rattle.native_steps.proofs.Sharing.{AreShared, covers, same_byte, to_host}
use Rattle.native_steps.proofs.GuestRanges.{reached_comes}

-- ---- the level

pub level_user : (kernel : Bool) (cpl : ℕ) → IsLevelOf kernel cpl → (cpl == 3) ≡ not kernel
level_user true cpl e = ap (λ c. c == 3) e
level_user false cpl e = ap (λ c. c == 3) e

pub level_kernel : (kernel : Bool) (cpl : ℕ) → IsLevelOf kernel cpl → (cpl == 0) ≡ kernel
level_kernel true cpl e = ap (λ c. c == 0) e
level_kernel false cpl e = ap (λ c. c == 0) e

-- ---- rows

pub not_soft : (o : Op) (imm : ℕ) → permitted_row o imm ≡ Ok tt → is_software o ≡ false
not_soft op.Int imm e = absurd cc
not_soft op.Int3 imm e = absurd cc
not_soft o imm e = refl

pub not_reloading : (o : Op) (imm : ℕ) → permitted_row o imm ≡ Ok tt → needs_descriptor o ≡ false
not_reloading op.LoadSeg imm e = absurd cc
not_reloading op.PopSeg imm e = absurd cc
not_reloading op.FarJump imm e = absurd cc
not_reloading op.Iret imm e = absurd cc
not_reloading o imm e = refl

pub by_op_is : (m : Setting) (o : Op) (b : State) (insn : Insn) (len : ℕ) (s : Space) → is_software o ≡ false
    → by_op m o b insn len s ≡ after_instruction m b (begun b insn) (instructed insn len b.cpu s)
by_op_is m op.Int b insn len s e = absurd cc
by_op_is m op.Int3 b insn len s e = absurd cc
by_op_is m o b insn len s e = refl

pub plain_row : (o : Op) → kind_of o ≡ None → is_software o ≡ false → is_plain o ≡ true
plain_row op.Int e f = absurd cc
plain_row op.Int3 e f = absurd cc
plain_row o e f = ap is_none e

pub no_pop : (o : Op) → is_plain o ≡ true → IsPopFlags o → ⊥
no_pop op.PopFlags e h = cc
no_pop o e h = h

-- ---- the instruction's shape

pub way_shaped : (P : ℕ → ℕ → Type 0) (ram : List ℕ) (eip : ℕ) (insn : Insn) (len : ℕ) → Way P ram eip insn len → IsShaped insn
way_shaped P ram eip insn len (inl w) = decoded_shaped _ insn len w.is
way_shaped P ram eip insn len (inr w) = decoded_shaped _ insn len w.is

-- ---- the start of a step

begins_well : (image : Image) (eip : ℕ) (mode : Rattle.paging.specs.Space.Mode) (kernel : Bool)
    → (kernel ≡ true → rules.is_start image eip ≡ true) → (rules.may_begin mode image eip || not kernel) ≡ true
begins_well image eip Rattle.paging.specs.Space.Bare kernel h = refl
begins_well image eip (Rattle.paging.specs.Space.Wedge text count own) true h = ap (λ x. x || false) (h refl)
begins_well image eip (Rattle.paging.specs.Space.Wedge text count own) false h = or_true (rules.is_start image eip)
  where
    or_true : (x : Bool) → (x || true) ≡ true
    or_true true = refl
    or_true false = refl

stands_well : (m : Setting) (kernel : Bool) (b : State) → IsLevelOf kernel b.cpu.cpl → IsNext m kernel b → rules.stands_well m b.cpu ≡ true
stands_well m kernel b level next =
    ap (λ k. rules.may_begin m.mode m.image b.cpu.regs.eip || not k) (level_kernel kernel b.cpu.cpl level)
    ∙ begins_well m.image b.cpu.regs.eip m.mode kernel next.start

-- the step is its fetch, and what comes of it
pub stepped_by : (m : Setting) (kernel : Bool) (b : State) → IsLevelOf kernel b.cpu.cpl → IsNext m kernel b
    → stepped m b ≡ after_fetch m (unheld b) (fetched (b.cpu.cpl == 3) b.cpu.regs.eip (space_at_start m.mode m.frames b.cpu b.ram b.set))
unfolding worked
stepped_by m kernel b level next =
    let s = space_at_start m.mode m.frames b.cpu b.ram b.set in
    ap (λ (o : Option ℕ). by_interrupt m o (unheld b) s) next.quiet
    ∙ cond-false b.cpu.halted _ (begins_next m (unheld b) s) next.awake
    ∙ cond-true (rules.stands_well m b.cpu) (fetches_next m (unheld b) s) _ (stands_well m kernel b level next)

pub selects_by : (v : View) (cpu : Cpu) → Sees v cpu → Selects (selectors_of v) cpu
selects_by v cpu s Es = s.es
selects_by v cpu s Cs = s.cs
selects_by v cpu s Ss = s.ss
selects_by v cpu s Ds = s.ds

-- a user's rights
pub without_rights : (v : View) (cpu : Cpu) → Sees v cpu → v.kernel ≡ false → IsUser cpu
without_rights v cpu s k =
    let level : cpu.cpl ≡ 3 = subst (λ (x : Bool). IsLevelOf x cpu.cpl) k s.level in
    let p = and_parts (Rattle.paging.specs.Fresh.has cpu.regs.flags.bits 512) (cpu.regs.flags.bits / 4096 % 4 == 0) (s.user_flags k) in
    let zero : cpu.regs.flags.bits / 4096 % 4 ≡ 0 = eqb-true _ 0 p.1 in
    record {
      without = lt-leb cpu.cpl (cpu.regs.flags.bits / 4096 % 4) (omega (arith, level, zero));
      above = level_kernel v.kernel cpu.cpl s.level ∙ k;
    }

module _ (flags : EffectLaws) (m : Setting) (w : IsWedge m) (memory : List ℕ) (v : View) (b : State) (stands : Mirrors m memory v b)
    (next : IsNext m v.kernel b) where
  sees : Sees v b.cpu
  sees = stands.sees

  pub user : (b.cpu.cpl == 3) ≡ not v.kernel
  user = level_user v.kernel b.cpu.cpl stands.sees.level

  pub kernel_is : (b.cpu.cpl == 0) ≡ v.kernel
  kernel_is = level_kernel v.kernel b.cpu.cpl stands.sees.level

  -- ---- segments

  pub nulls : (seg : Seg) → is_null v seg ≡ plain.is_null b.cpu seg
  nulls Es = stands.sees.es_null
  nulls Cs = sym stands.sees.cs_null
  nulls Ss = sym stands.sees.ss_null
  nulls Ds = stands.sees.ds_null

  pub denials : (o : Option Range) → IsDenied memory v o ≡ is_denied b.cpu o
  denials None = refl
  denials (Some r) = nulls r.seg

  pub selects : Selects (selectors_of v) b.cpu
  selects = selects_by v b.cpu stands.sees

  -- ---- the start of the step

  pub at_start : At m b (space_at_start m.mode m.frames b.cpu b.ram b.set)
  at_start = record {
    ram = refl;
    set = refl;
    wp = refl;
    visited = λ q c. absurd (let lt = c.1 in omega (arith, lt));
    tables = refl;
    own = no_own;
    mode = w.mode;
  }

  pub stepped_is : stepped m b ≡ after_fetch m (unheld b)
      (fetched (b.cpu.cpl == 3) b.cpu.regs.eip (space_at_start m.mode m.frames b.cpu b.ram b.set))
  stepped_is = stepped_by m v.kernel b stands.sees.level next

  -- ---- an instruction that both may do

  pub record IsCommon (insn : Insn) (len : ℕ) : Type 0 where
    pub outside : is_entry v b.cpu.regs.eip ≡ false
    pub host_way : Way (Leads memory v.root false) memory b.cpu.regs.eip insn len
    pub guest_way : Way (Fetches m b v.kernel) b.ram b.cpu.regs.eip insn len
    pub allowed : permitted insn ≡ Ok tt
    pub plain_is : v.kernel ≡ true → is_plain insn.op ≡ true
    pub segments : is_refused b.cpu (ranges_of insn b.cpu.regs) ≡ false
    pub read : AreShared m w memory v b stands false (ranges_of insn b.cpu.regs).read
    pub write : AreShared m w memory v b stands true (ranges_of insn b.cpu.regs).write

  either_false : (x y : Bool) → (x || y) ≡ false → (x ≡ false) × (y ≡ false)
  either_false false y e = (refl, e)
  either_false true y e = absurd cc

  all : (P : ℕ → Type 0) (o : Option Range) → ((a : ℕ) → P a) → Covers P o
  all P None h = tt
  all P (Some r) h = λ k lt. h (r.at + k)

  module _ (insn : Insn) (len : ℕ) (c : IsCommon insn len) where
    shape : IsShaped insn
    shape = way_shaped _ memory b.cpu.regs.eip insn len c.host_way

    allowed_row : permitted_row insn.op insn.imm ≡ Ok tt
    unfolding permitted
    allowed_row = c.allowed

    soft : is_software insn.op ≡ false
    soft = not_soft insn.op insn.imm allowed_row

    pub met : IsMet memory v b.cpu.regs insn len
    met =
        let free = either_false (is_denied b.cpu (ranges_of insn b.cpu.regs).read)
        (is_denied b.cpu (ranges_of insn b.cpu.regs).write) c.segments in
        record {
          outside = c.outside;
          way = c.host_way;
          permitted = c.allowed;
          read_segment = denials (ranges_of insn b.cpu.regs).read ∙ free.0;
          write_segment = denials (ranges_of insn b.cpu.regs).write ∙ free.1;
          read = to_host m w memory v b stands false (ranges_of insn b.cpu.regs).read c.read;
          write = to_host m w memory v b stands true (ranges_of insn b.cpu.regs).write c.write;
        }

    -- over the same bytes
    pub effects_same : user_effect (selectors_of v) insn len b.cpu.regs (host_pages.byte_at memory v.root) ≡ effect_of v b insn len
    effects_same =
        flags.same (host_pages.byte_at memory v.root) (byte_of b) (selectors_of v) insn len b.cpu.regs shape
        (covers m w memory v b stands (λ a. host_pages.byte_at memory v.root a ≡ byte_of b a) (same_byte m w memory v b stands) false
        (ranges_of insn b.cpu.regs).read c.read)
        (covers m w memory v b stands (λ a. host_pages.byte_at memory v.root a ≡ byte_of b a) (same_byte m w memory v b stands) true
        (ranges_of insn b.cpu.regs).write c.write)

    pub host_side : host.host_step v memory b.cpu.regs ≡ host.finished v insn.op memory (effect_of v b insn len)
    host_side = host_is memory v b.cpu.regs insn len met ∙ ap (host.finished v insn.op memory) effects_same

    -- ---- the guest's side

    user_of : IsPopFlags insn.op → IsUser b.cpu
    user_of h = without_rights v b.cpu stands.sees (false_from_ne_true v.kernel (λ k. no_pop insn.op (c.plain_is k) h))

    bytes_at : (s : Space) → At m b s → (a : ℕ) → byte_at s a ≡ byte_of b a
    unfolding byte_at place
    bytes_at s h a = ap (λ (x : List ℕ). byte x (place_by (get s.set (a / 4096)) a)) h.ram
        ∙ ap (λ (x : FinMap nat_cmp Entry). byte b.ram (place_by (get x (a / 4096)) a)) h.set

    by_bytes : (o : Option Range) (s t : Space) → At m b s → At m b t → (a : ℕ) → byte_by o s t a ≡ byte_of b a
    by_bytes o s t h k a = choice (is_in o a)
      where
        mixed : At m b (with_ram s t.ram)
        mixed = record { ram = k.ram; set = h.set; wp = h.wp; visited = h.visited; tables = h.tables; own = h.own; mode = h.mode }

        choice : (i : Bool) → cond i (byte_at (with_ram s t.ram) a) (byte_at t a) ≡ byte_of b a
        choice true = bytes_at (with_ram s t.ram) mixed a
        choice false = bytes_at t k a

    ub : State
    ub = unheld b

    pub native : IsNative m memory v b insn len
    native =
        let f =
        fetched_comes m b v.kernel (space_at_start m.mode m.frames b.cpu b.ram b.set) b.cpu.regs.eip insn len at_start c.guest_way in
        let r = reached_comes m w memory v b stands b.cpu user f.space false (ranges_of insn b.cpu.regs).read f.at c.read in
        let x = reached_comes m w memory v b stands b.cpu user r.space true (ranges_of insn b.cpu.regs).write r.at c.write in
        let fetch : fetched (b.cpu.cpl == 3) b.cpu.regs.eip (space_at_start m.mode m.frames b.cpu b.ram b.set) ≡ Ok
        (begins.Insn insn len, f.space) =
        ap (λ (u : Bool). fetched u b.cpu.regs.eip (space_at_start m.mode m.frames b.cpu b.ram b.set)) user ∙ f.is in
        let same : user_effect (selectors_of v) insn len b.cpu.regs (byte_by (ranges_of insn b.cpu.regs).read r.space x.space)
        ≡ effect_of v b insn len =
        flags.same (byte_by (ranges_of insn b.cpu.regs).read r.space x.space) (byte_of b) (selectors_of v) insn len b.cpu.regs shape
        (all _ (ranges_of insn b.cpu.regs).read (by_bytes (ranges_of insn b.cpu.regs).read r.space x.space r.at x.at))
        (all _ (ranges_of insn b.cpu.regs).write (by_bytes (ranges_of insn b.cpu.regs).read r.space x.space r.at x.at)) in
        record {
          direct = direct;
          host = host_side;
          space = x.space;
          ram = x.at.ram;
          set = x.at.set;
          visited = x.at.visited;
          tables = x.at.tables;
          guest =
              stepped_is
              ∙ ap (after_fetch m (unheld b)) fetch
              ∙ by_op_is m insn.op (unheld b) insn len f.space soft
              ∙ instructed_is m (unheld b) (begun b insn) flags.agree (selectors_of v) (unheld b).cpu selects f.space r.space x.space insn
              len user_of_held shape c.allowed (record { free = c.segments; read = r.is; write = x.is })
              ∙ ap (λ (o : exec.Outcome). after_instruction m (unheld b) (begun b insn) (user_finished (unheld b).cpu o x.space)) same;
        }
      where
        user_of_held : IsPopFlags insn.op → IsUser (unheld b).cpu
        user_of_held h = let u = user_of h in record { without = u.without; above = u.above }

        direct_by : (k : Bool) → v.kernel ≡ k
            → cond (not k) (not (needs_descriptor insn.op)) (not (is_site_at m.image.sites b.cpu.regs.eip)) ≡ true
        direct_by true k =
            ap not (not_inside m.image.sites b.cpu.regs.eip
            (leb-true 0x10000000 b.cpu.regs.eip (and_parts (nat_le 0x10000000 b.cpu.regs.eip) _ (next.start k)).0) (next.outside k))
        direct_by false k = ap not (not_reloading insn.op insn.imm allowed_row)

        direct : is_direct m.image.sites (begun b insn) ≡ true
        direct =
            ap (λ (x : Bool). not x && cond (b.cpu.cpl == 3) (not (needs_descriptor insn.op))
            (not (is_site_at m.image.sites b.cpu.regs.eip))) soft
            ∙ ap (λ (x : Bool). cond x (not (needs_descriptor insn.op)) (not (is_site_at m.image.sites b.cpu.regs.eip))) user
            ∙ direct_by v.kernel refl
