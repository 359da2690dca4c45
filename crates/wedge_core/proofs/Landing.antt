-- A guest after instructions that the host did one after the other.
use Rattle.std.proofs.Common.{◌≡◌, ℕ, zero, suc, ◌+◌, ◌-◌, ◌≤◌, ◌<◌, ◌==◌, Bool, true, false, ◌&&◌, ◌||◌, not, List, [], ◌∷◌, length, replicate, Option, Some, None, is_none, refl, sym, ap, ◌∙◌, cond, arith}
use Rattle.std.specs.Prelude.{nat_lt}
use Rattle.std.proofs.lemmas.Bool.{and_parts, le-leb, ltb-false}
use Rattle.board.specs.declared.devices.Board.{Board}
use Rattle.board.specs.Quiet.{board_steps, comes_within}
use Rattle.descriptors.specs.declared.cpu.Cpu.{Cpu}
use Rattle.ia32_types.specs.declared.flags.Regs.{Regs}
use Rattle.sites.specs.declared.site.Site.{Site}
use Rattle.image_check.specs.Image.{Image}
use Rattle.image_check.specs.Places as places
use Rattle.image_check.specs.Standing.{site_at, by_site, place_at}
use Rattle.image_check.specs.declared.place.AtOffset.TheVariants.{NotAStart}
use Rattle.host_cpl3.specs.declared.view.View.{View}
use Rattle.host_cpl3.specs.declared.exit.Exit.{Exit}
use Rattle.host_cpl3.specs.declared.exit.Exit.TheVariants as exits
use Rattle.host_cpl3.specs.HostRun.{Standing}
use Rattle.machine_model.specs.State.{Setting, State}
use Rattle.machine_model.specs.Step.{Report, interrupt_of}
use Rattle.machine_model.specs.Run.{Set, Steps}
use Rattle.native_steps.specs.Forward.{IsEntrance}
use Rattle.native_steps.specs.Stretch.{AreQuiet, board_now, board_after, EndsAs}
use Rattle.wedge_core.specs.Ran.{landed}
use Rattle.wedge_core.specs.Views.{is_outside, may_run}
use Rattle.wedge_step.proofs.Bools.{is_not, none_some, clash, none_of}

-- ---- the processor may go on

-- at level 0 it stands where the text has an instruction outside sites
pub record IsBetween (image : Image) (eip : ℕ) : Type 0 where
  pub above : 0x10000000 ≤ eip
  pub start : places.is_start image.text (eip - 0x10000000) ≡ true
  pub outside : site_at image.sites (eip - 0x10000000) ≡ None

placed_between : (image : Image) (eip : ℕ) (low start : Bool) (site : Option Site) → nat_lt eip 0x10000000 ≡ low
    → places.is_start image.text (eip - 0x10000000) ≡ start → site_at image.sites (eip - 0x10000000) ≡ site
    → is_outside (cond low NotAStart (cond start (by_site site) NotAStart)) ≡ true → IsBetween image eip
placed_between image eip true start site a b c e = absurd (let f : false ≡ true = e in cc)
placed_between image eip false false site a b c e = absurd (let f : false ≡ true = e in cc)
placed_between image eip false true None a b c e = record { above = ltb-false eip 0x10000000 a; start = b; outside = c }
placed_between image eip false true (Some s) a b c e = absurd (let f : false ≡ true = e in cc)

between : (image : Image) (eip : ℕ) → is_outside (place_at image eip) ≡ true → IsBetween image eip
between image eip e = placed_between image eip (nat_lt eip 0x10000000) (places.is_start image.text (eip - 0x10000000))
    (site_at image.sites (eip - 0x10000000)) refl refl refl e

entrance_of : (image : Image) (eip : ℕ) → IsBetween image eip → IsEntrance image eip
entrance_of image eip h = record {
  above = h.above;
  start = (let le = le-leb 0x10000000 eip h.above in ap (λ (x : Bool). x && places.is_start image.text (eip - 0x10000000)) le ∙ h.start);
  way_in = record { start = h.start; first = λ site is. absurd (none_some site (sym h.outside ∙ is)) };
}

pub record MayRun (cpu : Cpu) (board : Board) (image : Image) : Type 0 where
  pub awake : cpu.halted ≡ false
  pub quiet : interrupt_of cpu board ≡ None
  pub entrance : not (cpu.cpl == 3) ≡ true → IsEntrance image cpu.regs.eip

pub may_runs : (cpu : Cpu) (board : Board) (image : Image) (told : Bool) → told ≡ may_run cpu board image → told ≡ true
    → MayRun cpu board image
may_runs cpu board image told is yes_told =
    let e : may_run cpu board image ≡ true = sym is ∙ yes_told in
    let user = cpu.cpl == 3 in
    let out = is_outside (place_at image cpu.regs.eip) in
    let parts = and_parts (not cpu.halted && is_none (interrupt_of cpu board)) (user || out) e in
    let first = and_parts (not cpu.halted) (is_none (interrupt_of cpu board)) parts.0 in
    record {
      awake = is_not cpu.halted first.0;
      quiet = none_of (interrupt_of cpu board) first.1;
      entrance = λ k. entrance_of image cpu.regs.eip (between image cpu.regs.eip (by user out (is_not user k) parts.1));
    }
  where
    by : (user out : Bool) → user ≡ false → (user || out) ≡ true → out ≡ true
    by true out f g = absurd (clash true refl f)
    by false out f g = g

-- nothing comes in the next k steps but in the first
pub quiet_steps : (m : Setting) (b : State) (board : Board) (k : ℕ) → board_now m b ≡ board → interrupt_of b.cpu board ≡ None
    → (0 < k → comes_within board m.script b.step (k - 1) ≡ false) → AreQuiet m b k
quiet_steps m b board zero is none quiet = tt
quiet_steps m b board (suc k) is none quiet =
    let one : suc k - 1 ≡ k = omega arith in (
      ap (interrupt_of b.cpu) is ∙ none,
      ap (λ (x : Board). comes_within x m.script b.step k) is ∙ (ap (comes_within board m.script b.step) (sym one) ∙ quiet (omega arith)),
    )

-- ---- where an exit leaves the host

pub record Lands (exit : Exit) (last t : Standing) : Type 0 where
  pub ram : t.ram ≡ last.ram
  pub retired : t.retired ≡ last.retired
  pub passed : t.passed ≡ last.passed
  pub regs : landed exit t.regs ≡ last.regs

lands_same : (exit : Exit) (last t : Standing) → ((r : Regs) → landed exit r ≡ r) → t ≡ last → Lands exit last t
lands_same exit last t here e = record {
  ram = ap (λ (x : Standing). x.ram) e;
  retired = ap (λ (x : Standing). x.retired) e;
  passed = ap (λ (x : Standing). x.passed) e;
  regs = here t.regs ∙ ap (λ (x : Standing). x.regs) e;
}

pub lands : (m : Setting) (v : View) (exit : Exit) (last t : Standing) → EndsAs m v exit last t → Lands exit last t
lands m v (exits.Entry at) last t e =
    let is = e.5 in
    let eip = e.2 in
    let window = e.4 in
    let back : at + 0x0B0B0B07 ≡ last.regs.eip = omega (arith, eip, window) in
    record {
      ram = ap (λ (x : Standing). x.ram) is;
      retired = ap (λ (x : Standing). x.retired) is;
      passed = ap (λ (x : Standing). x.passed) is;
      regs = ap (λ (x : Standing). record x.regs { eip = at + 0x0B0B0B07 }) is ∙ ap (λ (n : ℕ). record last.regs { eip = n }) back;
    }
lands m v (exits.Fault vector code cr2) last t e = lands_same (exits.Fault vector code cr2) last t (λ r. refl) e
lands m v (exits.Soft vector) last t e = lands_same (exits.Soft vector) last t (λ r. refl) e
lands m v exits.Outside last t e = lands_same exits.Outside last t (λ r. refl) e
lands m v exits.FlagBits last t e = lands_same exits.FlagBits last t (λ r. refl) e
lands m v exits.Wrap last t e = lands_same exits.Wrap last t (λ r. refl) e
lands m v exits.Budget last t e = lands_same exits.Budget last t (λ r. refl) e

-- ---- parts of states

pub state_is : (x y : State) → x.cpu ≡ y.cpu → x.ram ≡ y.ram → x.set ≡ y.set → x.board ≡ y.board → x.step ≡ y.step → x ≡ y
state_is x y a b c d e = λ i. record { cpu = a i; ram = b i; set = c i; board = d i; step = e i }

pub board_some : (m : Setting) (b : State) (n : ℕ) → 0 < n → board_after m b n ≡ board_steps n (board_now m b)
board_some m b zero lt = absurd (omega (arith, lt))
board_some m b (suc n) lt = refl

pub steps_none : (m : Setting) (b after : State) (sets : List Set) (reports : List Report) → sets ≡ [] → Steps m b sets reports after
    → (reports ≡ []) × (after ≡ b)
unfolding Steps
steps_none m b after [] reports e s = s
steps_none m b after (x ∷ xs) reports e s = absurd (let n : suc (length xs) ≡ 0 = ap length e in omega (arith, n))

pub no_sets : (n : ℕ) (set : Set) → n ≡ 0 → replicate n set ≡ []
no_sets zero set e = refl
no_sets (suc n) set e = absurd (omega (arith, e))
