-- Before an instruction that the host may do.
use Rattle.std.proofs.Common.{◌≡◌, ℕ, ◌+◌, ◌-◌, ◌*◌, ◌^◌, ◌<◌, ◌≤◌, List, [], length, Bool, true, false, cond, ◌&&◌, ◌||◌, not, ◌==◌, inl, inr, Option, Some, None, Ok, is_none, refl, sym, ap, subst, ◌∙◌}
use Rattle.std.specs.Prelude.{nat_le, nat_lt}
use Rattle.std.proofs.lemmas.Bool.{and_parts, le-leb, ltb-false}
use Rattle.guest_ram.specs.Bytes.{AreBytes}
use Rattle.ia32_types.specs.Site.{kind_of}
use Rattle.ia32_types.specs.declared.insn.Op.{Op}
use Rattle.ia32_types.specs.declared.insn.Op.TheVariants as op
use Rattle.board.specs.Boards.{board_step}
use Rattle.board.specs.declared.devices.Board.{Board}
use Rattle.paging.specs.Space.{Mode, Space}
use Rattle.sites.specs.declared.site.Site.{Site}
use Rattle.image_check.specs.Standing.{site_at, by_site, place_at}
use Rattle.image_check.specs.Places as places
use Rattle.image_check.specs.declared.place.AtOffset.TheVariants.{NotAStart}
use Rattle.machine_step.specs.declared.worked.Worked.{Worked}
use Rattle.machine_step.specs.Worked.{whats, completed_by, dropping, went_as}
use Rattle.machine_model.specs.State.{Setting, State, space_at_start}
use Rattle.machine_model.specs.Able.{IsAble}
use Rattle.machine_model.specs.Alone.{is_native}
use Rattle.machine_model.specs.Counts.{is_software, direct_in}
use Rattle.machine_model.specs.Rules.{is_open}
use Rattle.machine_model.specs.Run.{Set}
use Rattle.machine_model.specs.Step.{Went, stepped, fetches_next, items_at, interrupt_of, unheld}
use Rattle.native_steps.specs.Again as again
use Rattle.native_steps.specs.Forward.{IsNext}
use Rattle.native_steps.specs.Mirrors.{IsWedge, IsHost, IsLevelOf, shown}
use Rattle.native_steps.specs.TextLaws.{TextLaws}
use Rattle.native_steps.proofs.Together.{stepped_by}
use Rattle.wedge_core.specs.Attempts.{Idle}
use Rattle.wedge_step.specs.Parts.{IsLeft}
use Rattle.wedge_step.specs.declared.running.Lost.{Lost}
use Rattle.wedge_core.specs.Tries.{OthersAreUsers}
use Rattle.wedge_core.specs.Views.{is_outside, may_run}
use Rattle.wedge_step.proofs.Bools.{is_not, none_of}
use Rattle.wedge_core.proofs.Insensitive.{insensitive}

stands_out : (low start : Bool) (site : Option Site) → is_outside (cond low NotAStart (cond start (by_site site) NotAStart)) ≡ true
    → (low ≡ false) × (start ≡ true) × (site ≡ None)
stands_out true start site e = absurd cc
stands_out false false site e = absurd cc
stands_out false true None e = (refl, refl, refl)
stands_out false true (Some s) e = absurd cc

not_low : (eip : ℕ) → nat_lt eip 0x10000000 ≡ false → nat_le 0x10000000 eip ≡ true
not_low eip e = le-leb 0x10000000 eip (ltb-false eip 0x10000000 e)

out_of : (user out : Bool) → (user || out) ≡ true → not user ≡ true → out ≡ true
out_of true out h k = absurd cc
out_of false out h k = h

pub next_from : (m : Setting) (b : State) → may_run b.cpu b.board m.image ≡ true → b.cpu.regs.eip < 2 ^ 32
    → IsNext m (not (b.cpu.cpl == 3)) b
next_from m b may small =
    let eip : ℕ = b.cpu.regs.eip in
    let p = and_parts (not b.cpu.halted && is_none (interrupt_of b.cpu b.board))
    (b.cpu.cpl == 3 || is_outside (place_at m.image b.cpu.regs.eip)) may in
    let q = and_parts (not b.cpu.halted) (is_none (interrupt_of b.cpu b.board)) p.0 in
    record {
      awake = is_not b.cpu.halted q.0;
      quiet = none_of (interrupt_of b.cpu b.board) q.1;
      small = λ k. small;
      start = λ k. let s = stands_out (nat_lt eip 0x10000000) (places.is_start m.image.text (eip - 0x10000000))
          (site_at m.image.sites (eip - 0x10000000)) (out_of (b.cpu.cpl == 3) (is_outside (place_at m.image eip)) p.1 k) in
          ap (λ (x : Bool). x && places.is_start m.image.text (eip - 0x10000000)) (not_low eip s.0) ∙ s.1;
      outside =
          λ k. (stands_out (nat_lt eip 0x10000000) (places.is_start m.image.text (eip - 0x10000000))
          (site_at m.image.sites (eip - 0x10000000)) (out_of (b.cpu.cpl == 3) (is_outside (place_at m.image eip)) p.1 k)).2;
    }

-- ---- what is read and isn't native

software : (o : Op) → kind_of o ≡ None → is_native false o ≡ false → is_software o ≡ true
software op.Int k n = refl
software op.Int3 k n = refl
software op.PushFlags k n = absurd cc
software op.PopFlags k n = absurd cc
software op.ReadSeg k n = absurd cc
software op.PushSeg k n = absurd cc
software op.Return k n = absurd cc
software op.JumpTo k n = absurd cc
software op.CallTo k n = absurd cc
software o k n = absurd (let f : true ≡ false = sym (ap is_none k) ∙ n in cc)

is_three : (cpl : ℕ) → cpl ≡ 3 → (cpl == 3) ≡ true
is_three cpl e = ap (λ (n : ℕ). n == 3) e

is_zero : (cpl : ℕ) → cpl ≡ 0 → (cpl == 3) ≡ false
is_zero cpl e = ap (λ (n : ℕ). n == 3) e

pub others_users : (m : Setting) (w : IsWedge m) (memory : List ℕ) → IsHost m memory → (b : State) → b.ram ≡ shown m memory
    → 4096 * m.frames ≤ length b.ram → AreBytes b.ram → again.AreWithin m b.set → b.cpu.regs.eip < 2 ^ 32 → TextLaws m.image
    → IsNext m (not (b.cpu.cpl == 3)) b → IsAble b.cpu → OthersAreUsers (unheld b) (space_at_start m.mode m.frames b.cpu b.ram b.set)
others_users m w memory host b ram_is room fit sound small laws next able insn len t e n =
    elim able.level [
      | inl zero ↦
          let k = is_zero b.cpu.cpl zero in
          let next0 : IsNext m true b = subst (λ (x : Bool). IsNext m (not x) b) k next in
          let kind = insensitive m w memory host b ram_is room fit sound small laws next0 insn len t
          (subst (λ (x : Bool). Rattle.machine_model.specs.Instruction.fetched x b.cpu.regs.eip
          (space_at_start m.mode m.frames b.cpu b.ram b.set) ≡ Ok
          (Rattle.ia32_decode.specs.declared.answer.Decoded.TheVariants.Insn insn len, t)) k e) in
          inr (software insn.op kind (subst (λ (x : Bool). is_native x insn.op ≡ false) k n))
      | inr three ↦ inl (ap (λ (x : Bool). x && is_open b.cpu) (is_three b.cpu.cpl three) ∙ able.users three)
    ]

-- ---- the step

pub starts : (m : Setting) (b : State) (mode : Mode) (s : Space) → m.mode ≡ mode → (laid : List ℕ) → laid ≡ b.ram
    → s ≡ space_at_start mode m.frames b.cpu laid b.set → s ≡ space_at_start m.mode m.frames b.cpu b.ram b.set
starts m b mode s mode_is laid laid_is e = e ∙ (λ i. space_at_start (sym mode_is i) m.frames b.cpu (laid_is i) b.set)

pub step_is : (m : Setting) (b : State) → IsLevelOf (not (b.cpu.cpl == 3)) b.cpu.cpl → IsNext m (not (b.cpu.cpl == 3)) b
    → stepped m b ≡ fetches_next m (unheld b) (space_at_start m.mode m.frames b.cpu b.ram b.set)
step_is m b level next = stepped_by m (not (b.cpu.cpl == 3)) b level next

pub idle : (m : Setting) (b : State) (lost : Lost) (worked : Worked) (board : Board) (t : Space) (new : State)
    → stepped m b ≡ went_as b worked board t → new.cpu ≡ worked.cpu → new.ram ≡ t.ram → new.board ≡ board_step board → new.step ≡ b.step + 1
    → IsLeft m new (dropping worked.dropped t.set) lost → direct_in m.image.sites (completed_by worked.completed) ≡ []
    → Idle m b false lost worked.seen new
idle m b lost worked board t new e cpu ram boards step left none =
    let whole : Set = dropping worked.dropped t.set in
    record {
      alone = record {
        report = record {
          items = items_at b.step (whats worked.seen);
          completed = completed_by worked.completed;
          pages = t.visited;
          tables = t.tables;
          wrote = t.wrote;
        };
        whole = whole;
        went =
            e ∙ (λ i. Went (record {
              items = items_at b.step (whats worked.seen);
              completed = completed_by worked.completed;
              pages = t.visited;
              tables = t.tables;
              wrote = t.wrote;
            }) (record { cpu = sym cpu i; ram = sym ram i; set = whole; board = sym boards i; step = sym step i }));
        kept = left;
        items = refl;
      };
      uncounted = none;
    }
