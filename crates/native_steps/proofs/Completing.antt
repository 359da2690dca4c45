-- What both do, they complete alike.
use Rattle.std.proofs.Common.{◌≡◌, ℕ, ◌+◌, ◌-◌, ◌/◌, ◌%◌, ◌≤◌, List, [], Bool, true, false, cond, ◌&&◌, ◌||◌, not, ◌==◌, Some, Ok, refl, sym, ap, subst, ◌∙◌, arith}
use Rattle.std.specs.Prelude.{nat_le, nat_lt}
use Rattle.std.specs.FinMap.{FinMap, get}
use Rattle.std.specs.Ordering.{nat_cmp}
use Rattle.std.proofs.lemmas.Bool.{cond-true, cond-false, and_parts, le-leb, le-ltb, leb-true}
use Rattle.guest_ram.specs.Among.{is_among}
use Rattle.guest_ram.specs.Bytes.{frame}
use Rattle.ia32_types.specs.declared.flags.Regs.{Regs}
use Rattle.ia32_types.specs.declared.insn.Insn.{Insn}
use Rattle.ia32_types.specs.declared.insn.Op.{Op}
use Rattle.ia32_types.specs.declared.insn.Op.TheVariants as op
use Rattle.ia32_types.specs.declared.stop.Stop.TheVariants as stops
use Rattle.ia32_exec.specs.declared.outcome.Outcome as exec
use Rattle.ia32_exec.specs.declared.outcome.Outcome.TheVariants as outcomes
use Rattle.ia32_exec.specs.declared.outcome.Stores.{Stores}
use Rattle.ia32_exec.specs.Commit.{list_of}
use Rattle.ia32_exec.specs.Outcomes.{AreStored}
use Rattle.ia32_exec.specs.Effect.{ranges_of, effect}
use Rattle.ia32_exec.proofs.UserWithin.{within_user}
use Rattle.descriptors.specs.declared.cpu.Cpu.{Cpu}
use Rattle.paging.specs.declared.entry.Entry.{Entry}
use Rattle.paging.specs.Space as space
use Rattle.paging.specs.Space.{Mode, Bare, Wedge, Space, place_by}
use Rattle.board.specs.Boards.{board_step}
use Rattle.native_steps.specs.EffectLaws.{EffectLaws}
use Rattle.step_exec.specs.Users.{user_finished}
use Rattle.step_exec.specs.Plain.{stored_all}
use Rattle.host_cpl3.specs.declared.view.View.{View}
use Rattle.host_cpl3.specs.declared.exit.Completion.{Completion}
use Rattle.host_cpl3.specs.declared.exit.Completion.TheVariants.{Completed, Entered}
use Rattle.host_cpl3.specs.Permit.{permitted_row, permitted}
use Rattle.host_cpl3.specs.Views.{selectors_of, is_window, is_entry}
use Rattle.host_cpl3.specs.Pages.{place}
use Rattle.host_cpl3.specs.Store.{all_stored}
use Rattle.host_cpl3.specs.HostStep.{is_jump, ended, finished, host_step}
use Rattle.host_cpl3.proofs.Storing.{stores_same}
use Rattle.host_cpl3.proofs.Reading.{parts_stored}
use Rattle.image_check.specs.Image.{Image}
use Rattle.image_check.specs.Sweep.{Swept}
use Rattle.image_check.specs.Places as places
use Rattle.image_check.specs.Places.{linear}
use Rattle.image_check.specs.Standing.{StandsOutside}
use Rattle.image_laws.specs.WaysIn.{IsWayIn}
use Rattle.machine_model.specs.State.{Setting, State}
use Rattle.machine_model.specs.Rules as rules
use Rattle.machine_model.specs.Step as step
use Rattle.machine_model.specs.Taken.{is_load, is_control_3, is_write}
use Rattle.native_steps.specs.Lends.{IsUnlent}
use Rattle.native_steps.specs.Mirrors.{IsWedge, IsLevelOf, Sees, Mirrors, shown}
use Rattle.native_steps.specs.Native.{byte_of, effect_of, IsNative}
use Rattle.native_steps.specs.Forward.{IsEntrance, IsNext, Follows}
use Rattle.native_steps.specs.Backward.{Completes}
use Rattle.native_steps.proofs.Doing.{plain_effect}
use Rattle.ia32_exec.specs.FlagsAfter.{AreKept, Leaves}
use Rattle.native_steps.proofs.Shown.{shown_same}
use Rattle.native_steps.proofs.Sharing.{IsFound, covers, covers_elsewhere}
use Rattle.native_steps.proofs.Stored.{stored_is, IsPlace, Keeps, stores_kept, IsBeside, frame_still}
use Rattle.native_steps.specs.TextLaws.{TextLaws}
use Rattle.native_steps.proofs.Together.{IsCommon, native}

-- at level 0 the instruction is one of the text, outside sites
pub record IsSwept (image : Image) (eip : ℕ) (insn : Insn) (len : ℕ) : Type 0 where
  pub swept : Swept
  pub outside : StandsOutside image swept
  pub place : eip ≡ linear swept.at
  pub insn_is : insn ≡ swept.insn
  pub len_is : len ≡ swept.len

-- the host permits no load of a control register
not_control : (o : Op) (imm : ℕ) → permitted_row o imm ≡ Ok tt → is_write o ≡ false
not_control op.WriteControl imm e = absurd cc
not_control o imm e = refl

-- ---- where control goes at level 0

module _ (image : Image) (laws : TextLaws image) where
  start_at : (at : ℕ) → places.is_start image.text at ≡ true → rules.is_start image (linear at) ≡ true
  unfolding places.is_start
  start_at at e =
      let back : linear at - 0x10000000 ≡ at = omega arith in
      ap (λ x. x && is_among (linear at - 0x10000000) (Rattle.image_check.specs.Sweep.starts_of image.text))
      (le-leb 0x10000000 (linear at) (omega arith))
      ∙ ap (λ n. is_among n (Rattle.image_check.specs.Sweep.starts_of image.text)) back
      ∙ e

  entrance : (at : ℕ) → IsWayIn image at → IsEntrance image (linear at)
  entrance at h =
      let back : at ≡ linear at - 0x10000000 = omega arith in
      record { above = omega arith; start = start_at at h.start; way_in = subst (IsWayIn image) back h }

  pub start_there : (eip : ℕ) → rules.is_start image eip ≡ true → (0x10000000 ≤ eip)
      × (places.is_start image.text (eip - 0x10000000) ≡ true)
  unfolding places.is_start
  start_there eip e =
      let p = and_parts (nat_le 0x10000000 eip) _ e in
      (leb-true 0x10000000 eip p.0, p.1)

  pub goes_in : (r : Regs) (insn : Insn) (len : ℕ) (b : ℕ → ℕ) (regs : Regs) (stores : Stores) → IsSwept image r.eip insn len
      → effect insn len r b ≡ outcomes.Done regs stores → IsEntrance image regs.eip
  goes_in r insn len b regs stores t e =
      let there : effect t.swept.insn t.swept.len r b ≡ outcomes.Done regs stores =
      ap (λ (i : Insn). effect i t.swept.len r b) (sym t.insn_is) ∙ ap (λ n. effect insn n r b) (sym t.len_is) ∙ e in
      let p = laws.goes_on t.swept t.outside r t.place b regs stores there in
      subst (IsEntrance image) (sym p.1) (entrance p.0 p.2)

pub no_window : (at : ℕ) → 0x10000000 ≤ at → is_window at ≡ false
no_window at le = either (nat_le 67108864 at) (le-ltb at 100663296 (omega (arith, le)))
  where
    either : (c : Bool) → nat_lt at 100663296 ≡ false → (c && nat_lt at 100663296) ≡ false
    either true e = e
    either false e = refl

module _ (flags : EffectLaws) (m : Setting) (w : IsWedge m) (laws : TextLaws m.image) (memory : List ℕ) (v : View) (b : State)
    (stands : Mirrors m memory v b) (next : IsNext m v.kernel b)
    (insn : Insn) (len : ℕ) (c : IsCommon flags m w memory v b stands next insn len)
    (text : v.kernel ≡ true → IsSwept m.image b.cpu.regs.eip insn len)
  where
    done_flags : (o : exec.Outcome) (regs : Regs) (stores : Stores) → o ≡ outcomes.Done regs stores → Leaves b.cpu.regs o
        → AreKept b.cpu.regs.flags regs.flags
    done_flags o regs stores e h = let k = subst (Leaves b.cpu.regs) e h in k

    module _ (regs : Regs) (stores : Stores) (e : effect_of v b insn len ≡ outcomes.Done regs stores) where
      pub leads : v.kernel ≡ true → IsEntrance m.image regs.eip
      leads k =
          let same : effect insn len b.cpu.regs (byte_of b) ≡ outcomes.Done regs stores =
          sym (plain_effect (selectors_of v) insn len b.cpu.regs (byte_of b) (c.plain_is k)) ∙ e in
          goes_in m.image laws b.cpu.regs insn len (byte_of b) regs stores (text k) same

      kept : AreKept b.cpu.regs.flags regs.flags
      kept = done_flags (effect_of v b insn len) regs stores e (flags.stay insn len b.cpu.regs (selectors_of v) (byte_of b))

      not_entry : (k : Bool) → v.kernel ≡ k → (k && is_window regs.eip) ≡ false
      not_entry true k = no_window regs.eip (leads k).above
      not_entry false k = refl

      pub completes : ended v insn.op regs ≡ Completed regs
      completes = either (is_jump insn.op) (not_entry v.kernel refl)
        where
          either : (j : Bool) → is_entry v regs.eip ≡ false
              → cond (j && is_entry v regs.eip) (Entered regs) (Completed regs) ≡ Completed regs
          either true f = cond-false (is_entry v regs.eip) (Entered regs) (Completed regs) f
          either false f = refl

      after_memory : List ℕ
      after_memory = all_stored (place memory v.root) memory (list_of stores)

      n : IsNative m memory v b insn len
      n = native flags m w memory v b stands next insn len c

      host : host_step v memory b.cpu.regs ≡ Ok (Completed regs, after_memory)
      unfolding after_memory
      host = n.host ∙ ap (finished v insn.op memory) e
          ∙ ap (λ (d : Completion). Ok (d, all_stored (place memory v.root) memory (list_of stores))) completes

      -- ---- the stores

      abbrev IsBoth : ℕ → Type 0
      IsBoth a = (space.place n.space a ≡ place memory v.root a) × IsPlace m w memory (place memory v.root) a

      found_both : (a : ℕ) → IsFound m w memory v b stands a → IsBoth a
      unfolding space.place
      found_both a f = (
        ap (λ (set : FinMap nat_cmp Entry). place_by (get set (a / 4096)) a) n.set ∙ f.guest ∙ sym f.host,
        record {
          within = let lt = f.within in let p = f.host in omega (arith, lt, p);
          apart = subst (λ (x : ℕ). Rattle.native_steps.proofs.Shown.IsApart m x 1) (sym f.host) f.apart;
        },
      )

      stored : AreStored (λ a. space.place n.space a ≡ place memory v.root a) stores
          × AreStored (IsPlace m w memory (place memory v.root)) stores
      stored =
          parts_stored (λ a. space.place n.space a ≡ place memory v.root a) (IsPlace m w memory (place memory v.root)) stores
          (within_user IsBoth (selectors_of v) insn len b.cpu.regs (byte_of b) (outcomes.Done regs stores) (sym e)
          (covers m w memory v b stands IsBoth found_both true (ranges_of insn b.cpu.regs).write c.write))

      keeps : Keeps m w memory (place memory v.root) (all_stored (place memory v.root) memory (list_of stores))
          (all_stored (place memory v.root) (shown m memory) (list_of stores))
      keeps = stores_kept m w memory (place memory v.root) stands.host stores stored.1

      -- none of them lies in a frame to which no write passes
      untouched : (at : ℕ) → IsUnlent memory v.root at → frame (all_stored (place memory v.root) memory (list_of stores))
          at ≡ frame memory at
      untouched at none =
          frame_still memory (place memory v.root) at stores
          (within_user (IsBeside memory (place memory v.root) at) (selectors_of v) insn len b.cpu.regs (byte_of b)
          (outcomes.Done regs stores) (sym e)
          (covers_elsewhere m w memory v b stands at none (IsBeside memory (place memory v.root) at) (λ a f other. record {
            within = let lt = f.within in let p = f.host in let room = stands.host.room in omega (arith, lt, p, room);
            other = other;
          }) (ranges_of insn b.cpu.regs).write c.write))

      end : Space
      end = stored_all n.space (list_of stores)

      end_ram : end.ram ≡ shown m (all_stored (place memory v.root) memory (list_of stores))
      unfolding end
      end_ram =
          ap (λ (s : Space). s.ram) (stored_is n.space (list_of stores))
          ∙ ap (λ (x : List ℕ). all_stored (space.place n.space) x (list_of stores)) (n.ram ∙ stands.ram)
          ∙ stores_same (space.place n.space) (place memory v.root) (shown m memory) stores stored.0
          ∙ keeps.shown_is

      guest_untouched : (at : ℕ) → IsUnlent memory v.root at → frame end.ram at ≡ frame b.ram at
      guest_untouched at none =
          ap (λ (x : List ℕ). frame x at) end_ram
          ∙ shown_same m w memory stands.host (all_stored (place memory v.root) memory (list_of stores)) keeps.long at (untouched at none)
          ∙ sym (ap (λ (x : List ℕ). frame x at) stands.ram)

      end_pages : Rattle.native_steps.specs.Lends.AreKept b.set end.visited
      unfolding end
      end_pages = subst (Rattle.native_steps.specs.Lends.AreKept b.set)
          (ap (λ (s : Space). s.visited) (sym (stored_is n.space (list_of stores)))) n.visited

      end_tables : end.tables ≡ []
      unfolding end
      end_tables = ap (λ (s : Space). s.tables) (stored_is n.space (list_of stores)) ∙ n.tables

      end_set : end.set ≡ b.set
      unfolding end
      end_set = ap (λ (s : Space). s.set) (stored_is n.space (list_of stores)) ∙ n.set

      -- ---- the guest's step

      new_cpu : Cpu
      new_cpu = record b.cpu { regs = regs; held = false }

      after : State
      after = record { cpu = new_cpu; ram = end.ram; set = end.set; board = board_step b.board; step = b.step + 1 }

      report : step.Report
      report = record { items = []; completed = Some (step.begun b insn); pages = end.visited; tables = end.tables; wrote = end.wrote }

      stays_there : (mode : Mode) (cpl : ℕ) (k : Bool) → IsLevelOf k cpl → (x : Bool)
          → cond {A = Bool} true (not (cpl == 0 && cpl == 3) || x) true ≡ true
      stays_there mode cpl true l x = ap (λ y. not (y == 0 && y == 3) || x) l
      stays_there mode cpl false l x = ap (λ y. not (y == 0 && y == 3) || x) l

      may_leave : (mode : Mode) → rules.may_leave mode (step.unheld b).cpu new_cpu ≡ true
      unfolding new_cpu
      may_leave Bare = refl
      may_leave (Wedge t count own) =
          stays_there Bare b.cpu.cpl v.kernel stands.sees.level (rules.is_open (record b.cpu { regs = regs; held = false }))

      went : step.stepped m b ≡ step.Went report after
      unfolding after report new_cpu end
      went =
          n.guest
          ∙ ap (λ (o : exec.Outcome). step.after_instruction m (step.unheld b) (step.begun b insn)
          (user_finished (step.unheld b).cpu o n.space)) e
          ∙ cond-true (rules.may_leave m.mode (step.unheld b).cpu (record b.cpu { regs = regs; held = false })) (step.Went report after)
          (step.Halts stops.UserFlags) (may_leave m.mode)

      still_open : rules.is_open b.cpu ≡ true → rules.is_open new_cpu ≡ true
      unfolding new_cpu
      still_open h =
          let k = kept in
          ap (λ x. (x == 1) && (regs.flags.bits / 4096 % 4 == 0)) k.interrupt
          ∙ ap (λ x. (b.cpu.regs.flags.bits / 512 % 2 == 1) && (x % 4 == 0)) k.level ∙ h

      still_sees : Sees v new_cpu
      unfolding new_cpu
      still_sees =
          let s = stands.sees in
          record {
            level = s.level;
            es = s.es;
            cs = s.cs;
            ss = s.ss;
            ds = s.ds;
            es_null = s.es_null;
            cs_null = s.cs_null;
            ss_null = s.ss_null;
            ds_null = s.ds_null;
            user_flags = λ k. still_open (s.user_flags k);
          }

      through : is_load (Some (step.begun b insn)) ≡ false
      unfolding permitted
      through = ap (λ x. x && is_control_3 insn.a) (not_control insn.op insn.imm c.allowed)

      follows : Follows m v b memory regs after_memory
      unfolding after report after_memory new_cpu
      follows = record {
        report = report;
        after = after;
        went = went;
        unseen = refl;
        unwalked = end_tables;
        pages = end_pages;
        completed = step.begun b insn;
        completes = refl;
        through = through;
        direct = n.direct;
        eip = refl;
        cpu = refl;
        set = end_set;
        board = refl;
        count = refl;
        stands = record { host = keeps.host; ram = end_ram; sees = still_sees };
        interrupts = let k = kept in ap (λ n. n == 1) k.interrupt;
        size = keeps.long;
        behind = keeps.behind;
        untouched = untouched;
        guest_untouched = guest_untouched;
        leads = leads;
      }

      pub both_complete : Completes m memory v b regs
      both_complete = record { after_memory = after_memory; host = host; follows = follows }
