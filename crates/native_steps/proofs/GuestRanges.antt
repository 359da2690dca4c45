-- The guest's ranges, where both machines reach their pages.
use Rattle.std.proofs.Common.{◌≡◌, ℕ, ◌+◌, ◌-◌, ◌/◌, ◌≤◌, List, Bool, not, ◌==◌, Option, Some, None, Ok, refl, sym, ap, subst, ◌∙◌, arith}
use Rattle.ia32_exec.specs.declared.access.Range.{Range}
use Rattle.ia32_exec.specs.Short.{IsShort}
use Rattle.descriptors.specs.declared.cpu.Cpu.{Cpu}
use Rattle.descriptors.specs.Controls.{wp_of}
use Rattle.paging.specs.declared.entry.Access.{Access}
use Rattle.paging.specs.Space.{Mode, Wedge, Space}
use Rattle.paging.specs.Uses.{window_stop}
use Rattle.sys_exec.specs.Access.{reaching}
use Rattle.step_exec.specs.Plain.{reached}
use Rattle.host_cpl3.specs.declared.view.View.{View}
use Rattle.host_cpl3.specs.Access.{last_page}
use Rattle.image_load.specs.Boot.{text_pages}
use Rattle.machine_model.specs.State.{Setting, State}
use Rattle.native_steps.specs.Lends.{Lends}
use Rattle.native_steps.specs.Mirrors.{IsWedge, Mirrors}
use Rattle.native_steps.specs.Backward.{IsReached, IsRangeReached}
use Rattle.native_steps.proofs.Pages.{At, Comes, HasEntry, lent_entry, range_passes, reaching_comes}
use Rattle.native_steps.proofs.Uses.{reaching_uses, ready_parts, window_above}
use Rattle.native_steps.proofs.HostParts.{leads_from}
use Rattle.native_steps.proofs.Sharing.{IsShared, AreShared, range_shared, free_data}

module _ (m : Setting) (w : IsWedge m) (memory : List ℕ) (v : View) (b : State) (stands : Mirrors m memory v b) (cpu : Cpu)
    (user : (cpu.cpl == 3) ≡ not v.kernel) where
  same_last : (r : Range) → 1 ≤ r.len → last_page r ≡ (r.at + r.len - 1) / 4096
  same_last r some = omega (arith, some)

  abbrev by_cpu : Bool → Access
  by_cpu write = record { write = write; user = cpu.cpl == 3 }

  range_comes : (s : Space) (write : Bool) (r : Range) → At m b s → IsShared m w memory v b stands write r
      → Comes m b tt (reaching r.at r.len (by_cpu write) s)
  range_comes s write r h q =
      let last = same_last r q.some in
      let lent1 = lent_entry m v.kernel (wp_of b.cpu) b.set write (r.at / 4096) q.first q.first_is.lent in
      let lent2 = subst (λ (p : ℕ). HasEntry v.kernel (wp_of b.cpu) b.set write p q.last) last
      (lent_entry m v.kernel (wp_of b.cpu) b.set write (last_page r) q.last q.last_is.lent) in
      let p = range_passes m b v.kernel s r.at r.len write q.first q.last h q.fits q.above lent1
      (free_data m w memory v b stands (r.at / 4096) q.first q.first_is.plain) lent2
      (free_data m w memory v b stands ((r.at + r.len - 1) / 4096) q.last q.last_is.plain) in
      let c = reaching_comes m b v.kernel s r.at r.len write p in
      record { space = c.space; is = ap (λ (u : Bool). reaching r.at r.len (record { write = write; user = u }) s) user ∙ c.is; at = c.at }

  pub reached_comes : (s : Space) (write : Bool) (o : Option Range) → At m b s → AreShared m w memory v b stands write o
      → Comes m b tt (reached cpu write o s)
  reached_comes s write None h q = record { space = s; is = refl; at = h }
  reached_comes s write (Some r) h q = range_comes s write r h q

  range_from : Lends m memory v.root v.kernel (wp_of b.cpu) b.set → (s t : Space) (write : Bool) (r : Range) → At m b s → (1 ≤ r.len)
      × (r.len ≤ 32) → IsReached memory v.root write (r.at / 4096) → IsReached memory v.root write (last_page r)
      → reaching r.at r.len (by_cpu write) s ≡ Ok (tt, t) → IsShared m w memory v b stands write r
  range_from lends s t write r h short first last e =
      let parts = ready_parts s r.at r.len (by_cpu write) (reaching_uses s t r.at r.len (by_cpu write) e).0 in
      let first_in = parts.0 in
      let some = short.0 in
      let window : window_stop (Wedge 0x100 (text_pages m.image) h.own) (record { write = write; user = not v.kernel }) r.at ≡ None =
      ap (λ (u : Bool). window_stop (Wedge 0x100 (text_pages m.image) h.own) (record { write = write; user = u }) r.at) (sym user)
      ∙ ap (λ (x : Mode). window_stop x (by_cpu write) r.at) (sym h.mode)
      ∙ parts.1 in
      range_shared m w memory v b stands lends write r short.0 short.1 parts.0 (window_above v.kernel r.at window)
      first.0 (leads_from memory v.root (r.at / 4096) (omega (arith, first_in, some)) write first.0 first.1) last.0
      (leads_from memory v.root (last_page r) (omega (arith, first_in, some)) write last.0 last.1)

  pub reached_from : Lends m memory v.root v.kernel (wp_of b.cpu) b.set → (s t : Space) (write : Bool) (o : Option Range) → At m b s
      → IsShort o → IsRangeReached memory v.root write o → reached cpu write o s ≡ Ok (tt, t) → AreShared m w memory v b stands write o
  reached_from lends s t write None h short pages e = tt
  reached_from lends s t write (Some r) h short pages e = range_from lends s t write r h short pages.0 pages.1 e
