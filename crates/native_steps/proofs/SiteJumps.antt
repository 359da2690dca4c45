-- The jump at a site's first byte.
use Rattle.std.proofs.Common.{◌≡◌, ℕ, ◌+◌, ◌/◌, ◌%◌, ◌^◌, ◌<◌, ◌≤◌, List, ◌++◌, length, true, ◌&&◌, Ok, sym, ap, subst, ◌∙◌, inl, inr, arith}
use Rattle.std.specs.Prelude.{nat_lt}
use Rattle.std.proofs.lemmas.Bool.{cases_lt, cond-true, le-leb, lt-ltb}
use Rattle.descriptors.specs.Controls.{wp_of}
use Rattle.guest_ram.specs.Bytes.{part}
use Rattle.ia32_types.specs.declared.addresses.TheConstants.{WINDOW_ADDRESS, WINDOW_END}
use Rattle.ia32_types.specs.declared.flags.Regs.{Regs}
use Rattle.ia32_types.specs.declared.insn.Insn.{Insn}
use Rattle.ia32_types.specs.declared.insn.Op.TheVariants as op
use Rattle.ia32_decode.specs.declared.answer.Decoded.TheVariants as begins
use Rattle.ia32_decode.specs.Decoding.{decoded}
use Rattle.ia32_decode.specs.Front.{front_len}
use Rattle.ia32_exec.specs.Control.{jump, jumped}
use Rattle.ia32_exec.specs.Effect.{effect}
use Rattle.ia32_exec.specs.UserEffect.{user_effect}
use Rattle.host_cpl3.specs.declared.view.View.{View}
use Rattle.host_cpl3.specs.declared.exit.Completion.{Completion}
use Rattle.host_cpl3.specs.declared.exit.Completion.TheVariants.{Completed, Entered}
use Rattle.host_cpl3.specs.Met.{Met}
use Rattle.host_cpl3.specs.Views.{is_window}
use Rattle.host_cpl3.specs.HostStep.{ended, host_step}
use Rattle.sites.specs.Patched.{patched}
use Rattle.image_check.specs.Places.{linear}
use Rattle.image_laws.specs.Patches.{jump_out, window_at}
use Rattle.machine_model.specs.State.{Setting, State}
use Rattle.native_steps.specs.Lends.{Lends}
use Rattle.native_steps.specs.Mirrors.{IsWedge, Mirrors}
use Rattle.native_steps.proofs.Ways.{front_at, Way}
use Rattle.native_steps.proofs.HostParts.{effect_there, host_parts}
use Rattle.native_steps.proofs.Shown.{text_patched}
use Rattle.native_steps.proofs.Standing.{front_is, way_to}
use Rattle.native_steps.proofs.FetchShared as shared
use Rattle.native_steps.proofs.FetchShared.{IsCode}
use Rattle.native_steps.proofs.Deriving.{IsPlaced, SharesFetch, small, placed, behind, code}

-- what the laws say of a site
pub record IsSite (m : Setting) (at : ℕ) : Type 0 where
  pub fits : at + 5 ≤ length m.image.text
  pub jump : (more : List ℕ) → decoded (part (patched m.image.text 0 m.image.sites) at 5 ++ more) ≡ begins.Insn jump_out 5
  pub cut : (n : ℕ) → n < 5 → decoded (part (patched m.image.text 0 m.image.sites) at n) ≡ begins.Short
  pub leads : ((linear at + 5) % 2 ^ 32 + jump_out.imm) % 2 ^ 32 ≡ window_at at
  pub low : WINDOW_ADDRESS ≤ window_at at
  pub high : window_at at < WINDOW_END

in_window : (at : ℕ) → WINDOW_ADDRESS ≤ at → at < WINDOW_END → is_window at ≡ true
in_window at low high = ap (λ b. b && nat_lt at WINDOW_END) (le-leb WINDOW_ADDRESS at low) ∙ lt-ltb at WINDOW_END high

module _ (m : Setting) (w : IsWedge m) (memory : List ℕ) (v : View) (b : State) (stands : Mirrors m memory v b)
    (lends : Lends m memory v.root v.kernel (wp_of b.cpu) b.set)
    (kernel : v.kernel ≡ true) (at : ℕ) (place : b.cpu.regs.eip ≡ 0x10000000 + at) (site : IsSite m at)
  where
    p : IsPlaced m b.cpu.regs.eip at 5
    p = record { place = place; some = omega arith; few = omega arith; fits = site.fits }

    abbrev there : Regs
    there = jumped jump_out 5 b.cpu.regs

    leads_there : there.eip ≡ window_at at
    leads_there = ap (λ x. ((x + 5) % 2 ^ 32 + jump_out.imm) % 2 ^ 32) place ∙ site.leads

    entered : ended v op.Jmp there ≡ Entered there
    entered =
        let window : is_window there.eip ≡ true = ap is_window leads_there ∙ in_window (window_at at) site.low site.high in
        cond-true (v.kernel && is_window there.eip) (Entered there) (Completed there) (ap (λ k. k && is_window there.eip) kernel ∙ window)

    effect_is : effect_there memory v b.cpu.regs jump_out 5 ≡ Ok (Entered there, memory)
    unfolding user_effect effect jump
    effect_is = ap (λ (d : Completion). Ok (d, memory)) entered

    same_pair : (d e : Completion) (x y : List ℕ) → ◌≡◌ {A = Met (Completion × List ℕ)} (Ok (d, x)) (Ok (e, y)) → (d ≡ e) × (x ≡ y)
    same_pair d e x y g = let q : ◌≡◌ {A = Completion × List ℕ} (d, x) (e, y) =
        cc in (ap (λ (o : Completion × List ℕ). o.0) q, ap (λ (o : Completion × List ℕ). o.1) q)

    pub jumps : (done : Completion) (after_memory : List ℕ) → host_step v memory b.cpu.regs ≡ Ok (done, after_memory)
        → (done ≡ Entered (record b.cpu.regs { eip = window_at at })) × (after_memory ≡ memory)
    jumps done after_memory e =
        let d = host_parts memory v b.cpu.regs (done, after_memory) e in
        let c = code m w memory v b stands lends at 5 b.cpu.regs.eip p in
        let fits = site.fits in
        let few = small m w memory v b stands lends in
        let second : (frame : ℕ) → SharesFetch m w memory v b stands lends ((0x10000000 + at) / 4096) frame
        → decoded (front_at memory frame (0x10000000 + at)) ≡ begins.Short → IsCode v.kernel (b.cpu.regs.eip / 4096 + 1) = λ frame s cut.
        elim (cases_lt (front_len (0x10000000 + at)) 5) [
          | inl lt ↦ c.1 lt
          | inr le ↦ absurd (let q : begins.Short ≡ begins.Insn jump_out 5 = sym cut ∙ front_is (patched m.image.text 0 m.image.sites)
              memory (length m.image.text) (text_patched m w memory stands.host) at 5 jump_out (omega arith) (omega arith) site.fits few
              site.jump site.cut frame (placed m w memory v b stands lends at 5 b.cpu.regs.eip p kernel frame s) le in cc)
        ]
        in
        let two =
        subst (λ (x : ℕ). (frame : ℕ) → SharesFetch m w memory v b stands lends (x / 4096) frame → decoded (front_at memory frame x)
        ≡ begins.Short → IsCode v.kernel (b.cpu.regs.eip / 4096 + 1)) (sym place) second in
        let way =
        shared.from_host m w memory v b stands lends b.cpu.regs.eip d.insn d.len (omega (arith, place, fits, few)) c.0 two d.met.way in
        let x = way_to (patched m.image.text 0 m.image.sites) memory (length m.image.text) (text_patched m w memory stands.host) at 5
        jump_out (omega arith) (omega arith) site.fits few site.jump site.cut
        (SharesFetch m w memory v b stands lends) (placed m w memory v b stands lends at 5 b.cpu.regs.eip p kernel)
        (behind m w memory v b stands lends at 5 b.cpu.regs.eip p kernel) d.insn d.len
        (subst (λ (y : ℕ). Way (SharesFetch m w memory v b stands lends) memory y d.insn d.len) place way) in
        let is : ◌≡◌ {A = Met (Completion × List ℕ)} (Ok (Entered there, memory)) (Ok (done, after_memory)) =
        sym effect_is ∙ sym (ap (λ (i : Insn). effect_there memory v b.cpu.regs i 5) x.insn_is)
        ∙ sym (ap (effect_there memory v b.cpu.regs d.insn) x.len_is) ∙ d.is in
        let q = same_pair (Entered there) done memory after_memory is in
        (sym q.0 ∙ ap (λ (n : ℕ). Entered (record b.cpu.regs { eip = n })) leads_there, sym q.1)
