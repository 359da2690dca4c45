-- Through which pages a step went.
use Rattle.std.proofs.Common.{◌≡◌, ℕ, ◌/◌, List, [], ◌∷◌, ◌++◌, Bool, not, ◌==◌, Option, Some, None, Ok, refl, sym, ap, ◌∙◌, ◌⊎◌, inl, inr}
use Rattle.ia32_types.specs.declared.insn.Insn.{Insn}
use Rattle.ia32_decode.specs.declared.answer.Decoded.TheVariants as begins
use Rattle.ia32_decode.specs.Decoding.{decoded}
use Rattle.ia32_exec.specs.declared.access.Range.{Range}
use Rattle.descriptors.specs.declared.cpu.Cpu.{Cpu}
use Rattle.paging.specs.Space.{Space}
use Rattle.step_exec.specs.Plain.{reached}
use Rattle.machine_model.specs.State.{Setting, State}
use Rattle.ia32_decode.specs.Front.{front_len}
use Rattle.machine_model.specs.Instruction.{next_page, fetched}
use Rattle.native_steps.proofs.Pages.{At, fetching_comes}
use Rattle.native_steps.proofs.Ways.{front_at, Way}
use Rattle.native_steps.proofs.Uses.{range_went, went_by}
use Rattle.native_steps.proofs.Fetching.{Fetches, IsFetch, IsIn, IsPast, fetch_parts, by_parts, fetching_went, same_value}

-- the pages of a fetch
abbrev pub went_of : (eip : ℕ) {A B : Type 0} → A ⊎ B → List ℕ
went_of eip (inl w) = (eip / 4096) ∷ []
went_of eip (inr w) = (eip / 4096) ∷ (next_page eip / 4096) ∷ []

-- a fetch through these pages goes through these pages
pub way_went : (m : Setting) (a : State) (kernel : Bool) (u w : Space) (eip : ℕ) (insn : Insn) (len : ℕ) → At m a u → u.visited ≡ []
    → (y : Way (Fetches m a kernel) a.ram eip insn len) → fetched (not kernel) eip u ≡ Ok (begins.Insn insn len, w)
    → w.visited ≡ went_of eip y
way_went m a kernel u w eip insn len h empty y e =
    let p = fetch_parts (not kernel) eip insn len u w e in
    by_way p (by_parts (not kernel) eip insn len p.front p.first w (decoded p.front) refl p.goes_on) y
  where
    first_went : (p : IsFetch (not kernel) eip insn len u w) → p.first.visited ≡ (eip / 4096) ∷ []
    first_went p =
        fetching_went (not kernel) eip (front_len eip) u p.front p.first p.reads ∙ ap (λ (l : List ℕ). l ++ (eip / 4096) ∷ []) empty

    front_of : (p : IsFetch (not kernel) eip insn len u w) (frame : ℕ) → Fetches m a kernel (eip / 4096) frame
        → front_at a.ram frame eip ≡ p.front
    front_of p frame f = let c = fetching_comes m a kernel u eip (front_len eip) frame h f.entry f.free in
        same_value (front_at a.ram frame eip) p.front c.space p.first (sym c.is ∙ p.reads)

    by_way : (p : IsFetch (not kernel) eip insn len u w) → IsIn eip insn len p.front p.first w
        ⊎ IsPast (not kernel) eip insn len p.front p.first w → (z : Way (Fetches m a kernel) a.ram eip insn len) → w.visited ≡ went_of eip z
    by_way p (inl x) (inl z) = x.visited ∙ first_went p
    by_way p (inl x) (inr z) =
        absurd (let f : begins.Short ≡ begins.Insn insn len = sym z.cut ∙ ap decoded (front_of p z.frame z.page) ∙ x.is in cc)
    by_way p (inr x) (inl z) =
        absurd (let f : begins.Short ≡ begins.Insn insn len = sym x.cut ∙ ap decoded (sym (front_of p z.frame z.page)) ∙ z.is in cc)
    by_way p (inr x) (inr z) = x.on.visited ∙ ap (λ (l : List ℕ). l ++ (next_page eip / 4096) ∷ []) (first_went p)

-- what a range adds
unfoldable pub went_after : List ℕ → Option Range → List ℕ
went_after visited None = visited
went_after visited (Some r) = went_by visited r.at r.len

pub range_goes : (cpu : Cpu) (s t : Space) (write : Bool) (o : Option Range) → reached cpu write o s ≡ Ok (tt, t)
    → t.visited ≡ went_after s.visited o
unfolding went_after
range_goes cpu s t write None e = let p : ◌≡◌ {A = Unit {0} × Space} (tt, s) (tt, t) =
    cc in sym (ap (λ (q : Unit {0} × Space). q.1.visited) p)
range_goes cpu s t write (Some r) e = range_went s t r.at r.len (record { write = write; user = cpu.cpl == 3 }) e
