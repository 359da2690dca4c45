-- Passes over pages.
use Rattle.std.proofs.Common.{◌≡◌, ℕ, ◌+◌, ◌*◌, ◌^◌, ◌<◌, ◌≤◌, List, Option, None, refl, sym, ap, ◌∙◌, subst, inl, inr, arith}
use Rattle.std.proofs.lemmas.Bool.Decides.{eqb_tells}
use Rattle.std.proofs.lemmas.Bool.{cases_lt}
use Rattle.frame_pool.specs.Held.{Writes}
use Rattle.frame_pool.proofs.Held.{Writes-refl, Writes-trans}
use Rattle.shadow_tables.specs.Slots.{Slot, held, slot_at, IsShadow, Becomes, LosesDir}
use Rattle.shadow_tables.specs.Sweeps.{Sweeps}
use Rattle.shadow_tables.specs.Opened.{KeepsTables}
use Rattle.shadow_tables.proofs.Tabled.{keeps-refl, keeps-trans}
use Rattle.shadow_tables.specs.declared.shadow.Shadow.{Shadow}

pub sweeps-none : (s : Shadow) (m : List ℕ) (first : ℕ) (f : ℕ → Option Slot) → IsShadow s m → Sweeps s m m first first f
sweeps-none s m first f h =
    record {
      shadow = h;
      frames = refl;
      memory = Writes-refl (held s m) m;
      tables = keeps-refl s m;
      there = λ page l a b. absurd (omega (arith, a, b));
      others = λ page l n. refl;
    }

-- one page more
pub sweeps-more : (s : Shadow) (m m1 m2 : List ℕ) (first n : ℕ) (f : ℕ → Option Slot) (o : Option Slot) → first ≤ n
    → Sweeps s m m1 first n f → Becomes s m1 m2 n o → o ≡ f n → held s m2 ≡ held s m1 → Writes (held s m1) m1 m2 → KeepsTables s m1 m2
    → Sweeps s m m2 first (n + 1) f
sweeps-more s m m1 m2 first n f o le a b e frames memory keeps =
    record {
      shadow = b.shadow;
      frames = frames ∙ a.frames;
      memory = Writes-trans (held s m) m m1 m2 a.memory (subst (λ (fs : List ℕ). Writes fs m1 m2) a.frames memory);
      tables = keeps-trans s m m1 m2 a.tables keeps;
      there = λ page l low high. elim (eqb_tells page n) [
        | inl t ↦ ap (slot_at s m2) t.1 ∙ b.there ∙ e ∙ ap f (sym t.1)
        | inr t ↦ let ne = t.1 in b.others page l ne ∙ a.there page l low (omega (arith, high, ne))
      ];
      others = λ page l out.
          b.others page l (λ q. out (omega (arith, q, le)) (omega (arith, q)))
          ∙ a.others page l (λ low high. out low (omega (arith, high)));
    }

-- pages that are already so
pub sweeps-over : (s : Shadow) (m m' : List ℕ) (first n last : ℕ) (f : ℕ → Option Slot) → Sweeps s m m' first n f → n ≤ last → first ≤ n
    → ((page : ℕ) → page < 2 ^ 20 → n ≤ page → page < last → slot_at s m page ≡ f page) → Sweeps s m m' first last f
sweeps-over s m m' first n last f a le low h =
    record {
      shadow = a.shadow;
      frames = a.frames;
      memory = a.memory;
      tables = a.tables;
      there = λ page l x y. elim (cases_lt page n) [
        | inl t ↦ a.there page l x t
        | inr t ↦ a.others page l (λ p q. absurd (omega (arith, q, t))) ∙ h page l t y
      ];
      others = λ page l out. a.others page l (λ x y. out x (omega (arith, y, le)));
    }

-- one pass after the other
pub sweeps-trans : (s : Shadow) (m m1 m2 : List ℕ) (first n last : ℕ) (f g : ℕ → Option Slot) → first ≤ n → n ≤ last
    → Sweeps s m m1 first n f → Sweeps s m1 m2 n last g → ((page : ℕ) → page < 2 ^ 20 → n ≤ page → page < last → g page ≡ f page)
    → Sweeps s m m2 first last f
sweeps-trans s m m1 m2 first n last f g x y a b e =
    record {
      shadow = b.shadow;
      frames = b.frames ∙ a.frames;
      memory = Writes-trans (held s m) m m1 m2 a.memory (subst (λ (fs : List ℕ). Writes fs m1 m2) a.frames b.memory);
      tables = keeps-trans s m m1 m2 a.tables b.tables;
      there = λ page l low high. elim (cases_lt page n) [
        | inl t ↦ b.others page l (λ p q. absurd (omega (arith, p, t))) ∙ a.there page l low t
        | inr t ↦ b.there page l t high ∙ e page l t high
      ];
      others = λ page l out.
          b.others page l (λ p q. out (omega (arith, p, x)) q)
          ∙ a.others page l (λ p q. out p (omega (arith, q, y)));
    }

-- ---- a directory index

pub loses-dir : (s : Shadow) (m m' : List ℕ) (index : ℕ) → Sweeps s m m' (1024 * index) (1024 * index + 1024) (λ page. None)
    → LosesDir (slot_at s m) (slot_at s m') index
loses-dir s m m' index a =
    record {
      gone = λ page l e. a.there page l (omega (arith, e)) (omega (arith, e));
      others = λ page l ne. a.others page l (λ x y. ne (omega (arith, x, y)));
    }
