-- Sights, part by part.
use Rattle.std.proofs.Common.{◌≡◌, ℕ, ◌^◌, List, [], ◌∷◌, map, Bool, true, false, not, ◌&&◌, ◌||◌, cond, eqb, Option, None, refl, sym, ap, ◌∙◌, inl, inr}
use Rattle.std.proofs.Math.Path.{fun_ext}
use Rattle.std.proofs.Math.Bool.{and-false, and-true}
use Rattle.std.proofs.lemmas.Bool.Decides.{eqb_tells, leb_tells}
use Rattle.shadow_tables.specs.Slots.{Slot, barred, SameSlots, LosesWrites}
use Rattle.shadow_tables.specs.OtherRoot.{OtherRoot, AreSame, LoseWrites, spared}
use Rattle.shadow_tables.specs.Seen.{Seen, of_pages, of_root, of_roots}
use Rattle.shadow_cache.specs.Pairs.{reads, any_reads}
use Rattle.shadow_cache.specs.After.{noted_of, written_in}
use Rattle.shadow_cache.specs.declared.pair.Pair.{Pair}
use Rattle.shadow_cache.proofs.Noted.{written-other}

pub same_seen : (v w : Seen) → v.slots ≡ w.slots → v.read_from ≡ w.read_from → v.stale ≡ w.stale → v.cr3 ≡ w.cr3
    → v.other_roots ≡ w.other_roots → v ≡ w
same_seen v w a b c d e = λ i. record { slots = a i; read_from = b i; stale = c i; cr3 = d i; other_roots = e i }

pub same_pages : (f f' : ℕ → Option Slot) → SameSlots f f' → of_pages f' ≡ of_pages f
same_pages f f' h = fun_ext (λ q. elim (leb_tells (2 ^ 20) q) [
  | inl g ↦ ap (λ b. cond b None (f' q)) g.0 ∙ sym (ap (λ b. cond b None (f q)) g.0)
  | inr k ↦ ap (λ b. cond b None (f' q)) k.0 ∙ h q k.1 ∙ sym (ap (λ b. cond b None (f q)) k.0)
])

pub barred_pages : (fs : List ℕ) (f f' : ℕ → Option Slot) → LosesWrites f f' fs → of_pages f' ≡ λ q. barred fs (of_pages f q)
barred_pages fs f f' h = fun_ext (λ q. elim (leb_tells (2 ^ 20) q) [
  | inl g ↦ ap (λ b. cond b None (f' q)) g.0 ∙ sym (ap (λ b. barred fs (cond b None (f q))) g.0)
  | inr k ↦ ap (λ b. cond b None (f' q)) k.0 ∙ h q k.1 ∙ sym (ap (λ b. barred fs (cond b None (f q))) k.0)
])

pub same_root : (a b : OtherRoot) → a.cr3 ≡ b.cr3 → a.tables ≡ b.tables → a.slots ≡ b.slots → a ≡ b
same_root a b x y z = λ i. record { cr3 = x i; tables = y i; slots = z i }

pub same_roots : (olds news : List OtherRoot) → AreSame olds news → of_roots news ≡ of_roots olds
same_roots [] [] h = refl
same_roots [] (b ∷ news) h = absurd h
same_roots (a ∷ olds) [] h = absurd h
same_roots (a ∷ olds) (b ∷ news) h = λ i. same_root (of_root b) (of_root a) h.0.cr3 (fun_ext h.0.tables)
    (same_pages a.slots b.slots h.0.slots) i ∷ same_roots olds news h.1 i

pub bar_root : List ℕ → OtherRoot → OtherRoot
bar_root fs a = record a { slots = λ page. barred fs (a.slots page) }

pub lost_roots : (fs : List ℕ) (olds news : List OtherRoot) → LoseWrites fs olds news
    → of_roots news ≡ map (λ (a : OtherRoot). record a { slots = λ page. barred fs (a.slots page) }) (of_roots olds)
lost_roots fs [] [] h = refl
lost_roots fs [] (b ∷ news) h = absurd h
lost_roots fs (a ∷ olds) [] h = absurd h
lost_roots fs (a ∷ olds) (b ∷ news) h =
    λ i. same_root (of_root b) (record (of_root a) { slots = λ page. barred fs (of_pages a.slots page) }) h.0.cr3 (fun_ext h.0.tables)
    (barred_pages fs a.slots b.slots h.0.slots) i ∷ lost_roots fs olds news h.1 i

one_spared : (b : Bool) (a : OtherRoot) (olds xs : List OtherRoot) → of_roots olds ≡ xs
    → of_roots (cond b (a ∷ olds) olds) ≡ cond b (of_root a ∷ xs) xs
one_spared true a olds xs e = ap (λ (ys : List OtherRoot). of_root a ∷ ys) e
one_spared false a olds xs e = e

pub spared_roots : (frame : ℕ) (olds : List OtherRoot) → of_roots (spared frame olds) ≡ spared frame (of_roots olds)
spared_roots frame [] = refl
spared_roots frame (a ∷ olds) =
    one_spared (not (a.tables frame)) a (spared frame olds) (spared frame (of_roots olds)) (spared_roots frame olds)

pub written_reads : (p : Pair) (ps qs : List Pair) (frame : ℕ) → qs ≡ written_in (p ∷ ps) frame → noted_of qs frame ≡ false → (f : ℕ)
    → noted_of qs f ≡ (reads p f && not (eqb f frame))
written_reads p ps qs frame e none f =
    elim (eqb_tells f frame) [
      | inl t ↦ ap (noted_of qs) t.1 ∙ none ∙ sym (ap (λ b. reads p f && not b) t.0 ∙ and-false (reads p f))
      | inr t ↦ written-other p ps qs frame f e t.1 ∙ sym (ap (λ b. reads p f && not b) t.0 ∙ and-true (reads p f))
    ]

tf : true ≡ false → ⊥
tf e = let q : true ≡ false = e in cc

pub unread : (qs : List Pair) (frame : ℕ) → any_reads qs frame ≡ false → noted_of qs frame ≡ false
unread [] frame h = refl
unread (q ∷ qs) frame h =
    elim (reads q frame) as (λ b. (b || any_reads qs frame) ≡ false → b ≡ false) [ true ↦ (λ e. absurd (tf e)) | false ↦ (λ e. refl) ] h
