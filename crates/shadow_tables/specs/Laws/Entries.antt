-- The map of what is kept, after each call.
use Rattle.std.proofs.Common.{◌≡◌, ℕ, zero, suc, ◌/◌, ◌^◌, ◌<◌, ◌≤◌, List, Bool, true, false, not, cond, eqb, Option, Some, None, refl, sym, ap, ◌∙◌, inl, inr, arith}
use Rattle.std.proofs.lemmas.Bool.{cases_lt}
use Rattle.std.proofs.lemmas.Bool.Decides.{eqb_tells}
use Rattle.std.proofs.lemmas.Cmp.{nat_cmp_total}
use Rattle.std.specs.FinMap.{empty, get, get-empty, get-retain_keys, same_map, nat_cmp-IsAntisymmetric}
use Rattle.std.specs.Ordering.{nat_cmp}
use Rattle.ia32_types.specs.declared.addresses.TheConstants.{PAGES}
use Rattle.paging.specs.declared.entry.Entry.{Entry}
use Rattle.paging.specs.Uses.{with_entry, without_dir}
use Rattle.paging.proofs.WithEntry.{get_with_same, get_with_other}
use Rattle.shadow_tables.specs.Slots.{Slot, barred, entry_in, LosesDir, LosesWrites}
use Rattle.shadow_tables.specs.Entries.{entries_below, entries_of}

get_out : (n : ℕ) (f : ℕ → Option Slot) (q : ℕ) → n ≤ q → get (entries_below n f) q ≡ None
unfolding entries_below
get_out zero f q h = get-empty nat_cmp q
get_out (suc n) f q h =
    get_with_other (entries_below n f) n (entry_in (f n)) q (λ e. omega (arith, e, h)) ∙ get_out n f q (omega (arith, h))

get_in : (n : ℕ) (f : ℕ → Option Slot) (q : ℕ) → q < n → get (entries_below n f) q ≡ entry_in (f q)
unfolding entries_below
get_in zero f q h = absurd (omega (arith, h))
get_in (suc n) f q h =
    elim (cases_lt q n) [
      | inl l ↦ get_with_other (entries_below n f) n (entry_in (f n)) q (λ e. omega (arith, e, l)) ∙ get_in n f q l
      | inr g ↦
          let e : q ≡ n = omega (arith, g, h) in
          ap (get (with_entry (entries_below n f) n (entry_in (f n)))) e ∙ get_with_same (entries_below n f) n (entry_in (f n))
          ∙ ap (λ x. entry_in (f x)) (sym e)
    ]

pub get-entries_of : (f : ℕ → Option Slot) (q : ℕ) → q < 2 ^ 20 → get (entries_of f) q ≡ entry_in (f q)
unfolding entries_of
get-entries_of f q h = get_in PAGES f q h

pub none-entries_of : (f : ℕ → Option Slot) (q : ℕ) → 2 ^ 20 ≤ q → get (entries_of f) q ≡ None
unfolding entries_of
none-entries_of f q h = get_out PAGES f q h

turned_at : (f f' : ℕ → Option Slot) (page : ℕ) (o : Option Slot) → page < 2 ^ 20 → f' page ≡ o
    → ((q : ℕ) → q < 2 ^ 20 → (q ≡ page → ⊥) → f' q ≡ f q) → (q : ℕ)
    → get (entries_of f') q ≡ get (with_entry (entries_of f) page (entry_in o)) q
turned_at f f' page o l t h q =
    elim (eqb_tells q page) [
      | inl e ↦ ap (get (entries_of f')) e.1 ∙ get-entries_of f' page l ∙ ap entry_in t
          ∙ sym (get_with_same (entries_of f) page (entry_in o)) ∙ ap (get (with_entry (entries_of f) page (entry_in o))) (sym e.1)
      | inr e ↦ elim (cases_lt q (2 ^ 20)) [
        | inl k ↦ get-entries_of f' q k ∙ ap entry_in (h q k e.1) ∙ sym (get-entries_of f q k)
            ∙ sym (get_with_other (entries_of f) page (entry_in o) q e.1)
        | inr k ↦ none-entries_of f' q k ∙ sym (none-entries_of f q k) ∙ sym (get_with_other (entries_of f) page (entry_in o) q e.1)
      ]
    ]

pub entries_of-turned : (f f' : ℕ → Option Slot) (page : ℕ) (o : Option Slot) → page < 2 ^ 20 → f' page ≡ o
    → ((q : ℕ) → q < 2 ^ 20 → (q ≡ page → ⊥) → f' q ≡ f q) → entries_of f' ≡ with_entry (entries_of f) page (entry_in o)
entries_of-turned f f' page o l t h = same_map nat_cmp_total nat_cmp-IsAntisymmetric (entries_of f')
    (with_entry (entries_of f) page (entry_in o)) (turned_at f f' page o l t h)

pub entries_of-none : (f : ℕ → Option Slot) → ((page : ℕ) → page < 2 ^ 20 → f page ≡ None) → entries_of f ≡ empty
entries_of-none f h = same_map nat_cmp_total nat_cmp-IsAntisymmetric (entries_of f) empty (λ q. elim (cases_lt q (2 ^ 20)) [
  | inl l ↦ get-entries_of f q l ∙ ap entry_in (h q l) ∙ sym (get-empty nat_cmp q)
  | inr g ↦ none-entries_of f q g ∙ sym (get-empty nat_cmp q)
])

pub entries_of-same : (f f' : ℕ → Option Slot) → ((page : ℕ) → page < 2 ^ 20 → f' page ≡ f page) → entries_of f' ≡ entries_of f
entries_of-same f f' h = same_map nat_cmp_total nat_cmp-IsAntisymmetric (entries_of f') (entries_of f) (λ q. elim (cases_lt q (2 ^ 20)) [
  | inl l ↦ get-entries_of f' q l ∙ ap entry_in (h q l) ∙ sym (get-entries_of f q l)
  | inr g ↦ none-entries_of f' q g ∙ sym (none-entries_of f q g)
])

pub cond_none : (b : Bool) → cond {A = Option Entry} b None None ≡ None
cond_none true = refl
cond_none false = refl

lost_at : (f f' : ℕ → Option Slot) (index : ℕ) → LosesDir f f' index → (q : ℕ) → get (entries_of f') q ≡ cond (not (eqb (q / 1024) index))
    (get (entries_of f) q) None
lost_at f f' index h q =
    elim (cases_lt q (2 ^ 20)) [
      | inl l ↦ elim (eqb_tells (q / 1024) index) [
        | inl e ↦ get-entries_of f' q l ∙ ap entry_in (h.gone q l e.1) ∙ sym (ap (λ b. cond (not b) (get (entries_of f) q) None) e.0)
        | inr n ↦
            get-entries_of f' q l ∙ ap entry_in (h.others q l n.1) ∙ sym (get-entries_of f q l)
            ∙ sym (ap (λ b. cond (not b) (get (entries_of f) q) None) n.0)
      ]
      | inr g ↦ none-entries_of f' q g ∙ sym (cond_none (not (eqb (q / 1024) index)))
          ∙ sym (ap (λ o. cond (not (eqb (q / 1024) index)) o None) (none-entries_of f q g))
    ]

pub entries_of-lost : (f f' : ℕ → Option Slot) (index : ℕ) → LosesDir f f' index → entries_of f' ≡ without_dir (entries_of f) index
entries_of-lost f f' index h =
    same_map nat_cmp_total nat_cmp-IsAntisymmetric (entries_of f') (without_dir (entries_of f) index) (λ q.
    lost_at f f' index h q
    ∙ sym (get-retain_keys (entries_of f) (λ page. not (eqb (page / 1024) index)) q
    (λ x t. ap (λ y. not (eqb (y / 1024) index)) (sym (nat_cmp-IsAntisymmetric q x t)))))

barred_entry : (write_protected : List ℕ) (o : Option Slot) → entry_in (barred write_protected o) ≡ entry_in o
barred_entry write_protected None = refl
barred_entry write_protected (Some slot) = refl

-- a right to write is no part of an entry
pub entries_of-barred : (f f' : ℕ → Option Slot) (write_protected : List ℕ) → LosesWrites f f' write_protected
    → entries_of f' ≡ entries_of f
entries_of-barred f f' write_protected h =
    same_map nat_cmp_total nat_cmp-IsAntisymmetric (entries_of f') (entries_of f) (λ q. elim (cases_lt q (2 ^ 20)) [
      | inl l ↦ get-entries_of f' q l ∙ ap entry_in (h q l) ∙ barred_entry write_protected (f q) ∙ sym (get-entries_of f q l)
      | inr g ↦ none-entries_of f' q g ∙ sym (none-entries_of f q g)
    ])
