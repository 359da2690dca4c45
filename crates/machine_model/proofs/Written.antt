-- What a range that is ready for a write leaves noted.
use Rattle.std.proofs.Common.{◌≡◌, ℕ, ◌+◌, ◌-◌, ◌/◌, ◌%◌, ◌<◌, ◌≤◌, ◌^◌, arith, cond, Bool, true, false, List, [], ◌∷◌, ◌++◌, refl, sym, ap, subst, ◌∙◌, ◌⊎◌, inl, inr, Option, Some, None}
use Rattle.std.specs.Prelude.{◌==◌, nat_lt}
use Rattle.std.proofs.lemmas.Bool.Decides.{eqb_tells}
use Rattle.std.proofs.lemmas.Nat.{div-mul-add}
use Rattle.std.proofs.lemmas.List.Elements.{Contains-append_right}
use Rattle.std.specs.List.{Contains}
use Rattle.std.specs.FinMap.{get}
use Rattle.ia32_types.specs.declared.stop.Stop as reason
use Rattle.ia32_types.specs.declared.stop.Stop.TheVariants as stops
use Rattle.paging.specs.declared.entry.Access.{Access}
use Rattle.paging.specs.declared.entry.Entry.{Entry}
use Rattle.paging.specs.declared.entry.Touch.{Touch}
use Rattle.paging.specs.declared.entry.Touch.TheVariants.{Ready, Fault, Stop}
use Rattle.paging.specs.Space.{Space, place_by, place, frame_by, frames_of}
use Rattle.paging.specs.Uses.{page_uses, go_on, and_then, unready, made_ready, second_page, window_stop, by_window, uses}
use Rattle.paging.proofs.Translations.{clash}
use Rattle.machine_model.specs.Written.{WritesAreNoted}
use Rattle.machine_model.proofs.Following.{next_in}

abbrev is_ready : Touch → Bool
is_ready Ready = true
is_ready (Fault code at) = false
is_ready (Stop stop) = false

unready_ends : (o : Touch × Space) (new : Space) → is_ready o.0 ≡ false → o ≡ (Ready, new) → ⊥
unready_ends o new e f = clash (sym e ∙ ap (λ (p : Touch × Space). is_ready p.0) f)

-- the memory in which the whole range was made ready
abbrev Made : ℕ → ℕ → Bool → Space → Type 0
Made at len write new = (u : Space) × ((made_ready at len write u).1 ≡ new)

after_second : (at len : ℕ) (write : Bool) (met : Touch) (s new : Space) → go_on met s (made_ready at len write) ≡ (Ready, new)
    → Made at len write new
after_second at len write Ready s new e = (s, ap (λ (p : Touch × Space). p.1) e)
after_second at len write (Fault code cr2) s new e = absurd (unready_ends (Fault code cr2, s) new refl e)
after_second at len write (Stop stop) s new e = absurd (unready_ends (Stop stop, s) new refl e)

after_first : (at len : ℕ) (access : Access) (met : Touch) (s new : Space)
    → go_on met s (λ t. and_then (second_page at len access t) (made_ready at len access.write)) ≡ (Ready, new)
    → Made at len access.write new
after_first at len access Ready s new e =
    after_second at len access.write (second_page at len access s).0 (second_page at len access s).1 new e
after_first at len access (Fault code cr2) s new e = absurd (unready_ends (Fault code cr2, s) new refl e)
after_first at len access (Stop stop) s new e = absurd (unready_ends (Stop stop, s) new refl e)

after_window : (w : Option reason.Stop) (at len : ℕ) (access : Access) (s new : Space) → by_window w at len access s ≡ (Ready, new)
    → Made at len access.write new
after_window None at len access s new e =
    after_first at len access (page_uses s false (at / 4096) at access).0 (page_uses s false (at / 4096) at access).1 new e
after_window (Some stop) at len access s new e = absurd (unready_ends (Stop stop, s) new refl e)

after_wrap : (wraps : Bool) (at len : ℕ) (access : Access) (a b : Touch × Space) (new : Space) → is_ready a.0 ≡ false
    → (b ≡ (Ready, new) → Made at len access.write new) → cond wraps a b ≡ (Ready, new) → Made at len access.write new
after_wrap true at len access a b new h f e = absurd (unready_ends a new h e)
after_wrap false at len access a b new h f e = f e

made : (s new : Space) (at len : ℕ) (access : Access) → uses s at len access ≡ (Ready, new) → Made at len access.write new
unfolding uses
made s new at len access e =
    after_wrap (nat_lt (2 ^ 32) (at + len)) at len access (Stop stops.WrapAccess, unready s)
    (by_window (window_stop s.mode access at) at len access (unready s)) new refl
    (after_window (window_stop s.mode access at) at len access (unready s) new) e

-- the frame of a byte is that of its page
frame_at : (o : Option Entry) (byte : ℕ) → place_by o byte / 4096 ≡ frame_by o
frame_at None byte = refl
frame_at (Some entry) byte = div-mul-add entry.frame 4096 (byte % 4096) (omega arith)

first_in : (a b : ℕ) (rest : List ℕ) → a ≡ b → Contains (a ∷ rest) b
first_in a b rest e = (0, omega arith, e)

-- the frames of two pages, or of one
pages_hold : (one : Bool) (a b c : ℕ) → (one ≡ true → c ≡ a) → (c ≡ a) ⊎ (c ≡ b) → Contains (a ∷ cond one [] (b ∷ [])) c
pages_hold true a b c f h = first_in a c [] (sym (f refl))
pages_hold false a b c f (inl e) = first_in a c (b ∷ []) (sym e)
pages_hold false a b c f (inr e) = next_in a c (b ∷ []) (first_in b c [] (sym e))

frames_hold : (u : Space) (at len byte : ℕ) → at ≤ byte → byte < at + len → len ≤ 4096
    → Contains (frames_of u at len) (frame_by (get u.set (byte / 4096)))
frames_hold u at len byte low high short =
    let frame : ℕ → ℕ = λ page. frame_by (get u.set page) in
    pages_hold ((at + len - 1) / 4096 == at / 4096) (frame (at / 4096)) (frame ((at + len - 1) / 4096)) (frame (byte / 4096))
    (λ same.
    elim (eqb_tells ((at + len - 1) / 4096) (at / 4096)) [
      | inl t ↦ let here : byte / 4096 ≡ at / 4096 = omega (arith, t.1) in ap frame here
      | inr n ↦ absurd (clash (sym n.0 ∙ same))
    ])
    (elim (eqb_tells (byte / 4096) (at / 4096)) [
      | inl t ↦ inl (ap frame t.1)
      | inr n ↦ let last : byte / 4096 ≡ (at + len - 1) / 4096 = omega (arith, n.1) in inr (ap frame last)
    ])

noted_in : (u new : Space) (at len byte : ℕ) → (made_ready at len true u).1 ≡ new → at ≤ byte → byte < at + len → len ≤ 4096
    → Contains new.wrote (place new byte / 4096)
unfolding place
noted_in u new at len byte e low high short =
    subst (λ (t : Space). Contains t.wrote (place t byte / 4096)) e
    (subst (Contains (u.wrote ++ frames_of u at len)) (sym (frame_at (get u.set (byte / 4096)) byte))
    (Contains-append_right u.wrote (frames_of u at len) (frame_by (get u.set (byte / 4096))) (frames_hold u at len byte low high short)))

pub writes_are_noted : WritesAreNoted
writes_are_noted s new at len byte access write e low high short =
    let m = made s new at len access e in
    noted_in m.0 new at len byte (subst (λ (w : Bool). (made_ready at len w m.0).1 ≡ new) write m.1) low high short
