-- A range that may be read or written stays so over a translation that is ready.
use Rattle.std.proofs.Common.{◌≡◌, ℕ, ◌+◌, ◌-◌, ◌*◌, ◌/◌, ◌^◌, Bool, true, false, not, ◌==◌, cond, eqb, [], ◌∷◌, ◌++◌, refl, sym, subst, ◌∙◌, Option, Some, None}
use Rattle.std.specs.Prelude.{nat_lt, IsSome, IfSome}
use Rattle.std.specs.FinMap.{get}
use Rattle.ia32_types.specs.declared.stop.Stop as reason
use Rattle.ia32_types.specs.declared.stop.Stop.TheVariants as stops
use Rattle.paging.specs.declared.entry.Access.{Access}
use Rattle.paging.specs.declared.entry.Entry.{Entry}
use Rattle.paging.specs.declared.entry.Walk.{Walk}
use Rattle.paging.specs.declared.entry.Walk.TheVariants.{Absent, Beyond, Reserved, Found}
use Rattle.paging.specs.declared.entry.Touch.{Touch}
use Rattle.paging.specs.declared.entry.Touch.TheVariants.{Ready, Fault, Stop}
use Rattle.paging.specs.Space.{Mode, Space}
use Rattle.paging.specs.Fresh.{fresh, flagged, grants}
use Rattle.paging.specs.Ready.{RangesStay}
use Rattle.paging.specs.Uses.{Tables, tables_of, Decision, is_barred, is_text, window_stop, walks_text, marks_own, fault_code, dirtied, by_walk, decided, settled, usable, by_entry, page_uses, go_on, and_then, unready, made_ready, second_page, by_pages, by_window, uses}
use Rattle.paging.proofs.WithEntry.{get_with}

abbrev IsApart : Mode → Option Entry → Type 0
IsApart mode entry = IfSome entry (λ e. is_text mode e.frame ≡ false)

-- each page's entry stays, or another comes, and none leads to text that didn't before
record Keeps (s t : Space) : Type 0 where
  mode : t.mode ≡ s.mode
  found : (page : ℕ) → IsSome (get s.set page) → IsSome (get t.set page)
  apart : (page : ℕ) → IsApart s.mode (get s.set page) → IsApart s.mode (get t.set page)

-- a decision that is ready has an entry, which leads to no text
record IsFine (mode : Mode) (d : Decision) : Type 0 where
  found : IsSome d.entry
  apart : IsApart mode d.entry

keeps_all : (s t u : Space) → Keeps s t → Keeps t u → Keeps s u
keeps_all s t u h k = record {
  mode = k.mode ∙ h.mode;
  found = λ page x. k.found page (h.found page x);
  apart = λ page x. subst (λ (m : Mode). IsApart m (get u.set page)) h.mode
      (k.apart page (subst (λ (m : Mode). IsApart m (get t.set page)) (sym h.mode) (h.apart page x)));
}

after_tests : (mode : Mode) (denied text own : Bool) (a b c d : Decision) → (a.met ≡ Ready → ⊥) → (b.met ≡ Ready → ⊥) → (c.met ≡ Ready → ⊥)
    → (text ≡ false → IsFine mode d)
    → (cond denied a (cond text b (cond own c d))).met ≡ Ready → IsFine mode (cond denied a (cond text b (cond own c d)))
after_tests mode true text own a b c d ha hb hc h r = absurd (ha r)
after_tests mode false true own a b c d ha hb hc h r = absurd (hb r)
after_tests mode false false true a b c d ha hb hc h r = absurd (hc r)
after_tests mode false false false a b c d ha hb hc h r = h refl

walk_fine : (t : Tables) (at : ℕ) (access : Access) (walk : Walk) → (by_walk t false at access walk).met ≡ Ready
    → IsFine t.mode (by_walk t false at access walk)
walk_fine t at access Absent r = absurd cc
walk_fine t at access Beyond r = absurd cc
walk_fine t at access Reserved r = absurd cc
walk_fine t at access (Found entry dir_at word_at) r =
    after_tests t.mode (not (grants entry access t.wp)) (is_barred t.mode false access.user entry.page entry.frame)
    (marks_own t dir_at word_at access.write)
    (record { met = Fault (fault_code true access) at; entry = None; ram = t.ram })
    (record { met = Stop stops.TextMapped; entry = None; ram = t.ram })
    (record { met = Stop stops.CodeIsTable; entry = None; ram = t.ram })
    (record { met = Ready; entry = Some (dirtied entry access.write); ram = flagged t.ram dir_at word_at access.write })
    (λ e. cc) (λ e. cc) (λ e. cc) (λ free. record { found = refl; apart = free }) r

after_text : (mode : Mode) (text : Bool) (a d : Decision) → (a.met ≡ Ready → ⊥) → (d.met ≡ Ready → IsFine mode d)
    → (cond text a d).met ≡ Ready → IsFine mode (cond text a d)
after_text mode true a d ha h r = absurd (ha r)
after_text mode false a d ha h r = h r

decided_fine : (t : Tables) (page at : ℕ) (access : Access) → (decided t false page at access).met ≡ Ready
    → IsFine t.mode (decided t false page at access)
unfolding decided
decided_fine t page at access r =
    after_text t.mode (walks_text t page) (record { met = Stop stops.TableInText; entry = None; ram = t.ram })
    (by_walk t false at access (fresh t.ram t.frames t.cr3 t.pse page)) (λ e. cc)
    (walk_fine t at access (fresh t.ram t.frames t.cr3 t.pse page)) r

either : (P : Option Entry → Type 0) (same : Bool) (x y : Option Entry) → P x → P y → P (cond same x y)
either P true x y h k = h
either P false x y h k = k

settled_keeps : (s : Space) (page : ℕ) (d : Decision) → IsFine s.mode d → Keeps s (settled s page d).1
settled_keeps s page d h = record {
  mode = refl;
  found = λ q x. subst IsSome (sym (get_with s.set page d.entry q)) (either IsSome (eqb q page) d.entry (get s.set q) h.found x);
  apart = λ q x. subst (IsApart s.mode) (sym (get_with s.set page d.entry q))
      (either (IsApart s.mode) (eqb q page) d.entry (get s.set q) h.apart x);
}

keeps_same : (s : Space) → Keeps s s
keeps_same s = record { mode = refl; found = λ page x. x; apart = λ page x. x }

after_bar : (text : Bool) (s : Space) → (cond {A = Touch × Space} text (Stop stops.TextMapped, s) (Ready, s)).0 ≡ Ready
    → Keeps s (cond {A = Touch × Space} text (Stop stops.TextMapped, s) (Ready, s)).1
after_bar true s r = keeps_same s
after_bar false s r = keeps_same s

entry_keeps : (s : Space) (page at : ℕ) (access : Access) (entry : Option Entry) → (by_entry s false page at access entry).0 ≡ Ready
    → Keeps s (by_entry s false page at access entry).1
entry_keeps s page at access None r =
    settled_keeps s page (decided (tables_of s) false page at access) (decided_fine (tables_of s) page at access r)
entry_keeps s page at access (Some entry) r = after_bar (is_barred s.mode false access.user page entry.frame) s r

page_keeps : (s : Space) (page at : ℕ) (access : Access) → (page_uses s false page at access).0 ≡ Ready
    → Keeps s (page_uses s false page at access).1
unfolding page_uses
page_keeps s page at access r =
    let k = entry_keeps (record s { pages = s.pages + 1; visited = s.visited ++ page ∷ [] }) page at access
    (usable (get s.set page) access s.wp) r in
    record { mode = k.mode; found = k.found; apart = k.apart }

then_keeps : (met : Touch) (s t : Space) (f : Space → Touch × Space) → (met ≡ Ready → Keeps s t) → ((f t).0 ≡ Ready → Keeps t (f t).1)
    → (go_on met t f).0 ≡ Ready → Keeps s (go_on met t f).1
then_keeps Ready s t f h k r = keeps_all s t (f t).1 (h refl) (k r)
then_keeps (Fault code at) s t f h k r = absurd cc
then_keeps (Stop stop) s t f h k r = absurd cc

on_one : (one : Bool) (s : Space) (p : Touch × Space) → (p.0 ≡ Ready → Keeps s p.1) → (cond one (Ready, s) p).0 ≡ Ready
    → Keeps s (cond one (Ready, s) p).1
on_one true s p h r = keeps_same s
on_one false s p h r = h r

second_keeps : (at len : ℕ) (access : Access) (s : Space) → (second_page at len access s).0 ≡ Ready
    → Keeps s (second_page at len access s).1
second_keeps at len access s r =
    on_one ((at + len - 1) / 4096 == at / 4096) s _ (page_keeps s ((at + len - 1) / 4096) ((at + len - 1) / 4096 * 4096) access) r

made_keeps : (at len : ℕ) (write : Bool) (s : Space) → Keeps s (made_ready at len write s).1
made_keeps at len write s = record { mode = refl; found = λ page x. x; apart = λ page x. x }

pages_keep : (at len : ℕ) (access : Access) (s : Space) → (by_pages at len access s).0 ≡ Ready → Keeps s (by_pages at len access s).1
pages_keep at len access s r =
    let first = page_uses s false (at / 4096) at access in
    then_keeps first.0 s first.1 (λ t. and_then (second_page at len access t) (made_ready at len access.write))
    (page_keeps s (at / 4096) at access)
    (then_keeps (second_page at len access first.1).0 first.1 (second_page at len access first.1).1 (made_ready at len access.write)
    (second_keeps at len access first.1)
    (λ e. made_keeps at len access.write (second_page at len access first.1).1)) r

window_keeps : (stop : Option reason.Stop) (at len : ℕ) (access : Access) (s : Space) → (by_window stop at len access s).0 ≡ Ready
    → Keeps s (by_window stop at len access s).1
window_keeps None at len access s r = pages_keep at len access s r
window_keeps (Some stop) at len access s r = absurd cc

on_wrap : (wraps : Bool) (s : Space) (p : Touch × Space) → (p.0 ≡ Ready → Keeps s p.1) → (cond wraps (Stop stops.WrapAccess, s) p).0 ≡ Ready
    → Keeps s (cond wraps (Stop stops.WrapAccess, s) p).1
on_wrap true s p h r = absurd cc
on_wrap false s p h r = h r

uses_keep : (s : Space) (at len : ℕ) (access : Access) → (uses s at len access).0 ≡ Ready → Keeps (unready s) (uses s at len access).1
unfolding uses
uses_keep s at len access r =
    on_wrap (nat_lt (2 ^ 32) (at + len)) (unready s) _ (window_keeps (window_stop s.mode access at) at len access (unready s)) r

pub ranges_stay : RangesStay
ranges_stay s at len access r = record {
  readable = λ other size h. record {
    fits = h.fits;
    found = λ byte low high. (uses_keep s at len access r).found (byte / 4096) (h.found byte low high);
  };
  writable = λ other size h.
      let k = uses_keep s at len access r in
      record {
        fits = h.fits;
        found = λ byte low high. k.found (byte / 4096) (h.found byte low high);
        apart = λ byte low high. subst (λ (m : Mode). IsApart m (get (uses s at len access).1.set (byte / 4096))) (sym k.mode)
            (k.apart (byte / 4096) (h.apart byte low high));
      };
}
