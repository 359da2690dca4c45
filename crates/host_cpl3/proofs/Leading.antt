-- A range that was met leads where the view's tables say.
use Rattle.std.proofs.Common.{◌≡◌, ℕ, ◌+◌, ◌*◌, ◌/◌, ◌%◌, ◌<◌, ◌≤◌, List, length, Bool, true, false, not, cond, eqb, ◌&&◌, ◌||◌, Option, Some, None, Ok, Err, refl, sym, ap, ◌∙◌, subst, inl, inr, arith}
use Rattle.std.proofs.Math.Dec.{leb}
use Rattle.std.proofs.lemmas.Bool.Decides.{eqb_tells, leb_tells}
use Rattle.ia32_exec.specs.declared.access.Range.{Range}
use Rattle.paging.specs.declared.entry.Walk.{Walk}
use Rattle.paging.specs.declared.entry.Walk.TheVariants.{Absent, Beyond, Reserved, Found}
use Rattle.paging.specs.Reached.{reached_by}
use Rattle.host_cpl3.specs.declared.exit.Exit.{Exit}
use Rattle.host_cpl3.specs.declared.view.View.{View}
use Rattle.host_cpl3.specs.declared.reach.Reach.{Reach}
use Rattle.host_cpl3.specs.Met.{Met, ◌>>=◌, unless}
use Rattle.host_cpl3.specs.Views.{is_past_limit, limit_fault}
use Rattle.host_cpl3.specs.Pages.{walked, by_walk, or_fault, page_met, place, place_in}
use Rattle.host_cpl3.specs.Access.{last_page, pages_met, range_met}
use Rattle.host_cpl3.specs.Reaches.{placed, IsReach}

rights : (u h write there : Bool) (at f frame : ℕ)
    → or_fault there write at (cond ((u || false) && (not write || (h || false))) (Some f) None) ≡ Ok frame
    → cond {A = Option ℕ} ((u || false) && (not false || (h || false))) (Some f) None ≡ Some frame
rights true h false there at f frame e = cc
rights true true true there at f frame e = cc
rights true false true there at f frame e = absurd cc
rights false true true there at f frame e = absurd cc
rights false false true there at f frame e = absurd cc
rights false h false there at f frame e = absurd cc

walk_leads : (write : Bool) (at : ℕ) (w : Walk) (frame : ℕ) → by_walk write at w ≡ Ok frame → reached_by false w ≡ Some frame
walk_leads write at Absent frame e = absurd cc
walk_leads write at Beyond frame e = absurd cc
walk_leads write at Reserved frame e = absurd cc
walk_leads write at (Found entry d t) frame e = rights entry.user entry.write write true at entry.frame frame e

-- the page of an access that was met is there for a read
pub page_leads : (m : List ℕ) (root : ℕ) (write : Bool) (at frame : ℕ) → page_met m root write at ≡ Ok frame
    → reached_by false (walked m root (at / 4096)) ≡ Some frame
unfolding page_met
page_leads m root write at frame e = walk_leads write at (walked m root (at / 4096)) frame e

-- both parts of what was met were met
pub bound : {A B : Type 0} (x : Met A) (f : A → Met B) (b : B) → (x >>= f) ≡ Ok b → (a : A) × ((x ≡ Ok a) × (f a ≡ Ok b))
bound (Ok a) f b e = (a, (refl, e))
bound (Err exit) f b e = absurd cc

pub unless_met : (exit : Exit) (test : Bool) (x : Unit {0}) → unless exit test ≡ Ok x → test ≡ true
unless_met exit true x e = refl
unless_met exit false x e = absurd cc

-- the frames of a range that was met
record Frames (m : List ℕ) (root : ℕ) (r : Range) (first last : ℕ) : Type 0 where
  front : reached_by false (walked m root (r.at / 4096)) ≡ Some first
  back : reached_by false (walked m root (last_page r)) ≡ Some last

second : (m : List ℕ) (root : ℕ) (write : Bool) (r : Range) (first last : ℕ) → reached_by false (walked m root (r.at / 4096)) ≡ Some first
    → cond (eqb (last_page r) (r.at / 4096)) (Ok first) (page_met m root write (last_page r * 4096)) ≡ Ok last
    → reached_by false (walked m root (last_page r)) ≡ Some last
second m root write r first last h e =
    elim (eqb_tells (last_page r) (r.at / 4096)) [
      | inl t ↦
          let same : ◌≡◌ {A = Met ℕ} (Ok first) (Ok last) =
          subst (λ (b : Bool). cond b (Ok first) (page_met m root write (last_page r * 4096)) ≡ Ok last) t.0 e in
          let is : first ≡ last = cc in
          ap (λ p. reached_by false (walked m root p)) t.1 ∙ h ∙ ap Some is
      | inr t ↦
          let met : page_met m root write (last_page r * 4096) ≡ Ok last =
          subst (λ (b : Bool). cond b (Ok first) (page_met m root write (last_page r * 4096)) ≡ Ok last) t.0 e in
          let back : last_page r * 4096 / 4096 ≡ last_page r = omega arith in
          ap (λ p. reached_by false (walked m root p)) (sym back) ∙ page_leads m root write (last_page r * 4096) last met
    ]

same_pair : (a b c d : ℕ) → ◌≡◌ {A = Met (ℕ × ℕ)} (Ok (a, b)) (Ok (c, d)) → (a ≡ c) × (b ≡ d)
same_pair a b c d e = let p : ◌≡◌ {A = ℕ × ℕ} (a, b) (c, d) = cc in (ap (λ q. q.0) p, ap (λ q. q.1) p)

frames : (m : List ℕ) (root : ℕ) (write : Bool) (r : Range) (first last : ℕ) → pages_met m root write r ≡ Ok (first, last)
    → Frames m root r first last
unfolding pages_met
frames m root write r first last e =
    let one = bound (page_met m root write r.at)
    (λ (f : ℕ). cond (eqb (last_page r) (r.at / 4096)) (Ok f) (page_met m root write (last_page r * 4096)) >>= (λ (l : ℕ). Ok (f, l)))
    (first, last) e in
    let two = bound (cond (eqb (last_page r) (r.at / 4096)) (Ok one.0) (page_met m root write (last_page r * 4096)))
    (λ (l : ℕ). Ok (one.0, l)) (first, last) one.1.1 in
    let same = same_pair one.0 two.0 first last two.1.1 in
    let first_is = same.0 in
    let last_is = same.1 in
    let front = page_leads m root write r.at one.0 one.1.0 in
    record {
      front = front ∙ ap Some first_is;
      back = second m root write r one.0 two.0 front two.1.0 ∙ ap Some last_is;
    }

leads : (m : List ℕ) (root : ℕ) (r : Range) (x : Reach) (a : ℕ) → Frames m root r x.first x.last → x.at ≡ r.at → x.len ≡ r.len → r.len ≤ 32
    → r.at ≤ a → a < r.at + r.len → placed x a ≡ place m root a
unfolding place
leads m root r x a h at_is len_is short low high =
    elim (eqb_tells (a / 4096) (x.at / 4096)) [
      | inl t ↦
          let page : a / 4096 ≡ r.at / 4096 = omega (arith, t.1, at_is) in
          ap (λ b. 4096 * cond b x.first x.last + a % 4096) t.0
          ∙ sym (ap (λ p. place_in (reached_by false (walked m root p)) a) page ∙ ap (λ o. place_in o a) h.front)
      | inr t ↦
          let other : a / 4096 ≡ r.at / 4096 → ⊥ = λ e. t.1 (omega (arith, e, at_is)) in
          let page : a / 4096 ≡ last_page r = omega (arith, other) in
          ap (λ b. 4096 * cond b x.first x.last + a % 4096) t.0
          ∙ sym (ap (λ p. place_in (reached_by false (walked m root p)) a) page ∙ ap (λ o. place_in o a) h.back)
    ]

inside : (n : ℕ) (x : Reach) (a : ℕ) (b : Bool) → x.first < n / 4096 → x.last < n / 4096 → 4096 * cond b x.first x.last + a % 4096 < n
inside n x a true f l = omega arith
inside n x a false f l = omega arith

pub reach_of : (m : List ℕ) (v : View) (write : Bool) (r : Range) (x : Reach) → range_met m v write r ≡ Ok (x.first, x.last) → x.at ≡ r.at
    → x.len ≡ r.len → (1 ≤ r.len) × (r.len ≤ 32)
    → x.first < length m / 4096 → x.last < length m / 4096 → IsReach m v.root x
unfolding range_met
reach_of m v write r x e at_is len_is short first last =
    let whole = bound (unless _ (leb (r.at + r.len) 4294967296))
    (λ (u : Unit {0}). unless (limit_fault r.seg) (not (is_past_limit v r.at)) >>= (λ (w : Unit {0}). pages_met m v.root write r))
    (x.first, x.last) e in
    let above = bound (unless (limit_fault r.seg) (not (is_past_limit v r.at))) (λ (w : Unit {0}). pages_met m v.root write r)
    (x.first, x.last) whole.1.1 in
    let test = unless_met _ (leb (r.at + r.len) 4294967296) whole.0 whole.1.0 in
    let fits : r.at + r.len ≤ 4294967296 =
    elim (leb_tells (r.at + r.len) 4294967296) [ inl t ↦ t.1 | inr t ↦ absurd (let f = t.0 in cc) ] in
    let f = frames m v.root write r x.first x.last above.1.1 in
    record {
      fits = omega (arith, fits, at_is, len_is);
      leads = λ a low high. leads m v.root r x a f at_is len_is short.1 (omega (arith, low, at_is)) (omega (arith, high, at_is, len_is));
      inside = λ a low high. inside (length m) x a (eqb (a / 4096) (x.at / 4096)) first last;
    }
