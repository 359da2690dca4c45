-- Ranges whose pages both machines reach, at the same places.
use Rattle.std.proofs.Common.{◌≡◌, ℕ, ◌+◌, ◌-◌, ◌*◌, ◌/◌, ◌%◌, ◌^◌, ◌<◌, ◌≤◌, List, Bool, true, false, cond, ◌&&◌, ◌||◌, not, ◌==◌, Option, Some, None, refl, sym, ap, ◌∙◌, inl, inr, arith}
use Rattle.std.specs.Prelude.{nat_le, nat_lt}
use Rattle.std.proofs.lemmas.Bool.{cases_lt, and_parts, false_from_ne_true, ltb-true, ltb-false}
use Rattle.std.specs.FinMap.{get}
use Rattle.descriptors.specs.Controls.{wp_of}
use Rattle.guest_ram.specs.Bytes.{byte}
use Rattle.ia32_exec.specs.declared.access.Range.{Range}
use Rattle.ia32_exec.specs.Readable.{Covers}
use Rattle.ia32_exec.specs.Short.{IsShort}
use Rattle.paging.specs.declared.entry.Entry.{Entry}
use Rattle.paging.specs.declared.entry.Walk.{Walk}
use Rattle.paging.specs.declared.entry.Walk.TheVariants.{Absent, Beyond, Reserved, Found}
use Rattle.paging.specs.Reached.{reached_by}
use Rattle.paging.specs.Space.{place_by}
use Rattle.paging.specs.Uses.{is_text, is_given}
use Rattle.image_load.specs.Boot.{text_pages}
use Rattle.host_cpl3.specs.declared.view.View.{View}
use Rattle.host_cpl3.specs.Pages.{walked, place_in, place, byte_at}
use Rattle.host_cpl3.specs.Access.{last_page}
use Rattle.machine_model.specs.State.{Setting, State, wedge_mode}
use Rattle.native_steps.specs.Lends.{IsOpen, IsLent, IsUnlent, Lends}
use Rattle.native_steps.specs.Mirrors.{IsWedge, Mirrors}
use Rattle.native_steps.specs.Native.{byte_of}
use Rattle.native_steps.proofs.Pages.{IsFree}
use Rattle.native_steps.proofs.HostParts.{Leads, leads_told, AreRanges}
use Rattle.native_steps.proofs.Shown.{IsApart, frame_apart, byte_shown}

-- ---- rights

read_rights : (u h write : Bool) (f frame : ℕ)
    → cond {A = Option ℕ} ((u || false) && (not write || (h || false))) (Some f) None ≡ Some frame
    → cond {A = Option ℕ} ((u || false) && (not false || (h || false))) (Some f) None ≡ Some frame
read_rights true h false f frame e = cc
read_rights true true true f frame e = cc
read_rights true false true f frame e = absurd cc
read_rights false h write f frame e = absurd (none (not write || (h || false)) e)
  where
    none : (b : Bool) → cond {A = Option ℕ} (false && b) (Some f) None ≡ Some frame → ⊥
    none true g = cc
    none false g = cc

-- a page that may be written may be read
reads_too : (write : Bool) (w : Walk) (frame : ℕ) → reached_by write w ≡ Some frame → reached_by false w ≡ Some frame
reads_too write Absent frame e = absurd cc
reads_too write Beyond frame e = absurd cc
reads_too write Reserved frame e = absurd cc
reads_too write (Found entry d t) frame e = read_rights entry.user entry.write write entry.frame frame e

-- ---- the window of the text

few_pages : (m : Setting) → IsWedge m → text_pages m.image ≤ 4096
few_pages m w = let few = w.accepted.within.text.1 in omega (arith, few)

given_below : (m : Setting) → IsWedge m → (page frame : ℕ) → is_given (wedge_mode m.image) page frame ≡ true → page < 0x11000
given_below m w page frame e =
    let p = and_parts (nat_le 65536 page && nat_lt page (65536 + text_pages m.image)) (frame == 0x100 + (page - 65536)) e in
    let q = and_parts (nat_le 65536 page) (nat_lt page (65536 + text_pages m.image)) p.0 in
    let lt = ltb-true page (65536 + text_pages m.image) q.1 in
    let few = few_pages m w in
    omega (arith, lt, few)

-- a page that data may be at
pub no_text : (m : Setting) → IsWedge m → (kernel : Bool) (page frame : ℕ) → (kernel ≡ true → 0x11000 ≤ page)
    → IsOpen kernel m.image page frame → is_text (wedge_mode m.image) frame ≡ false
no_text m w false page frame above open1 = open1
no_text m w true page frame above (inl given) =
    absurd (let lt = given_below m w page frame given in let le = above refl in omega (arith, lt, le))
no_text m w true page frame above (inr other) = other.1

-- and code at level 0
pub given_there : (m : Setting) (page frame : ℕ) → page < 0x11000 → IsOpen true m.image page frame
    → is_given (wedge_mode m.image) page frame ≡ true
given_there m page frame lt (inl given) = given
given_there m page frame lt (inr other) = absurd (let le = other.0 in omega (arith, lt, le))

module _ (m : Setting) (w : IsWedge m) (memory : List ℕ) (v : View) (b : State) (stands : Mirrors m memory v b) where
  -- both reach the page, at this frame, and it has no text
  pub record Shares (write : Bool) (page frame : ℕ) : Type 0 where
    pub leads : Leads memory v.root write page frame
    pub lent : IsLent m v.kernel (wp_of b.cpu) b.set write page frame
    pub plain : is_text (wedge_mode m.image) frame ≡ false

  -- a range that both reach
  pub record IsShared (write : Bool) (r : Range) : Type 0 where
    pub fits : r.at + r.len ≤ 2 ^ 32
    pub above : v.kernel ≡ true → 0x11000000 ≤ r.at
    pub some : 1 ≤ r.len
    pub few : r.len ≤ 32
    pub first : ℕ
    pub first_is : Shares write (r.at / 4096) first
    pub last : ℕ
    pub last_is : Shares write (last_page r) last

  abbrev pub AreShared : Bool → Option Range → Type 0
  AreShared write None = Unit {0}
  AreShared write (Some r) = IsShared write r

  past_limit : (kernel : Bool) (at : ℕ) → (kernel && nat_lt at 285212672) ≡ false → kernel ≡ true → 0x11000000 ≤ at
  past_limit true at e k = ltb-false at 285212672 e
  past_limit false at e k = absurd cc

  within_limit : (kernel : Bool) (at : ℕ) → (kernel ≡ true → 0x11000000 ≤ at) → (kernel && nat_lt at 285212672) ≡ false
  within_limit true at h =
      false_from_ne_true (nat_lt at 285212672) (λ e. let lt = ltb-true at 285212672 e in let le = h refl in omega (arith, lt, le))
  within_limit false at h = refl

  pub shares : Lends m memory v.root v.kernel (wp_of b.cpu) b.set → (write : Bool) (page frame : ℕ) → page < 2 ^ 20
      → (v.kernel ≡ true → 0x11000 ≤ page) → Leads memory v.root write page frame → Shares write page frame
  shares lends write page frame lt above e =
      let lent = lends.each page lt write frame (leads_told memory v.root page lt write frame e) in
      record { leads = e; lent = lent; plain = no_text m w v.kernel page frame above lent.is_open }

  -- from what the host met
  pub range_shared : Lends m memory v.root v.kernel (wp_of b.cpu) b.set → (write : Bool) (r : Range) → 1 ≤ r.len → r.len ≤ 32 → r.at
      + r.len ≤ 2 ^ 32 → (v.kernel ≡ true → 0x11000000 ≤ r.at)
      → (first : ℕ) → Leads memory v.root write (r.at / 4096) first → (last : ℕ)
      → Leads memory v.root write (last_page r) last → IsShared write r
  range_shared lends write r some few fits above first e last g =
      record {
        fits = fits;
        above = above;
        some = some;
        few = few;
        first = first;
        first_is = shares lends write (r.at / 4096) first (omega (arith, fits, some)) (λ k. let le = above k in omega (arith, le)) e;
        last = last;
        last_is = shares lends write (last_page r) last (omega (arith, fits, some)) (λ k. let le = above k in omega (arith, le)) g;
      }

  pub from_host : Lends m memory v.root v.kernel (wp_of b.cpu) b.set → (write : Bool) (o : Option Range) → IsShort o
      → AreRanges memory v write o → AreShared write o
  from_host lends write None short h = tt
  from_host lends write (Some r) short h =
      range_shared lends write r short.0 short.1 h.fits (past_limit v.kernel r.at h.above) h.first h.first_is h.last h.last_is

  pub to_host : (write : Bool) (o : Option Range) → AreShared write o → AreRanges memory v write o
  to_host write None h = tt
  to_host write (Some r) h =
      record {
        fits = h.fits;
        above = within_limit v.kernel r.at h.above;
        first = h.first;
        first_is = h.first_is.leads;
        last = h.last;
        last_is = h.last_is.leads;
      }

  -- data isn't barred from a frame without text
  pub free_data : (page frame : ℕ) → is_text (wedge_mode m.image) frame ≡ false → IsFree m b v.kernel false page frame
  free_data page frame e = e

  -- where an address of such a range lies
  pub record IsFound (a : ℕ) : Type 0 where
    pub at : ℕ
    pub host : place memory v.root a ≡ at
    pub guest : place_by (get b.set (a / 4096)) a ≡ at
    pub within : at < 4096 * m.frames
    pub apart : IsApart m at 1

  page_found : (write : Bool) (a page frame : ℕ) → a / 4096 ≡ page → Shares write page frame → IsFound a
  unfolding place
  page_found write a page frame e s =
      let lent = s.lent in
      let there : reached_by false (walked memory v.root (a / 4096)) ≡ Some frame =
      ap (λ p. reached_by false (walked memory v.root p)) e ∙ reads_too write (walked memory v.root page) frame s.leads in
      let sum : lent.entry.frame * 4096 + a % 4096 ≡ 4096 * frame + a % 4096 = omega (arith, lent.frame_is) in
      let below = lent.within in
      record {
        at = 4096 * frame + a % 4096;
        host = ap (λ (o : Option ℕ). place_in o a) there;
        guest = ap (λ p. place_by (get b.set p) a) e ∙ ap (λ (o : Option Entry). place_by o a) lent.kept ∙ sum;
        within = omega (arith, below);
        apart = frame_apart m frame (a % 4096) 1 s.plain (omega arith);
      }

  pub found : (write : Bool) (r : Range) → IsShared write r → (k : ℕ) → k < r.len → IsFound (r.at + k)
  found write r h k lt =
      let few = h.few in
      elim (cases_lt ((r.at + k) / 4096) (r.at / 4096 + 1)) [
        | inl below ↦ page_found write (r.at + k) (r.at / 4096) h.first (omega (arith, below)) h.first_is
        | inr above ↦ page_found write (r.at + k) (last_page r) h.last (omega (arith, above, lt, few)) h.last_is
      ]

  -- an address of a page that may be written leads to a frame that is lent for it
  page_elsewhere : (f : ℕ) → IsUnlent memory v.root f → (a page frame : ℕ) → a / 4096 ≡ page → page < 2 ^ 20 → Shares true page frame
      → place memory v.root a / 4096 ≡ f → ⊥
  unfolding place
  page_elsewhere f none a page frame e lt s there =
      let leads : reached_by false (walked memory v.root (a / 4096)) ≡ Some frame =
      ap (λ p. reached_by false (walked memory v.root p)) e ∙ reads_too true (walked memory v.root page) frame s.leads in
      let at : place_in (reached_by false (walked memory v.root (a / 4096))) a ≡ 4096 * frame + a % 4096 =
      ap (λ (o : Option ℕ). place_in o a) leads in
      let same : frame ≡ f = omega (arith, at, there) in
      none page lt (leads_told memory v.root page lt true frame s.leads ∙ ap Some same)

  elsewhere : (f : ℕ) → IsUnlent memory v.root f → (r : Range) → IsShared true r → (k : ℕ) → k < r.len
      → place memory v.root (r.at + k) / 4096 ≡ f → ⊥
  elsewhere f none r h k lt =
      let few = h.few in
      let fits = h.fits in
      let some = h.some in
      elim (cases_lt ((r.at + k) / 4096) (r.at / 4096 + 1)) [
        | inl below ↦ page_elsewhere f none (r.at + k) (r.at / 4096) h.first (omega (arith, below)) (omega (arith, fits, some)) h.first_is
        | inr above ↦ page_elsewhere f none (r.at + k) (last_page r) h.last (omega (arith, above, lt, few))
            (omega (arith, fits, some)) h.last_is
      ]

  pub covers_elsewhere : (f : ℕ) → IsUnlent memory v.root f → (P : ℕ → Type 0)
      → ((a : ℕ) → IsFound a → (place memory v.root a / 4096 ≡ f → ⊥) → P a) → (o : Option Range) → AreShared true o → Covers P o
  covers_elsewhere f none P g None h = tt
  covers_elsewhere f none P g (Some r) h = λ k lt. g (r.at + k) (found true r h k lt) (elsewhere f none r h k lt)

  pub covers : (P : ℕ → Type 0) → ((a : ℕ) → IsFound a → P a) → (write : Bool) (o : Option Range) → AreShared write o → Covers P o
  covers P f write None h = tt
  covers P f write (Some r) h = λ k lt. f (r.at + k) (found write r h k lt)

  -- there both have the same byte
  pub same_byte : (a : ℕ) → IsFound a → byte_at memory v.root a ≡ byte_of b a
  unfolding byte_at
  same_byte a f =
      ap (byte memory) f.host
      ∙ sym (byte_shown m w memory stands.host f.at f.within f.apart)
      ∙ ap (λ (x : List ℕ). byte x f.at) (sym stands.ram)
      ∙ ap (byte b.ram) (sym f.guest)
