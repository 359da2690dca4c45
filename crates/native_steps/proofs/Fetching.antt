-- The guest's fetch, by the bytes of its pages.
use Rattle.std.proofs.Common.{◌≡◌, ℕ, ◌+◌, ◌-◌, ◌*◌, ◌/◌, ◌%◌, List, [], ◌∷◌, ◌++◌, Bool, true, false, cond, not, ◌==◌, Ok, Err, refl, sym, ap, subst, ◌∙◌, ◌⊎◌, inl, inr, arith}
use Rattle.descriptors.specs.Controls.{wp_of}
use Rattle.guest_ram.specs.Bytes.{part}
use Rattle.ia32_types.specs.declared.stop.Stop.TheVariants as stops
use Rattle.ia32_types.specs.declared.insn.Insn.{Insn}
use Rattle.ia32_decode.specs.declared.answer.Decoded.{Decoded}
use Rattle.ia32_decode.specs.declared.answer.Decoded.TheVariants as begins
use Rattle.ia32_decode.specs.Decoding.{decoded}
use Rattle.paging.specs.declared.entry.Touch.{Touch}
use Rattle.paging.specs.declared.entry.Touch.TheVariants.{Ready, Fault, Stop}
use Rattle.paging.specs.Space.{Mode, Space, place}
use Rattle.paging.specs.Uses.{page_uses, go_on, unready, made_ready, fetches, with_front, with_back}
use Rattle.paging.specs.Work.{Outcome, Work, on_value, ◌>>=◌, gives, refuses}
use Rattle.sys_exec.specs.declared.effect.Refusal.{Refusal}
use Rattle.sys_exec.specs.declared.effect.Refusal.TheVariants as refusal
use Rattle.machine_model.specs.State.{Setting, State}
use Rattle.ia32_decode.specs.Front.{longest, front_len}
use Rattle.machine_model.specs.Instruction.{bytes_fetched, fetching, owning_front, owning_back, next_page, owned, fetched_on, fetched_by, fetched}
use Rattle.native_steps.proofs.Pages.{At, Comes, IsFree, HasEntry, fetching_comes, comes_then}
use Rattle.native_steps.proofs.Went.{page_went}
use Rattle.native_steps.proofs.Ways.{front_at, back_at, Way}

-- ---- by entries of the set

-- the entry of the page lets code be fetched, from this frame
pub record Fetches (m : Setting) (b : State) (kernel : Bool) (page frame : ℕ) : Type 0 where
  pub entry : HasEntry kernel (wp_of b.cpu) b.set false page frame
  pub free : IsFree m b kernel true page frame

module _ (m : Setting) (b : State) (kernel : Bool) where
  pub front_kept : (at len : ℕ) (s : Space) → At m b s → Comes m b tt (owning_front at len s)
  unfolding owning_front
  front_kept at len s h = record {
    space = record s { mode = with_front s.mode (place s at) len };
    is = refl;
    at = record {
      ram = h.ram;
      set = h.set;
      wp = h.wp;
      visited = h.visited;
      tables = h.tables;
      own = record { front = place s at; front_len = len; back = 0; back_len = 0 };
      mode = ap (λ (x : Mode). with_front x (place s at) len) h.mode;
    };
  }

  pub back_kept : (at len : ℕ) (s : Space) → At m b s → Comes m b tt (owning_back at len s)
  unfolding owning_back
  back_kept at len s h = record {
    space = record s { mode = with_back s.mode (place s at) len };
    is = refl;
    at = record {
      ram = h.ram;
      set = h.set;
      wp = h.wp;
      visited = h.visited;
      tables = h.tables;
      own = record h.own { back = place s at; back_len = len };
      mode = ap (λ (x : Mode). with_back x (place s at) len) h.mode;
    };
  }

  given : {A : Type 0} (x : A) (s : Space) → At m b s → Comes m b x (gives x s)
  given x s h = record { space = s; is = refl; at = h }

  moved : {A : Type 0} (x y : A) (o p : Outcome Refusal A) → x ≡ y → p ≡ o → Comes m b x o → Comes m b y p
  moved x y o p e g c = record { space = c.space; is = g ∙ c.is ∙ ap (λ v. Ok (v, c.space)) e; at = c.at }

  next_page_is : (eip : ℕ) → next_page eip / 4096 ≡ eip / 4096 + 1
  next_page_is eip = omega arith

  next_place : (eip frame : ℕ) → 4096 * frame + next_page eip % 4096 ≡ 4096 * frame
  next_place eip frame = omega arith

  on_comes : (s : Space) (eip next : ℕ) (front : List ℕ) (insn : Insn) (len : ℕ) → At m b s → Fetches m b kernel (eip / 4096 + 1) next
      → decoded (front ++ back_at b.ram next) ≡ begins.Insn insn len
      → Comes m b (begins.Insn insn len) (fetched_on (not kernel) eip front s)
  unfolding fetched_on
  on_comes s eip next front insn len h f is =
      let g : Fetches m b kernel (next_page eip / 4096) next = subst (λ (p : ℕ). Fetches m b kernel p next) (sym (next_page_is eip)) f in
      let whole : decoded (front ++ part b.ram (4096 * next + next_page eip % 4096) longest) ≡ begins.Insn insn len =
      ap (λ (x : ℕ). decoded (front ++ part b.ram x longest)) (next_place eip next) ∙ is in
      comes_then m b kernel (owning_front eip (front_len eip) s) _ tt (begins.Insn insn len) (front_kept eip (front_len eip) s h) (λ t ht.
      comes_then m b kernel (fetching (not kernel) (next_page eip) longest t) (λ more. owned eip (decoded (front ++ more)))
      (part b.ram (4096 * next + next_page eip % 4096) longest) (begins.Insn insn len)
      (fetching_comes m b kernel t (next_page eip) longest next ht g.entry g.free) (λ u hu.
      moved (begins.Insn insn len) (begins.Insn insn len) (owned eip (begins.Insn insn len) u) _ refl
      (ap (λ (d : Decoded). owned eip d u) whole)
      (comes_then m b kernel (owning_back (next_page eip) (len - front_len eip) u) (λ x. gives (begins.Insn insn len)) tt
      (begins.Insn insn len) (back_kept (next_page eip) (len - front_len eip) u hu) (λ w hw. given (begins.Insn insn len) w hw))))

  -- the bytes begin the instruction, in one page or in two
  pub fetched_comes : (s : Space) (eip : ℕ) (insn : Insn) (len : ℕ) → At m b s → Way (Fetches m b kernel) b.ram eip insn len
      → Comes m b (begins.Insn insn len) (fetched (not kernel) eip s)
  unfolding fetched
  fetched_comes s eip insn len h (inl w) =
      comes_then m b kernel (fetching (not kernel) eip (front_len eip) s) (λ front. fetched_by (not kernel) eip front (decoded front))
      (front_at b.ram w.frame eip) (begins.Insn insn len)
      (fetching_comes m b kernel s eip (front_len eip) w.frame h w.page.entry w.page.free) (λ t ht.
      moved (begins.Insn insn len) (begins.Insn insn len)
      (fetched_by (not kernel) eip (front_at b.ram w.frame eip) (begins.Insn insn len) t) _ refl
      (ap (λ (d : Decoded). fetched_by (not kernel) eip (front_at b.ram w.frame eip) d t) w.is)
      (comes_then m b kernel (owning_front eip len t) (λ x. gives (begins.Insn insn len)) tt (begins.Insn insn len)
      (front_kept eip len t ht) (λ u hu. given (begins.Insn insn len) u hu)))
  fetched_comes s eip insn len h (inr w) =
      comes_then m b kernel (fetching (not kernel) eip (front_len eip) s) (λ front. fetched_by (not kernel) eip front (decoded front))
      (front_at b.ram w.frame eip) (begins.Insn insn len)
      (fetching_comes m b kernel s eip (front_len eip) w.frame h w.page.entry w.page.free) (λ t ht.
      moved (begins.Insn insn len) (begins.Insn insn len) (fetched_on (not kernel) eip (front_at b.ram w.frame eip) t) _ refl
      (ap (λ (d : Decoded). fetched_by (not kernel) eip (front_at b.ram w.frame eip) d t) w.cut
      ∙ ap (λ (last : Bool). cond last (refuses (refusal.Stop stops.WrapAccess))
      (fetched_on (not kernel) eip (front_at b.ram w.frame eip)) t) w.not_last)
      (on_comes t eip w.next (front_at b.ram w.frame eip) insn len ht w.next_page w.is))

-- ---- through which pages a fetch goes

made_went : (o : Touch) (s : Space) (at len : ℕ) → (go_on o s (made_ready at len false)).1.visited ≡ s.visited
made_went Ready s at len = refl
made_went (Fault code cr2) s at len = refl
made_went (Stop stop) s at len = refl

fetches_went : (s : Space) (at len : ℕ) (user : Bool) → (fetches s at len user).1.visited ≡ s.visited ++ (at / 4096) ∷ []
unfolding fetches
fetches_went s at len user =
    made_went (page_uses (unready s) true (at / 4096) at (record { write = false; user = user })).0
    (page_uses (unready s) true (at / 4096) at (record { write = false; user = user })).1 at len
    ∙ page_went (unready s) true (at / 4096) at (record { write = false; user = user })

taken_went : (at len : ℕ) (o : Touch) (s : Space) (bytes : List ℕ) (t : Space) → bytes_fetched at len o s ≡ Ok (bytes, t)
    → t.visited ≡ s.visited
taken_went at len Ready s bytes t e = let p : ◌≡◌ {A = List ℕ × Space} (part s.ram (place s at) len, s) (bytes, t) =
    cc in sym (ap (λ (q : List ℕ × Space). q.1.visited) p)
taken_went at len (Fault code cr2) s bytes t e = absurd cc
taken_went at len (Stop stop) s bytes t e = absurd cc

pub fetching_went : (user : Bool) (at len : ℕ) (s : Space) (bytes : List ℕ) (t : Space) → fetching user at len s ≡ Ok (bytes, t)
    → t.visited ≡ s.visited ++ (at / 4096) ∷ []
unfolding fetching
fetching_went user at len s bytes t e =
    taken_went at len (fetches s at len user).0 (fetches s at len user).1 bytes t e ∙ fetches_went s at len user

-- ---- a fetch that passed, in parts

pub bound : {E A B : Type 0} (o : Outcome E A) (f : A → Work E B) (y : B) (t : Space) → on_value o f ≡ Ok (y, t) → (x : A) × (u : Space)
    × ((o ≡ Ok (x, u)) × (f x u ≡ Ok (y, t)))
bound (Ok x) f y t e = (x.0, x.1, (refl, e))
bound (Err x) f y t e = absurd cc

front_went : (at len : ℕ) (s t : Space) (x : Unit {0}) → owning_front at len s ≡ Ok (x, t) → t.visited ≡ s.visited
unfolding owning_front
front_went at len s t x e = let p : ◌≡◌ {A = Unit {0} × Space} (tt, record s { mode = with_front s.mode (place s at) len }) (x, t) =
    cc in sym (ap (λ (q : Unit {0} × Space). q.1.visited) p)

back_went : (at len : ℕ) (s t : Space) (x : Unit {0}) → owning_back at len s ≡ Ok (x, t) → t.visited ≡ s.visited
unfolding owning_back
back_went at len s t x e = let p : ◌≡◌ {A = Unit {0} × Space} (tt, record s { mode = with_back s.mode (place s at) len }) (x, t) =
    cc in sym (ap (λ (q : Unit {0} × Space). q.1.visited) p)

pub same_space : {A : Type 0} (x y : A) (s t : Space) → ◌≡◌ {A = Outcome Refusal A} (Ok (x, s)) (Ok (y, t)) → s ≡ t
same_space {A} x y s t e = let p : ◌≡◌ {A = A × Space} (x, s) (y, t) = cc in ap (λ (q : A × Space). q.1) p

pub same_value : {A : Type 0} (x y : A) (s t : Space) → ◌≡◌ {A = Outcome Refusal A} (Ok (x, s)) (Ok (y, t)) → x ≡ y
same_value {A} x y s t e = let p : ◌≡◌ {A = A × Space} (x, s) (y, t) = cc in ap (λ (q : A × Space). q.0) p

-- the bytes of the first page, and through which pages the fetch went
pub record IsFetch (user : Bool) (eip : ℕ) (insn : Insn) (len : ℕ) (s t : Space) : Type 0 where
  pub front : List ℕ
  pub first : Space
  pub reads : fetching user eip (front_len eip) s ≡ Ok (front, first)
  pub goes_on : fetched_by user eip front (decoded front) first ≡ Ok (begins.Insn insn len, t)

pub fetch_parts : (user : Bool) (eip : ℕ) (insn : Insn) (len : ℕ) (s t : Space) → fetched user eip s ≡ Ok (begins.Insn insn len, t)
    → IsFetch user eip insn len s t
unfolding fetched
fetch_parts user eip insn len s t e =
    let p = bound (fetching user eip (front_len eip) s) (λ front. fetched_by user eip front (decoded front)) (begins.Insn insn len) t e in
    record { front = p.0; first = p.1; reads = p.2.0; goes_on = p.2.1 }

owned_parts : (eip : ℕ) (d : Decoded) (s t : Space) (x : Decoded) → owned eip d s ≡ Ok (x, t) → (d ≡ x) × (t.visited ≡ s.visited)
owned_parts eip (begins.Insn i l) s t x e =
    let p = bound (owning_back (next_page eip) (l - front_len eip) s) (λ y. gives (begins.Insn i l)) x t e in (
      same_value (begins.Insn i l) x p.1 t p.2.1,
      ap (λ (q : Space). q.visited) (sym (same_space (begins.Insn i l) x p.1 t p.2.1))
          ∙ back_went (next_page eip) (l - front_len eip) s p.1 p.0 p.2.0,
    )
owned_parts eip begins.Outside s t x e =
    (same_value begins.Outside x s t e, ap (λ (q : Space). q.visited) (sym (same_space begins.Outside x s t e)))
owned_parts eip begins.Short s t x e =
    (same_value begins.Short x s t e, ap (λ (q : Space). q.visited) (sym (same_space begins.Short x s t e)))

-- the second page
pub record IsOn (user : Bool) (eip : ℕ) (insn : Insn) (len : ℕ) (front : List ℕ) (s t : Space) : Type 0 where
  pub more : List ℕ
  pub before : Space
  pub after : Space
  pub owns : owning_front eip (front_len eip) s ≡ Ok (tt, before)
  pub reads : fetching user (next_page eip) longest before ≡ Ok (more, after)
  pub is : decoded (front ++ more) ≡ begins.Insn insn len
  pub ends : owned eip (decoded (front ++ more)) after ≡ Ok (begins.Insn insn len, t)
  pub visited : t.visited ≡ s.visited ++ (next_page eip / 4096) ∷ []

on_parts : (user : Bool) (eip : ℕ) (insn : Insn) (len : ℕ) (front : List ℕ) (s t : Space)
    → fetched_on user eip front s ≡ Ok (begins.Insn insn len, t) → IsOn user eip insn len front s t
unfolding fetched_on
on_parts user eip insn len front s t e =
    let p = bound (owning_front eip (front_len eip) s)
    (λ x. fetching user (next_page eip) longest >>= (λ more. owned eip (decoded (front ++ more)))) (begins.Insn insn len) t e in
    let q =
    bound (fetching user (next_page eip) longest p.1) (λ more. owned eip (decoded (front ++ more))) (begins.Insn insn len) t p.2.1 in
    let o = owned_parts eip (decoded (front ++ q.0)) q.1 t (begins.Insn insn len) q.2.1 in
    record {
      more = q.0;
      before = p.1;
      after = q.1;
      owns = p.2.0;
      reads = q.2.0;
      is = o.0;
      ends = q.2.1;
      visited = o.1 ∙ fetching_went user (next_page eip) longest p.1 q.0 q.1 q.2.0 ∙ ap (λ (x : List ℕ). x ++ (next_page eip / 4096) ∷ [])
          (front_went eip (front_len eip) s p.1 p.0 p.2.0);
    }

-- the fetch ended in the first page
pub record IsIn (eip : ℕ) (insn : Insn) (len : ℕ) (front : List ℕ) (s t : Space) : Type 0 where
  pub is : decoded front ≡ begins.Insn insn len
  pub owns : owning_front eip len s ≡ Ok (tt, t)
  pub visited : t.visited ≡ s.visited

-- or went on in the second
pub record IsPast (user : Bool) (eip : ℕ) (insn : Insn) (len : ℕ) (front : List ℕ) (s t : Space) : Type 0 where
  pub cut : decoded front ≡ begins.Short
  pub not_last : (eip / 4096 == 1048575) ≡ false
  pub on : IsOn user eip insn len front s t

pub by_parts : (user : Bool) (eip : ℕ) (insn : Insn) (len : ℕ) (front : List ℕ) (s t : Space) (d : Decoded) → decoded front ≡ d
    → fetched_by user eip front d s ≡ Ok (begins.Insn insn len, t)
    → IsIn eip insn len front s t ⊎ IsPast user eip insn len front s t
by_parts user eip insn len front s t (begins.Insn i l) is e =
    let p = bound (owning_front eip l s) (λ x. gives (begins.Insn i l)) (begins.Insn insn len) t e in
    let same : begins.Insn i l ≡ begins.Insn insn len = same_value (begins.Insn i l) (begins.Insn insn len) p.1 t p.2.1 in
    let long : l ≡ len = cc same in
    let left : p.1 ≡ t = same_space (begins.Insn i l) (begins.Insn insn len) p.1 t p.2.1 in
    inl (record {
      is = is ∙ same;
      owns = ap (λ n. owning_front eip n s) (sym long) ∙ p.2.0 ∙ ap (λ (x : Space). Ok (tt, x)) left;
      visited = ap (λ (x : Space). x.visited) (sym left) ∙ front_went eip l s p.1 p.0 p.2.0;
    })
by_parts user eip insn len front s t begins.Outside is e =
    absurd (let f : begins.Outside ≡ begins.Insn insn len = same_value begins.Outside (begins.Insn insn len) s t e in cc)
by_parts user eip insn len front s t begins.Short is e = inr (short (eip / 4096 == 1048575) refl e)
  where
    short : (last : Bool) → (eip / 4096 == 1048575) ≡ last → cond last (refuses (refusal.Stop stops.WrapAccess)) (fetched_on user eip front)
        s ≡ Ok (begins.Insn insn len, t) → IsPast user eip insn len front s t
    short true x f = absurd cc
    short false x f = record { cut = is; not_last = x; on = on_parts user eip insn len front s t f }
