-- Pages that are dropped one after the other, by what shadows show.
use Rattle.std.proofs.Common.{◌≡◌, ◌⊎◌, ℕ, ◌+◌, ◌^◌, ◌<◌, List, [], ◌∷◌, ◌++◌, length, take, get_or, Bool, true, false, ◌&&◌, ◌||◌, cond, eqb, ltb, Option, None, refl, sym, ap, ◌∙◌, inl, inr}
use Rattle.std.proofs.Math.Path.{fun_ext}
use Rattle.std.proofs.lemmas.Bool.{eqb-true, lt-ltb}
use Rattle.std.proofs.lemmas.List.{take_more}
use Rattle.guest_ram.specs.Among.{is_among}
use Rattle.shadow_tables.specs.OtherRoot.{AreSame}
use Rattle.shadow_tables.specs.Seen.{Seen, seen_of, page_dropped}
use Rattle.shadow_tables.specs.Slots.{Slot}
use Rattle.shadow_tables.specs.declared.shadows.Shadows as shadows
use Rattle.shadow_tables.proofs.OtherRoots.{among-append}
use Rattle.shadow_tables.proofs.Seeing.{in-sight, same-roots}
use Rattle.wedge_step.specs.Sight.{one_dropped, pages_dropped}

next_in : (here fits before : Bool) (o : Option Slot) → (here ≡ true → fits ≡ true) → cond here None (cond (before && fits) None o) ≡ cond
    ((before || (here || false)) && fits) None o
next_in true true true o h = refl
next_in true true false o h = refl
next_in true false before o h = absurd (let q : false ≡ true = h refl in cc)
next_in false fits true o h = refl
next_in false fits false o h = refl

next_out : (here fits before : Bool) (o : Option Slot) → (here ≡ true → fits ≡ false)
    → cond (before && fits) None o ≡ cond ((before || (here || false)) && fits) None o
next_out true true before o h = absurd (let q : true ≡ false = h refl in cc)
next_out true false true o h = refl
next_out true false false o h = refl
next_out false fits true o h = refl
next_out false fits false o h = refl

one_more : (pages : List ℕ) (page : ℕ) (v : Seen) → one_dropped page (pages_dropped pages v) ≡ pages_dropped (pages ++ page ∷ []) v
one_more pages page v = by (ltb page (2 ^ 20)) refl
  where
    fits : (q : ℕ) → eqb q page ≡ true → ltb q (2 ^ 20) ≡ ltb page (2 ^ 20)
    fits q h = ap (λ n. ltb n (2 ^ 20)) (eqb-true q page h)

    among : (q : ℕ) → cond ((is_among q pages || (eqb q page || false)) && ltb q (2 ^ 20)) None (v.slots q) ≡ cond
        (is_among q (pages ++ page ∷ []) && ltb q (2 ^ 20)) None (v.slots q)
    among q = sym (ap (λ b. cond (b && ltb q (2 ^ 20)) None (v.slots q)) (among-append q pages (page ∷ [])))

    by : (b : Bool) → ltb page (2 ^ 20) ≡ b → cond b (page_dropped page (pages_dropped pages v)) (pages_dropped pages v) ≡ pages_dropped
        (pages ++ page ∷ []) v
    by true e = ap (λ (f : ℕ → Option Slot). record v { slots = f })
        (fun_ext (λ q. next_in (eqb q page) (ltb q (2 ^ 20)) (is_among q pages) (v.slots q) (λ h. fits q h ∙ e) ∙ among q))
    by false e = ap (λ (f : ℕ → Option Slot). record v { slots = f })
        (fun_ext (λ q. next_out (eqb q page) (ltb q (2 ^ 20)) (is_among q pages) (v.slots q) (λ h. fits q h ∙ e) ∙ among q))

pub next_dropped : (pages : List ℕ) (i : ℕ) → i < length pages → (v : Seen)
    → one_dropped (get_or pages i 0) (pages_dropped (take i pages) v) ≡ pages_dropped (take (i + 1) pages) v
next_dropped pages i l v =
    one_more (take i pages) (get_or pages i 0) v ∙ sym (ap (λ (ps : List ℕ). pages_dropped ps v) (take_more pages i 0 l))

none_or : (b : Bool) (new o : Option Slot) → new ≡ cond b None o → (new ≡ None) ⊎ (new ≡ o)
none_or true new o e = inl e
none_or false new o e = inr e

-- what is said of each member, where these pages were dropped and nothing else was done
module _ {S : Type 0} (g : shadows.Ghosts S) where
  pub record Drops (pages : List ℕ) (old new : S) (memory then : List ℕ) : Type 0 where
    pub gone : (page : ℕ) → page < 2 ^ 20 → is_among page pages ≡ true → g.slots new then page ≡ None
    pub stays : (page : ℕ) → page < 2 ^ 20 → is_among page pages ≡ false → g.slots new then page ≡ g.slots old memory page
    pub others : (page : ℕ) → page < 2 ^ 20 → (g.slots new then page ≡ None) ⊎ (g.slots new then page ≡ g.slots old memory page)
    pub read_from : (f : ℕ) → g.read_from new f ≡ g.read_from old f
    pub stale : g.stale new ≡ g.stale old
    pub cr3 : g.cr3 new ≡ g.cr3 old
    pub other_roots : AreSame (g.other_roots old memory) (g.other_roots new then)

  module _ (seen : (s : S) (m : List ℕ) → g.sight s m ≡ seen_of (g.slots s m) (g.read_from s) (g.stale s) (g.cr3 s) (g.other_roots s m))
    where
      pub drops : (pages : List ℕ) (old new : S) (memory then : List ℕ) → g.sight new then ≡ pages_dropped pages (g.sight old memory)
          → Drops pages old new memory then
      drops pages old new memory then e = record {
        gone = λ page l h. kept page l ∙ ap (λ b. cond (b && ltb page (2 ^ 20)) None (g.slots old memory page)) h
            ∙ ap (λ b. cond b None (g.slots old memory page)) (lt-ltb page (2 ^ 20) l);
        stays = λ page l h. kept page l ∙ ap (λ b. cond (b && ltb page (2 ^ 20)) None (g.slots old memory page)) h;
        others = λ page l. none_or (is_among page pages && ltb page (2 ^ 20)) _ _ (kept page l);
        read_from = λ f. ap (λ (v : Seen). v.read_from f) shows;
        stale = ap (λ (v : Seen). v.stale) shows;
        cr3 = ap (λ (v : Seen). v.cr3) shows;
        other_roots = same-roots _ _ (ap (λ (v : Seen). v.other_roots) shows);
      }
        where
          shows : seen_of (g.slots new then) (g.read_from new) (g.stale new) (g.cr3 new) (g.other_roots new then)
              ≡ pages_dropped pages (seen_of (g.slots old memory) (g.read_from old) (g.stale old) (g.cr3 old) (g.other_roots old memory))
          shows = sym (seen new then) ∙ e ∙ ap (pages_dropped pages) (seen old memory)

          kept : (page : ℕ) → page < 2 ^ 20 → g.slots new then page ≡ cond (is_among page pages && ltb page (2 ^ 20)) None
              (g.slots old memory page)
          kept page l = in-sight g seen new then page l ∙ ap (λ (v : Seen). v.slots page) e
              ∙ ap (cond (is_among page pages && ltb page (2 ^ 20)) None) (sym (in-sight g seen old memory page l))
