-- What is kept for other values of CR3, call after call.
use Rattle.std.proofs.Common.{◌≡◌, ℕ, List, [], ◌∷◌, ◌++◌, Bool, true, false, not, ◌||◌, ◌&&◌, cond, eqb, Option, Some, None, refl, sym, ap, ◌∙◌}
use Rattle.std.specs.List.{list_any}
use Rattle.guest_ram.specs.Among.{is_among}
use Rattle.shadow_tables.specs.Slots.{Slot, barred}
use Rattle.shadow_tables.specs.OtherRoot.{OtherRoot, IsSame, LosesWritesTo, AreSame, LoseWrites, spared, all_spared}
pub use Rattle.std.proofs.lemmas.List.Folds.{list_any-append as any-append}

-- ---- the same

is-same : (a : OtherRoot) → IsSame a a
is-same a = record { cr3 = refl; tables = λ f. refl; slots = λ page l. refl }

pub same-refl : (xs : List OtherRoot) → AreSame xs xs
same-refl [] = tt
same-refl (x ∷ xs) = (is-same x, same-refl xs)

is-trans : (a b c : OtherRoot) → IsSame a b → IsSame b c → IsSame a c
is-trans a b c h k =
    record { cr3 = k.cr3 ∙ h.cr3; tables = λ f. k.tables f ∙ h.tables f; slots = λ page l. k.slots page l ∙ h.slots page l }

pub same-trans : (xs ys zs : List OtherRoot) → AreSame xs ys → AreSame ys zs → AreSame xs zs
same-trans [] [] [] h k = tt
same-trans [] [] (z ∷ zs) h k = k
same-trans [] (y ∷ ys) zs h k = absurd h
same-trans (x ∷ xs) [] zs h k = absurd h
same-trans (x ∷ xs) (y ∷ ys) [] h k = k
same-trans (x ∷ xs) (y ∷ ys) (z ∷ zs) h k = (is-trans x y z h.0 k.0, same-trans xs ys zs h.1 k.1)

-- ---- rights to write that were lost

pub and-true : (b : Bool) → (b && true) ≡ b
and-true true = refl
and-true false = refl

not-both : (w a b : Bool) → ((w && not a) && not b) ≡ (w && not (a || b))
not-both true true b = refl
not-both true false b = refl
not-both false a b = refl

pub among-append : (f : ℕ) (fs gs : List ℕ) → is_among f (fs ++ gs) ≡ (is_among f fs || is_among f gs)
among-append f fs gs = any-append (eqb f) fs gs

with-writes : Slot → Bool → Option Slot
with-writes slot b = Some (record slot { writes = b })

pub barred-none : (o : Option Slot) → barred [] o ≡ o
unfolding with-writes
barred-none None = refl
barred-none (Some slot) = ap (with-writes slot) (and-true slot.writes)

pub barred-twice : (fs gs : List ℕ) (o : Option Slot) → barred gs (barred fs o) ≡ barred (fs ++ gs) o
unfolding with-writes
barred-twice fs gs None = refl
barred-twice fs gs (Some slot) =
    ap (with-writes slot) (not-both slot.writes (is_among slot.entry.frame fs) (is_among slot.entry.frame gs)
    ∙ ap (λ b. slot.writes && not b) (sym (among-append slot.entry.frame fs gs)))

is-none : (a b : OtherRoot) → IsSame a b → LosesWritesTo [] a b
is-none a b h = record { cr3 = h.cr3; tables = h.tables; slots = λ page l. h.slots page l ∙ sym (barred-none (a.slots page)) }

-- the same lost no right
pub lose-none : (xs ys : List OtherRoot) → AreSame xs ys → LoseWrites [] xs ys
lose-none [] [] h = tt
lose-none [] (y ∷ ys) h = h
lose-none (x ∷ xs) [] h = h
lose-none (x ∷ xs) (y ∷ ys) h = (is-none x y h.0, lose-none xs ys h.1)

is-more : (fs gs : List ℕ) (a b c : OtherRoot) → LosesWritesTo fs a b → LosesWritesTo gs b c → LosesWritesTo (fs ++ gs) a c
is-more fs gs a b c h k =
    record {
      cr3 = k.cr3 ∙ h.cr3;
      tables = λ f. k.tables f ∙ h.tables f;
      slots = λ page l. k.slots page l ∙ ap (barred gs) (h.slots page l) ∙ barred-twice fs gs (a.slots page);
    }

-- first those to some frames, then those to others
pub lose-more : (fs gs : List ℕ) (xs ys zs : List OtherRoot) → LoseWrites fs xs ys → LoseWrites gs ys zs → LoseWrites (fs ++ gs) xs zs
lose-more fs gs [] [] [] h k = tt
lose-more fs gs [] [] (z ∷ zs) h k = k
lose-more fs gs [] (y ∷ ys) zs h k = absurd h
lose-more fs gs (x ∷ xs) [] zs h k = absurd h
lose-more fs gs (x ∷ xs) (y ∷ ys) [] h k = k
lose-more fs gs (x ∷ xs) (y ∷ ys) (z ∷ zs) h k = (is-more fs gs x y z h.0 k.0, lose-more fs gs xs ys zs h.1 k.1)

is-same-lose : (fs : List ℕ) (a b c : OtherRoot) → LosesWritesTo fs a b → IsSame b c → LosesWritesTo fs a c
is-same-lose fs a b c h k =
    record { cr3 = k.cr3 ∙ h.cr3; tables = λ f. k.tables f ∙ h.tables f; slots = λ page l. k.slots page l ∙ h.slots page l }

pub lose-same : (fs : List ℕ) (xs ys zs : List OtherRoot) → LoseWrites fs xs ys → AreSame ys zs → LoseWrites fs xs zs
lose-same fs [] [] [] h k = tt
lose-same fs [] [] (z ∷ zs) h k = k
lose-same fs [] (y ∷ ys) zs h k = absurd h
lose-same fs (x ∷ xs) [] zs h k = absurd h
lose-same fs (x ∷ xs) (y ∷ ys) [] h k = k
lose-same fs (x ∷ xs) (y ∷ ys) (z ∷ zs) h k = (is-same-lose fs x y z h.0 k.0, lose-same fs xs ys zs h.1 k.1)

-- ---- those that a write leaves

same-by : (b c : Bool) (x y : OtherRoot) (xs ys : List OtherRoot) → c ≡ b → IsSame x y → AreSame xs ys
    → AreSame (cond b (x ∷ xs) xs) (cond c (y ∷ ys) ys)
same-by true true x y xs ys e h k = (h, k)
same-by false false x y xs ys e h k = k
same-by true false x y xs ys e h k = absurd cc
same-by false true x y xs ys e h k = absurd cc

pub spared-same : (frame : ℕ) (xs ys : List OtherRoot) → AreSame xs ys → AreSame (spared frame xs) (spared frame ys)
spared-same frame [] [] h = tt
spared-same frame [] (y ∷ ys) h = absurd h
spared-same frame (x ∷ xs) [] h = absurd h
spared-same frame (x ∷ xs) (y ∷ ys) h = same-by (not (x.tables frame)) (not (y.tables frame)) x y (spared frame xs) (spared frame ys)
    (ap not (h.0.tables frame)) h.0 (spared-same frame xs ys h.1)

pub any-same : (s t : ℕ → Bool) (frames : List ℕ) → ((f : ℕ) → t f ≡ s f) → list_any t frames ≡ list_any s frames
any-same s t [] h = refl
any-same s t (f ∷ fs) h = ap (λ b. b || list_any t fs) (h f) ∙ ap (λ b. s f || b) (any-same s t fs h)

lose-by : (fs : List ℕ) (b c : Bool) (x y : OtherRoot) (xs ys : List OtherRoot) → c ≡ b → LosesWritesTo fs x y → LoseWrites fs xs ys
    → LoseWrites fs (cond b (x ∷ xs) xs) (cond c (y ∷ ys) ys)
lose-by fs true true x y xs ys e h k = (h, k)
lose-by fs false false x y xs ys e h k = k
lose-by fs true false x y xs ys e h k = absurd cc
lose-by fs false true x y xs ys e h k = absurd cc

pub spared-lose : (fs frames : List ℕ) (xs ys : List OtherRoot) → LoseWrites fs xs ys
    → LoseWrites fs (all_spared frames xs) (all_spared frames ys)
spared-lose fs frames [] [] h = tt
spared-lose fs frames [] (y ∷ ys) h = absurd h
spared-lose fs frames (x ∷ xs) [] h = absurd h
spared-lose fs frames (x ∷ xs) (y ∷ ys) h =
    lose-by fs (not (list_any x.tables frames)) (not (list_any y.tables frames)) x y (all_spared frames xs) (all_spared frames ys)
    (ap not (any-same x.tables y.tables frames h.0.tables)) h.0 (spared-lose fs frames xs ys h.1)

pub none-written : (xs : List OtherRoot) → all_spared [] xs ≡ xs
none-written [] = refl
none-written (x ∷ xs) = ap (λ (ys : List OtherRoot). x ∷ ys) (none-written xs)

twice-by : (frame : ℕ) (a b c : Bool) (x : OtherRoot) (xs ys : List OtherRoot) → b ≡ x.tables frame → c ≡ (a || (b || false))
    → spared frame xs ≡ ys → spared frame (cond (not a) (x ∷ xs) xs) ≡ cond (not c) (x ∷ ys) ys
twice-by frame true b true x xs ys e h k = k
twice-by frame false true true x xs ys e h k = ap (λ t. cond (not t) (x ∷ spared frame xs) (spared frame xs)) (sym e) ∙ k
twice-by frame false false false x xs ys e h k =
    ap (λ t. cond (not t) (x ∷ spared frame xs) (spared frame xs)) (sym e) ∙ ap (λ (zs : List OtherRoot). x ∷ zs) k
twice-by frame true b false x xs ys e h k = absurd cc
twice-by frame false true false x xs ys e h k = absurd cc
twice-by frame false false true x xs ys e h k = absurd cc

-- one frame after others
pub spared-more : (frames : List ℕ) (frame : ℕ) (xs : List OtherRoot) → spared frame (all_spared frames xs) ≡ all_spared
    (frames ++ frame ∷ []) xs
spared-more frames frame [] = refl
spared-more frames frame (x ∷ xs) =
    twice-by frame (list_any x.tables frames) (x.tables frame) (list_any x.tables (frames ++ frame ∷ [])) x (all_spared frames xs)
    (all_spared (frames ++ frame ∷ []) xs) refl
    (any-append x.tables frames (frame ∷ [])) (spared-more frames frame xs)
