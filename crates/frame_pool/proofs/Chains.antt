-- What a pool stands for after a write, and after each call.
use Rattle.std.proofs.Common.{◌≡◌, ◌≢◌, ℕ, zero, suc, ◌+◌, ◌-◌, ◌*◌, ◌^◌, ◌<◌, ◌≤◌, List, [], ◌∷◌, length, replicate, refl, sym, ap, ◌∙◌, subst, add-one, inl, inr, arith}
use Rattle.std.proofs.lemmas.List.{length-replicate}
use Rattle.guest_ram.specs.Bytes.{word32, with_word32, with_part, frame}
use Rattle.guest_ram.proofs.Bytes.{length-with_word32, length-with_part, word32-with_word32, frame-with_first, frame-with_frame, first-frame, part-with_part}
use Rattle.frame_pool.specs.Frames.{frames_from, IsNotIn, AreDistinct, AreWithin}
use Rattle.frame_pool.specs.Pool.{chain, free_list, Stands, IsOut, SameBut, SameOutside, AreSame}
use Rattle.frame_pool.specs.declared.Pool.{Pool}
use Rattle.frame_pool.proofs.Frames.{length-le_from_distinct, IsNotIn-frames_from}

pub length-chain : (m : List ℕ) (n f : ℕ) → length (chain m n f) ≡ n
unfolding chain
length-chain m zero f = refl
length-chain m (suc n) f = ap suc (length-chain m n (word32 m (4096 * f)))

pub chain-none : (m : List ℕ) (n f : ℕ) → n ≡ 0 → chain m n f ≡ []
unfolding chain
chain-none m zero f e = refl
chain-none m (suc n) f e = absurd (omega arith)

pub chain-some : (m : List ℕ) (n f : ℕ) → n ≢ 0 → chain m n f ≡ f ∷ chain m (n - 1) (word32 m (4096 * f))
unfolding chain
chain-some m zero f ne = absurd (ne refl)
chain-some m (suc n) f ne = let e : suc n - 1 ≡ n = omega arith in rw e

pub chain-more : (m : List ℕ) (n f : ℕ) → chain m (n + 1) f ≡ f ∷ chain m n (word32 m (4096 * f))
unfolding chain
chain-more m n f = rw (add-one n)

-- memories that have the same bytes in the frames of a chain have the same chain
pub chain-same : (m m' : List ℕ) (n f : ℕ) → AreSame m m' (chain m n f) → chain m' n f ≡ chain m n f
unfolding chain
chain-same m m' zero f h = refl
chain-same m m' (suc n) f h =
    ap (λ (fs : List ℕ). f ∷ fs) (ap (chain m' n) (first-frame m' m f h.0) ∙ chain-same m m' n (word32 m (4096 * f)) h.1)

pub AreSame-from_but : (m m' : List ℕ) (f : ℕ) (gs : List ℕ) → SameBut f m m' → IsNotIn f gs → AreSame m m' gs
AreSame-from_but m m' f [] s h = tt
AreSame-from_but m m' f (g ∷ gs) s h = (s.others g (λ e. h.0 (sym e)), AreSame-from_but m m' f gs s h.1)

-- a change in other frames than the free ones changes nothing of what a pool stands for
pub free_list-same : (p : Pool) (m m' : List ℕ) → AreSame m m' (free_list p m) → free_list p m' ≡ free_list p m
free_list-same p m m' h = chain-same m m' p.free p.head h

pub Stands-same : (p : Pool) (m m' : List ℕ) → length m' ≡ length m → AreSame m m' (free_list p m) → Stands p m → Stands p m'
Stands-same p m m' l h s =
    let e = sym (free_list-same p m m' h) in let r = s.room in
    record { room = omega (arith, r, l); within = subst (AreWithin p.base p.count) e s.within; distinct = subst AreDistinct e s.distinct }

-- as where a frame that is out is written
pub free_list-out : (p : Pool) (m m' : List ℕ) (f : ℕ) → IsOut p m f → SameBut f m m' → free_list p m' ≡ free_list p m
free_list-out p m m' f o s = free_list-same p m m' (AreSame-from_but m m' f (free_list p m) s o.out)

-- ---- `give`

pub give-fits : (p : Pool) (m : List ℕ) (f : ℕ) → Stands p m → IsOut p m f → p.free < p.count
give-fits p m f s o =
    let l = length-le_from_distinct p.base p.count (f ∷ free_list p m) (o.low, o.high, s.within) (o.out, s.distinct) in
    omega (arith, l, length-chain m p.free p.head)

frame_fits : (p : Pool) (m : List ℕ) (f : ℕ) → Stands p m → f < p.base + p.count → 4096 * f + 4096 ≤ length m
frame_fits p m f s h = let r = s.room in omega (arith, r, h)

pub give-memory : (p : Pool) (m : List ℕ) (f v : ℕ) → Stands p m → IsOut p m f → SameBut f m (with_word32 m (4096 * f) v)
give-memory p m f v s o =
    let fits = frame_fits p m f s o.high in let word : 4096 * f + 4 ≤ length m = omega arith in
    record { size = length-with_word32 m (4096 * f) v word; others = λ g ne. frame-with_first m f v g word ne }

pub give-list : (p : Pool) (m : List ℕ) (f : ℕ) → Stands p m → IsOut p m f → p.head < 2 ^ 32
    → chain (with_word32 m (4096 * f) p.head) (p.free + 1) f ≡ f ∷ free_list p m
give-list p m f s o h =
    let m' = with_word32 m (4096 * f) p.head in
    let fits = frame_fits p m f s o.high in let word : 4096 * f + 4 ≤ length m = omega arith in
    chain-more m' p.free f ∙ ap (λ (fs : List ℕ). f ∷ fs)
    (ap (chain m' p.free) (word32-with_word32 m (4096 * f) p.head word h) ∙ free_list-out p m m' f o (give-memory p m f p.head s o))

pub give-stands : (p p' : Pool) (m m' : List ℕ) (f : ℕ) → Stands p m → IsOut p m f → SameBut f m m' → p'.base ≡ p.base → p'.count ≡ p.count
    → free_list p' m' ≡ f ∷ free_list p m → Stands p' m'
give-stands p p' m m' f s o t b c e =
    let r = s.room in let l = t.size in
    record {
      room = rw (b, c, l) r;
      within = rw (b, c, e) (o.low, o.high, s.within);
      distinct = rw e (o.out, s.distinct);
    }

-- ---- `take`

pub take-low : (p : Pool) (m : List ℕ) → Stands p m → p.free ≢ 0 → p.head < p.base + p.count
take-low p m s ne = let w = subst (AreWithin p.base p.count) (chain-some m p.free p.head ne) s.within in w.1

pub take-fits : (p : Pool) (m : List ℕ) → Stands p m → p.free ≢ 0 → 4096 * p.head + 4096 ≤ length m
take-fits p m s ne = frame_fits p m p.head s (take-low p m s ne)

pub take-memory : (p : Pool) (m bs : List ℕ) → Stands p m → p.free ≢ 0 → length bs ≡ 4096
    → SameBut p.head m (with_part m (4096 * p.head) bs)
take-memory p m bs s ne l =
    let fits = take-fits p m s ne in
    record { size = length-with_part m (4096 * p.head) bs (omega arith); others = λ g n. frame-with_frame m p.head bs g fits l n }

pub take-zeroed : (p : Pool) (m : List ℕ) → Stands p m → p.free ≢ 0 → frame (with_part m (4096 * p.head) (replicate 4096 0))
    p.head ≡ replicate 4096 0
unfolding frame
take-zeroed p m s ne =
    let fits = take-fits p m s ne in let long = length-replicate {A = ℕ} 4096 0 in
    part-with_part m (4096 * p.head) (replicate 4096 0) 4096 (omega (arith, fits, long)) (sym long)

pub take-list : (p : Pool) (m m' : List ℕ) → Stands p m → p.free ≢ 0 → SameBut p.head m m'
    → free_list p m ≡ p.head ∷ chain m' (p.free - 1) (word32 m (4096 * p.head))
take-list p m m' s ne t =
    let e = chain-some m p.free p.head ne in
    let d = subst AreDistinct e s.distinct in
    e ∙ ap (λ (fs : List ℕ). p.head ∷ fs)
    (sym (chain-same m m' (p.free - 1) (word32 m (4096 * p.head)) (AreSame-from_but m m' p.head _ t d.0)))

pub take-stands : (p p' : Pool) (m m' : List ℕ) (f : ℕ) → Stands p m → length m' ≡ length m → p'.base ≡ p.base → p'.count ≡ p.count
    → free_list p m ≡ f ∷ free_list p' m' → Stands p' m'
take-stands p p' m m' f s l b c e =
    let r = s.room in let w = subst (AreWithin p.base p.count) e s.within in let d = subst AreDistinct e s.distinct in
    record { room = rw (b, c, l) r; within = rw (b, c) w.2; distinct = d.1 }

pub take-out : (p p' : Pool) (m m' : List ℕ) (f : ℕ) → Stands p m → p'.base ≡ p.base → p'.count ≡ p.count
    → free_list p m ≡ f ∷ free_list p' m' → IsOut p' m' f
take-out p p' m m' f s b c e =
    let w = subst (AreWithin p.base p.count) e s.within in let d = subst AreDistinct e s.distinct in
    record { low = rw b w.0; high = rw (b, c) w.1; out = d.0 }

-- ---- `reset`

pub SameOutside-more : (b n f : ℕ) (m m' m'' : List ℕ) → SameOutside b n m m' → b ≤ f → f < b + n → SameBut f m' m'' → SameOutside b n m m''
SameOutside-more b n f m m' m'' s low high t =
    let l = t.size in let l' = s.size in
    record {
      size = omega (arith, l, l');
      others = λ g out. t.others g (elim out [ inl h ↦ λ e. omega (arith, h, e) | inr h ↦ λ e. omega (arith, h, e) ]) ∙ s.others g out;
    }

-- a pool none of whose frames is free
pub Stands-none : (p : Pool) (m : List ℕ) → p.free ≡ 0 → 4096 * (p.base + p.count) ≤ length m → Stands p m
Stands-none p m e r = let n = sym (chain-none m p.free p.head e) in
    record { room = r; within = subst (AreWithin p.base p.count) n tt; distinct = subst AreDistinct n tt }

pub IsOut-next : (p : Pool) (m : List ℕ) (i : ℕ) → i < p.count → free_list p m ≡ frames_from (p.base + (p.count - i)) i
    → IsOut p m (p.base + (p.count - 1 - i))
IsOut-next p m i h e =
    record {
      low = omega arith;
      high = omega arith;
      out = rw e (IsNotIn-frames_from (p.base + (p.count - 1 - i)) (p.base + (p.count - i)) i (omega arith));
    }
