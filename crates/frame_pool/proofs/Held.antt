-- Frames that are held, over the calls of a pool and over writes.
use Rattle.std.proofs.Common.{◌≡◌, ℕ, ◌+◌, ◌<◌, ◌≤◌, List, [], ◌∷◌, ◌++◌, length, length-append, refl, ap, ◌∙◌, inl, inr, arith}
use Rattle.guest_ram.specs.Bytes.{frame}
use Rattle.frame_pool.specs.Pool.{free_list, Stands, SameFrames, SameBut, Takes, AreSame}
use Rattle.frame_pool.specs.declared.Pool.{Pool}
use Rattle.frame_pool.proofs.Chains.{free_list-same, Stands-same}
use Rattle.frame_pool.specs.Held.{hit, times, Holds, Owns, Writes, Moves, SameIn}
use Rattle.frame_pool.proofs.Lengths.{zero-or, hit-self, times-cons, times-none, times-append, IsNotIn-times, times-IsNotIn, times-distinct, times-within, length-counts}

-- the number of those that are free or held, and what was out and not held
pub Moves-from : (p p' : Pool) (m m' fs fs' : List ℕ) → length m' ≡ length m → SameFrames p p' → Stands p' m'
    → ((f : ℕ) → times f (free_list p' m') + times f fs' ≡ times f (free_list p m) + times f fs)
    → ((g : ℕ) → times g (free_list p m) ≡ 0 → times g fs ≡ 0 → frame m' g ≡ frame m g) → Moves p p' m m' fs fs'
Moves-from p p' m m' fs fs' size same stands together others =
    let all = length-counts (free_list p' m' ++ fs') (free_list p m ++ fs) (λ f.
    let t = together f in let a =
    times-append f (free_list p' m') fs' in let b = times-append f (free_list p m) fs in omega (arith, t, a, b)) in
    let now = length-append (free_list p' m') fs' in
    let was = length-append (free_list p m) fs in
    record {
      size = size;
      same = same;
      stands = stands;
      together = together;
      lengths = omega (arith, all, now, was);
      others = others;
      out = λ g o z.
          (let t = together g in let n = times-IsNotIn g (free_list p m) o.out in
          record {
            low = rw same.0 o.low;
            high = rw (same.0, same.1) o.high;
            out = IsNotIn-times g (free_list p' m') (omega (arith, t, n, z));
          });
    }

-- ---- frames that are held

module _ (p : Pool) (m fs : List ℕ) (o : Owns p m fs) where
  pub Owns-sum : (f : ℕ) → times f (free_list p m) + times f fs ≤ 1
  Owns-sum f =
      let once = o.once f in
      let free = times-distinct f (free_list p m) o.stands.distinct in
      elim (zero-or (times f fs)) [
        | inl z ↦ omega (arith, z, free)
        | inr s ↦ let n = times-IsNotIn f (free_list p m) (o.out f s).out in omega (arith, n, once)
      ]

  pub Owns-within : (f : ℕ) → 1 ≤ times f (free_list p m) + times f fs → (p.base ≤ f) × (f < p.base + p.count)
  Owns-within f h =
      elim (zero-or (times f fs)) [
        | inl z ↦ times-within p.base p.count f (free_list p m) o.stands.within (omega (arith, z, h))
        | inr s ↦ let i = o.out f s in (i.low, i.high)
      ]

  pub Holds-from_Owns : Holds m fs
  Holds-from_Owns =
      record {
        room = λ f h. (let high = (o.out f h).high in let room = o.stands.room in omega (arith, high, room));
        once = o.once;
      }

  pub Owns-not_free : (f : ℕ) → 1 ≤ times f (free_list p m) → times f fs ≡ 0
  Owns-not_free f h = let s = Owns-sum f in omega (arith, s, h)

pub Owns-moves : (p p' : Pool) (m m' fs fs' : List ℕ) → Owns p m fs → Moves p p' m m' fs fs' → Owns p' m' fs'
Owns-moves p p' m m' fs fs' o v =
    record {
      stands = v.stands;
      out = λ f h.
          (let t = v.together f in
          let s = Owns-sum p m fs o f in
          let w = Owns-within p m fs o f (omega (arith, t, h)) in
          record {
            low = rw v.same.0 w.0;
            high = rw (v.same.0, v.same.1) w.1;
            out = IsNotIn-times f (free_list p' m') (omega (arith, t, s, h));
          });
      once = λ f. (let t = v.together f in let s = Owns-sum p m fs o f in omega (arith, t, s));
    }

pub Moves-trans : (p p' p'' : Pool) (m m' m'' fs fs' fs'' : List ℕ) → Moves p p' m m' fs fs' → Moves p' p'' m' m'' fs' fs''
    → Moves p p'' m m'' fs fs''
Moves-trans p p' p'' m m' m'' fs fs' fs'' v w =
    Moves-from p p'' m m'' fs fs'' (w.size ∙ v.size) (w.same.0 ∙ v.same.0, w.same.1 ∙ v.same.1) w.stands (λ f. w.together f ∙ v.together f)
    (λ g a b. (let t = v.together g in w.others g (omega (arith, t, a, b)) (omega (arith, t, a, b)) ∙ v.others g a b))

-- what is written in frames that are held changes nothing of the pool
free-same : (p : Pool) (m m' fs : List ℕ) → Owns p m fs → Writes fs m m' → (gs : List ℕ)
    → ((f : ℕ) → 1 ≤ times f gs → 1 ≤ times f (free_list p m)) → AreSame m m' gs
free-same p m m' fs o w [] h = tt
free-same p m m' fs o w (g ∷ gs) h =
    let c = times-cons g g gs in let s = hit-self g in (
      w.others g (Owns-not_free p m fs o g (h g (omega (arith, c, s)))),
      free-same p m m' fs o w gs (λ f k. h f (let c' = times-cons f g gs in omega (arith, c', k))),
    )

pub free_list-writes : (p : Pool) (m m' fs : List ℕ) → Owns p m fs → Writes fs m m' → free_list p m' ≡ free_list p m
free_list-writes p m m' fs o w = free_list-same p m m' (free-same p m m' fs o w (free_list p m) (λ f h. h))

pub Moves-writes : (p : Pool) (m m' fs : List ℕ) → Owns p m fs → Writes fs m m' → Moves p p m m' fs fs
Moves-writes p m m' fs o w =
    Moves-from p p m m' fs fs w.size (refl, refl) (Stands-same p m m' w.size (free-same p m m' fs o w (free_list p m) (λ f h. h)) o.stands)
    (λ f. ap (λ (gs : List ℕ). times f gs + times f fs) (free_list-writes p m m' fs o w)) (λ g a b. w.others g b)

pub Writes-refl : (fs m : List ℕ) → Writes fs m m
Writes-refl fs m = record { size = refl; others = λ g h. refl }

pub Writes-trans : (fs m m' m'' : List ℕ) → Writes fs m m' → Writes fs m' m'' → Writes fs m m''
Writes-trans fs m m' m'' w v = record { size = v.size ∙ w.size; others = λ g h. v.others g h ∙ w.others g h }

pub Writes-but : (fs m m' : List ℕ) (f : ℕ) → 1 ≤ times f fs → SameBut f m m' → Writes fs m m'
Writes-but fs m m' f h s =
    record { size = s.size; others = λ g n. s.others g (λ e. absurd (let c = ap (λ x. times x fs) e in omega (arith, c, n, h))) }

pub Holds-writes : (fs m m' : List ℕ) → Holds m fs → length m' ≡ length m → Holds m' fs
Holds-writes fs m m' h e =
    record { room = λ f k. (let r = h.room f k in omega (arith, r, e)); once = h.once }

-- a frame that was taken is held besides
pub Moves-take : (p p' : Pool) (m m' fs : List ℕ) (f : ℕ) → Takes p p' m m' f → Moves p p' m m' fs (f ∷ fs)
Moves-take p p' m m' fs f t =
    Moves-from p p' m m' fs (f ∷ fs) t.but.size t.same t.stands
    (λ g. (let c = times-cons g f fs in let d = times-cons g f (free_list p' m') in let e = ap (times g) t.list in omega (arith, c, d, e)))
    (λ g a b. t.but.others g (λ e. absurd (
    let l = ap (times g) t.list in let d = times-cons g f (free_list p' m') in
    let s = hit-self f in let h = ap (λ x. hit x f) e in omega (arith, a, l, d, s, h))))

-- what is held may be listed in another order
pub Moves-counts : (p p' : Pool) (m m' fs fs' fs'' : List ℕ) → ((f : ℕ) → times f fs'' ≡ times f fs') → Moves p p' m m' fs fs'
    → Moves p p' m m' fs fs''
Moves-counts p p' m m' fs fs' fs'' e v =
    Moves-from p p' m m' fs fs'' v.size v.same v.stands (λ f. (let t = v.together f in let c = e f in omega (arith, t, c))) v.others

pub Moves-refl : (p : Pool) (m fs : List ℕ) → Stands p m → Moves p p m m fs fs
Moves-refl p m fs s = Moves-from p p m m fs fs refl (refl, refl) s (λ f. refl) (λ g a b. refl)

pub Owns-none : (p : Pool) (m : List ℕ) → Stands p m → Owns p m []
Owns-none p m s =
    record {
      stands = s;
      out = λ f h. absurd (let z = times-none f in omega (arith, z, h));
      once = λ f. (let z = times-none f in omega (arith, z));
    }

-- what is written in other frames than the free ones changes nothing of the pool
same-of : (m m' fs gs : List ℕ) → SameIn fs m m' → ((f : ℕ) → 1 ≤ times f gs → 1 ≤ times f fs) → AreSame m m' gs
same-of m m' fs [] e h = tt
same-of m m' fs (g ∷ gs) e h =
    let c = times-cons g g gs in let s = hit-self g in (
      e.frames g (h g (omega (arith, c, s))),
      same-of m m' fs gs e (λ f k. h f (let c' = times-cons f g gs in omega (arith, c', k))),
    )

pub free_list-apart : (p : Pool) (m m' : List ℕ) → SameIn (free_list p m) m m' → free_list p m' ≡ free_list p m
free_list-apart p m m' e = free_list-same p m m' (same-of m m' (free_list p m) (free_list p m) e (λ f h. h))

pub Stands-apart : (p : Pool) (m m' : List ℕ) → Stands p m → SameIn (free_list p m) m m' → Stands p m'
Stands-apart p m m' s e = Stands-same p m m' e.size (same-of m m' (free_list p m) (free_list p m) e (λ f h. h)) s

-- a call that writes frames that are held, and holds the same ones afterwards
pub Moves-kept : (p : Pool) (m m' fs fs' : List ℕ) → Owns p m fs → fs' ≡ fs → Writes fs m m' → Moves p p m m' fs fs'
Moves-kept p m m' fs fs' o e w = Moves-counts p p m m' fs fs fs' (λ f. ap (times f) e) (Moves-writes p m m' fs o w)

-- a frame that is given back is held no more
pub Moves-give : (p p' : Pool) (m m' fs : List ℕ) (f : ℕ) → free_list p' m' ≡ f ∷ free_list p m → Stands p' m' → SameFrames p p'
    → SameBut f m m' → Moves p p' m m' (f ∷ fs) fs
Moves-give p p' m m' fs f list stands same but =
    Moves-from p p' m m' (f ∷ fs) fs but.size same stands
    (λ g. (let c = times-cons g f fs in let d = times-cons g f (free_list p m) in let e = ap (times g) list in omega (arith, c, d, e)))
    (λ g a b. but.others g (λ e. absurd (
    let c = times-cons g f fs in let s = hit-self f in let h = ap (λ x. hit x f) e in omega (arith, b, c, s, h))))

-- further frames are held all the while
pub Moves-beside : (p p' : Pool) (m m' fs fs' gs : List ℕ) → Moves p p' m m' fs fs' → Moves p p' m m' (fs ++ gs) (fs' ++ gs)
Moves-beside p p' m m' fs fs' gs v =
    Moves-from p p' m m' (fs ++ gs) (fs' ++ gs) v.size v.same v.stands
    (λ f. (let t = v.together f in let a = times-append f fs gs in let b = times-append f fs' gs in omega (arith, t, a, b)))
    (λ g a b. v.others g a (let c = times-append g fs gs in omega (arith, b, c)))

-- and are as they were
pub SameIn-beside : (p p' : Pool) (m m' fs fs' gs : List ℕ) → Owns p m (fs ++ gs) → Moves p p' m m' fs fs' → SameIn gs m m'
SameIn-beside p p' m m' fs fs' gs o v =
    record {
      size = v.size;
      frames = λ f h.
          (let a = times-append f fs gs in let s = Owns-sum p m (fs ++ gs) o f in
          v.others f (omega (arith, a, s, h)) (omega (arith, a, s, h)));
    }

pub Owns-part : (p : Pool) (m fs gs : List ℕ) → Owns p m (fs ++ gs) → Owns p m fs
Owns-part p m fs gs o =
    record {
      stands = o.stands;
      out = λ f h. o.out f (let a = times-append f fs gs in omega (arith, a, h));
      once = λ f. (let a = times-append f fs gs in let s = o.once f in omega (arith, a, s));
    }

pub SameIn-writes : (m m' fs gs : List ℕ) → Holds m (fs ++ gs) → Writes fs m m' → SameIn gs m m'
SameIn-writes m m' fs gs h w =
    record { size = w.size; frames = λ f k. w.others f (let a = times-append f fs gs in let s = h.once f in omega (arith, a, s, k)) }

pub Writes-more : (m m' fs gs : List ℕ) → Writes fs m m' → Writes (fs ++ gs) m m'
Writes-more m m' fs gs w = record { size = w.size; others = λ g z. w.others g (let a = times-append g fs gs in omega (arith, a, z)) }

-- the same frames in another order
pub Owns-counts : (p : Pool) (m fs gs : List ℕ) → ((f : ℕ) → times f gs ≡ times f fs) → Owns p m fs → Owns p m gs
Owns-counts p m fs gs e o =
    record {
      stands = o.stands;
      out = λ f h. o.out f (let c = e f in omega (arith, c, h));
      once = λ f. (let c = e f in let s = o.once f in omega (arith, c, s));
    }

pub Moves-counts_from : (p p' : Pool) (m m' fs gs fs' : List ℕ) → ((f : ℕ) → times f gs ≡ times f fs) → Moves p p' m m' fs fs'
    → Moves p p' m m' gs fs'
Moves-counts_from p p' m m' fs gs fs' e v =
    Moves-from p p' m m' gs fs' v.size v.same v.stands (λ f. (let t = v.together f in let c = e f in omega (arith, t, c)))
    (λ g a b. v.others g a (let c = e g in omega (arith, c, b)))
