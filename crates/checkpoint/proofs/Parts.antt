-- Parts one after the other, and what stands at their places.
use Rattle.std.proofs.Common.{◌≡◌, ℕ, zero, suc, ◌+◌, ◌*◌, ◌<◌, ◌≤◌, ◌^◌, List, [], ◌∷◌, ◌++◌, length, get_or, take, drop, refl, ap, sym, ◌∙◌, arith, length-append, append_assoc}
use Rattle.std.specs.List.{concat, flat_map}
use Rattle.std.specs.Int.{w16, w32, w64, from_le_bytes}
use Rattle.std.proofs.lemmas.List.{drop-drop, drop_at, take_at, drop_more, take_all, take_more, append-nil}
use Rattle.std.proofs.lemmas.Nat.{le_bytes_2, le_bytes_4, le_bytes_8, from_le_bytes-to_le_bytes_2, from_le_bytes-to_le_bytes_4, from_le_bytes-to_le_bytes_8}
use Rattle.guest_ram.specs.Bytes.{part, byte, word16, word32, AreBytes}
use Rattle.guest_ram.proofs.Bytes.{length-part, bytes-part, get_or-part, part-part, part-append}
use Rattle.checkpoint.specs.declared.head.Segment.{Segment}
use Rattle.checkpoint.specs.Head.{two, four, eight, segment_bytes, double_at, words_at, segment_at}
use Rattle.checkpoint.specs.Ranges.{AreBelow, AreSelectors}

-- ---- what is written is read

-- parts of these widths
abbrev pub AreWide : List ℕ → List (List ℕ) → Type 0
AreWide [] [] = Unit {0}
AreWide [] (p ∷ parts) = ⊥
AreWide (w ∷ widths) [] = ⊥
AreWide (w ∷ widths) (p ∷ parts) = (length p ≡ w) × AreWide widths parts

abbrev pub place : List ℕ → ℕ → ℕ
place widths zero = 0
place [] (suc k) = 0
place (w ∷ widths) (suc k) = w + place widths k

pub at_place : (widths : List ℕ) (parts : List (List ℕ)) (k : ℕ) → AreWide widths parts →
    part (concat parts) (place widths k) (get_or widths k 0) ≡ get_or parts k []
unfolding part
at_place [] [] zero are = refl
at_place [] [] (suc k) are = refl
at_place [] (p ∷ parts) k are = absurd are
at_place (w ∷ widths) [] k are = absurd are
at_place (w ∷ widths) (p ∷ parts) zero are = take_at p (concat parts) w are.0
at_place (w ∷ widths) (p ∷ parts) (suc k) are =
    ap (take (get_or widths k 0))
    (sym (drop-drop (place widths k) w (p ++ concat parts)) ∙ ap (drop (place widths k)) (drop_at p (concat parts) w are.0))
    ∙ at_place widths parts k are.1

pub word_there : (m : List ℕ) (a n : ℕ) → part m a 4 ≡ four n → n < 2 ^ 32 → word32 m a ≡ n
unfolding word32
word_there m a n is small = ap (from_le_bytes w32) is ∙ from_le_bytes-to_le_bytes_4 n small

pub half_there : (m : List ℕ) (a n : ℕ) → part m a 2 ≡ two n → n < 2 ^ 16 → word16 m a ≡ n
unfolding word16
half_there m a n is small = ap (from_le_bytes w16) is ∙ from_le_bytes-to_le_bytes_2 n small

pub double_there : (m : List ℕ) (a n : ℕ) → part m a 8 ≡ eight n → n < 2 ^ 64 → double_at m a ≡ n
double_there m a n is small = ap (from_le_bytes w64) is ∙ from_le_bytes-to_le_bytes_8 n small

pub byte_there : (m : List ℕ) (a n k : ℕ) (bytes : List ℕ) → part m a n ≡ bytes → k < n → byte m (a + k) ≡ get_or bytes k 0
unfolding byte
byte_there m a n k bytes is low = sym (get_or-part m a n k low) ∙ ap (λ (xs : List ℕ). get_or xs k 0) is

-- a part's front and the rest
front_of : (m : List ℕ) (a n : ℕ) (front rest : List ℕ) → part m a (length front + n) ≡ front ++ rest → part m a (length front) ≡ front
unfolding part
front_of m a n front rest is =
    let here : a + 0 ≡ a = omega arith in
    ap (λ (k : ℕ). take (length front) (drop k m)) (sym here)
    ∙ sym (part-part m a (length front + n) 0 (length front) (omega arith))
    ∙ ap (take (length front)) is ∙ take_at front rest (length front) refl

rest_of : (m : List ℕ) (a n : ℕ) (front rest : List ℕ) → length rest ≡ n → part m a (length front + n) ≡ front ++ rest
    → part m (a + length front) n ≡ rest
unfolding part
rest_of m a n front rest long is =
    sym (part-part m a (length front + n) (length front) n (omega arith))
    ∙ ap (λ (xs : List ℕ). take n (drop (length front) xs)) is
    ∙ ap (take n) (drop_at front rest (length front) refl) ∙ take_all n rest (omega arith)

pub length-fours : (words : List ℕ) → length (flat_map four words) ≡ 4 * length words
length-fours [] = refl
length-fours (w ∷ words) = omega (arith, length-append (four w) (flat_map four words), length-fours words)

pub words_there : (m : List ℕ) (a n : ℕ) (words : List ℕ) → AreBelow (2 ^ 32) words → length words ≡ n
    → part m a (4 * n) ≡ flat_map four words →
    words_at m a n ≡ words
words_there m a zero [] small long is = refl
words_there m a (suc n) [] small long is = absurd (omega arith)
words_there m a zero (w ∷ words) small long is = absurd (omega arith)
words_there m a (suc n) (w ∷ words) small long is =
    let count : 4 * suc n ≡ 4 + 4 * n = omega arith in
    let whole : part m a (4 + 4 * n) ≡ four w ++ flat_map four words = ap (part m a) (sym count) ∙ is in
    let first = front_of m a (4 * n) (four w) (flat_map four words) whole in
    let later = rest_of m a (4 * n) (four w) (flat_map four words) (omega (arith, length-fours words)) whole in
    cons (word_there m a w first (small 0)) (words_there m (a + 4) n words (λ k. small (suc k)) (omega arith) later)
  where
    cons : {x y : ℕ} {xs ys : List ℕ} → x ≡ y → xs ≡ ys → x ∷ xs ≡ y ∷ ys
    cons {x} {y} {xs} {ys} p q = ap (λ (z : ℕ). z ∷ xs) p ∙ ap (λ (zs : List ℕ). y ∷ zs) q

abbrev pub segments_at : List ℕ → ℕ → ℕ → List Segment
segments_at m a zero = []
segments_at m a (suc n) = segment_at m a ∷ segments_at m (a + 4) n

pub length-segments : (segments : List Segment) → length (flat_map segment_bytes segments) ≡ 4 * length segments
length-segments [] = refl
length-segments (s ∷ segments) = omega (arith, length-append (segment_bytes s) (flat_map segment_bytes segments), length-segments segments)

segment_there : (m : List ℕ) (a : ℕ) (s : Segment) → s.selector < 2 ^ 16 → part m a 4 ≡ segment_bytes s → segment_at m a ≡ s
segment_there m a s small is =
    let selector : word16 m a ≡ s.selector = half_there m a s.selector (front_of m a 2 (two s.selector) (s.null ∷ s.level ∷ []) is) small in
    let null : byte m (a + 2) ≡ s.null = byte_there m a 4 2 (segment_bytes s) is (omega arith) in
    let level : byte m (a + 3) ≡ s.level = byte_there m a 4 3 (segment_bytes s) is (omega arith) in
    λ i. record { selector = selector i; null = null i; level = level i }

pub segments_there : (m : List ℕ) (a n : ℕ) (segments : List Segment) → AreSelectors segments → length segments ≡ n
    → part m a (4 * n) ≡ flat_map segment_bytes segments →
    segments_at m a n ≡ segments
segments_there m a zero [] small long is = refl
segments_there m a (suc n) [] small long is = absurd (omega arith)
segments_there m a zero (s ∷ segments) small long is = absurd (omega arith)
segments_there m a (suc n) (s ∷ segments) small long is =
    let count : 4 * suc n ≡ 4 + 4 * n = omega arith in
    let whole : part m a (4 + 4 * n) ≡ segment_bytes s ++ flat_map segment_bytes segments = ap (part m a) (sym count) ∙ is in
    let first = front_of m a (4 * n) (segment_bytes s) (flat_map segment_bytes segments) whole in
    let later = rest_of m a (4 * n) (segment_bytes s) (flat_map segment_bytes segments) (omega (arith, length-segments segments)) whole in
    cons (segment_there m a s (small 0) first) (segments_there m (a + 4) n segments (λ k. small (suc k)) (omega arith) later)
  where
    cons : {x y : Segment} {xs ys : List Segment} → x ≡ y → xs ≡ ys → x ∷ xs ≡ y ∷ ys
    cons {x} {y} {xs} {ys} p q = ap (λ (z : Segment). z ∷ xs) p ∙ ap (λ (zs : List Segment). y ∷ zs) q

-- ---- what is read is written

-- a list in parts of these widths
abbrev pub cut : ℕ → List ℕ → List ℕ → List (List ℕ)
cut a [] m = []
cut a (w ∷ widths) m = part m a w ∷ cut (a + w) widths m

abbrev pub total : List ℕ → ℕ
total [] = 0
total (w ∷ widths) = w + total widths

pub concat-cut : (a : ℕ) (widths : List ℕ) (m : List ℕ) → concat (cut a widths m) ≡ part m a (total widths)
unfolding part
concat-cut a [] m = refl
concat-cut a (w ∷ widths) m = ap (λ (xs : List ℕ). part m a w ++ xs) (concat-cut (a + w) widths m) ∙ part-append m a w (total widths)

pub word_again : (m : List ℕ) (a : ℕ) → AreBytes m → a + 4 ≤ length m → four (word32 m a) ≡ part m a 4
unfolding word32
word_again m a are room = le_bytes_4 (part m a 4) (word32 m a) (length-part m a 4 room) (bytes-part m a 4 are) refl

pub half_again : (m : List ℕ) (a : ℕ) → AreBytes m → a + 2 ≤ length m → two (word16 m a) ≡ part m a 2
unfolding word16
half_again m a are room = le_bytes_2 (part m a 2) (word16 m a) (length-part m a 2 room) (bytes-part m a 2 are) refl

pub double_again : (m : List ℕ) (a : ℕ) → AreBytes m → a + 8 ≤ length m → eight (double_at m a) ≡ part m a 8
double_again m a are room = le_bytes_8 (part m a 8) (double_at m a) (length-part m a 8 room) (bytes-part m a 8 are) refl

pub bytes_again : (m : List ℕ) (a : ℕ) → a + 2 ≤ length m → byte m a ∷ byte m (a + 1) ∷ [] ≡ part m a 2
unfolding byte part
bytes_again m a room =
    let first : drop a m ≡ get_or m a 0 ∷ drop (a + 1) m = drop_more m a 0 (omega arith) in
    let second : drop (a + 1) m ≡ get_or m (a + 1) 0 ∷ drop (a + 1 + 1) m = drop_more m (a + 1) 0 (omega arith) in
    sym (ap (take 2) first ∙ ap (λ (xs : List ℕ). get_or m a 0 ∷ take 1 xs) second)

pub words_again : (m : List ℕ) (a n : ℕ) → AreBytes m → a + 4 * n ≤ length m → flat_map four (words_at m a n) ≡ part m a (4 * n)
unfolding part
words_again m a zero are room = refl
words_again m a (suc n) are room =
    let count : 4 + 4 * n ≡ 4 * suc n = omega arith in
    ap (λ (xs : List ℕ). four (word32 m a) ++ xs) (words_again m (a + 4) n are (omega arith))
    ∙ ap (λ (xs : List ℕ). xs ++ part m (a + 4) (4 * n)) (word_again m a are (omega arith))
    ∙ part-append m a 4 (4 * n) ∙ ap (part m a) count

segment_again : (m : List ℕ) (a : ℕ) → AreBytes m → a + 4 ≤ length m → segment_bytes (segment_at m a) ≡ part m a 4
segment_again m a are room =
    let next : a + 2 + 1 ≡ a + 3 = omega arith in
    let bytes : byte m (a + 2) ∷ byte m (a + 3) ∷ [] ≡ part m (a + 2) 2 =
    ap (λ (k : ℕ). byte m (a + 2) ∷ byte m k ∷ []) (sym next) ∙ bytes_again m (a + 2) (omega arith) in
    ap (λ (xs : List ℕ). two (word16 m a) ++ xs) bytes
    ∙ ap (λ (xs : List ℕ). xs ++ part m (a + 2) 2) (half_again m a are (omega arith))
    ∙ part-append m a 2 2

pub segments_again : (m : List ℕ) (a n : ℕ) → AreBytes m → a + 4 * n ≤ length m
    → flat_map segment_bytes (segments_at m a n) ≡ part m a (4 * n)
unfolding part
segments_again m a zero are room = refl
segments_again m a (suc n) are room =
    let count : 4 + 4 * n ≡ 4 * suc n = omega arith in
    ap (λ (xs : List ℕ). segment_bytes (segment_at m a) ++ xs) (segments_again m (a + 4) n are (omega arith))
    ∙ ap (λ (xs : List ℕ). xs ++ part m (a + 4) (4 * n)) (segment_again m a are (omega arith))
    ∙ part-append m a 4 (4 * n) ∙ ap (part m a) count

-- ---- what is put one after the other

flat_map-one : {T : Type 0} (f : T → List ℕ) (xs : List T) (x : T) → flat_map f (xs ++ x ∷ []) ≡ flat_map f xs ++ f x
flat_map-one f [] x = append-nil (f x)
flat_map-one f (y ∷ xs) x =
    ap (λ (l : List ℕ). f y ++ l) (flat_map-one f xs x) ∙ sym (append_assoc (f y) (flat_map f xs) (f x))

-- the bytes of one more of a list, after those of the ones before it
pub put_more : {T : Type 0} (f : T → List ℕ) (xs : List T) (k : ℕ) (d : T) (initial old new bytes : List ℕ) → k < length xs →
    old ≡ initial ++ flat_map f (take k xs) → new ≡ old ++ bytes → bytes ≡ f (get_or xs k d) → new ≡ initial ++ flat_map f (take (k + 1) xs)
put_more f xs k d initial old new bytes lt so_far put is =
    let last : flat_map f (take k xs) ++ bytes ≡ flat_map f (take (k + 1) xs) =
    ap (λ (l : List ℕ). flat_map f (take k xs) ++ l) is ∙ sym (flat_map-one f (take k xs) (get_or xs k d))
    ∙ ap (flat_map f) (sym (take_more xs k d lt)) in
    put ∙ ap (λ (l : List ℕ). l ++ bytes) so_far ∙ append_assoc initial (flat_map f (take k xs)) bytes
    ∙ ap (λ (l : List ℕ). initial ++ l) last

pub front_put : (old m f s r a b c d : List ℕ) → a ≡ old ++ m → b ≡ a ++ (f ++ []) → c ≡ b ++ s → d ≡ c ++ r → d ≡ old
    ++ (m ++ (f ++ (s ++ (r ++ []))))
front_put old m f s r a b c d a_is b_is c_is d_is =
    d_is ∙ ap (λ (x : List ℕ). x ++ r) (c_is ∙ ap (λ (x : List ℕ). x ++ s) (b_is ∙ ap (λ (x : List ℕ). x ++ (f ++ [])) a_is))
    ∙ simp (append_assoc, append-nil)
